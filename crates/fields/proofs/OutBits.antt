-- Bits of a word set at once.
--     ones_set    by a mask
--     stretch     out bits of blocks that follow one another, in one word: all 0, or all 1 (bits_set)
use Rattle.facts.proofs.Prelude.{ℕ, zero, suc, ◌+◌, ◌-◌, ◌*◌, ◌/◌, ◌%◌, ◌^◌, ◌≤◌, ◌<◌, arith, mod-one, mod-eq_of_lt}
use Rattle.facts.proofs.Prelude.{List, ◌≡◌, refl, sym, ap, ◌∙◌, length, get_or, set, get_or-set_same, set-get_or, set-set}
use lib.Bits.{bit_and, bit_or, or_add_and, and_high}
use lib.Pow.{pow_pos, pow-add, ones_lt, high_ones, shl_exact}
use Rattle.fields.specs.Field.{bits, place, out, put}
use Rattle.fields.specs.way.OutBits.{set_out_run, out_word, outs_at}
use Rattle.fields.proofs.Parts.{read-le, place-next}

-- ---- by a mask
over : (o a w m r : ℕ) → o + a ≡ w + m → a ≡ r → r ≤ w → o ≡ w - r + m
over o a w m r e f h = omega arith

ones_place : (w s n : ℕ) → bit_or w ((2 ^ n - 1) * 2 ^ s) ≡ place (bits s n) w (2 ^ n - 1)
ones_place w s n =
    let m : (2 ^ n - 1) % 2 ^ n ≡ 2 ^ n - 1 = mod-eq_of_lt (ones_lt n) in
    let a : bit_and w ((2 ^ n - 1) * 2 ^ s) ≡ w / 2 ^ s % 2 ^ n * 2 ^ s = ap (bit_and w) (sym (high_ones n s)) ∙ and_high w n s in
    rw m (over (bit_or w ((2 ^ n - 1) * 2 ^ s)) (bit_and w ((2 ^ n - 1) * 2 ^ s)) w ((2 ^ n - 1) * 2 ^ s) (w / 2 ^ s % 2 ^ n * 2 ^ s) (or_add_and w ((2 ^ n - 1) * 2 ^ s)) a (read-le s n w 0))

pub ones_set : (w s n o : ℕ) → o ≡ 2 ^ n - 1 → s + n ≤ 32 → bit_or w (o * 2 ^ s % 2 ^ 32) ≡ place (bits s n) w (2 ^ n - 1)
ones_set w s n o e h = rw e (ap (bit_or w) (shl_exact n s 32 (ones_lt n) (omega arith)) ∙ ones_place w s n)

ones_more : (k : ℕ) → 2 ^ suc k - 1 ≡ 1 * 2 ^ k + (2 ^ k - 1)
ones_more k = let e : suc k ≡ 1 + k = omega arith in rw e (omega (arith, pow-add 2 1 k, pow_pos k))

-- ---- out bits of blocks that follow one another: those of blocks 32 j to 32 j + 31 are one word
module _ (p j : ℕ) where
  bit : (s i v : ℕ) (b : List ℕ) → i ≡ 32 * j + s → s < 32 → put b (out p i) v ≡ set b (out_word p j) (place (bits s 1) (outs_at b p j) v)
  unfolding put
  bit s i v b e h =
      let d : i / 32 ≡ j = omega arith in
      let m : i % 32 ≡ s = omega arith in
      rw (d, m)

  -- R k is the book after k of them, from block i on, became d; value k is the number of k bits d
  module _ (d : ℕ) (value : ℕ → ℕ) (small : (k : ℕ) → value k < 2 ^ k) (more : (k : ℕ) → value (suc k) ≡ d * 2 ^ k + value k) (s i : ℕ) (at : i ≡ 32 * j + s)
      (R : ℕ → List ℕ) (next : (k : ℕ) → R (suc k) ≡ put (R k) (out p (i + k)) d) (there : out_word p j < length (R 0)) where
    pub stretch : (n : ℕ) → s + n ≤ 32 → R n ≡ set (R 0) (out_word p j) (place (bits s n) (outs_at (R 0) p j) (value n))
    stretch zero h =
        let none : place (bits s 0) (outs_at (R 0) p j) (value 0) ≡ outs_at (R 0) p j = rw (mod-one (outs_at (R 0) p j / 2 ^ s), mod-one (value 0)) (omega arith) in
        sym (ap (set (R 0) (out_word p j)) none ∙ set-get_or (R 0) (out_word p j) 0)
    stretch (suc n) h =
        let x = out_word p j in
        let w = outs_at (R 0) p j in
        let v = place (bits s n) w (value n) in
        let z : 1 + n ≡ suc n = omega arith in
        next n
        ∙ ap (λ b. put b (out p (i + n)) d) (stretch n (omega arith))
        ∙ bit (s + n) (i + n) d (set (R 0) x v) (omega arith) (omega arith)
        ∙ set-set (R 0) x v _
        ∙ ap (set (R 0) x)
        (ap (λ y. place (bits (s + n) 1) y d) (get_or-set_same (R 0) x v 0 there) ∙ place-next s n 1 w (value n) d (small n) ∙ rw (z, more n))

  pub bits_set : (s n a r : ℕ) (b b' : List ℕ) → s + n ≤ 32 → a ≡ 40000 + 4112 * p + (16 + j) → 40016 + 4112 * p + j < length b
      → r ≡ place (bits s n) (get_or b a 0) (2 ^ n - 1) → b' ≡ set b a r → b' ≡ set_out_run b p (32 * j + s) n
  unfolding set_out_run
  bits_set s n a r b b' h e l f g =
      let e' : a ≡ 40016 + 4112 * p + j = omega arith in
      g ∙ ap (set b a) f ∙ ap (λ x. set b x (place (bits s n) (get_or b x 0) (2 ^ n - 1))) e' ∙ sym (stretch 1 (λ k. 2 ^ k - 1) ones_lt ones_more s (32 * j + s) refl (set_out_run b p (32 * j + s)) (λ k. refl) l n h)
