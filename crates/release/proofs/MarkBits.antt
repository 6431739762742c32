-- Blocks of one word of marks, marked at once.
--     bits-idle ..           the ways out of `mark_bits`
--     one_bit, fresh_at      of one block
--     splits                 n + 1 of them: one first, and the others
use Rattle.facts.proofs.Prelude.{ℕ, zero, suc, ◌+◌, ◌-◌, ◌*◌, ◌/◌, ◌%◌, ◌^◌, ◌≤◌, ◌<◌, arith, le_refl, mod-eq_of_lt, eq_of_mul-eq-mul_right}
use Rattle.facts.proofs.Prelude.{mul-le-mul_right, Bool, true, false, not, ◌&&◌, List, ◌≡◌, refl, sym, ap, ◌∙◌, eqb, length, get_or, set}
use Rattle.facts.proofs.Prelude.{get_or-set_same, get_or-set_other, set-set, eq-eqb, ne_eqb, eqb-true, and_left, and_right}
use native.Mathlib.Decide.{ℕ_discrete}
use lib.Bits.{bit_and, and_high}
use Rattle.std.proofs.Common.{pow_pos, pow-add, shr-shr}
use lib.Pow.{ones_lt, high_ones, mod-pow-add}
use Rattle.fields.specs.Field.{bits, mark, read, place, get, put}
use Rattle.fields.proofs.Parts.{Split, below, above, read-le, read_small, read-place_other, place-comm}
use Rattle.fields.specs.way.OutBits.{out_word, outs_at}
use Rattle.release.specs.way.Marks.{set_mark, fresh_at, fresh_bits, set_bits}
use Rattle.release.specs.way.MarkPre.{MarkedBits, MarkedBlock}

-- ---- the mask
module _ (s n m : ℕ) (e : m ≡ place (bits s n) 0 (2 ^ n - 1)) where
  mask_is : m ≡ (2 ^ n - 1) * 2 ^ s
  mask_is = e ∙ rw (mod-eq_of_lt (ones_lt n)) (omega arith)

  masked : (w : ℕ) → bit_and w m ≡ read (bits s n) w * 2 ^ s
  masked w = ap (bit_and w) (mask_is ∙ sym (high_ones n s)) ∙ and_high w n s

  all_of : (w : ℕ) → bit_and w m ≡ m → read (bits s n) w ≡ 2 ^ n - 1
  all_of w h = eq_of_mul-eq-mul_right (2 ^ s) (pow_pos s) _ _ (sym (masked w) ∙ h ∙ mask_is)

  not-all : (w : ℕ) → (bit_and w m ≡ m → ⊥) → read (bits s n) w ≡ 2 ^ n - 1 → ⊥
  not-all w d h = d (masked w ∙ ap (λ t. t * 2 ^ s) h ∙ sym mask_is)

  none_of : (w : ℕ) → bit_and w m ≡ 0 → read (bits s n) w ≡ 0
  none_of w h = let z : 0 ≡ 0 * 2 ^ s = omega arith in eq_of_mul-eq-mul_right (2 ^ s) (pow_pos s) _ _ (sym (masked w) ∙ h ∙ z)

  not_none : (w : ℕ) → (bit_and w m ≡ 0 → ⊥) → read (bits s n) w ≡ 0 → ⊥
  not_none w d h = let z : 0 * 2 ^ s ≡ 0 = omega arith in d (masked w ∙ ap (λ t. t * 2 ^ s) h ∙ z)

-- ---- the ways out
module _ (b : List ℕ) (q j s n m : ℕ) (e : m ≡ place (bits s n) 0 (2 ^ n - 1)) (outs : ℕ) (a : outs ≡ outs_at b q j) where
  pub bits-idle : (bit_and outs m ≡ m → ⊥) → MarkedBits false b b q j s n
  bits-idle d =
      let z : read (bits s n) (outs_at b q j) ≡ 2 ^ n - 1 → ⊥ = λ u. not-all s n m e outs d (ap (read (bits s n)) a ∙ u) in
      let y : fresh_bits b q j s n ≡ false = rw (ne_eqb _ _ z) in
      record { answer = sym y; left = rw y }

  module _ (o : bit_and outs m ≡ m) (marks : ℕ) (k : marks ≡ get b (mark q j)) where
    outs-all : eqb (read (bits s n) (outs_at b q j)) (2 ^ n - 1) ≡ true
    outs-all = eq-eqb _ _ (ap (read (bits s n)) (sym a) ∙ all_of s n m e outs o)

    pub bits-marked : (bit_and marks m ≡ 0 → ⊥) → MarkedBits false b b q j s n
    bits-marked d =
        let z : read (bits s n) (get b (mark q j)) ≡ 0 → ⊥ = λ u. not_none s n m e marks d (ap (read (bits s n)) k ∙ u) in
        let y : fresh_bits b q j s n ≡ false = rw (outs-all, ne_eqb _ _ z) in
        record { answer = sym y; left = rw y }

    pub bits-set : bit_and marks m ≡ 0 → (v : ℕ) → v ≡ place (bits s n) marks (2 ^ n - 1) → (b' : List ℕ) → b' ≡ put b (mark q j) v → MarkedBits true b' b q j s n
    bits-set h v f b' g =
        let z : eqb (read (bits s n) (get b (mark q j))) 0 ≡ true = eq-eqb _ _ (ap (read (bits s n)) (sym k) ∙ none_of s n m e marks h) in
        let y : fresh_bits b q j s n ≡ true = rw (outs-all, z) in
        record { answer = sym y; left = rw y (g ∙ ap (put b (mark q j)) (f ∙ ap (λ x. place (bits s n) x (2 ^ n - 1)) k)) }

-- ---- one block
bit-none : (m : ℕ) → m < 2 → eqb m 0 ≡ not (eqb m 1)
bit-none m h =
    elim (ℕ_discrete m 1) [
      | yes e ↦ rw e
      | no d ↦ let z : m ≡ 0 = omega (arith, d) in rw z
    ]

fresh-bit : (b : List ℕ) (q i : ℕ) → fresh_bits b q (i / 32) (i % 32) 1 ≡ fresh_at b q i
unfolding get
fresh-bit b q i = ap (λ t. eqb (read (bits (i % 32) 1) (get_or b (out_word q (i / 32)) 0)) 1 && t) (bit-none _ (read_small (i % 32) 1 (get_or b (40144 + 4112 * q + i / 32) 0)))

pub one_bit : (b : List ℕ) (q i : ℕ) (r : Bool) (b' : List ℕ) → MarkedBits r b' b q (i / 32) (i % 32) 1 → MarkedBlock r b' b q i
one_bit b q i r b' o = record { answer = o.answer ∙ fresh-bit b q i; left = rw fresh-bit at o.left }

module _ (b : List ℕ) (q i j s : ℕ) (e : i ≡ 32 * j + s) (h : s < 32) where
  word_of-it : i / 32 ≡ j
  word_of-it = omega arith

  bit_of-it : i % 32 ≡ s
  bit_of-it = omega arith

  pub fresh_at_lem : fresh_at b q i ≡ fresh_bits b q j s 1
  fresh_at_lem = sym (fresh-bit b q i) ∙ rw (word_of-it, bit_of-it)

  pub set-at : set_mark b q i ≡ set_bits b q j s 1
  set-at = rw (word_of-it, bit_of-it)

-- ---- c bits above a others
ones_apart : (c a p r : ℕ) → a < p → c < r → c * p + a ≡ r * p - 1 → (c ≡ r - 1) × (a ≡ p - 1)
ones_apart c a p r l h e =
    elim (ℕ_discrete (c + 1) r) [
      | yes z ↦ let k : r * p ≡ c * p + p = ap (λ x. x * p) (sym z) ∙ omega arith in (omega arith, omega arith)
      | no z ↦ let k : (c + 2) * p ≤ r * p = mul-le-mul_right p (omega (arith, z)) in absurd (omega arith)
    ]

none_apart : (c a p : ℕ) → 0 < p → c * p + a ≡ 0 → (c ≡ 0) × (a ≡ 0)
none_apart zero a p h e = (refl, omega arith)
none_apart (suc c) a p h e = absurd (omega arith)

ones_product : (p r u v : ℕ) → p ≡ u + 1 → r ≡ v + 1 → r * p - 1 ≡ u * v + u + v
ones_product p r u v d e = rw (d, e) (omega arith)

set-sums : (w x p y a c u v t : ℕ) → p ≡ u + 1 → y ≡ x * p → t ≡ u * v + u + v → (c * p + a) * x ≤ w → w - a * x + u * x - c * y + v * y ≡ w - (c * p + a) * x + t * x
set-sums w x p y a c u v t d e f h = let l : (c * (u + 1) + a) * x ≤ w = rw d at h in rw (e, f, d) (omega arith)

module _ (s m c a w : ℕ) (e : m ≡ c + a) where
  parts : w / 2 ^ s % 2 ^ m ≡ w / 2 ^ (s + a) % 2 ^ c * 2 ^ a + w / 2 ^ s % 2 ^ a
  parts = ap (λ k. w / 2 ^ s % 2 ^ k) e ∙ mod-pow-add (w / 2 ^ s) c a ∙ rw shr-shr

  all-is : 2 ^ m - 1 ≡ 2 ^ c * 2 ^ a - 1
  all-is = ap (λ k. 2 ^ k - 1) e ∙ ap (λ k. k - 1) (pow-add 2 c a)

  ones_in : w / 2 ^ s % 2 ^ m ≡ 2 ^ m - 1 → (w / 2 ^ (s + a) % 2 ^ c ≡ 2 ^ c - 1) × (w / 2 ^ s % 2 ^ a ≡ 2 ^ a - 1)
  ones_in h = ones_apart _ _ (2 ^ a) (2 ^ c) (read_small s a w) (read_small (s + a) c w) (sym parts ∙ h ∙ all-is)

  none_in : w / 2 ^ s % 2 ^ m ≡ 0 → (w / 2 ^ (s + a) % 2 ^ c ≡ 0) × (w / 2 ^ s % 2 ^ a ≡ 0)
  none_in h = none_apart _ _ (2 ^ a) (pow_pos a) (sym parts ∙ h)

  low_first : place (bits (s + a) c) (place (bits s a) w (2 ^ a - 1)) (2 ^ c - 1) ≡ place (bits s m) w (2 ^ m - 1)
  low_first =
      let k : place (bits s a) w (2 ^ a - 1) / 2 ^ (s + a) % 2 ^ c ≡ w / 2 ^ (s + a) % 2 ^ c = read-place_other w (2 ^ a - 1) (below (le_refl (s + a))) in
      let l : (w / 2 ^ (s + a) % 2 ^ c * 2 ^ a + w / 2 ^ s % 2 ^ a) * 2 ^ s ≤ w = rw (← parts) (read-le s m w 0) in
      let z : 2 ^ a ≡ 2 ^ a - 1 + 1 = omega (arith, pow_pos a) in
      let y : 2 ^ c ≡ 2 ^ c - 1 + 1 = omega (arith, pow_pos c) in
      rw (k, parts, mod-eq_of_lt (ones_lt a), mod-eq_of_lt (ones_lt c), mod-eq_of_lt (ones_lt m))
      (set-sums w (2 ^ s) (2 ^ a) (2 ^ (s + a)) (w / 2 ^ s % 2 ^ a) (w / 2 ^ (s + a) % 2 ^ c) (2 ^ a - 1) (2 ^ c - 1) (2 ^ m - 1) z (pow-add 2 s a) (all-is ∙ ones_product (2 ^ a) (2 ^ c) (2 ^ a - 1) (2 ^ c - 1) z y) l)

  high-first : place (bits s a) (place (bits (s + a) c) w (2 ^ c - 1)) (2 ^ a - 1) ≡ place (bits s m) w (2 ^ m - 1)
  high-first = place-comm w (2 ^ c - 1) (2 ^ a - 1) (above {n = c} (le_refl (s + a))) ∙ low_first

-- ---- the same in the book: of n + 1 bits from s on one comes first, the lowest upwards and the highest downwards; where the others begin
abbrev pub first_bit : Bool → ℕ → ℕ → ℕ
first_bit true s n = s
first_bit false s n = s + n

abbrev pub others : Bool → ℕ → ℕ
others true s = s + 1
others false s = s

pub record Splits (b : List ℕ) (q j s n t m : ℕ) : Type 0 where
  pub first : fresh_bits b q j t 1 ≡ true
  pub rest : fresh_bits (set_bits b q j t 1) q j m n ≡ true
  pub both : set_bits (set_bits b q j t 1) q j m n ≡ set_bits b q j s (suc n)

module _ (b : List ℕ) (q j : ℕ) (l : 40144 + 4112 * q + j < length b) where
  marks_then : (t : ℕ) → get (set_bits b q j t 1) (mark q j) ≡ place (bits t 1) (get b (mark q j)) 1
  unfolding get put
  marks_then t = get_or-set_same b (40144 + 4112 * q + j) _ 0 l

  outs_then : (t : ℕ) → get_or (set_bits b q j t 1) (out_word q j) 0 ≡ get_or b (out_word q j) 0
  unfolding put
  outs_then t = get_or-set_other b (40144 + 4112 * q + j) (out_word q j) _ 0 (λ z. omega arith)

  set-again : (t m n : ℕ) → set_bits (set_bits b q j t 1) q j m n ≡ put b (mark q j) (place (bits m n) (place (bits t 1) (get b (mark q j)) 1) (2 ^ n - 1))
  unfolding put
  set-again t m n = set-set b (40144 + 4112 * q + j) _ _ ∙ ap (λ x. set b (40144 + 4112 * q + j) (place (bits m n) x (2 ^ n - 1))) (marks_then t)

  fresh-is : (b' : List ℕ) (m n : ℕ) → read (bits m n) (get_or b' (out_word q j) 0) ≡ 2 ^ n - 1 → read (bits m n) (get b' (mark q j)) ≡ 0 → fresh_bits b' q j m n ≡ true
  fresh-is b' m n o z = rw (eq-eqb _ _ o, eq-eqb _ _ z)

  module _ (s n : ℕ) (f : fresh_bits b q j s (suc n) ≡ true) where
    outs_ones : read (bits s (suc n)) (get_or b (out_word q j) 0) ≡ 2 ^ suc n - 1
    outs_ones = eqb-true _ _ (and_left _ (eqb (read (bits s (suc n)) (get b (mark q j))) 0) f)

    marks-none : read (bits s (suc n)) (get b (mark q j)) ≡ 0
    marks-none = eqb-true _ _ (and_right (eqb (read (bits s (suc n)) (get_or b (out_word q j) 0)) (2 ^ suc n - 1)) _ f)

    split : (t m : ℕ) → Split (bits t 1) (bits m n) → read (bits t 1) (get_or b (out_word q j) 0) ≡ 1 → read (bits m n) (get_or b (out_word q j) 0) ≡ 2 ^ n - 1
        → read (bits t 1) (get b (mark q j)) ≡ 0 → read (bits m n) (get b (mark q j)) ≡ 0
        → place (bits m n) (place (bits t 1) (get b (mark q j)) 1) (2 ^ n - 1) ≡ place (bits s (suc n)) (get b (mark q j)) (2 ^ suc n - 1) → Splits b q j s n t m
    split t m d o p z y e =
        record {
          first = fresh-is b t 1 o z;
          rest = fresh-is (set_bits b q j t 1) m n (ap (read (bits m n)) (outs_then t) ∙ p) (ap (read (bits m n)) (marks_then t) ∙ read-place_other (get b (mark q j)) 1 d ∙ y);
          both = set-again t m n ∙ ap (put b (mark q j)) e;
        }

    pub splits : (up : Bool) → Splits b q j s n (first_bit up s n) (others up s)
    splits true =
        let e : suc n ≡ n + 1 = omega arith in
        let o = ones_in s (suc n) n 1 (get_or b (out_word q j) 0) e outs_ones in
        let z = none_in s (suc n) n 1 (get b (mark q j)) e marks-none in
        split s (s + 1) (below (le_refl (s + 1))) o.1 o.0 z.1 z.0 (low_first s (suc n) n 1 (get b (mark q j)) e)
    splits false =
        let e : suc n ≡ 1 + n = omega arith in
        let o = ones_in s (suc n) 1 n (get_or b (out_word q j) 0) e outs_ones in
        let z = none_in s (suc n) 1 n (get b (mark q j)) e marks-none in
        split (s + n) s (above {n = 1} (le_refl (s + n))) o.0 o.1 z.0 z.1 (high-first s (suc n) 1 n (get b (mark q j)) e)
