-- The marks of a run taken away a word at a time: each marked block's out bit is cleared.
--     word-taken      in one word
--     takes-marked    a block marked before: its out bit is cleared, and nothing else is changed
--     out-past ..     a block of another page: nothing of it is read or changed
use Rattle.facts.proofs.Prelude.{ℕ, zero, suc, ◌+◌, ◌*◌, ◌/◌, ◌%◌, ◌^◌, ◌≤◌, ◌<◌, arith, mod-lt, List, ◌≢◌, ◌≡◌, refl}
use Rattle.facts.proofs.Prelude.{sym, ap, ◌∙◌, length, get_or, set, length-set, get_or-set_same, get_or-set_other, set-set, set_comm}
use native.Mathlib.Decide.{ℕ_discrete}
use lib.Bits.{bit_xor, xor_block, xor_lt, xor_zero_r, xor_self}
use Rattle.std.proofs.Common.{pow_pos}
use lib.Pow.{split, high, low}
use Rattle.fields.specs.Field.{bits, place, out, mark, get, put}
use Rattle.fields.specs.way.OutBits.{out_word}
use Rattle.release.specs.way.Marks.{mark_at, set_mark, take_word, take_marks}

-- ---- one word
module _ (s h g x y : ℕ) (l : x < 2 ^ s) (k : y < 2 ^ s) where
  xor_one : bit_xor ((h * 2 ^ 1 + 1) * 2 ^ s + x) ((g * 2 ^ 1 + 0) * 2 ^ s + y) ≡ (bit_xor h g * 2 ^ 1 + 1) * 2 ^ s + bit_xor x y
  xor_one =
      let one : 1 < 2 ^ 1 = omega arith in
      let none : 0 < 2 ^ 1 = omega arith in
      xor_block s (h * 2 ^ 1 + 1) (g * 2 ^ 1 + 0) x y l k ∙ ap (λ t. t * 2 ^ s + bit_xor x y) (xor_block 1 h g 1 0 one none ∙ ap (λ t. bit_xor h g * 2 ^ 1 + t) (xor_zero_r 1))

  xor_two : bit_xor ((h * 2 ^ 1 + 1) * 2 ^ s + x) ((g * 2 ^ 1 + 1) * 2 ^ s + y) ≡ (bit_xor h g * 2 ^ 1 + 0) * 2 ^ s + bit_xor x y
  xor_two =
      let one : 1 < 2 ^ 1 = omega arith in
      xor_block s (h * 2 ^ 1 + 1) (g * 2 ^ 1 + 1) x y l k ∙ ap (λ t. t * 2 ^ s + bit_xor x y) (xor_block 1 h g 1 1 one one ∙ ap (λ t. bit_xor h g * 2 ^ 1 + t) (xor_self 1))

parts : (s w t : ℕ) → w / 2 ^ s % 2 ^ 1 ≡ t → w ≡ (w / 2 ^ s / 2 ^ 1 * 2 ^ 1 + t) * 2 ^ s + w % 2 ^ s
parts s w t e = sym (split w s) ∙ ap (λ z. z * 2 ^ s + w % 2 ^ s) (sym (split (w / 2 ^ s) 1) ∙ ap (λ z. w / 2 ^ s / 2 ^ 1 * 2 ^ 1 + z) e)

-- a set bit taken out of a word
struck : (s d l : ℕ) → l < 2 ^ s → place (bits s 1) ((d * 2 ^ 1 + 1) * 2 ^ s + l) 0 ≡ (d * 2 ^ 1 + 0) * 2 ^ s + l
struck s d l h =
    let one : 1 < 2 ^ 1 = omega arith in
    let e : ((d * 2 ^ 1 + 1) * 2 ^ s + l) / 2 ^ s % 2 ^ 1 ≡ 1 = ap (λ z. z % 2 ^ 1) (high (d * 2 ^ 1 + 1) s h) ∙ low d 1 one in
    rw e (omega arith)

pub word-taken : (s o m : ℕ) → o / 2 ^ s % 2 ^ 1 ≡ 1 → m / 2 ^ s % 2 ^ 1 ≡ 0 → bit_xor o (place (bits s 1) m 1) ≡ place (bits s 1) (bit_xor o m) 0
word-taken s o m e f =
    let h = o / 2 ^ s / 2 ^ 1 in
    let g = m / 2 ^ s / 2 ^ 1 in
    let x = o % 2 ^ s in
    let y = m % 2 ^ s in
    let lx : x < 2 ^ s = mod-lt o (pow_pos s) in
    let ly : y < 2 ^ s = mod-lt m (pow_pos s) in
    let eo : o ≡ (h * 2 ^ 1 + 1) * 2 ^ s + x = parts s o 1 e in
    let em : m ≡ (g * 2 ^ 1 + 0) * 2 ^ s + y = parts s m 0 f in
    let ep : place (bits s 1) m 1 ≡ (g * 2 ^ 1 + 1) * 2 ^ s + y = rw f (omega (arith, em)) in
    let a : bit_xor o (place (bits s 1) m 1) ≡ (bit_xor h g * 2 ^ 1 + 0) * 2 ^ s + bit_xor x y = ap (λ z. bit_xor z (place (bits s 1) m 1)) eo ∙ ap (bit_xor ((h * 2 ^ 1 + 1) * 2 ^ s + x)) ep ∙ xor_two s h g x y lx ly in
    let b : bit_xor o m ≡ (bit_xor h g * 2 ^ 1 + 1) * 2 ^ s + bit_xor x y = ap (λ z. bit_xor z m) eo ∙ ap (bit_xor ((h * 2 ^ 1 + 1) * 2 ^ s + x)) em ∙ xor_one s h g x y lx ly in
    a ∙ sym (ap (λ z. place (bits s 1) z 0) b ∙ struck s (bit_xor h g) (bit_xor x y) (xor_lt s x y lx ly))

-- ---- the words of one run; a word of out bits and a word of marks lie apart
module _ (q : ℕ) where
  abbrev mark_word : ℕ → ℕ
  mark_word j = 40144 + 4112 * q + j

  abbrev taken : List ℕ → ℕ → ℕ → ℕ → List ℕ
  taken b j o m = set (set b (out_word q j) o) (mark_word j) m

  take-is : (b : List ℕ) (j : ℕ) → take_word b q j ≡ taken b j (bit_xor (get_or b (out_word q j) 0) (get_or b (mark_word j) 0)) 0
  unfolding take_word get put
  take-is b j = refl

  -- the word of the block itself
  take-one : (b : List ℕ) (i : ℕ) → i < 4096 → 40144 + 4112 * q + 128 ≤ length b → get b (out q i) ≡ 1 → mark_at b q i ≡ 0
      → take_word (set_mark b q i) q (i / 32) ≡ put (take_word b q (i / 32)) (out q i) 0
  unfolding take_word get put
  take-one b i h l e f =
      let j = i / 32 in
      let s = i % 32 in
      let x = out_word q j in
      let y = mark_word j in
      let o = get_or b x 0 in
      let m = get_or b y 0 in
      let p = place (bits s 1) m 1 in
      let v = bit_xor o m in
      let d : x ≢ y = λ z. omega arith in
      let d' : y ≢ x = λ z. omega arith in
      let lx : x < length b = omega arith in
      let ly : y < length b = omega arith in
      let a : get_or (set b y p) x 0 ≡ o = get_or-set_other b y x p 0 d in
      let c : get_or (set b y p) y 0 ≡ p = get_or-set_same b y p 0 ly in
      let g : get_or (set (set b x v) y 0) x 0 ≡ v = get_or-set_other (set b x v) y x 0 0 d ∙ get_or-set_same b x v 0 lx in
      let w : bit_xor o p ≡ place (bits s 1) v 0 = word-taken s o m e f in
      rw (a, c, g, w)
      (ap (λ z. set z y 0) (set_comm b y x p (place (bits s 1) v 0) d') ∙ set-set (set b x (place (bits s 1) v 0)) y p 0
      ∙ sym (set_comm (set b x v) y x 0 (place (bits s 1) v 0) d' ∙ ap (λ z. set z y 0) (set-set b x v (place (bits s 1) v 0))))

  take_at : (b : List ℕ) (i j : ℕ) → i / 32 ≡ j → i < 4096 → 40144 + 4112 * q + 128 ≤ length b → get b (out q i) ≡ 1 → mark_at b q i ≡ 0
      → take_word (set_mark b q i) q j ≡ put (take_word b q j) (out q i) 0
  take_at b i j z h l e f = rw (← z) (take-one b i h l e f)

  -- a word elsewhere
  take-set : (b : List ℕ) (j t v : ℕ) → t ≢ out_word q j → t ≢ mark_word j → take_word (set b t v) q j ≡ set (take_word b q j) t v
  unfolding take_word get put
  take-set b j t v tx ty =
      let x = out_word q j in
      let y = mark_word j in
      let u = bit_xor (get_or b x 0) (get_or b y 0) in
      let a : get_or (set b t v) x 0 ≡ get_or b x 0 = get_or-set_other b t x v 0 (λ z. tx (sym z)) in
      let c : get_or (set b t v) y 0 ≡ get_or b y 0 = get_or-set_other b t y v 0 (λ z. ty (sym z)) in
      rw (a, c) (ap (λ z. set z y 0) (set_comm b t x v u tx) ∙ set_comm (set b x u) t y v 0 ty)

  read-other : (b : List ℕ) (j a : ℕ) → a ≢ out_word q j → a ≢ mark_word j → get_or (take_word b q j) a 0 ≡ get_or b a 0
  unfolding take_word get put
  read-other b j a x y = get_or-set_other (set b (out_word q j) _) (mark_word j) a 0 0 y ∙ get_or-set_other b (out_word q j) a _ 0 x

  take-other : (b : List ℕ) (i j : ℕ) → i < 4096 → j < 128 → (i / 32 ≡ j → ⊥) → take_word (put b (out q i) 0) q j ≡ put (take_word b q j) (out q i) 0
  unfolding put
  take-other b i j h k n =
      let t = out_word q (i / 32) in
      let x : t ≢ out_word q j = λ z. n (omega arith) in
      let y : t ≢ mark_word j = λ z. omega arith in
      take-set b j t _ x y ∙ ap (λ o. set (take_word b q j) t (place (bits (i % 32) 1) o 0)) (sym (read-other b j t x y))

  take-later : (b : List ℕ) (i j v : ℕ) → i < 128 → j < 128 → (i ≡ j → ⊥) → take_word (put b (mark q i) v) q j ≡ put (take_word b q j) (mark q i) v
  unfolding put
  take-later b i j v h k n = take-set b j (mark_word i) v (λ z. omega arith) (λ z. n (omega arith))

  length-take : (b : List ℕ) (j : ℕ) → length (take_word b q j) ≡ length b
  unfolding take_word put
  length-take b j = simp length-set

  -- ---- the first m words
  pub lengths : (m : ℕ) (b : List ℕ) → length (take_marks b q m) ≡ length b
  unfolding take_marks
  lengths zero b = refl
  lengths (suc m) b = length-take (take_marks b q m) m ∙ lengths m b

  later : (m : ℕ) (b : List ℕ) (i v : ℕ) → m ≤ i → i < 128 → take_marks (put b (mark q i) v) q m ≡ put (take_marks b q m) (mark q i) v
  unfolding take_marks
  later zero b i v h l = refl
  later (suc m) b i v h l = ap (λ z. take_word z q m) (later m b i v (omega arith) l) ∙ take-later (take_marks b q m) i m v l (omega arith) (λ z. omega arith)

  read_out : (m : ℕ) (b : List ℕ) (j : ℕ) → m ≤ j → j < 128 → get_or (take_marks b q m) (out_word q j) 0 ≡ get_or b (out_word q j) 0
  unfolding take_marks
  read_out zero b j h l = refl
  read_out (suc m) b j h l = read-other (take_marks b q m) m (out_word q j) (λ z. omega arith) (λ z. omega arith) ∙ read_out m b j (omega arith) l

  read-mark : (m : ℕ) (b : List ℕ) (j : ℕ) → m ≤ j → j < 128 → get_or (take_marks b q m) (mark_word j) 0 ≡ get_or b (mark_word j) 0
  unfolding take_marks
  read-mark zero b j h l = refl
  read-mark (suc m) b j h l = read-other (take_marks b q m) m (mark_word j) (λ z. omega arith) (λ z. omega arith) ∙ read-mark m b j (omega arith) l

  module _ (m : ℕ) (b : List ℕ) (i : ℕ) (h : i < 4096) (k : m ≤ i / 32) where
    out-same : get (take_marks b q m) (out q i) ≡ get b (out q i)
    unfolding get
    out-same = ap (λ w. w / 2 ^ (i % 32) % 2 ^ 1) (read_out m b (i / 32) k (omega arith))

    word_same : get (take_marks b q m) (mark q (i / 32)) ≡ get b (mark q (i / 32))
    unfolding get
    word_same = read-mark m b (i / 32) k (omega arith)

    mark-same : mark_at (take_marks b q m) q i ≡ mark_at b q i
    mark-same = ap (λ w. w / 2 ^ (i % 32) % 2 ^ 1) word_same

    mark-later : take_marks (set_mark b q i) q m ≡ set_mark (take_marks b q m) q i
    mark-later = later m b (i / 32) _ k (omega arith) ∙ ap (λ w. put (take_marks b q m) (mark q (i / 32)) (place (bits (i % 32) 1) w 1)) (sym word_same)

  pub takes-marked : (m : ℕ) (b : List ℕ) (i : ℕ) → i < 4096 → m ≤ 128 → i / 32 < m → 40144 + 4112 * q + 128 ≤ length b → get b (out q i) ≡ 1 → mark_at b q i ≡ 0
      → take_marks (set_mark b q i) q m ≡ put (take_marks b q m) (out q i) 0
  unfolding take_marks
  takes-marked zero b i h n k l e u = absurd (omega arith)
  takes-marked (suc m) b i h n k l e u =
      elim (ℕ_discrete (i / 32) (m)) [
        | yes z ↦
            let g : m ≤ i / 32 = omega arith in
            ap (λ d. take_word d q m) (mark-later m b i h g)
            ∙ take_at (take_marks b q m) i m z h (rw (lengths m b) l) (out-same m b i h g ∙ e) (mark-same m b i h g ∙ u)
        | no z ↦ ap (λ d. take_word d q m) (takes-marked m b i h (omega arith) (omega arith) l e u) ∙ take-other (take_marks b q m) i m h (omega arith) z
      ]

  -- ---- the blocks of another page
  module _ (p : ℕ) (d : p ≢ q) where
    abbrev Away : ℕ → Type 0
    Away t = (j : ℕ) → j < 128 → (t ≢ out_word q j) × (t ≢ mark_word j)

    away-set : (m : ℕ) (b : List ℕ) (t v : ℕ) → m ≤ 128 → Away t → take_marks (set b t v) q m ≡ set (take_marks b q m) t v
    unfolding take_marks
    away-set zero b t v h a = refl
    away-set (suc m) b t v h a = let z = a m (omega arith) in ap (λ z. take_word z q m) (away-set m b t v (omega arith) a) ∙ take-set (take_marks b q m) m t v z.0 z.1

    away-read : (m : ℕ) (b : List ℕ) (t : ℕ) → m ≤ 128 → Away t → get_or (take_marks b q m) t 0 ≡ get_or b t 0
    unfolding take_marks
    away-read zero b t h a = refl
    away-read (suc m) b t h a = let z = a m (omega arith) in read-other (take_marks b q m) m t z.0 z.1 ∙ away-read m b t (omega arith) a

    module _ (m : ℕ) (few : m ≤ 128) (b : List ℕ) (i : ℕ) (h : i < 4096) where
      out-away : Away (out_word p (i / 32))
      out-away j l = ((λ z. d (omega arith)), (λ z. d (omega arith)))

      mark-away : Away (40144 + 4112 * p + i / 32)
      mark-away j l = ((λ z. d (omega arith)), (λ z. d (omega arith)))

      pub out-past : take_marks (put b (out p i) 0) q m ≡ put (take_marks b q m) (out p i) 0
      unfolding put
      out-past = away-set m b _ _ few out-away ∙ ap (λ o. set (take_marks b q m) (out_word p (i / 32)) (place (bits (i % 32) 1) o 0)) (sym (away-read m b (out_word p (i / 32)) few out-away))

      pub mark-past : take_marks (set_mark b p i) q m ≡ set_mark (take_marks b q m) p i
      unfolding get put
      mark-past = away-set m b _ _ few mark-away ∙ ap (λ o. set (take_marks b q m) (40144 + 4112 * p + i / 32) (place (bits (i % 32) 1) o 1)) (sym (away-read m b (40144 + 4112 * p + i / 32) few mark-away))

      pub out-still : get (take_marks b q m) (out p i) ≡ get b (out p i)
      unfolding get
      out-still = ap (λ w. w / 2 ^ (i % 32) % 2 ^ 1) (away-read m b (out_word p (i / 32)) few out-away)

      pub mark-still : mark_at (take_marks b q m) p i ≡ mark_at b p i
      unfolding get
      mark-still = ap (λ w. w / 2 ^ (i % 32) % 2 ^ 1) (away-read m b (40144 + 4112 * p + i / 32) few mark-away)
