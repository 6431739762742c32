-- Clearing out bits and words of marks.
--     length-row, changes-row, get-row    one value written to field after field: the length, what may have changed, what is read
--     cleared                             32 out bits that are one word
--     marks-past-out                      a loop may clear both in turn
use Rattle.facts.proofs.Prelude.{ℕ, zero, suc, ◌+◌, ◌-◌, ◌*◌, ◌^◌, ◌≤◌, ◌<◌, arith, add-zero, zero-add, suc-add, mod-eq_of_lt, div-one}
use Rattle.facts.proofs.Prelude.{add-one, Bool, true, false, List, ◌≡◌, refl, sym, ap, ◌∙◌, leb, ltb, length, get_or, set, lt-ltb, ne_eqb}
use native.Mathlib.Decide.{ℕ_discrete}
use lib.Pow.{pow_pos}
use Rattle.fields.specs.Field.{Field, bits, place, mark, out, words, put, get, ok, same, in_book, room}
use Rattle.fields.specs.Clear.{clear_out, clear_marks}
use Rattle.fields.specs.way.OutBits.{out_word, outs_at}
use Rattle.fields.proofs.Laws.{length-put, get_put_same, get-put_other, put-comm}
use Rattle.fields.proofs.Changes.{Changes, changes-put}
use Rattle.fields.proofs.OutBits.{stretch}

-- ---- field after field: R k is the book after v is written to F 0 to F (k - 1)
module _ (F : ℕ → Field) (v : ℕ) (R : ℕ → List ℕ) (next : (k : ℕ) → R (suc k) ≡ put (R k) (F k) v) where
  pub length-row : (k : ℕ) → length (R k) ≡ length (R 0)
  length-row zero = refl
  length-row (suc k) = ap length (next k) ∙ length-put (R k) (F k) v ∙ length-row k

  pub changes-row : (t : Field → Bool) (b : List ℕ) (k : ℕ) → ((j : ℕ) → j < k → ok (F j) ≡ true) → ((j : ℕ) → j < k → t (F j) ≡ true) → Changes t b (R 0) → Changes t b (R k)
  changes-row t b zero o d c = c
  changes-row t b (suc k) o d c =
      rw (next k) (changes-put t b (R k) (F k) v (o k (omega arith)) (d k (omega arith)) (changes-row t b k (λ j l. o j (omega arith)) (λ j l. d j (omega arith)) c))

  pub get-row : (n k j : ℕ) → leb (words n) (length (R 0)) ≡ true → in_book n (F j) ≡ true → room (F j) v ≡ true → ((i : ℕ) → i < k → ok (F i) ≡ true)
      → ((i : ℕ) → (i ≡ j → ⊥) → same (F i) (F j) ≡ false) → j < k → get (R k) (F j) ≡ v
  get-row n zero j hb hj hv o d l = absurd (omega arith)
  get-row n (suc k) j hb hj hv o d l =
      rw (next k)
      (elim (ℕ_discrete k j) [
        | yes e ↦ ap (λ x. get (put (R k) (F x) v) (F j)) e ∙ get_put_same n (R k) (F j) v (rw (length-row k) hb) hj hv
        | no e ↦ get-put_other (R k) (F k) (F j) v (o k (omega arith)) (o j l) (d k e) ∙ get-row n k j hb hj hv (λ i m. o i (omega arith)) d (omega (arith, e))
      ])

-- ---- out bits
-- one stretch after another
pub clear-more : (k m p i : ℕ) (b : List ℕ) → clear_out (clear_out b p i k) p (i + k) m ≡ clear_out b p i (k + m)
unfolding clear_out
clear-more zero m p i b = rw (add-zero, zero-add)
clear-more (suc k) m p i b = rw (suc-add) (ap (λ x. clear_out (clear_out (put b (out p i) 0) p (i + 1) k) p x m) (omega arith) ∙ clear-more k m p (i + 1) (put b (out p i) 0))

clear-last : (k p i : ℕ) (b : List ℕ) → clear_out b p i (suc k) ≡ put (clear_out b p i k) (out p (i + k)) 0
unfolding clear_out
clear-last k p i b = ap (clear_out b p i) (sym (add-one k)) ∙ sym (clear-more k 1 p i b)

-- the out bits of blocks 32 j to 32 j + 31, which are one word
pub cleared : (p j : ℕ) (b b' : List ℕ) → 40016 + 4112 * p + j < length b → get_or b (40016 + 4112 * p + j) 0 < 2 ^ 32
    → b' ≡ set b (40016 + 4112 * p + j) 0 → b' ≡ clear_out b p (32 * j) 32
unfolding clear_out
cleared p j b b' l h e =
    let none : place (bits 0 32) (outs_at b p j) 0 ≡ 0 = rw (div-one, mod-eq_of_lt h) (omega arith) in
    e ∙ ap (set b (out_word p j)) (sym none)
    ∙ sym (stretch p j 0 (λ k. 0) pow_pos (λ k. omega arith) 0 (32 * j) (omega arith) (clear_out b p (32 * j)) (λ k. clear-last k p (32 * j) b) l 32 (omega arith))

pub length-clear : (k p i : ℕ) (b : List ℕ) → length (clear_out b p i k) ≡ length b
unfolding clear_out
length-clear k p i b = length-row (λ x. out p (i + x)) 0 (clear_out b p i) (λ x. clear-last x p i b) k

-- what is read afterwards: those blocks are not out
pub get-clear : (n p : ℕ) → ltb p n ≡ true → (k i j : ℕ) (b : List ℕ) → leb (words n) (length b) ≡ true → i + k ≤ 4096 → i ≤ j → j < i + k
    → get (clear_out b p i k) (out p j) ≡ 0
unfolding clear_out
get-clear n p hp k i j b hb h l m =
    let e : i + (j - i) ≡ j = omega arith in
    rw e at (get-row (λ x. out p (i + x)) 0 (clear_out b p i) (λ x. clear-last x p i b) n k (j - i) hb (rw (lt-ltb (i + (j - i)) 4096 (omega arith)) hp) refl
    (λ x u. lt-ltb (i + x) 4096 (omega arith)) (λ x z. rw (ne_eqb (i + x) (i + (j - i)) (λ w. z (omega arith)))) (omega arith))

-- and nothing else is changed
pub changes-clear : (t : Field → Bool) (b : List ℕ) (k p i : ℕ) (b' : List ℕ) → i + k ≤ 4096 → ((j : ℕ) → i ≤ j → j < i + k → t (out p j) ≡ true)
    → Changes t b b' → Changes t b (clear_out b' p i k)
unfolding clear_out
changes-clear t b k p i b' h d =
    changes-row (λ x. out p (i + x)) 0 (clear_out b' p i) (λ x. clear-last x p i b') t b k (λ x l. lt-ltb (i + x) 4096 (omega arith)) (λ x l. d (i + x) (omega arith) (omega arith))

-- ---- words of marks
pub length-clear_marks : (m p : ℕ) (b : List ℕ) → length (clear_marks b p m) ≡ length b
unfolding clear_marks
length-clear_marks m p b = length-row (λ x. mark p x) 0 (clear_marks b p) (λ x. refl) m

pub get-clear_marks : (n p : ℕ) → ltb p n ≡ true → (m j : ℕ) (b : List ℕ) → leb (words n) (length b) ≡ true → m ≤ 128 → j < m → get (clear_marks b p m) (mark p j) ≡ 0
unfolding clear_marks
get-clear_marks n p hp m j b hb h l =
    get-row (λ x. mark p x) 0 (clear_marks b p) (λ x. refl) n m j hb (rw (lt-ltb j 128 (omega arith)) hp) refl (λ x u. lt-ltb x 128 (omega arith)) (λ x z. rw (ne_eqb x j z)) l

pub changes-clear_marks : (t : Field → Bool) (b : List ℕ) (m p : ℕ) (b' : List ℕ) → m ≤ 128 → ((j : ℕ) → t (mark p j) ≡ true) → Changes t b b' → Changes t b (clear_marks b' p m)
unfolding clear_marks
changes-clear_marks t b m p b' h d = changes-row (λ x. mark p x) 0 (clear_marks b' p) (λ x. refl) t b m (λ x l. lt-ltb x 128 (omega arith)) (λ x l. d x)

-- a word of marks cleared before out bits, or after; so a loop may clear both in turn
past-out : (k p i j : ℕ) (b : List ℕ) → i + k ≤ 4096 → j < 128 → clear_out (put b (mark p j) 0) p i k ≡ put (clear_out b p i k) (mark p j) 0
unfolding clear_out
past-out zero p i j b h l = refl
past-out (suc k) p i j b h l =
    ap (λ x. clear_out x p (i + 1) k) (put-comm b (mark p j) (out p i) 0 0 (lt-ltb j 128 l) (lt-ltb i 4096 (omega arith)) refl)
    ∙ past-out k p (i + 1) j (put b (out p i) 0) (omega arith) l

pub marks_past_out : (m k p i : ℕ) (b : List ℕ) → i + k ≤ 4096 → m ≤ 128 → clear_out (clear_marks b p m) p i k ≡ clear_marks (clear_out b p i k) p m
unfolding clear_marks
marks_past_out zero k p i b h l = refl
marks_past_out (suc m) k p i b h l =
    past-out k p i m (clear_marks b p m) h (omega arith) ∙ ap (λ x. put x (mark p m) 0) (marks_past_out m k p i b h (omega arith))
