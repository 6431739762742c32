-- The loops over a run's words of marks.
use Rattle.facts.proofs.Prelude.{ℕ, ◌+◌, ◌≤◌, ◌<◌, arith, add-one, and_comm, List, ◌≡◌, refl, ap, ◌∙◌, eqb, length}
use lib.Bits.{bit_or}
use Rattle.fields.specs.Field.{mark, get, put, Has}
use Rattle.fields.specs.Clear.{clear_marks}
use Rattle.release.specs.way.Marks.{no_marks, take_word, take_marks}
use Rattle.pages.specs.way.Pre.{ClearPre}
use Rattle.release.proofs.RunSteps.{or_none}

pub word-there : (b b' : List ℕ) (q m j : ℕ) → ClearPre b q m → length b' ≡ length b → j < m → Has b' (mark q j)
word-there b b' q m j a e l = omega (arith, a.few, a.there)

-- ---- reading
pub record CleanInv (b : List ℕ) (q m any j : ℕ) : Type 0 where
  pub within : j ≤ m
  pub known : eqb any 0 ≡ no_marks b q j

module _ (b : List ℕ) (q m : ℕ) where
  pub clean-starts : CleanInv b q m 0 0
  clean-starts = record { within = omega arith; known = refl }

  pub clean-goes_on : (any j x : ℕ) → CleanInv b q m any j → j < m → x ≡ get b (mark q j) → CleanInv b q m (bit_or any x) (j + 1)
  clean-goes_on any j x v l e =
      record { within = omega arith; known = rw (add-one j) (or_none any x ∙ and_comm (eqb any 0) (eqb x 0) ∙ rw (e, v.known)) }

  pub clean-ends : (any j : ℕ) → CleanInv b q m any j → m ≤ j → eqb any 0 ≡ no_marks b q m
  clean-ends any j v l = let z : j ≡ m = omega (arith, v.within) in v.known ∙ ap (no_marks b q) z

-- ---- writing
pub record ClearInv (b : List ℕ) (q m : ℕ) (b' : List ℕ) (j : ℕ) : Type 0 where
  pub within : j ≤ m
  pub long : length b' ≡ length b
  pub left : b' ≡ clear_marks b q j

pub record TakeInv (b : List ℕ) (q m : ℕ) (b' : List ℕ) (j : ℕ) : Type 0 where
  pub within : j ≤ m
  pub long : length b' ≡ length b
  pub left : b' ≡ take_marks b q j

module _ (b : List ℕ) (q m : ℕ) where
  pub clear-starts : ClearInv b q m b 0
  unfolding clear_marks
  clear-starts = record { within = omega arith; long = refl; left = refl }

  pub clear-goes_on : (b' b'' : List ℕ) (j : ℕ) → ClearInv b q m b' j → j < m → b'' ≡ put b' (mark q j) 0 → length b'' ≡ length b' → ClearInv b q m b'' (j + 1)
  unfolding clear_marks
  clear-goes_on b' b'' j v l e k = record { within = omega arith; long = k ∙ v.long; left = rw (add-one j) (e ∙ ap (λ d. put d (mark q j) 0) v.left) }

  pub clear-ends : (b' : List ℕ) (j : ℕ) → ClearInv b q m b' j → m ≤ j → b' ≡ clear_marks b q m
  clear-ends b' j v l = let z : j ≡ m = omega (arith, v.within) in v.left ∙ ap (clear_marks b q) z

  pub take-starts : TakeInv b q m b 0
  unfolding take_marks
  take-starts = record { within = omega arith; long = refl; left = refl }

  pub take-goes_on : (b' b'' : List ℕ) (j : ℕ) → TakeInv b q m b' j → j < m → b'' ≡ take_word b' q j → length b'' ≡ length b' → TakeInv b q m b'' (j + 1)
  unfolding take_marks
  take-goes_on b' b'' j v l e k = record { within = omega arith; long = k ∙ v.long; left = rw (add-one j) (e ∙ ap (λ d. take_word d q j) v.left) }

  pub take_ends : (b' : List ℕ) (j : ℕ) → TakeInv b q m b' j → m ≤ j → b' ≡ take_marks b q m
  take_ends b' j v l = let z : j ≡ m = omega (arith, v.within) in v.left ∙ ap (take_marks b q) z
