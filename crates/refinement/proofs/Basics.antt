-- The standing facts of a class's proofs, and tests as numbers.
--     Setting     the book is long enough, the class is one, its shape is sound
use Rattle.facts.proofs.Prelude.{ℕ, Bool, true, false, List, ◌≡◌, refl, ltb, leb, length}
use Rattle.words.specs.Limits.{class_rows}
use Rattle.classes.specs.declared.Shape.{Shape}
use Rattle.classes.specs.way.Sound.{Sound}
use Rattle.fields.specs.Field.{words}
use Rattle.words.specs.Host.{digit}
pub use Rattle.pages.proofs.Descending.{digit_true, digit_false, digit-le, digit_cases, eq_cases}

pub record Setting (n : ℕ) (b : List ℕ) (c : ℕ) (sh : Shape) : Type 0 where
  pub long : leb (words n) (length b) ≡ true
  pub row : ltb c class_rows ≡ true
  pub shape : Sound sh

pub setting_kept : {n : ℕ} {b : List ℕ} {c : ℕ} {sh : Shape} (b' : List ℕ) → length b' ≡ length b → Setting n b c sh → Setting n b' c sh
setting_kept b' e s = record { long = rw e s.long; row = s.row; shape = s.shape }

-- ---- tests

pub digit-small : (t : Bool) → leb (digit t) 1 ≡ true
digit-small true = refl
digit-small false = refl

-- ---- a test of every number below a bound (`every-at` says the converse)
