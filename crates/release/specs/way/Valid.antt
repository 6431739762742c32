-- What number 13's tests of a release ask.
use Rattle.std.specs.Prelude.{◌≡◌, ℕ, ◌+◌, ◌<◌, ◌≤◌, true, List, length}
use Rattle.words.specs.Limits.{class_rows}
use Rattle.classes.specs.declared.Shape.{Shape}
use Rattle.classes.specs.way.Sound.{Sound}
use Rattle.fields.specs.Field.{words}
use Rattle.calls.specs.Release.{page_valid, row_valid}

pub record DestinationPre (b : List ℕ) (c : ℕ) (sh : Shape) : Type 0 where
  pub known : c < class_rows
  pub long : words 0 ≤ length b
  pub sound : Sound sh
  pub row : row_valid b c ≡ true

pub record ValidPre (b : List ℕ) (c : ℕ) (sh : Shape) (q : ℕ) : Type 0 where
  pub known : c < class_rows
  pub sound : Sound sh
  pub there : words (q + 1) ≤ length b

-- once the page's words and the row's have passed
pub record DestinationValidPre (b : List ℕ) (c : ℕ) (sh : Shape) (m q : ℕ) : Type 0 where
  pub run : ValidPre b c sh q
  pub page : page_valid b sh m q ≡ true
  pub row : row_valid b c ≡ true
