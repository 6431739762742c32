-- What the functions of a report ask of the book, and what one of them answers.
use Rattle.std.specs.Prelude.{ℕ, ◌*◌, ◌+◌, ◌≤◌, ◌<◌, true, List, ◌≡◌, length}
use Rattle.words.specs.Limits.{max_parked, class_rows}
use Rattle.classes.specs.Shape.{shape_of}
use Rattle.arena.specs.Valid.{all_counts_valid}
use Rattle.arena.specs.Calls.{parked_runs}

-- a class's row of a book
pub record RowIn (b : List ℕ) (c : ℕ) : Type 0 where
  pub known : c < class_rows
  pub long : 40000 ≤ length b

-- every count of parked runs is in its range
pub record CountsIn (b : List ℕ) : Type 0 where
  pub long : 40000 ≤ length b
  pub valid : all_counts_valid b ≡ true

-- the most pages that a class can have parked
abbrev pub parked_max : ℕ
parked_max = (max_parked + max_parked) * 8

-- r is the pages that class c has parked
pub record Parks (b : List ℕ) (c r : ℕ) : Type 0 where
  pub pages : r ≡ parked_runs b c * (shape_of c).pages
  pub few : r ≤ parked_max
