-- What pushing blocks two at a time asks.
use Rattle.std.specs.Prelude.{ℕ, ◌+◌, ◌*◌, ◌<◌, ◌≤◌, true, List, ◌≡◌, ltb, length}
use Rattle.facts.specs.Lists.{every}
use Rattle.classes.specs.declared.Shape.{Shape}
use Rattle.classes.specs.way.Sound.{Sound}
use Rattle.fields.specs.Field.{words}
use Rattle.fields.specs.Ranges.{max_pages}
use Rattle.pages.specs.Stack.{index_of, page_slots}

-- the first n of the words ws pushed on a stack of 2 x entries
pub record PairsPre (b : List ℕ) (sh : Shape) (q x : ℕ) (ws : List ℕ) (n : ℕ) : Type 0 where
  pub sound : Sound sh
  pub below : q < max_pages
  pub there : words (q + 1) ≤ length b
  pub within : n ≤ length ws
  pub slots : 2 * x + n ≤ page_slots
  pub bits : every (λ w. ltb (index_of sh q w) page_slots) ws ≡ true
