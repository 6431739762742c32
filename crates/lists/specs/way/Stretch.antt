-- Blocks on a page's stack that follow one another.
use Rattle.std.specs.Prelude.{ℕ, ◌+◌, ◌-◌, ◌*◌, ◌≤◌, List, length}
use Rattle.fields.specs.Field.{words}
use Rattle.pages.specs.Stack.{page_slots}

-- words x to y - 1 of the stack are there, and two blocks for each from a on
pub record StretchPre (b : List ℕ) (q x y a : ℕ) : Type 0 where
  pub there : words (q + 1) ≤ length b
  pub begins : x ≤ y
  pub slots : 2 * y ≤ page_slots
  pub blocks : a + (2 * y - 2 * x) ≤ page_slots
