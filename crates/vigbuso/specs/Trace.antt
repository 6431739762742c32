-- The exported trace (document 02, A.7): the answer, the book, both lists and the three counts afterwards, numbers 1 and 2 included.
use Rattle.std.specs.Prelude.{ℕ, List, ◌≡◌}
use Rattle.trace.specs.Words.{Traced}

-- bl are the blocks, fl the figures, dn the counts
pub record TraceEnds (t : Traced) (r : ℕ) (b bl fl dn : List ℕ) : Type 0 where
  pub code : r ≡ t.code
  pub book : b ≡ t.book
  pub blocks : bl ≡ t.blocks
  pub figures : fl ≡ t.figures
  pub done : dn ≡ t.done
