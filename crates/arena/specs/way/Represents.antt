-- The words stand for the model's arena and for who holds each page: the part of the representation that the arena's calls keep.
use Rattle.std.specs.Prelude.{ℕ, ◌<◌, List, true, ◌≡◌, leb, length}
use Rattle.fields.specs.Field.{arena, page, owner, size, state, held, get, words}
use Rattle.fields.specs.Ranges.{format_valid}
use Rattle.model.specs.Heap.{Heap, held_pages}
use Rattle.arena.specs.Load.{load_arena, status_code}
use Rattle.arena.specs.Owners.{owner_code}

-- the book is long enough for n pages, an opening of this layout made it, its record and holes are those of the arena, and HELD counts the pages held. `state`
-- says more than `loads`: any number above 2 loads as disabled, and is out of its range.
pub record ArenaRep (n : ℕ) (b : List ℕ) (H : Heap) : Type 0 where
  pub long : leb (words n) (length b) ≡ true
  pub length : get b (arena size) ≡ n
  pub format : format_valid b ≡ true
  pub loads : load_arena b ≡ H.arena
  pub state : get b (arena state) ≡ status_code H.arena.status
  pub held : get b (arena held) ≡ held_pages n H
  pub owners : (x : ℕ) → x < H.arena.frontier → get b (page owner x) ≡ owner_code (H.holder x)
