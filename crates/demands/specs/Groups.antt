-- What a group release gives to the arena, by its answer, after every history from an opening or a trace. proofs/Groups proves it.
use Rattle.std.specs.Prelude.{ℕ, ◌<◌, List, ◌≡◌}
use Rattle.classes.specs.Shape.{shape_of}
use Rattle.model.specs.Calls as Calls
use Rattle.model.specs.Calls.{Call}
use Rattle.model.specs.Groups.{groups_back}
use Rattle.arena.specs.Load.{load_arena}
use Rattle.demands.specs.Call.{call}
use Rattle.demands.specs.Start.{Start, book_after}
use Rattle.demands.specs.Demands.{GivenInTurn}

-- after the calls xs since a start
pub record GroupsGive (s : Start) (xs : List Call) : Type 0 where
  -- a release that answers the fates vs gives the pages of the groups with fate 2 or 6, in the groups' order, and changes nothing else of the arena
  pub gives : (c h : ℕ) (ws gs fs vs : List ℕ) → c < 64 → (call (book_after s xs) (Calls.release_bin_chunks c h ws gs fs)).answer ≡ Calls.fates vs
      → GivenInTurn (shape_of c).pages (groups_back gs vs) (load_arena (book_after s xs)) (load_arena (call (book_after s xs) (Calls.release_bin_chunks c h ws gs fs)).book)
