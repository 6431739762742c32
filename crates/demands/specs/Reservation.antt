-- The reservation over the exported calls, told from the calls and answers of a history, from an opening or a trace. proofs/Reservation proves it.
use Rattle.std.specs.Prelude.{ℕ, true, List, ◌↔◌, ◌≡◌}
use Rattle.model.specs.Calls as Calls
use Rattle.model.specs.Calls.{Call, contained}
use Rattle.model.specs.Reservation.{reservation, Contained}
use Rattle.arena.specs.Load.{load_arena}
use Rattle.demands.specs.Call.{call}
use Rattle.demands.specs.Start.{Start, pages, book_after, observed}

-- after the calls xs since a start
pub record Reserved (s : Start) (xs : List Call) : Type 0 where
  -- the first commit or take that is not refused has the reservation granted or refused, for good, by its bit 0; no other call changes it
  pub status : (load_arena (book_after s xs)).status ≡ reservation (observed s xs)
  -- `contains` is yes exactly if it is granted, and the bytes lie in the arena; `ContainedIn` (Refusals) has it of any book
  pub contains : (o k : ℕ) → ((call (book_after s xs) (Calls.contains o k)).answer ≡ contained true) ↔ Contained (pages s) (reservation (observed s xs)) o k
