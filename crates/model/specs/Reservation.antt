-- The reservation, told from the calls and answers of a history (document 01: "the first one asks for the reservation; refused, the arena is
-- disabled for good").
--     asks_for        a call that asks for the reservation, if none did before: a commit or a take that is not refused. Where none did, no class has
--                    a run, so that such a take asks the arena
--     reservation    not asked for, granted or refused, after these events: by bit 0 of the first that asks, for good
--     Reserved       it is the arena's status after every history, and `contains` answers by it
use Rattle.std.specs.Prelude.{ℕ, ◌+◌, ◌*◌, ◌^◌, ◌≤◌, ◌<◌, ◌≡◌, ◌↔◌, List, [], ◌∷◌, Bool, true, false, cond, not, ◌&&◌}
use Rattle.words.specs.Host.{reservation_granted}
use Rattle.classes.specs.Sizes.{page_bytes}
use Rattle.rules.specs.Rules.{Rules}
use Rattle.model.specs.Calls as Calls
use Rattle.model.specs.Calls.{Call, host_in, is_refused, contained}
use Rattle.model.specs.Arena.{Status, unasked, ready, disabled}
use Rattle.model.specs.Heap.{step}
use Rattle.model.specs.History.{Event, events, heap_after}

abbrev pub wants_run : Call → Bool
wants_run (Calls.take_blocks c h l) = true
wants_run (Calls.medium_take_blocks c h l) = true
wants_run (Calls.release_blocks c h ws) = false
wants_run (Calls.medium_release_blocks c h ws) = false
wants_run (Calls.pooled_take c h l) = true
wants_run (Calls.pooled_release c h ws) = false
wants_run (Calls.release_bin_chunks c h ws gs fs) = false
wants_run (Calls.commit h n) = true
wants_run (Calls.grow_frontier h q old new) = false
wants_run (Calls.release h q n) = false
wants_run (Calls.contains o b) = false
wants_run Calls.report = false

abbrev pub asks_for : Event → Bool
asks_for v = wants_run v.call && not (is_refused v.answer)

-- "bit 0 reservation granted"
abbrev pub settled_by : ℕ → Status
settled_by h = cond (reservation_granted h) ready disabled

abbrev pub reserved_next : Event → Status → Status
reserved_next v unasked = cond (asks_for v) (settled_by (host_in v.call)) unasked
reserved_next v ready = ready
reserved_next v disabled = disabled

abbrev pub reserved_from : Status → List Event → Status
reserved_from s [] = s
reserved_from s (v ∷ vs) = reserved_from (reserved_next v s) vs

abbrev pub reservation : List Event → Status
reservation vs = reserved_from unasked vs

-- the b bytes from offset o on are the arena's, where its reservation stands so: "`contains` is no before the reservation", "no where their sum
-- overflows", and no beyond the arena's `size` pages
pub record Contained (size : ℕ) (s : Status) (o b : ℕ) : Type 0 where
  pub granted : s ≡ ready
  pub no_overflow : o + b < 2 ^ 64
  pub inside : o + b ≤ size * page_bytes

pub record Reserved (size : ℕ) (rules : Rules) (xs : List Call) : Type 0 where
  pub status : (heap_after size rules xs).arena.status ≡ reservation (events size rules xs)
  pub contains : (o b : ℕ) → ((step size (heap_after size rules xs) (Calls.contains o b)).answer ≡ contained true) ↔ Contained size (reservation (events size rules xs)) o b
