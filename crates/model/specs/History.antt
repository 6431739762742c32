-- Histories from an opening: what was called and answered, and what a class saw of it (document 01, "The histories of demand 3").
-- All is told from the arena's length, the opening's rules and the calls' arguments.
use Rattle.std.specs.Prelude.{ℕ, List, [], ◌∷◌, ◌++◌, map, Bool, false, eqb}
use Rattle.std.proofs.Math.Option.{Option, none, some}
use Rattle.facts.specs.Lists.{filter}
use Rattle.rules.specs.Rules.{Rules}
use Rattle.model.specs.declared.Hole.{Hole}
use Rattle.model.specs.Calls.{Call, Answer, Named, names}
use Rattle.model.specs.Heap.{Heap, Outcome, step, new_heap}

-- a call as it went: its answer, and what the arena gave at it
pub record Event : Type 0 where
  pub call : Call
  pub answer : Answer
  pub run : Option Hole

abbrev pub event_of : Call → Outcome → Event
event_of x o = record { call = x; answer = o.answer; run = o.run }

-- the events of a history from a heap, and the heap after it
abbrev pub events_from : ℕ → Heap → List Call → List Event
events_from size H [] = []
events_from size H (x ∷ xs) = event_of x (step size H x) ∷ events_from size (step size H x).heap xs

abbrev pub heap_from : ℕ → Heap → List Call → Heap
heap_from size H [] = H
heap_from size H (x ∷ xs) = heap_from size (step size H x).heap xs

-- from an opening with these rules
abbrev pub events : ℕ → Rules → List Call → List Event
events size rules xs = events_from size (new_heap rules) xs

abbrev pub heap_after : ℕ → Rules → List Call → Heap
heap_after size rules xs = heap_from size (new_heap rules) xs

abbrev pub answers : ℕ → Rules → List Call → List Answer
answers size rules xs = map (λ e. e.answer) (events size rules xs)

-- with one more call
abbrev pub with_call : ℕ → Rules → List Call → Call → List Event
with_call size rules xs x = events size rules xs ++ event_of x (step size (heap_after size rules xs) x) ∷ []

-- "A class's calls are the takes and releases, groups too, that name it."
abbrev pub is_of : ℕ → Option Named → Bool
is_of c none = false
is_of c (some d) = eqb d.class c

abbrev pub calls_of : ℕ → List Call → List Call
calls_of c xs = filter (λ x. is_of c (names x)) xs

-- their answers, and what the arena gave at each
abbrev pub answers_of : ℕ → List Event → List Answer
answers_of c es = map (λ e. e.answer) (filter (λ e. is_of c (names e.call)) es)

abbrev pub runs_of : ℕ → List Event → List (Option Hole)
runs_of c es = map (λ e. e.run) (filter (λ e. is_of c (names e.call)) es)
