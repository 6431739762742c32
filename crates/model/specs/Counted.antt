-- The three counts of a report, told from a history (document 01: "three counts (commits, reuses, abandoned, each kept modulo 2 to the 64th)").
--     commits_at      1 where the arena gave pages: a commit answered a run, a growth yes, or a take got a run
--     reuses_at       1 where the run that it gave stood in a hole before the call
--     abandoned_at    how many runs a call abandoned: the pages that are nowhere any more, by the length of the runs that the call gives
--     Counted        a report after the history has the sums of these, modulo 2 to the 64th
use Rattle.std.specs.Prelude.{ℕ, ◌+◌, ◌-◌, ◌/◌, ◌%◌, ◌^◌, ◌≡◌, List, [], ◌∷◌, Bool, false, cond}
use Rattle.std.proofs.Math.Option.{Option, none, some}
use Rattle.facts.specs.Lists.{total, below, is_some}
use Rattle.classes.specs.Shape.{shape_of}
use Rattle.rules.specs.Rules.{Rules}
use Rattle.model.specs.declared.Hole.{Hole}
use Rattle.model.specs.declared.Figures.{Figures}
use Rattle.model.specs.Calls as Calls
use Rattle.model.specs.Calls.{Call, Answer, Named, names}
use Rattle.model.specs.Arena.{Arena}
use Rattle.model.specs.Heap.{Heap, new_heap, is_held, step}
use Rattle.model.specs.History.{Event, event_of, events, heap_after}
use Rattle.model.specs.Entries.{run_of, is_grown}
use Rattle.model.specs.Ledger.{in_holes, above}
use Rattle.model.specs.Held.{wanted_pages, given_pages}

-- the first page of the run that a call was given: a class's by what the arena gave, a commit's by its answer
abbrev pub first_page : Option Hole → Option ℕ
first_page none = none
first_page (some r) = some r.first

abbrev pub run_given : Option Named → Event → Option ℕ
run_given none v = run_of v.answer
run_given (some d) v = first_page v.run

abbrev pub growth_given : Option Named → Answer → Bool
growth_given none a = is_grown a
growth_given (some d) a = false

abbrev pub commits_at : Event → ℕ
commits_at v = cond (is_some (run_given (names v.call) v)) 1 0 + cond (growth_given (names v.call) v.answer) 1 0

-- "fresh, yes only from the frontier": a run from a hole is a reuse, for a class too
abbrev pub holes_at : Option ℕ → Arena → ℕ
holes_at none a = 0
holes_at (some q) a = in_holes q a

abbrev pub reuses_at : Heap → Event → ℕ
reuses_at H v = holes_at (run_given (names v.call) v) H.arena

abbrev pub reuses_from : ℕ → Heap → List Call → ℕ
reuses_from size H [] = 0
reuses_from size H (x ∷ xs) = reuses_at H (event_of x (step size H x)) + reuses_from size (step size H x).heap xs

-- the pages that are somewhere: held, in a hole, at or above the frontier; by two reports' figures these are the pages held and idle, without
-- their overlap (`arena-whole`)
abbrev pub somewhere : ℕ → Heap → ℕ
somewhere size H = total (λ x. is_held (H.holder x) + in_holes x H.arena + above H.arena.frontier x) (below size)

-- the length of the runs that a call gives
abbrev pub run_length : Option Named → Call → ℕ
run_length none x = wanted_pages x + given_pages x
run_length (some d) x = (shape_of d.class).pages

abbrev pub abandoned_at : ℕ → Heap → Call → ℕ
abandoned_at size H x = (somewhere size H - somewhere size (step size H x).heap) / run_length (names x) x

abbrev pub abandoned_runs : ℕ → Heap → List Call → ℕ
abandoned_runs size H [] = 0
abandoned_runs size H (x ∷ xs) = abandoned_at size H x + abandoned_runs size (step size H x).heap xs

pub record Counted (size : ℕ) (rules : Rules) (xs : List Call) (f : Figures) : Type 0 where
  pub commits : f.commits ≡ total commits_at (events size rules xs) % 2 ^ 64
  pub reuses : f.reuses ≡ reuses_from size (new_heap rules) xs % 2 ^ 64
  pub abandoned : f.abandoned ≡ abandoned_runs size (new_heap rules) xs % 2 ^ 64
  -- of a direct commit after the history the answer says it: a run is fresh exactly if no hole had its first page
  pub fresh : (h n q : ℕ) (t : Bool) → (step size (heap_after size rules xs) (Calls.commit h n)).answer ≡ Calls.run q t → in_holes q (heap_after size rules xs).arena ≡ cond t 0 1
