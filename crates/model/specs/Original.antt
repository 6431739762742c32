-- The heap by document 01's own hole store (specs/Remembered), and how far its answers are the model's. All that documents 01 and 02 say of classes,
-- refusals and reports is the model's; only what is asked of the arena differs. No code reads this.
--     step         one call by these rules: the heap, the memory, the answer, and what it did to the holes
--     Claimed      no given run that the total allows touches a hole, and each hole chosen has the lowest page of its length: here equality is claimed
--     Equality     the answers are then the model's, call by call
use Rattle.std.specs.Prelude.{ℕ, ◌+◌, ◌-◌, ◌≤◌, List, [], ◌∷◌, ◌++◌, false, cond, not, ◌≡◌, length, take}
use Rattle.std.proofs.Math.Option.{none}
use Rattle.facts.specs.Lists.{All}
use Rattle.classes.specs.Shape.{shape_of}
use Rattle.rules.specs.Rules.{plain_rules}
use Rattle.model.specs.Cover.{covers, covers_run}
use Rattle.model.specs.Calls as Calls
use Rattle.model.specs.Calls.{Call, Answer, Request, Way, turned, straight, to_class, way_of, host_of, refused, released}
use Rattle.model.specs.HoleStore.{hole_pages_max}
use Rattle.model.specs.Arena as Arenas
use Rattle.model.specs.Class.{Ask, done, asks, serve}
use Rattle.model.specs.Chunks.{answer}
use Rattle.model.specs.Heap as Heaps
use Rattle.model.specs.Heap.{Heap, Holder, new_heap, nobody, direct, pass_to, with_pages, finish, asked, bad_run, bad_growth, held_direct, answer_run, unchanged}
use Rattle.model.specs.History.{answers, heap_after}
use Rattle.model.specs.BestFit.{Which}
use Rattle.model.specs.Joining.{Touches}
use Rattle.model.specs.Remembered.{Memory, no_memory, Act, chose, gave, State, state, give, give_all, Given, given, commit, grow}

-- what comes of a call
pub record Outcome : Type 0 where
  pub heap : Heap
  pub memory : Memory
  pub answer : Answer
  pub acts : List Act

abbrev pub outcome : State → (ℕ → Holder) → Heap → Answer → Outcome
outcome s w H x = record { heap = with_pages s.arena w H; memory = s.memory; answer = x; acts = s.acts }

-- as a call begins; a call that asks nothing of the arena is the model's
abbrev pub begun : Heap → Memory → State
begun H m = state H.arena m []

abbrev pub as_model : Memory → Heaps.Outcome → Outcome
as_model m o = record { heap = o.heap; memory = m; answer = o.answer; acts = [] }

-- a class's call: it asks, the arena commits, the class goes on and gives back; all but the arena is as `finish` leaves it
unfoldable pub offer : ℕ → ℕ → State → Ask → Given
offer size h s (done r) = given s none false
offer size h s (asks n k) = commit size h n s

unfoldable pub interact : ℕ → Heap → Memory → ℕ → ℕ → Ask → Outcome
interact size H m c h q =
    let g = offer size h (begun H m) q in
    let r = serve q g.run in
    let o = finish H c (shape_of c) (asked q) (Arenas.given g.state.arena g.run g.fresh) r in
    outcome (give_all (shape_of c).pages r.gives g.state) o.heap.holder o.heap o.answer

unfoldable pub class_call : ℕ → Heap → Memory → ℕ → Request → Outcome
class_call size H m c r = interact size H m c (host_of r) (answer (shape_of c) (H.rules c) (H.classes c) r)

-- the direct calls
unfoldable pub commit_call : ℕ → Heap → Memory → ℕ → ℕ → Outcome
commit_call size H m h n =
    let g = commit size h n (begun H m) in
    outcome g.state (pass_to direct (covers_run n g.run) H.holder) H (answer_run g.run g.fresh)

unfoldable pub grow_call : ℕ → Heap → Memory → ℕ → ℕ → ℕ → ℕ → Outcome
grow_call size H m h q old new =
    let g = grow size h (q + old) (new - old) (begun H m) in
    outcome g.state (pass_to direct (λ x. cond g.grew (covers (new - old) (q + old) x) 0) H.holder) H (Calls.grown g.grew)

unfoldable pub release_call : Heap → Memory → ℕ → ℕ → Outcome
release_call H m q n = outcome (give n q (begun H m)) (pass_to nobody (covers n q) H.holder) H released

-- numbers 6 and 12 as in the model, and all else is the model's
unfoldable pub direct_call : ℕ → Heap → Memory → Call → Outcome
direct_call size H m (Calls.take_blocks c h l) = as_model m (Heaps.direct_call size H (Calls.take_blocks c h l))
direct_call size H m (Calls.medium_take_blocks c h l) = as_model m (Heaps.direct_call size H (Calls.medium_take_blocks c h l))
direct_call size H m (Calls.release_blocks c h ws) = as_model m (Heaps.direct_call size H (Calls.release_blocks c h ws))
direct_call size H m (Calls.medium_release_blocks c h ws) = as_model m (Heaps.direct_call size H (Calls.medium_release_blocks c h ws))
direct_call size H m (Calls.pooled_take c h l) = as_model m (Heaps.direct_call size H (Calls.pooled_take c h l))
direct_call size H m (Calls.pooled_release c h ws) = as_model m (Heaps.direct_call size H (Calls.pooled_release c h ws))
direct_call size H m (Calls.release_bin_chunks c h ws gs fs) = as_model m (Heaps.direct_call size H (Calls.release_bin_chunks c h ws gs fs))
direct_call size H m (Calls.commit h n) =
    cond (bad_run n) (as_model m (unchanged H (refused 6))) (commit_call size H m h n)
direct_call size H m (Calls.grow_frontier h q old new) =
    cond (bad_growth old new) (as_model m (unchanged H (refused 6)))
    (cond (not (held_direct size H q old)) (as_model m (unchanged H (refused 12)))
    (grow_call size H m h q old new))
direct_call size H m (Calls.release h q n) =
    cond (bad_run n) (as_model m (unchanged H (refused 6)))
    (cond (not (held_direct size H q n)) (as_model m (unchanged H (refused 12)))
    (release_call H m q n))
direct_call size H m (Calls.contains o b) = as_model m (Heaps.direct_call size H (Calls.contains o b))
direct_call size H m Calls.report = as_model m (Heaps.direct_call size H Calls.report)

abbrev pub route : ℕ → Heap → Memory → Call → Way → Outcome
route size H m x turned = as_model m (unchanged H (refused 3))
route size H m x straight = direct_call size H m x
route size H m x (to_class d) = class_call size H m d.class d.request

unfoldable pub step : ℕ → Heap → Memory → Call → Outcome
step size H m x = route size H m x (way_of x)

-- along a history: the answers, what each call did to the holes, and the heap
abbrev pub answers_from : ℕ → Heap → Memory → List Call → List Answer
answers_from size H m [] = []
answers_from size H m (x ∷ xs) = let o = step size H m x in o.answer ∷ answers_from size o.heap o.memory xs

abbrev pub acts_from : ℕ → Heap → Memory → List Call → List (List Act)
acts_from size H m [] = []
acts_from size H m (x ∷ xs) = let o = step size H m x in o.acts ∷ acts_from size o.heap o.memory xs

abbrev pub heap_from : ℕ → Heap → Memory → List Call → Heap
heap_from size H m [] = H
heap_from size H m (x ∷ xs) = let o = step size H m x in heap_from size o.heap o.memory xs

-- from an opening without rows: "01's limits hold, and equality with the Rust is claimed for these alone" (document 02, A.9)
abbrev pub original_answers : ℕ → List Call → List Answer
original_answers size xs = answers_from size (new_heap plain_rules) no_memory xs

abbrev pub original_acts : ℕ → List Call → List (List Act)
original_acts size xs = acts_from size (new_heap plain_rules) no_memory xs

abbrev pub original_heap : ℕ → List Call → Heap
original_heap size xs = heap_from size (new_heap plain_rules) no_memory xs

-- an act that document 02 leaves as it was. A.4, "histories in which no two holes would touch": the given run neither starts where a hole ends nor
-- ends where one starts, or it would pass the total, so that both abandon it. A.8, "Where the Rust would choose another equal hole": the one chosen
-- has the lowest page of its length.
abbrev pub Alike : Act → Type 0
Alike (chose hs i) = Which hs i
Alike (gave s q n) = s.total + n ≤ hole_pages_max → Touches n q s.holes → ⊥

-- the calls for which equality is claimed: all their acts are such
abbrev pub Claimed : ℕ → List Call → Type 0
Claimed size xs = All (All Alike) (original_acts size xs)

-- equality "covers" these histories (A.4), and "is claimed only for the calls before the first such choice" (A.8): whatever calls ys come after
-- the calls xs, these are answered alike; and after them only the memory differs
pub record Equality (size : ℕ) (xs : List Call) : Type 0 where
  pub answered : Claimed size xs → answers size plain_rules xs ≡ original_answers size xs
  pub before : (ys : List Call) → Claimed size xs → take (length xs) (answers size plain_rules (xs ++ ys)) ≡ take (length xs) (original_answers size (xs ++ ys))
  pub heap : Claimed size xs → heap_after size plain_rules xs ≡ original_heap size xs
