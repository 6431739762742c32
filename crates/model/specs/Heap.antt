-- The heap: the arena, who holds each page, the classes; and one call of it.
use Rattle.std.specs.Prelude.{ℕ, ◌+◌, ◌-◌, ◌*◌, ◌^◌, Bool, true, false, cond, not, ◌&&◌, ◌||◌, eqb, leb, length}
use Rattle.std.proofs.Math.Option.{Option, none, some}
use Rattle.facts.specs.Lists.{every, total, update, below}
use Rattle.words.specs.Limits.{class_rows}
use Rattle.model.specs.Cover.{covers, covers_all, covers_run}
use Rattle.classes.specs.declared.Shape.{Shape}
use Rattle.classes.specs.Shape.{shape_of}
use Rattle.rules.specs.Rules.{Rules}
use Rattle.model.specs.declared.Hole.{Hole}
use Rattle.model.specs.declared.Figures.{Figures}
use Rattle.model.specs.Calls as Calls
use Rattle.model.specs.Calls.{Call, Answer, Way, turned, straight, to_class, way_of, host_of, Request, refused, run, no_run, released, reported}
use Rattle.model.specs.HoleStore.{hole}
use Rattle.model.specs.Arena as Arenas
use Rattle.model.specs.Arena.{Arena, Given, given, new_arena, give_all}
use Rattle.model.specs.Class.{Class, new_class, Result, Ask, done, asks, serve}
use Rattle.model.specs.Chunks.{answer}

-- "who holds each page: a class, the hand (these direct calls), or nobody"
pub data Holder : Type 0 where
  nobody direct : Holder
  class : ℕ → Holder

pub record Heap : Type 0 where
  pub arena : Arena
  pub holder : ℕ → Holder
  pub classes : ℕ → Class
  pub rules : Rules  -- the limits of each class, as the opening gave them

unfoldable pub new_heap : Rules → Heap
new_heap rules = record { arena = new_arena; holder = λ x. nobody; classes = λ c. new_class; rules = rules }

-- the heap after a call, the answer, and what the arena gave at it: a run by its first page and length, or none
pub record Outcome : Type 0 where
  pub heap : Heap
  pub answer : Answer
  pub run : Option Hole

abbrev pub run_with : ℕ → Option ℕ → Option Hole
run_with n none = none
run_with n (some q) = some (hole q n)

-- the pages x with f x not 0 pass to a holder
abbrev pub pass_to : Holder → (ℕ → ℕ) → (ℕ → Holder) → ℕ → Holder
pass_to who f holder x = cond (eqb (f x) 0) (holder x) who

-- a class's call: it asks, the arena commits, the class goes on and gives back; the arena comes last
abbrev pub asked : Ask → ℕ
asked (done r) = 0
asked (asks n k) = n

unfoldable pub offer : ℕ → ℕ → Arena → Ask → Given
offer size h a (done r) = given a none false
offer size h a (asks n k) = Arenas.commit size h n a

unfoldable pub finish : Heap → ℕ → Shape → ℕ → Given → Result → Outcome
finish H c sh n g r = record {
  heap = record {
    arena = give_all sh.pages r.gives g.arena;
    holder = pass_to nobody (covers_all sh.pages r.gives) (pass_to (class c) (covers_run sh.pages g.run) H.holder);
    classes = update H.classes c r.class;
    rules = H.rules;
  };
  answer = r.answer;
  run = run_with n g.run;
}

unfoldable pub interact : ℕ → Heap → ℕ → ℕ → Ask → Outcome
interact size H c h q = let g = offer size h H.arena q in finish H c (shape_of c) (asked q) g (serve q g.run)

unfoldable pub class_call : ℕ → Heap → ℕ → Request → Outcome
class_call size H c r = interact size H c (host_of r) (answer (shape_of c) (H.rules c) (H.classes c) r)

-- the other calls
abbrev pub unchanged : Heap → Answer → Outcome
unchanged H x = record { heap = H; answer = x; run = none }

abbrev pub is_direct : Holder → Bool
is_direct nobody = false
is_direct direct = true
is_direct (class c) = false

abbrev pub is_held : Holder → ℕ
is_held nobody = 0
is_held direct = 1
is_held (class c) = 1

-- number 12: the run is wholly held by the direct calls
unfoldable pub held_direct : ℕ → Heap → ℕ → ℕ → Bool
held_direct size H q n = leb (q + n) size && every (λ k. is_direct (H.holder (q + k))) (below n)

abbrev pub with_pages : Arena → (ℕ → Holder) → Heap → Heap
with_pages a w H = record { arena = a; holder = w; classes = H.classes; rules = H.rules }

-- number 6: "A run has 0 pages or 2 to the 48th or more"
unfoldable pub bad_run : ℕ → Bool
bad_run n = eqb n 0 || leb (2 ^ 48) n

-- "or growth isn't to more pages"
abbrev pub bad_growth : ℕ → ℕ → Bool
bad_growth old new = bad_run old || (bad_run new || leb new old)

abbrev pub answer_run : Option ℕ → Bool → Answer
answer_run none f = no_run
answer_run (some q) f = run q f

unfoldable pub commit_call : ℕ → Heap → ℕ → ℕ → Outcome
commit_call size H h n =
    let g = Arenas.commit size h n H.arena in
    unchanged (with_pages g.arena (pass_to direct (covers_run n g.run) H.holder) H) (answer_run g.run g.fresh)

unfoldable pub grow_call : ℕ → Heap → ℕ → ℕ → ℕ → ℕ → Outcome
grow_call size H h q old new =
    let g = Arenas.grow size h (q + old) (new - old) H.arena in
    unchanged (with_pages g.arena (pass_to direct (λ x. cond g.grew (covers (new - old) (q + old) x) 0) H.holder) H) (Calls.grown g.grew)

unfoldable pub release_call : Heap → ℕ → ℕ → Outcome
release_call H q n = unchanged (with_pages (Arenas.give n q H.arena) (pass_to nobody (covers n q) H.holder) H) released

-- "these counts, pages held, and idle pages"
abbrev pub held_pages : ℕ → Heap → ℕ
held_pages size H = total (λ x. is_held (H.holder x)) (below size)

-- the runs that a class has parked; the pages of all parked runs, where class c has `runs c` of them
abbrev pub parked_runs : Class → ℕ
parked_runs s = length s.empty + length s.cold

unfoldable pub parked_pages : (ℕ → ℕ) → ℕ
parked_pages runs = total (λ c. runs c * (shape_of c).pages) (below class_rows)

-- idle pages "are hole pages plus those above the frontier" and, by document 02, A.5, "also .. pages in the empty and cold stores of
-- every class": these are held as well, so they are the overlap
abbrev pub figures_with : ℕ → Arena → (held parked : ℕ) → Figures
figures_with size a held parked = record {
  commits = a.commits;
  reuses = a.reuses;
  abandoned = a.abandoned;
  held = held;
  idle = a.store.total + (size - a.frontier) + parked;
  overlap = parked;
}

abbrev pub figures : ℕ → Heap → Figures
figures size H = figures_with size H.arena (held_pages size H) (parked_pages (λ c. parked_runs (H.classes c)))

-- a call that names no class of ours: number 4
abbrev pub no_class : Heap → Outcome
no_class H = unchanged H (refused 4)

unfoldable pub direct_call : ℕ → Heap → Call → Outcome
direct_call size H (Calls.take_blocks c h l) = no_class H
direct_call size H (Calls.medium_take_blocks c h l) = no_class H
direct_call size H (Calls.release_blocks c h ws) = no_class H
direct_call size H (Calls.medium_release_blocks c h ws) = no_class H
direct_call size H (Calls.pooled_take c h l) = no_class H
direct_call size H (Calls.pooled_release c h ws) = no_class H
direct_call size H (Calls.release_bin_chunks c h ws gs fs) = no_class H
direct_call size H (Calls.commit h n) =
    cond (bad_run n) (unchanged H (refused 6)) (commit_call size H h n)
direct_call size H (Calls.grow_frontier h q old new) =
    cond (bad_growth old new) (unchanged H (refused 6))
    (cond (not (held_direct size H q old)) (unchanged H (refused 12))
    (grow_call size H h q old new))
direct_call size H (Calls.release h q n) =
    cond (bad_run n) (unchanged H (refused 6))
    (cond (not (held_direct size H q n)) (unchanged H (refused 12))
    (release_call H q n))
direct_call size H (Calls.contains o b) = unchanged H (Calls.contained (Arenas.contains size o b H.arena))
direct_call size H Calls.report = unchanged H (reported (figures size H))

abbrev pub route : ℕ → Heap → Call → Way → Outcome
route size H x turned = unchanged H (refused 3)
route size H x straight = direct_call size H x
route size H x (to_class d) = class_call size H d.class d.request

-- one call on an arena of `size` pages
unfoldable pub step : ℕ → Heap → Call → Outcome
step size H x = route size H x (way_of x)
