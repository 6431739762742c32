-- The order of the holes shows in no answer, and the three counts show in a report alone (document 02, A.8), as statements.
use Rattle.std.specs.Prelude.{ℕ, List, Bool, cond, ◌&&◌, ◌≡◌, eqb}
use Rattle.facts.specs.Lists.{total}
use Rattle.model.specs.declared.Hole.{Hole}
use Rattle.model.specs.declared.Figures.{Figures}
use Rattle.model.specs.Calls.{Answer, refused, taken, fate, fates, run, no_run, released, grown, contained, reported}
use Rattle.model.specs.Arena.{Arena, Given, Grown}
use Rattle.model.specs.Heap.{Heap, Outcome}

-- how often the hole of n pages from q on stands in a list; in two lists each hole stands equally often: the one is the other in some order
abbrev pub is_hole : ℕ → ℕ → Hole → Bool
is_hole q n h = eqb h.first q && eqb h.pages n

abbrev pub SameHoles : List Hole → List Hole → Type 0
SameHoles hs gs = (q n : ℕ) → total (λ h. cond (is_hole q n h) 1 0) hs ≡ total (λ h. cond (is_hole q n h) 1 0) gs

-- two arenas, two heaps that differ in the order of their holes and in the three counts alone: a heap that was used longer has counted more
pub record SameArena (a b : Arena) : Type 0 where
  pub status : a.status ≡ b.status
  pub frontier : a.frontier ≡ b.frontier
  pub holes : SameHoles a.store.holes b.store.holes
  pub total : a.store.total ≡ b.store.total

pub record SameHeap (H K : Heap) : Type 0 where
  pub arena : SameArena H.arena K.arena
  pub holder : H.holder ≡ K.holder
  pub classes : H.classes ≡ K.classes
  pub rules : H.rules ≡ K.rules

-- an answer, a report's three counts left out
abbrev pub without_counts : Figures → Figures
without_counts f = record { commits = 0; reuses = 0; abandoned = 0; held = f.held; idle = f.idle; overlap = f.overlap }

abbrev pub counts_aside : Answer → Answer
counts_aside (refused n) = refused n
counts_aside (taken n l v) = taken n l v
counts_aside (fate n) = fate n
counts_aside (fates l) = fates l
counts_aside (run q f) = run q f
counts_aside no_run = no_run
counts_aside released = released
counts_aside (grown b) = grown b
counts_aside (contained b) = contained b
counts_aside (reported f) = reported (without_counts f)

-- two commits, two growths, two calls that are answered alike, and go on differing in these alone
pub record SameGiven (g d : Given) : Type 0 where
  pub run : g.run ≡ d.run
  pub fresh : g.fresh ≡ d.fresh
  pub arena : SameArena g.arena d.arena

pub record SameGrown (g d : Grown) : Type 0 where
  pub grew : g.grew ≡ d.grew
  pub arena : SameArena g.arena d.arena

pub record SameOutcome (o p : Outcome) : Type 0 where
  pub heap : SameHeap o.heap p.heap
  pub answer : counts_aside o.answer ≡ counts_aside p.answer
  pub run : o.run ≡ p.run
