-- Pages held, told from the calls, their answers and what the arena gave; and the pages that are parked, and idle (document 02, A.5).
--     gains, losses        the pages that a call adds to those held, and takes off; `gained`, `lost` over a history
--     parked_at, idle_at     how often page x is parked, and idle
use Rattle.std.specs.Prelude.{ℕ, ◌+◌, ◌-◌, ◌*◌, ◌%◌, List, [], ◌∷◌, cond, ◌||◌, eqb, length, take}
use Rattle.std.proofs.Math.Option.{Option, none, some}
use Rattle.facts.specs.Lists.{total, below, is_some}
use Rattle.words.specs.Limits.{class_rows}
use Rattle.classes.specs.declared.Shape.{Shape}
use Rattle.classes.specs.Shape.{shape_of}
use Rattle.model.specs.declared.Hole.{Hole}
use Rattle.model.specs.Cover.{covers}
use Rattle.model.specs.Calls as Calls
use Rattle.model.specs.Calls.{Call, Answer, Named, names, Request, is_refused}
use Rattle.model.specs.Page.{Page}
use Rattle.model.specs.Class.{Class, Cold}
use Rattle.model.specs.Destination.{arena_fate}
use Rattle.model.specs.Heap.{Heap}
use Rattle.model.specs.History.{Event}
use Rattle.model.specs.Entries.{run_of, is_grown}
use Rattle.model.specs.Ledger.{in_holes, above}

-- ---- a class's calls: the arena gives a run, and the fates tell which runs went back
abbrev pub run_pages : Option Hole → ℕ
run_pages none = 0
run_pages (some h) = h.pages

-- a fate is the arena's, or 4 more if the page was retired
abbrev pub to_arena : ℕ → ℕ
to_arena v = cond (eqb (v % 4) arena_fate) 1 0

abbrev pub chunks_of : Request → ℕ
chunks_of (Calls.take h l) = 0
chunks_of (Calls.give_back h ws) = 0
chunks_of (Calls.give_chunks h ws gs fs) = length gs

-- the fates that a release of k chunks, or by list, answered
abbrev pub fates_in : ℕ → Answer → List ℕ
fates_in k (Calls.refused n) = []
fates_in k (Calls.taken n l v) = []
fates_in k (Calls.fate v) = v ∷ []
fates_in k (Calls.fates l) = take k l
fates_in k (Calls.run q f) = []
fates_in k Calls.no_run = []
fates_in k Calls.released = []
fates_in k (Calls.grown b) = []
fates_in k (Calls.contained b) = []
fates_in k (Calls.reported f) = []

abbrev pub runs_back : Request → Answer → ℕ
runs_back r a = total to_arena (fates_in (chunks_of r) a)

abbrev pub class_losses : Option Named → Answer → ℕ
class_losses none a = 0
class_losses (some d) a = runs_back d.request a * (shape_of d.class).pages

-- ---- the direct calls: the pages that one asks for, and those that it gives
abbrev pub wanted_pages : Call → ℕ
wanted_pages (Calls.take_blocks c h l) = 0
wanted_pages (Calls.medium_take_blocks c h l) = 0
wanted_pages (Calls.release_blocks c h ws) = 0
wanted_pages (Calls.medium_release_blocks c h ws) = 0
wanted_pages (Calls.pooled_take c h l) = 0
wanted_pages (Calls.pooled_release c h ws) = 0
wanted_pages (Calls.release_bin_chunks c h ws gs fs) = 0
wanted_pages (Calls.commit h n) = n
wanted_pages (Calls.grow_frontier h q old new) = new - old
wanted_pages (Calls.release h q n) = 0
wanted_pages (Calls.contains o b) = 0
wanted_pages Calls.report = 0

abbrev pub given_pages : Call → ℕ
given_pages (Calls.take_blocks c h l) = 0
given_pages (Calls.medium_take_blocks c h l) = 0
given_pages (Calls.release_blocks c h ws) = 0
given_pages (Calls.medium_release_blocks c h ws) = 0
given_pages (Calls.pooled_take c h l) = 0
given_pages (Calls.pooled_release c h ws) = 0
given_pages (Calls.release_bin_chunks c h ws gs fs) = 0
given_pages (Calls.commit h n) = 0
given_pages (Calls.grow_frontier h q old new) = 0
given_pages (Calls.release h q n) = n
given_pages (Calls.contains o b) = 0
given_pages Calls.report = 0

-- ---- "Pages held, counted from the history of commits, growths and gives"
abbrev pub direct_gains : Call → Answer → ℕ
direct_gains x a = cond (is_some (run_of a) || is_grown a) (wanted_pages x) 0

abbrev pub direct_losses : Call → Answer → ℕ
direct_losses x a = cond (is_refused a) 0 (given_pages x)

abbrev pub gains : Event → ℕ
gains v = run_pages v.run + direct_gains v.call v.answer

abbrev pub losses : Event → ℕ
losses v = class_losses (names v.call) v.answer + direct_losses v.call v.answer

abbrev pub gained : List Event → ℕ
gained vs = total gains vs

abbrev pub lost : List Event → ℕ
lost vs = total losses vs

-- ---- page by page: how many parked runs of a class have page x; of all classes
abbrev pub parked_with : Shape → ℕ → Class → ℕ
parked_with sh x s = total (λ (p : Page). covers sh.pages p.first x) s.empty + total (λ (p : Cold). covers sh.pages p.first x) s.cold

unfoldable pub parked_at : Heap → ℕ → ℕ
parked_at H x = total (λ c. parked_with (shape_of c) x (H.classes c)) (below class_rows)

-- it is in a hole, at or above the frontier, or parked
abbrev pub idle_at : Heap → ℕ → ℕ
idle_at H x = in_holes x H.arena + above H.arena.frontier x + parked_at H x
