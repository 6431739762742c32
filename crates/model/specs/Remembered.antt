-- Document 01's own hole store ("A run of pages"; the original's `HoleStore`), as it was before document 02, A.4 and A.8: it remembers an index
-- for each length, and never joins. No code reads it: it says what equality with the original is about (specs/Original). A record `State` is the
-- arena with that memory.
use Rattle.std.specs.Prelude.{ℕ, ◌+◌, ◌-◌, List, [], ◌∷◌, ◌++◌, Bool, true, false, cond, ◌&&◌, eqb, leb, ltb, length}
use Rattle.std.proofs.Math.Option.{Option, none, some}
use Rattle.facts.specs.Lists.{update}
use Rattle.words.specs.Host.{reservation_granted, commit_granted}
use Rattle.model.specs.declared.Hole.{Hole}
use Rattle.model.specs.HoleStore.{HoleStore, hole, store, hole_at, lowest_that, hole_slots, hole_pages_max}
use Rattle.model.specs.Arena.{Arena, Status, unasked, ready, disabled, with_status, with_frontier, with_store, counted, abandon, draw_from, can_grow}

-- "`HoleStore` remembers per length up to 128 an index": a length is set to an index or to nothing
abbrev pub Memory : Type 0
Memory = ℕ → Option ℕ

abbrev pub no_memory : Memory
no_memory = λ n. none

abbrev pub remembered_max : ℕ
remembered_max = 128

unfoldable pub remember : ℕ → Option ℕ → Memory → Memory
remember n i m = cond (leb n remembered_max) (update m n i) m

-- the lowest index of a length; its memory "is set to its lowest index, or to nothing"
abbrev pub lowest : ℕ → List Hole → Option ℕ
lowest n hs = lowest_that (λ h. eqb h.pages n) hs

abbrev pub refresh : ℕ → List Hole → Memory → Memory
refresh n hs m = remember n (lowest n hs) m

-- "A remembered index that still holds this length"
unfoldable pub still_holds : ℕ → List Hole → Option ℕ → Bool
still_holds n hs none = false
still_holds n hs (some i) = ltb i (length hs) && eqb (hole_at i hs).pages n

-- the least length above n; "the lowest index of the least greater length"
abbrev pub lesser : ℕ → ℕ → Option ℕ → Option ℕ
lesser n p none = cond (ltb n p) (some p) none
lesser n p (some l) = cond (ltb n p && ltb p l) (some p) (some l)

unfoldable pub least_above : ℕ → List Hole → Option ℕ
least_above n [] = none
least_above n (h ∷ hs) = lesser n h.pages (least_above n hs)

abbrev pub lowest_of : Option ℕ → List Hole → Option ℕ
lowest_of none hs = none
lowest_of (some l) hs = lowest l hs

abbrev pub failing : Option ℕ → Option ℕ → Option ℕ
failing none o = o
failing (some i) o = some i

-- the hole for n pages, by its index, and the memory afterwards: "With no holes stored, no memory is touched. A remembered index that still
-- holds this length is taken. Otherwise this length's memory is set to its lowest index, or to nothing, and that hole is taken; failing it, the
-- lowest index of the least greater length."
pub record Choice : Type 0 where
  pub index : Option ℕ
  pub memory : Memory

unfoldable pub choose : ℕ → List Hole → Memory → Choice
choose n [] m = record { index = none; memory = m }
choose n (h ∷ hs) m =
    cond (still_holds n (h ∷ hs) (m n))
    (record { index = m n; memory = m })
    (record { index = failing (lowest n (h ∷ hs)) (lowest_of (least_above n (h ∷ hs)) (h ∷ hs)); memory = refresh n (h ∷ hs) m })

-- n pages were taken from hole i, which was x, and hs are the holes now: "Both then set the memory of the length the hole had to its lowest
-- index, or to nothing"; a cut's remainder is remembered. The holes are the model's: "A longer hole is cut at its front and keeps its index. A
-- used-up hole is replaced by the last one" (`take_at`).
unfoldable pub forget : ℕ → ℕ → Hole → List Hole → Memory → Memory
forget n i x hs m = cond (ltb n x.pages) (remember (x.pages - n) (some i) (refresh x.pages hs m)) (refresh x.pages hs m)

-- "Giving appends and is remembered .. Holes are never joined." "Giving abandons the run if 4,096 holes are stored or the total would pass 65,536
-- pages."
unfoldable pub has_slot : ℕ → HoleStore → Bool
has_slot n s = leb (s.total + n) hole_pages_max && ltb (length s.holes) hole_slots

abbrev pub append : ℕ → ℕ → HoleStore → HoleStore
append n q s = store (s.holes ++ hole q n ∷ []) (s.total + n)

-- what was done: of the holes hs hole i was chosen; to the store s n pages from q on were given
pub data Act : Type 0 where
  chose : (hs : List Hole) (i : ℕ) → Act
  gave : (s : HoleStore) (q n : ℕ) → Act

-- the arena, its memory, and what the call did to the holes so far, newest first; no rule reads the last
pub record State : Type 0 where
  pub arena : Arena
  pub memory : Memory
  pub acts : List Act

abbrev pub state : Arena → Memory → List Act → State
state a m us = record { arena = a; memory = m; acts = us }

abbrev pub on_arena : (Arena → Arena) → State → State
on_arena f s = state (f s.arena) s.memory s.acts

abbrev pub holes_of : State → List Hole
holes_of s = s.arena.store.holes

unfoldable pub give : ℕ → ℕ → State → State
give n q s =
    cond (has_slot n s.arena.store)
    (state (with_store (append n q s.arena.store) s.arena) (remember n (some (length (holes_of s))) s.memory) (gave s.arena.store q n ∷ s.acts))
    (state (abandon s.arena) s.memory (gave s.arena.store q n ∷ s.acts))

abbrev pub give_all : ℕ → List ℕ → State → State
give_all n [] s = s
give_all n (q ∷ qs) s = give_all n qs (give n q s)

-- the state afterwards, with the run's first page and whether it is fresh, or none
pub record Given : Type 0 where
  pub state : State
  pub run : Option ℕ
  pub fresh : Bool

abbrev pub given : State → Option ℕ → Bool → Given
given s r f = record { state = s; run = r; fresh = f }

-- "Then holes, then the frontier" (`draw_from`)
unfoldable pub draw_by : ℕ → ℕ → State → Choice → Option ℕ → Given
draw_by size n s c none = let g = draw_from size n s.arena none in given (state g.arena c.memory s.acts) g.run g.fresh
draw_by size n s c (some i) =
    let g = draw_from size n s.arena (some i) in
    given (state g.arena (forget n i (hole_at i (holes_of s)) g.arena.store.holes c.memory) (chose (holes_of s) i ∷ s.acts)) g.run g.fresh

unfoldable pub draw : ℕ → ℕ → State → Given
draw size n s = let c = choose n (holes_of s) s.memory in draw_by size n s c c.index

-- "If the commit is not granted the run is given to the holes and the answer is none, whether it came from hole or frontier."
unfoldable pub grant : ℕ → ℕ → State → Option ℕ → Bool → Given
grant h n s none f = given s none false
grant h n s (some q) f = cond (commit_granted h) (given (on_arena (counted f) s) (some q) f) (given (give n q s) none false)

unfoldable pub commit_ready : ℕ → ℕ → ℕ → State → Given
commit_ready size h n s = let d = draw size n s in grant h n d.state d.run d.fresh

-- "the first one asks for the reservation; refused, the arena is disabled for good"
unfoldable pub commit_as : ℕ → ℕ → ℕ → State → Status → Given
commit_as size h n s unasked = cond (reservation_granted h) (commit_ready size h n (on_arena (with_status ready) s)) (given (on_arena (with_status disabled) s) none false)
commit_as size h n s ready = commit_ready size h n s
commit_as size h n s disabled = given s none false

abbrev pub commit : ℕ → ℕ → ℕ → State → Given
commit size h n s = commit_as size h n s s.arena.status

-- `grow_frontier`: the run that ends at page e by n pages; "if the commit is not granted, the frontier stays moved, the added pages are given to
-- the holes and the answer is no"
pub record Grown : Type 0 where
  pub state : State
  pub grew : Bool

abbrev pub grown : State → Bool → Grown
grown s b = record { state = s; grew = b }

unfoldable pub grow : ℕ → ℕ → ℕ → ℕ → State → Grown
grow size h e n s =
    cond (can_grow size e n s.arena)
    (let t = on_arena (with_frontier (e + n)) s in cond (commit_granted h) (grown (on_arena (counted true) t) true) (grown (give n e t) false))
    (grown s false)
