-- Where a given run stands among the holes, and that no two of them touch (document 02, A.4), as statements.
use Rattle.std.specs.Prelude.{ℕ, suc, ◌+◌, ◌-◌, ◌≤◌, ◌<◌, List, [], ◌∷◌, ◌++◌, ◌≡◌, ◌⊎◌, length}
use Rattle.facts.specs.Lists.{update}
use Rattle.model.specs.declared.Hole.{Hole}
use Rattle.model.specs.HoleStore.{HoleStore, hole, hole_at, hole_slots, hole_pages_max, with_before, with_after, with_both}

-- "From then on no two holes touch": none ends where another starts
abbrev pub NoTwoTouch : List Hole → Type 0
NoTwoTouch hs = (i j : ℕ) → i < length hs → j < length hs → (hole_at i hs).first + (hole_at i hs).pages ≡ (hole_at j hs).first → ⊥

-- hole i ends at page q; hole j starts at page e; no hole does
abbrev pub Ends : List Hole → ℕ → ℕ → Type 0
Ends hs i q = (i < length hs) × ((hole_at i hs).first + (hole_at i hs).pages ≡ q)

abbrev pub Starts : List Hole → ℕ → ℕ → Type 0
Starts hs j e = (j < length hs) × ((hole_at j hs).first ≡ e)

abbrev pub NoneEnds : List Hole → ℕ → Type 0
NoneEnds hs q = (i : ℕ) → Ends hs i q → ⊥

abbrev pub NoneStarts : List Hole → ℕ → Type 0
NoneStarts hs e = (j : ℕ) → Starts hs j e → ⊥

-- a run touches a hole, so it needs no slot: "at 4,096 holes it is stored ..; the page total is still tested first"
abbrev pub Touches : ℕ → ℕ → List Hole → Type 0
Touches n q hs = ((i : ℕ) × Ends hs i q) ⊎ ((j : ℕ) × Starts hs j (q + n))

abbrev pub HasRoom : ℕ → ℕ → HoleStore → Type 0
HasRoom n q s = (s.total + n ≤ hole_pages_max) × (Touches n q s.holes ⊎ (length s.holes < hole_slots))

-- the holes by index; gs has n holes, and they are these
abbrev pub at : List Hole → ℕ → Hole
at hs k = hole_at k hs

abbrev pub Stand : List Hole → ℕ → (ℕ → Hole) → Type 0
Stand gs n f = (length gs ≡ n) × ((k : ℕ) → k < n → hole_at k gs ≡ f k)

-- n pages from q on are given to the holes hs, which are then gs
pub data JoinedWhere (n q : ℕ) (hs gs : List Hole) : Type 0 where
  -- it touches none: appended
  joins_none : NoneEnds hs q → NoneStarts hs (q + n) → gs ≡ hs ++ hole q n ∷ [] → JoinedWhere n q hs gs
  -- "The joined hole stands at the index of the hole before it, or of the hole after it if there is none before."
  joins_before : (i : ℕ) → Ends hs i q → NoneStarts hs (q + n) → Stand gs (length hs) (update (at hs) i (with_before n (at hs i))) → JoinedWhere n q hs gs
  joins_after : (j : ℕ) → NoneEnds hs q → Starts hs j (q + n) → Stand gs (length hs) (update (at hs) j (with_after n q (at hs j))) → JoinedWhere n q hs gs
  -- "Where both join, the one after is removed and the last hole takes its index,
  joins_both : (i j : ℕ) → Ends hs i q → Starts hs j (q + n) → suc i < length hs → suc j < length hs
      → Stand gs (length hs - 1) (update (update (at hs) j (at hs (length hs - 1))) i (with_both n (at hs i) (at hs j))) → JoinedWhere n q hs gs
  -- the one after being the last;
  joins_last_after : (i j : ℕ) → Ends hs i q → Starts hs j (q + n) → suc j ≡ length hs
      → Stand gs (length hs - 1) (update (at hs) i (with_both n (at hs i) (at hs j))) → JoinedWhere n q hs gs
  -- even if the last is the joined one."
  joins_last_joined : (i j : ℕ) → Ends hs i q → Starts hs j (q + n) → suc i ≡ length hs
      → Stand gs (length hs - 1) (update (at hs) j (with_both n (at hs i) (at hs j))) → JoinedWhere n q hs gs
