-- Document 02, A.9, of a start: an unrefused opening with its rule rows, or a trace, which has none. proofs/Parking proves it.
--     Within     a class has parked no more runs than its limits allow
--     goes_to     the store that an emptied run goes to, or the arena
--     Empties    a release returns all that is out of a run
--     GroupsGo   the fates of a group release
--     Parking    what the rows say, and that it holds after every history
use Rattle.std.specs.Prelude.{ℕ, suc, ◌+◌, ◌*◌, ◌≤◌, ◌<◌, Bool, true, false, cond, ◌&&◌, List, [], ◌∷◌, ◌≡◌, eqb, leb, ltb, length}
use Rattle.std.proofs.Math.Option.{some}
use Rattle.facts.specs.Lists.{is_nil, elem}
use Rattle.words.specs.Host.{digit}
use Rattle.words.specs.Limits.{class_rows}
use Rattle.words.specs.Word.{page_of}
use Rattle.classes.specs.declared.Shape.{Shape}
use Rattle.classes.specs.Shape.{shape_of, class_count, pool_id}
use Rattle.rules.specs.declared.Limits.{Limits}
use Rattle.rules.specs.Rules.{plain_rules, RowsCover, Fit}
use Rattle.model.specs.declared.Destination.{Destination}
use Rattle.model.specs.declared.Destination.TheVariants.{ToEmpty, ToCold, ToArena}
use Rattle.model.specs.Calls.{Call, release_bin_chunks, give_back, fate, names, is_refused}
use Rattle.model.specs.Class.{Class}
use Rattle.model.specs.Destination.{destination_of, fate_of, kept_fate, retired}
use Rattle.model.specs.History.{Event, events, heap_after}
use Rattle.model.specs.Entries.{OutIn}
use Rattle.model.specs.Held.{fates_in}
use Rattle.model.specs.Offered.{blocks_at, HasRun}
use Rattle.pages.specs.Valid.{limits_at}
use Rattle.demands.specs.Start.{Start, pages, rule_rows, rules, calls, book_after, next}

pub record Within (sh : Shape) (lim : Limits) (s : Class) : Type 0 where
  pub empty : length s.empty ≤ lim.empty
  pub cold : length s.cold ≤ lim.cold
  -- "each medium class's own 8 MiB stays beside them"; it does not bind a small class
  pub pages : length s.empty * sh.pages ≤ sh.emptypages

-- the empty store has room, else the cold one, else the run is the arena's
abbrev pub goes_to : Bool → Bool → Destination
goes_to empty cold = cond empty ToEmpty (cond cold ToCold ToArena)

-- the list has every block of the run at q that is out in the class by the history
abbrev pub Empties : List Event → ℕ → ℕ → List ℕ → Type 0
Empties vs c q ws = (w : ℕ) → elem w (blocks_at (shape_of c) q) ≡ true → OutIn vs c w → elem w ws ≡ true

-- a group g of the list ws with the fate u, the class having e empty and k cold runs before it
pub record GroupGoes (vs : List Event) (c : ℕ) (lim : Limits) (ws : List ℕ) (e k g u : ℕ) : Type 0 where
  pub emptied : Empties vs c (page_of g) ws → u ≡ retired (fate_of (shape_of c) (destination_of (shape_of c) lim e k))
  pub kept : (Empties vs c (page_of g) ws → ⊥) → u ≡ kept_fate

-- all groups, in their order: each by the counts as those before it left them, which their fates tell, since only small classes have groups
abbrev pub GroupsGo : List Event → ℕ → Limits → List ℕ → ℕ → ℕ → List ℕ → List ℕ → Type 0
GroupsGo vs c lim ws e k [] us = Unit {0}
GroupsGo vs c lim ws e k (g ∷ gs) [] = ⊥
GroupsGo vs c lim ws e k (g ∷ gs) (u ∷ us) =
    GroupGoes vs c lim ws e k g u
    × GroupsGo vs c lim ws (e + digit (eqb u (retired (fate_of (shape_of c) ToEmpty)))) (k + digit (eqb u (retired (fate_of (shape_of c) ToCold)))) gs us

pub record Parking (s : Start) : Type 0 where
  -- rows "must cover 0 to 75 without gap or overlap. A row's limits hold for each of its classes"
  pub rows_cover : is_nil (rule_rows s) ≡ false → RowsCover (rule_rows s) (rules s)
  -- "With no rows, 01's limits hold"
  pub no_rows : is_nil (rule_rows s) ≡ true → rules s ≡ plain_rules
  pub fit : (c : ℕ) → Fit (rules s c)
  -- each class's limits stand in its own row of the book: no call changes them
  pub stand : (xs : List Call) (c : ℕ) → c < class_rows → limits_at (book_after s xs) c ≡ rules s c
  -- and its stores keep to them, "alone": the class's own runs are counted
  pub within : (xs : List Call) (c : ℕ) → Within (shape_of c) (rules s c) ((heap_after (pages s) (rules s) (calls s xs)).classes c)
  -- a class of the pool has the limits and the shape of the heap's class of its number
  pub alike : (c : ℕ) → c < class_count → (rules s (pool_id c) ≡ rules s c) × (shape_of (pool_id c) ≡ shape_of c)
  -- where an emptied run goes, e empty ones and k cold ones being kept: a small class has no other limit than its row's
  pub kept : (c e k : ℕ) → c < 64 → destination_of (shape_of c) (rules s c) e k ≡ goes_to (ltb e (rules s c).empty) (ltb k (rules s c).cold)
  -- a medium one has 8 MiB, 128 pages, of empty spans beside it
  pub kept_spans : (c e k : ℕ) → 64 ≤ c → c < class_count → destination_of (shape_of c) (rules s c) e k ≡ goes_to (ltb e (rules s c).empty && leb (suc e * (shape_of c).pages) 128) (ltb k (rules s c).cold)
  -- over the calls: a release by list that is not refused and has a block of the class's run at q answers 0 where it leaves a block of the run out by the
  -- history; else the fate of where the run goes, by the row's limits and by how many empty and cold runs the model's class has
  pub fates : (xs : List Call) (x : Call) (c h q v : ℕ) (ws : List ℕ) → names x ≡ some (record { class = c; request = give_back h ws }) → is_refused (next s xs x).answer ≡ false
      → (let vs = events (pages s) (rules s) (calls s xs) in
      let k = (heap_after (pages s) (rules s) (calls s xs)).classes c in
      HasRun c q vs → elem v ws ≡ true → elem v (blocks_at (shape_of c) q) ≡ true
      → (Empties vs c q ws → (next s xs x).answer ≡ fate (fate_of (shape_of c) (destination_of (shape_of c) (rules s c) (length k.empty) (length k.cold)))) × ((Empties vs c q ws → ⊥) → (next s xs x).answer ≡ fate kept_fate))
  -- a group release that is not refused: each group's run in turn, the page that the group names
  pub group_fates : (xs : List Call) (c h : ℕ) (ws gs fs : List ℕ) → c < 64
      → (let a = (next s xs (release_bin_chunks c h ws gs fs)).answer in
      let k = (heap_after (pages s) (rules s) (calls s xs)).classes c in
      is_refused a ≡ false → GroupsGo (events (pages s) (rules s) (calls s xs)) c (rules s c) ws (length k.empty) (length k.cold) gs (fates_in (length gs) a))
