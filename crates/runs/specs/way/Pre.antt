-- What the steps of a commit ask of the book, the record and the plan.
use Rattle.std.specs.Prelude.{◌≡◌, ℕ, ◌+◌, ◌-◌, ◌<◌, ◌≤◌, true, List, length, ◌≢◌}
use Rattle.words.specs.Limits.{max_pages, hole_slots, hole_pages_max}
use Rattle.facts.specs.Lists.{every}
use Rattle.fields.specs.Field.{hole, pages, get, words}
use Rattle.model.specs.declared.Hole.{Hole}
use Rattle.runs.specs.declared.Arena.{Arena}
use Rattle.runs.specs.declared.ArenaRequest.{ArenaRequest}
use Rattle.runs.specs.declared.Back.{Back}
use Rattle.arena.specs.Load.{load_hole, load_holes}
use Rattle.arena.specs.Valid.{hole_ends_valid, give_valid}

-- a record in its ranges, in an arena of n pages
pub record RecordIn (n : ℕ) (a : Arena) : Type 0 where
  pub moved : a.frontier ≤ n
  pub few : a.count ≤ hole_slots
  pub short : a.total ≤ hole_pages_max

-- hole i, which is x, has m pages or more, and is within the hole pages; its end is a number of 32 bits
pub record HoleIn (a : Arena) (i : ℕ) (x : Hole) (m : ℕ) : Type 0 where
  pub stored : i < a.count
  pub enough : m ≤ x.pages
  pub within : x.pages ≤ a.total
  pub ends : x.first + x.pages ≤ a.frontier

-- the hole with this code, where it is one
abbrev pub PlanIn : List ℕ → Arena → ℕ → ℕ → Type 0
PlanIn b a code m = (code ≢ 0) → HoleIn a (code - 1) (load_hole b (code - 1)) m

-- the holes are in a give's range
abbrev pub EndsIn : List ℕ → Arena → Type 0
EndsIn b a = every (hole_ends_valid a.frontier) (load_holes b 0 a.count) ≡ true

-- a request on a book that is long enough
pub record RequestIn (b : List ℕ) (q : ArenaRequest) : Type 0 where
  pub long : words q.size ≤ length b
  pub small : q.size ≤ max_pages
  pub fits : q.pages ≤ max_pages + 1
  pub owned : q.held ≤ max_pages

-- a run of a request's pages
pub record RunIn (b : List ℕ) (first : ℕ) (q : ArenaRequest) : Type 0 where
  pub long : words (first + q.pages) ≤ length b
  pub near : first + q.pages ≤ max_pages
  pub owned : q.held ≤ max_pages

-- a run that may be given, in an arena of n pages
pub record GiveIn (b : List ℕ) (n first m : ℕ) : Type 0 where
  pub long : words n ≤ length b
  pub small : n ≤ max_pages
  pub inside : first + m ≤ n
  pub valid : give_valid n b m ≡ true

-- a run of m pages at q that is given to the holes: the book holds them, and a is the record that goes with them
pub record StoreIn (b : List ℕ) (a : Arena) (q m : ℕ) : Type 0 where
  pub long : 40000 ≤ length b
  pub few : a.count ≤ hole_slots
  pub short : a.total ≤ hole_pages_max
  pub low : a.frontier ≤ max_pages
  pub near : q + m ≤ max_pages
  pub ends : EndsIn b a

-- m pages that come to a slot
pub record SlotIn (b : List ℕ) (a : Arena) (m : ℕ) : Type 0 where
  pub long : 40000 ≤ length b
  pub few : a.count ≤ hole_slots
  pub short : a.total ≤ hole_pages_max
  pub near : m ≤ max_pages

-- hole i is stored, and no longer than an arena; the one with this code, where it is one
pub record StoredIn (b : List ℕ) (a : Arena) (i : ℕ) : Type 0 where
  pub stored : i < a.count
  pub small : get b (hole pages i) ≤ max_pages

abbrev pub TouchIn : List ℕ → Arena → ℕ → Type 0
TouchIn b a code = (code ≢ 0) → StoredIn b a (code - 1)

-- the same of a run that may be nobody's afterwards
pub record BackIn (b : List ℕ) (a : Arena) (r : Back) : Type 0 where
  pub long : words (r.first + r.pages) ≤ length b
  pub store : StoreIn b a r.first r.pages

-- the book of an arena of n pages
pub record BookIn (b : List ℕ) (n : ℕ) : Type 0 where
  pub long : words n ≤ length b
  pub small : n ≤ max_pages
