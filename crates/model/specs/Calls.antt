-- The calls of a history and their answers (document 01, "The histories of demand 3"). Beside document 01's calls stand a take and a release of the pool's
-- classes: no function of that name is exported, the pool's own calls make them (crate pool).
use Rattle.std.specs.Prelude.{ℕ, ◌+◌, List, [], Bool, true, false, cond, ltb}
use Rattle.std.proofs.Math.Option.{Option, none, some}
use Rattle.std.proofs.Math.ListN as ListN
use Rattle.words.specs.Host.{bad_host}
use Rattle.classes.specs.Shape.{class_count, pool_id}
use Rattle.model.specs.declared.Figures.{Figures}

-- one constructor for each call; a list counts as what it holds when its call begins
pub data Call : Type 0 where
  take_blocks medium_take_blocks : (class host : ℕ) (list : List ℕ) → Call
  release_blocks medium_release_blocks : (class host : ℕ) (list : List ℕ) → Call
  pooled_take pooled_release : (class host : ℕ) (list : List ℕ) → Call
  release_bin_chunks : (class host : ℕ) (list chunks fates : List ℕ) → Call
  commit : (host pages : ℕ) → Call
  grow_frontier : (host first old new : ℕ) → Call
  release : (host first pages : ℕ) → Call
  contains : (offset bytes : ℕ) → Call
  report : Call

pub data Answer : Type 0 where
  refused : (number : ℕ) → Answer
  taken : (count : ℕ) (list : List ℕ) (virgin : Bool) → Answer  -- the lent list afterwards
  fate : ℕ → Answer
  fates : List ℕ → Answer  -- the lent fate list afterwards
  run : (first : ℕ) (fresh : Bool) → Answer
  no_run released : Answer
  grown contained : Bool → Answer
  reported : Figures → Answer

abbrev pub is_refused : Answer → Bool
is_refused (refused n) = true
is_refused (taken n l v) = false
is_refused (fate n) = false
is_refused (fates l) = false
is_refused (run q f) = false
is_refused no_run = false
is_refused released = false
is_refused (grown b) = false
is_refused (contained b) = false
is_refused (reported f) = false

-- the blocks that a take answers: the entries below the count
abbrev pub blocks_of : Answer → List ℕ
blocks_of (refused n) = []
blocks_of (taken n l v) = ListN.take n l
blocks_of (fate n) = []
blocks_of (fates l) = []
blocks_of (run q f) = []
blocks_of no_run = []
blocks_of released = []
blocks_of (grown b) = []
blocks_of (contained b) = []
blocks_of (reported f) = []

-- what a class is asked, by a call that names it
pub data Request : Type 0 where
  take : (host : ℕ) (list : List ℕ) → Request
  give_back : (host : ℕ) (list : List ℕ) → Request
  give_chunks : (host : ℕ) (list chunks fates : List ℕ) → Request

abbrev pub host_of : Request → ℕ
host_of (take h l) = h
host_of (give_back h ws) = h
host_of (give_chunks h ws gs fs) = h

-- the words that a request releases, unless it is refused
abbrev pub list_of : Request → List ℕ
list_of (take h l) = []
list_of (give_back h ws) = ws
list_of (give_chunks h ws gs fs) = ws

abbrev pub released_by : Request → Answer → List ℕ
released_by r x = cond (is_refused x) [] (list_of r)

-- the host word that a call is handed; 0 where it is handed none
abbrev pub host_in : Call → ℕ
host_in (take_blocks c h l) = h
host_in (medium_take_blocks c h l) = h
host_in (release_blocks c h ws) = h
host_in (medium_release_blocks c h ws) = h
host_in (pooled_take c h l) = h
host_in (pooled_release c h ws) = h
host_in (release_bin_chunks c h ws gs fs) = h
host_in (commit h n) = h
host_in (grow_frontier h q old new) = h
host_in (release h q n) = h
host_in (contains o b) = 0
host_in report = 0

-- a class's call: its id (of the heap's 0 to 63 small, 64 to 75 medium; of the pool's 76 more) and what is asked
pub record Named : Type 0 where
  pub class : ℕ
  pub request : Request

abbrev pub named : Bool → ℕ → Request → Option Named
named true c r = some (record { class = c; request = r })
named false c r = none

-- the class that a call names, if there is that class
abbrev pub names : Call → Option Named
names (take_blocks c h l) = named (ltb c 64) c (take h l)
names (medium_take_blocks c h l) = named (ltb c 12) (64 + c) (take h l)
names (release_blocks c h ws) = named (ltb c 64) c (give_back h ws)
names (medium_release_blocks c h ws) = named (ltb c 12) (64 + c) (give_back h ws)
names (pooled_take c h l) = named (ltb c class_count) (pool_id c) (take h l)
names (pooled_release c h ws) = named (ltb c class_count) (pool_id c) (give_back h ws)
names (release_bin_chunks c h ws gs fs) = named (ltb c 64) c (give_chunks h ws gs fs)
names (commit h n) = none
names (grow_frontier h q old new) = none
names (release h q n) = none
names (contains o b) = none
names report = none

-- a call that the pool makes, and no caller
abbrev pub is_pooled : Call → Bool
is_pooled (take_blocks c h l) = false
is_pooled (medium_take_blocks c h l) = false
is_pooled (release_blocks c h ws) = false
is_pooled (medium_release_blocks c h ws) = false
is_pooled (pooled_take c h l) = true
is_pooled (pooled_release c h ws) = true
is_pooled (release_bin_chunks c h ws gs fs) = false
is_pooled (commit h n) = false
is_pooled (grow_frontier h q old new) = false
is_pooled (release h q n) = false
is_pooled (contains o b) = false
is_pooled report = false

-- where a call goes: to the class that it names, else to the arena; by number 3, first of all, to neither
pub data Way : Type 0 where
  turned straight : Way
  to_class : Named → Way

abbrev pub way_to : Option Named → Way
way_to none = straight
way_to (some d) = to_class d

unfoldable pub way_of : Call → Way
way_of x = cond (bad_host (host_in x)) turned (way_to (names x))
