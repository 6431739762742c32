-- The arena: reservation, frontier, holes, and three counts (document 01, "A run of pages"). `size` is the arena's length in pages,
-- h the host word, n a run's pages, q its first page.
use Rattle.std.specs.Prelude.{ℕ, ◌+◌, ◌*◌, ◌%◌, ◌^◌, List, [], ◌∷◌, Bool, true, false, cond, ◌&&◌, eqb, leb, ltb}
use Rattle.std.proofs.Math.Option.{Option, none, some}
use Rattle.words.specs.Host.{reservation_granted, commit_granted}
use Rattle.classes.specs.Sizes.{page_bytes}
use Rattle.model.specs.HoleStore.{HoleStore, empty_store, hole_at, choose, take_at, accepts, insert}

-- the reservation is not asked for yet, granted, or refused: then "the arena is disabled for good"
pub data Status : Type 0 where
  unasked ready disabled : Status

pub record Arena : Type 0 where
  pub status : Status
  pub frontier : ℕ  -- the first page never given out
  pub store : HoleStore
  pub commits : ℕ
  pub reuses : ℕ
  pub abandoned : ℕ

abbrev pub new_arena : Arena
new_arena = record { status = unasked; frontier = 0; store = empty_store; commits = 0; reuses = 0; abandoned = 0 }

abbrev pub with_status : Status → Arena → Arena
with_status x a = record { status = x; frontier = a.frontier; store = a.store; commits = a.commits; reuses = a.reuses; abandoned = a.abandoned }

abbrev pub with_frontier : ℕ → Arena → Arena
with_frontier f a = record { status = a.status; frontier = f; store = a.store; commits = a.commits; reuses = a.reuses; abandoned = a.abandoned }

abbrev pub with_store : HoleStore → Arena → Arena
with_store s a = record { status = a.status; frontier = a.frontier; store = s; commits = a.commits; reuses = a.reuses; abandoned = a.abandoned }

-- one more, "each kept modulo 2 to the 64th"
abbrev pub more : ℕ → ℕ
more n = (n + 1) % 2 ^ 64

-- a commit counted; a reuse too where the run came from a hole; an abandoned run
abbrev pub counted : Bool → Arena → Arena
counted fresh a = record { status = a.status; frontier = a.frontier; store = a.store; commits = more a.commits; reuses = cond fresh a.reuses (more a.reuses); abandoned = a.abandoned }

abbrev pub abandon : Arena → Arena
abandon a = record { status = a.status; frontier = a.frontier; store = a.store; commits = a.commits; reuses = a.reuses; abandoned = more a.abandoned }

-- giving: stored, joined to the holes that it touches, or abandoned
unfoldable pub give : ℕ → ℕ → Arena → Arena
give n q a = cond (accepts n q a.store) (with_store (insert n q a.store) a) (abandon a)

abbrev pub give_all : ℕ → List ℕ → Arena → Arena
give_all n [] a = a
give_all n (q ∷ qs) a = give_all n qs (give n q a)

-- the arena afterwards, with the run's first page and whether it is fresh, or none
pub record Given : Type 0 where
  pub arena : Arena
  pub run : Option ℕ
  pub fresh : Bool

abbrev pub given : Arena → Option ℕ → Bool → Given
given a r f = record { arena = a; run = r; fresh = f }

-- a run is drawn: "Then holes, then the frontier", if the arena suffices
unfoldable pub draw_from : ℕ → ℕ → Arena → Option ℕ → Given
draw_from size n a (some i) = given (with_store (take_at n i a.store) a) (some (hole_at i a.store.holes).first) false
draw_from size n a none = cond (leb (a.frontier + n) size) (given (with_frontier (a.frontier + n) a) (some a.frontier) true) (given a none false)

unfoldable pub draw : ℕ → ℕ → Arena → Given
draw size n a = draw_from size n a (choose n a.store.holes)

-- "If the commit is not granted the run is given to the holes and the answer is none, whether it came from hole or frontier."
unfoldable pub grant : ℕ → ℕ → Arena → Option ℕ → Bool → Given
grant h n a none f = given a none false
grant h n a (some q) f = cond (commit_granted h) (given (counted f a) (some q) f) (given (give n q a) none false)

unfoldable pub commit_ready : ℕ → ℕ → ℕ → Arena → Given
commit_ready size h n a = let d = draw size n a in grant h n d.arena d.run d.fresh

-- "the first one asks for the reservation; refused, the arena is disabled for good"
unfoldable pub commit_as : ℕ → ℕ → ℕ → Arena → Status → Given
commit_as size h n a unasked = cond (reservation_granted h) (commit_ready size h n (with_status ready a)) (given (with_status disabled a) none false)
commit_as size h n a ready = commit_ready size h n a
commit_as size h n a disabled = given a none false

unfoldable pub commit : ℕ → ℕ → ℕ → Arena → Given
commit size h n a = commit_as size h n a a.status

-- `grow_frontier`: the run that ends at page e by n pages
pub record Grown : Type 0 where
  pub arena : Arena
  pub grew : Bool

abbrev pub grown : Arena → Bool → Grown
grown a b = record { arena = a; grew = b }

abbrev pub can_grow : ℕ → ℕ → ℕ → Arena → Bool
can_grow size e n a = eqb a.frontier e && leb (e + n) size

-- "if the commit is not granted, the frontier stays moved, the added pages are given to the holes and the answer is no"
unfoldable pub grow : ℕ → ℕ → ℕ → ℕ → Arena → Grown
grow size h e n a =
    cond (can_grow size e n a)
    (let b = with_frontier (e + n) a in cond (commit_granted h) (grown (counted true b) true) (grown (give n e b) false))
    (grown a false)

-- `contains`, by a byte offset from the arena's start and a length in bytes; "no before the reservation", "no where their sum overflows"
abbrev pub is_ready : Status → Bool
is_ready unasked = false
is_ready ready = true
is_ready disabled = false

unfoldable pub contains : ℕ → ℕ → ℕ → Arena → Bool
contains size o b a = is_ready a.status && (ltb (o + b) (2 ^ 64) && leb (o + b) (size * page_bytes))
