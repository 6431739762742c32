-- What the short histories are (document 02, A.10): direct calls on the model's arena, one after the other, each granted.
--     Call, number_of      a call, and the number that it is written as
--     State               the arena after some calls, and the runs still held
--     History             these calls are a history, on an arena of n pages
--     Before, Ordered     the order of two histories; of a list of them, which so has each once
--     written             histories as numbers
--     Lists               numbers that are all histories of a length, in the order
use Rattle.std.specs.Prelude.{ℕ, suc, ◌+◌, ◌≤◌, ◌<◌, true, false, ◌≡◌, length}
use mathlib.Core.List.{List, [], ◌∷◌, ◌++◌, map, Memᴰ}
use Rattle.std.proofs.Math.Option.{Option, none, some}
use Rattle.facts.specs.Lists.{update}
use Rattle.words.specs.Host.{host_word}
use Rattle.model.specs.Arena.{Arena, new_arena}
use Rattle.model.specs.Arena as Arena

-- a commit of so many pages; the release of the run from the history's i-th call (from 1)
pub data Call : Type 0 where
  commit : ℕ → Call
  release : ℕ → Call

-- "A commit of p pages is written as the number p, the release of the run from the history's i-th call (from 1) as 3 + i"
abbrev pub number_of : Call → ℕ
number_of (commit p) = p
number_of (release i) = 3 + i

-- ---- what calls may follow each other
pub record Run : Type 0 where
  pub first : ℕ
  pub pages : ℕ

pub record State : Type 0 where
  pub arena : Arena
  pub calls : ℕ
  pub runs : ℕ → Option Run  -- the run from each call (from 1), while it is held

abbrev pub opened : State
opened = record { arena = new_arena; calls = 0; runs = λ i. none }

-- "all granted": reservation and commits; the answer of a discard shows nowhere
abbrev pub granted : ℕ
granted = host_word true true false false

-- the run of a commit of p pages that answered a first page, or none
abbrev pub run_of : ℕ → Option ℕ → Option Run
run_of p none = none
run_of p (some q) = some (record { first = q; pages = p })

unfoldable pub committed : ℕ → ℕ → State → State
committed n p s =
    let g = Arena.commit n granted p s.arena in
    record { arena = g.arena; calls = suc s.calls; runs = update s.runs (suc s.calls) (run_of p g.run) }

unfoldable pub released : ℕ → Run → State → State
released i r s = record { arena = Arena.give r.pages r.first s.arena; calls = suc s.calls; runs = update s.runs i none }

-- "A call is a commit of 1 page up to the arena's length, whether it succeeds or not, or the release of one whole run still held."
pub data History (n : ℕ) : State → List Call → Type 0 where
  over : {s : State} → History n s []
  commits : {s : State} {cs : List Call} (p : ℕ) → 1 ≤ p → p ≤ n → History n (committed n p s) cs → History n s (commit p ∷ cs)
  releases : {s : State} {cs : List Call} (i : ℕ) (r : Run) → 1 ≤ i → i ≤ s.calls → s.runs i ≡ some r → History n (released i r s) cs → History n s (release i ∷ cs)

-- ---- the order, by the first call that differs
-- "Commits come before releases, smaller before larger, earlier committed before later."
pub data First : Call → Call → Type 0 where
  kinds : {p i : ℕ} → First (commit p) (release i)
  pages : {p q : ℕ} → p < q → First (commit p) (commit q)
  runs : {i j : ℕ} → i < j → First (release i) (release j)

pub data Before : List Call → List Call → Type 0 where
  here : {c d : Call} {cs ds : List Call} → First c d → Before (c ∷ cs) (d ∷ ds)
  there : {c : Call} {cs ds : List Call} → Before cs ds → Before (c ∷ cs) (c ∷ ds)

-- each stands before all that follow; as none stands before itself, each is there once
abbrev pub Ordered : List (List Call) → Type 0
Ordered [] = Unit {0}
Ordered (h ∷ hs) = ((g : List Call) → Memᴰ g hs → Before h g) × Ordered hs

-- ---- "histories follow each other without a mark"
unfoldable pub written : List (List Call) → List ℕ
written [] = []
written (h ∷ hs) = map number_of h ++ written hs

-- "every history of exactly the given length once, in that order"
pub record Lists (n k : ℕ) (numbers : List ℕ) : Type 0 where
  pub histories : List (List Call)
  pub is : numbers ≡ written histories
  pub every : (h : List Call) → History n opened h → length h ≡ k → Memᴰ h histories
  pub only : (h : List Call) → Memᴰ h histories → History n opened h × (length h ≡ k)
  pub order : Ordered histories
