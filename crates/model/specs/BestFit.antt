-- Demand 2's choice of a run, as statements: Knuth's best fit (The Art of Computer Programming, volume 1, 2.5).
use Rattle.std.specs.Prelude.{ℕ, ◌+◌, ◌≤◌, ◌<◌, List, Bool, true, false, ◌≡◌, length}
use Rattle.std.proofs.Math.Option.{Option, none, some}
use Rattle.facts.specs.Lists.{All}
use Rattle.words.specs.Host.{reservation_granted, commit_granted}
use Rattle.model.specs.declared.Hole.{Hole}
use Rattle.model.specs.HoleStore.{hole_at}
use Rattle.model.specs.Arena.{Arena, Status, unasked, ready, disabled}

-- hole i has the least length that suffices for n pages
pub record LeastAt (n : ℕ) (hs : List Hole) (i : ℕ) : Type 0 where
  pub inside : i < length hs
  pub enough : n ≤ (hole_at i hs).pages
  pub least : All (λ h. n ≤ h.pages → (hole_at i hs).pages ≤ h.pages) hs

-- which of several: the one with the lowest first page (document 02, A.8)
abbrev pub Which : List Hole → ℕ → Type 0
Which hs i = All (λ h. h.pages ≡ (hole_at i hs).pages → (hole_at i hs).first ≤ h.first) hs

-- no hole is long enough
abbrev pub NoneFits : ℕ → List Hole → Type 0
NoneFits n hs = All (λ h. h.pages < n) hs

-- can the arena be used, with this call's answer to the reservation
abbrev pub usable : ℕ → Status → Bool
usable h unasked = reservation_granted h
usable h ready = true
usable h disabled = false

-- every answer of a commit of n pages, with its reason
pub data Commits (size h n : ℕ) (a : Arena) : Option ℕ → Bool → Type 0 where
  from-hole : (i : ℕ) → usable h a.status ≡ true → commit_granted h ≡ true → LeastAt n a.store.holes i → Which a.store.holes i
      → Commits size h n a (some (hole_at i a.store.holes).first) false
  from-frontier : usable h a.status ≡ true → commit_granted h ≡ true → NoneFits n a.store.holes → a.frontier + n ≤ size
      → Commits size h n a (some a.frontier) true
  unusable : usable h a.status ≡ false → Commits size h n a none false
  ungranted : commit_granted h ≡ false → Commits size h n a none false
  exhausted : NoneFits n a.store.holes → size < a.frontier + n → Commits size h n a none false
