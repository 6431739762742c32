-- The arena's idle pages: holes lie below the frontier, and the report counts the pages in holes and at or above the frontier.
use Rattle.facts.proofs.Prelude.{ℕ, ◌+◌, ◌-◌, ◌≤◌, arith, List, [], ◌∷◌, some, ◌≡◌, ap, ltb, ltb-true, ltb-false, All, total, below, by_cases}
use Rattle.model.specs.Cover.{covers, covers_run}
use Rattle.model.specs.declared.Hole.{Hole}
use Rattle.model.specs.Arena.{Arena, commit}
use Rattle.model.specs.Ledger.{in_holes, above}
use Rattle.model.proofs.Runs.{covers_in, above_at}
use Rattle.model.proofs.Sums.{zeros, total_plus, above-total, covers-total}
use Rattle.model.proofs.HoleLists.{all_map}
use Rattle.model.proofs.Tidy.{Tidy}
use Rattle.model.proofs.ArenaLaws.{idle, commit-law}

-- a run with no page at or above the frontier ends there or below
pub run-below : (n q f : ℕ) → 1 ≤ n → ((x : ℕ) → covers n q x + above f x ≤ 1) → q + n ≤ f
run-below n q f one k =
    let x = q + n - 1 in
    by_cases (ltb x f)
    (λ e. omega (arith, ltb-true x f e))
    (λ e. omega (arith, k x, covers_in n q x (omega arith) (omega arith), above_at f x (ltb-false x f e)))

-- so does a run that a commit answers, where no page was idle twice
pub commit-below : (size h n : ℕ) (a : Arena) → 1 ≤ n → ((x : ℕ) → idle x a ≤ 1) → (q : ℕ) → (commit size h n a).run ≡ some q → q + n ≤ (commit size h n a).arena.frontier
commit-below size h n a one k q e = run-below n q (commit size h n a).arena.frontier one (λ x. omega (arith, k x, (commit-law size h n a).pages x, ap (λ o. covers_run n o x) e))

-- no page is idle twice: so every hole lies below the frontier
abbrev pub HolesBelow : ℕ → List Hole → Type 0
HolesBelow f hs = All (λ h. h.first + h.pages ≤ f) hs

holes_below : (f : ℕ) (hs : List Hole) → All (λ h. 1 ≤ h.pages) hs → ((x : ℕ) → total (λ h. covers h.pages h.first x) hs + above f x ≤ 1) → HolesBelow f hs
holes_below f [] each k = tt
holes_below f (h ∷ hs) each k =
    (run-below h.pages h.first f each.0 (λ x. omega (arith, k x)), holes_below f hs each.1 (λ x. omega (arith, k x)))

pub holes-below : (a : Arena) → Tidy a.store → ((x : ℕ) → idle x a ≤ 1) → HolesBelow a.frontier a.store.holes
holes-below a t k = holes_below a.frontier a.store.holes t.each k

-- the pages of the holes
holes-total : (size : ℕ) (hs : List Hole) → HolesBelow size hs → total (λ x. total (λ h. covers h.pages h.first x) hs) (below size) ≡ total (λ h. h.pages) hs
holes-total size [] k = zeros (below size)
holes-total size (h ∷ hs) k =
    omega (
      arith,
      total_plus (covers h.pages h.first) (λ x. total (λ g. covers g.pages g.first x) hs) (below size),
      covers-total h.pages h.first size k.0,
      holes-total size hs k.1,
    )

pub idle_figure : (size : ℕ) (a : Arena) → Tidy a.store → a.frontier ≤ size → ((x : ℕ) → idle x a ≤ 1) → a.store.total + (size - a.frontier) ≡ total (λ x. idle x a) (below size)
idle_figure size a t l k =
    let low = all_map (λ h. h.first + h.pages ≤ a.frontier) (λ h. h.first + h.pages ≤ size) (λ h b. omega arith) a.store.holes (holes-below a t k) in
    omega (
      arith,
      t.sum,
      total_plus (λ x. in_holes x a) (above a.frontier) (below size),
      above-total a.frontier size,
      holes-total size a.store.holes low,
    )
