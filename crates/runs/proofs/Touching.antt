-- What a give finds and tests of the holes, one by one: those that touch its run are those of the model's search, and each is in its range.
--     neighbours-are    what is found among all holes is what a give finds
--     ends-valid        the test of a hole, by differences that may wrap
--     all-ends-valid    the test of all holes
use Rattle.facts.proofs.Prelude.{ℕ, suc, ◌+◌, ◌%◌, ◌<◌, ◌^◌, arith, Bool, true, cond, ◌&&◌, List, [], ◌∷◌, Option, none, some}
use Rattle.facts.proofs.Prelude.{◌≡◌, refl, leb, ltb, leb-true, leb-false, lt-leb, lt-ltb, le-ltb, every, by_cases, and_no}
use Rattle.model.specs.declared.Hole.{Hole}
use Rattle.model.specs.HoleStore.{next, lowest_that, ends_at, starts_at, hole_before, hole_after}
use Rattle.arena.specs.Valid.{hole_ends_valid}
use Rattle.runs.specs.declared.holes.Edges.{Edges}
use Rattle.runs.specs.way.Plan.{index_code, neighbours_of}
use Rattle.runs.specs.way.Scan.{no_neighbours, fold_holes, neighbours_from}

-- the code of an index behind i others
abbrev code_behind : ℕ → Option ℕ → ℕ
code_behind i none = 0
code_behind i (some j) = i + suc j

behind-next : (i : ℕ) (o : Option ℕ) → code_behind (suc i) o ≡ code_behind i (next o)
behind-next i none = refl
behind-next i (some j) = omega arith

code-lowest : (t : Hole → Bool) (h : Hole) (hs : List Hole) (i : ℕ) → cond (t h) (i + 1) (code_behind (suc i) (lowest_that t hs)) ≡ code_behind i (lowest_that t (h ∷ hs))
unfolding lowest_that
code-lowest t h hs i = by_cases (t h) (λ e. rw e) (λ e. rw e (behind-next i (lowest_that t hs)))

found : (run : Edges) (hs : List Hole) (i : ℕ) → neighbours_from run i hs no_neighbours ≡ record { before = code_behind i (hole_before run.first hs); after = code_behind i (hole_after run.end hs) }
unfolding fold_holes lowest_that
found run [] i = refl
found run (h ∷ hs) i =
    rw (found run hs (suc i))
    (rw (code-lowest (ends_at run.first) h hs i, code-lowest (starts_at run.end) h hs i))

code-first : (o : Option ℕ) → code_behind 0 o ≡ index_code o
code-first none = refl
code-first (some j) = omega arith

-- ---- ranges: u is one page less than the hole has, and v what is left from its first page on
pub ends-valid : (h : Hole) (f u v : ℕ) → h.first < 2 ^ 32 → h.pages < 2 ^ 32 → f < 2 ^ 32 → u < 2 ^ 32 → v < 2 ^ 32 → (u + 1) % 2 ^ 32 ≡ h.pages → (v + h.first) % 2 ^ 32 ≡ f
    → (leb h.first f && ltb u v) ≡ hole_ends_valid f h
ends-valid h f u v l₁ l₂ l₃ l₄ l₅ e d =
    by_cases (leb h.first f)
    (λ r. let w : v + h.first ≡ f = (let z = leb-true h.first f r in omega arith) in
    by_cases (leb 1 h.pages)
    (λ s. let y : u + 1 ≡ h.pages = (let z = leb-true 1 h.pages s in omega arith) in
    by_cases (leb (h.first + h.pages) f)
    (λ t. rw (r, s, t, lt-ltb u v (let z = leb-true (h.first + h.pages) f t in omega arith)))
    (λ t. rw (r, s, t, le-ltb u v (let z = leb-false (h.first + h.pages) f t in omega arith))))
    (λ s. rw (r, s, le-ltb u v (let z = leb-false 1 h.pages s in omega arith))))
    (λ r. simp (r, lt-leb (h.first + h.pages) f (let z = leb-false h.first f r in omega arith), and_no))

abbrev pub valid_at : ℕ → ℕ → Hole → Bool → Bool
valid_at f i h t = hole_ends_valid f h && t

pub all_ends_valid : (f : ℕ) (hs : List Hole) (i : ℕ) → fold_holes (valid_at f) i hs true ≡ every (hole_ends_valid f) hs
unfolding fold_holes
all_ends_valid f [] i = refl
all_ends_valid f (h ∷ hs) i = rw (all_ends_valid f hs (suc i))

-- ---- neighbours
pub neighbours-are : (run : Edges) (hs : List Hole) → neighbours_from run 0 hs no_neighbours ≡ neighbours_of hs run
unfolding neighbours_of
neighbours-are run hs = rw (found run hs 0, code-first (hole_before run.first hs), code-first (hole_after run.end hs))
