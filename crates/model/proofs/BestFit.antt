-- A commit answers by best fit, or none with its reason, on every arena.
use Rattle.facts.proofs.Prelude.{ℕ, ◌+◌, ◌≤◌, ◌<◌, Bool, true, false, List, Option, none, some, ◌≡◌, refl, ap, ◌∙◌, leb, leb-true, leb-false, by_cases}
use Rattle.words.specs.Host.{reservation_granted, commit_granted}
use Rattle.model.specs.declared.Hole.{Hole}
use Rattle.model.specs.HoleStore.{hole_at}
use Rattle.model.specs.Arena.{Arena, Status, unasked, ready, disabled, with_status, draw_from, draw, grant, commit_ready, commit_as, commit}
use Rattle.model.specs.BestFit.{LeastAt, Which, NoneFits, usable, Commits, from-hole, from-frontier, unusable, ungranted, exhausted}
use Rattle.model.proofs.StoreLaws.{Chosen, at-hole, no-hole, chosen}

-- what is drawn from a store and a frontier, before the host is asked
data Draws (size n : ℕ) (hs : List Hole) (f : ℕ) : Option ℕ → Bool → Type 0 where
  draws-hole : (i : ℕ) → LeastAt n hs i → Which hs i → Draws size n hs f (some (hole_at i hs).first) false
  draws-frontier : NoneFits n hs → f + n ≤ size → Draws size n hs f (some f) true
  draws-none : NoneFits n hs → size < f + n → Draws size n hs f none false

module _ (size n : ℕ) (a : Arena) where
  draws_from : {o : Option ℕ} → Chosen n a.store.holes o → Draws size n a.store.holes a.frontier (draw_from size n a o).run (draw_from size n a o).fresh
  unfolding draw_from
  draws_from (at-hole i k w) = draws-hole i k w
  draws_from (no-hole k) =
      by_cases (leb (a.frontier + n) size)
      (λ d. rw d (draws-frontier k (leb-true (a.frontier + n) size d)))
      (λ d. rw d (draws-none k (leb-false (a.frontier + n) size d)))

  draws : Draws size n a.store.holes a.frontier (draw size n a).run (draw size n a).fresh
  unfolding draw
  draws = draws_from (chosen n a.store.holes)

module _ (size h n : ℕ) (a : Arena) where
  granted : (b : Arena) {o : Option ℕ} {f : Bool} → usable h a.status ≡ true → Draws size n a.store.holes a.frontier o f
      → Commits size h n a (grant h n b o f).run (grant h n b o f).fresh
  unfolding grant
  granted b u (draws-hole i k w) = by_cases (commit_granted h) (λ e. rw e (from-hole i u e k w)) (λ e. rw e (ungranted e))
  granted b u (draws-frontier k l) = by_cases (commit_granted h) (λ e. rw e (from-frontier u e k l)) (λ e. rw e (ungranted e))
  granted b u (draws-none k l) = exhausted k l

  ready-commits : (s : Status) → usable h a.status ≡ true → Commits size h n a (commit_ready size h n (with_status s a)).run (commit_ready size h n (with_status s a)).fresh
  unfolding commit_ready
  ready-commits s u = granted (draw size n (with_status s a)).arena u (draws size n (with_status s a))

  as_commits : (s : Status) → a.status ≡ s → Commits size h n a (commit_as size h n a s).run (commit_as size h n a s).fresh
  unfolding commit_as
  as_commits unasked e =
      by_cases (reservation_granted h)
      (λ d. rw d (ready-commits ready (ap (usable h) e ∙ d)))
      (λ d. rw d (unusable (ap (usable h) e ∙ d)))
  as_commits ready e = ready-commits a.status (ap (usable h) e)
  as_commits disabled e = unusable (ap (usable h) e)

  pub commits : Commits size h n a (commit size h n a).run (commit size h n a).fresh
  unfolding commit
  commits = as_commits a.status refl
