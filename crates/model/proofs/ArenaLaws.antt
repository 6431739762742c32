-- The arena keeps account of pages: what a commit, a growth or a give takes from the idle pages or adds to them.
use Rattle.facts.proofs.Prelude.{ℕ, ◌+◌, ◌≤◌, arith, Bool, true, false, cond, List, [], ◌∷◌, Option, none}
use Rattle.facts.proofs.Prelude.{some, ◌≡◌, refl, ap, ◌∙◌, leb-true, eqb-true, by_cases, and_left, and_right}
use Rattle.model.specs.Cover.{covers, covers_all, covers_run}
use Rattle.words.specs.Host.{reservation_granted, commit_granted}
use Rattle.model.specs.HoleStore.{accepts, insert}
use Rattle.model.specs.Arena.{Arena, Status, unasked, ready, disabled, with_status, with_frontier, give, give_all, Given, given, draw_from, draw, grant, commit_ready, commit_as, commit, can_grow, grow}
use Rattle.model.specs.Ledger.{in_holes, above, abandons, all_abandon, grant_abandons, ready_abandons, commit_abandons, grow_abandons}
pub use Rattle.model.proofs.Runs.{covers_in, covers-before, covers-after, covers-le, above_at, above-not, above-cut}
use Rattle.model.proofs.Placing.{place-covers}
use Rattle.model.proofs.StoreLaws.{Chosen, at-hole, no-hole, chosen, take-law}

-- how often page x is idle
abbrev pub idle : ℕ → Arena → ℕ
idle x a = in_holes x a + above a.frontier x

-- giving
pub give-frontier : (n q : ℕ) (a : Arena) → (give n q a).frontier ≡ a.frontier
unfolding give
give-frontier n q a = by_cases (accepts n q a.store) (λ e. rw e refl) (λ e. rw e refl)

pub give-law : (n q x : ℕ) (a : Arena) → idle x (give n q a) + abandons n q a x ≡ idle x a + covers n q x
unfolding give insert
give-law n q x a =
    by_cases (accepts n q a.store)
    (λ e. rw e (omega (arith, place-covers n q x a.store.holes)))
    (λ e. rw e (omega arith))

pub give_all-law : (n x : ℕ) (qs : List ℕ) (a : Arena) → idle x (give_all n qs a) + all_abandon n qs a x ≡ idle x a + covers_all n qs x
give_all-law n x [] a = omega arith
give_all-law n x (q ∷ qs) a = omega (arith, give-law n q x a, give_all-law n x qs (give n q a))

pub give_all-frontier : (n : ℕ) (qs : List ℕ) (a : Arena) → (give_all n qs a).frontier ≡ a.frontier
give_all-frontier n [] a = refl
give_all-frontier n (q ∷ qs) a = give_all-frontier n qs (give n q a) ∙ give-frontier n q a

-- drawing: the run leaves the idle pages
pub record Drawn (size n : ℕ) (a : Arena) (d : Given) : Type 0 where
  pub pages : (x : ℕ) → idle x d.arena + covers_run n d.run x ≡ idle x a
  rises : a.frontier ≤ d.arena.frontier
  pub bound : a.frontier ≤ size → d.arena.frontier ≤ size

module _ (size n : ℕ) (a : Arena) where
  drawn-cond : (b : Bool) (x y : Given) → (b ≡ true → Drawn size n a x) → (b ≡ false → Drawn size n a y) → Drawn size n a (cond b x y)
  drawn-cond true x y p q = p refl
  drawn-cond false x y p q = q refl

  drawn-frontier : a.frontier + n ≤ size → Drawn size n a (given (with_frontier (a.frontier + n) a) (some a.frontier) true)
  drawn-frontier l = record { pages = λ x. omega (arith, above-cut n a.frontier x); rises = omega arith; bound = λ b. l }

  drawn-none : Drawn size n a (given a none false)
  drawn-none = record { pages = λ x. omega arith; rises = omega arith; bound = λ b. b }

  drawn_from : {o : Option ℕ} → Chosen n a.store.holes o → Drawn size n a (draw_from size n a o)
  unfolding draw_from
  drawn_from (at-hole i k w) = record { pages = λ x. omega (arith, take-law n i x a.store k.inside k.enough); rises = omega arith; bound = λ b. b }
  drawn_from (no-hole k) = search (drawn-cond, drawn-frontier, drawn-none, leb-true)

pub drawn : (size n : ℕ) (a : Arena) → Drawn size n a (draw size n a)
unfolding draw
drawn size n a = drawn_from size n a (chosen n a.store.holes)

-- a commit: the run answered and what was abandoned leave the idle pages
pub record CommitLaw (size n : ℕ) (a : Arena) (g : Given) (lost : ℕ → ℕ) : Type 0 where
  pub pages : (x : ℕ) → idle x g.arena + covers_run n g.run x + lost x ≡ idle x a
  pub rises : a.frontier ≤ g.arena.frontier
  pub bound : a.frontier ≤ size → g.arena.frontier ≤ size

module _ (size h n : ℕ) where
  granted : (a b : Arena) (o : Option ℕ) (f : Bool) → Drawn size n a (record { arena = b; run = o; fresh = f }) → CommitLaw size n a (grant h n b o f) (grant_abandons h n b o)
  unfolding grant
  granted a b none f d = record { pages = λ x. omega (arith, d.pages x); rises = d.rises; bound = d.bound }
  granted a b (some q) f d =
      by_cases (commit_granted h)
      (λ e. rw e (record { pages = λ x. rw e (omega (arith, d.pages x)); rises = d.rises; bound = d.bound }))
      (λ e. rw e (record { pages = λ x. rw e (omega (arith, d.pages x, give-law n q x b)); rises = omega (arith, d.rises, give-frontier n q b); bound = λ k. omega (arith, d.bound k, give-frontier n q b) }))

  ready-law : (a : Arena) → CommitLaw size n a (commit_ready size h n a) (ready_abandons size h n a)
  unfolding commit_ready ready_abandons
  ready-law a = let d = draw size n a in granted a d.arena d.run d.fresh (drawn size n a)

  as_law : (a : Arena) (s : Status) → CommitLaw size n a (commit_as size h n a s) (commit_abandons size h n a s)
  unfolding commit_as
  as_law a unasked =
      by_cases (reservation_granted h)
      (λ e. rw e (let r = ready-law (with_status ready a) in record { pages = λ x. rw e (r.pages x); rises = r.rises; bound = r.bound }))
      (λ e. rw e (record { pages = λ x. rw e (omega arith); rises = omega arith; bound = λ k. k }))
  as_law a ready = ready-law a
  as_law a disabled = record { pages = λ x. omega arith; rises = omega arith; bound = λ k. k }

  pub commit-law : (a : Arena) → CommitLaw size n a (commit size h n a) (commit_abandons size h n a a.status)
  unfolding commit
  commit-law a = as_law a a.status

-- growing
module _ (size h e n : ℕ) (a : Arena) where
  pub grow-law : (x : ℕ) → idle x (grow size h e n a).arena + cond (grow size h e n a).grew (covers n e x) 0 + grow_abandons size h e n a x ≡ idle x a
  unfolding grow
  grow-law x =
      by_cases (can_grow size e n a)
      (λ d. let f = eqb-true a.frontier e (search and_left) in
      by_cases (commit_granted h)
      (λ c. rw d (rw c (omega (arith, above-cut n e x, ap (λ f. above f x) f))))
      (λ c. rw d (rw c (omega (arith, above-cut n e x, ap (λ f. above f x) f, give-law n e x (with_frontier (e + n) a))))))
      (λ d. rw d (omega arith))

  pub grow-rises : a.frontier ≤ (grow size h e n a).arena.frontier
  unfolding grow
  grow-rises =
      by_cases (can_grow size e n a)
      (λ d. let f = eqb-true a.frontier e (search and_left) in
      by_cases (commit_granted h)
      (λ c. rw d (rw c (omega arith)))
      (λ c. rw d (rw c (omega (arith, give-frontier n e (with_frontier (e + n) a))))))
      (λ d. rw d (omega arith))

  pub grow-bound : a.frontier ≤ size → (grow size h e n a).arena.frontier ≤ size
  unfolding grow
  grow-bound k =
      by_cases (can_grow size e n a)
      (λ d. let l = leb-true (e + n) size (search and_right) in
      by_cases (commit_granted h)
      (λ c. rw d (rw c l))
      (λ c. rw d (rw c (omega (arith, give-frontier n e (with_frontier (e + n) a))))))
      (λ d. rw d k)
