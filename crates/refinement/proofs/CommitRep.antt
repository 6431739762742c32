-- A commit and a growth on the words are the model's, for any holder: a class or the direct calls.
--     commit-for     a commit on the words is never refused, and answers the model's run and whether it is fresh
--     commit-rep     the book afterwards stands for the model's arena, and the run is the holder's
--     grow-rep       the same for a growth
use Rattle.facts.proofs.Prelude.{ℕ, ◌+◌, ◌≤◌, arith, Bool, true, false, cond, List, Option, none, some, ◌≡◌, refl, subst, fun_ext}
use Rattle.model.specs.Cover.{covers, covers_run}
use Rattle.fields.specs.Field.{arena, held, get}
use Rattle.model.specs.Arena.{Arena, commit, grow}
use Rattle.model.specs.Ledger.{above}
use Rattle.model.specs.Class.{Class}
use Rattle.model.specs.Heap.{Heap, Holder, direct, is_held, pass_to, held_pages}
use Rattle.model.proofs.ArenaLaws.{commit-law, grow-law, grow-rises, grow-bound}
use Rattle.model.proofs.IdlePages.{run-below, commit-below}
use Rattle.arena.specs.Owners.{owner_code, own}
use Rattle.arena.specs.Calls.{advance, passed_to, committed, commit_book, commit_for, grown_by, grown_book, grow_book}
use Rattle.arena.specs.way.Represents.{ArenaRep}
use Rattle.refinement.proofs.ArenaStored.{Stored, commit-stored, grow-stored, stored-few}
use Rattle.refinement.proofs.ArenaReached.{Reached, heap_of, idle-once, above-nobody}
use Rattle.refinement.proofs.ArenaValid.{loads-frontier, commit-passes}
use Rattle.refinement.proofs.ArenaHeld.{held_more}
use Rattle.refinement.proofs.ArenaSteps.{Stands, rep-stands, stands-rep, store-stands, own-stands, fresh-stands, held-stands}

pub grown-covers : (m : ℕ) (y : Bool) (e x : ℕ) → covers_run m (grown_by y e) x ≡ cond y (covers m e x) 0
grown-covers m true e x = refl
grown-covers m false e x = refl

module _ (n : ℕ) (b : List ℕ) (H : Heap) (rep : ArenaRep n b H) (r : Reached n H) where
  module _ (a : Arena) (x : List ℕ) (stored : Stored b a x) (rises : H.arena.frontier ≤ a.frontier) (bound : a.frontier ≤ n) where
    advance-stands : Stands n (advance b x a.frontier) a H.holder a.frontier (held_pages n H)
    unfolding advance
    advance-stands =
        let s = store-stands n b H.arena H.holder H.arena.frontier (held_pages n H) (rep-stands n b H rep) a x stored in
        rw (loads-frontier b H.arena rep.loads)
        (fresh-stands n _ a H.holder H.arena.frontier (held_pages n H) s (stored-few b stored) a.frontier rises bound (above-nobody n H r))

    -- a run that nobody held passes to a holder, and counts as held
    passed-rep : (o : Option ℕ) (m : ℕ) (who : Holder) → is_held who ≡ 1 → ((x : ℕ) → covers_run m o x + is_held (H.holder x) ≤ 1)
        → ((q : ℕ) → o ≡ some q → q + m ≤ n) → (cs : ℕ → Class)
        → ArenaRep n (passed_to b x a.frontier o m (owner_code who)) (heap_of H.rules a (pass_to who (covers_run m o) H.holder) cs)
    unfolding passed_to
    passed-rep none m who one free low cs =
        stands-rep n _ a H.holder (get b (arena held)) cs rep.held
        (held-stands n (advance b x a.frontier) a H.holder a.frontier (held_pages n H) advance-stands (stored-few b stored) (get b (arena held)))
    passed-rep (some q) m who one free low cs =
        let w = pass_to who (covers m q) H.holder in
        let s = own-stands n (advance b x a.frontier) a H.holder a.frontier (held_pages n H) advance-stands (stored-few b stored) q m (low q refl) who in
        stands-rep n _ a w (get b (arena held) + m) cs (omega (arith, rep.held, held_more n q m H.holder (low q refl) who one free))
        (held-stands n (own (advance b x a.frontier) q m (owner_code who)) a w a.frontier (held_pages n H) s (stored-few b stored) (get b (arena held) + m))

  module _ (h m : ℕ) where
    pub commit_for_lem : (w : ℕ) → commit_for n b h m w
        ≡ (let g = commit n h m H.arena in record { code = 0; book = commit_book n b h m H.arena w; run = g.run; fresh = g.fresh })
    unfolding commit_for
    commit_for_lem w = rw (commit-passes n b H rep r, rep.loads)

    module _ (one : 1 ≤ m) (who : Holder) (holds : is_held who ≡ 1) (cs : ℕ → Class) where
      pub commit-rep : ArenaRep n (commit_book n b h m H.arena (owner_code who))
          (heap_of H.rules (commit n h m H.arena).arena (pass_to who (covers_run m (commit n h m H.arena).run) H.holder) cs)
      unfolding committed
      commit-rep =
          let g = commit n h m H.arena in
          let law = commit-law n h m H.arena in
          passed-rep g.arena _ (commit-stored h m b n H.arena r.tidy.slots) law.rises (law.bound r.bound) g.run m who holds
          (λ x. omega (arith, law.pages x, r.apart x))
          (λ q e. omega (arith, commit-below n h m H.arena one (idle-once n H r) q e, law.bound r.bound))
          cs

    -- a growth of the run that ends at e is for the direct calls alone
    pub grow-rep : 1 ≤ m → (e : ℕ) (cs : ℕ → Class) → ArenaRep n (grow_book n b h e m H.arena)
        (heap_of H.rules (grow n h e m H.arena).arena (pass_to direct (λ x. cond (grow n h e m H.arena).grew (covers m e x) 0) H.holder) cs)
    unfolding grown_book
    grow-rep one e cs =
        let g = grow n h e m H.arena in
        let bound = grow-bound n h e m H.arena r.bound in
        let same : covers_run m (grown_by g.grew e) ≡ (λ x. cond g.grew (covers m e x) 0) = fun_ext (grown-covers m g.grew e) in
        subst (λ k. ArenaRep n (grow_book n b h e m H.arena) (heap_of H.rules g.arena (pass_to direct k H.holder) cs)) same
        (passed-rep g.arena _ (grow-stored h m b n e H.arena r.tidy.slots) (grow-rises n h e m H.arena) bound (grown_by g.grew e) m direct refl
        (λ x. omega (arith, grown-covers m g.grew e x, grow-law n h e m H.arena x, r.apart x))
        (λ q d. omega (arith, bound, inside g.grew e q d g.arena.frontier (λ x. omega (arith, grow-law n h e m H.arena x, idle-once n H r x))))
        cs)
      where
        inside : (y : Bool) (e q : ℕ) → grown_by y e ≡ some q → (f : ℕ) → ((x : ℕ) → cond y (covers m e x) 0 + above f x ≤ 1) → q + m ≤ f
        inside true e q d f k = let z : e ≡ q = cc in omega (arith, run-below m e f one k)
        inside false e q d f k = absurd (let z : ◌≡◌ {A = ℕ} 0 1 = cc in omega arith)
