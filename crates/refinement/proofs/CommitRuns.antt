-- A commit for a class, once the pages of its run name the run's first page: which runs are whole.
--     claim-others       every other run, of this class or another, as before
--     claim-new          the run itself is whole now
--     claim-none         no class had a run there before
-- b is the book before the commit, b' any book that stands for the model's arena and holders after it.
use Rattle.facts.proofs.Prelude.{ℕ, ◌+◌, ◌≤◌, ◌<◌, arith, true, false, List, some, ◌≡◌, refl, sym, ap, ◌∙◌, eqb, eqb-true, eqb-false, le-leb, lt-ltb, by_cases}
use Rattle.model.specs.Cover.{in_run, covers, covers_run}
use Rattle.classes.specs.declared.Shape.{Shape}
use Rattle.fields.specs.Field.{page, owner, first, get}
use Rattle.model.specs.Arena.{commit}
use Rattle.model.specs.Class.{Class}
use Rattle.model.specs.Heap.{Heap, nobody, class, pass_to}
use Rattle.model.proofs.ArenaLaws.{idle, commit-law}
use Rattle.model.proofs.IdlePages.{commit-below}
use Rattle.pages.specs.Runs.{whole}
use Rattle.pages.proofs.Runs.{whole_says}
use Rattle.arena.specs.way.Represents.{ArenaRep}
use Rattle.refinement.proofs.ArenaReached.{Reached, heap_of, idle-once, idle-nobody}
use Rattle.refinement.proofs.ArenaValid.{loads-frontier}
use Rattle.refinement.proofs.ArenaRuns.{class-other, drawn-whole, claimed_others, claimed_new}

module _ (n : ℕ) (b : List ℕ) (H : Heap) (rep : ArenaRep n b H) (r : Reached n H) (h m : ℕ) (one : 1 ≤ m) (q : ℕ) (answers : (commit n h m H.arena).run ≡ some q) where
  run-covers : (y : ℕ) → covers_run m (commit n h m H.arena).run y ≡ covers m q y
  run-covers y = ap (λ o. covers_run m o y) answers

  pub run-nobody : (y : ℕ) → in_run m q y ≡ true → H.holder y ≡ nobody
  run-nobody y e =
      let k : covers m q y ≡ 1 = rw e in
      idle-nobody n H r y (omega (arith, (commit-law n h m H.arena).pages y, run-covers y))

  pub claim_none : (sh : Shape) (d : ℕ) → 1 ≤ sh.pages → whole n b sh d q ≡ false
  claim_none sh d l =
      by_cases (whole n b sh d q)
      (λ e. absurd (let w = whole_says n b sh d q e in
      let o = w.owner q (omega arith) (omega arith) in
      let u : q < H.arena.frontier = omega (arith, w.below, loads-frontier b H.arena rep.loads) in
      let z : get b (page owner q) ≡ 0 = rw (run-nobody q (rw (le-leb q q (omega arith), lt-ltb q (q + m) (omega arith)))) at (rep.owners q u) in
      omega arith))
      (λ e. e)

  module _ (c : ℕ) (cs : ℕ → Class) (b' : List ℕ)
      (rep' : ArenaRep n b' (heap_of H.rules (commit n h m H.arena).arena (pass_to (class c) (covers_run m (commit n h m H.arena).run) H.holder) cs))
      (inside : (y : ℕ) → in_run m q y ≡ true → get b' (page first y) ≡ q) (outside : (y : ℕ) → in_run m q y ≡ false → get b' (page first y) ≡ get b (page first y)) where
    passed_in : (y : ℕ) → eqb (covers_run m (commit n h m H.arena).run y) 0 ≡ false → in_run m q y ≡ true
    passed_in y e = by_cases (in_run m q y) (λ t. t) (λ t. absurd (eqb-false (covers_run m (commit n h m H.arena).run y) 0 e (run-covers y ∙ rw t)))

    left_out : (y : ℕ) → eqb (covers_run m (commit n h m H.arena).run y) 0 ≡ true → in_run m q y ≡ false
    left_out y e =
        let z = eqb-true (covers_run m (commit n h m H.arena).run y) 0 e in
        by_cases (in_run m q y) (λ t. absurd (let k : covers m q y ≡ 1 = rw t in omega (arith, run-covers y))) (λ t. t)

    pub claim_others : (sh : Shape) (d x : ℕ) → 1 ≤ sh.pages → (d ≡ c → x ≡ q → ⊥) → whole n b' sh d x ≡ whole n b sh d x
    claim_others sh d x l ne =
        let g = commit n h m H.arena in
        let law = commit-law n h m H.arena in
        let drawn : (y : ℕ) → idle y g.arena + covers_run m g.run y ≤ idle y H.arena = λ y. omega (arith, law.pages y) in
        by_cases (eqb d c)
        (λ e. let z = eqb-true d c e in
        claimed_others n b b' H r rep g.arena (covers_run m g.run) (class c) cs rep' law.rises drawn
        (λ y t. outside y (left_out y t)) q (λ y t. inside y (passed_in y t)) sh d x l (ne z))
        (λ e. let z : d ≡ c → ⊥ = eqb-false d c e in
        drawn-whole n b b' H r rep g.arena (covers_run m g.run) (class c) cs rep' law.rises drawn
        (λ y t. outside y (left_out y t)) sh d x l (class-other c d (λ w. z (sym w))))

    pub claim_new : (sh : Shape) → sh.pages ≡ m → whole n b' sh c q ≡ true
    claim_new sh e =
        let g = commit n h m H.arena in
        let law = commit-law n h m H.arena in
        let drawn : (y : ℕ) → idle y g.arena + covers_run m g.run y ≤ idle y H.arena = λ y. omega (arith, law.pages y) in
        claimed_new n b b' H r rep g.arena (covers_run m g.run) (class c) cs rep' law.rises drawn (λ y t. outside y (left_out y t)) c q refl sh
        (λ y t. within y (rw e at t)) (λ y t. inside y (passed_in y t)) (omega (arith, commit-below n h m H.arena one (idle-once n H r) q answers)) (law.bound r.bound)
      where
        within : (y : ℕ) → in_run m q y ≡ true → eqb (covers_run m (commit n h m H.arena).run y) 0 ≡ false
        within y t = rw (run-covers y, t)
