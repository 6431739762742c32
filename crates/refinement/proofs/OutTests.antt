-- A release's tests of its blocks on the words are the model's, since no mark of a run is set.
--     run-unmarked    no mark of a run of the class is set
--     fault-same      numbers 13 for a mark, 15 and 10: the first never, the others as the model has them
use Rattle.facts.proofs.Prelude.{ℕ, ◌+◌, ◌/◌, ◌≤◌, ◌<◌, arith, true, false, cond, not, List, [], ◌∷◌, map, ◌≡◌, refl, ap, subst, leb}
use Rattle.facts.proofs.Prelude.{ltb, eq-eqb, leb-true, leb-false, ltb-true, filter, every, All, distinct, by_cases, and_left, and_right}
use Rattle.words.specs.Host.{digit}
use Rattle.classes.specs.declared.Shape.{Shape}
use Rattle.fields.specs.Field.{mark, get}
use Rattle.fields.specs.Ranges.{max_pages}
use Rattle.model.specs.Page.{Page, reused}
use Rattle.model.specs.Class.{Class, thawed}
use Rattle.model.specs.Release as Model
use Rattle.model.specs.Release.{of_kind, out_here}
use Rattle.model.proofs.Counts.{each-once}
use Rattle.pages.specs.Runs.{whole}
use Rattle.pages.specs.Stack.{index_of, is_block}
use Rattle.pages.specs.Carve.{out_words}
use Rattle.calls.specs.Out.{start_of, out_in, out_at, clean, unmarked, repeats, out_fault}
use Rattle.refinement.specs.way.Represents.{PageRep, Parked, heads, StateRep}
use Rattle.refinement.proofs.Basics.{Setting}
use Rattle.refinement.proofs.Found.{destination, all-destination, run_of_lem, out-here, outs-here}

-- what the model's tests of numbers 15 and 10 leave
pub once-here : (sh : Shape) (t : Class) (ws : List ℕ) → Model.repeats sh t ws ≡ false → every (out_here sh t) ws ≡ true → distinct ws ≡ true
unfolding Model.repeats
once-here sh t ws u o = each-once (out_here sh t) ws u o

-- a page of one of four lists
one_of : {P : Type 0} (a d e f : ℕ) → a + d + e + f ≡ 1 → (1 ≤ a → P) → (1 ≤ d → P) → (1 ≤ e → P) → (1 ≤ f → P) → P
one_of a d e f z n₁ n₂ n₃ n₄ =
    by_cases (leb 1 a) (λ u. n₁ (leb-true 1 a u))
    (λ u. by_cases (leb 1 d) (λ v. n₂ (leb-true 1 d v))
    (λ v. by_cases (leb 1 e) (λ x. n₃ (leb-true 1 e x))
    (λ x. n₄ (omega (arith, leb-false 1 a u, leb-false 1 d v, leb-false 1 e x)))))

module _ {n : ℕ} {b : List ℕ} {c : ℕ} {sh : Shape} (t : Class) (r : StateRep n b c sh t) where
  pub run-unmarked : (q : ℕ) → whole n b sh c q ≡ true → (j : ℕ) → j < out_words sh → get b (mark q j) ≡ 0
  run-unmarked q w j l =
      let y : digit (whole n b sh c q) ≡ 1 = ap digit w in
      let xs = map (reused sh) t.empty in
      let ys = map (thawed sh) t.cold in
      let on : (k : ℕ) (zs : List Page) → All (PageRep n sh b c k) zs → 1 ≤ heads q zs → get b (mark q j) ≡ 0
      = λ k zs a h. let p = destination q zs h in subst (λ (x : ℕ). get b (mark x j) ≡ 0) p.here ((all-destination (PageRep n sh b c k) p a).holds.unmarked j l) in
      let parked : (zs : List Page) → All (Parked n sh b c) zs → 1 ≤ heads q zs → get b (mark q j) ≡ 0
      = λ zs a h. let p = destination q zs h in subst (λ (x : ℕ). get b (mark x j) ≡ 0) p.here ((all-destination (Parked n sh b c) p a).rep.holds.unmarked j l) in
      one_of (heads q t.partial) (heads q xs) (heads q ys) (heads q t.full) (omega (arith, r.runs q))
      (on 1 t.partial r.partials) (parked xs r.parked) (parked ys r.parkeds) (on 0 t.full r.fulls)

module _ {n : ℕ} {b : List ℕ} {c : ℕ} {sh : Shape} (s : Setting n b c sh) (hn : n ≤ max_pages) (t : Class) (r : StateRep n b c sh t) where
  -- a block's mark is among its run's
  mark_in_lem : (w : ℕ) → out_at n b c sh w ≡ true → index_of sh (start_of b w) w / 32 < out_words sh
  unfolding out_at out_in is_block
  mark_in_lem w o =
      let i = index_of sh (start_of b w) w in
      let e : ltb (index_of sh (start_of b w) w) sh.capacity ≡ true = search (and_left, and_right) in
      omega (arith, ltb-true i sh.capacity e)

  out-clean : (w : ℕ) → out_at n b c sh w ≡ true → clean b sh w ≡ true
  out-clean w o = eq-eqb _ 0 (run-unmarked t r (start_of b w) (run_of_lem s hn t r w o) (index_of sh (start_of b w) w / 32) (mark_in_lem w o))

  pub unmarked-all : (ws : List ℕ) → unmarked n b c sh ws ≡ true
  unfolding unmarked
  unmarked-all [] = refl
  unmarked-all (w ∷ ws) = by_cases (out_at n b c sh w) (λ o. rw (o, out-clean w o) (unmarked-all ws)) (λ o. rw o (unmarked-all ws))

  outs-same : (ws : List ℕ) → every (of_kind sh.kind) ws ≡ true → filter (out_at n b c sh) ws ≡ filter (out_here sh t) ws
  outs-same [] k = refl
  outs-same (w ∷ ws) k =
      rw (out-here s hn t r w (and_left (of_kind sh.kind w) (every (of_kind sh.kind) ws) k), outs-same ws (and_right (of_kind sh.kind w) (every (of_kind sh.kind) ws) k))

  pub repeats-same : (ws : List ℕ) → every (of_kind sh.kind) ws ≡ true → repeats n b c sh ws ≡ Model.repeats sh t ws
  unfolding repeats Model.repeats
  repeats-same ws k = rw (outs-same ws k)

  pub fault-same : (ws : List ℕ) → every (of_kind sh.kind) ws ≡ true → out_fault n b c sh ws ≡ cond (Model.repeats sh t ws) 15 (cond (not (every (out_here sh t) ws)) 10 0)
  unfolding out_fault
  fault-same ws k = rw (unmarked-all ws, repeats-same ws k, outs-here s hn t r ws k)
