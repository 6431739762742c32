-- The pages held, as a number: what a run adds when it passes to a holder, and takes away when it passes to nobody.
use Rattle.facts.proofs.Prelude.{ℕ, zero, suc, ◌+◌, ◌-◌, ◌≤◌, arith, cond, ◌≡◌, eqb, ltb, ltb-true, ltb-false, eqb-true, eqb-false, total, below, by_cases}
use Rattle.model.specs.Cover.{covers}
use Rattle.model.specs.Heap.{Holder, nobody, is_held, pass_to}
use Rattle.model.proofs.Runs.{covers_in, covers-before, covers-after}

abbrev pub held_of : ℕ → (ℕ → Holder) → ℕ
held_of n w = total (λ x. is_held (w x)) (below n)

-- one page more of each of m pages from q on
sum-run : (f g : ℕ → ℕ) (m q : ℕ) → ((x : ℕ) → g x ≡ f x + covers m q x) → (n : ℕ) → total g (below n) ≡ total f (below n) + (n - q - (n - (q + m)))
sum-run f g m q h zero = omega arith
sum-run f g m q h (suc n) =
    let ih = sum-run f g m q h n in
    by_cases (ltb n q)
    (λ e. let l = ltb-true n q e in omega (arith, h n, covers-before m q n l))
    (λ e. let l = ltb-false n q e in
    by_cases (ltb n (q + m))
    (λ d. let u = ltb-true n (q + m) d in omega (arith, h n, covers_in m q n l u))
    (λ d. let u = ltb-false n (q + m) d in omega (arith, h n, covers-after m q n u)))

run-total : (f g : ℕ → ℕ) (m q n : ℕ) → q + m ≤ n → ((x : ℕ) → g x ≡ f x + covers m q x) → total g (below n) ≡ total f (below n) + m
run-total f g m q n l h = omega (arith, sum-run f g m q h n)

module _ (n q m : ℕ) (w : ℕ → Holder) (l : q + m ≤ n) where
  pub held_more : (who : Holder) → is_held who ≡ 1 → ((x : ℕ) → covers m q x + is_held (w x) ≤ 1) → held_of n (pass_to who (covers m q) w) ≡ held_of n w + m
  held_more who one k = run-total (λ x. is_held (w x)) (λ x. is_held (pass_to who (covers m q) w x)) m q n l (λ x. at (w x) (covers m q x) (k x))
    where
      at : (o : Holder) (g : ℕ) → g + is_held o ≤ 1 → is_held (cond (eqb g 0) o who) ≡ is_held o + g
      at o g a = by_cases (eqb g 0) (λ e. rw e (let z = eqb-true g 0 e in omega arith)) (λ e. let z : g ≡ 0 → ⊥ = eqb-false g 0 e in rw e (omega (arith, z)))

  pub held-less : ((x : ℕ) → covers m q x ≤ is_held (w x)) → held_of n w ≡ held_of n (pass_to nobody (covers m q) w) + m
  held-less k = run-total (λ x. is_held (pass_to nobody (covers m q) w x)) (λ x. is_held (w x)) m q n l (λ x. at (w x) (covers m q x) (k x) (one (w x)))
    where
      one : (o : Holder) → is_held o ≤ 1
      one Holder.nobody = omega arith
      one Holder.direct = omega arith
      one (Holder.class c) = omega arith

      at : (o : Holder) (g : ℕ) → g ≤ is_held o → is_held o ≤ 1 → is_held o ≡ is_held (cond (eqb g 0) o nobody) + g
      at o g a b = by_cases (eqb g 0) (λ e. rw e (let z = eqb-true g 0 e in omega arith)) (λ e. let z : g ≡ 0 → ⊥ = eqb-false g 0 e in rw e (omega (arith, z)))
