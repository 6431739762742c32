-- The steps of `plan`.
use Rattle.facts.proofs.Prelude.{ℕ, zero, suc, ◌+◌, ◌<◌, arith, Bool, true, false, List, ◌≡◌, refl, sym, ap, ◌∙◌, replicate, get_or, total, below, by_cases}
use Rattle.std.specs.Prelude.{Ok, Err}
use Rattle.words.specs.declared.refusal.Refusal.{Refusal}
use Rattle.words.specs.declared.refusal.Refusal.TheVariants.{Plan}
use Rattle.words.specs.Refusal.{number_of}
use Rattle.plan.specs.Plan.{class_count, pages_for, pages_of, takes_of, plan_total, bad_plan}
use Rattle.plan.specs.Code.{Fine, Zeros, Summed, PlanEnds}
use Rattle.plan.specs.way.Outcome.{plan_outcome}
use Rattle.plan.proofs.FaultSteps.{fine}

zero-at : (n k : ℕ) → get_or {A = ℕ} (replicate n 0) k 0 ≡ 0
zero-at zero k = refl
zero-at (suc n) zero = refl
zero-at (suc n) (suc k) = zero-at n k

pub zeros : Zeros (replicate class_count 0)
zeros = record { long = refl; zeros = λ c l. zero-at class_count c }

pub unrefused : (ks ts : List ℕ) (r : Bool) → r ≡ bad_plan ks ts → r ≡ false → Fine ks ts
unrefused ks ts r e f = fine ks ts (sym e ∙ f)

same-below : (f g : ℕ → ℕ) (m : ℕ) → ((c : ℕ) → c < m → f c ≡ g c) → total (λ c. pages_for c (f c)) (below m) ≡ total (λ c. pages_for c (g c)) (below m)
same-below f g zero h = refl
same-below f g (suc m) h = rw (h m (omega arith)) (ap (λ z. pages_for m (g m) + z) (same-below f g m (λ c l. h c (omega arith))))

module _ (ks ts : List ℕ) (r : Bool) (e : r ≡ bad_plan ks ts) where
  pub refused : r ≡ true → Err Plan ≡ plan_outcome ks ts
  refused b = rw (sym e ∙ b)

  pub totalled : (ss : List ℕ) (t : ℕ) → r ≡ false → Summed ks ts ss → t ≡ pages_of (λ k. get_or ss k 0) → Ok t ≡ plan_outcome ks ts
  unfolding plan_total pages_of
  totalled ss t b s a = rw (sym e ∙ b) (ap Ok (a ∙ same-below (λ k. get_or ss k 0) (takes_of ks ts) class_count s.sums))

-- ---- as the exported call answers it
module _ (ks ts : List ℕ) (t : ℕ) where
  pub plan_refused : (r : Refusal) (k : ℕ) → Err r ≡ plan_outcome ks ts → k ≡ number_of r → PlanEnds ks ts k t t
  plan_refused r k e n =
      by_cases (bad_plan ks ts)
      (λ b. let z : r ≡ Plan = cc (rw b at e) in record { code = rw (b, n, z); total = rw b })
      (λ b. absurd (cc (rw b at e)))

  pub plan_done : (t' : ℕ) → Ok t' ≡ plan_outcome ks ts → PlanEnds ks ts 0 t t'
  plan_done t' e =
      by_cases (bad_plan ks ts)
      (λ b. absurd (cc (rw b at e)))
      (λ b. let z : t' ≡ plan_total ks ts = cc (rw b at e) in record { code = rw b; total = rw b z })
