-- Document 02, A.1, holds of the exported calls: a history's answers are the model's, and the plan is the one of crate `plan`.
use Rattle.facts.proofs.Prelude.{ℕ, arith, false, List, ◌≡◌, sym, ◌∙◌, by_cases}
use Rattle.plan.specs.Plan.{plan_total, bad_plan}
use Rattle.plan.specs.Code.{PlanEnds}
use Rattle.plan.proofs.Theorems.{planned}
use Rattle.rules.specs.Rules.{rules_of}
use Rattle.demands.specs.Plan.{Fits, Plan}
use Rattle.demands.proofs.Histories.{run-answers}

-- what a plan that is not refused answers
module _ (ks ts : List ℕ) (t t' : ℕ) (e : PlanEnds ks ts 0 t t') where
  unrefused : bad_plan ks ts ≡ false
  unrefused = by_cases (bad_plan ks ts) (λ b. let z : 0 ≡ 14 = e.code ∙ rw b in absurd (omega arith)) (λ b. b)

  total-is : t' ≡ plan_total ks ts
  total-is = e.total ∙ rw unrefused

  pub fits : Fits ks ts t'
  fits = rw total-is (record { plan-fits = λ n rows b o xs g c. rw (run-answers n rows b o xs) (planned.fits n (rules_of rows) ks ts xs g c); carried = planned.carried ks ts unrefused })

pub plan : Plan
plan = record {
  plan-fits = fits;
  plan-one_more = λ c ks ts ms us t t' u u' e d m. rw (total-is ks ts t t' e, total-is ms us u u' d) (planned.one_more c ks ts ms us m);
  plan-order = λ xs ys ks ts j k v w t t' u u' h e d. total-is _ _ u u' d ∙ sym (planned.swap xs ys ks ts j k v w h) ∙ sym (total-is _ _ t t' e);
  plan-split = λ xs ys ks ts j k v w t t' u u' s h e d. total-is _ _ u u' d ∙ sym (planned.split xs ys ks ts j k v w s h) ∙ sym (total-is _ _ t t' e);
}
