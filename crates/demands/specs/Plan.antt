-- Document 02, A.1, over the exported calls. proofs/Plan proves it.
--     Fits     a total against every history of the plan's takes on the words
--     Plan     what `vigbuso_plan` answers when it returns 0 is such a total; how totals of two plans go together
-- ks are a plan's sizes (A.6), ts the takes of each; t is what stood in the out-parameter and t' what stands there afterwards.
use Rattle.std.specs.Prelude.{ℕ, ◌+◌, ◌≤◌, List, ◌∷◌, ◌++◌, ◌⊎◌, ◌↔◌, ◌≡◌, length}
use Rattle.facts.specs.Lists.{All}
use Rattle.classes.specs.Shape.{shape_of}
use Rattle.model.specs.Calls.{Call}
use Rattle.plan.specs.Plan.{class_of}
use Rattle.plan.specs.Code.{PlanEnds}
use Rattle.plan.specs.Fits.{Granted, Gives, Carries, OneMore, Carried}
use Rattle.refinement.specs.Run.{answers_in}
use Rattle.demands.specs.Run.{Opens, run}

pub record Fits (ks ts : List ℕ) (total : ℕ) : Type 0 where
  -- on every book that opens, with whatever rule rows, the plan's takes made in whatever order: each answers a block exactly if the total is within the arena
  pub plan-fits : (n : ℕ) (rows b : List ℕ) → Opens n rows b → (xs : List Call) → All Granted xs → Carries ks ts xs → All Gives (answers_in (run n rows b xs)) ↔ (total ≤ n)
  -- and there is such a history
  pub carried : Carried ks ts

pub record Plan : Type 0 where
  pub plan-fits : (ks ts : List ℕ) (t t' : ℕ) → PlanEnds ks ts 0 t t' → Fits ks ts t'
  -- one more take, in an entry of its own or in one that is there
  pub plan-one_more : (c : ℕ) (ks ts ms us : List ℕ) (t t' u u' : ℕ) → PlanEnds ks ts 0 t t' → PlanEnds ms us 0 u u' → OneMore c ks ts ms us
      → (u' ≡ t') ⊎ (u' ≡ t' + (shape_of c).pages)
  -- two neighbouring entries change places, and so any; an entry is split in two, of any sizes of its class
  pub plan-order : (xs ys ks ts : List ℕ) (j k v w t t' u u' : ℕ) → length xs ≡ length ys → PlanEnds (xs ++ (j ∷ k ∷ ks)) (ys ++ (v ∷ w ∷ ts)) 0 t t'
      → PlanEnds (xs ++ (k ∷ j ∷ ks)) (ys ++ (w ∷ v ∷ ts)) 0 u u' → u' ≡ t'
  pub plan-split : (xs ys ks ts : List ℕ) (j k v w t t' u u' : ℕ) → class_of j ≡ class_of k → length xs ≡ length ys → PlanEnds (xs ++ (j ∷ k ∷ ks)) (ys ++ (v ∷ w ∷ ts)) 0 t t'
      → PlanEnds (xs ++ (k ∷ ks)) (ys ++ ((v + w) ∷ ts)) 0 u u' → u' ≡ t'
