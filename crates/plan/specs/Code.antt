-- What the functions of the plan ask and answer.
use Rattle.std.specs.Prelude.{ℕ, ◌≤◌, ◌<◌, ◌+◌, ◌*◌, List, true, cond, ◌≡◌, eqb, leb, length, get_or}
use Rattle.facts.specs.Lists.{every}
use Rattle.classes.specs.Sizes.{max_medium_size}
use Rattle.plan.specs.Plan.{class_count, entries_max, takes_max, takes_of, plan_total, bad_plan}

-- a plan that is not refused
pub record Fine (ks ts : List ℕ) : Type 0 where
  pub same : length ks ≡ length ts
  pub few : length ks ≤ entries_max
  pub known : every (λ k. leb k max_medium_size) ks ≡ true
  pub small : every (λ t. leb t takes_max) ts ≡ true

-- the most takes of one class
abbrev pub sum_max : ℕ
sum_max = entries_max * takes_max

-- the list ss has the takes of each class
abbrev pub Sums : List ℕ → List ℕ → List ℕ → Type 0
Sums ks ts ss = (c : ℕ) → c < class_count → get_or ss c 0 ≡ takes_of ks ts c

abbrev pub Low : List ℕ → Type 0
Low ss = (c : ℕ) → c < class_count → get_or ss c 0 ≤ sum_max

pub record Zeros (ss : List ℕ) : Type 0 where
  pub long : length ss ≡ class_count
  pub zeros : (c : ℕ) → c < class_count → get_or ss c 0 ≡ 0

pub record Summed (ks ts ss : List ℕ) : Type 0 where
  pub sums : Sums ks ts ss
  pub low : Low ss

-- one entry
pub record AddPre (ss : List ℕ) (k t : ℕ) : Type 0 where
  pub long : length ss ≡ class_count
  pub known : k < class_count
  pub fits : get_or ss k 0 + t ≤ sum_max

pub record Added (ss : List ℕ) (k t : ℕ) (ss' : List ℕ) : Type 0 where
  pub long : length ss' ≡ class_count
  pub sums : (c : ℕ) → c < class_count → get_or ss' c 0 ≡ get_or ss c 0 + cond (eqb k c) t 0

-- the answer r, and the total, t before and t' after: a refused plan keeps it
pub record PlanEnds (ks ts : List ℕ) (r t t' : ℕ) : Type 0 where
  pub code : r ≡ cond (bad_plan ks ts) 14 0
  pub total : t' ≡ cond (bad_plan ks ts) t (plan_total ks ts)
