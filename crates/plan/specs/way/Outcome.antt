-- What the code of the plan answers before the exported call tells it in numbers.
use Rattle.std.specs.Prelude.{ℕ, List, Bool, cond, not, ◌||◌, eqb, ltb, Result, Ok, Err}
use Rattle.words.specs.declared.refusal.Refusal.{Refusal}
use Rattle.words.specs.declared.refusal.Refusal.TheVariants.{Plan}
use Rattle.plan.specs.Plan.{entries_max, plan_total, bad_plan}

-- the part of number 14 that the lengths of the two lists decide
abbrev pub bad_lengths : ℕ → ℕ → Bool
bad_lengths n m = eqb n 0 || (not (eqb n m) || ltb entries_max n)

-- the total, or number 14
abbrev pub plan_outcome : List ℕ → List ℕ → Result ℕ Refusal
plan_outcome ks ts = cond (bad_plan ks ts) (Err Plan) (Ok (plan_total ks ts))
