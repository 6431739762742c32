-- What a commit of m pages finds before it writes, and whether it then answers a run, all being granted.
use Rattle.std.specs.Prelude.{◌≡◌, ℕ, Bool, false, cond, ◌&&◌, List, ◌==◌}
use Rattle.facts.specs.Lists.{is_some}
use Rattle.words.specs.Host.{host_max}
use Rattle.arena.specs.Valid.{record_valid}
use Rattle.arena.specs.Calls.{Committed, commit_for}
use Rattle.runs.specs.way.Plan.{Choice, plan_as}
use Rattle.runs.specs.way.Act.{planned}

unfoldable pub found : ℕ → List ℕ → ℕ → Choice
found n b m = cond (record_valid n b) (planned b m) (plan_as false 0)

abbrev pub has_run : Committed → Bool
has_run o = o.code == 0 && is_some o.run

-- whoever asks
abbrev pub Finds : Bool → ℕ → List ℕ → ℕ → Type 0
Finds r n b m = (w : ℕ) → r ≡ has_run (commit_for n b host_max m w)
