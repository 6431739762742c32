-- What a caller of a commit knows in each arm of its match.
use Rattle.std.proofs.Common.{◌≡◌, Option, Some, None, Result, Ok, Err}
use Rattle.words.specs.declared.refusal.Refusal.{Refusal}
use Rattle.words.specs.Refusal.{number_of}
use Rattle.runs.specs.declared.Run as Code
use Rattle.runs.specs.way.Told.{told_commit}
use Rattle.runs.specs.Answer.{Refused, Run, Nothing}

pub told-refused : (r : Result (Option Code.Run) Refusal) (e : Refusal) → r ≡ Err e → told_commit r ≡ Refused (number_of e)
told-refused r e z = rw z

module _ (r : Result (Option Code.Run) Refusal) (o : Option Code.Run) (z : r ≡ Ok o) where
  pub told-run : (run : Code.Run) → o ≡ Some run → told_commit r ≡ Run run.first run.fresh
  told-run run y = rw (z, y)

  pub told-none : o ≡ None → told_commit r ≡ Nothing
  told-none y = rw (z, y)
