-- What the code of a commit answered, as the definitions have it.
use Rattle.std.specs.Prelude.{Option, Some, None, Result, Ok, Err}
use Rattle.words.specs.declared.refusal.Refusal.{Refusal}
use Rattle.words.specs.Refusal.{number_of}
use Rattle.runs.specs.declared.Run as Code
use Rattle.runs.specs.Answer.{Commit, Refused, Run, Nothing}

abbrev pub told_commit : Result (Option Code.Run) Refusal → Commit
told_commit (Err e) = Refused (number_of e)
told_commit (Ok None) = Nothing
told_commit (Ok (Some run)) = Run run.first run.fresh
