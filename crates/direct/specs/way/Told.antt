-- What the code of a growth and of a report answered, as the definitions have it.
use Rattle.std.specs.Prelude.{Bool, true, false, Result, Ok, Err}
use Rattle.words.specs.declared.refusal.Refusal.{Refusal}
use Rattle.words.specs.Refusal.{number_of}
use Rattle.model.specs.declared.Figures.{Figures}
use Rattle.direct.specs.Answer.{Grow, Report}

abbrev pub told_grow : Result Bool Refusal → Grow
told_grow (Err e) = Grow.Refused (number_of e)
told_grow (Ok true) = Grow.Yes
told_grow (Ok false) = Grow.No

abbrev pub told_report : Result Figures Refusal → Report
told_report (Err e) = Report.Refused (number_of e)
told_report (Ok f) = Report.Reported f
