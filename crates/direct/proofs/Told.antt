-- What a caller of a growth or a report knows in each arm of its match.
use Rattle.std.proofs.Common.{◌≡◌, Bool, Result, Ok, Err}
use Rattle.words.specs.declared.refusal.Refusal.{Refusal}
use Rattle.words.specs.Refusal.{number_of}
use Rattle.model.specs.declared.Figures.{Figures}
use Rattle.direct.specs.Answer.{Grow, Report, Reported}
use Rattle.direct.specs.way.Told.{told_grow, told_report}

pub grow-refused : (r : Result Bool Refusal) (e : Refusal) → r ≡ Err e → told_grow r ≡ Grow.Refused (number_of e)
grow-refused r e z = rw z

pub report-refused : (r : Result Figures Refusal) (e : Refusal) → r ≡ Err e → told_report r ≡ Report.Refused (number_of e)
report-refused r e z = rw z

pub reported : (r : Result Figures Refusal) (f : Figures) → r ≡ Ok f → told_report r ≡ Reported f
reported r f z = rw z
