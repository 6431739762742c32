use Rattle.trace.proofs.ReportWays.{report-full, report-unreported, report-told}
use Rattle.direct.proofs.Told.{report-refused, reported}
use Rattle.trace.proofs.steps.report_word.Goals as goal

pub returns-then-figures-t-lt5 : goal.returns-then-figures-t-lt5
returns-then-figures-t-lt5 c = search report-full

pub returns-in-Err : goal.returns-in-Err
returns-in-Err c = search (report-unreported, report-refused)

pub returns-in-Ok : goal.returns-in-Ok
returns-in-Ok c = search (report-told, reported)
