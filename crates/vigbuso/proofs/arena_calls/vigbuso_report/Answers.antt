use Rattle.std.proofs.Common.{refl, sym, ap}
use Rattle.direct.specs.way.Told.{told_report}
use Rattle.vigbuso.proofs.DirectSteps.{book_in, report-refused, report-goes, report_ends_refused, report_ends_told}
use Rattle.vigbuso.proofs.FaultSteps.{numbered}
use Rattle.vigbuso.proofs.arena_calls.vigbuso_report.Goals as goal

pub returns-in-Err : goal.returns-in-Err
returns-in-Err c = rw c.number.ensures (report-refused _ _ c.in-Err.ensures.fault _ (numbered _))

pub report-requires : goal.report-requires
report-requires c = book_in _ (sym c.in-Ok.ensures.fault) _ c.in-Ok.ensures.value

pub returns-in-Err-report : goal.returns-in-Err-report
returns-in-Err-report c =
    let k = report-goes _ _ c.in-Ok.ensures.fault _ _ refl c.in-Ok.ensures.value c.report.ensures in
    rw c.number-in-Err-report.ensures (report_ends_refused _ _ k _ _ (ap told_report c.in-Err-report.is))

pub returns-in-Ok-report : goal.returns-in-Ok-report
returns-in-Ok-report c = let k = report-goes _ _ c.in-Ok.ensures.fault _ _ refl c.in-Ok.ensures.value c.report.ensures in report_ends_told _ _ k _ _ (ap told_report c.in-Ok-report.is)
