use Rattle.std.proofs.lemmas.Result.{err_from_is_err_and}
use Rattle.stock.proofs.TopSteps.{top-low}
use Rattle.stock.proofs.TrimSteps.{trim-none, trim_unmade, trim-invalid, trim-refused, trim-given}
use Rattle.std.proofs.Common.{rules}
use Rattle.stock.proofs.trim.trim.Goals as goal

pub returns-then-format_valid : goal.returns-then-format_valid
returns-then-format_valid c = search trim-none

pub returns-else-format_valid : goal.returns-else-format_valid
returns-else-format_valid c = search trim_unmade

pub returns-then-not-top_valid : goal.returns-then-not-top_valid
returns-then-not-top_valid c = search trim-invalid

pub entry-requires : goal.entry-requires
entry-requires c = record { stock_pre = search rules; k_bound = search top-low }

pub returns-in_err-give : goal.returns-in_err-give
returns-in_err-give c = let p = err_from_is_err_and c.from_residual.result c.from_residual.ensures.1 in rw (p.1, p.2) (search (rules, trim-refused, c.in_err-give.ensures))

pub returns : goal.returns
returns c = search (rules, trim-given, c.in_ok-give.ensures)
