use borrow.Author.Rules.{rules}
use Rattle.direct.proofs.FigureSteps.{no_record, no-counts, valid-reported, told}
use Rattle.direct.proofs.figures.report.Goals as goal

pub returns-then-not-record_valid : goal.returns-then-not-record_valid
returns-then-not-record_valid c = search no_record

pub figures-requires : goal.figures-requires
figures-requires c = (search rules, search valid-reported)

pub returns-then-all_counts_valid : goal.returns-then-all_counts_valid
returns-then-all_counts_valid c = search told

pub returns : goal.returns
returns c = search no-counts
