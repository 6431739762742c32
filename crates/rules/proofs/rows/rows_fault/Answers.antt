use Rattle.facts.proofs.Prelude.{rules}
use Rattle.rules.specs.Rules.{rows_fault}
use Rattle.rules.proofs.rows.rows_fault.Goals as goal

pub returns-then-bad_rows : goal.returns-then-bad_rows
unfolding rows_fault
returns-then-bad_rows c = search rules

pub returns-then-two_rows : goal.returns-then-two_rows
unfolding rows_fault
returns-then-two_rows c = search rules

pub returns-then-no_row : goal.returns-then-no_row
unfolding rows_fault
returns-then-no_row c = search rules

pub returns : goal.returns
unfolding rows_fault
returns c = search rules
