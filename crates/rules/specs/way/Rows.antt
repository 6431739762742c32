-- A row by its four words; the first row of a class.
use Rattle.std.specs.Prelude.{ℕ, List, Option, get_or}
use Rattle.std.specs.List.{find}
use Rattle.rules.specs.declared.row.RuleRow.{RuleRow}
use Rattle.rules.specs.Rules.{spans}

abbrev pub row_of : List ℕ → RuleRow
row_of ws = record { first = get_or ws 0 0; last = get_or ws 1 0; empty = get_or ws 2 0; cold = get_or ws 3 0 }

abbrev pub row_for : List RuleRow → ℕ → Option RuleRow
row_for rs c = find (λ r. spans r c) rs
