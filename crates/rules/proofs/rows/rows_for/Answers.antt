use Rattle.facts.proofs.Prelude.{rules, ◌∙◌}
use borrow.Author.Tests.{tests}
use Rattle.std.proofs.lemmas.Iterator.{YieldsList-from_slice}
use Rattle.std.proofs.lemmas.Iterator.Consumers.{YieldsList-from_filter, count_from_yields_List}
use Rattle.rules.specs.Rules.{rows_for, spans}
use Rattle.rules.specs.way.Rows.{row_of}
use Rattle.rules.proofs.RowSteps.{count_rows}
use Rattle.rules.proofs.rows.rows_for.Goals as goal

pub returns : goal.returns
unfolding rows_for
returns c =
    count_from_yields_List _ _ c.count.ensures.ran (YieldsList-from_filter _ (λ w. spans (row_of w) c.args.c) (YieldsList-from_slice c.whole_rows.result.now cc) c.filter.ensures.closure (λ x b q k. search (rules, tests)))
    ∙ count_rows (λ r. spans r c.args.c) c.whole_rows.result.now ∙ rw c.whole_rows.ensures
