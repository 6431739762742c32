use Rattle.facts.proofs.Prelude.{rules, ◌∙◌, ◌≡◌, ap, not, ne_eqb, eq-eqb}
use borrow.Author.Tests.{tests}
use Rattle.std.specs.List.{list_all}
use Rattle.std.proofs.lemmas.Iterator.{YieldsList-from_slice}
use Rattle.std.proofs.lemmas.Iterator.Search.{all_from_yields_List}
use Rattle.rules.specs.Rules.{bad_rows, good_row}
use Rattle.rules.specs.way.Rows.{row_of}
use Rattle.rules.proofs.RowSteps.{all_rows}
use Rattle.rules.proofs.rows.bad_rows.Goals as goal

pub returns-then-words-ne0 : goal.returns-then-words-ne0
unfolding bad_rows
returns-then-words-ne0 c = rw (ne_eqb _ 0 c.if-words-ne0.true)

pub returns-else-words-ne0 : goal.returns-else-words-ne0
unfolding bad_rows
returns-else-words-ne0 c =
    let e : c.all.result ≡ list_all (λ w. good_row (row_of w)) c.whole_rows.result.now = all_from_yields_List (λ w. good_row (row_of w)) _ _ _ c.all.ensures.ran (YieldsList-from_slice c.whole_rows.result.now cc) (λ x b q k. search (rules, tests)) in
    rw (eq-eqb _ 0 c.if-words-ne0.false) (ap not (e ∙ all_rows good_row c.whole_rows.result.now ∙ rw c.whole_rows.ensures))
