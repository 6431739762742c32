use Rattle.facts.proofs.Prelude.{rules, ◌∙◌, refl}
use borrow.Author.Tests.{tests}
use Rattle.std.proofs.lemmas.Iterator.{YieldsList-from_range}
use Rattle.std.proofs.lemmas.Iterator.Search.{any_from_yields_List}
use Rattle.classes.specs.Shape.{class_count}
use Rattle.std.specs.Prelude.{is_none}
use Rattle.rules.specs.Rules.{rows_in}
use Rattle.rules.specs.way.Rows.{row_for}
use Rattle.rules.proofs.RowSteps.{any-none, none-given}
use Rattle.rules.proofs.rows.no_row.Goals as goal

pub returns-then-not-is_empty : goal.returns-then-not-is_empty
returns-then-not-is_empty c =
    any_from_yields_List (λ k. is_none (row_for (rows_in c.args.words.now) k)) _ _ _ c.any.ensures.ran (YieldsList-from_range 0 class_count class_count (cc) refl) (λ x b q k. search (rules, tests))
    ∙ any-none _ _ c.is_empty.ensures c.if-not-is_empty.true

pub returns-else-not-is_empty : goal.returns-else-not-is_empty
returns-else-not-is_empty c = rw c.if-not-is_empty.false (none-given _ _ c.is_empty.ensures c.if-not-is_empty.false)
