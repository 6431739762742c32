use Rattle.facts.proofs.Prelude.{rules, ◌∙◌, ltb, refl}
use borrow.Author.Tests.{tests}
use Rattle.std.proofs.lemmas.Iterator.{YieldsList-from_range}
use Rattle.std.proofs.lemmas.Iterator.Search.{any_from_yields_List}
use Rattle.classes.specs.Shape.{class_count}
use Rattle.rules.specs.Rules.{rows_for}
use Rattle.rules.proofs.RowSteps.{any-two, two-given}
use Rattle.rules.proofs.rows.two_rows.Goals as goal

pub returns-then-not-is_empty : goal.returns-then-not-is_empty
returns-then-not-is_empty c =
    any_from_yields_List (λ k. ltb 1 (rows_for c.args.words.now k)) _ _ _ c.any.ensures.ran (YieldsList-from_range 0 class_count class_count (cc) refl) (λ x b q k. search (rules, tests))
    ∙ any-two _

pub returns-else-not-is_empty : goal.returns-else-not-is_empty
returns-else-not-is_empty c = rw c.if-not-is_empty.false (two-given _ _ c.is_empty.ensures c.if-not-is_empty.false)
