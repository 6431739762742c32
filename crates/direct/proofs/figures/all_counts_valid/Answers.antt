use Rattle.facts.proofs.Prelude.{rules, refl, ◌∙◌}
use borrow.Author.Tests.{tests}
use Rattle.std.proofs.lemmas.Iterator.{YieldsList-from_range}
use Rattle.std.proofs.lemmas.Iterator.Search.{all_from_yields_List}
use Rattle.words.specs.Limits.{class_rows}
use Rattle.arena.specs.Valid.{counts_valid}
use Rattle.direct.proofs.FigureSteps.{all-counts}
use Rattle.direct.proofs.figures.all_counts_valid.Goals as goal

pub returns : goal.returns
returns c =
    all_from_yields_List (counts_valid c.args.meta.now) _ _ _ c.all.ensures.ran (YieldsList-from_range 0 class_rows class_rows (cc) refl) (λ x b q k. search (rules, tests))
    ∙ all-counts c.args.meta.now
