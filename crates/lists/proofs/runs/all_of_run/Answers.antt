use Rattle.facts.proofs.Prelude.{arith, rules, ◌∙◌}
use Rattle.std.proofs.Common.{tests}
use Rattle.std.proofs.lemmas.Iterator.{YieldsList-from_range}
use Rattle.std.proofs.lemmas.Iterator.Search.{all_from_yields_List}
use Rattle.pages.specs.Runs.{of_run}
use Rattle.facts.proofs.Ranges.{all-below}
use Rattle.lists.proofs.runs.all_of_run.Goals as goal

pub returns : goal.returns
returns c =
    let a = c.args in
    all_from_yields_List (of_run a.meta.now a.c a.q) _ _ c.all.result c.all.ensures.ran (YieldsList-from_range 0 a.pages a.pages (cc) (omega arith)) (λ x b q k. search (rules, tests))
    ∙ all-below (of_run a.meta.now a.c a.q) a.pages
