use Rattle.facts.proofs.Prelude.{rules, ◌∙◌, leb}
use borrow.Author.Tests.{tests}
use Rattle.std.proofs.lemmas.Iterator.{YieldsList-from_slice}
use Rattle.std.proofs.lemmas.Iterator.Search.{all_from_yields_List}
use Rattle.plan.proofs.FaultSteps.{all_every}
use Rattle.plan.proofs.faults.all_within.Goals as goal

pub returns : goal.returns
returns c =
    all_from_yields_List (λ k. leb k c.args.limit) _ _ _ c.all.ensures.ran (YieldsList-from_slice c.args.list.now cc) (λ x b q k. search (rules, tests))
    ∙ all_every (λ k. leb k c.args.limit) c.args.list.now
