use Rattle.facts.proofs.Prelude.{◌∙◌, sym, rules}
use Rattle.std.proofs.Common.{tests}
use Rattle.std.proofs.lemmas.Iterator.{YieldsList-from_slice}
use Rattle.std.proofs.lemmas.Iterator.Search.{all_from_yields_List}
use Rattle.release.specs.way.Marks.{clean_at}
use Rattle.release.proofs.OutSteps.{clean_all}
use Rattle.release.proofs.tests.list_clean.Goals as goal

pub returns : goal.returns
returns c =
    let a = c.args in
    all_from_yields_List (clean_at a.n a.meta.now a.c a.shape) _ _ c.all.result c.all.ensures.ran (YieldsList-from_slice a.list.now cc) (λ x b q k. search (rules, tests)) ∙ sym (clean_all a.n a.meta.now a.c a.shape a.list.now)
