use Rattle.facts.proofs.Prelude.{rules}
use Rattle.std.proofs.Common.{tests}
use Rattle.std.proofs.lemmas.Iterator.{YieldsList-from_slice}
use Rattle.std.proofs.lemmas.Iterator.Search.{all_from_yields_List}
use Rattle.calls.specs.Out.{out_at}
use Rattle.release.proofs.OutSteps.{out-told}
use Rattle.release.proofs.tests.list_out.Goals as goal

pub returns : goal.returns
returns c =
    let a = c.args in
    all_from_yields_List (out_at a.n a.meta.now a.c a.shape) _ _ c.all.result c.all.ensures.ran (YieldsList-from_slice a.list.now cc) (λ x b q k. search (rules, tests, out-told))
