use Rattle.std.proofs.Common.{◌∙◌, rules, tests}
use Rattle.std.proofs.lemmas.Iterator.{YieldsList-from_slice}
use Rattle.std.proofs.lemmas.Iterator.Adapters.{serves_from_places}
use Rattle.std.proofs.lemmas.Iterator.Search.{all_from_yields_List}
use Rattle.chunks.specs.way.ValidPre.{chunk_valid}
use Rattle.chunks.proofs.Chains.{all-every}
use Rattle.chunks.proofs.ValidSteps.{chunk-there}
use Rattle.chunks.proofs.valid.pages_valid.Goals as goal

pub all-requires-clause-callable : goal.all-requires-clause-callable
all-requires-clause-callable c = serves_from_places (YieldsList-from_slice c.args.chunks.now cc) (λ x q k. search (rules, tests)) (λ x k l e. let z = chunk-there c.args.n c.args.meta.now c.args.chunks.now c.requires k x.now l e in λ _ _ _ _ _ _ _ _ _. z)

pub returns : goal.returns
returns c =
    let t = chunk_valid c.args.meta.now c.args.shape in
    all_from_yields_List (chunk_valid c.args.meta.now c.args.shape) _ _ _ c.all.ensures.ran (YieldsList-from_slice c.args.chunks.now cc) (λ x b q k. search (rules, tests)) ∙ all-every t c.args.chunks.now
