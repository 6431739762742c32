use Rattle.std.proofs.Common.{◌∙◌, rules, tests}
use Rattle.std.proofs.lemmas.Iterator.{YieldsList-from_slice}
use Rattle.std.proofs.lemmas.Iterator.Adapters.{serves_from_places}
use Rattle.std.proofs.lemmas.Iterator.Search.{all_from_yields_List}
use Rattle.chunks.specs.way.Marks.{page_clean}
use Rattle.chunks.specs.way.Match.{is_page}
use Rattle.chunks.proofs.Chains.{all-every, every-item}
use Rattle.chunks.proofs.marks.pages_clean.Goals as goal

pub all-requires-clause-callable : goal.all-requires-clause-callable
all-requires-clause-callable c = serves_from_places (YieldsList-from_slice c.args.chunks.now cc) (λ x q k. search (rules, tests)) (λ x k l e. let z = every-item (is_page c.args.n) c.args.chunks.now k x.now c.requires.chunks_value l e in λ _ _ _ _ _ _ _ _ _ _ _ _. (c.requires.clean_pre, z))

pub returns : goal.returns
returns c =
    let t = page_clean c.args.n c.args.meta.now c.args.c c.args.shape c.args.m in
    all_from_yields_List (page_clean c.args.n c.args.meta.now c.args.c c.args.shape c.args.m) _ _ _ c.all.ensures.ran (YieldsList-from_slice c.args.chunks.now cc) (λ x b q k. search (rules, tests)) ∙ all-every t c.args.chunks.now
