use Rattle.std.proofs.Common.{◌∙◌, rules, tests}
use Rattle.std.proofs.lemmas.Iterator.{YieldsList-from_slice}
use Rattle.std.proofs.lemmas.Iterator.Search.{all_from_yields_List}
use Rattle.chunks.specs.way.Match.{is_page}
use Rattle.chunks.proofs.Chains.{all-every}
use Rattle.chunks.proofs.naming.all_pages.Goals as goal

pub returns : goal.returns
returns c = all_from_yields_List (is_page c.args.n) _ _ _ c.all.ensures.ran (YieldsList-from_slice c.args.chunks.now cc) (λ x b q k. search (rules, tests)) ∙ all-every (is_page c.args.n) c.args.chunks.now
