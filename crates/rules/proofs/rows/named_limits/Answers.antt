use Rattle.facts.proofs.Prelude.{rules}
use Rattle.rules.specs.Rules.{rows_in}
use Rattle.rules.proofs.RowSteps.{limits-found}
use Rattle.rules.proofs.rows.named_limits.Goals as goal

pub returns : goal.returns
returns c = limits-found c.args.c (rows_in c.args.words.now) _ c.map_or_else.result _ c.row_for.ensures c.map_or_else.ensures (λ d. search rules)
