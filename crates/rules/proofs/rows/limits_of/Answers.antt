use Rattle.facts.proofs.Prelude.{rules}
use Rattle.rules.specs.Rules.{rules_of}
use Rattle.rules.proofs.rows.limits_of.Goals as goal

pub returns : goal.returns
unfolding rules_of
returns c = search rules
