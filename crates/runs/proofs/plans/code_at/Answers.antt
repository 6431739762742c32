use Rattle.facts.proofs.Prelude.{◌^◌, le-leb, lt-leb}
use Rattle.runs.proofs.plans.code_at.Goals as goal

pub returns-then-best-need-ge-HALF : goal.returns-then-best-need-ge-HALF
returns-then-best-need-ge-HALF c = simp (le-leb (2 ^ 32) _ c.if-best-need-ge-HALF.true)

pub returns : goal.returns
returns c = simp (lt-leb (2 ^ 32) _ c.if-best-need-ge-HALF.false)
