use Rattle.facts.proofs.Prelude.{arith}
use Rattle.trace.proofs.Ways.{class-in, class-off}
use Rattle.trace.proofs.acts.class_at.Goals as goal

pub returns-then-p-from : goal.returns-then-p-from
returns-then-p-from c = let e = c.from.ensures in class-off c.args.n c.args.meta.now c.args.w c.page_at-p.result c.page_at-p.ensures (omega arith)

pub returns : goal.returns
returns c = class-in c.args.n c.args.meta.now c.args.w c.page_at-p.result c.get.result c.checked_sub.result c.page_at-p.ensures (omega arith) c.get.ensures c.checked_sub.ensures
