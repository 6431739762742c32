use Rattle.facts.proofs.Prelude.{arith}
use Rattle.release.proofs.MarkSteps.{mark-starts, mark-goes_on, few_stop, few_on-to, mark-ends}
use Rattle.release.proofs.marks.mark_by.Goals as goal

pub loop-i-init : goal.loop-i-init
loop-i-init c = search mark-starts

pub returns-then-stop-end : goal.returns-then-stop-end
returns-then-stop-end c =
    let l = c.words_left.ensures in
    let t = c.loop-i-test.true in
    few_stop _ _ _ _ _ _ _ _ _ c.loop-i.invariant c.mark_stretch-next.ensures c.if-next-i.true _ _ _ c.mark_few-stop.ensures (omega (arith, l, t)) c.if-stop-end.true

pub loop-i-preserved-then-next-i : goal.loop-i-preserved-then-next-i
loop-i-preserved-then-next-i c = search few_on-to

pub loop-i-preserved : goal.loop-i-preserved
loop-i-preserved c = search mark-goes_on

pub returns : goal.returns
returns c = search mark-ends
