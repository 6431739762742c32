use Rattle.facts.proofs.Prelude.{◌^◌, ◌<◌, arith, get_or}
use Rattle.release.proofs.StretchSteps.{stretch-starts, stretch-goes_on, stretch-ends}
use Rattle.release.proofs.marks.stretch.Goals as goal

pub loop-n-init : goal.loop-n-init
loop-n-init c =
    let a = c.args in
    let h : get_or a.list.now a.i 0 < 2 ^ 64 = omega (arith, c.shared_slice_known-2-1.given a.i) in
    stretch-starts _ _ _ _ _ h (omega arith) c.wrapping_add_u64-want.ensures.value

pub returns-then-list-i : goal.returns-then-list-i
returns-then-list-i c = search stretch-ends

pub loop-n-preserved : goal.loop-n-preserved
loop-n-preserved c = search stretch-goes_on

pub returns : goal.returns
returns c = search stretch-ends
