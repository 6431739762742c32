use Rattle.std.proofs.Common.{rules}
use Rattle.release.proofs.ListSteps.{taking-none, taking-pre, taking-block, taking-bit, taking-more, taking-done}
use Rattle.release.proofs.release.take_list.Goals as goal

pub loop-w-init : goal.loop-w-init
loop-w-init c = search (rules, taking-none)

pub index_of-requires : goal.index_of-requires
index_of-requires c = record {
  index_pre = taking-pre _ _ _ _ _ _ _ _ c.in-Some.ensures.steps c.loop-w.invariant c.requires;
  w_value = taking-block _ _ _ _ _ _ _ _ c.in-Some.ensures.steps c.loop-w.invariant c.requires;
}

pub set_bit-requires : goal.set_bit-requires
set_bit-requires c = taking-bit _ _ _ _ _ _ _ _ c.in-Some.ensures.steps c.loop-w.invariant _ c.requires c.index_of.ensures

pub loop-w-preserved : goal.loop-w-preserved
loop-w-preserved c = taking-more _ _ _ _ _ _ _ _ c.in-Some.ensures.steps c.loop-w.invariant _ _ c.index_of.ensures c.set_bit.ensures

pub returns : goal.returns
returns c = taking-done _ _ _ _ _ _ c.in-None.ensures.steps.0 c.loop-w.invariant
