use Rattle.facts.proofs.Prelude.{arith, length, length-set}
use Rattle.tables.proofs.Sizes.{fill_step, fill_done}
use Rattle.tables.proofs.rate.Rate.fill.Goals as goal

pub loop-slot-preserved : goal.loop-slot-preserved
loop-slot-preserved c =
    let rate = c.args.self in
    let l = c.loop-slot.slot-items in
    record {
      size_le_top = c.next_size-size.ensures.within;
      sizes_are = rw (c.next_size-size.ensures.same, length-set) (fill_step rate.a rate.b rate.top c.loop-slot.size (length l) c.loop-slot.slot-index l _ (omega arith) (omega arith) c.loop-slot.invariant.sizes_are);
    }

pub returns : goal.returns
returns c =
    let rate = c.args.self in
    rw (c.loop-slot.auto.slot-items) at (fill_done rate.a rate.b rate.top c.loop-slot.size c.loop-slot.slot-index c.loop-slot.slot-items _ (omega arith) c.loop-slot.invariant.sizes_are)
