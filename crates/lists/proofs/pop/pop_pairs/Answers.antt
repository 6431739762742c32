use Rattle.facts.proofs.Prelude.{arith}
use Rattle.lists.proofs.PopSteps.{pairs-empty, ends-below, rise_pre, raise_pre, raised, fall_pre, lower-pre, lowered}
use Rattle.lists.proofs.pop.pop_pairs.Goals as goal

pub returns-then-k-eq0 : goal.returns-then-k-eq0
returns-then-k-eq0 c = search pairs-empty

pub overflow_add-low : goal.overflow_add-low
overflow_add-low c = let h = ends-below _ _ _ _ _ _ _ c.requires c.if-k-eq0.false _ _ c.entry-top.ensures c.entry-low.ensures in omega (arith, h.0, h.1)

pub overflow_add-top : goal.overflow_add-top
overflow_add-top c = let h = ends-below _ _ _ _ _ _ _ c.requires c.if-k-eq0.false _ _ c.entry-top.ensures c.entry-low.ensures in omega (arith, h.0, h.1)

pub rises-requires : goal.rises-requires
rises-requires c = rise_pre _ _ _ _ _ _ _ c.requires c.if-k-eq0.false _ _ c.entry-top.ensures c.entry-low.ensures c.if-low-k.true

pub raise_blocks-requires : goal.raise_blocks-requires
raise_blocks-requires c =
    raise_pre _ _ _ _ _ _ _ c.requires c.if-k-eq0.false _ _ c.entry-top.ensures c.entry-low.ensures c.if-low-k.true

pub returns-then-rises : goal.returns-then-rises
returns-then-rises c =
    raised _ _ _ _ _ _ _ c.requires c.if-k-eq0.false _ _ c.entry-top.ensures c.entry-low.ensures _ c.if-rises.true _ _ c.rises.ensures c.raise_blocks.ensures

pub overflow_add-top-2 : goal.overflow_add-top-2
overflow_add-top-2 c = let h = ends-below _ _ _ _ _ _ _ c.requires c.if-k-eq0.false _ _ c.entry-top.ensures c.entry-low.ensures in omega (arith, h.0, h.1)

pub overflow_add-low-2 : goal.overflow_add-low-2
overflow_add-low-2 c = let h = ends-below _ _ _ _ _ _ _ c.requires c.if-k-eq0.false _ _ c.entry-top.ensures c.entry-low.ensures in omega (arith, h.0, h.1)

pub falls-requires : goal.falls-requires
falls-requires c = fall_pre _ _ _ _ _ _ _ c.requires c.if-k-eq0.false _ _ c.entry-top.ensures c.entry-low.ensures c.if-top-k.true

pub carve_blocks-requires : goal.carve_blocks-requires
carve_blocks-requires c =
    lower-pre _ _ _ _ _ _ _ c.requires c.if-k-eq0.false _ _ c.entry-top.ensures c.entry-low.ensures c.if-top-k.true

pub returns-then-falls : goal.returns-then-falls
returns-then-falls c =
    lowered _ _ _ _ _ _ _ c.requires c.if-k-eq0.false _ _ c.entry-top.ensures c.entry-low.ensures _ c.if-falls.true _ _ c.falls.ensures c.carve_blocks.ensures
