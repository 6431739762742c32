use Rattle.runs.proofs.RecordSteps.{no-state, no_holes, no-pages, no-head, all_valid}
use Rattle.runs.proofs.load.record_valid.Goals as goal

pub returns-then-get-gt2 : goal.returns-then-get-gt2
returns-then-get-gt2 c = search no-state

pub returns-then-get-gt-HOLE_SLOTS : goal.returns-then-get-gt-HOLE_SLOTS
returns-then-get-gt-HOLE_SLOTS c = search no_holes

pub returns-then-get-gt-HOLE_PAGES_MAX : goal.returns-then-get-gt-HOLE_PAGES_MAX
returns-then-get-gt-HOLE_PAGES_MAX c = search no-pages

pub returns-then-head_valid : goal.returns-then-head_valid
returns-then-head_valid c =
    all_valid _ _ _ _ _ _ _ c.get.ensures c.if-get-gt2.false c.get-2.ensures c.if-get-gt-HOLE_SLOTS.false c.get-3.ensures c.if-get-gt-HOLE_PAGES_MAX.false c.head_valid.ensures c.if-head_valid.true c.get-then-head_valid.ensures

pub returns : goal.returns
returns c = search no-head
