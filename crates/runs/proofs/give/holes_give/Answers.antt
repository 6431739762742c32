use Rattle.runs.proofs.RecordSteps.{gives-over, slot_in, before_in, after_in, gives-placed}
use Rattle.runs.proofs.give.holes_give.Goals as goal

pub returns-then-a-pages-gt-HOLE_PAGES_MAX : goal.returns-then-a-pages-gt-HOLE_PAGES_MAX
returns-then-a-pages-gt-HOLE_PAGES_MAX c = search gives-over

pub place-requires : goal.place-requires
place-requires c = (search slot_in, search before_in, search after_in)

pub returns : goal.returns
returns c = search gives-placed
