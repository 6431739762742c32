use Rattle.trace.proofs.Ways.{back_none, back-high, back-pre, back_one, rest-pre, back-rest}
use Rattle.trace.proofs.acts.back_now.Goals as goal

pub returns-in_default : goal.returns-in_default
returns-in_default c = search (back_none, c.in_default.ensures)

pub returns-then-c-ge-CLASS_COUNT : goal.returns-then-c-ge-CLASS_COUNT
returns-then-c-ge-CLASS_COUNT c = search (back-high, c.in-Some.ensures)

pub release_one-requires : goal.release_one-requires
release_one-requires c = search (back-pre, c.in-Some.ensures)

pub returns-then-release_one : goal.returns-then-release_one
returns-then-release_one c = search (back_one, c.in-Some.ensures)

pub release_list-requires : goal.release_list-requires
release_list-requires c = search (rest-pre, c.in-Some.ensures)

pub returns : goal.returns
returns c = search (back-rest, c.in-Some.ensures)
