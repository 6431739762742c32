use borrow.Author.Rules.{rules}
use Rattle.direct.proofs.CallSteps.{grow-bad, direct-end, direct-near, direct-low, growth-more, clamped-fits, grow-held, grow-not}
use Rattle.direct.proofs.calls.grow_frontier.Goals as goal

pub returns-then-bad_growth : goal.returns-then-bad_growth
returns-then-bad_growth c = search grow-bad

pub overflow_add-first : goal.overflow_add-first
overflow_add-first c = search direct-end

pub overflow_cast-first : goal.overflow_cast-first
overflow_cast-first c = search direct-near

pub overflow_sub-new : goal.overflow_sub-new
overflow_sub-new c = search growth-more

pub grow_held-requires : goal.grow_held-requires
grow_held-requires c = (search rules, search direct-low, search clamped-fits)

pub returns-then-held_direct : goal.returns-then-held_direct
returns-then-held_direct c = search grow-held

pub returns : goal.returns
returns c = search grow-not
