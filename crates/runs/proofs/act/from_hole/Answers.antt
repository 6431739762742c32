use Rattle.std.proofs.Common.{rules}
use Rattle.runs.proofs.ActSteps.{hole_in, hole-cut, hole-run, hole-back, hole-granted, hole-given}
use Rattle.runs.proofs.act.from_hole.Goals as goal

pub draw-count-requires : goal.draw-count-requires
draw-count-requires c = (search rules, search rules, search hole_in, search rules)

pub end_run-requires : goal.end_run-requires
end_run-requires c = (search rules, search hole-cut, search hole-run)

pub returns-then-granted : goal.returns-then-granted
returns-then-granted c = search hole-granted

pub end_given-requires : goal.end_given-requires
end_given-requires c = (search rules, search hole-cut, search hole-back)

pub returns : goal.returns
returns c = search hole-given
