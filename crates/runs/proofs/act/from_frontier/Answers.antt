use Rattle.std.proofs.Common.{rules}
use Rattle.runs.proofs.ActSteps.{no_room, frontier-run, frontier-back, frontier-granted, frontier-given}
use Rattle.runs.proofs.act.from_frontier.Goals as goal

pub returns-then-q-a : goal.returns-then-q-a
returns-then-q-a c = search no_room

pub end_run-requires : goal.end_run-requires
end_run-requires c = (search rules, search rules, search frontier-run)

pub returns-then-granted : goal.returns-then-granted
returns-then-granted c = search frontier-granted

pub end_given-requires : goal.end_given-requires
end_given-requires c = (search rules, search rules, search frontier-back)

pub returns : goal.returns
returns c = search frontier-given
