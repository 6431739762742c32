use Rattle.facts.proofs.Prelude.{◌+◌, ◌-◌}
use Rattle.listing.specs.Listing.{number_at, gather}
use Rattle.listing.proofs.Gather.{Ahead}
use Rattle.listing.proofs.write_history.Given as goal

abbrev pub invariant-loop-i : goal.invariant-loop-i
invariant-loop-i l = Ahead (gather (number_at l.node.numbers) 0 l.node.calls) (gather (number_at l.node.numbers) l.i (l.node.calls - l.i)) l.at (l.at + l.i) l.initial.out l.out
