-- The cycle of calls {list_from}: the calls left fall.
use Rattle.facts.proofs.Prelude.{◌+◌, ◌-◌}
use Rattle.listing.specs.Listing.{gather, list_from}
use Rattle.listing.proofs.Gather.{Ahead}
use Rattle.listing.proofs.Turns.{turn_of}
use Rattle.listing.proofs.+list_from.Given as goal

abbrev pub decreases-list_from : goal.decreases-list_from
decreases-list_from l = l.left

abbrev pub invariant-loop-number : goal.invariant-loop-number
invariant-loop-number l = Ahead (list_from l.n l.left l.node) (gather (turn_of l.n l.left l.node) l.number (3 + l.node.calls + 1 - l.number)) l.at l.to l.initial.out l.out
