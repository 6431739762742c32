use Rattle.facts.proofs.Prelude.{◌+◌, ◌<◌, arith, pos_of_ne-zero, refl, sym, ◌∙◌}
use Rattle.listing.specs.Listing.{Wrote}
use Rattle.listing.proofs.Gather.{none_yet, next_fits, next, no_more}
use Rattle.listing.proofs.Turns.{none_left, turn_of, turn, may_go_on, went_on, stayed}
use Rattle.listing.proofs.+list_from.Goals as goal
use Rattle.listing.proofs.+list_from.Goals.{then-may_call, else-may_call}

pub write_history-requires-clause-node_bound : goal.write_history-requires-clause-node_bound
write_history-requires-clause-node_bound t c = rw (none_left c.args.n c.args.left c.args.node c.if-left-eq0.true) at c.requires.node_bound

pub returns-then-left-eq0 : goal.returns-then-left-eq0
returns-then-left-eq0 t c = rw (none_left c.args.n c.args.left c.args.node c.if-left-eq0.true) c.write_history.ensures

pub loop-number-init : goal.loop-number-init
loop-number-init t c = none_yet _ _ _ _ _ (turn c.args.n c.args.left c.args.node (pos_of_ne-zero c.if-left-eq0.false)) refl

pub list_from-to-requires : goal.list_from-to-requires
list_from-to-requires t c =
    let some : 0 < c.args.left = pos_of_ne-zero c.if-left-eq0.false in
    let may = sym c.may_call.ensures ∙ c.if-may_call.true in
    let fits = next_fits (turn_of c.args.n c.args.left c.args.node) c.loop-number.number (3 + c.args.node.calls + 1) _ _ _ _ _ c.loop-number.invariant c.loop-number-test.true in
    let m = may_go_on c.args.n c.args.left c.args.node c.loop-number.number c.loop-number.to _ may c.after_call.ensures some c.requires.left_bound _ fits c.requires.node_bound in
    (omega arith, m)

pub loop-number-preserved : goal.loop-number-preserved
loop-number-preserved t c =
    let n = c.args.n in
    let left = c.args.left in
    let node = c.args.node in
    let number = c.loop-number.number in
    let may = sym c.may_call.ensures in
    let wrote : Wrote (turn_of n left node number) c.loop-number.to c.if-may_call.to c.loop-number.out c.if-may_call.out =
    elim c.if-may_call.branch [
      | then-may_call w ↦ went_on n left node number c.loop-number.to _ (may ∙ w.if-may_call.true) w.after_call.ensures _ _ _ _ _ w.list_from-to.ensures w.out-is w.to-is
      | else-may_call w ↦ stayed n left node number c.loop-number.to (may ∙ w.if-may_call.false) _ _ _ w.out-is w.to-is
    ] in
    next (turn_of n left node) number (3 + node.calls + 1) _ _ _ _ _ c.loop-number.invariant c.loop-number-test.true _ _ wrote

pub returns : goal.returns
returns t c = no_more (turn_of c.args.n c.args.left c.args.node) c.loop-number.number (3 + c.args.node.calls + 1) _ _ _ _ _ c.loop-number.invariant c.loop-number-test.false
