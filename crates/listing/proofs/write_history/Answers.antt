use Rattle.facts.proofs.Prelude.{◌+◌, ◌≡◌, arith}
use Rattle.listing.specs.Listing.{number_at, so_far, Wrote}
use Rattle.listing.proofs.Gather.{next, no_more}
use Rattle.listing.proofs.write_history.Goals as goal

pub loop-i-preserved : goal.loop-i-preserved
loop-i-preserved c =
    let args = c.args in
    let wrote : Wrote (number_at args.node.numbers c.loop-i.i) (args.at + c.loop-i.i) (args.at + (c.loop-i.i + 1)) c.loop-i.out _ =
    record { next = omega arith; list = c.write.ensures } in
    next (number_at args.node.numbers) c.loop-i.i args.node.calls _ _ _ _ _ c.loop-i.invariant c.loop-i-test.true _ _ wrote

pub returns : goal.returns
unfolding so_far
returns c =
    let args = c.args in
    let end : args.at + args.node.calls ≡ args.at + c.loop-i.i = omega arith in
    rw end (no_more (number_at args.node.numbers) c.loop-i.i args.node.calls _ _ _ _ _ c.loop-i.invariant c.loop-i-test.false)
