use Rattle.facts.proofs.Prelude.{arith, add-one, refl}
use Rattle.game.specs.Game.{live_below}
use Rattle.game.proofs.state.State.live.Goals as goal

pub loop-length-init : goal.loop-length-init
unfolding live_below
loop-length-init c = record { small = omega arith; sum_is = refl }

pub loop-length-preserved : goal.loop-length-preserved
unfolding live_below
loop-length-preserved c = record { small = omega arith; sum_is = rw (add-one, c.loop-length.invariant.sum_is, c.from-sum.ensures) (omega arith) }
