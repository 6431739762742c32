use Rattle.facts.proofs.Prelude.{◌≤◌, ◌*◌, ◌≡◌}
use Rattle.game.specs.Game.{live_below}
use Rattle.game.proofs.state.State.live.Given as goal

abbrev pub invariant-loop-length : goal.invariant-loop-length
invariant-loop-length l = record { small : l.sum ≤ 255 * l.length-index; sum_is : l.sum ≡ live_below l.length-items l.length-index }
