use Rattle.facts.proofs.Prelude.{◌≡◌, false}
use Rattle.game.specs.Game.{some_below, reaches}
use Rattle.game.proofs.state.State.is_free.Given as goal

abbrev pub invariant-loop-start : goal.invariant-loop-start
invariant-loop-start l = some_below (reaches l.self.lengths l.x) l.start ≡ false
