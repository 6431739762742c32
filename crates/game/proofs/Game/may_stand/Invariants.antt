use Rattle.facts.proofs.Prelude.{◌+◌, ◌≡◌, true}
use Rattle.game.specs.Game.{every_below, is_free}
use Rattle.game.proofs.Game.may_stand.Given as goal

abbrev pub invariant-loop-i : goal.invariant-loop-i
invariant-loop-i l = every_below (λ j. is_free l.s.lengths (l.q + j)) l.i ≡ true
