use Rattle.facts.proofs.Prelude.{suc, arith, true, ◌≡◌, refl, lt-ltb}
use Rattle.game.specs.Game.{reaches, is_free}
use Rattle.game.proofs.Below.{some-found}
use Rattle.game.proofs.state.State.is_free.Goals as goal

pub returns-then-x-start : goal.returns-then-x-start
unfolding is_free
returns-then-x-start c =
    let s = c.args.self.lengths in
    let x = c.args.x in
    let there : reaches s x c.loop-start.start ≡ true = lt-ltb _ _ (rw c.from.ensures at c.if-x-start.true) in
    rw (some-found (reaches s x) c.loop-start.start (suc x) (omega arith) there) refl

pub returns : goal.returns
unfolding is_free
returns c =
    let end : c.loop-start.start ≡ suc c.args.x = omega arith in
    rw (rw end at c.loop-start.invariant) refl
