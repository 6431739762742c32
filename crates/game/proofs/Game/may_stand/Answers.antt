use Rattle.facts.proofs.Prelude.{ℕ, ◌+◌, arith, Bool, ◌≡◌, refl, sym, le-leb, lt-leb}
use Rattle.game.specs.Game.{is_free, may_stand}
use Rattle.game.proofs.Below.{every-fails}
use Rattle.game.proofs.Game.may_stand.Goals as goal

pub returns-then-self-q : goal.returns-then-self-q
unfolding may_stand
returns-then-self-q c = rw (lt-leb _ _ c.if-self-q.true) refl

pub returns-then-not-is_free : goal.returns-then-not-is_free
unfolding may_stand
returns-then-not-is_free c =
    let f : ℕ → Bool = λ j. is_free c.args.s.lengths (c.args.q + j) in
    rw (le-leb _ _ c.if-self-q.false, every-fails f c.loop-i.i c.args.p c.loop-i-test.true (sym c.if-not-is_free.ensures)) refl

pub returns : goal.returns
unfolding may_stand
returns c =
    let end : c.loop-i.i ≡ c.args.p = omega arith in
    rw (le-leb _ _ c.if-self-q.false, rw end at c.loop-i.invariant) refl
