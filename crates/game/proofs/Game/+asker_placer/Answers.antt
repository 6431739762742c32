use Rattle.facts.proofs.Prelude.{◌-◌, ◌<◌, arith, pos_of_ne-zero, false, ◌≡◌, refl, sym}
use Rattle.game.specs.Game.{live, place, wins}
use Rattle.game.proofs.Turns.{place_loses, placed-all, ask-wins, release-wins, neither}
use Rattle.game.proofs.Game.+asker_placer.Goals as goal

pub asker-returns-then-moves-eq0 : goal.asker-returns-then-moves-eq0
unfolding wins
asker-returns-then-moves-eq0 t c = rw c.if-moves-eq0.true refl

pub asker-returns-then-placer : goal.asker-returns-then-placer
asker-returns-then-placer t c =
    let few : c.loop-more.more < c.args.self.limit - live c.args.s.lengths = rw (c.saturating_sub-more-end.ensures, c.live.ensures.same) at c.loop-more-test.true in
    sym (ask-wins c.args.self.pages c.args.self.limit c.args.moves c.args.s.lengths (pos_of_ne-zero c.if-moves-eq0.false) c.loop-more.more few (sym c.if-placer.ensures))

pub asker-returns-then-asker : goal.asker-returns-then-asker
asker-returns-then-asker t c =
    sym (release-wins c.args.self.pages c.args.self.limit c.args.moves c.args.s.lengths (pos_of_ne-zero c.if-moves-eq0.false) c.loop-q.q c.loop-q-test.true c.if-s-q-ne0.true (rw c.with_run.ensures at (sym c.if-asker.ensures)))

pub asker-returns : goal.asker-returns
asker-returns t c =
    let all : c.loop-more.more ≡ c.args.self.limit - live c.args.s.lengths = omega (arith, c.saturating_sub-more-end.ensures, c.live.ensures.same) in
    let end : c.loop-q.q ≡ c.args.self.pages = omega arith in
    sym (neither c.args.self.pages c.args.self.limit c.args.moves c.args.s.lengths (pos_of_ne-zero c.if-moves-eq0.false) c.loop-more.more c.loop-q.q all end c.loop-more.invariant c.loop-q.invariant)

pub placer-returns-then-not-asker : goal.placer-returns-then-not-asker
placer-returns-then-not-asker t c =
    let lost : wins c.args.self.pages c.args.self.limit c.args.moves (place c.args.p c.loop-q.q c.args.s.lengths) ≡ false = rw c.with_run.ensures at (sym c.if-not-asker.ensures) in
    sym (place_loses c.args.self.pages c.args.p (wins c.args.self.pages c.args.self.limit c.args.moves) c.args.s.lengths c.loop-q.q c.loop-q-test.true (sym c.if-may_stand.ensures) lost)

pub placer-returns : goal.placer-returns
placer-returns t c =
    let end : c.loop-q.q ≡ c.args.self.pages = omega arith in
    sym (placed-all c.args.self.pages c.args.p (wins c.args.self.pages c.args.self.limit c.args.moves) c.args.s.lengths c.loop-q.q end c.loop-q.invariant)
