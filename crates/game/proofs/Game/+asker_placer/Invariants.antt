-- The cycle of calls {asker, placer}: the asker with k moves left calls the placer and itself with k - 1, and the placer calls the
-- asker with the moves that it was given, so the measure is 2k for the asker and 2k + 1 for the placer.
use Rattle.facts.proofs.Prelude.{◌+◌, ◌-◌, ◌≡◌, true, false}
use Rattle.game.specs.Game.{some_below, every_below, asking, releasing, placing, wins}
use Rattle.game.proofs.Game.+asker_placer.Given as goal

abbrev pub decreases-asker : goal.decreases-asker
decreases-asker l = l.moves + l.moves

abbrev pub decreases-placer : goal.decreases-placer
decreases-placer l = l.moves + l.moves + 1

abbrev pub invariant-asker-loop-more : goal.invariant-asker-loop-more
invariant-asker-loop-more l = some_below (asking l.self.pages (wins l.self.pages l.self.limit (l.moves - 1)) l.s.lengths) l.more ≡ false

abbrev pub invariant-asker-loop-q : goal.invariant-asker-loop-q
invariant-asker-loop-q l = some_below (releasing (wins l.self.pages l.self.limit (l.moves - 1)) l.s.lengths) l.q ≡ false

abbrev pub invariant-placer-loop-q : goal.invariant-placer-loop-q
invariant-placer-loop-q l = every_below (placing l.self.pages l.p (wins l.self.pages l.self.limit l.moves) l.s.lengths) l.q ≡ true
