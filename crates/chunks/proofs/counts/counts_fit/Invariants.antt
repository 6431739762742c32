use Rattle.facts.proofs.Prelude.{ℕ, ◌<◌, ◌≡◌, true}
use Rattle.chunks.specs.way.Tally.{fits}
use Rattle.chunks.proofs.counts.counts_fit.Given as goal

abbrev pub invariant-loop-i : goal.invariant-loop-i
invariant-loop-i l = (k : ℕ) → k < l.i → fits l.meta l.chunks l.counts k ≡ true
