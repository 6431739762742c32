use Rattle.std.proofs.Common.{◌≡◌, ◌++◌, map, take, drop}
use Rattle.replay.specs.way.Line as way
use Rattle.replay.proofs.line.Line.words.Given as goal

-- The low halves so far.
abbrev pub invariant-loop-i : goal.invariant-loop-i
invariant-loop-i l = l.words ≡ map way.low (take l.i l.self.numbers) ++ drop l.i l.initial.words
