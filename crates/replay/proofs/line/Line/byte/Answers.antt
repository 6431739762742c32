use Rattle.std.proofs.Common.{eq-eqb, ne_eqb}
use Rattle.replay.specs.way.Line.{with_byte}
use Rattle.replay.proofs.line.Line.byte.Goals as goal

pub returns-then-b-eq61 : goal.returns-then-b-eq61
unfolding with_byte
returns-then-b-eq61 c = rw (c.put.ensures, c.place_after-self.ensures, eq-eqb _ 61 c.if-b-eq61.true)

pub returns-else-b-eq61 : goal.returns-else-b-eq61
unfolding with_byte
returns-else-b-eq61 c = rw (c.put.ensures, c.place_after-self.ensures, ne_eqb _ 61 c.if-b-eq61.false)
