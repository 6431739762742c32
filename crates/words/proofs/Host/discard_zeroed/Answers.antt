-- `words::Host::discard_zeroed` meets its contract.
use Rattle.words.proofs.Host.discard_zeroed.Goals as goal

pub returns-then-bit : goal.returns-then-bit
returns-then-bit c = rw (← c.bit.ensures, c.if-bit.true) c.bit-then-bit.ensures

pub returns-else-bit : goal.returns-else-bit
returns-else-bit c = rw (← c.bit.ensures, c.if-bit.false)
