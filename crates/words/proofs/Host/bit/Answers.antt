-- `words::Host::bit` meets its contract.
use Rattle.std.proofs.Common.{ℕ, ◌/◌, ◌^◌, eqb, ap}
use lib.Bits.{and_mask}
use Rattle.words.proofs.Host.bit.Goals as goal

pub returns : goal.returns
returns c = ap (λ (n : ℕ). eqb n 1) (and_mask (c.args.self.bits / 2 ^ c.args.k) 1)
