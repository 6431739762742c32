-- `words::Host::new` meets its contract.
use Rattle.std.proofs.Common.{lit≤}
use Rattle.words.proofs.Answers.{host-made}
use Rattle.words.proofs.Host.new.Goals as goal

pub returns : goal.returns
returns c = host-made c.args.reservation c.args.commit c.args.done c.args.zeroes 32 (lit≤ tt)
