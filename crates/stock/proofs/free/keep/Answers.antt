use Rattle.stock.proofs.FreeSteps.{pre-call, word_low, keep_absent, keep-beyond, keep_low, keep_unmade, keep-pushed}
use Rattle.std.proofs.Common.{rules}
use Rattle.stock.proofs.free.keep.Goals as goal

pub is_out-requires : goal.is_out-requires
is_out-requires c = search (rules, pre-call, word_low)

pub returns-then-k-gt-COUNT_MAX : goal.returns-then-k-gt-COUNT_MAX
returns-then-k-gt-COUNT_MAX c = search keep-beyond

pub returns-then-not-made : goal.returns-then-not-made
returns-then-not-made c = search keep_unmade

pub push-requires : goal.push-requires
push-requires c = search (rules, keep_low)

pub returns-then-not-is_out : goal.returns-then-not-is_out
returns-then-not-is_out c = search keep_absent

pub returns : goal.returns
returns c = search keep-pushed
