use Rattle.stock.proofs.AllocSteps.{alloc-took, alloc-invalid, alloc-popped}
use Rattle.stock.proofs.TopSteps.{top-low}
use Rattle.std.proofs.Common.{rules}
use Rattle.stock.proofs.alloc.alloc.Goals as goal

pub returns-then-k-eq0 : goal.returns-then-k-eq0
returns-then-k-eq0 c = search alloc-took

pub returns-then-not-top_valid : goal.returns-then-not-top_valid
returns-then-not-top_valid c = search alloc-invalid

pub entry-requires : goal.entry-requires
entry-requires c = record { stock_pre = search rules; k_bound = search top-low }

pub returns : goal.returns
returns c = search alloc-popped
