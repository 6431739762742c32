use Rattle.stock.proofs.FreeSteps.{free-stocked, free-pre, free-full, not_full, free-kept}
use Rattle.std.proofs.Common.{rules}
use Rattle.stock.proofs.free.take_back.Goals as goal

pub returns-then-is_stocked : goal.returns-then-is_stocked
returns-then-is_stocked c = search free-stocked

pub returns-then-is_full : goal.returns-then-is_full
returns-then-is_full c = search free-full

pub keep-requires : goal.keep-requires
keep-requires c = record { free_pre = search free-pre; k_value = search rules; k_value_2 = search not_full }

pub returns : goal.returns
returns c = search free-kept
