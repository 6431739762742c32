use Rattle.release.proofs.ValidSteps.{out-fits, not_last, kept-empty, kept-cold, give-last}
use Rattle.std.proofs.Common.{rules}
use Rattle.release.proofs.valid.destination_valid.Goals as goal

pub overflow_sub-out : goal.overflow_sub-out
overflow_sub-out c = search out-fits

pub returns-then-out-m : goal.returns-then-out-m
returns-then-out-m c = search not_last

pub returns-in-ToEmpty : goal.returns-in-ToEmpty
returns-in-ToEmpty c = search (rules, kept-empty, kept-cold, give-last)

pub returns-in-ToCold : goal.returns-in-ToCold
returns-in-ToCold c = search (rules, kept-empty, kept-cold, give-last)

pub returns-in-ToArena : goal.returns-in-ToArena
returns-in-ToArena c = search (rules, kept-empty, kept-cold, give-last)
