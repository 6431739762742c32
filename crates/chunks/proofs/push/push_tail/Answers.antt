use Rattle.chunks.proofs.PushRuns.{tail_stacks, free-fits, size_fits, free-there, tail-done}
use borrow.Author.Rules.{rules}
use Rattle.chunks.proofs.push.push_tail.Goals as goal

pub push_entries-requires : goal.push_entries-requires
push_entries-requires c = record { push_entries_pre = search tail_stacks; list_value = search rules }

pub overflow_cast-list : goal.overflow_cast-list
overflow_cast-list c = search size_fits

pub overflow_add-top : goal.overflow_add-top
overflow_add-top c = search free-fits

pub set-requires : goal.set-requires
set-requires c = search free-there

pub returns : goal.returns
returns c = search tail-done
