use Rattle.lists.proofs.PushSteps.{first-pre, end-pre, odd_pre, top-block, under-block, push-none, push-one, push_even, push_odd}
use borrow.Author.Rules.{rules}
use Rattle.lists.proofs.push.push_entries.Goals as goal

pub returns-then-n-eq0 : goal.returns-then-n-eq0
returns-then-n-eq0 c = search push-none

pub index_of-requires : goal.index_of-requires
index_of-requires c = record { index_pre = search first-pre; w_value = search top-block }

pub returns-then-n-eq1 : goal.returns-then-n-eq1
returns-then-n-eq1 c = search push-one

pub push_pairs-requires : goal.push_pairs-requires
push_pairs-requires c = record { pairs_pre = search rules; list_value = search rules }

pub returns-then-top-eq0 : goal.returns-then-top-eq0
returns-then-top-eq0 c = search push_even

pub index_of-requires-2 : goal.index_of-requires-2
index_of-requires-2 c = record { index_pre = search end-pre; w_value = search under-block }

pub push_pairs-requires-2 : goal.push_pairs-requires-2
push_pairs-requires-2 c = record { pairs_pre = odd_pre _ _ _ _ _ c.requires.push_entries_pre c.if-n-eq0.false _ _ c.if-top-eq0.false c.set_entry-2.ensures; list_value = c.requires.list_value }

pub returns : goal.returns
returns c = search push_odd
