use Rattle.lists.proofs.PushSteps.{push-done}
use borrow.Author.Rules.{rules}
use Rattle.lists.proofs.push.push_list.Goals as goal

pub push_entries-requires : goal.push_entries-requires
push_entries-requires c = record { push_entries_pre = search rules; list_value = search rules }

pub returns : goal.returns
returns c =
    let a = c.args in
    push-done _ a.shape _ _ a.list.now _ _ _ c.get-top.ensures c.push_entries.ensures c.set.ensures c.set-2.ensures
