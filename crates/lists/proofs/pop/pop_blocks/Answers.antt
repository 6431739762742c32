use Rattle.lists.proofs.PopSteps.{end_none, odd_pre, words-pre, rest-pre, some-done}
use Rattle.lists.proofs.pop.pop_blocks.Goals as goal

pub returns-then-k-eq0 : goal.returns-then-k-eq0
returns-then-k-eq0 c = search end_none

pub pop_end-requires : goal.pop_end-requires
pop_end-requires c =
    let both = odd_pre _ _ _ _ _ _ _ c.requires c.if-k-eq0.false in
    record { pop_pre = both.0; k_bound = both.1 }

pub pop_pairs-requires : goal.pop_pairs-requires
pop_pairs-requires c = words-pre _ _ _ _ _ _ _ c.requires c.if-k-eq0.false _ _ c.pop_end.ensures

pub pop_end-requires-2 : goal.pop_end-requires-2
pop_end-requires-2 c =
    let both = rest-pre _ _ _ _ _ _ _ c.requires c.if-k-eq0.false _ _ c.pop_end.ensures _ _ c.pop_pairs.ensures in
    record { pop_pre = both.0; k_bound = both.1 }

pub returns : goal.returns
returns c = some-done _ _ _ _ _ _ _ c.requires c.if-k-eq0.false _ _ c.pop_end.ensures _ _ c.pop_pairs.ensures _ _ c.pop_end-2.ensures
