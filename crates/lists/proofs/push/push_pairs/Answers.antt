use Rattle.facts.proofs.Prelude.{◌-◌, ◌*◌, ◌<◌, ◌≡◌, arith}
use Rattle.lists.proofs.PushSteps.{high-pre, low-pre, last-pre, first_block, next-block, last_block, pairing-start, pairing-turn, pairing-odd, pairing-even}
use Rattle.lists.proofs.push.push_pairs.Goals as goal

pub loop-j-init : goal.loop-j-init
loop-j-init c = pairing-start _ _ _ _ _ _ c.requires.pairs_pre.within

pub index_of-requires : goal.index_of-requires
index_of-requires c =
    let more : 1 < c.args.n - 2 * c.loop-j.j = omega arith in
    record {
      index_pre = high-pre _ _ _ _ _ _ c.requires.pairs_pre _ _ _ c.loop-j.invariant more;
      w_value = first_block _ _ _ _ _ _ c.requires.pairs_pre.within _ _ _ c.loop-j.invariant c.requires.list_value more;
    }

pub index_of-requires-in-loop-j : goal.index_of-requires-in-loop-j
index_of-requires-in-loop-j c =
    let more : 1 < c.args.n - 2 * c.loop-j.j = omega arith in
    record {
      index_pre = low-pre _ _ _ _ _ _ c.requires.pairs_pre _ _ _ c.loop-j.invariant more;
      w_value = next-block _ _ _ _ _ _ c.requires.pairs_pre.within _ _ _ c.loop-j.invariant c.requires.list_value more;
    }

pub loop-j-preserved : goal.loop-j-preserved
loop-j-preserved c = search pairing-turn

pub index_of-last-requires : goal.index_of-last-requires
index_of-last-requires c =
    let odd : c.args.n - 2 * c.loop-j.j ≡ 0 → ⊥ = λ z. omega arith in
    record {
      index_pre = last-pre _ _ _ _ _ _ c.requires.pairs_pre _ _ _ c.loop-j.invariant odd;
      w_value = last_block _ _ _ _ _ _ c.requires.pairs_pre.within _ _ _ c.loop-j.invariant c.requires.list_value odd;
    }

pub returns-then-n-eq1 : goal.returns-then-n-eq1
returns-then-n-eq1 c = search pairing-odd

pub returns-else-n-eq1 : goal.returns-else-n-eq1
returns-else-n-eq1 c = search pairing-even
