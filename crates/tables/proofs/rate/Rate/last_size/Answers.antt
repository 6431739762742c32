use Rattle.facts.proofs.Prelude.{ℕ, suc, ◌+◌, ◌-◌, ◌≡◌, arith, sym, ◌∙◌}
use Rattle.tables.specs.Table.{sizes_from}
use Rattle.tables.proofs.Sizes.{last_step}
use Rattle.tables.proofs.rate.Rate.last_size.Goals as goal

pub loop-preserved : goal.loop-preserved
loop-preserved c =
    let rate = c.args.self in
    let n : ℕ = c.args.slots - (c.loop.counter + 1) in
    let two : c.args.slots + 1 - c.loop.counter ≡ suc (suc n) = omega arith in
    let one : c.args.slots + 1 - (c.loop.counter + 1) ≡ suc n = omega arith in
    let last : c.args.slots - c.loop.counter ≡ suc n = omega arith in
    record {
      size_le_top = c.next_size-size.ensures.within;
      last_is = rw (c.next_size-size.ensures.same, one) (sym (last_step rate.a rate.b rate.top c.loop.size n) ∙ rw (two, last) at c.loop.invariant.last_is);
    }

pub returns : goal.returns
unfolding sizes_from
returns c =
    let one : c.args.slots + 1 - c.loop.counter ≡ 1 = omega arith in
    let none : c.args.slots - c.loop.counter ≡ 0 = omega arith in
    rw (one, none) at c.loop.invariant.last_is
