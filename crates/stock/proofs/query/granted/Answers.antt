use Rattle.facts.proofs.Prelude.{rules, arith, not, ap}
use Rattle.stock.proofs.QuerySteps.{granted-far, granted_unmade, near-pre, granted-stocked, granted-out}
use Rattle.stock.proofs.query.granted.Goals as goal

pub returns-then-x-from : goal.returns-then-x-from
returns-then-x-from c = search (rules, granted-far)

pub returns-then-not-format_valid : goal.returns-then-not-format_valid
returns-then-not-format_valid c = search granted_unmade

pub is_stocked-requires : goal.is_stocked-requires
is_stocked-requires c = search (rules, near-pre)

pub returns-then-not-is_stocked : goal.returns-then-not-is_stocked
returns-then-not-is_stocked c =
    granted-out c.args.c c.args.w c.behind-x.result c.behind-x.ensures (search rules) c.args.n c.args.meta.now c.requires (omega arith) c.is_stocked.result c.is_stocked.ensures
    c.format_valid.result c.format_valid.ensures (ap not c.if-not-format_valid.false) c.out_at.result (ap not c.if-not-is_stocked.true) c.out_at.ensures

pub returns-else-not-is_stocked : goal.returns-else-not-is_stocked
returns-else-not-is_stocked c = search (rules, granted-stocked)
