use Rattle.facts.proofs.Prelude.{◌≡◌, ◌≤◌, false, length, sym, length-take-le}
use Rattle.std.proofs.lemmas.Result.{err_from_is_err_and}
use Rattle.tables.specs.Table.{bad_slots, table}
use Rattle.tables.proofs.Answer.{rate_refused, slots_refused, fitting, filled}
use Rattle.tables.proofs.class_table.Goals as goal

pub returns-in_err-rate : goal.returns-in_err-rate
returns-in_err-rate c =
    let p = err_from_is_err_and c.from_residual.result c.from_residual.ensures.1 in
    rw (p.1, p.2) (rate_refused c.args.a c.args.b c.args.top c.args.slots c.args.list.now c.in_err-rate.field-0.0 c.in_err-rate.ensures.code)

pub returns-then-bad_slots : goal.returns-then-bad_slots
returns-then-bad_slots c =
    let rate = c.in_ok-rate.ensures.rate in
    slots_refused c.args.a c.args.b c.args.top c.args.slots c.args.list.now c.in_ok-rate.ensures.code (sym (rw (rate.0, rate.1, rate.2) at c.if-bad_slots.ensures))

pub returns : goal.returns
returns c =
    let rate = c.in_ok-rate.ensures.rate in
    let good : bad_slots c.args.a c.args.b c.args.top c.args.slots (length c.args.list.now) ≡ false = sym (rw (rate.0, rate.1, rate.2) at c.if-bad_slots.ensures) in
    let fits : c.args.slots ≤ length c.args.list.now = fitting c.args.a c.args.b c.args.top c.args.slots c.args.list.now good in
    let whole : c.fill.new.list ≡ table c.args.a c.args.b c.args.top c.args.slots = rw (rate.0, rate.1, rate.2, length-take-le c.args.slots c.args.list.now fits) at c.fill.ensures in
    filled c.args.a c.args.b c.args.top c.args.slots c.args.list.now c.in_ok-rate.ensures.code good c.fill.new.list whole
