use Rattle.facts.proofs.Prelude.{sym}
use Rattle.listing.proofs.Answer.{may_list, refused, no_room, listed-all}
use Rattle.listing.proofs.short_histories.Goals as goal

pub returns-then-bad_bounds : goal.returns-then-bad_bounds
returns-then-bad_bounds c = refused _ _ _ (sym c.if-bad_bounds.ensures)

pub returns-then-list-size : goal.returns-then-list-size
returns-then-list-size c = no_room _ _ _ (sym c.if-bad_bounds.ensures) _ c.listing_size-size.ensures c.if-list-size.true

pub list_from-requires : goal.list_from-requires
list_from-requires c =
    let m = may_list _ _ _ c.start.ensures (sym c.if-bad_bounds.ensures) in
    record { left_bound = m.0; node_bound = m.1 }

pub returns : goal.returns
returns c = listed-all _ _ _ (sym c.if-bad_bounds.ensures) _ c.listing_size-size.ensures c.if-list-size.false _ c.start.ensures _ _ c.list_from.ensures
