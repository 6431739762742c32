use Rattle.listing.proofs.Answer.{may_list, size_is}
use Rattle.listing.proofs.listing_size.Goals as goal

pub list_from-requires : goal.list_from-requires
list_from-requires c =
    let m = may_list _ _ _ c.start.ensures c.requires in
    record { left_bound = m.0; node_bound = m.1 }

pub returns : goal.returns
returns c = size_is _ _ _ c.start.ensures _ _ _ c.list_from.ensures
