use Rattle.release.proofs.StretchSteps.{found-low, room-some, top-low, bits-there, low-within, bits-within, went, held_back}
use Rattle.std.proofs.Common.{rules}
use Rattle.release.proofs.marks.mark_along.Goals as goal

pub room-requires : goal.room-requires
room-requires c = search (found-low, c.in-Some.ensures)

pub stretch-n-requires : goal.stretch-n-requires
stretch-n-requires c = record { i_in_bounds = search rules; le_room = search (room-some, c.in-Some.ensures) }

pub lowest-requires : goal.lowest-requires
lowest-requires c = record { s_bound = search rules; n_bound = search (top-low, c.in-Some.ensures) }

pub mark_bits-requires : goal.mark_bits-requires
mark_bits-requires c = record {
  has = search (bits-there, c.in-Some.ensures);
  s_bound = (search (low-within, c.in-Some.ensures), search (bits-within, c.in-Some.ensures));
}

-- what the calls on the way have told
pub returns-then-mark_bits : goal.returns-then-mark_bits
returns-then-mark_bits c =
    went _ _ _ _ c.requires.near _ _ _ _ _ c.in-Some.ensures c.args.up _ c.room.ensures _ _ c.stretch-n.ensures _ c.lowest.ensures c.requires.field_pre.there _ c.requires.step_value c.mark_bits.ensures c.if-mark_bits.true

pub returns : goal.returns
returns c = search (rules, held_back)
