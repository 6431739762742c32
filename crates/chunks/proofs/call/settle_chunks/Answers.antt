use Rattle.chunks.proofs.CallPasses.{place-next, give-next, settles}
use borrow.Author.Rules.{rules}
use Rattle.chunks.proofs.call.settle_chunks.Goals as goal

pub push_blocks-requires : goal.push_blocks-requires
push_blocks-requires c = record { push_all_pre = search rules; list_value = search rules }

pub place_chunks-requires : goal.place_chunks-requires
place_chunks-requires c =
    place-next _ _ _ _ _ _ _ _ c.requires _ c.push_blocks.ensures

pub give_chunks-requires : goal.give_chunks-requires
give_chunks-requires c =
    give-next _ _ _ _ _ _ _ _ c.requires _ c.push_blocks.ensures _ _ c.place_chunks.ensures

pub returns : goal.returns
returns c =
    settles _ _ _ _ _ _ _ _ c.requires _ c.push_blocks.ensures _ _ c.place_chunks.ensures _ c.give_chunks.ensures
