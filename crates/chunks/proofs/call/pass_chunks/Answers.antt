use Rattle.chunks.proofs.CallTests.{match_pre}
use Rattle.chunks.proofs.CallPasses.{valid-next, clear_next, taken, invalid, mismatch}
use Rattle.chunks.proofs.call.pass_chunks.Goals as goal

pub chunks_match-requires : goal.chunks_match-requires
chunks_match-requires c = search match_pre

pub returns-then-not-chunks_match : goal.returns-then-not-chunks_match
returns-then-not-chunks_match c = search mismatch

pub chunks_valid-requires : goal.chunks_valid-requires
chunks_valid-requires c = search valid-next

pub returns-then-not-chunks_valid : goal.returns-then-not-chunks_valid
returns-then-not-chunks_valid c = search invalid

pub take_blocks-requires : goal.take_blocks-requires
take_blocks-requires c = search clear_next

pub returns : goal.returns
returns c = search taken
