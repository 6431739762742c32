use Rattle.release.proofs.MarkSteps.{span_fits}
use Rattle.release.proofs.OneSteps.{word-pre, near-pre, one-no_block, one_back_pre, one-back}
use Rattle.release.proofs.one.one_in.Goals as goal

pub word_of-base-requires : goal.word_of-base-requires
word_of-base-requires c = search word-pre

pub overflow_mul-span : goal.overflow_mul-span
overflow_mul-span c = search span_fits

pub block_in-requires : goal.block_in-requires
block_in-requires c = search near-pre

pub returns-in_default : goal.returns-in_default
returns-in_default c = search (one-no_block, c.in_default.ensures)

pub back_one-requires : goal.back_one-requires
back_one-requires c = search (one_back_pre, c.in-Some.ensures)

pub returns : goal.returns
returns c = search (one-back, c.in-Some.ensures)
