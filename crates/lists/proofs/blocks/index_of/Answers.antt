use Rattle.lists.proofs.InverseLaws.{product-fits, quotient_fits}
use Rattle.lists.proofs.BlockSteps.{block-from, block_near, block-index}
use Rattle.lists.proofs.blocks.index_of.Goals as goal

pub overflow_sub-x : goal.overflow_sub-x
overflow_sub-x c = search block-from

pub overflow_mul-result : goal.overflow_mul-result
overflow_mul-result c = search (product-fits, block_near)

pub overflow_cast-result : goal.overflow_cast-result
overflow_cast-result c = search (quotient_fits, block_near)

pub returns : goal.returns
returns c = search block-index
