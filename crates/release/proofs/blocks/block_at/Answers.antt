use Rattle.release.proofs.BlockSteps.{near_fits, index-fits, past-blocks, between-blocks, a_block}
use Rattle.release.proofs.blocks.block_at.Goals as goal

pub returns-then-x-shape : goal.returns-then-x-shape
returns-then-x-shape c = search past-blocks

pub overflow_mul-product : goal.overflow_mul-product
overflow_mul-product c = search near_fits

pub returns-then-product-shape : goal.returns-then-product-shape
returns-then-product-shape c = search between-blocks

pub overflow_cast-result : goal.overflow_cast-result
overflow_cast-result c = search index-fits

pub returns : goal.returns
returns c = search a_block
