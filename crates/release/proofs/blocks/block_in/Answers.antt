use Rattle.release.proofs.BlockSteps.{outside, near-product, near-index, inside-none, inside-at}
use Rattle.release.proofs.blocks.block_in.Goals as goal

pub returns-then-x-span : goal.returns-then-x-span
returns-then-x-span c = search outside

pub overflow_mul-product : goal.overflow_mul-product
overflow_mul-product c = search near-product

pub returns-then-product-shape : goal.returns-then-product-shape
returns-then-product-shape c = search inside-none

pub overflow_cast-result : goal.overflow_cast-result
overflow_cast-result c = search near-index

pub returns : goal.returns
returns c = search inside-at
