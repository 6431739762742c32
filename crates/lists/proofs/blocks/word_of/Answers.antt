use Rattle.lists.proofs.BlockSteps.{inside, word-done}
use Rattle.facts.proofs.Prelude.{arith}
use Rattle.lists.proofs.blocks.word_of.Goals as goal

pub overflow_mul-i : goal.overflow_mul-i
overflow_mul-i c = omega (arith, inside _ _ _ c.requires)

pub overflow_add-shape : goal.overflow_add-shape
overflow_add-shape c = omega (arith, inside _ _ _ c.requires)

pub overflow_cast-shape : goal.overflow_cast-shape
overflow_cast-shape c = omega (arith, inside _ _ _ c.requires)

pub overflow_add-q : goal.overflow_add-q
overflow_add-q c = omega (arith, inside _ _ _ c.requires)

pub returns : goal.returns
returns c = search word-done
