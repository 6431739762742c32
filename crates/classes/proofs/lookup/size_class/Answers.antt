use Rattle.facts.proofs.Prelude.{arith}
use Rattle.classes.proofs.NearFit.{step-within, class-fits, fit_small, fit-medium}
use Rattle.classes.proofs.Answers.{is-small, is-medium, is-large}
use Rattle.classes.proofs.lookup.size_class.Goals as goal

pub returns-then-size-from : goal.returns-then-size-from
returns-then-size-from c = is-large _ (omega arith)

pub by_step-requires : goal.by_step-requires
by_step-requires c = rw c.step_of.ensures (step-within _ (omega arith))

pub overflow_add-class : goal.overflow_add-class
overflow_add-class c = class-fits _ _ _ c.step_of.ensures (rw c.from-near.ensures c.by_step.ensures) _ _ c.block_bytes.ensures c.from-2.ensures (omega arith)

-- The two other answers, by one comparison.
pub returns-then-class-lt-NUM_CLASSES : goal.returns-then-class-lt-NUM_CLASSES
returns-then-class-lt-NUM_CLASSES c =
    let z = fit_small _ _ _ c.step_of.ensures (rw c.from-near.ensures c.by_step.ensures) _ _ c.block_bytes.ensures c.from-2.ensures (omega arith) (omega arith) in
    is-small _ _ z.0 z.1

pub returns-else-class-lt-NUM_CLASSES : goal.returns-else-class-lt-NUM_CLASSES
returns-else-class-lt-NUM_CLASSES c =
    let z = fit-medium _ _ _ c.step_of.ensures (rw c.from-near.ensures c.by_step.ensures) _ _ c.block_bytes.ensures c.from-2.ensures (omega arith) (omega arith) in
    is-medium _ _ z.0 (omega arith) z.1
