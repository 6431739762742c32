use Rattle.classes.proofs.Answers.{in_small, in_medium, is-large}
use Rattle.facts.proofs.Prelude.{arith}
use Rattle.classes.proofs.lookup_tables.LookupTables.class_of.Goals as goal

pub returns-then-size-le-MAX_SMALL_SIZE : goal.returns-then-size-le-MAX_SMALL_SIZE
returns-then-size-le-MAX_SMALL_SIZE c = in_small _ _ _ c.args.self.now.small_lut c.from.ensures (omega arith)

pub returns-then-size-le-MAX_MEDIUM_SIZE : goal.returns-then-size-le-MAX_MEDIUM_SIZE
returns-then-size-le-MAX_MEDIUM_SIZE c = in_medium _ _ _ c.args.self.now.medium_lut c.from-then-size-le-MAX_MEDIUM_SIZE.ensures (omega arith) (omega arith)

pub returns-else-size-le-MAX_MEDIUM_SIZE : goal.returns-else-size-le-MAX_MEDIUM_SIZE
returns-else-size-le-MAX_MEDIUM_SIZE c = is-large _ (omega arith)
