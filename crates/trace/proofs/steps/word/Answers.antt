use Rattle.trace.proofs.WordWays.{word-low}
use Rattle.trace.proofs.steps.word.Goals as goal

pub take_word-requires-clause-c_lt_class_count : goal.take_word-requires-clause-c_lt_class_count
take_word-requires-clause-c_lt_class_count c = word-low c.args.w c.in-Take.c c.in_ok-c.field-0 c.in_ok-c.ensures c.in-Take.is
