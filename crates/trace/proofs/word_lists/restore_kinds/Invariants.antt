use Rattle.facts.proofs.Prelude.{◌++◌, map, ◌≡◌, take, drop}
use Rattle.trace.specs.Words.{restore_kind}
use Rattle.trace.proofs.word_lists.restore_kinds.Given as goal

-- What is restored so far.
abbrev pub invariant-loop-w : goal.invariant-loop-w
invariant-loop-w l = l.blocks ≡ map restore_kind (take l.w-index l.initial.blocks) ++ drop l.w-index l.initial.blocks
