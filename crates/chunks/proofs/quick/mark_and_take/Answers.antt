use Rattle.facts.proofs.Prelude.{sym, ◌∙◌, eqb-true}
use Rattle.chunks.proofs.MarkSteps.{own_first, sweeps, valid-pre, all-taken, not-all}
use Rattle.chunks.proofs.quick.mark_and_take.Goals as goal
use Rattle.chunks.proofs.quick.mark_and_take.Goals.{then-count-list, else-count-list}

pub mark_words-count-requires : goal.mark_words-count-requires
mark_words-count-requires c = search own_first

pub chunks_valid-passed-requires : goal.chunks_valid-passed-requires
chunks_valid-passed-requires c = search valid-pre

pub take_pages-requires : goal.take_pages-requires
take_pages-requires c = search sweeps

pub clear_pages-requires : goal.clear_pages-requires
clear_pages-requires c = search sweeps

pub returns-then-passed : goal.returns-then-passed
returns-then-passed c =
    elim c.if-count-list.branch [
      | then-count-list w ↦
          rw c.if-passed.true (all-taken _ _ _ _ _ _ _ c.requires _ _ c.mark_words-count.ensures w.if-count-list.true _ _ w.chunks_valid-passed.ensures (sym w.passed-is ∙ c.if-passed.true) c.take_pages.ensures)
      | else-count-list w ↦ absurd (w.if-count-list.false (eqb-true _ _ (sym w.passed-is ∙ c.if-passed.true)))
    ]

pub returns-else-passed : goal.returns-else-passed
returns-else-passed c = rw c.if-passed.false (search not-all)
