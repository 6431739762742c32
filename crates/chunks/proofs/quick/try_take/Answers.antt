use Rattle.chunks.proofs.CallTests.{match_pre}
use Rattle.chunks.proofs.MarkSteps.{try_sound, pages-there, clean-pre, set-pre, matched-on, not-matched}
use Rattle.chunks.proofs.quick.try_take.Goals as goal

pub chunks_match-requires : goal.chunks_match-requires
chunks_match-requires c = search match_pre

pub returns-then-not-chunks_match : goal.returns-then-not-chunks_match
returns-then-not-chunks_match c = search not-matched

pub marks_of-m-requires : goal.marks_of-m-requires
marks_of-m-requires c = search try_sound

pub pages_clean-requires : goal.pages_clean-requires
pages_clean-requires c = record { clean_pre = search clean-pre; chunks_value = search pages-there }

pub mark_and_take-requires : goal.mark_and_take-requires
mark_and_take-requires c = search set-pre

pub returns-then-pages_clean : goal.returns-then-pages_clean
returns-then-pages_clean c = search matched-on

pub returns-else-pages_clean : goal.returns-else-pages_clean
returns-else-pages_clean c = rw c.if-pages_clean.false (search not-matched)
