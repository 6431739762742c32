use Rattle.chunks.proofs.MarkSteps.{chunk-fits, not-run, marks-there, clean-told}
use Rattle.chunks.proofs.marks.page_clean.Goals as goal

pub chunk_page-q-requires : goal.chunk_page-q-requires
chunk_page-q-requires c = search chunk-fits

pub no_marks-requires : goal.no_marks-requires
no_marks-requires c = search marks-there

pub returns-then-whole : goal.returns-then-whole
returns-then-whole c = search clean-told

pub returns-else-whole : goal.returns-else-whole
returns-else-whole c = search not-run
