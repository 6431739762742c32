use Rattle.facts.proofs.Prelude.{rules}
use Rattle.chunks.proofs.MarkSteps.{own-starts, own-fits, own-pre, own-less, own-goes_on, own-stops, own-ends}
use Rattle.chunks.proofs.marks.mark_words.Goals as goal

pub loop-i-init : goal.loop-i-init
loop-i-init c = search own-starts

pub page_within-requires : goal.page_within-requires
page_within-requires c = search own-fits

pub mark_run-next-requires : goal.mark_run-next-requires
mark_run-next-requires c = record { field_pre = search own-pre; from_in_bounds = search rules }

pub returns-then-next-i : goal.returns-then-next-i
returns-then-next-i c = search own-stops

pub loop-i-smaller : goal.loop-i-smaller
loop-i-smaller c = search own-less

pub loop-i-preserved : goal.loop-i-preserved
loop-i-preserved c = search own-goes_on

pub returns : goal.returns
returns c = search own-ends
