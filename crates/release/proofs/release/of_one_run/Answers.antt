use Rattle.release.proofs.EverySteps.{every-starts, every-goes_on, every-stops, every-ends, page-below}
use Rattle.facts.proofs.Prelude.{rules}
use Rattle.release.proofs.release.of_one_run.Goals as goal

pub loop-w-init : goal.loop-w-init
loop-w-init c = search every-starts

pub starts_at-requires : goal.starts_at-requires
starts_at-requires c = record { n_in_bounds = search rules; n_value = search page-below }

pub loop-w-preserved : goal.loop-w-preserved
loop-w-preserved c = search every-goes_on

pub returns-then-not-starts_at : goal.returns-then-not-starts_at
returns-then-not-starts_at c = search every-stops

pub returns : goal.returns
returns c = search every-ends
