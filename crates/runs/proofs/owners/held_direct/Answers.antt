use Rattle.runs.proofs.GiveSteps.{direct-long, direct-out, direct-above, direct_is}
use Rattle.runs.proofs.owners.held_direct.Goals as goal

pub returns-then-size-pages : goal.returns-then-size-pages
returns-then-size-pages c = search direct-long

pub returns-then-size-pages-2 : goal.returns-then-size-pages-2
returns-then-size-pages-2 c = search direct-out

pub returns-then-get-first : goal.returns-then-get-first
returns-then-get-first c = search direct-above

pub returns : goal.returns
returns c = search direct_is
