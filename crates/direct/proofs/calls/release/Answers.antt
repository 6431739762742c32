use borrow.Author.Rules.{rules}
use Rattle.direct.proofs.CallSteps.{release-bad, direct-first, direct-pages, direct-inside, release-held, release-not}
use Rattle.direct.proofs.calls.release.Goals as goal

pub returns-then-bad_run : goal.returns-then-bad_run
returns-then-bad_run c = search release-bad

pub overflow_cast-first : goal.overflow_cast-first
overflow_cast-first c = search direct-first

pub overflow_cast-pages : goal.overflow_cast-pages
overflow_cast-pages c = search direct-pages

pub release_held-requires : goal.release_held-requires
release_held-requires c = (search rules, search direct-inside)

pub returns-then-held_direct : goal.returns-then-held_direct
returns-then-held_direct c = search release-held

pub returns : goal.returns
returns c = search release-not
