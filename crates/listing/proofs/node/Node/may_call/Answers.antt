use Rattle.facts.proofs.Prelude.{refl, le-leb, lt-leb}
use Rattle.listing.specs.Node.{may_call}
use Rattle.listing.proofs.node.Node.may_call.Goals as goal

pub returns-then-number-le-MOST_PAGES : goal.returns-then-number-le-MOST_PAGES
unfolding may_call
returns-then-number-le-MOST_PAGES c = rw (le-leb _ _ c.if-number-le-MOST_PAGES.true) refl

pub returns : goal.returns
unfolding may_call
returns c = rw (lt-leb _ _ c.if-number-le-MOST_PAGES.false) refl
