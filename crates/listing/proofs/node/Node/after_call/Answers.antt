use Rattle.facts.proofs.Prelude.{refl, ◌∙◌, le-leb, lt-leb}
use Rattle.listing.specs.Node.{after_call}
use Rattle.listing.proofs.node.Node.after_call.Goals as goal

pub returns-then-number-le-MOST_PAGES : goal.returns-then-number-le-MOST_PAGES
unfolding after_call
returns-then-number-le-MOST_PAGES c = rw (le-leb _ _ c.if-number-le-MOST_PAGES.true) (c.note.ensures ∙ rw c.commit.ensures refl)

pub returns : goal.returns
unfolding after_call
returns c = rw (lt-leb _ _ c.if-number-le-MOST_PAGES.false) (c.note-2.ensures ∙ rw c.release.ensures refl)
