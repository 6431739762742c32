use Rattle.facts.proofs.Prelude.{refl, le-leb, lt-leb}
use Rattle.listing.specs.Node.{commit_node}
use Rattle.listing.proofs.node.Node.commit.Goals as goal

pub returns-then-p-self : goal.returns-then-p-self
unfolding commit_node
returns-then-p-self c = rw (le-leb _ _ c.if-p-self.true) refl

pub returns-then-p-self-2 : goal.returns-then-p-self-2
unfolding commit_node
returns-then-p-self-2 c = rw (lt-leb _ _ c.if-p-self.false, le-leb _ _ c.if-p-self-2.true) refl

pub returns-else-p-self-2 : goal.returns-else-p-self-2
unfolding commit_node
returns-else-p-self-2 c = rw (lt-leb _ _ c.if-p-self.false, lt-leb _ _ c.if-p-self-2.false) refl
