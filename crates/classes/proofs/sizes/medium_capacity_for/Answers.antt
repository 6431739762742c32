use Rattle.classes.proofs.sizes.medium_capacity_for.Goals as goal

-- `classes::sizes::medium_capacity_for` meets its contract: the pages are those of `span_pages_for`.
pub returns : goal.returns
returns c = rw c.span_pages_for.ensures
