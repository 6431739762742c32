use Rattle.lists.proofs.ListSteps.{pop_store-done, unpark_run-links, unpark_run-done}
use Rattle.lists.proofs.stores.unpark_run.Goals as goal

pub link_partial-requires : goal.link_partial-requires
link_partial-requires c = unpark_run-links _ _ _ _ _ c.requires (pop_store-done _ _ _ _ _ _ _ _ c.get-next.ensures c.store_count-count.ensures c.set_store_top.ensures c.set_store_count.ensures)

pub returns : goal.returns
returns c = unpark_run-done _ _ _ _ _ _ (pop_store-done _ _ _ _ _ _ _ _ c.get-next.ensures c.store_count-count.ensures c.set_store_top.ensures c.set_store_count.ensures) c.link_partial.ensures
