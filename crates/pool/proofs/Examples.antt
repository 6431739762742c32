-- The pool by example, computed: two blocks are granted and one is freed; a second free of it is refused, and so are a block that is in stock and
-- was never granted, a granted one under another class, one that is none, one of another kind; the block freed last is granted next; trims empty the stock.
use Rattle.facts.proofs.Prelude.{◌+◌, ◌^◌, true, List, [], ◌∷◌, map, replicate, ◌≡◌, refl}
use Rattle.classes.specs.Sizes.{small_sizes, medium_sizes}
use Rattle.classes.specs.Shape.{small_shape, medium_shape, shape_of}
use Rattle.rules.specs.Rules.{plain_rules}
use Rattle.model.specs.Calls as Calls
use Rattle.model.specs.HoleStore as Holes
use Rattle.model.specs.Arena as Arenas
use Rattle.model.specs.Page as Pages
use Rattle.model.specs.Class as Classes
use Rattle.model.specs.Destination as Destinations
use Rattle.model.specs.Release as Releases
use Rattle.model.specs.Chunks as Chunks
use Rattle.model.specs.Heap as Heaps
use Rattle.pool.specs.Stock as Stocks
use Rattle.pool.specs.Pool as Pools
use Rattle.pool.specs.Pool.{PoolCall, PoolAnswer, to, heap, alloc, free, trim, granted, freed, trimmed, no_block, refused, answered}
use Rattle.pool.specs.Observed.{pool_events}

abbrev history : List PoolCall
history =
    to 45 (alloc 15) ∷ to 45 (alloc 15) ∷ to 45 (free 15 (2 ^ 62 + 3)) ∷ to 45 (free 15 (2 ^ 62 + 3)) ∷ to 45 (free 15 (2 ^ 62 + 2051)) ∷ to 44 (free 15 (2 ^ 62 + 1027))
    ∷ to 45 (free 15 (2 ^ 62 + 4)) ∷ to 45 (free 15 (2 ^ 63 + 3)) ∷ to 45 (alloc 16) ∷ to 76 (alloc 15) ∷ to 45 (alloc 15) ∷ to 45 (trim 15) ∷ to 45 (trim 15) ∷ []

abbrev answers : List PoolAnswer
answers =
    granted (2 ^ 62 + 3) ∷ granted (2 ^ 62 + 1027) ∷ freed ∷ refused 10 ∷ refused 10 ∷ refused 10
    ∷ refused 10 ∷ refused 9 ∷ refused 3 ∷ refused 4 ∷ granted (2 ^ 62 + 3) ∷ trimmed (2 ^ 62 + 2051) ∷ no_block ∷ []

-- heap and pool on one book: a grant is not the heap's to release, so that a take brings another page's blocks and the next alloc another block; nor is a block
-- in stock; a take's block is not the pool's to free; and no caller makes the pool's own calls
abbrev mixed : List PoolCall
mixed = to 45 (alloc 15) ∷ heap (Calls.release_blocks 45 15 ((2 ^ 62 + 3) ∷ [])) ∷ heap (Calls.take_blocks 45 15 Stocks.blank) ∷ to 45 (alloc 15) ∷ []

abbrev mixed-answers : List PoolAnswer
mixed-answers =
    granted (2 ^ 62 + 3) ∷ answered (Calls.refused 10) ∷ answered (Calls.taken 3 ((2 ^ 62 + 6147) ∷ (2 ^ 62 + 5123) ∷ (2 ^ 62 + 4099) ∷ replicate 61 0) true)
    ∷ granted (2 ^ 62 + 1027) ∷ []

abbrev put-by : List PoolCall
put-by = to 45 (alloc 15) ∷ to 45 (free 15 (2 ^ 62 + 3)) ∷ heap (Calls.release_blocks 45 15 ((2 ^ 62 + 3) ∷ [])) ∷ []

abbrev taken-first : List PoolCall
taken-first = heap (Calls.take_blocks 45 15 Stocks.blank) ∷ to 45 (free 15 (2 ^ 62 + 3)) ∷ heap (Calls.pooled_release 45 15 ((2 ^ 62 + 3) ∷ [])) ∷ to 45 (alloc 15) ∷ []

abbrev taken-answers : List PoolAnswer
taken-answers =
    answered (Calls.taken 3 ((2 ^ 62 + 2051) ∷ (2 ^ 62 + 1027) ∷ (2 ^ 62 + 3) ∷ replicate 61 0) true) ∷ refused 10 ∷ answered (Calls.refused 4) ∷ granted (2 ^ 62 + 4099) ∷ []

abbrev answers_to : List PoolCall → List PoolAnswer
answers_to xs = map (λ v. v.answer) (pool_events 64 plain_rules xs)

pub examples_hold : (answers_to history ≡ answers) × (answers_to mixed ≡ mixed-answers)
    × (answers_to put-by ≡ granted (2 ^ 62 + 3) ∷ freed ∷ answered (Calls.refused 10) ∷ []) × (answers_to taken-first ≡ taken-answers)
unfolding small_sizes medium_sizes small_shape medium_shape shape_of Holes.least_fit Holes.cut_from Holes.lowest_that Holes.place Holes.insert Holes.accepts Arenas.give Arenas.draw_from Arenas.draw Arenas.grant Arenas.commit_ready Arenas.commit_as Arenas.commit Arenas.grow Arenas.contains Pages.word_of Pages.carve_as Pages.carved_words Pages.is_out Pages.none_out Pages.has_more Pages.carved_now Pages.pop Pages.returned Pages.retire Pages.reused Classes.after Classes.fill_from_list Classes.served Classes.thawed Classes.on_run Classes.take_from Releases.find Releases.in_partial Releases.in_full Releases.locate Destinations.destination_of Releases.park Releases.settle Releases.of_kind Releases.out_here Releases.repeats Releases.on_page Releases.release_list Chunks.blocks_on Chunks.chunk_fits Chunks.chunked Chunks.settle_chunk Chunks.settle_chunks Chunks.release_chunks Chunks.answer Heaps.new_heap Heaps.offer Heaps.finish Heaps.interact Heaps.class_call Heaps.held_direct Heaps.bad_run Heaps.parked_pages Heaps.commit_call Heaps.grow_call Heaps.release_call Heaps.direct_call Heaps.step Calls.way_of plain_rules Stocks.stock_most Pools.new_pool Pools.plan_alloc Pools.plan_trim Pools.is_granted Pools.plan_free Pools.plan Pools.ends Pools.carry Pools.pass Pools.pool_step
examples_hold = (refl, refl, refl, refl)
