-- Document 01's examples and the rules beside them hold, by computation: one statement over their table. And two histories with different counts
-- lead to heaps that differ in these and in the order of their holes alone.
use Rattle.facts.proofs.Prelude.{arith, Bool, true, false, cond, map, ◌≡◌, refl, fun_ext, eqb}
use Rattle.classes.specs.Sizes.{small_sizes, medium_sizes}
use Rattle.classes.specs.Shape.{small_shape, medium_shape, shape_of}
use Rattle.classes.specs.Lookup.{first_fit, size_class}
use Rattle.classes.specs.Examples as Lookups
use Rattle.rules.specs.Rules.{plain_rules, rows_in, rules_of}
use Rattle.model.specs.Calls as Calls
use Rattle.model.specs.HoleStore as Holes
use Rattle.model.specs.Arena as Arenas
use Rattle.model.specs.Page as Pages
use Rattle.model.specs.Class as Classes
use Rattle.model.specs.Destination as Destinations
use Rattle.model.specs.Release as Releases
use Rattle.model.specs.Chunks as Chunks
use Rattle.model.specs.Cover.{covers}
use Rattle.model.specs.Heap as Heaps
use Rattle.model.specs.Heap.{Holder, nobody, direct, pass_to}
use Rattle.model.specs.History.{heap_after}
use Rattle.model.specs.Order.{SameHeap}
use Rattle.model.specs.Examples.{Example, on_ruled, on_both, three_holes, used_longer, on_full_counts, on_limits, on_give, on_class, rules, examples}

pub examples_hold : map (λ (e : Example). e.found) examples ≡ map (λ (e : Example). e.expected) examples
unfolding small_sizes medium_sizes small_shape medium_shape shape_of first_fit size_class Lookups.examples Holes.least_fit Holes.cut_from Holes.lowest_that Holes.place Holes.insert Holes.accepts Arenas.give Arenas.draw_from Arenas.draw Arenas.grant Arenas.commit_ready Arenas.commit_as Arenas.commit Arenas.grow Arenas.contains Pages.word_of Pages.carve_as Pages.carved_words Pages.is_out Pages.none_out Pages.has_more Pages.carved_now Pages.pop Pages.returned Pages.retire Pages.reused Classes.after Classes.fill_from_list Classes.served Classes.thawed Classes.on_run Classes.take_from Releases.find Releases.in_partial Releases.in_full Releases.locate Destinations.destination_of Releases.park Releases.settle Releases.of_kind Releases.out_here Releases.repeats Releases.on_page Releases.release_list Chunks.blocks_on Chunks.chunk_fits Chunks.chunked Chunks.settle_chunk Chunks.settle_chunks Chunks.release_chunks Chunks.answer Heaps.new_heap Heaps.offer Heaps.finish Heaps.interact Heaps.class_call Heaps.held_direct Heaps.bad_run Heaps.parked_pages Heaps.commit_call Heaps.grow_call Heaps.release_call Heaps.direct_call Heaps.step Calls.way_of on_ruled on_both on_full_counts on_limits plain_rules rows_in rules_of on_give on_class rules examples
examples_hold = refl

-- page x, with tests that it is in none of three holes: the first one taken and given back leaves it to whom it was
back : (t u v : Bool) (w : Holder) → cond v (cond u (cond t w nobody) nobody) nobody ≡ cond t (cond t (cond v (cond u (cond t w nobody) nobody) nobody) direct) nobody
back true u v w = refl
back false true true w = refl
back false false true w = refl
back false u false w = refl

pub used-longer : SameHeap (heap_after 64 plain_rules three_holes) (heap_after 64 plain_rules used_longer)
unfolding Holes.least_fit Holes.cut_from Holes.lowest_that Holes.place Holes.insert Holes.accepts Arenas.give Arenas.draw_from Arenas.draw Arenas.grant Arenas.commit_ready Arenas.commit_as Arenas.commit Heaps.new_heap Heaps.held_direct Heaps.bad_run Heaps.commit_call Heaps.release_call Heaps.direct_call Heaps.step Calls.way_of
used-longer = record {
  arena = record { status = refl; frontier = refl; holes = λ q n. omega arith; total = refl };
  holder = fun_ext (λ x. back (eqb (covers 2 0 x) 0) (eqb (covers 2 4 x) 0) (eqb (covers 2 8 x) 0) (pass_to direct (covers 10 0) (λ y. nobody) x));
  classes = refl;
  rules = refl;
}
