-- The examples of document 01's own hole store hold, by computation; and equality is claimed for a history that takes from its holes.
use Rattle.facts.proofs.Prelude.{ℕ, ◌+◌, arith, List, [], ◌∷◌, map, inl, inr, ◌≡◌, refl}
use Rattle.classes.specs.Sizes.{small_sizes, medium_sizes}
use Rattle.classes.specs.Shape.{small_shape, medium_shape, shape_of}
use Rattle.rules.specs.Rules.{plain_rules}
use Rattle.model.specs.declared.Hole.{Hole}
use Rattle.model.specs.Calls as Calls
use Rattle.model.specs.HoleStore as Holes
use Rattle.model.specs.HoleStore.{hole}
use Rattle.model.specs.Arena as Arenas
use Rattle.model.specs.Page as Pages
use Rattle.model.specs.Class as Classes
use Rattle.model.specs.Chunks as Chunks
use Rattle.model.specs.Heap as Heaps
use Rattle.model.specs.Remembered as Remembered
use Rattle.model.specs.Joining.{Touches}
use Rattle.model.specs.Original as Original
use Rattle.model.specs.Original.{Claimed}
use Rattle.model.specs.Examples.{Example}
use Rattle.model.specs.OriginalExamples.{on_holes, on_slot, original_examples, claimed_calls}
use Rattle.model.proofs.Placing.{ends, starts}
use Rattle.model.proofs.Joining.{none-ends, none-starts}

pub original_examples_hold : map (λ (e : Example). e.found) original_examples ≡ map (λ (e : Example). e.expected) original_examples
unfolding small_sizes medium_sizes small_shape medium_shape shape_of plain_rules Holes.cut_from Holes.lowest_that Arenas.draw_from Pages.word_of Pages.carve_as Pages.carved_words Pages.has_more Pages.carved_now Pages.pop Classes.after Classes.fill_from_list Classes.served Classes.on_run Classes.take_from Chunks.answer Heaps.new_heap Heaps.finish Heaps.held_direct Heaps.bad_run Calls.way_of Remembered.remember Remembered.still_holds Remembered.least_above Remembered.choose Remembered.forget Remembered.has_slot Remembered.give Remembered.draw_by Remembered.draw Remembered.grant Remembered.commit_ready Remembered.commit_as Original.offer Original.interact Original.class_call Original.commit_call Original.release_call Original.direct_call Original.step on_holes on_slot original_examples
original_examples_hold = refl

-- where no hole ends or starts there, by counting
apart : (n q : ℕ) (hs : List Hole) → ends q hs ≡ 0 → starts (q + n) hs ≡ 0 → Touches n q hs → ⊥
apart n q hs z y (inl t) = none-ends q hs z t.0 t.1
apart n q hs z y (inr t) = none-starts (q + n) hs y t.0 t.1

pub claimed_calls_lem : Claimed 300 claimed_calls
unfolding Holes.cut_from Arenas.draw_from Heaps.new_heap Heaps.held_direct Heaps.bad_run Calls.way_of Holes.lowest_that Remembered.remember Remembered.still_holds Remembered.least_above Remembered.choose Remembered.forget Remembered.has_slot Remembered.give Remembered.draw_by Remembered.draw Remembered.grant Remembered.commit_ready Remembered.commit_as Original.commit_call Original.release_call Original.direct_call Original.step
claimed_calls_lem = (tt, ((λ l. apart 1 0 [] refl refl, tt), ((λ l. apart 2 4 (hole 0 1 ∷ []) refl refl, tt), (((λ e. omega arith, (λ e. omega arith, tt)), tt), ((λ l. apart 3 8 (hole 4 2 ∷ []) refl refl, tt), (((λ e. omega arith, (λ e. omega arith, tt)), tt), (((λ e. omega arith, tt), tt), (((λ e. omega arith, tt), tt), tt))))))))
