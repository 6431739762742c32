-- The runs that the words say are parked are the model's: a report's counts are in their ranges, and their pages are as many.
use Rattle.facts.proofs.Prelude.{ℕ, zero, suc, ◌*◌, ◌<◌, arith, true, List, ◌≡◌, refl, ◌∙◌, ltb, length, le-leb, lt-ltb, total, below, every_of}
use Rattle.words.specs.Limits.{class_rows}
use Rattle.classes.specs.Shape.{shape_of}
use Rattle.fields.specs.Field.{class, empty_count, cold_count, get}
use Rattle.fields.specs.Ranges.{max_parked}
use Rattle.model.specs.Page.{reused}
use Rattle.model.specs.Class.{thawed}
use Rattle.model.specs.Heap as Heaps
use Rattle.model.specs.Heap.{Heap, parked_pages}
use Rattle.arena.specs.Valid.{record_valid, counts_valid, all_counts_valid, report_valid}
use Rattle.arena.specs.Calls.{parked_runs}
use Rattle.refinement.specs.way.Represents.{StateRep}
use Rattle.refinement.proofs.Release.{length-firsts}

-- the words stand for every class
abbrev pub Classes : ℕ → List ℕ → Heap → Type 0
Classes n b H = (c : ℕ) → ltb c class_rows ≡ true → StateRep n b c (shape_of c) (H.classes c)

total_cong : (f g : ℕ → ℕ) (m : ℕ) → ((k : ℕ) → k < m → f k ≡ g k) → total f (below m) ≡ total g (below m)
total_cong f g zero h = refl
total_cong f g (suc m) h = omega (arith, h m (omega arith), total_cong f g m (λ k l. h k (omega arith)))

module _ (n : ℕ) (b : List ℕ) (H : Heap) (cs : Classes n b H) where
  module _ (c : ℕ) (l : c < class_rows) where
    empties : get b (class empty_count c) ≡ length (H.classes c).empty
    empties = (cs c (lt-ltb c class_rows l)).store.number ∙ length-firsts (reused (shape_of c)) (H.classes c).empty

    colds : get b (class cold_count c) ≡ length (H.classes c).cold
    colds = (cs c (lt-ltb c class_rows l)).beside.number ∙ length-firsts (thawed (shape_of c)) (H.classes c).cold

    class-passes : counts_valid b c ≡ true
    class-passes =
        let s = cs c (lt-ltb c class_rows l) in
        rw (le-leb (get b (class empty_count c)) max_parked (omega (arith, s.store.number, s.store.few)), le-leb (get b (class cold_count c)) max_parked (omega (arith, s.beside.number, s.beside.few)))

  pub report-passes : record_valid n b ≡ true → report_valid n b ≡ true
  unfolding report_valid all_counts_valid
  report-passes e = rw (e, every_of (counts_valid b) class_rows class-passes)

  pub parked-same : parked_pages (parked_runs b) ≡ parked_pages (λ c. Heaps.parked_runs (H.classes c))
  unfolding parked_pages
  parked-same = total_cong (λ c. parked_runs b c * (shape_of c).pages) (λ c. Heaps.parked_runs (H.classes c) * (shape_of c).pages) class_rows (λ c l. rw (empties c l, colds c l))
