-- A call by the exported functions' definitions, on a book that stands for a heap, is the call on the words that the refinement knows.
--     room, opens    an opening is not refused exactly where the arena is of 1 to 1,048,576 pages, the book is long enough for it and the rule
--                    rows cover the classes
--     refused-book   a refused one leaves the book as it was
--     no-fault       numbers 1 and 2 do not apply to a book that stands for a heap
--     call-is        `call` is the refinement's `call_reply`
use Rattle.facts.proofs.Prelude.{ℕ, ◌+◌, ◌≤◌, arith, true, false, ◌&&◌, false≢true, List, [], ◌≡◌, refl, eqb, ltb, leb, length}
use Rattle.facts.proofs.Prelude.{eqb-true, leb-true, le-leb, lt-leb, ltb-true, ltb-false, by_cases, and_left, and_right}
use Rattle.words.specs.Host.{bad_host}
use Rattle.classes.specs.Shape.{class_count}
use Rattle.rules.specs.Rules.{rows_in, rows_for, bad_rows, two_rows, no_row, rows_fault, rules_of}
use Rattle.fields.specs.Field.{arena, size, get, words}
use Rattle.fields.specs.Ranges.{max_pages, length_fault, meta_fault}
use Rattle.model.specs.Calls as Calls
use Rattle.model.specs.Calls.{Call, names, host_in, way_to, way_of}
use Rattle.model.specs.Heap.{Heap}
use Rattle.arena.specs.Valid.{report_valid}
use Rattle.arena.specs.Calls.{report_code}
use Rattle.arena.specs.Open.{opened}
use Rattle.direct.specs.Answer.{report_of}
use Rattle.vigbuso.specs.Faults.{call_fault, class_fault}
use Rattle.vigbuso.specs.Direct as Direct
use Rattle.vigbuso.specs.Direct.{open_fault, open_on, commit_on, grow_on, contains_on, report_on}
use Rattle.vigbuso.specs.Blocks as Blocks
use Rattle.vigbuso.specs.Blocks.{take_on, chunks_on}
use Rattle.refinement.specs.way.Represents.{Represents}
use Rattle.refinement.specs.Direct.{turned_reply, direct_reply}
use Rattle.refinement.specs.Run.{reply_as, call_reply}
use Rattle.demands.specs.Call.{call}
use Rattle.demands.specs.Run.{Opens, Room}

-- ---- an unrefused opening
pub fits-length : (n k : ℕ) → 1 ≤ n → n ≤ max_pages → words n ≤ k → length_fault n k ≡ 0
fits-length n k p q l = rw (le-leb 1 n p, le-leb n max_pages q, le-leb (words n) k l)

room_of : (n : ℕ) (rows b : List ℕ) → length_fault n (length b) ≡ 0 → rows_fault rows ≡ 0 → Room n rows b
room_of n rows b e f =
    by_cases (leb 1 n && leb n max_pages)
    (λ u. by_cases (leb (words n) (length b))
    (λ v. record { some-pages = leb-true 1 n (and_left _ _ u); few-pages = leb-true n max_pages (and_right (leb 1 n) _ u); long = leb-true (words n) (length b) v; ruled = f })
    (λ v. let z : length_fault n (length b) ≡ 2 = rw (u, v) in absurd (omega (arith, e, z))))
    (λ u. let z : length_fault n (length b) ≡ 1 = rw u in absurd (omega (arith, e, z)))

-- no rows
none-fault : rows_fault [] ≡ 0
unfolding rows_fault bad_rows two_rows no_row rows_for rows_in
none-fault = refl

pub room-plain : (n : ℕ) (b : List ℕ) → length_fault n (length b) ≡ 0 → Room n [] b
room-plain n b e = room_of n [] b e none-fault

zero_plus : (c : ℕ) → 0 + c ≡ c
zero_plus c = omega arith

module _ (n : ℕ) (rows b : List ℕ) where
  fault_of : Opens n rows b → open_fault n rows b ≡ 0
  unfolding open_on
  fault_of o = by_cases (eqb (open_fault n rows b) 0) (λ e. eqb-true (open_fault n rows b) 0 e) (λ e. rw e at o)

  length_of : open_fault n rows b ≡ 0 → length_fault n (length b) ≡ 0
  unfolding open_fault
  length_of z = by_cases (eqb (length_fault n (length b)) 0) (λ e. eqb-true (length_fault n (length b)) 0 e) (λ e. rw e at z)

  rows_of : open_fault n rows b ≡ 0 → rows_fault rows ≡ 0
  unfolding open_fault
  rows_of z = rw (length_of z) at z

  pub room : Opens n rows b → Room n rows b
  room o = room_of n rows b (length_of (fault_of o)) (rows_of (fault_of o))

  pub opens : Room n rows b → Opens n rows b
  unfolding open_on open_fault
  opens r = rw (fits-length n (length b) r.some-pages r.few-pages r.long, r.ruled)

  -- a refused one leaves the book as it was
  pub refused-book : (Opens n rows b → ⊥) → (open_on b n rows).book ≡ b
  unfolding open_on
  refused-book r = by_cases (eqb (open_fault n rows b) 0) (λ e. absurd (r (rw e))) (λ e. rw e)

  pub opened-by : Opens n rows b → (open_on b n rows).book ≡ opened n (rules_of rows) b
  unfolding open_on
  opened-by o = rw (fault_of o)

-- ---- one call, on a book that stands for a heap
module _ (n : ℕ) (b : List ℕ) (some-pages : 1 ≤ n) (few-pages : n ≤ max_pages) (H : Heap) (R : Represents n b H) where
  pub no-fault : meta_fault b ≡ 0
  unfolding meta_fault
  no-fault = rw R.arena.length (fits-length n (length b) some-pages few-pages (leb-true (words n) (length b) R.arena.long))

  sized : get b (arena size) ≡ n
  sized = R.arena.length

  -- ---- number 3
  call-turned : (h : ℕ) → bad_host h ≡ true → call_fault b h ≡ 3
  unfolding call_fault
  call-turned h e = rw (no-fault, e)

  pub class-turned : (h many c : ℕ) → bad_host h ≡ true → class_fault b h many c ≡ 3
  unfolding class_fault
  class-turned h many c e = rw (call-turned h e)

  turned-is : (x : Call) → bad_host (host_in x) ≡ true → call b x ≡ turned_reply b 3
  unfolding call take_on Blocks.release_on chunks_on commit_on grow_on Direct.release_on
  turned-is (Calls.take_blocks c h l) e = rw (class-turned h 64 c e)
  turned-is (Calls.medium_take_blocks c h l) e = rw (class-turned h 12 c e)
  turned-is (Calls.release_blocks c h ws) e = rw (class-turned h 64 c e)
  turned-is (Calls.medium_release_blocks c h ws) e = rw (class-turned h 12 c e)
  turned-is (Calls.pooled_take c h l) e = rw (class-turned h class_count c e)
  turned-is (Calls.pooled_release c h ws) e = rw (class-turned h class_count c e)
  turned-is (Calls.release_bin_chunks c h ws gs fs) e = rw (class-turned h 64 c e)
  turned-is (Calls.commit h m) e = rw (call-turned h e)
  turned-is (Calls.grow_frontier h q old new) e = rw (call-turned h e)
  turned-is (Calls.release h q m) e = rw (call-turned h e)
  turned-is (Calls.contains o k) e = absurd (false≢true e)
  turned-is Calls.report e = absurd (false≢true e)

  -- ---- the numbers after it
  module _ (h : ℕ) (good : bad_host h ≡ false) where
    call_fits : call_fault b h ≡ 0
    unfolding call_fault
    call_fits = rw (no-fault, good)

    pub class-fits : (many c : ℕ) → ltb c many ≡ true → class_fault b h many c ≡ 0
    unfolding class_fault
    class-fits many c e = rw (call_fits, lt-leb many c (ltb-true c many e))

    pub class-none : (many c : ℕ) → ltb c many ≡ false → class_fault b h many c ≡ 4
    unfolding class_fault
    class-none many c e = rw (call_fits, le-leb many c (ltb-false c many e))

  past_three : (x : Call) → bad_host (host_in x) ≡ false → call b x ≡ reply_as n b x (way_to (names x))
  unfolding call take_on Blocks.release_on chunks_on commit_on grow_on Direct.release_on contains_on report_on direct_reply report_of report_code
  past_three (Calls.take_blocks c h l) g = by_cases (ltb c 64) (λ e. rw (e, class-fits h g 64 c e, sized, zero_plus c)) (λ e. rw (e, class-none h g 64 c e))
  past_three (Calls.medium_take_blocks c h l) g = by_cases (ltb c 12) (λ e. rw (e, class-fits h g 12 c e, sized)) (λ e. rw (e, class-none h g 12 c e))
  past_three (Calls.release_blocks c h ws) g = by_cases (ltb c 64) (λ e. rw (e, class-fits h g 64 c e, sized, zero_plus c)) (λ e. rw (e, class-none h g 64 c e))
  past_three (Calls.medium_release_blocks c h ws) g = by_cases (ltb c 12) (λ e. rw (e, class-fits h g 12 c e, sized)) (λ e. rw (e, class-none h g 12 c e))
  past_three (Calls.pooled_take c h l) g = by_cases (ltb c class_count) (λ e. rw (e, class-fits h g class_count c e, sized)) (λ e. rw (e, class-none h g class_count c e))
  past_three (Calls.pooled_release c h ws) g = by_cases (ltb c class_count) (λ e. rw (e, class-fits h g class_count c e, sized)) (λ e. rw (e, class-none h g class_count c e))
  past_three (Calls.release_bin_chunks c h ws gs fs) g = by_cases (ltb c 64) (λ e. rw (e, class-fits h g 64 c e, sized)) (λ e. rw (e, class-none h g 64 c e))
  past_three (Calls.commit h m) g = rw (call_fits h g, sized)
  past_three (Calls.grow_frontier h q old new) g = rw (call_fits h g, sized)
  past_three (Calls.release h q m) g = rw (call_fits h g, sized)
  past_three (Calls.contains o k) g = rw (no-fault, sized)
  past_three Calls.report g = rw (no-fault, sized) (by_cases (report_valid n b) (λ u. rw u) (λ u. rw u))

  pub call-is : (x : Call) → call b x ≡ call_reply n b x
  unfolding call_reply way_of
  call-is x = by_cases (bad_host (host_in x)) (λ e. rw e (turned-is x e)) (λ e. rw e (past_three x e))
