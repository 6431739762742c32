-- Document 02, A.2 and A.3, hold of the exported calls: which answers they changed, and that no mark is left.
--     repeat-exactly    A.2
--     marks-aside       A.3: the answers
--     run-unmarked      A.3: the marks
use Rattle.facts.proofs.Prelude.{ℕ, ◌+◌, arith, Bool, true, false, cond, not, ◌&&◌, ◌||◌, true≢false, false≢true, List, [], ◌∷◌, ◌++◌, ◌↔◌, ◌≡◌}
use Rattle.facts.proofs.Prelude.{refl, sym, ap, ◌∙◌, eqb, leb, lt-ltb, not-true, is_nil, filter, every, distinct, by_cases, and_left, and_right}
use Rattle.words.specs.Host.{bad_host}
use Rattle.words.specs.Limits.{class_rows}
use Rattle.words.specs.Word.{chunk_kind}
use Rattle.classes.specs.declared.Shape.{Shape}
use Rattle.classes.specs.Shape.{shape_of, class_count}
use Rattle.fields.specs.Field.{arena, size, get}
use Rattle.fields.specs.Ranges.{meta_fault}
use Rattle.model.specs.Calls as Calls
use Rattle.model.specs.Calls.{Call}
use Rattle.model.specs.Release.{of_kind}
use Rattle.model.specs.History.{heap_after}
use Rattle.model.proofs.Counts.{filter-le, filter_passes, filter-keeps, each-once, distinct-count}
use Rattle.calls.specs.Out.{out_at, OutTest, unmarked, repeats, repeat_fault, out_fault}
use Rattle.calls.specs.Release.{released_none, release_by, release_blocks}
use Rattle.calls.specs.Chunks.{chunks_none, release_chunks_by, release_chunks}
use Rattle.calls.proofs.Out.{no_repeat}
use Rattle.vigbuso.specs.Faults.{call_fault, class_fault}
use Rattle.vigbuso.specs.Blocks as Blocks
use Rattle.vigbuso.specs.Blocks.{release_on_by, chunks_on_by, chunks_on}
use Rattle.refinement.specs.Direct.{Reply, turned_reply}
use Rattle.refinement.specs.Releases.{list_reply, chunks_reply}
use Rattle.refinement.specs.Run.{replies_from, book_from}
use Rattle.refinement.proofs.OutTests as OutTests
use Rattle.demands.specs.Call.{call}
use Rattle.demands.specs.Start.{Start, pages, rules, begun, Starts, calls, book_after}
use Rattle.demands.specs.Refusals.{first_number, nothing_listed, many_chunks, wrong_kind, release_early, chunks_early}
use Rattle.demands.specs.Repeats.{call_by, as_in01, reached_by, repeats_first, OutTwice, RepeatExactly, marks_first, MarksAside, Unmarked}
use Rattle.demands.proofs.RefusalsLaws.{not_and, Ends, ends, turn, book-turn, chain}
use Rattle.demands.proofs.Histories.{book-split}
use Rattle.demands.proofs.Returns.{not-distinct}
use Rattle.demands.proofs.Starts.{represents, next-agrees}

-- ---- the three tests, on any list
module _ (n : ℕ) (b : List ℕ) (c : ℕ) (sh : Shape) (ws : List ℕ) where
  old-repeats : repeats n b c sh ws ≡ true → as_in01 n b c sh ws ≡ 10
  unfolding as_in01
  old-repeats r =
      by_cases (every (out_at n b c sh) ws && distinct ws)
      (λ u. absurd (true≢false (sym r ∙ no_repeat n b c sh ws (and_left (every (out_at n b c sh) ws) (distinct ws) u) (and_right (every (out_at n b c sh) ws) (distinct ws) u))))
      (λ u. rw u)

  new-repeats : repeats n b c sh ws ≡ true → repeat_fault n b c sh ws ≡ 15
  new-repeats r = rw r

  no-repeats : repeats n b c sh ws ≡ false → repeat_fault n b c sh ws ≡ as_in01 n b c sh ws
  unfolding as_in01 repeats
  no-repeats r = by_cases (every (out_at n b c sh) ws) (λ o. rw (r, o, each-once (out_at n b c sh) ws r o)) (λ o. rw (r, o))

  new-marks : not (unmarked n b c sh ws) ≡ true → out_fault n b c sh ws ≡ 13
  unfolding out_fault
  new-marks u = rw u

  no-marks : not (unmarked n b c sh ws) ≡ false → out_fault n b c sh ws ≡ repeat_fault n b c sh ws
  unfolding out_fault
  no-marks u = rw u

  out-twice : (repeats n b c sh ws ≡ true) ↔ OutTwice n b c sh ws
  unfolding repeats
  out-twice = (
    λ e. let t = out_at n b c sh in
        let r = not-distinct (filter t ws) (not-true (distinct (filter t ws)) e) in
        record { word = r.0; out = filter_passes t r.0 ws (omega (arith, r.1)); times = omega (arith, r.1, filter-le t r.0 ws) },
    λ p. let t = out_at n b c sh in
        by_cases (distinct (filter t ws))
        (λ u. absurd (omega (arith, p.times, filter-keeps t p.word ws p.out, distinct-count p.word (filter t ws) u)))
        (λ u. rw u),
  )

-- ---- a release by list: which test its blocks are put to shows where it is reached, and there alone
zero_false : (t : Bool) → eqb (cond t 7 0) 0 ≡ false → t ≡ true
zero_false true e = refl
zero_false false e = absurd (true≢false e)

module _ (low many : ℕ) (b : List ℕ) (c h : ℕ) (ws : List ℕ) where
  abbrev n : ℕ
  n = get b (arena size)

  abbrev sh : Shape
  sh = shape_of (low + c)

  -- the numbers before the test
  abbrev early : ℕ
  early = cond (eqb (class_fault b h many c) 0) (cond (is_nil ws) 7 (cond (wrong_kind sh.kind ws) 9 0)) (class_fault b h many c)

  early-is : early ≡ first_number (release_early low many b c h ws)
  unfolding class_fault call_fault meta_fault
  early-is =
      let t : Ends (λ (k : ℕ). k) (λ k. Unit {0}) (release_early low many b c h ws) early =
      rw (chain (call_fault b h) 4 (leb many c) (λ (k : ℕ). k) _ refl, chain (meta_fault b) 3 (bad_host h) (λ (k : ℕ). k) _ refl)
      (book-turn (λ (k : ℕ). k) (λ k. Unit {0}) _ (λ k. k) _ (λ k. refl) (λ k. tt)
      (turn _ _ (bad_host h) 3 _ _ _ refl tt λ e.
      turn _ _ (leb many c) 4 _ _ _ refl tt λ e.
      turn _ _ (is_nil ws) 7 _ _ _ refl tt λ e.
      turn _ _ (wrong_kind sh.kind ws) 9 _ _ _ refl tt λ e.
      ends _ _ 0 refl)
      n
      b) in
      t.number

  module _ (f : OutTest) where
    list-turned : eqb (first_number (release_early low many b c h ws)) 0 ≡ true → (k : ℕ) → f n b (low + c) sh ws ≡ k → eqb k 0 ≡ false
        → release_on_by (release_by f) low many b c h ws ≡ released_none b k
    list-turned e k t z =
        let e' : eqb early 0 ≡ true = rw early-is e in
        by_cases (eqb (class_fault b h many c) 0)
        (λ u. by_cases (is_nil ws) (λ v. absurd (false≢true (rw (u, v) at e')))
        (λ v. by_cases (wrong_kind sh.kind ws) (λ w. absurd (false≢true (rw (u, v, w) at e'))) (λ w. rw (u, v, w, t, z))))
        (λ u. absurd (false≢true (sym u ∙ (rw u at e'))))

    list_same : (g : OutTest) → eqb (first_number (release_early low many b c h ws)) 0 ≡ false → release_on_by (release_by f) low many b c h ws ≡ release_on_by (release_by g) low many b c h ws
    list_same g e =
        let e' : eqb early 0 ≡ false = rw early-is e in
        by_cases (eqb (class_fault b h many c) 0)
        (λ u. by_cases (is_nil ws) (λ v. rw (u, v))
        (λ v. by_cases (wrong_kind sh.kind ws) (λ w. rw (u, v, w)) (λ w. absurd (true≢false (rw (u, v, w) at e')))))
        (λ u. rw u)

    list_as : (g : OutTest) → f n b (low + c) sh ws ≡ g n b (low + c) sh ws → release_on_by (release_by f) low many b c h ws ≡ release_on_by (release_by g) low many b c h ws
    list_as g e = rw e

-- ---- so with groups
module _ (b : List ℕ) (c h : ℕ) (ws gs fs : List ℕ) where
  abbrev early-chunks : ℕ
  early-chunks =
      cond (eqb (class_fault b h 64 c) 0)
      (cond (nothing_listed ws gs) 7 (cond (many_chunks gs fs) 8 (cond (wrong_kind (shape_of c).kind ws || wrong_kind chunk_kind gs) 9 0))) (class_fault b h 64 c)

  early_chunks_is : early-chunks ≡ first_number (chunks_early b c h ws gs fs)
  unfolding class_fault call_fault meta_fault
  early_chunks_is =
      let t : Ends (λ (k : ℕ). k) (λ k. Unit {0}) (chunks_early b c h ws gs fs) early-chunks =
      rw (chain (call_fault b h) 4 (leb 64 c) (λ (k : ℕ). k) _ refl, chain (meta_fault b) 3 (bad_host h) (λ (k : ℕ). k) _ refl)
      (book-turn (λ (k : ℕ). k) (λ k. Unit {0}) _ (λ k. k) _ (λ k. refl) (λ k. tt)
      (turn _ _ (bad_host h) 3 _ _ _ refl tt λ e.
      turn _ _ (leb 64 c) 4 _ _ _ refl tt λ e.
      turn _ _ (nothing_listed ws gs) 7 _ _ _ refl tt λ e.
      turn _ _ (many_chunks gs fs) 8 _ _ _ refl tt λ e.
      turn _ _ (wrong_kind (shape_of c).kind ws || wrong_kind chunk_kind gs) 9 _ _ _ refl tt λ e.
      ends _ _ 0 refl)
      (get b (arena size))
      b) in
      t.number

  kinds_as : not (every (of_kind (shape_of c).kind) ws && every (of_kind chunk_kind) gs) ≡ (wrong_kind (shape_of c).kind ws || wrong_kind chunk_kind gs)
  kinds_as = not_and (every (of_kind (shape_of c).kind) ws) (every (of_kind chunk_kind) gs)

  module _ (f : OutTest) where
    chunks-turned : eqb (first_number (chunks_early b c h ws gs fs)) 0 ≡ true → (k : ℕ) → f (get b (arena size)) b c (shape_of c) ws ≡ k → eqb k 0 ≡ false
        → chunks_on_by (release_chunks_by f) b c h ws gs fs ≡ chunks_none b fs k
    chunks-turned e k t z =
        let e' : eqb early-chunks 0 ≡ true = rw early_chunks_is e in
        by_cases (eqb (class_fault b h 64 c) 0)
        (λ u. by_cases (nothing_listed ws gs) (λ v. absurd (false≢true (rw (u, v) at e')))
        (λ v. by_cases (many_chunks gs fs) (λ m. absurd (false≢true (rw (u, v, m) at e')))
        (λ m. by_cases (wrong_kind (shape_of c).kind ws || wrong_kind chunk_kind gs) (λ w. absurd (false≢true (rw (u, v, m, w) at e')))
        (λ w. rw (u, v, m, kinds_as, w, t, z)))))
        (λ u. absurd (false≢true (sym u ∙ (rw u at e'))))

    chunks-same : (g : OutTest) → eqb (first_number (chunks_early b c h ws gs fs)) 0 ≡ false → chunks_on_by (release_chunks_by f) b c h ws gs fs ≡ chunks_on_by (release_chunks_by g) b c h ws gs fs
    chunks-same g e =
        let e' : eqb early-chunks 0 ≡ false = rw early_chunks_is e in
        by_cases (eqb (class_fault b h 64 c) 0)
        (λ u. by_cases (nothing_listed ws gs) (λ v. rw (u, v))
        (λ v. by_cases (many_chunks gs fs) (λ m. rw (u, v, m))
        (λ m. by_cases (wrong_kind (shape_of c).kind ws || wrong_kind chunk_kind gs) (λ w. rw (u, v, m, kinds_as, w))
        (λ w. absurd (true≢false (rw (u, v, m, w) at e'))))))
        (λ u. rw u)

    chunks_as : (g : OutTest) → f (get b (arena size)) b c (shape_of c) ws ≡ g (get b (arena size)) b c (shape_of c) ws
        → chunks_on_by (release_chunks_by f) b c h ws gs fs ≡ chunks_on_by (release_chunks_by g) b c h ws gs fs
    chunks_as g e = rw e

-- ---- any call, by two tests: where a third answers yes the first gives the number k, elsewhere the two agree
module _ (t : ℕ → List ℕ → ℕ → Shape → List ℕ → Bool) (f : OutTest) where
  turned_by : (k : ℕ) → eqb k 0 ≡ false → ((n : ℕ) (b : List ℕ) (c : ℕ) (sh : Shape) (ws : List ℕ) → t n b c sh ws ≡ true → f n b c sh ws ≡ k)
      → (b : List ℕ) (x : Call) → reached_by t b x ≡ true → call_by f b x ≡ turned_reply b k
  turned_by k z h b (Calls.take_blocks c a l) e = absurd (false≢true e)
  turned_by k z h b (Calls.medium_take_blocks c a l) e = absurd (false≢true e)
  turned_by k z h b (Calls.release_blocks c a ws) e =
      rw (list-turned 0 64 b c a ws f (and_left (eqb (first_number (release_early 0 64 b c a ws)) 0) _ e) k (h _ _ _ _ _ (and_right (eqb (first_number (release_early 0 64 b c a ws)) 0) _ e)) z, z)
  turned_by k z h b (Calls.medium_release_blocks c a ws) e =
      rw (list-turned 64 12 b c a ws f (and_left (eqb (first_number (release_early 64 12 b c a ws)) 0) _ e) k (h _ _ _ _ _ (and_right (eqb (first_number (release_early 64 12 b c a ws)) 0) _ e)) z, z)
  turned_by k z h b (Calls.pooled_take c a l) e = absurd (false≢true e)
  turned_by k z h b (Calls.pooled_release c a ws) e =
      rw (list-turned class_count class_count b c a ws f (and_left (eqb (first_number (release_early class_count class_count b c a ws)) 0) _ e) k (h _ _ _ _ _ (and_right (eqb (first_number (release_early class_count class_count b c a ws)) 0) _ e)) z, z)
  turned_by k z h b (Calls.release_bin_chunks c a ws gs fs) e =
      rw (chunks-turned b c a ws gs fs f (and_left (eqb (first_number (chunks_early b c a ws gs fs)) 0) _ e) k (h _ _ _ _ _ (and_right (eqb (first_number (chunks_early b c a ws gs fs)) 0) _ e)) z, z)
  turned_by k z h b (Calls.commit a m) e = absurd (false≢true e)
  turned_by k z h b (Calls.grow_frontier a q old new) e = absurd (false≢true e)
  turned_by k z h b (Calls.release a q m) e = absurd (false≢true e)
  turned_by k z h b (Calls.contains o m) e = absurd (false≢true e)
  turned_by k z h b Calls.report e = absurd (false≢true e)

  same_by : (g : OutTest) → ((n : ℕ) (b : List ℕ) (c : ℕ) (sh : Shape) (ws : List ℕ) → t n b c sh ws ≡ false → f n b c sh ws ≡ g n b c sh ws)
      → (b : List ℕ) (x : Call) → reached_by t b x ≡ false → call_by f b x ≡ call_by g b x
  same_by g h b (Calls.take_blocks c a l) e = refl
  same_by g h b (Calls.medium_take_blocks c a l) e = refl
  same_by g h b (Calls.release_blocks c a ws) e =
      ap list_reply
      (by_cases (eqb (first_number (release_early 0 64 b c a ws)) 0) (λ u. list_as 0 64 b c a ws f g (h _ _ _ _ _ (rw u at e))) (λ u. list_same 0 64 b c a ws f g u))
  same_by g h b (Calls.medium_release_blocks c a ws) e =
      ap list_reply
      (by_cases (eqb (first_number (release_early 64 12 b c a ws)) 0) (λ u. list_as 64 12 b c a ws f g (h _ _ _ _ _ (rw u at e))) (λ u. list_same 64 12 b c a ws f g u))
  same_by g h b (Calls.pooled_take c a l) e = refl
  same_by g h b (Calls.pooled_release c a ws) e =
      ap list_reply
      (by_cases (eqb (first_number (release_early class_count class_count b c a ws)) 0) (λ u. list_as class_count class_count b c a ws f g (h _ _ _ _ _ (rw u at e))) (λ u. list_same class_count class_count b c a ws f g u))
  same_by g h b (Calls.release_bin_chunks c a ws gs fs) e =
      ap chunks_reply
      (by_cases (eqb (first_number (chunks_early b c a ws gs fs)) 0) (λ u. chunks_as b c a ws gs fs f g (h _ _ _ _ _ (rw u at e))) (λ u. chunks-same b c a ws gs fs f g u))
  same_by g h b (Calls.commit a m) e = refl
  same_by g h b (Calls.grow_frontier a q old new) e = refl
  same_by g h b (Calls.release a q m) e = refl
  same_by g h b (Calls.contains o m) e = refl
  same_by g h b Calls.report e = refl

-- ---- A.2
pub repeat_exactly : RepeatExactly
repeat_exactly = record { exactly = λ b x. (differs b x, differ b x); before = was; after = is; twice = out-twice }
  where
    was : (b : List ℕ) (x : Call) → repeats_first b x ≡ true → call_by as_in01 b x ≡ turned_reply b 10
    was = turned_by repeats as_in01 10 refl old-repeats

    is : (b : List ℕ) (x : Call) → repeats_first b x ≡ true → call_by repeat_fault b x ≡ turned_reply b 15
    is = turned_by repeats repeat_fault 15 refl new-repeats

    differs : (b : List ℕ) (x : Call) → (call_by repeat_fault b x ≡ call_by as_in01 b x → ⊥) → repeats_first b x ≡ true
    differs b x d = by_cases (repeats_first b x) (λ e. e) (λ e. absurd (d (same_by repeats repeat_fault as_in01 no-repeats b x e)))

    differ : (b : List ℕ) (x : Call) → repeats_first b x ≡ true → call_by repeat_fault b x ≡ call_by as_in01 b x → ⊥
    differ b x e s = let z : ◌≡◌ {A = ℕ} 15 10 = ap (λ (r : Reply). r.code) (sym (is b x e) ∙ s ∙ was b x e) in omega arith

-- ---- A.3
abbrev marked : ℕ → List ℕ → ℕ → Shape → List ℕ → Bool
marked n b c sh ws = not (unmarked n b c sh ws)

by-now : (b : List ℕ) (x : Call) → call b x ≡ call_by out_fault b x
unfolding call Blocks.release_on chunks_on release_blocks release_chunks
by-now b (Calls.take_blocks c h l) = refl
by-now b (Calls.medium_take_blocks c h l) = refl
by-now b (Calls.release_blocks c h ws) = refl
by-now b (Calls.medium_release_blocks c h ws) = refl
by-now b (Calls.pooled_take c h l) = refl
by-now b (Calls.pooled_release c h ws) = refl
by-now b (Calls.release_bin_chunks c h ws gs fs) = refl
by-now b (Calls.commit h m) = refl
by-now b (Calls.grow_frontier h q old new) = refl
by-now b (Calls.release h q m) = refl
by-now b (Calls.contains o k) = refl
by-now b Calls.report = refl

is-marked : (b : List ℕ) (x : Call) → marks_first b x ≡ true → call b x ≡ turned_reply b 13
is-marked b x e = by-now b x ∙ turned_by marked out_fault 13 refl new-marks b x e

is-otherwise : (b : List ℕ) (x : Call) → marks_first b x ≡ false → call b x ≡ call_by repeat_fault b x
is-otherwise b x e = by-now b x ∙ same_by marked out_fault repeat_fault no-marks b x e

-- from a start
module _ (s : Start) (o : Starts s) where
  never : (xs : List Call) (x : Call) → marks_first (book_after s xs) x ≡ false
  never xs x =
      by_cases (marks_first (book_after s xs) x)
      (λ e. absurd ((next-agrees s o xs x).valid (ap (λ (r : Reply). r.code) (is-marked (book_after s xs) x e))))
      (λ e. e)

  abbrev A2 : List ℕ → Call → Reply
  A2 = call_by repeat_fault

  next-book : (xs : List Call) (x : Call) → (call (book_after s xs) x).book ≡ book_after s (xs ++ x ∷ [])
  next-book xs x = sym (book-split (begun s) xs (x ∷ []))

  module _ where
    replies-on : (ys xs : List Call) → replies_from A2 (book_after s xs) ys ≡ replies_from call (book_after s xs) ys
    replies-on [] xs = refl
    replies-on (y ∷ ys) xs =
        let e = sym (is-otherwise (book_after s xs) y (never xs y)) in
        ap (λ (r : Reply). r ∷ replies_from A2 r.book ys) e
        ∙ ap (λ (rs : List Reply). call (book_after s xs) y ∷ rs) (rw (next-book xs y) (replies-on ys (xs ++ y ∷ [])))

    book-on : (ys xs : List Call) → book_from A2 (book_after s xs) ys ≡ book_from call (book_after s xs) ys
    book-on [] xs = refl
    book-on (y ∷ ys) xs =
        let e = sym (is-otherwise (book_after s xs) y (never xs y)) in
        ap (λ (r : Reply). book_from A2 r.book ys) e ∙ rw (next-book xs y) (book-on ys (xs ++ y ∷ []))

pub marks-aside : MarksAside
marks-aside = record {
  now = by-now;
  marked = is-marked;
  otherwise = is-otherwise;
  repeated = λ b x e. rw (is-otherwise b x e) (repeat_exactly.exactly b x);
  replies = λ s o xs. replies-on s o xs [];
  book = λ s o xs. book-on s o xs [];
}

-- ---- the marks
pub run-unmarked : Unmarked
run-unmarked s o xs c q l w j m =
    OutTests.run-unmarked ((heap_after (pages s) (rules s) (calls s xs)).classes c) ((represents s o xs).classes c (lt-ltb c class_rows l)) q w j m
