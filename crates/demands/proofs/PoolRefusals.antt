-- Each of the pool's calls answers the first number of its table that applies, and then leaves the book and its out-parameter.
use Rattle.facts.proofs.Prelude.{ℕ, suc, ◌-◌, ◌*◌, ◌<◌, ◌+◌, ◌≤◌, arith, Bool, true, false, cond, not, ◌&&◌, ◌||◌, List, [], ◌∷◌, ◌++◌, ◌↔◌, ◌⊎◌, inl, inr}
use Rattle.facts.proofs.Prelude.{◌≡◌, refl, sym, ap, ap₂, ◌∙◌, eqb, ltb, leb, eq-eqb, eqb-true, eqb-false, ltb-true, ltb-false, lt-ltb}
use Rattle.facts.proofs.Prelude.{le-ltb, le-leb, lt-leb, leb-true, leb-false, not-false, by_cases, and_left, and_right, and_no, and-true, or_right}
use Rattle.words.specs.Host.{bad_host, digit}
use Rattle.words.specs.Limits.{class_rows}
use Rattle.words.specs.Word.{kind_of}
use Rattle.classes.specs.declared.Shape.{Shape}
use Rattle.classes.specs.Shape.{shape_of, class_count, pool_id, number_of}
use Rattle.classes.proofs.Shapes.{shape-sound, number-pool}
use Rattle.fields.specs.Field.{arena, page, size, frontier, owner, get}
use Rattle.fields.specs.Ranges.{meta_fault, max_pages, format_valid, head_valid}
use Rattle.model.specs.Release.{of_kind}
use Rattle.pages.specs.Stack.{page_at, index_of}
use Rattle.pages.proofs.Descending.{digit-le}
use Rattle.calls.specs.Out.{start_of, out_at, unmarked, repeats}
use Rattle.calls.specs.Release.{Released, released_none, release_valid, release_blocks, give_back_at}
use Rattle.calls.specs.Take.{Took, take_call, take_blocks}
use Rattle.calls.proofs.Out.{fault-marked, fault-foreign, passes}
use Rattle.trace.specs.Words.{owner_at}
use Rattle.trace.proofs.Refused.{give-zero}
use Rattle.pool.specs.Stock.{stock_most, blank}
use Rattle.pool.specs.Pool.{PoolAnswer, PoolRequest, host_in, alloc, free, trim, refused, granted, trimmed, no_block, freed, answered}
use Rattle.poolcalls.specs.Stock.{count_in, entry_in, block_in}
use Rattle.poolcalls.specs.Calls.{PoolReply, pool_reply, code_of, block_out, count_valid, top_valid, granted_in, stocked_in, bring_on, took_on, alloc_on, released_on, freed_on, free_on, trim_on, request_on}
use Rattle.vigbuso.specs.Faults.{call_fault, class_fault, admits}
use Rattle.vigbuso.specs.Pool.{pool_on, class_on, granted_on, stocked_on}
use Rattle.demands.specs.Ranges.{Use, format_is, frontier_fits, strays, fits}
use Rattle.demands.specs.Reads.{take_reads, barren, mark_reads, release_reads, stock_reads, top_reads}
use Rattle.demands.specs.Refusals.{Row, first_number}
use Rattle.demands.specs.PoolRefusals.{pool_early, alloc_table, free_table, trim_table, query_early, granted_table, stocked_table, class_table, OwnedBy, PoolDemand1}
use Rattle.demands.proofs.Ranges.{fits-append, number_13, take-strays, top-strays, release-strays}
use Rattle.demands.proofs.RefusalsLaws.{Ends, ends, turn, unless, book-turn, chain}
use Rattle.demands.proofs.RefusalsCalls.{take-row, last_code}
use Rattle.demands.proofs.Refusals.{refuses, digit-one}
use Rattle.demands.proofs.PoolQuery.{owner-number, granted-class}

abbrev turned : List ℕ → ℕ → PoolReply
turned b k = pool_reply (refused k) b

abbrev code : PoolReply → ℕ
code s = code_of s.answer

abbrev Rows : List ℕ → List Row → PoolReply → Type 0
Rows b rows s = Ends {R = PoolReply} code (λ s. s.book ≡ b) rows s

-- a refusal leaves the out-parameter
block-kept : (a : PoolAnswer) (w : ℕ) → (code_of a ≡ 0 → ⊥) → block_out a w ≡ w
block-kept (refused n) w d = refl
block-kept (granted v) w d = absurd (d refl)
block-kept (trimmed v) w d = absurd (d refl)
block-kept no_block w d = absurd (d refl)
block-kept freed w d = absurd (d refl)
block-kept (answered x) w d = absurd (d refl)

-- ---- a release of one block of the class's kind
module _ (n : ℕ) (b : List ℕ) (c : ℕ) (sh : Shape) (h w : ℕ) (kd : of_kind sh.kind w ≡ true) where
  abbrev z : Released
  z = release_blocks n b c sh h (w ∷ [])

  abbrev q : ℕ
  q = start_of b w

  one_single : out_at n b c sh w ≡ false → repeats n b c sh (w ∷ []) ≡ false
  unfolding repeats
  one_single o = rw o

  one-marked : unmarked n b c sh (w ∷ []) ≡ false → z ≡ released_none b 13
  unfolding release_blocks
  one-marked u = rw (kd, fault-marked n b c sh (w ∷ []) u)

  one-foreign : unmarked n b c sh (w ∷ []) ≡ true → out_at n b c sh w ≡ false → z ≡ released_none b 10
  unfolding release_blocks
  one-foreign u o = rw (kd, fault-foreign n b c sh (w ∷ []) u (one_single o) (rw o))

  one-invalid : unmarked n b c sh (w ∷ []) ≡ true → out_at n b c sh w ≡ true → release_valid n b c sh 1 q ≡ false → z ≡ released_none b 13
  unfolding release_blocks
  one-invalid u o f = rw (kd, passes n b c sh (w ∷ []) u (rw o) refl, eq-eqb q q refl, f)

  one-done : unmarked n b c sh (w ∷ []) ≡ true → out_at n b c sh w ≡ true → release_valid n b c sh 1 q ≡ true → z.code ≡ 0
  unfolding release_blocks
  one-done u o f =
      rw (kd, passes n b c sh (w ∷ []) u (rw o) refl, eq-eqb q q refl, f)
      (last_code sh q (give_back_at b c sh h q (index_of sh q w ∷ [])) ∙ give-zero b c sh h q (index_of sh q w ∷ []))

  -- what is said of it: `a`, with a book of the caller's own
  abbrev back_rows : List Row
  back_rows = (13, not (unmarked n b c sh (w ∷ []))) ∷ (10, not (out_at n b c sh w)) ∷ (13, not (release_valid n b c sh 1 q)) ∷ []

  gave-none : (a : PoolAnswer) (d : List ℕ) (k : ℕ) → eqb k 0 ≡ false → z ≡ released_none b k → released_on a d z ≡ turned b k
  unfolding released_on
  gave-none a d k e r = rw (r, e)

  gave-done : (a : PoolAnswer) (d : List ℕ) → z.code ≡ 0 → released_on a d z ≡ pool_reply a d
  unfolding released_on
  gave-done a d e = rw e

  back-rows : (a : PoolAnswer) (d : List ℕ) → code_of a ≡ 0 → Rows b back_rows (released_on a d z)
  back-rows a d ca =
      by_cases (unmarked n b c sh (w ∷ []))
      (λ u. by_cases (out_at n b c sh w)
      (λ o. by_cases (release_valid n b c sh 1 q)
      (λ f. rw (u, o, f, gave-done a d (one-done u o f)) (record { number = ca; kept = λ d. absurd (d ca) }))
      (λ f. rw (u, o, f, gave-none a d 13 refl (one-invalid u o f)) (record { number = refl; kept = λ d. refl })))
      (λ o. rw (u, o, gave-none a d 10 refl (one-foreign u o)) (record { number = refl; kept = λ d. refl })))
      (λ u. rw (u, gave-none a d 13 refl (one-marked u)) (record { number = refl; kept = λ d. refl }))

-- ---- alloc
bring-code : (b : List ℕ) (c m : ℕ) (l : List ℕ) → code_of (bring_on b c m l).answer ≡ 0
unfolding bring_on
bring-code b c m l = by_cases (eqb m 0) (λ e. rw e) (λ e. rw e)

took-rows : (b l : List ℕ) (c : ℕ) (rows : List Row) (t : Took) → Ends {R = Took} (λ t. t.code) (λ t. (t.book ≡ b) × (t.list ≡ l)) rows t → Rows b rows (took_on c t)
unfolding took_on
took-rows b l c rows t r =
    by_cases (eqb t.code 0)
    (λ e. let k = bring-code t.book c t.count t.list in rw e (record { number = k ∙ sym (eqb-true t.code 0 e) ∙ r.number; kept = λ d. absurd (d k) }))
    (λ e. rw e (record { number = r.number; kept = λ d. (r.kept d).0 }))

take-is : (n : ℕ) (b : List ℕ) (c h : ℕ) → take_call n b c (shape_of c) h blank ≡ take_blocks n b c (shape_of c) h blank
unfolding take_call
take-is n b c h = rw (le-ltb 64 (shape_of c).batch (shape-sound c).limited)

-- FORMAT's row is its test
format_and : (b : List ℕ) (us : List Use) → strays b (format_is ∷ us) ≡ not (format_valid b && fits b us)
unfolding strays fits format_valid
format_and b us = refl

format-strays : (b : List ℕ) → strays b (format_is ∷ []) ≡ not (format_valid b)
unfolding fits
format-strays b = format_and b [] ∙ ap not (and-true (format_valid b))

alloc-row : (b : List ℕ) (c h : ℕ)
    → Rows b ((13, cond (eqb (count_in b c) 0) (strays b (take_reads b (pool_id c) (shape_of (pool_id c))) || barren b (pool_id c) (shape_of (pool_id c))) (strays b (top_reads b c))) ∷ []) (alloc_on (get b (arena size)) b c h)
unfolding alloc_on
alloc-row b c h =
    let n = get b (arena size) in
    by_cases (eqb (count_in b c) 0)
    (λ e. rw (e, ← (take-strays b (pool_id c) (shape_of (pool_id c))), take-is n b (pool_id c) h) (took-rows b blank c _ _ (take-row n b (pool_id c) (shape_of (pool_id c)) h blank)))
    (λ e. rw (e, ← (top-strays b c)) (unless _ _ (top_valid n b c) 13 _ _ _ refl refl λ u. ends _ _ _ refl))

-- ---- free
module _ (b : List ℕ) (c h w : ℕ) where
  abbrev sh : Shape
  sh = shape_of (pool_id c)

  abbrev length₀ : ℕ
  length₀ = get b (arena size)

  abbrev marks : List Use
  marks = mark_reads b (pool_id c) sh (w ∷ [])

  abbrev backs : List Use
  backs = release_reads b (pool_id c) sh 1 (start_of b w)

  full-strays : strays b (stock_reads c ++ (marks ++ backs)) ≡ not (count_valid b c && (unmarked length₀ b (pool_id c) sh (w ∷ []) && release_valid length₀ b (pool_id c) sh 1 (start_of b w)))
  unfolding strays
  full-strays =
      ap not
      (fits-append b (stock_reads c) (marks ++ backs)
      ∙ ap₂ (λ (s t : Bool). s && t) (sym ((number_13 b).stock c)) (fits-append b marks backs ∙ ap₂ (λ (s t : Bool). s && t) (sym ((number_13 b).marks (pool_id c) sh (w ∷ []))) (sym ((number_13 b).release (pool_id c) sh 1 (start_of b w)))))

  top-marks : strays b (top_reads b c ++ marks) ≡ not (top_valid length₀ b c && unmarked length₀ b (pool_id c) sh (w ∷ []))
  unfolding strays
  top-marks = ap not (fits-append b (top_reads b c) marks ∙ ap₂ (λ (s t : Bool). s && t) (sym ((number_13 b).top c)) (sym ((number_13 b).marks (pool_id c) sh (w ∷ []))))

  module _ (kd : of_kind sh.kind w ≡ true) (o : out_at length₀ b (pool_id c) sh w ≡ true) where
    abbrev back : Released
    back = release_blocks length₀ b (pool_id c) sh h (w ∷ [])

    full-row : Rows b ((13, not (count_valid b c && (unmarked length₀ b (pool_id c) sh (w ∷ []) && release_valid length₀ b (pool_id c) sh 1 (start_of b w)))) ∷ []) (cond (count_valid b c) (released_on freed back.book back) (turned b 13))
    full-row =
        by_cases (count_valid b c)
        (λ e. by_cases (unmarked length₀ b (pool_id c) sh (w ∷ []))
        (λ u. by_cases (release_valid length₀ b (pool_id c) sh 1 (start_of b w))
        (λ f. rw (e, u, f, gave-done length₀ b (pool_id c) sh h w kd freed back.book (one-done length₀ b (pool_id c) sh h w kd u o f)) (record { number = refl; kept = λ d. absurd (d refl) }))
        (λ f. rw (e, u, f, gave-none length₀ b (pool_id c) sh h w kd freed back.book 13 refl (one-invalid length₀ b (pool_id c) sh h w kd u o f)) (record { number = refl; kept = λ d. refl })))
        (λ u. rw (e, u, gave-none length₀ b (pool_id c) sh h w kd freed back.book 13 refl (one-marked length₀ b (pool_id c) sh h w kd u)) (record { number = refl; kept = λ d. refl })))
        (λ e. rw e (record { number = refl; kept = λ d. refl }))

    freed-row : Rows b ((13, cond (ltb (count_in b c) (stock_most c)) (strays b (format_is ∷ [])) (strays b (stock_reads c ++ (marks ++ backs)))) ∷ []) (freed_on length₀ b c h w)
    unfolding freed_on
    freed-row =
        by_cases (ltb (count_in b c) (stock_most c))
        (λ e. rw (e, format-strays b) (unless _ _ (format_valid b) 13 _ _ _ refl refl λ u. ends _ _ _ refl))
        (λ e. rw (e, full-strays) full-row)

  free-row : Rows b ((9, not (of_kind sh.kind w)) ∷ (10, not (granted_in length₀ b c w)) ∷ (13, cond (ltb (count_in b c) (stock_most c)) (strays b (format_is ∷ [])) (strays b (stock_reads c ++ (marks ++ backs)))) ∷ []) (free_on length₀ b c h w)
  unfolding free_on
  free-row =
      turn _ _ (not (of_kind sh.kind w)) 9 _ _ _ refl refl λ k.
      turn _ _ (not (granted_in length₀ b c w)) 10 _ _ _ refl refl λ g.
      freed-row (not-false (of_kind sh.kind w) k) (and_left (out_at length₀ b (pool_id c) sh w) _ (not-false (granted_in length₀ b c w) g))

-- ---- trim
module _ (b : List ℕ) (c h : ℕ) (low : get b (arena size) ≤ max_pages) where
  abbrev top : ℕ
  top = block_in b c (count_in b c - 1)

  abbrev n : ℕ
  n = get b (arena size)

  abbrev sh₁ : Shape
  sh₁ = shape_of (pool_id c)

  top-kind : top_valid n b c ≡ true → of_kind sh₁.kind top ≡ true
  unfolding top_valid of_kind
  top-kind t =
      let e = entry_in b c (count_in b c - 1) in
      let u : e + sh₁.block ≤ 4096 * n = leb-true (e + sh₁.block) (4096 * n) (and_right (count_valid b c) _ (and_right (format_valid b) _ t)) in
      eq-eqb (kind_of top) sh₁.kind (omega arith)

  some-row : eqb (count_in b c) 0 ≡ false
      → Rows b ((13, not (top_valid n b c && unmarked n b (pool_id c) sh₁ (top ∷ []))) ∷ (10, not (out_at n b (pool_id c) sh₁ top)) ∷ (13, not (release_valid n b (pool_id c) sh₁ 1 (start_of b top))) ∷ []) (trim_on n b c h)
  unfolding trim_on
  some-row e =
      by_cases (top_valid n b c)
      (λ t. rw (e, t) (back-rows n b (pool_id c) sh₁ h top (top-kind t) (trimmed top) _ refl))
      (λ t. rw (e, t) (record { number = refl; kept = λ d. refl }))

  bare-row : eqb (count_in b c) 0 ≡ true → Rows b ((13, not (format_valid b)) ∷ (10, false) ∷ (13, false) ∷ []) (trim_on n b c h)
  unfolding trim_on
  bare-row e =
      by_cases (format_valid b)
      (λ f. rw (e, f) (record { number = refl; kept = λ d. absurd (d refl) }))
      (λ f. rw (e, f) (record { number = refl; kept = λ d. refl }))

  trim-row : (let some = not (eqb (count_in b c) 0) in
      Rows b ((13, cond some (strays b (top_reads b c ++ mark_reads b (pool_id c) sh₁ (top ∷ []))) (strays b (format_is ∷ []))) ∷ (10, some && not (out_at n b (pool_id c) sh₁ top)) ∷ (13, some && strays b (release_reads b (pool_id c) sh₁ 1 (start_of b top))) ∷ [])
      (trim_on n b c h))
  trim-row =
      by_cases (eqb (count_in b c) 0)
      (λ e. rw (e, format-strays b) (bare-row e))
      (λ e. rw (e, top-marks b c h top, ← (release-strays b (pool_id c) sh₁ 1 (start_of b top))) (some-row e))

-- ---- numbers 1 to 4
early : (b : List ℕ) (c : ℕ) (x : PoolRequest) (rows : List Row) → Rows b rows (request_on (get b (arena size)) b c x) → Rows b (pool_early b c (host_in x) ++ rows) (pool_on b c x)
unfolding pool_on class_fault call_fault meta_fault
early b c x rows f =
    rw (chain (call_fault b (host_in x)) 4 (leb class_count c) (turned b) _ refl, chain (meta_fault b) 3 (bad_host (host_in x)) (turned b) _ refl)
    (book-turn _ _ _ (turned b) _ (λ k. refl) (λ k. refl)
    (turn _ _ (bad_host (host_in x)) 3 _ _ _ refl refl λ e.
    turn _ _ (leb class_count c) 4 _ _ _ refl refl λ e.
    f)
    (get b (arena size))
    b)

-- an arena that is too long
module _ (b : List ℕ) (c : ℕ) (x : PoolRequest) (big : ltb max_pages (get b (arena size)) ≡ true) where
  long-fault : class_fault b (host_in x) class_count c ≡ 1
  unfolding class_fault call_fault meta_fault
  long-fault = rw (lt-leb (get b (arena size)) max_pages (ltb-true max_pages (get b (arena size)) big), and_no (leb 1 (get b (arena size))))

  long-pool : pool_on b c x ≡ turned b 1
  unfolding pool_on
  long-pool = rw long-fault

  long-rows : (rows : List Row) → Rows b (pool_early b c (host_in x) ++ rows) (pool_on b c x)
  long-rows rows = rw (long-pool, or_right (eqb (get b (arena size)) 0) (ltb max_pages (get b (arena size))) big) (record { number = refl; kept = λ d. refl })

pub alloc-table : (b : List ℕ) (c h : ℕ) → Rows b (alloc_table b c h) (pool_on b c (alloc h))
alloc-table b c h = early b c (alloc h) _ (alloc-row b c h)

pub free-table : (b : List ℕ) (c h w : ℕ) → Rows b (free_table b c h w) (pool_on b c (free h w))
free-table b c h w = early b c (free h w) _ (free-row b c h w)

pub trim-table : (b : List ℕ) (c h : ℕ) → Rows b (trim_table b c h) (pool_on b c (trim h))
trim-table b c h =
    by_cases (ltb max_pages (get b (arena size)))
    (λ big. long-rows b c (trim h) big _)
    (λ low. early b c (trim h) _ (trim-row b c h (ltb-false max_pages (get b (arena size)) low)))

-- ---- the calls that only read
module _ (b : List ℕ) (c : ℕ) (rows : List Row) where
  query_first : cond (eqb (meta_fault b) 0) (cond (leb class_count c) 4 (first_number rows)) (meta_fault b) ≡ first_number (query_early b c ++ rows)
  unfolding meta_fault
  query_first = (book-turn {R = ℕ} (λ x. x) (λ x. Unit {0}) ((4, leb class_count c) ∷ rows) (λ x. x) _ (λ x. refl) (λ x. tt) (record { number = refl; kept = λ d. tt }) (get b (arena size)) b).number

  -- no number of a table applies
  record Clear : Type 0 where
    admitted : admits b c ≡ true
    rest : first_number rows ≡ 0

  clear : first_number (query_early b c ++ rows) ≡ 0 → Clear
  unfolding admits
  clear z =
      by_cases (eqb (meta_fault b) 0)
      (λ e. by_cases (leb class_count c)
      (λ l. let y : ◌≡◌ {A = ℕ} 4 0 = rw (e, l) at (query_first ∙ z) in absurd (omega arith))
      (λ l. record { admitted = rw (e, lt-ltb c class_count (leb-false class_count c l)); rest = rw (e, l) at (query_first ∙ z) }))
      (λ e. absurd (eqb-false (meta_fault b) 0 e (rw e at (query_first ∙ z))))

  cleared : Clear → first_number (query_early b c ++ rows) ≡ 0
  unfolding admits
  cleared k =
      let l = ltb-true c class_count (and_right (eqb (meta_fault b) 0) _ k.admitted) in
      sym query_first ∙ rw (and_left (eqb (meta_fault b) 0) _ k.admitted, lt-leb class_count c l) k.rest

-- tests that all pass
all_pass : (s t f : Bool) → first_number ((9, not s) ∷ (10, not t) ∷ (13, not f) ∷ []) ≡ 0 → (f && (s && t)) ≡ true
all_pass true true true z = refl
all_pass true true false z = absurd (omega arith)
all_pass true false f z = absurd (omega arith)
all_pass false t f z = absurd (omega arith)

pass_all : (s t f : Bool) → (f && (s && t)) ≡ true → first_number ((9, not s) ∷ (10, not t) ∷ (13, not f) ∷ []) ≡ 0
pass_all true true true z = refl
pass_all s t false z = cc
pass_all true false true z = cc
pass_all false t true z = cc

one-pass : (t : Bool) → first_number ((13, not t) ∷ []) ≡ 0 → t ≡ true
one-pass true z = refl
one-pass false z = absurd (omega arith)

module _ (b : List ℕ) (c w : ℕ) where
  abbrev kinds : Bool
  kinds = of_kind (shape_of (pool_id c)).kind w

  abbrev grants : Bool
  grants = granted_in (get b (arena size)) b c w

  abbrev asks : List Row
  asks = (9, not kinds) ∷ (10, not grants) ∷ (13, strays b (format_is ∷ [])) ∷ []

  granted-yes : first_number (granted_table b c w) ≡ 0 → granted_on b c w ≡ true
  unfolding granted_on
  granted-yes z = let k = clear b c asks z in rw k.admitted (all_pass kinds grants (format_valid b) (rw (format-strays b) at k.rest))

  yes-granted : granted_on b c w ≡ true → first_number (granted_table b c w) ≡ 0
  unfolding granted_on
  yes-granted g =
      cleared b c asks
      (record {
        admitted = and_left (admits b c) _ g;
        rest = rw (format-strays b) (pass_all kinds grants (format_valid b) (and_right (admits b c) _ g));
      })

module _ (b : List ℕ) (c : ℕ) where
  count-strays : strays b (format_is ∷ stock_reads c) ≡ not (format_valid b && count_valid b c)
  count-strays = format_and b (stock_reads c) ∙ ap (λ (t : Bool). not (format_valid b && t)) (sym ((number_13 b).stock c))

  stock-counted : first_number (stocked_table b c) ≡ 0 → stocked_on b c ≡ count_in b c
  unfolding stocked_on stocked_in
  stock-counted e = let k = clear b c ((13, strays b (format_is ∷ stock_reads c)) ∷ []) e in rw (k.admitted, one-pass (format_valid b && count_valid b c) (rw count-strays at k.rest))

  stock-none : (first_number (stocked_table b c) ≡ 0 → ⊥) → stocked_on b c ≡ 0
  unfolding stocked_on stocked_in
  stock-none d =
      by_cases (admits b c)
      (λ a. by_cases (format_valid b && count_valid b c)
      (λ f. absurd (d (cleared b c ((13, strays b (format_is ∷ stock_reads c)) ∷ []) (record { admitted = a; rest = rw (count-strays, f) }))))
      (λ f. rw (a, f)))
      (λ a. rw a)

-- ---- the class of a page
-- the number of an id that has a row is that of a class, and it is k exactly for the heap's class and the pool's
number-low : (c : ℕ) → c < class_rows → number_of c < class_count
number-low c h = by_cases (ltb c class_count) (λ e. rw e (ltb-true c class_count e)) (λ e. rw e (let z = ltb-false c class_count e in omega arith))

number_is : (c k : ℕ) → number_of c ≡ k → c < class_rows → (c ≡ k) ⊎ (c ≡ pool_id k)
number_is c k e h = by_cases (ltb c class_count) (λ t. inl (rw t at e)) (λ t. inr (let z : c - class_count ≡ k = rw t at e in let y = ltb-false c class_count t in omega arith))

module _ (b : List ℕ) (w : ℕ) where
  abbrev m : ℕ
  m = get b (arena frontier)

  abbrev made : Bool
  made = head_valid (get b (arena size)) b

  abbrev k : ℕ
  k = owner_at m b w

  head-strays : strays b (format_is ∷ frontier_fits ∷ []) ≡ not made
  unfolding head_valid fits
  head-strays = format_and b (frontier_fits ∷ []) ∙ ap (λ (t : Bool). not (format_valid b && t)) (and-true (leb m (get b (arena size))))

  class_low : class_on b w ≤ class_count
  unfolding class_on
  class_low =
      by_cases (eqb (meta_fault b) 0 && made)
      (λ e. by_cases (leb 1 k && leb k class_rows)
      (λ t. let l = leb-true 1 k (and_left (leb 1 k) _ t) in rw (e, t) (omega (arith, number-low (k - 1) (omega (arith, leb-true k class_rows (and_right (leb 1 k) _ t))))))
      (λ t. rw (e, t) (omega arith)))
      (λ e. rw e (omega arith))

  book-first : cond (eqb (meta_fault b) 0) (first_number ((13, strays b (format_is ∷ frontier_fits ∷ [])) ∷ [])) (meta_fault b) ≡ first_number (class_table b)
  unfolding meta_fault
  book-first =
      (book-turn {R = ℕ} (λ x. x) (λ x. Unit {0}) ((13, strays b (format_is ∷ frontier_fits ∷ [])) ∷ []) (λ x. x) _ (λ x. refl) (λ x. tt) (record { number = refl; kept = λ d. tt }) (get b (arena size)) b).number

  class-none : (first_number (class_table b) ≡ 0 → ⊥) → class_on b w ≡ class_count
  unfolding class_on
  class-none d =
      by_cases (eqb (meta_fault b) 0)
      (λ e. by_cases made (λ f. absurd (d (sym book-first ∙ rw (e, head-strays, f)))) (λ f. rw (e, f)))
      (λ e. rw e)

  pub class-fits : first_number (class_table b) ≡ 0 → (eqb (meta_fault b) 0 ≡ true) × (made ≡ true)
  class-fits z =
      by_cases (eqb (meta_fault b) 0)
      (λ e. (e, one-pass made (rw (e, head-strays) at (book-first ∙ z))))
      (λ e. absurd (eqb-false (meta_fault b) 0 e (rw e at (book-first ∙ z))))

  class-owned : (c : ℕ) → first_number (class_table b) ≡ 0 → c < class_count → (class_on b w ≡ c) ↔ OwnedBy b w c
  unfolding class_on owner_at
  class-owned c f low =
      let o = get b (page owner (page_at w)) in
      let fit = (class-fits f).0 in
      let form = (class-fits f).1 in (
        (λ z. by_cases (ltb (page_at w) m)
            (λ t. by_cases (leb 1 o && leb o class_rows)
            (λ r.
            let some = leb-true 1 o (and_left (leb 1 o) _ r) in
            let few = leb-true o class_rows (and_right (leb 1 o) _ r) in
            let y : number_of (o - 1) ≡ c = rw (fit, form, t, r) at z in
            record {
              used = ltb-true (page_at w) m t;
              owner = elim (number_is (o - 1) c y (omega arith)) [ inl e ↦ inl (omega arith) | inr e ↦ inr (omega arith) ];
            })
            (λ r. let y : class_count ≡ c = rw (fit, form, t, r) at z in absurd (omega arith)))
            (λ t. let y : class_count ≡ c = rw (fit, form, t) at z in absurd (omega arith))),
        (λ p.
            let t = lt-ltb (page_at w) m p.used in
            elim p.owner [
              | inl e ↦ rw (fit, form, t, e, le-leb 1 (suc c) (omega arith), le-leb (suc c) class_rows (omega arith)) (owner-number c c (rw (lt-ltb c class_count low)))
              | inr e ↦ rw (fit, form, t, e, le-leb 1 (suc (pool_id c)) (omega arith), le-leb (suc (pool_id c)) class_rows (omega arith)) (owner-number (pool_id c) c (number-pool c))
            ]),
      )

-- ---- the demand
pub pool_demand_1 : PoolDemand1
pool_demand_1 = record {
  alloc = λ b c h r b' w w' e. refuses _ _ _ _ (alloc-table b c h) _ r refl e.code λ d s. (e.book ∙ s, e.block ∙ block-kept (pool_on b c (alloc h)).answer w d);
  free = λ b c h w r b' e. refuses _ _ _ _ (free-table b c h w) _ r refl e.code λ d s. e.book ∙ s;
  granted = λ b c w r e. record {
    plain = rw e (digit-le (granted_on b c w));
    yes = (λ z. yes-granted b c w (digit-one (granted_on b c w) (sym e ∙ z)), λ z. e ∙ ap digit (granted-yes b c w z));
  };
  stocked = λ b c r e. record { counted = λ z. e ∙ stock-counted b c z; none = λ d. e ∙ stock-none b c d };
  class = λ b w r e. record {
    low = rw e (class_low b w);
    granted = λ c f z. e ∙ granted-class b c w (class-fits b w f).1 (granted-yes b c w z);
    owned = λ c z low. rw e (class-owned b w c z low);
    none = λ d. e ∙ class-none b w d;
  };
  trim = λ b c h r b' w w' e. refuses _ _ _ _ (trim-table b c h) _ r refl e.code λ d s. (e.book ∙ s, e.block ∙ block-kept (pool_on b c (trim h)).answer w d);
}
