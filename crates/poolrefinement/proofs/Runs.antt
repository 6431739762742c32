-- Whole histories on an opened book.
use Rattle.facts.proofs.Prelude.{ℕ, zero, suc, ◌≤◌, arith, true, false, true≢false, List, [], ◌∷◌, ◌++◌, map, ◌≡◌, refl, sym}
use Rattle.facts.proofs.Prelude.{ap, ap₂, ◌∙◌, subst, ltb, leb, length, get_or, get_or-set_other, ltb-true, lt-ltb, leb-true, by_cases}
use Rattle.words.specs.Limits.{class_rows}
use Rattle.classes.specs.Shape.{class_count}
use Rattle.rules.specs.Rules.{Rules, Fit}
use Rattle.fields.specs.Ranges.{max_pages}
use Rattle.fields.specs.Field.{Field, arena, class, size, format, empty_limit, cold_limit, word, words, ok, put}
use Rattle.arena.specs.Open.{opened, ruled, cleared, head_words}
use Rattle.model.specs.Calls.{Call, is_pooled}
use Rattle.model.specs.Heap.{step}
use Rattle.model.specs.History.{heap_after}
use Rattle.refinement.specs.way.Represents.{Represents}
use Rattle.refinement.specs.Direct.{Agrees}
use Rattle.refinement.specs.Run.{call_reply}
use Rattle.refinement.proofs.OpenRep.{opened-represents, cleared_at}
use Rattle.refinement.proofs.Whole.{call-whole}
use Rattle.pool.specs.Pool.{Pool, new_pool, PoolCall, to, heap, pass, pool_step, answered}
use Rattle.pool.specs.Observed.{pool_from, pool_after, pool_events_from, heap_calls}
use Rattle.pool.proofs.OnHeap.{on-heap}
use Rattle.pool.proofs.Conserved.{pool-append}
use Rattle.poolcalls.specs.Stock.{count_at, count_in, stock_from}
use Rattle.poolrefinement.specs.way.Represents.{StockRep, PoolRep, PoolAgrees}
use Rattle.poolcalls.specs.way.HeapWords.{heap_word}
use Rattle.poolrefinement.specs.Run.{on_call, pool_answers_from, book_from}
use Rattle.poolrefinement.specs.way.Runs.{PoolRuns}
use Rattle.poolrefinement.proofs.Frame.{field_in, heap-frame}
use Rattle.poolrefinement.proofs.Stocks.{stock-still, count_word}
use Rattle.poolrefinement.proofs.Whole.{pool-agrees}

-- ---- an opened book has empty stocks
put-off : (b : List ℕ) (f : Field) (v i : ℕ) → ok f ≡ true → heap_word i ≡ false → get_or (put b f v) i 0 ≡ get_or b i 0
unfolding put
put-off b f v i o e = get_or-set_other b (word f) i _ 0 (λ z. true≢false (sym (field_in f o) ∙ ap heap_word (sym z) ∙ e))

ruled-off : (b : List ℕ) (rules : Rules) (k i : ℕ) → k ≤ class_rows → heap_word i ≡ false → get_or (ruled b rules k) i 0 ≡ get_or b i 0
unfolding ruled
ruled-off b rules zero i h e = refl
ruled-off b rules (suc k) i h e =
    put-off _ (class cold_limit k) _ i (lt-ltb k class_rows (omega arith)) e ∙ put-off _ (class empty_limit k) _ i (lt-ltb k class_rows (omega arith)) e ∙ ruled-off b rules k i (omega arith) e

module _ (n : ℕ) (rules : Rules) (b : List ℕ) (long : leb (words n) (length b) ≡ true) where
  opened-count : (c : ℕ) → ltb c class_count ≡ true → count_in (opened n rules b) c ≡ 0
  unfolding count_in opened head_words
  opened-count c hc =
      let e = count_word c hc in
      let lo = ltb-true c class_count hc in
      ruled-off _ rules class_rows (count_at c) (omega arith) e ∙ put-off _ (arena format) _ (count_at c) refl e ∙ put-off (cleared b 1376) (arena size) n (count_at c) refl e ∙ cleared_at b 1376 (count_at c) (omega (arith, leb-true (words n) (length b) long)) (omega arith)

  opened-stock : (c : ℕ) → ltb c class_count ≡ true → StockRep n (opened n rules b) c []
  opened-stock c hc =
      let z = opened-count c hc in
      record {
        same = ap (stock_from (opened n rules b) c) z;
        few = omega arith;
        low = λ k h. absurd (omega arith);
        placed = λ k h. absurd (omega arith);
      }

  pub opened-pool : ((c : ℕ) → Fit (rules c)) → PoolRep n (opened n rules b) (new_pool rules)
  unfolding new_pool
  opened-pool fit = record { heap = opened-represents n rules b long fit; stocks = opened-stock }

-- ---- a call of the heap
module _ (n : ℕ) (hn : n ≤ max_pages) (rules : Rules) (xs : List PoolCall) (b : List ℕ) (R : PoolRep n b (pool_after n rules xs)) where
  abbrev P : Pool
  P = pool_after n rules xs

  abbrev made : List Call
  made = heap_calls n rules xs

  on : P.heap ≡ heap_after n rules made
  on = (on-heap n hn rules xs).heap

  pub stands : Represents n b (heap_after n rules made)
  stands = subst (Represents n b) on R.heap

  heap-agrees : (x : Call) → PoolAgrees n (on_call n b (heap x)) (pool_step n P (heap x))
  unfolding on_call pool_step pass
  heap-agrees x =
      let a = subst (λ H. Agrees (Represents n) (call_reply n b x) (step n H x)) (sym on) (call-whole n hn rules made b stands x) in
      by_cases (is_pooled x)
      (λ e. rw e (record { answer = refl; pool = R }))
      (λ e. rw e
      (record {
        answer = ap answered a.answer;
        pool = record { heap = a.heap; stocks = λ c hc. stock-still n b _ c (P.stock c) hc (heap-frame n hn rules made b stands x) (R.stocks c hc) };
      }))

  pub call-agrees : (x : PoolCall) → PoolAgrees n (on_call n b x) (pool_step n P x)
  unfolding on_call
  call-agrees (to c x) = pool-agrees n hn rules xs b R c x
  call-agrees (heap x) = heap-agrees x

-- ---- in turn
record Goes (n : ℕ) (P : Pool) (b : List ℕ) (ys : List PoolCall) : Type 0 where
  answers : pool_answers_from (on_call n) b ys ≡ map (λ v. v.answer) (pool_events_from n P ys)
  book : PoolRep n (book_from (on_call n) b ys) (pool_from n P ys)

runs_on : (n : ℕ) → n ≤ max_pages → (rules : Rules) (xs ys : List PoolCall) (b : List ℕ) → PoolRep n b (pool_after n rules xs) → Goes n (pool_after n rules xs) b ys
runs_on n hn rules xs [] b R = record { answers = refl; book = R }
runs_on n hn rules xs (y ∷ ys) b R =
    let a = call-agrees n hn rules xs b R y in
    let next = pool-append n (new_pool rules) xs (y ∷ []) in
    let ih = subst (λ Q. Goes n Q (on_call n b y).book ys) next (runs_on n hn rules (xs ++ y ∷ []) ys (on_call n b y).book (subst (λ Q. PoolRep n (on_call n b y).book Q) (sym next) a.pool)) in
    record { answers = ap₂ ◌∷◌ a.answer ih.answers; book = ih.book }

-- every history of the pool on every book that opens
pub pool-runs : (n : ℕ) → n ≤ max_pages → (rules : Rules) → ((c : ℕ) → Fit (rules c)) → (b : List ℕ) → leb (words n) (length b) ≡ true → (xs : List PoolCall) → PoolRuns n rules (opened n rules b) xs
pool-runs n hn rules fit b long xs =
    let g = runs_on n hn rules [] xs (opened n rules b) (opened-pool n rules b long fit) in
    record { answers = g.answers; book = g.book }
