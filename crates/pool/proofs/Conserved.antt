-- A block out of the heap is granted or in stock, and each of these once; what an alloc and a trim answer, and trims that empty a stock.
use Rattle.facts.proofs.Prelude.{ℕ, zero, suc, ◌+◌, ◌≤◌, arith, Bool, true, false, List, [], ◌∷◌, ◌++◌, reverse, ◌↔◌, inl, inr, ◌≡◌}
use Rattle.facts.proofs.Prelude.{refl, sym, ap, ◌∙◌, subst, ltb, length, drop, replicate, eq-eqb, count, distinct, elem, total, by_cases}
use Rattle.words.specs.Limits.{max_pages}
use Rattle.words.specs.Host.{bad_host}
use Rattle.classes.specs.Shape.{shape_of, class_count, pool_id}
use Rattle.classes.proofs.Shapes.{shape-sound}
use Rattle.rules.specs.Rules.{Rules}
use Rattle.model.specs.Calls.{take, pooled_release, blocks_of}
use Rattle.model.specs.Entries.{Entry}
use Rattle.model.specs.Heap.{Heap, step}
use Rattle.model.specs.History.{events}
use Rattle.model.specs.Offered.{Spent, NoneListed}
use Rattle.model.specs.Yields.{Listed}
use Rattle.model.proofs.Counts.{elem-count, count-elem, count-not}
use Rattle.model.proofs.EntryCounts.{is}
use Rattle.model.proofs.Sites.{here_out}
use Rattle.model.proofs.Theorems.{yielding, offered}
use Rattle.pool.specs.Stock.{blank}
use Rattle.pool.specs.Pool.{Pool, new_pool, PoolCall, PoolAnswer, to, alloc, trim, pool_step, plan, plan_alloc, plan_trim, carry, ends, bring, first_of, granted, no_block}
use Rattle.pool.specs.Observed.{as_answer, observed_of, pool_events, pool_from, pool_after, heap_calls}
use Rattle.pool.specs.way.Claims.{Allocs, Trims, Conserved}
use Rattle.pool.proofs.Kept.{PoolInv, PoolKept, pool-kept, call_kept, at_most}
use Rattle.pool.proofs.Lives.{next, own-stay}
use Rattle.pool.proofs.Frees.{out-there, stock-out, gives, observed-out, out-observed, took, took-done, none_when}
use Rattle.pool.proofs.OnHeap.{heap-after, entries-out}

pub pool-append : (size : ℕ) (P : Pool) (xs ys : List PoolCall) → pool_from size P (xs ++ ys) ≡ pool_from size (pool_from size P xs) ys
pool-append size P [] ys = refl
pool-append size P (x ∷ xs) ys = pool-append size (pool_step size P x).pool xs ys

-- every page that the class has listed yields a block
pub listed-after : (size : ℕ) → size ≤ max_pages → (rules : Rules) (xs : List PoolCall) (c : ℕ) → Listed (shape_of c) ((pool_after size rules xs).heap.classes c)
listed-after size small rules xs c = subst (λ H. Listed (shape_of c) (H.classes c)) (sym (heap-after size rules xs)) ((yielding size rules (heap_calls size rules xs)).listed c)

-- its lists are empty exactly if all its blocks are out by the heap's calls
spent-after : (size : ℕ) → size ≤ max_pages → (rules : Rules) (xs : List PoolCall) (c : ℕ) → Spent (events size rules (heap_calls size rules xs)) c ↔ NoneListed ((pool_after size rules xs).heap.classes c)
spent-after size small rules xs c =
    let ys = heap_calls size rules xs in
    subst (λ (H : Heap). Spent (events size rules ys) c ↔ NoneListed (H.classes c)) (sym (heap-after size rules xs)) ((offered size rules ys).spent c)

-- ---- allocs
some-brought : (a : PoolAnswer) (bs : List ℕ) → a ≡ (bring bs).answer → (a ≡ no_block → ⊥) → (w : ℕ) × (a ≡ granted w)
some-brought a [] e ne = absurd (ne e)
some-brought a (w ∷ ws) e ne = (w, e)

module _ (size : ℕ) (c h : ℕ) (ok : bad_host h ≡ false) (low : ltb c class_count ≡ true) (P : Pool) where
  grants : (st : List ℕ) → P.stock c ≡ st → ((pool_step size P (to c (alloc h))).answer ≡ no_block → ⊥) → (w : ℕ) × ((pool_step size P (to c (alloc h))).answer ≡ granted w)
  unfolding pool_step plan plan_alloc carry ends
  grants [] e ne = some-brought _ (reverse (blocks_of (took size P c h).answer)) (rw (ok, low, e, took-done size P c h ok low)) ne
  grants (w ∷ ws) e ne = (w, rw (ok, low, e))

  popped : (w : ℕ) (ws : List ℕ) → P.stock c ≡ w ∷ ws
      → ((pool_step size P (to c (alloc h))).answer ≡ granted w) × ((pool_step size P (to c (alloc h))).pool.heap ≡ P.heap) × ((pool_step size P (to c (alloc h))).pool.stock c ≡ ws)
  unfolding pool_step plan plan_alloc carry
  popped w ws e = (rw (ok, low, e), rw (ok, low, e), rw (ok, low, e, eq-eqb c c refl))

  refilled : P.stock c ≡ [] → (bs : List ℕ) → reverse (blocks_of (took size P c h).answer) ≡ bs
      → ((pool_step size P (to c (alloc h))).answer ≡ (bring bs).answer) × ((pool_step size P (to c (alloc h))).pool.heap ≡ (took size P c h).heap)
      × ((pool_step size P (to c (alloc h))).pool.stock c ≡ (bring bs).stock)
  unfolding pool_step plan plan_alloc carry ends
  refilled e bs t = let d = took-done size P c h ok low in (rw (ok, low, e, d, t), rw (ok, low, e), rw (ok, low, e, d, t, eq-eqb c c refl))

  -- the block was no grant: it would be out twice
  new-grant : (n k : ℕ) (es gs : List Entry) (f : ℕ → Bool) (l : ℕ → ℕ) → PoolInv size n k P es gs f l → (w : ℕ)
      → (pool_step size P (to c (alloc h))).answer ≡ granted w → total (is (pool_id c) w) gs ≡ 0
  new-grant n k es gs f l K w e =
      let I = (call_kept size n k P es gs f l K (to c (alloc h))).holds in
      let s = rw (low, e) at (I.split c w) in
      let d = pool_id c in
      let t : total (is d w) (next k d (take h blank) (as_answer (granted w)) gs) ≡ total (is d w) gs + 1 = own-stay k d (take h blank) (as_answer (granted w)) gs w refl ∙ rw (eq-eqb w w refl) in
      omega (arith, s, t, at_most I.inv (pool_id c) w)

pub allocs : (size : ℕ) → size ≤ max_pages → (rules : Rules) (xs : List PoolCall) (c h : ℕ) → bad_host h ≡ false → ltb c class_count ≡ true → Allocs size rules xs c h
allocs size small rules xs c h ok low =
    let vs = observed_of (pool_events size rules xs) in
    let P = pool_after size rules xs in
    let f = none_when size P c h ok low (listed-after size small rules xs (pool_id c)) in
    let u = spent-after size small rules xs (pool_id c) in
    record {
      none = ((λ e. let t = f.0 e in (t.0, u.1 t.1, t.2)), (λ t. f.1 (t.0, u.0 t.1, t.2)));
      some = λ ne. let g = grants size c h ok low P (P.stock c) refl ne in
          (g.0, g.1, λ o. omega (arith, out-observed vs (pool_id c) g.0 o, new-grant size c h ok low P _ _ _ _ _ _ (pool-kept size rules xs).kept.holds g.0 g.1));
      top = λ w ws e. let r = popped size c h ok low P w ws e in (r.0, record { heap = r.1; stock = r.2 });
      refill = λ e w ws t. let r = refilled size c h ok low P e (w ∷ ws) t in (r.0, record { heap = r.1; stock = r.2 });
      bare = λ e t. let r = refilled size c h ok low P e [] (ap reverse t) in record { heap = r.1; stock = r.2 };
    }

-- ---- trims
rest-few : (s : List ℕ) (k : ℕ) → length s ≤ suc k → length (drop 1 s) ≤ k
rest-few [] k h = omega arith
rest-few (w ∷ ws) k h = omega arith

none_first : (s : List ℕ) → first_of s ≡ no_block → s ≡ []
none_first [] e = refl
none_first (w ∷ ws) e = let z : ◌≡◌ {A = ℕ} 0 1 = cc in absurd (omega arith)

none-few : (s : List ℕ) → length s ≤ 0 → s ≡ []
none-few [] h = refl
none-few (w ∷ ws) h = absurd (omega arith)

module _ (size : ℕ) (small : size ≤ max_pages) (c h : ℕ) (ok : bad_host h ≡ false) (low : ltb c class_count ≡ true) where
  module _ (n k : ℕ) (P : Pool) (es gs : List Entry) (f : ℕ → Bool) (l : ℕ → ℕ) (K : PoolInv size n k P es gs f l) where
    trimmed-left : (st : List ℕ) → P.stock c ≡ st → (pool_step size P (to c (trim h))).pool.stock c ≡ drop 1 st
    unfolding pool_step plan plan_trim carry ends
    trimmed-left [] e = rw (ok, low, e, eq-eqb c c refl)
    trimmed-left (w ∷ ws) e = rw (ok, low, e, gives size small n k P es gs f l K c w h ok low (stock-out size small n k P es gs f l K c w ws e), eq-eqb c c refl)

    trimmed-heap : (w : ℕ) (ws : List ℕ) → P.stock c ≡ w ∷ ws → (pool_step size P (to c (trim h))).pool.heap ≡ (step size P.heap (pooled_release c h (w ∷ []))).heap
    unfolding pool_step plan plan_trim carry
    trimmed-heap w ws e = rw (ok, low, e)

    trimmed-first : (st : List ℕ) → P.stock c ≡ st → (pool_step size P (to c (trim h))).answer ≡ first_of st
    unfolding pool_step plan plan_trim carry ends
    trimmed-first [] e = rw (ok, low, e)
    trimmed-first (w ∷ ws) e = rw (ok, low, e, gives size small n k P es gs f l K c w h ok low (stock-out size small n k P es gs f l K c w ws e)) (ap first_of e)

  trims-left : (j k : ℕ) (P : Pool) (gs : List Entry) (f : ℕ → Bool) → PoolKept size k P gs f → length (P.stock c) ≤ j → (pool_from size P (replicate j (to c (trim h)))).stock c ≡ []
  trims-left zero k P gs f K few = none-few (P.stock c) few
  trims-left (suc j) k P gs f K few =
      let e = trimmed-left K.number k P K.entries gs f K.lost K.holds (P.stock c) refl in
      trims-left j (suc k) (pool_step size P (to c (trim h))).pool _ _ (call_kept size K.number k P K.entries gs f K.lost K.holds (to c (trim h))) (rw e (rest-few (P.stock c) j few))

pub trims : (size : ℕ) → size ≤ max_pages → (rules : Rules) (xs : List PoolCall) (c h : ℕ) → bad_host h ≡ false → ltb c class_count ≡ true → Trims size rules xs c h
trims size small rules xs c h ok low =
    let P = pool_after size rules xs in
    let I = (pool-kept size rules xs).kept.holds in
    record {
      none = (
        (λ e. none_first (P.stock c) (sym (trimmed-first size small c h ok low _ _ P _ _ _ _ I (P.stock c) refl) ∙ e)),
        trimmed-first size small c h ok low _ _ P _ _ _ _ I [],
      );
      top = λ w ws e. (
        trimmed-first size small c h ok low _ _ P _ _ _ _ I (w ∷ ws) e,
        record { heap = trimmed-heap size small c h ok low _ _ P _ _ _ _ I w ws e; stock = trimmed-left size small c h ok low _ _ P _ _ _ _ I (w ∷ ws) e },
      );
    }

-- ---- each once
once-each : (s : List ℕ) → ((w : ℕ) → count w s ≤ 1) → distinct s ≡ true
once-each [] h = refl
once-each (x ∷ s) h =
    let here : 1 + count x s ≤ 1 = rw (eq-eqb x x refl) at (h x) in
    rw (count-not x s (omega arith)) (once-each s (λ w. omega (arith, h w)))

pub conserved : (size : ℕ) → size ≤ max_pages → (rules : Rules) (xs : List PoolCall) → Conserved size rules xs
conserved size small rules xs =
    let vs = observed_of (pool_events size rules xs) in
    let P = pool_after size rules xs in
    let A = pool-kept size rules xs in
    let K = A.kept in
    let I = K.holds in
    record {
      out = λ c w. (
        (λ o. let t = here_out (shape_of (pool_id c)) (shape-sound (pool_id c)) (P.heap.classes (pool_id c)) (I.inv.good (pool_id c)) w o in
            by_cases (elem w (P.stock c)) (λ e. inr e)
            (λ e. inl (observed-out vs (pool_id c) w (omega (arith, t, I.inv.outs (pool_id c) w, I.split c w, count-elem w (P.stock c) e))))),
        (λ o. elim o [
          | inl u ↦ out-there size small _ _ P _ _ _ _ I (pool_id c) w (omega (arith, I.split c w, out-observed vs (pool_id c) w u))
          | inr e ↦ out-there size small _ _ P _ _ _ _ I (pool_id c) w (omega (arith, I.split c w, elem-count w (P.stock c) e))
        ]),
      );
      entries = entries-out size small rules xs;
      either = λ c w u. count-not w (P.stock c) (omega (arith, out-observed vs (pool_id c) w u, I.split c w, at_most I.inv (pool_id c) w));
      once = λ c. once-each (P.stock c) (λ w. omega (arith, I.split c w, at_most I.inv (pool_id c) w));
      trims = λ c h k ok low few. ap (λ Q. Q.stock c) (pool-append size (new_pool rules) xs (replicate k (to c (trim h)))) ∙ trims-left size small c h ok low k A.calls P _ _ K few;
    }
