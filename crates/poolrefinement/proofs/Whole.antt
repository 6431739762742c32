-- Every request on the words is the model's, after every history: so number 13 never answers.
use Rattle.facts.proofs.Prelude.{ℕ, zero, suc, ◌≤◌, arith, Bool, true, false, cond, not, List, [], ◌∷◌, ◌++◌, ◌≡◌, refl, sym, ap, ◌∙◌, subst, ltb, length, not-false, by_cases}
use Rattle.words.specs.Host.{bad_host}
use Rattle.classes.specs.Shape.{shape_of, class_count, pool_id}
use Rattle.rules.specs.Rules.{Rules}
use Rattle.fields.specs.Ranges.{max_pages}
use Rattle.model.specs.Calls.{Call, pooled_release}
use Rattle.model.specs.Release.{of_kind}
use Rattle.model.specs.Heap.{new_heap, step}
use Rattle.model.specs.Entries.{Entry}
use Rattle.model.specs.Yields.{Listed}
use Rattle.refinement.proofs.ArenaReached.{Reached, reached-after}
use Rattle.pool.specs.Stock.{stock_most}
use Rattle.pool.specs.Pool.{Pool, PoolCall, Plan, PoolRequest, to, alloc, free, trim, turn, stays, goes, host_in, pool_step, carry, plan, plan_alloc, plan_free, plan_trim, plan_of, is_granted, refused, freed}
use Rattle.pool.specs.Observed.{pool_after, heap_calls}
use Rattle.pool.proofs.Kept.{PoolInv, pool-kept, grant-one}
use Rattle.pool.proofs.Frees.{stock-out}
use Rattle.pool.proofs.OnHeap.{on-heap, heap-append}
use Rattle.pool.proofs.Conserved.{listed-after}
use Rattle.poolcalls.specs.Stock.{count_in, stock_from}
use Rattle.poolcalls.specs.Calls.{PoolReply, pool_reply, request_on}
use Rattle.poolrefinement.specs.way.Represents.{PoolRep, PoolAgrees}
use Rattle.poolrefinement.specs.Run.{ask_on}
use Rattle.poolrefinement.proofs.Requests.{popped-agrees, put-agrees, given-agrees, trimmed-agrees, bare-agrees, kind-refused, grant-refused}
use Rattle.poolrefinement.proofs.Refills.{taken-agrees}

length_from : (b : List ℕ) (c m : ℕ) → length (stock_from b c m) ≡ m
length_from b c zero = refl
length_from b c (suc m) = ap suc (length_from b c m)

module _ (n : ℕ) (hn : n ≤ max_pages) (P : Pool) (b : List ℕ) (R : PoolRep n b P) (ok : Reached n P.heap) (reach : (x : Call) → Reached n (step n P.heap x).heap) (listed : (c : ℕ) → Listed (shape_of c) (P.heap.classes c))
    (m k : ℕ) (es gs : List Entry) (f : ℕ → Bool) (l : ℕ → ℕ) (K : PoolInv n m k P es gs f l) (c : ℕ) (hc : ltb c class_count ≡ true) where
  alloc-agrees : (h : ℕ) → bad_host h ≡ false → (st : List ℕ) → P.stock c ≡ st → PoolAgrees n (request_on n b c (alloc h)) (carry n P c (alloc h) (plan_alloc c h st))
  unfolding plan_alloc
  alloc-agrees h fine [] e = taken-agrees n hn P b R ok listed m k es gs f l K c hc h fine e (reach _)
  alloc-agrees h fine (w ∷ ws) e = popped-agrees n hn P b R ok listed m k es gs f l K c hc w ws e h

  trim-agrees : (h : ℕ) → bad_host h ≡ false → (st : List ℕ) → P.stock c ≡ st → PoolAgrees n (request_on n b c (trim h)) (carry n P c (trim h) (plan_trim c h st))
  unfolding plan_trim
  trim-agrees h fine [] e = bare-agrees n hn P b R ok listed m k es gs f l K c hc h e
  trim-agrees h fine (w ∷ ws) e = trimmed-agrees n hn P b R ok listed m k es gs f l K c hc h w fine (stock-out n hn m k P es gs f l K c w ws e) (reach _) ws e

  count-is : length (P.stock c) ≡ count_in b c
  count-is = ap length (sym (R.stocks c hc).same) ∙ length_from b c (count_in b c)

  module _ (h w : ℕ) (fine : bad_host h ≡ false) where
    abbrev the_plan : Plan
    the_plan = plan_free c (P.heap.classes (pool_id c)) (P.stock c) h w

    plan-granted : of_kind (shape_of (pool_id c)).kind w ≡ true → is_granted (shape_of (pool_id c)) (P.heap.classes (pool_id c)) (P.stock c) w ≡ true
        → the_plan ≡ cond (ltb (count_in b c) (stock_most c)) (stays freed (w ∷ P.stock c)) (goes (pooled_release c h (w ∷ [])) (P.stock c))
    unfolding plan_free
    plan-granted kd g = rw (kd, g, count-is)

    granted-agrees : of_kind (shape_of (pool_id c)).kind w ≡ true → is_granted (shape_of (pool_id c)) (P.heap.classes (pool_id c)) (P.stock c) w ≡ true → PoolAgrees n (request_on n b c (free h w)) (carry n P c (free h w) the_plan)
    granted-agrees kd g =
        rw (plan-granted kd g)
        (by_cases (ltb (count_in b c) (stock_most c))
        (λ e. rw e (put-agrees n hn P b R ok listed m k es gs f l K c hc h w kd g e))
        (λ e. rw e (given-agrees n hn P b R ok listed m k es gs f l K c hc h w fine (omega (arith, (grant-one n m k P es gs f l K c hc w g).0)) kd g e)))

    free-agrees : PoolAgrees n (request_on n b c (free h w)) (carry n P c (free h w) the_plan)
    free-agrees =
        by_cases (of_kind (shape_of (pool_id c)).kind w)
        (λ kd. by_cases (is_granted (shape_of (pool_id c)) (P.heap.classes (pool_id c)) (P.stock c) w)
        (λ g. granted-agrees kd g)
        (λ g. grant-refused n hn P b R ok listed m k es gs f l K c hc h w kd g))
        (λ kd. kind-refused n hn P b R ok listed m k es gs f l K c hc h w kd)

  request-agrees : (x : PoolRequest) → bad_host (host_in x) ≡ false → PoolAgrees n (request_on n b c x) (carry n P c x (plan_of c (P.heap.classes (pool_id c)) (P.stock c) x))
  request-agrees (alloc h) fine = alloc-agrees h fine (P.stock c) refl
  request-agrees (free h w) fine = free-agrees h w fine
  request-agrees (trim h) fine = trim-agrees h fine (P.stock c) refl

-- numbers 3 and 4, and then the request
turned : (n : ℕ) (P : Pool) (b : List ℕ) (R : PoolRep n b P) (c : ℕ) (x : PoolRequest) (j : ℕ) → PoolAgrees n (pool_reply (refused j) b) (carry n P c x (turn j))
unfolding carry
turned n P b R c x j = record { answer = refl; pool = R }

agrees-cond : (n : ℕ) (P : Pool) (b : List ℕ) (R : PoolRep n b P) (c : ℕ) (x : PoolRequest) (t : Bool) (j : ℕ) (s : PoolReply) (p : Plan) → (t ≡ false → PoolAgrees n s (carry n P c x p))
    → PoolAgrees n (cond t (pool_reply (refused j) b) s) (carry n P c x (cond t (turn j) p))
agrees-cond n P b R c x true j s p h = turned n P b R c x j
agrees-cond n P b R c x false j s p h = h refl

-- after every history of the pool, on every book that stands for it
module _ (n : ℕ) (hn : n ≤ max_pages) (rules : Rules) (xs : List PoolCall) where
  reached : Reached n (pool_after n rules xs).heap
  reached = subst (Reached n) (sym (on-heap n hn rules xs).heap) (reached-after n rules (heap_calls n rules xs))

  reached-next : (y : Call) → Reached n (step n (pool_after n rules xs).heap y).heap
  reached-next y =
      let ys = heap_calls n rules xs in
      subst (λ H. Reached n (step n H y).heap) (sym (on-heap n hn rules xs).heap) (subst (Reached n) (heap-append n (new_heap rules) ys (y ∷ [])) (reached-after n rules (ys ++ y ∷ [])))

  pub pool-agrees : (b : List ℕ) → PoolRep n b (pool_after n rules xs) → (c : ℕ) (x : PoolRequest) → PoolAgrees n (ask_on n b c x) (pool_step n (pool_after n rules xs) (to c x))
  unfolding ask_on pool_step plan
  pool-agrees b R c x =
      let P = pool_after n rules xs in
      let K = (pool-kept n rules xs).kept in
      agrees-cond n P b R c x (bad_host (host_in x)) 3 _ _ (λ fine.
      agrees-cond n P b R c x (not (ltb c class_count)) 4 _ _ (λ t.
      request-agrees n hn P b R reached reached-next (listed-after n hn rules xs) K.number _ K.entries _ _ K.lost K.holds c (not-false (ltb c class_count) t) x fine))
