-- The pool's heap is what the heap's calls leave; none of those that the pool made is refused; of the heap's classes and of the pages held by hand they tell
-- what the history tells.
use Rattle.facts.proofs.Prelude.{ℕ, suc, ◌≤◌, arith, Bool, true, false, true≢false, List, [], ◌∷◌, ◌++◌, ◌↔◌, ◌≡◌, refl, sym, ap, ◌∙◌, subst, ltb, All, by_cases}
use Rattle.words.specs.Limits.{max_pages}
use Rattle.classes.specs.Shape.{shape_of, class_count, pool_id}
use Rattle.classes.proofs.Shapes.{shape-sound}
use Rattle.rules.specs.Rules.{Rules}
use Rattle.model.specs.Calls.{Call, is_pooled, is_refused}
use Rattle.model.specs.Release.{out_here}
use Rattle.model.specs.Heap.{Heap, is_direct, step}
use Rattle.model.specs.History.{Event, event_of, events, events_from, heap_after, heap_from}
use Rattle.model.specs.Entries.{Entry, OutIn, direct_after}
use Rattle.model.proofs.Pages.{all_append}
use Rattle.model.proofs.Sites.{here_out}
use Rattle.model.proofs.Theorems.{outs, conserved}
use Rattle.pool.specs.Pool.{Pool, new_pool, PoolCall, Plan, PoolRequest, to, heap, turn, stays, goes, pool_step, carry, pass, plan}
use Rattle.pool.specs.Observed.{pool_from, pool_after, pool_events, heap_calls_from, heap_calls, observed_of}
use Rattle.pool.specs.way.Claims.{OnHeap}
use Rattle.pool.proofs.Plans.{Planned, is_turned, is-popped, is-taken, is-put, is-given, is-bare, is-trimmed, planned}
use Rattle.pool.proofs.Kept.{PoolInv, PoolKept, pool-kept, call_kept, new-kept, grant-one}
use Rattle.pool.proofs.Frees.{out-there, gives, took-done, stock-out, observed-out, out-observed}

-- ---- the heap
pub heap-append : (size : ℕ) (H : Heap) (xs ys : List Call) → heap_from size H (xs ++ ys) ≡ heap_from size (heap_from size H xs) ys
heap-append size H [] ys = refl
heap-append size H (x ∷ xs) ys = heap-append size (step size H x).heap xs ys

carried : (size : ℕ) (P : Pool) (c : ℕ) (x : PoolRequest) (p : Plan) → (carry size P c x p).pool.heap ≡ heap_from size P.heap (carry size P c x p).calls
unfolding carry
carried size P c x (turn n) = refl
carried size P c x (stays r st) = refl
carried size P c x (goes r st) = refl

passed-heap : (size : ℕ) (P : Pool) (x : Call) → (pass size P x).pool.heap ≡ heap_from size P.heap (pass size P x).calls
unfolding pass
passed-heap size P x = by_cases (is_pooled x) (λ e. rw e) (λ e. rw e)

step-heap : (size : ℕ) (P : Pool) (x : PoolCall) → (pool_step size P x).pool.heap ≡ heap_from size P.heap (pool_step size P x).calls
unfolding pool_step
step-heap size P (to c x) = carried size P c x (plan c (P.heap.classes (pool_id c)) (P.stock c) x)
step-heap size P (heap x) = passed-heap size P x

heap-from : (size : ℕ) (P : Pool) (xs : List PoolCall) → (pool_from size P xs).heap ≡ heap_from size P.heap (heap_calls_from size P xs)
heap-from size P [] = refl
heap-from size P (x ∷ xs) =
    heap-from size (pool_step size P x).pool xs
    ∙ ap (λ z. heap_from size z (heap_calls_from size (pool_step size P x).pool xs)) (step-heap size P x)
    ∙ sym (heap-append size P.heap (pool_step size P x).calls (heap_calls_from size (pool_step size P x).pool xs))

pub heap-after : (size : ℕ) (rules : Rules) (xs : List PoolCall) → (pool_after size rules xs).heap ≡ heap_after size rules (heap_calls size rules xs)
unfolding new_pool
heap-after size rules xs = heap-from size (new_pool rules) xs

-- ---- its answers
events-append : (size : ℕ) (H : Heap) (xs ys : List Call) → events_from size H (xs ++ ys) ≡ events_from size H xs ++ events_from size (heap_from size H xs) ys
events-append size H [] ys = refl
events-append size H (x ∷ xs) ys = ap (λ (t : List Event). event_of x (step size H x) ∷ t) (events-append size (step size H x).heap xs ys)

abbrev Fine : Event → Type 0
Fine v = is_pooled v.call ≡ true → is_refused v.answer ≡ false

module _ (size : ℕ) (small : size ≤ max_pages) where
  module _ (n k : ℕ) (P : Pool) (es gs : List Entry) (f : ℕ → Bool) (l : ℕ → ℕ) (K : PoolInv size n k P es gs f l) where
    request-fine : (c : ℕ) {x : PoolRequest} {p : Plan} → Planned c (P.heap.classes (pool_id c)) (P.stock c) x p → All Fine (events_from size P.heap (carry size P c x p).calls)
    unfolding carry
    request-fine c (is_turned m) = tt
    request-fine c (is-popped low e) = tt
    request-fine c (is-taken {h = h} ok low e) = (λ s. took-done size P c h ok low, tt)
    request-fine c (is-put low g) = tt
    request-fine c (is-given {h = h} {w = w} ok low kd g) = (λ s. gives size small n k P es gs f l K c w h ok low (omega (arith, (grant-one size n k P es gs f l K c low w g).0)), tt)
    request-fine c (is-bare e) = tt
    request-fine c (is-trimmed {h = h} {w = w} {ws = ws} ok low e) = (λ s. gives size small n k P es gs f l K c w h ok low (stock-out size small n k P es gs f l K c w ws e), tt)

    heap-fine : (x : Call) → All Fine (events_from size P.heap (pass size P x).calls)
    unfolding pass
    heap-fine x = by_cases (is_pooled x) (λ e. rw e tt) (λ e. rw e (λ s. absurd (true≢false (sym s ∙ e)), tt))

    call-fine : (x : PoolCall) → All Fine (events_from size P.heap (pool_step size P x).calls)
    unfolding pool_step
    call-fine (to c x) = request-fine c (planned c (P.heap.classes (pool_id c)) (P.stock c) x)
    call-fine (heap x) = heap-fine x

  fine-from : (k : ℕ) (P : Pool) (gs : List Entry) (f : ℕ → Bool) → PoolKept size k P gs f → (xs : List PoolCall) → All Fine (events_from size P.heap (heap_calls_from size P xs))
  fine-from k P gs f K [] = tt
  fine-from k P gs f K (x ∷ xs) =
      let ys = (pool_step size P x).calls in
      let zs = heap_calls_from size (pool_step size P x).pool xs in
      let rest = fine-from (suc k) (pool_step size P x).pool _ _ (call_kept size K.number k P K.entries gs f K.lost K.holds x) xs in
      rw (events-append size P.heap ys zs)
      (all_append Fine (events_from size P.heap ys) (events_from size (heap_from size P.heap ys) zs) (call-fine K.number k P K.entries gs f K.lost K.holds x)
      (subst (λ H. All Fine (events_from size H zs)) (step-heap size P x) rest))

-- ---- what they tell of the heap's classes and of the pages held by hand
module _ (size : ℕ) (small : size ≤ max_pages) (rules : Rules) (xs : List PoolCall) where
  abbrev P : Pool
  P = pool_after size rules xs

  abbrev vs : List Event
  vs = observed_of (pool_events size rules xs)

  abbrev ys : List Call
  ys = heap_calls size rules xs

  -- a block that is out in a class of the heap is an entry of it
  pub entries-out : (c w : ℕ) → ltb c class_count ≡ true → (out_here (shape_of c) (P.heap.classes c) w ≡ true) ↔ OutIn vs c w
  entries-out c w low =
      let I = (pool-kept size rules xs).kept.holds in (
        (λ o. observed-out vs c w (omega (arith, here_out (shape_of c) (shape-sound c) (P.heap.classes c) (I.inv.good c) w o, I.inv.outs c w, I.alone c w low))),
        (λ u. out-there size small _ _ P _ _ _ _ I c w (omega (arith, I.alone c w low, out-observed vs c w u))),
      )

  told : (c w : ℕ) → ltb c class_count ≡ true → OutIn (events size rules ys) c w ↔ OutIn vs c w
  told c w low =
      let a = subst (λ (H : Heap). (out_here (shape_of c) (H.classes c) w ≡ true) ↔ OutIn (events size rules ys) c w) (sym (heap-after size rules xs)) ((outs size rules ys).out c w) in
      let b = entries-out c w low in
      (λ o. b.0 (a.1 o), λ o. a.0 (b.1 o))

  by_hand : (x : ℕ) → direct_after (events size rules ys) x ≡ direct_after vs x
  by_hand x =
      (conserved size rules ys).direct x
      ∙ ap (λ (H : Heap). is_direct (H.holder x)) (sym (heap-after size rules xs))
      ∙ sym ((pool-kept size rules xs).kept.holds.inv.directs x)

  pub on-heap : OnHeap size rules xs
  unfolding new_pool
  on-heap = record {
    heap = heap-after size rules xs;
    done = fine-from size small 0 (new_pool rules) [] (λ x. false) (new-kept size rules) xs;
    out = told;
    hand = by_hand;
  }
