-- A class of the heap sees of a history what it sees of the heap's calls, so that its answers and the runs that it was given determine each other as there.
use Rattle.facts.proofs.Prelude.{ℕ, arith, true, false, List, [], ◌∷◌, ◌++◌, map, head-eq_of_cons-eq, tail-eq_of_cons-eq, ◌≡◌, refl, sym, ap, ◌∙◌, ap₂, ltb, ltb-true, ne_eqb, by_cases}
use Rattle.classes.specs.Shape.{class_count, pool_id}
use Rattle.rules.specs.Rules.{Rules}
use Rattle.model.specs.Calls.{Call, Answer, names, is_pooled, pooled_take, pooled_release}
use Rattle.model.specs.History as History
use Rattle.model.specs.History.{Event, events_from, calls_of, answers_of, runs_of}
use Rattle.model.proofs.Alone.{alone}
use Rattle.pool.specs.Stock.{blank}
use Rattle.pool.specs.Pool.{Pool, new_pool, PoolCall, PoolRequest, PoolAnswer, Plan, Done, to, heap, pool_step, carry, pass, answered}
use Rattle.pool.specs.Observed.{PoolEvent, event_of, pool_events_from, heap_calls_from, is_of, as_call, pool_calls_of, pool_answers_of, pool_runs_of, heap_calls}
use Rattle.pool.specs.way.Claims.{PoolAlone}
use Rattle.pool.proofs.Lives.{off_heap}
use Rattle.pool.proofs.Plans.{Planned, is_turned, is-popped, is-taken, is-put, is-given, is-bare, is-trimmed, planned}

module _ (c : ℕ) where
  -- the calls and events of a history, and the heap's, as the class sees them
  record Seen (xs : List PoolCall) (vs : List PoolEvent) (ys : List Call) (es : List Event) : Type 0 where
    calls : calls_of c ys ≡ map as_call (pool_calls_of c xs)
    answers : pool_answers_of c vs ≡ map answered (answers_of c es)
    runs : pool_runs_of c vs ≡ runs_of c es

  module _ {xs : List PoolCall} {vs : List PoolEvent} {ys : List Call} {es : List Event} (ih : Seen xs vs ys es) where
    -- an event of another class, of the history and of the heap's calls
    unseen : (v : PoolEvent) → is_of c v.call ≡ false → Seen (v.call ∷ xs) (v ∷ vs) ys es
    unseen v e = record { calls = rw e ih.calls; answers = rw e ih.answers; runs = rw e ih.runs }

    unseen-call : (u : Event) → History.is_of c (names u.call) ≡ false → Seen xs vs (u.call ∷ ys) (u ∷ es)
    unseen-call u e = record { calls = rw e ih.calls; answers = rw e ih.answers; runs = rw e ih.runs }

    -- its own
    seen-call : (u : Event) → History.is_of c (names u.call) ≡ true
        → Seen (heap u.call ∷ xs) (record { call = heap u.call; answer = answered u.answer; run = u.run } ∷ vs) (u.call ∷ ys) (u ∷ es)
    seen-call u e = record {
      calls = rw e (ap (λ (t : List Call). u.call ∷ t) ih.calls);
      answers = rw e (ap (λ (t : List PoolAnswer). answered u.answer ∷ t) ih.answers);
      runs = rw e (ap₂ ◌∷◌ refl ih.runs);
    }

  module _ (low : ltb c class_count ≡ true) (size : ℕ) (P : Pool) (xs : List PoolCall) where
    abbrev On : PoolCall → Done → Type 0
    On x d = Seen xs (pool_events_from size d.pool xs) (heap_calls_from size d.pool xs) (events_from size d.pool.heap (heap_calls_from size d.pool xs))
        → Seen (x ∷ xs) (event_of x d ∷ pool_events_from size d.pool xs) (d.calls ++ heap_calls_from size d.pool xs) (events_from size P.heap (d.calls ++ heap_calls_from size d.pool xs))

    request-off : (b : ℕ) (x : PoolRequest) → is_of c (to b x) ≡ false
    request-off b x = ne_eqb (pool_id b) c (omega (arith, ltb-true c class_count low))

    -- of a request, whether it goes to the heap or not
    request-seen : (b : ℕ) {x : PoolRequest} {p : Plan} → Planned b (P.heap.classes (pool_id b)) (P.stock b) x p → On (to b x) (carry size P b x p)
    unfolding carry
    request-seen b {x} (is_turned m) ih = unseen ih _ (request-off b x)
    request-seen b {x} (is-popped l e) ih = unseen ih _ (request-off b x)
    request-seen b {x} (is-taken {h = h} ok l e) ih = unseen-call (unseen ih _ (request-off b x)) _ (off_heap (pooled_take b h blank) c low refl)
    request-seen b {x} (is-put l g) ih = unseen ih _ (request-off b x)
    request-seen b {x} (is-given {h = h} {w = w} ok l kd g) ih = unseen-call (unseen ih _ (request-off b x)) _ (off_heap (pooled_release b h (w ∷ [])) c low refl)
    request-seen b {x} (is-bare e) ih = unseen ih _ (request-off b x)
    request-seen b {x} (is-trimmed {h = h} {w = w} ok l e) ih = unseen-call (unseen ih _ (request-off b x)) _ (off_heap (pooled_release b h (w ∷ [])) c low refl)

    heap-seen : (x : Call) → On (heap x) (pass size P x)
    unfolding pass
    heap-seen x =
        by_cases (is_pooled x)
        (λ e. rw e (λ ih. unseen ih _ (off_heap x c low e)))
        (λ e. rw e (by_cases (History.is_of c (names x)) (λ u ih. seen-call ih _ u) (λ u ih. unseen-call (unseen ih _ u) _ u)))

    call-seen : (x : PoolCall) → On x (pool_step size P x)
    unfolding pool_step
    call-seen (to b x) = request-seen b (planned b (P.heap.classes (pool_id b)) (P.stock b) x)
    call-seen (heap x) = heap-seen x

seen : (c : ℕ) → ltb c class_count ≡ true → (size : ℕ) (P : Pool) (xs : List PoolCall)
    → Seen c xs (pool_events_from size P xs) (heap_calls_from size P xs) (events_from size P.heap (heap_calls_from size P xs))
seen c low size P [] = record { calls = refl; answers = refl; runs = refl }
seen c low size P (x ∷ xs) = call-seen c low size P xs x (seen c low size (pool_step size P x).pool xs)

-- an answer is told by what the pool passes on of it
same-answers : (s t : List Answer) → map answered s ≡ map answered t → s ≡ t
same-answers [] [] e = refl
same-answers [] (b ∷ t) e = cc
same-answers (a ∷ s) [] e = cc
same-answers (a ∷ s) (b ∷ t) e = let h : answered a ≡ answered b = head-eq_of_cons-eq e in ap₂ ◌∷◌ (cc) (same-answers s t (tail-eq_of_cons-eq e))

pub heap-alone : (size size' : ℕ) (rules rules' : Rules) (c : ℕ) → ltb c class_count ≡ true → (xs ys : List PoolCall) → PoolAlone size size' rules rules' c xs ys
unfolding new_pool
heap-alone size size' rules rules' c low xs ys = record {
  alone = λ lim same.
      let a = seen c low size (new_pool rules) xs in
      let b = seen c low size' (new_pool rules') ys in
      let t = alone size size' rules rules' c (heap_calls size rules xs) (heap_calls size' rules' ys) lim (a.calls ∙ ap (map as_call) same ∙ sym b.calls) in (
        (λ e. a.runs ∙ t.0 (same-answers _ _ (sym a.answers ∙ e ∙ b.answers)) ∙ sym b.runs),
        (λ e. a.answers ∙ ap (map answered) (t.1 (sym a.runs ∙ e ∙ b.runs)) ∙ sym b.answers),
      );
}
