-- The statement over mixed histories holds of every history of the exported calls, on the words: first from an opening (`at-opening`), then from a trace, which is
-- an opening with what the trace did in front.
use Rattle.facts.proofs.Prelude.{ℕ, zero, suc, ◌+◌, ◌≤◌, ◌<◌, arith, true, false, cond, not, true≢false, false≢true, List, [], ◌∷◌, ◌++◌, map, reverse, append_assoc, head-eq_of_cons-eq, tail-eq_of_cons-eq}
use Rattle.facts.proofs.Prelude.{◌↔◌, inl, inr, some, ◌≡◌, refl, sym, ap, ap₂, ◌∙◌, subst, eqb, ltb, length, replicate, eq-eqb, ne_eqb, eqb-true, eqb-false, lt-ltb, ltb-true, le-leb, not-true, is_nil, every, All, elem}
use Rattle.facts.proofs.Prelude.{distinct, by_cases, and_left, and_right}
use Rattle.words.specs.Host.{bad_host, host_max}
use Rattle.words.specs.Limits.{class_rows}
use Rattle.words.specs.Word.{granule_of}
use Rattle.classes.specs.Shape.{shape_of, class_count, pool_id, number_of}
use Rattle.classes.proofs.Shapes.{shape-alike}
use Rattle.rules.specs.Rules.{Rules, rules_of}
use Rattle.fields.specs.Field.{arena, page, size, frontier, owner, get}
use Rattle.fields.specs.Ranges.{max_pages, meta_fault, format_valid, head_valid}
use Rattle.model.specs.Cover.{in_run}
use Rattle.model.specs.Arena as Arenas
use Rattle.model.specs.Arena.{Arena}
use Rattle.model.specs.Calls as Calls
use Rattle.model.specs.Calls.{Call, Answer, give_back, pooled_take, pooled_release, is_pooled, is_refused, blocks_of, names}
use Rattle.model.specs.Release.{of_kind, out_here}
use Rattle.model.specs.Heap.{Heap, Holder, nobody, direct, class, new_heap, step, bad_run}
use Rattle.model.specs.History.{Event, events, heap_after}
use Rattle.model.specs.Entries.{OutIn, AllOut, direct_after}
use Rattle.model.specs.Offered.{HasRun}
use Rattle.model.proofs.Theorems.{outs}
use Rattle.arena.specs.Load.{load_arena}
use Rattle.arena.specs.Owners.{owner_code}
use Rattle.pages.specs.Stack.{page_at}
use Rattle.calls.specs.Out.{out_at}
use Rattle.trace.specs.Words.{owner_at}
use Rattle.refinement.specs.way.Represents.{Represents}
use Rattle.refinement.specs.Direct.{Reply}
use Rattle.refinement.specs.Run as Heaps
use Rattle.refinement.specs.Run.{call_reply, replies_from, answers_in}
use Rattle.refinement.proofs.ArenaHolders.{pooled_class}
use Rattle.refinement.proofs.ArenaReached.{heap-next}
use Rattle.refinement.proofs.Book.{setting_of}
use Rattle.refinement.proofs.Found.{out-here}
use Rattle.refinement.proofs.Whole.{call-whole}
use Rattle.pool.specs.Stock.{stock_most, blank}
use Rattle.pool.specs.Pool as PoolCalls
use Rattle.pool.specs.Pool.{Pool, new_pool, PoolCall, PoolAnswer, PoolRequest, to, alloc, free, trim, pool_step}
use Rattle.pool.specs.Observed.{PoolEvent, observed_of, pool_events, pool_events_from, pool_after, heap_calls, pool_answers_of, is_of}
use Rattle.pool.specs.way.Claims as Claims
use Rattle.pool.specs.way.Claims.{answer_to, heap_next}
use Rattle.pool.proofs.Most.{stock-most}
use Rattle.pool.proofs.Apart.{pool-disjoint}
use Rattle.pool.proofs.Frees.{frees, unchanged}
use Rattle.pool.proofs.OnHeap.{on-heap}
use Rattle.pool.proofs.Conserved.{allocs, trims, conserved}
use Rattle.pool.proofs.Alone.{pool-alone}
use Rattle.poolcalls.specs.Stock.{count_in, stock_from, stock_in, stocked}
use Rattle.poolcalls.specs.Calls.{PoolReply, pool_reply, granted_in, trim_on}
use Rattle.vigbuso.specs.Direct.{open_on}
use Rattle.vigbuso.specs.Faults.{admits}
use Rattle.vigbuso.specs.Pool.{pool_on, class_on, granted_on, stocked_on}
use Rattle.poolrefinement.specs.Run.{ask_on, pool_answers_from, book_from}
use Rattle.poolrefinement.specs.way.Represents.{PoolRep}
use Rattle.poolrefinement.proofs.Whole.{pool-agrees}
use Rattle.poolrefinement.proofs.Stocks.{stocked-is}
use Rattle.poolrefinement.proofs.Requests.{kind-word}
use Rattle.poolrefinement.proofs.Runs.{stands}
use Rattle.demands.specs.Call.{call}
use Rattle.demands.specs.Run.{Opens, book_after, observed}
use Rattle.demands.specs.Start.{Start, Starts, pages, rule_rows, rules, lent, begun, did}
use Rattle.demands.specs.Returns.{Twice, ListOut, Plain, ChunksOut}
use Rattle.demands.specs.Mixed as Statement
use Rattle.demands.specs.Mixed.{pool_call, recorded, mixed_book, mixed_calls, mixed_answers, mixed_recorded, mixed_observed, Leaves, HasRoom, AllocAnswers, FreeAnswers, TrimAnswers, MixedAt, MixedDemand}
use Rattle.demands.proofs.Calls.{room, no-fault, call-is}
use Rattle.demands.proofs.Histories.{run-represents}
use Rattle.demands.proofs.Observed.{bare, bare-live, live-bare, bare-direct, bare-disjoint, bare-iso, observed-out, out-observed, observed-direct}
use Rattle.demands.proofs.Starts.{begun-is}
use Rattle.demands.proofs.Returns.{list-returns, not-out}
use Rattle.demands.proofs.ChunkReturns.{chunks_return, chunks-not_out}
use Rattle.demands.proofs.Held.{held-releases, held-grows}
use Rattle.demands.proofs.PoolRuns.{open_run, open_book, open_recorded, open_observed, ask-is, run_is, pool-rep, observed-is}
use Rattle.demands.proofs.PoolQuery.{owner-number, stocked-rep, few-rep}
use Rattle.demands.proofs.Codes.{code-exactly}
use Rattle.demands.proofs.Plain.{did-plain, names-plain}
use Rattle.demands.proofs.Moves.{all-moves, list-moves, chunks-moves}
use Rattle.demands.proofs.Holders.{run-holder, holder-run, holder-low, held_below, frontier-low}

-- a block out, told with and without the runs
out-bare : (vs : List Event) (c w : ℕ) → OutIn vs c w → OutIn (bare vs) c w
out-bare vs c w o = record { entry = o.entry; live = live-bare 0 vs o.entry o.live; class = o.class; word = o.word }

bare-out : (vs : List Event) (c w : ℕ) → OutIn (bare vs) c w → OutIn vs c w
bare-out vs c w o = record { entry = o.entry; live = bare-live 0 vs o.entry o.live; class = o.class; word = o.word }

-- lists in which nothing stands twice, with the same members, are of one length
abbrev without : ℕ → List ℕ → List ℕ
without x [] = []
without x (y ∷ ys) = cond (eqb x y) (without x ys) (y ∷ without x ys)

without-elem : (x w : ℕ) (ys : List ℕ) → eqb w x ≡ false → elem w ys ≡ true → elem w (without x ys) ≡ true
without-elem x w [] ne m = m
without-elem x w (y ∷ ys) ne m =
    by_cases (eqb x y)
    (λ e. rw e (without-elem x w ys ne (rw (ne_eqb w y (λ z. eqb-false w x ne (z ∙ sym (eqb-true x y e)))) at m)))
    (λ e. rw e (by_cases (eqb w y) (λ t. rw t) (λ t. rw t (without-elem x w ys ne (rw t at m)))))

without-length : (x : ℕ) (ys : List ℕ) → elem x ys ≡ true → length (without x ys) < length ys
without-length x [] m = absurd (false≢true m)
without-length x (y ∷ ys) m =
    by_cases (eqb x y)
    (λ e. rw e (omega (arith, without-most x ys)))
    (λ e. rw e (omega (arith, without-length x ys (rw e at m))))
  where
    without-most : (x : ℕ) (ys : List ℕ) → length (without x ys) ≤ length ys
    without-most x [] = omega arith
    without-most x (y ∷ ys) = by_cases (eqb x y) (λ e. rw e (omega (arith, without-most x ys))) (λ e. rw e (omega (arith, without-most x ys)))

members_few : (s t : List ℕ) → distinct s ≡ true → ((w : ℕ) → elem w s ≡ true → elem w t ≡ true) → length s ≤ length t
members_few [] t d h = omega arith
members_few (x ∷ s) t d h =
    let here : elem x (x ∷ s) ≡ true = rw (eq-eqb x x refl) in
    let less = without-length x t (h x here) in
    let apart = not-true (elem x s) (and_left (not (elem x s)) _ d) in
    let rest = members_few s (without x t) (and_right (not (elem x s)) _ d)
    (λ w m. let ne = ne_eqb w x (λ z. true≢false (sym m ∙ subst (λ (v : ℕ). elem v s ≡ false) (sym z) apart)) in without-elem x w t ne (h w (rw (ne, m)))) in
    omega arith

members_length : (s t : List ℕ) → distinct s ≡ true → distinct t ≡ true → ((w : ℕ) → (elem w s ≡ true) ↔ (elem w t ≡ true)) → length s ≡ length t
members_length s t d e h = omega (arith, members_few s t d (λ w. (h w).0), members_few t s e (λ w. (h w).1))

-- two books that stand for one heap answer every history alike
module _ (n : ℕ) (some-pages : 1 ≤ n) (few-pages : n ≤ max_pages) (rules : Rules) where
  answers-same : (ys made : List Call) (b e : List ℕ) → Represents n b (heap_after n rules made) → Represents n e (heap_after n rules made) → answers_in (replies_from call b ys) ≡ answers_in (replies_from call e ys)
  answers-same [] made b e R Q = refl
  answers-same (y ∷ ys) made b e R Q =
      let H = heap_after n rules made in
      let g = heap-next n (new_heap rules) made y in
      let u = call-is n b some-pages few-pages H R y in
      let v = call-is n e some-pages few-pages H Q y in
      let p = call-whole n few-pages rules made b R y in
      let q = call-whole n few-pages rules made e Q y in
      let R₁ : Represents n (call b y).book (heap_after n rules (made ++ y ∷ [])) = subst (λ (r : Reply). Represents n r.book (heap_after n rules (made ++ y ∷ []))) (sym u) (subst (λ (G : Heap). Represents n (call_reply n b y).book G) (sym g) p.heap) in
      let Q₁ : Represents n (call e y).book (heap_after n rules (made ++ y ∷ [])) = subst (λ (r : Reply). Represents n r.book (heap_after n rules (made ++ y ∷ []))) (sym v) (subst (λ (G : Heap). Represents n (call_reply n e y).book G) (sym g) q.heap) in
      let same : (call b y).answer ≡ (call e y).answer = ap (λ r. r.answer) u ∙ p.answer ∙ sym q.answer ∙ sym (ap (λ r. r.answer) v) in
      ap₂ (λ (a : Answer) (zs : List Answer). a ∷ zs) same (answers-same ys (made ++ y ∷ []) (call b y).book (call e y).book R₁ Q₁)

-- an empty stock has COUNT 0, and a trim then leaves the book
none-counted : (b : List ℕ) (c k : ℕ) → stock_from b c k ≡ [] → k ≡ 0
none-counted b c zero e = refl
none-counted b c (suc k) e = let z : ◌≡◌ {A = ℕ} 0 1 = cc in absurd (omega arith)

trim-still : (n : ℕ) (b : List ℕ) (c h : ℕ) → bad_host h ≡ false → ltb c class_count ≡ true → format_valid b ≡ true → stock_in b c ≡ [] → (ask_on n b c (trim h)).book ≡ b
unfolding ask_on trim_on
trim-still n b c h ok low f e = rw (ok, low, none-counted b c (count_in b c) e, f)

module _ (n : ℕ) (rows b : List ℕ) (o : Opens n rows b) (xs : List PoolCall) where
  abbrev d : List ℕ
  d = open_book n rows b xs

  abbrev P : Pool
  P = pool_after n (rules_of rows) xs

  abbrev made : List Call
  made = heap_calls n (rules_of rows) xs

  abbrev vs : List Event
  vs = observed_of (pool_events n (rules_of rows) xs)

  few : n ≤ max_pages
  few = (room n rows b o).few-pages

  rep : PoolRep n d P
  rep = pool-rep n rows b o xs

  heap : Represents n d (heap_after n (rules_of rows) made)
  heap = stands n few (rules_of rows) xs d rep

  -- a request is answered as the model's
  answer-is : (c : ℕ) (x : PoolRequest) → (pool_on d c x).answer ≡ answer_to n (rules_of rows) xs c x
  answer-is c x = ap (λ s. s.answer) (ask-is n (room n rows b o).some-pages few d P rep c x) ∙ (pool-agrees n few (rules_of rows) xs d rep c x).answer

  call-reply : (y : Call) → call d y ≡ call_reply n d y
  call-reply y = call-is n d (room n rows b o).some-pages few (heap_after n (rules_of rows) made) heap y

  out_in_lem : (c w : ℕ) → OutIn vs c w → OutIn (open_observed n rows b xs) c w
  out_in_lem c w u = rw (observed-is n rows b o xs) (out-bare vs c w u)

  in_out : (c w : ℕ) → OutIn (open_observed n rows b xs) c w → OutIn vs c w
  in_out c w u = bare-out vs c w (rw (observed-is n rows b o xs) at u)

  stock-is : (c : ℕ) → ltb c class_count ≡ true → stock_in d c ≡ P.stock c
  stock-is c hc = (rep.stocks c hc).same

  -- the stock after a request
  stock-after : (c : ℕ) (x : PoolRequest) → ltb c class_count ≡ true → stock_in (pool_on d c x).book c ≡ (pool_step n P (to c x)).pool.stock c
  stock-after c x low =
      ap (λ s. stock_in s.book c) (ask-is n (room n rows b o).some-pages few d P rep c x) ∙ ((pool-agrees n few (rules_of rows) xs d rep c x).pool.stocks c low).same

  -- the heap's call y on the book, and what a request leaves
  step-next : (y : Call) → (step n (heap_after n (rules_of rows) made) y).heap ≡ heap_after n (rules_of rows) (made ++ y ∷ [])
  step-next y = sym (heap-next n (new_heap (rules_of rows)) made y)

  called : (y : Call) → Represents n (call d y).book (heap_after n (rules_of rows) (made ++ y ∷ []))
  called y =
      subst (λ (r : Reply). Represents n r.book (heap_after n (rules_of rows) (made ++ y ∷ []))) (sym (call-reply y))
      (subst (λ (G : Heap). Represents n (call_reply n d y).book G) (step-next y) (call-whole n few (rules_of rows) made d heap y).heap)

  pool-heap : P.heap ≡ heap_after n (rules_of rows) made
  pool-heap = (on-heap n few (rules_of rows) xs).heap

  asked-heap : (c : ℕ) (x : PoolRequest) → Represents n (pool_on d c x).book (pool_step n P (to c x)).pool.heap
  asked-heap c x =
      subst (λ (r : PoolReply). Represents n r.book (pool_step n P (to c x)).pool.heap) (sym (ask-is n (room n rows b o).some-pages few d P rep c x))
      (pool-agrees n few (rules_of rows) xs d rep c x).pool.heap

  leaves-heap : (c : ℕ) (x : PoolRequest) (st : List ℕ) → ltb c class_count ≡ true → Claims.Leaves n (rules_of rows) xs c x P.heap st → Leaves d c x st d
  leaves-heap c x st low l = record {
    stock = stock-after c x low ∙ l.stock;
    heap = λ ys. answers-same n (room n rows b o).some-pages few (rules_of rows) ys made (pool_on d c x).book d
        (subst (λ (G : Heap). Represents n (pool_on d c x).book G) (l.heap ∙ pool-heap) (asked-heap c x)) heap;
  }

  leaves-call : (c : ℕ) (x : PoolRequest) (y : Call) (st : List ℕ) → ltb c class_count ≡ true → Claims.Leaves n (rules_of rows) xs c x (heap_next n (rules_of rows) xs y) st → Leaves d c x st (call d y).book
  leaves-call c x y st low l =
      record {
        stock = stock-after c x low ∙ l.stock;
        heap = λ ys. answers-same n (room n rows b o).some-pages few (rules_of rows) ys (made ++ y ∷ []) (pool_on d c x).book (call d y).book
            (subst (λ (G : Heap). Represents n (pool_on d c x).book G) (l.heap ∙ ap (λ (G : Heap). (step n G y).heap) pool-heap ∙ step-next y) (asked-heap c x)) (called y);
      }

  -- the heap's own answer to a call
  heap-answer : (y : Call) → (call d y).answer ≡ (step n P.heap y).answer
  heap-answer y = ap (λ r. r.answer) (call-reply y) ∙ (call-whole n few (rules_of rows) made d heap y).answer ∙ ap (λ (G : Heap). (step n G y).answer) (sym pool-heap)

  -- ---- requests
  admitted : (c : ℕ) → ltb c class_count ≡ true → admits d c ≡ true
  unfolding admits
  admitted c hc = rw (no-fault n d (room n rows b o).some-pages few (heap_after n (rules_of rows) made) heap, hc)

  stocked_is_length : (c : ℕ) → ltb c class_count ≡ true → stocked_on d c ≡ length (stock_in d c)
  stocked_is_length c hc = stocked-rep n d c (P.stock c) (rep.stocks c hc) rep.heap.arena.format (admitted c hc)

  -- a stock has room by its most, and by the numbers of blocks and bytes
  has_room : (c : ℕ) → ltb c class_count ≡ true → HasRoom c (stocked_on d c) ↔ (ltb (length (P.stock c)) (stock_most c) ≡ true)
  has_room c hc =
      let e : stocked_on d c ≡ length (P.stock c) = stocked_is_length c hc ∙ ap length (stock-is c hc) in
      let m = stock-most c (length (P.stock c)) in (
        (λ r. lt-ltb (length (P.stock c)) (stock_most c) (m.1 (subst (HasRoom c) e r))),
        (λ t. subst (HasRoom c) (sym e) (m.0 (ltb-true (length (P.stock c)) (stock_most c) t))),
      )

  free-answers : (c h w : ℕ) → bad_host h ≡ false → ltb c class_count ≡ true → FreeAnswers d (open_observed n rows b xs) c h w
  free-answers c h w ok low =
      let a = answer-is c (free h w) in
      let f = frees n few (rules_of rows) xs c h w in
      let kinds : (shape_of c).kind ≡ (shape_of (pool_id c)).kind = ap (λ sh. sh.kind) (sym (shape-alike c low)) in
      let has = has_room c low in
      record {
        done = ((λ e. out_in_lem (pool_id c) w ((f.done ok low).0 (sym a ∙ e))), (λ u. a ∙ (f.done ok low).1 (in_out (pool_id c) w u)));
        kind = λ k. a ∙ f.kind ok low (subst (λ (q : ℕ). of_kind q w ≡ false) kinds k);
        stale = λ k ne. a ∙ f.stale ok low (subst (λ (q : ℕ). of_kind q w ≡ true) kinds k) (λ u. ne (out_in_lem (pool_id c) w u));
        stocks = λ u r.
            let l = f.stocks ok low (in_out (pool_id c) w u) (has.0 r) in
            subst (λ (s : List ℕ). Leaves d c (free h w) (w ∷ s) d) (sym (stock-is c low)) (leaves-heap c (free h w) _ low l);
        returns = λ u r.
            let full = by_cases (ltb (length (P.stock c)) (stock_most c)) (λ t. absurd (r (has.1 t))) (λ t. t) in
            let l = f.returns ok low (in_out (pool_id c) w u) full in
            subst (λ (s : List ℕ). Leaves d c (free h w) s (call d (pooled_release c h (w ∷ []))).book) (sym (stock-is c low)) (leaves-call c (free h w) (pooled_release c h (w ∷ [])) _ low l);
      }

  alloc-answers : (c h : ℕ) → bad_host h ≡ false → ltb c class_count ≡ true → AllocAnswers n (rules_of rows) d (open_observed n rows b xs) made c h
  alloc-answers c h ok low =
      let a = answer-is c (alloc h) in
      let y = pooled_take c h blank in
      let f = allocs n few (rules_of rows) xs c h ok low in
      let runs = ap (λ g. (Arenas.commit n h (shape_of (pool_id c)).pages g).run) rep.heap.arena.loads in
      record {
        none = (
          (λ e. let t = f.none.0 (sym a ∙ e) in (stock-is c low ∙ t.0, t.1, runs ∙ t.2)),
          (λ t. a ∙ f.none.1 (sym (stock-is c low) ∙ t.0, t.1, sym runs ∙ t.2)),
        );
        some = λ ne. let g = f.some (λ e. ne (a ∙ e)) in (g.0, a ∙ g.1, λ u. g.2 (in_out (pool_id c) g.0 u));
        top = λ w ws e. let v = f.top w ws (sym (stock-is c low) ∙ e) in (a ∙ v.0, leaves-heap c (alloc h) ws low v.1);
        refill = λ e w ws r. let v = f.refill (sym (stock-is c low) ∙ e) w ws (ap (λ z. reverse (blocks_of z)) (sym (heap-answer y)) ∙ r) in (a ∙ v.0, leaves-call c (alloc h) y ws low v.1);
        bare = λ e r. leaves-call c (alloc h) y [] low (f.bare (sym (stock-is c low) ∙ e) (ap blocks_of (sym (heap-answer y)) ∙ r));
      }

  -- the heap's test of a block of the pool's class
  out_test : (c w : ℕ) → ltb c class_count ≡ true → of_kind (shape_of (pool_id c)).kind w ≡ true → out_at n d (pool_id c) (shape_of (pool_id c)) w ≡ out_here (shape_of (pool_id c)) (P.heap.classes (pool_id c)) w
  out_test c w hc k = out-here (setting_of n d P.heap rep.heap (pool_id c) (pooled_class c hc)) few (P.heap.classes (pool_id c)) (rep.heap.classes (pool_id c) (pooled_class c hc)) w k

  stock_test : (c w : ℕ) → ltb c class_count ≡ true → of_kind (shape_of (pool_id c)).kind w ≡ true → stocked d c (granule_of w) ≡ elem w (P.stock c)
  stock_test c w hc k = stocked-is n d c (granule_of w) (P.stock c) (rep.stocks c hc) ∙ ap (λ v. elem v (P.stock c)) (sym (kind-word (shape_of (pool_id c)).kind w k))

  -- a grant is of its class's kind, since a free of it is no 9
  grant-kind : (c w : ℕ) → ltb c class_count ≡ true → OutIn (open_observed n rows b xs) (pool_id c) w → of_kind (shape_of (pool_id c)).kind w ≡ true
  grant-kind c w hc u =
      by_cases (of_kind (shape_of (pool_id c)).kind w) (λ k. k) (λ k.
      let f = free-answers c 0 w refl hc in
      let done = f.done.1 u in
      let nine = f.kind (subst (λ (q : ℕ). of_kind q w ≡ false) (ap (λ sh. sh.kind) (shape-alike c hc)) k) in
      let z : ◌≡◌ {A = ℕ} 0 1 = cc in absurd (omega arith))

  granted-observed : (c w : ℕ) → (granted_on d c w ≡ true) ↔ ((ltb c class_count ≡ true) × OutIn (open_observed n rows b xs) (pool_id c) w)
  unfolding granted_on admits
  granted-observed c w =
      let cons = conserved n few (rules_of rows) xs in
      let sh = shape_of (pool_id c) in
      let sized : get d (arena size) ≡ n = heap.arena.length in (
        (λ g.
            let hc = and_right (eqb (meta_fault d) 0) _ (and_left (admits d c) _ g) in
            let g₁ = and_right (format_valid d) _ (and_right (admits d c) _ g) in
            let k = and_left (of_kind sh.kind w) _ g₁ in
            let t : granted_in n d c w ≡ true = subst (λ (m : ℕ). granted_in m d c w ≡ true) sized (and_right (of_kind sh.kind w) _ g₁) in (
              hc,
              elim ((cons.out c w).0 (sym (out_test c w hc k) ∙ and_left (out_at n d (pool_id c) sh w) _ t)) [
                | inl u ↦ out_in_lem (pool_id c) w u
                | inr s ↦ absurd (true≢false (sym (stock_test c w hc k ∙ s) ∙ not-true (stocked d c (granule_of w)) (and_right (out_at n d (pool_id c) sh w) _ t)))
              ],
            )),
        (λ p.
            let hc = p.0 in
            let k = grant-kind c w hc p.1 in
            let v = in_out (pool_id c) w p.1 in
            rw (no-fault n d (room n rows b o).some-pages few (heap_after n (rules_of rows) made) heap, hc, heap.arena.format, k, sized, out_test c w hc k ∙ (cons.out c w).1 (inl v), stock_test c w hc k ∙ cons.either c w v)),
      )

  -- a trim
  trim-answers : (c h : ℕ) → bad_host h ≡ false → ltb c class_count ≡ true → TrimAnswers d c h
  trim-answers c h ok low =
      let a = answer-is c (trim h) in
      let t = trims n few (rules_of rows) xs c h ok low in
      let asked = ask-is n (room n rows b o).some-pages few d P rep c (trim h) in
      record {
        none = ((λ e. stock-is c low ∙ t.none.0 (sym a ∙ e)), (λ e. a ∙ t.none.1 (sym (stock-is c low) ∙ e)));
        still = λ e. ap (λ s. s.book) asked ∙ trim-still n d c h ok low heap.arena.format e;
        top = λ w ws e. let v = t.top w ws (sym (stock-is c low) ∙ e) in (a ∙ v.0, leaves-call c (trim h) (pooled_release c h (w ∷ [])) ws low v.1);
      }

  -- ---- the heap's calls: on the book they are answered as on the one that the calls made leave by themselves
  abbrev e₀ : List ℕ
  e₀ = book_after n rows b made

  made-rep : Represents n e₀ (heap_after n (rules_of rows) made)
  made-rep = run-represents n rows b o made

  made-reply : (y : Call) → call e₀ y ≡ call_reply n e₀ y
  made-reply y = call-is n e₀ (room n rows b o).some-pages few (heap_after n (rules_of rows) made) made-rep y

  same_answer : (y : Call) → (call d y).answer ≡ (call e₀ y).answer
  same_answer y =
      ap (λ r. r.answer) (call-reply y) ∙ (call-whole n few (rules_of rows) made d heap y).answer
      ∙ sym (ap (λ r. r.answer) (made-reply y) ∙ (call-whole n few (rules_of rows) made e₀ made-rep y).answer)

  same-zero : (y : Call) → ((call d y).code ≡ 0) ↔ ((call e₀ y).code ≡ 0)
  same-zero y =
      let p = code-exactly d y in
      let q = code-exactly e₀ y in (
        (λ z. q.1 (ap is_refused (sym (same_answer y)) ∙ p.0 z)),
        (λ z. p.1 (ap is_refused (same_answer y) ∙ q.0 z)),
      )

  -- entries of a class of the heap, and pages held by hand, as the calls made tell them
  entry-is : (c w : ℕ) → ltb c class_count ≡ true → OutIn (observed n rows b made) c w ↔ OutIn (open_observed n rows b xs) c w
  entry-is c w hc =
      let u = (on-heap n few (rules_of rows) xs).out c w hc in (
        (λ e. out_in_lem c w (u.0 (observed-out n rows b o made c w e))),
        (λ e. out-observed n rows b o made c w (u.1 (in_out c w e))),
      )

  hand-is : (x : ℕ) → direct_after (observed n rows b made) x ≡ direct_after (open_observed n rows b xs) x
  hand-is x =
      observed-direct n rows b o made x ∙ (on-heap n few (rules_of rows) xs).hand x
      ∙ sym (ap (λ (us : List Event). direct_after us x) (observed-is n rows b o xs) ∙ bare-direct (λ y. false) vs x)

  releases : (c : ℕ) (x : Call) (h : ℕ) (ws : List ℕ) → is_pooled x ≡ false → names x ≡ some (record { class = c; request = give_back h ws })
      → ((call d x).code ≡ 0) ↔ ListOut (open_observed n rows b xs) c h ws
  releases c x h ws p e =
      let f = list-returns n rows b o made c x h ws e in
      let g = same-zero x in
      let m = list-moves (λ w. entry-is c w (names-plain x _ p e)) h ws in (
        (λ z. m.0 (f.0 (g.0 z))),
        (λ l. g.1 (f.1 (m.1 l))),
      )

  groups : (c h : ℕ) (ws gs fs : List ℕ) → c < 64 → ((call d (Calls.release_bin_chunks c h ws gs fs)).code ≡ 0) ↔ ChunksOut (open_observed n rows b xs) c h ws gs fs
  groups c h ws gs fs low =
      let f = chunks_return n rows b o made c h ws gs fs low in
      let g = same-zero (Calls.release_bin_chunks c h ws gs fs) in
      let m = chunks-moves (λ w. entry-is c w (lt-ltb c class_count (omega arith))) h ws gs fs in (
        (λ z. m.0 (f.0 (g.0 z))),
        (λ l. g.1 (f.1 (m.1 l))),
      )

  twice-moves : (c : ℕ) → ltb c class_count ≡ true → (ws : List ℕ) → Twice (observed n rows b made) c ws → Twice (open_observed n rows b xs) c ws
  twice-moves c hc ws t = record { word = t.word; out = (entry-is c t.word hc).0 t.out; times = t.times }

  not_out-here : (c : ℕ) (x : Call) (h : ℕ) (ws : List ℕ) → is_pooled x ≡ false → names x ≡ some (record { class = c; request = give_back h ws }) → h ≤ host_max
      → is_nil ws ≡ false → every (of_kind (shape_of c).kind) ws ≡ true → (Twice (open_observed n rows b xs) c ws → ⊥) → (AllOut (open_observed n rows b xs) c ws → ⊥) → (call d x).answer ≡ Calls.refused 10
  not_out-here c x h ws p e ok filled kinds nt na =
      let hc = names-plain x _ p e in
      same_answer x
      ∙ not-out n rows b o made c x h ws ok e filled kinds (λ t. nt (twice-moves c hc ws t)) (λ a. na ((all-moves (λ w. entry-is c w hc) ws).0 a))

  no-groups : (c h : ℕ) (ws gs fs : List ℕ) → c < 64 → Plain c h ws gs fs → (Twice (open_observed n rows b xs) c ws → ⊥) → (AllOut (open_observed n rows b xs) c ws → ⊥)
      → (call d (Calls.release_bin_chunks c h ws gs fs)).answer ≡ Calls.refused 10
  no-groups c h ws gs fs low plain nt na =
      let hc = lt-ltb c class_count (omega arith) in
      same_answer (Calls.release_bin_chunks c h ws gs fs)
      ∙ chunks-not_out n rows b o made c h ws gs fs low plain (λ t. nt (twice-moves c hc ws t)) (λ a. na ((all-moves (λ w. entry-is c w hc) ws).0 a))

  hand : (h q m : ℕ) → h ≤ host_max → bad_run m ≡ false → ((call d (Calls.release h q m)).code ≡ 0) ↔ ((k : ℕ) → k < m → direct_after (open_observed n rows b xs) (q + k) ≡ true)
  hand h q m ok r =
      let f = held-releases n rows b o made h q m ok r in
      let g = same-zero (Calls.release h q m) in (
        (λ z k l. sym (hand-is (q + k)) ∙ f.0 (g.0 z) k l),
        (λ a. g.1 (f.1 (λ k l. hand-is (q + k) ∙ a k l))),
      )

  growth : (h q old new : ℕ) → h ≤ host_max → bad_run old ≡ false → bad_run new ≡ false → old < new
      → ((call d (Calls.grow_frontier h q old new)).code ≡ 0) ↔ ((k : ℕ) → k < old → direct_after (open_observed n rows b xs) (q + k) ≡ true)
  growth h q old new ok r₁ r₂ more =
      let f = held-grows n rows b o made h q old new ok r₁ r₂ more in
      let g = same-zero (Calls.grow_frontier h q old new) in (
        (λ z k l. sym (hand-is (q + k)) ∙ f.0 (g.0 z) k l),
        (λ a. g.1 (f.1 (λ k l. hand-is (q + k) ∙ a k l))),
      )

  -- ---- which class has a page
  abbrev H₁ : Heap
  H₁ = heap_after n (rules_of rows) made

  fit : meta_fault d ≡ 0
  fit = no-fault n d (room n rows b o).some-pages few H₁ heap

  frontier-is : get d (arena frontier) ≡ H₁.arena.frontier
  unfolding load_arena
  frontier-is = ap (λ (a : Arena). a.frontier) heap.arena.loads

  head-valid : head_valid n d ≡ true
  unfolding head_valid
  head-valid = rw (heap.arena.format, frontier-is, le-leb H₁.arena.frontier n (frontier-low n (rules_of rows) made))

  class-owned : (c w : ℕ) → c < class_rows → page_at w < H₁.arena.frontier → H₁.holder (page_at w) ≡ class c → class_on d w ≡ number_of c
  unfolding class_on owner_at
  class-owned c w low up e =
      let own : get d (page owner (page_at w)) ≡ suc c = heap.arena.owners (page_at w) up ∙ ap owner_code e in
      rw (fit, heap.arena.length, head-valid, frontier-is, lt-ltb (page_at w) H₁.arena.frontier up, own, le-leb 1 (suc c) (omega arith), le-leb (suc c) class_rows (omega arith))
      (owner-number c (number_of c) refl)

  class-told : (c q w : ℕ) → c < class_rows → HasRun c q (events n (rules_of rows) made) → in_run (shape_of c).pages q (page_at w) ≡ true → class_on d w ≡ number_of c
  class-told c q w low r i =
      let e = run-holder n (rules_of rows) made c q (page_at w) r i in
      class-owned c w low (held_below n (rules_of rows) made c (page_at w) e) e

  not-owned : (w : ℕ) → (who : Holder) → page_at w < H₁.arena.frontier → H₁.holder (page_at w) ≡ who → ((c : ℕ) → who ≡ class c → ⊥) → class_on d w ≡ class_count
  unfolding class_on owner_at
  not-owned w nobody up e ne =
      let own : get d (page owner (page_at w)) ≡ 0 = heap.arena.owners (page_at w) up ∙ ap owner_code e in
      rw (fit, heap.arena.length, head-valid, frontier-is, lt-ltb (page_at w) H₁.arena.frontier up, own)
  not-owned w direct up e ne =
      let own : get d (page owner (page_at w)) ≡ 153 = heap.arena.owners (page_at w) up ∙ ap owner_code e in
      rw (fit, heap.arena.length, head-valid, frontier-is, lt-ltb (page_at w) H₁.arena.frontier up, own)
  not-owned w (class c) up e ne = absurd (ne c refl)

  above-none : (w : ℕ) → ltb (page_at w) H₁.arena.frontier ≡ false → class_on d w ≡ class_count
  unfolding class_on owner_at
  above-none w t = rw (fit, heap.arena.length, head-valid, frontier-is, t)

  class-none : (w : ℕ) → ((c q : ℕ) → c < class_rows → HasRun c q (events n (rules_of rows) made) → in_run (shape_of c).pages q (page_at w) ≡ true → ⊥) → class_on d w ≡ class_count
  class-none w ne =
      by_cases (ltb (page_at w) H₁.arena.frontier)
      (λ t. not-owned w (H₁.holder (page_at w)) (ltb-true (page_at w) H₁.arena.frontier t) refl
      (λ c e. let r = holder-run n (rules_of rows) made c (page_at w) e in ne c r.0 (holder-low n (rules_of rows) made c (page_at w) e) r.1 r.2))
      (above-none w)

  -- ---- all together
  at-opening : MixedAt n (rules_of rows) d (open_observed n rows b xs) made
  at-opening =
      let cons = conserved n few (rules_of rows) xs in
      let apart = pool-disjoint n few (rules_of rows) xs in
      record {
        disjoint = rw (observed-is n rows b o xs) (bare-disjoint vs apart.disjoint);
        apart = rw (observed-is n rows b o xs) (bare-iso n vs apart.iso);
        releases = releases;
        groups = groups;
        not_out = not_out-here;
        not_out_groups = no-groups;
        hand = hand;
        growth = growth;
        host = λ c x e. answer-is c x ∙ (unchanged n few (rules_of rows) xs c x).host e;
        unknown = λ c x ok e. answer-is c x ∙ (unchanged n few (rules_of rows) xs c x).class ok e;
        allocs = alloc-answers;
        frees = free-answers;
        trims = trim-answers;
        numbers = λ c x k e. (unchanged n few (rules_of rows) xs c x).low k (sym (answer-is c x) ∙ e);
        valid = λ y e. (call-whole n few (rules_of rows) made d heap y).valid (ap (λ r. r.code) (sym (call-reply y)) ∙ e);
        arena = heap.arena.loads;
        made-done = (on-heap n few (rules_of rows) xs).done;
        entries = λ c w hc. let u = (on-heap n few (rules_of rows) xs).out c w hc in ((λ e. out_in_lem c w (u.0 e)), (λ e. u.1 (in_out c w e)));
        out = λ c w hc.
            let u = (outs n (rules_of rows) made).out (pool_id c) w in
            let sh = shape_of (pool_id c) in
            let same : out_here sh (P.heap.classes (pool_id c)) w ≡ out_here sh ((heap_after n (rules_of rows) made).classes (pool_id c)) w = ap (λ (G : Heap). out_here sh (G.classes (pool_id c)) w) pool-heap in (
              (λ e. elim ((cons.out c w).0 (same ∙ u.1 e)) [ inl v ↦ inl (out_in_lem (pool_id c) w v) | inr s ↦ inr (ap (elem w) (stock-is c hc) ∙ s) ]),
              (λ e. u.0 (sym same ∙ (cons.out c w).1 (elim e [ inl v ↦ inl (in_out (pool_id c) w v) | inr s ↦ inr (sym (ap (elem w) (stock-is c hc)) ∙ s) ]))),
            );
        either = λ c w hc u. ap (elem w) (stock-is c hc) ∙ cons.either c w (in_out (pool_id c) w u);
        once = λ c hc. ap distinct (stock-is c hc) ∙ cons.once c;
        granted = granted-observed;
        stocked = stocked_is_length;
        stocked_out = λ c hc ws once told. stocked_is_length c hc ∙ members_length (stock_in d c) ws (ap distinct (stock-is c hc) ∙ cons.once c) once (λ w.
            let u = (outs n (rules_of rows) made).out (pool_id c) w in
            let sh = shape_of (pool_id c) in
            let same : out_here sh (P.heap.classes (pool_id c)) w ≡ out_here sh ((heap_after n (rules_of rows) made).classes (pool_id c)) w = ap (λ (G : Heap). out_here sh (G.classes (pool_id c)) w) pool-heap in
            let at = ap (elem w) (stock-is c hc) in (
              (λ m. (told w).1 (u.0 (sym same ∙ (cons.out c w).1 (inr (sym at ∙ m))), (λ v. true≢false (sym m ∙ at ∙ cons.either c w (in_out (pool_id c) w v))))),
              (λ m. let t = (told w).0 m in elim ((cons.out c w).0 (same ∙ u.1 t.0)) [ inl v ↦ absurd (t.1 (out_in_lem (pool_id c) w v)) | inr e ↦ at ∙ e ]),
            ));
        few = λ c hc. few-rep n d c (P.stock c) (rep.stocks c hc);
        class = class-told;
        classless = class-none;
      }

  trims-empty : (c h k : ℕ) → bad_host h ≡ false → ltb c class_count ≡ true → length (stock_in d c) ≤ k → stock_in (open_book n rows b (xs ++ replicate k (to c (trim h)))) c ≡ []
  trims-empty c h k ok low e =
      let ys = xs ++ replicate k (to c (trim h)) in
      ((pool-rep n rows b o ys).stocks c low).same ∙ (conserved n few (rules_of rows) xs).trims c h k ok low (rw (stock-is c low) at e)

  part-is : (ys : List Call) → answers_in (replies_from call d ys) ≡ answers_in (replies_from call e₀ ys)
  part-is ys = answers-same n (room n rows b o).some-pages few (rules_of rows) ys made d e₀ heap made-rep

-- ---- each class alone
recorded-answers : (c : ℕ) (xs : List PoolCall) (zs : List PoolAnswer) (es : List PoolEvent) → map (λ v. v.call) es ≡ xs → zs ≡ map (λ v. v.answer) es → pool_answers_of c (recorded xs zs) ≡ pool_answers_of c es
recorded-answers c [] zs [] e f = refl
recorded-answers c [] zs (v ∷ es) e f = cc
recorded-answers c (x ∷ xs) zs [] e f = cc
recorded-answers c (x ∷ xs) [] (v ∷ es) e f = cc
recorded-answers c (x ∷ xs) (a ∷ zs) (v ∷ es) e f =
    let h : v.call ≡ x = head-eq_of_cons-eq e in
    let g : a ≡ v.answer = head-eq_of_cons-eq f in
    let ih = recorded-answers c xs zs es (tail-eq_of_cons-eq e) (tail-eq_of_cons-eq f) in
    rw h (by_cases (is_of c x) (λ t. rw (t, g) (ap (λ (l : List PoolAnswer). v.answer ∷ l) ih)) (λ t. rw t ih))

events-calls : (n : ℕ) (P : Pool) (xs : List PoolCall) → map (λ v. v.call) (pool_events_from n P xs) ≡ xs
events-calls n P [] = refl
events-calls n P (x ∷ xs) = ap (λ (l : List PoolCall). x ∷ l) (events-calls n (pool_step n P x).pool xs)

answers_of : (n : ℕ) (rows b : List ℕ) → Opens n rows b → (c : ℕ) (xs : List PoolCall) → pool_answers_of c (open_recorded n rows b xs) ≡ pool_answers_of c (pool_events n (rules_of rows) xs)
answers_of n rows b o c xs = recorded-answers c xs (open_run n rows b xs) (pool_events n (rules_of rows) xs) (events-calls n (new_pool (rules_of rows)) xs) (run_is n rows b o xs)

-- ---- from a trace: what it did are calls of the heap, none of them the pool's
heap-reply : (b : List ℕ) (y : Call) → is_pooled y ≡ false → pool_call b (PoolCalls.heap y) ≡ pool_reply (PoolCalls.answered (call b y).answer) (call b y).book
unfolding pool_call
heap-reply b y p = rw p

heap-book : (b : List ℕ) (ys : List Call) → All (λ y. is_pooled y ≡ false) ys → book_from pool_call b (map PoolCalls.heap ys) ≡ Heaps.book_from call b ys
heap-book b [] p = refl
heap-book b (y ∷ ys) p = ap (λ (r : PoolReply). book_from pool_call r.book (map PoolCalls.heap ys)) (heap-reply b y p.0) ∙ heap-book (call b y).book ys p.1

heap-answers : (b : List ℕ) (ys : List Call) → All (λ y. is_pooled y ≡ false) ys
    → pool_answers_from pool_call b (map PoolCalls.heap ys) ≡ map (λ (r : Reply). PoolCalls.answered r.answer) (replies_from call b ys)
heap-answers b [] p = refl
heap-answers b (y ∷ ys) p =
    ap (λ (r : PoolReply). r.answer ∷ pool_answers_from pool_call r.book (map PoolCalls.heap ys)) (heap-reply b y p.0)
    ∙ ap (λ (zs : List PoolAnswer). PoolCalls.answered (call b y).answer ∷ zs) (heap-answers (call b y).book ys p.1)

book-append : (b : List ℕ) (xs ys : List PoolCall) → book_from pool_call b (xs ++ ys) ≡ book_from pool_call (book_from pool_call b xs) ys
book-append b [] ys = refl
book-append b (x ∷ xs) ys = book-append (pool_call b x).book xs ys

answers-append : (b : List ℕ) (xs ys : List PoolCall) → pool_answers_from pool_call b (xs ++ ys) ≡ pool_answers_from pool_call b xs ++ pool_answers_from pool_call (book_from pool_call b xs) ys
answers-append b [] ys = refl
answers-append b (x ∷ xs) ys = ap (λ (zs : List PoolAnswer). (pool_call b x).answer ∷ zs) (answers-append (pool_call b x).book xs ys)

module _ (s : Start) (o : Starts s) where
  abbrev opens : List ℕ
  opens = (open_on (lent s) (pages s) (rule_rows s)).book

  did-book : book_from pool_call opens (map PoolCalls.heap (did s)) ≡ begun s
  did-book = heap-book opens (did s) (did-plain s) ∙ sym (begun-is s o)

  pub mixed-book : (xs : List PoolCall) → mixed_book s xs ≡ open_book (pages s) (rule_rows s) (lent s) (mixed_calls s xs)
  mixed-book xs = sym (book-append opens (map PoolCalls.heap (did s)) xs ∙ ap (λ (e : List ℕ). book_from pool_call e xs) did-book)

  pub mixed-answers : (xs : List PoolCall) → mixed_answers s xs ≡ open_run (pages s) (rule_rows s) (lent s) (mixed_calls s xs)
  mixed-answers xs =
      sym (answers-append opens (map PoolCalls.heap (did s)) xs
      ∙ ap₂ (λ (zs us : List PoolAnswer). zs ++ us) (heap-answers opens (did s) (did-plain s)) (ap (λ (e : List ℕ). pool_answers_from pool_call e xs) did-book))

  after : (xs : List PoolCall) → MixedAt (pages s) (rules s) (mixed_book s xs) (mixed_observed s xs) (Statement.made s xs)
  after xs =
      subst (λ (e : List ℕ). MixedAt (pages s) (rules s) e (mixed_observed s xs) (Statement.made s xs)) (sym (mixed-book xs))
      (subst (λ (zs : List PoolAnswer). MixedAt (pages s) (rules s) (open_book (pages s) (rule_rows s) (lent s) (mixed_calls s xs)) (observed_of (recorded (mixed_calls s xs) zs)) (Statement.made s xs)) (sym (mixed-answers xs))
      (at-opening (pages s) (rule_rows s) (lent s) o (mixed_calls s xs)))

  answers-here : (c : ℕ) (xs : List PoolCall) → pool_answers_of c (mixed_recorded s xs) ≡ pool_answers_of c (pool_events (pages s) (rules s) (mixed_calls s xs))
  answers-here c xs = ap (λ (zs : List PoolAnswer). pool_answers_of c (recorded (mixed_calls s xs) zs)) (mixed-answers xs) ∙ answers_of (pages s) (rule_rows s) (lent s) o c (mixed_calls s xs)

  emptied : (xs : List PoolCall) (c h k : ℕ) → bad_host h ≡ false → ltb c class_count ≡ true → length (stock_in (mixed_book s xs) c) ≤ k → stock_in (mixed_book s (xs ++ replicate k (to c (trim h)))) c ≡ []
  emptied xs c h k ok low e =
      let ts = replicate k (to c (trim h)) in
      ap (λ (d : List ℕ). stock_in d c) (mixed-book (xs ++ ts) ∙ ap (open_book (pages s) (rule_rows s) (lent s)) (sym (append_assoc (map PoolCalls.heap (did s)) xs ts)))
      ∙ trims-empty (pages s) (rule_rows s) (lent s) o (mixed_calls s xs) c h k ok low (rw (mixed-book xs) at e)

pub mixed_demand : MixedDemand
mixed_demand = record {
  after = after;
  answers = λ s o xs. mixed-answers s o xs ∙ run_is (pages s) (rule_rows s) (lent s) o (mixed_calls s xs);
  alone = λ s₁ s₂ o₁ o₂ c lim xs ys e.
      rw (answers-here s₁ o₁ c xs, answers-here s₂ o₂ c ys) ((pool-alone (pages s₁) (pages s₂) (rules s₁) (rules s₂) c (mixed_calls s₁ xs) (mixed_calls s₂ ys)).alone lim e);
  emptied = emptied;
  heap_part = λ s o xs ys. rw (mixed-book s o xs) (part-is (pages s) (rule_rows s) (lent s) o (mixed_calls s xs) ys);
}
