-- A class's answers and the runs that it was given determine each other. A class of the pool by itself is its requests and what it is given; one of the heap is
-- what the heap's calls show of it (HeapAlone).
use Rattle.facts.proofs.Prelude.{ℕ, zero, suc, ◌+◌, ◌-◌, ◌≤◌, min, arith, Bool, true, false, cond, true≢false, List, [], ◌∷◌, map, reverse, reverse_aux, head-eq_of_cons-eq, tail-eq_of_cons-eq}
use Rattle.facts.proofs.Prelude.{Option, none, some, ◌≡◌, refl, sym, ap, ◌∙◌, subst, ap₂, eqb, ltb, length, take, length-map, length-reverse}
use Rattle.facts.proofs.Prelude.{eqb-true, eqb-false, eq-eqb, ne_eqb, le-ltb, ltb-false, below, every, by_cases}
use Rattle.words.specs.Host.{bad_host}
use Rattle.classes.specs.declared.Shape.{Shape}
use Rattle.classes.specs.Shape.{shape_of, class_count, pool_id}
use Rattle.classes.specs.way.Sound.{Sound}
use Rattle.classes.proofs.Shapes.{shape-sound}
use Rattle.rules.specs.declared.Limits.{Limits}
use Rattle.rules.specs.Rules.{Rules}
use Rattle.model.specs.Calls as Calls
use Rattle.model.specs.Calls.{Call, Request, named, names, way_of, pooled_take, pooled_release, is_pooled, blocks_of}
use Rattle.model.specs.Page.{Page, is_medium, is_out, word_of, words_from}
use Rattle.model.specs.Class.{Class, new_class, Cold, Result, Ask, done, serve, take_from, on_run}
use Rattle.model.specs.Release.{Site, on_page, release_list}
use Rattle.model.specs.Chunks.{answer}
use Rattle.model.specs.Heap.{Heap, step, new_heap, run_with}
use Rattle.model.specs.History as History
use Rattle.model.proofs.Ways.{goes}
use Rattle.model.proofs.Update.{update_same, update_other}
use Rattle.model.proofs.NewRun.{new_blocks, blocks-come, run-blocks}
use Rattle.model.proofs.Alone.{Fits, ask, own, other, step-rules, runs-first}
use Rattle.pool.specs.Stock.{blank}
use Rattle.pool.specs.Pool as Pools
use Rattle.pool.specs.Pool.{Pool, new_pool, PoolCall, Plan, PoolRequest, PoolAnswer, Done, to, heap, alloc, turn, stays, pool_step, carry, pass, plan, bring, ends, no_block, refused, answered}
use Rattle.pool.specs.Observed.{PoolEvent, event_of, pool_events_from, pool_events, is_of, pool_calls_of, pool_answers_of, pool_runs_of}
use Rattle.pool.specs.way.Claims.{PoolAlone}
use Rattle.pool.proofs.Lives.{off-pool}
use Rattle.pool.proofs.Plans.{Planned, is_turned, is-popped, is-taken, is-put, is-given, is-bare, is-trimmed, planned}
use Rattle.pool.proofs.HeapCalls.{take_done}
use Rattle.pool.proofs.HeapAlone.{heap-alone}

-- ---- one block of a new run tells which run it is
map_reverse_aux : (f : ℕ → ℕ) (s t : List ℕ) → map f (reverse_aux s t) ≡ reverse_aux (map f s) (map f t)
map_reverse_aux f [] t = refl
map_reverse_aux f (x ∷ s) t = map_reverse_aux f s (x ∷ t)

map-take : (f : ℕ → ℕ) (n : ℕ) (s : List ℕ) → take n (map f s) ≡ map f (take n s)
map-take f zero s = refl
map-take f (suc n) [] = refl
map-take f (suc n) (x ∷ s) = ap (λ z. f x ∷ z) (map-take f n s)

module _ (sh : Shape) (ok : Sound sh) where
  words-map : (q k : ℕ) → words_from sh q 0 k ≡ map (λ i. word_of sh q (0 + i)) (below k)
  words-map q zero = refl
  words-map q (suc k) = ap (λ z. word_of sh q (0 + k) ∷ z) (words-map q k)

  -- the indices of the blocks, whichever run it is
  abbrev indices : Bool → List ℕ
  indices true = reverse (take sh.batch (below sh.capacity))
  indices false = below (min sh.batch sh.capacity)

  blocks-map : (b : Bool) (q : ℕ) → new_blocks sh ok b q ≡ map (λ i. word_of sh q (0 + i)) (indices b)
  blocks-map true q =
      ap (λ z. reverse (take sh.batch z)) (words-map q sh.capacity)
      ∙ ap reverse (map-take (λ i. word_of sh q (0 + i)) sh.batch (below sh.capacity))
      ∙ sym (map_reverse_aux (λ i. word_of sh q (0 + i)) (take sh.batch (below sh.capacity)) [])
  blocks-map false q = words-map q (min sh.batch sh.capacity)

  stock-map : (b : Bool) (q : ℕ) → reverse (new_blocks sh ok b q) ≡ map (λ i. word_of sh q (0 + i)) (reverse (indices b))
  stock-map b q = ap reverse (blocks-map b q) ∙ sym (map_reverse_aux (λ i. word_of sh q (0 + i)) (indices b) [])

  some_block : (b : Bool) → 1 ≤ length (reverse (indices b))
  some_block b = omega (arith, blocks-come sh ok b 0, length-reverse (new_blocks sh ok b 0), ap length (stock-map b 0), length-map (reverse (indices b)) (λ i. word_of sh 0 (0 + i)))

  first-tells : (is : List ℕ) (q q' : ℕ) → 1 ≤ length is → (bring (map (λ i. word_of sh q (0 + i)) is)).answer ≡ (bring (map (λ i. word_of sh q' (0 + i)) is)).answer → q ≡ q'
  unfolding word_of
  first-tells [] q q' h e = absurd (omega arith)
  first-tells (i ∷ is) q q' h e = let d : word_of sh q (0 + i) ≡ word_of sh q' (0 + i) = cc in omega arith

  first-comes : (is : List ℕ) (q : ℕ) → 1 ≤ length is → no_block ≡ (bring (map (λ i. word_of sh q (0 + i)) is)).answer → ⊥
  first-comes [] q h e = omega arith
  first-comes (i ∷ is) q h e = let z : ◌≡◌ {A = ℕ} 0 1 = cc in omega arith

  module _ (fs : List Page) where
    abbrev observed : Option ℕ → PoolAnswer
    observed g = (bring (reverse (blocks_of (on_run sh blank fs g).answer))).answer

    observed-some : (q : ℕ) → observed (some q) ≡ (bring (map (λ i. word_of sh q (0 + i)) (reverse (indices (is_medium sh))))).answer
    observed-some q = ap (λ z. (bring z).answer) (ap reverse (run-blocks sh ok blank fs q) ∙ stock-map (is_medium sh) q)

    observed-none : observed none ≡ no_block
    unfolding on_run
    observed-none = refl

    run-observed : (g g' : Option ℕ) → observed g ≡ observed g' → g ≡ g'
    run-observed none none e = refl
    run-observed none (some q) e = absurd (first-comes (reverse (indices (is_medium sh))) q (some_block (is_medium sh)) (sym observed-none ∙ e ∙ observed-some q))
    run-observed (some q) none e = absurd (first-comes (reverse (indices (is_medium sh))) q (some_block (is_medium sh)) (sym observed-none ∙ sym e ∙ observed-some q))
    run-observed (some q) (some q') e = ap some (first-tells (reverse (indices (is_medium sh))) q q' (some_block (is_medium sh)) (sym (observed-some q) ∙ e ∙ observed-some q'))

-- ---- a release asks the arena for nothing
record Home (q : Ask) : Type 0 where
  none-given : (g : Option ℕ) → Fits q g → g ≡ none

home-done : (r : Result) → Home (done r)
home-done r = record { none-given = λ g f. f }

home-cond : (b : Bool) (x y : Ask) → Home x → Home y → Home (cond b x y)
home-cond true x y p q = p
home-cond false x y p q = q

module _ (sh : Shape) (ok : Sound sh) (lim : Limits) (s : Class) (h : ℕ) where
  home-page : (ws : List ℕ) (x : Option Site) → Home (on_page sh lim h s ws x)
  unfolding on_page
  home-page ws none = home-done _
  home-page ws (some x) = home-cond (every (λ w. is_out sh w x.page) ws) _ _ (home-done _) (home-done _)

  give-home : (ws : List ℕ) → Home (answer sh lim s (Calls.give_back h ws))
  unfolding answer release_list
  give-home ws = search (home-cond, home-done, home-page) depth 9

  take-ask : answer sh lim s (Calls.take h blank) ≡ take_from sh blank s.partial s.empty s.cold s.full
  unfolding answer
  take-ask = rw (le-ltb 64 sh.batch ok.limited)

  abbrev bringing : Ask → Option ℕ → PoolAnswer
  bringing q g = (bring (reverse (blocks_of (serve q g).answer))).answer

  from-tells : (ps es : List Page) (cs : List Cold) (fs : List Page) (g g' : Option ℕ) → Fits (take_from sh blank ps es cs fs) g → Fits (take_from sh blank ps es cs fs) g'
      → bringing (take_from sh blank ps es cs fs) g ≡ bringing (take_from sh blank ps es cs fs) g' → g ≡ g'
  unfolding take_from
  from-tells (p ∷ ps) es cs fs g g' f f' e = f ∙ sym f'
  from-tells [] (p ∷ es) cs fs g g' f f' e = f ∙ sym f'
  from-tells [] [] (p ∷ cs) fs g g' f f' e = f ∙ sym f'
  from-tells [] [] [] fs g g' f f' e = run-observed sh ok fs g g' e

-- ---- a class of the pool by itself: c is its number
record Left : Type 0 where
  class : Class
  stock : List ℕ
  answer : PoolAnswer

module _ (lim : Limits) (c : ℕ) (s : Class) (st : List ℕ) where
  abbrev asked : Call → Ask
  asked y = ask lim (pool_id c) s (way_of y)

  abbrev left_by : PoolRequest → Plan → Option ℕ → Left
  left_by x (turn n) g = record { class = s; stock = st; answer = refused n }
  left_by x (stays r st') g = record { class = s; stock = st'; answer = r }
  left_by x (Pools.goes y new) g =
      record { class = (serve (asked y) g).class; stock = (ends x st new (serve (asked y) g).answer).stock; answer = (ends x st new (serve (asked y) g).answer).answer }

  abbrev FitsPlan : Plan → Option ℕ → Type 0
  FitsPlan (turn n) g = g ≡ none
  FitsPlan (stays r st') g = g ≡ none
  FitsPlan (Pools.goes y new) g = Fits (asked y) g

  -- a request, or a call of the heap that names the class: it is turned away
  abbrev left : PoolCall → Option ℕ → Left
  left (to b x) g = left_by x (plan c s st x) g
  left (heap x) g = record { class = s; stock = st; answer = answered (Calls.refused 4) }

  abbrev FitsCall : PoolCall → Option ℕ → Type 0
  FitsCall (to b x) g = FitsPlan (plan c s st x) g
  FitsCall (heap x) g = g ≡ none

  module _ (h : ℕ) (ok : bad_host h ≡ false) (low : ltb c class_count ≡ true) where
    asked-take : asked (pooled_take c h blank) ≡ answer (shape_of (pool_id c)) lim s (Calls.take h blank)
    unfolding way_of
    asked-take = rw (ok, low)

    asked-give : (ws : List ℕ) → asked (pooled_release c h ws) ≡ answer (shape_of (pool_id c)) lim s (Calls.give_back h ws)
    unfolding way_of
    asked-give ws = rw (ok, low)

    take-tells : (g g' : Option ℕ) → FitsPlan (Pools.goes (pooled_take c h blank) []) g → FitsPlan (Pools.goes (pooled_take c h blank) []) g'
        → (left_by (alloc h) (Pools.goes (pooled_take c h blank) []) g).answer ≡ (left_by (alloc h) (Pools.goes (pooled_take c h blank) []) g').answer → g ≡ g'
    unfolding ends
    take-tells g g' f f' e =
        let sh = shape_of (pool_id c) in
        let sound = shape-sound (pool_id c) in
        let q = answer sh lim s (Calls.take h blank) in
        let b : bringing sh sound lim s h q g ≡ bringing sh sound lim s h q g' = rw (asked-take, take_done sh sound lim g s h, take_done sh sound lim g' s h) at e in
        let a = take-ask sh sound lim s h in
        from-tells sh sound lim s h s.partial s.empty s.cold s.full g g' (rw (asked-take, a) at f) (rw (asked-take, a) at f') (rw a at b)

    give-tells : (ws new : List ℕ) (g g' : Option ℕ) → FitsPlan (Pools.goes (pooled_release c h ws) new) g → FitsPlan (Pools.goes (pooled_release c h ws) new) g' → g ≡ g'
    give-tells ws new g g' f f' =
        let t = give-home (shape_of (pool_id c)) (shape-sound (pool_id c)) lim s h ws in
        t.none-given g (rw (asked-give ws) at f) ∙ sym (t.none-given g' (rw (asked-give ws) at f'))

  plan-tells : {x : PoolRequest} {p : Plan} → Planned c s st x p → (g g' : Option ℕ) → FitsPlan p g → FitsPlan p g' → (left_by x p g).answer ≡ (left_by x p g').answer → g ≡ g'
  plan-tells (is_turned n) g g' f f' e = f ∙ sym f'
  plan-tells (is-popped low y) g g' f f' e = f ∙ sym f'
  plan-tells (is-taken {h = h} ok low y) g g' f f' e = take-tells h ok low g g' f f' e
  plan-tells (is-put low y) g g' f f' e = f ∙ sym f'
  plan-tells (is-given {h = h} {w = w} ok low kd y) g g' f f' e = give-tells h ok low (w ∷ []) st g g' f f'
  plan-tells (is-bare y) g g' f f' e = f ∙ sym f'
  plan-tells (is-trimmed {h = h} {w = w} {ws = ws} ok low y) g g' f f' e = give-tells h ok low (w ∷ []) ws g g' f f'

  left-tells : (x : PoolCall) (g g' : Option ℕ) → FitsCall x g → FitsCall x g' → (left x g).answer ≡ (left x g').answer → g ≡ g'
  left-tells (to b x) g g' f f' e = plan-tells (planned c s st x) g g' f f' e
  left-tells (heap x) g g' f f' e = f ∙ sym f'

-- its calls in turn
abbrev replay : Limits → ℕ → Class → List ℕ → List PoolCall → List (Option ℕ) → List PoolAnswer
replay lim c s st [] gs = []
replay lim c s st (x ∷ xs) [] = []
replay lim c s st (x ∷ xs) (g ∷ gs) = (left lim c s st x g).answer ∷ replay lim c (left lim c s st x g).class (left lim c s st x g).stock xs gs

abbrev AllFit : Limits → ℕ → Class → List ℕ → List PoolCall → List (Option ℕ) → Type 0
AllFit lim c s st [] gs = gs ≡ []
AllFit lim c s st (x ∷ xs) [] = ⊥
AllFit lim c s st (x ∷ xs) (g ∷ gs) = FitsCall lim c s st x g × AllFit lim c (left lim c s st x g).class (left lim c s st x g).stock xs gs

replay-tells : (lim : Limits) (c : ℕ) (s : Class) (st : List ℕ) (xs : List PoolCall) (gs gs' : List (Option ℕ))
    → AllFit lim c s st xs gs → AllFit lim c s st xs gs' → replay lim c s st xs gs ≡ replay lim c s st xs gs' → gs ≡ gs'
replay-tells lim c s st [] gs gs' f f' e = f ∙ sym f'
replay-tells lim c s st (x ∷ xs) [] gs' f f' e = absurd f
replay-tells lim c s st (x ∷ xs) (g ∷ gs) [] f f' e = absurd f'
replay-tells lim c s st (x ∷ xs) (g ∷ gs) (g' ∷ gs') f f' e =
    let same : g ≡ g' = left-tells lim c s st x g g' f.0 f'.0 (head-eq_of_cons-eq e) in
    let l = left lim c s st x in
    let rest = subst (λ z. AllFit lim c (l z).class (l z).stock xs gs' → replay lim c (l g).class (l g).stock xs gs ≡ replay lim c (l z).class (l z).stock xs gs' → gs ≡ gs')
    same (replay-tells lim c (l g).class (l g).stock xs gs gs' f.1) in
    ap₂ ◌∷◌ same (rest f'.1 (tail-eq_of_cons-eq e))

-- ---- a history shows each class nothing else
record Mine (c : ℕ) (d : Done) (l : Option ℕ → Left) (F : Option ℕ → Type 0) : Type 0 where
  gift : Option ℕ
  run : d.run ≡ run_with (shape_of (pool_id c)).pages gift
  class : d.pool.heap.classes (pool_id c) ≡ (l gift).class
  stock : d.pool.stock c ≡ (l gift).stock
  answer : d.answer ≡ (l gift).answer
  fits : F gift

module _ (size : ℕ) (P : Pool) (c : ℕ) where
  abbrev H : Heap
  H = P.heap

  abbrev lim : Limits
  lim = H.rules (pool_id c)

  abbrev s : Class
  s = H.classes (pool_id c)

  abbrev st : List ℕ
  st = P.stock c

  home : (x : PoolRequest) (r : PoolAnswer) (st' : List ℕ) → Mine c (carry size P c x (stays r st')) (left_by lim c s st x (stays r st')) (FitsPlan lim c s st (stays r st'))
  unfolding carry
  home x r st' = record { gift = none; run = refl; class = refl; stock = update_same P.stock c st'; answer = refl; fits = refl }

  away : (x : PoolRequest) (y : Call) (new : List ℕ) → History.is_of (pool_id c) (names y) ≡ true
      → Mine c (carry size P c x (Pools.goes y new)) (left_by lim c s st x (Pools.goes y new)) (FitsPlan lim c s st (Pools.goes y new))
  unfolding carry step
  away x y new e =
      let o = own size H (pool_id c) y (goes y) e in
      record {
        gift = o.gift;
        run = o.run;
        class = o.class;
        stock = update_same P.stock c _ ∙ ap (λ a. (ends x st new a).stock) o.answer;
        answer = ap (λ a. (ends x st new a).answer) o.answer;
        fits = o.fits;
      }

  own_id : (q : Request) → ltb c class_count ≡ true → History.is_of (pool_id c) (named (ltb c class_count) (pool_id c) q) ≡ true
  own_id q low = rw (low, eq-eqb (pool_id c) (pool_id c) refl)

  mine : {x : PoolRequest} {p : Plan} → Planned c s st x p → Mine c (carry size P c x p) (left_by lim c s st x p) (FitsPlan lim c s st p)
  unfolding carry
  mine (is_turned n) = record { gift = none; run = refl; class = refl; stock = refl; answer = refl; fits = refl }
  mine {x} (is-popped low y) = home x _ _
  mine {x} (is-taken {h = h} ok low y) = away x (pooled_take c h blank) [] (own_id _ low)
  mine {x} (is-put low y) = home x _ _
  mine {x} (is-given {h = h} {w = w} ok low kd y) = away x (pooled_release c h (w ∷ [])) st (own_id _ low)
  mine {x} (is-bare y) = home x _ _
  mine {x} (is-trimmed {h = h} {w = w} {ws = ws} ok low y) = away x (pooled_release c h (w ∷ [])) ws (own_id _ low)

  -- another class's request, or a call of the heap
  record Keeps (d : Done) : Type 0 where
    class : d.pool.heap.classes (pool_id c) ≡ s
    stock : d.pool.stock c ≡ st

  module _ (b : ℕ) (n : eqb (pool_id b) (pool_id c) ≡ false) where
    other_id : (q : Request) (t : Bool) → History.is_of (pool_id c) (named t (pool_id b) q) ≡ false
    other_id q true = n
    other_id q false = refl

    other-number : eqb b c ≡ false
    other-number = ne_eqb b c (λ e. eqb-false (pool_id b) (pool_id c) n (ap pool_id e))

    far : (x : PoolRequest) (y : Call) (new : List ℕ) → History.is_of (pool_id c) (names y) ≡ false → Keeps (carry size P b x (Pools.goes y new))
    unfolding carry step
    far x y new e = record { class = other size H (pool_id c) y (goes y) e; stock = update_other P.stock b c _ other-number }

    near : (x : PoolRequest) (r : PoolAnswer) (st' : List ℕ) → Keeps (carry size P b x (stays r st'))
    unfolding carry
    near x r st' = record { class = refl; stock = update_other P.stock b c _ other-number }

    theirs : {x : PoolRequest} {p : Plan} → Planned b (H.classes (pool_id b)) (P.stock b) x p → Keeps (carry size P b x p)
    unfolding carry
    theirs (is_turned m) = record { class = refl; stock = refl }
    theirs {x} (is-popped low y) = near x _ _
    theirs {x} (is-taken {h = h} ok low y) = far x (pooled_take b h blank) [] (other_id _ (ltb b class_count))
    theirs {x} (is-put low y) = near x _ _
    theirs {x} (is-given {h = h} {w = w} ok low kd y) = far x (pooled_release b h (w ∷ [])) (P.stock b) (other_id _ (ltb b class_count))
    theirs {x} (is-bare y) = near x _ _
    theirs {x} (is-trimmed {h = h} {w = w} {ws = ws} ok low y) = far x (pooled_release b h (w ∷ [])) ws (other_id _ (ltb b class_count))

  heap-keeps : (x : Call) → Keeps (pass size P x)
  unfolding pass step
  heap-keeps x =
      by_cases (is_pooled x)
      (λ e. rw e (record { class = refl; stock = refl }))
      (λ e. rw e (record { class = other size H (pool_id c) x (goes x) (off-pool x c e); stock = refl }))

  -- one that names the class is the pool's own
  heap-turned : (x : Call) → History.is_of (pool_id c) (names x) ≡ true → Mine c (pass size P x) (left lim c s st (heap x)) (FitsCall lim c s st (heap x))
  unfolding pass
  heap-turned x e =
      by_cases (is_pooled x)
      (λ u. rw u (record { gift = none; run = refl; class = refl; stock = refl; answer = refl; fits = refl }))
      (λ u. absurd (true≢false (sym e ∙ off-pool x c u)))

pool-rules : (size : ℕ) (P : Pool) (x : PoolCall) → (pool_step size P x).pool.heap.rules ≡ P.heap.rules
unfolding pool_step carry pass
pool-rules size P (to c x) = go (plan c (P.heap.classes (pool_id c)) (P.stock c) x)
  where
    go : (p : Plan) → (carry size P c x p).pool.heap.rules ≡ P.heap.rules
    go (turn n) = refl
    go (stays r st) = refl
    go (Pools.goes y new) = step-rules size P.heap y
pool-rules size P (heap x) = by_cases (is_pooled x) (λ e. rw e) (λ e. rw e (step-rules size P.heap x))

-- a class's answers are a replay of its calls with what it was given
record Replayed (lim : Limits) (c : ℕ) (s : Class) (st : List ℕ) (xs : List PoolCall) (vs : List PoolEvent) : Type 0 where
  gifts : List (Option ℕ)
  runs : pool_runs_of (pool_id c) vs ≡ map (run_with (shape_of (pool_id c)).pages) gifts
  answers : pool_answers_of (pool_id c) vs ≡ replay lim c s st (pool_calls_of (pool_id c) xs) gifts
  fit : AllFit lim c s st (pool_calls_of (pool_id c) xs) gifts

module _ (lim : Limits) (c : ℕ) (s : Class) (st : List ℕ) (x : PoolCall) (xs : List PoolCall) (d : Done) (vs : List PoolEvent)
    (ih : Replayed lim c (d.pool.heap.classes (pool_id c)) (d.pool.stock c) xs vs) where
  abbrev rest : List PoolCall
  rest = pool_calls_of (pool_id c) xs

  replayed-own : is_of (pool_id c) x ≡ true → Mine c d (left lim c s st x) (FitsCall lim c s st x) → Replayed lim c s st (x ∷ xs) (event_of x d ∷ vs)
  replayed-own e own = record {
    gifts = own.gift ∷ ih.gifts;
    runs = rw e (ap₂ ◌∷◌ own.run ih.runs);
    answers = rw e (ap₂ ◌∷◌ own.answer (ih.answers ∙ ap₂ (λ y z. replay lim c y z rest ih.gifts) own.class own.stock));
    fit = rw e (
      own.fits,
      subst (λ y. AllFit lim c y (left lim c s st x own.gift).stock rest ih.gifts) own.class
          (subst (λ z. AllFit lim c (d.pool.heap.classes (pool_id c)) z rest ih.gifts) own.stock ih.fit),
    );
  }

  replayed-other : is_of (pool_id c) x ≡ false → d.pool.heap.classes (pool_id c) ≡ s → d.pool.stock c ≡ st → Replayed lim c s st (x ∷ xs) (event_of x d ∷ vs)
  replayed-other e p q = record {
    gifts = ih.gifts;
    runs = rw e ih.runs;
    answers = rw e (rw (p, q) at ih.answers);
    fit = rw e (rw (p, q) at ih.fit);
  }

module _ (size c : ℕ) (P : Pool) (xs : List PoolCall) where
  abbrev Rest : PoolCall → Rules → Type 0
  Rest x r = Replayed (r (pool_id c)) c ((pool_step size P x).pool.heap.classes (pool_id c)) ((pool_step size P x).pool.stock c) xs (pool_events_from size (pool_step size P x).pool xs)

  abbrev lim₀ : Limits
  lim₀ = P.heap.rules (pool_id c)

  abbrev s₀ : Class
  s₀ = P.heap.classes (pool_id c)

  abbrev st₀ : List ℕ
  st₀ = P.stock c

  own-number : (b : ℕ) → eqb (pool_id b) (pool_id c) ≡ true → c ≡ b
  own-number b e = let z = eqb-true (pool_id b) (pool_id c) e in omega arith

  by_call : (x : PoolCall) → Rest x P.heap.rules → Replayed lim₀ c s₀ st₀ (x ∷ xs) (pool_events_from size P (x ∷ xs))
  unfolding pool_step
  by_call (to b y) ih =
      by_cases (eqb (pool_id b) (pool_id c))
      (λ e. replayed-own lim₀ c s₀ st₀ (to b y) xs (pool_step size P (to b y)) _ ih e
      (subst (λ z. Mine c (carry size P z y (plan z (P.heap.classes (pool_id z)) (P.stock z) y)) (left lim₀ c s₀ st₀ (to b y)) (FitsCall lim₀ c s₀ st₀ (to b y))) (own-number b e)
      (mine size P c (planned c s₀ st₀ y))))
      (λ e. let t = theirs size P c b e (planned b (P.heap.classes (pool_id b)) (P.stock b) y) in replayed-other lim₀ c s₀ st₀ (to b y) xs (pool_step size P (to b y)) _ ih e t.class t.stock)
  by_call (heap x) ih =
      by_cases (History.is_of (pool_id c) (names x))
      (λ e. replayed-own lim₀ c s₀ st₀ (heap x) xs (pool_step size P (heap x)) _ ih e (heap-turned size P c x e))
      (λ e. let t = heap-keeps size P c x in replayed-other lim₀ c s₀ st₀ (heap x) xs (pool_step size P (heap x)) _ ih e t.class t.stock)

replayed : (size c : ℕ) (P : Pool) (xs : List PoolCall) → Replayed (P.heap.rules (pool_id c)) c (P.heap.classes (pool_id c)) (P.stock c) xs (pool_events_from size P xs)
replayed size c P [] = record { gifts = []; runs = refl; answers = refl; fit = refl }
replayed size c P (x ∷ xs) = by_call size c P xs x (subst (Rest size c P xs x) (pool-rules size P x) (replayed size c (pool_step size P x).pool xs))

own_alone : (size size' : ℕ) (rules rules' : Rules) (c : ℕ) (xs ys : List PoolCall) → PoolAlone size size' rules rules' (pool_id c) xs ys
unfolding new_pool new_heap
own_alone size size' rules rules' c xs ys = record {
  alone = λ lim same.
      let zs = pool_calls_of (pool_id c) xs in
      let l = rules (pool_id c) in
      let a = replayed size c (new_pool rules) xs in
      let b = subst (λ (m : Limits). Replayed m c new_class [] ys (pool_events size' rules' ys)) (sym lim) (replayed size' c (new_pool rules') ys) in (
        (λ e. a.runs ∙ ap (map (run_with (shape_of (pool_id c)).pages)) (replay-tells l c new_class [] zs a.gifts b.gifts a.fit (rw same b.fit) (sym a.answers ∙ e ∙ rw same b.answers)) ∙ sym b.runs),
        (λ e. a.answers ∙ rw (same, runs-first (shape_of (pool_id c)).pages a.gifts b.gifts (sym a.runs ∙ e ∙ b.runs)) (sym b.answers)),
      );
}

-- of the heap's classes, and of the pool's
pub pool-alone : (size size' : ℕ) (rules rules' : Rules) (c : ℕ) (xs ys : List PoolCall) → PoolAlone size size' rules rules' c xs ys
pool-alone size size' rules rules' c xs ys =
    by_cases (ltb c class_count)
    (λ e. heap-alone size size' rules rules' c e xs ys)
    (λ e. let z : pool_id (c - class_count) ≡ c = omega (arith, ltb-false c class_count e) in
    subst (λ d. PoolAlone size size' rules rules' d xs ys) z (own_alone size size' rules rules' (c - class_count) xs ys))
