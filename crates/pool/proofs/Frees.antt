-- When a free is carried out, when an alloc answers none, and that a refusal changes nothing.
use Rattle.facts.proofs.Prelude.{ℕ, ◌+◌, ◌≤◌, arith, Bool, true, false, true≢false, List, [], ◌∷◌, reverse, reverse-reverse, ◌↔◌, Option}
use Rattle.facts.proofs.Prelude.{none, some, ◌≡◌, refl, sym, ap, ◌∙◌, ltb, length, eq-eqb, le-ltb, All, is_nil, total, count, by_cases}
use Rattle.words.specs.Limits.{max_pages}
use Rattle.words.specs.Word.{kind_of}
use Rattle.words.specs.Host.{bad_host}
use Rattle.classes.specs.declared.Shape.{Shape}
use Rattle.classes.specs.way.Sound.{Sound}
use Rattle.classes.specs.Shape.{shape_of, class_count, pool_id}
use Rattle.classes.proofs.Shapes.{shape-sound}
use Rattle.rules.specs.declared.Limits.{Limits}
use Rattle.rules.specs.Rules.{Rules}
use Rattle.model.specs.Calls.{pooled_take, pooled_release, blocks_of, is_refused}
use Rattle.model.specs.Arena as Arenas
use Rattle.model.specs.Arena.{Arena}
use Rattle.model.specs.Page.{Page, has_more, reused}
use Rattle.model.specs.Class.{Class, Cold, serve, take_from, on_run, thawed}
use Rattle.model.specs.Chunks.{answer}
use Rattle.model.specs.Release.{of_kind, out_here}
use Rattle.model.specs.Heap.{Outcome, offer, step, class_call, interact, finish}
use Rattle.model.specs.Entries.{Entry, OutIn}
use Rattle.model.specs.History.{Event}
use Rattle.model.specs.Yields.{Listed}
use Rattle.model.specs.Offered.{NoneListed}
use Rattle.model.proofs.Counts.{count-not}
use Rattle.model.proofs.Fold.{live_from, live_in, in_live}
use Rattle.model.proofs.EntryCounts.{is, is_self, in_total, counted}
use Rattle.model.proofs.Sites.{out-here}
use Rattle.model.proofs.Apart.{entry-kind}
use Rattle.model.proofs.Yields.{served-yields, thawed-more, new-more}
use Rattle.pool.specs.Stock.{stock_most, blank}
use Rattle.pool.specs.Pool.{Pool, PoolCall, Plan, PoolRequest, to, alloc, free, turn, host_in, pool_step, carry, plan, plan_free, plan_alloc, is_granted, bring, ends, refused, no_block, freed, trimmed}
use Rattle.pool.specs.Observed.{observed_of, pool_events, pool_after}
use Rattle.pool.specs.way.Claims.{Frees, Unchanged}
use Rattle.pool.proofs.Kept.{PoolInv, pool-kept, at_most, grant-one}
use Rattle.pool.proofs.Plans.{Planned, is_turned, is-popped, is-taken, is-put, is-given, is-bare, is-trimmed, planned, plan-low}
use Rattle.pool.proofs.HeapCalls.{step-take, step-give, give-done, take_done, take-few, Within, take_within}

-- ---- the tests of a free
module _ (size : ℕ) (small : size ≤ max_pages) (n k : ℕ) (P : Pool) (es gs : List Entry) (f : ℕ → Bool) (l : ℕ → ℕ) (K : PoolInv size n k P es gs f l) (c w : ℕ) where
  -- what is out of the heap is of its class's kind
  out-kind : 1 ≤ total (is c w) es → of_kind (shape_of c).kind w ≡ true
  unfolding of_kind
  out-kind h =
      let u = counted c w es h in
      let e = entry-kind size n P.heap es f l K.inv small u.entry u.member in
      eq-eqb (kind_of w) (shape_of c).kind (ap kind_of (sym u.of_word) ∙ e ∙ ap (λ z. (shape_of z).kind) u.of_class_lem)

  pub out-there : 1 ≤ total (is c w) es → out_here (shape_of c) (P.heap.classes c) w ≡ true
  out-there h = out-here (shape_of c) (shape-sound c) (P.heap.classes c) (K.inv.good c) w (omega (arith, K.inv.outs c w))

module _ (size : ℕ) (small : size ≤ max_pages) (n k : ℕ) (P : Pool) (es gs : List Entry) (f : ℕ → Bool) (l : ℕ → ℕ) (K : PoolInv size n k P es gs f l) (c w : ℕ) where
  abbrev kind-out : 1 ≤ total (is (pool_id c) w) es → of_kind (shape_of (pool_id c)).kind w ≡ true
  kind-out = out-kind size small n k P es gs f l K (pool_id c) w

  -- a block in stock is out
  pub stock-out : (ws : List ℕ) → P.stock c ≡ w ∷ ws → 1 ≤ total (is (pool_id c) w) es
  stock-out ws e = let z : count w (P.stock c) ≡ 1 + count w ws = ap (count w) e ∙ rw (eq-eqb w w refl) in omega (arith, K.split c w)

  grant-tested : 1 ≤ total (is (pool_id c) w) gs → is_granted (shape_of (pool_id c)) (P.heap.classes (pool_id c)) (P.stock c) w ≡ true
  unfolding is_granted
  grant-tested h =
      let s = K.split c w in
      rw (out-there size small n k P es gs f l K (pool_id c) w (omega arith), count-not w (P.stock c) (omega (arith, at_most K.inv (pool_id c) w)))

  -- a release of one block that is out is not refused
  pub gives : (h : ℕ) → bad_host h ≡ false → ltb c class_count ≡ true → 1 ≤ total (is (pool_id c) w) es → is_refused (step size P.heap (pooled_release c h (w ∷ []))).answer ≡ false
  gives h ok low o = rw (step-give size P.heap c h (w ∷ []) ok low) (give-done size P.heap (pool_id c) h w (kind-out o) (out-there size small n k P es gs f l K (pool_id c) w o))

  free-done : (h : ℕ) → bad_host h ≡ false → ltb c class_count ≡ true → 1 ≤ total (is (pool_id c) w) gs → (pool_step size P (to c (free h w))).answer ≡ freed
  unfolding pool_step plan plan_free carry ends
  free-done h ok low o =
      let out : 1 ≤ total (is (pool_id c) w) es = omega (arith, K.split c w) in
      rw (ok, low, kind-out out, grant-tested o)
      (by_cases (ltb (length (P.stock c)) (stock_most c)) (λ e. rw e) (λ e. rw (e, gives h ok low out)))

  -- where the block is then
  module _ (h : ℕ) (ok : bad_host h ≡ false) (low : ltb c class_count ≡ true) (o : 1 ≤ total (is (pool_id c) w) gs) where
    free-stocks : ltb (length (P.stock c)) (stock_most c) ≡ true → ((pool_step size P (to c (free h w))).pool.heap ≡ P.heap) × ((pool_step size P (to c (free h w))).pool.stock c ≡ w ∷ P.stock c)
    unfolding pool_step plan plan_free carry
    free-stocks e = let k = kind-out (omega (arith, K.split c w)) in (rw (ok, low, k, grant-tested o, e), rw (ok, low, k, grant-tested o, e, eq-eqb c c refl))

    free-returns : ltb (length (P.stock c)) (stock_most c) ≡ false
        → ((pool_step size P (to c (free h w))).pool.heap ≡ (step size P.heap (pooled_release c h (w ∷ []))).heap) × ((pool_step size P (to c (free h w))).pool.stock c ≡ P.stock c)
    unfolding pool_step plan plan_free carry ends
    free-returns e =
        let out : 1 ≤ total (is (pool_id c) w) es = omega (arith, K.split c w) in
        (rw (ok, low, kind-out out, grant-tested o, e), rw (ok, low, kind-out out, grant-tested o, e, gives h ok low out, eq-eqb c c refl))

  free-only : (h : ℕ) {p : Plan} → Planned c (P.heap.classes (pool_id c)) (P.stock c) (free h w) p → (carry size P c (free h w) p).answer ≡ freed → total (is (pool_id c) w) gs ≡ 1
  unfolding carry
  free-only h (is_turned m) e = let z : ◌≡◌ {A = ℕ} 0 1 = cc in absurd (omega arith)
  free-only h (is-put low g) e = (grant-one size n k P es gs f l K c low w g).1
  free-only h (is-given ok low kd g) e = (grant-one size n k P es gs f l K c low w g).1

-- ---- a free that is refused
module _ (size : ℕ) (P : Pool) (c h w : ℕ) where
  free-kind : bad_host h ≡ false → ltb c class_count ≡ true → of_kind (shape_of (pool_id c)).kind w ≡ false → (pool_step size P (to c (free h w))).answer ≡ refused 9
  unfolding pool_step plan plan_free carry
  free-kind e u k = rw (e, u, k)

  free-stale : bad_host h ≡ false → ltb c class_count ≡ true → of_kind (shape_of (pool_id c)).kind w ≡ true → is_granted (shape_of (pool_id c)) (P.heap.classes (pool_id c)) (P.stock c) w ≡ false
      → (pool_step size P (to c (free h w))).answer ≡ refused 10
  unfolding pool_step plan plan_free carry
  free-stale e u k g = rw (e, u, k, g)

-- a grant not yet freed, as the history tells it and as the invariant counts it
pub observed-out : (vs : List Event) (c w : ℕ) → 1 ≤ total (is c w) (live_from 0 [] vs) → OutIn vs c w
observed-out vs c w t =
    let r = counted c w (live_from 0 [] vs) t in
    record { entry = r.entry; live = in_live r.entry vs r.member; class = r.of_class_lem; word = r.of_word }

pub out-observed : (vs : List Event) (c w : ℕ) → OutIn vs c w → 1 ≤ total (is c w) (live_from 0 [] vs)
out-observed vs c w o =
    let e = o.entry in
    let m = in_total (is c w) e (live_from 0 [] vs) (live_in 0 e [] vs o.live) in
    let one : is c w e ≡ 1 = rw (← o.class, ← o.word) (is_self e) in
    omega arith

pub frees : (size : ℕ) → size ≤ max_pages → (rules : Rules) (xs : List PoolCall) (c h w : ℕ) → Frees size rules xs c h w
unfolding pool_step
frees size small rules xs c h w =
    let vs = observed_of (pool_events size rules xs) in
    let P = pool_after size rules xs in
    let K = (pool-kept size rules xs).kept in
    record {
      done = λ ok low. (
        (λ e. observed-out vs (pool_id c) w (omega (arith, free-only size small _ _ P _ _ _ _ K.holds c w h (planned c (P.heap.classes (pool_id c)) (P.stock c) (free h w)) e))),
        (λ o. free-done size small _ _ P _ _ _ _ K.holds c w h ok low (out-observed vs (pool_id c) w o)),
      );
      kind = free-kind size P c h w;
      stale = λ ok low kd no.
          by_cases (is_granted (shape_of (pool_id c)) (P.heap.classes (pool_id c)) (P.stock c) w)
          (λ g. absurd (no (observed-out vs (pool_id c) w (omega (arith, (grant-one size _ _ P _ _ _ _ K.holds c low w g).1)))))
          (free-stale size P c h w ok low kd);
      stocks = λ ok low o e. let r = free-stocks size small _ _ P _ _ _ _ K.holds c w h ok low (out-observed vs (pool_id c) w o) e in record { heap = r.0; stock = r.1 };
      returns = λ ok low o e. let r = free-returns size small _ _ P _ _ _ _ K.holds c w h ok low (out-observed vs (pool_id c) w o) e in record { heap = r.0; stock = r.1 };
    }

-- ---- none
none-brought : (bs : List ℕ) → (bring bs).answer ≡ no_block → bs ≡ []
none-brought [] e = refl
none-brought (w ∷ ws) e = let z : ◌≡◌ {A = ℕ} 0 1 = cc in absurd (omega arith)

not-brought : (bs : List ℕ) (n : ℕ) → (bring bs).answer ≡ refused n → ⊥
not-brought [] n e = let z : ◌≡◌ {A = ℕ} 0 1 = cc in omega arith
not-brought (w ∷ ws) n e = let z : ◌≡◌ {A = ℕ} 0 1 = cc in omega arith

module _ (size : ℕ) (P : Pool) (c h : ℕ) where
  abbrev pub took : Outcome
  took = step size P.heap (pooled_take c h blank)

  pub took-done : bad_host h ≡ false → ltb c class_count ≡ true → is_refused took.answer ≡ false
  unfolding class_call interact finish
  took-done ok low = rw (step-take size P.heap c h blank ok low) (take_done (shape_of (pool_id c)) (shape-sound (pool_id c)) (P.heap.rules (pool_id c)) _ (P.heap.classes (pool_id c)) h)

  pub took-few : bad_host h ≡ false → ltb c class_count ≡ true → length (blocks_of took.answer) ≤ 64
  unfolding class_call interact finish
  took-few ok low = rw (step-take size P.heap c h blank ok low) (take-few (shape_of (pool_id c)) (shape-sound (pool_id c)) (P.heap.rules (pool_id c)) _ (P.heap.classes (pool_id c)) h)

  pub took-within : bad_host h ≡ false → ltb c class_count ≡ true → Within took.answer
  unfolding class_call interact finish
  took-within ok low = rw (step-take size P.heap c h blank ok low) (take_within (shape_of (pool_id c)) (shape-sound (pool_id c)) (P.heap.rules (pool_id c)) _ (P.heap.classes (pool_id c)) h)

-- a class's take answers no block exactly if it has no page and the arena no run
module _ (size h : ℕ) (a : Arena) (lim : Limits) (sh : Shape) (ok : Sound sh) where
  abbrev blocks_from : List Page → List Page → List Cold → List Page → List ℕ
  blocks_from ps es cs fs = blocks_of (serve (take_from sh blank ps es cs fs) (offer size h a (take_from sh blank ps es cs fs)).run).answer

  some-come : (s : List ℕ) → is_nil s ≡ false → s ≡ [] → ⊥
  some-come s e z = true≢false (sym (ap is_nil z) ∙ e)

  none_from : (ps es : List Page) (cs : List Cold) (fs : List Page) → All (λ p. has_more sh p ≡ true) ps → All (λ p. has_more sh (reused sh p) ≡ true) es
      → blocks_from ps es cs fs ≡ [] → (ps ≡ []) × (es ≡ []) × (cs ≡ []) × ((Arenas.commit size h sh.pages a).run ≡ none)
  unfolding take_from offer on_run
  none_from (p ∷ ps) es cs fs y z e = absurd (some-come _ (served-yields sh ok lim blank p ps es cs fs y.0) e)
  none_from [] (p ∷ es) cs fs y z e = absurd (some-come _ (served-yields sh ok lim blank (reused sh p) [] es cs fs z.0) e)
  none_from [] [] (p ∷ cs) fs y z e = absurd (some-come _ (served-yields sh ok lim blank (thawed sh p) [] [] cs fs (thawed-more sh ok lim p)) e)
  none_from [] [] [] fs y z e = (refl, refl, refl, go (Arenas.commit size h sh.pages a).run e)
    where
      go : (g : Option ℕ) → blocks_of (on_run sh blank fs g).answer ≡ [] → g ≡ none
      go none e = refl
      go (some q) e = absurd (some-come _ (served-yields sh ok lim blank _ [] [] [] fs (new-more sh ok lim q _)) e)

  from-none : (fs : List Page) → (Arenas.commit size h sh.pages a).run ≡ none → blocks_from [] [] [] fs ≡ []
  unfolding take_from offer on_run
  from-none fs e = rw e

module _ (size : ℕ) (P : Pool) (c h : ℕ) (ok : bad_host h ≡ false) (low : ltb c class_count ≡ true) (listed : Listed (shape_of (pool_id c)) (P.heap.classes (pool_id c))) where
  abbrev sh : Shape
  sh = shape_of (pool_id c)

  abbrev sound : Sound sh
  sound = shape-sound (pool_id c)

  abbrev lim : Limits
  lim = P.heap.rules (pool_id c)

  abbrev s : Class
  s = P.heap.classes (pool_id c)

  abbrev Nothing : Type 0
  Nothing = (P.stock c ≡ []) × NoneListed s × ((Arenas.commit size h sh.pages P.heap.arena).run ≡ none)

  blocks-are : blocks_of (took size P c h).answer
      ≡ blocks_from size h P.heap.arena lim sh sound s.partial s.empty s.cold s.full
  unfolding class_call interact finish answer
  blocks-are = rw (step-take size P.heap c h blank ok low, le-ltb 64 sh.batch sound.limited)

  none_only : {p : Plan} → Planned c s (P.stock c) (alloc h) p → (carry size P c (alloc h) p).answer ≡ no_block → Nothing
  unfolding carry ends
  none_only (is_turned m) e = let z : ◌≡◌ {A = ℕ} 0 1 = cc in absurd (omega arith)
  none_only (is-popped low y) e = let z : ◌≡◌ {A = ℕ} 0 1 = cc in absurd (omega arith)
  none_only (is-taken ok low y) e =
      let b : (bring (reverse (blocks_of (took size P c h).answer))).answer ≡ no_block = rw (took-done size P c h ok low) at e in
      let n : blocks_of (took size P c h).answer ≡ [] = sym (reverse-reverse _) ∙ ap reverse (none-brought (reverse (blocks_of (took size P c h).answer)) b) in
      let t = none_from size h P.heap.arena lim sh sound s.partial s.empty s.cold s.full listed.partial listed.empty (sym blocks-are ∙ n) in
      (y, record { partial = t.0; empty = t.1; cold = t.2 }, t.3)

  only_none : Nothing → (pool_step size P (to c (alloc h))).answer ≡ no_block
  unfolding pool_step plan plan_alloc carry ends
  only_none t =
      let b : blocks_of (took size P c h).answer ≡ [] = blocks-are ∙ rw (t.1.partial, t.1.empty, t.1.cold) (from-none size h P.heap.arena lim sh sound s.full t.2) in
      rw (ok, low, t.0, took-done size P c h ok low, b)

  pub none_when : ((pool_step size P (to c (alloc h))).answer ≡ no_block) ↔ Nothing
  unfolding pool_step
  none_when = (none_only (planned c _ _ (alloc h)), only_none)

-- ---- a refusal
module _ (size : ℕ) (small : size ≤ max_pages) (n k : ℕ) (P : Pool) (es gs : List Entry) (f : ℕ → Bool) (l : ℕ → ℕ) (K : PoolInv size n k P es gs f l) (c m : ℕ) where
  -- none comes of the heap
  refused-turn : {x : PoolRequest} {p : Plan} → Planned c (P.heap.classes (pool_id c)) (P.stock c) x p → (carry size P c x p).answer ≡ refused m → p ≡ turn m
  unfolding carry ends
  refused-turn (is_turned j) e = let z : j ≡ m = cc in ap turn z
  refused-turn (is-popped low y) e = let z : ◌≡◌ {A = ℕ} 0 1 = cc in absurd (omega arith)
  refused-turn (is-taken {h = h} ok low y) e = absurd (not-brought (reverse (blocks_of (took size P c h).answer)) m (rw (took-done size P c h ok low) at e))
  refused-turn (is-put low g) e = let z : ◌≡◌ {A = ℕ} 0 1 = cc in absurd (omega arith)
  refused-turn (is-given {h = h} {w = w} ok low kd g) e =
      let d : freed ≡ refused m = rw (gives size small n k P es gs f l K c w h ok low (omega (arith, (grant-one size n k P es gs f l K c low w g).0))) at e in
      let z : ◌≡◌ {A = ℕ} 0 1 = cc in absurd (omega arith)
  refused-turn (is-bare y) e = let z : ◌≡◌ {A = ℕ} 0 1 = cc in absurd (omega arith)
  refused-turn (is-trimmed {h = h} {w = w} {ws = ws} ok low y) e =
      let d : trimmed w ≡ refused m = rw (gives size small n k P es gs f l K c w h ok low (stock-out size small n k P es gs f l K c w ws y), y) at e in
      let z : ◌≡◌ {A = ℕ} 0 1 = cc in absurd (omega arith)

turned-still : (size : ℕ) (P : Pool) (c : ℕ) (x : PoolRequest) (p : Plan) (m : ℕ) → p ≡ turn m → ((carry size P c x p).pool ≡ P) × ((carry size P c x p).calls ≡ [])
unfolding carry
turned-still size P c x p m e = rw e (refl, refl)

-- numbers 3 and 4
module _ (size : ℕ) (P : Pool) (c : ℕ) (x : PoolRequest) where
  turned-host : bad_host (host_in x) ≡ true → (pool_step size P (to c x)).answer ≡ refused 3
  unfolding pool_step plan carry
  turned-host e = rw e

  turned-class : bad_host (host_in x) ≡ false → ltb c class_count ≡ false → (pool_step size P (to c x)).answer ≡ refused 4
  unfolding pool_step plan carry
  turned-class e u = rw (e, u)

pub unchanged : (size : ℕ) → size ≤ max_pages → (rules : Rules) (xs : List PoolCall) (c : ℕ) (x : PoolRequest) → Unchanged size rules xs c x
unfolding pool_step
unchanged size small rules xs c x = record {
  same = λ n e. turned-still size (pool_after size rules xs) c x _ n (refused-turn size small _ _ _ _ _ _ _ (pool-kept size rules xs).kept.holds c n (planned c _ _ x) e);
  low = λ n e. plan-low c _ _ x n (refused-turn size small _ _ _ _ _ _ _ (pool-kept size rules xs).kept.holds c n (planned c _ _ x) e);
  host = turned-host size (pool_after size rules xs) c x;
  class = turned-class size (pool_after size rules xs) c x;
}
