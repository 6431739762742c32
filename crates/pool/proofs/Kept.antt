-- The invariant of heap and pool: what is out of the heap is an entry or a grant not yet given back, or in stock, once.
use Rattle.facts.proofs.Prelude.{ℕ, suc, ◌+◌, ◌-◌, ◌≤◌, arith, Bool, true, false, not, List, [], ◌∷◌, reverse, some, ◌≡◌, refl, sym, ap, ◌∙◌}
use Rattle.facts.proofs.Prelude.{subst, eqb, ltb, eqb-true, eqb-false, ltb-true, ltb-false, ne_eqb, not-true, eq-eqb, total, count, elem, update, by_cases, and_left, and_right}
use Rattle.words.specs.Host.{bad_host}
use Rattle.classes.specs.Shape.{shape_of, class_count, pool_id}
use Rattle.classes.proofs.Shapes.{shape-sound}
use Rattle.rules.specs.Rules.{Rules}
use Rattle.model.specs.Calls as Calls
use Rattle.model.specs.Calls.{Call, Answer, Request, names, blocks_of, is_pooled, is_refused, take, give_back, pooled_take, pooled_release}
use Rattle.model.specs.Release.{out_here}
use Rattle.model.specs.Heap.{Heap, Outcome, step}
use Rattle.model.specs.Entries.{Entry, direct_next, direct_from}
use Rattle.model.proofs.Counts.{count-reverse, count-elem}
use Rattle.model.proofs.Fold.{live_next, live_from}
use Rattle.model.proofs.EntryCounts.{is, at}
use Rattle.model.proofs.Sites.{here_out, out_once}
use Rattle.model.proofs.HeapLaws.{Inv, start, restate, refused-quiet, step-inv}
use Rattle.model.proofs.Accounts.{held-le}
use Rattle.pool.specs.Pool.{Pool, new_pool, PoolCall, PoolRequest, PoolAnswer, Plan, Done, to, heap, alloc, free, trim, carry, pass, pool_step, is_granted, bring, ends, after, with_stock, number_of, refused, granted, no_block, freed, trimmed}
use Rattle.pool.specs.Stock.{blank}
use Rattle.pool.specs.Observed.{request_call, as_call, as_answer, observed_of, pool_events_from, pool_events, pool_from, pool_after}
use Rattle.pool.proofs.Lives.{as_named, next, own-stay, own-gone, other, still-once, still-past, aside, alike, call-once, call-past, live-refused, off-pool, request-quiet}
use Rattle.pool.proofs.Plans.{Planned, is_turned, is-popped, is-taken, is-put, is-given, is-bare, is-trimmed, planned}
use Rattle.pool.proofs.HeapCalls.{step-give, give-none, refused-is}

-- of a pool after k calls, with the entries and grants not yet given back, and the pages held by hand as the answers tell; the heap has made n calls
pub record PoolInv (size n k : ℕ) (P : Pool) (es gs : List Entry) (f : ℕ → Bool) (l : ℕ → ℕ) : Type 0 where
  pub inv : Inv size n P.heap es f l
  -- a block out of the heap in a class of the pool is granted, or in stock; in a class of the heap it is an entry
  pub split : (c w : ℕ) → total (is (pool_id c) w) es ≡ total (is (pool_id c) w) gs + count w (P.stock c)
  pub alone : (c w : ℕ) → ltb c class_count ≡ true → total (is c w) es ≡ total (is c w) gs
  pub once : (j i : ℕ) → total (at j i) gs ≤ 1
  pub past : (j i : ℕ) → k ≤ j → total (at j i) gs ≡ 0

pub record PoolKept (size k : ℕ) (P : Pool) (gs : List Entry) (f : ℕ → Bool) : Type 0 where
  pub number : ℕ
  pub entries : List Entry
  pub lost : ℕ → ℕ
  pub holds : PoolInv size number k P entries gs f lost

-- a block is out once
pub at_most : {size n : ℕ} {H : Heap} {es : List Entry} {f : ℕ → Bool} {l : ℕ → ℕ} → Inv size n H es f l → (c w : ℕ) → total (is c w) es ≤ 1
at_most {H = H} inv c w =
    omega (arith, inv.outs c w, out_once (shape_of c) (shape-sound c) (H.classes c) (inv.good c) (λ y. omega (arith, inv.mine c y, held-le c (H.holder y), inv.one y)) w)

-- what is told to be out is out of the heap, in every class
pub told-out : {size n k : ℕ} {P : Pool} {es gs : List Entry} {f : ℕ → Bool} {l : ℕ → ℕ} → PoolInv size n k P es gs f l → (c w : ℕ) → total (is c w) gs ≤ total (is c w) es
told-out {es = es} {gs = gs} K c w =
    by_cases (ltb c class_count)
    (λ e. omega (arith, K.alone c w e))
    (λ e. let z : pool_id (c - class_count) ≡ c = omega (arith, ltb-false c class_count e) in subst (λ d. total (is d w) gs ≤ total (is d w) es) z (omega (arith, K.split (c - class_count) w)))

split_at : (f : ℕ → List ℕ) (c : ℕ) (st : List ℕ) (es gs : List Entry) → ((w : ℕ) → total (is (pool_id c) w) es ≡ total (is (pool_id c) w) gs + count w st)
    → ((d w : ℕ) → eqb d c ≡ false → total (is (pool_id d) w) es ≡ total (is (pool_id d) w) gs + count w (f d))
    → (d w : ℕ) → total (is (pool_id d) w) es ≡ total (is (pool_id d) w) gs + count w (update f c st d)
split_at f c st es gs own others d w =
    by_cases (eqb d c)
    (λ e. rw e (subst (λ j. total (is (pool_id j) w) es ≡ total (is (pool_id j) w) gs + count w st) (sym (eqb-true d c e)) (own w)))
    (λ e. rw e (others d w e))

-- another class than the pool's class with this number
far : (c d : ℕ) → eqb d c ≡ false → eqb (pool_id d) (pool_id c) ≡ false
far c d e = let z = eqb-false d c e in ne_eqb (pool_id d) (pool_id c) (λ p. z (omega arith))

low-far : (c d : ℕ) → ltb d class_count ≡ true → eqb d (pool_id c) ≡ false
low-far c d e = ne_eqb d (pool_id c) (omega (arith, ltb-true d class_count e))

module _ (size : ℕ) (n k : ℕ) (P : Pool) (es gs : List Entry) (f : ℕ → Bool) (l : ℕ → ℕ) (K : PoolInv size n k P es gs f l) where
  abbrev H : Heap
  H = P.heap

  -- a call that is turned away
  turned-away : (x : Call) (m : ℕ) → PoolKept size (suc k) P (live_next k (names x) (Calls.refused m) gs) (direct_next x (Calls.refused m) f)
  turned-away x m =
      rw (live-refused k (names x) m gs) (record {
        number = n;
        entries = es;
        lost = l;
        holds = record {
          inv = restate K.inv (refused-quiet size n H es f l K.inv x m) (λ y. refl);
          split = K.split;
          alone = K.alone;
          once = K.once;
          past = λ j i h. K.past j i (omega arith);
        };
      })

  module _ (c : ℕ) where
    abbrev st : List ℕ
    st = P.stock c

    -- a request that changes neither heap nor grants
    still : (x : PoolRequest) (r : PoolAnswer) (P' : Pool) → P'.heap ≡ H → ((d w : ℕ) → count w (P'.stock d) ≡ count w (P.stock d)) → PoolKept size (suc k) P' gs (direct_next (request_call c x) (as_answer r) f)
    still x r P' same stocks = record {
      number = n;
      entries = es;
      lost = l;
      holds = record {
        inv = restate (rw same K.inv) (λ y. request-quiet f (as_answer r) y c x) (λ y. refl);
        split = λ d w. omega (arith, K.split d w, stocks d w);
        alone = K.alone;
        once = K.once;
        past = λ j i h. K.past j i (omega arith);
      };
    }

    module _ (low : ltb c class_count ≡ true) where
      -- a request done with the stock alone
      stock-kept : (x : PoolRequest) (q : Request) (r : PoolAnswer) (st' : List ℕ)
          → ((w : ℕ) → total (is (pool_id c) w) es ≡ total (is (pool_id c) w) (next k (pool_id c) q (as_answer r) gs) + count w st')
          → PoolKept size (suc k) (with_stock P c H st') (next k (pool_id c) q (as_answer r) gs) (direct_next (request_call c x) (as_answer r) f)
      stock-kept x q r st' own = record {
        number = n;
        entries = es;
        lost = l;
        holds = record {
          inv = restate K.inv (λ y. request-quiet f (as_answer r) y c x) (λ y. refl);
          split = split_at P.stock c st' es (next k (pool_id c) q (as_answer r) gs) own (λ d w e. omega (arith, K.split d w, other k (pool_id c) q (as_answer r) gs (pool_id d) w (far c d e)));
          alone = λ d w e. K.alone d w e ∙ sym (other k (pool_id c) q (as_answer r) gs d w (low-far c d e));
          once = still-once k (pool_id c) q (as_answer r) gs K.once K.past;
          past = still-past k (pool_id c) q (as_answer r) gs K.past;
        };
      }

      popped-kept : (h w : ℕ) (ws : List ℕ) → st ≡ w ∷ ws
          → PoolKept size (suc k) (with_stock P c H ws) (live_next k (names (request_call c (alloc h))) (as_answer (granted w)) gs) (direct_next (request_call c (alloc h)) (as_answer (granted w)) f)
      popped-kept h w ws e =
          rw low
          (stock-kept (alloc h) (take h blank) (granted w) ws (λ v. omega (arith, K.split c v, ap (count v) e, own-stay k (pool_id c) (take h blank) (as_answer (granted w)) gs v refl)))

      -- a grant: out of the heap, not in stock, and once
      pub grant-one : (w : ℕ) → is_granted (shape_of (pool_id c)) (H.classes (pool_id c)) st w ≡ true
          → (total (is (pool_id c) w) es ≡ 1) × (total (is (pool_id c) w) gs ≡ 1) × (count w st ≡ 0)
      unfolding is_granted
      grant-one w g =
          let d = pool_id c in
          let s = H.classes d in
          let o = here_out (shape_of d) (shape-sound d) s (K.inv.good d) w (and_left (out_here (shape_of d) s w) (not (elem w st)) g) in
          let z = count-elem w st (not-true (elem w st) (and_right (out_here (shape_of d) s w) (not (elem w st)) g)) in
          let one : total (is d w) es ≡ 1 = omega (arith, K.inv.outs d w, at_most K.inv d w) in
          (one, omega (arith, K.split c w), z)

      put-kept : (h w : ℕ) → is_granted (shape_of (pool_id c)) (H.classes (pool_id c)) st w ≡ true
          → PoolKept size (suc k) (with_stock P c H (w ∷ st)) (live_next k (names (request_call c (free h w))) (as_answer freed) gs) (direct_next (request_call c (free h w)) (as_answer freed) f)
      put-kept h w g =
          let t = grant-one w g in
          rw low
          (stock-kept (free h w) (give_back h (w ∷ [])) freed (w ∷ st) (λ v.
          by_cases (eqb v w)
          (λ e.
          let d = pool_id c in
          let after = next k d (give_back h (w ∷ [])) (as_answer freed) gs in
          let at-w : total (is d w) es ≡ total (is d w) after + count w (w ∷ st) =
          rw (eq-eqb w w refl) (omega (arith, t.0, t.2, own-gone k d (give_back h (w ∷ [])) (as_answer freed) gs w (rw (eq-eqb w w refl) (omega arith)))) in
          subst (λ u. total (is d u) es ≡ total (is d u) after + count u (w ∷ st)) (sym (eqb-true v w e)) at-w)
          (λ e. rw e (omega (arith, K.split c v, own-stay k (pool_id c) (give_back h (w ∷ [])) (as_answer freed) gs v (rw e))))))

      -- a request that went to the heap, by one call
      module _ (x : PoolRequest) (y : Call) (q : Request) (nm : names y ≡ some (as_named (pool_id c) q)) (qt : (a : Answer) (z : ℕ) → direct_next y a f z ≡ f z) where
        abbrev o : Outcome
        o = step size H y

        abbrev es' : List Entry
        es' = next n (pool_id c) q o.answer es

        went : (r : PoolAnswer) (st' : List ℕ) (gs' : List Entry)
            → ((w : ℕ) → total (is (pool_id c) w) es' ≡ total (is (pool_id c) w) gs' + count w st')
            → ((d w : ℕ) → eqb d (pool_id c) ≡ false → total (is d w) gs' ≡ total (is d w) gs)
            → ((j i : ℕ) → total (at j i) gs' ≤ 1) → ((j i : ℕ) → suc k ≤ j → total (at j i) gs' ≡ 0)
            → PoolKept size (suc k) (with_stock P c o.heap st') gs' (direct_next (request_call c x) (as_answer r) f)
        went r st' gs' own others once past = record {
          number = suc n;
          entries = es';
          lost = _;
          holds = record {
            inv = restate (rw nm at (step-inv size n H es f l K.inv y)) (λ z. request-quiet f (as_answer r) z c x ∙ sym (qt o.answer z)) (λ y. refl);
            split = split_at P.stock c st' es' gs' own (λ d w e. omega (arith, K.split d w, others (pool_id d) w (far c d e), other n (pool_id c) q o.answer es (pool_id d) w (far c d e)));
            alone = λ d w e. other n (pool_id c) q o.answer es d w (low-far c d e) ∙ K.alone d w e ∙ sym (others d w (low-far c d e));
            once = once;
            past = past;
          };
        }

        went-refused : is_refused o.answer ≡ true
            → PoolKept size (suc k) (with_stock P c o.heap st) (live_next k (names (request_call c x)) (Calls.refused (number_of o.answer)) gs) (direct_next (request_call c x) (Calls.refused (number_of o.answer)) f)
        went-refused e =
            let a = refused-is o.answer e in
            rw (live-refused k (names (request_call c x)) (number_of o.answer) gs)
            (went (refused (number_of o.answer)) st gs
            (λ w. omega (arith, K.split c w, own-stay n (pool_id c) q o.answer es w (rw e), ap (λ z. count w (blocks_of z)) a))
            (λ d w e. refl) K.once (λ j i h. K.past j i (omega arith)))

      module _ (h : ℕ) (ok : bad_host h ≡ false) where
        -- an alloc on an empty stock
        abbrev pub took : Outcome
        took = step size H (pooled_take c h blank)

        pub brought : (bs : List ℕ) → reverse (blocks_of took.answer) ≡ bs → is_refused took.answer ≡ false → st ≡ []
            → PoolKept size (suc k) (with_stock P c took.heap (bring bs).stock) (next k (pool_id c) (take h blank) (as_answer (bring bs).answer) gs)
            (direct_next (request_call c (alloc h)) (as_answer (bring bs).answer) f)
        brought [] e u z =
            went (alloc h) (pooled_take c h blank) (take h blank) (rw low) (λ a y. refl) no_block [] (next k (pool_id c) (take h blank) (as_answer no_block) gs)
            (λ v. omega (arith, K.split c v, ap (count v) z, ap (count v) e, count-reverse v (blocks_of took.answer), own-stay n (pool_id c) (take h blank) took.answer es v (rw u), own-stay k (pool_id c) (take h blank) (as_answer no_block) gs v refl))
            (other k (pool_id c) (take h blank) (as_answer no_block) gs)
            (still-once k (pool_id c) (take h blank) (as_answer no_block) gs K.once K.past)
            (still-past k (pool_id c) (take h blank) (as_answer no_block) gs K.past)
        brought (w ∷ ws) e u z =
            went (alloc h) (pooled_take c h blank) (take h blank) (rw low) (λ a y. refl) (granted w) ws (next k (pool_id c) (take h blank) (as_answer (granted w)) gs)
            (λ v. omega (arith, K.split c v, ap (count v) z, ap (count v) e, count-reverse v (blocks_of took.answer), own-stay n (pool_id c) (take h blank) took.answer es v (rw u), own-stay k (pool_id c) (take h blank) (as_answer (granted w)) gs v refl))
            (other k (pool_id c) (take h blank) (as_answer (granted w)) gs)
            (still-once k (pool_id c) (take h blank) (as_answer (granted w)) gs K.once K.past)
            (still-past k (pool_id c) (take h blank) (as_answer (granted w)) gs K.past)

        abbrev Next : PoolRequest → Done → Type 0
        Next x d = PoolKept size (suc k) d.pool (live_next k (names (request_call c x)) (as_answer d.answer) gs) (direct_next (request_call c x) (as_answer d.answer) f)

        taken-kept : st ≡ [] → Next (alloc h) (after P c (alloc h) (pooled_take c h blank) [] took)
        unfolding ends
        taken-kept z =
            by_cases (is_refused took.answer)
            (λ e. rw e (went-refused (alloc h) (pooled_take c h blank) (take h blank) (rw low) (λ a y. refl) e))
            (λ e. rw e (rw low (brought (reverse (blocks_of took.answer)) refl e z)))

        -- one block goes back to the heap
        module _ (w : ℕ) where
          abbrev gave : Outcome
          gave = step size H (pooled_release c h (w ∷ []))

          no_blocks : blocks_of gave.answer ≡ []
          no_blocks = ap (λ z. blocks_of z.answer) (step-give size H c h (w ∷ []) ok low) ∙ give-none size H (pool_id c) h (w ∷ [])

          -- of the heap's entries
          gone_one : is_refused gave.answer ≡ false → total (is (pool_id c) w) (next n (pool_id c) (give_back h (w ∷ [])) gave.answer es) ≡ 0
          gone_one u = omega (arith, own-gone n (pool_id c) (give_back h (w ∷ [])) gave.answer es w (rw (u, eq-eqb w w refl) (omega arith)), ap (count w) no_blocks)

          stay-one : (v : ℕ) → eqb v w ≡ false → is_refused gave.answer ≡ false → total (is (pool_id c) v) (next n (pool_id c) (give_back h (w ∷ [])) gave.answer es) ≡ total (is (pool_id c) v) es
          stay-one v e u = omega (arith, own-stay n (pool_id c) (give_back h (w ∷ [])) gave.answer es v (rw (u, e)), ap (count v) no_blocks)

          given-kept : is_granted (shape_of (pool_id c)) (H.classes (pool_id c)) st w ≡ true → Next (free h w) (after P c (free h w) (pooled_release c h (w ∷ [])) st gave)
          unfolding ends
          given-kept g =
              let t = grant-one w g in
              let q = give_back h (w ∷ []) in
              by_cases (is_refused gave.answer)
              (λ e. rw e (went-refused (free h w) (pooled_release c h (w ∷ [])) q (rw low) (λ a y. refl) e))
              (λ u. rw u (rw low
              (went (free h w) (pooled_release c h (w ∷ [])) q (rw low) (λ a y. refl) freed st (next k (pool_id c) q (as_answer freed) gs)
              (λ v. by_cases (eqb v w)
              (λ e. let same = eqb-true v w e in rw same (omega (arith, gone_one u, t.2, own-gone k (pool_id c) q (as_answer freed) gs w (rw (eq-eqb w w refl) (omega arith)))))
              (λ e. omega (arith, stay-one v e u, K.split c v, own-stay k (pool_id c) q (as_answer freed) gs v (rw e))))
              (other k (pool_id c) q (as_answer freed) gs)
              (still-once k (pool_id c) q (as_answer freed) gs K.once K.past)
              (still-past k (pool_id c) q (as_answer freed) gs K.past))))

          trimmed-kept : (ws : List ℕ) → st ≡ w ∷ ws → Next (trim h) (after P c (trim h) (pooled_release c h (w ∷ [])) ws gave)
          unfolding ends
          trimmed-kept ws z =
              let q = give_back h (w ∷ []) in
              let here : count w st ≡ 1 + count w ws = ap (count w) z ∙ rw (eq-eqb w w refl) in
              by_cases (is_refused gave.answer)
              (λ e. rw e (went-refused (trim h) (pooled_release c h (w ∷ [])) q (rw low) (λ a y. refl) e))
              (λ u. rw u
              (went (trim h) (pooled_release c h (w ∷ [])) q (rw low) (λ a y. refl) (trimmed w) ws gs
              (λ v. by_cases (eqb v w)
              (λ e. let same = eqb-true v w e in rw same (omega (arith, gone_one u, K.split c w, at_most K.inv (pool_id c) w)))
              (λ e. let there : count v st ≡ 0 + count v ws = ap (count v) z ∙ rw e in omega (arith, stay-one v e u, K.split c v)))
              (λ d v e. refl) K.once (λ j i m. K.past j i (omega arith))))

  -- what a request leaves, by its plan
  module _ (c : ℕ) where
    abbrev Leaves : PoolRequest → Done → Type 0
    Leaves x d = PoolKept size (suc k) d.pool (live_next k (names (request_call c x)) (as_answer d.answer) gs) (direct_next (request_call c x) (as_answer d.answer) f)

    bare : P.stock c ≡ [] → (d w : ℕ) → count w (update P.stock c [] d) ≡ count w (P.stock d)
    bare z d w = by_cases (eqb d c) (λ e. rw e (sym (ap (λ j. count w (P.stock j)) (eqb-true d c e) ∙ ap (count w) z))) (λ e. rw e)

    request-kept : {x : PoolRequest} {p : Plan} → Planned c (H.classes (pool_id c)) (P.stock c) x p → Leaves x (carry size P c x p)
    unfolding carry
    request-kept {x} (is_turned m) = turned-away (request_call c x) m
    request-kept (is-popped {h = h} {w = w} {ws = ws} low e) = popped-kept c low h w ws e
    request-kept (is-taken {h = h} ok low e) = taken-kept c low h ok e
    request-kept (is-put {h = h} {w = w} low g) = put-kept c low h w g
    request-kept (is-given {h = h} {w = w} ok low kd g) = given-kept c low h ok w g
    request-kept (is-bare {h = h} e) = still c (trim h) no_block (with_stock P c H []) refl (bare e)
    request-kept (is-trimmed {h = h} {w = w} {ws = ws} ok low e) = trimmed-kept c low h ok w ws e

  -- a call of the heap changes the entries that the heap's calls tell and those of the history alike
  passed_on : (x : Call) → is_pooled x ≡ false → (let o = step size H x in
      PoolKept size (suc k) (record { heap = o.heap; stock = P.stock }) (live_next k (names x) o.answer gs) (direct_next x o.answer f))
  passed_on x e =
      let a = (step size H x).answer in
      record {
        number = suc n;
        entries = live_next n (names x) a es;
        lost = _;
        holds = record {
          inv = step-inv size n H es f l K.inv x;
          split = λ c w. let z = off-pool x c e in omega (arith, K.split c w, aside n a es (names x) (pool_id c) w z, aside k a gs (names x) (pool_id c) w z);
          alone = λ c w low. alike n k a es gs (names x) c w (K.alone c w low);
          once = call-once k a gs (names x) K.once K.past;
          past = call-past k a gs (names x) K.past;
        };
      }

  heap-kept : (x : Call) → PoolKept size (suc k) (pass size P x).pool (live_next k (names x) (as_answer (pass size P x).answer) gs) (direct_next x (as_answer (pass size P x).answer) f)
  unfolding pass
  heap-kept x = by_cases (is_pooled x) (λ e. rw e (turned-away x 4)) (λ e. rw e (passed_on x e))

  pub call_kept : (x : PoolCall) → PoolKept size (suc k) (pool_step size P x).pool (live_next k (names (as_call x)) (as_answer (pool_step size P x).answer) gs) (direct_next (as_call x) (as_answer (pool_step size P x).answer) f)
  unfolding pool_step
  call_kept (to c x) = request-kept c (planned c (H.classes (pool_id c)) (P.stock c) x)
  call_kept (heap x) = heap-kept x

-- after every history
pub record AllKept (size : ℕ) (P : Pool) (gs : List Entry) (f : ℕ → Bool) : Type 0 where
  pub calls : ℕ
  pub kept : PoolKept size calls P gs f

history-kept : (size k : ℕ) (P : Pool) (gs : List Entry) (f : ℕ → Bool) → PoolKept size k P gs f → (xs : List PoolCall)
    → AllKept size (pool_from size P xs) (live_from k gs (observed_of (pool_events_from size P xs))) (direct_from f (observed_of (pool_events_from size P xs)))
history-kept size k P gs f K [] = record { calls = k; kept = K }
history-kept size k P gs f K (x ∷ xs) =
    history-kept size (suc k) (pool_step size P x).pool _ _ (call_kept size K.number k P K.entries gs f K.lost K.holds x) xs

pub new-kept : (size : ℕ) (rules : Rules) → PoolKept size 0 (new_pool rules) [] (λ x. false)
unfolding new_pool
new-kept size rules = record {
  number = 0;
  entries = [];
  lost = λ x. 0;
  holds = record { inv = start size rules; split = λ c w. refl; alone = λ c w e. refl; once = λ j i. omega arith; past = λ j i h. refl };
}

pub pool-kept : (size : ℕ) (rules : Rules) (xs : List PoolCall)
    → AllKept size (pool_after size rules xs) (live_from 0 [] (observed_of (pool_events size rules xs))) (direct_from (λ x. false) (observed_of (pool_events size rules xs)))
pool-kept size rules xs = history-kept size 0 (new_pool rules) [] (λ x. false) (new-kept size rules) xs
