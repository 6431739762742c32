-- The ways of a request, each with what is known then: seven, so that what follows goes by these and not by nested tests.
use Rattle.facts.proofs.Prelude.{ℕ, arith, Bool, true, false, cond, not, List, [], ◌∷◌, ◌≡◌, refl, subst, ltb, length, not-false, elem, by_cases}
use Rattle.words.specs.Host.{bad_host}
use Rattle.classes.specs.Shape.{shape_of, class_count, pool_id}
use Rattle.model.specs.Calls.{Call, pooled_take, pooled_release}
use Rattle.model.specs.Class.{Class}
use Rattle.model.specs.Release.{of_kind}
use Rattle.pool.specs.Stock.{stock_most, blank}
use Rattle.pool.specs.Pool.{Plan, PoolAnswer, turn, stays, goes, PoolRequest, alloc, free, trim, host_in, plan_alloc, plan_free, plan_trim, plan_of, plan, is_granted, granted, no_block, freed}

pub data Planned (c : ℕ) (s : Class) (st : List ℕ) : PoolRequest → Plan → Type 0 where
  is_turned : {x : PoolRequest} (n : ℕ) → Planned c s st x (turn n)
  is-popped : {h : ℕ} {w : ℕ} {ws : List ℕ} → ltb c class_count ≡ true → st ≡ w ∷ ws → Planned c s st (alloc h) (stays (granted w) ws)
  is-taken : {h : ℕ} → bad_host h ≡ false → ltb c class_count ≡ true → st ≡ [] → Planned c s st (alloc h) (goes (pooled_take c h blank) [])
  is-put : {h w : ℕ} → ltb c class_count ≡ true → is_granted (shape_of (pool_id c)) s st w ≡ true → Planned c s st (free h w) (stays freed (w ∷ st))
  is-given : {h w : ℕ} → bad_host h ≡ false → ltb c class_count ≡ true → of_kind (shape_of (pool_id c)).kind w ≡ true → is_granted (shape_of (pool_id c)) s st w ≡ true
      → Planned c s st (free h w) (goes (pooled_release c h (w ∷ [])) st)
  is-bare : {h : ℕ} → st ≡ [] → Planned c s st (trim h) (stays no_block [])
  is-trimmed : {h : ℕ} {w : ℕ} {ws : List ℕ} → bad_host h ≡ false → ltb c class_count ≡ true → st ≡ w ∷ ws → Planned c s st (trim h) (goes (pooled_release c h (w ∷ [])) ws)

planned-cond : {c : ℕ} {s : Class} {st : List ℕ} {x : PoolRequest} (b : Bool) (n : ℕ) (p : Plan) → (b ≡ false → Planned c s st x p) → Planned c s st x (cond b (turn n) p)
planned-cond true n p f = is_turned n
planned-cond false n p f = f refl

module _ (c : ℕ) (s : Class) (low : ltb c class_count ≡ true) where
  alloc-planned : (st : List ℕ) (h : ℕ) → bad_host h ≡ false → Planned c s st (alloc h) (plan_alloc c h st)
  unfolding plan_alloc
  alloc-planned [] h ok = is-taken ok low refl
  alloc-planned (w ∷ ws) h ok = is-popped low refl

  trim-planned : (st : List ℕ) (h : ℕ) → bad_host h ≡ false → Planned c s st (trim h) (plan_trim c h st)
  unfolding plan_trim
  trim-planned [] h ok = is-bare refl
  trim-planned (w ∷ ws) h ok = is-trimmed ok low refl

  granted-planned : (st : List ℕ) (h w : ℕ) → bad_host h ≡ false → of_kind (shape_of (pool_id c)).kind w ≡ true → is_granted (shape_of (pool_id c)) s st w ≡ true
      → Planned c s st (free h w) (cond (ltb (length st) (stock_most c)) (stays freed (w ∷ st)) (goes (pooled_release c h (w ∷ [])) st))
  granted-planned st h w ok k out = by_cases (ltb (length st) (stock_most c)) (λ e. rw e (is-put low out)) (λ e. rw e (is-given ok low k out))

  free-planned : (st : List ℕ) (h w : ℕ) → bad_host h ≡ false → Planned c s st (free h w) (plan_free c s st h w)
  unfolding plan_free
  free-planned st h w ok =
      planned-cond _ 9 _ (λ k.
      planned-cond _ 10 _ (λ g.
      granted-planned st h w ok (not-false (of_kind (shape_of (pool_id c)).kind w) k) (not-false (is_granted (shape_of (pool_id c)) s st w) g)))

  request-planned : (st : List ℕ) (x : PoolRequest) → bad_host (host_in x) ≡ false → Planned c s st x (plan_of c s st x)
  request-planned st (alloc h) ok = alloc-planned st h ok
  request-planned st (free h w) ok = free-planned st h w ok
  request-planned st (trim h) ok = trim-planned st h ok

pub planned : (c : ℕ) (s : Class) (st : List ℕ) (x : PoolRequest) → Planned c s st x (plan c s st x)
unfolding plan
planned c s st x = planned-cond _ 3 _ (λ ok. planned-cond _ 4 _ (λ l. request-planned c s (not-false (ltb c class_count) l) st x ok))

-- ---- the numbers of a request that is turned away
record Low (p : Plan) : Type 0 where
  low : (n : ℕ) → p ≡ turn n → elem n (3 ∷ 4 ∷ 9 ∷ 10 ∷ []) ≡ true

low_turn : (m : ℕ) → elem m (3 ∷ 4 ∷ 9 ∷ 10 ∷ []) ≡ true → Low (turn m)
low_turn m h = record { low = λ n e. let z : m ≡ n = cc in subst (λ j. elem j (3 ∷ 4 ∷ 9 ∷ 10 ∷ []) ≡ true) z h }

low-stays : (a : PoolAnswer) (st : List ℕ) → Low (stays a st)
low-stays a st = record { low = λ n e. let z : ◌≡◌ {A = ℕ} 0 1 = cc in absurd (omega arith) }

low_goes : (y : Call) (st : List ℕ) → Low (goes y st)
low_goes y st = record { low = λ n e. let z : ◌≡◌ {A = ℕ} 0 1 = cc in absurd (omega arith) }

low-cond : (b : Bool) (p q : Plan) → Low p → Low q → Low (cond b p q)
low-cond true p q h k = h
low-cond false p q h k = k

free-low : (c : ℕ) (s : Class) (st : List ℕ) (h w : ℕ) → Low (plan_free c s st h w)
unfolding plan_free
free-low c s st h w =
    low-cond (not (of_kind (shape_of (pool_id c)).kind w)) (turn 9) _ (low_turn 9 refl)
    (low-cond (not (is_granted (shape_of (pool_id c)) s st w)) (turn 10) _ (low_turn 10 refl)
    (low-cond (ltb (length st) (stock_most c)) (stays freed (w ∷ st)) (goes (pooled_release c h (w ∷ [])) st) (low-stays freed (w ∷ st)) (low_goes (pooled_release c h (w ∷ [])) st)))

alloc-low : (c h : ℕ) (st : List ℕ) → Low (plan_alloc c h st)
unfolding plan_alloc
alloc-low c h [] = low_goes (pooled_take c h blank) []
alloc-low c h (w ∷ ws) = low-stays (granted w) ws

trim-low : (c h : ℕ) (st : List ℕ) → Low (plan_trim c h st)
unfolding plan_trim
trim-low c h [] = low-stays no_block []
trim-low c h (w ∷ ws) = low_goes (pooled_release c h (w ∷ [])) ws

request-low : (c : ℕ) (s : Class) (st : List ℕ) (x : PoolRequest) → Low (plan_of c s st x)
request-low c s st (alloc h) = alloc-low c h st
request-low c s st (free h w) = free-low c s st h w
request-low c s st (trim h) = trim-low c h st

pub plan-low : (c : ℕ) (s : Class) (st : List ℕ) (x : PoolRequest) (n : ℕ) → plan c s st x ≡ turn n → elem n (3 ∷ 4 ∷ 9 ∷ 10 ∷ []) ≡ true
unfolding plan
plan-low c s st x =
    (low-cond (bad_host (host_in x)) (turn 3) _ (low_turn 3 refl) (low-cond (not (ltb c class_count)) (turn 4) (plan_of c s st x) (low_turn 4 refl) (request-low c s st x))).low
