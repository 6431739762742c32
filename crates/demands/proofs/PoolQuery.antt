-- What the pool's reading calls tell: a granted block, its class, the blocks in stock.
--     granted-class   of a granted block, on any book whose FORMAT and FRONTIER are in their ranges, OWNER of its page has the class
--     stocked-rep, few-rep    COUNT is the length of the stock, and in its range, on a book that stands for a pool
use Rattle.facts.proofs.Prelude.{ℕ, zero, suc, ◌+◌, ◌-◌, ◌≤◌, arith, true, ◌&&◌, List, ◌≡◌, refl}
use Rattle.facts.proofs.Prelude.{sym, ap, subst, eqb, ltb, leb, length, eqb-true, le-leb, ltb-true, leb-true, and_left, and_right, every-at}
use Rattle.words.specs.Limits.{class_rows}
use Rattle.classes.specs.Shape.{shape_of, class_count, pool_id, number_of}
use Rattle.classes.proofs.Shapes.{number-pool}
use Rattle.fields.specs.Field.{arena, page, size, frontier, owner, get}
use Rattle.fields.specs.Ranges.{meta_fault, format_valid, head_valid}
use Rattle.model.specs.Release.{of_kind}
use Rattle.pages.specs.Runs.{whole, of_run}
use Rattle.pages.specs.Stack.{page_at}
use Rattle.calls.specs.Out.{start_of, in_run_of, out_at}
use Rattle.trace.specs.Words.{owner_at}
use Rattle.pool.specs.Stock.{count_max}
use Rattle.poolcalls.specs.Stock.{count_in, stock_from, stock_in}
use Rattle.poolcalls.specs.Calls.{count_valid, stocked_in}
use Rattle.poolrefinement.specs.way.Represents.{StockRep}
use Rattle.vigbuso.specs.Faults.{admits}
use Rattle.vigbuso.specs.Pool.{class_on, granted_on, stocked_on}

-- ---- any book
module _ (n : ℕ) (b : List ℕ) (c w : ℕ) (o : out_at n b c (shape_of c) w ≡ true) where
  abbrev p : ℕ
  p = page_at w

  abbrev q : ℕ
  q = start_of b w

  in_run_lem : in_run_of n b (shape_of c) c w ≡ true
  unfolding out_at
  in_run_lem = and_left (in_run_of n b (shape_of c) c w) _ o

  owner-class : owner_at (get b (arena frontier)) b w ≡ suc c
  unfolding in_run_of whole owner_at
  owner-class =
      let t₁ = and_right (ltb p n) _ in_run_lem in
      let t₂ = and_right (ltb p (get b (arena frontier))) _ t₁ in
      let t₃ = and_right (leb q p) _ t₂ in
      let t₄ = and_right (ltb p (q + (shape_of c).pages)) _ t₃ in
      let all = and_right (leb (q + (shape_of c).pages) (get b (arena frontier))) _ (and_right (leb (q + (shape_of c).pages) n) _ t₄) in
      let low = leb-true q p (and_left (leb q p) _ t₂) in
      let high = ltb-true p (q + (shape_of c).pages) (and_left (ltb p (q + (shape_of c).pages)) _ t₃) in
      let here : q + (p - q) ≡ p = omega arith in
      let z : of_run b c q (p - q) ≡ true = every-at (of_run b c q) (shape_of c).pages (p - q) all (omega arith) in
      rw (and_left (ltb p (get b (arena frontier))) _ t₁) (subst (λ (x : ℕ). get b (page owner x) ≡ suc c) here (eqb-true (get b (page owner (q + (p - q)))) (suc c) (and_left (eqb (get b (page owner (q + (p - q)))) (suc c)) _ z)))

-- OWNER is one more than the id
pub owner-number : (d k : ℕ) → number_of d ≡ k → number_of (suc d - 1) ≡ k
owner-number d k e = let z : d ≡ suc d - 1 = omega arith in subst (λ x. number_of x ≡ k) z e

pub granted-class : (b : List ℕ) (c w : ℕ) → head_valid (get b (arena size)) b ≡ true → granted_on b c w ≡ true → class_on b w ≡ c
unfolding granted_on class_on admits
granted-class b c w v g =
    let n = get b (arena size) in
    let sh = shape_of (pool_id c) in
    let fit = and_left (eqb (meta_fault b) 0 && ltb c class_count) _ g in
    let g₂ = and_right (format_valid b) _ (and_right (eqb (meta_fault b) 0 && ltb c class_count) _ g) in
    let out = and_left (out_at n b (pool_id c) sh w) _ (and_right (of_kind sh.kind w) _ g₂) in
    let low = ltb-true c class_count (and_right (eqb (meta_fault b) 0) _ fit) in
    rw (
      and_left (eqb (meta_fault b) 0) _ fit,
      v,
      owner-class n b (pool_id c) w out,
      le-leb 1 (suc (pool_id c)) (omega arith),
      le-leb (suc (pool_id c)) class_rows (omega arith),
    )
    (owner-number (pool_id c) c (number-pool c))

-- ---- a book that stands for a pool
module _ (n : ℕ) (b : List ℕ) (c : ℕ) (st : List ℕ) (r : StockRep n b c st) where
  count-length : (m : ℕ) → length (stock_from b c m) ≡ m
  count-length zero = refl
  count-length (suc m) = ap suc (count-length m)

  pub few-rep : length (stock_in b c) ≤ count_max
  few-rep = rw (count-length (count_in b c)) r.few

  pub stocked-rep : format_valid b ≡ true → admits b c ≡ true → stocked_on b c ≡ length (stock_in b c)
  unfolding stocked_on stocked_in count_valid
  stocked-rep f ok = rw (ok, f, le-leb (count_in b c) count_max r.few) (sym (count-length (count_in b c)))
