-- Whether a stock has room, without a division.
use Rattle.facts.proofs.Prelude.{ℕ, ◌+◌, ◌*◌, ◌/◌, ◌^◌, ◌≤◌, ◌<◌, arith, mul-le-mul, le-div_iff_mul-le, Bool, true, false, not, ◌≡◌, refl, sym, ap, ◌∙◌, eqb}
use Rattle.facts.proofs.Prelude.{ltb, leb, lt-ltb, le-ltb, le-leb, lt-leb, eqb-true, ltb-true, ltb-false, leb-true, leb-false, every, below, by_cases, every-at}
use Rattle.std.proofs.Common.{w32, Fits}
use Rattle.classes.specs.declared.Shape.{Shape}
use Rattle.classes.specs.Sizes.{small_sizes}
use Rattle.classes.specs.Shape.{shape_of, small_shape}
use Rattle.classes.proofs.Shapes.{shape-sound}
use Rattle.lists.proofs.InverseLaws.{narrow}
use Rattle.pool.specs.Stock.{stock_least, stock_limit, stock_bytes, clamped, stock_most}
use Rattle.stock.specs.way.Ends.{is_full}

-- a number between the limits, or the limit next to it
clamped-least : (x : ℕ) → stock_least ≤ clamped x
clamped-least x =
    by_cases (ltb x stock_least) (λ e. rw e (omega arith))
    (λ e. rw e (by_cases (ltb stock_limit x) (λ f. rw f (omega arith)) (λ f. rw f (ltb-false x stock_least e))))

clamped-limit : (x : ℕ) → clamped x ≤ stock_limit
clamped-limit x =
    by_cases (ltb x stock_least) (λ e. rw e (omega arith))
    (λ e. rw e (by_cases (ltb stock_limit x) (λ f. rw f (omega arith)) (λ f. rw f (ltb-false stock_limit x f))))

-- between the limits it is as the number
below-clamped : (k x : ℕ) → stock_least ≤ k → k < stock_limit → ltb k (clamped x) ≡ ltb k x
below-clamped k x l h =
    by_cases (ltb x stock_least) (λ e. rw e (le-ltb k stock_least l ∙ sym (le-ltb k x (omega (arith, ltb-true x stock_least e)))))
    (λ e. rw e (by_cases (ltb stock_limit x) (λ f. rw f (lt-ltb k stock_limit h ∙ sym (lt-ltb k x (omega (arith, ltb-true stock_limit x f))))) (λ f. rw f)))

-- classes whose blocks are at most 1,024 bytes: 255 of them are within 256 KiB
all-limited : every (λ c. eqb (stock_most c) stock_limit) (below 22) ≡ true
unfolding stock_most shape_of small_shape small_sizes
all-limited = refl

module _ (c k : ℕ) where
  pub room-limited : c < 22 → ltb k 255 ≡ ltb k (stock_most c)
  room-limited h = ap (ltb k) (sym (eqb-true (stock_most c) stock_limit (every-at (λ j. eqb (stock_most j) stock_limit) 22 c all-limited h)))

  pub room-few : k < 8 → true ≡ ltb k (stock_most c)
  unfolding stock_most
  room-few h = sym (lt-ltb k (clamped (stock_bytes / ((shape_of c).block * 16))) (omega (arith, clamped-least (stock_bytes / ((shape_of c).block * 16)))))

  pub room-none : 255 ≤ k → false ≡ ltb k (stock_most c)
  unfolding stock_most
  room-none h = sym (le-ltb k (clamped (stock_bytes / ((shape_of c).block * 16))) (omega (arith, clamped-limit (stock_bytes / ((shape_of c).block * 16)))))

  module _ (sh : Shape) (e : sh ≡ shape_of c) (l : 8 ≤ k) (h : k < 255) where
    pub room_fits : Fits w32 ((k + 1) * sh.block)
    room_fits =
        let a : k + 1 ≤ 255 = omega arith in
        let b : sh.block ≤ 2 ^ 15 = rw e (narrow (shape_of c) (shape-sound c)) in
        let p : (k + 1) * sh.block ≤ 255 * 2 ^ 15 = mul-le-mul a b in
        record { fits = omega arith }

    wide : 0 < (shape_of c).block * 16
    wide = omega (arith, (shape-sound c).wide)

    pub room_by : leb ((k + 1) * sh.block) 16384 ≡ ltb k (stock_most c)
    unfolding stock_most
    room_by =
        rw (e, below-clamped k (stock_bytes / ((shape_of c).block * 16)) l h)
        (by_cases (leb ((k + 1) * (shape_of c).block) 16384)
        (λ t.
        let p = leb-true ((k + 1) * (shape_of c).block) 16384 t in
        t ∙ sym (lt-ltb k (stock_bytes / ((shape_of c).block * 16)) ((le-div_iff_mul-le wide).1 (omega arith))))
        (λ t.
        let p = leb-false ((k + 1) * (shape_of c).block) 16384 t in
        t ∙ sym (le-ltb k (stock_bytes / ((shape_of c).block * 16)) (none_below p))))
      where
        none_below : 16384 < (k + 1) * (shape_of c).block → stock_bytes / ((shape_of c).block * 16) ≤ k
        none_below p =
            by_cases (leb (k + 1) (stock_bytes / ((shape_of c).block * 16)))
            (λ t. let q : (k + 1) * ((shape_of c).block * 16) ≤ stock_bytes = (le-div_iff_mul-le wide).0 (leb-true (k + 1) (stock_bytes / ((shape_of c).block * 16)) t) in absurd (omega arith))
            (λ t. let q = leb-false (k + 1) (stock_bytes / ((shape_of c).block * 16)) t in omega arith)

pub room-limit : (c : ℕ) → stock_most c ≤ stock_limit
unfolding stock_most
room-limit c = clamped-limit (stock_bytes / ((shape_of c).block * 16))

-- a full stock
module _ (c k : ℕ) where
  pub full-beyond : 255 < k → false ≡ is_full c k
  full-beyond h = rw (lt-leb k 255 h)

  pub full-told : (t : Bool) → k ≤ 255 → t ≡ ltb k (stock_most c) → not t ≡ is_full c k
  full-told t h e = rw (le-leb k 255 h, ← e)
