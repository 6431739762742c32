-- How many blocks a free lets a stock hold: no more than it has room for, and by the bytes of a block.
use Rattle.facts.proofs.Prelude.{ℕ, suc, ◌*◌, ◌/◌, ◌≤◌, ◌<◌, arith, le-div_iff_mul-le, ◌↔◌, ◌⊎◌, inl, inr, ltb, ltb-true, ltb-false, by_cases}
use Rattle.classes.specs.Shape.{shape_of}
use Rattle.classes.specs.Sizes.{granule_bytes}
use Rattle.classes.proofs.Shapes.{shape-sound}
use Rattle.pool.specs.Stock.{count_max, stock_bytes, stock_least, stock_limit, clamped, stock_most}
use Rattle.pool.specs.way.Claims.{StockMost}

clamped-count : (k : ℕ) → clamped k ≤ count_max
clamped-count k =
    by_cases (ltb k stock_least)
    (λ e. rw e (omega arith))
    (λ e. rw e (by_cases (ltb stock_limit k) (λ u. rw u (omega arith)) (λ u. rw u (omega (arith, ltb-false stock_limit k u)))))

pub most-count : (c : ℕ) → stock_most c ≤ count_max
unfolding stock_most
most-count c = clamped-count (stock_bytes / ((shape_of c).block * granule_bytes))

-- below the clamped number: below the least, or below the limit and the number
below-clamped : (k q : ℕ) → (k < clamped q) ↔ ((k < stock_least) ⊎ ((k < stock_limit) × (suc k ≤ q)))
below-clamped k q =
    by_cases (ltb q stock_least)
    (λ e. let z = ltb-true q stock_least e in rw e (λ h. inl h, λ o. elim o [ inl h ↦ h | inr h ↦ omega (arith, h.1) ]))
    (λ e. let y = ltb-false q stock_least e in
    rw e (by_cases (ltb stock_limit q)
    (λ u. let z = ltb-true stock_limit q u in rw u (λ h. inr (h, omega arith), λ o. elim o [ inl h ↦ omega arith | inr h ↦ h.0 ]))
    (λ u. let z = ltb-false stock_limit q u in rw u (λ h. inr (omega arith, omega arith), λ o. elim o [ inl h ↦ omega arith | inr h ↦ omega (arith, h.1) ]))))

pub stock-most : (c k : ℕ) → StockMost c k
unfolding stock_most
stock-most c k =
    let d = (shape_of c).block * granule_bytes in
    let t = below-clamped k (stock_bytes / d) in
    let u = le-div_iff_mul-le {k = d} {x = suc k} {y = stock_bytes} (omega (arith, (shape-sound c).wide)) in (
      (λ h. elim (t.0 h) [ inl a ↦ inl a | inr a ↦ inr (a.0, u.0 a.1) ]),
      (λ o. elim o [ inl a ↦ t.1 (inl a) | inr a ↦ t.1 (inr (a.0, u.1 a.1)) ]),
    )
