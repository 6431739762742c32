-- A product with the inverse divides: x is below 2 ^ 16, and d at most 2 ^ 15.
--     by-inverse      the quotient stands above the point
--     behind-point, past-point          what stands behind it is below the inverse exactly if there is no remainder
use Rattle.facts.proofs.Prelude.{ℕ, suc, ◌+◌, ◌-◌, ◌*◌, ◌/◌, ◌%◌, ◌^◌, ◌≤◌, ◌<◌, arith, div-add-mod', div-le_self}
use Rattle.facts.proofs.Prelude.{mod-lt, mul-le-mul, mul-le-mul_right, lt_of_mul-lt-mul_right, ◌≡◌, sym, ap, ◌∙◌}
use mir.Val.{Fits}
use mir.Syntax.{w32, w64}
use lib.Pow.{high, low}
use Rattle.classes.specs.declared.Shape.{Shape}
use Rattle.classes.specs.Shape.{inverse}
use Rattle.classes.specs.way.Sound.{Sound}

-- what the inverse of d has too much, d times
abbrev excess : ℕ → ℕ
excess d = d - 1 - (2 ^ 32 - 1) % d

too_much : (d : ℕ) → 1 ≤ d → inverse d * d ≡ 2 ^ 32 + excess d
unfolding inverse
too_much d h =
    let a : (2 ^ 32 - 1) / d * d + (2 ^ 32 - 1) % d ≡ 2 ^ 32 - 1 = div-add-mod' (2 ^ 32 - 1) d in
    let b : (2 ^ 32 - 1) % d < d = mod-lt (2 ^ 32 - 1) (omega arith) in
    omega arith

-- k the quotient and r the remainder of x
module _ (d m e : ℕ) (h : m * d ≡ 2 ^ 32 + e) (he : e < d) (hd : d ≤ 2 ^ 15) (x k r : ℕ) (hx : k * d + r ≡ x) (hr : r < d) (small : x < 2 ^ 16) where
  little : (k + 1) * e < m
  little =
      let a : (k + 1) * d ≤ 98303 = omega arith in
      let z : e ≤ 32767 = omega arith in
      let b : (k + 1) * d * e ≤ 98303 * 32767 = mul-le-mul a z in
      let c : (k + 1) * e * d < m * d = omega arith in
      lt_of_mul-lt-mul_right d c

  product : x * m ≡ k * 2 ^ 32 + (k * e + r * m)
  product =
      let a : k * (m * d) ≡ k * (2 ^ 32 + e) = ap (λ z. k * z) h in
      let b : x * m ≡ (k * d + r) * m = ap (λ z. z * m) (sym hx) in
      omega arith

  behind : k * e + r * m < 2 ^ 32
  behind =
      let a : suc r * m ≤ d * m = mul-le-mul_right m hr in
      omega (arith, little)

  quotient : x * m / 2 ^ 32 ≡ k
  quotient = ap (λ z. z / 2 ^ 32) product ∙ high k 32 behind

  rest : x * m % 2 ^ 32 ≡ k * e + r * m
  rest = ap (λ z. z % 2 ^ 32) product ∙ low k 32 behind

  rest-none : r ≡ 0 → x * m % 2 ^ 32 < m
  rest-none z = let a : r * m ≡ 0 * m = ap (λ y. y * m) z in omega (arith, rest, little)

  rest_some : 1 ≤ r → m ≤ x * m % 2 ^ 32
  rest_some z = let a : 1 * m ≤ r * m = mul-le-mul_right m z in omega (arith, rest)

module _ (x d : ℕ) (small : x < 2 ^ 16) (some : 1 ≤ d) (few : d ≤ 2 ^ 15) where
  positive : 0 < d
  positive = omega arith

  pub by-inverse : x * inverse d / 2 ^ 32 ≡ x / d
  by-inverse = quotient d (inverse d) (excess d) (too_much d some) (omega arith) few x (x / d) (x % d) (div-add-mod' x d) (mod-lt x positive) small

  pub behind_point : x % d ≡ 0 → x * inverse d % 2 ^ 32 < inverse d
  behind_point = rest-none d (inverse d) (excess d) (too_much d some) (omega arith) few x (x / d) (x % d) (div-add-mod' x d) (mod-lt x positive) small

  pub past_point : 1 ≤ x % d → inverse d ≤ x * inverse d % 2 ^ 32
  past_point = rest_some d (inverse d) (excess d) (too_much d some) (omega arith) few x (x / d) (x % d) (div-add-mod' x d) (mod-lt x positive) small

-- ---- what the code asks
inverse-le : (d : ℕ) → inverse d ≤ 2 ^ 32
unfolding inverse
inverse-le d = omega (arith, div-le_self (2 ^ 32 - 1) d)

-- a block is no longer than its run
pub narrow : (sh : Shape) → Sound sh → sh.block ≤ 2 ^ 15
narrow sh s =
    let l : 1 * sh.block ≤ sh.capacity * sh.block = mul-le-mul_right sh.block s.blocks in
    omega (arith, s.fits, s.short)

module _ (sh : Shape) (s : Sound sh) (x : ℕ) (h : x < 2 ^ 16) where
  pub product-fits : Fits w64 (x * sh.inverse)
  product-fits =
      let a : x ≤ 65535 = omega arith in
      let b : sh.inverse ≤ 2 ^ 32 = omega (arith, s.inverts, inverse-le sh.block) in
      let c : x * sh.inverse ≤ 65535 * 2 ^ 32 = mul-le-mul a b in
      record { fits = omega arith }

  pub divides : x * sh.inverse / 2 ^ 32 ≡ x / sh.block
  divides = rw s.inverts (by-inverse x sh.block h s.wide (narrow sh s))

  pub quotient_fits : Fits w32 (x * sh.inverse / 2 ^ 32)
  quotient_fits = record { fits = omega (arith, divides, div-le_self x sh.block) }
