-- Shifts of a 32-bit word that lose nothing, and what placing bits by them comes to.
use Rattle.facts.proofs.Prelude.{ℕ, ◌+◌, ◌-◌, ◌*◌, ◌/◌, ◌%◌, ◌^◌, ◌≤◌, ◌<◌, arith, mod-lt, div-lt_iff_lt-mul, ◌≡◌, sym, ◌∙◌, subst}
use lib.Pow.{pow_pos, pow-add, shl_exact, shr_lt, shr-shr}
use Rattle.fields.specs.Field.{bits, read, place}
use Rattle.fields.proofs.Parts.{read_small, place-high}

place-lt : (k s n w v : ℕ) → s + n ≤ k → w < 2 ^ k → place (bits s n) w v < 2 ^ k
place-lt k s n w v h l =
    let e : (k - (s + n)) + (s + n) ≡ k = omega arith in
    let same : place (bits s n) w v / 2 ^ (s + n) ≡ w / 2 ^ (s + n) = sym (shr-shr (place (bits s n) w v) s n) ∙ place-high s n w v ∙ shr-shr w s n in
    let above : w / 2 ^ (s + n) < 2 ^ (k - (s + n)) = shr_lt (k - (s + n)) (s + n) (subst (λ x. w < 2 ^ x) (sym e) l) in
    subst (λ x. place (bits s n) w v < 2 ^ x) e
    (subst (λ x. place (bits s n) w v < x) (sym (pow-add 2 (k - (s + n)) (s + n)))
    ((div-lt_iff_lt-mul (pow_pos (s + n))).0 (subst (λ x. x < 2 ^ (k - (s + n))) (sym same) above)))

-- d is what stands there, u what is put there
module _ (w s n v d u : ℕ) (hd : d ≡ read (bits s n) w) (hu : u ≡ v % 2 ^ n) (h : s + n ≤ 32) where
  old : d * 2 ^ s % 2 ^ 32 ≡ w / 2 ^ s % 2 ^ n * 2 ^ s
  old = rw hd (shl_exact n s 32 (read_small s n w) (omega arith))

  new : u * 2 ^ s % 2 ^ 32 ≡ v % 2 ^ n * 2 ^ s
  new = rw hu (shl_exact n s 32 (mod-lt v (pow_pos n)) (omega arith))

  pub places : w - d * 2 ^ s % 2 ^ 32 + u * 2 ^ s % 2 ^ 32 ≡ place (bits s n) w v
  places = rw (old, new)

  pub placed-lt : w < 2 ^ 32 → w - d * 2 ^ s % 2 ^ 32 + u * 2 ^ s % 2 ^ 32 < 2 ^ 32
  placed-lt l = rw places (place-lt 32 s n w v h l)
