-- The default of a `match` on a number.
use Rattle.facts.proofs.Prelude.{ℕ, zero, suc, ◌≤◌, zero-le, arith, ◌≡◌}

-- a number that is none of the keys 0 to n - 1, as the default arm knows it
abbrev pub Past : ℕ → ℕ → Type 0
Past i zero = Unit
Past i (suc n) = Past i n × (i ≡ n → ⊥)

pub past : (i n : ℕ) → Past i n → n ≤ i
past i zero h = zero-le
past i (suc n) h = omega (arith, past i n h.0, h.1)
