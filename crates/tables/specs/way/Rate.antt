-- What the test of a growth and a top alone answers (src/rate.rt).
use Rattle.std.specs.Prelude.{ℕ, cond}
use Rattle.tables.specs.Table.{bad_rate, bad_top}

-- the number by growth and top alone, or 0
abbrev pub rate_code : ℕ → ℕ → ℕ → ℕ
rate_code a b top = cond (bad_rate a b) 22 (cond (bad_top top) 23 0)
