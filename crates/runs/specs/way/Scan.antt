-- What the functions over a lent slice of holes answer.
use Rattle.std.specs.Prelude.{ℕ, suc, ◌+◌, ◌-◌, ◌*◌, ◌/◌, ◌%◌, ◌^◌, cond, List, [], ◌∷◌, nat_le}
use Rattle.model.specs.declared.Hole.{Hole}
use Rattle.model.specs.HoleStore as Model
use Rattle.model.specs.HoleStore.{ends_at, starts_at}
use Rattle.runs.specs.declared.holes.Best.{Best}
use Rattle.runs.specs.declared.holes.Edges.{Edges}
use Rattle.runs.specs.declared.holes.Neighbours.{Neighbours}

-- what stands past the end of a list of holes
abbrev pub no_hole : Hole
no_hole = Model.hole 0 0

-- a hole as one number, its key, where so many pages are needed: the pages beyond those, modulo 2 to the 32nd, so that a hole too
-- short comes after all that are long enough; then the first page
abbrev pub over : ℕ → ℕ → ℕ
over need n = (n + (2 ^ 32 - need)) % 2 ^ 32

abbrev pub key : ℕ → Hole → ℕ
key need h = over need h.pages * 2 ^ 32 + h.first

-- no hole: no key is greater
abbrev pub no_best : Best
no_best = record { key = 18446744073709551615; code = 0 }

-- the hole h at i, unless the best of those behind it has a lesser key
abbrev pub better_of : ℕ → ℕ → Hole → Best → Best
better_of need i h b = cond (nat_le (key need h) b.key) (record { key = key need h; code = i + 1 }) b

-- the holes at index i and on weighed one by one, the last one first; x is what those behind them came to
unfoldable pub fold_holes : {X : Type 0} → (ℕ → Hole → X → X) → ℕ → List Hole → X → X
fold_holes f i [] x = x
fold_holes f i (h ∷ hs) x = f i h (fold_holes f (suc i) hs x)

-- the best of the holes at index i and on, and of b, that of those behind them
abbrev pub best_of : ℕ → ℕ → List Hole → Best → Best
best_of need i hs b = fold_holes (better_of need) i hs b

-- what the least key says: its hole, if that has enough pages
abbrev pub code_at : ℕ → Best → ℕ
code_at need b = cond (nat_le (2 ^ 32) (b.key / 2 ^ 32 + need)) 0 b.code

-- ---- the holes that touch a run to be given, by their codes
abbrev pub no_neighbours : Neighbours
no_neighbours = record { before = 0; after = 0 }

-- the hole h at i, where it ends at the run's first page or starts at its end, else those behind it
abbrev pub neighbours_at : Edges → ℕ → Hole → Neighbours → Neighbours
neighbours_at run i h b = record { before = cond (ends_at run.first h) (i + 1) b.before; after = cond (starts_at run.end h) (i + 1) b.after }

abbrev pub neighbours_from : Edges → ℕ → List Hole → Neighbours → Neighbours
neighbours_from run i hs b = fold_holes (neighbours_at run) i hs b
