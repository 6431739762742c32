-- Runs of pages: which pages one covers, and how often several cover a page.
use Rattle.std.specs.Prelude.{ℕ, ◌+◌, List, Bool, cond, ◌&&◌, leb, ltb}
use Rattle.std.proofs.Math.Option.{Option, none, some}
use Rattle.facts.specs.Lists.{total}

-- is page x one of the n pages from q on; as a number
abbrev pub in_run : ℕ → ℕ → ℕ → Bool
in_run n q x = leb q x && ltb x (q + n)

abbrev pub covers : ℕ → ℕ → ℕ → ℕ
covers n q x = cond (in_run n q x) 1 0

-- how often the runs of n pages that begin at these pages cover page x; a run or none
abbrev pub covers_all : ℕ → List ℕ → ℕ → ℕ
covers_all n qs x = total (λ q. covers n q x) qs

abbrev pub covers_run : ℕ → Option ℕ → ℕ → ℕ
covers_run n none x = 0
covers_run n (some q) x = covers n q x
