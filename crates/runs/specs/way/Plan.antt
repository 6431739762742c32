-- What a commit of m pages finds among the holes, by the model's own choice.
use Rattle.std.specs.Prelude.{ℕ, zero, suc, Bool, cond, List, Result, Ok, Err}
use Rattle.std.specs.Prelude as Code
use Rattle.std.proofs.Math.Option.{Option, none, some}
use Rattle.facts.specs.Lists.{every}
use Rattle.words.specs.declared.refusal.Refusal.{Refusal}
use Rattle.words.specs.declared.refusal.Refusal.TheVariants.{BookWord}
use Rattle.model.specs.declared.Hole.{Hole}
use Rattle.model.specs.HoleStore.{choose, hole_before, hole_after}
use Rattle.runs.specs.declared.holes.Edges.{Edges}
use Rattle.runs.specs.declared.holes.Neighbours.{Neighbours}
use Rattle.arena.specs.Valid.{hole_valid}

-- an index with one added, 0 for none
abbrev pub index_code : Option ℕ → ℕ
index_code none = 0
index_code (some i) = suc i

-- every hole is in its range, and the code of the chosen one
pub record Choice : Type 0 where
  pub valid : Bool
  pub code : ℕ

-- nothing is found where a hole is out of its range
abbrev pub plan_as : Bool → ℕ → Choice
plan_as valid code = record { valid = valid; code = cond valid code 0 }

-- total and f are the words HOLE_PAGES and FRONTIER
unfoldable pub plan_of : List Hole → ℕ → ℕ → ℕ → Choice
plan_of hs total f m = plan_as (every (hole_valid total f) hs) (index_code (choose m hs))

-- what a search answers for the plan p: the chosen hole, or that a hole is out of its range; a hole's code, and the hole of a code
abbrev pub hole_of : ℕ → Code.Option ℕ
hole_of zero = Code.None
hole_of (suc i) = Code.Some i

abbrev pub hole_code : Code.Option ℕ → ℕ
hole_code Code.None = 0
hole_code (Code.Some i) = suc i

abbrev pub chosen : Choice → Result (Code.Option ℕ) Refusal
chosen p = cond p.valid (Ok (hole_of p.code)) (Err BookWord)

-- ---- what a give of a run finds: the hole before it and the one after, by the model's own search
unfoldable pub neighbours_of : List Hole → Edges → Neighbours
neighbours_of hs run = record { before = index_code (hole_before run.first hs); after = index_code (hole_after run.end hs) }
