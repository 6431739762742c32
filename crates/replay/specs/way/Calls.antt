-- The call of a line on the heap (src/arena_calls.rt): it is the exported function's, on the line's numbers, and what that one returns
-- and writes is put down as the answers. a are the places for answers before the call.
--     Made      the book and the answers after a call
use Rattle.std.specs.Prelude.{◌≡◌, ℕ, List, [], ◌∷◌, slice_index, slice_set}
use Rattle.arena.specs.Calls.{Committed, Done}
use Rattle.runs.specs.Answer.{commit_answer, commit_code}
use Rattle.direct.specs.Answer.{grown_as, grow_code, Report}
use Rattle.vigbuso.specs.Direct.{first_out, fresh_out, grown_out, report_code, figures_out}
use Rattle.replay.specs.way.Line.{low}

pub record Made (b r b' r' : List ℕ) : Type 0 where
  pub book : b' ≡ b
  pub answers : r' ≡ r

abbrev pub committed : Committed → List ℕ → List ℕ
committed o a = slice_set (slice_set (slice_set a 0 (commit_code (commit_answer o))) 1 (first_out (commit_answer o) (low (slice_index a 1)))) 2 (fresh_out (commit_answer o) (low (slice_index a 2)))

abbrev pub grown : Done → List ℕ → List ℕ
grown o a = slice_set (slice_set a 0 (grow_code (grown_as o.code o.yes))) 1 (grown_out (grown_as o.code o.yes) (low (slice_index a 1)))

abbrev pub six : List ℕ
six = 0 ∷ 0 ∷ 0 ∷ 0 ∷ 0 ∷ 0 ∷ []

abbrev pub reported : Report → List ℕ → List ℕ
reported o a =
    let f = figures_out o six in
    slice_set (slice_set (slice_set (slice_set (slice_set (slice_set (slice_set a 0 (report_code o)) 1 (slice_index f 0)) 2 (slice_index f 1)) 3 (slice_index f 2)) 4 (slice_index f 3)) 5 (slice_index f 4)) 6 (slice_index f 5)
