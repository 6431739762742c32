use Rattle.facts.proofs.Prelude.{arith, rules}
use Rattle.chunks.proofs.MatchSteps.{zeros_are}
use Rattle.chunks.proofs.matching.match_in.Goals as goal

pub match_with-requires : goal.match_with-requires
match_with-requires g c = record { cases = search rules; room_pre = record { saved = omega arith; counts = omega arith; zeros = zeros_are g.row.N } }
