-- What the loop over a trace's words ensures, and the whole trace.
use Rattle.std.specs.Prelude.{ℕ, ◌≤◌, List, [], ◌∷◌, ◌≡◌, length, drop}
use Rattle.std.proofs.Math.ListN as ListN
use Rattle.rules.specs.Rules.{rules_of}
use Rattle.arena.specs.Open.{opened}
use Rattle.trace.specs.declared.course.Course.{Course}
use Rattle.trace.specs.Words.{begins, goes, carried, room_of, Traced, ending}
use Rattle.trace.specs.way.Steps.{Lent, going_of}

-- from x, an opened book with both lists as they were lent, it came to y
pub record Coursed (r : Course) (n : ℕ) (x y : Lent) (ws : List ℕ) : Type 0 where
  pub carried : r.carried ≡ carried n (room_of x.blocks x.figures) (begins x.book) ws
  pub goes : going_of y r.tally ≡ goes n (begins x.book) (ListN.take r.carried ws)
  pub blocks : drop r.tally.at y.blocks ≡ drop r.tally.at x.blocks
  pub figures : drop r.tally.written y.figures ≡ drop r.tally.written x.figures
  pub handed : r.tally.at ≤ length y.blocks
  pub written : r.tally.written ≤ length y.figures

-- what the words carried out come to, from x as it was lent
abbrev pub end_of : ℕ → Lent → List ℕ → Traced
end_of n x ws =
    let k = carried n (room_of x.blocks x.figures) (begins (opened n (rules_of []) x.book)) ws in
    ending k ws x.blocks x.figures (goes n (begins (opened n (rules_of []) x.book)) (ListN.take k ws))

pub record Ran (r : Course) (n : ℕ) (x y : Lent) (ws : List ℕ) : Type 0 where
  pub book : y.book ≡ (end_of n x ws).book
  pub blocks : y.blocks ≡ (end_of n x ws).blocks
  pub figures : y.figures ≡ (end_of n x ws).figures
  pub done : r.carried ∷ r.tally.at ∷ r.tally.written ∷ [] ≡ (end_of n x ws).done
