-- Document 02, A.12, as statements about every call of `vigbuso_asker_wins`. proofs/Game proves them.
use Rattle.std.specs.Prelude.{ℕ, ◌≤◌, ◌↔◌, ◌≡◌}
use Rattle.game.specs.Game.{empty, asker_wins, GameEnds}
use Rattle.game.specs.Forces.{Forces}

-- a call that is not refused; w' is what it wrote
pub record AskerWins (n limit k w' : ℕ) : Type 0 where
  pub plain : w' ≤ 1
  -- "The answer is yes exactly if the asker can force the win within k moves."
  pub game-is : (w' ≡ 1) ↔ Forces n limit k empty

-- "With n 3, L 3, k 6 it is yes"
abbrev pub ThreeYes : (r w' : ℕ) → Type 0
ThreeYes r w' = (r ≡ 0) × (w' ≡ 1)

pub record Game : Type 0 where
  pub answers : (n limit k r w w' : ℕ) → GameEnds (asker_wins n limit k) r w w' → r ≡ 0 → AskerWins n limit k w'
  pub three-yes : (r w w' : ℕ) → GameEnds (asker_wins 3 3 6) r w w' → ThreeYes r w'
  -- "k 0 is always no"
  pub none-no : (n limit r w w' : ℕ) → GameEnds (asker_wins n limit 0) r w w' → r ≡ 0 → w' ≡ 0
