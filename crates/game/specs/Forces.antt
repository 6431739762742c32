-- What it means that the asker can force the win (document 02, A.12), apart from how it is computed: a strategy, as a tree.
use Rattle.std.specs.Prelude.{ℕ, suc, ◌+◌, ◌≤◌, ◌<◌}
use Rattle.game.specs.Game.{State, length_at, live, place, release}

-- page x lies in no run
abbrev pub Free : State → ℕ → Type 0
Free s x = (r : ℕ) → r ≤ x → x < r + length_at s r → ⊥

-- "any free stretch"
pub record Place (n : ℕ) (s : State) (p q : ℕ) : Type 0 where
  pub within : q + p ≤ n
  pub free : (i : ℕ) → i < p → Free s (q + i)

-- "a run of one page or more that keeps the live pages within L"
pub record Ask (limit : ℕ) (s : State) (p : ℕ) : Type 0 where
  pub some : 1 ≤ p
  pub within : live s + p ≤ limit

-- "the asker can force the win within k moves": asks what has no place; asks, and wins whatever the placing; or releases a run
pub data Forces (n limit : ℕ) : ℕ → State → Type 0 where
  unplaced : {k : ℕ} {s : State} (p : ℕ) → Ask limit s p → ((q : ℕ) → Place n s p q → ⊥) → Forces n limit (suc k) s
  asked : {k : ℕ} {s : State} (p : ℕ) → Ask limit s p → ((q : ℕ) → Place n s p q → Forces n limit k (place p q s)) → Forces n limit (suc k) s
  released : {k : ℕ} {s : State} (q : ℕ) → q < n → 1 ≤ length_at s q → Forces n limit k (release q s) → Forces n limit (suc k) s
