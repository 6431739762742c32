-- The arena that the words hold. Any words hold one; number 13's tests (Valid) say which of them a step may use.
use Rattle.std.specs.Prelude.{ℕ, zero, suc, List, [], ◌∷◌}
use Rattle.fields.specs.Field.{arena, hole, state, frontier, holes, hole_pages, commits, commits_high, reuses, reuses_high, abandoned, abandoned_high, start, pages, get}
use Rattle.fields.specs.Wide.{get_wide}
use Rattle.model.specs.declared.Hole.{Hole}
use Rattle.model.specs.HoleStore as Model
use Rattle.model.specs.HoleStore.{HoleStore}
use Rattle.model.specs.Arena.{Arena, Status, unasked, ready, disabled}

-- STATE: 0 unasked, 1 ready, 2 disabled
abbrev pub status_of : ℕ → Status
status_of zero = unasked
status_of (suc zero) = ready
status_of (suc (suc n)) = disabled

abbrev pub status_code : Status → ℕ
status_code unasked = 0
status_code ready = 1
status_code disabled = 2

abbrev pub load_hole : List ℕ → ℕ → Hole
load_hole b i = Model.hole (get b (hole start i)) (get b (hole pages i))

-- k holes from index i on
unfoldable pub load_holes : List ℕ → ℕ → ℕ → List Hole
load_holes b i zero = []
load_holes b i (suc k) = load_hole b i ∷ load_holes b (suc i) k

unfoldable pub load_store : List ℕ → HoleStore
load_store b = Model.store (load_holes b 0 (get b (arena holes))) (get b (arena hole_pages))

unfoldable pub load_arena : List ℕ → Arena
load_arena b = record {
  status = status_of (get b (arena state));
  frontier = get b (arena frontier);
  store = load_store b;
  commits = get_wide b commits commits_high;
  reuses = get_wide b reuses reuses_high;
  abandoned = get_wide b abandoned abandoned_high;
}
