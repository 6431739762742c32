-- The words that hold an arena: the holes and the record.
use Rattle.std.specs.Prelude.{ℕ, suc, List, [], ◌∷◌, length}
use Rattle.fields.specs.Field.{arena, hole, state, frontier, holes, hole_pages, commits, commits_high, reuses, reuses_high, abandoned, abandoned_high, start, pages, put}
use Rattle.fields.specs.Wide.{put_wide}
use Rattle.model.specs.declared.Hole.{Hole}
use Rattle.model.specs.Arena.{Arena}
use Rattle.arena.specs.Load.{status_code}

abbrev pub store_hole : List ℕ → ℕ → Hole → List ℕ
store_hole b i h = put (put b (hole start i) h.first) (hole pages i) h.pages

unfoldable pub store_holes : List ℕ → ℕ → List Hole → List ℕ
store_holes b i [] = b
store_holes b i (h ∷ hs) = store_hole (store_holes b (suc i) hs) i h

unfoldable pub store_counts : List ℕ → ℕ → ℕ → ℕ → List ℕ
store_counts b c r a = put_wide (put_wide (put_wide b commits commits_high c) reuses reuses_high r) abandoned abandoned_high a

unfoldable pub store_top : List ℕ → ℕ → ℕ → ℕ → ℕ → List ℕ
store_top b s f k t = put (put (put (put b (arena state) s) (arena frontier) f) (arena holes) k) (arena hole_pages) t

unfoldable pub store_arena : List ℕ → Arena → List ℕ
store_arena b a =
    store_top (store_counts (store_holes b 0 a.store.holes) a.commits a.reuses a.abandoned)
    (status_code a.status) a.frontier (length a.store.holes) a.store.total
