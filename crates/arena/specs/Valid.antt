-- Number 13's tests for the steps of the arena (docs/RANGES.md): every word that the step reads is in its range. n is the arena's
-- length.
use Rattle.std.specs.Prelude.{ℕ, ◌+◌, List, Bool, true, cond, not, ◌&&◌, leb}
use Rattle.facts.specs.Lists.{every, below}
use Rattle.words.specs.Limits.{class_rows}
use Rattle.fields.specs.Field.{arena, class, state, frontier, holes, hole_pages, held, empty_count, cold_count, get}
use Rattle.fields.specs.Ranges.{max_parked, head_valid}
use Rattle.model.specs.declared.Hole.{Hole}
use Rattle.words.specs.Host.{commit_granted}
use Rattle.model.specs.HoleStore.{hole_slots, hole_pages_max}
use Rattle.model.specs.Arena.{can_grow}
use Rattle.arena.specs.Load.{load_holes, load_arena}

-- the record
unfoldable pub record_valid : ℕ → List ℕ → Bool
record_valid n b =
    leb (get b (arena state)) 2
    && (head_valid n b
    && (leb (get b (arena holes)) hole_slots
    && (leb (get b (arena hole_pages)) hole_pages_max
    && leb (get b (arena held)) n)))

-- a hole that a give reads: 1 page or more, ending at or below FRONTIER. Every give keeps this, so gives in turn are tested once.
abbrev pub hole_ends_valid : ℕ → Hole → Bool
hole_ends_valid f h = leb 1 h.pages && leb (h.first + h.pages) f

unfoldable pub holes_end_valid : List ℕ → Bool
holes_end_valid b = every (hole_ends_valid (get b (arena frontier))) (load_holes b 0 (get b (arena holes)))

-- one that a commit reads: at most HOLE_PAGES pages, too
abbrev pub hole_valid : ℕ → ℕ → Hole → Bool
hole_valid total f h = leb h.pages total && hole_ends_valid f h

unfoldable pub holes_valid : List ℕ → Bool
holes_valid b = every (hole_valid (get b (arena hole_pages)) (get b (arena frontier))) (load_holes b 0 (get b (arena holes)))

-- a commit, and a give of m pages
unfoldable pub commit_valid : ℕ → List ℕ → Bool
commit_valid n b = record_valid n b && holes_valid b

unfoldable pub give_valid : ℕ → List ℕ → ℕ → Bool
give_valid n b m = record_valid n b && (leb m (get b (arena held)) && holes_end_valid b)

-- a growth by m pages of the run that ends at page e reads the holes where it gives those pages: it could grow, and is not granted
unfoldable pub grow_gives : ℕ → List ℕ → ℕ → ℕ → ℕ → Bool
grow_gives n b h e m = not (commit_granted h) && can_grow n e m (load_arena b)

unfoldable pub grow_valid : ℕ → List ℕ → ℕ → ℕ → ℕ → Bool
grow_valid n b h e m = record_valid n b && cond (grow_gives n b h e m) (holes_end_valid b) true

-- a report reads the record and how many runs each class has parked
abbrev pub counts_valid : List ℕ → ℕ → Bool
counts_valid b c = leb (get b (class empty_count c)) max_parked && leb (get b (class cold_count c)) max_parked

unfoldable pub all_counts_valid : List ℕ → Bool
all_counts_valid b = every (counts_valid b) (below class_rows)

unfoldable pub report_valid : ℕ → List ℕ → Bool
report_valid n b = record_valid n b && all_counts_valid b
