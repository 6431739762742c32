-- What the code writes for a step of the arena: the few words that change, the holes' first, then the record, the owners and
-- HELD. That this is the model's step with the whole arena stored (Calls) is proved in proofs/Acts. a is the record as it is to be
-- written, m a run's pages, q its first page.
use Rattle.std.specs.Prelude.{◌≡◌, ℕ, zero, suc, ◌+◌, ◌-◌, ◌≤◌, Bool, true, false, cond, List, ◌==◌, nat_le, nat_lt}
use Rattle.std.proofs.Math.Option.{none, some}
use Rattle.words.specs.Limits.{max_pages}
use Rattle.words.specs.Host.{reservation_granted, commit_granted}
use Rattle.fields.specs.Field.{arena, held, get, put}
use Rattle.model.specs.HoleStore as Model
use Rattle.model.specs.HoleStore.{hole_slots, hole_pages_max, with_before, with_after, with_both}
use Rattle.model.specs.declared.Hole.{Hole}
use Rattle.runs.specs.declared.Arena.{Arena}
use Rattle.runs.specs.declared.record.Gain.{Gain}
use Rattle.runs.specs.way.Change.{gained_by}
use Rattle.runs.specs.declared.holes.Edges.{Edges}
use Rattle.runs.specs.declared.holes.Neighbours.{Neighbours}
use Rattle.arena.specs.Load.{load_hole, load_holes}
use Rattle.arena.specs.Store.{store_hole}
use Rattle.runs.specs.way.Record.{record_of, store_record, advanced, counted, abandoning}
use Rattle.arena.specs.Valid.{record_valid}
use Rattle.arena.specs.Owners.{own}
use Rattle.runs.specs.way.Plan.{Choice, plan_of, neighbours_of}
use Rattle.arena.specs.Calls.{Committed, commit_refused}

-- ---- the record
abbrev pub with_state : ℕ → Arena → Arena
with_state s a = record { state = s; frontier = a.frontier; count = a.count; total = a.total; commits = a.commits; reuses = a.reuses; abandoned = a.abandoned }

abbrev pub with_holes : ℕ → ℕ → Arena → Arena
with_holes k t a = record { state = a.state; frontier = a.frontier; count = k; total = t; commits = a.commits; reuses = a.reuses; abandoned = a.abandoned }

-- ---- giving: by the codes of the hole before the run and of the one after, 0 for none
-- with both joined, at i and j: v is the joined hole, and the last hole comes to j; where that is the joined one, only j is written
unfoldable pub both_words : List ℕ → Arena → ℕ → ℕ → Hole → List ℕ
both_words b a i j v = cond (i + 1 == a.count) (store_hole b j v) (store_hole (store_hole b i v) j (load_hole b (a.count - 1)))

unfoldable pub place_words : List ℕ → Arena → ℕ → ℕ → ℕ → ℕ → List ℕ
place_words b a m q zero zero = cond (nat_lt a.count hole_slots) (store_hole b a.count (Model.hole q m)) b
place_words b a m q (suc i) zero = store_hole b i (with_before m (load_hole b i))
place_words b a m q zero (suc j) = store_hole b j (with_after m q (load_hole b j))
place_words b a m q (suc i) (suc j) = both_words b a i j (with_both m (load_hole b i) (load_hole b j))

unfoldable pub place_record : Arena → ℕ → ℕ → ℕ → Arena
place_record a m zero zero = cond (nat_lt a.count hole_slots) (with_holes (a.count + 1) (a.total + m) a) (abandoning a)
place_record a m (suc i) zero = with_holes a.count (a.total + m) a
place_record a m zero (suc j) = with_holes a.count (a.total + m) a
place_record a m (suc i) (suc j) = with_holes (a.count - 1) (a.total + m) a

-- the words x after it, and what it comes to, g
pub record Places (b : List ℕ) (a : Arena) (m q c d : ℕ) (x : List ℕ) (g : Gain) : Type 0 where
  pub book : x ≡ place_words b a m q c d
  pub top : gained_by g a ≡ place_record a m c d
  pub few : g.pages ≤ m

-- the holes that a run of m pages at q touches
abbrev pub edges : ℕ → ℕ → Edges
edges m q = record { first = q; end = q + m }

unfoldable pub touching : List ℕ → Arena → ℕ → ℕ → Neighbours
touching b a m q = neighbours_of (load_holes b 0 a.count) (edges m q)

unfoldable pub give_words : List ℕ → Arena → ℕ → ℕ → List ℕ
give_words b a m q = let t = touching b a m q in cond (nat_le (a.total + m) hole_pages_max) (place_words b a m q t.before t.after) b

unfoldable pub give_record : List ℕ → Arena → ℕ → ℕ → Arena
give_record b a m q = let t = touching b a m q in cond (nat_le (a.total + m) hole_pages_max) (place_record a m t.before t.after) (abandoning a)

pub record Gives (b : List ℕ) (a : Arena) (m q : ℕ) (x : List ℕ) (g : Gain) : Type 0 where
  pub book : x ≡ give_words b a m q
  pub top : gained_by g a ≡ give_record b a m q
  pub few : g.pages ≤ m

-- ---- a run from hole i: its front is cut off, or the last hole comes into its place
unfoldable pub draw_words : List ℕ → Arena → ℕ → ℕ → List ℕ
draw_words b a m i =
    let x = load_hole b i in
    cond (nat_lt m x.pages) (store_hole b i (Model.hole (x.first + m) (x.pages - m))) (store_hole b i (load_hole b (a.count - 1)))

unfoldable pub draw_record : List ℕ → Arena → ℕ → ℕ → Arena
draw_record b a m i = with_holes (cond (nat_lt m (load_hole b i).pages) a.count (a.count - 1)) (a.total - m) a

-- the words x after it, with k holes
pub record Draws (b : List ℕ) (a : Arena) (m i : ℕ) (x : List ℕ) (k : ℕ) : Type 0 where
  pub book : x ≡ draw_words b a m i
  pub count : k ≡ (draw_record b a m i).count

-- ---- the end of a commit: the record, the run's owner, and HELD; h is the host word, w the owner, d the pages held before
unfoldable pub end_none : List ℕ → Arena → Committed
end_none b a = record { code = 0; book = store_record b a; run = none; fresh = false }

unfoldable pub end_run : List ℕ → Arena → ℕ → ℕ → Bool → ℕ → ℕ → Committed
end_run b a m q f w d = record { code = 0; book = put (own (store_record b (counted f a)) q m w) (arena held) (d + m); run = some q; fresh = f }

-- not granted: the run is given; a fresh run's pages are nobody's
unfoldable pub end_given : List ℕ → Arena → ℕ → ℕ → Bool → Committed
end_given b a m q f =
    let x = store_record (give_words b a m q) (give_record b a m q) in
    record { code = 0; book = cond f (own x q m 0) x; run = none; fresh = false }

unfoldable pub settle : List ℕ → Arena → ℕ → ℕ → Bool → ℕ → ℕ → ℕ → Committed
settle b a m q f h w d = cond (commit_granted h) (end_run b a m q f w d) (end_given b a m q f)

unfoldable pub from_frontier : ℕ → List ℕ → Arena → ℕ → ℕ → ℕ → ℕ → Committed
from_frontier n b a m h w d = cond (nat_le (a.frontier + m) n) (settle b (advanced m a) m a.frontier true h w d) (end_none b a)

unfoldable pub hole_drawn : List ℕ → Arena → ℕ → ℕ → ℕ → ℕ → ℕ → Committed
hole_drawn b a i m h w d = settle (draw_words b a m i) (draw_record b a m i) m (load_hole b i).first false h w d

-- the chosen hole has this code; 0 is none
unfoldable pub commit_drawn : ℕ → List ℕ → Arena → ℕ → ℕ → ℕ → ℕ → ℕ → Committed
commit_drawn n b a code m h w d = cond (code == 0) (from_frontier n b a m h w d) (hole_drawn b a (code - 1) m h w d)

-- STATE: 0 asks for the reservation, 2 is disabled
abbrev pub next_state : ℕ → ℕ → ℕ
next_state zero h = cond (reservation_granted h) 1 2
next_state (suc s) h = suc s

unfoldable pub commit_planned : ℕ → List ℕ → Arena → ℕ → ℕ → ℕ → ℕ → ℕ → Committed
commit_planned n b a code m h w d =
    let s = next_state a.state h in
    cond (s == 2) (end_none b (with_state s a)) (commit_drawn n b (with_state s a) code m h w d)

unfoldable pub planned : List ℕ → ℕ → Choice
planned b m = plan_of (load_holes b 0 (record_of b).count) (record_of b).total (record_of b).frontier m

unfoldable pub commit_read : ℕ → List ℕ → ℕ → ℕ → ℕ → ℕ → Committed
commit_read n b h m w d = cond (planned b m).valid (commit_planned n b (record_of b) (planned b m).code m h w d) (commit_refused b 13)

unfoldable pub commit_acts : ℕ → List ℕ → ℕ → ℕ → ℕ → Committed
commit_acts n b h m w = cond (record_valid n b) (commit_read n b h m w (get b (arena held))) (commit_refused b 13)

-- ---- the other steps
unfoldable pub given_with : List ℕ → Arena → ℕ → ℕ → ℕ → List ℕ
given_with b a d q m = put (own (store_record (give_words b a m q) (give_record b a m q)) q m 0) (arena held) (d - m)

unfoldable pub give_acts : List ℕ → ℕ → ℕ → List ℕ
give_acts b q m = given_with b (record_of b) (get b (arena held)) q m

-- the run that ends at page e by m pages: they are settled as a commit from the frontier is
unfoldable pub grow_with : ℕ → List ℕ → Arena → ℕ → ℕ → ℕ → ℕ → ℕ → Committed
grow_with n b a h e m w d = cond (a.frontier == e) (from_frontier n b a m h w d) (end_none b a)

unfoldable pub grow_acts : ℕ → List ℕ → ℕ → ℕ → ℕ → ℕ → Committed
grow_acts n b h e m w = grow_with n b (record_of b) h e m w (get b (arena held))

-- a page more than any arena has stands for every longer run
unfoldable pub clamped : ℕ → ℕ
clamped m = cond (nat_le m max_pages) m (max_pages + 1)
