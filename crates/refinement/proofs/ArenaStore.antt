-- The arena's words: what was stored is loaded again.
--     load_kept        a book with the same such words holds the same arena
--     load_store       an arena that was stored is loaded again
use Rattle.facts.proofs.Prelude.{ℕ, ◌≤◌, arith, true, List, ◌≡◌, refl, ◌∙◌, ltb, leb, length}
use Rattle.words.specs.Limits.{hole_slots}
use Rattle.fields.specs.Field.{Field, arena, hole, HoleField, state, frontier, holes, hole_pages, commits, commits_high, reuses, reuses_high, abandoned, abandoned_high, get, ok, words}
use Rattle.fields.specs.Wide.{get_wide}
use Rattle.fields.proofs.Laws.{get_put_same, get-put_other, length-put}
use Rattle.model.specs.Arena.{Arena, Status, unasked, ready, disabled}
use Rattle.arena.proofs.Frames.{is_stored, holes_change, holes-same, holes-there}
use Rattle.arena.specs.Load.{status_of, status_code, load_holes, load_store, load_arena}
use Rattle.arena.specs.Store.{store_holes, store_counts, store_top, store_arena}

pub long_kept : (n : ℕ) (b b' : List ℕ) → length b' ≡ length b → leb (words n) (length b) ≡ true → leb (words n) (length b') ≡ true
long_kept n b b' e h = rw e h

-- ---- loading
status_of_lem : (s : Status) → status_of (status_code s) ≡ s
status_of_lem unasked = refl
status_of_lem ready = refl
status_of_lem disabled = refl

-- the words are those of an arena: then they load it
pub record Written (b : List ℕ) (a : Arena) : Type 0 where
  pub status : get b (arena state) ≡ status_code a.status
  pub frontier : get b (arena frontier) ≡ a.frontier
  pub number : get b (arena holes) ≡ length a.store.holes
  pub total : get b (arena hole_pages) ≡ a.store.total
  pub holes : load_holes b 0 (length a.store.holes) ≡ a.store.holes
  pub commits : get_wide b commits commits_high ≡ a.commits
  pub reuses : get_wide b reuses reuses_high ≡ a.reuses
  pub abandoned : get_wide b abandoned abandoned_high ≡ a.abandoned

pub load_written : (b : List ℕ) (a : Arena) → Written b a → load_arena b ≡ a
unfolding load_arena load_store
load_written b a w =
    rw (w.status, status_of_lem a.status, w.frontier, w.number, w.holes, w.total, w.commits, w.reuses, w.abandoned) refl

-- ---- a book whose arena's words are as they were
pub load_kept : (b b' : List ℕ) → get b (arena holes) ≤ 4096 → ((g : Field) → ok g ≡ true → is_stored g ≡ true → get b' g ≡ get b g) → load_arena b' ≡ load_arena b
unfolding load_arena load_store
load_kept b b' l h =
    rw (
      h (arena state) refl refl,
      h (arena frontier) refl refl,
      h (arena holes) refl refl,
      holes-same b b' 0 (get b (arena holes)) (omega arith) (λ f j o u. h (hole f j) o refl),
      h (arena hole_pages) refl refl,
      h (arena commits) refl refl,
      h (arena commits_high) refl refl,
      h (arena reuses) refl refl,
      h (arena reuses_high) refl refl,
      h (arena abandoned) refl refl,
      h (arena abandoned_high) refl refl,
    ) refl

-- ---- what was stored
module _ (n : ℕ) where
  -- the record over any book
  record Top (x y : List ℕ) (s f k t c r a : ℕ) : Type 0 where
    state : get y (arena state) ≡ s
    frontier : get y (arena frontier) ≡ f
    number : get y (arena holes) ≡ k
    total : get y (arena hole_pages) ≡ t
    holes : (f : HoleField) (j : ℕ) → ltb j 4096 ≡ true → get y (hole f j) ≡ get x (hole f j)
    commits : get_wide y commits commits_high ≡ c
    reuses : get_wide y reuses reuses_high ≡ r
    abandoned : get_wide y abandoned abandoned_high ≡ a

  top-there : (x : List ℕ) → leb (words n) (length x) ≡ true → (s f k t c r a : ℕ) → Top x (store_top (store_counts x c r a) s f k t) s f k t c r a
  unfolding store_top store_counts
  top-there x hx s f k t c r a = record {
    state = simp (get-put_other, get_put_same n, length-put, hx);
    frontier = simp (get-put_other, get_put_same n, length-put, hx);
    number = simp (get-put_other, get_put_same n, length-put, hx);
    total = simp (get_put_same n, length-put, hx);
    holes = λ f j o. simp get-put_other;
    commits = simp (get-put_other, get_put_same n, length-put, hx) (omega arith);
    reuses = simp (get-put_other, get_put_same n, length-put, hx) (omega arith);
    abandoned = simp (get-put_other, get_put_same n, length-put, hx) (omega arith);
  }

  pub store-written : (b : List ℕ) (a : Arena) → leb (words n) (length b) ≡ true → length a.store.holes ≤ hole_slots → Written (store_arena b a) a
  unfolding store_arena
  store-written b a hb l =
      let x = store_holes b 0 a.store.holes in
      let hx = long_kept n b x (holes_change b 0 a.store.holes (omega arith)).long hb in
      let t = top-there x hx (status_code a.status) a.frontier (length a.store.holes) a.store.total a.commits a.reuses a.abandoned in
      record {
        status = t.state;
        frontier = t.frontier;
        number = t.number;
        total = t.total;
        holes = holes-same x _ 0 (length a.store.holes) (omega arith) (λ f j o u. t.holes f j o) ∙ holes-there n b 0 a.store.holes hb (omega arith);
        commits = t.commits;
        reuses = t.reuses;
        abandoned = t.abandoned;
      }

  -- an arena with no more holes than there are slots, in a book that is long enough
  pub load_store_lem : (b : List ℕ) (a : Arena) → leb (words n) (length b) ≡ true → length a.store.holes ≤ hole_slots → load_arena (store_arena b a) ≡ a
  load_store_lem b a hb l = load_written (store_arena b a) a (store-written b a hb l)
