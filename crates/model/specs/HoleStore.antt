-- The hole store (document 01, "A run of pages"; document 02, A.4 and A.8; the original's `HoleStore`).
use Rattle.std.specs.Prelude.{ℕ, zero, suc, ◌+◌, ◌-◌, List, [], ◌∷◌, ◌++◌, Bool, cond, ◌&&◌, ◌||◌, eqb, leb, ltb, length}
use Rattle.std.proofs.Math.Option.{Option, none, some}
pub use Rattle.words.specs.Limits.{hole_slots, hole_pages_max}
use Rattle.facts.specs.Lists.{is_some}
use Rattle.model.specs.declared.Hole.{Hole}

abbrev pub hole : ℕ → ℕ → Hole
hole q n = record { first = q; pages = n }

pub record HoleStore : Type 0 where
  pub holes : List Hole
  pub total : ℕ  -- their pages

abbrev pub store : List Hole → ℕ → HoleStore
store hs n = record { holes = hs; total = n }

abbrev pub empty_store : HoleStore
empty_store = store [] 0

-- lists of holes by index
abbrev pub hole_at : ℕ → List Hole → Hole
hole_at i [] = hole 0 0
hole_at zero (h ∷ hs) = h
hole_at (suc i) (h ∷ hs) = hole_at i hs

abbrev pub set_at : ℕ → Hole → List Hole → List Hole
set_at i x [] = []
set_at zero x (h ∷ hs) = x ∷ hs
set_at (suc i) x (h ∷ hs) = h ∷ set_at i x hs

abbrev pub without_last : List Hole → List Hole
without_last [] = []
without_last (h ∷ []) = []
without_last (h ∷ g ∷ hs) = h ∷ without_last (g ∷ hs)

abbrev pub last_hole : List Hole → Hole
last_hole [] = hole 0 0
last_hole (h ∷ []) = h
last_hole (h ∷ g ∷ hs) = last_hole (g ∷ hs)

-- "A used-up hole is replaced by the last one."
abbrev pub remove_at : ℕ → List Hole → List Hole
remove_at i hs = set_at i (last_hole hs) (without_last hs)

-- "Among holes of the least sufficient length the one with the lowest page is taken": does h go before g; the hole that goes before all
-- others of n pages or more, with its index
abbrev pub goes_before : Hole → Hole → Bool
goes_before h g = ltb h.pages g.pages || eqb h.pages g.pages && leb h.first g.first

pub record Fit : Type 0 where
  pub index : ℕ
  pub hole : Hole

abbrev pub fit_at : ℕ → Hole → Fit
fit_at i h = record { index = i; hole = h }

abbrev pub nearer : ℕ → Hole → Option Fit → Option Fit
nearer n h none = cond (leb n h.pages) (some (fit_at 0 h)) none
nearer n h (some f) = cond (leb n h.pages && goes_before h f.hole) (some (fit_at 0 h)) (some (fit_at (suc f.index) f.hole))

unfoldable pub least_fit : ℕ → List Hole → Option Fit
least_fit n [] = none
least_fit n (h ∷ hs) = nearer n h (least_fit n hs)

abbrev pub index_of : Option Fit → Option ℕ
index_of none = none
index_of (some f) = some f.index

-- the index of the hole for n pages
abbrev pub choose : ℕ → List Hole → Option ℕ
choose n hs = index_of (least_fit n hs)

-- n pages from the front of hole i, which is x: "A longer hole is cut at its front and keeps its index. A used-up hole is replaced by
-- the last one."
unfoldable pub cut_from : ℕ → ℕ → Hole → HoleStore → HoleStore
cut_from n i x s =
    cond (ltb n x.pages)
    (store (set_at i (hole (x.first + n) (x.pages - n)) s.holes) (s.total - n))
    (store (remove_at i s.holes) (s.total - n))

abbrev pub take_at : ℕ → ℕ → HoleStore → HoleStore
take_at n i s = cut_from n i (hole_at i s.holes) s

-- Giving (document 02, A.4): "A given run shall join the hole that ends where it starts and the hole that starts where it ends", each
-- the one of the lowest index that does
abbrev pub next : Option ℕ → Option ℕ
next none = none
next (some i) = some (suc i)

unfoldable pub lowest_that : (Hole → Bool) → List Hole → Option ℕ
lowest_that t [] = none
lowest_that t (h ∷ hs) = cond (t h) (some 0) (next (lowest_that t hs))

abbrev pub ends_at : ℕ → Hole → Bool
ends_at q h = eqb (h.first + h.pages) q

abbrev pub starts_at : ℕ → Hole → Bool
starts_at e h = eqb h.first e

abbrev pub hole_before : ℕ → List Hole → Option ℕ
hole_before q hs = lowest_that (ends_at q) hs

abbrev pub hole_after : ℕ → List Hole → Option ℕ
hole_after e hs = lowest_that (starts_at e) hs

-- the hole of n pages from q on with the hole before them, with the one after, and with both
abbrev pub with_before : ℕ → Hole → Hole
with_before n b = hole b.first (b.pages + n)

abbrev pub with_after : ℕ → ℕ → Hole → Hole
with_after n q c = hole q (n + c.pages)

abbrev pub with_both : ℕ → Hole → Hole → Hole
with_both n b c = hole b.first (b.pages + n + c.pages)

-- the holes with n pages from q on, given the indices of the hole before them and of the one after: "The joined hole stands at the index
-- of the hole before it, or of the hole after it if there is none before. Where both join, the one after is removed and the last hole
-- takes its index, even if the last is the joined one." One that joins none is appended.
unfoldable pub place : ℕ → ℕ → List Hole → Option ℕ → Option ℕ → List Hole
place n q hs none none = hs ++ hole q n ∷ []
place n q hs (some i) none = set_at i (with_before n (hole_at i hs)) hs
place n q hs none (some j) = set_at j (with_after n q (hole_at j hs)) hs
place n q hs (some i) (some j) = remove_at j (set_at i (with_both n (hole_at i hs) (hole_at j hs)) hs)

unfoldable pub insert : ℕ → ℕ → HoleStore → HoleStore
insert n q s = store (place n q s.holes (hole_before q s.holes) (hole_after (q + n) s.holes)) (s.total + n)

-- "A run that joins needs no slot, so at 4,096 holes it is stored ..; the page total is still tested first."
abbrev pub has_room : List Hole → Option ℕ → Option ℕ → Bool
has_room hs b c = is_some b || is_some c || ltb (length hs) hole_slots

unfoldable pub accepts : ℕ → ℕ → HoleStore → Bool
accepts n q s = leb (s.total + n) hole_pages_max && has_room s.holes (hole_before q s.holes) (hole_after (q + n) s.holes)
