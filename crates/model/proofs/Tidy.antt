-- The hole store along the arena's steps: the total is the holes' sum, no hole is of no pages, both limits hold, and no two holes touch.
-- Every step of 1 page or more keeps this.
use Rattle.facts.proofs.Prelude.{ℕ, ◌+◌, ◌-◌, ◌≤◌, ◌<◌, arith, true, inl, ◌≡◌, refl, leb, ltb, length, leb-true, ltb-true, ltb-false, All, total, by_cases, and_left, and_right}
use Rattle.model.specs.declared.Hole.{Hole}
use Rattle.model.specs.HoleStore.{HoleStore, empty_store, hole, hole_at, hole_slots, hole_pages_max, cut_from, take_at, hole_before, hole_after, has_room, insert, accepts}
use Rattle.model.proofs.HoleLists.{set-total, remove_total, set-length, remove_length, all_set, all_remove, all-at}
use Rattle.model.proofs.Placing.{Touchless, placing, touch-place, touch_remove, touch-cut, place-slots, place-each}
use Rattle.model.proofs.StoreLaws.{holes_with}

pub record Tidy (s : HoleStore) : Type 0 where
  pub sum : s.total ≡ total (λ h. h.pages) s.holes
  pub each : All (λ h. 1 ≤ h.pages) s.holes
  pub slots : length s.holes ≤ hole_slots
  pub pages : s.total ≤ hole_pages_max
  pub touch : Touchless s.holes

-- a hole has at most the total's pages
pub tidy-hole : (s : HoleStore) → Tidy s → (i : ℕ) → i < length s.holes → (1 ≤ (hole_at i s.holes).pages) × ((hole_at i s.holes).pages ≤ s.total)
tidy-hole s t i l = (all-at (λ h. 1 ≤ h.pages) i s.holes l t.each, omega (arith, t.sum, remove_total (λ h. h.pages) i s.holes l))

-- a new store
pub tidy-empty : Tidy empty_store
tidy-empty = record { sum = refl; each = tt; slots = omega arith; pages = omega arith; touch = λ x. inl refl }

-- taking from hole i, where no page is in two holes
module _ (n i : ℕ) (s : HoleStore) (k : Tidy s) (one : 1 ≤ n) (once : (x : ℕ) → holes_with x s.holes ≤ 1) (inside : i < length s.holes) (enough : n ≤ (hole_at i s.holes).pages) where
  abbrev x : Hole
  x = hole_at i s.holes

  abbrev rest : Hole
  rest = hole (x.first + n) (x.pages - n)

  pub tidy-take : Tidy (take_at n i s)
  unfolding cut_from
  tidy-take =
      by_cases (ltb n x.pages)
      (λ e. let less = ltb-true n x.pages e in
      rw e (record {
        sum = omega (arith, k.sum, set-total (λ h. h.pages) i rest s.holes inside);
        each = all_set (λ h. 1 ≤ h.pages) i rest (omega arith) s.holes k.each;
        slots = omega (arith, set-length i rest s.holes, k.slots);
        pages = omega (arith, k.pages);
        touch = touch-cut n i s.holes one inside less k.each once k.touch;
      }))
      (λ e. let all = ltb-false n x.pages e in
      rw e (record {
        sum = omega (arith, k.sum, remove_total (λ h. h.pages) i s.holes inside);
        each = all_remove (λ h. 1 ≤ h.pages) i s.holes k.each;
        slots = omega (arith, remove_length i s.holes, k.slots);
        pages = omega (arith, k.pages);
        touch = touch_remove i s.holes inside k.touch;
      }))

-- giving
pub tidy-insert : (n q : ℕ) (s : HoleStore) → 1 ≤ n → accepts n q s ≡ true → Tidy s → Tidy (insert n q s)
unfolding accepts insert
tidy-insert n q s one e k =
    let hs = s.holes in
    let w = placing n q one hs in
    record {
      sum = omega (arith, k.sum, w.pages, w.sums (λ h. h.pages));
      each = place-each n q one hs k.each (hole_before q hs) (hole_after (q + n) hs);
      slots = place-slots n q hs k.slots (hole_before q hs) (hole_after (q + n) hs) (and_right (leb (s.total + n) hole_pages_max) (has_room hs (hole_before q hs) (hole_after (q + n) hs)) e);
      pages = leb-true (s.total + n) hole_pages_max (search and_left);
      touch = touch-place n one hs _ _ _ w k.touch;
    }
