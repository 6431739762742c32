-- Every step of the arena keeps its hole store tidy, and to its slots.
use Rattle.facts.proofs.Prelude.{ℕ, ◌+◌, ◌-◌, ◌≤◌, arith, Bool, List, [], ◌∷◌, Option, none, some, leb, ltb, length, by_cases, and_right}
use Rattle.words.specs.Host.{reservation_granted, commit_granted}
use Rattle.model.specs.HoleStore.{hole, hole_at, hole_slots, hole_pages_max, choose, cut_from, hole_before, hole_after, insert, has_room, accepts}
use Rattle.model.specs.Arena.{Arena, Status, unasked, ready, disabled, new_arena, with_status, with_frontier, give, give_all, draw_from, draw, grant, commit_ready, commit_as, commit, can_grow, grow}
use Rattle.model.proofs.HoleLists.{set-length, remove_length}
use Rattle.model.proofs.Placing.{place-slots}
use Rattle.model.proofs.StoreLaws.{Chosen, at-hole, no-hole, chosen, holes_with}
use Rattle.model.proofs.Tidy.{Tidy, tidy-empty, tidy-take, tidy-insert}

pub tidy-new : Tidy new_arena.store
tidy-new = tidy-empty

-- ---- no more holes than slots, whatever they are
pub few-give : (n q : ℕ) (a : Arena) → length a.store.holes ≤ hole_slots → length (give n q a).store.holes ≤ hole_slots
unfolding give insert accepts
few-give n q a l =
    let hs = a.store.holes in
    by_cases (accepts n q a.store)
    (λ e. rw e (place-slots n q hs l (hole_before q hs) (hole_after (q + n) hs) (and_right (leb (a.store.total + n) hole_pages_max) (has_room hs (hole_before q hs) (hole_after (q + n) hs)) e)))
    (λ e. rw e l)

pub few-draw : (size n : ℕ) (a : Arena) → length a.store.holes ≤ hole_slots → length (draw size n a).arena.store.holes ≤ hole_slots
unfolding draw draw_from cut_from
few-draw size n a l = from (choose n a.store.holes)
  where
    from : (o : Option ℕ) → length (draw_from size n a o).arena.store.holes ≤ hole_slots
    from none = by_cases (leb (a.frontier + n) size) (λ d. rw d l) (λ d. rw d l)
    from (some i) =
        let hs = a.store.holes in
        let x = hole_at i hs in
        by_cases (ltb n x.pages)
        (λ d. rw d (omega (arith, set-length i (hole (x.first + n) (x.pages - n)) hs)))
        (λ d. rw d (omega (arith, remove_length i hs)))

-- ---- tidy: a run of no pages would be a hole of none
module _ (n : ℕ) (one : 1 ≤ n) where
  pub tidy-give : (q : ℕ) (a : Arena) → Tidy a.store → Tidy (give n q a).store
  unfolding give
  tidy-give q a k = by_cases (accepts n q a.store) (λ e. rw e (tidy-insert n q a.store one e k)) (λ e. rw e k)

  pub tidy-give_all : (qs : List ℕ) (a : Arena) → Tidy a.store → Tidy (give_all n qs a).store
  tidy-give_all [] a k = k
  tidy-give_all (q ∷ qs) a k = tidy-give_all qs (give n q a) (tidy-give q a k)

-- no page is in two holes
abbrev pub Once : Arena → Type 0
Once a = (x : ℕ) → holes_with x a.store.holes ≤ 1

-- drawing
module _ (size n : ℕ) (one : 1 ≤ n) (a : Arena) (once : Once a) (k : Tidy a.store) where
  tidy-from : {o : Option ℕ} → Chosen n a.store.holes o → Tidy (draw_from size n a o).arena.store
  unfolding draw_from
  tidy-from (at-hole i f w) = tidy-take n i a.store k one once f.inside f.enough
  tidy-from (no-hole f) = by_cases (leb (a.frontier + n) size) (λ d. rw d k) (λ d. rw d k)

  pub tidy-draw : Tidy (draw size n a).arena.store
  unfolding draw
  tidy-draw = tidy-from (chosen n a.store.holes)

-- committing and growing
module _ (size h n : ℕ) (one : 1 ≤ n) where
  tidy-grant : (a : Arena) (o : Option ℕ) (f : Bool) → Tidy a.store → Tidy (grant h n a o f).arena.store
  unfolding grant
  tidy-grant a none f k = k
  tidy-grant a (some q) f k = by_cases (commit_granted h) (λ e. rw e k) (λ e. rw e (tidy-give n one q a k))

  tidy-ready : (a : Arena) → Once a → Tidy a.store → Tidy (commit_ready size h n a).arena.store
  unfolding commit_ready
  tidy-ready a u k = let d = draw size n a in tidy-grant d.arena d.run d.fresh (tidy-draw size n one a u k)

  tidy_as : (a : Arena) (s : Status) → Once a → Tidy a.store → Tidy (commit_as size h n a s).arena.store
  unfolding commit_as
  tidy_as a unasked u k = by_cases (reservation_granted h) (λ e. rw e (tidy-ready (with_status ready a) u k)) (λ e. rw e k)
  tidy_as a ready u k = tidy-ready a u k
  tidy_as a disabled u k = k

  pub tidy-commit : (a : Arena) → Once a → Tidy a.store → Tidy (commit size h n a).arena.store
  unfolding commit
  tidy-commit a u k = tidy_as a a.status u k

  pub tidy-grow : (e : ℕ) (a : Arena) → Tidy a.store → Tidy (grow size h e n a).arena.store
  unfolding grow
  tidy-grow e a k =
      by_cases (can_grow size e n a)
      (λ d. by_cases (commit_granted h) (λ c. rw d (rw c k)) (λ c. rw d (rw c (tidy-give n one e (with_frontier (e + n) a) k))))
      (λ d. rw d k)
