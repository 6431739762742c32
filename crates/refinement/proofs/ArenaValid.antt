-- Number 13's tests for the arena's steps pass on a book that stands for a reached heap.
--     head-passes                    what every call tests: FORMAT and FRONTIER
--     record-passes, holes-passes    the record, the holes
--     commit-passes                  all that a commit tests
--     give-passes, grow-passes       all that a give of held pages tests; all that a growth tests
use Rattle.facts.proofs.Prelude.{ℕ, ◌+◌, ◌≤◌, arith, true, List, [], ◌∷◌, ◌≡◌, refl, sym, ap, ◌∙◌, leb, length, le-leb, every, All, total, by_cases}
use Rattle.fields.specs.Field.{arena, frontier, holes, hole_pages, get}
use Rattle.fields.specs.Ranges.{head_valid}
use Rattle.fields.proofs.Sound.{head-made}
use Rattle.words.specs.Limits.{hole_slots, hole_pages_max}
use Rattle.model.specs.declared.Hole.{Hole}
use Rattle.model.specs.Arena.{Arena, Status, unasked, ready, disabled}
use Rattle.model.specs.Heap.{Heap, held_pages}
use Rattle.model.proofs.IdlePages.{HolesBelow}
use Rattle.arena.specs.Load.{status_code, load_holes, load_store, load_arena}
use Rattle.arena.specs.Valid.{hole_ends_valid, holes_end_valid, hole_valid, record_valid, holes_valid, commit_valid, give_valid, grow_gives, grow_valid}
use Rattle.arena.specs.way.Represents.{ArenaRep}
use Rattle.arena.proofs.Frames.{loaded_length}
use Rattle.refinement.proofs.ArenaReached.{Reached, reached-holes, held-le}

-- ---- what the words of an arena that is loaded are
module _ (b : List ℕ) (a : Arena) (loads : load_arena b ≡ a) where
  pub loads-frontier : get b (arena frontier) ≡ a.frontier
  unfolding load_arena
  loads-frontier = ap (λ x. x.frontier) loads

  pub loads-total : get b (arena hole_pages) ≡ a.store.total
  unfolding load_arena load_store
  loads-total = ap (λ x. x.store.total) loads

  pub loads-holes : load_holes b 0 (get b (arena holes)) ≡ a.store.holes
  unfolding load_arena load_store
  loads-holes = ap (λ x. x.store.holes) loads

  pub loads-number : get b (arena holes) ≡ length a.store.holes
  loads-number = sym (loaded_length b 0 (get b (arena holes))) ∙ ap length loads-holes

-- ---- the tests
status-range : (s : Status) → leb (status_code s) 2 ≡ true
status-range unasked = refl
status-range ready = refl
status-range disabled = refl

-- a hole has at most the total's pages
holes-range : (t f : ℕ) (hs : List Hole) → All (λ h. 1 ≤ h.pages) hs → HolesBelow f hs → total (λ h. h.pages) hs ≤ t → every (hole_valid t f) hs ≡ true
holes-range t f [] each low l = refl
holes-range t f (h ∷ hs) each low l =
    rw (le-leb h.pages t (omega arith), le-leb 1 h.pages each.0, le-leb (h.first + h.pages) f low.0) (holes-range t f hs each.1 low.1 (omega arith))

ends-range : (f : ℕ) (hs : List Hole) → All (λ h. 1 ≤ h.pages) hs → HolesBelow f hs → every (hole_ends_valid f) hs ≡ true
ends-range f [] each low = refl
ends-range f (h ∷ hs) each low = rw (le-leb 1 h.pages each.0, le-leb (h.first + h.pages) f low.0) (ends-range f hs each.1 low.1)

module _ (n : ℕ) (b : List ℕ) (H : Heap) (rep : ArenaRep n b H) (r : Reached n H) where
  pub head-passes : head_valid n b ≡ true
  head-passes = head-made n b rep.format (rw (loads-frontier b H.arena rep.loads) r.bound)

  pub record_passes : record_valid n b ≡ true
  unfolding record_valid
  record_passes =
      let a = H.arena in
      let k = loads-number b H.arena rep.loads in
      let t = loads-total b H.arena rep.loads in
      rw (
        rep.state,
        status-range H.arena.status,
        head-passes,
        k,
        le-leb (length a.store.holes) hole_slots r.tidy.slots,
        t,
        le-leb a.store.total hole_pages_max r.tidy.pages,
        rep.held,
        le-leb (held_pages n H) n (held-le n H r),
      )

  pub holes-passes : holes_valid b ≡ true
  unfolding holes_valid
  holes-passes =
      rw (loads-total b H.arena rep.loads, loads-frontier b H.arena rep.loads, loads-holes b H.arena rep.loads)
      (holes-range H.arena.store.total H.arena.frontier H.arena.store.holes r.tidy.each (reached-holes n H r) (omega (arith, r.tidy.sum)))

  ends-passes : holes_end_valid b ≡ true
  unfolding holes_end_valid
  ends-passes = rw (loads-frontier b H.arena rep.loads, loads-holes b H.arena rep.loads) (ends-range H.arena.frontier H.arena.store.holes r.tidy.each (reached-holes n H r))

  pub commit-passes : commit_valid n b ≡ true
  unfolding commit_valid
  commit-passes = rw (record_passes, holes-passes)

  pub give-passes : (m : ℕ) → m ≤ held_pages n H → give_valid n b m ≡ true
  unfolding give_valid
  give-passes m l = rw (record_passes, rep.held, le-leb m (held_pages n H) l) ends-passes

  pub grow-passes : (h e m : ℕ) → grow_valid n b h e m ≡ true
  unfolding grow_valid
  grow-passes h e m = rw record_passes (by_cases (grow_gives n b h e m) (λ t. rw t ends-passes) (λ t. rw t))
