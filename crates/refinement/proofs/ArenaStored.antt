-- The arena's words after a commit or a growth: the model's arena is stored, on the book as it was or where other holes were stored before.
--     Stored             the two ways
--     commit-stored, grow-stored    a commit, a growth
--     stored-changes     no other words change
--     stored-written     the model's arena is loaded again
use Rattle.facts.proofs.Prelude.{ℕ, ◌+◌, ◌≤◌, arith, Bool, true, List, Option, none, some, ◌≡◌, leb, length, by_cases}
use Rattle.words.specs.Limits.{hole_slots}
use Rattle.words.specs.Host.{reservation_granted, commit_granted}
use Rattle.fields.specs.Field.{words}
use Rattle.fields.proofs.Changes.{Changes, changes_trans}
use Rattle.model.specs.declared.Hole.{Hole}
use Rattle.model.specs.Arena.{Arena, Status, unasked, ready, disabled, with_status, with_frontier, grant, draw, commit_ready, commit_as, commit, can_grow, grow}
use Rattle.model.proofs.ArenaTidy.{few-give, few-draw}
use Rattle.arena.specs.Store.{store_holes, store_arena}
use Rattle.arena.specs.Calls.{settled_arena, ready_arena, arena_as, committed_arena, grown_arena}
use Rattle.arena.proofs.Frames.{is_stored, holes_change, arena-changes}
use Rattle.refinement.proofs.ArenaStore.{Written, store-written}

abbrev pub Few : Arena → Type 0
Few a = length a.store.holes ≤ hole_slots

pub data Stored (b : List ℕ) (a : Arena) : List ℕ → Type 0 where
  once : Few a → Stored b a (store_arena b a)
  twice : (hs : List Hole) → length hs ≤ hole_slots → Few a → Stored b a (store_arena (store_holes b 0 hs) a)

module _ (h m : ℕ) (b : List ℕ) where
  settled-stored : (a : Arena) (o : Option ℕ) (f : Bool) → Few a → Stored b (grant h m a o f).arena (settled_arena h m b a o f)
  unfolding grant settled_arena
  settled-stored a none f l = once l
  settled-stored a (some q) f l = by_cases (commit_granted h) (λ e. rw e (once l)) (λ e. rw e (twice a.store.holes l (few-give m q a l)))

  module _ (n : ℕ) where
    ready-stored : (a : Arena) → Few a → Stored b (commit_ready n h m a).arena (ready_arena n h m b a)
    unfolding commit_ready ready_arena
    ready-stored a l = let d = draw n m a in settled-stored d.arena d.run d.fresh (few-draw n m a l)

    as_stored : (a : Arena) (s : Status) → Few a → Stored b (commit_as n h m a s).arena (arena_as n h m b a s)
    unfolding commit_as arena_as
    as_stored a unasked l = by_cases (reservation_granted h) (λ e. rw e (ready-stored (with_status ready a) l)) (λ e. rw e (once l))
    as_stored a ready l = ready-stored a l
    as_stored a disabled l = once l

    pub commit-stored : (a : Arena) → Few a → Stored b (commit n h m a).arena (committed_arena n h m b a)
    unfolding commit committed_arena
    commit-stored a l = as_stored a a.status l

    -- a growth that could be is settled as a run drawn from the frontier
    pub grow-stored : (e : ℕ) (a : Arena) → Few a → Stored b (grow n h e m a).arena (grown_arena n h e m b a)
    unfolding grow grown_arena settled_arena
    grow-stored e a l =
        let up = with_frontier (e + m) a in
        by_cases (can_grow n e m a)
        (λ d. by_cases (commit_granted h) (λ c. rw (d, c) (once l)) (λ c. rw (d, c) (twice a.store.holes l (few-give m e up l))))
        (λ d. rw d (once l))

module _ (b : List ℕ) {a : Arena} where
  pub stored-changes : {x : List ℕ} → Stored b a x → Changes is_stored b x
  stored-changes (once l) = arena-changes b a l
  stored-changes (twice hs k l) =
      let c = store_holes b 0 hs in
      changes_trans is_stored b c (store_arena c a) (holes_change b 0 hs (omega arith)) (arena-changes c a l)

  pub stored-few : {x : List ℕ} → Stored b a x → Few a
  stored-few (once l) = l
  stored-few (twice hs k l) = l

  pub stored-written : (n : ℕ) {x : List ℕ} → leb (words n) (length b) ≡ true → Stored b a x → Written x a
  stored-written n hb (once l) = store-written n b a hb l
  stored-written n hb (twice hs k l) = store-written n (store_holes b 0 hs) a (rw (holes_change b 0 hs (omega arith)).long hb) l
