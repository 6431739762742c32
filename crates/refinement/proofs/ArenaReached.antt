-- What the arena's part of the representation uses of a heap, and that every heap after a history has it.
--     Reached          the hole store is tidy, the frontier is in the arena, no page is in two places, and holders are known
--     reached-after    every heap after a history is reached
--     reached-commit, reached-grow, reached-give    a step of the arena, with what it passes to a holder, keeps this
use Rattle.facts.proofs.Prelude.{ℕ, zero, suc, ◌+◌, ◌≤◌, ◌<◌, arith, true, cond, List, [], ◌∷◌, ◌++◌, ◌≡◌, refl}
use Rattle.facts.proofs.Prelude.{eqb, ltb, ltb-true, ltb-false, eqb-true, eqb-false, total, below, by_cases}
use Rattle.rules.specs.Rules.{Rules}
use Rattle.model.specs.Cover.{covers, covers_run}
use Rattle.model.specs.Calls.{Call}
use Rattle.model.specs.Arena.{Arena, commit, grow, give}
use Rattle.model.specs.Class.{Class}
use Rattle.model.specs.Heap.{Heap, Holder, nobody, direct, class, is_held, pass_to, held_pages, step}
use Rattle.model.specs.History.{heap_from, heap_after}
use Rattle.model.proofs.Runs.{above_at}
use Rattle.model.proofs.Tidy.{Tidy}
use Rattle.model.proofs.ArenaTidy.{Once, tidy-commit, tidy-grow, tidy-give}
use Rattle.model.proofs.ArenaLaws.{idle, commit-law, grow-law, grow-bound, give-law, give-frontier}
use Rattle.model.proofs.IdlePages.{HolesBelow, holes-below}
use Rattle.model.proofs.HeapLaws.{kept}
use Rattle.model.proofs.HistoryArena.{tidy-after}
use Rattle.refinement.proofs.ArenaHolders.{is_known, Known, known-passed, known-after}

pub record Reached (n : ℕ) (H : Heap) : Type 0 where
  pub tidy : Tidy H.arena.store
  pub bound : H.arena.frontier ≤ n
  -- held, in a hole, or at or above the frontier: once at most
  pub apart : (x : ℕ) → is_held (H.holder x) + idle x H.arena ≤ 1
  -- by nobody, the direct calls or one of the 152 classes
  pub known : Known H.holder

pub reached-after : (n : ℕ) (rules : Rules) (xs : List Call) → Reached n (heap_after n rules xs)
reached-after n rules xs = record {
  tidy = tidy-after n rules xs;
  bound = (kept n rules xs).inv.bound;
  apart = λ x. omega (arith, (kept n rules xs).inv.one x);
  known = known-after n rules xs;
}

-- one call more
pub heap-next : (n : ℕ) (H : Heap) (xs : List Call) (x : Call) → heap_from n H (xs ++ x ∷ []) ≡ (step n (heap_from n H xs) x).heap
heap-next n H [] x = refl
heap-next n H (y ∷ xs) x = heap-next n (step n H y).heap xs x

-- the arena's part does not look at the classes, so they may be any
abbrev pub heap_of : Rules → Arena → (ℕ → Holder) → (ℕ → Class) → Heap
heap_of rules a w cs = record { arena = a; holder = w; classes = cs; rules = rules }

pub not-held : (w : Holder) → is_held w ≡ 0 → w ≡ nobody
not-held nobody e = refl
not-held direct e = absurd (omega arith)
not-held (class c) e = absurd (omega arith)

module _ (n : ℕ) (H : Heap) (r : Reached n H) where
  pub reached-classes : (cs : ℕ → Class) → Reached n (heap_of H.rules H.arena H.holder cs)
  reached-classes cs = record { tidy = r.tidy; bound = r.bound; apart = r.apart; known = r.known }

  pub idle-once : (x : ℕ) → idle x H.arena ≤ 1
  idle-once x = omega (arith, r.apart x)

  -- no page is in two holes
  pub holes-once : Once H.arena
  holes-once x = omega (arith, r.apart x)

  pub reached-holes : HolesBelow H.arena.frontier H.arena.store.holes
  reached-holes = holes-below H.arena r.tidy idle-once

  -- nobody holds a page that is idle; a page held lies below the frontier
  pub idle-nobody : (x : ℕ) → 1 ≤ idle x H.arena → H.holder x ≡ nobody
  idle-nobody x l = not-held (H.holder x) (omega (arith, r.apart x))

  pub above-nobody : (x : ℕ) → H.arena.frontier ≤ x → H.holder x ≡ nobody
  above-nobody x l = idle-nobody x (omega (arith, above_at H.arena.frontier x l))

  pub held_below : (x : ℕ) → 1 ≤ is_held (H.holder x) → x < H.arena.frontier
  held_below x l =
      by_cases (ltb x H.arena.frontier)
      (λ e. ltb-true x H.arena.frontier e)
      (λ e. absurd (omega (arith, r.apart x, above_at H.arena.frontier x (ltb-false x H.arena.frontier e))))

total-le : (f : ℕ → ℕ) (n : ℕ) → ((x : ℕ) → f x ≤ 1) → total f (below n) ≤ n
total-le f zero h = omega arith
total-le f (suc n) h = omega (arith, h n, total-le f n h)

pub held-le : (n : ℕ) (H : Heap) → Reached n H → held_pages n H ≤ n
held-le n H r = total-le (λ x. is_held (H.holder x)) n (λ x. omega (arith, r.apart x))

-- ---- steps
takes : (o who : Holder) (i i' g : ℕ) → is_held o + i ≤ 1 → i' + g ≤ i → is_held who ≤ 1 → is_held (cond (eqb g 0) o who) + i' ≤ 1
takes o who i i' g a l h = by_cases (eqb g 0) (λ e. rw e (omega arith)) (λ e. let z : g ≡ 0 → ⊥ = eqb-false g 0 e in rw e (omega (arith, z)))

one-held : (w : Holder) → is_held w ≤ 1
one-held nobody = omega arith
one-held direct = omega arith
one-held (class c) = omega arith

module _ (n : ℕ) (H : Heap) (r : Reached n H) (h m : ℕ) (one : 1 ≤ m) (who : Holder) (ours : is_known who ≡ true) (cs : ℕ → Class) where
  pub reached-commit : Reached n (heap_of H.rules (commit n h m H.arena).arena (pass_to who (covers_run m (commit n h m H.arena).run) H.holder) cs)
  reached-commit =
      let g = commit n h m H.arena in
      let law = commit-law n h m H.arena in
      record {
        tidy = tidy-commit n h m one H.arena (holes-once n H r) r.tidy;
        bound = law.bound r.bound;
        apart = λ x. takes (H.holder x) who (idle x H.arena) (idle x g.arena) (covers_run m g.run x) (r.apart x) (omega (arith, law.pages x)) (one-held who);
        known = known-passed who (covers_run m g.run) H.holder ours r.known;
      }

  pub reached-grow : (e : ℕ) → Reached n (heap_of H.rules (grow n h e m H.arena).arena (pass_to who (λ x. cond (grow n h e m H.arena).grew (covers m e x) 0) H.holder) cs)
  reached-grow e =
      let g = grow n h e m H.arena in
      record {
        tidy = tidy-grow n h m one e H.arena r.tidy;
        bound = grow-bound n h e m H.arena r.bound;
        apart = λ x. takes (H.holder x) who (idle x H.arena) (idle x g.arena) (cond g.grew (covers m e x) 0) (r.apart x)
            (omega (arith, grow-law n h e m H.arena x)) (one-held who);
        known = known-passed who (λ x. cond g.grew (covers m e x) 0) H.holder ours r.known;
      }

gives : (o : Holder) (i i' g : ℕ) → is_held o + i ≤ 1 → i' ≤ i + g → g ≤ is_held o → is_held (cond (eqb g 0) o nobody) + i' ≤ 1
gives o i i' g a l h = by_cases (eqb g 0) (λ e. rw e (let z = eqb-true g 0 e in omega arith)) (λ e. rw e (omega (arith, one-held o)))

-- a run that is held is given
pub reached-give : (n : ℕ) (H : Heap) → Reached n H → (q m : ℕ) → 1 ≤ m → ((x : ℕ) → covers m q x ≤ is_held (H.holder x)) → (cs : ℕ → Class)
    → Reached n (heap_of H.rules (give m q H.arena) (pass_to nobody (covers m q) H.holder) cs)
reached-give n H r q m one k cs =
    record {
      tidy = tidy-give m one q H.arena r.tidy;
      bound = omega (arith, give-frontier m q H.arena, r.bound);
      apart = λ x. gives (H.holder x) (idle x H.arena) (idle x (give m q H.arena)) (covers m q x) (r.apart x) (omega (arith, give-law m q x H.arena)) (k x);
      known = known-passed nobody (covers m q) H.holder refl r.known;
    }
