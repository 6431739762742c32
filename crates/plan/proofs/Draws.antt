-- A granted commit where no hole is stored: at the frontier, if the arena suffices.
use Rattle.facts.proofs.Prelude.{ℕ, ◌+◌, ◌≤◌, ◌<◌, Bool, true, false, true≢false, [], none, some, ◌≡◌, refl, sym, ap, ◌∙◌, leb, leb-true, leb-false, by_cases}
use Rattle.words.specs.Host.{reservation_granted, commit_granted}
use Rattle.model.specs.HoleStore.{least_fit}
use Rattle.model.specs.Arena.{Arena, Status, unasked, ready, disabled, Given, with_status, draw_from, draw, grant, commit_ready, commit_as, commit}

-- nothing was given back, and the reservation was not refused
abbrev pub usable : Status → Bool
usable unasked = true
usable ready = true
usable disabled = false

pub record Fresh (a : Arena) : Type 0 where
  pub holes : a.store.holes ≡ []
  pub usable : usable a.status ≡ true

pub data Draws (n m : ℕ) (a : Arena) : Given → Type 0 where
  suffices : {g : Given} → a.frontier + m ≤ n → g.run ≡ some a.frontier → g.arena.frontier ≡ a.frontier + m → Fresh g.arena → Draws n m a g
  short : {g : Given} → n < a.frontier + m → g.run ≡ none → Draws n m a g

module _ (n h m : ℕ) (r : reservation_granted h ≡ true) (c : commit_granted h ≡ true) where
  ready-draws : (a : Arena) → a.store.holes ≡ [] → a.status ≡ ready → Draws n m a (commit_ready n h m a)
  unfolding commit_ready draw draw_from grant least_fit
  ready-draws a e s =
      by_cases (leb (a.frontier + m) n)
      (λ b. let u : usable a.status ≡ true = rw s in
      rw (e, b, c) (suffices (leb-true (a.frontier + m) n b) refl refl (record { holes = refl; usable = u })))
      (λ b. rw (e, b) (short (leb-false (a.frontier + m) n b) refl))

  pub commit-draws : (a : Arena) → Fresh a → Draws n m a (commit n h m a)
  unfolding commit commit_as
  commit-draws a f = go a.status refl
    where
      go : (x : Status) → a.status ≡ x → Draws n m a (commit_as n h m a x)
      go unasked e = rw r (again (ready-draws (with_status ready a) f.holes refl))
        where
          again : {g : Given} → Draws n m (with_status ready a) g → Draws n m a g
          again (suffices x y z w) = suffices x y z w
          again (short x y) = short x y
      go ready e = ready-draws a f.holes e
      go disabled e = absurd (true≢false (sym f.usable ∙ ap usable e))
