-- The turns of the game as the loops go through them.
use Rattle.facts.proofs.Prelude.{ℕ, zero, suc, ◌+◌, ◌-◌, ◌<◌, arith, add-one, Bool, true, false, ◌||◌, ◌≡◌, refl, ap, ◌∙◌, ne_eqb, or_right}
use Rattle.game.specs.Game.{State, length_at, live, place, release, some_below, every_below, may_stand, placing, every_placing, asking, some_ask, releasing, some_release, wins}
use Rattle.game.proofs.Below.{some-found, every-fails}

module _ (n p : ℕ) (w : State → Bool) (s : State) where
  pub place_loses : (q : ℕ) → q < n → may_stand n s p q ≡ true → w (place p q s) ≡ false → every_placing n p w s ≡ false
  unfolding every_placing
  place_loses q h m l = every-fails (placing n p w s) q n h (rw (m, l) refl)

  pub placed-all : (q : ℕ) → q ≡ n → every_below (placing n p w s) q ≡ true → every_placing n p w s ≡ true
  unfolding every_placing
  placed-all q e h = rw e at h

module _ (n limit k : ℕ) (s : State) where
  abbrev pub before : State → Bool
  before = wins n limit (k - 1)

  turn : 0 < k → wins n limit k s ≡ (some_ask n limit before s || some_release n before s)
  unfolding wins
  turn h = turn_at k h
    where
      turn_at : (j : ℕ) → 0 < j → wins n limit j s ≡ (some_ask n limit (wins n limit (j - 1)) s || some_release n (wins n limit (j - 1)) s)
      turn_at zero h = absurd (omega arith)
      turn_at (suc j) h = let e : j ≡ suc j - 1 = omega arith in ap (λ (i : ℕ). some_ask n limit (wins n limit i) s || some_release n (wins n limit i) s) e

  pub ask-wins : 0 < k → (more : ℕ) → more < limit - live s → every_placing n (more + 1) before s ≡ true → wins n limit k s ≡ true
  unfolding some_ask
  ask-wins h more fits e = turn h ∙ rw (some-found (asking n before s) more (limit - live s) fits (rw add-one at e)) refl

  pub release-wins : 0 < k → (q : ℕ) → q < n → (length_at s q ≡ 0 → ⊥) → before (release q s) ≡ true → wins n limit k s ≡ true
  unfolding some_release
  release-wins h q l r e =
      turn h ∙ or_right (some_ask n limit before s) (some_release n before s) (some-found (releasing before s) q n l (rw (ne_eqb _ _ r, e) refl))

  pub neither : 0 < k → (more q : ℕ) → more ≡ limit - live s → q ≡ n → some_below (asking n before s) more ≡ false → some_below (releasing before s) q ≡ false → wins n limit k s ≡ false
  unfolding some_ask some_release
  neither h more q all end a r = turn h ∙ rw (rw all at a, rw end at r) refl
