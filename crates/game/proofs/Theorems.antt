-- What the game's computed answer means: the asker wins within k moves just where a strategy forces it (`game-is`).
use Rattle.facts.proofs.Prelude.{ℕ, zero, suc, ◌+◌, ◌-◌, ◌≤◌, ◌<◌, arith, pos_of_ne-zero, Bool, true, not, ◌||◌, false≢true, ◌↔◌, ◌≡◌, refl, sym, ◌∙◌, leb, eqb}
use Rattle.facts.proofs.Prelude.{ltb-true, lt-ltb, leb-true, le-leb, eqb-false, ne_eqb, not-true, by_cases, and_left, and_right, or_right, every-at, every_of}
use Rattle.game.specs.Game.{State, empty, live, length_at, live_below, place, release, some_below, every_below, reaches, is_free, may_stand, placing, every_placing, asking, some_ask, releasing, some_release, wins}
use Rattle.game.specs.Forces.{Free, Place, Ask, Forces, unplaced, asked, released}
use Rattle.game.proofs.Below.{some-found, some_is}

free_of : (s : State) (x : ℕ) → is_free s x ≡ true → Free s x
unfolding is_free
free_of s x e r h l = false≢true (sym (not-true _ e) ∙ some-found (reaches s x) r (suc x) (omega arith) (lt-ltb _ _ l))

of_free : (s : State) (x : ℕ) → Free s x → is_free s x ≡ true
unfolding is_free
of_free s x f =
    by_cases (some_below (reaches s x) (suc x))
    (λ e. let r = some_is (reaches s x) (suc x) e in absurd (f r.0 (omega arith) (ltb-true _ _ r.1.1)))
    (λ e. rw e refl)

module _ (n : ℕ) (s : State) (p q : ℕ) where
  standing : ℕ → Bool
  standing i = is_free s (q + i)

  place_of : may_stand n s p q ≡ true → Place n s p q
  unfolding may_stand standing
  place_of e = record {
    within = leb-true _ _ (and_left (leb (q + p) n) (every_below standing p) e);
    free = λ i h. free_of s (q + i) (every-at standing p i (and_right (leb (q + p) n) (every_below standing p) e) h);
  }

  of_place : Place n s p q → may_stand n s p q ≡ true
  unfolding may_stand standing
  of_place l = rw (le-leb _ _ l.within, every_of standing p (λ i h. of_free s (q + i) (l.free i h))) refl

module _ (n limit : ℕ) where
  ask_of : (k : ℕ) (s : State) → ((t : State) → wins n limit k t ≡ true → Forces n limit k t) → some_ask n limit (wins n limit k) s ≡ true → Forces n limit (suc k) s
  unfolding some_ask every_placing
  ask_of k s ih e =
      let r = some_is (asking n (wins n limit k) s) (limit - live s) e in
      let p : ℕ = suc r.0 in
      let allowed : Ask limit s p = record { some = omega arith; within = omega arith } in
      asked p allowed
      (λ q l.
      let m : may_stand n s p q ≡ true = of_place n s p q l in
      let at : q < n = omega (arith, l.within) in
      let o : (not (may_stand n s p q) || wins n limit k (place p q s)) ≡ true = every-at (placing n p (wins n limit k) s) n q r.1.1 at in
      ih (place p q s) (rw m at o))

  release_of : (k : ℕ) (s : State) → ((t : State) → wins n limit k t ≡ true → Forces n limit k t) → some_release n (wins n limit k) s ≡ true → Forces n limit (suc k) s
  unfolding some_release
  release_of k s ih e =
      let r = some_is (releasing (wins n limit k) s) n e in
      let q : ℕ = r.0 in
      let nonzero : length_at s q ≡ 0 → ⊥ = eqb-false _ _ (not-true _ (and_left (not (eqb (length_at s q) 0)) (wins n limit k (release q s)) r.1.1)) in
      released q r.1.0 (pos_of_ne-zero nonzero) (ih (release q s) (and_right (not (eqb (length_at s q) 0)) (wins n limit k (release q s)) r.1.1))

  pub forces_of : (k : ℕ) (s : State) → wins n limit k s ≡ true → Forces n limit k s
  unfolding wins
  forces_of zero s e = absurd (false≢true e)
  forces_of (suc k) s e =
      by_cases (some_ask n limit (wins n limit k) s)
      (λ t. ask_of k s (forces_of k) t)
      (λ t. release_of k s (forces_of k) (rw t at e))

  -- an ask whose placings all win, wins
  ask-wins : (k p : ℕ) (s : State) → Ask limit s p → ((q : ℕ) → q < n → placing n p (wins n limit k) s q ≡ true) → wins n limit (suc k) s ≡ true
  unfolding wins some_ask every_placing
  ask-wins k p s a h =
      let p-is : p ≡ suc (p - 1) = omega (arith, a.some) in
      let all : every_placing n p (wins n limit k) s ≡ true = every_of (placing n p (wins n limit k) s) n h in
      rw (some-found (asking n (wins n limit k) s) (p - 1) (limit - live s) (omega (arith, a.some, a.within)) (rw p-is at all)) refl

  release-wins : (k q : ℕ) (s : State) → q < n → 1 ≤ length_at s q → wins n limit k (release q s) ≡ true → wins n limit (suc k) s ≡ true
  unfolding wins some_release
  release-wins k q s h l e =
      let nonzero : length_at s q ≡ 0 → ⊥ = λ z. omega arith in
      or_right (some_ask n limit (wins n limit k) s) (some_release n (wins n limit k) s)
      (some-found (releasing (wins n limit k) s) q n h (rw (ne_eqb _ _ nonzero, e) refl))

  pub of_forces : (k : ℕ) (s : State) → Forces n limit k s → wins n limit k s ≡ true
  of_forces zero s f = elim f [ ]
  of_forces (suc k) s (unplaced p a none) = ask-wins k p s a
      (λ q h. by_cases (may_stand n s p q) (λ m. absurd (none q (place_of n s p q m))) (λ m. rw m refl))
  of_forces (suc k) s (asked p a all) = ask-wins k p s a
      (λ q h. by_cases (may_stand n s p q) (λ m. rw (m, of_forces k (place p q s) (all q (place_of n s p q m))) refl) (λ m. rw m refl))
  of_forces (suc k) s (released q h l f) = release-wins k q s h l (of_forces k (release q s) f)

  -- "The answer is yes exactly if the asker can force the win within k moves."
  pub game-is : (k : ℕ) → (wins n limit k empty ≡ true) ↔ Forces n limit k empty
  game-is k = (forces_of k empty, of_forces k empty)

-- "With n 3, L 3, k 6 it is yes; k 0 is always no."
pub three-yes : wins 3 3 6 empty ≡ true
unfolding wins some_ask some_release every_placing may_stand is_free live_below
three-yes = refl

pub none-no : (n limit : ℕ) (s : State) → Forces n limit 0 s → ⊥
unfolding wins
none-no n limit s f = false≢true (of_forces n limit 0 s f)
