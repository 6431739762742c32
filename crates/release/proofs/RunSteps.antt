-- The ways out of `run_of`, what a run that was found has, and the loop over the kinds.
use Rattle.facts.proofs.Prelude.{ℕ, zero, suc, ◌+◌, ◌-◌, ◌≤◌, ◌<◌, arith, add-one, Bool, true, false, ◌&&◌, and-true, and-false, and_assoc, List, ◌≡◌, refl, sym, ap, ◌∙◌, eqb}
use Rattle.facts.proofs.Prelude.{ltb, leb, length, get_or, drop, drop-cons, le-leb, lt-leb, lt-ltb, le-ltb, eq-eqb, ne_eqb, leb-true, every, and_left, and_right, drop_past}
use Rattle.std.specs.Prelude.{Some, None}
use native.Mathlib.Decide.{ℕ_discrete}
use lib.Bits.{bit_or, bit_xor, or_zero_l, or_add_and, xor_add_and, xor_self, and_le_l, and_le_r}
use Rattle.words.specs.Word.{kind_of}
use Rattle.classes.specs.declared.Shape.{Shape}
use Rattle.classes.specs.way.Sound.{Sound}
use Rattle.fields.specs.Field.{arena, page, frontier, first, get, words}
use Rattle.fields.specs.Ranges.{max_pages}
use Rattle.model.specs.Release.{of_kind}
use Rattle.pages.specs.Runs.{whole}
use Rattle.pages.specs.Stack.{page_at}
use Rattle.calls.specs.Out.{start_of, in_run_of}
use Rattle.release.specs.way.Blocks.{run_at}
use Rattle.release.specs.way.Pre.{InPre}
use Rattle.release.proofs.BlockSteps.{found_at}

module _ (n : ℕ) (b : List ℕ) (c : ℕ) (sh : Shape) (w p : ℕ) (e : p ≡ page_at w) where
  none_in : in_run_of n b sh c w ≡ false → None ≡ run_at n b sh c w
  none_in h = rw h

  pub past-arena : n ≤ p → None ≡ run_at n b sh c w
  unfolding in_run_of
  past-arena h = none_in (rw (le-ltb (page_at w) n (rw e at h)))

  pub past-frontier : (f : ℕ) → f ≡ get b (arena frontier) → f ≤ p → None ≡ run_at n b sh c w
  unfolding in_run_of
  past-frontier f k h = none_in (rw (← k) (simp (le-ltb (page_at w) f (rw e at h), and-false)))

  module _ (q : ℕ) (k : q ≡ get b (page first p)) where
    starts-at : start_of b w ≡ q
    unfolding start_of
    starts-at = rw (← e) (sym k)

    pub past-page : p < q → None ≡ run_at n b sh c w
    unfolding in_run_of
    past-page h = none_in (rw starts-at (simp (lt-leb q (page_at w) (rw e at h), and-false)))

    pub past-run : q ≤ p → sh.pages ≤ p - q → None ≡ run_at n b sh c w
    unfolding in_run_of
    past-run l h = none_in (rw starts-at (simp (le-ltb (page_at w) (q + sh.pages) (omega arith), and-false)))

    pub not-whole : (t : Bool) → t ≡ whole n b sh c q → t ≡ false → None ≡ run_at n b sh c w
    unfolding in_run_of
    not-whole t x h = none_in (rw (starts-at, ← x, h) (simp and-false))

    pub in_run_lem : (f : ℕ) (t : Bool) → p < n → f ≡ get b (arena frontier) → p < f → q ≤ p → p - q < sh.pages → t ≡ whole n b sh c q → t ≡ true → Some q ≡ run_at n b sh c w
    unfolding in_run_of
    in_run_lem f t h₁ y h₂ h₃ h₄ x h =
        rw (starts-at, ← y, ← x, h, lt-ltb (page_at w) n (rw e at h₁), lt-ltb (page_at w) f (rw e at h₂), le-leb q (page_at w) (rw e at h₃), lt-ltb (page_at w) (q + sh.pages) (omega arith))

-- ---- a run that was found
module _ (n : ℕ) (b : List ℕ) (c : ℕ) (sh : Shape) where
  pub run-whole : (w : ℕ) → in_run_of n b sh c w ≡ true → whole n b sh c (start_of b w) ≡ true
  unfolding in_run_of
  run-whole w e = and_right (ltb (page_at w) (start_of b w + sh.pages)) _ (and_right (leb (start_of b w) (page_at w)) _ (and_right (ltb (page_at w) (get b (arena frontier))) _ (and_right (ltb (page_at w) n) _ e)))

  below-arena : (q : ℕ) → whole n b sh c q ≡ true → q + sh.pages ≤ n
  unfolding whole
  below-arena q e = leb-true (q + sh.pages) n (and_left _ _ e)

  module _ (w q : ℕ) (h : Some q ≡ run_at n b sh c w) where
    pub run-found : whole n b sh c q ≡ true
    run-found =
        let z = found_at (in_run_of n b sh c w) (start_of b w) q h in
        rw z.1 (run-whole w z.0)

    pub run-there : Sound sh → n ≤ max_pages → words n ≤ length b → InPre b sh q
    run-there s few long =
        let z = below-arena q run-found in
        record { sound = s; below = omega (arith, s.paged); there = omega (arith, s.paged) }

-- ---- number 9
pub or_none : (a d : ℕ) → eqb (bit_or a d) 0 ≡ (eqb a 0 && eqb d 0)
or_none zero d = rw (or_zero_l d)
or_none (suc a) d = ne_eqb (bit_or (suc a) d) 0 (λ z. omega (arith, or_add_and (suc a) d, and_le_r (suc a) d)) ∙ sym (rw (ne_eqb (suc a) 0 (λ z. omega arith)))

pub xor_none : (a k : ℕ) → eqb (bit_xor a k) 0 ≡ eqb a k
xor_none a k =
    elim (ℕ_discrete a k) [
      | yes z ↦ rw (eq-eqb a k z) (eq-eqb (bit_xor a k) 0 (rw z (xor_self k)))
      | no z ↦ rw (ne_eqb a k z) (ne_eqb (bit_xor a k) 0 (λ y. z (omega (arith, xor_add_and a k, and_le_l a k, and_le_r a k))))
    ]

pub kind_test : (v k w kind : ℕ) → v ≡ w → k ≡ kind_of v → eqb (bit_xor k kind) 0 ≡ of_kind kind w
unfolding of_kind
kind_test v k w kind e h = xor_none k kind ∙ rw (h, e)

-- d is 0 if the words before place i have passed a test
pub record GatherInv (t : ℕ → Bool) (ws : List ℕ) (d i : ℕ) : Type 0 where
  pub within : i ≤ length ws
  pub rest : (eqb d 0 && every t (drop i ws)) ≡ every t ws

module _ (t : ℕ → Bool) (ws : List ℕ) where
  pub gather-starts : GatherInv t ws 0 0
  gather-starts = record { within = omega arith; rest = refl }

  pub gather-goes_on : (d i r : ℕ) → GatherInv t ws d i → i < length ws → eqb r 0 ≡ t (get_or ws i 0) → GatherInv t ws (bit_or d r) (i + 1)
  gather-goes_on d i r v l e =
      let z : every t (drop i ws) ≡ (eqb r 0 && every t (drop (i + 1) ws)) = rw (add-one, e, drop-cons ws i 0 l) in
      record {
        within = omega arith;
        rest = rw (or_none d r) (and_assoc (eqb d 0) (eqb r 0) _ ∙ ap (λ t. eqb d 0 && t) (sym z) ∙ v.rest);
      }

  pub gather-ends : (d i : ℕ) → GatherInv t ws d i → length ws ≤ i → eqb d 0 ≡ every t ws
  gather-ends d i v l = sym (and-true (eqb d 0)) ∙ (rw (drop_past ws i l) at v.rest)
