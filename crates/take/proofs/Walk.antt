-- A take's walk of the partial list, on any words: what it finds, and that it still passes once its first page has given its blocks.
-- A page is visited only with PREV the code of the page before, 0 at the head; so no later page is the first one, and none but the
-- second one has PREV the first one's code. No list of the pages is needed.
--     planned       how many blocks a walk finds, and whether all are virgin
--     Step          what one turn of a passing walk tests
--     tail-kept     a walk past the second page does not see that the first one is cut out
--     head-kept     the second page, once it heads the list
use Rattle.facts.proofs.Prelude.{ℕ, zero, suc, ◌+◌, ◌-◌, ◌≤◌, arith, Bool, true, false, cond, ◌&&◌, ◌||◌, true≢false, List, ◌≡◌, refl}
use Rattle.facts.proofs.Prelude.{sym, ap, ◌∙◌, eqb, ltb, leb, length, leb-true, eq-eqb, ne_eqb, eqb-true, by_cases, and_left, and_right}
use Rattle.classes.specs.declared.Shape.{Shape}
use Rattle.fields.specs.Field.{Field, arena, mark, class, hole, page, out, slot, frontier, next, prev, listed, virgin, class_off, page_off, get}
use Rattle.fields.proofs.Changes.{Changes}
use Rattle.pages.specs.Stack.{latest}
use Rattle.calls.specs.Take.{sound, walk}
use Rattle.pages.proofs.Kept.{Owns, Body, changes-owns, changes-body, latest-kept}
use Rattle.take.proofs.TakePages.{Valid, sound-valid, valid-sound, valid-kept}

-- ---- what a walk finds
pub record Planned : Type 0 where
  pub count : ℕ
  pub virgin : Bool

abbrev pub planned_none : Planned
planned_none = record { count = 0; virgin = true }

abbrev pub then_planned : Bool → ℕ → Planned → Planned
then_planned v j p = record { count = p.count + j; virgin = v && p.virgin }

-- nothing more is wanted, or there is no page
abbrev pub stops : ℕ → ℕ → Bool
stops m code = eqb m 0 || eqb code 0

unfoldable pub planned : List ℕ → Shape → ℕ → ℕ → ℕ → Planned
planned b sh zero m code = planned_none
planned b sh (suc k) m code =
    cond (stops m code) planned_none
    (then_planned (eqb (get b (page virgin (code - 1))) 1) (length (latest b sh (code - 1) m))
    (planned b sh k (m - length (latest b sh (code - 1) m)) (get b (page next (code - 1)))))

pub planned-stops : (b : List ℕ) (sh : Shape) (k m code : ℕ) → stops m code ≡ true → planned b sh k m code ≡ planned_none
unfolding planned
planned-stops b sh zero m code e = refl
planned-stops b sh (suc k) m code e = rw e

pub planned-goes : (b : List ℕ) (sh : Shape) (k m code : ℕ) → stops m code ≡ false
    → planned b sh (suc k) m code
    ≡ then_planned (eqb (get b (page virgin (code - 1))) 1) (length (latest b sh (code - 1) m)) (planned b sh k (m - length (latest b sh (code - 1) m)) (get b (page next (code - 1))))
unfolding planned
planned-goes b sh k m code e = rw e

pub some-wanted : (m code : ℕ) → stops m code ≡ false → m ≡ 0 → ⊥
some-wanted m code e z = true≢false (sym (ap (λ t. t || eqb code 0) (eq-eqb m 0 z)) ∙ e)

pub some-page : (m code : ℕ) → stops m code ≡ false → code ≡ 0 → ⊥
some-page m code e z = by_cases (eqb m 0) (λ u. some-wanted m code e (eqb-true m 0 u)) (λ u. true≢false (sym (rw u (eq-eqb code 0 z)) ∙ e))

pub stops-none : (m code : ℕ) → code ≡ 0 → stops m code ≡ true
stops-none m code e = by_cases (eqb m 0) (λ u. rw u) (λ u. rw (u, e))

pub stops-full : (m code : ℕ) → m ≡ 0 → stops m code ≡ true
stops-full m code e = rw (eq-eqb m 0 e)

-- ---- one turn
module _ (n : ℕ) (b : List ℕ) (c : ℕ) (sh : Shape) where
  pub record Step (k m code y : ℕ) : Type 0 where
    pub below : leb code (get b (arena frontier)) ≡ true
    pub before : get b (page prev (code - 1)) ≡ y
    pub valid : Valid n b c sh 1 m (code - 1)
    pub rest : walk n b c sh k (m - length (latest b sh (code - 1) m)) (get b (page next (code - 1))) code ≡ true

  pub walk-below : (k m code y : ℕ) → walk n b c sh k m code y ≡ true → leb code (get b (arena frontier)) ≡ true
  unfolding walk
  walk-below zero m code y e = e
  walk-below (suc k) m code y e = and_left _ _ e

  pub walk-stops : (k m code y : ℕ) → stops m code ≡ true → walk n b c sh k m code y ≡ leb code (get b (arena frontier))
  unfolding walk
  walk-stops zero m code y e = refl
  walk-stops (suc k) m code y e = rw e (by_cases (leb code (get b (arena frontier))) (λ u. rw u) (λ u. rw u))

  pub walk_step : (k m code y : ℕ) → stops m code ≡ false → walk n b c sh (suc k) m code y ≡ true → Step k m code y
  unfolding walk
  walk_step k m code y e w =
      let w₁ = and_right (leb code (get b (arena frontier))) _ (rw e at w) in
      let w₂ = and_right (eqb (get b (page prev (code - 1))) y) _ w₁ in
      record {
        below = and_left _ _ w;
        before = eqb-true _ _ (and_left (eqb (get b (page prev (code - 1))) y) _ w₁);
        valid = sound-valid n b c sh 1 m (code - 1) (and_left _ _ w₂);
        rest = and_right (sound n b c sh 1 m (code - 1)) _ w₂;
      }

  pub step-walk : (k m code y : ℕ) → stops m code ≡ false → Step k m code y → walk n b c sh (suc k) m code y ≡ true
  unfolding walk
  step-walk k m code y e s = rw (e, s.below, s.before, eq-eqb y y refl, valid-sound n b c sh 1 m (code - 1) s.valid) s.rest

-- ---- what a turn of the fill writes: the page's counts, out bits, links and LISTED, PREV of the page with code x, and the head
abbrev pub is_turned : ℕ → ℕ → ℕ → Field → Bool
is_turned c q x (arena k) = false
is_turned c q x (mark p j) = false
is_turned c q x (class k d) = eqb (class_off k) 0 && eqb d c
is_turned c q x (hole k i) = false
is_turned c q x (page k p) = (ltb 1 (page_off k) && (ltb (page_off k) 7 && eqb p q)) || (eqb (page_off k) 3 && eqb (suc p) x)
is_turned c q x (out p i) = eqb p q
is_turned c q x (slot p i) = false

module _ (n : ℕ) (b b' : List ℕ) (c : ℕ) (sh : Shape) (few : sh.capacity ≤ 4096) (p x : ℕ) (ch : Changes (is_turned c p x) b b') (head : get b (page prev p) ≡ 0) where
  owns : Owns b b'
  owns = changes-owns ch (λ y. refl) (λ y. refl) refl

  other-body : (z : ℕ) → (z ≡ p → ⊥) → Body z b b'
  other-body z d = let zp = ne_eqb z p d in changes-body ch z (rw zp) (rw zp) refl (λ i. refl) (λ i. zp) (λ j. refl)

  other-next : (z : ℕ) → (z ≡ p → ⊥) → get b' (page next z) ≡ get b (page next z)
  other-next z d = ch.kept (page next z) refl (rw (ne_eqb z p d))

  other-listed : (z : ℕ) → (z ≡ p → ⊥) → get b' (page listed z) ≡ get b (page listed z)
  other-listed z d = ch.kept (page listed z) refl (rw (ne_eqb z p d))

  other-prev : (z : ℕ) → (z ≡ p → ⊥) → (suc z ≡ x → ⊥) → get b' (page prev z) ≡ get b (page prev z)
  other-prev z d d' = ch.kept (page prev z) refl (rw (ne_eqb z p d, ne_eqb (suc z) x d'))

  abbrev Kept : ℕ → ℕ → ℕ → ℕ → Type 0
  Kept k m code y = (walk n b' c sh k m code y ≡ true) × (planned b' sh k m code ≡ planned b sh k m code)

  stop_kept : (k m code y y' : ℕ) → stops m code ≡ true → walk n b c sh k m code y ≡ true → Kept k m code y'
  stop_kept k m code y y' e w = (
    walk-stops n b' c sh k m code y' e ∙ rw (ch.kept (arena frontier) refl refl) (sym (walk-stops n b c sh k m code y e) ∙ w),
    planned-stops b' sh k m code e ∙ sym (planned-stops b sh k m code e),
  )

  -- a page that is not the first: the same blocks, and the walk goes on alike
  go-kept : (k m code y y' : ℕ) → stops m code ≡ false → (code - 1 ≡ p → ⊥) → Step n b c sh k m code y → get b' (page prev (code - 1)) ≡ y'
      → Kept k (m - length (latest b sh (code - 1) m)) (get b (page next (code - 1))) code → Kept (suc k) m code y'
  go-kept k m code y y' e d s py r =
      let q = code - 1 in
      let a = other-body (code - 1) d in
      let la : latest b' sh (code - 1) m ≡ latest b sh (code - 1) m = latest-kept a sh m (omega (arith, leb-true, s.valid.stack, s.valid.within)) in
      let nx = other-next (code - 1) d in (
        step-walk n b' c sh k m code y' e (record {
          below = rw owns.bound s.below;
          before = py;
          valid = valid-kept owns a n c sh 1 1 m few (other-listed (code - 1) d ∙ eqb-true _ _ s.valid.listing) s.valid;
          rest = rw (la, nx) r.0;
        }),
        planned-goes b' sh k m code e ∙ rw (la, nx, a.virgin, r.1) (sym (planned-goes b sh k m code e)),
      )

  module _ (second : get b (page prev (x - 1)) ≡ suc p) where
    pub tail-kept : (k m code y : ℕ) → (y ≡ 0 → ⊥) → (y ≡ suc p → ⊥) → walk n b c sh k m code y ≡ true → Kept k m code y
    unfolding walk planned
    tail-kept zero m code y d₀ dₚ w = (rw (ch.kept (arena frontier) refl refl) w, refl)
    tail-kept (suc k) m code y d₀ dₚ w =
        by_cases (stops m code)
        (λ e. stop_kept (suc k) m code y y e w)
        (λ e.
        let s = walk_step n b c sh k m code y e w in
        let d : (code - 1 ≡ p → ⊥) = λ u. d₀ (sym s.before ∙ ap (λ z. get b (page prev z)) u ∙ head) in
        let d' : (suc (code - 1) ≡ x → ⊥) = λ u. dₚ (sym s.before ∙ ap (λ z. get b (page prev z)) (omega arith) ∙ second) in
        let z = some-page m code e in
        go-kept k m code y y e d s (other-prev (code - 1) d d' ∙ s.before)
        (tail-kept k (m - length (latest b sh (code - 1) m)) (get b (page next (code - 1))) code z (λ u. d (omega arith)) s.rest))

  pub head-kept : (k m : ℕ) → ((r : ℕ) → x ≡ suc r → (r ≡ p → ⊥) → get b' (page prev r) ≡ 0) → walk n b c sh k m x (suc p) ≡ true → Kept k m x 0
  unfolding walk planned
  head-kept zero m hp w = (rw (ch.kept (arena frontier) refl refl) w, refl)
  head-kept (suc k) m hp w =
      by_cases (stops m x)
      (λ e. stop_kept (suc k) m x (suc p) 0 e w)
      (λ e.
      let s = walk_step n b c sh k m x (suc p) e w in
      let z = some-page m x e in
      let d : (x - 1 ≡ p → ⊥) = λ u. let v : 0 ≡ suc p = sym head ∙ ap (λ z. get b (page prev z)) (sym u) ∙ s.before in omega arith in
      go-kept k m x (suc p) 0 e d s (hp (x - 1) (omega (arith, z)) d)
      (tail-kept s.before k (m - length (latest b sh (x - 1) m)) (get b (page next (x - 1))) x z (λ u. d (omega arith)) s.rest))
