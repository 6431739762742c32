-- The least key of a list of holes says the model's choice, where each hole is in its range.
--     plan-is    what is found by the least key is the plan
use Rattle.facts.proofs.Prelude.{ℕ, suc, ◌+◌, ◌-◌, ◌*◌, ◌/◌, ◌<◌, ◌≤◌, ◌^◌, arith, true, false, true≢false, List, [], ◌∷◌, ◌⊎◌, inl, inr, ⊎_elim, Option, none, some, ◌≡◌, refl}
use Rattle.facts.proofs.Prelude.{sym, ap, subst, eqb, leb, ltb, ltb-true, ltb-false, leb-true, leb-false, eqb-true, eqb-false, le-leb, lt-leb, every, by_cases, and_left, and_right}
use Rattle.model.specs.declared.Hole.{Hole}
use Rattle.model.specs.HoleStore.{goes_before, Fit, fit_at, nearer, least_fit, index_of}
use Rattle.arena.specs.Valid.{hole_valid}
use Rattle.runs.specs.declared.holes.Best.{Best}
use Rattle.runs.specs.way.Plan.{index_code, plan_as, plan_of}
use Rattle.runs.specs.way.Scan.{over, key, no_best, better_of, fold_holes, best_of, code_at}

-- ---- one hole
module _ (need i k : ℕ) (h : Hole) (b : Best) (e : k ≡ key need h) where
  pub better_stays : b.key < k → b ≡ better_of need i h b
  better_stays l = rw (← e, lt-leb k b.key l)

  pub better_goes : k ≤ b.key → record { key = k; code = i + 1 } ≡ better_of need i h b
  better_goes l = rw (← e, le-leb k b.key l)

-- ---- the model's order of holes, as one of numbers
abbrev rank : Hole → ℕ
rank h = h.pages * 2 ^ 32 + h.first

goes-rank : (h g : Hole) → h.first < 2 ^ 32 → goes_before h g ≡ true → rank h ≤ rank g
goes-rank h g l e =
    by_cases (ltb h.pages g.pages)
    (λ d. omega (arith, ltb-true h.pages g.pages d))
    (λ d. let b = rw d at e in
    let s : h.pages ≡ g.pages = eqb-true h.pages g.pages (and_left _ _ b) in
    omega (arith, leb-true h.first g.first (and_right (eqb h.pages g.pages) _ b)))

stays-rank : (h g : Hole) → g.first < 2 ^ 32 → goes_before h g ≡ false → rank g < rank h
stays-rank h g l e =
    by_cases (ltb h.pages g.pages)
    (λ d. absurd (true≢false (rw d at e)))
    (λ d. let m : g.pages ≤ h.pages = ltb-false h.pages g.pages d in
    by_cases (eqb h.pages g.pages)
    (λ t. let s : h.pages ≡ g.pages = eqb-true h.pages g.pages t in
    let f : g.first < h.first = leb-false h.first g.first (rw (d, t) at e) in
    omega arith)
    (λ t. let z : h.pages ≡ g.pages → ⊥ = eqb-false h.pages g.pages t in omega (arith, z)))

lt-le : {a b : ℕ} → a < b → a ≤ b
lt-le l = omega arith

-- no key of a hole is above that of none
most : (p f k : ℕ) → p < 2 ^ 32 → f < 2 ^ 32 → k ≡ 18446744073709551615 → p * 2 ^ 32 + f ≤ k
most p f k l m e = omega arith

-- the order of two holes is that of their keys
module _ (need p f q g : ℕ) (l : need ≤ p) (m : need ≤ q) where
  below_key : (k : ℕ) → k ≡ (q - need) * 2 ^ 32 + g → p * 2 ^ 32 + f ≤ q * 2 ^ 32 + g → (p - need) * 2 ^ 32 + f ≤ k
  below_key k e r = omega arith

  above-key : (k j : ℕ) → k ≡ (p - need) * 2 ^ 32 + f → j ≡ (q - need) * 2 ^ 32 + g → q * 2 ^ 32 + g < p * 2 ^ 32 + f → j < k
  above-key k j e d r = omega arith

-- ---- a hole's key, of p pages at the first page f
module _ (need p f : ℕ) (need-fits : need < 2 ^ 32) (fits : f + p < 2 ^ 32) where
  key-enough : need ≤ p → over need p * 2 ^ 32 + f ≡ (p - need) * 2 ^ 32 + f
  key-enough l =
      let e : over need p ≡ p - need = omega arith in
      ap (λ (z : ℕ). z * 2 ^ 32 + f) e

  key-short : p < need → (2 ^ 32 - need) * 2 ^ 32 ≤ over need p * 2 ^ 32 + f
  key-short l =
      let e : over need p ≡ p + (2 ^ 32 - need) = omega arith in
      omega (arith, e)

  low-key : need ≤ p → (k : ℕ) → (2 ^ 32 - need) * 2 ^ 32 ≤ k → (p - need) * 2 ^ 32 + f < k
  low-key l k g = omega arith

  code-low : need ≤ p → (k : ℕ) → k ≡ (p - need) * 2 ^ 32 + f → k / 2 ^ 32 + need < 2 ^ 32
  code-low l k e = omega arith

none-low : (need k : ℕ) → need < 2 ^ 32 → (2 ^ 32 - need) * 2 ^ 32 ≤ k → 2 ^ 32 ≤ k / 2 ^ 32 + need
none-low need k l g = omega arith

module _ (need : ℕ) (need-fits : need < 2 ^ 32) where
  -- the best of the holes at index i and on says their least fit
  abbrev Says : ℕ → Best → Option Fit → Type 0
  Says i b none = ((2 ^ 32 - need) * 2 ^ 32 ≤ b.key) ⊎ (b ≡ no_best)
  Says i b (some f) = (b.key ≡ (f.hole.pages - need) * 2 ^ 32 + f.hole.first) × (b.code ≡ i + suc f.index) × (need ≤ f.hole.pages) × (f.hole.first + f.hole.pages < 2 ^ 32)

  -- h goes: it is the fit
  goes : (i : ℕ) (h : Hole) (b : Best) → h.first + h.pages < 2 ^ 32 → need ≤ h.pages → (h.pages - need) * 2 ^ 32 + h.first ≤ b.key → Says i (better_of need i h b) (some (fit_at 0 h))
  goes i h b fits l g =
      let e : key need h ≡ (h.pages - need) * 2 ^ 32 + h.first = key-enough need h.pages h.first need-fits fits l in
      simp (le-leb (key need h) b.key (subst (λ (k : ℕ). k ≤ b.key) (sym e) g)) (e, refl, l, fits)

  -- h stays behind the fit f
  stays : (i : ℕ) (h : Hole) (b : Best) (f : Fit) → b.key < key need h → Says (suc i) b (some f) → Says i (better_of need i h b) (some (fit_at (suc f.index) f.hole))
  stays i h b f l says =
      let e : b.code ≡ i + suc (suc f.index) = omega (arith, says.1) in
      simp (lt-leb (key need h) b.key l) (says.0, e, says.2, says.3)

  says_nearer : (i : ℕ) (h : Hole) (b : Best) (o : Option Fit) → h.first + h.pages < 2 ^ 32 → Says (suc i) b o → Says i (better_of need i h b) (nearer need h o)
  says_nearer i h b none fits says =
      by_cases (leb need h.pages)
      (λ e. let l : need ≤ h.pages = leb-true need h.pages e in
      simp e (goes i h b fits l (⊎_elim (λ g. lt-le (low-key need h.pages h.first need-fits fits l b.key g)) (λ z. most (h.pages - need) h.first b.key (omega arith) (omega arith) (ap (λ (x : Best). x.key) z)) says)))
      (λ e. let l : h.pages < need = leb-false need h.pages e in
      by_cases (leb (key need h) b.key) (λ d. simp (e, d) (inl (key-short need h.pages h.first need-fits fits l))) (λ d. simp (e, d) says))
  says_nearer i h b (some f) fits says =
      by_cases (leb need h.pages)
      (λ e. let l : need ≤ h.pages = leb-true need h.pages e in
      let enough : need ≤ f.hole.pages = says.2 in
      let first_fits : f.hole.first < 2 ^ 32 = omega (arith, says.3) in
      by_cases (goes_before h f.hole)
      (λ d. simp (e, d) (goes i h b fits l (below_key need _ _ _ _ l enough b.key says.0 (goes-rank h f.hole (omega arith) d))))
      (λ d. simp (e, d) (stays i h b f (above-key need _ _ _ _ l enough (key need h) b.key (key-enough need h.pages h.first need-fits fits l) says.0 (stays-rank h f.hole first_fits d)) says)))
      (λ e. let l : h.pages < need = leb-false need h.pages e in
      let g = low-key need f.hole.pages f.hole.first need-fits says.3 says.2 (key need h) (key-short need h.pages h.first need-fits fits l) in
      simp e (stays i h b f (subst (λ (k : ℕ). k < key need h) (sym says.0) g) says))

  says_code : (b : Best) (o : Option Fit) → Says 0 b o → code_at need b ≡ index_code (index_of o)
  says_code b none says =
      ⊎_elim
      (λ a. simp (le-leb (2 ^ 32) (b.key / 2 ^ 32 + need) (none-low need b.key need-fits a)))
      (λ z. by_cases (leb (2 ^ 32) (b.key / 2 ^ 32 + need)) (λ d. simp d) (λ d. simp d (ap (λ (x : Best). x.code) z)))
      says
  says_code b (some f) says =
      simp (lt-leb (2 ^ 32) (b.key / 2 ^ 32 + need) (code-low need f.hole.pages f.hole.first need-fits says.3 says.2 b.key says.0)) (omega (arith, says.1))

  module _ (total f : ℕ) (f-fits : f < 2 ^ 32) where
    short_of : (h : Hole) → hole_valid total f h ≡ true → h.first + h.pages < 2 ^ 32
    short_of h e = omega (arith, leb-true (h.first + h.pages) f (and_right (leb 1 h.pages) _ (and_right (leb h.pages total) _ e)))

    says_all : (hs : List Hole) (i : ℕ) → every (hole_valid total f) hs ≡ true → Says i (best_of need i hs no_best) (least_fit need hs)
    unfolding fold_holes least_fit
    says_all [] i e = inr refl
    says_all (h ∷ hs) i e =
        says_nearer i h (best_of need (suc i) hs no_best) (least_fit need hs) (short_of h (and_left (hole_valid total f h) _ e)) (says_all hs (suc i) (and_right (hole_valid total f h) _ e))

    pub plan-is : (hs : List Hole) → plan_as (every (hole_valid total f) hs) (code_at need (best_of need 0 hs no_best)) ≡ plan_of hs total f need
    unfolding plan_of
    plan-is hs = by_cases (every (hole_valid total f) hs) (λ e. rw e (ap (plan_as true) (says_code (best_of need 0 hs no_best) (least_fit need hs) (says_all hs 0 e)))) (λ e. rw e)
