-- The entries of a page's stack from one place on below another, and the ways out of the functions that test them.
--     fit         each of the topmost n of a stack of t is below k
--     fit-split   those above a place, and those below it
use Rattle.facts.proofs.Prelude.{ℕ, zero, suc, ◌+◌, ◌-◌, ◌*◌, ◌/◌, ◌≤◌, ◌<◌, arith, zero-add, suc-add, add-one, Bool, true}
use Rattle.facts.proofs.Prelude.{◌&&◌, and_assoc, and-true, List, ◌≡◌, refl, sym, ap, ap₂, ◌∙◌, ltb, every}
use Rattle.fields.specs.Field.{slot, get}
use Rattle.pages.specs.Stack.{top_entries}
use Rattle.pages.proofs.TopEntries.{top_entries-cut}

module _ (b : List ℕ) (q k : ℕ) where
  abbrev pub fit : ℕ → ℕ → Bool
  fit n t = every (λ i. ltb i k) (top_entries b q n t)

  fit-split : (n m t : ℕ) → n ≤ t → fit (n + m) t ≡ (fit n t && fit m (t - n))
  fit-split zero m t h = let e : t ≡ t - 0 = omega arith in rw zero-add (ap (fit m) e)
  fit-split (suc n) m zero h = absurd (omega arith)
  fit-split (suc n) m (suc t) h =
      let e : t - n ≡ suc t - suc n = omega arith in
      rw suc-add
      (ap (λ z. ltb (get b (slot q t)) k && z) (fit-split n m t (omega arith) ∙ ap (λ z. fit n t && fit m z) e)
      ∙ sym (and_assoc (ltb (get b (slot q t)) k) (fit n t) (fit m (suc t - suc n))))

  -- ---- one entry or none
  pub end_none : (a t : ℕ) → a ≡ t → true ≡ fit (t - a) t
  end_none a t e = let z : t - a ≡ 0 = omega arith in rw z

  pub end-one : (a t s : ℕ) → (a ≡ t → ⊥) → a ≤ t → t ≤ a + 1 → s ≡ get b (slot q a) → ltb s k ≡ fit (t - a) t
  end-one a t s h l m e =
      let n : t - a ≡ 1 = omega (arith, h) in
      let o : t ≡ suc a = omega (arith, h) in
      let d : ltb s k ≡ fit 1 (suc a) = rw e (sym (and-true (ltb (get b (slot q a)) k))) in
      d ∙ ap₂ fit (sym n) (sym o)

  -- ---- two at a time
  pub pair-done : (x l h : ℕ) (o : Bool) → l ≡ get b (slot q (2 * x)) → h ≡ get b (slot q (2 * x + 1))
      → ((ltb h k && ltb l k) && o) ≡ ((ltb (get b (slot q (2 * x + 1))) k && ltb (get b (slot q (2 * x))) k) && o)
  pair-done x l h o e e' = rw (e, e')

  module _ (x y : ℕ) where
    pub record Pairs (z : ℕ) (o : Bool) : Type 0 where
      pub begun : x ≤ z
      pub within : z ≤ y
      pub fits : o ≡ fit (2 * z - 2 * x) (2 * z)

    pub pairs-none : x ≤ y → Pairs x true
    pairs-none h = record { begun = omega arith; within = h; fits = end_none (2 * x) (2 * x) refl }

    pub pairs-more : (z : ℕ) (o r : Bool) → z < y → Pairs z o → r ≡ ((ltb (get b (slot q (2 * z + 1))) k && ltb (get b (slot q (2 * z))) k) && o) → Pairs (z + 1) r
    pairs-more z o r h p e =
        let n : suc (suc (2 * z - 2 * x)) ≡ 2 * (z + 1) - 2 * x = omega (arith, p.begun) in
        let t : suc (suc (2 * z)) ≡ 2 * (z + 1) = omega arith in
        let l = ltb (get b (slot q (2 * z))) k in
        record {
          begun = omega (arith, p.begun);
          within = omega arith;
          fits =
              e
              ∙ ap (λ i. (ltb (get b (slot q i)) k && l) && o) (add-one (2 * z))
              ∙ and_assoc (ltb (get b (slot q (suc (2 * z)))) k) l o
              ∙ ap (λ v. ltb (get b (slot q (suc (2 * z)))) k && (l && v)) p.fits
              ∙ ap₂ fit n t;
        }

    pub pairs-done : (z : ℕ) (o : Bool) → y ≤ z → Pairs z o → o ≡ fit (2 * y - 2 * x) (2 * y)
    pairs-done z o h p = let e : z ≡ y = omega (arith, p.within) in p.fits ∙ ap (λ i. fit (2 * i - 2 * x) (2 * i)) e

  -- ---- whole words, and what is left at either end
  fit_cut : (a y t : ℕ) → a ≤ y → y ≤ t → fit (t - a) t ≡ (fit (t - y) t && fit (y - a) y)
  fit_cut a y t h l =
      let n : t - a ≡ t - y + (y - a) = omega arith in
      ap (λ z. fit z t) n ∙ fit-split (t - y) (y - a) t (omega arith) ∙ ap (λ z. fit (t - y) t && fit (y - a) z) (back y t l)
    where
      back : (y t : ℕ) → y ≤ t → t - (t - y) ≡ y
      back y t l = omega arith

  module _ (a t : ℕ) (h : a ≤ t) where
    abbrev low : ℕ
    low = 2 * ((a + 1) / 2)

    abbrev high : ℕ
    high = 2 * (t / 2)

    pub entries-split : (a + 1) / 2 ≤ t / 2 → fit (t - a) t ≡ (fit (t - high) t && (fit (high - low) high && fit (low - a) low))
    entries-split l = fit_cut a high t (omega arith) (omega arith) ∙ ap (λ z. fit (t - high) t && z) (fit_cut a low high (omega arith) (omega arith))

  -- ---- the topmost m
  pub top_entries-is : (m t a : ℕ) (r : Bool) → a ≡ t - m → r ≡ fit (t - a) t → r ≡ fit m t
  top_entries-is m t a r f e = e ∙ ap (every (λ i. ltb i k)) (top_entries-cut b q (t - a) m t (omega arith))
