-- Blocks on the stack that follow one another: the tests, and what they give.
use Rattle.facts.proofs.Prelude.{ℕ, suc, ◌+◌, ◌-◌, ◌*◌, ◌≤◌, ◌<◌, arith, Bool, true, ◌&&◌, List, ◌∷◌, reverse, add-zero, ◌≡◌, sym, ap, ap₂, ◌∙◌, eqb, eqb-true, and_left, and_right}
use Rattle.fields.specs.Field.{slot, get}
use Rattle.pages.specs.Stack.{top_entries, descending}
use Rattle.pages.proofs.TopEntries.{popped-more}
use Rattle.lists.specs.way.Stretch.{StretchPre}

module _ (b : List ℕ) (q : ℕ) where
  abbrev pair_is : ℕ → ℕ → ℕ → Bool → Bool
  pair_is x l h o = (eqb (get b (slot q (2 * x + 1))) h && eqb (get b (slot q (2 * x))) l) && o

  pub pair-told : (x u v l h : ℕ) (o : Bool) → u ≡ get b (slot q (2 * x)) → v ≡ get b (slot q (2 * x + 1)) → ((eqb v h && eqb u l) && o) ≡ pair_is x l h o
  pair-told x u v l h o e e' = rw (e, e')

  pub record Pair (x l h : ℕ) (o : Bool) : Type 0 where
    pub low : get b (slot q (2 * x)) ≡ l
    pub high : get b (slot q (2 * x + 1)) ≡ h
    pub before : o ≡ true

  pair_is_lem : (x l h : ℕ) (o r : Bool) → r ≡ pair_is x l h o → r ≡ true → Pair x l h o
  pair_is_lem x l h o r e t =
      let all : pair_is x l h o ≡ true = sym e ∙ t in
      let two = eqb (get b (slot q (2 * x + 1))) h && eqb (get b (slot q (2 * x))) l in
      let both : two ≡ true = and_left two o all in
      record {
        low = eqb-true (get b (slot q (2 * x))) l (and_right (eqb (get b (slot q (2 * x + 1))) h) (eqb (get b (slot q (2 * x))) l) both);
        high = eqb-true (get b (slot q (2 * x + 1))) h (and_left (eqb (get b (slot q (2 * x + 1))) h) (eqb (get b (slot q (2 * x))) l) both);
        before = and_right two o all;
      }

  module _ (x y a : ℕ) where
    -- ---- the highest on top
    pub record Rising (so : Bool) (z i : ℕ) : Type 0 where
      pub begun : x ≤ z
      pub within : z ≤ y
      pub next : i ≡ a + (2 * z - 2 * x)
      pub rises : so ≡ true → top_entries b q (2 * z - 2 * x) (2 * z) ≡ descending a (2 * z - 2 * x)

    pub rising_none : StretchPre b q x y a → Rising true x a
    rising_none h = let n : 2 * x - 2 * x ≡ 0 = omega arith in record { begun = omega arith; within = h.begins; next = omega arith; rises = λ e. rw n }

    pub rising-more : (so r : Bool) (z i : ℕ) → z < y → Rising so z i → r ≡ pair_is z i (i + 1) so → Rising r (z + 1) (i + 2)
    rising-more so r z i h v e =
        let m = 2 * z - 2 * x in
        let n : 2 * (z + 1) - 2 * x ≡ suc (suc m) = omega (arith, v.begun) in
        let t : 2 * (z + 1) ≡ suc (suc (2 * z)) = omega arith in
        record {
          begun = omega (arith, v.begun);
          within = omega arith;
          next = omega (arith, v.begun, v.next);
          rises = λ s.
              let p = pair_is_lem z i (i + 1) so r e s in
              let at : suc (2 * z) ≡ 2 * z + 1 = omega arith in
              let one : i + 1 ≡ a + suc m = omega (arith, v.next) in
              let hi : get b (slot q (suc (2 * z))) ≡ a + suc m = ap (λ k. get b (slot q k)) at ∙ p.high ∙ one in
              let lo : get b (slot q (2 * z)) ≡ a + m = p.low ∙ v.next in
              ap₂ (top_entries b q) n t
              ∙ ap (λ w. w ∷ get b (slot q (2 * z)) ∷ top_entries b q m (2 * z)) hi
              ∙ ap (λ w. (a + suc m) ∷ w ∷ top_entries b q m (2 * z)) lo
              ∙ ap (λ w. (a + suc m) ∷ (a + m) ∷ w) (v.rises p.before)
              ∙ ap (descending a) (sym n);
        }

    pub rising-done : (so : Bool) (z i : ℕ) → y ≤ z → Rising so z i → so ≡ true → top_entries b q (2 * y - 2 * x) (2 * y) ≡ descending a (2 * y - 2 * x)
    rising-done so z i h v s = let e : z ≡ y = omega (arith, v.within) in rw e at (v.rises s)

    pub rising-turn : (so r : Bool) (j : ℕ) → j < y - x → Rising so (x + j) (a + 2 * j) → r ≡ pair_is (x + j) (a + 2 * j) (a + 2 * j + 1) so → Rising r (x + (j + 1)) (a + 2 * (j + 1))
    rising-turn so r j h v e =
        let z : x + j + 1 ≡ x + (j + 1) = omega arith in
        let i : a + 2 * j + 2 ≡ a + 2 * (j + 1) = omega arith in
        rw (z, i) at (rising-more so r (x + j) (a + 2 * j) (omega arith) v e)

    pub rising-start : StretchPre b q x y a → Rising true (x + 0) (a + 0)
    rising-start h = rw (add-zero x, add-zero a) (rising_none h)

    pub rising-end : (so : Bool) (j : ℕ) → y - x ≤ j → Rising so (x + j) (a + 2 * j) → so ≡ true → top_entries b q (2 * y - 2 * x) (2 * y) ≡ descending a (2 * y - 2 * x)
    rising-end so j h v = rising-done so (x + j) (a + 2 * j) (omega arith) v

    -- ---- the lowest on top
    pub record Falling (so : Bool) (z i : ℕ) : Type 0 where
      pub begun : z ≤ y
      pub within : x ≤ z
      pub next : i ≡ a + (2 * y - 2 * z)
      pub falls : so ≡ true → reverse (top_entries b q (2 * y - 2 * z) (2 * y)) ≡ descending a (2 * y - 2 * z)

    pub falling_none : StretchPre b q x y a → Falling true y a
    falling_none h = let n : 2 * y - 2 * y ≡ 0 = omega arith in record { begun = omega arith; within = h.begins; next = omega arith; falls = λ e. rw n }

    pub falling_more : (so r : Bool) (z i : ℕ) → x < z → Falling so z i → r ≡ pair_is (z - 1) (i + 1) i so → Falling r (z - 1) (i + 2)
    falling_more so r z i h v e =
        let m = 2 * y - 2 * z in
        let n : 2 * y - 2 * (z - 1) ≡ suc (suc m) = omega (arith, v.begun) in
        record {
          begun = omega (arith, v.begun);
          within = omega arith;
          next = omega (arith, v.begun, v.next);
          falls = λ s.
              let p = pair_is_lem (z - 1) (i + 1) i so r e s in
              let at : 2 * y - suc (suc m) ≡ 2 * (z - 1) = omega (arith, v.begun) in
              let at' : 2 * y - suc m ≡ 2 * (z - 1) + 1 = omega (arith, v.begun) in
              let one : i + 1 ≡ a + suc m = omega (arith, v.next) in
              let lo : get b (slot q (2 * y - suc (suc m))) ≡ a + suc m = ap (λ k. get b (slot q k)) at ∙ p.low ∙ one in
              let hi : get b (slot q (2 * y - suc m)) ≡ a + m = ap (λ k. get b (slot q k)) at' ∙ p.high ∙ v.next in
              ap (λ k. reverse (top_entries b q k (2 * y))) n
              ∙ popped-more b q (suc m) (2 * y) (omega (arith, v.begun))
              ∙ ap (λ w. get b (slot q (2 * y - suc (suc m))) ∷ w) (popped-more b q m (2 * y) (omega (arith, v.begun)))
              ∙ ap (λ w. w ∷ get b (slot q (2 * y - suc m)) ∷ reverse (top_entries b q m (2 * y))) lo
              ∙ ap (λ w. (a + suc m) ∷ w ∷ reverse (top_entries b q m (2 * y))) hi
              ∙ ap (λ w. (a + suc m) ∷ (a + m) ∷ w) (v.falls p.before)
              ∙ ap (descending a) (sym n);
        }

    pub falling_done : (so : Bool) (z i : ℕ) → z ≤ x → Falling so z i → so ≡ true → reverse (top_entries b q (2 * y - 2 * x) (2 * y)) ≡ descending a (2 * y - 2 * x)
    falling_done so z i h v s = let e : z ≡ x = omega (arith, v.within) in rw e at (v.falls s)

    pub falling-turn : (so r : Bool) (j : ℕ) → j < y - x → Falling so (y - j) (a + 2 * j) → r ≡ pair_is (y - 1 - j) (a + 2 * j + 1) (a + 2 * j) so → Falling r (y - (j + 1)) (a + 2 * (j + 1))
    falling-turn so r j h v e =
        let w : y - 1 - j ≡ y - j - 1 = omega arith in
        let z : y - j - 1 ≡ y - (j + 1) = omega arith in
        let i : a + 2 * j + 2 ≡ a + 2 * (j + 1) = omega arith in
        rw (z, i) at (falling_more so r (y - j) (a + 2 * j) (omega arith) v (rw w at e))

    pub falling-start : StretchPre b q x y a → Falling true (y - 0) (a + 0)
    falling-start h = let z : y - 0 ≡ y = omega arith in rw (z, add-zero a) (falling_none h)

    pub falling-end : (so : Bool) (j : ℕ) → y - x ≤ j → Falling so (y - j) (a + 2 * j) → so ≡ true → reverse (top_entries b q (2 * y - 2 * x) (2 * y)) ≡ descending a (2 * y - 2 * x)
    falling-end so j h v = falling_done so (y - j) (a + 2 * j) (omega arith) v
