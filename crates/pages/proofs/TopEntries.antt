-- The top entries of a page's stack.
--     length-top-entries    how many there are
--     top-entries-cut       there are no more than the stack has
--     popped-more           one more popped, in the order of a list that has the latest first
--     every-top-entries     what holds of them all holds of each
--     top-entries-kept      where the entries below the top are as they were
use Rattle.facts.proofs.Prelude.{ℕ, zero, suc, ◌-◌, ◌≤◌, ◌<◌, min, arith, Bool, true, List, [], ◌∷◌, ◌++◌}
use Rattle.facts.proofs.Prelude.{reverse, reverse-append, ◌≡◌, refl, ap, ◌∙◌, length, every, and_left, and_right}
use Rattle.fields.specs.Field.{slot, get}
use Rattle.pages.specs.Stack.{top_entries}

module _ (b : List ℕ) (q : ℕ) where
  pub length-top_entries : (n t : ℕ) → length (top_entries b q n t) ≡ min n t
  length-top_entries zero t = omega arith
  length-top_entries (suc n) zero = omega arith
  length-top_entries (suc n) (suc t) = let ih = length-top_entries n t in omega arith

  pub top_entries-cut : (k n t : ℕ) → k ≡ min n t → top_entries b q k t ≡ top_entries b q n t
  top_entries-cut zero zero t e = refl
  top_entries-cut zero (suc n) zero e = refl
  top_entries-cut zero (suc n) (suc t) e = absurd (omega arith)
  top_entries-cut (suc k) zero t e = absurd (omega arith)
  top_entries-cut (suc k) (suc n) zero e = refl
  top_entries-cut (suc k) (suc n) (suc t) e = ap (λ l. get b (slot q t) ∷ l) (top_entries-cut k n t (omega arith))

  at_top : (i j : ℕ) → i ≡ j → get b (slot q i) ≡ get b (slot q j)
  at_top i j e = ap (λ z. get b (slot q z)) e

  top_entries_snoc : (j t : ℕ) → j < t → top_entries b q (suc j) t ≡ top_entries b q j t ++ (get b (slot q (t - suc j)) ∷ [])
  top_entries_snoc j zero h = absurd (omega arith)
  top_entries_snoc zero (suc t) h = ap (λ x. x ∷ []) (at_top t (suc t - 1) (omega arith))
  top_entries_snoc (suc j) (suc t) h =
      ap (λ l. get b (slot q t) ∷ l) (top_entries_snoc j t (omega arith) ∙ ap (λ x. top_entries b q j t ++ (x ∷ [])) (at_top (t - suc j) (suc t - suc (suc j)) (omega arith)))

  pub popped-more : (j t : ℕ) → j < t → reverse (top_entries b q (suc j) t) ≡ get b (slot q (t - suc j)) ∷ reverse (top_entries b q j t)
  popped-more j t h = ap reverse (top_entries_snoc j t h) ∙ reverse-append (top_entries b q j t) (get b (slot q (t - suc j)) ∷ [])

  module _ (P : ℕ → Bool) where
    pub every-top_entries : (n t j : ℕ) → every P (top_entries b q n t) ≡ true → j < n → j < t → P (get b (slot q (t - suc j))) ≡ true
    every-top_entries zero t j e h l = absurd (omega arith)
    every-top_entries (suc n) zero j e h l = absurd (omega arith)
    every-top_entries (suc n) (suc t) zero e h l = ap P (at_top (suc t - 1) t (omega arith)) ∙ and_left (P (get b (slot q t))) (every P (top_entries b q n t)) e
    every-top_entries (suc n) (suc t) (suc j) e h l =
        ap P (at_top (suc t - suc (suc j)) (t - suc j) (omega arith))
        ∙ every-top_entries n t j (and_right (P (get b (slot q t))) (every P (top_entries b q n t)) e) (omega arith) (omega arith)

    pub top_entries-fewer : (k n t : ℕ) → k ≤ n → every P (top_entries b q n t) ≡ true → every P (top_entries b q k t) ≡ true
    top_entries-fewer zero n t h e = refl
    top_entries-fewer (suc k) zero t h e = absurd (omega arith)
    top_entries-fewer (suc k) (suc n) zero h e = refl
    top_entries-fewer (suc k) (suc n) (suc t) h e =
        rw (and_left (P (get b (slot q t))) (every P (top_entries b q n t)) e)
        (top_entries-fewer k n t (omega arith) (and_right (P (get b (slot q t))) (every P (top_entries b q n t)) e))

pub top_entries-kept : (b b' : List ℕ) (q n t : ℕ) → ((i : ℕ) → i < t → get b' (slot q i) ≡ get b (slot q i)) → top_entries b' q n t ≡ top_entries b q n t
top_entries-kept b b' q zero t k = refl
top_entries-kept b b' q (suc n) zero k = refl
top_entries-kept b b' q (suc n) (suc t) k = rw (k t (omega arith)) (ap (λ l. get b (slot q t) ∷ l) (top_entries-kept b b' q n t (λ i h. k i (omega arith))))
