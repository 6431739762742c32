-- Lists by index: tests of every element, and the pages of a list of chunks.
use Rattle.facts.proofs.Prelude.{ℕ, zero, suc, ◌<◌, arith, true, false, not, true≢false, List, [], ◌∷◌, map, ◌≡◌, refl, sym, ap}
use Rattle.facts.proofs.Prelude.{◌∙◌, eqb, length, eqb-true, eq-eqb, not-true, elem, distinct, by_cases, and_left, and_right, or_right}
use Rattle.words.specs.Word.{page_of}
use Rattle.chunks.specs.way.Tally.{page_in}

-- ---- tests

-- ---- of every element, and of every number below m

-- ---- the pages of the chunks

pub elem_at : (gs : List ℕ) (k : ℕ) → k < length gs → elem (page_in gs k) (map page_of gs) ≡ true
elem_at [] k l = absurd (omega arith)
elem_at (g ∷ gs) zero l = rw (eq-eqb (page_of g) (page_of g) refl)
elem_at (g ∷ gs) (suc k) l = or_right (eqb (page_in gs k) (page_of g)) _ (elem_at gs k (omega arith))

-- a page of the list is that of some index
pub elem-found : {P : Type 0} (q : ℕ) (gs : List ℕ) → elem q (map page_of gs) ≡ true → ((k : ℕ) → k < length gs → page_in gs k ≡ q → P) → P
elem-found q [] e f = absurd (true≢false (sym e))
elem-found q (g ∷ gs) e f =
    by_cases (eqb q (page_of g))
    (λ d. f 0 (omega arith) (sym (eqb-true q (page_of g) d)))
    (λ d. elem-found q gs (rw d at e) (λ k l. f (suc k) (omega arith)))

-- no page stands twice: each is that of one index
elsewhere : (gs : List ℕ) (q k : ℕ) → elem q (map page_of gs) ≡ false → k < length gs → q ≡ page_in gs k → ⊥
elsewhere gs q k e l z = true≢false (sym (elem_at gs k l) ∙ (rw z at e))

pub distinct-at : (gs : List ℕ) (i j : ℕ) → distinct (map page_of gs) ≡ true → i < length gs → j < length gs → page_in gs i ≡ page_in gs j → i ≡ j
distinct-at [] i j d k l e = absurd (omega arith)
distinct-at (g ∷ gs) zero zero d k l e = refl
distinct-at (g ∷ gs) zero (suc j) d k l e = absurd (elsewhere gs (page_of g) j (not-true _ (and_left _ _ d)) (omega arith) e)
distinct-at (g ∷ gs) (suc i) zero d k l e = absurd (elsewhere gs (page_of g) i (not-true _ (and_left _ _ d)) (omega arith) (sym e))
distinct-at (g ∷ gs) (suc i) (suc j) d k l e =
    ap suc (distinct-at gs i j (and_right (not (elem (page_of g) (map page_of gs))) _ d) (omega arith) (omega arith) e)

pub distinct_of : (gs : List ℕ) → ((i j : ℕ) → i < length gs → j < length gs → page_in gs i ≡ page_in gs j → i ≡ j) → distinct (map page_of gs) ≡ true
distinct_of [] h = refl
distinct_of (g ∷ gs) h =
    by_cases (elem (page_of g) (map page_of gs))
    (λ e. absurd (elem-found (page_of g) gs e (λ k l z. let y = h (suc k) 0 (omega arith) (omega arith) z in omega (arith, y))))
    (λ e. rw e (distinct_of gs (λ i j k l z. let y = h (suc i) (suc j) (omega arith) (omega arith) z in omega (arith, y))))
