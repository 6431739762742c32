-- Naming and back: TALLY of a chunk's page finds a chunk with that page, and what stood there written back is the book at entry.
use Rattle.facts.proofs.Prelude.{ℕ, zero, suc, ◌≤◌, ◌<◌, arith, Bool, true, false, List, ◌≡◌, refl, ◌∙◌, eqb, ltb, leb, length, eqb-true, eqb-false, every, every_get}
use Rattle.fields.specs.Field.{page, tally, words, get, put}
use Rattle.fields.proofs.Laws.{get_put_same, get-put_other, put_put_same, put-get, length-put}
use Rattle.chunks.specs.way.Tally.{page_in, tally_in, named, Saved, unnamed}
use Rattle.chunks.specs.way.Match.{is_page}

module _ (n : ℕ) (b gs : List ℕ) (hb : leb (words n) (length b) ≡ true) (pages : every (is_page n) gs ≡ true) where
  pub length-named : (m : ℕ) → length (named b gs m) ≡ length b
  unfolding named
  length-named zero = refl
  length-named (suc m) = rw length-put (length-named m)

  long-named : (m : ℕ) → leb (words n) (length (named b gs m)) ≡ true
  long-named m = rw (length-named m) hb

  pub page_in_lem : (k : ℕ) → k < length gs → ltb (page_in gs k) n ≡ true
  unfolding is_page
  page_in_lem k h = every_get (is_page n) gs k pages h

  -- ---- back
  back_one : (m : ℕ) → m < length gs → put (put (named b gs m) (tally_in gs m) m) (tally_in gs m) (get (named b gs m) (tally_in gs m)) ≡ named b gs m
  back_one m h = put_put_same n (named b gs m) (tally_in gs m) m _ (long-named m) (page_in_lem m h) ∙ put-get (named b gs m) (tally_in gs m)

  pub unnames : (ss : List ℕ) (m : ℕ) → m ≤ length gs → Saved b gs ss m → unnamed (named b gs m) gs ss m ≡ b
  unfolding named unnamed
  unnames ss zero h s = refl
  unnames ss (suc m) h s =
      rw (s m (omega arith), back_one m (omega arith)) (unnames ss m (omega arith) (λ k l. s k (omega arith)))

  -- ---- what TALLY names
  module _ (q : ℕ) (hq : ltb q n ≡ true) where
    finds-by : (m k : ℕ) → k < suc m → page_in gs k ≡ q
        → (k < m → (get (named b gs m) (page tally q) < m) × (page_in gs (get (named b gs m) (page tally q)) ≡ q))
        → (u : Bool) → eqb (page_in gs m) q ≡ u
        → (get (named b gs (suc m)) (page tally q) < suc m) × (page_in gs (get (named b gs (suc m)) (page tally q)) ≡ q)
    unfolding named
    finds-by m k l e f true d =
        let p = eqb-true (page_in gs m) q d in
        let z : get (put (named b gs m) (tally_in gs m) m) (page tally q) ≡ m = rw p (get_put_same n (named b gs m) (page tally q) m (long-named m) hq refl) in
        rw z (omega arith, p)
    finds-by m k l e f false d =
        let x : k ≡ m → ⊥ = λ j. eqb-false (page_in gs m) q d (rw j at e) in
        let z = get-put_other (named b gs m) (tally_in gs m) (page tally q) m refl refl d in
        let y = f (omega (arith, x)) in
        rw z (omega (arith, y.0), y.1)

    pub finds : (m k : ℕ) → k < m → page_in gs k ≡ q
        → (get (named b gs m) (page tally q) < m) × (page_in gs (get (named b gs m) (page tally q)) ≡ q)
    finds zero k l e = absurd (omega arith)
    finds (suc m) k l e = finds-by m k l e (λ j. finds m k j e) (eqb (page_in gs m) q) refl
