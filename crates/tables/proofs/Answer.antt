-- What a class table's call answers and leaves, by each of its tests.
use Rattle.facts.proofs.Prelude.{ℕ, ◌%◌, ◌≤◌, arith, pos_of_ne-zero, Bool, true, false, not, ◌||◌, List, ◌++◌, ◌≡◌, refl, eqb, ltb}
use Rattle.facts.proofs.Prelude.{leb, length, drop, ltb-false, leb-false, eqb-false, nor_left, nor_right, by_cases}
use Rattle.classes.specs.Sizes.{granule_bytes, max_medium_size}
use Rattle.words.specs.Refusal.{number_of}
use Rattle.words.specs.declared.refusal.Refusal.{Refusal}
use Rattle.words.proofs.Refusals.{positive}
use Rattle.tables.specs.way.Rate.{rate_code}
use Rattle.tables.specs.Table.{table, last_size, max_rate, bad_rate, bad_top, bad_slots, Growth, class_table, TableEnds}

pub growth_of : (a b top : ℕ) → bad_rate a b ≡ false → bad_top top ≡ false → Growth a b top
growth_of a b top g t =
    let none : Bool = eqb b 0 in
    let large : Bool = ltb max_rate a || ltb max_rate b in
    let part : Bool = not (eqb (top % granule_bytes) 0) in
    let g₁ : (none || large) ≡ false = nor_right (leb a b) (none || large) g in
    let g₂ : large ≡ false = nor_right none large g₁ in
    let t₁ : (part || ltb max_medium_size top) ≡ false = nor_right (ltb top granule_bytes) (part || ltb max_medium_size top) t in
    let some : b ≡ 0 → ⊥ = eqb-false b 0 (nor_left none large g₁) in
    record {
      above = leb-false a b (nor_left (leb a b) (none || large) g);
      positive = pos_of_ne-zero some;
      bounded = ltb-false max_rate a (nor_left (ltb max_rate a) (ltb max_rate b) g₂);
      low = ltb-false top granule_bytes (nor_left (ltb top granule_bytes) (part || ltb max_medium_size top) t);
      high = ltb-false max_medium_size top (nor_right part (ltb max_medium_size top) t₁);
    }

module _ (a b top slots : ℕ) (list : List ℕ) where
  pub rate_refused : (e : Refusal) → number_of e ≡ rate_code a b top → TableEnds (class_table a b top slots list) (number_of e) list
  unfolding class_table
  rate_refused e h =
      by_cases (bad_rate a b)
      (λ g. rw g (record { code = rw g at h; list = refl }))
      (λ g. by_cases (bad_top top)
      (λ t. rw (g, t) (record { code = rw (g, t) at h; list = refl }))
      (λ t. let z : number_of e ≡ 0 = rw (g, t) at h in absurd (omega (arith, positive e, z))))

  pub slots_refused : 0 ≡ rate_code a b top → bad_slots a b top slots (length list) ≡ true → TableEnds (class_table a b top slots list) 24 list
  unfolding class_table
  slots_refused h s =
      by_cases (bad_rate a b)
      (λ g. let z : 0 ≡ 22 = rw g at h in absurd (omega arith))
      (λ g. by_cases (bad_top top)
      (λ t. let z : 0 ≡ 23 = rw (g, t) at h in absurd (omega arith))
      (λ t. rw (g, t, s) (record { code = refl; list = refl })))

  pub filled : 0 ≡ rate_code a b top → bad_slots a b top slots (length list) ≡ false → (l : List ℕ) → l ≡ table a b top slots → TableEnds (class_table a b top slots list) 0 (l ++ drop slots list)
  unfolding class_table
  filled h s l e =
      by_cases (bad_rate a b)
      (λ g. let z : 0 ≡ 22 = rw g at h in absurd (omega arith))
      (λ g. by_cases (bad_top top)
      (λ t. let z : 0 ≡ 23 = rw (g, t) at h in absurd (omega arith))
      (λ t. rw (g, t, s, e) (record { code = refl; list = refl })))

  pub fitting : bad_slots a b top slots (length list) ≡ false → slots ≤ length list
  fitting s =
      let few : Bool = ltb (last_size a b top slots) top in
      ltb-false (length list) slots (nor_left (ltb (length list) slots) few (nor_right (eqb slots 0) (ltb (length list) slots || few) s))
