-- The pool's words: what is read after a write, and a block among those of a stock.
use Rattle.facts.proofs.Prelude.{ℕ, zero, suc, ◌+◌, ◌*◌, ◌/◌, ◌%◌, ◌≤◌, ◌<◌, arith, true, false, false≢true, List, [], ◌∷◌, ◌≡◌, refl, sym, ap, ◌∙◌, subst, eqb, ltb}
use Rattle.facts.proofs.Prelude.{length, get_or, set, get_or-set_same, get_or-set_other, ltb-true, ltb-false, eq-eqb, eqb-true, eqb-false, elem, by_cases, or_left, or_right}
use Rattle.words.specs.Word.{block_word}
use Rattle.classes.specs.Shape.{shape_of, class_count, pool_id}
use Rattle.fields.specs.Field.{read, place}
use Rattle.fields.proofs.Parts.{read-place, read-place_other, Split, below, above}
use Rattle.poolcalls.specs.Stock.{count_at, entry_at, place_at, place_bits, count_in, entry_in, place_in, block_in, stock_from, put_entry, put_place, put_count}

-- ---- a block is in the first m places
pub in_stock : (b : List ℕ) (c g m k : ℕ) → k < m → entry_in b c k ≡ g → elem (block_word (shape_of (pool_id c)).kind g) (stock_from b c m) ≡ true
in_stock b c g zero k h e = absurd (omega arith)
in_stock b c g (suc m) k h e =
    by_cases (eqb k m)
    (λ t. or_left (eqb (block_word (shape_of (pool_id c)).kind g) (block_in b c m)) _ (eq-eqb (block_word (shape_of (pool_id c)).kind g) (block_in b c m) (let s : entry_in b c m ≡ g = subst (λ (j : ℕ). entry_in b c j ≡ g) (eqb-true k m t) e in omega arith)))
    (λ t. or_right (eqb (block_word (shape_of (pool_id c)).kind g) (block_in b c m)) _ (in_stock b c g m k (let d = eqb-false k m t in by_cases (ltb k m) (λ u. ltb-true k m u) (λ u. absurd (d (let v = ltb-false k m u in omega arith)))) e))

pub record At (b : List ℕ) (c g m : ℕ) : Type 0 where
  pub index : ℕ
  pub under : index < m
  pub is : entry_in b c index ≡ g

pub stock_in_lem : (b : List ℕ) (c g m : ℕ) → elem (block_word (shape_of (pool_id c)).kind g) (stock_from b c m) ≡ true → At b c g m
stock_in_lem b c g zero e = absurd (false≢true e)
stock_in_lem b c g (suc m) e =
    by_cases (eqb (block_word (shape_of (pool_id c)).kind g) (block_in b c m))
    (λ t. record { index = m; under = omega arith; is = let d = eqb-true (block_word (shape_of (pool_id c)).kind g) (block_in b c m) t in omega arith })
    (λ t. let r = stock_in_lem b c g m (rw t at e) in record { index = r.index; under = omega (arith, r.under); is = r.is })

-- ---- reads after writes. A class's number is below 76, a place below 256, and the book has the words
pub place-bound : (n g : ℕ) → g < 4096 * n → place_at g < 40000 + 4112 * n
place-bound n g h = omega arith

module _ (b : List ℕ) (c : ℕ) (hc : ltb c class_count ≡ true) (k : ℕ) where
  low : c < class_count
  low = ltb-true c class_count hc

  -- COUNT
  pub count-count : 40000 ≤ length b → count_in (put_count b c k) c ≡ k
  unfolding count_in put_count
  count-count l = get_or-set_same b (count_at c) k 0 (omega (arith, low))

  pub count-other : (d : ℕ) → eqb d c ≡ false → count_in (put_count b c k) d ≡ count_in b d
  unfolding count_in put_count
  count-other d e = get_or-set_other b (count_at c) (count_at d) k 0 (λ z. eqb-false d c e (omega arith))

  pub entry-count : (d j : ℕ) → entry_in (put_count b c k) d j ≡ entry_in b d j
  unfolding entry_in put_count
  entry-count d j = get_or-set_other b (count_at c) (entry_at d j) k 0 (λ z. omega (arith, low))

  pub place-count : (g : ℕ) → place_in (put_count b c k) g ≡ place_in b g
  unfolding place_in put_count
  place-count g = ap (read (place_bits g)) (get_or-set_other b (count_at c) (place_at g) k 0 (λ z. omega (arith, low)))

  -- ENTRY k
  module _ (hk : k < 256) (g : ℕ) where
    pub count-entry : (d : ℕ) → ltb d class_count ≡ true → count_in (put_entry b c k g) d ≡ count_in b d
    unfolding count_in put_entry
    count-entry d hd = get_or-set_other b (entry_at c k) (count_at d) g 0 (λ z. omega (arith, ltb-true d class_count hd))

    pub entry-entry : 40000 ≤ length b → entry_in (put_entry b c k g) c k ≡ g
    unfolding entry_in put_entry
    entry-entry l = get_or-set_same b (entry_at c k) g 0 (omega (arith, low))

    pub entry-same : (j : ℕ) → j < k → entry_in (put_entry b c k g) c j ≡ entry_in b c j
    unfolding entry_in put_entry
    entry-same j h = get_or-set_other b (entry_at c k) (entry_at c j) g 0 (λ z. omega arith)

    pub entry_other : (d j : ℕ) → eqb d c ≡ false → j < 256 → entry_in (put_entry b c k g) d j ≡ entry_in b d j
    unfolding entry_in put_entry
    entry_other d j e h = get_or-set_other b (entry_at c k) (entry_at d j) g 0 (λ z. eqb-false d c e (omega arith))

    pub place-entry : (x : ℕ) → place_in (put_entry b c k g) x ≡ place_in b x
    unfolding place_in put_entry
    place-entry x = ap (read (place_bits x)) (get_or-set_other b (entry_at c k) (place_at x) g 0 (λ z. omega (arith, low)))

-- a granule by its page, its word there and its byte
rows_same : (a c u v : ℕ) → u < 1024 → v < 1024 → 42320 + 4112 * a + u ≡ 42320 + 4112 * c + v → (a ≡ c) × (u ≡ v)
rows_same a c u v hu hv e = (omega arith, omega arith)

in_page : (x : ℕ) → x % 4096 / 4 < 1024
in_page x = omega arith

from_parts : (x : ℕ) → x ≡ 4096 * (x / 4096) + (4 * (x % 4096 / 4) + x % 4)
from_parts x = omega arith

granule-same : (x g : ℕ) → place_at x ≡ place_at g → x % 4 ≡ g % 4 → x ≡ g
granule-same x g e f =
    let r = rows_same (x / 4096) (g / 4096) (x % 4096 / 4) (g % 4096 / 4) (in_page x) (in_page g) e in
    from_parts x ∙ together (x / 4096) (g / 4096) (x % 4096 / 4) (g % 4096 / 4) (x % 4) (g % 4) r.0 r.1 f ∙ sym (from_parts g)
  where
    together : (a c u v s t : ℕ) → a ≡ c → u ≡ v → s ≡ t → 4096 * a + (4 * u + s) ≡ 4096 * c + (4 * v + t)
    together a c u v s t p q r = omega arith

-- PLACE
module _ (b : List ℕ) (g k : ℕ) where
  pub count-place : (d : ℕ) → ltb d class_count ≡ true → count_in (put_place b g k) d ≡ count_in b d
  unfolding count_in put_place
  count-place d hd = get_or-set_other b (place_at g) (count_at d) _ 0 (λ z. omega (arith, ltb-true d class_count hd))

  pub entry_place : (d j : ℕ) → ltb d class_count ≡ true → j < 256 → entry_in (put_place b g k) d j ≡ entry_in b d j
  unfolding entry_in put_place
  entry_place d j hd h = get_or-set_other b (place_at g) (entry_at d j) _ 0 (λ z. omega (arith, ltb-true d class_count hd))

  pub place-place : place_at g < length b → k < 256 → place_in (put_place b g k) g ≡ k
  unfolding place_in put_place
  place-place l h = ap (read (place_bits g)) (get_or-set_same b (place_at g) _ 0 l) ∙ read-place (place_bits g) (get_or b (place_at g) 0) k (omega arith)

  -- another granule's: another word, or other bits of this one
  pub place_other : (x : ℕ) → (x ≡ g → ⊥) → place_in (put_place b g k) x ≡ place_in b x
  unfolding place_in put_place
  place_other x ne =
      by_cases (eqb (place_at x) (place_at g))
      (λ e. let same = eqb-true (place_at x) (place_at g) e in
      by_cases (ltb (place_at g) (length b))
      (λ t. ap (λ j. read (place_bits x) (get_or (set b (place_at g) (place (place_bits g) (get_or b (place_at g) 0) k)) j 0)) same
      ∙ ap (read (place_bits x)) (get_or-set_same b (place_at g) _ 0 (ltb-true (place_at g) (length b) t))
      ∙ read-place_other (get_or b (place_at g) 0) k (apart same)
      ∙ ap (λ j. read (place_bits x) (get_or b j 0)) (sym same))
      (λ t. ap (λ l. read (place_bits x) (get_or l (place_at x) 0)) (set_past b (place_at g) _ (ltb-false (place_at g) (length b) t))))
      (λ e. ap (read (place_bits x)) (get_or-set_other b (place_at g) (place_at x) _ 0 (eqb-false (place_at x) (place_at g) e)))
    where
      apart : place_at x ≡ place_at g → Split (place_bits g) (place_bits x)
      apart s =
          by_cases (ltb (g % 4) (x % 4))
          (λ t. let u = ltb-true (g % 4) (x % 4) t in let z : 8 * (g % 4) + 8 ≤ 8 * (x % 4) = omega arith in below z)
          (λ t. let u = ltb-false (g % 4) (x % 4) t in
          by_cases (ltb (x % 4) (g % 4))
          (λ y. let v = ltb-true (x % 4) (g % 4) y in let z : 8 * (x % 4) + 8 ≤ 8 * (g % 4) = omega arith in above z)
          (λ y. let v = ltb-false (x % 4) (g % 4) y in absurd (ne (granule-same x g s (omega (arith, u, v))))))

      set_past : (l : List ℕ) (i v : ℕ) → length l ≤ i → set l i v ≡ l
      set_past [] i v h = refl
      set_past (y ∷ l) zero v h = absurd (omega arith)
      set_past (y ∷ l) (suc i) v h = ap (λ z. y ∷ z) (set_past l i v (omega arith))
