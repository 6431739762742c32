-- Lists of block indices, and the stack that holds them.
--     few-counts            a list that has each index below k at most once, and no other, is no longer than k
--     top-entries-take      the top entries of a stack that is represented
use Rattle.facts.proofs.Prelude.{ℕ, zero, suc, ◌+◌, ◌≤◌, arith, zero-add, Bool, true, cond, List, [], ◌∷◌, ◌++◌, map, reverse, reverse_aux, ◌≡◌}
use Rattle.facts.proofs.Prelude.{refl, sym, ap, eqb, ltb, length, take, drop, lt-ltb, ltb-true, ltb-false, every, total, count, below, by_cases}
use Rattle.classes.specs.declared.Shape.{Shape}
use Rattle.model.specs.Page.{word_of, words_from}
use Rattle.model.proofs.Sums.{total_plus}
use Rattle.words.specs.Host.{digit}
use Rattle.pages.specs.Stack.{top_entries, descending}
use Rattle.pages.proofs.Descending.{digit_true, digit_false, digit_cases, eq_cases}
pub use Rattle.pages.proofs.Descending.{length-descending, count-descending}
use Rattle.model.proofs.Used.{itself}
use Rattle.refinement.specs.way.Represents.{Slots}
use Rattle.refinement.proofs.Basics.{Setting}
use Rattle.refinement.proofs.Lists.{}

-- ---- a function along lists of numbers
module _ (f : ℕ → ℕ) where
  pub map-append : (s t : List ℕ) → map f (s ++ t) ≡ map f s ++ map f t
  map-append [] t = refl
  map-append (x ∷ s) t = ap (λ l. f x ∷ l) (map-append s t)

  map_reverse_aux : (s t : List ℕ) → map f (reverse_aux s t) ≡ reverse_aux (map f s) (map f t)
  map_reverse_aux [] t = refl
  map_reverse_aux (x ∷ s) t = map_reverse_aux s (x ∷ t)

  pub map-reverse : (s : List ℕ) → map f (reverse s) ≡ reverse (map f s)
  map-reverse s = map_reverse_aux s []

  pub map-take : (m : ℕ) (s : List ℕ) → map f (take m s) ≡ take m (map f s)
  map-take zero s = refl
  map-take (suc m) [] = refl
  map-take (suc m) (x ∷ s) = ap (λ l. f x ∷ l) (map-take m s)

  pub map-drop : (m : ℕ) (s : List ℕ) → map f (drop m s) ≡ drop m (map f s)
  map-drop zero s = refl
  map-drop (suc m) [] = refl
  map-drop (suc m) (x ∷ s) = map-drop m s

  pub length-map : (s : List ℕ) → length (map f s) ≡ length s
  length-map [] = refl
  length-map (x ∷ s) = ap suc (length-map s)

-- ---- blocks just carved
pub words-descending : (sh : Shape) (q a k : ℕ) → words_from sh q a k ≡ map (word_of sh q) (descending a k)
words-descending sh q a zero = refl
words-descending sh q a (suc k) = ap (λ l. word_of sh q (a + k) ∷ l) (words-descending sh q a k)

-- from 0 on
pub count_descending_zero : (j k : ℕ) → count j (descending 0 k) ≡ digit (ltb j k)
count_descending_zero j k = omega (arith, count-descending j 0 k, digit_false j 0 (omega arith), ap (λ z. digit (ltb j z)) (zero-add k))

-- ---- how long a list is by its counts
total-one : (x m : ℕ) → total (λ i. cond (eqb i x) 1 0) (below m) ≡ digit (ltb x m)
total-one x zero = sym (digit_false x 0 (omega arith))
total-one x (suc m) =
    let ih = total-one x m in
    eq_cases m x
    (λ e e'. omega (arith, digit_false x m (omega arith), digit_true x (suc m) (omega arith)))
    (λ e e'. digit_cases x m (λ f f'. omega (arith, digit_true x (suc m) (omega arith))) (λ f f'. omega (arith, digit_false x (suc m) (omega (arith, e)))))

total-counts : (xs : List ℕ) (m : ℕ) → ((i : ℕ) → m ≤ i → count i xs ≡ 0) → total (λ i. count i xs) (below m) ≡ length xs
total-counts [] m h = none (below m)
  where
    none : (l : List ℕ) → total (λ i. 0) l ≡ 0
    none [] = refl
    none (x ∷ l) = let ih = none l in omega arith
total-counts (x ∷ xs) m h =
    let ih = total-counts xs m (λ i l. let z = h i l in omega arith) in
    let z = itself x in
    digit_cases x m
    (λ l f. omega (arith, total_plus (λ i. cond (eqb i x) 1 0) (λ i. count i xs) (below m), total-one x m))
    (λ l f. absurd (omega (arith, h x l)))

total-below : (f : ℕ → ℕ) (m : ℕ) → ((i : ℕ) → f i ≤ 1) → total f (below m) ≤ m
total-below f zero h = omega arith
total-below f (suc m) h = omega (arith, h m, total-below f m h)

pub few-counts : (xs : List ℕ) (k : ℕ) → ((i : ℕ) → count i xs ≤ digit (ltb i k)) → length xs ≤ k
few-counts xs k h =
    omega (
      arith,
      total-counts xs k (λ i l. omega (arith, h i, digit_false i k l)),
      total-below (λ i. count i xs) k (λ i. digit_cases i k (λ u e. omega (arith, h i)) (λ u e. omega (arith, h i))),
    )

-- a list without a number at or above m
pub every-counts : (m : ℕ) (is : List ℕ) → ((j : ℕ) → m ≤ j → count j is ≡ 0) → every (λ i. ltb i m) is ≡ true
every-counts m [] h = refl
every-counts m (i ∷ is) h =
    rw (by_cases (ltb i m) (λ e. e) (λ e. absurd (omega (arith, h i (ltb-false i m e), itself i))))
    (every-counts m is (λ j l. let z = h j l in omega arith))

-- ---- the stack
pub top_entries-take : (b : List ℕ) (q m : ℕ) (xs : List ℕ) → Slots b q xs → top_entries b q m (length xs) ≡ take m xs
top_entries-take b q zero xs s = refl
top_entries-take b q (suc m) [] s = refl
top_entries-take b q (suc m) (x ∷ xs) s = rw s.0 (ap (λ l. x ∷ l) (top_entries-take b q m xs s.2))

pub slots-drop : (b : List ℕ) (q m : ℕ) (xs : List ℕ) → Slots b q xs → Slots b q (drop m xs)
slots-drop b q zero xs s = s
slots-drop b q (suc m) [] s = s
slots-drop b q (suc m) (x ∷ xs) s = slots-drop b q m xs s.2

-- ---- blocks below the capacity
abbrev pub fits : Shape → ℕ → Bool
fits sh i = ltb i sh.capacity

pub in_row : {n : ℕ} {b : List ℕ} {c : ℕ} {sh : Shape} → Setting n b c sh → (i : ℕ) → ltb i sh.capacity ≡ true → ltb i 4096 ≡ true
in_row {sh = sh} s i e = lt-ltb i 4096 (omega (arith, ltb-true i sh.capacity e, s.shape.few))
