-- Computed tests over the two size tables.
--     block-bytes    an entry's bytes are its class's size in the table
--     one-first      a word is a block of one run only: no two of a class's runs that overlap have a block at the same place
use Rattle.facts.proofs.Prelude.{ℕ, ◌+◌, ◌-◌, ◌*◌, ◌%◌, ◌≤◌, ◌<◌, arith, mul-le-mul_right, mul-mod_left, mul-sub, mul_comm, Bool, true, ◌||◌, false≢true, ◌≡◌}
use Rattle.facts.proofs.Prelude.{refl, ap, ◌∙◌, eqb, leb, ltb, get_or, eqb-true, lt-ltb, lt-leb, le-ltb, ltb-true, ltb-false, ne_eqb, every, below, by_cases, every-at}
use Rattle.classes.specs.declared.Shape.{Shape}
use Rattle.classes.specs.Sizes.{small_sizes, medium_sizes, granule_bytes}
use Rattle.classes.specs.Shape.{number_of, small_shape, medium_shape, shape_of, class_count}
use Rattle.classes.specs.way.Sound.{Sound}
use Rattle.classes.proofs.Shapes.{shape-sound}
use Rattle.classes.proofs.Table as Table
use Rattle.classes.proofs.Table.{get_d_within}
use Rattle.model.specs.Page.{page_granules, word_of}
use Rattle.model.specs.Entries.{Entry}
use Rattle.demands.specs.Returns.{BlockOf}
use Rattle.demands.specs.Demands.{TableBytes}

-- ---- a block's granules are its bytes
small_bytes : (c : ℕ) → (small_shape (get_or small_sizes c 16384)).block * granule_bytes ≡ get_or small_sizes c 16384
unfolding small_shape small_sizes
small_bytes c = eqb-true _ _ (Table.every-at (λ size. eqb ((small_shape size).block * granule_bytes) size) small_sizes 16384 c refl refl)

medium-bytes : (c : ℕ) → (medium_shape (get_or medium_sizes c 65472)).block * granule_bytes ≡ get_or medium_sizes c 65472
unfolding medium_shape medium_sizes
medium-bytes c = eqb-true _ _ (Table.every-at (λ size. eqb ((medium_shape size).block * granule_bytes) size) medium_sizes 65472 c refl refl)

small_at : (c : ℕ) → c < 64 → (shape_of c).block * granule_bytes ≡ get_or small_sizes c 0
unfolding shape_of small_sizes
small_at c l = rw (lt-ltb c class_count (omega arith), lt-ltb c 64 l) (small_bytes c ∙ get_d_within small_sizes 16384 0 c l)

medium-at : (k : ℕ) → k < 12 → (shape_of (64 + k)).block * granule_bytes ≡ get_or medium_sizes k 0
unfolding shape_of medium_sizes
medium-at k l =
    let e : 64 + k - 64 ≡ k = omega arith in
    rw (lt-ltb (64 + k) class_count (omega arith), le-ltb (64 + k) 64 (omega arith), e) (medium-bytes k ∙ get_d_within medium_sizes 65472 0 k l)

pub block-bytes : (e : Entry) → TableBytes e
block-bytes e = record {
  small = λ l. small_at e.class l;
  medium = λ k p l. rw p (medium-at k l);
}

-- ---- runs that overlap have no block in common
-- no run begins d pages behind another, within it, with blocks at the same places
abbrev offset : Shape → ℕ → Bool
offset sh d = eqb d 0 || (leb sh.pages d || leb 1 ((d * page_granules) % sh.block))

abbrev offsets : Shape → Bool
offsets sh = every (offset sh) (below 8)

small-offsets : (c : ℕ) → offsets (small_shape (get_or small_sizes c 16384)) ≡ true
unfolding small_shape small_sizes
small-offsets c = Table.every-at (λ size. offsets (small_shape size)) small_sizes 16384 c refl refl

medium-offsets : (c : ℕ) → offsets (medium_shape (get_or medium_sizes c 65472)) ≡ true
unfolding medium_shape medium_sizes
medium-offsets c = Table.every-at (λ size. offsets (medium_shape size)) medium_sizes 65472 c refl refl

class-offsets : (c : ℕ) → offsets (shape_of c) ≡ true
unfolding shape_of
class-offsets c = let k = number_of c in by_cases (ltb k 64) (λ e. rw e (small-offsets k)) (λ e. rw e (medium-offsets (k - 64)))

module _ (sh : Shape) (ok : Sound sh) (off : offsets sh ≡ true) where
  no_step : (d k : ℕ) → 1 ≤ d → d < sh.pages → d * page_granules ≡ k * sh.block → ⊥
  no_step d k l m e =
      let t : offset sh d ≡ true = every-at (offset sh) 8 d off (omega (arith, ok.short)) in
      let z : (d * page_granules) % sh.block ≡ 0 = ap (λ g. g % sh.block) e ∙ mul-mod_left k sh.block in
      false≢true (rw (ne_eqb d 0 (omega arith), lt-leb sh.pages d m, z) at t)

  not-below : (q q' w : ℕ) → BlockOf sh q w → BlockOf sh q' w → q < q' → ⊥
  unfolding word_of
  not-below q q' w s t l =
      let i = s.index in
      let j = t.index in
      let same : q * page_granules + i * sh.block ≡ q' * page_granules + j * sh.block = omega (arith, s.word, t.word) in
      let high = mul-le-mul_right sh.block s.inside in
      let cut : (i - j) * sh.block ≡ i * sh.block - j * sh.block = mul_comm (i - j) sh.block ∙ mul-sub sh.block i j ∙ ap (λ x. x - sh.block * j) (mul_comm sh.block i) ∙ ap (λ x. i * sh.block - x) (mul_comm sh.block j) in
      no_step (q' - q) (i - j) (omega arith) (omega (arith, same, high, ok.fits)) (omega (arith, same, cut))

  pub one-first_of : (q q' w : ℕ) → BlockOf sh q w → BlockOf sh q' w → q ≡ q'
  one-first_of q q' w s t =
      by_cases (ltb q q')
      (λ e. absurd (not-below q q' w s t (ltb-true q q' e)))
      (λ e. by_cases (ltb q' q)
      (λ d. absurd (not-below q' q w t s (ltb-true q' q d)))
      (λ d. omega (arith, ltb-false q q' e, ltb-false q' q d)))

pub one-first : (c q q' w : ℕ) → BlockOf (shape_of c) q w → BlockOf (shape_of c) q' w → q ≡ q'
one-first c = one-first_of (shape_of c) (shape-sound c) (class-offsets c)
