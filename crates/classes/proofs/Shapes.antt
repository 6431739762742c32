-- Every class's shape is sound: one computed test over each of the two size tables.
use Rattle.facts.proofs.Prelude.{ℕ, ◌+◌, ◌-◌, ◌*◌, ◌/◌, ◌≤◌, ◌<◌, arith, Bool, true, false, cond, ◌&&◌}
use Rattle.facts.proofs.Prelude.{◌≡◌, refl, sym, ◌∙◌, ap, leb, ltb, eqb, get_or, leb-true, eqb-true, lt-ltb, le-ltb, and_left, and_right}
use Rattle.classes.specs.declared.Shape.{Shape}
use Rattle.classes.specs.Sizes.{small_sizes, medium_sizes, page_bytes, small_capacity, span_pages, span_capacity}
use Rattle.classes.specs.Shape.{inverse, small_of, medium_of, small_shape, medium_shape, class_count, pool_id, number_of, named_shape, shape_of}
use Rattle.classes.specs.way.Near.{block_bytes}
use Rattle.classes.specs.way.Sound.{Sound}
use Rattle.classes.proofs.Table.{every-at}

abbrev within : ℕ → ℕ → ℕ → Bool
within low n high = leb low n && leb n high

abbrev sound : Shape → Bool
sound s = within 1 s.kind 2 && (leb 1 s.block && (leb 1 s.header && (within 1 s.pages 8 && (within 1 s.capacity 4096 && (within 1 s.batch 64 && (leb (s.header + s.capacity * s.block) (4096 * s.pages) && eqb s.inverse (inverse s.block)))))))

is-sound : (s : Shape) → sound s ≡ true → Sound s
is-sound s t = record {
  named = leb-true 1 s.kind (search (and_left, and_right) depth 9);
  known = leb-true s.kind 2 (search (and_left, and_right) depth 9);
  wide = leb-true 1 s.block (search (and_left, and_right) depth 9);
  led = leb-true 1 s.header (search (and_left, and_right) depth 9);
  paged = leb-true 1 s.pages (search (and_left, and_right) depth 9);
  short = leb-true s.pages 8 (search (and_left, and_right) depth 9);
  blocks = leb-true 1 s.capacity (search (and_left, and_right) depth 9);
  few = leb-true s.capacity 4096 (search (and_left, and_right) depth 9);
  gives = leb-true 1 s.batch (search (and_left, and_right) depth 9);
  limited = leb-true s.batch 64 (search (and_left, and_right) depth 9);
  fits = leb-true (s.header + s.capacity * s.block) (4096 * s.pages) (search (and_left, and_right) depth 9);
  inverts = eqb-true s.inverse (inverse s.block) (search (and_left, and_right) depth 9);
}

true_cond : {A : Type 0} (t : A → Bool) (b : Bool) (x y : A) → t x ≡ true → t y ≡ true → t (cond b x y) ≡ true
true_cond t true x y p q = p
true_cond t false x y p q = q

small-sound : (c : ℕ) → sound (small_shape (get_or small_sizes c 16384)) ≡ true
unfolding inverse small_shape small_sizes
small-sound c = every-at (λ size. sound (small_shape size)) small_sizes 16384 c refl refl

medium-sound : (c : ℕ) → sound (medium_shape (get_or medium_sizes c 65472)) ≡ true
unfolding inverse medium_shape medium_sizes
medium-sound c = every-at (λ size. sound (medium_shape size)) medium_sizes 65472 c refl refl

pub shape-sound : (c : ℕ) → Sound (shape_of c)
unfolding shape_of
shape-sound c = let k = number_of c in is-sound (shape_of c) (true_cond sound (ltb k 64) _ _ (small-sound k) (medium-sound (k - 64)))

-- ---- a shape made from a block size
abbrev filled : ℕ → Bool
filled size = within 16 size page_bytes

small-filled : (c : ℕ) → filled (get_or small_sizes c 16384) ≡ true
unfolding small_sizes
small-filled c = every-at filled small_sizes 16384 c refl refl

medium-filled : (c : ℕ) → filled (get_or medium_sizes c 65472) ≡ true
unfolding medium_sizes
medium-filled c = every-at filled medium_sizes 65472 c refl refl

module _ (size : ℕ) (f : filled size ≡ true) where
  some : 16 ≤ size
  some = leb-true 16 size (and_left (leb 16 size) _ f)

  most : size ≤ page_bytes
  most = leb-true size page_bytes (and_right (leb 16 size) _ f)

-- by its class's id
filled-bytes : (c : ℕ) → filled (block_bytes c) ≡ true
unfolding block_bytes
filled-bytes c = true_cond filled (ltb c 64) _ _ (small-filled c) (medium-filled (c - 64))

module _ (c size : ℕ) (e : size ≡ block_bytes c) where
  pub some_bytes : 16 ≤ size
  some_bytes = rw e (some _ (filled-bytes c))

  pub most_bytes : size ≤ page_bytes
  most_bytes = rw e (most _ (filled-bytes c))

  pub small_shaped : (k i : ℕ) → c < 64 → k ≡ small_capacity size → i ≡ inverse (size / 16) → small_of (size / 16) k i ≡ named_shape c
  unfolding small_shape block_bytes
  small_shaped k i h ek ei = rw (ek, ei, e, lt-ltb c 64 h)

  pub medium_shaped : (g k i : ℕ) → 64 ≤ c → g ≡ span_pages size → k ≡ span_capacity size → i ≡ inverse (size / 16) → medium_of (size / 16) g k i ≡ named_shape c
  unfolding medium_shape block_bytes
  medium_shaped g k i h eg ek ei = rw (eg, ek, ei, e, le-ltb c 64 h)

-- ---- the number of an id
pub number-low : (c : ℕ) → c < class_count → c ≡ number_of c
number-low c h = rw (lt-ltb c class_count h)

pub number-high : (c : ℕ) → class_count ≤ c → c - class_count ≡ number_of c
number-high c h = rw (le-ltb c class_count h)

pub shape-numbered : (c k : ℕ) (s : Shape) → k ≡ number_of c → s ≡ named_shape k → s ≡ shape_of c
unfolding shape_of
shape-numbered c k s e f = f ∙ ap named_shape e

pub number-pool : (k : ℕ) → number_of (pool_id k) ≡ k
number-pool k = rw (le-ltb (pool_id k) class_count (omega arith)) (omega arith)

-- a class of the pool has the shape of its number
pub shape-pool : (k : ℕ) → shape_of (pool_id k) ≡ named_shape k
unfolding shape_of
shape-pool k = ap named_shape (number-pool k)

pub shape-named : (k : ℕ) → ltb k class_count ≡ true → shape_of k ≡ named_shape k
unfolding shape_of
shape-named k low = rw low

pub shape-alike : (k : ℕ) → ltb k class_count ≡ true → shape_of (pool_id k) ≡ shape_of k
shape-alike k low = shape-pool k ∙ sym (shape-named k low)
