-- The ways out of `block_at` and `block_in`, and what a block tells.
use Rattle.facts.proofs.Prelude.{ℕ, zero, suc, ◌+◌, ◌-◌, ◌*◌, ◌/◌, ◌%◌, ◌^◌, ◌≤◌, ◌<◌, arith, div-add-mod', mod-eq_of_lt, mul-le-mul_right, lt_of_mul-lt-mul_right}
use Rattle.facts.proofs.Prelude.{Bool, true, false, ◌&&◌, and-false, ◌≡◌, refl, sym, ap, ◌∙◌, eqb, le-leb, lt-ltb, eq-eqb, ne_eqb, eqb-true}
use Rattle.std.specs.Prelude.{Some, None}
use Rattle.std.proofs.Common.{w32, w64, Fits}
use lib.Pow.{low}
use Rattle.words.specs.Word.{kind_of, granule_of}
use Rattle.classes.specs.declared.Shape.{Shape}
use Rattle.classes.specs.Shape.{inverse}
use Rattle.classes.specs.way.Sound.{Sound}
use Rattle.fields.specs.Ranges.{max_pages}
use Rattle.model.specs.Page.{word_of}
use Rattle.model.specs.Release.{of_kind}
use Rattle.pages.specs.Stack.{blocks_from, index_of, is_block}
use Rattle.lists.proofs.InverseLaws.{behind_point, past_point, narrow, product-fits, divides, quotient_fits}
use Rattle.release.specs.way.Blocks.{found, block_at, block_in}
use Rattle.release.specs.way.MarkPre.{Near}
use Rattle.release.proofs.Bits.{from_block, at_block, below_capacity}

-- x granules behind the run's first block
module _ (sh : Shape) (s : Sound sh) (x : ℕ) (l : x < sh.capacity * sh.block) where
  near : x < 2 ^ 16
  near = omega (arith, s.fits, s.short)

  pub near_fits : Fits w64 (x * sh.inverse)
  near_fits = product-fits sh s x near

  pub index-fits : Fits w32 (x * sh.inverse / 2 ^ 32)
  index-fits = quotient_fits sh s x near

  index_is : x * sh.inverse / 2 ^ 32 ≡ x / sh.block
  index_is = divides sh s x near

  whole-block : x * sh.inverse % 2 ^ 32 < sh.inverse → x / sh.block * sh.block ≡ x
  whole-block h =
      let z : x % sh.block ≡ 0 = by (x % sh.block) refl in
      omega (arith, div-add-mod' x sh.block)
    where
      by : (r : ℕ) → x % sh.block ≡ r → x % sh.block ≡ 0
      by zero e = e
      by (suc r) e = let y : inverse sh.block ≤ x * inverse sh.block % 2 ^ 32 = past_point x sh.block near s.wide (narrow sh s) (omega arith) in absurd (omega (arith, rw s.inverts at h))

  part-block : sh.inverse ≤ x * sh.inverse % 2 ^ 32 → x / sh.block * sh.block ≡ x → ⊥
  part-block h e =
      let z : x % sh.block ≡ 0 = omega (arith, div-add-mod' x sh.block) in
      let y : x * inverse sh.block % 2 ^ 32 < inverse sh.block = behind_point x sh.block near s.wide (narrow sh s) z in
      omega (arith, rw s.inverts at h)

module _ (sh : Shape) (q w v g x : ℕ) (s : Sound sh) (below : q < max_pages) (d : v ≡ w) (e : g ≡ granule_of v) (u : (x + (q * 4096 + sh.header)) % 2 ^ 64 ≡ g) where
  pub past-blocks : x < 2 ^ 64 → sh.capacity * sh.block ≤ x → None ≡ block_at sh q w
  past-blocks f h = by (is_block sh q w) refl
    where
      by : (t : Bool) → is_block sh q w ≡ t → None ≡ found t (index_of sh q w)
      by false z = refl
      by true z =
          let k : (index_of sh q w + 1) * sh.block ≤ sh.capacity * sh.block = mul-le-mul_right sh.block (omega (arith, below_capacity sh q w z)) in
          absurd (omega (arith, from_block sh q w z, at_block sh q w z, s.wide, s.fits, s.short))

  module _ (l : x < sh.capacity * sh.block) where
    behind-first : granule_of w ≡ x + blocks_from sh q
    behind-first = omega (arith, s.fits, s.short)

    index_of-it : index_of sh q w ≡ x / sh.block
    unfolding index_of
    index_of-it = let z : granule_of w - blocks_from sh q ≡ x = omega (arith, behind-first) in ap (λ t. t / sh.block) z

    pub between-blocks : sh.inverse ≤ x * sh.inverse % 2 ^ 32 → None ≡ block_at sh q w
    unfolding is_block
    between-blocks h =
        let z : (index_of sh q w * sh.block ≡ granule_of w - blocks_from sh q → ⊥) = λ y. part-block sh s x l h (ap (λ t. t * sh.block) (sym index_of-it) ∙ y ∙ omega (arith, behind-first)) in
        simp (ne_eqb _ _ z, and-false)

    pub a_block : x * sh.inverse % 2 ^ 32 < sh.inverse → Some (x * sh.inverse / 2 ^ 32) ≡ block_at sh q w
    unfolding is_block
    a_block h =
        let k : x / sh.block * sh.block ≡ x = whole-block sh s x l h in
        let c : x / sh.block < sh.capacity = lt_of_mul-lt-mul_right sh.block (rw k l) in
        let z : x / sh.block * sh.block ≡ granule_of w - blocks_from sh q = omega (arith, behind-first) in
        let f : blocks_from sh q ≤ granule_of w = omega (arith, behind-first) in
        rw (index_of-it, le-leb _ _ f, eq-eqb _ _ z, lt-ltb _ _ c) (ap Some (index_is sh s x l))

-- ---- what the block tells
pub none_found : (t : Bool) (i : ℕ) → None ≡ found t i → t ≡ false
none_found true i e = let z : ◌≡◌ {A = ℕ} 0 1 = cc in absurd (omega arith)
none_found false i e = refl

pub found_at : (t : Bool) (i j : ℕ) → Some j ≡ found t i → (t ≡ true) × (j ≡ i)
found_at true i j e = (refl, cc)
found_at false i j e = let z : ◌≡◌ {A = ℕ} 0 1 = cc in absurd (omega arith)

-- ---- a word of the class's kind: x behind the word of block 0
module _ (sh : Shape) (q base span w x : ℕ) (a : Near sh q base span) (u : (x + base) % 2 ^ 64 ≡ w) where
  start_is : base ≡ sh.kind * 2 ^ 62 + (q * 4096 + sh.header)
  unfolding word_of
  start_is = a.first ∙ omega arith

  none_in : (of_kind sh.kind w && is_block sh q w) ≡ false → None ≡ block_in sh q w
  none_in h = rw h

  pub outside : x < 2 ^ 64 → span ≤ x → None ≡ block_in sh q w
  unfolding of_kind
  outside f h = by (eqb (kind_of w) sh.kind) (is_block sh q w) refl refl
    where
      by : (t v : Bool) → eqb (kind_of w) sh.kind ≡ t → is_block sh q w ≡ v → None ≡ found (t && v) (index_of sh q w)
      by false v y z = refl
      by true false y z = refl
      by true true y z =
          let k : (index_of sh q w + 1) * sh.block ≤ sh.capacity * sh.block = mul-le-mul_right sh.block (omega (arith, below_capacity sh q w z)) in
          let o : kind_of w ≡ sh.kind = eqb-true (kind_of w) sh.kind y in
          absurd (omega (arith, start_is, from_block sh q w z, at_block sh q w z, a.sound.wide, a.sound.fits, a.sound.known, a.below, a.all))

  module _ (l : x < span) where
    word-is : w ≡ x + base
    word-is = omega (arith, start_is, a.all, a.sound.fits, a.sound.known, a.below)

    granules : x < sh.capacity * sh.block
    granules = rw (← a.all) l

    kind-is : of_kind sh.kind w ≡ true
    unfolding of_kind
    kind-is = eq-eqb (kind_of w) sh.kind (omega (arith, word-is, start_is, a.all, a.sound.fits, a.below))

    granule-is : (x + (q * 4096 + sh.header)) % 2 ^ 64 ≡ granule_of w
    granule-is =
        let l : x + (q * 4096 + sh.header) < 2 ^ 62 = omega (arith, a.all, a.sound.fits, a.below) in
        let e : w ≡ sh.kind * 2 ^ 62 + (x + (q * 4096 + sh.header)) = omega (arith, word-is, start_is) in
        mod-eq_of_lt (omega arith) ∙ sym (ap (λ z. z % 2 ^ 62) e ∙ low sh.kind 62 l)

    starts-low : q < max_pages
    starts-low = omega (arith, a.below, a.sound.paged)

    pub near-product : Fits w64 (x * sh.inverse)
    near-product = near_fits sh a.sound x granules

    pub near-index : Fits w32 (x * sh.inverse / 2 ^ 32)
    near-index = index-fits sh a.sound x granules

    pub inside-none : sh.inverse ≤ x * sh.inverse % 2 ^ 32 → None ≡ block_in sh q w
    inside-none h =
        let z = none_found (is_block sh q w) (index_of sh q w) (between-blocks sh q w w (granule_of w) x a.sound starts-low refl refl granule-is granules h) in
        none_in (simp (z, and-false))

    pub inside-at : x * sh.inverse % 2 ^ 32 < sh.inverse → Some (x * sh.inverse / 2 ^ 32) ≡ block_in sh q w
    inside-at h =
        rw kind-is (a_block sh q w w (granule_of w) x a.sound starts-low refl refl granule-is granules h)
