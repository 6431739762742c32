-- What a change of out bits and marks keeps, and what a block's bit tells of its word.
--     start-kept, bits-own, in-run-kept    a word's run, on a book whose out bits and marks may differ
use Rattle.facts.proofs.Prelude.{ℕ, ◌-◌, ◌*◌, ◌≤◌, ◌<◌, arith, Bool, true, ◌&&◌, ◌||◌, List, ◌≡◌, refl, ap, eqb, leb, leb-true, ltb-true, eqb-true, lt-ltb, and_left, and_right}
use Rattle.words.specs.Word.{kind_of, granule_of}
use Rattle.classes.specs.declared.Shape.{Shape}
use Rattle.fields.specs.Field.{Field, page, out, first, region, get, put}
use Rattle.fields.proofs.Changes.{Changes, changes-none, changes-put}
use Rattle.pages.proofs.Kept.{Owns, changes-owns, whole-kept}
use Rattle.pages.specs.Stack.{blocks_from, index_of, page_at, is_block}
use Rattle.calls.specs.Out.{start_of, out_in, in_run_of}
use Rattle.release.specs.way.Blocks.{bit_in}

-- ---- a change of out bits, or of marks
abbrev pub is_bit : Field → Bool
is_bit f = eqb (region f) 1 || eqb (region f) 5

pub put-bit : (b : List ℕ) (q i v : ℕ) → i < 4096 → Changes is_bit b (put b (out q i) v)
put-bit b q i v h = changes-put is_bit b b (out q i) v (lt-ltb i 4096 h) refl (changes-none is_bit b)

module _ (b b' : List ℕ) (h : Changes is_bit b b') where
  pub start-kept : (w : ℕ) → start_of b' w ≡ start_of b w
  unfolding start_of
  start-kept w = h.kept (page first (page_at w)) refl refl

  pub bits-own : Owns b b'
  bits-own = changes-owns h (λ x. refl) (λ x. refl) refl

  pub in_run-kept : (n : ℕ) (sh : Shape) (c w : ℕ) → in_run_of n b' sh c w ≡ in_run_of n b sh c w
  unfolding in_run_of
  in_run-kept n sh c w = rw (start-kept w, bits-own.bound, whole-kept bits-own n sh c (start_of b w))

-- ---- a word's block, and its bit
pub out_in_lem : (b : List ℕ) (sh : Shape) (q w : ℕ) → out_in b sh q w ≡ (is_block sh q w && eqb (get b (bit_in sh q w)) 1)
unfolding out_in
out_in_lem b sh q w = refl

module _ (sh : Shape) (q w : ℕ) (e : is_block sh q w ≡ true) where
  pub from_block : blocks_from sh q ≤ granule_of w
  unfolding is_block
  from_block = leb-true (blocks_from sh q) (granule_of w) (and_left _ _ e)

  pub at_block : index_of sh q w * sh.block ≡ granule_of w - blocks_from sh q
  unfolding is_block
  at_block = eqb-true (index_of sh q w * sh.block) (granule_of w - blocks_from sh q) (and_left _ _ (and_right (leb (blocks_from sh q) (granule_of w)) _ e))

  pub below_capacity : index_of sh q w < sh.capacity
  unfolding is_block
  below_capacity = ltb-true (index_of sh q w) sh.capacity (and_right (eqb (index_of sh q w * sh.block) (granule_of w - blocks_from sh q)) _ (and_right (leb (blocks_from sh q) (granule_of w)) _ e))

-- words of one kind that are the same block of one run are the same word
pub one_word : (sh : Shape) (q v w : ℕ) → is_block sh q v ≡ true → is_block sh q w ≡ true → kind_of v ≡ kind_of w → index_of sh q v ≡ index_of sh q w → v ≡ w
one_word sh q v w e f k i =
    let g : index_of sh q v * sh.block ≡ index_of sh q w * sh.block = ap (λ j. j * sh.block) i in
    let x : granule_of v ≡ granule_of w = omega (arith, from_block sh q v e, from_block sh q w f, at_block sh q v e, at_block sh q w f) in
    omega arith
