-- A block's word and index: sums that stay within 32 bits, as the longest arena's granules do, and the ways out.
use Rattle.facts.proofs.Prelude.{ℕ, ◌+◌, ◌-◌, ◌*◌, ◌/◌, ◌%◌, ◌^◌, ◌≤◌, ◌<◌, arith, mul-le-mul_right, mod-eq_of_lt, true, not, List}
use Rattle.facts.proofs.Prelude.{◌≡◌, ap, ◌∙◌, eqb, ltb, leb, eq-eqb, ne_eqb, eqb-true, leb-true, ltb-true, and_left, and_right}
use Rattle.words.specs.Word.{block_word, pack_block, granule_of}
use Rattle.classes.specs.declared.Shape.{Shape}
use Rattle.fields.specs.Field.{page, free, carved, get}
use Rattle.model.specs.Page.{word_of}
use Rattle.pages.specs.Stack.{has_more, blocks_from, index_of, is_block}
use Rattle.pages.specs.way.Pre.{WordPre, IndexPre}
use Rattle.lists.proofs.InverseLaws.{divides}

-- a block lies within its run
pub inside : (sh : Shape) (q i : ℕ) → WordPre sh q i → q * 4096 + (sh.header + i * sh.block) < 2 ^ 32
inside sh q i h =
    let l : (i + 1) * sh.block ≤ sh.capacity * sh.block = mul-le-mul_right sh.block (omega (arith, h.block)) in
    omega (arith, l, h.below, h.sound.fits, h.sound.wide)

pub word-done : (sh : Shape) (q i w : ℕ) → WordPre sh q i → w ≡ pack_block sh.kind (q * 4096 + (sh.header + i * sh.block)) → w ≡ word_of sh q i
unfolding word_of
word-done sh q i w h e =
    let k : sh.kind % 2 ^ 2 ≡ sh.kind = mod-eq_of_lt (omega (arith, h.sound.known)) in
    let g : (q * 4096 + (sh.header + i * sh.block)) % 2 ^ 62 ≡ q * 4096 + (sh.header + i * sh.block) = mod-eq_of_lt (omega (arith, inside sh q i h)) in
    e ∙ ap (λ z. block_word z ((q * 4096 + (sh.header + i * sh.block)) % 2 ^ 62)) k ∙ ap (block_word sh.kind) g

index-done : (sh : Shape) (q w x g : ℕ) → x ≡ w → g ≡ granule_of x → (g - (q * 4096 + sh.header)) / sh.block ≡ index_of sh q w
unfolding index_of
index-done sh q w x g e e' = ap (λ z. (z - blocks_from sh q) / sh.block) (e' ∙ ap granule_of e)

-- a block of the run
module _ (sh : Shape) (q w y g : ℕ) (a : IndexPre sh q w) (o : is_block sh q w ≡ true) (e₁ : y ≡ w) (e₂ : g ≡ granule_of y) where
  pub block-from : q * 4096 + sh.header ≤ g
  unfolding is_block
  block-from = rw (e₂, e₁) (leb-true (blocks_from sh q) (granule_of w) (and_left (leb (blocks_from sh q) (granule_of w)) _ o))

  pub block_near : g - (q * 4096 + sh.header) < 2 ^ 16
  unfolding is_block
  block_near =
      let z = and_right (leb (blocks_from sh q) (granule_of w)) _ o in
      let i = eqb-true (index_of sh q w * sh.block) (granule_of w - blocks_from sh q) (and_left _ _ z) in
      let l = ltb-true (index_of sh q w) sh.capacity (and_right (eqb (index_of sh q w * sh.block) (granule_of w - blocks_from sh q)) _ z) in
      let m : (index_of sh q w + 1) * sh.block ≤ sh.capacity * sh.block = mul-le-mul_right sh.block (omega arith) in
      omega (arith, ap granule_of e₁, a.sound.fits, a.sound.short)

  pub block-index : (g - (q * 4096 + sh.header)) * sh.inverse / 2 ^ 32 ≡ index_of sh q w
  block-index = divides sh a.sound (g - (q * 4096 + sh.header)) block_near ∙ index-done sh q w y g e₁ e₂

module _ (b : List ℕ) (sh : Shape) (q : ℕ) where
  pub more-free : (f : ℕ) → f ≡ get b (page free q) → (f ≡ 0 → ⊥) → not (eqb f 0) ≡ has_more b sh q
  unfolding has_more
  more-free f e h = rw (← e, ne_eqb f 0 h)

  pub more-fresh : (f k : ℕ) → f ≡ get b (page free q) → f ≡ 0 → k ≡ get b (page carved q) → ltb k sh.capacity ≡ has_more b sh q
  unfolding has_more
  more-fresh f k e h e' = rw (← e, eq-eqb f 0 h, ← e')
