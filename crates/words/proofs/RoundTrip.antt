-- Making a word and taking it apart undo each other.
--     kind-block, granule-block, block-again              of blocks: the parts of what is made, and the word from its parts
--     kind-chunk, count-chunk, page-chunk, chunk-again    of chunks
--     pack-block                                          numbers that fit lose nothing
--     block-lt, chunk-below, chunk-lt, kind-lt, granule-lt, count-lt, page-lt    what is made is a word, and the parts of a word fit
use Rattle.std.proofs.Common.{◌≡◌, ℕ, ◌+◌, ◌*◌, ◌/◌, ◌%◌, ◌^◌, ◌<◌, sym, ap, ◌∙◌, ap₂, mod-lt, mod-eq_of_lt, lit<, pow_pos, shr_lt}
use lib.Arith.{digits_lt}
use lib.Pow.{split, high, low, field, mod-pow-add, mod-mod-pow}
use Rattle.words.specs.Word.{chunk_kind, kind_bits, kind_width, word_bits, page_bits, count_bits, kind_of, granule_of, count_of, page_of, block_word, chunk_word, pack_block}

-- ---- the parts of a word

pub kind-lt : {w : ℕ} → w < 2 ^ word_bits → kind_of w < 2 ^ kind_width
kind-lt h = shr_lt kind_width kind_bits h

pub granule-lt : (w : ℕ) → granule_of w < 2 ^ kind_bits
granule-lt w = mod-lt w (pow_pos kind_bits)

pub count-lt : (w : ℕ) → count_of w < 2 ^ count_bits
count-lt w = mod-lt (w / 2 ^ page_bits) (pow_pos count_bits)

pub page-lt : (w : ℕ) → page_of w < 2 ^ page_bits
page-lt w = mod-lt w (pow_pos page_bits)

-- ---- blocks

module _ (kind : ℕ) {granule : ℕ} (hg : granule < 2 ^ kind_bits) where
  pub kind-block : kind_of (block_word kind granule) ≡ kind
  kind-block = high kind kind_bits hg

  pub granule-block : granule_of (block_word kind granule) ≡ granule
  granule-block = low kind kind_bits hg

  pub block-lt : kind < 2 ^ kind_width → block_word kind granule < 2 ^ word_bits
  block-lt hk = digits_lt hk hg

  pub pack_block_lem : kind < 2 ^ kind_width → pack_block kind granule ≡ block_word kind granule
  pack_block_lem hk = ap₂ block_word (mod-eq_of_lt hk) (mod-eq_of_lt hg)

-- every word is that of its kind and granule
pub block-again : (w : ℕ) → block_word (kind_of w) (granule_of w) ≡ w
block-again w = split w kind_bits

-- ---- chunks: below its kind a chunk's word has the count above the page

module _ {count page : ℕ} (hc : count < 2 ^ count_bits) (hp : page < 2 ^ page_bits) where
  pub chunk-below : count * 2 ^ page_bits + page < 2 ^ kind_bits
  chunk-below = digits_lt hc hp

  pub kind-chunk : kind_of (chunk_word count page) ≡ chunk_kind
  kind-chunk = kind-block chunk_kind chunk-below

  pub count-chunk : count_of (chunk_word count page) ≡ count
  count-chunk =
      sym (field (chunk_word count page) count_bits page_bits) ∙ ap (λ (n : ℕ). n / 2 ^ page_bits) (granule-block chunk_kind chunk-below)
      ∙ high count page_bits hp

  pub page-chunk : page_of (chunk_word count page) ≡ page
  page-chunk =
      sym (mod-mod-pow (chunk_word count page) count_bits page_bits) ∙ ap (λ (n : ℕ). n % 2 ^ page_bits) (granule-block chunk_kind chunk-below)
      ∙ low count page_bits hp

  pub chunk-lt : chunk_word count page < 2 ^ word_bits
  chunk-lt = block-lt chunk_kind chunk-below (lit< tt)

-- every word of a chunk is that of its count and page
pub chunk-again : (w : ℕ) → kind_of w ≡ chunk_kind → chunk_word (count_of w) (page_of w) ≡ w
chunk-again w e =
    ap₂ block_word (sym e) (sym (mod-pow-add w count_bits page_bits)) ∙ block-again w
