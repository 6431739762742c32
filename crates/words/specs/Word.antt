-- Words that pass between editor and heap (document 01, "What the editor lends"), in plain arithmetic.
use Rattle.std.specs.Prelude.{ℕ, ◌+◌, ◌*◌, ◌/◌, ◌%◌, ◌^◌}

-- the kinds: 0 none, 1 small block, 2 medium block, 3 group (a chunk, in the original's words)
abbrev pub none_kind : ℕ
none_kind = 0

abbrev pub small_kind : ℕ
small_kind = 1

abbrev pub medium_kind : ℕ
medium_kind = 2

abbrev pub chunk_kind : ℕ
chunk_kind = 3

-- the kind stands above these bits of a word, and takes the two left; a word is 64 bits
abbrev pub kind_bits : ℕ
kind_bits = 62

abbrev pub kind_width : ℕ
kind_width = 2

abbrev pub word_bits : ℕ
word_bits = kind_width + kind_bits

-- a chunk's count stands above these bits, and takes the next
abbrev pub page_bits : ℕ
page_bits = 50

abbrev pub count_bits : ℕ
count_bits = 12

-- a word's kind, and the first granule of a block's
abbrev pub kind_of : ℕ → ℕ
kind_of w = w / 2 ^ kind_bits

abbrev pub granule_of : ℕ → ℕ
granule_of w = w % 2 ^ kind_bits

-- a chunk's count and page
abbrev pub count_of : ℕ → ℕ
count_of w = w / 2 ^ page_bits % 2 ^ count_bits

abbrev pub page_of : ℕ → ℕ
page_of w = w % 2 ^ page_bits

-- the word of a block, by its kind and first granule; of a chunk, by its count and page
abbrev pub block_word : ℕ → ℕ → ℕ
block_word kind granule = kind * 2 ^ kind_bits + granule

abbrev pub chunk_word : ℕ → ℕ → ℕ
chunk_word count page = chunk_kind * 2 ^ kind_bits + (count * 2 ^ page_bits + page)

-- the word that numbers of any size give: of each, the bits for which there is room
abbrev pub pack_block : ℕ → ℕ → ℕ
pack_block kind granule = block_word (kind % 2 ^ kind_width) (granule % 2 ^ kind_bits)
