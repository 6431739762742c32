-- The size classes of document 01, "A size gives a class", in bytes.
use Rattle.std.specs.Prelude.{ℕ, ◌+◌, ◌-◌, ◌*◌, ◌/◌, List, [], ◌∷◌}

-- the small class table
unfoldable pub small_sizes : List ℕ
small_sizes =
    16 ∷ 32 ∷ 48 ∷ 64 ∷ 80 ∷ 96 ∷ 112 ∷ 128 ∷ 144 ∷ 176 ∷ 208 ∷ 240 ∷ 272 ∷ 320 ∷ 368 ∷ 416 ∷ 480 ∷ 544 ∷ 624 ∷ 704 ∷ 800 ∷ 912 ∷ 1040 ∷ 1184 ∷ 1344 ∷ 1520 ∷ 1712 ∷ 1936 ∷ 2192 ∷ 2480 ∷ 2800 ∷ 3152 ∷ 3552 ∷ 4000 ∷ 4512 ∷ 5088 ∷ 5728 ∷ 6448 ∷ 7264 ∷ 8176 ∷ 9200 ∷ 10352 ∷ 11648 ∷ 13104 ∷ 14752 ∷ 16384 ∷ 16384 ∷ 16384 ∷ 16384 ∷ 16384 ∷ 16384 ∷ 16384 ∷ 16384 ∷ 16384 ∷ 16384 ∷ 16384 ∷ 16384 ∷ 16384 ∷ 16384 ∷ 16384 ∷ 16384 ∷ 16384 ∷ 16384 ∷ 16384 ∷ []

-- the medium class table
unfoldable pub medium_sizes : List ℕ
medium_sizes =
    18432 ∷ 20736 ∷ 23328 ∷ 26256 ∷ 29552 ∷ 33248 ∷ 37408 ∷ 42096 ∷ 47360 ∷ 53280 ∷ 59952 ∷ 65472 ∷ []

-- the largest size with a small class of its own, with a medium one
abbrev pub max_small_size : ℕ
max_small_size = 16384

abbrev pub max_medium_size : ℕ
max_medium_size = 65472

-- bytes of a page, of a granule; bytes before the first block of a small page, of a span
abbrev pub page_bytes : ℕ
page_bytes = 65536

abbrev pub granule_bytes : ℕ
granule_bytes = 16

abbrev pub small_header : ℕ
small_header = 48

abbrev pub medium_header : ℕ
medium_header = 64

-- blocks of a small page
abbrev pub small_capacity : ℕ → ℕ
small_capacity size = (page_bytes - small_header) / size

-- pages of a span, the fewest that hold 8 blocks after the header; its blocks
abbrev pub span_pages : ℕ → ℕ
span_pages size = (medium_header + 8 * size + (page_bytes - 1)) / page_bytes

abbrev pub span_capacity : ℕ → ℕ
span_capacity size = (span_pages size * page_bytes - medium_header) / size
