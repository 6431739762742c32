-- Document 01's limits.
use Rattle.std.specs.Prelude.{ℕ}

-- the longest arena, in pages: number 1 is above it
abbrev pub max_pages : ℕ
max_pages = 1048576

-- "4,096 holes", "65,536 pages in all"
abbrev pub hole_slots : ℕ
hole_slots = 4096

abbrev pub hole_pages_max : ℕ
hole_pages_max = 65536

-- the class rows of a book: 76 classes of the heap, and as many of the pool
abbrev pub class_rows : ℕ
class_rows = 152

-- FORMAT of a book that an opening of this layout made: the letters VIG7. No other layout has it, and neither zeros nor ones are it
abbrev pub book_format : ℕ
book_format = 1447642935

-- the largest limit of a store, empty or cold, over all classes
abbrev pub max_parked : ℕ
max_parked = 256
