-- The shape of each class. A caller names a class by its number, 0 to 63 small and 64 to 75 medium. The heap's classes have their numbers as ids, the pool's
-- have 76 more: two classes of one number are alike in shape and limits, and share no page.
use Rattle.std.specs.Prelude.{ℕ, ◌+◌, ◌-◌, ◌/◌, ◌^◌, cond, ltb, get_or}
use Rattle.words.specs.Word.{small_kind, medium_kind}
use Rattle.classes.specs.declared.Shape.{Shape}
use Rattle.classes.specs.Sizes.{small_sizes, medium_sizes, granule_bytes, small_header, medium_header, small_capacity, span_pages, span_capacity}

-- 1 / d with 32 bits behind the point, rounded up: a product with it divides by d
unfoldable pub inverse : ℕ → ℕ
inverse d = (2 ^ 32 - 1) / d + 1

-- a small class: at most 64 blocks a take. Its empty pages are limited by its rule alone: it allows 256 at most
abbrev pub small_of : ℕ → ℕ → ℕ → Shape
small_of block capacity inv = record { kind = small_kind; block = block; header = small_header / granule_bytes; pages = 1; capacity = capacity; batch = 64; emptypages = 256; inverse = inv }

-- a medium class: at most one span's blocks a take; "each medium class's own 8 MiB" (128 pages) of empty spans stays beside its rule
abbrev pub medium_of : ℕ → ℕ → ℕ → ℕ → Shape
medium_of block pages capacity inv = record { kind = medium_kind; block = block; header = medium_header / granule_bytes; pages = pages; capacity = capacity; batch = capacity; emptypages = 128; inverse = inv }

-- by its block's bytes
unfoldable pub small_shape : ℕ → Shape
small_shape size = small_of (size / granule_bytes) (small_capacity size) (inverse (size / granule_bytes))

unfoldable pub medium_shape : ℕ → Shape
medium_shape size = medium_of (size / granule_bytes) (span_pages size) (span_capacity size) (inverse (size / granule_bytes))

-- the numbers that a caller can name; the ids are twice as many (`class_rows`)
abbrev pub class_count : ℕ
class_count = 76

-- the id of the pool's class with a number; the number of an id
abbrev pub pool_id : ℕ → ℕ
pool_id k = class_count + k

abbrev pub number_of : ℕ → ℕ
number_of c = cond (ltb c class_count) c (c - class_count)

-- by number: every number has a shape; above 75 it is never used
abbrev pub named_shape : ℕ → Shape
named_shape c = cond (ltb c 64) (small_shape (get_or small_sizes c 16384)) (medium_shape (get_or medium_sizes (c - 64) 65472))

-- by id
unfoldable pub shape_of : ℕ → Shape
shape_of c = named_shape (number_of c)
