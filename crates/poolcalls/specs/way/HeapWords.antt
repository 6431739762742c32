-- Which words are the heap's. Below 10,240 all but the last of a class's row, where COUNT stands in the pool's rows and nothing in the heap's: the rows of
-- 152 ids are words 160 to 1,375, the holes words 2,048 to 10,239. None from 10,240, where ENTRY begins, to 39,999. Of a page's words all but those of PLACE.
use Rattle.std.specs.Prelude.{ℕ, ◌-◌, ◌%◌, Bool, cond, not, ◌&&◌, eqb, ltb, leb}

-- the last word of a class's row
abbrev pub last_of_row : ℕ → Bool
last_of_row i = leb 160 i && (ltb i 1376 && eqb (i % 8) 7)

-- a word of a page that has PLACEs
abbrev pub of_places : ℕ → Bool
of_places j = leb 2320 j && ltb j 3344

-- a word in which a field of the heap may lie
unfoldable pub heap_word : ℕ → Bool
heap_word i = cond (ltb i 40000) (ltb i 10240 && not (last_of_row i)) (not (of_places ((i - 40000) % 4112)))
