-- The words of a class (document 02, A.14). n is the arena's length, b the book, sh the class's shape, c its id.
--     footprint n b sh c i    word i of the book is the class's: it stands in the class's row, or it is a word of a page at which a run of the
--                             class begins
-- A call on the class that does not reach the arena reads and writes these words and no others, but for its tests: they also look at LENGTH,
-- FORMAT and FRONTIER and at who holds the page of a listed block, and find the same there whatever calls on other classes were made, since
-- none of these takes a page of this class or makes one. A call on another class, also one that reaches the arena, keeps to the words that
-- are not this class's.
-- A word of OWNER at or above FRONTIER may hold anything, and so does not make its page the class's; `whole` says what does.
use Rattle.std.specs.Prelude.{ℕ, ◌+◌, ◌-◌, ◌/◌, ◌%◌, Bool, cond, not, List, eqb, ltb}
use Rattle.classes.specs.declared.Shape.{Shape}
use Rattle.pages.specs.Runs.{whole}

-- the page that a word is of, counted from word 40,000 on: a page has 4,112 words, and those from 3,344 on of page 256 j are OWNER and FIRST of that page
-- and the 255 after it, two words a page (`fields: pair`). Of a word that has no field it names some page.
unfoldable pub page_of : ℕ → ℕ
page_of j = j / 4112 + (j % 4112 - 3344) / 2

-- the rows, of 8 words each, begin at word 160
unfoldable pub footprint : ℕ → List ℕ → Shape → ℕ → ℕ → Bool
footprint n b sh c i = cond (ltb i 40000) (eqb (i / 8) (20 + c)) (whole n b sh c (page_of (i - 40000)))

-- the others
unfoldable pub off : ℕ → List ℕ → Shape → ℕ → ℕ → Bool
off n b sh c i = not (footprint n b sh c i)
