-- The pool's words. b is the book, c a class's number, g a granule (a block is named by its first one), k a place in the stock.
--     COUNT of class c    word 775 + 8c, the last of the row of the pool's class, which an opening clears
--     ENTRY k of class c  word 10,240 + 256c + k: the granule of a block in stock
--     PLACE of granule g  8 bits in words 2,320 to 3,343 of its page: where it stands in its class's stock if it is there, else anything
use Rattle.std.specs.Prelude.{ℕ, zero, suc, ◌+◌, ◌*◌, ◌/◌, ◌%◌, Bool, ◌&&◌, List, [], ◌∷◌, eqb, ltb, length, get_or, set}
use Rattle.words.specs.Word.{block_word, granule_of}
use Rattle.classes.specs.Shape.{shape_of, pool_id}
use Rattle.fields.specs.Field.{Part, bits, read, place}

abbrev pub count_at : ℕ → ℕ
count_at c = 167 + 8 * pool_id c

abbrev pub entry_at : ℕ → ℕ → ℕ
entry_at c k = 10240 + 256 * c + k

abbrev pub place_at : ℕ → ℕ
place_at g = 42320 + 4112 * (g / 4096) + g % 4096 / 4

abbrev pub place_bits : ℕ → Part
place_bits g = bits (8 * (g % 4)) 8

-- ---- read
unfoldable pub count_in : List ℕ → ℕ → ℕ
count_in b c = get_or b (count_at c) 0

unfoldable pub entry_in : List ℕ → ℕ → ℕ → ℕ
entry_in b c k = get_or b (entry_at c k) 0

unfoldable pub place_in : List ℕ → ℕ → ℕ
place_in b g = read (place_bits g) (get_or b (place_at g) 0)

-- the block in place k; the stock, the next to be granted first
abbrev pub block_in : List ℕ → ℕ → ℕ → ℕ
block_in b c k = block_word (shape_of (pool_id c)).kind (entry_in b c k)

abbrev pub stock_from : List ℕ → ℕ → ℕ → List ℕ
stock_from b c zero = []
stock_from b c (suc k) = block_in b c k ∷ stock_from b c k

abbrev pub stock_in : List ℕ → ℕ → List ℕ
stock_in b c = stock_from b c (count_in b c)

-- is the granule in the class's stock: PLACE is believed only if the entry there is the granule
unfoldable pub stocked : List ℕ → ℕ → ℕ → Bool
stocked b c g = ltb (place_in b g) (count_in b c) && eqb (entry_in b c (place_in b g)) g

-- ---- written
unfoldable pub put_count : List ℕ → ℕ → ℕ → List ℕ
put_count b c k = set b (count_at c) k

unfoldable pub put_entry : List ℕ → ℕ → ℕ → ℕ → List ℕ
put_entry b c k g = set b (entry_at c k) g

unfoldable pub put_place : List ℕ → ℕ → ℕ → List ℕ
put_place b g k = set b (place_at g) (place (place_bits g) (get_or b (place_at g) 0) k)

-- granule g comes into place k; COUNT stays
abbrev pub put : List ℕ → ℕ → ℕ → ℕ → List ℕ
put b c k g = put_place (put_entry b c k g) g k

-- on top of the stock
abbrev pub pushed : List ℕ → ℕ → ℕ → List ℕ
pushed b c g = put_count (put b c (count_in b c) g) c (suc (count_in b c))

-- blocks into the places from k on, in the list's order
abbrev pub put_all : List ℕ → ℕ → ℕ → List ℕ → List ℕ
put_all b c k [] = b
put_all b c k (w ∷ ws) = put_all (put b c k (granule_of w)) c (suc k) ws

-- the stock is these, the last of them on top; COUNT is written last
abbrev pub filled : List ℕ → ℕ → List ℕ → List ℕ
filled b c ws = put_count (put_all b c 0 ws) c (length ws)
