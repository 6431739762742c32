-- The book's fields by name, where each lies, and how one is read and written. The book is `meta`, or b: a list of words.
--     Field         a field: of the arena, a word of marks, of a class, of a hole, of a page, an out bit, an entry of a page's stack
--     word, part    its word, and which bits of the word
--     get, put      the field's value in a book, and the book with another value there
--     same          whether two fields are one: it computes at constructors, so that fields of different names differ by `refl`
--     ok            a class, hole, block and word of marks are within their rows; in_book n: and the page is below n
--     room          the value is one that the field can hold
--     words         the words of a book
-- A mark (document 02, A.3) is a bit of a page's words 144 to 271; its field is the whole word, 32 blocks' marks, since marks are cleared so.
-- Words 13 to 159 have no field.
use Rattle.std.specs.Prelude.{ℕ, ◌+◌, ◌-◌, ◌*◌, ◌/◌, ◌%◌, ◌^◌, ◌<◌, Bool, true, cond, ◌&&◌, List, eqb, ltb, length, get_or, set}
use Rattle.words.specs.Limits.{hole_slots, class_rows}

-- `size` is the arena's length in pages, the word LENGTH (`length` is a list's); a count is 64 bits, in two words
pub data ArenaField : Type 0 where
  size state frontier holes hole_pages commits commits_high reuses reuses_high abandoned abandoned_high held format : ArenaField

pub data ClassField : Type 0 where
  partial empty empty_count cold cold_count empty_limit cold_limit : ClassField

pub data HoleField : Type 0 where
  start pages : HoleField

pub data PageField : Type 0 where
  owner first next prev free carved listed virgin tally : PageField

pub data Field : Type 0 where
  arena : ArenaField → Field
  mark : ℕ → ℕ → Field
  class : ClassField → ℕ → Field
  hole : HoleField → ℕ → Field
  page : PageField → ℕ → Field
  out : ℕ → ℕ → Field
  slot : ℕ → ℕ → Field

-- ---- where a field lies
abbrev pub arena_off : ArenaField → ℕ
arena_off size = 0
arena_off state = 1
arena_off frontier = 2
arena_off holes = 3
arena_off hole_pages = 4
arena_off commits = 5
arena_off commits_high = 6
arena_off reuses = 7
arena_off reuses_high = 8
arena_off abandoned = 9
arena_off abandoned_high = 10
arena_off held = 11
arena_off format = 12

abbrev pub class_off : ClassField → ℕ
class_off partial = 0
class_off empty = 1
class_off empty_count = 2
class_off cold = 3
class_off cold_count = 4
class_off empty_limit = 5
class_off cold_limit = 6

abbrev pub hole_off : HoleField → ℕ
hole_off start = 0
hole_off pages = 1

abbrev pub page_off : PageField → ℕ
page_off owner = 0
page_off first = 1
page_off next = 2
page_off prev = 3
page_off free = 4
page_off carved = 5
page_off listed = 6
page_off virgin = 7
page_off tally = 8

-- a page's pair, OWNER and FIRST: those of pages 256 j to 256 j + 255 stand side by side in words 3,344 to 3,855 of page 256 j, so that a long run's lie
-- together
abbrev pub pair : ℕ → ℕ
pair p = 43344 + 4112 * (256 * (p / 256)) + 2 * (p % 256)

-- OWNER and FIRST are in the pair, the others in the page's own words
abbrev pub page_word : PageField → ℕ → ℕ
page_word k p = cond (ltb (page_off k) 2) (pair p + page_off k) (40000 + 4112 * p + page_off k)

abbrev pub word : Field → ℕ
word (arena k) = arena_off k
word (mark p j) = 40144 + 4112 * p + j
word (class k c) = 160 + 8 * c + class_off k
word (hole k i) = 2048 + 2 * i + hole_off k
word (page k p) = page_word k p
word (out p i) = 40016 + 4112 * p + i / 32
word (slot p i) = 40272 + 4112 * p + i / 2

-- the whole word, or a number of its bits from one bit on
pub data Part : Type 0 where
  whole : Part
  bits : ℕ → ℕ → Part

abbrev pub part : Field → Part
part (arena k) = whole
part (mark p j) = whole
part (class k c) = whole
part (hole k i) = whole
part (page k p) = whole
part (out p i) = bits (i % 32) 1
part (slot p i) = bits (16 * (i % 2)) 16

-- the words of a book of n pages (document 01, "What the editor lends")
abbrev pub words : ℕ → ℕ
words n = 40000 + 4112 * n

-- ---- reading and writing
abbrev pub read : Part → ℕ → ℕ
read whole w = w
read (bits at n) w = w / 2 ^ at % 2 ^ n

-- the word with v in that part: what stands there is taken out, and v put in
abbrev pub place : Part → ℕ → ℕ → ℕ
place whole w v = v
place (bits at n) w v = w - (w / 2 ^ at % 2 ^ n) * 2 ^ at + (v % 2 ^ n) * 2 ^ at

unfoldable pub get : List ℕ → Field → ℕ
get b f = read (part f) (get_or b (word f) 0)

unfoldable pub put : List ℕ → Field → ℕ → List ℕ
put b f v = set b (word f) (place (part f) (get_or b (word f) 0) v)

-- ---- which field
-- a number for each constructor; the name's offset; the block, or the word of marks; the page, or what else counts the rows
abbrev pub region : Field → ℕ
region (arena k) = 0
region (mark p j) = 1
region (class k c) = 2
region (hole k i) = 3
region (page k p) = 4
region (out p i) = 5
region (slot p i) = 6

abbrev pub off : Field → ℕ
off (arena k) = arena_off k
off (mark p j) = 0
off (class k c) = class_off k
off (hole k i) = hole_off k
off (page k p) = page_off k
off (out p i) = 0
off (slot p i) = 0

abbrev pub block : Field → ℕ
block (arena k) = 0
block (mark p j) = j
block (class k c) = 0
block (hole k i) = 0
block (page k p) = 0
block (out p i) = i
block (slot p i) = i

abbrev pub row : Field → ℕ
row (arena k) = 0
row (mark p j) = p
row (class k c) = c
row (hole k i) = i
row (page k p) = p
row (out p i) = p
row (slot p i) = p

abbrev pub same : Field → Field → Bool
same f g = eqb (region f) (region g) && (eqb (off f) (off g) && (eqb (block f) (block g) && eqb (row f) (row g)))

-- ---- which fields there are, and what they hold
abbrev pub ok : Field → Bool
ok (arena k) = true
ok (mark p j) = ltb j 128
ok (class k c) = ltb c class_rows
ok (hole k i) = ltb i hole_slots
ok (page k p) = true
ok (out p i) = ltb i 4096
ok (slot p i) = ltb i 4096

abbrev pub in_book : ℕ → Field → Bool
in_book n (arena k) = true
in_book n (mark p j) = ltb j 128 && ltb p n
in_book n (class k c) = ltb c class_rows
in_book n (hole k i) = ltb i hole_slots
in_book n (page k p) = ltb p n
in_book n (out p i) = ltb i 4096 && ltb p n
in_book n (slot p i) = ltb i 4096 && ltb p n

abbrev pub room : Field → ℕ → Bool
room (arena k) v = true
room (mark p j) v = true
room (class k c) v = true
room (hole k i) v = true
room (page k p) v = true
room (out p i) v = ltb v 2
room (slot p i) v = ltb v 65536

-- the book is long enough to have the field
abbrev pub Has : List ℕ → Field → Type 0
Has b f = word f < length b
