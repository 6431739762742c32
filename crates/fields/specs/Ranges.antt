-- What a range is, two of document 01's limits, and numbers 1 and 2. The table of ranges, which docs/RANGES.md prints, is
-- demands/specs/Ranges.
--     Range, within    a range, and whether a value is in it
--     meta_fault        numbers 1 and 2: the first that applies to a book, or 0
--     format_valid      of number 13: an opening of this layout made the book; head_valid, and FRONTIER is within an arena of n pages
use Rattle.std.specs.Prelude.{ℕ, ◌+◌, ◌-◌, Bool, true, ◌&&◌, cond, List, ◌≡◌, eqb, leb, ltb, length}
pub use Rattle.words.specs.Limits.{max_pages, max_parked}
use Rattle.words.specs.Limits.{book_format}
use Rattle.fields.specs.Field.{arena, size, frontier, format, words, get}

-- any value; 0 to n; m to n; n alone; 0 to n - 1; at most n with m more; a code whose run of m pages ends at n or below
pub data Range : Type 0 where
  any_value : Range
  up_to : ℕ → Range
  between : ℕ → ℕ → Range
  exactly : ℕ → Range
  below : ℕ → Range
  ends_by : ℕ → ℕ → Range
  runs_to : ℕ → ℕ → Range

abbrev pub within : Range → ℕ → Bool
within any_value v = true
within (up_to n) v = leb v n
within (between m n) v = leb m v && leb v n
within (exactly n) v = eqb v n
within (below n) v = ltb v n
within (ends_by m n) v = leb (v + m) n
within (runs_to m n) v = leb (v - 1 + m) n

-- ---- numbers 1 and 2, for an arena of n pages and a book of so many words
abbrev pub length_fault : ℕ → ℕ → ℕ
length_fault n long = cond (within (between 1 max_pages) n) (cond (leb (words n) long) 0 2) 1

-- "An empty book reads so": its arena length is 0
unfoldable pub meta_fault : List ℕ → ℕ
meta_fault b = length_fault (get b (arena size)) (length b)

-- what a book has that neither refuses
pub record Sound (b : List ℕ) : Type 0 where
  pub sized : within (between 1 max_pages) (get b (arena size)) ≡ true
  pub long : leb (words (get b (arena size))) (length b) ≡ true

-- ---- of number 13, what every call but an opening tests
unfoldable pub format_valid : List ℕ → Bool
format_valid b = eqb (get b (arena format)) book_format

unfoldable pub head_valid : ℕ → List ℕ → Bool
head_valid n b = format_valid b && leb (get b (arena frontier)) n
