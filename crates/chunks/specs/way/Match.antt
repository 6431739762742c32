-- Number 11 of a group release: what the test asks, and what it answers. It goes by the page that has a word's granule; where every word's
-- run is that page, it is `chunks_match` (calls, specs/Chunks). n is the arena's length, ws the list, gs the chunks.
--     words_on       how many listed words have their granule on a page
--     pages_match    no page twice; the chunks' counts not 0 and the list's; every word's page has a chunk
use Rattle.std.specs.Prelude.{ℕ, ◌≤◌, Bool, not, ◌&&◌, List, map, ◌≡◌, eqb, ltb, length}
use Rattle.facts.specs.Lists.{filter, every, elem, distinct}
use Rattle.words.specs.Word.{count_of, page_of}
use Rattle.fields.specs.Field.{words}
use Rattle.fields.specs.Ranges.{max_pages}
use Rattle.model.specs.Chunks.{chunks_max}
use Rattle.pages.specs.Stack.{page_at}

unfoldable pub words_on : List ℕ → ℕ → ℕ
words_on ws q = length (filter (λ w. eqb (page_at w) q) ws)

unfoldable pub page_fits : List ℕ → ℕ → Bool
page_fits ws g = not (eqb (count_of g) 0) && eqb (count_of g) (words_on ws (page_of g))

abbrev pub has_page : List ℕ → ℕ → Bool
has_page gs w = elem (page_at w) (map page_of gs)

unfoldable pub pages_match : List ℕ → List ℕ → Bool
pages_match ws gs = distinct (map page_of gs) && (every (page_fits ws) gs && every (has_page gs) ws)

-- the page of a chunk, and of a word, is in an arena of n pages
unfoldable pub is_page : ℕ → ℕ → Bool
is_page n g = ltb (page_of g) n

unfoldable pub in_arena : ℕ → ℕ → Bool
in_arena n w = ltb (page_at w) n

-- the chunks' pages are in the arena too
unfoldable pub arena_match : ℕ → List ℕ → List ℕ → Bool
arena_match n ws gs = every (is_page n) gs && pages_match ws gs

pub record MatchPre (n : ℕ) (b gs : List ℕ) : Type 0 where
  pub few : n ≤ max_pages
  pub long : words n ≤ length b
  pub chunks : length gs ≤ chunks_max

-- the answer, and the book as it was
pub record Matched (r : Bool) (b' : List ℕ) (n : ℕ) (b ws gs : List ℕ) : Type 0 where
  pub answer : r ≡ arena_match n ws gs
  pub left : b' ≡ b
