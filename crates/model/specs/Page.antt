-- A run of a class with its blocks: carving, popping, returning (document 01, "Blocks out and back"). A small class's run is one
-- page, a medium one's a span; `Page` is either.
use Rattle.std.specs.Prelude.{ℕ, zero, suc, ◌+◌, ◌-◌, ◌*◌, min, List, [], ◌∷◌, ◌++◌, reverse, Bool, true, false, cond, not, ◌&&◌, ◌||◌, eqb, ltb, length, take, drop}
use Rattle.facts.specs.Lists.{is_nil, every, elem}
use Rattle.words.specs.Word.{medium_kind, block_word}
use Rattle.classes.specs.declared.Shape.{Shape}

-- granules of a page
abbrev pub page_granules : ℕ
page_granules = 4096

-- the word of block i of the run at page q
unfoldable pub word_of : Shape → ℕ → ℕ → ℕ
word_of sh q i = block_word sh.kind (q * page_granules + (sh.header + i * sh.block))

-- blocks a + k - 1 down to a
abbrev pub words_from : Shape → ℕ → ℕ → ℕ → List ℕ
words_from sh q a zero = []
words_from sh q a (suc k) = word_of sh q (a + k) ∷ words_from sh q a k

pub record Page : Type 0 where
  pub first : ℕ  -- its run's first page
  pub free : List ℕ  -- the words of its free list, the next to be popped first
  pub carved : ℕ  -- blocks below this have been carved
  pub virgin : Bool  -- not released to since it was carved from the arena or from a zeroed cold page
  pub retired : Bool  -- "carved anew when used again"

-- carving a run: a small page's blocks are carved as they are wanted; a span's are all linked, "highest first to be popped"
abbrev pub is_medium : Shape → Bool
is_medium sh = eqb sh.kind medium_kind

unfoldable pub carve_as : Shape → Bool → ℕ → Bool → Page
carve_as sh true q v = record { first = q; free = words_from sh q 0 sh.capacity; carved = sh.capacity; virgin = v; retired = false }
carve_as sh false q v = record { first = q; free = []; carved = 0; virgin = v; retired = false }

abbrev pub carve : Shape → ℕ → Bool → Page
carve sh q v = carve_as sh (is_medium sh) q v

-- the words carved; is one of them out; is none
unfoldable pub carved_words : Shape → Page → List ℕ
carved_words sh p = words_from sh p.first 0 p.carved

unfoldable pub is_out : Shape → ℕ → Page → Bool
is_out sh w p = elem w (carved_words sh p) && not (elem w p.free)

unfoldable pub none_out : Shape → Page → Bool
none_out sh p = every (λ w. elem w p.free) (carved_words sh p)

-- can it yield a block
unfoldable pub has_more : Shape → Page → Bool
has_more sh p = not (is_nil p.free) || ltb p.carved sh.capacity

-- up to n blocks, the latest popped first: "A page's free list is popped first; spent, as many blocks as still wanted are carved, lowest first."
pub record Popped : Type 0 where
  pub blocks : List ℕ
  pub page : Page

unfoldable pub carved_now : Shape → ℕ → Page → ℕ
carved_now sh n p = min (n - length p.free) (sh.capacity - p.carved)

unfoldable pub pop : Shape → ℕ → Page → Popped
pop sh n p = record {
  blocks = words_from sh p.first p.carved (carved_now sh n p) ++ reverse (take n p.free);
  page = record { first = p.first; free = drop n p.free; carved = p.carved + carved_now sh n p; virgin = p.virgin; retired = false };
}

-- a release "puts the list before the page's free list"
unfoldable pub returned : List ℕ → Page → Page
returned ws p = record { first = p.first; free = ws ++ p.free; carved = p.carved; virgin = false; retired = false }

unfoldable pub retire : Page → Page
retire p = record { first = p.first; free = []; carved = 0; virgin = false; retired = true }

-- an empty page as it comes back
unfoldable pub reused : Shape → Page → Page
reused sh p = cond p.retired (carve sh p.first false) p
