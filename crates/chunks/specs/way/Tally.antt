-- The test's way. TALLY of each chunk's page is made the chunk's index, in their order, so that a page that stands twice names the
-- later one; then each word finds its chunk in one step. b is the book, ws the list, gs the chunks, k a chunk's index.
--     named      the book with the first so many chunks named; `Saved`, what stood there
--     unnamed    what stood there written back, the latest first
--     run_on      how many words at the list's head lie on a page
--     agrees     a chunk's count is not 0 and is the one given, and its page names it
--     tallied    the test on a book whose chunks are named
use Rattle.std.specs.Prelude.{ℕ, zero, suc, ◌<◌, Bool, cond, not, ◌&&◌, List, [], ◌∷◌, map, ◌≡◌, eqb, ltb, length, get_or}
use Rattle.facts.specs.Lists.{every, count, below}
use Rattle.words.specs.Word.{count_of, page_of}
use Rattle.fields.specs.Field.{Field, page, tally, get, put}
use Rattle.pages.specs.Stack.{page_at}

-- ---- naming
abbrev pub page_in : List ℕ → ℕ → ℕ
page_in gs k = page_of (get_or gs k 0)

abbrev pub tally_in : List ℕ → ℕ → Field
tally_in gs k = page tally (page_in gs k)

unfoldable pub named : List ℕ → List ℕ → ℕ → List ℕ
named b gs zero = b
named b gs (suc k) = put (named b gs k) (tally_in gs k) k

abbrev pub Saved : List ℕ → List ℕ → List ℕ → ℕ → Type 0
Saved b gs ss m = (k : ℕ) → k < m → get_or ss k 0 ≡ get (named b gs k) (tally_in gs k)

unfoldable pub unnamed : List ℕ → List ℕ → List ℕ → ℕ → List ℕ
unnamed b gs ss zero = b
unnamed b gs ss (suc k) = unnamed (put b (tally_in gs k) (get_or ss k 0)) gs ss k

-- ---- the test
-- chunk k is there, and has page p
unfoldable pub of_chunk : List ℕ → ℕ → ℕ → Bool
of_chunk gs k p = ltb k (length gs) && eqb (page_in gs k) p

-- the chunk that a page names, and a word's page; one past an arena of n pages names none
unfoldable pub named_by : ℕ → List ℕ → ℕ → ℕ
named_by n b p = cond (ltb p n) (get b (page tally p)) 4294967295

abbrev pub chunk_at : ℕ → List ℕ → ℕ → ℕ
chunk_at n b w = named_by n b (page_at w)

unfoldable pub has_chunk : ℕ → List ℕ → List ℕ → ℕ → Bool
has_chunk n b gs w = of_chunk gs (chunk_at n b w) (page_at w)

unfoldable pub run_on : ℕ → List ℕ → ℕ
run_on p [] = 0
run_on p (w ∷ ws) = cond (eqb (page_at w) p) (suc (run_on p ws)) 0

unfoldable pub agrees : List ℕ → List ℕ → ℕ → ℕ → Bool
agrees b gs k m = not (eqb (count_of (get_or gs k 0)) 0) && (eqb (count_of (get_or gs k 0)) m && eqb (get b (tally_in gs k)) k)

-- by the counts kept; by the list's
unfoldable pub fits : List ℕ → List ℕ → List ℕ → ℕ → Bool
fits b gs cs k = agrees b gs k (get_or cs k 0)

unfoldable pub tallied : ℕ → List ℕ → List ℕ → List ℕ → Bool
tallied n b ws gs = every (has_chunk n b gs) ws && every (λ k. agrees b gs k (count k (map (chunk_at n b) ws))) (below (length gs))
