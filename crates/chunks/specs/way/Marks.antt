-- The blocks of a group release marked, each on the page that has its granule, and taken by the chunks' pages. Of a class whose runs are
-- one page; m is how many words of marks a page has, gs the chunks.
--     page_clean           a chunk's page is a run of the class, and no mark of it is set
--     own_count, own_book   marking in turn, up to the first word that is not out on its page or is marked: how many were, and the book then
--     take_pages           on the chunks' pages: the marked blocks' out bits cleared and the marks with them, a word at a time
--     clear_pages          the marks cleared, a word at a time
use Rattle.std.specs.Prelude.{ℕ, Bool, ◌&&◌, List, [], ◌∷◌}
use Rattle.words.specs.Word.{page_of}
use Rattle.classes.specs.declared.Shape.{Shape}
use Rattle.fields.specs.Clear.{clear_marks}
use Rattle.pages.specs.Runs.{whole}
use Rattle.pages.specs.Stack.{page_at}
use Rattle.release.specs.way.Marks.{count_by, book_by, no_marks, take_marks}

unfoldable pub page_clean : ℕ → List ℕ → ℕ → Shape → ℕ → ℕ → Bool
page_clean n b c sh m g = whole n b sh c (page_of g) && no_marks b (page_of g) m

abbrev pub own_count : List ℕ → Shape → List ℕ → ℕ
own_count = count_by page_at

abbrev pub own_book : List ℕ → Shape → List ℕ → List ℕ
own_book = book_by page_at

-- a step on the chunks' pages, in their order
abbrev pub sweep : (List ℕ → ℕ → List ℕ) → List ℕ → List ℕ → List ℕ
sweep f b [] = b
sweep f b (g ∷ gs) = sweep f (f b (page_of g)) gs

abbrev pub take_pages : List ℕ → ℕ → List ℕ → List ℕ
take_pages b m gs = sweep (λ d q. take_marks d q m) b gs

abbrev pub clear_pages : List ℕ → ℕ → List ℕ → List ℕ
clear_pages b m gs = sweep (λ d q. clear_marks d q m) b gs
