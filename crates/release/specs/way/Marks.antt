-- How numbers 13 (a mark) and 15 are found, and how the blocks of a list that is carried out are taken. The numbers themselves are on
-- the list alone (calls, specs/Out): no mark is set there.
--     mark_at, set_mark         the mark of block i of the run at q, and the book with it set
--     mark_count, mark_book     marking in turn: how many words were passed before one that is marked already, and the book then
--     clear_book               the words of marks of the listed blocks that are out, set to 0, whole
--     count_by, book_by         the same, each word in a run that is told, up to the first that is not out there or is marked
--     fresh_count, fresh_book   all in the run at q
--     fresh_bits, set_bits      blocks of one word of marks at once
--     take_marks               in one run: the marked blocks' out bits cleared and the marks with them, a word at a time
use Rattle.std.specs.Prelude.{ℕ, zero, suc, ◌-◌, ◌/◌, ◌%◌, ◌^◌, Bool, true, cond, not, ◌&&◌, List, [], ◌∷◌, length, ◌==◌, nat_eq}
use Rattle.facts.specs.Lists.{every, below}
use Rattle.classes.specs.declared.Shape.{Shape}
use Rattle.fields.specs.Field.{bits, out, mark, read, place, get, put}
use Rattle.fields.specs.way.OutBits.{outs_at, flip_word}
use Rattle.pages.specs.Carve.{out_words}
use Rattle.model.specs.Release.{of_kind}
use Rattle.pages.specs.Stack.{index_of, is_block}
use Rattle.calls.specs.Out.{start_of, out_at, mark_of, clean}

-- ---- one block
abbrev pub mark_at : List ℕ → ℕ → ℕ → ℕ
mark_at b q i = read (bits (i % 32) 1) (get b (mark q (i / 32)))

abbrev pub set_mark : List ℕ → ℕ → ℕ → List ℕ
set_mark b q i = put b (mark q (i / 32)) (place (bits (i % 32) 1) (get b (mark q (i / 32))) 1)

-- it is out and not marked
abbrev pub fresh_at : List ℕ → ℕ → ℕ → Bool
fresh_at b q i = get b (out q i) == 1 && not (mark_at b q i == 1)

-- ---- one word
unfoldable pub is_marked_in : List ℕ → Shape → ℕ → ℕ → Bool
is_marked_in b sh q w = mark_at b q (index_of sh q w) == 1

unfoldable pub marked_in : List ℕ → Shape → ℕ → ℕ → List ℕ
marked_in b sh q w = set_mark b q (index_of sh q w)

abbrev pub is_marked : List ℕ → Shape → ℕ → Bool
is_marked b sh w = is_marked_in b sh (start_of b w) w

abbrev pub marked : List ℕ → Shape → ℕ → List ℕ
marked b sh w = marked_in b sh (start_of b w) w

-- ---- lists, in the class's runs: a word that is not out is passed over
unfoldable pub mark_count : ℕ → List ℕ → ℕ → Shape → List ℕ → ℕ
mark_count n b c sh [] = 0
mark_count n b c sh (w ∷ ws) =
    cond (out_at n b c sh w) (cond (is_marked b sh w) 0 (suc (mark_count n (marked b sh w) c sh ws))) (suc (mark_count n b c sh ws))

unfoldable pub mark_book : ℕ → List ℕ → ℕ → Shape → List ℕ → List ℕ
mark_book n b c sh [] = b
mark_book n b c sh (w ∷ ws) = cond (out_at n b c sh w) (cond (is_marked b sh w) b (mark_book n (marked b sh w) c sh ws)) (mark_book n b c sh ws)

unfoldable pub clear_book : ℕ → List ℕ → ℕ → Shape → List ℕ → List ℕ
clear_book n b c sh [] = b
clear_book n b c sh (w ∷ ws) = clear_book n (cond (out_at n b c sh w) (put b (mark_of b sh w) 0) b) c sh ws

-- ---- words of the class's kind
-- a block that is out and not marked
unfoldable pub fresh_in : List ℕ → Shape → ℕ → ℕ → Bool
fresh_in b sh q w = of_kind sh.kind w && (is_block sh q w && fresh_at b q (index_of sh q w))

-- each word in the run that `at` says for it
unfoldable pub count_by : (ℕ → ℕ) → List ℕ → Shape → List ℕ → ℕ
count_by at b sh [] = 0
count_by at b sh (w ∷ ws) = cond (fresh_in b sh (at w) w) (suc (count_by at (marked_in b sh (at w) w) sh ws)) 0

unfoldable pub book_by : (ℕ → ℕ) → List ℕ → Shape → List ℕ → List ℕ
book_by at b sh [] = b
book_by at b sh (w ∷ ws) = cond (fresh_in b sh (at w) w) (book_by at (marked_in b sh (at w) w) sh ws) b

abbrev pub fresh_count : List ℕ → Shape → ℕ → List ℕ → ℕ
fresh_count b sh q = count_by (λ w. q) b sh

abbrev pub fresh_book : List ℕ → Shape → ℕ → List ℕ → List ℕ
fresh_book b sh q = book_by (λ w. q) b sh

-- ---- the marks of the run at q, 32 at a time
-- the n blocks from 32 j + s on, whose bits are in one word: they are out and not marked; the book with them marked
abbrev pub fresh_bits : List ℕ → ℕ → ℕ → ℕ → ℕ → Bool
fresh_bits b q j s n = read (bits s n) (outs_at b q j) == 2 ^ n - 1 && read (bits s n) (get b (mark q j)) == 0

abbrev pub set_bits : List ℕ → ℕ → ℕ → ℕ → ℕ → List ℕ
set_bits b q j s n = put b (mark q j) (place (bits s n) (get b (mark q j)) (2 ^ n - 1))

-- the first m words
abbrev pub no_marks : List ℕ → ℕ → ℕ → Bool
no_marks b q m = every (λ j. nat_eq (get b (mark q j)) 0) (below m)

-- every listed word is a block of the run that is out, each once, and the run has no mark
unfoldable pub all_fresh : List ℕ → Shape → ℕ → List ℕ → Bool
all_fresh b sh q ws = no_marks b q (out_words sh) && fresh_count b sh q ws == length ws

-- the blocks that are marked are out no longer, and no mark is left
unfoldable pub take_word : List ℕ → ℕ → ℕ → List ℕ
take_word b q j = put (flip_word b q j (get b (mark q j))) (mark q j) 0

unfoldable pub take_marks : List ℕ → ℕ → ℕ → List ℕ
take_marks b q zero = b
take_marks b q (suc m) = take_word (take_marks b q m) q m

-- ---- number 13 word by word
unfoldable pub clean_at : ℕ → List ℕ → ℕ → Shape → ℕ → Bool
clean_at n b c sh w = cond (out_at n b c sh w) (clean b sh w) true
