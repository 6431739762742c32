-- The blocks of a release, by list or by groups: whether each is out in the class, none twice and none marked (numbers 10, 15 and, for a
-- mark, 13). n is the arena's length, c the class's id, sh its shape, ws the list of blocks.
--     start_of     the first page of the run that has the word's granule, as the book says
--     out_in       the word is a block of the run at q, and its out bit is set
--     out_at       the word is a block out in the class
--     outs        the listed blocks that are out in the class
--     mark_of      the word of marks that has the block's
--     out_fault    the number, or 0; repeat_fault, without marks
use Rattle.std.specs.Prelude.{ℕ, ◌+◌, ◌/◌, Bool, cond, not, ◌&&◌, List, eqb, ltb, leb}
use Rattle.facts.specs.Lists.{filter, every, distinct}
use Rattle.classes.specs.declared.Shape.{Shape}
use Rattle.fields.specs.Field.{Field, arena, page, mark, out, frontier, first, get}
use Rattle.pages.specs.Runs.{whole}
use Rattle.pages.specs.Stack.{page_at, index_of, is_block}

-- ---- a word's block
unfoldable pub start_of : List ℕ → ℕ → ℕ
start_of b w = get b (page first (page_at w))

unfoldable pub out_in : List ℕ → Shape → ℕ → ℕ → Bool
out_in b sh q w = is_block sh q w && eqb (get b (out q (index_of sh q w))) 1

unfoldable pub in_run_of : ℕ → List ℕ → Shape → ℕ → ℕ → Bool
in_run_of n b sh c w =
    ltb (page_at w) n
    && (ltb (page_at w) (get b (arena frontier))
    && (leb (start_of b w) (page_at w)
    && (ltb (page_at w) (start_of b w + sh.pages)
    && whole n b sh c (start_of b w))))

unfoldable pub out_at : ℕ → List ℕ → ℕ → Shape → ℕ → Bool
out_at n b c sh w = in_run_of n b sh c w && out_in b sh (start_of b w) w

abbrev pub outs : ℕ → List ℕ → ℕ → Shape → List ℕ → List ℕ
outs n b c sh ws = filter (out_at n b c sh) ws

-- ---- a block's mark: 32 to a word
abbrev pub mark_in : Shape → ℕ → ℕ → Field
mark_in sh q w = mark q (index_of sh q w / 32)

abbrev pub mark_of : List ℕ → Shape → ℕ → Field
mark_of b sh w = mark_in sh (start_of b w) w

abbrev pub clean : List ℕ → Shape → ℕ → Bool
clean b sh w = eqb (get b (mark_of b sh w)) 0

-- ---- the numbers
-- 13, document 02, A.3: "Where the mark word of a listed block out in this class isn't 0 beforehand, the answer is 13, here before 15"
unfoldable pub unmarked : ℕ → List ℕ → ℕ → Shape → List ℕ → Bool
unmarked n b c sh ws = every (clean b sh) (outs n b c sh ws)

-- 15, document 02, A.2: "a block out in this class stands twice in one list"
unfoldable pub repeats : ℕ → List ℕ → ℕ → Shape → List ℕ → Bool
repeats n b c sh ws = not (distinct (outs n b c sh ws))

-- a test of a release's blocks: the number, or 0
abbrev pub OutTest : Type 0
OutTest = ℕ → List ℕ → ℕ → Shape → List ℕ → ℕ

-- 15, then 10: a block is not out in this class
abbrev pub repeat_fault : OutTest
repeat_fault n b c sh ws = cond (repeats n b c sh ws) 15 (cond (not (every (out_at n b c sh) ws)) 10 0)

unfoldable pub out_fault : OutTest
out_fault n b c sh ws = cond (not (unmarked n b c sh ws)) 13 (repeat_fault n b c sh ws)
