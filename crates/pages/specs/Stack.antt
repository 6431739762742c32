-- The stack of a page's free blocks, its out bits, and what it gives and takes back. Blocks are indices here.
--     out_bit       the out bit of block i, 0 at and above the capacity
--     top_entries   the top n entries of a stack whose top stands below t, the topmost first
--     set_outs      the out bits of the listed blocks set to v, the list's last first
--     latest       the blocks that a page gives when n are wanted, the latest first: free ones first, then new ones, lowest first
--     draw         the page after it gave them
--     push         blocks pushed on a stack whose top stands below t, the list's first on top
--     pushed       the page with listed blocks back on its stack
--     back         the page after the listed blocks came back
--     page_at       the page that has a word's granule
--     index_of      the block that a word names in the run at q; a word below the run's first block names block 0
--     is_block      the word is a block of the run at q
--     spliced      a list with words over its own from place a on
use Rattle.std.specs.Prelude.{ℕ, zero, suc, ◌+◌, ◌-◌, ◌*◌, ◌/◌, min, Bool, cond, not, ◌&&◌, ◌||◌, List, [], ◌∷◌, ◌++◌, map, reverse, ◌≡◌, eqb, ltb, leb, length, take, drop}
use Rattle.words.specs.Word.{granule_of}
use Rattle.classes.specs.declared.Shape.{Shape}
use Rattle.fields.specs.Field.{page, slot, out, free, carved, virgin, get, put}
use Rattle.model.specs.Page.{page_granules, word_of}

-- slots of a page's stack, and out bits: no shape has more blocks
abbrev pub page_slots : ℕ
page_slots = 4096

unfoldable pub out_bit : List ℕ → Shape → ℕ → ℕ → ℕ
out_bit b sh q i = cond (ltb i sh.capacity) (get b (out q i)) 0

abbrev pub top_entries : List ℕ → ℕ → ℕ → ℕ → List ℕ
top_entries b q zero t = []
top_entries b q (suc n) zero = []
top_entries b q (suc n) (suc t) = get b (slot q t) ∷ top_entries b q n t

-- a + k - 1 down to a
abbrev pub descending : ℕ → ℕ → List ℕ
descending a zero = []
descending a (suc k) = (a + k) ∷ descending a k

abbrev pub set_outs : List ℕ → ℕ → ℕ → List ℕ → List ℕ
set_outs b q v [] = b
set_outs b q v (i ∷ is) = put (set_outs b q v is) (out q i) v

-- how many blocks are carved when n are wanted
abbrev pub carved_now : List ℕ → Shape → ℕ → ℕ → ℕ
carved_now b sh q n = min (n - get b (page free q)) (sh.capacity - get b (page carved q))

unfoldable pub latest : List ℕ → Shape → ℕ → ℕ → List ℕ
latest b sh q n = descending (get b (page carved q)) (carved_now b sh q n) ++ reverse (top_entries b q n (get b (page free q)))

unfoldable pub draw : List ℕ → Shape → ℕ → ℕ → List ℕ
draw b sh q n =
    put (put (set_outs b q 1 (latest b sh q n)) (page free q) (get b (page free q) - n)) (page carved q) (get b (page carved q) + carved_now b sh q n)

-- can the page give a block
unfoldable pub has_more : List ℕ → Shape → ℕ → Bool
has_more b sh q = not (eqb (get b (page free q)) 0) || ltb (get b (page carved q)) sh.capacity

abbrev pub push : List ℕ → ℕ → ℕ → List ℕ → List ℕ
push b q t [] = b
push b q t (i ∷ is) = put (push b q t is) (slot q (t + length is)) i

unfoldable pub pushed : List ℕ → ℕ → List ℕ → List ℕ
pushed b q is = put (put (push b q (get b (page free q)) is) (page virgin q) 0) (page free q) (get b (page free q) + length is)

unfoldable pub back : List ℕ → ℕ → List ℕ → List ℕ
back b q is = pushed (set_outs b q 0 is) q is

-- ---- words of blocks
abbrev pub page_at : ℕ → ℕ
page_at w = granule_of w / page_granules

abbrev pub blocks_from : Shape → ℕ → ℕ
blocks_from sh q = q * page_granules + sh.header

unfoldable pub index_of : Shape → ℕ → ℕ → ℕ
index_of sh q w = (granule_of w - blocks_from sh q) / sh.block

unfoldable pub is_block : Shape → ℕ → ℕ → Bool
is_block sh q w =
    leb (blocks_from sh q) (granule_of w)
    && (eqb (index_of sh q w * sh.block) (granule_of w - blocks_from sh q) && ltb (index_of sh q w) sh.capacity)

unfoldable pub spliced : List ℕ → ℕ → List ℕ → List ℕ
spliced l a ws = take a l ++ (ws ++ drop (a + length ws) l)

-- blocks xs of the page, the latest first, were given: they are out, and the list has their words below `at`
pub record HandedOut (b : List ℕ) (sh : Shape) (q : ℕ) (l : List ℕ) (at : ℕ) (xs b' l' : List ℕ) : Type 0 where
  pub outs : b' ≡ set_outs b q 1 xs
  pub list : l' ≡ spliced l (at - length xs) (map (word_of sh q) xs)

pub record Drawn (r : ℕ) (b' l' b : List ℕ) (sh : Shape) (q : ℕ) (l : List ℕ) (at m : ℕ) : Type 0 where
  pub count : r ≡ length (latest b sh q m)
  pub book : b' ≡ draw b sh q m
  pub list : l' ≡ spliced l (at - length (latest b sh q m)) (map (word_of sh q) (latest b sh q m))
