-- What marking and its tests ask and answer, and the book that they leave.
use Rattle.std.specs.Prelude.{◌≡◌, ℕ, ◌+◌, ◌-◌, ◌*◌, ◌%◌, ◌^◌, ◌<◌, ◌≤◌, min, Bool, true, false, cond, None, List, length, drop, slice_index}
use Rattle.facts.specs.Lists.{every}
use Rattle.classes.specs.declared.Shape.{Shape}
use Rattle.classes.specs.way.Sound.{Sound}
use Rattle.fields.specs.Field.{words}
use Rattle.fields.specs.Ranges.{max_pages}
use Rattle.model.specs.Page.{word_of}
use Rattle.model.specs.Release.{of_kind}
use Rattle.calls.specs.Out.{unmarked, repeats, out_fault}
use Rattle.release.specs.way.Blocks.{block_in}
use Rattle.release.specs.way.Pre.{ClassPre}
use Rattle.release.specs.way.Marks.{set_mark, fresh_at, fresh_bits, set_bits, marked_in, mark_count, mark_book, fresh_in, fresh_count, fresh_book, all_fresh}

-- the run at q, in an arena; its pages' granules are those of words of one kind
pub record FieldPre (b : List ℕ) (sh : Shape) (q : ℕ) : Type 0 where
  pub sound : Sound sh
  pub below : q + sh.pages ≤ max_pages
  pub there : words (q + 1) ≤ length b

-- the numbers by which a word's block is found: the word of block 0, the granules of all blocks, and the inverse of a block's
pub record Near (sh : Shape) (q base span : ℕ) : Type 0 where
  pub sound : Sound sh
  pub below : q + sh.pages ≤ max_pages
  pub first : base ≡ word_of sh q 0
  pub all : span ≡ sh.capacity * sh.block

pub record MarkedBits (r : Bool) (b' b : List ℕ) (q j s n : ℕ) : Type 0 where
  pub answer : r ≡ fresh_bits b q j s n
  pub left : b' ≡ cond (fresh_bits b q j s n) (set_bits b q j s n) b

pub record MarkedBlock (r : Bool) (b' b : List ℕ) (q i : ℕ) : Type 0 where
  pub answer : r ≡ fresh_at b q i
  pub left : b' ≡ cond (fresh_at b q i) (set_mark b q i) b

pub record MarkedOne (r : Bool) (b' b : List ℕ) (sh : Shape) (q w : ℕ) : Type 0 where
  pub answer : r ≡ fresh_in b sh q w
  pub left : b' ≡ cond (fresh_in b sh q w) (marked_in b sh q w) b

-- the whole list, or nothing
pub record MarkedAll (r : Bool) (b' b : List ℕ) (sh : Shape) (q : ℕ) (ws : List ℕ) : Type 0 where
  pub answer : r ≡ all_fresh b sh q ws
  pub left : b' ≡ cond (all_fresh b sh q ws) (fresh_book b sh q ws) b

-- the listed words from place i on; the answer is the place of the first that is not marked
pub record MarkedIn (r : ℕ) (b' b : List ℕ) (sh : Shape) (q : ℕ) (ws : List ℕ) (i : ℕ) : Type 0 where
  pub answer : r ≡ i + fresh_count b sh q (drop i ws)
  pub left : b' ≡ fresh_book b sh q (drop i ws)

-- blocks that follow one another, upwards or downwards: from a word to the next in 64 bits; how many from block t on have their bits in
-- its word of marks; of n bits the lowest, where bit s is the first
abbrev pub step_of : Shape → Bool → ℕ
step_of sh up = cond up sh.block (2 ^ 64 - sh.block)

abbrev pub room_of : Shape → ℕ → Bool → ℕ
room_of sh t up = cond up (min (32 - t % 32) (sh.capacity - t)) (t % 32 + 1)

abbrev pub lowest_of : ℕ → ℕ → Bool → ℕ
lowest_of s n up = cond up s (s + 1 - n)

-- n words from place i on, each a step behind the one before, in 64 bits
pub record Stretched (n : ℕ) (ws : List ℕ) (step i room : ℕ) : Type 0 where
  pub some : 1 ≤ n
  pub most : n ≤ room
  pub within : i + n ≤ length ws
  pub each : (k : ℕ) → k < n → slice_index ws (i + k) ≡ (slice_index ws i + k * step) % 2 ^ 64

-- marking on from place r and b' ends as marking on from place i and b
pub record Reaches (r : ℕ) (b' b : List ℕ) (sh : Shape) (q : ℕ) (ws : List ℕ) (i : ℕ) : Type 0 where
  pub onward : i ≤ r
  pub within : r ≤ length ws
  pub answer : r + fresh_count b' sh q (drop r ws) ≡ i + fresh_count b sh q (drop i ws)
  pub left : fresh_book b' sh q (drop r ws) ≡ fresh_book b sh q (drop i ws)

-- up to place e, or to the first word that is not marked
pub record MarkedTo (r : ℕ) (b' b : List ℕ) (sh : Shape) (q : ℕ) (ws : List ℕ) (i e : ℕ) : Type 0 where
  pub on : Reaches r b' b sh q ws i
  pub low : r ≤ e
  pub stops : r < e → fresh_in b' sh q (slice_index ws r) ≡ false

-- the word behind place i is no block of the run at q, if there is one
pub record Alone (t : Bool) (sh : Shape) (q : ℕ) (ws : List ℕ) (i : ℕ) : Type 0 where
  pub told : t ≡ true → i + 1 < length ws → block_in sh q (slice_index ws (i + 1)) ≡ None

pub record MarkedList (r : ℕ) (b' : List ℕ) (n : ℕ) (b : List ℕ) (c : ℕ) (sh : Shape) (ws : List ℕ) : Type 0 where
  pub answer : r ≡ mark_count n b c sh ws
  pub left : b' ≡ mark_book n b c sh ws

-- after number 9
pub record FaultPre (n : ℕ) (b : List ℕ) (c : ℕ) (sh : Shape) (ws : List ℕ) : Type 0 where
  pub class : ClassPre n b c sh
  pub kinds : every (of_kind sh.kind) ws ≡ true

-- and 13, for a mark
pub record TestPre (n : ℕ) (b : List ℕ) (c : ℕ) (sh : Shape) (ws : List ℕ) : Type 0 where
  pub class : ClassPre n b c sh
  pub kinds : every (of_kind sh.kind) ws ≡ true
  pub clean : unmarked n b c sh ws ≡ true

-- document 02, A.3: the words that the list marked are 0 again and no other word changed
pub record Tested (r : Bool) (b' : List ℕ) (n : ℕ) (b : List ℕ) (c : ℕ) (sh : Shape) (ws : List ℕ) : Type 0 where
  pub answer : r ≡ repeats n b c sh ws
  pub left : b' ≡ b

pub record Faulted (r : ℕ) (b' : List ℕ) (n : ℕ) (b : List ℕ) (c : ℕ) (sh : Shape) (ws : List ℕ) : Type 0 where
  pub answer : r ≡ out_fault n b c sh ws
  pub left : b' ≡ b
