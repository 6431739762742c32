-- What the functions ask of the words: those that they read and write are there, and no sum leaves 32 bits.
-- A page is there where the book has its words; a stored code is one of a page that is there, or 0.
use Rattle.std.specs.Prelude.{ℕ, ◌+◌, ◌^◌, ◌<◌, ◌≤◌, true, List, ◌≡◌, ltb, length}
use Rattle.facts.specs.Lists.{every}
use Rattle.words.specs.Limits.{class_rows}
use Rattle.classes.specs.declared.Shape.{Shape}
use Rattle.classes.specs.way.Sound.{Sound}
use Rattle.fields.specs.Field as Field
use Rattle.fields.specs.Field.{class, page, partial, next, prev, words, get}
use Rattle.fields.specs.Ranges.{max_pages, max_parked}
use Rattle.pages.specs.declared.Park.{Park}
use Rattle.pages.specs.Links.{stored}
use Rattle.pages.specs.Stack.{top_entries, latest, index_of, page_slots}

-- ---- the class's lists
pub record RowPre (b : List ℕ) (c : ℕ) : Type 0 where
  pub known : c < class_rows
  pub long : words 0 ≤ length b

pub record LinkPre (b : List ℕ) (c q : ℕ) : Type 0 where
  pub known : c < class_rows
  pub below : q < max_pages
  pub there : words (q + 1) ≤ length b
  pub head : words (get b (class partial c)) ≤ length b

-- page q with the codes x behind it and y before it
pub record CutPre (b : List ℕ) (c q x y : ℕ) : Type 0 where
  pub known : c < class_rows
  pub there : words (q + 1) ≤ length b
  pub behind : words x ≤ length b
  pub before : words y ≤ length b

pub record UnlinkPre (b : List ℕ) (c q : ℕ) : Type 0 where
  pub known : c < class_rows
  pub there : words (q + 1) ≤ length b
  pub behind : words (get b (page next q)) ≤ length b
  pub before : words (get b (page prev q)) ≤ length b

pub record ParkPre (b : List ℕ) (c : ℕ) (k : Park) (q : ℕ) : Type 0 where
  pub known : c < class_rows
  pub below : q < max_pages
  pub there : words (q + 1) ≤ length b
  pub few : get b (class (stored k) c) ≤ max_parked

pub record UnparkRunPre (b : List ℕ) (c : ℕ) (k : Park) (q : ℕ) : Type 0 where
  pub known : c < class_rows
  pub below : q < max_pages
  pub there : words (q + 1) ≤ length b
  pub head : words (get b (class partial c)) ≤ length b
  pub some : 1 ≤ get b (class (stored k) c)

-- ---- a page's header
pub record PagePre (b : List ℕ) (q : ℕ) : Type 0 where
  pub there : words (q + 1) ≤ length b

-- ---- runs
-- the m pages from q on, which may be anything else
pub record OfRunPre (b : List ℕ) (c q m : ℕ) : Type 0 where
  pub known : c < class_rows
  pub below : q + m < 2 ^ 32
  pub there : words (q + m) ≤ length b

pub record WholePre (b : List ℕ) (n c : ℕ) : Type 0 where
  pub known : c < class_rows
  pub long : words n ≤ length b

pub record RunPre (b : List ℕ) (q m : ℕ) : Type 0 where
  pub below : q + m ≤ max_pages
  pub there : words (q + m) ≤ length b

-- ---- carving
pub record PushRangePre (b : List ℕ) (q k : ℕ) : Type 0 where
  pub few : k ≤ page_slots
  pub there : words (q + 1) ≤ length b

pub record CarvePre (b : List ℕ) (sh : Shape) (q : ℕ) : Type 0 where
  pub few : sh.capacity ≤ page_slots
  pub there : words (q + 1) ≤ length b

pub record ClearPre (b : List ℕ) (q k : ℕ) : Type 0 where
  pub few : k ≤ 128
  pub there : words (q + 1) ≤ length b

pub record NewPre (b : List ℕ) (sh : Shape) (q : ℕ) : Type 0 where
  pub sound : Sound sh
  pub below : q + sh.pages ≤ max_pages
  pub there : words (q + sh.pages) ≤ length b

-- ---- blocks and their words
pub record WordPre (sh : Shape) (q i : ℕ) : Type 0 where
  pub sound : Sound sh
  pub below : q + sh.pages ≤ max_pages
  pub block : i < sh.capacity

-- the word w's block has an out bit in the run at q
pub record IndexPre (sh : Shape) (q w : ℕ) : Type 0 where
  pub sound : Sound sh
  pub below : q < max_pages
  pub bit : ltb (index_of sh q w) page_slots ≡ true

-- block i of page q is given, to the list's place below `at`
pub record GivePre (b : List ℕ) (sh : Shape) (q : ℕ) (l : List ℕ) (at i : ℕ) : Type 0 where
  pub sound : Sound sh
  pub below : q + sh.pages ≤ max_pages
  pub there : words (q + 1) ≤ length b
  pub block : i < sh.capacity
  pub room : 1 ≤ at
  pub places : at ≤ length l

-- k blocks from a stack whose top stands below t, given to the places below `at`
pub record PopPre (b : List ℕ) (sh : Shape) (q : ℕ) (l : List ℕ) (at t k : ℕ) : Type 0 where
  pub sound : Sound sh
  pub below : q + sh.pages ≤ max_pages
  pub there : words (q + 1) ≤ length b
  pub slots : t ≤ page_slots
  pub enough : k ≤ t
  pub entries : every (λ i. ltb i sh.capacity) (top_entries b q k t) ≡ true
  pub room : k ≤ at
  pub places : at ≤ length l

-- k blocks that follow one another, from block a on
pub record FreshPre (b : List ℕ) (sh : Shape) (q : ℕ) (l : List ℕ) (at a k : ℕ) : Type 0 where
  pub sound : Sound sh
  pub below : q + sh.pages ≤ max_pages
  pub there : words (q + 1) ≤ length b
  pub blocks : a + k ≤ sh.capacity
  pub room : k ≤ at
  pub places : at ≤ length l

-- their words, and their out bits
pub record NamePre (sh : Shape) (q : ℕ) (l : List ℕ) (at a k : ℕ) : Type 0 where
  pub sound : Sound sh
  pub below : q + sh.pages ≤ max_pages
  pub blocks : a + k ≤ sh.capacity
  pub room : k ≤ at
  pub places : at ≤ length l

pub record SetOutRunPre (b : List ℕ) (q a k : ℕ) : Type 0 where
  pub there : words (q + 1) ≤ length b
  pub blocks : a + k ≤ page_slots

-- p blocks from the stack, then r new ones
pub record BothPre (b : List ℕ) (sh : Shape) (q : ℕ) (l : List ℕ) (at t p a r : ℕ) : Type 0 where
  pub sound : Sound sh
  pub below : q + sh.pages ≤ max_pages
  pub there : words (q + 1) ≤ length b
  pub slots : t ≤ page_slots
  pub enough : p ≤ t
  pub entries : every (λ i. ltb i sh.capacity) (top_entries b q p t) ≡ true
  pub blocks : a + r ≤ sh.capacity
  pub room : p + r ≤ at
  pub places : at ≤ length l

pub record DrawPre (b : List ℕ) (sh : Shape) (q : ℕ) (l : List ℕ) (at m : ℕ) : Type 0 where
  pub sound : Sound sh
  pub below : q + sh.pages ≤ max_pages
  pub there : words (q + 1) ≤ length b
  pub free : get b (page Field.free q) ≤ get b (page Field.carved q)
  pub carved : get b (page Field.carved q) ≤ sh.capacity
  pub entries : every (λ i. ltb i (get b (page Field.carved q))) (top_entries b q m (get b (page Field.free q))) ≡ true
  pub room : length (latest b sh q m) ≤ at
  pub places : at ≤ length l

pub record PushPre (b : List ℕ) (sh : Shape) (q : ℕ) (ws : List ℕ) : Type 0 where
  pub sound : Sound sh
  pub below : q < max_pages
  pub there : words (q + 1) ≤ length b
  pub slots : get b (page Field.free q) + length ws ≤ page_slots
  pub bits : every (λ w. ltb (index_of sh q w) page_slots) ws ≡ true

-- the words ws pushed on a stack whose top stands below t
pub record PushEntriesPre (b : List ℕ) (sh : Shape) (q t : ℕ) (ws : List ℕ) : Type 0 where
  pub sound : Sound sh
  pub below : q < max_pages
  pub there : words (q + 1) ≤ length b
  pub slots : t + length ws ≤ page_slots
  pub bits : every (λ w. ltb (index_of sh q w) page_slots) ws ≡ true
