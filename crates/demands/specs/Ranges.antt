-- Number 13's ranges, the one table of them; docs/RANGES.md prints `value` and `range`. A row is a word of the book in one use that a
-- call makes of it. specs/Reads says which rows each call reads.
--     Use            a row: the word, and how a call uses it
--     value          what the word holds
--     range          its range in that use; every bound that is no argument of the row is read from the book
--     in_range        the word is in it
--     fits, strays   every listed word is in its range; one is not
-- No row is of LENGTH, which is number 1's, nor of a word as it is compared for numbers 10 to 12 and 15. MARK is tested before 15, the other
-- rows last.
use Rattle.std.specs.Prelude.{ℕ, suc, ◌*◌, Bool, not, List}
use Rattle.facts.specs.Lists.{every}
use Rattle.words.specs.Limits.{book_format}
use Rattle.classes.specs.Shape.{shape_of, pool_id}
use Rattle.fields.specs.Field.{ArenaField, Field, arena, mark, class, hole, page, slot, size, format, state, frontier, holes, hole_pages, held, start, pages, partial, empty, empty_count, cold, cold_count, owner, first, next, prev, free, carved, listed, virgin, get, empty_limit, cold_limit}
use Rattle.fields.specs.Ranges.{max_parked, Range, any_value, up_to, between, exactly, below, ends_by, runs_to, within}
use Rattle.model.specs.HoleStore.{hole_slots, hole_pages_max}
use Rattle.pool.specs.Stock.{count_max}
use Rattle.poolcalls.specs.Stock.{count_in, entry_in}

-- ---- the words that hold a page's code, which is page + 1, and 0 for none: of class c, or of page p
pub data Link : Type 0 where
  partial_of : ℕ → Link
  empty_of : ℕ → Link
  cold_of : ℕ → Link
  next_of : ℕ → Link
  prev_of : ℕ → Link

abbrev pub link_field : Link → Field
link_field (partial_of c) = class partial c
link_field (empty_of c) = class empty c
link_field (cold_of c) = class cold c
link_field (next_of p) = page next p
link_field (prev_of p) = page prev p

-- ---- the rows
pub data Use : Type 0 where
  -- the arena's record; `held_gives k` where the call gives k pages
  state_known : Use
  format_is : Use
  frontier_fits : Use
  holes_few : Use
  hole_pages_few : Use
  held_fits : Use
  held_gives : ℕ → Use
  -- a half of one of its counts
  counted : ArenaField → Use
  -- each hole i: its pages where a commit reads it, and where a give does; its end
  hole_some : ℕ → Use
  neighbour_hole : ℕ → Use
  hole_ends : ℕ → Use
  -- a code; and where a take comes to its page, which is the first of m
  code : Link → Use
  visited : Link → ℕ → Use
  -- a class's counts; `Taken` where a take has the newest page
  empty_few : ℕ → Use
  empty_taken : ℕ → Use
  cold_few : ℕ → Use
  cold_taken : ℕ → Use
  -- the limits of its stores (document 02, A.9)
  empty_limited : ℕ → Use
  cold_limited : ℕ → Use
  -- a take's page p: of class c, of the run at q, behind the page with code y, in the partial list or in a store
  owner_is : ℕ → ℕ → Use
  first_is : ℕ → ℕ → Use
  prev_is : ℕ → ℕ → Use
  listed_yes : ℕ → Use
  listed_no : ℕ → Use
  free_fits : ℕ → Use
  -- entry i of page p's stack, which a take pops
  entry_carved : ℕ → ℕ → Use
  -- word j of page p's marks, which has the mark of a listed block that is out (document 02, A.3)
  mark_clear : ℕ → ℕ → Use
  -- a page p that m blocks come back to
  free_with : ℕ → ℕ → Use
  listed_flag : ℕ → Use
  -- a page p of either, of a class with that capacity
  carved_fits : ℕ → ℕ → Use
  virgin_flag : ℕ → Use
  -- the pool's: how many blocks class c has in stock, and the one in place k where an alloc or a trim has it
  stock_few : ℕ → Use
  entry_low : ℕ → ℕ → Use

abbrev pub value : List ℕ → Use → ℕ
value b state_known = get b (arena state)
value b format_is = get b (arena format)
value b frontier_fits = get b (arena frontier)
value b holes_few = get b (arena holes)
value b hole_pages_few = get b (arena hole_pages)
value b held_fits = get b (arena held)
value b (held_gives k) = get b (arena held)
value b (counted k) = get b (arena k)
value b (hole_some i) = get b (hole pages i)
value b (neighbour_hole i) = get b (hole pages i)
value b (hole_ends i) = get b (hole start i)
value b (code f) = get b (link_field f)
value b (visited f m) = get b (link_field f)
value b (empty_few c) = get b (class empty_count c)
value b (empty_taken c) = get b (class empty_count c)
value b (cold_few c) = get b (class cold_count c)
value b (cold_taken c) = get b (class cold_count c)
value b (empty_limited c) = get b (class empty_limit c)
value b (cold_limited c) = get b (class cold_limit c)
value b (owner_is p c) = get b (page owner p)
value b (first_is p q) = get b (page first p)
value b (prev_is p y) = get b (page prev p)
value b (listed_yes p) = get b (page listed p)
value b (listed_no p) = get b (page listed p)
value b (free_fits p) = get b (page free p)
value b (entry_carved p i) = get b (slot p i)
value b (mark_clear p j) = get b (mark p j)
value b (free_with p m) = get b (page free p)
value b (listed_flag p) = get b (page listed p)
value b (carved_fits p capacity) = get b (page carved p)
value b (virgin_flag p) = get b (page virgin p)
value b (stock_few c) = count_in b c
value b (entry_low c k) = entry_in b c k

abbrev pub range : List ℕ → Use → Range
range b state_known = up_to 2
range b format_is = exactly book_format
range b frontier_fits = up_to (get b (arena size))
range b holes_few = up_to hole_slots
range b hole_pages_few = up_to hole_pages_max
range b held_fits = up_to (get b (arena size))
range b (held_gives k) = between k (get b (arena size))
range b (counted k) = any_value
range b (hole_some i) = between 1 (get b (arena hole_pages))
range b (neighbour_hole i) = between 1 (get b (arena frontier))
range b (hole_ends i) = ends_by (get b (hole pages i)) (get b (arena frontier))
range b (code f) = up_to (get b (arena frontier))
range b (visited f m) = runs_to m (get b (arena frontier))
range b (empty_few c) = up_to max_parked
range b (empty_taken c) = between 1 max_parked
range b (cold_few c) = up_to max_parked
range b (cold_taken c) = between 1 max_parked
range b (empty_limited c) = up_to max_parked
range b (cold_limited c) = up_to max_parked
range b (owner_is p c) = exactly (suc c)
range b (first_is p q) = exactly q
range b (prev_is p y) = exactly y
range b (listed_yes p) = exactly 1
range b (listed_no p) = exactly 0
range b (free_fits p) = up_to (get b (page carved p))
range b (entry_carved p i) = below (get b (page carved p))
range b (mark_clear p j) = exactly 0
range b (free_with p m) = ends_by m (get b (page carved p))
range b (listed_flag p) = up_to 1
range b (carved_fits p capacity) = up_to capacity
range b (virgin_flag p) = up_to 1
range b (stock_few c) = up_to count_max
range b (entry_low c k) = ends_by (shape_of (pool_id c)).block (4096 * get b (arena size))

abbrev pub in_range : List ℕ → Use → Bool
in_range b u = within (range b u) (value b u)

unfoldable pub fits : List ℕ → List Use → Bool
fits b us = every (in_range b) us

-- "Another book word that the call reads is out of its range"
unfoldable pub strays : List ℕ → List Use → Bool
strays b us = not (fits b us)
