-- The words that number 13 is about: for each kind of call the rows of specs/Ranges that it reads, along the call's own way through the
-- book. "Another book word that the call reads": those that numbers 1, 10 to 12 and 15 judge stand there.
--     record_reads    the record, within the next four
--     report_reads    a report
--     commit_reads    a commit, a take's too
--     give_reads      a give of m pages, a release's too
--     grow_reads      a growth by m pages at page e
--     take_reads      a take, from its first source that has a page
--     take_visits     the listed pages that it comes to; yield_all, barren: each of them yields a block, one does not
--     mark_reads      a release by list or by chunks, before number 15: the words of marks of its blocks that are out in the class
--     release_reads   a release by list of m blocks to page q
--     chunks_reads    a release of the chunks gs
--     stock_reads, top_reads    the pool: a free that finds its stock full; an alloc and a trim that have the stock's top
use Rattle.std.specs.Prelude.{ℕ, zero, suc, ◌+◌, ◌-◌, ◌/◌, Bool, cond, not, ◌&&◌, ◌||◌, List, [], ◌∷◌, ◌++◌, map, eqb}
use Rattle.facts.specs.Lists.{every, below}
use Rattle.words.specs.Limits.{class_rows}
use Rattle.words.specs.Word.{count_of, page_of}
use Rattle.classes.specs.declared.Shape.{Shape}
use Rattle.fields.specs.Field.{arena, class, page, size, commits, commits_high, reuses, reuses_high, abandoned, abandoned_high, holes, partial, empty, cold, free, carved, listed, get}
use Rattle.model.specs.Destination.{is_arena}
use Rattle.pages.specs.Stack.{index_of}
use Rattle.calls.specs.Out.{start_of, outs}
use Rattle.calls.specs.Release.{destination_at}
use Rattle.calls.specs.Chunks.{pages_given}
use Rattle.demands.specs.Ranges.{Link, partial_of, empty_of, cold_of, next_of, prev_of, link_field, Use, state_known, format_is, frontier_fits, holes_few, hole_pages_few, held_fits, held_gives, counted, hole_some, hole_ends, code, visited, empty_few, empty_taken, cold_few, cold_taken, owner_is, first_is, prev_is, listed_yes, listed_no, free_fits, entry_carved, mark_clear, free_with, listed_flag, carved_fits, virgin_flag, neighbour_hole, empty_limited, cold_limited, stock_few, entry_low}
use Rattle.arena.specs.Valid.{grow_gives}
use Rattle.poolcalls.specs.Stock.{count_in}

-- ---- the arena
unfoldable pub count_reads : List Use
count_reads = counted commits ∷ counted commits_high ∷ counted reuses ∷ counted reuses_high ∷ counted abandoned ∷ counted abandoned_high ∷ []

unfoldable pub record_reads : List Use
record_reads = state_known ∷ format_is ∷ frontier_fits ∷ holes_few ∷ hole_pages_few ∷ held_fits ∷ count_reads

-- k holes from index i on
unfoldable pub hole_reads : ℕ → ℕ → List Use
hole_reads i zero = []
hole_reads i (suc k) = hole_some i ∷ hole_ends i ∷ hole_reads (suc i) k

unfoldable pub commit_reads : List ℕ → List Use
commit_reads b = record_reads ++ hole_reads 0 (get b (arena holes))

unfoldable pub neighbours_reads : ℕ → ℕ → List Use
neighbours_reads i zero = []
neighbours_reads i (suc k) = neighbour_hole i ∷ hole_ends i ∷ neighbours_reads (suc i) k

unfoldable pub given_reads : ℕ → List Use
given_reads m = state_known ∷ format_is ∷ frontier_fits ∷ holes_few ∷ hole_pages_few ∷ held_gives m ∷ count_reads

unfoldable pub give_reads : List ℕ → ℕ → List Use
give_reads b m = given_reads m ++ neighbours_reads 0 (get b (arena holes))

-- the holes where the added pages are given
unfoldable pub grow_reads : List ℕ → ℕ → ℕ → ℕ → List Use
grow_reads b h e m = record_reads ++ cond (grow_gives (get b (arena size)) b h e m) (neighbours_reads 0 (get b (arena holes))) []

-- how many runs these classes have parked
unfoldable pub parked_reads : List ℕ → List Use
parked_reads [] = []
parked_reads (c ∷ cs) = empty_few c ∷ cold_few c ∷ parked_reads cs

unfoldable pub report_reads : List Use
report_reads = record_reads ++ parked_reads (below class_rows)

-- ---- a page that a take comes to, by a code of its run; m blocks are wanted
-- the listed pages of the run at q
unfoldable pub run_reads : ℕ → ℕ → List ℕ → List Use
run_reads c q [] = []
run_reads c q (k ∷ ks) = owner_is (q + k) c ∷ first_is (q + k) q ∷ run_reads c q ks

-- the entries that are popped of a stack whose top stands below t
unfoldable pub entry_reads : ℕ → ℕ → ℕ → List Use
entry_reads q zero t = []
entry_reads q (suc m) zero = []
entry_reads q (suc m) (suc t) = entry_carved q t ∷ entry_reads q m t

unfoldable pub page_reads : List ℕ → ℕ → Shape → Link → Use → ℕ → List Use
page_reads b c sh f on m =
    let q = get b (link_field f) - 1 in
    visited f sh.pages
    ∷ on
    ∷ free_fits q
    ∷ carved_fits q sh.capacity
    ∷ virgin_flag q
    ∷ (run_reads c q (below sh.pages) ++ entry_reads q m (get b (page free q)))

-- the blocks that a page can give: the free ones, and those not yet carved
abbrev pub supply : List ℕ → Shape → ℕ → ℕ
supply b sh q = get b (page free q) + (sh.capacity - get b (page carved q))

-- the partial list from a code on: at most k pages, m blocks still wanted, y the code of the page before
unfoldable pub walk_reads : List ℕ → ℕ → Shape → ℕ → ℕ → Link → ℕ → List Use
walk_reads b c sh zero m f y = code f ∷ []
walk_reads b c sh (suc k) m f y =
    let q = get b (link_field f) - 1 in
    code f
    ∷ cond (eqb m 0 || eqb (get b (link_field f)) 0) []
    (prev_is q y ∷ (page_reads b c sh f (listed_yes q) m ++ walk_reads b c sh k (m - supply b sh q) (next_of q) (get b (link_field f))))

unfoldable pub walk_visits : List ℕ → ℕ → Shape → ℕ → ℕ → Link → ℕ → List ℕ
walk_visits b c sh zero m f y = []
walk_visits b c sh (suc k) m f y =
    let q = get b (link_field f) - 1 in
    cond (eqb m 0 || eqb (get b (link_field f)) 0) []
    (q ∷ walk_visits b c sh k (m - supply b sh q) (next_of q) (get b (link_field f)))

-- the newest page of a store, with its count
unfoldable pub park_reads : List ℕ → ℕ → Shape → Link → Use → List Use
park_reads b c sh f count =
    let q = get b (link_field f) - 1 in
    code f ∷ count ∷ code (next_of q) ∷ page_reads b c sh f (listed_no q) sh.batch

-- ---- a take
unfoldable pub take_reads : List ℕ → ℕ → Shape → List Use
take_reads b c sh =
    format_is
    ∷ frontier_fits
    ∷ cond (not (eqb (get b (class partial c)) 0)) (walk_reads b c sh sh.batch sh.batch (partial_of c) 0)
    (code (partial_of c)
    ∷ cond (not (eqb (get b (class empty c)) 0)) (park_reads b c sh (empty_of c) (empty_taken c))
    (code (empty_of c)
    ∷ cond (not (eqb (get b (class cold c)) 0)) (park_reads b c sh (cold_of c) (cold_taken c))
    (code (cold_of c)
    ∷ commit_reads b)))

unfoldable pub take_visits : List ℕ → ℕ → Shape → List ℕ
take_visits b c sh =
    cond (not (eqb (get b (class partial c)) 0)) (walk_visits b c sh sh.batch sh.batch (partial_of c) 0)
    (cond (not (eqb (get b (class empty c)) 0)) ((get b (class empty c) - 1) ∷ [])
    (cond (not (eqb (get b (class cold c)) 0)) ((get b (class cold c) - 1) ∷ [])
    []))

abbrev pub yields : List ℕ → Shape → ℕ → Bool
yields b sh q = not (eqb (supply b sh q) 0)

unfoldable pub yield_all : List ℕ → ℕ → Shape → Bool
yield_all b c sh = every (yields b sh) (take_visits b c sh)

-- "a listed page yields no block"
unfoldable pub barren : List ℕ → ℕ → Shape → Bool
barren b c sh = not (yield_all b c sh)

-- ---- releases
unfoldable pub mark_reads : List ℕ → ℕ → Shape → List ℕ → List Use
mark_reads b c sh ws = map (λ w. mark_clear (start_of b w) (index_of sh (start_of b w) w / 32)) (outs (get b (arena size)) b c sh ws)

-- a page's links are read only where it is listed
unfoldable pub back_reads : List ℕ → Shape → ℕ → ℕ → List Use
back_reads b sh m q =
    carved_fits q sh.capacity
    ∷ free_with q m
    ∷ listed_flag q
    ∷ virgin_flag q
    ∷ cond (eqb (get b (page listed q)) 1) (code (next_of q) ∷ code (prev_of q) ∷ []) []

unfoldable pub row_reads : ℕ → List Use
row_reads c = code (partial_of c) ∷ code (empty_of c) ∷ empty_few c ∷ code (cold_of c) ∷ cold_few c ∷ empty_limited c ∷ cold_limited c ∷ []

unfoldable pub release_reads : List ℕ → ℕ → Shape → ℕ → ℕ → List Use
release_reads b c sh m q =
    format_is
    ∷ frontier_fits
    ∷ (back_reads b sh m q
    ++ (row_reads c
    ++ cond (eqb (get b (page free q) + m) (get b (page carved q)) && is_arena (destination_at b c sh)) (give_reads b sh.pages) []))

unfoldable pub backs_reads : List ℕ → Shape → List ℕ → List Use
backs_reads b sh [] = []
backs_reads b sh (g ∷ gs) = back_reads b sh (count_of g) (page_of g) ++ backs_reads b sh gs

unfoldable pub chunks_reads : List ℕ → ℕ → Shape → List ℕ → List Use
chunks_reads b c sh gs =
    format_is
    ∷ frontier_fits
    ∷ (backs_reads b sh gs
    ++ (row_reads c
    ++ cond (eqb (pages_given b c sh gs) 0) [] (give_reads b (pages_given b c sh gs))))

-- ---- the pool
unfoldable pub stock_reads : ℕ → List Use
stock_reads c = stock_few c ∷ []

-- the block on top, where there is one
unfoldable pub top_reads : List ℕ → ℕ → List Use
top_reads b c = format_is ∷ stock_few c ∷ entry_low c (count_in b c - 1) ∷ []
