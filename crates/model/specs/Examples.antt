-- Document 01's examples, as document 02 has them, and rules of both where one that is a little different would answer something else: one table. Histories are
-- on an arena of 64 pages. docs/DEMANDS.md says which rule each row holds.
use Rattle.std.specs.Prelude.{ℕ, zero, suc, ◌+◌, ◌-◌, ◌*◌, ◌/◌, ◌^◌, List, [], ◌∷◌, ◌++◌, map, Bool, true, false, length, replicate}
use Rattle.std.proofs.Math.Option.{none}
use Rattle.facts.specs.Lists.{below}
use Rattle.words.specs.Word.{small_kind, medium_kind, block_word, chunk_word}
use Rattle.classes.specs.declared.Sized.{Sized}
use Rattle.classes.specs.Sizes.{granule_bytes}
use Rattle.classes.specs.Shape.{shape_of}
use Rattle.classes.specs.Examples as Lookups
use Rattle.rules.specs.declared.Limits.{Limits}
use Rattle.rules.specs.Rules.{limits, plain_rules, rules_of}
use Rattle.model.specs.declared.Hole.{Hole}
use Rattle.model.specs.declared.Figures.{Figures}
use Rattle.model.specs.Calls.{Call, take_blocks, medium_take_blocks, release_blocks, medium_release_blocks, release_bin_chunks, commit, grow_frontier, release, contains, report, Answer, refused, taken, fate, fates, run, no_run, released, grown, contained, reported}
use Rattle.model.specs.HoleStore.{HoleStore, hole, store, take_at, accepts}
use Rattle.model.specs.Page.{Page, carve_as}
use Rattle.model.specs.Class.{new_class, lists, Ask, serve, take_from}
use Rattle.model.specs.Release.{Settled, park}
use Rattle.model.specs.Chunks.{release_chunks}
use Rattle.model.specs.Arena.{ready}
use Rattle.model.specs.Heap.{Heap, nobody, step}
use Rattle.model.specs.Order.{counts_aside}
use Rattle.model.specs.History.{answers, heap_after, events_from}

-- what is told: the class of a size; of a history, each call's answer, and the holes stored after the last; an emptied run's fate, and
-- how many empty and cold ones its class then has; whether a given run is stored; a class's answer that needs no arena; or two of these
pub data Observed : Type 0 where
  lookup : (class : Sized) → Observed
  history : (answers : List Answer) (holes : List Hole) → Observed
  parked : (fate empty cold : ℕ) → Observed
  stored : Bool → Observed
  answered : Answer → Observed
  both : (one other : Observed) → Observed

pub record Example : Type 0 where
  pub found : Observed
  pub expected : Observed

abbrev pub of_size : Lookups.Example → Example
of_size e = record { found = lookup (Lookups.answer e); expected = lookup (Lookups.expected e) }

-- from an opening with these rule rows, and with none
unfoldable pub on_ruled : List ℕ → List Call → List Answer → List Hole → Example
on_ruled rows xs zs hs = record { found = history (answers 64 (rules_of rows) xs) (heap_after 64 (rules_of rows) xs).arena.store.holes; expected = history zs hs }

abbrev pub on_new_heap : List Call → List Answer → List Hole → Example
on_new_heap xs zs hs = on_ruled [] xs zs hs

-- after each of two histories the holes, a report, and what is answered to the same calls then, a report's three counts aside
abbrev gone_on : List Call → List Call → Observed
gone_on xs zs =
    let H = heap_after 64 plain_rules xs in
    history ((step 64 H report).answer ∷ map (λ v. counts_aside v.answer) (events_from 64 H zs)) H.arena.store.holes

unfoldable pub on_both : List Call → List Call → List Call → Figures → List Hole → Figures → List Hole → List Answer → Example
on_both xs ys zs f hs g gs rs = record { found = both (gone_on xs zs) (gone_on ys zs); expected = both (history (reported f ∷ rs) hs) (history (reported g ∷ rs) gs) }

-- three holes; and the same, after one of them was taken and given back
abbrev pub three_holes : List Call
three_holes = commit 15 10 ∷ release 15 0 2 ∷ release 15 4 2 ∷ release 15 8 2 ∷ []

abbrev pub used_longer : List Call
used_longer = three_holes ++ commit 15 2 ∷ release 15 0 2 ∷ []

-- from a heap whose three counts are the highest that there are, with one hole, whose store says that it holds all the pages that a store may
abbrev full_counts : Heap
full_counts = record {
  arena = record { status = ready; frontier = 0; store = store (hole 40 1 ∷ []) 65536; commits = 2 ^ 64 - 1; reuses = 2 ^ 64 - 1; abandoned = 2 ^ 64 - 1 };
  holder = λ x. nobody;
  classes = λ c. new_class;
  rules = plain_rules;
}

unfoldable pub on_full_counts : List Call → List Answer → Example
on_full_counts xs zs = record { found = history (map (λ e. e.answer) (events_from 64 full_counts xs)) []; expected = history zs [] }

-- a run of class c is empty, where e empty ones and k cold ones are kept; with these limits, and with document 01's
abbrev count_parked : Settled → Observed
count_parked b = parked b.fate (length b.class.empty) (length b.class.cold)

unfoldable pub on_limits : Limits → ℕ → ℕ → ℕ → Observed → Example
on_limits lim c e k t = record {
  found = count_parked (park (shape_of c) lim 15 (lists [] (replicate e (carve_as (shape_of c) false 0 true)) (replicate k (record { first = 0; zeroed = true })) []) (carve_as (shape_of c) false 0 true));
  expected = t;
}

abbrev pub on_park : ℕ → ℕ → ℕ → Observed → Example
on_park c e k t = on_limits (plain_rules c) c e k t

-- n pages from q on are given to a store; so many holes, each of page 4, with so many pages in all
unfoldable pub on_give : ℕ → ℕ → HoleStore → Bool → Example
on_give n q s b = record { found = stored (accepts n q s); expected = stored b }

abbrev at4 : ℕ → ℕ → HoleStore
at4 holes pages = store (replicate holes (hole 4 1)) pages

-- runs of pages 0 to 15 are given in turn, and these holes stand then
abbrev pub given_in_turn : List Hole → List Hole → Example
given_in_turn runs hs = on_new_heap (commit 15 16 ∷ map (λ h. release 15 h.first h.pages) runs) (run 0 true ∷ map (λ h. released) runs) hs

unfoldable pub on_class : Ask → Answer → Example
on_class q z = record { found = answered (serve q none).answer; expected = answered z }

-- the words of small blocks, by their granules; of medium blocks, by their first bytes
abbrev pub smalls : List ℕ → List ℕ
smalls granules = map (block_word small_kind) granules

abbrev pub mediums : List ℕ → List ℕ
mediums bytes = map (λ b. block_word medium_kind (b / granule_bytes)) bytes

-- a high number down to a low one; n numbers from a on by d; a lent list of n words
abbrev pub down : ℕ → ℕ → List ℕ
down high low = map (λ k. low + k) (below (suc high - low))

abbrev pub rising : ℕ → ℕ → ℕ → List ℕ
rising a d zero = []
rising a d (suc n) = a ∷ rising (a + d) d n

abbrev pub lent : ℕ → List ℕ
lent n = replicate n 9

abbrev take0 : Call
take0 = take_blocks 0 15 (lent 64)

abbrev take45 : Call
take45 = take_blocks 45 15 (lent 64)

-- a class with blocks of the same size
abbrev take46 : Call
take46 = take_blocks 46 15 (lent 64)

-- the three blocks of class 45's page, as first taken
abbrev three : List ℕ
three = smalls (2051 ∷ 1027 ∷ 3 ∷ [])

-- the three blocks of the page at q; all released, with that host word
abbrev three_of : ℕ → List ℕ
three_of q = smalls ((q + 2051) ∷ (q + 1027) ∷ (q + 3) ∷ [])

abbrev give45 : ℕ → List ℕ → Call
give45 host ws = release_blocks 45 host ws

-- a take of class 45's three
abbrev taken45 : ℕ → Bool → Answer
taken45 q v = taken 3 (three_of q ++ lent 61) v

-- as they come back after such a release
abbrev back45 : ℕ → Answer
back45 q = taken 3 (smalls ((q + 3) ∷ (q + 1027) ∷ (q + 2051) ∷ []) ++ lent 61) false

-- a page of class 45 with one block, released to
abbrev spent : Page
spent = record { first = 1; free = smalls (4099 ∷ []); carved = 3; virgin = false; retired = false }

unfoldable pub rules : List Example
rules =
    -- "refused, the arena is disabled for good"
    on_new_heap (commit 14 1 ∷ commit 15 1 ∷ contains 0 0 ∷ [])
    (no_run ∷ no_run ∷ contained false ∷ []) []
    -- "`contains` is no before the reservation"; up to the arena's end
    ∷ on_new_heap (contains 0 0 ∷ commit 15 1 ∷ contains 4194304 0 ∷ contains 4194303 1 ∷ contains 4194303 2 ∷ [])
    (contained false ∷ run 0 true ∷ contained true ∷ contained true ∷ contained false ∷ []) []
    -- "the first one asks for the reservation": one longer than the arena, too; then bit 0 says nothing any more
    ∷ on_new_heap (commit 15 65 ∷ contains 0 0 ∷ commit 14 1 ∷ [])
    (no_run ∷ contained true ∷ run 0 true ∷ []) []
    -- a take asks for it, and it is refused for good
    ∷ on_new_heap (take_blocks 45 14 (lent 64) ∷ take45 ∷ contains 0 0 ∷ [])
    (taken 0 (lent 64) false ∷ taken 0 (lent 64) false ∷ contained false ∷ []) []
    -- "2 to the 48th or more"
    ∷ on_new_heap (commit 15 (2 ^ 48 - 1) ∷ commit 15 (2 ^ 48) ∷ [])
    (no_run ∷ refused 6 ∷ []) []
    -- "The host word exceeds 15."
    ∷ on_new_heap (commit 16 1 ∷ take_blocks 0 16 (lent 64) ∷ [])
    (refused 3 ∷ refused 3 ∷ []) []
    -- "whether it came from hole or frontier"
    ∷ on_new_heap (commit 13 2 ∷ []) (no_run ∷ []) (hole 0 2 ∷ [])
    -- "the frontier stays moved, the added pages are given to the holes and the answer is no"
    ∷ on_new_heap (commit 15 2 ∷ grow_frontier 13 0 2 5 ∷ grow_frontier 15 0 2 5 ∷ commit 15 3 ∷ commit 15 1 ∷ [])
    (run 0 true ∷ grown false ∷ grown false ∷ run 2 false ∷ run 5 true ∷ []) []
    -- "these counts, pages held, and idle pages": a fresh run is no reuse
    ∷ on_new_heap (commit 15 5 ∷ commit 15 4 ∷ release 15 0 5 ∷ commit 15 1 ∷ report ∷ [])
    (run 0 true ∷ run 5 true ∷ released ∷ run 0 false ∷ reported (record { commits = 3; reuses = 1; abandoned = 0; held = 5; idle = 59; overlap = 0 }) ∷ []) (hole 1 4 ∷ [])
    -- "each kept modulo 2 to the 64th": a commit, an abandoned run, a commit from a hole
    ∷ on_full_counts (commit 15 2 ∷ release 15 0 1 ∷ commit 15 1 ∷ report ∷ [])
    (run 0 true ∷ released ∷ run 40 false ∷ reported (record { commits = 1; reuses = 0; abandoned = 0; held = 2; idle = 65597; overlap = 0 }) ∷ [])
    -- "Idle shall also count pages in the empty and cold stores of every class" (document 02, A.5): four empty pages, one of them retired,
    -- a cold one and a span of three; not the page with a block out
    ∷ on_new_heap (map (λ q. take45) (below 6) ++ map (λ q. give45 15 (three_of (q * 4096))) (5 ∷ 4 ∷ 3 ∷ []) ++ release_bin_chunks 45 15 (three_of 8192) (chunk_word 3 2 ∷ []) (9 ∷ []) ∷ give45 15 (three_of 4096) ∷ give45 15 (smalls (2051 ∷ 1027 ∷ [])) ∷ medium_take_blocks 0 15 (lent 10) ∷ medium_release_blocks 0 15 (mediums (rising 393280 18432 10)) ∷ report ∷ [])
    (map (λ q. taken45 (q * 4096) true) (0 ∷ 1 ∷ 2 ∷ 3 ∷ 4 ∷ 5 ∷ []) ++ fate 0 ∷ fate 0 ∷ fate 0 ∷ fates (4 ∷ []) ∷ fate 1 ∷ fate 0 ∷ taken 10 (mediums (rising 393280 18432 10)) true ∷ fate 0 ∷ reported (record { commits = 7; reuses = 0; abandoned = 0; held = 9; idle = 63; overlap = 8 }) ∷ []) []
    -- "Among holes of the least sufficient length the one with the lowest page is taken" (document 02, A.8): whichever was given last,
    -- and not a longer one with a lower page
    ∷ on_new_heap (commit 15 13 ∷ release 15 8 2 ∷ release 15 0 3 ∷ release 15 4 2 ∷ release 15 11 2 ∷ commit 15 2 ∷ commit 15 2 ∷ commit 15 1 ∷ [])
    (run 0 true ∷ released ∷ released ∷ released ∷ released ∷ run 4 false ∷ run 8 false ∷ run 11 false ∷ []) (hole 12 1 ∷ hole 0 3 ∷ [])
    -- "Two machines with the same grid gave different placements after one had been used longer": with one more commit the holes stand in another
    -- order, and a take, a commit and a report are answered alike
    ∷ on_both three_holes used_longer (take45 ∷ commit 15 2 ∷ report ∷ [])
    (record { commits = 1; reuses = 0; abandoned = 0; held = 4; idle = 60; overlap = 0 }) (hole 0 2 ∷ hole 4 2 ∷ hole 8 2 ∷ [])
    (record { commits = 2; reuses = 1; abandoned = 0; held = 4; idle = 60; overlap = 0 }) (hole 8 2 ∷ hole 4 2 ∷ hole 0 2 ∷ [])
    (taken45 0 true ∷ run 4 false ∷ reported (record { commits = 0; reuses = 0; abandoned = 0; held = 7; idle = 57; overlap = 0 }) ∷ [])
    -- "A longer hole is cut at its front and keeps its index."
    ∷ on_new_heap (commit 15 9 ∷ release 15 0 5 ∷ release 15 6 2 ∷ commit 15 3 ∷ [])
    (run 0 true ∷ released ∷ released ∷ run 0 false ∷ []) (hole 3 2 ∷ hole 6 2 ∷ [])
    -- "A used-up hole is replaced by the last one."
    ∷ on_new_heap (commit 15 8 ∷ release 15 0 1 ∷ release 15 2 1 ∷ release 15 4 1 ∷ release 15 6 1 ∷ commit 15 1 ∷ commit 15 1 ∷ [])
    (run 0 true ∷ released ∷ released ∷ released ∷ released ∷ run 0 false ∷ run 2 false ∷ []) (hole 6 1 ∷ hole 4 1 ∷ [])
    -- "if 4,096 holes are stored or the total would pass 65,536 pages"
    ∷ on_give 1 0 (at4 4095 4095) true
    ∷ on_give 1 0 (at4 4096 4096) false
    ∷ on_give 1 0 (at4 1 65535) true
    ∷ on_give 2 0 (at4 1 65535) false
    -- "A run that joins needs no slot, so at 4,096 holes it is stored ..; the page total is still tested first" (document 02, A.4): behind
    -- a hole, before one
    ∷ on_give 1 5 (at4 4096 4096) true
    ∷ on_give 1 3 (at4 4096 4096) true
    ∷ on_give 2 5 (at4 1 65535) false
    ∷ on_give 2 2 (at4 1 65535) false
    -- "a cut hole given back included"
    ∷ on_give 1 4 (take_at 1 9 (store (replicate 4096 (hole 4 2)) 8192)) true
    -- "The joined hole stands at the index of the hole before it": that one last, too
    ∷ given_in_turn (hole 0 2 ∷ hole 8 2 ∷ hole 2 2 ∷ []) (hole 0 4 ∷ hole 8 2 ∷ [])
    ∷ given_in_turn (hole 8 2 ∷ hole 0 2 ∷ hole 2 2 ∷ []) (hole 8 2 ∷ hole 0 4 ∷ [])
    -- "or of the hole after it if there is none before": that one last, too
    ∷ given_in_turn (hole 2 2 ∷ hole 8 2 ∷ hole 0 2 ∷ []) (hole 0 4 ∷ hole 8 2 ∷ [])
    ∷ given_in_turn (hole 8 2 ∷ hole 2 2 ∷ hole 0 2 ∷ []) (hole 8 2 ∷ hole 0 4 ∷ [])
    -- "Where both join, the one after is removed and the last hole takes its index"; the one after is the last; "even if the last is the
    -- joined one"
    ∷ given_in_turn (hole 0 2 ∷ hole 4 2 ∷ hole 8 2 ∷ hole 12 2 ∷ hole 2 2 ∷ []) (hole 0 6 ∷ hole 12 2 ∷ hole 8 2 ∷ [])
    ∷ given_in_turn (hole 0 2 ∷ hole 8 2 ∷ hole 4 2 ∷ hole 2 2 ∷ []) (hole 0 6 ∷ hole 8 2 ∷ [])
    ∷ given_in_turn (hole 8 2 ∷ hole 4 2 ∷ hole 12 2 ∷ hole 0 2 ∷ hole 2 2 ∷ []) (hole 8 2 ∷ hole 0 6 ∷ hole 12 2 ∷ [])
    -- what joins is idle, and no run is counted as abandoned
    ∷ on_new_heap (commit 15 16 ∷ release 15 0 2 ∷ release 15 4 2 ∷ release 15 2 2 ∷ report ∷ [])
    (run 0 true ∷ released ∷ released ∷ released ∷ reported (record { commits = 1; reuses = 0; abandoned = 0; held = 10; idle = 54; overlap = 0 }) ∷ []) (hole 0 6 ∷ [])
    -- a growth that is not granted joins, too
    ∷ on_new_heap (commit 15 4 ∷ release 15 2 2 ∷ commit 15 2 ∷ grow_frontier 13 2 2 4 ∷ release 15 2 2 ∷ []) (run 0 true ∷ released ∷ run 2 false ∷ grown false ∷ released ∷ []) (hole 2 4 ∷ [])
    -- "puts the list before the page's free list"
    ∷ on_new_heap (take45 ∷ give45 15 (smalls (2051 ∷ [])) ∷ give45 15 (smalls (1027 ∷ [])) ∷ take45 ∷ [])
    (taken45 0 true ∷ fate 0 ∷ fate 0 ∷ taken 2 (smalls (2051 ∷ 1027 ∷ []) ++ lent 62) false ∷ []) []
    -- "otherwise it heads the partial list"; "The answer lists the latest popped first."
    ∷ on_new_heap (take45 ∷ take45 ∷ give45 15 (smalls (3 ∷ [])) ∷ give45 15 (smalls (4099 ∷ [])) ∷ take45 ∷ [])
    (taken45 0 true ∷ taken45 4096 true ∷ fate 0 ∷ fate 0 ∷ taken 2 (smalls (3 ∷ 4099 ∷ []) ++ lent 62) false ∷ []) []
    -- "others keep the chain's order"
    ∷ on_new_heap (take45 ∷ release_bin_chunks 45 15 (smalls (2051 ∷ 3 ∷ [])) (chunk_word 2 0 ∷ []) (9 ∷ 9 ∷ []) ∷ take45 ∷ [])
    (taken45 0 true ∷ fates (0 ∷ 9 ∷ []) ∷ taken 2 (smalls (3 ∷ 2051 ∷ []) ++ lent 62) false ∷ []) []
    -- "Each source is tried only if the earlier gave no block": a partial page with one block, and an empty page
    ∷ on_new_heap (take45 ∷ take45 ∷ give45 15 (three_of 4096) ∷ give45 15 (smalls (3 ∷ [])) ∷ take45 ∷ [])
    (taken45 0 true ∷ taken45 4096 true ∷ fate 0 ∷ fate 0 ∷ taken 1 (smalls (3 ∷ []) ++ lent 63) false ∷ []) []
    -- "treats groups in order": the second's page heads the partial list
    ∷ on_new_heap (take45 ∷ take45 ∷ release_bin_chunks 45 15 (smalls (2051 ∷ 6147 ∷ [])) (chunk_word 1 0 ∷ chunk_word 1 1 ∷ []) (9 ∷ 9 ∷ []) ∷ take45 ∷ [])
    (taken45 0 true ∷ taken45 4096 true ∷ fates (0 ∷ 0 ∷ []) ∷ taken 2 (smalls (2051 ∷ 6147 ∷ []) ++ lent 62) false ∷ []) []
    -- they give their runs to the arena in their order
    ∷ on_ruled (0 ∷ 75 ∷ 0 ∷ 0 ∷ []) (map (λ q. take45) (below 4) ++ release_bin_chunks 45 15 (three_of 0 ++ three_of 8192) (chunk_word 3 2 ∷ chunk_word 3 0 ∷ []) (9 ∷ 9 ∷ []) ∷ [])
    (map (λ q. taken45 (q * 4096) true) (0 ∷ 1 ∷ 2 ∷ 3 ∷ []) ++ fates (6 ∷ 6 ∷ []) ∷ []) (hole 2 1 ∷ hole 0 1 ∷ [])
    -- "last in first out", "the newest cold page"; virgin "from a cold page whose discard zeroed it": not with host word 7
    ∷ on_new_heap (map (λ q. take45) (below 6) ++ map (λ q. give45 15 (three_of (q * 4096))) (5 ∷ 4 ∷ 3 ∷ 2 ∷ 1 ∷ []) ++ give45 7 (three_of 0) ∷ map (λ q. take45) (below 6))
    (map (λ q. taken45 (q * 4096) true) (0 ∷ 1 ∷ 2 ∷ 3 ∷ 4 ∷ 5 ∷ []) ++ fate 0 ∷ fate 0 ∷ fate 0 ∷ fate 0 ∷ fate 1 ∷ fate 1 ∷ map (λ q. back45 (q * 4096)) (2 ∷ 3 ∷ 4 ∷ 5 ∷ []) ++ taken45 0 false ∷ taken45 4096 true ∷ []) []
    -- "each came from a page not released to": of two pages, the first is virgin and the second is not
    ∷ on_class (take_from (shape_of 45) (lent 64) (carve_as (shape_of 45) false 0 true ∷ spent ∷ []) [] [] []) (taken 4 (smalls (4099 ∷ []) ++ three ++ lent 60) false)
    -- "a span from cold is never virgin"
    ∷ on_class (take_from (shape_of 75) (lent 8) [] [] (record { first = 0; zeroed = true } ∷ []) []) (taken 8 (mediums (rising 64 65472 8)) false)
    -- "at most 4 empty, .. then 256 cold, then given to the arena"
    ∷ on_park 45 3 0 (parked 0 4 0)
    ∷ on_park 45 4 255 (parked 1 4 256)
    ∷ on_park 45 4 256 (parked 2 4 256)
    -- "Empty spans: 32 and 8 MiB; cold: 256"; "For medium, cold counts as 0": spans of 3, 5 and 8 pages
    ∷ on_park 64 31 0 (parked 0 32 0)
    ∷ on_park 64 32 255 (parked 0 32 256)
    ∷ on_park 64 32 256 (parked 2 32 256)
    ∷ on_park 69 24 0 (parked 0 25 0)
    ∷ on_park 69 25 0 (parked 0 25 1)
    ∷ on_park 75 15 0 (parked 0 16 0)
    ∷ on_park 75 16 0 (parked 0 16 1)
    -- "The repeat shall be reported first" (document 02, A.2): a repeated block and one already back, in every order; "A repeat of a block
    -- not out in it stays 10"; a wrong kind stays 9
    ∷ on_new_heap (take45 ∷ give45 15 (smalls (3 ∷ [])) ∷ give45 15 (smalls (2051 ∷ 3 ∷ 2051 ∷ [])) ∷ give45 15 (smalls (3 ∷ 2051 ∷ 2051 ∷ [])) ∷ give45 15 (smalls (2051 ∷ 2051 ∷ 3 ∷ [])) ∷ give45 15 (smalls (2051 ∷ 3 ∷ 3 ∷ [])) ∷ give45 15 (smalls (3 ∷ 3 ∷ [])) ∷ give45 15 (smalls (2051 ∷ 2051 ∷ []) ++ mediums (64 ∷ [])) ∷ give45 15 (smalls (2051 ∷ 1027 ∷ [])) ∷ [])
    (taken45 0 true ∷ fate 0 ∷ refused 15 ∷ refused 15 ∷ refused 15 ∷ refused 10 ∷ refused 10 ∷ refused 9 ∷ fate 0 ∷ []) []
    -- "it comes between 9 and 10", so before 11: a repeat on two pages; in groups whose counts are not the list's, and whose page is missing
    ∷ on_new_heap (take45 ∷ take45 ∷ give45 15 (smalls (2051 ∷ 6147 ∷ 2051 ∷ [])) ∷ give45 15 (smalls (2051 ∷ 6147 ∷ [])) ∷ release_bin_chunks 45 15 (smalls (2051 ∷ 2051 ∷ [])) (chunk_word 1 0 ∷ []) (9 ∷ []) ∷ release_bin_chunks 45 15 (smalls (2051 ∷ 2051 ∷ [])) (chunk_word 2 1 ∷ []) (9 ∷ []) ∷ release_bin_chunks 45 15 (smalls (2051 ∷ [])) (chunk_word 2 0 ∷ []) (9 ∷ []) ∷ [])
    (taken45 0 true ∷ taken45 4096 true ∷ refused 15 ∷ refused 11 ∷ refused 15 ∷ refused 15 ∷ refused 11 ∷ []) []
    -- "empty limit 0 to 256 and cold limit 0 to 256" (document 02, A.9): 256 empty pages of a small class; "each medium class's own 8 MiB stays
    -- beside them", 16 spans of 8 pages; limit 0 keeps nothing
    ∷ on_limits (limits 256 0) 45 255 0 (parked 0 256 0)
    ∷ on_limits (limits 256 0) 45 256 0 (parked 2 256 0)
    ∷ on_limits (limits 256 256) 75 15 0 (parked 0 16 0)
    ∷ on_limits (limits 256 256) 75 16 0 (parked 0 16 1)
    ∷ on_limits (limits 0 256) 45 0 0 (parked 1 0 1)
    ∷ on_ruled (0 ∷ 75 ∷ 0 ∷ 0 ∷ []) (take45 ∷ give45 15 three ∷ take45 ∷ release_bin_chunks 45 15 three (chunk_word 3 0 ∷ []) (9 ∷ 9 ∷ []) ∷ medium_take_blocks 0 15 (lent 10) ∷ medium_release_blocks 0 15 (mediums (rising 65600 18432 10)) ∷ [])
    (taken45 0 true ∷ fate 2 ∷ taken45 0 true ∷ fates (6 ∷ 9 ∷ []) ∷ taken 10 (mediums (rising 65600 18432 10)) true ∷ fate 2 ∷ []) (hole 0 4 ∷ [])
    -- "a block's granule in the low 62", "a group's count in the 12 below the kind and its page in the low 50" (document 02, A.11): a granule
    -- beyond the arena is 10, a group's page beyond it 11, also where the lower bits alone, 32, 30 or 18 of them, are those of one that is out
    ∷ on_new_heap (take45 ∷ give45 15 (smalls ((2 ^ 32 + 3) ∷ [])) ∷ give45 15 (smalls (2051 ∷ (2 ^ 30 + 3) ∷ [])) ∷ release_bin_chunks 45 15 (smalls ((2 ^ 61 + 3) ∷ [])) (chunk_word 1 0 ∷ []) (9 ∷ []) ∷ release_bin_chunks 45 15 three (chunk_word 3 262144 ∷ []) (9 ∷ []) ∷ release_bin_chunks 45 15 three (chunk_word 3 (2 ^ 32) ∷ []) (9 ∷ []) ∷ give45 15 three ∷ [])
    (taken45 0 true ∷ refused 10 ∷ refused 10 ∷ refused 10 ∷ refused 11 ∷ refused 11 ∷ fate 0 ∷ []) []
    -- "A row's limits hold for each of its classes alone", the empty one before the cold one: rows in any order, two pages of each of two classes
    ∷ on_ruled (45 ∷ 45 ∷ 1 ∷ 0 ∷ 0 ∷ 44 ∷ 0 ∷ 0 ∷ 46 ∷ 75 ∷ 0 ∷ 1 ∷ []) (take45 ∷ take45 ∷ take46 ∷ take46 ∷ map (λ q. give45 15 (three_of (q * 4096))) (0 ∷ 1 ∷ []) ++ map (λ q. release_blocks 46 15 (three_of (q * 4096))) (2 ∷ 3 ∷ []))
    (map (λ q. taken45 (q * 4096) true) (0 ∷ 1 ∷ 2 ∷ 3 ∷ []) ++ fate 0 ∷ fate 2 ∷ fate 1 ∷ fate 2 ∷ []) (hole 1 1 ∷ hole 3 1 ∷ [])
    -- "2,056 groups pass, 2,057 give 8": none of these is of a page that is there
    ∷ on_class (release_chunks (shape_of 45) (plain_rules 45) 15 new_class three (replicate 2056 (chunk_word 1 0)) (lent 2056)) (refused 10)
    ∷ on_class (release_chunks (shape_of 45) (plain_rules 45) 15 new_class three (replicate 2057 (chunk_word 1 0)) (lent 2057)) (refused 8)
    ∷ []

unfoldable pub examples : List Example
examples =
    -- P1 to P5
    map of_size Lookups.examples ++
    -- P6: "64 words, granules 66 down to 3, virgin"; "P6's first word becomes 2 to the 62nd plus 66" (document 02, A.11)
    on_new_heap (take0 ∷ [])
    (taken 64 (4611686018427387970 ∷ smalls (down 65 3)) true ∷ []) []
    -- P7: "then release granule 10 and take: 129 down to 67, then 10, not virgin"
    ∷ on_new_heap (take0 ∷ release_blocks 0 15 (smalls (10 ∷ [])) ∷ take0 ∷ [])
    (taken 64 (smalls (down 66 3)) true ∷ fate 0 ∷ taken 64 (smalls (down 129 67 ++ 10 ∷ [])) false ∷ []) []
    -- P8: "Released in that order as one page, the next take gives 3, 1027, 2051"
    ∷ on_new_heap (take45 ∷ release_blocks 45 15 three ∷ take45 ∷ [])
    (taken 3 (three ++ lent 61) true ∷ fate 0 ∷ taken 3 (smalls (3 ∷ 1027 ∷ 2051 ∷ []) ++ lent 61) false ∷ []) []
    -- P9: "released as a group, 2051, 1027, 3"
    ∷ on_new_heap (take45 ∷ release_bin_chunks 45 15 three (chunk_word 3 0 ∷ []) (9 ∷ 9 ∷ []) ∷ take45 ∷ [])
    (taken 3 (three ++ lent 61) true ∷ fates (4 ∷ 9 ∷ []) ∷ taken 3 (three ++ lent 61) false ∷ []) []
    -- P10: "bytes 64, 18,496 and on by 18,432, ten blocks"
    ∷ on_new_heap (medium_take_blocks 0 15 (lent 10) ∷ [])
    (taken 10 (mediums (64 ∷ rising 18496 18432 9)) true ∷ []) []
    -- P11: "holes (0,2), (4,2), (8,2) given in turn: three takes of 2 get pages", "now" (document 02, A.8) "gives 0, 4, 8"
    ∷ on_new_heap (commit 15 10 ∷ release 15 0 2 ∷ release 15 4 2 ∷ release 15 8 2 ∷ commit 15 2 ∷ commit 15 2 ∷ commit 15 2 ∷ [])
    (run 0 true ∷ released ∷ released ∷ released ∷ run 0 false ∷ run 4 false ∷ run 8 false ∷ []) []
    -- P12: "hole (0,4), take 2 not granted: none", and "now ends with the one hole (0,4)" (document 02, A.4)
    ∷ on_new_heap (commit 15 4 ∷ release 15 0 4 ∷ commit 13 2 ∷ [])
    (run 0 true ∷ released ∷ no_run ∷ []) (hole 0 4 ∷ [])
    -- "Tempting: .. clearing virgin for a reused hole": P6 on one
    ∷ on_new_heap (commit 15 1 ∷ release 15 0 1 ∷ take0 ∷ [])
    (run 0 true ∷ released ∷ taken 64 (smalls (down 66 3)) true ∷ []) []
    ∷ rules
