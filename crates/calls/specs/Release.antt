-- A release by list on the words: the tests of numbers 7, 9, then `out_fault` (13 for a mark, 15, 10), 11, 13 in their order, each over the
-- whole list, then the act. n is the arena's length, c the class's id, sh its shape, ws the list.
--     page_valid       number 13 on a page to which m blocks come back; row_valid, on the class's row
--     destination_at   where a page with no block out goes
--     placed          what becomes of a page whose blocks are back
use Rattle.std.specs.Prelude.{ℕ, ◌+◌, Bool, true, false, cond, not, ◌&&◌, List, [], ◌∷◌, map, eqb, leb, length}
use Rattle.facts.specs.Lists.{is_nil, every}
use Rattle.words.specs.Host.{discard_zeroed}
use Rattle.classes.specs.declared.Shape.{Shape}
use Rattle.fields.specs.Field.{arena, class, page, frontier, partial, free, carved, listed, get, put}
use Rattle.fields.specs.Ranges.{head_valid}
use Rattle.model.specs.declared.Destination.{Destination}
use Rattle.model.specs.declared.Destination.TheVariants.{ToEmpty, ToCold, ToArena}
use Rattle.model.specs.Page.{is_medium}
use Rattle.model.specs.Destination.{destination_of, is_arena, kept_fate, arena_fate, fate_of, retired}
use Rattle.model.specs.Release.{of_kind}
use Rattle.arena.specs.Valid.{give_valid}
use Rattle.arena.specs.Calls as Arena
use Rattle.pages.specs.Stack.{back, index_of}
use Rattle.pages.specs.Links.{link, unlink, park_run, stored}
use Rattle.pages.specs.Valid.{header_valid, links_valid, store_valid, limits_at, limits_valid}
use Rattle.pages.specs.declared.Park.TheVariants.{Empty, Cold}
use Rattle.pages.specs.Carve.{carve_anew}
use Rattle.calls.specs.Out.{start_of, OutTest, out_fault}

-- ---- number 13: the words that the act reads; a page's links only where it is listed
unfoldable pub page_valid : List ℕ → Shape → ℕ → ℕ → Bool
page_valid b sh m q = header_valid b sh m q && (leb (get b (page listed q)) 1 && links_valid b q)

unfoldable pub row_valid : List ℕ → ℕ → Bool
row_valid b c = leb (get b (class partial c)) (get b (arena frontier)) && (store_valid b c Empty && (store_valid b c Cold && limits_valid b c))

-- ---- the act
pub record Released : Type 0 where
  pub code : ℕ  -- 0, or the refusal's number
  pub book : List ℕ
  pub fate : ℕ

abbrev pub released_none : List ℕ → ℕ → Released
released_none b k = record { code = k; book = b; fate = 0 }

abbrev pub released : List ℕ → ℕ → Released
released b k = record { code = 0; book = b; fate = k }

-- a page with none out leaves the partial list; one with some out heads it if absent
unfoldable pub unlisted : List ℕ → ℕ → ℕ → List ℕ
unlisted b c q = cond (eqb (get b (page listed q)) 1) (unlink b c q) b

unfoldable pub relisted : List ℕ → ℕ → ℕ → List ℕ
relisted b c q = cond (eqb (get b (page listed q)) 0) (link b c q) b

abbrev pub park_cold : List ℕ → ℕ → Shape → ℕ → ℕ → List ℕ
park_cold b c sh h q = park_run (carve_anew b sh q (discard_zeroed h && not (is_medium sh))) c Cold q

-- a page for the arena stays in no list
abbrev pub parked_in : List ℕ → ℕ → Shape → ℕ → ℕ → Destination → List ℕ
parked_in b c sh h q ToEmpty = park_run b c Empty q
parked_in b c sh h q ToCold = park_cold b c sh h q
parked_in b c sh h q ToArena = b

-- by the destination: the book, and the fate
abbrev pub park_as : List ℕ → ℕ → Shape → ℕ → ℕ → Destination → Released
park_as b c sh h q s = released (parked_in b c sh h q s) (fate_of sh s)

abbrev pub destination_at : List ℕ → ℕ → Shape → Destination
destination_at b c sh = destination_of sh (limits_at b c) (get b (class (stored Empty) c)) (get b (class (stored Cold) c))

unfoldable pub park_at : List ℕ → ℕ → Shape → ℕ → ℕ → Released
park_at b c sh h q = park_as (unlisted b c q) c sh h q (destination_at b c sh)

-- "a group that returns all blocks its page has out retires it, so it is carved anew when used again"
unfoldable pub emptied : List ℕ → ℕ → List ℕ
emptied b q = put (put b (page carved q) 0) (page free q) 0

abbrev pub set_retired : Released → Released
set_retired r = record { code = r.code; book = r.book; fate = retired r.fate }

-- a page with none out, which a group release retires first and a release by list does not
abbrev pub leaves : Bool → List ℕ → ℕ → Shape → ℕ → ℕ → Released
leaves true b c sh h q = set_retired (park_at (emptied b q) c sh h q)
leaves false b c sh h q = park_at b c sh h q

-- a page whose blocks are back: parked if none is out, else a partial page
abbrev pub placed : Bool → List ℕ → ℕ → Shape → ℕ → ℕ → Released
placed retires b c sh h q = cond (eqb (get b (page carved q)) (get b (page free q))) (leaves retires b c sh h q) (released (relisted b c q) kept_fate)

-- the listed blocks come back to the page
unfoldable pub give_back_at : List ℕ → ℕ → Shape → ℕ → ℕ → List ℕ → Released
give_back_at b c sh h q is = placed false (back b q is) c sh h q

-- the last step: a run whose fate says so goes to the arena
abbrev pub last_step : Shape → ℕ → Released → Released
last_step sh q r = cond (eqb r.fate arena_fate) (record { code = r.code; book = Arena.given r.book q sh.pages; fate = r.fate }) r

-- number 13 for the give, where the page would go to the arena
unfoldable pub destination_valid : ℕ → List ℕ → ℕ → Shape → ℕ → ℕ → Bool
destination_valid n b c sh m q = cond (eqb (get b (page free q) + m) (get b (page carved q)) && is_arena (destination_at b c sh)) (give_valid n b sh.pages) true

unfoldable pub release_valid : ℕ → List ℕ → ℕ → Shape → ℕ → ℕ → Bool
release_valid n b c sh m q =
    head_valid n b && (page_valid b sh m q && (row_valid b c && destination_valid n b c sh m q))

abbrev pub first_of : List ℕ → ℕ
first_of [] = 0
first_of (w ∷ ws) = w

-- `release_blocks_with_tail` from number 7 on, by a test of its blocks
abbrev pub release_by : OutTest → ℕ → List ℕ → ℕ → Shape → ℕ → List ℕ → Released
release_by fault n b c sh h ws =
    let q = start_of b (first_of ws) in
    cond (is_nil ws) (released_none b 7)
    (cond (not (every (of_kind sh.kind) ws)) (released_none b 9)
    (cond (not (eqb (fault n b c sh ws) 0)) (released_none b (fault n b c sh ws))
    (cond (not (every (λ w. eqb (start_of b w) q) ws)) (released_none b 11)
    (cond (not (release_valid n b c sh (length ws) q)) (released_none b 13)
    (last_step sh q (give_back_at b c sh h q (map (index_of sh q) ws)))))))

unfoldable pub release_blocks : ℕ → List ℕ → ℕ → Shape → ℕ → List ℕ → Released
release_blocks n b c sh h ws = release_by out_fault n b c sh h ws
