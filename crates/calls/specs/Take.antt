-- A take on the words (document 01, "Blocks out and back"): the tests of number 13 over all that it will read, then the act.
-- n is the arena's length, c the class's id, sh its shape, l the lent list.
--     sound       a page of the class is in its ranges and gives a block; m is how many are wanted
--     walk        the partial list from a code on, as far as a take of m blocks goes
--     fill_from    blocks from the partial list's head on
--     from_park    one page of the empty or the cold store
--     take_new     a new run from the arena
use Rattle.std.specs.Prelude.{ℕ, zero, suc, ◌-◌, Bool, true, false, cond, not, ◌&&◌, ◌||◌, List, [], ◌++◌, map, eqb, ltb, leb, length, drop}
use Rattle.std.proofs.Math.Option.{Option, none, some}
use Rattle.facts.specs.Lists.{every}
use Rattle.classes.specs.declared.Shape.{Shape}
use Rattle.fields.specs.Field.{arena, class, page, frontier, partial, empty, cold, next, prev, free, carved, listed, virgin, get}
use Rattle.fields.specs.Ranges.{head_valid}
use Rattle.model.specs.Page.{word_of}
use Rattle.arena.specs.Calls.{commit_for}
use Rattle.pages.specs.Runs.{whole}
use Rattle.pages.specs.Stack.{top_entries, latest, draw, has_more}
use Rattle.pages.specs.Links.{link, unlink, top, stored, unpark_run}
use Rattle.pages.specs.Valid.{header_valid, store_valid}
use Rattle.pages.specs.declared.Park.{Park}
use Rattle.pages.specs.declared.Park.TheVariants.{Empty, Cold}
use Rattle.pages.specs.Carve.{new_run}

-- what a take answers: 0 or the refusal's number, the book, the count, the list and virgin
pub record Took : Type 0 where
  pub code : ℕ
  pub book : List ℕ
  pub count : ℕ
  pub list : List ℕ
  pub virgin : Bool

abbrev pub took_none : List ℕ → List ℕ → ℕ → Took
took_none b l k = record { code = k; book = b; count = 0; list = l; virgin = false }

-- ---- the plan
-- the page's own words are in their ranges, LISTED is l, and the page gives a block
unfoldable pub page_ready : List ℕ → Shape → ℕ → ℕ → Bool
page_ready b sh l q = header_valid b sh 0 q && (eqb (get b (page listed q)) l && has_more b sh q)

unfoldable pub sound : ℕ → List ℕ → ℕ → Shape → ℕ → ℕ → ℕ → Bool
sound n b c sh l m q =
    whole n b sh c q
    && (page_ready b sh l q && every (λ i. ltb i (get b (page carved q))) (top_entries b q m (get b (page free q))))

-- at most k pages, m blocks still wanted, from a code on; y is the code of the page before, so that no page is met twice
unfoldable pub walk : ℕ → List ℕ → ℕ → Shape → ℕ → ℕ → ℕ → ℕ → Bool
walk n b c sh zero m code y = leb code (get b (arena frontier))
walk n b c sh (suc k) m code y =
    let q = code - 1 in
    leb code (get b (arena frontier))
    && cond (eqb m 0 || eqb code 0) true
    (eqb (get b (page prev q)) y && (sound n b c sh 1 m q && walk n b c sh k (m - length (latest b sh q m)) (get b (page next q)) code))

unfoldable pub park_valid : ℕ → List ℕ → ℕ → Shape → Park → Bool
park_valid n b c sh k =
    let q = get b (class (top k) c) - 1 in
    store_valid b c k
    && (not (eqb (get b (class (stored k) c)) 0)
    && (sound n b c sh 0 sh.batch q && leb (get b (page next q)) (get b (arena frontier))))

-- ---- the act
pub record Filled : Type 0 where
  pub book : List ℕ
  pub blocks : List ℕ
  pub virgin : Bool

abbrev pub filled_none : List ℕ → Filled
filled_none b = record { book = b; blocks = []; virgin = true }

abbrev pub then_filled : Bool → List ℕ → Filled → Filled
then_filled v ws f = record { book = f.book; blocks = f.blocks ++ ws; virgin = v && f.virgin }

-- a page that gave its last block leaves the list
unfoldable pub unlist_spent : List ℕ → ℕ → Shape → ℕ → List ℕ
unlist_spent b c sh q = cond (has_more b sh q) b (unlink b c q)

-- from at most k pages, m blocks wanted
unfoldable pub fill_from : List ℕ → ℕ → Shape → ℕ → ℕ → Filled
fill_from b c sh zero m = filled_none b
fill_from b c sh (suc k) m =
    let q = get b (class partial c) - 1 in
    cond (eqb m 0 || eqb (get b (class partial c)) 0) (filled_none b)
    (then_filled (eqb (get b (page virgin q)) 1) (map (word_of sh q) (latest b sh q m))
    (fill_from (unlist_spent (draw b sh q m) c sh q) c sh k (m - length (latest b sh q m))))

abbrev pub took : List ℕ → Filled → Took
took l f = record { code = 0; book = f.book; count = length f.blocks; list = f.blocks ++ drop (length f.blocks) l; virgin = f.virgin }

abbrev pub filled : List ℕ → ℕ → Shape → List ℕ → Took
filled b c sh l = took l (fill_from b c sh sh.batch sh.batch)

-- ---- the sources, from number 13 on
unfoldable pub from_partial : ℕ → List ℕ → ℕ → Shape → List ℕ → Took
from_partial n b c sh l = cond (walk n b c sh sh.batch sh.batch (get b (class partial c)) 0) (filled b c sh l) (took_none b l 13)

unfoldable pub from_park : ℕ → List ℕ → ℕ → Shape → Park → List ℕ → Took
from_park n b c sh k l = cond (park_valid n b c sh k) (filled (unpark_run b c k (get b (class (top k) c) - 1)) c sh l) (took_none b l 13)

-- a new run, with what the commit answered
unfoldable pub on_run : List ℕ → ℕ → Shape → List ℕ → Option ℕ → Took
on_run b c sh l none = took_none b l 0
on_run b c sh l (some q) = filled (link (new_run b sh q) c q) c sh l

unfoldable pub take_new : ℕ → List ℕ → ℕ → Shape → ℕ → List ℕ → Took
take_new n b c sh h l =
    let g = commit_for n b h sh.pages (suc c) in
    cond (eqb g.code 0) (on_run g.book c sh l g.run) (took_none b l g.code)

-- the first source that has a page
unfoldable pub take_blocks : ℕ → List ℕ → ℕ → Shape → ℕ → List ℕ → Took
take_blocks n b c sh h l =
    cond (not (head_valid n b)) (took_none b l 13)
    (cond (not (eqb (get b (class partial c)) 0)) (from_partial n b c sh l)
    (cond (not (eqb (get b (class empty c)) 0)) (from_park n b c sh Empty l)
    (cond (not (eqb (get b (class cold c)) 0)) (from_park n b c sh Cold l)
    (take_new n b c sh h l))))

-- a class's take from number 5 on
unfoldable pub take_call : ℕ → List ℕ → ℕ → Shape → ℕ → List ℕ → Took
take_call n b c sh h l = cond (ltb (length l) sh.batch) (took_none b l 5) (take_blocks n b c sh h l)
