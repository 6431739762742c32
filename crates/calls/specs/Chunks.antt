-- A group release on the words (`release_bin_chunks`; a group is a chunk): the tests of numbers 7 to 9, then `out_fault` (13 for a mark, 15,
-- 10), 11 and 13 in their order, each over both lists, then the chunks in order, then the runs that go to the arena. ws is the list, gs the chunks, fs the lent fates.
use Rattle.std.specs.Prelude.{ℕ, ◌+◌, ◌*◌, Bool, true, cond, not, ◌&&◌, ◌||◌, List, [], ◌∷◌, ◌++◌, map, eqb, ltb, length, drop}
use Rattle.facts.specs.Lists.{is_nil, filter, every, elem, distinct}
use Rattle.words.specs.Word.{chunk_kind, count_of, page_of}
use Rattle.classes.specs.declared.Shape.{Shape}
use Rattle.rules.specs.declared.Limits.{Limits}
use Rattle.fields.specs.Field.{class, page, free, carved, get}
use Rattle.fields.specs.Ranges.{head_valid}
use Rattle.model.specs.Destination.{destination_of, is_empty, is_cold, is_arena, arena_fate, retired}
use Rattle.model.specs.Release.{of_kind}
use Rattle.model.specs.Chunks.{chunks_max}
use Rattle.arena.specs.Valid.{give_valid}
use Rattle.arena.specs.Calls as Arena
use Rattle.words.specs.Host.{digit}
use Rattle.pages.specs.declared.Park.TheVariants.{Empty, Cold}
use Rattle.pages.specs.Links.{stored}
use Rattle.pages.specs.Valid.{limits_at}
use Rattle.pages.specs.Stack.{back, index_of}
use Rattle.calls.specs.Out.{start_of, OutTest, out_fault}
use Rattle.calls.specs.Release.{page_valid, row_valid, Released, placed}

-- a chunk's blocks: those of the list on its page, in the list's order
unfoldable pub blocks_on : List ℕ → List ℕ → ℕ → List ℕ
blocks_on b ws q = filter (λ w. eqb (start_of b w) q) ws

-- ---- number 11: "a page twice, a count 0 or not the list's, a page missing"
unfoldable pub chunk_fits : List ℕ → List ℕ → ℕ → Bool
chunk_fits b ws g = not (eqb (count_of g) 0) && eqb (count_of g) (length (blocks_on b ws (page_of g)))

unfoldable pub chunks_match : List ℕ → List ℕ → List ℕ → Bool
chunks_match b ws gs = distinct (map page_of gs) && (every (chunk_fits b ws) gs && every (λ w. elem (start_of b w) (map page_of gs)) ws)

-- ---- number 13: the pages and the row, and the arena where a run goes to it
-- does the chunk return all blocks that its page has out
abbrev pub returns_all : List ℕ → ℕ → Bool
returns_all b g = eqb (get b (page free (page_of g)) + count_of g) (get b (page carved (page_of g)))

-- how many runs go to the arena, with these limits, and e empty and k cold pages before
unfoldable pub runs_given : List ℕ → Shape → Limits → List ℕ → ℕ → ℕ → ℕ
runs_given b sh lim [] e k = 0
runs_given b sh lim (g ∷ gs) e k =
    let s = destination_of sh lim e k in
    cond (returns_all b g) (digit (is_arena s) + runs_given b sh lim gs (e + digit (is_empty s)) (k + digit (is_cold s))) (runs_given b sh lim gs e k)

abbrev pub pages_given : List ℕ → ℕ → Shape → List ℕ → ℕ
pages_given b c sh gs = runs_given b sh (limits_at b c) gs (get b (class (stored Empty) c)) (get b (class (stored Cold) c)) * sh.pages

unfoldable pub chunks_valid : ℕ → List ℕ → ℕ → Shape → List ℕ → Bool
chunks_valid n b c sh gs =
    head_valid n b
    && (every (λ g. page_valid b sh (count_of g) (page_of g)) gs
    && (row_valid b c
    && cond (eqb (pages_given b c sh gs) 0) true (give_valid n b (pages_given b c sh gs))))

-- ---- the act
-- one chunk: blocks is come back to page q, which is retired if none is out then
unfoldable pub chunk_back_at : List ℕ → ℕ → Shape → ℕ → ℕ → List ℕ → Released
chunk_back_at b c sh h q is = placed true (back b q is) c sh h q

-- the chunks in order: the book, the fates, and the runs for the arena
pub record Settled : Type 0 where
  pub book : List ℕ
  pub fates : List ℕ
  pub gives : List ℕ

abbrev pub gives_of : ℕ → ℕ → List ℕ
gives_of q fate = cond (eqb fate (retired arena_fate)) (q ∷ []) []

unfoldable pub settle_chunks : List ℕ → ℕ → Shape → ℕ → List ℕ → List ℕ → Settled
settle_chunks b c sh h ws [] = record { book = b; fates = []; gives = [] }
settle_chunks b c sh h ws (g ∷ gs) =
    let r = chunk_back_at b c sh h (page_of g) (map (index_of sh (page_of g)) (blocks_on b ws (page_of g))) in
    let s = settle_chunks r.book c sh h ws gs in
    record { book = s.book; fates = r.fate ∷ s.fates; gives = gives_of (page_of g) r.fate ++ s.gives }

abbrev pub give_runs : List ℕ → ℕ → List ℕ → List ℕ
give_runs b m [] = b
give_runs b m (q ∷ qs) = give_runs (Arena.given b q m) m qs

pub record ChunksReleased : Type 0 where
  pub code : ℕ
  pub book : List ℕ
  pub fates : List ℕ  -- the lent fate list afterwards

abbrev pub chunks_none : List ℕ → List ℕ → ℕ → ChunksReleased
chunks_none b fs k = record { code = k; book = b; fates = fs }

-- by a test of its blocks
abbrev pub release_chunks_by : OutTest → ℕ → List ℕ → ℕ → Shape → ℕ → List ℕ → List ℕ → List ℕ → ChunksReleased
release_chunks_by fault n b c sh h ws gs fs =
    cond (is_nil ws || is_nil gs) (chunks_none b fs 7)
    (cond (ltb chunks_max (length gs) || ltb (length fs) (length gs)) (chunks_none b fs 8)
    (cond (not (every (of_kind sh.kind) ws && every (of_kind chunk_kind) gs)) (chunks_none b fs 9)
    (cond (not (eqb (fault n b c sh ws) 0)) (chunks_none b fs (fault n b c sh ws))
    (cond (not (chunks_match b ws gs)) (chunks_none b fs 11)
    (cond (not (chunks_valid n b c sh gs)) (chunks_none b fs 13)
    (let s = settle_chunks b c sh h ws gs in
    record { code = 0; book = give_runs s.book sh.pages s.gives; fates = s.fates ++ drop (length gs) fs }))))))

unfoldable pub release_chunks : ℕ → List ℕ → ℕ → Shape → ℕ → List ℕ → List ℕ → List ℕ → ChunksReleased
release_chunks n b c sh h ws gs fs = release_chunks_by out_fault n b c sh h ws gs fs
