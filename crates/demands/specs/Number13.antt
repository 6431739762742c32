-- Number 13 is one table: each test of the code is that every word which the call reads is in its range by specs/Ranges, and, in a take,
-- that each listed page which it comes to yields a block. For every book; n is LENGTH.
--     take_valid   a take's test: FORMAT and FRONTIER, then its source, which is the partial list as far as the take goes, or the newest empty
--                 page, or the newest cold one, or the arena
--     Number13    the equations, one for each test of docs/RANGES.md, "Where each test stands"
--     RowsDecide  a test looks at no word but those of the rows, and LENGTH
use Rattle.std.specs.Prelude.{ℕ, Bool, cond, not, ◌&&◌, List, ◌≡◌, eqb}
use Rattle.facts.specs.Lists.{All}
use Rattle.classes.specs.declared.Shape.{Shape}
use Rattle.fields.specs.Field.{arena, class, size, partial, empty, cold, get}
use Rattle.fields.specs.Ranges.{head_valid}
use Rattle.arena.specs.Valid.{commit_valid, give_valid, grow_valid, report_valid}
use Rattle.pages.specs.declared.Park.TheVariants.{Empty, Cold}
use Rattle.calls.specs.Take.{walk, park_valid}
use Rattle.calls.specs.Out.{unmarked}
use Rattle.calls.specs.Release.{release_valid}
use Rattle.calls.specs.Chunks.{chunks_valid}
use Rattle.poolcalls.specs.Calls.{count_valid, top_valid}
use Rattle.demands.specs.Ranges.{Use, value, fits}
use Rattle.demands.specs.Reads.{commit_reads, give_reads, report_reads, take_reads, yield_all, mark_reads, release_reads, chunks_reads, grow_reads, stock_reads, top_reads}

unfoldable pub take_valid : ℕ → List ℕ → ℕ → Shape → Bool
take_valid n b c sh =
    head_valid n b
    && cond (not (eqb (get b (class partial c)) 0)) (walk n b c sh sh.batch sh.batch (get b (class partial c)) 0)
    (cond (not (eqb (get b (class empty c)) 0)) (park_valid n b c sh Empty)
    (cond (not (eqb (get b (class cold c)) 0)) (park_valid n b c sh Cold)
    (commit_valid n b)))

pub record Number13 (b : List ℕ) : Type 0 where
  pub commit : commit_valid (get b (arena size)) b ≡ fits b (commit_reads b)
  pub give : (m : ℕ) → give_valid (get b (arena size)) b m ≡ fits b (give_reads b m)
  pub grow : (h e m : ℕ) → grow_valid (get b (arena size)) b h e m ≡ fits b (grow_reads b h e m)
  pub report : report_valid (get b (arena size)) b ≡ fits b report_reads
  pub take : (c : ℕ) (sh : Shape) → take_valid (get b (arena size)) b c sh ≡ (fits b (take_reads b c sh) && yield_all b c sh)
  -- before number 15, then with the other words
  pub marks : (c : ℕ) (sh : Shape) (ws : List ℕ) → unmarked (get b (arena size)) b c sh ws ≡ fits b (mark_reads b c sh ws)
  pub release : (c : ℕ) (sh : Shape) (m q : ℕ) → release_valid (get b (arena size)) b c sh m q ≡ fits b (release_reads b c sh m q)
  pub chunks : (c : ℕ) (sh : Shape) (gs : List ℕ) → chunks_valid (get b (arena size)) b c sh gs ≡ fits b (chunks_reads b c sh gs)
  -- the pool's, before it goes to the heap: a free that finds its stock full, an alloc and a trim that have the top
  pub stock : (c : ℕ) → count_valid b c ≡ fits b (stock_reads c)
  pub top : (c : ℕ) → top_valid (get b (arena size)) b c ≡ fits b (top_reads b c)

-- ---- the rows are all that the tests look at
-- two books with one LENGTH and the same word in each of these rows
abbrev pub Alike : List ℕ → List ℕ → List Use → Type 0
Alike b b' us = (get b (arena size) ≡ get b' (arena size)) × All (λ u. value b u ≡ value b' u) us

-- such books pass or fail a call's test alike, whatever their other words are
pub record RowsDecide (b b' : List ℕ) : Type 0 where
  pub commit : Alike b b' (commit_reads b) → commit_valid (get b (arena size)) b ≡ commit_valid (get b' (arena size)) b'
  pub give : (m : ℕ) → Alike b b' (give_reads b m) → give_valid (get b (arena size)) b m ≡ give_valid (get b' (arena size)) b' m
  pub grow : (h e m : ℕ) → Alike b b' (grow_reads b h e m) → grow_valid (get b (arena size)) b h e m ≡ grow_valid (get b' (arena size)) b' h e m
  pub report : Alike b b' report_reads → report_valid (get b (arena size)) b ≡ report_valid (get b' (arena size)) b'
  pub take : (c : ℕ) (sh : Shape) → Alike b b' (take_reads b c sh) → take_valid (get b (arena size)) b c sh ≡ take_valid (get b' (arena size)) b' c sh
  -- where the same blocks are out in both, as numbers 15 and 10 see them
  pub marks : (c : ℕ) (sh : Shape) (ws : List ℕ)
      → mark_reads b c sh ws ≡ mark_reads b' c sh ws
      → Alike b b' (mark_reads b c sh ws)
      → unmarked (get b (arena size)) b c sh ws ≡ unmarked (get b' (arena size)) b' c sh ws
  pub release : (c : ℕ) (sh : Shape) (m q : ℕ)
      → Alike b b' (release_reads b c sh m q)
      → release_valid (get b (arena size)) b c sh m q ≡ release_valid (get b' (arena size)) b' c sh m q
  pub chunks : (c : ℕ) (sh : Shape) (gs : List ℕ)
      → Alike b b' (chunks_reads b c sh gs)
      → chunks_valid (get b (arena size)) b c sh gs ≡ chunks_valid (get b' (arena size)) b' c sh gs
  pub stock : (c : ℕ) → Alike b b' (stock_reads c) → count_valid b c ≡ count_valid b' c
  pub top : (c : ℕ) → Alike b b' (top_reads b c) → top_valid (get b (arena size)) b c ≡ top_valid (get b' (arena size)) b' c
