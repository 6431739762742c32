-- A group release in passes: from number 11 on, what its functions ask, and what they answer.
--     pass_fault        numbers 11 and 13; test_fault, with those before them
--     TakenBy          the listed blocks are out no longer where no number applies
--     ChunksAnswered   a call answered a number, and left the book and the fates
use Rattle.std.specs.Prelude.{ℕ, ◌≤◌, Bool, true, false, cond, not, ◌&&◌, ◌||◌, List, ◌++◌, ◌≡◌, eqb, ltb, length, drop}
use Rattle.facts.specs.Lists.{is_nil, every}
use Rattle.words.specs.Word.{chunk_kind}
use Rattle.classes.specs.declared.Shape.{Shape}
use Rattle.classes.specs.way.Sound.{Sound}
use Rattle.fields.specs.Field.{words}
use Rattle.fields.specs.Ranges.{max_pages}
use Rattle.model.specs.Release.{of_kind}
use Rattle.model.specs.Chunks.{chunks_max}
use Rattle.pages.specs.Stack.{index_of, page_at, page_slots}
use Rattle.calls.specs.Out.{in_run_of, out_at, out_fault}
use Rattle.calls.specs.Chunks.{chunks_match, chunks_valid, Settled, give_runs, ChunksReleased}
use Rattle.release.specs.way.Pre.{ClassPre}
use Rattle.chunks.specs.way.Pass.{cleared, push_all, place_all}
use Rattle.chunks.specs.way.PushPre.{own_block, PushAllPre}
use Rattle.chunks.specs.way.PlacePre.{PlacePre}
use Rattle.chunks.specs.way.GivePre.{GiveChunksPre}

-- the blocks back on their stacks, and the pages placed
abbrev pub all_placed : List ℕ → ℕ → Shape → ℕ → List ℕ → List ℕ → Settled
all_placed b c sh h ws gs = place_all (push_all b sh ws) c sh h gs

-- what is left of it: the runs go to the arena, and the fates stand before what the lent list has past the chunks
abbrev pub settled_to : Settled → Shape → List ℕ → List ℕ → ChunksReleased
settled_to s sh gs fs = record { code = 0; book = give_runs s.book sh.pages s.gives; fates = s.fates ++ drop (length gs) fs }

-- the number, or 0: from 11 on, and from 13 for a mark on
unfoldable pub pass_fault : ℕ → List ℕ → ℕ → Shape → List ℕ → List ℕ → ℕ
pass_fault n b c sh ws gs = cond (not (chunks_match b ws gs)) 11 (cond (not (chunks_valid n b c sh gs)) 13 0)

unfoldable pub test_fault : ℕ → List ℕ → ℕ → Shape → List ℕ → List ℕ → ℕ
test_fault n b c sh ws gs = cond (not (eqb (out_fault n b c sh ws) 0)) (out_fault n b c sh ws) (pass_fault n b c sh ws gs)

-- the word is in an arena of n pages, and its block has an out bit
unfoldable pub has_bit : ℕ → Shape → ℕ → Bool
has_bit n sh w = ltb (page_at w) n && ltb (index_of sh (page_at w) w) page_slots

-- ---- what is asked
-- a class whose runs are one page, in an arena of n pages
pub record CallPre (n : ℕ) (b : List ℕ) (c : ℕ) (sh : Shape) : Type 0 where
  pub class : ClassPre n b c sh
  pub single : sh.pages ≡ 1

-- numbers 7, 8 and 9 have passed
pub record ListedPre (n : ℕ) (b : List ℕ) (c : ℕ) (sh : Shape) (ws gs : List ℕ) : Type 0 where
  pub call : CallPre n b c sh
  pub some : (is_nil ws || is_nil gs) ≡ false
  pub chunks : length gs ≤ chunks_max
  pub kinds : (every (of_kind sh.kind) ws && every (of_kind chunk_kind) gs) ≡ true

pub record TestPre (n : ℕ) (b : List ℕ) (c : ℕ) (sh : Shape) (ws gs fs : List ℕ) : Type 0 where
  pub listed : ListedPre n b c sh ws gs
  pub fates : length gs ≤ length fs

-- and 13 for a mark, 15 and 10
pub record PassPre (n : ℕ) (b : List ℕ) (c : ℕ) (sh : Shape) (ws gs : List ℕ) : Type 0 where
  pub call : CallPre n b c sh
  pub out : every (out_at n b c sh) ws ≡ true
  pub chunks : length gs ≤ chunks_max

-- the same of a book in which the words are out no longer
pub record TakenPre (n : ℕ) (b : List ℕ) (c : ℕ) (sh : Shape) (ws gs : List ℕ) : Type 0 where
  pub call : CallPre n b c sh
  pub runs : every (in_run_of n b sh c) ws ≡ true
  pub chunks : length gs ≤ chunks_max

-- the words are in the arena, and their blocks' out bits in their pages
pub record BitsPre (n : ℕ) (b : List ℕ) (sh : Shape) (ws : List ℕ) : Type 0 where
  pub sound : Sound sh
  pub few : n ≤ max_pages
  pub long : words n ≤ length b
  pub bits : every (has_bit n sh) ws ≡ true
  pub blocks : every (own_block sh) ws ≡ true

-- and numbers 11 and 13
pub record SettlePre (n : ℕ) (b : List ℕ) (c : ℕ) (sh : Shape) (h : ℕ) (ws gs fs : List ℕ) : Type 0 where
  pub pushing : PushAllPre b sh ws
  pub blocks : every (own_block sh) ws ≡ true
  pub placing : PlacePre (push_all b sh ws) c sh gs fs
  pub giving : GiveChunksPre n (all_placed b c sh h ws gs).book sh gs ((all_placed b c sh h ws gs).fates ++ drop (length gs) fs)

-- ---- what is answered
-- by the number k, or 0
pub record TakenBy (r : ℕ) (b' : List ℕ) (k : ℕ) (b : List ℕ) (sh : Shape) (ws : List ℕ) : Type 0 where
  pub answer : r ≡ k
  pub left : b' ≡ cond (eqb k 0) (cleared b sh ws) b

pub record ChunksAnswered (r : ℕ) (b' fs' : List ℕ) (o : ChunksReleased) : Type 0 where
  pub answer : r ≡ o.code
  pub left : b' ≡ o.book
  pub fates : fs' ≡ o.fates
