-- Document 02, A.2 and A.3, over the exported calls: which answers they changed, on any book and for any call; and that no mark is left.
-- proofs/Repeats proves it.
--     call_by           a call, with another test of a release's blocks in its place; by `out_fault` it is `call`
--     as_in01           document 01's test; `repeat_fault` is A.2's
--     repeats_first     "a block out in this class stands twice, with no earlier fault"
--     RepeatExactly    the answers that A.2 changed are those, from 10 to 15
--     marks_first       the word of marks of a listed block out in this class is not 0, with no earlier fault
--     MarksAside       A.3 answers 13 there, and is A.2 elsewhere; so every history is answered as by A.2
--     Unmarked         after every history no mark of a run is set
use Rattle.std.specs.Prelude.{ℕ, ◌+◌, ◌≤◌, ◌<◌, Bool, true, false, cond, not, ◌&&◌, List, ◌↔◌, ◌≡◌, eqb}
use Rattle.facts.specs.Lists.{every, distinct, count}
use Rattle.words.specs.Limits.{class_rows}
use Rattle.classes.specs.declared.Shape.{Shape}
use Rattle.classes.specs.Shape.{shape_of, class_count, pool_id}
use Rattle.fields.specs.Field.{arena, mark, size, get}
use Rattle.model.specs.Calls as Calls
use Rattle.model.specs.Calls.{Call}
use Rattle.pages.specs.Runs.{whole}
use Rattle.pages.specs.Carve.{out_words}
use Rattle.calls.specs.Out.{out_at, OutTest, unmarked, repeats, repeat_fault, out_fault}
use Rattle.calls.specs.Release.{release_by}
use Rattle.calls.specs.Chunks.{release_chunks_by}
use Rattle.vigbuso.specs.Blocks.{release_on_by, chunks_on_by}
use Rattle.refinement.specs.Direct.{Reply, turned_reply}
use Rattle.refinement.specs.Releases.{list_reply, chunks_reply}
use Rattle.refinement.specs.Run.{replies_from, book_from}
use Rattle.demands.specs.Call.{call}
use Rattle.demands.specs.Start.{Start, pages, begun, Starts, book_after, since}
use Rattle.demands.specs.Refusals.{first_number, release_early, chunks_early}

abbrev pub call_by : OutTest → List ℕ → Call → Reply
call_by fault b (Calls.take_blocks c h l) = call b (Calls.take_blocks c h l)
call_by fault b (Calls.medium_take_blocks c h l) = call b (Calls.medium_take_blocks c h l)
call_by fault b (Calls.release_blocks c h ws) = list_reply (release_on_by (release_by fault) 0 64 b c h ws)
call_by fault b (Calls.medium_release_blocks c h ws) = list_reply (release_on_by (release_by fault) 64 12 b c h ws)
call_by fault b (Calls.pooled_take c h l) = call b (Calls.pooled_take c h l)
call_by fault b (Calls.pooled_release c h ws) = list_reply (release_on_by (release_by fault) class_count class_count b c h ws)
call_by fault b (Calls.release_bin_chunks c h ws gs fs) = chunks_reply (chunks_on_by (release_chunks_by fault) b c h ws gs fs)
call_by fault b (Calls.commit h m) = call b (Calls.commit h m)
call_by fault b (Calls.grow_frontier h q old new) = call b (Calls.grow_frontier h q old new)
call_by fault b (Calls.release h q m) = call b (Calls.release h q m)
call_by fault b (Calls.contains o k) = call b (Calls.contains o k)
call_by fault b Calls.report = call b Calls.report

-- 10. "A block is not out in this class, or stands twice."
unfoldable pub as_in01 : OutTest
as_in01 n b c sh ws = cond (not (every (out_at n b c sh) ws && distinct ws)) 10 0

-- a test of a release's blocks is reached, since no earlier number applies, and answers yes
abbrev pub reached_by : (ℕ → List ℕ → ℕ → Shape → List ℕ → Bool) → List ℕ → Call → Bool
reached_by t b (Calls.take_blocks c h l) = false
reached_by t b (Calls.medium_take_blocks c h l) = false
reached_by t b (Calls.release_blocks c h ws) = eqb (first_number (release_early 0 64 b c h ws)) 0 && t (get b (arena size)) b (0 + c) (shape_of (0 + c)) ws
reached_by t b (Calls.medium_release_blocks c h ws) = eqb (first_number (release_early 64 12 b c h ws)) 0 && t (get b (arena size)) b (64 + c) (shape_of (64 + c)) ws
reached_by t b (Calls.pooled_take c h l) = false
reached_by t b (Calls.pooled_release c h ws) = eqb (first_number (release_early class_count class_count b c h ws)) 0 && t (get b (arena size)) b (pool_id c) (shape_of (pool_id c)) ws
reached_by t b (Calls.release_bin_chunks c h ws gs fs) = eqb (first_number (chunks_early b c h ws gs fs)) 0 && t (get b (arena size)) b c (shape_of c) ws
reached_by t b (Calls.commit h m) = false
reached_by t b (Calls.grow_frontier h q old new) = false
reached_by t b (Calls.release h q m) = false
reached_by t b (Calls.contains o k) = false
reached_by t b Calls.report = false

-- ---- A.2
abbrev pub repeats_first : List ℕ → Call → Bool
repeats_first b x = reached_by repeats b x

-- what `repeats` says: a word that is out in the class stands at two places of the list
pub record OutTwice (n : ℕ) (b : List ℕ) (c : ℕ) (sh : Shape) (ws : List ℕ) : Type 0 where
  pub word : ℕ
  pub out : out_at n b c sh word ≡ true
  pub times : 2 ≤ count word ws

-- "The old answers that change are exactly the lists in which a block out in this class stands twice, with no earlier fault: 10 becomes 15."
pub record RepeatExactly : Type 0 where
  pub exactly : (b : List ℕ) (x : Call) → (call_by repeat_fault b x ≡ call_by as_in01 b x → ⊥) ↔ (repeats_first b x ≡ true)
  pub before : (b : List ℕ) (x : Call) → repeats_first b x ≡ true → call_by as_in01 b x ≡ turned_reply b 10
  pub after : (b : List ℕ) (x : Call) → repeats_first b x ≡ true → call_by repeat_fault b x ≡ turned_reply b 15
  pub twice : (n : ℕ) (b : List ℕ) (c : ℕ) (sh : Shape) (ws : List ℕ) → (repeats n b c sh ws ≡ true) ↔ OutTwice n b c sh ws

-- ---- A.3
abbrev pub marks_first : List ℕ → Call → Bool
marks_first b x = reached_by (λ n b c sh ws. not (unmarked n b c sh ws)) b x

-- "Where the mark word of a listed block out in this class isn't 0 beforehand, the answer is 13, here before 15, and nothing is marked. Otherwise
-- every call returns and leaves what it did, the book's layout aside."
pub record MarksAside : Type 0 where
  pub now : (b : List ℕ) (x : Call) → call b x ≡ call_by out_fault b x
  pub marked : (b : List ℕ) (x : Call) → marks_first b x ≡ true → call b x ≡ turned_reply b 13
  pub otherwise : (b : List ℕ) (x : Call) → marks_first b x ≡ false → call b x ≡ call_by repeat_fault b x
  -- so A.2's claim is one about the calls as they are
  pub repeated : (b : List ℕ) (x : Call) → marks_first b x ≡ false → (call b x ≡ call_by as_in01 b x → ⊥) ↔ (repeats_first b x ≡ true)
  -- from an opening or a trace on it is never 13, so that a history with A.2's test is the history
  pub replies : (s : Start) → Starts s → (xs : List Call) → replies_from (call_by repeat_fault) (begun s) xs ≡ since s xs
  pub book : (s : Start) → Starts s → (xs : List Call) → book_from (call_by repeat_fault) (begun s) xs ≡ book_after s xs

-- "On a book reached from an opening every call, refused ones included, ends with no mark set": after the calls xs since a start, which is an
-- opening or a trace, every word of marks of every run of every class is 0
abbrev pub Unmarked : Type 0
Unmarked =
    (s : Start) → Starts s → (xs : List Call) (c q : ℕ) → c < class_rows → whole (pages s) (book_after s xs) (shape_of c) c q ≡ true
    → (j : ℕ) → j < out_words (shape_of c) → get (book_after s xs) (mark q j) ≡ 0
