-- The calls that reach no class, on the words as calls of the model: what is answered, and the book that is left. n is the arena's
-- length.
--     direct_reply    the reply to a call that names no class; where it names one that is not ours it is number 4
--     Agrees         a reply is the model's: the same answer, never number 13, and a book that stands for the model's heap
use Rattle.std.specs.Prelude.{ℕ, cond, List, ◌≡◌, eqb}
use Rattle.model.specs.Calls as Calls
use Rattle.model.specs.Calls.{Call, Answer, refused, released, contained, reported}
use Rattle.model.specs.Heap.{Heap, Outcome, answer_run}
use Rattle.arena.specs.Calls.{Committed, commit_call, Done, grow_call, release_call, contains_call, figures, report_code}

-- the number is 0 where nothing was refused
pub record Reply : Type 0 where
  pub code : ℕ
  pub answer : Answer
  pub book : List ℕ

abbrev pub reply : ℕ → Answer → List ℕ → Reply
reply k x b = record { code = k; answer = cond (eqb k 0) x (refused k); book = b }

abbrev pub commit_reply : Committed → Reply
commit_reply w = reply w.code (answer_run w.run w.fresh) w.book

abbrev pub grow_reply : Done → Reply
grow_reply w = reply w.code (Calls.grown w.yes) w.book

abbrev pub release_reply : Done → Reply
release_reply w = reply w.code released w.book

-- a number that refuses a call before it is looked at
abbrev pub turned_reply : List ℕ → ℕ → Reply
turned_reply b k = record { code = k; answer = refused k; book = b }

unfoldable pub direct_reply : ℕ → List ℕ → Call → Reply
direct_reply n b (Calls.take_blocks c h l) = turned_reply b 4
direct_reply n b (Calls.medium_take_blocks c h l) = turned_reply b 4
direct_reply n b (Calls.release_blocks c h ws) = turned_reply b 4
direct_reply n b (Calls.medium_release_blocks c h ws) = turned_reply b 4
direct_reply n b (Calls.pooled_take c h l) = turned_reply b 4
direct_reply n b (Calls.pooled_release c h ws) = turned_reply b 4
direct_reply n b (Calls.release_bin_chunks c h ws gs fs) = turned_reply b 4
direct_reply n b (Calls.commit h m) = commit_reply (commit_call n b h m)
direct_reply n b (Calls.grow_frontier h q old new) = grow_reply (grow_call n b h q old new)
direct_reply n b (Calls.release h q m) = release_reply (release_call n b q m)
direct_reply n b (Calls.contains o k) = reply 0 (contained (contains_call n b o k)) b
direct_reply n b Calls.report = reply (report_code n b) (reported (figures n b)) b

-- Stands b H: the book b stands for the heap H, wholly (Represents n) or in the arena's part (ArenaRep n)
pub record Agrees (Stands : List ℕ → Heap → Type 0) (w : Reply) (o : Outcome) : Type 0 where
  pub answer : w.answer ≡ o.answer
  pub valid : w.code ≡ 13 → ⊥
  pub heap : Stands w.book o.heap
