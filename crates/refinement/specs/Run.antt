-- Every call on the words, and a history of calls (document 01, "The histories of demand 3"). n is the arena's length. Assumes
-- nothing.
--     call_reply                  the reply to any call
--     replies_from, book_from      the replies to the calls of a history from a book, and the book after it
use Rattle.std.specs.Prelude.{ℕ, List, [], ◌∷◌}
use Rattle.classes.specs.Shape.{shape_of}
use Rattle.model.specs.Calls as Calls
use Rattle.model.specs.Calls.{Call, Answer, Way, turned, straight, to_class, way_of, Request}
use Rattle.calls.specs.Take.{take_call}
use Rattle.calls.specs.Release.{release_blocks}
use Rattle.calls.specs.Chunks.{release_chunks}
use Rattle.refinement.specs.Direct.{Reply, turned_reply, direct_reply}
use Rattle.refinement.specs.Classes.{take_reply}
use Rattle.refinement.specs.Releases.{list_reply, chunks_reply}

abbrev pub class_reply : ℕ → List ℕ → ℕ → Request → Reply
class_reply n b c (Calls.take h l) = take_reply (take_call n b c (shape_of c) h l)
class_reply n b c (Calls.give_back h ws) = list_reply (release_blocks n b c (shape_of c) h ws)
class_reply n b c (Calls.give_chunks h ws gs fs) = chunks_reply (release_chunks n b c (shape_of c) h ws gs fs)

abbrev pub reply_as : ℕ → List ℕ → Call → Way → Reply
reply_as n b x turned = turned_reply b 3
reply_as n b x straight = direct_reply n b x
reply_as n b x (to_class d) = class_reply n b d.class d.request

unfoldable pub call_reply : ℕ → List ℕ → Call → Reply
call_reply n b x = reply_as n b x (way_of x)

-- the calls of a history in turn, each by f on the book as the last one left it: the replies, and the book after them
module _ (f : List ℕ → Call → Reply) where
  abbrev pub replies_from : List ℕ → List Call → List Reply
  replies_from b [] = []
  replies_from b (x ∷ xs) = f b x ∷ replies_from (f b x).book xs

  abbrev pub book_from : List ℕ → List Call → List ℕ
  book_from b [] = b
  book_from b (x ∷ xs) = book_from (f b x).book xs

abbrev pub answers_in : List Reply → List Answer
answers_in [] = []
answers_in (r ∷ rs) = r.answer ∷ answers_in rs
