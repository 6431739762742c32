-- A trace on the words: what the call returns and leaves, on any book, any words and any lists. It follows specs/Trace, with the book for the
-- history, and with the takes and releases of the other calls (crate calls).
--     Going      how far it has come: the book, the words handed out, the figures, and running counts
--     after      one word carried out
--     stops      a word stops it; a book that was opened never has a word out of its range, so that no call in it is refused
--     trace_on    the whole call
use Rattle.std.specs.Prelude.{ℕ, suc, ◌+◌, ◌-◌, ◌*◌, ◌^◌, List, [], ◌∷◌, ◌++◌, map, Bool, true, false, cond, not, ◌&&◌, ◌||◌, eqb, ltb, leb, length, drop, get_or, set}
use Rattle.std.proofs.Math.ListN as ListN
use Rattle.words.specs.Word.{kind_bits, kind_of}
use Rattle.classes.specs.Sizes.{granule_bytes}
use Rattle.classes.specs.Shape.{shape_of, class_count}
use Rattle.rules.specs.Rules.{rules_of}
use Rattle.fields.specs.Field.{page, owner, get}
use Rattle.fields.specs.Ranges.{length_fault}
use Rattle.words.specs.Host.{host_max}
use Rattle.arena.specs.Open.{opened}
use Rattle.direct.specs.Answer.{Report, Reported, report_of}
use Rattle.calls.specs.Take.{Took, take_call}
use Rattle.pages.specs.Stack.{page_at}
use Rattle.calls.specs.Release.{Released, released_none, release_blocks}
use Rattle.trace.specs.Trace as Trace
use Rattle.trace.specs.Trace.{Say, say_of, blank, max, Room}

-- ---- the two calls
unfoldable pub take_now : ℕ → List ℕ → ℕ → Took
take_now n b c = take_call n b c (shape_of c) host_max blank

abbrev pub blocks_of : Took → List ℕ
blocks_of t = ListN.take t.count t.list

-- the class that a block was taken from is in the book: OWNER of its page is the class and 1; 0 where there is none
unfoldable pub owner_at : ℕ → List ℕ → ℕ → ℕ
owner_at n b w = cond (ltb (page_at w) n) (get b (page owner (page_at w))) 0

abbrev pub class_at : ℕ → List ℕ → ℕ → ℕ
class_at n b w = owner_at n b w - 1

abbrev pub known : ℕ → Bool
known k = leb 1 k && leb k class_count

unfoldable pub back_now : ℕ → List ℕ → ℕ → Released
back_now n b w =
    let c = class_at n b w in
    cond (known (owner_at n b w)) (release_blocks n b c (shape_of c) host_max (w ∷ [])) (released_none b 10)

-- ---- the words handed out, as the lent list has them on the way: the word of a released one has its kind flipped, 1 to 0 and 2 to 3, so that the
-- list itself tells in one step which are out; at the end all are restored
abbrev pub is_block : ℕ → Bool
is_block w = eqb (kind_of w) 1 || eqb (kind_of w) 2

abbrev pub flip_kind : ℕ → ℕ
flip_kind w = cond (eqb (kind_of w) 1) (w - 2 ^ kind_bits) (w + 2 ^ kind_bits)

abbrev pub restore_kind : ℕ → ℕ
restore_kind w = cond (eqb (kind_of w) 0) (w + 2 ^ kind_bits) (cond (eqb (kind_of w) 3) (w - 2 ^ kind_bits) w)

abbrev pub out_at : ℕ → List ℕ → Bool
out_at p ms = is_block (get_or ms p 0)

abbrev pub back_at : ℕ → List ℕ → List ℕ
back_at p ms = set ms p (flip_kind (get_or ms p 0))

-- ---- how far it has come
pub record Going : Type 0 where
  pub book : List ℕ
  pub listed : List ℕ  -- the words handed out, those of released ones flipped
  pub figures : List ℕ
  pub out : ℕ  -- blocks out
  pub bytes : ℕ  -- their bytes
  pub highest : ℕ

abbrev pub begins : List ℕ → Going
begins b = record { book = b; listed = []; figures = []; out = 0; bytes = 0; highest = 0 }

abbrev pub size_of : ℕ → ℕ
size_of c = (shape_of c).block * granule_bytes

abbrev pub come : Going → List ℕ → List ℕ → ℕ → ℕ → Going
come g b ms k m = record { book = b; listed = ms; figures = g.figures; out = k; bytes = m; highest = max g.highest m }

abbrev pub took : Going → ℕ → Took → Going
took g c t = come g t.book (g.listed ++ blocks_of t) (g.out + t.count) (g.bytes + t.count * size_of c)

abbrev pub gave_back : ℕ → Going → ℕ → ℕ → Going
gave_back n g p w = come g (back_now n g.book w).book (back_at p g.listed) (g.out - 1) (g.bytes - size_of (class_at n g.book w))

-- pages held and idle are those of a report
abbrev pub held_in : Report → ℕ
held_in (Report.Refused k) = 0
held_in (Reported f) = f.held

abbrev pub idle_in : Report → ℕ
idle_in (Report.Refused k) = 0
idle_in (Reported f) = f.idle

abbrev pub unreported : Report → Bool
unreported (Report.Refused k) = true
unreported (Reported f) = false

abbrev pub five : ℕ → Going → List ℕ
five n g = g.out ∷ g.bytes ∷ held_in (report_of n g.book) ∷ idle_in (report_of n g.book) ∷ g.highest ∷ []

abbrev pub does : ℕ → Going → Say → Going
does n g (Trace.take c) = took g c (take_now n g.book c)
does n g (Trace.back p) = gave_back n g p (get_or g.listed p 0)
does n g Trace.report = record { book = g.book; listed = g.listed; figures = g.figures ++ five n g; out = g.out; bytes = g.bytes; highest = g.highest }
does n g Trace.wrong = g

abbrev pub after : ℕ → Going → ℕ → Going
after n g w = does n g (say_of w)

-- ---- when it stops
-- the bytes out never come to this (demands: Trace): the arena has fewer. A number's bound is all that keeps the sum from wrapping
abbrev pub bytes_max : ℕ
bytes_max = 2 ^ 40

abbrev pub refused : ℕ → Bool
refused k = not (eqb k 0)

abbrev pub stops_as : ℕ → Room → Going → Say → Bool
stops_as n m g (Trace.take c) =
    let t = take_now n g.book c in
    refused t.code || (ltb bytes_max g.bytes || ltb m.blocks (length g.listed + t.count))
stops_as n m g (Trace.back p) = not (out_at p g.listed) || refused (back_now n g.book (get_or g.listed p 0)).code
stops_as n m g Trace.report = ltb m.figures (length g.figures + 5) || unreported (report_of n g.book)
stops_as n m g Trace.wrong = true

abbrev pub stops : ℕ → Room → Going → ℕ → Bool
stops n m g w = stops_as n m g (say_of w)

-- ---- a whole trace
abbrev pub goes : ℕ → Going → List ℕ → Going
goes n g [] = g
goes n g (w ∷ ws) = goes n (after n g w) ws

abbrev pub carried : ℕ → Room → Going → List ℕ → ℕ
carried n m g [] = 0
carried n m g (w ∷ ws) = cond (stops n m g w) 0 (suc (carried n m (after n g w) ws))

-- what the call returns, and the book, both lists and the three counts afterwards
pub record Traced : Type 0 where
  pub code : ℕ
  pub book : List ℕ
  pub blocks : List ℕ
  pub figures : List ℕ
  pub done : List ℕ

abbrev pub room_of : List ℕ → List ℕ → Room
room_of bl fl = record { blocks = length bl; figures = length fl }

abbrev pub ending : ℕ → List ℕ → List ℕ → List ℕ → Going → Traced
ending k ws bl fl g = record {
  code = cond (eqb k (length ws)) 0 16;
  book = g.book;
  blocks = map restore_kind g.listed ++ drop (length g.listed) bl;
  figures = g.figures ++ drop (length g.figures) fl;
  done = k ∷ length g.listed ∷ length g.figures ∷ [];
}

-- numbers 1 and 2 first, by which nothing is changed; then it opens, and goes on from the opened book
unfoldable pub trace_on : List ℕ → ℕ → List ℕ → List ℕ → List ℕ → List ℕ → Traced
trace_on b n ws bl fl dn =
    let k = carried n (room_of bl fl) (begins (opened n (rules_of []) b)) ws in
    cond (eqb (length_fault n (length b)) 0)
    (ending k ws bl fl (goes n (begins (opened n (rules_of []) b)) (ListN.take k ws)))
    (record { code = length_fault n (length b); book = b; blocks = bl; figures = fl; done = dn })
