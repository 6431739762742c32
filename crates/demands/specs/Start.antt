-- A history starts from an opening or from a trace (document 02, A.7: "in a history the trace, stopped or not, counts as an opening with the
-- takes and releases it did").
--     Start        where a history starts
--     begun        the book that the start left
--     did          the takes and releases that it did: none for an opening
--     Begins       what a caller sees of a start, by its function's contract
--     AsOpening    after a start all is as after an opening with these in front
use Rattle.std.specs.Prelude.{ℕ, List, [], ◌++◌, ◌⊎◌, ◌≡◌}
use Rattle.rules.specs.Rules.{Rules, rules_of}
use Rattle.fields.specs.Outcome.{Did}
use Rattle.model.specs.Calls.{Call}
use Rattle.model.specs.History.{Event}
use Rattle.vigbuso.specs.Direct.{open_on}
use Rattle.vigbuso.specs.Trace.{TraceEnds}
use Rattle.refinement.specs.Direct.{Reply}
use Rattle.refinement.specs.Run.{replies_from, book_from}
use Rattle.trace.specs.Words.{trace_on}
use Rattle.demands.specs.Call.{call}
use Rattle.demands.specs.Run as Opening
use Rattle.demands.specs.Run.{Opens, answered}
use Rattle.demands.specs.Trace.{did_calls}

pub data Start : Type 0 where
  opening : (n : ℕ) (rows b : List ℕ) → Start
  trace : (n : ℕ) (b ws bl fl dn : List ℕ) → Start

abbrev pub pages : Start → ℕ
pages (opening n rows b) = n
pages (trace n b ws bl fl dn) = n

abbrev pub lent : Start → List ℕ
lent (opening n rows b) = b
lent (trace n b ws bl fl dn) = b

-- the rule rows: a "trace opens without rows" (document 02, A.9); and the limits that they give each class
abbrev pub rule_rows : Start → List ℕ
rule_rows (opening n rows b) = rows
rule_rows (trace n b ws bl fl dn) = []

abbrev pub rules : Start → Rules
rules s = rules_of (rule_rows s)

abbrev pub begun : Start → List ℕ
begun (opening n rows b) = (open_on b n rows).book
begun (trace n b ws bl fl dn) = (trace_on b n ws bl fl dn).book

abbrev pub did : Start → List Call
did (opening n rows b) = []
did (trace n b ws bl fl dn) = did_calls n ws bl fl

-- not refused by 1, 2, 19, 18 or 17; a trace that stops at 16 is a start
abbrev pub Starts : Start → Type 0
Starts s = Opens (pages s) (rule_rows s) (lent s)

-- the history with what the start did in front
abbrev pub calls : Start → List Call → List Call
calls s xs = did s ++ xs

-- the book after the calls xs, and what was answered to these; and since the opening: to what the start did, then to these
abbrev pub book_after : Start → List Call → List ℕ
book_after s xs = book_from call (begun s) xs

abbrev pub since : Start → List Call → List Reply
since s xs = replies_from call (begun s) xs

-- the reply to one more call
abbrev pub next : Start → List Call → Call → Reply
next s xs x = call (book_after s xs) x

abbrev pub replies : Start → List Call → List Reply
replies s xs = Opening.run (pages s) (rule_rows s) (lent s) (did s) ++ since s xs

abbrev pub observed : Start → List Call → List Event
observed s xs = answered (calls s xs) (replies s xs)

-- an opening that returned 0, or a trace that returned 0 or 16, left the book b'
pub data Begins : Start → List ℕ → Type 0 where
  opens : (n : ℕ) (rows b b' : List ℕ) → Did 0 b' (open_on b n rows) → Begins (opening n rows b) b'
  traces : (n : ℕ) (b ws bl fl dn : List ℕ) (r : ℕ) (b' bl' fl' dn' : List ℕ) → TraceEnds (trace_on b n ws bl fl dn) r b' bl' fl' dn' → (r ≡ 0) ⊎ (r ≡ 16)
      → Begins (trace n b ws bl fl dn) b'

-- after a start, the book and each reply are those after an opening with the start's calls in front
pub record AsOpening (s : Start) (xs : List Call) : Type 0 where
  pub book : book_after s xs ≡ Opening.book_after (pages s) (rule_rows s) (lent s) (calls s xs)
  pub answers : replies s xs ≡ Opening.run (pages s) (rule_rows s) (lent s) (calls s xs)
