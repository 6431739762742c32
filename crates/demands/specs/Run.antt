-- Histories on the words (document 01, "The histories of demand 3").
--     Opens       an arena of n pages is opened on the book b with these rule rows (document 02, A.9), and not refused; `Room` says when
--     run         the replies to the calls of a history from that opening; `book_after` the book that it leaves
--     next        the reply to one more call
--     observed    the calls with their answers, as the model's definitions of entries, holds and a class's answers read them
--     recounted   the same with what the arena gave at each call, as the definitions of a class's runs read them
use Rattle.std.specs.Prelude.{ℕ, ◌≤◌, List, [], ◌∷◌, ◌++◌, ◌≡◌, length}
use Rattle.std.proofs.Math.Option.{none}
use Rattle.rules.specs.Rules.{Rules, rows_fault}
use Rattle.fields.specs.Field.{words}
use Rattle.fields.specs.Ranges.{max_pages}
use Rattle.model.specs.Calls.{Call}
use Rattle.model.specs.Heap.{step}
use Rattle.model.specs.History.{Event, events, heap_after}
use Rattle.vigbuso.specs.Direct.{open_on}
use Rattle.refinement.specs.Direct.{Reply}
use Rattle.refinement.specs.Run.{replies_from, book_from}
use Rattle.demands.specs.Call.{call}

-- "It starts from an unrefused opening"
abbrev pub Opens : ℕ → List ℕ → List ℕ → Type 0
Opens n rows b = (open_on b n rows).code ≡ 0

-- what numbers 1, 2, 19, 18 and 17 leave: opening asks no more of a book and of rows
pub record Room (n : ℕ) (rows b : List ℕ) : Type 0 where
  pub some-pages : 1 ≤ n
  pub few-pages : n ≤ max_pages
  pub long : words n ≤ length b
  pub ruled : rows_fault rows ≡ 0

-- "Each call gets the book as the last one left it"
abbrev pub run : ℕ → List ℕ → List ℕ → List Call → List Reply
run n rows b xs = replies_from call (open_on b n rows).book xs

abbrev pub book_after : ℕ → List ℕ → List ℕ → List Call → List ℕ
book_after n rows b xs = book_from call (open_on b n rows).book xs

abbrev pub next : ℕ → List ℕ → List ℕ → List Call → Call → Reply
next n rows b xs x = call (book_after n rows b xs) x

-- what the arena gives at a call is "never read from the book": it is not told here, and `none` stands in its place
abbrev pub answered : List Call → List Reply → List Event
answered [] rs = []
answered (x ∷ xs) [] = []
answered (x ∷ xs) (r ∷ rs) = record { call = x; answer = r.answer; run = none } ∷ answered xs rs

abbrev pub observed : ℕ → List ℕ → List ℕ → List Call → List Event
observed n rows b xs = answered xs (run n rows b xs)

-- it is "worked from the opening over the arguments of all calls up to this one" (`events` sees no book)
abbrev pub with_runs : List Event → List Event → List Event
with_runs [] us = []
with_runs (v ∷ vs) [] = []
with_runs (v ∷ vs) (u ∷ us) = record { call = v.call; answer = v.answer; run = u.run } ∷ with_runs vs us

abbrev pub recounted : ℕ → Rules → List Call → List Reply → List Event
recounted n limits xs rs = with_runs (answered xs rs) (events n limits xs)

-- and with one more call, on the book b that those before it left
abbrev pub recounted_with : ℕ → Rules → List ℕ → List Call → List Reply → Call → List Event
recounted_with n limits b xs rs x = recounted n limits xs rs ++ record { call = x; answer = (call b x).answer; run = (step n (heap_after n limits xs) x).run } ∷ []
