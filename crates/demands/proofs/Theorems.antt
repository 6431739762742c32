-- Demands 2 and 3 hold of every history of the exported calls, on the words.
use Rattle.facts.proofs.Prelude.{ℕ, ◌≤◌, List, ◌∷◌, ◌++◌, ◌↔◌, ◌≡◌, sym, ap, ◌∙◌, subst, All}
use Rattle.rules.specs.Rules.{rules_of}
use Rattle.fields.specs.Ranges.{max_pages}
use Rattle.model.specs.declared.Hole.{Hole}
use Rattle.model.specs.Calls.{Call, Answer}
use Rattle.model.specs.Heap.{Heap}
use Rattle.model.specs.History.{answers, events, heap_after, calls_of, answers_of, runs_of}
use Rattle.model.specs.Entries.{Entry}
use Rattle.model.specs.Examples.{history, on_ruled}
use Rattle.model.proofs.Theorems as Model
use Rattle.model.proofs.Alone as Alone
use Rattle.arena.specs.Load.{load_arena}
use Rattle.vigbuso.specs.Direct.{open_on}
use Rattle.refinement.specs.way.Represents.{Represents}
use Rattle.refinement.specs.Direct.{Reply}
use Rattle.refinement.specs.Run.{call_reply, replies_from, answers_in}
use Rattle.demands.specs.Call.{call}
use Rattle.demands.specs.Run.{Opens, Room, run, book_after, next, observed}
use Rattle.demands.specs.Contracts.{Observes, InTurn}
use Rattle.demands.specs.Start.{Start, pages, rule_rows, rules, lent, Starts, calls, since, replies, Begins}
use Rattle.demands.specs.Demands.{Demand2At, Demand2, Demand3, TableBytes}
use Rattle.demands.proofs.Calls as Calls
use Rattle.demands.proofs.Contracts as Contracts
use Rattle.demands.proofs.Histories as Histories
use Rattle.demands.proofs.Observed.{observed-answers, observed-disjoint, observed-iso}
use Rattle.demands.proofs.Sizes as Sizes
use Rattle.demands.proofs.Fits.{commit-fits, run_fits, holes-counted, take-yields, take-fewer, take-most, take-turns, take-virgin}
use Rattle.demands.proofs.Returns.{word-returns, list-returns, repeated, not-out, not-together}
use Rattle.demands.proofs.ChunkReturns.{chunks_return, chunks-repeated, chunks-not_out, chunks-not_grouped}
use Rattle.demands.proofs.Held.{held-releases, unheld-refused, held-grows, unheld-stays, growth-fits}
use Rattle.demands.proofs.Gives.{none_touch, run-given, commit-given, growth-given, class-given}
use Rattle.demands.proofs.Unused.{commit-unused, growth-unused, class-unused}
use Rattle.demands.proofs.Starts.{begins, as_opening, observed-is}

-- what a caller sees of an exported function, by its contract, is the reply of `call`; of calls in turn from an opening or a trace, that of `since`
pub observes_call : {b : List ℕ} {x : Call} {w : Reply} → Observes b x w → w ≡ call b x
observes_call = Contracts.observes_call

pub in_turn_run : (s : Start) (b' : List ℕ) (xs : List Call) (ws : List Reply) → Begins s b' → InTurn b' xs ws → Starts s × (ws ≡ since s xs)
in_turn_run s b' xs ws d t = let g = begins d in (g.0, Contracts.in_turn_replies t ∙ ap (λ (m : List ℕ). replies_from call m xs) g.1)

-- an opening is refused by numbers 1, 2, 19, 18 and 17 alone: every book that is long enough can be opened, whatever it holds, with rows that
-- cover the classes
pub opens-exactly : (n : ℕ) (rows b : List ℕ) → Opens n rows b ↔ Room n rows b
opens-exactly n rows b = (Calls.room n rows b, Calls.opens n rows b)

-- a refused opening may stand anywhere: what follows it is answered as without it
pub refused_opening_stays : (n : ℕ) (rows b : List ℕ) → (Opens n rows b → ⊥) → (xs : List Call) → replies_from call (open_on b n rows).book xs ≡ replies_from call b xs
refused_opening_stays n rows b r xs = rw (Calls.refused-book n rows b r)

-- every call of a history is a call on the book that the calls before it left
pub run-calls : (n : ℕ) (rows b : List ℕ) (xs : List Call) (x : Call) (ys : List Call) → run n rows b (xs ++ x ∷ ys) ≡ run n rows b xs ++ (next n rows b xs x ∷ replies_from call (next n rows b xs x).book ys)
run-calls = Histories.run-calls

-- on a book that stands for a heap, a call is the refinement's
pub call-is : (n : ℕ) (b : List ℕ) → 1 ≤ n → n ≤ max_pages → (H : Heap) → Represents n b H → (x : Call) → call b x ≡ call_reply n b x
call-is = Calls.call-is

-- the answers are the model's; number 13 is never among the codes; the book stands for the model's heap
pub run-answers : (n : ℕ) (rows b : List ℕ) → Opens n rows b → (xs : List Call) → answers_in (run n rows b xs) ≡ answers n (rules_of rows) xs
run-answers = Histories.run-answers

pub run-valid : (s : Start) → Starts s → (xs : List Call) → All (λ (r : Reply). r.code ≡ 13 → ⊥) (replies s xs)
run-valid s o xs = rw (as_opening s o xs).answers (Histories.run-valid (pages s) (rule_rows s) (lent s) o (calls s xs))

pub run-represents : (n : ℕ) (rows b : List ℕ) → Opens n rows b → (xs : List Call) → Represents n (book_after n rows b xs) (heap_after n (rules_of rows) xs)
run-represents = Histories.run-represents

-- an example of document 01 that is a history finds on the words what it finds on the model (`examples_hold`, crate model): each call's
-- answer, and the holes stored after the last; with no rows the limits are document 01's (`plain-rules`, crate rules)
pub examples-run : (rows b : List ℕ) → Opens 64 rows b → (xs : List Call) (zs : List Answer) (hs : List Hole)
    → history (answers_in (run 64 rows b xs)) (load_arena (book_after 64 rows b xs)).store.holes ≡ (on_ruled rows xs zs hs).found
unfolding on_ruled
examples-run rows b o xs zs hs = rw (run-answers 64 rows b o xs, (run-represents 64 rows b o xs).arena.loads)

-- after an opening
at-opening : (n : ℕ) (rows b : List ℕ) → Opens n rows b → (xs : List Call) → Demand2At n (rules_of rows) (book_after n rows b xs) xs (run n rows b xs)
at-opening n rows b o xs = record {
  rules = run-answers n rows b o xs;
  arena = (run-represents n rows b o xs).arena.loads;
  commits = commit-fits n rows b o xs;
  runs = run_fits n rows b o xs;
  takes = take-yields n rows b o xs;
  fewer = take-fewer n rows b o xs;
  most = take-most n rows b o xs;
  sources = take-turns n rows b o xs;
  virgin = take-virgin n rows b o xs;
  returns = word-returns n rows b o xs;
  returns_list = list-returns n rows b o xs;
  returns_chunks = chunks_return n rows b o xs;
  repeated = repeated n rows b o xs;
  not_out = not-out n rows b o xs;
  not_together = not-together n rows b o xs;
  repeated_chunks = chunks-repeated n rows b o xs;
  not_out_chunks = chunks-not_out n rows b o xs;
  not_grouped = chunks-not_grouped n rows b o xs;
  releases = held-releases n rows b o xs;
  unheld = unheld-refused n rows b o xs;
  hole_total = holes-counted n rows b o xs;
  no_two_touch = none_touch n rows b o xs;
  gives = run-given n rows b o xs;
  gives_back = commit-given n rows b o xs;
  gives_growth = growth-given n rows b o xs;
  gives_of_class = class-given n rows b o xs;
  grows = held-grows n rows b o xs;
  unheld_growth = unheld-stays n rows b o xs;
  growths = growth-fits n rows b o xs;
  new_runs = commit-unused n rows b o xs;
  new_pages = growth-unused n rows b o xs;
  new_of_class = class-unused n rows b o xs;
  apart = observed-iso n rows b o xs (Model.iso-disjoint n (Calls.room n rows b o).few-pages (rules_of rows) xs);
}

-- after a trace it is the same, with what the trace did in front
pub demand_2 : (s : Start) → Starts s → (xs : List Call) → Demand2 s xs
demand_2 s o xs =
    let e = as_opening s o xs in
    let ys = calls s xs in
    subst (λ (d : List ℕ). Demand2At (pages s) (rules s) d ys (replies s xs)) (sym e.book)
    (subst (λ (rs : List Reply). Demand2At (pages s) (rules s) (book_after (pages s) (rule_rows s) (lent s) ys) ys rs) (sym e.answers) (at-opening (pages s) (rule_rows s) (lent s) o ys))

-- the bytes of an entry, of `disjoint`, `apart` and `Unused`, are its class's size in document 01's tables
pub block-bytes : (e : Entry) → TableBytes e
block-bytes = Sizes.block-bytes

-- a class's answers are the model's
both : (n₁ n₂ : ℕ) (r₁ r₂ b₁ b₂ : List ℕ) → Opens n₁ r₁ b₁ → Opens n₂ r₂ b₂ → (c : ℕ) (xs ys : List Call)
    → (answers_of c (events n₁ (rules_of r₁) xs) ≡ answers_of c (events n₂ (rules_of r₂) ys)) ↔ (runs_of c (events n₁ (rules_of r₁) xs) ≡ runs_of c (events n₂ (rules_of r₂) ys))
    → (answers_of c (observed n₁ r₁ b₁ xs) ≡ answers_of c (observed n₂ r₂ b₂ ys)) ↔ (runs_of c (events n₁ (rules_of r₁) xs) ≡ runs_of c (events n₂ (rules_of r₂) ys))
both n₁ n₂ r₁ r₂ b₁ b₂ o₁ o₂ c xs ys f = rw (observed-answers n₁ r₁ b₁ o₁ c xs, observed-answers n₂ r₂ b₂ o₂ c ys) f

-- after an opening
alone_at : (n₁ n₂ : ℕ) (r₁ r₂ b₁ b₂ : List ℕ) → Opens n₁ r₁ b₁ → Opens n₂ r₂ b₂ → (c : ℕ) (xs ys : List Call) → rules_of r₁ c ≡ rules_of r₂ c → calls_of c xs ≡ calls_of c ys
    → (answers_of c (observed n₁ r₁ b₁ xs) ≡ answers_of c (observed n₂ r₂ b₂ ys)) ↔ (runs_of c (events n₁ (rules_of r₁) xs) ≡ runs_of c (events n₂ (rules_of r₂) ys))
alone_at n₁ n₂ r₁ r₂ b₁ b₂ o₁ o₂ c xs ys lim e = both n₁ n₂ r₁ r₂ b₁ b₂ o₁ o₂ c xs ys (Alone.alone n₁ n₂ (rules_of r₁) (rules_of r₂) c xs ys lim e)

pub demand_3 : Demand3
demand_3 = record {
  alone = λ s₁ s₂ o₁ o₂ c lim xs ys e.
      rw (observed-is s₁ o₁ xs, observed-is s₂ o₂ ys) (alone_at (pages s₁) (pages s₂) (rule_rows s₁) (rule_rows s₂) (lent s₁) (lent s₂) o₁ o₂ c (calls s₁ xs) (calls s₂ ys) lim e);
  disjoint = λ s o xs.
      let n = pages s in
      rw (observed-is s o xs) (observed-disjoint n (rule_rows s) (lent s) o (calls s xs) ((Model.demand_3 n (Calls.room n (rule_rows s) (lent s) o).few-pages).disjoint (rules s) (calls s xs)));
}
