-- Histories from a trace are histories from an opening with its takes and releases in front.
--     begins         what a caller sees of a start makes it one, with the book that it left
--     as-opening     the book and the replies are those
--     observed-is    so is what is told of them
--     represents     so the book stands for the model's heap; `next-is` and `next-agrees` are of one more call
use Rattle.facts.proofs.Prelude.{ℕ, List, [], ◌∷◌, ◌++◌, ◌≡◌, refl, sym, ap, subst}
use Rattle.model.specs.Calls.{Call}
use Rattle.model.specs.Heap.{step}
use Rattle.model.specs.History.{heap_after}
use Rattle.refinement.specs.way.Represents.{Represents}
use Rattle.refinement.specs.Direct.{Reply, Agrees}
use Rattle.refinement.specs.Run.{call_reply, replies_from, book_from}
use Rattle.refinement.proofs.Whole.{call-whole}
use Rattle.demands.specs.Call.{call}
use Rattle.demands.specs.Run as Opening
use Rattle.demands.specs.Run.{answered}
use Rattle.demands.specs.Start.{Start, opening, trace, Begins, opens, traces, pages, rule_rows, rules, lent, begun, did, Starts, calls, book_after, next, observed, AsOpening}
use Rattle.demands.proofs.Calls.{room, call-is}
use Rattle.demands.proofs.Histories.{book-split, run-represents}
use Rattle.demands.proofs.Trace as Trace
use Rattle.demands.proofs.Trace.{trace-opens}

pub replies-append : (b : List ℕ) (xs ys : List Call) → replies_from call b (xs ++ ys) ≡ replies_from call b xs ++ replies_from call (book_from call b xs) ys
replies-append b [] ys = refl
replies-append b (x ∷ xs) ys = ap (λ (rs : List Reply). call b x ∷ rs) (replies-append (call b x).book xs ys)

pub begins : {s : Start} {b' : List ℕ} → Begins s b' → Starts s × (b' ≡ begun s)
begins (opens n rows b b' d) = (sym d.answer, d.book)
begins (traces n b ws bl fl dn r b' bl' fl' dn' e z) = (((Trace.trace).starts n b ws bl fl dn r b' bl' fl' dn' e).0 z, e.book)

pub begun-is : (s : Start) → Starts s → begun s ≡ Opening.book_after (pages s) (rule_rows s) (lent s) (did s)
begun-is (opening n rows b) o = refl
begun-is (trace n b ws bl fl dn) o = (trace-opens n b o ws bl fl dn).book

pub as_opening : (s : Start) → Starts s → (xs : List Call) → AsOpening s xs
as_opening s o xs = record {
  book = rw (begun-is s o) (sym (book-split _ (did s) xs));
  answers = rw (begun-is s o) (sym (replies-append _ (did s) xs));
}

pub observed-is : (s : Start) → Starts s → (xs : List Call) → observed s xs ≡ Opening.observed (pages s) (rule_rows s) (lent s) (calls s xs)
observed-is s o xs = ap (answered (calls s xs)) (as_opening s o xs).answers

module _ (s : Start) (o : Starts s) (xs : List Call) where
  pub represents : Represents (pages s) (book_after s xs) (heap_after (pages s) (rules s) (calls s xs))
  represents =
      subst (λ (d : List ℕ). Represents (pages s) d (heap_after (pages s) (rules s) (calls s xs))) (sym (as_opening s o xs).book)
      (run-represents (pages s) (rule_rows s) (lent s) o (calls s xs))

  -- one more call
  pub next-is : (x : Call) → next s xs x ≡ call_reply (pages s) (book_after s xs) x
  next-is x =
      let r = room (pages s) (rule_rows s) (lent s) o in
      call-is (pages s) (book_after s xs) r.some-pages r.few-pages (heap_after (pages s) (rules s) (calls s xs)) represents x

  pub next-agrees : (x : Call) → Agrees (Represents (pages s)) (next s xs x) (step (pages s) (heap_after (pages s) (rules s) (calls s xs)) x)
  next-agrees x = rw next-is (call-whole (pages s) (room (pages s) (rule_rows s) (lent s) o).few-pages (rules s) (calls s xs) (book_after s xs) represents x)
