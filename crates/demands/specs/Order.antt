-- Document 02, A.8, as a statement about every history of calls on the words: the order of the holes shows in no answer, and the
-- three counts in a report alone. That the hole which is taken has the lowest page is `Which`, in `Commits`, in Demand2.
use Rattle.std.specs.Prelude.{List, ◌++◌, map, ◌≡◌}
use Rattle.model.specs.Calls.{Call}
use Rattle.model.specs.Order.{SameHeap, counts_aside}
use Rattle.model.specs.History.{heap_after, events_from}
use Rattle.refinement.specs.Run.{replies_from, answers_in}
use Rattle.demands.specs.Call.{call}
use Rattle.demands.specs.Start.{Start, pages, rules, Starts, calls, book_after}

-- two starts on arenas of one length, each an opening or a trace, and two histories that lead to heaps which differ in the order of their holes
-- and in the three counts alone: all further calls zs are answered alike but for these counts in a report, with the same runs, and the heaps go
-- on differing in these alone
pub record SameAfter (s₁ s₂ : Start) (xs ys zs : List Call) : Type 0 where
  pub alike : map counts_aside (answers_in (replies_from call (book_after s₁ xs) zs)) ≡ map counts_aside (answers_in (replies_from call (book_after s₂ ys) zs))
  pub runs : map (λ v. v.run) (events_from (pages s₁) (heap_after (pages s₁) (rules s₁) (calls s₁ xs)) zs) ≡ map (λ v. v.run) (events_from (pages s₂) (heap_after (pages s₂) (rules s₂) (calls s₂ ys)) zs)
  pub stays : SameHeap (heap_after (pages s₁) (rules s₁) (calls s₁ (xs ++ zs))) (heap_after (pages s₂) (rules s₂) (calls s₂ (ys ++ zs)))

pub record Orderless : Type 0 where
  pub after : (s₁ s₂ : Start) → Starts s₁ → Starts s₂ → pages s₁ ≡ pages s₂ → (xs ys : List Call)
      → SameHeap (heap_after (pages s₁) (rules s₁) (calls s₁ xs)) (heap_after (pages s₂) (rules s₂) (calls s₂ ys)) → (zs : List Call) → SameAfter s₁ s₂ xs ys zs
