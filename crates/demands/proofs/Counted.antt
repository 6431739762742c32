-- A report's three counts after every history of the exported calls are those of the history.
use Rattle.facts.proofs.Prelude.{List, ◌∙◌, ap}
use Rattle.model.specs.Calls as Calls
use Rattle.model.specs.Calls.{Call}
use Rattle.model.specs.Heap.{figures}
use Rattle.model.specs.History.{heap_after}
use Rattle.model.proofs.Theorems as Model
use Rattle.demands.specs.Call.{call}
use Rattle.demands.specs.Start.{Start, pages, rule_rows, rules, lent, Starts, calls}
use Rattle.demands.specs.Counted.{Counted}
use Rattle.demands.proofs.Histories.{next-agrees}
use Rattle.demands.proofs.Starts.{as_opening}
use Rattle.demands.proofs.Idle.{report-answer}

pub counted : (s : Start) → Starts s → (xs : List Call) → Counted s xs
counted s o xs =
    let ys = calls s xs in
    let H = heap_after (pages s) (rules s) ys in
    record {
      figures = figures (pages s) H;
      reports = ap (λ d. (call d Calls.report).answer) (as_opening s o xs).book ∙ (next-agrees (pages s) (rule_rows s) (lent s) o ys Calls.report).answer ∙ report-answer (pages s) H;
      counted = Model.counted (pages s) (rules s) ys;
    }
