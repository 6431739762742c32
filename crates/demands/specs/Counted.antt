-- The three counts of a report over the exported calls, told from a history, from an opening or a trace. proofs/Counted proves it.
use Rattle.std.specs.Prelude.{List, ◌≡◌}
use Rattle.model.specs.declared.Figures.{Figures}
use Rattle.model.specs.Calls as Calls
use Rattle.model.specs.Calls.{Call, reported}
use Rattle.model.specs.Counted as Model
use Rattle.demands.specs.Call.{call}
use Rattle.demands.specs.Start.{Start, pages, rules, calls, book_after}

-- a report after the calls xs since a start
pub record Counted (s : Start) (xs : List Call) : Type 0 where
  pub figures : Figures
  pub reports : (call (book_after s xs) Calls.report).answer ≡ reported figures
  -- commits, reuses and abandoned are sums over the calls, modulo 2 to the 64th
  pub counted : Model.Counted (pages s) (rules s) (calls s xs) figures
