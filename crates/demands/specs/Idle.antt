-- Document 02, A.5, over the exported calls: a report on the book after the calls xs since a start, which is an opening or a trace. It returns r,
-- and fs is what stands in its six figures afterwards. proofs/Idle proves it.
use Rattle.std.specs.Prelude.{ℕ, List, ◌≡◌}
use Rattle.model.specs.Calls.{Call}
use Rattle.model.specs.Demands.{Figured}
use Rattle.vigbuso.specs.Direct.{figures_in}
use Rattle.demands.specs.Start.{Start, pages, rules, calls}

pub record Idle (s : Start) (xs : List Call) (r : ℕ) (fs : List ℕ) : Type 0 where
  pub unrefused : r ≡ 0
  -- pages held by the history and by pages, idle ones and their overlap by pages: `held-history`, `idle-counts`, `overlap_counts`
  pub figured : Figured (pages s) (rules s) (calls s xs) (figures_in fs)
