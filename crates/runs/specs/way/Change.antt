-- The arena's record after a commit, by what that came to, and after a give.
use Rattle.std.specs.Prelude.{ℕ, ◌+◌, ◌-◌, true, false, cond}
use Rattle.model.specs.Arena.{more}
use Rattle.runs.specs.declared.Arena.{Arena}
use Rattle.runs.specs.declared.record.Draw.{Draw}
use Rattle.runs.specs.declared.record.Gain.{Gain}

abbrev pub drawn_by : Draw → Arena → Arena
drawn_by d a = record {
  state = d.state;
  frontier = a.frontier + d.ahead;
  count = d.count;
  total = a.total - d.cut;
  commits = cond d.commit (more a.commits) a.commits;
  reuses = cond d.reuse (more a.reuses) a.reuses;
  abandoned = a.abandoned;
}

abbrev pub gained_by : Gain → Arena → Arena
gained_by p a = record {
  state = a.state;
  frontier = a.frontier;
  count = p.count;
  total = a.total + p.pages;
  commits = a.commits;
  reuses = a.reuses;
  abandoned = cond p.abandoned (more a.abandoned) a.abandoned;
}

-- so many holes are left, and they gain m pages; or they gain none, and the run is abandoned
abbrev pub gains : ℕ → ℕ → Gain
gains k m = record { count = k; pages = m; abandoned = false }

abbrev pub lost : ℕ → Gain
lost k = record { count = k; pages = 0; abandoned = true }
