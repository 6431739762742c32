-- The arena's record: read from the words, changed in place.
use Rattle.std.specs.Prelude.{ℕ, ◌+◌, Bool, cond, List}
use Rattle.fields.specs.Field.{arena, state, frontier, holes, hole_pages, commits, commits_high, reuses, reuses_high, abandoned, abandoned_high, get}
use Rattle.fields.specs.Wide.{get_wide}
use Rattle.model.specs.Arena.{more}
use Rattle.runs.specs.declared.Arena.{Arena}
use Rattle.arena.specs.Store.{store_top, store_counts}

abbrev pub record_of : List ℕ → Arena
record_of b = record {
  state = get b (arena state);
  frontier = get b (arena frontier);
  count = get b (arena holes);
  total = get b (arena hole_pages);
  commits = get_wide b commits commits_high;
  reuses = get_wide b reuses reuses_high;
  abandoned = get_wide b abandoned abandoned_high;
}

abbrev pub store_record : List ℕ → Arena → List ℕ
store_record b a = store_top (store_counts b a.commits a.reuses a.abandoned) a.state a.frontier a.count a.total

-- the frontier moved on by m pages; a commit counted, a reuse too unless the run is fresh; a run abandoned
abbrev pub advanced : ℕ → Arena → Arena
advanced m a = record { state = a.state; frontier = a.frontier + m; count = a.count; total = a.total; commits = a.commits; reuses = a.reuses; abandoned = a.abandoned }

abbrev pub counted : Bool → Arena → Arena
counted fresh a = record { state = a.state; frontier = a.frontier; count = a.count; total = a.total; commits = more a.commits; reuses = cond fresh a.reuses (more a.reuses); abandoned = a.abandoned }

abbrev pub abandoning : Arena → Arena
abandoning a = record { state = a.state; frontier = a.frontier; count = a.count; total = a.total; commits = a.commits; reuses = a.reuses; abandoned = more a.abandoned }
