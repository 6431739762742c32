-- A history's calls so far, and the arena after them, as the code keeps them: the struct Node of src/node.rt.
--     start                 before any call
--     may_call, after_call    the call that a number stands for: whether it may come next, and what it leaves
use Rattle.std.specs.Prelude.{ℕ, ◌+◌, ◌-◌, Bool, cond, not, List, leb, eqb, get_or, set, replicate}
use Rattle.listing.specs.declared.node.Node.{Node}

-- "Arena 1 to 3 pages, length 0 to 4"
abbrev pub most_pages : ℕ
most_pages = 3

abbrev pub most_calls : ℕ
most_calls = 4

-- a number up to 3 is a commit of so many pages; 4 + j is the release of the run from call j (from 0)
abbrev pub first_release : ℕ
first_release = 4

-- before any call
abbrev pub start : ℕ → Node
start n = record { numbers = replicate most_calls 0; calls = 0; runs = replicate most_calls 0; hole = 0; fresh = n }

-- ---- one call more
abbrev pub with_arena : List ℕ → ℕ → ℕ → Node → Node
with_arena runs hole fresh x = record { numbers = x.numbers; calls = x.calls; runs = runs; hole = hole; fresh = fresh }

-- from the hole, from the pages never given out, or in vain
unfoldable pub commit_node : Node → ℕ → Node
commit_node x p =
    cond (leb p x.hole) (with_arena (set x.runs x.calls p) (x.hole - p) x.fresh x)
    (cond (leb p x.fresh) (with_arena (set x.runs x.calls p) x.hole (x.fresh - p) x)
    x)

-- the run from call j (from 0)
abbrev pub release_node : Node → ℕ → Node
release_node x j = with_arena (set x.runs j 0) (get_or x.runs j 0) x.fresh x

-- the number of call i (from 0) put down
abbrev pub noted : ℕ → ℕ → Node → Node
noted i number x = record { numbers = set x.numbers i number; calls = i + 1; runs = x.runs; hole = x.hole; fresh = x.fresh }

unfoldable pub may_call : ℕ → Node → ℕ → Bool
may_call n x number = cond (leb number most_pages) (leb number n) (not (eqb (get_or x.runs (number - first_release) 0) 0))

unfoldable pub after_call : Node → ℕ → Node
after_call x number = noted x.calls number (cond (leb number most_pages) (commit_node x number) (release_node x (number - first_release)))
