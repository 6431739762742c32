-- The runs of a class on the words. n is the arena's length, c a class's id, sh its shape, q a run's first page.
--     whole     the run at q is the class's: every page of it says so and names q, and it ends at or below FRONTIER
--     name_run   the pages of a run are made to name its first page
use Rattle.std.specs.Prelude.{ℕ, zero, suc, ◌+◌, Bool, ◌&&◌, List, eqb, leb}
use Rattle.facts.specs.Lists.{every, below}
use Rattle.classes.specs.declared.Shape.{Shape}
use Rattle.fields.specs.Field.{arena, page, owner, first, frontier, get, put}

abbrev pub of_run : List ℕ → ℕ → ℕ → ℕ → Bool
of_run b c q k = eqb (get b (page owner (q + k))) (suc c) && eqb (get b (page first (q + k))) q

unfoldable pub whole : ℕ → List ℕ → Shape → ℕ → ℕ → Bool
whole n b sh c q = leb (q + sh.pages) n && (leb (q + sh.pages) (get b (arena frontier)) && every (of_run b c q) (below sh.pages))

-- m pages from x on name f as their run's first page
unfoldable pub name_run : List ℕ → ℕ → ℕ → ℕ → List ℕ
name_run b f x zero = b
name_run b f x (suc m) = name_run (put b (page first x) f) f (suc x) m
