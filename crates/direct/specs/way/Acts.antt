-- That the code of a growth and of a release ended as the definitions say.
--     Grew, Grows    a growth answered r and left the book b
use Rattle.std.specs.Prelude.{ℕ, List, true, cond, not, ◌≡◌}
use Rattle.facts.specs.Lists.{is_some}
use Rattle.model.specs.Heap.{direct}
use Rattle.arena.specs.Owners.{owner_code}
use Rattle.arena.specs.Valid.{give_valid, grow_valid}
use Rattle.arena.specs.Calls.{Committed, commit_refused, Done, done_refused, given}
use Rattle.runs.specs.way.Act.{grow_acts}
use Rattle.runs.specs.Answer.{Commit, Refused, Run, Nothing}
use Rattle.direct.specs.Answer.{Grow, Yes, No, grown_as}

pub record Grew (r : Grow) (b : List ℕ) (o : Done) : Type 0 where
  pub answer : r ≡ grown_as o.code o.yes
  pub book : b ≡ o.book

-- the same against what a commit of the added pages answers
abbrev pub grow_commit : Commit → Grow
grow_commit (Refused k) = Grow.Refused k
grow_commit (Run q f) = Yes
grow_commit Nothing = No

pub record Grows (r : Grow) (b : List ℕ) (o : Committed) : Type 0 where
  pub answer : r ≡ grown_as o.code (is_some o.run)
  pub book : b ≡ o.book

unfoldable pub valid_grow : ℕ → List ℕ → ℕ → ℕ → ℕ → Committed
valid_grow n b h e m = cond (grow_valid n b h e m) (grow_acts n b h e m (owner_code direct)) (commit_refused b 13)

-- from number 13 on
unfoldable pub held_release : ℕ → List ℕ → ℕ → ℕ → Done
held_release n b q m = cond (not (give_valid n b m)) (done_refused b 13) (record { code = 0; book = given b q m; yes = true })
