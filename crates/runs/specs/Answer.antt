-- What a commit answers, as document 01's numbers and values.
--     Commit     a refusal's number, a run's first page and whether it is fresh, or no run
--     Answers    a commit answered r and left the book b, as the definition says
use Rattle.std.specs.Prelude.{◌≡◌, ℕ, zero, suc, Bool, List}
use Rattle.std.proofs.Math.Option.{Option, none, some}
use Rattle.arena.specs.Calls.{Committed}

pub data Commit : Type 0 where
  Refused : ℕ → Commit
  Run : ℕ → Bool → Commit
  Nothing : Commit

abbrev pub answer_of : ℕ → Option ℕ → Bool → Commit
answer_of zero none f = Nothing
answer_of zero (some q) f = Run q f
answer_of (suc k) r f = Refused (suc k)

abbrev pub commit_answer : Committed → Commit
commit_answer o = answer_of o.code o.run o.fresh

pub record Answers (r : Commit) (b : List ℕ) (o : Committed) : Type 0 where
  pub answer : r ≡ commit_answer o
  pub book : b ≡ o.book

-- the number of each case
abbrev pub commit_code : Commit → ℕ
commit_code (Refused k) = k
commit_code (Run q f) = 0
commit_code Nothing = 0
