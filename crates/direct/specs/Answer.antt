-- The answers of the direct calls, as document 01's numbers and values.
--     Grow               a growth: a refusal's number, yes or no
--     Releases          a release answered r and left the book b, as the definition says
--     Report             a report: a refusal's number, or the figures
--     report_of          what a report answers
use Rattle.std.specs.Prelude.{ℕ, zero, suc, List, Bool, true, false, cond, ◌≡◌}
use Rattle.model.specs.declared.Figures.{Figures}
use Rattle.arena.specs.Valid.{report_valid}
use Rattle.arena.specs.Calls.{Done, figures}

pub data Grow : Type 0 where
  Refused : ℕ → Grow
  Yes : Grow
  No : Grow

abbrev pub grown_as : ℕ → Bool → Grow
grown_as zero true = Yes
grown_as zero false = No
grown_as (suc k) y = Grow.Refused (suc k)

abbrev pub grow_code : Grow → ℕ
grow_code (Grow.Refused k) = k
grow_code Yes = 0
grow_code No = 0

-- a release
pub record Releases (r : ℕ) (b : List ℕ) (o : Done) : Type 0 where
  pub code : r ≡ o.code
  pub book : b ≡ o.book

pub data Report : Type 0 where
  Refused : ℕ → Report
  Reported : Figures → Report

unfoldable pub report_of : ℕ → List ℕ → Report
report_of n b = cond (report_valid n b) (Reported (figures n b)) (Report.Refused 13)
