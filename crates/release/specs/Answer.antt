-- What a release by list answers, as document 01's numbers and values.
use Rattle.std.specs.Prelude.{ℕ, zero, suc}

-- a refusal's number, or the page's fate
pub data Released : Type 0 where
  Refused : ℕ → Released
  Fate : ℕ → Released

abbrev pub answer_as : ℕ → ℕ → Released
answer_as zero f = Fate f
answer_as (suc k) f = Refused (suc k)
