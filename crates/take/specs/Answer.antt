-- What a take answers, as document 01's numbers and values.
--     Take         a refusal's number, or how many blocks and whether all are virgin
--     answer_of    the answer of a number and these
--     told_take    what the code's result tells
use Rattle.std.specs.Prelude.{ℕ, zero, suc, Bool, Result, Ok, Err}
use Rattle.words.specs.declared.refusal.Refusal.{Refusal}
use Rattle.words.specs.Refusal.{number_of}
use Rattle.take.specs.declared.call.Taken.{Taken}

pub data Take : Type 0 where
  Refused : ℕ → Take
  Took : ℕ → Bool → Take

abbrev pub answer_of : ℕ → ℕ → Bool → Take
answer_of zero m v = Took m v
answer_of (suc k) m v = Refused (suc k)

abbrev pub told_take : Result Taken Refusal → Take
told_take (Ok t) = Took t.count t.virgin
told_take (Err e) = Refused (number_of e)
