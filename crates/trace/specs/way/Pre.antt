-- What the functions of a trace ask and ensure.
use Rattle.std.specs.Prelude.{ℕ, ◌+◌, ◌≤◌, List, length, ltb, cond, ◌≡◌, Option, Some, None, Result}
use Rattle.std.proofs.Math.Seq.{paste}
use Rattle.words.specs.declared.refusal.Refusal.{Refusal}
use Rattle.fields.specs.Field.{words}
use Rattle.fields.specs.Ranges.{max_pages}
use Rattle.calls.specs.Take.{Took, took_none}
use Rattle.take.specs.declared.call.Taken.{Taken}
use Rattle.take.specs.Answer.{answer_of, told_take}

pub record BookPre (n : ℕ) (b : List ℕ) : Type 0 where
  pub few : n ≤ max_pages
  pub long : words n ≤ length b

-- OWNER of a page of the class: its id and 1, 0 for none
abbrev pub owner_of : Option ℕ → ℕ
owner_of None = 0
owner_of (Some c) = c + 1

-- the take t on the book b, refused where the list bl has no room for its blocks from place i on
unfoldable pub fitted : Took → List ℕ → List ℕ → ℕ → Took
fitted t b bl i = cond (ltb (length bl) (i + t.count)) (took_none b t.list 5) t

-- a take answered r, left the book b, and put its blocks into the list, from place i on
pub record TakesAt (r : Result Taken Refusal) (b bl : List ℕ) (t : Took) (bl₀ : List ℕ) (i : ℕ) : Type 0 where
  pub answer : told_take r ≡ answer_of t.code t.count t.virgin
  pub book : b ≡ t.book
  pub few : t.count ≤ 64
  pub blocks : bl ≡ paste bl₀ i t.list t.count
