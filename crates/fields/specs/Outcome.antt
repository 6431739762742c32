-- What a function that may refuse answers: document 01's number, or 0, and the book that it leaves.
--     Did        a function answered r and left the book b, as the outcome says
--     put_at      a write to a page's field where there is a page: a page is stored as its number and one, and 0 is none
use Rattle.std.specs.Prelude.{ℕ, zero, suc, Bool, ◌&&◌, List, ◌≡◌, eqb}
use Rattle.fields.specs.Field.{PageField, Field, page, region, off, block, row, put}

pub record Outcome : Type 0 where
  pub code : ℕ
  pub book : List ℕ

pub record Did (r : ℕ) (b : List ℕ) (o : Outcome) : Type 0 where
  pub answer : r ≡ o.code
  pub book : b ≡ o.book

-- 0 and the book as it is now; a number and the book as it was
abbrev pub ends : ℕ → List ℕ → Outcome
ends k b = record { code = k; book = b }

abbrev pub put_at : List ℕ → PageField → ℕ → ℕ → List ℕ
put_at b k zero v = b
put_at b k (suc q) v = put b (page k q) v

-- whether such a write is at the field; as `same`, it computes at the field's name
abbrev pub same_at : PageField → ℕ → Field → Bool
same_at k code g = eqb 4 (region g) && (eqb (off (page k 0)) (off g) && (eqb 0 (block g) && eqb code (suc (row g))))
