-- The numbers that every call tests first: 1 and 2 (meta_fault) for each, 3 where it has a host word, 4 where it names a class.
use Rattle.std.specs.Prelude.{ℕ, Bool, cond, ◌&&◌, List, eqb, ltb, leb}
use Rattle.words.specs.Host.{bad_host}
use Rattle.classes.specs.Shape.{class_count}
use Rattle.fields.specs.Ranges.{meta_fault}

-- the first of numbers 1 to 3 that applies to a book and a host word, or 0
unfoldable pub call_fault : List ℕ → ℕ → ℕ
call_fault b h = cond (eqb (meta_fault b) 0) (cond (bad_host h) 3 0) (meta_fault b)

-- and number 4, for a class c of so many
unfoldable pub class_fault : List ℕ → ℕ → ℕ → ℕ → ℕ
class_fault b h many c = cond (eqb (call_fault b h) 0) (cond (leb many c) 4 0) (call_fault b h)

-- neither 1 nor 2 applies to the book, and c is one of the 76 classes: for calls that refuse nothing
unfoldable pub admits : List ℕ → ℕ → Bool
admits b c = eqb (meta_fault b) 0 && ltb c class_count
