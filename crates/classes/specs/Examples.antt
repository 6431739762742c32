-- Examples of the lookup: document 01's P1 to P5 as document 02 restates them (A.6), and sizes beyond 32 bits.
use Rattle.std.specs.Prelude.{ℕ, List, [], ◌∷◌}
use Rattle.classes.specs.declared.Sized.{Sized}
use Rattle.classes.specs.declared.Sized.TheVariants.{Small, Medium, TooLarge}
use Rattle.classes.specs.Lookup.{size_class}

pub record Example : Type 0 where
  pub size : ℕ
  pub class : Sized

abbrev pub example : ℕ → Sized → Example
example size class = record { size = size; class = class }

unfoldable pub examples : List Example
examples =
    -- P1, P2, P3
    example 0 (Small 0) ∷ example 16384 (Small 45) ∷ example 16385 (Medium 0) ∷
    -- P4
    example 18432 (Medium 0) ∷ example 18433 (Medium 1) ∷
    -- P5
    example 65472 (Medium 11) ∷ example 65473 TooLarge ∷
    -- 2 to the 32nd plus 16, and the largest number of bytes
    example 4294967312 TooLarge ∷ example 18446744073709551615 TooLarge ∷ []

abbrev pub answer : Example → Sized
answer e = size_class e.size

abbrev pub expected : Example → Sized
expected e = e.class
