-- The exported lookup (document 02, A.6), for each of its answers.
use Rattle.std.specs.Prelude.{ℕ, ◌≡◌}
use Rattle.words.specs.Word.{none_kind, small_kind, medium_kind}
use Rattle.classes.specs.declared.Sized.{Sized}
use Rattle.classes.specs.declared.Sized.TheVariants.{Small, Medium, TooLarge}

-- the kind of word that such blocks have
abbrev pub kind_of : Sized → ℕ
kind_of (Small class) = small_kind
kind_of (Medium class) = medium_kind
kind_of TooLarge = none_kind

abbrev pub class_out : Sized → ℕ → ℕ
class_out (Small class) old = class
class_out (Medium class) old = class
class_out TooLarge old = old

-- r is what the call returns; c is the out-parameter before it and c' after it
pub record SizeEnds (s : Sized) (r c c' : ℕ) : Type 0 where
  pub kind : r ≡ kind_of s
  pub class : c' ≡ class_out s c
