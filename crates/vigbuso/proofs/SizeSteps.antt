-- The lookup's three answers.
use Rattle.facts.proofs.Prelude.{ℕ, ◌≡◌, refl, sym, ◌∙◌}
use Rattle.words.specs.Word.{none_kind, small_kind, medium_kind}
use Rattle.classes.specs.declared.Sized.{Sized}
use Rattle.classes.specs.declared.Sized.TheVariants.{Small, Medium, TooLarge}
use Rattle.vigbuso.specs.Sizes.{SizeEnds}

module _ (s t : Sized) (c : ℕ) (e : s ≡ t) where
  pub ends-small : (k : ℕ) → s ≡ Small k → SizeEnds t small_kind c k
  ends-small k m = rw (sym e ∙ m) (record { kind = refl; class = refl })

  pub ends-medium : (k : ℕ) → s ≡ Medium k → SizeEnds t medium_kind c k
  ends-medium k m = rw (sym e ∙ m) (record { kind = refl; class = refl })

  pub ends-large : s ≡ TooLarge → SizeEnds t none_kind c c
  ends-large m = rw (sym e ∙ m) (record { kind = refl; class = refl })
