-- The class of a size that is not too large is a class; what the lookup's three answers say of it.
use Rattle.facts.proofs.Prelude.{ℕ, ◌+◌, ◌^◌, ◌≤◌, ◌<◌, arith, ◌≡◌, sym, ap, ◌∙◌, subst}
use mathlib.Core.Logic.{by_cases}
use native.Mathlib.Decide.{dec_le}
use Rattle.classes.specs.declared.Sized.{Sized}
use Rattle.classes.specs.declared.Sized.TheVariants.{Small, Medium, TooLarge}
use Rattle.classes.specs.Sizes.{medium_sizes, max_small_size, max_medium_size}
use Rattle.classes.specs.Meaning.{Smallest}
use Rattle.classes.specs.Lookup.{size_class}
use Rattle.classes.proofs.Answers.{sized-small, sized-medium}
use Rattle.classes.proofs.Meaning.{small-class, medium-class, smallest_class}
use Rattle.plan.specs.Plan.{class_count, id_of, class_of}

pub class-known : (size : ℕ) → size ≤ max_medium_size → class_of size < class_count
unfolding class_of
class-known size h =
    by_cases (dec_le size max_small_size)
    (λ l. rw (sized-small size l) (omega (arith, small-class size l)))
    (λ n. rw (sized-medium size (omega arith) h) (omega (arith, medium-class size h)))

module _ (size : ℕ) (r : Sized) (e : r ≡ size_class size) where
  pub small_is : (c : ℕ) → r ≡ Small c → c ≡ class_of size
  unfolding class_of
  small_is c m = ap id_of (sym m ∙ e)

  pub medium-is : (c : ℕ) → r ≡ Medium c → 64 + c ≡ class_of size
  unfolding class_of
  medium-is c m = ap id_of (sym m ∙ e)

  pub large_is : r ≡ TooLarge → class_count ≡ class_of size
  unfolding class_of
  large_is m = ap id_of (sym m ∙ e)

  medium-low : (c : ℕ) → r ≡ Medium c → c < 12
  unfolding medium_sizes
  medium-low c m = (subst (Smallest size) (sym e ∙ m) (smallest_class size)).1.within

  pub medium-fits : (c : ℕ) → r ≡ Medium c → 64 + c < 2 ^ 32
  medium-fits c m = omega (arith, medium-low c m)
