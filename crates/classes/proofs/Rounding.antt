-- Sizes of equally many granules have the same class: the lookup tables need an entry for every 16th size only.
use Rattle.facts.proofs.Prelude.{ℕ, ◌+◌, ◌/◌, ◌%◌, arith, Bool, true, false, List, [], ◌∷◌, ◌≡◌, refl, leb, eqb, leb-true, leb-false, eqb-true, and_left, and_right, every}
use Rattle.classes.specs.Sizes.{small_sizes, medium_sizes}
use Rattle.classes.specs.Lookup.{first_fit}

-- granules of a size, rounded up
abbrev pub granules : ℕ → ℕ
granules size = (size + 15) / 16

abbrev whole : ℕ → Bool
whole x = eqb (x % 16) 0

same_test : (a b x : ℕ) (l m : Bool) → leb a x ≡ l → leb b x ≡ m → granules a ≡ granules b → x % 16 ≡ 0 → l ≡ m
same_test a b x true true p q e w = refl
same_test a b x true false p q e w = absurd (omega (arith, leb-true a x p, leb-false b x q))
same_test a b x false true p q e w = absurd (omega (arith, leb-false a x p, leb-true b x q))
same_test a b x false false p q e w = refl

-- one lemma for both tables: all block sizes are whole granules
same-fit : (a b : ℕ) (xs : List ℕ) → granules a ≡ granules b → every whole xs ≡ true → first_fit a xs ≡ first_fit b xs
unfolding first_fit
same-fit a b [] e t = refl
same-fit a b (x ∷ xs) e t =
    let w : x % 16 ≡ 0 = eqb-true (x % 16) 0 (and_left (whole x) (every whole xs) t) in
    rw (same_test a b x (leb a x) (leb b x) refl refl e w, same-fit a b xs e (and_right (whole x) (every whole xs) t)) refl

pub small_rounded : (near size : ℕ) → granules near ≡ granules size → first_fit near small_sizes ≡ first_fit size small_sizes
unfolding small_sizes
small_rounded near size e = same-fit near size small_sizes e refl

pub medium_rounded : (near size : ℕ) → granules near ≡ granules size → first_fit near medium_sizes ≡ first_fit size medium_sizes
unfolding medium_sizes
medium_rounded near size e = same-fit near size medium_sizes e refl
