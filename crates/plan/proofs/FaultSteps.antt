-- The steps of number 14's functions.
use Rattle.facts.proofs.Prelude.{ℕ, Bool, true, false, not, ◌&&◌, ◌||◌, List, [], ◌∷◌, ◌≡◌, refl, sym, ◌∙◌, eqb, leb, ltb, length, ltb-false}
use Rattle.facts.proofs.Prelude.{eqb-true, not-false, every, and_left, and_right, nor_left, nor_right}
use Rattle.std.specs.List.{list_all}
use Rattle.classes.specs.Sizes.{max_medium_size}
use Rattle.plan.specs.Plan.{entries_max, takes_max, bad_plan}
use Rattle.plan.specs.Code.{Fine}
use Rattle.plan.specs.way.Outcome.{bad_lengths}

pub all_every : (t : ℕ → Bool) (xs : List ℕ) → list_all t xs ≡ every t xs
all_every t [] = refl
all_every t (x ∷ xs) = rw (all_every t xs)

-- ---- bad_plan
module _ (ks ts : List ℕ) where
  abbrev known : Bool
  known = every (λ k. leb k max_medium_size) ks

  abbrev small : Bool
  small = every (λ t. leb t takes_max) ts

  abbrev empty : Bool
  empty = eqb (length ks) 0

  abbrev unequal : Bool
  unequal = not (eqb (length ks) (length ts))

  abbrev many : Bool
  many = ltb entries_max (length ks)

  -- the lengths first, then the entries, as the code tests them
  bad_split : (l k s : Bool) → l ≡ bad_lengths (length ks) (length ts) → k ≡ known → s ≡ small → (l || (not k || not s)) ≡ bad_plan ks ts
  unfolding bad_plan
  bad_split l k s d e f = rw (d, e, f) (split empty unequal many known small)
    where
      split : (a b c d e : Bool) → ((a || (b || c)) || (not d || not e)) ≡ (a || (b || (c || not (d && e))))
      split true b c d e = refl
      split false true c d e = refl
      split false false true d e = refl
      split false false false true e = refl
      split false false false false e = refl

  module _ (l v : Bool) (e : l ≡ bad_lengths (length ks) (length ts)) where
    pub bad_by_lengths : l ≡ true → v ≡ l → v ≡ bad_plan ks ts
    bad_by_lengths t f = f ∙ t ∙ (rw t at (bad_split l known small e refl refl))

    module _ (k : Bool) (d : k ≡ known) (f : l ≡ false) (g : v ≡ not k) where
      pub bad_by_sizes : v ≡ true → v ≡ bad_plan ks ts
      bad_by_sizes h = h ∙ (rw (f, sym g ∙ h) at (bad_split l k small e d refl))

      pub bad_by_takes : (s : Bool) → s ≡ small → v ≡ false → not s ≡ bad_plan ks ts
      bad_by_takes s c h = rw (f, sym g ∙ h) at (bad_split l k s e d c)

  pub fine : bad_plan ks ts ≡ false → Fine ks ts
  unfolding bad_plan
  fine e =
      let x = nor_right (empty) _ e in
      let y = nor_right unequal _ x in
      let z = not-false (known && small) (nor_right many _ y) in
      record {
        same = eqb-true (length ks) (length ts) (not-false (eqb (length ks) (length ts)) (nor_left unequal _ x));
        few = ltb-false entries_max (length ks) (nor_left many _ y);
        known = and_left known small z;
        small = and_right known small z;
      }
