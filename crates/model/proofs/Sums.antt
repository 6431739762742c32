-- Sums over the pages of an arena, and over the classes.
use Rattle.facts.proofs.Prelude.{ℕ, zero, suc, ◌+◌, ◌-◌, ◌≤◌, arith, List, [], ◌∷◌, ◌≡◌, refl, sym, ap, ◌∙◌, ltb, ltb-true, ltb-false, total, below, by_cases}
use Rattle.model.specs.Cover.{covers}
use Rattle.model.specs.Ledger.{above}
use Rattle.model.proofs.Runs.{above_at, above-not, above-cut}

-- ---- of any list
module _ {A : Type 0} where
  pub zeros : (l : List A) → total (λ x. 0) l ≡ 0
  zeros [] = refl
  zeros (x ∷ l) = let ih = zeros l in omega arith

  pub total_plus : (f g : A → ℕ) (l : List A) → total (λ x. f x + g x) l ≡ total f l + total g l
  total_plus f g [] = omega arith
  total_plus f g (x ∷ l) = let ih = total_plus f g l in omega arith

  pub total-same : (f g : A → ℕ) (l : List A) → ((x : A) → f x ≡ g x) → total f l ≡ total g l
  total-same f g [] e = refl
  total-same f g (x ∷ l) e = omega (arith, e x, total-same f g l e)

  pub total-less : (f g : A → ℕ) (l : List A) → ((x : A) → f x ≤ g x) → total f l ≤ total g l
  total-less f g [] h = omega arith
  total-less f g (x ∷ l) h = omega (arith, h x, total-less f g l h)

  -- what was there and came, is there or went
  pub total-balance : (before after came went : A → ℕ) (l : List A) → ((x : A) → after x + went x ≡ before x + came x) → total after l + total went l ≡ total before l + total came l
  total-balance before after came went l e = sym (total_plus after went l) ∙ total-same (λ x. after x + went x) (λ x. before x + came x) l e ∙ total_plus before came l

-- sums of sums, in either order
pub total-swap : {A B : Type 0} (f : A → B → ℕ) (l : List A) (m : List B) → total (λ y. total (λ x. f x y) l) m ≡ total (λ x. total (f x) m) l
total-swap f [] m = zeros m
total-swap f (x ∷ l) m = total_plus (f x) (λ y. total (λ x. f x y) l) m ∙ ap (λ t. total (f x) m + t) (total-swap f l m)

-- ---- of the pages of an arena
pub ones_total : (size : ℕ) → total (λ x. 1) (below size) ≡ size
ones_total zero = refl
ones_total (suc s) = omega (arith, ones_total s)

pub above-total : (f size : ℕ) → total (above f) (below size) ≡ size - f
above-total f zero = omega arith
above-total f (suc s) =
    let ih = above-total f s in
    by_cases (ltb s f)
    (λ e. omega (arith, above-not f s (ltb-true s f e), ltb-true s f e))
    (λ e. omega (arith, above_at f s (ltb-false s f e), ltb-false s f e))

pub covers-total : (n q size : ℕ) → q + n ≤ size → total (covers n q) (below size) ≡ n
covers-total n q size l =
    let both = sym (total_plus (covers n q) (above (q + n)) (below size)) ∙ total-same (λ x. covers n q x + above (q + n) x) (above q) (below size) (above-cut n q) in
    omega (arith, both, above-total q size, above-total (q + n) size)
