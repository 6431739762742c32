-- Lists of holes by index, with one hole set or used up: their length, sums, what holds of each.
use Rattle.facts.proofs.Prelude.{ℕ, zero, suc, ◌+◌, ◌-◌, ◌≤◌, ◌<◌, arith, Bool, cond, List, [], ◌∷◌, ◌++◌, ◌≡◌, refl, sym, ap, ◌∙◌, length, All, total}
use Rattle.model.specs.declared.Hole.{Hole}
use Rattle.model.specs.HoleStore.{hole_at, set_at, without_last, last_hole, remove_at}

-- a test as a number
abbrev pub num : Bool → ℕ
num b = cond b 1 0

module _ {A : Type 0} where
  pub all_map : (P Q : A → Type 0) → ((x : A) → P x → Q x) → (l : List A) → All P l → All Q l
  all_map P Q f [] h = tt
  all_map P Q f (x ∷ l) h = (f x h.0, all_map P Q f l h.1)

module _ (f : Hole → ℕ) where
  pub set-total : (i : ℕ) (v : Hole) (hs : List Hole) → i < length hs → total f (set_at i v hs) + f (hole_at i hs) ≡ total f hs + f v
  set-total i v [] h = absurd (omega arith)
  set-total zero v (x ∷ hs) h = omega arith
  set-total (suc i) v (x ∷ hs) h = let ih = set-total i v hs (omega arith) in omega arith

  last-total : (x : Hole) (hs : List Hole) → total f (without_last (x ∷ hs)) + f (last_hole (x ∷ hs)) ≡ total f (x ∷ hs)
  last-total x [] = omega arith
  last-total x (y ∷ hs) = let ih = last-total y hs in omega arith

  pub remove_total : (i : ℕ) (hs : List Hole) → i < length hs → total f (remove_at i hs) + f (hole_at i hs) ≡ total f hs
  remove_total i [] h = absurd (omega arith)
  remove_total zero (x ∷ []) h = omega arith
  remove_total (suc i) (x ∷ []) h = absurd (omega arith)
  remove_total zero (x ∷ y ∷ hs) h = let k = last-total y hs in omega arith
  remove_total (suc i) (x ∷ y ∷ hs) h = let ih = remove_total i (y ∷ hs) (omega arith) in omega arith

  -- a hole's own part of the sum
  pub at-total : (i : ℕ) (hs : List Hole) → i < length hs → f (hole_at i hs) ≤ total f hs
  at-total i hs h = omega (arith, remove_total i hs h)

pub total-le : (P : Hole → Type 0) (f g : Hole → ℕ) → ((h : Hole) → P h → f h ≤ g h) → (hs : List Hole) → All P hs → total f hs ≤ total g hs
total-le P f g l [] k = omega arith
total-le P f g l (h ∷ hs) k = omega (arith, l h k.0, total-le P f g l hs k.1)

pub length-total : (hs : List Hole) → total (λ h. 1) hs ≡ length hs
length-total [] = refl
length-total (h ∷ hs) = let ih = length-total hs in omega arith

-- lengths
pub set-length : (i : ℕ) (v : Hole) (hs : List Hole) → length (set_at i v hs) ≡ length hs
set-length i v [] = refl
set-length zero v (x ∷ hs) = refl
set-length (suc i) v (x ∷ hs) = let ih = set-length i v hs in omega arith

last-length : (hs : List Hole) → length (without_last hs) ≡ length hs - 1
last-length [] = omega arith
last-length (x ∷ []) = omega arith
last-length (x ∷ y ∷ hs) = let ih = last-length (y ∷ hs) in omega arith

pub remove_length : (i : ℕ) (hs : List Hole) → length (remove_at i hs) ≡ length hs - 1
remove_length i hs = omega (arith, set-length i (last_hole hs) (without_last hs), last-length hs)

-- by index: a hole set, the last hole, a hole replaced by the last
pub set_same : (i : ℕ) (v : Hole) (hs : List Hole) → i < length hs → hole_at i (set_at i v hs) ≡ v
set_same i v [] h = absurd (omega arith)
set_same zero v (x ∷ hs) h = refl
set_same (suc i) v (x ∷ hs) h = set_same i v hs (omega arith)

pub set-differs : (i k : ℕ) (v : Hole) (hs : List Hole) → (k ≡ i → ⊥) → hole_at k (set_at i v hs) ≡ hole_at k hs
set-differs i k v [] n = refl
set-differs zero zero v (x ∷ hs) n = absurd (n refl)
set-differs zero (suc k) v (x ∷ hs) n = refl
set-differs (suc i) zero v (x ∷ hs) n = refl
set-differs (suc i) (suc k) v (x ∷ hs) n = set-differs i k v hs (λ e. n (ap suc e))

last-at : (x : Hole) (hs : List Hole) → last_hole (x ∷ hs) ≡ hole_at (length hs) (x ∷ hs)
last-at x [] = refl
last-at x (y ∷ hs) = last-at y hs

without_at : (k : ℕ) (hs : List Hole) → k < length hs - 1 → hole_at k (without_last hs) ≡ hole_at k hs
without_at k [] h = refl
without_at k (x ∷ []) h = absurd (omega arith)
without_at zero (x ∷ y ∷ hs) h = refl
without_at (suc k) (x ∷ y ∷ hs) h = without_at k (y ∷ hs) (omega arith)

pub remove_same : (i : ℕ) (hs : List Hole) → i < length hs - 1 → hole_at i (remove_at i hs) ≡ hole_at (length hs - 1) hs
remove_same i [] h = absurd (omega arith)
remove_same i (x ∷ hs) h =
    let k : length (x ∷ hs) - 1 ≡ length hs = omega arith in
    set_same i (last_hole (x ∷ hs)) (without_last (x ∷ hs)) (omega (arith, last-length (x ∷ hs))) ∙ last-at x hs ∙ ap (λ l. hole_at l (x ∷ hs)) (sym k)

pub remove_differs : (i k : ℕ) (hs : List Hole) → k < length hs - 1 → (k ≡ i → ⊥) → hole_at k (remove_at i hs) ≡ hole_at k hs
remove_differs i k hs h n = set-differs i k (last_hole hs) (without_last hs) n ∙ without_at k hs h

-- what holds of each hole
module _ (P : Hole → Type 0) where
  pub all_set : (i : ℕ) (v : Hole) → P v → (hs : List Hole) → All P hs → All P (set_at i v hs)
  all_set i v p [] k = tt
  all_set zero v p (x ∷ hs) k = (p, k.1)
  all_set (suc i) v p (x ∷ hs) k = (k.0, all_set i v p hs k.1)

  all-last : (x : Hole) (hs : List Hole) → All P (x ∷ hs) → P (last_hole (x ∷ hs)) × All P (without_last (x ∷ hs))
  all-last x [] k = (k.0, tt)
  all-last x (y ∷ hs) k = let ih = all-last y hs k.1 in (ih.0, (k.0, ih.1))

  pub all_remove : (i : ℕ) (hs : List Hole) → All P hs → All P (remove_at i hs)
  all_remove i [] k = tt
  all_remove i (x ∷ hs) k = let l = all-last x hs k in all_set i (last_hole (x ∷ hs)) l.0 (without_last (x ∷ hs)) l.1

  pub all_snoc : (hs : List Hole) (v : Hole) → All P hs → P v → All P (hs ++ v ∷ [])
  all_snoc [] v k p = (p, tt)
  all_snoc (x ∷ hs) v k p = (k.0, all_snoc hs v k.1 p)

  pub all-at : (i : ℕ) (hs : List Hole) → i < length hs → All P hs → P (hole_at i hs)
  all-at i [] l k = absurd (omega arith)
  all-at zero (x ∷ hs) l k = k.0
  all-at (suc i) (x ∷ hs) l k = all-at i hs (omega arith) k.1
