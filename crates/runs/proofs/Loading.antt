-- Holes loaded part by part, the last part first.
--     part-valid, part-fold-holes    with a part before the others: whether all are in their range, and what all come to
--     four-loaded, four-valid        a part of four
use Rattle.facts.proofs.Prelude.{ℕ, zero, suc, ◌+◌, ◌-◌, ◌≤◌, arith, add-zero, Bool, true, false, ◌&&◌, and_assoc, List, [], ◌∷◌, ◌≡◌, refl, sym, length, get_or, every}
use Rattle.model.specs.declared.Hole.{Hole}
use Rattle.arena.specs.Load.{load_hole, load_holes}
use Rattle.runs.specs.way.Scan.{fold_holes}

-- ---- in their range
pub and-true : (t : Bool) → (t && true) ≡ t
and-true true = refl
and-true false = refl

pub and_comm : (s t : Bool) → (s && t) ≡ (t && s)
and_comm true t = sym (and-true t)
and_comm false true = refl
and_comm false false = refl

module _ (p : Hole → Bool) (b : List ℕ) where
  valid-part : (i m k : ℕ) → every p (load_holes b i (m + k)) ≡ (every p (load_holes b i m) && every p (load_holes b (i + m) k))
  unfolding load_holes
  valid-part i zero k = let e : 0 + k ≡ k = omega arith in rw (add-zero, e)
  valid-part i (suc m) k =
      let d : suc m + k ≡ suc (m + k) = omega arith in
      let e : i + suc m ≡ suc i + m = omega arith in
      rw (d, e, valid-part (suc i) m k) (sym (and_assoc (p (load_hole b i)) _ _))

-- ---- a part of four
pub four_loaded : (b : List ℕ) (i : ℕ) (w x y z : Hole) → w ≡ load_hole b i → x ≡ load_hole b (i + 1) → y ≡ load_hole b (i + 2) → z ≡ load_hole b (i + 3) → w ∷ x ∷ y ∷ z ∷ [] ≡ load_holes b i 4
unfolding load_holes
four_loaded b i w x y z e₀ e₁ e₂ e₃ =
    let d₁ : i + 1 ≡ suc i = omega arith in
    let d₂ : i + 2 ≡ suc (suc i) = omega arith in
    let d₃ : i + 3 ≡ suc (suc (suc i)) = omega arith in
    rw (e₀, e₁, e₂, e₃, d₁, d₂, d₃)

pub four-valid : (p : Hole → Bool) (xs : List Hole) (d : Hole) → length xs ≡ 4 → (s t u v : Bool) → s ≡ p (get_or xs 0 d) → t ≡ p (get_or xs 1 d) → u ≡ p (get_or xs 2 d) → v ≡ p (get_or xs 3 d) → (((s && t) && u) && v) ≡ every p xs
four-valid p [] d l s t u v e₀ e₁ e₂ e₃ = absurd (omega arith)
four-valid p (f ∷ []) d l s t u v e₀ e₁ e₂ e₃ = absurd (omega arith)
four-valid p (f ∷ g ∷ []) d l s t u v e₀ e₁ e₂ e₃ = absurd (omega arith)
four-valid p (f ∷ g ∷ h ∷ []) d l s t u v e₀ e₁ e₂ e₃ = absurd (omega arith)
four-valid p (f ∷ g ∷ h ∷ k ∷ []) d l s t u v e₀ e₁ e₂ e₃ = rw (e₀, e₁, e₂, e₃) (simp (and_assoc, and-true))
four-valid p (f ∷ g ∷ h ∷ k ∷ m ∷ xs) d l s t u v e₀ e₁ e₂ e₃ = absurd (omega arith)

-- ---- weighed
fold_holes-part : {X : Type 0} (f : ℕ → Hole → X → X) (b : List ℕ) (i m k : ℕ) (x : X) → fold_holes f i (load_holes b i (m + k)) x ≡ fold_holes f i (load_holes b i m) (fold_holes f (i + m) (load_holes b (i + m) k) x)
unfolding load_holes fold_holes
fold_holes-part f b i zero k x = let e : 0 + k ≡ k = omega arith in rw (add-zero, e)
fold_holes-part f b i (suc m) k x =
    let d : suc m + k ≡ suc (m + k) = omega arith in
    let e : i + suc m ≡ suc i + m = omega arith in
    rw (d, e, fold_holes-part f b (suc i) m k x)

-- ---- the holes at `from` and on, before those at `left` and on
module _ (b : List ℕ) (from left count : ℕ) (l : from ≤ left) (k : left ≤ count) where
  pub part-valid : (p : Hole → Bool) → (every p (load_holes b left (count - left)) && every p (load_holes b from (left - from))) ≡ every p (load_holes b from (count - from))
  part-valid p =
      let e : count - from ≡ (left - from) + (count - left) = omega arith in
      let d : from + (left - from) ≡ left = omega arith in
      rw (e, valid-part p b from (left - from) (count - left), d) (and_comm (every p (load_holes b left (count - left))) _)

  pub part-fold_holes : {X : Type 0} (f : ℕ → Hole → X → X) (x : X) → fold_holes f from (load_holes b from (left - from)) (fold_holes f left (load_holes b left (count - left)) x) ≡ fold_holes f from (load_holes b from (count - from)) x
  part-fold_holes f x =
      let e : count - from ≡ (left - from) + (count - left) = omega arith in
      let d : from + (left - from) ≡ left = omega arith in
      rw (e, fold_holes-part f b from (left - from) (count - left) x, d)
