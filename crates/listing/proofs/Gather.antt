-- Lists gathered, and written one after the other as the loops go.
use Rattle.facts.proofs.Prelude.{ℕ, zero, suc, ◌+◌, ◌-◌, ◌≤◌, ◌<◌, arith, eq-or-lt_of_le, add-one, List, [], ◌∷◌, ◌++◌, List-as-Memᴰ, List·Memᴰ·not-nil, List·Memᴰ·append-cases}
use Rattle.facts.proofs.Prelude.{Memᴰ·append-left, Memᴰ·append-right, ⊎_elim, ◌≡◌, refl, sym, ap, ◌∙◌, length, set, length-append, sets}
use Rattle.listing.specs.Listing.{gather, Wrote}

sets-append : (l : List ℕ) (i : ℕ) (x y : List ℕ) → sets l i (x ++ y) ≡ sets (sets l i x) (i + length x) y
sets-append l i [] y = let e : i ≡ i + 0 = omega arith in ap (λ (k : ℕ). sets l k y) e
sets-append l i (a ∷ x) y =
    let e : suc i + length x ≡ i + suc (length x) = omega arith in
    sets-append (set l i a) (suc i) x y ∙ ap (λ (k : ℕ). sets (sets (set l i a) (suc i) x) k y) e

gather-step : (f : ℕ → List ℕ) (i m : ℕ) → i < m → gather f i (m - i) ≡ f i ++ gather f (i + 1) (m - (i + 1))
unfolding gather
gather-step f i m h =
    let e : m - i ≡ suc (m - (i + 1)) = omega arith in
    rw (e, add-one) refl

gather_none : (f : ℕ → List ℕ) (i m : ℕ) → m ≤ i → gather f i (m - i) ≡ []
unfolding gather
gather_none f i m h = let z : m - i ≡ 0 = omega arith in rw z refl

-- ---- what is in one of the lists
pub gather_in : {A : Type 0} (f : ℕ → List A) (i m j : ℕ) {x : A} → i ≤ j → j < i + m → List-as-Memᴰ x (f j) → List-as-Memᴰ x (gather f i m)
unfolding gather
gather_in f i zero j l h e = absurd (omega arith)
gather_in f i (suc m) j {x} l h e =
    ⊎_elim
    (λ (same : i ≡ j). Memᴰ·append-left (gather f (suc i) m) (rw (← same) at e))
    (λ later. Memᴰ·append-right (f i) (gather_in f (suc i) m j (omega arith) (omega arith) e))
    (eq-or-lt_of_le l)

pub record Found {A : Type 0} (f : ℕ → List A) (i m : ℕ) (x : A) : Type 0 where
  pub at : ℕ
  pub from : i ≤ at
  pub below : at < i + m
  pub there : List-as-Memᴰ x (f at)

pub gather_of : {A : Type 0} (f : ℕ → List A) (i m : ℕ) {x : A} → List-as-Memᴰ x (gather f i m) → Found f i m x
unfolding gather
gather_of f i zero e = absurd (List·Memᴰ·not-nil e)
gather_of f i (suc m) {x} e =
    let later : Found f (suc i) m x → Found f i (suc m) x = λ r. record { at = r.at; from = omega (arith, r.from); below = omega (arith, r.below); there = r.there } in
    ⊎_elim (λ h. record { at = i; from = omega arith; below = omega arith; there = h }) (λ t. later (gather_of f (suc i) m t)) (List·Memᴰ·append-cases (f i) e)

-- ---- written one after the other
-- all are to be written to l₀ from one place on; l has them but for the rest, which goes on at `to`
pub record Ahead (all rest : List ℕ) (at to : ℕ) (l₀ l : List ℕ) : Type 0 where
  pub ends : to + length rest ≡ at + length all
  pub gives : sets l to rest ≡ sets l₀ at all

pub none_yet : (all rest : List ℕ) (at to : ℕ) (l₀ : List ℕ) → rest ≡ all → to ≡ at → Ahead all rest at to l₀ l₀
none_yet all rest at to l₀ e d = rw (e, d) (record { ends = refl; gives = refl })

-- the lists that a function gives for i on, up to m
module _ (f : ℕ → List ℕ) (i m : ℕ) (all : List ℕ) (at to : ℕ) (l₀ l : List ℕ) (a : Ahead all (gather f i (m - i)) at to l₀ l) where
  pub next_fits : i < m → to + length (f i) ≤ at + length all
  next_fits h = omega (arith, a.ends, ap length (gather-step f i m h), length-append (f i) (gather f (i + 1) (m - (i + 1))))

  pub next : i < m → (to' : ℕ) (l' : List ℕ) → Wrote (f i) to to' l l' → Ahead all (gather f (i + 1) (m - (i + 1))) at to' l₀ l'
  next h to' l' w = record {
    ends = omega (arith, a.ends, w.next, ap length (gather-step f i m h), length-append (f i) (gather f (i + 1) (m - (i + 1))));
    gives = rw (w.next, w.list) (sym (sets-append l to (f i) (gather f (i + 1) (m - (i + 1)))) ∙ (ap (sets l to) (sym (gather-step f i m h)) ∙ a.gives));
  }

  pub no_more : m ≤ i → Wrote all at to l₀ l
  no_more h = record {
    next = omega (arith, a.ends, ap length (gather_none f i m h));
    list = ap (sets l to) (sym (gather_none f i m h)) ∙ a.gives;
  }
