-- Laws of the definitions of `specs/Table`: the bounds of a growth, and one step of the list of sizes.
use Rattle.std.specs.Int.{div_ceil, next_multiple_of}
use Rattle.std.proofs.lemmas.Grind.{div_ceil_times}
use Rattle.facts.proofs.Prelude.{ℕ, zero, suc, min, ◌+◌, ◌-◌, ◌≤◌, ◌<◌, arith, suc-mul, div-eq_of_lt-le, add-one, List, [], ◌∷◌, ◌++◌, append_assoc, append-nil}
use Rattle.facts.proofs.Prelude.{◌≡◌, refl, sym, ap, ◌∙◌, length, get_or, take, take_all, set, take-suc-set, ltb, ltb-true, ltb-false, by_cases}
use Rattle.classes.specs.Sizes.{granule_bytes}
use Rattle.tables.specs.Table.{next_size, sizes_from, quotient_up, whole_up, cut_at}

-- one size taken off the front, for a count that is not 0
pub sizes_step : (a b top size n : ℕ) → 0 < n → sizes_from a b top size n ≡ size ∷ sizes_from a b top (next_size a b top size) (n - 1)
unfolding sizes_from
sizes_step a b top size zero h = absurd (omega arith)
sizes_step a b top size (suc n) h =
    let e : n ≡ suc n - 1 = omega arith in
    ap (λ (m : ℕ). size ∷ sizes_from a b top (next_size a b top size) m) e

pub sizes_length : (a b top size n : ℕ) → length (sizes_from a b top size n) ≡ n
unfolding sizes_from
sizes_length a b top size zero = refl
sizes_length a b top size (suc n) = ap suc (sizes_length a b top (next_size a b top size) n)

-- the code's two roundings are the rule's
pub quotient_is : (n b : ℕ) → 1 ≤ b → div_ceil n b ≡ quotient_up n b
quotient_is n b pos =
    let q : ℕ = div_ceil n b in
    let near = div_ceil_times n b pos in
    sym (div-eq_of_lt-le {k = q} b {m = n + (b - 1)} (omega (arith, near.1)) (omega (arith, near.0, suc-mul q b)))

pub whole_is : (n : ℕ) → next_multiple_of n granule_bytes ≡ whole_up n
whole_is n = omega arith

pub cut_is : (n top : ℕ) → min n top ≡ cut_at top n
cut_is n top = by_cases (ltb n top) (λ e. let l = ltb-true n top e in rw e (omega arith)) (λ e. let l = ltb-false n top e in rw e (omega arith))

-- the last of the sizes from one on is the last of those after it
pub last_step : (a b top size n : ℕ) → get_or (sizes_from a b top size (suc (suc n))) (suc n) 0 ≡ get_or (sizes_from a b top (next_size a b top size) (suc n)) n 0
unfolding sizes_from
last_step a b top size n = refl

-- a size stored at i, and the sizes after it
pub fill_step : (a b top size n i : ℕ) (list all : List ℕ) → i < n → i < length list
    → take i list ++ sizes_from a b top size (n - i) ≡ all
    → take (i + 1) (set list i size) ++ sizes_from a b top (next_size a b top size) (n - (i + 1)) ≡ all
fill_step a b top size n i list all h k e =
    let d : n - i - 1 ≡ n - suc i = omega arith in
    rw (add-one, take-suc-set list i size k, append_assoc (take i list) (size ∷ []) (sizes_from a b top (next_size a b top size) (n - suc i)))
    (ap (λ (l : List ℕ). take i list ++ l) (sym (sizes_step a b top size (n - i) (omega arith) ∙ ap (λ (m : ℕ). size ∷ sizes_from a b top (next_size a b top size) m) d)) ∙ e)

-- all sizes are stored
pub fill_done : (a b top size i : ℕ) (list all : List ℕ) → length list ≤ i → take i list ++ sizes_from a b top size (length list - i) ≡ all → list ≡ all
unfolding sizes_from
fill_done a b top size i list all h e =
    let z : length list - i ≡ 0 = omega arith in
    sym (append-nil list) ∙ rw (z, take_all) at e
