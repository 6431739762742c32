-- Parts of a word: what is read after a write to the same part and to another, and two writes.
use Rattle.facts.proofs.Prelude.{ℕ, ◌+◌, ◌-◌, ◌*◌, ◌/◌, ◌%◌, ◌^◌, ◌≤◌, ◌<◌, arith, le_refl, mod-lt, mod-mod, mod-eq_of_lt, zero-mod, ◌≡◌, refl, sym, ap, ◌∙◌}
use lib.Pow.{pow_pos, pow-add, mod-pow-add, split, high, low, shr-shr, field, mod-mod-pow}
use Rattle.fields.specs.Field.{Part, whole, bits, read, place}

-- two parts with no bit in common
pub data Split : Part → Part → Type 0 where
  below : {s n t m : ℕ} → s + n ≤ t → Split (bits s n) (bits t m)
  above : {s n t m : ℕ} → t + m ≤ s → Split (bits s n) (bits t m)

-- the word with v at s .. s + n - 1 is the bits above, v, the bits below
module _ (s n w v : ℕ) where
  whole_word : (w / 2 ^ s / 2 ^ n * 2 ^ n + w / 2 ^ s % 2 ^ n) * 2 ^ s + w % 2 ^ s ≡ w
  whole_word = rw split (split w s)

  pub read-le : w / 2 ^ s % 2 ^ n * 2 ^ s ≤ w
  read-le = omega (arith, whole_word)

  place_form : place (bits s n) w v ≡ (w / 2 ^ s / 2 ^ n * 2 ^ n + v % 2 ^ n) * 2 ^ s + w % 2 ^ s
  place_form = omega (arith, whole_word)

  place-low : place (bits s n) w v % 2 ^ s ≡ w % 2 ^ s
  place-low = rw place_form (low _ s (mod-lt w (pow_pos s)))

  place_up : place (bits s n) w v / 2 ^ s ≡ w / 2 ^ s / 2 ^ n * 2 ^ n + v % 2 ^ n
  place_up = rw place_form (high _ s (mod-lt w (pow_pos s)))

  pub place-high : place (bits s n) w v / 2 ^ s / 2 ^ n ≡ w / 2 ^ s / 2 ^ n
  place-high = rw place_up (high _ n (mod-lt v (pow_pos n)))

  place_here : place (bits s n) w v / 2 ^ s % 2 ^ n ≡ v % 2 ^ n
  place_here = rw place_up (low _ n (mod-lt v (pow_pos n)))

abbrev pub holdable : Part → ℕ → Type 0
holdable whole v = Unit
holdable (bits s n) v = v < 2 ^ n

pub read-place : (p : Part) (w v : ℕ) → holdable p v → read p (place p w v) ≡ v
read-place whole w v h = refl
read-place (bits s n) w v h = place_here s n w v ∙ mod-eq_of_lt h

pub read_small : (s n w : ℕ) → read (bits s n) w < 2 ^ n
read_small s n w = mod-lt (w / 2 ^ s) (pow_pos n)

pub place_read : (p : Part) (w : ℕ) → place p w (read p w) ≡ w
place_read whole w = refl
place_read (bits s n) w = rw mod-mod (omega (arith, read-le s n w 0))

pub place-place : (p : Part) (w u v : ℕ) → place p (place p w u) v ≡ place p w v
place-place whole w u v = refl
place-place (bits s n) w u v = rw (place_here s n w u) (omega (arith, read-le s n w u))

-- bits above a part, and below it, are read from what the write keeps
from-high : (y s n t : ℕ) → s + n ≤ t → y / 2 ^ t ≡ y / 2 ^ s / 2 ^ n / 2 ^ (t - (s + n))
from-high y s n t h = rw (shr-shr y s n, shr-shr y (s + n) (t - (s + n))) (ap (λ x. y / 2 ^ x) (omega arith))

from_low : (y s t m : ℕ) → t + m ≤ s → y / 2 ^ t % 2 ^ m ≡ y % 2 ^ s % 2 ^ (m + t) / 2 ^ t
from_low y s t m h =
    let e : s ≡ (s - (m + t)) + (m + t) = omega arith in
    sym (ap (λ x. x / 2 ^ t) (ap (λ x. y % 2 ^ x % 2 ^ (m + t)) e ∙ mod-mod-pow y (s - (m + t)) (m + t)) ∙ field y m t)

pub read-place_other : {p q : Part} (w v : ℕ) → Split p q → read q (place p w v) ≡ read q w
read-place_other w v (below {s} {n} {t} {m} h) =
    ap (λ x. x % 2 ^ m) (from-high (place (bits s n) w v) s n t h ∙ ap (λ x. x / 2 ^ (t - (s + n))) (place-high s n w v) ∙ sym (from-high w s n t h))
read-place_other w v (above {s} {n} {t} {m} h) =
    from_low (place (bits s n) w v) s t m h ∙ ap (λ x. x % 2 ^ (m + t) / 2 ^ t) (place-low s n w v) ∙ sym (from_low w s t m h)

swap : {p q : Part} → Split p q → Split q p
swap (below h) = above h
swap (above h) = below h

-- two parts together are at most the word
both-le : (s n t m w : ℕ) → Split (bits s n) (bits t m) → w / 2 ^ s % 2 ^ n * 2 ^ s + w / 2 ^ t % 2 ^ m * 2 ^ t ≤ w
both-le s n t m w d =
    let e : place (bits s n) w 0 / 2 ^ t % 2 ^ m ≡ w / 2 ^ t % 2 ^ m = read-place_other w 0 d in
    let z : 0 % 2 ^ n ≡ 0 = zero-mod (2 ^ n) in
    let l : w / 2 ^ t % 2 ^ m * 2 ^ t ≤ place (bits s n) w 0 = rw (← e) (read-le t m (place (bits s n) w 0) 0) in
    omega (arith, read-le s n w 0, rw z at l)

comm : (s n t m w u v : ℕ) → Split (bits s n) (bits t m)
    → place (bits t m) (place (bits s n) w u) v ≡ place (bits s n) (place (bits t m) w v) u
comm s n t m w u v d =
    let e : place (bits s n) w u / 2 ^ t % 2 ^ m ≡ w / 2 ^ t % 2 ^ m = read-place_other w u d in
    let e' : place (bits t m) w v / 2 ^ s % 2 ^ n ≡ w / 2 ^ s % 2 ^ n = read-place_other w v (swap d) in
    rw (e, e') (omega (arith, both-le s n t m w d))

pub place-comm : {p q : Part} (w u v : ℕ) → Split p q → place q (place p w u) v ≡ place p (place q w v) u
place-comm w u v (below {s} {n} {t} {m} h) = comm s n t m w u v (below h)
place-comm w u v (above {s} {n} {t} {m} h) = comm s n t m w u v (above h)

-- two parts that lie side by side are one
joined : (w x k y a c u v : ℕ) → y ≡ x * k → (c * k + a) * x ≤ w → w - a * x + u * x - c * y + v * y ≡ w - (c * k + a) * x + (v * k + u) * x
joined w x k y a c u v e h = rw e (omega arith)

pub place-next : (s k m w u v : ℕ) → u < 2 ^ k → place (bits (s + k) m) (place (bits s k) w u) v ≡ place (bits s (m + k)) w (v * 2 ^ k + u)
place-next s k m w u v h =
    let e : place (bits s k) w u / 2 ^ (s + k) % 2 ^ m ≡ w / 2 ^ (s + k) % 2 ^ m = read-place_other w u (below {m = m} (le_refl (s + k))) in
    let d : w / 2 ^ s % 2 ^ (m + k) ≡ w / 2 ^ (s + k) % 2 ^ m * 2 ^ k + w / 2 ^ s % 2 ^ k = mod-pow-add (w / 2 ^ s) m k ∙ rw shr-shr in
    let t : (v * 2 ^ k + u) % 2 ^ (m + k) ≡ v % 2 ^ m * 2 ^ k + u = mod-pow-add (v * 2 ^ k + u) m k ∙ rw (high v k h, low v k h) in
    let l : (w / 2 ^ (s + k) % 2 ^ m * 2 ^ k + w / 2 ^ s % 2 ^ k) * 2 ^ s ≤ w = rw (← d) (read-le s (m + k) w 0) in
    rw (e, d, t, mod-eq_of_lt h) (joined w (2 ^ s) (2 ^ k) (2 ^ (s + k)) (w / 2 ^ s % 2 ^ k) (w / 2 ^ (s + k) % 2 ^ m) u (v % 2 ^ m) (pow-add 2 s k) l)
