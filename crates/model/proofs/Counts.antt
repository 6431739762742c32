-- Booleans, counting, and sums over lists.
use Rattle.facts.proofs.Prelude.{ℕ, ◌+◌, ◌≤◌, arith, Bool, true, false, not, false≢true, true≢false, List, [], ◌∷◌, ◌++◌, reverse, reverse_aux, ◌≡◌, refl, sym, ap, ◌∙◌}
use Rattle.facts.proofs.Prelude.{eqb, take, drop, take-append-drop, eqb-true, not-true, not-false, filter, every, total, elem, distinct, count, by_cases, and_left, and_right}

pub count-append : (w : ℕ) (s t : List ℕ) → count w (s ++ t) ≡ count w s + count w t
count-append w [] t = omega arith
count-append w (x ∷ s) t = let ih = count-append w s t in omega arith

count_reverse_aux : (w : ℕ) (s t : List ℕ) → count w (reverse_aux s t) ≡ count w s + count w t
count_reverse_aux w [] t = omega arith
count_reverse_aux w (x ∷ s) t = let ih = count_reverse_aux w s (x ∷ t) in omega arith

pub count-reverse : (w : ℕ) (s : List ℕ) → count w (reverse s) ≡ count w s
count-reverse w s = let h = count_reverse_aux w s [] in omega arith

pub count_cut : (w n : ℕ) (s : List ℕ) → count w (take n s) + count w (drop n s) ≡ count w s
count_cut w n s = sym (count-append w (take n s) (drop n s)) ∙ ap (count w) (take-append-drop n s)

pub elem-count : (w : ℕ) (s : List ℕ) → elem w s ≡ true → 1 ≤ count w s
elem-count w [] e = absurd (false≢true e)
elem-count w (x ∷ s) e =
    by_cases (eqb w x)
    (λ b. rw b (omega arith))
    (λ b. let ih = elem-count w s (rw b at e) in omega arith)

pub count-elem : (w : ℕ) (s : List ℕ) → elem w s ≡ false → count w s ≡ 0
count-elem w [] e = refl
count-elem w (x ∷ s) e =
    by_cases (eqb w x)
    (λ b. absurd (true≢false (rw b at e)))
    (λ b. let ih = count-elem w s (rw b at e) in rw b (omega arith))

pub count-not : (w : ℕ) (s : List ℕ) → count w s ≡ 0 → elem w s ≡ false
count-not w s z = by_cases (elem w s) (λ e. absurd (omega (arith, elem-count w s e))) (λ e. e)

pub count_in_lem : (w : ℕ) (s : List ℕ) → 1 ≤ count w s → elem w s ≡ true
count_in_lem w s h = by_cases (elem w s) (λ e. e) (λ e. absurd (omega (arith, count-elem w s e)))

pub every-count : (t : ℕ → Bool) (w : ℕ) (s : List ℕ) → every t s ≡ true → 1 ≤ count w s → t w ≡ true
every-count t w [] e h = absurd (omega arith)
every-count t w (x ∷ s) e h =
    by_cases (eqb w x)
    (λ b. rw (eqb-true w x b) (and_left (t x) (every t s) e))
    (λ b. let h' : 1 ≤ 0 + count w s = rw b at h in every-count t w s (and_right (t x) (every t s) e) (omega arith))

pub filter-le : (t : ℕ → Bool) (w : ℕ) (s : List ℕ) → count w (filter t s) ≤ count w s
filter-le t w [] = omega arith
filter-le t w (x ∷ s) =
    let ih = filter-le t w s in
    by_cases (t x) (λ b. rw b (omega arith)) (λ b. rw b (omega arith))

pub filter_passes : (t : ℕ → Bool) (w : ℕ) (s : List ℕ) → 1 ≤ count w (filter t s) → t w ≡ true
filter_passes t w [] h = absurd (omega arith)
filter_passes t w (x ∷ s) h =
    by_cases (t x)
    (λ b. by_cases (eqb w x)
    (λ a. rw (eqb-true w x a) b)
    (λ a. let h' : 1 ≤ 0 + count w (filter t s) = rw (b, a) at h in filter_passes t w s (omega arith)))
    (λ b. filter_passes t w s (rw b at h))

pub filter-keeps : (t : ℕ → Bool) (w : ℕ) (s : List ℕ) → t w ≡ true → count w (filter t s) ≡ count w s
filter-keeps t w [] e = refl
filter-keeps t w (x ∷ s) e =
    let ih = filter-keeps t w s e in
    by_cases (t x)
    (λ b. rw b (omega arith))
    (λ b. by_cases (eqb w x)
    (λ a. absurd (true≢false (sym e ∙ ap t (eqb-true w x a) ∙ b)))
    (λ a. rw (b, a) (omega arith)))

pub filter-all : (t : ℕ → Bool) (s : List ℕ) → every t s ≡ true → filter t s ≡ s
filter-all t [] e = refl
filter-all t (x ∷ s) e = rw (and_left (t x) (every t s) e) (ap (λ z. x ∷ z) (filter-all t s (and_right (t x) (every t s) e)))

-- numbers 15 and 10 do not apply: no word stands twice
pub each-once : (t : ℕ → Bool) (s : List ℕ) → not (distinct (filter t s)) ≡ false → every t s ≡ true → distinct s ≡ true
each-once t s r e = sym (ap distinct (filter-all t s e)) ∙ not-false (distinct (filter t s)) r

pub distinct-count : (w : ℕ) (s : List ℕ) → distinct s ≡ true → count w s ≤ 1
distinct-count w [] e = omega arith
distinct-count w (x ∷ s) e =
    let ih = distinct-count w s (and_right (not (elem x s)) (distinct s) e) in
    by_cases (eqb w x)
    (λ b. rw b (let z = count-elem x s (not-true (elem x s) (and_left (not (elem x s)) (distinct s) e)) in
    let y : count w s ≡ count x s = rw (eqb-true w x b) in omega arith))
    (λ b. rw b (omega arith))

module _ {A : Type 0} (f : A → ℕ) where
  pub total-append : (s t : List A) → total f (s ++ t) ≡ total f s + total f t
  total-append [] t = omega arith
  total-append (x ∷ s) t = let ih = total-append s t in omega arith

  pub total-at : (s : List A) (p : A) (t : List A) → total f (s ++ p ∷ t) ≡ f p + total f (s ++ t)
  total-at [] p t = refl
  total-at (x ∷ s) p t = let ih = total-at s p t in omega arith
