-- A function changed at one place (`update`).
use Rattle.facts.proofs.Prelude.{ℕ, false, ◌≡◌, refl, sym, ◌∙◌, subst, fun_ext, eqb, eqb-true, eqb-false, eq-eqb, ne_eqb, update, by_cases}

pub other_way : (c d : ℕ) → eqb c d ≡ false → eqb d c ≡ false
other_way c d n = ne_eqb d c (λ p. eqb-false c d n (sym p))

module _ {A : Type 0} (f : ℕ → A) where
  pub update_same : (c : ℕ) (v : A) → update f c v c ≡ v
  update_same c v = rw (eq-eqb c c refl)

  pub update_other : (c d : ℕ) (v : A) → eqb c d ≡ false → update f c v d ≡ f d
  update_other c d v n = rw (other_way c d n)

  pub update_swap : (c d : ℕ) (u v : A) → eqb c d ≡ false → update (update f c u) d v ≡ update (update f d v) c u
  update_swap c d u v n =
      fun_ext (λ k.
      by_cases (eqb k c)
      (λ e. by_cases (eqb k d)
      (λ b. absurd (eqb-false c d n (sym (eqb-true k c e) ∙ eqb-true k d b)))
      (λ b. rw (e, b)))
      (λ e. by_cases (eqb k d) (λ b. rw (e, b)) (λ b. rw (e, b))))

  -- what holds at the place and at every other holds everywhere
  pub update_all : (P : ℕ → A → Type 0) (c : ℕ) (v : A) → P c v → ((d : ℕ) → P d (f d)) → (d : ℕ) → P d (update f c v d)
  update_all P c v p q d = by_cases (eqb d c) (λ e. rw e (subst (λ k. P k v) (sym (eqb-true d c e)) p)) (λ e. rw e (q d))
