-- A trace on the model: a word stops it exactly if there is a reason, and its highest bytes.
--     reason-stops, stops-reason    a word stops it exactly if there is a `Reason`
--     highest-is                    the highest bytes are the maximum over the moments after each word
use Rattle.facts.proofs.Prelude.{ℕ, zero, suc, ◌+◌, ◌/◌, ◌%◌, ◌^◌, ◌≤◌, arith, true, List, [], ◌∷◌, ◌⊎◌, inl, inr, ◌≡◌, refl, sym, ◌∙◌, eqb, ltb}
use Rattle.facts.proofs.Prelude.{length, eq-eqb, ne_eqb, eqb-true, eqb-false, lt-ltb, le-ltb, ltb-true, ltb-false, not-true, total, by_cases}
use lib.ListN as ListN
use Rattle.classes.specs.Shape.{class_count}
use Rattle.trace.specs.Trace.{Reach, Room, Say, take, back, report, wrong, say_of, max, bytes_of, out_at, offered, does, stops, after, reach_from, at_opening}
use Rattle.demands.specs.Trace.{Highest, Reason, no_kind, other_bits, no_class, not_out, no_blocks, no_figures}

-- ---- why it stops
module _ (n : ℕ) (m : Room) (r : Reach) (w : ℕ) where
  abbrev kind : ℕ
  kind = w / 2 ^ 30

  abbrev number : ℕ
  number = w % 2 ^ 30

  pub reason-stops : Reason n m r w → stops n m r w ≡ true
  unfolding say_of
  reason-stops (no_kind k) = rw (ne_eqb kind 0 (omega arith), ne_eqb kind 1 (omega arith), ne_eqb kind 2 (omega arith))
  reason-stops (other_bits k z) = rw (ne_eqb kind 0 (omega (arith, k)), ne_eqb kind 1 (omega (arith, k)), eq-eqb kind 2 k, ne_eqb number 0 z)
  reason-stops (no_class k l) = rw (eq-eqb kind 0 k, le-ltb number class_count (omega arith))
  reason-stops (not_out k e) = rw (ne_eqb kind 0 (omega (arith, k)), eq-eqb kind 1 k, e)
  reason-stops (no_blocks k l h) = rw (eq-eqb kind 0 k, lt-ltb number class_count (omega arith)) (lt-ltb m.blocks (length r.handed + length (offered n r number)) h)
  reason-stops (no_figures k z h) = rw (ne_eqb kind 0 (omega (arith, k)), ne_eqb kind 1 (omega (arith, k)), eq-eqb kind 2 k, eq-eqb number 0 z) (lt-ltb m.figures (length r.figures + 5) h)

  pub stops-reason : stops n m r w ≡ true → Reason n m r w
  unfolding say_of
  stops-reason e =
      by_cases (eqb kind 0)
      (λ k. by_cases (ltb number class_count)
      (λ l. no_blocks (eqb-true kind 0 k) (omega (arith, ltb-true number class_count l)) (ltb-true m.blocks (length r.handed + length (offered n r number)) (rw (k, l) at e)))
      (λ l. no_class (eqb-true kind 0 k) (omega (arith, ltb-false number class_count l))))
      (λ k. by_cases (eqb kind 1)
      (λ k₁. not_out (eqb-true kind 1 k₁) (not-true (out_at number r.handed) (rw (k, k₁) at e)))
      (λ k₁. by_cases (eqb kind 2)
      (λ k₂. by_cases (eqb number 0)
      (λ z. no_figures (eqb-true kind 2 k₂) (eqb-true number 0 z) (ltb-true m.figures (length r.figures + 5) (rw (k, k₁, k₂, z) at e)))
      (λ z. other_bits (eqb-true kind 2 k₂) (eqb-false number 0 z)))
      (λ k₂. no_kind (omega (arith, eqb-false kind 0 k, eqb-false kind 1 k₁, eqb-false kind 2 k₂)))))

-- ---- the highest bytes
max-left : (a b : ℕ) → a ≤ max a b
max-left a b = by_cases (ltb a b) (λ e. rw e (omega (arith, ltb-true a b e))) (λ e. rw e (omega arith))

max-right : (a b : ℕ) → b ≤ max a b
max-right a b = by_cases (ltb a b) (λ e. rw e (omega arith)) (λ e. rw e (omega (arith, ltb-false a b e)))

max-either : (a b : ℕ) → (max a b ≡ a) ⊎ (max a b ≡ b)
max-either a b = by_cases (ltb a b) (λ e. inr (rw e)) (λ e. inl (rw e))

abbrev bytes_at : Reach → ℕ
bytes_at r = total bytes_of r.handed

-- one word: the highest bytes stay or become those out now, and are no less than either
record Rises (r r' : Reach) : Type 0 where
  old : r.highest ≤ r'.highest
  now : bytes_at r' ≤ r'.highest
  met : (r'.highest ≡ r.highest) ⊎ (r'.highest ≡ bytes_at r')

comes-to : (r r' : Reach) → r'.highest ≡ max r.highest (bytes_at r') → Rises r r'
comes-to r r' e = record {
  old = omega (arith, e, max-left r.highest (bytes_at r'));
  now = omega (arith, e, max-right r.highest (bytes_at r'));
  met = elim (max-either r.highest (bytes_at r')) [
    | inl p ↦ inl (e ∙ p)
    | inr p ↦ inr (e ∙ p)
  ];
}

module _ (n : ℕ) where
  rises : (r : Reach) (s : Say) → bytes_at r ≤ r.highest → Rises r (does n r s)
  rises r (take c) h = comes-to r _ refl
  rises r (back p) h = comes-to r _ refl
  rises r report h = record { old = omega arith; now = h; met = inl refl }
  rises r wrong h = record { old = omega arith; now = h; met = inl refl }

  -- from r on
  record From (r : Reach) (ws : List ℕ) : Type 0 where
    old : r.highest ≤ (reach_from n r ws).highest
    all : (i : ℕ) → bytes_at (reach_from n r (ListN.take i ws)) ≤ (reach_from n r ws).highest
    met : ((reach_from n r ws).highest ≡ r.highest) ⊎ ((i : ℕ) × (bytes_at (reach_from n r (ListN.take i ws)) ≡ (reach_from n r ws).highest))

  from : (ws : List ℕ) (r : Reach) → bytes_at r ≤ r.highest → From r ws
  from [] r h = record { old = omega arith; all = none; met = inl refl }
    where
      none : (i : ℕ) → bytes_at (reach_from n r (ListN.take i [])) ≤ r.highest
      none zero = h
      none (suc i) = h
  from (w ∷ ws) r h =
      let s = rises r (say_of w) h in
      let ih = from ws (after n r w) s.now in
      record {
        old = omega (arith, s.old, ih.old);
        all = later (omega (arith, s.old, ih.old)) ih.all;
        met = elim ih.met [
          | inl p ↦ elim s.met [
            | inl q ↦ inl (p ∙ q)
            | inr q ↦ inr (1, sym (p ∙ q))
          ]
          | inr p ↦ inr (suc p.0, p.1)
        ];
      }
    where
      later : r.highest ≤ (reach_from n (after n r w) ws).highest → ((i : ℕ) → bytes_at (reach_from n (after n r w) (ListN.take i ws)) ≤ (reach_from n (after n r w) ws).highest)
          → (i : ℕ) → bytes_at (reach_from n r (ListN.take i (w ∷ ws))) ≤ (reach_from n (after n r w) ws).highest
      later k f zero = omega (arith, k, h)
      later k f (suc i) = f i

  pub highest-is : (ws : List ℕ) → Highest n ws
  highest-is ws =
      let f = from ws at_opening (omega arith) in
      record {
        above = f.all;
        met = elim f.met [
          | inl p ↦ (0, sym p)
          | inr p ↦ p
        ];
      }
