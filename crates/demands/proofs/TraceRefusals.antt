-- Demand 1 of a trace: numbers 1, 2 and 16, in this order; but for 16 it keeps all that it was lent.
use Rattle.facts.proofs.Prelude.{ℕ, ◌≤◌, arith, true, cond, List, [], ◌∷◌, ◌≡◌, refl, ◌∙◌, eqb, ltb, length, eqb-true, eqb-false, lt-ltb, le-ltb, by_cases}
use Rattle.fields.specs.Ranges.{length_fault}
use Rattle.trace.specs.Trace.{Room, Reach, at_opening, after, stops, carried_from, carried}
use Rattle.trace.specs.Words.{Traced, room_of, trace_on}
use Rattle.demands.specs.Run.{Opens}
use Rattle.demands.specs.Refusals.{Row, first_number, stopped, trace_table, TraceRefuses}
use Rattle.demands.proofs.Calls.{room-plain, opens}
use Rattle.demands.proofs.RefusalsLaws.{Ends, book-turn}
use Rattle.demands.proofs.Trace.{trace-stops}

carried-few : (n : ℕ) (m : Room) (ws : List ℕ) (r : Reach) → carried_from n m r ws ≤ length ws
carried-few n m [] r = omega arith
carried-few n m (w ∷ ws) r = by_cases (stops n m r w) (λ e. rw e (omega arith)) (λ e. rw e (omega (arith, carried-few n m ws (after n r w))))

-- k words of j were carried out
abbrev ended : ℕ → ℕ → ℕ
ended k j = cond (eqb k j) 0 16

left_over : (k j : ℕ) → k ≤ j → ended k j ≡ first_number ((16, ltb k j) ∷ [])
left_over k j l =
    by_cases (eqb k j)
    (λ e. rw (e, le-ltb k j (omega (arith, eqb-true k j e))))
    (λ e. rw (e, lt-ltb k j (let d = eqb-false k j e in omega arith)))

module _ (n : ℕ) (b ws bl fl dn : List ℕ) where
  abbrev Same : Traced → Type 0
  Same o = (o.code ≡ 16 → ⊥) → (o.book ≡ b) × (o.blocks ≡ bl) × (o.figures ≡ fl) × (o.done ≡ dn)

  abbrev last : List Row
  last = (16, stopped n ws bl fl) ∷ []

  -- a call that was refused as k, and changed nothing
  abbrev kept : ℕ → Traced
  kept k = record { code = k; book = b; blocks = bl; figures = fl; done = dn }

  abbrev fault : ℕ
  fault = length_fault n (length b)

  first_two : Ends (λ o. o.code) Same (trace_table b n ws bl fl) (cond (eqb fault 0) (kept (first_number last)) (kept fault))
  first_two = book-turn (λ o. o.code) Same last kept (kept (first_number last)) (λ k. refl) (λ k x. (refl, refl, refl, refl)) (record { number = refl; kept = λ d x. (refl, refl, refl, refl) }) n b

  opening : eqb fault 0 ≡ true → Opens n [] b
  opening e = opens n [] b (room-plain n b (eqb-true fault 0 e))

  number_is : (trace_on b n ws bl fl dn).code ≡ first_number (trace_table b n ws bl fl)
  unfolding trace_on
  number_is =
      by_cases (eqb fault 0)
      (λ e. (trace-stops n b (opening e) ws bl fl dn).code ∙ left_over (carried n (room_of bl fl) ws) (length ws) (carried-few n (room_of bl fl) ws at_opening) ∙ (rw e at first_two.number))
      (λ e. rw e (rw e at first_two.number))

  kept-is : ((trace_on b n ws bl fl dn).code ≡ 0 → ⊥) → Same (trace_on b n ws bl fl dn)
  unfolding trace_on
  kept-is d =
      by_cases (eqb fault 0)
      (λ e x. let s = (trace-stops n b (opening e) ws bl fl dn).code in absurd (neither (carried n (room_of bl fl) ws) (length ws) (λ z. d (s ∙ z)) (λ z. x (s ∙ z))))
      (λ e. rw e (λ x. (refl, refl, refl, refl)))
    where
      neither : (k j : ℕ) → (ended k j ≡ 0 → ⊥) → (ended k j ≡ 16 → ⊥) → ⊥
      neither k j d x = by_cases (eqb k j) (λ e. d (rw e)) (λ e. x (rw e))

pub trace-refuses : TraceRefuses
trace-refuses b n ws bl fl dn r b' bl' fl' dn' e =
    rw (e.code, e.book, e.blocks, e.figures, e.done) (record { order = refl; number = number_is n b ws bl fl dn; kept = kept-is n b ws bl fl dn })
