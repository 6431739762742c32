-- `Since` as a test that each event changes.
use Rattle.facts.proofs.Prelude.{Bool, true, false, not, ◌&&◌, ◌||◌, false≢true, List, [], ◌∷◌, ◌⊎◌, inl, inr, ◌≡◌, refl, every, by_cases, and_left, and_right}
use Rattle.model.specs.History.{Event}
use Rattle.model.specs.Offered.{Since}

module _ (t u : Event → Bool) where
  abbrev pub since_next : Bool → Event → Bool
  since_next b v = t v || (b && not (u v))

  abbrev pub since_from : Bool → List Event → Bool
  since_from b [] = b
  since_from b (v ∷ vs) = since_from (since_next b v) vs

  abbrev quiet : List Event → Bool
  quiet vs = every (λ x. not (u x)) vs

  stays : (b : Bool) (vs : List Event) → b ≡ true → quiet vs ≡ true → since_from b vs ≡ true
  stays b [] e h = e
  stays b (v ∷ vs) e h =
      stays (t v || (b && not (u v))) vs
      (by_cases (t v) (λ a. rw a) (λ a. rw (a, e, and_left (not (u v)) (quiet vs) h)))
      (and_right (not (u v)) (quiet vs) h)

  since-holds : (b : Bool) (vs : List Event) → Since t u vs → since_from b vs ≡ true
  since-holds b [] s = absurd s
  since-holds b (v ∷ vs) (inl s) = stays (t v || (b && not (u v))) vs (rw s.0) s.1
  since-holds b (v ∷ vs) (inr s) = since-holds (t v || (b && not (u v))) vs s

  either : (b : Bool) (v : Event) (vs : List Event) → since_next b v ≡ true → quiet vs ≡ true → ((b ≡ true) × (quiet (v ∷ vs) ≡ true)) ⊎ Since t u (v ∷ vs)
  either b v vs e h =
      by_cases (t v)
      (λ a. inr (inl (a, h)))
      (λ a. let k : (b && not (u v)) ≡ true = rw a at e in inl (and_left b (not (u v)) k, rw (and_right b (not (u v)) k, h)))

  holds-since : (b : Bool) (vs : List Event) → since_from b vs ≡ true → ((b ≡ true) × (quiet vs ≡ true)) ⊎ Since t u vs
  holds-since b [] e = inl (e, refl)
  holds-since b (v ∷ vs) e = elim (holds-since (since_next b v) vs e) [
    | inl a ↦ either b v vs a.0 a.1
    | inr s ↦ inr (inr s)
  ]

  pub observed : (vs : List Event) → Since t u vs → since_from false vs ≡ true
  observed vs s = since-holds false vs s

  pub untold : (vs : List Event) → since_from false vs ≡ true → Since t u vs
  untold vs e = elim (holds-since false vs e) [
    | inl a ↦ absurd (false≢true a.0)
    | inr s ↦ s
  ]
