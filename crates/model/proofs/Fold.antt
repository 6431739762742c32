-- The entries not yet released, as a list that each call changes.
use Rattle.facts.proofs.Prelude.{ℕ, suc, Bool, true, not, List, [], ◌∷◌, ◌++◌, ◌⊎◌, inl, inr, Option, none, some, ◌≡◌, refl, filter, every, by_cases, and_left, and_right}
use Rattle.model.specs.Calls.{Answer, Named, names, blocks_of, released_by}
use Rattle.model.specs.History.{Event}
use Rattle.model.specs.Entries.{Entry, In, Live, entries_from, entries_of, has_word, releases}

abbrev pub live_next : ℕ → Option Named → Answer → List Entry → List Entry
live_next k none x es = es
live_next k (some d) x es = filter (λ e. not (has_word d.class (released_by d.request x) e)) es ++ entries_from k d.class 0 (blocks_of x)

abbrev pub live_from : ℕ → List Entry → List Event → List Entry
live_from k es [] = es
live_from k es (v ∷ vs) = live_from (suc k) (live_next k (names v.call) v.answer es) vs

in_left : (e : Entry) (s t : List Entry) → In e s → In e (s ++ t)
in_left e [] t m = absurd m
in_left e (x ∷ s) t (inl p) = inl p
in_left e (x ∷ s) t (inr m) = inr (in_left e s t m)

in_right : (e : Entry) (s t : List Entry) → In e t → In e (s ++ t)
in_right e [] t m = m
in_right e (x ∷ s) t m = inr (in_right e s t m)

in_filter : (f : Entry → Bool) (e : Entry) (s : List Entry) → f e ≡ true → In e s → In e (filter f s)
in_filter f e [] h m = m
in_filter f e (x ∷ s) h (inl p) = rw (← p, h) (inl refl)
in_filter f e (x ∷ s) h (inr m) =
    let ih = in_filter f e s h m in
    by_cases (f x) (λ b. rw b (inr ih)) (λ b. rw b ih)

stays : (k : ℕ) (d : Option Named) (x : Answer) (e : Entry) (es : List Entry) → not (releases d x e) ≡ true → In e es → In e (live_next k d x es)
stays k none x e es h m = m
stays k (some d) x e es h m =
    let f : Entry → Bool = λ u. not (has_word d.class (released_by d.request x) u) in
    in_left e (filter f es) (entries_from k d.class 0 (blocks_of x)) (in_filter f e es h m)

comes : (k : ℕ) (d : Option Named) (x : Answer) (e : Entry) (es : List Entry) → In e (entries_of k d x) → In e (live_next k d x es)
comes k none x e es m = absurd m
comes k (some d) x e es m = in_right e (filter (λ u. not (has_word d.class (released_by d.request x) u)) es) (entries_from k d.class 0 (blocks_of x)) m

stays_on : (k : ℕ) (e : Entry) (es : List Entry) (vs : List Event) → every (λ u. not (releases (names u.call) u.answer e)) vs ≡ true → In e es → In e (live_from k es vs)
stays_on k e es [] h m = m
stays_on k e es (v ∷ vs) h m =
    let f : Event → Bool = λ u. not (releases (names u.call) u.answer e) in
    stays_on (suc k) e (live_next k (names v.call) v.answer es) vs (and_right (f v) (every f vs) h) (stays k (names v.call) v.answer e es (and_left (f v) (every f vs) h) m)

pub live_in : (k : ℕ) (e : Entry) (es : List Entry) (vs : List Event) → Live k vs e → In e (live_from k es vs)
live_in k e es [] o = absurd o
live_in k e es (v ∷ vs) (inl o) = stays_on (suc k) e (live_next k (names v.call) v.answer es) vs o.1 (comes k (names v.call) v.answer e es o.0)
live_in k e es (v ∷ vs) (inr o) = live_in (suc k) e (live_next k (names v.call) v.answer es) vs o

-- and back: what stands in the list at the end is an entry not yet released, or stood there and was not
in_parts : (e : Entry) (s t : List Entry) → In e (s ++ t) → In e s ⊎ In e t
in_parts e [] t m = inr m
in_parts e (x ∷ s) t (inl p) = inl (inl p)
in_parts e (x ∷ s) t (inr m) = elim (in_parts e s t m) [
  | inl a ↦ inl (inr a)
  | inr b ↦ inr b
]

filter_in : (f : Entry → Bool) (e : Entry) (s : List Entry) → In e (filter f s) → (f e ≡ true) × In e s
filter_in f e [] m = absurd m
filter_in f e (x ∷ s) m =
    let more : In e (filter f s) → (f e ≡ true) × In e (x ∷ s) = λ n. let r = filter_in f e s n in (r.0, inr r.1) in
    by_cases (f x)
    (λ b. let y : (e ≡ x) ⊎ In e (filter f s) = rw b at m in
    elim y [
      | inl p ↦ (rw (p, b), inl p)
      | inr n ↦ more n
    ])
    (λ b. more (rw b at m))

stayed : (k : ℕ) (d : Option Named) (x : Answer) (e : Entry) (es : List Entry) → In e (live_next k d x es) → ((not (releases d x e) ≡ true) × In e es) ⊎ In e (entries_of k d x)
stayed k none x e es m = inl (refl, m)
stayed k (some d) x e es m =
    let f : Entry → Bool = λ u. not (has_word d.class (released_by d.request x) u) in
    elim (in_parts e (filter f es) (entries_from k d.class 0 (blocks_of x)) m) [
      | inl a ↦ inl (filter_in f e es a)
      | inr b ↦ inr b
    ]

in_from : (k : ℕ) (e : Entry) (es : List Entry) (vs : List Event) → In e (live_from k es vs)
    → (In e es × (every (λ u. not (releases (names u.call) u.answer e)) vs ≡ true)) ⊎ Live k vs e
in_from k e es [] m = inl (m, refl)
in_from k e es (v ∷ vs) m = elim (in_from (suc k) e (live_next k (names v.call) v.answer es) vs m) [
  | inl a ↦ elim (stayed k (names v.call) v.answer e es a.0) [
    | inl s ↦ inl (s.1, rw (s.0, a.1))
    | inr n ↦ inr (inl (n, a.1))
  ]
  | inr b ↦ inr (inr b)
]

pub in_live : (e : Entry) (vs : List Event) → In e (live_from 0 [] vs) → Live 0 vs e
in_live e vs m = elim (in_from 0 e [] vs m) [
  | inl a ↦ absurd a.0
  | inr b ↦ b
]
