-- What a call may have changed: everything but the fields at which a test fails is as it was.
--     same-eq        fields that are the same are equal
--     differ         fields that any test tells apart are not the same
--     Changes t b b' the book b' has the length of b, and every field with t false has the value that it has in b
--     changes-put    a write to a field with t true is such a change: t computes at the field's name, so the condition is `refl` or one equation
use Rattle.facts.proofs.Prelude.{ℕ, Bool, true, false, true≢false, List, [], ◌∷◌, map, ◌≡◌, refl, sym, ap, ◌∙◌, eqb, length, get_or, eqb-true, and_left, and_right}
use Rattle.fields.specs.Field.{Field, arena, mark, class, hole, page, out, slot, size, state, frontier, holes, hole_pages, commits, commits_high, reuses, reuses_high, abandoned, abandoned_high, held, format, partial, empty, empty_count, cold, cold_count, empty_limit, cold_limit, start, pages, owner, first, next, prev, free, carved, listed, virgin, tally, region, off, block, row, get, put, same, ok}
use Rattle.fields.proofs.Laws.{get-put_other, length-put}

-- ---- a field from its four numbers
makers : List (List (ℕ → ℕ → Field))
makers =
    map (λ k i r. arena k) (size ∷ state ∷ frontier ∷ holes ∷ hole_pages ∷ commits ∷ commits_high ∷ reuses ∷ reuses_high ∷ abandoned ∷ abandoned_high ∷ held ∷ format ∷ [])
    ∷ ((λ i r. mark r i) ∷ [])
    ∷ map (λ k i r. class k r) (partial ∷ empty ∷ empty_count ∷ cold ∷ cold_count ∷ empty_limit ∷ cold_limit ∷ [])
    ∷ map (λ k i r. hole k r) (start ∷ pages ∷ [])
    ∷ map (λ k i r. page k r) (owner ∷ first ∷ next ∷ prev ∷ free ∷ carved ∷ listed ∷ virgin ∷ tally ∷ [])
    ∷ ((λ i r. out r i) ∷ [])
    ∷ ((λ i r. slot r i) ∷ [])
    ∷ []

make : ℕ → ℕ → ℕ → ℕ → Field
make r k i x = get_or (get_or makers r []) k (λ i r. mark r i) i x

made : (f : Field) → make (region f) (off f) (block f) (row f) ≡ f
unfolding makers make
made (arena size) = refl
made (arena state) = refl
made (arena frontier) = refl
made (arena holes) = refl
made (arena hole_pages) = refl
made (arena commits) = refl
made (arena commits_high) = refl
made (arena reuses) = refl
made (arena reuses_high) = refl
made (arena abandoned) = refl
made (arena abandoned_high) = refl
made (arena held) = refl
made (arena format) = refl
made (mark p j) = refl
made (class partial c) = refl
made (class empty c) = refl
made (class empty_count c) = refl
made (class cold c) = refl
made (class cold_count c) = refl
made (class empty_limit c) = refl
made (class cold_limit c) = refl
made (hole start i) = refl
made (hole pages i) = refl
made (page owner p) = refl
made (page first p) = refl
made (page next p) = refl
made (page prev p) = refl
made (page free p) = refl
made (page carved p) = refl
made (page listed p) = refl
made (page virgin p) = refl
made (page tally p) = refl
made (out p i) = refl
made (slot p i) = refl

pub same-eq : (f g : Field) → same f g ≡ true → f ≡ g
same-eq f g e =
    let e₀ = eqb-true (region f) (region g) (and_left _ _ e) in
    let h₁ = and_right (eqb (region f) (region g)) _ e in
    let e₁ = eqb-true (off f) (off g) (and_left _ _ h₁) in
    let h₂ = and_right (eqb (off f) (off g)) _ h₁ in
    let e₂ = eqb-true (block f) (block g) (and_left _ _ h₂) in
    let e₃ = eqb-true (row f) (row g) (and_right (eqb (block f) (block g)) _ h₂) in
    sym (made f) ∙ rw (e₀, e₁, e₂, e₃) (made g)

told : (s : Bool) (t : Field → Bool) (f g : Field) → (s ≡ true → f ≡ g) → t f ≡ true → t g ≡ false → s ≡ false
told true t f g e a b = absurd (true≢false (sym a ∙ ap t (e refl) ∙ b))
told false t f g e a b = refl

pub differ : (t : Field → Bool) (f g : Field) → t f ≡ true → t g ≡ false → same f g ≡ false
differ t f g a b = told (same f g) t f g (same-eq f g) a b

pub record Changes (t : Field → Bool) (b b' : List ℕ) : Type 0 where
  pub long : length b' ≡ length b
  pub kept : (g : Field) → ok g ≡ true → t g ≡ false → get b' g ≡ get b g

module _ (t : Field → Bool) where
  pub changes-none : (b : List ℕ) → Changes t b b
  changes-none b = record { long = refl; kept = λ g o d. refl }

  pub changes-put : (b b' : List ℕ) (f : Field) (v : ℕ) → ok f ≡ true → t f ≡ true → Changes t b b' → Changes t b (put b' f v)
  changes-put b b' f v o d h =
      record { long = length-put b' f v ∙ h.long; kept = λ g k e. get-put_other b' f g v o k (differ t f g d e) ∙ h.kept g k e }

  pub changes_trans : (b₁ b₂ b₃ : List ℕ) → Changes t b₁ b₂ → Changes t b₂ b₃ → Changes t b₁ b₃
  changes_trans b₁ b₂ b₃ h k = record { long = k.long ∙ h.long; kept = λ g o d. k.kept g o d ∙ h.kept g o d }

false_of : (s u : Bool) → (s ≡ true → u ≡ true) → u ≡ false → s ≡ false
false_of true u h e = absurd (true≢false (sym (h refl) ∙ e))
false_of false u h e = refl

pub changes_mono : (t u : Field → Bool) (b b' : List ℕ) → ((g : Field) → t g ≡ true → u g ≡ true) → Changes t b b' → Changes u b b'
changes_mono t u b b' m h = record { long = h.long; kept = λ g o d. h.kept g o (false_of (t g) (u g) (m g) d) }
