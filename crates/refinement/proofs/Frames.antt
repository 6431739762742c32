-- Which fields are whose, and what depends on which.
--     home b f     the class, and one, to which a field belongs; 0 for the arena's. OWNER and FIRST are the arena's, and a class's limits are
--                  counted so too: no call of the class writes them
--     Only         a change of one class's fields only
--     is_data q     the fields that say what the blocks of the run at q are
use Rattle.facts.proofs.Prelude.{ℕ, suc, Bool, true, false, cond, ◌&&◌, ◌||◌, List, [], ◌∷◌, ◌≡◌, refl, ◌∙◌, eqb, ltb, leb, eqb·zero-suc, length, lt-ltb, by_cases}
use Rattle.words.specs.Limits.{class_rows}
use Rattle.classes.specs.declared.Shape.{Shape}
use Rattle.fields.specs.Field.{Field, arena, class, hole, page, mark, slot, out, owner, page_off, get, empty_limit, cold_limit, class_off}
use Rattle.rules.specs.declared.Limits.{Limits}
use Rattle.fields.proofs.Changes.{Changes, changes_trans, changes_mono}
use Rattle.pages.specs.Stack.{out_bit}
use Rattle.pages.proofs.Kept.{Owns, changes-owns}
use Rattle.refinement.specs.way.Represents.{Slots, RuleRep}

-- ---- which fields are whose
abbrev pub home : List ℕ → Field → ℕ
home b (arena k) = 0
home b (mark p j) = get b (page owner p)
home b (class k c) = cond (leb (class_off k) 4) (suc c) 0
home b (hole k i) = 0
home b (page k p) = cond (leb (page_off k) 1) 0 (get b (page owner p))
home b (slot p i) = get b (page owner p)
home b (out p i) = get b (page owner p)

abbrev pub of_class : List ℕ → ℕ → Field → Bool
of_class b c g = eqb (home b g) (suc c)

abbrev pub Only : ℕ → List ℕ → List ℕ → Type 0
Only c b b' = Changes (of_class b c) b b'

pub only-owns : (c : ℕ) {b b' : List ℕ} → Only c b b' → Owns b b'
only-owns c h = let e = eqb·zero-suc c in changes-owns h (λ x. e) (λ x. e) e

home-kept : (b b' : List ℕ) → Owns b b' → (g : Field) → home b' g ≡ home b g
home-kept b b' o (arena k) = refl
home-kept b b' o (mark p j) = o.owners p
home-kept b b' o (class k c) = refl
home-kept b b' o (hole k i) = refl
home-kept b b' o (page k p) = rw (o.owners p)
home-kept b b' o (slot p i) = o.owners p
home-kept b b' o (out p i) = o.owners p

pub only_trans : (c : ℕ) {b₁ b₂ b₃ : List ℕ} → Only c b₁ b₂ → Only c b₂ b₃ → Only c b₁ b₃
only_trans c {b₁} {b₂} {b₃} h k =
    changes_trans (of_class b₁ c) b₁ b₂ b₃ h
    (changes_mono (of_class b₂ c) (of_class b₁ c) b₂ b₃ (λ g e. rw (home-kept b₁ b₂ (only-owns c h) g) at e) k)

pub rule_kept : {b b' : List ℕ} {c : ℕ} {lim : Limits} → get b' (class empty_limit c) ≡ get b (class empty_limit c) → get b' (class cold_limit c) ≡ get b (class cold_limit c)
    → RuleRep b c lim → RuleRep b' c lim
rule_kept e k r = record { same = rw (e, k) r.same; fit = r.fit }

pub only_rule : (d : ℕ) {b b' : List ℕ} → Only d b b' → (c : ℕ) {lim : Limits} → ltb c class_rows ≡ true → RuleRep b c lim → RuleRep b' c lim
only_rule d h c hc = rule_kept (h.kept (class empty_limit c) hc (eqb·zero-suc d)) (h.kept (class cold_limit c) hc (eqb·zero-suc d))

-- FREE, CARVED and VIRGIN, the stack and the out bits
abbrev pub is_data : ℕ → Field → Bool
is_data q (arena k) = false
is_data q (mark p j) = false
is_data q (class k c) = false
is_data q (hole k i) = false
is_data q (page k p) = (eqb (page_off k) 4 || (eqb (page_off k) 5 || eqb (page_off k) 7)) && eqb p q
is_data q (slot p i) = eqb p q
is_data q (out p i) = eqb p q

pub data_owns : (q : ℕ) {b b' : List ℕ} → Changes (is_data q) b b' → Owns b b'
data_owns q h = changes-owns h (λ x. refl) (λ x. refl) refl

-- ---- out bits and stacks
module _ (b b' : List ℕ) where
  pub out_bit-kept : (sh : Shape) (q i : ℕ) → (ltb i sh.capacity ≡ true → get b' (out q i) ≡ get b (out q i)) → out_bit b' sh q i ≡ out_bit b sh q i
  unfolding out_bit
  out_bit-kept sh q i k = by_cases (ltb i sh.capacity) (λ e. rw e (k e)) (λ e. rw e)

  pub slots_kept : (q : ℕ) (xs : List ℕ) → ((i : ℕ) → ltb i 4096 ≡ true → get b' (slot q i) ≡ get b (slot q i)) → Slots b q xs → Slots b' q xs
  slots_kept q [] k s = tt
  slots_kept q (x ∷ xs) k s = (k (length xs) (lt-ltb _ _ s.1) ∙ s.0, s.1, slots_kept q xs k s.2)
