-- The ways out of the tests that come first, and what is known where none applies.
--     numbered        a refusal's number is not 0
--     call-book       no number from 1 to 3: neither 1 nor 2
--     class-book, class-below    no number from 1 to 4: neither 1 nor 2, and the class is one of ours
--     admits-book, admits-class    the same of `admits`
--     id-fits         so that its id is a number of 32 bits
use Rattle.facts.proofs.Prelude.{ℕ, ◌+◌, ◌≤◌, ◌<◌, arith, Bool, true, false, cond, true≢false, List, ◌≡◌, refl, sym, ◌∙◌, eqb}
use Rattle.facts.proofs.Prelude.{ltb, leb, eq-eqb, ne_eqb, eqb-true, le-leb, lt-leb, leb-false, ltb-true, and_left, and_right}
use mir.Val.{Fits}
use mir.Syntax.{w32}
use Rattle.words.specs.Host.{bad_host}
use Rattle.words.specs.declared.refusal.Refusal.{Refusal}
use Rattle.words.specs.Refusal.{number_of}
use Rattle.words.proofs.Refusals.{positive}
use Rattle.classes.specs.Shape.{class_count}
use Rattle.fields.specs.Ranges.{meta_fault}
use Rattle.vigbuso.specs.Faults.{call_fault, class_fault, admits}

-- a refusal's number is not 0, which stands for none
pub numbered : (e : Refusal) → number_of e ≡ 0 → ⊥
numbered e z = omega (arith, positive e, z)

-- a number f, then the test t of number k: where both give 0, neither applies
record Clear (f : ℕ) (t : Bool) : Type 0 where
  before : f ≡ 0
  passed : t ≡ false

clear : (f k : ℕ) (t e : Bool) → (k ≡ 0 → ⊥) → eqb f 0 ≡ e → cond e (cond t k 0) f ≡ 0 → Clear f t
clear f k true true d e z = absurd (d z)
clear f k false true d e z = record { before = eqb-true f 0 e; passed = refl }
clear f k t false d e z = absurd (true≢false (sym (eq-eqb f 0 z) ∙ e))

module _ (b : List ℕ) (h : ℕ) where
  call-clear : call_fault b h ≡ 0 → Clear (meta_fault b) (bad_host h)
  unfolding call_fault
  call-clear z = clear (meta_fault b) 3 (bad_host h) _ (λ e. omega arith) refl z

  pub call-book : (r : ℕ) → r ≡ call_fault b h → r ≡ 0 → meta_fault b ≡ 0
  call-book r e z = (call-clear (sym e ∙ z)).before

  module _ (r : ℕ) (e : r ≡ meta_fault b) where
    pub call-unfit : (r ≡ 0 → ⊥) → r ≡ call_fault b h
    unfolding call_fault
    call-unfit d = rw (← e, ne_eqb r 0 d)

    pub call-host : (k : ℕ) (t : Bool) → r ≡ 0 → k ≡ h → t ≡ bad_host k → t ≡ true → 3 ≡ call_fault b h
    unfolding call_fault
    call-host k t z g f u = rw (← e, eq-eqb r 0 z, ← g, ← f, u)

    pub call_fits : (k : ℕ) (t : Bool) → r ≡ 0 → k ≡ h → t ≡ bad_host k → t ≡ false → 0 ≡ call_fault b h
    unfolding call_fault
    call_fits k t z g f u = rw (← e, eq-eqb r 0 z, ← g, ← f, u)

  module _ (many c : ℕ) where
    class-clear : class_fault b h many c ≡ 0 → Clear (call_fault b h) (leb many c)
    unfolding class_fault
    class-clear z = clear (call_fault b h) 4 (leb many c) _ (λ e. omega arith) refl z

    pub class-book : (r : ℕ) → r ≡ class_fault b h many c → r ≡ 0 → meta_fault b ≡ 0
    class-book r e z = (call-clear (class-clear (sym e ∙ z)).before).before

    pub class-below : (r : ℕ) → r ≡ class_fault b h many c → r ≡ 0 → c < many
    class-below r e z = leb-false many c (class-clear (sym e ∙ z)).passed

    pub id_fits : (r low : ℕ) → low + many ≤ class_count → r ≡ class_fault b h many c → r ≡ 0 → Fits w32 (low + c)
    id_fits r low l e z = record { fits = omega (arith, class-below r e z) }

    module _ (r : ℕ) (e : r ≡ call_fault b h) where
      pub class-unfit : (r ≡ 0 → ⊥) → r ≡ class_fault b h many c
      unfolding class_fault
      class-unfit d = rw (← e, ne_eqb r 0 d)

      pub class-none : r ≡ 0 → many ≤ c → 4 ≡ class_fault b h many c
      unfolding class_fault
      class-none z l = rw (← e, eq-eqb r 0 z, le-leb many c l)

      pub class-fits : r ≡ 0 → c < many → 0 ≡ class_fault b h many c
      unfolding class_fault
      class-fits z l = rw (← e, eq-eqb r 0 z, lt-leb many c l)

-- ---- a book and a class that are admitted
module _ (b : List ℕ) (c : ℕ) where
  module _ (r : ℕ) (e : r ≡ meta_fault b) where
    pub admits-not : (r ≡ 0 → ⊥) → false ≡ admits b c
    unfolding admits
    admits-not d = rw (← e, ne_eqb r 0 d)

    pub admits-by : r ≡ 0 → ltb c class_count ≡ admits b c
    unfolding admits
    admits-by z = rw (← e, eq-eqb r 0 z)

  module _ (t : Bool) (e : t ≡ admits b c) (z : t ≡ true) where
    pub admits-book : meta_fault b ≡ 0
    unfolding admits
    admits-book = eqb-true (meta_fault b) 0 (and_left (eqb (meta_fault b) 0) _ (sym e ∙ z))

    pub admits-class : c < class_count
    unfolding admits
    admits-class = ltb-true c class_count (and_right (eqb (meta_fault b) 0) _ (sym e ∙ z))
