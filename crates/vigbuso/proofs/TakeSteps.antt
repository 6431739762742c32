-- The ways out of the exported takes.
use Rattle.facts.proofs.Prelude.{ℕ, zero, suc, ◌+◌, ◌≤◌, arith, Bool, false, cond, List, ◌≡◌, refl, ◌∙◌, eqb, eq-eqb, ne_eqb}
use Rattle.fields.specs.Field.{arena, size, get}
use Rattle.classes.specs.Shape.{shape_of, class_count}
use Rattle.words.specs.Host.{digit}
use Rattle.calls.specs.Take.{take_call}
use Rattle.take.specs.way.TakeAnswer.{TakesInto}
use Rattle.take.specs.Answer.{answer_of}
use Rattle.take.specs.way.TakePlan.{CallPre}
use Rattle.vigbuso.specs.Faults.{class_fault}
use Rattle.vigbuso.specs.Blocks.{take_on, code_out, count_out, virgin_out, TakeEnds}
use Rattle.vigbuso.proofs.FaultSteps.{class-book, class-below}
use Rattle.vigbuso.proofs.DirectSteps.{book_in}

-- what the out-parameters tell, of a call's number and answer
not_none : (j : ℕ) → suc j ≡ 0 → ⊥
not_none j e = omega arith

module _ (n : ℕ) (g : Bool) where
  code_is : (j : ℕ) → j ≡ code_out (answer_of j n g)
  code_is zero = refl
  code_is (suc j) = refl

  count-is : (j old : ℕ) → cond (eqb j 0) n old ≡ count_out (answer_of j n g) old
  count-is zero old = refl
  count-is (suc j) old = rw (ne_eqb (suc j) 0 (not_none j))

  virgin-is : (j old : ℕ) → cond (eqb j 0) (digit g) old ≡ virgin_out (answer_of j n g) old
  virgin-is zero old = refl
  virgin-is (suc j) old = rw (ne_eqb (suc j) 0 (not_none j))

pub take-pre : (b : List ℕ) (h r low many c n : ℕ) → low + many ≤ class_count → r ≡ class_fault b h many c → r ≡ 0 → n ≡ get b (arena size) → CallPre n b (low + c)
take-pre b h r low many c n u e z f =
    let k = book_in b (class-book b h many c r e z) n f in
    record { known = omega (arith, class-below b h many c r e z); few = k.small; long = k.long }

module _ (b : List ℕ) (h many c r : ℕ) (e : r ≡ class_fault b h many c) (low : ℕ) (l : List ℕ) where
  pub take-unfit : (m v : ℕ) → (r ≡ 0 → ⊥) → TakeEnds (take_on low many b c h l) r b l m m v v
  unfolding take_on
  take-unfit m v d =
      let z = ne_eqb r 0 d in
      rw (← e, z) (record { code = code_is 0 false r; book = refl; list = refl; count = rw z at (count-is 0 false r m); virgin = rw z at (virgin-is 0 false r v) })

  pub take-goes : (n s s₀ : ℕ) (x y : List ℕ) (m m' v v' : ℕ) → r ≡ 0 → n ≡ get b (arena size) → TakesInto s₀ x y m m' v v' (take_call n b (low + c) (shape_of (low + c)) h l) → s ≡ s₀ → TakeEnds (take_on low many b c h l) s x y m m' v v'
  unfolding take_on
  take-goes n s s₀ x y m m' v v' z f k g =
      let t = take_call n b (low + c) (shape_of (low + c)) h l in
      rw (← e, eq-eqb r 0 z, ← f) (record { code = g ∙ k.code ∙ code_is t.count t.virgin t.code; book = k.book; list = k.list; count = k.count ∙ count-is t.count t.virgin t.code m; virgin = k.virgin ∙ virgin-is t.count t.virgin t.code v })
