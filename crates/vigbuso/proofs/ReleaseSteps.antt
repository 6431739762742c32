-- The ways out of the exported releases by list.
use Rattle.facts.proofs.Prelude.{ℕ, zero, suc, ◌+◌, ◌≤◌, ◌<◌, arith, List, ◌≡◌, refl, sym, ◌∙◌, ne_eqb}
use mir.Val.{Fits}
use mir.Syntax.{w32}
use Rattle.classes.specs.declared.Shape.{Shape}
use Rattle.classes.specs.Shape.{shape_of, class_count}
use Rattle.classes.proofs.Shapes.{shape-sound}
use Rattle.fields.specs.Field.{arena, size, get}
use Rattle.fields.specs.Ranges.{meta_fault}
use Rattle.calls.specs.Release as Back
use Rattle.calls.specs.Release.{release_blocks}
use Rattle.release.specs.way.Act.{Answered}
use Rattle.release.specs.Answer.{Released, Refused, Fate, answer_as}
use Rattle.release.specs.way.Pre.{ClassPre}
use Rattle.vigbuso.specs.Faults.{class_fault}
use Rattle.vigbuso.specs.Blocks.{release_on, ReleaseEnds}
use Rattle.vigbuso.proofs.FaultSteps.{class-book, class-below, id_fits}
use Rattle.vigbuso.proofs.DirectSteps.{book_in}

refusal : (k : ℕ) → 0 < k → (f : ℕ) → Refused k ≡ answer_as k f
refusal zero d f = absurd (omega arith)
refusal (suc k) d f = refl

pub class-pre : (b : List ℕ) (c n : ℕ) (sh : Shape) → meta_fault b ≡ 0 → c < class_count → n ≡ get b (arena size) → sh ≡ shape_of c → ClassPre n b c sh
class-pre b c n sh z j f w =
    let k = book_in b z n f in
    record { known = omega arith; sound = rw w (shape-sound c); few = k.small; long = k.long }

module _ (b : List ℕ) (h many c low : ℕ) where
  pub release-id : low + many ≤ class_count → 0 ≡ class_fault b h many c → Fits w32 (low + c)
  release-id u e = id_fits b h many c 0 low u e refl

  pub release-pre : (n : ℕ) → low + many ≤ class_count → 0 ≡ class_fault b h many c → n ≡ get b (arena size) → ClassPre n b (low + c) (shape_of (low + c))
  release-pre n u e f = class-pre b (low + c) n (shape_of (low + c)) (class-book b h many c 0 e refl) (omega (arith, class-below b h many c 0 e refl)) f refl

  pub release-unfit : (l : List ℕ) (r : ℕ) → r ≡ class_fault b h many c → 0 < r → Answered (Refused r) b (release_on low many b c h l)
  unfolding release_on
  release-unfit l r e d = rw (← e, ne_eqb r 0 (λ z. omega arith)) (record { answer = refusal r d _; left = refl })

  pub release-goes : (l : List ℕ) (n : ℕ) (s : Released) (x : List ℕ) → 0 ≡ class_fault b h many c → n ≡ get b (arena size) → Answered s x (release_blocks n b (low + c) (shape_of (low + c)) h l) → Answered s x (release_on low many b c h l)
  unfolding release_on
  release-goes l n s x e f t = rw (← e) (rw f at t)

module _ (o : Back.Released) (x : List ℕ) (r k f : ℕ) (e : r ≡ k) where
  pub release_ends_refused : Answered (Refused k) x o → ReleaseEnds o r x f f
  release_ends_refused a = let z = sym a.answer in record { code = e ∙ rw z; book = a.left; fate = rw z }

  pub release_ends_fate : Answered (Fate k) x o → ReleaseEnds o 0 x f r
  release_ends_fate a = let z = sym a.answer in record { code = rw z; book = a.left; fate = e ∙ rw z }
