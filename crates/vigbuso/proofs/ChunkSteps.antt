-- The ways out of the exported group release.
use Rattle.facts.proofs.Prelude.{ℕ, arith, true, List, ◌≡◌, refl, ltb, eq-eqb, ne_eqb, lt-ltb, ltb-true}
use Rattle.classes.specs.declared.Shape.{Shape}
use Rattle.classes.specs.Shape.{shape_of, small_shape, class_count}
use Rattle.fields.specs.Field.{arena, size, get}
use Rattle.calls.specs.Chunks.{ChunksReleased, release_chunks}
use Rattle.chunks.specs.way.CallPre.{CallPre, ChunksAnswered}
use Rattle.vigbuso.specs.Faults.{class_fault}
use Rattle.vigbuso.specs.Blocks.{chunks_on, ChunksEnds}
use Rattle.vigbuso.proofs.FaultSteps.{class-book, class-below}
use Rattle.vigbuso.proofs.ReleaseSteps.{class-pre}

-- a small class's run is one page
one-page : (c : ℕ) → ltb c 64 ≡ true → (shape_of c).pages ≡ 1
unfolding shape_of small_shape
one-page c e = rw (lt-ltb c class_count (omega (arith, ltb-true c 64 e)), e) refl

pub chunks-pre : (b : List ℕ) (h r c n : ℕ) (sh : Shape) → r ≡ class_fault b h 64 c → r ≡ 0 → n ≡ get b (arena size) → sh ≡ shape_of c → CallPre n b c sh
chunks-pre b h r c n sh e z f w =
    let l = class-below b h 64 c r e z in
    record { class = class-pre b c n sh (class-book b h 64 c r e z) (omega arith) f w; single = rw w (one-page c (lt-ltb c 64 l)) }

ends : {o : ChunksReleased} {s : ℕ} {x y : List ℕ} → ChunksAnswered s x y o → ChunksEnds o s x y
ends t = record { code = t.answer; book = t.left; fates = t.fates }

module _ (b : List ℕ) (h c r : ℕ) (e : r ≡ class_fault b h 64 c) (ws gs fs : List ℕ) where
  pub chunks-unfit : (r ≡ 0 → ⊥) → ChunksEnds (chunks_on b c h ws gs fs) r b fs
  unfolding chunks_on
  chunks-unfit d = rw (← e, ne_eqb r 0 d) (record { code = refl; book = refl; fates = refl })

  pub chunks-goes : (n : ℕ) (sh : Shape) (s : ℕ) (x y : List ℕ) → r ≡ 0 → n ≡ get b (arena size) → sh ≡ shape_of c
      → ChunksAnswered s x y (release_chunks n b c sh h ws gs fs) → ChunksEnds (chunks_on b c h ws gs fs) s x y
  unfolding chunks_on
  chunks-goes n sh s x y z f w t = rw (← e, eq-eqb r 0 z) (ends (rw w at (rw f at t)))
