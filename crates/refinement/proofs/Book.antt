-- The whole book after a call that changed words of one class only.
--     setting-of           the standing facts, of a represented book
--     represents-class     the book stands for the heap with that class's new state
--     Stands               it stands for a reached heap whose class c has state t
use Rattle.facts.proofs.Prelude.{ℕ, true, List, ◌≡◌, sym, subst, ltb, eq-eqb, ne_eqb, update}
use native.Mathlib.Decide.{ℕ_discrete}
use Rattle.words.specs.Limits.{class_rows}
use Rattle.classes.specs.Shape.{shape_of}
use Rattle.classes.proofs.Shapes.{shape-sound}
use Rattle.model.specs.Class.{Class}
use Rattle.model.specs.Heap.{Heap}
use Rattle.refinement.specs.way.Represents.{StateRep, Represents}
use Rattle.refinement.proofs.ArenaReached.{Reached, heap_of}
use Rattle.refinement.proofs.ArenaSteps.{rep-classes}
use Rattle.refinement.proofs.GiveClass.{arena-only}
use Rattle.refinement.proofs.Basics.{Setting}
use Rattle.refinement.proofs.Frames.{Only, only_rule}
use Rattle.refinement.proofs.Kept.{other_class_kept}

-- every class but c, and c
pub classes-with : (n : ℕ) (b : List ℕ) (H : Heap) (c : ℕ) (s : Class) → StateRep n b c (shape_of c) s
    → ((d : ℕ) → ltb d class_rows ≡ true → (d ≡ c → ⊥) → StateRep n b d (shape_of d) (H.classes d))
    → (d : ℕ) → ltb d class_rows ≡ true → StateRep n b d (shape_of d) (update H.classes c s d)
classes-with n b H c s new others d hd =
    elim (ℕ_discrete d c) [
      | yes e ↦ rw (eq-eqb d c e) (subst (λ (k : ℕ). StateRep n b k (shape_of k) s) (sym e) new)
      | no e ↦ rw (ne_eqb d c e) (others d hd e)
    ]

-- a class whose state is known by another name
pub state_as : {n : ℕ} {b : List ℕ} {H : Heap} {c : ℕ} {t : Class} → Represents n b H → ltb c class_rows ≡ true → H.classes c ≡ t → StateRep n b c (shape_of c) t
state_as {n} {b} {H} {c} R hc e = subst (λ (t : Class). StateRep n b c (shape_of c) t) e (R.classes c hc)

module _ (n : ℕ) (b : List ℕ) (H : Heap) (R : Represents n b H) where
  pub setting_of : (c : ℕ) → ltb c class_rows ≡ true → Setting n b c (shape_of c)
  setting_of c hc = record { long = R.arena.long; row = hc; shape = shape-sound c }

  module _ (ok : Reached n H) where
    pub represents-class : (b' : List ℕ) (c : ℕ) (s : Class) → Only c b b' → StateRep n b' c (shape_of c) s
        → Represents n b' (heap_of H.rules H.arena H.holder (update H.classes c s))
    represents-class b' c s h new = record {
      arena = rep-classes n b' H (update H.classes c s) (arena-only n b b' H c ok h R.arena);
      classes = classes-with n b' H c s new (λ d hd ne. other_class_kept d c (shape-sound d) hd ne h (R.classes d hd));
      rules = λ d hd. only_rule c h d hd (R.rules d hd);
    }

-- ---- the situation of a class's call
pub record Stands (n : ℕ) (b : List ℕ) (c : ℕ) (t : Class) : Type 0 where
  pub heap : Heap
  pub represents : Represents n b heap
  pub reached : Reached n heap
  pub row : ltb c class_rows ≡ true
  pub state : heap.classes c ≡ t

abbrev pub stands : {n : ℕ} {b : List ℕ} {H : Heap} {c : ℕ} {t : Class} → Represents n b H → Reached n H → ltb c class_rows ≡ true → H.classes c ≡ t → Stands n b c t
stands {H = H} R ok hc e = record { heap = H; represents = R; reached = ok; row = hc; state = e }

module _ {n : ℕ} {b : List ℕ} {c : ℕ} {t : Class} (B : Stands n b c t) where
  pub setting : Setting n b c (shape_of c)
  setting = setting_of n b B.heap B.represents c B.row

  pub state-rep : StateRep n b c (shape_of c) t
  state-rep = state_as B.represents B.row B.state
