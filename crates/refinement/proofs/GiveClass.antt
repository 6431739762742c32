-- A class lets a run go, and it is given to the arena: the whole book stands for the model's heap.
--     arena-only         a change of one class's fields only keeps the arena's part
--     run-held           the pages of a class's run are held
--     give-represents    the page in no list is given
use Rattle.facts.proofs.Prelude.{ℕ, suc, ◌+◌, ◌≤◌, ◌<◌, arith, true, false, false≢true, List, ◌∷◌, map, ◌≡◌, refl, sym, ◌∙◌, subst, eqb}
use Rattle.facts.proofs.Prelude.{ltb, leb, eqb·zero-suc, eq-eqb, ne_eqb, ltb-true, leb-true, update, by_cases, and_left, and_right}
use native.Mathlib.Decide.{ℕ_discrete}
use Rattle.words.specs.Limits.{class_rows}
use Rattle.model.specs.Cover.{in_run, covers}
use Rattle.classes.specs.declared.Shape.{Shape}
use Rattle.classes.specs.Shape.{shape_of}
use Rattle.classes.proofs.Shapes.{shape-sound}
use Rattle.fields.specs.Field.{Field, PageField, arena, class, hole, page, mark, out, slot, owner, first, next, prev, free, carved, listed, virgin, tally, page_off}
use Rattle.model.specs.Arena.{give}
use Rattle.model.specs.Page.{Page, reused}
use Rattle.model.specs.Class.{Class, thawed}
use Rattle.model.specs.Heap as Heaps
use Rattle.model.specs.Heap.{Heap, Holder, nobody, direct, is_held, pass_to}
use Rattle.pages.specs.Runs.{whole}
use Rattle.pages.proofs.Runs.{whole_says}
use Rattle.pages.specs.declared.Park.TheVariants.{Empty}
use Rattle.arena.specs.Owners.{owner_code}
use Rattle.arena.specs.Calls.{given}
use Rattle.arena.specs.way.Represents.{ArenaRep}
use Rattle.refinement.specs.way.Represents.{ClassRep, StateRep, Represents}
use Rattle.refinement.proofs.Frames.{of_class, Only, only_rule}
use Rattle.refinement.proofs.Kept.{other_class_kept}
use Rattle.refinement.proofs.ArenaReached.{Reached, heap_of}
use Rattle.refinement.proofs.ArenaValid.{loads-frontier}
use Rattle.refinement.proofs.ArenaFrames.{step_rule}
use Rattle.refinement.proofs.ArenaSteps.{is_arenas, rep-kept}
use Rattle.refinement.proofs.ArenaRuns.{given-step}
use Rattle.refinement.proofs.ArenaKeeps.{class-left, other_class_left}
use Rattle.refinement.proofs.GiveRep.{give-rep}

-- ---- a class's fields are not the arena's
owner-home : (k : PageField) → eqb (page_off k) 0 ≡ true → leb (page_off k) 1 ≡ true
owner-home owner e = refl
owner-home first e = refl
owner-home next e = absurd (false≢true e)
owner-home prev e = absurd (false≢true e)
owner-home free e = absurd (false≢true e)
owner-home carved e = absurd (false≢true e)
owner-home listed e = absurd (false≢true e)
owner-home virgin e = absurd (false≢true e)
owner-home tally e = absurd (false≢true e)

arenas-home : (b : List ℕ) (c : ℕ) (g : Field) → is_arenas g ≡ true → of_class b c g ≡ false
arenas-home b c (arena k) e = eqb·zero-suc c
arenas-home b c (mark p j) e = absurd (false≢true e)
arenas-home b c (class k d) e = absurd (false≢true e)
arenas-home b c (hole k i) e = eqb·zero-suc c
arenas-home b c (page k p) e = rw (owner-home k e) (eqb·zero-suc c)
arenas-home b c (out p i) e = absurd (false≢true e)
arenas-home b c (slot p i) e = absurd (false≢true e)

pub arena-only : (n : ℕ) (b b' : List ℕ) (H : Heap) (c : ℕ) → Reached n H → Only c b b' → ArenaRep n b H → ArenaRep n b' H
arena-only n b b' H c r o rep = rep-kept n b b' H r.tidy.slots o.long (λ g k e. o.kept g k (arenas-home b c g e)) rep

-- ---- a run that says it is a class's is held
held_by : (w : Holder) (c : ℕ) → owner_code w ≡ suc c → 1 ≤ is_held w
held_by nobody c e = absurd (omega arith)
held_by direct c e = omega arith
held_by (Heaps.class d) c e = omega arith

pub run-held : (n : ℕ) (b : List ℕ) (H : Heap) → ArenaRep n b H → (sh : Shape) (c q : ℕ) → whole n b sh c q ≡ true → (x : ℕ) → covers sh.pages q x ≤ is_held (H.holder x)
run-held n b H rep sh c q e x =
    by_cases (in_run sh.pages q x)
    (λ t. let u = ltb-true x (q + sh.pages) (and_right (leb q x) (ltb x (q + sh.pages)) t) in
    let w = whole_says n b sh c q e in
    let l : x < H.arena.frontier = omega (arith, w.below, loads-frontier b H.arena rep.loads) in
    rw t (held_by (H.holder x) c (sym (rep.owners x l) ∙ w.owner x (leb-true q x (and_left _ _ t)) u)))
    (λ t. rw t (omega arith))

-- ---- the book b is the represented one but for words of class c, which lets its page p go
module _ (n : ℕ) (b₀ : List ℕ) (H : Heap) (rep : Represents n b₀ H) (r : Reached n H) (c : ℕ) (hc : ltb c class_rows ≡ true) (b : List ℕ) (only : Only c b₀ b) (s : Class) (p : Page)
    (cr : ClassRep n b c (shape_of c) Empty s.partial (map (reused (shape_of c)) s.empty) (map (thawed (shape_of c)) s.cold) (p ∷ s.full)) where
  rep' : ArenaRep n b H
  rep' = arena-only n b₀ b H c r only rep.arena

  pub page-held : (x : ℕ) → covers (shape_of c).pages p.first x ≤ is_held (H.holder x)
  page-held = run-held n b H rep' (shape_of c) c p.first cr.fulls.0.holds.run

  pub give-represents : Represents n (given b p.first (shape_of c).pages)
      (heap_of H.rules (give (shape_of c).pages p.first H.arena) (pass_to nobody (covers (shape_of c).pages p.first) H.holder) (update H.classes c s))
  give-represents =
      let m = (shape_of c).pages in
      record {
        arena = give-rep n b H rep' r p.first (shape_of c).pages (shape-sound c).paged page-held (update H.classes c s);
        classes = λ d hd. elim (ℕ_discrete d c) [
          | yes e ↦ rw (eq-eqb d c e) (subst (λ (z : ℕ). StateRep n (given b p.first (shape_of c).pages) z (shape_of z) s) (sym e)
              (class-left n b H rep' r c hc (shape-sound c) p cr page-held))
          | no e ↦ rw (ne_eqb d c e) (other_class_left n b H rep' r c hc (shape-sound c) p cr page-held d (shape-sound d) hd e
              (other_class_kept d c (shape-sound d) hd e only (rep.classes d hd)))
        ];
        rules = λ d hd. step_rule (in_run m p.first) b (given b p.first m) (given-step n b H rep' r p.first m (shape-sound c).paged page-held) d hd (only_rule c only d hd (rep.rules d hd));
      }
