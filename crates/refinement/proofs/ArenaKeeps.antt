-- What a step of the arena leaves of a class.
--     step_keeps    a page of the class whose run is whole afterwards is as it was
--     step-class    a class whose runs are whole as before is as it was
--     class-left    a class whose run in no list was given: that page is gone, the rest is as it was; other-class-left: another class
use Rattle.facts.proofs.Prelude.{ℕ, ◌+◌, ◌≤◌, arith, Bool, true, false, cond, List, [], ◌∷◌, ◌≡◌, refl, ◌∙◌, eqb, ltb, eq-eqb, ne_eqb}
use native.Mathlib.Decide.{ℕ_discrete}
use Rattle.words.specs.Limits.{class_rows}
use Rattle.model.specs.Cover.{in_run, covers}
use Rattle.classes.specs.declared.Shape.{Shape}
use Rattle.classes.specs.way.Sound.{Sound}
use Rattle.fields.specs.Field.{page, next, prev, listed}
use Rattle.fields.proofs.Changes.{Changes}
use Rattle.model.specs.Page.{Page}
use Rattle.model.specs.Heap.{Heap, is_held}
use Rattle.pages.specs.Runs.{whole}
use Rattle.pages.proofs.Kept.{changes-body}
use Rattle.pages.specs.declared.Park.{Park}
use Rattle.arena.specs.Calls.{given}
use Rattle.arena.specs.way.Represents.{ArenaRep}
use Rattle.refinement.specs.way.Represents.{heads, ClassRep}
use Rattle.refinement.proofs.Basics.{digit-le}
use Rattle.refinement.proofs.Kept.{Keeps, class-now, class-kept, listed-whole}
use Rattle.refinement.proofs.ArenaReached.{Reached}
use Rattle.refinement.proofs.ArenaFrames.{is_step, step_row}
use Rattle.refinement.proofs.ArenaRuns.{given-step, left-whole, left-gone}

module _ (t : ℕ → Bool) (b b' : List ℕ) (h : Changes (is_step t) b b') where
  pub step_keeps : {n : ℕ} {sh : Shape} {c x : ℕ} → whole n b' sh c x ≡ true → Keeps n sh c b b' x
  step_keeps {x = x} w = record {
    body = changes-body h x refl refl refl (λ i. refl) (λ i. refl) (λ j. refl);
    listing = h.kept (page listed x) refl refl;
    ties = record { fore = h.kept (page next x) refl refl; back = h.kept (page prev x) refl refl };
    run = w;
  }

  pub step-class : {n c : ℕ} {sh : Shape} {k : Park} {ps xs ys fs : List Page} → Sound sh → ltb c class_rows ≡ true → ((x : ℕ) → whole n b' sh c x ≡ whole n b sh c x)
      → ClassRep n b c sh k ps xs ys fs → ClassRep n b' c sh k ps xs ys fs
  step-class {c = c} sound hc same r = class-kept sound r (λ f. step_row t b b' h f c hc) same (λ x e. step_keeps (same x ∙ e))

-- ---- a class's run is given
module _ (n : ℕ) (b : List ℕ) (H : Heap) (rep : ArenaRep n b H) (r : Reached n H) (c : ℕ) (hc : ltb c class_rows ≡ true) {sh : Shape} (sound : Sound sh)
    {k : Park} {ps xs ys fs : List Page} (p : Page)
    (cr : ClassRep n b c sh k ps xs ys (p ∷ fs)) (holds : (x : ℕ) → covers sh.pages p.first x ≤ is_held (H.holder x)) where
  changed : Changes (is_step (in_run sh.pages p.first)) b (given b p.first sh.pages)
  changed = given-step n b H rep r p.first sh.pages sound.paged holds

  -- other runs of the class, and other classes
  others : (d : ℕ) {sh' : Shape} → Sound sh' → (x : ℕ) → (d ≡ c → x ≡ p.first → ⊥) → whole n (given b p.first sh.pages) sh' d x ≡ whole n b sh' d x
  others d {sh'} sound' x ne = left-whole n b H rep r p.first sh.pages sound.paged holds sh c refl cr.fulls.0.holds.run sh' d x sound'.paged ne

  gone : whole n (given b p.first sh.pages) sh c p.first ≡ false
  gone = left-gone n b H rep r p.first sh.pages sound.paged holds sh c refl cr.fulls.0.holds.run

  -- the page stands in no list else
  once : heads p.first ps + heads p.first xs + heads p.first ys + heads p.first fs ≡ 0
  once =
      let at : ◌≡◌ {A = ℕ} (cond (eqb p.first p.first) 1 0) 1 = rw (eq-eqb p.first p.first refl) in
      omega (arith, cr.runs p.first, digit-le (whole n b sh c p.first))

  apart : (x : ℕ) → 1 ≤ heads x ps + heads x xs + heads x ys + heads x fs → x ≡ p.first → ⊥
  apart x l e = let z : 1 ≤ heads p.first ps + heads p.first xs + heads p.first ys + heads p.first fs = rw e at l in omega (arith, once)

  pub class-left : ClassRep n (given b p.first sh.pages) c sh k ps xs ys fs
  class-left =
      class-now sound cr fs [] (λ f. step_row (in_run sh.pages p.first) b (given b p.first sh.pages) changed f c hc)
      (λ x l. step_keeps (in_run sh.pages p.first) b (given b p.first sh.pages) changed
      (others c sound x (λ z. apart x l) ∙ listed-whole sound cr x (omega arith)))
      cr.fulls.1 tt
      (λ x. elim (ℕ_discrete x p.first) [
        | yes e ↦ rw (e, gone) once
        | no e ↦ rw (others c sound x (λ z. e)) (let o : ◌≡◌ {A = ℕ} (cond (eqb x p.first) 1 0) 0 = rw (ne_eqb x p.first e) in omega (arith, cr.runs x))
      ])

  pub other_class_left : (d : ℕ) {sh' : Shape} {k' : Park} {ps' xs' ys' fs' : List Page} → Sound sh' → ltb d class_rows ≡ true → (d ≡ c → ⊥)
      → ClassRep n b d sh' k' ps' xs' ys' fs' → ClassRep n (given b p.first sh.pages) d sh' k' ps' xs' ys' fs'
  other_class_left d sound' hd ne cr' =
      step-class (in_run sh.pages p.first) b (given b p.first sh.pages) changed sound' hd (λ x. others d sound' x (λ z. absurd (ne z))) cr'
