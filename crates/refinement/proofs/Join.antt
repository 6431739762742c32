-- The classes after a commit for a class: with no run every class is as before; with one, the class has a page more, in no list, and
-- the others are as before.
use Rattle.facts.proofs.Prelude.{ℕ, suc, ◌+◌, ◌≤◌, arith, Bool, true, false, cond, not, ◌&&◌, ◌||◌, true≢false, List, [], ◌∷◌, Option, none, some, ◌≡◌, refl, sym}
use Rattle.facts.proofs.Prelude.{ap, ◌∙◌, subst, eqb, ltb, leb, length, eq-eqb, ne_eqb, le-leb, leb-true, ltb-true, lt-ltb, and_left, and_right, or_left, or_right}
use native.Mathlib.Decide.{ℕ_discrete}
use Rattle.rules.specs.declared.Limits.{Limits}
use Rattle.model.specs.Cover.{in_run, covers, covers_run}
use Rattle.words.specs.Limits.{hole_slots, class_rows}
use Rattle.classes.specs.declared.Shape.{Shape}
use Rattle.classes.specs.Shape.{shape_of}
use Rattle.classes.proofs.Shapes.{shape-sound}
use Rattle.fields.specs.Field as Field
use Rattle.fields.specs.Field.{Field, arena, hole, page, mark, slot, out, first, next, prev, free, carved, listed, virgin, page_off, get}
use Rattle.fields.proofs.Changes.{Changes, changes_trans, changes_mono}
use Rattle.model.specs.Page.{Page, carve}
use Rattle.model.specs.Arena.{commit, Given}
use Rattle.model.specs.Class.{Class}
use Rattle.model.specs.Heap.{Heap, nobody, class, pass_to}
use Rattle.model.proofs.ArenaLaws.{commit-law}
use Rattle.model.proofs.IdlePages.{commit-below}
use Rattle.words.specs.Host.{digit}
use Rattle.pages.specs.Runs.{whole}
use Rattle.pages.proofs.Kept.{changes-body}
use Rattle.pages.specs.declared.Park.{Park}
use Rattle.pages.specs.Carve.{new_run}
use Rattle.arena.specs.Calls.{commit_book}
use Rattle.arena.specs.way.Represents.{ArenaRep}
use Rattle.refinement.proofs.ArenaKeeps.{step-class}
use Rattle.refinement.proofs.CommitRuns.{claim_none, claim_others, claim_new}
use Rattle.refinement.specs.way.Represents.{ClassRep, Represents, RuleRep}
use Rattle.refinement.proofs.ArenaStored.{commit-stored, stored-few}
use Rattle.refinement.proofs.ArenaReached.{Reached, heap_of, idle-once, reached-commit}
use Rattle.refinement.proofs.ArenaFrames.{is_step, in_run_of, either, passed, step-first, committed-changes, step_rule}
use Rattle.refinement.proofs.ArenaSteps.{is_arenas, rep-kept}
use Rattle.refinement.proofs.ArenaRuns.{nobody-other, drawn-whole}
use Rattle.refinement.proofs.CommitRep.{commit-rep}
use Rattle.refinement.proofs.Basics.{Setting, setting_kept}
use Rattle.refinement.proofs.Kept.{Keeps, class-now, class-kept, listed-whole}
use Rattle.refinement.proofs.Pushes.{carve-first}
use Rattle.refinement.proofs.NewRun.{LetsNew, new-changes, new-names, new-rep}
use Rattle.refinement.proofs.Frames.{rule_kept}

-- ---- what a new run of m pages at q writes
-- the words of page q but OWNER, and FIRST of the run's pages
abbrev is_new : ℕ → ℕ → Field → Bool
is_new q m (arena k) = false
is_new q m (mark p j) = eqb p q
is_new q m (Field.class k c) = false
is_new q m (hole k i) = false
is_new q m (page k p) = (eqb (page_off k) 1 && in_run m q p) || (ltb 1 (page_off k) && eqb p q)
is_new q m (slot p i) = eqb p q
is_new q m (out p i) = eqb p q

or_none : (t : Bool) → (t || false) ≡ t
or_none true = refl
or_none false = refl

new_lets : (q m : ℕ) → LetsNew (is_new q m) q m
new_lets q m =
    let e = eq-eqb q q refl in
    record {
      starts = λ y l u. rw (le-leb q y l, lt-ltb y (q + m) u);
      listing = e;
      free = e;
      carved = e;
      virgin = e;
      slots = λ i. e;
      outs = λ i. e;
      marks = λ j. e;
    }

arena_lets : (q m : ℕ) → LetsNew (λ g. not (is_arenas g)) q m
arena_lets q m = record { starts = λ y l u. refl; listing = refl; free = refl; carved = refl; virgin = refl; slots = λ i. refl; outs = λ i. refl; marks = λ j. refl }

module _ (n : ℕ) (b : List ℕ) (H : Heap) (R : Represents n b H) (ok : Reached n H) (c : ℕ) (hc : ltb c class_rows ≡ true) (h : ℕ) where
  abbrev pages : ℕ
  pages = (shape_of c).pages

  abbrev grant : Given
  grant = commit n h pages H.arena

  -- the book after the commit, and the pages that got an owner
  abbrev after : List ℕ
  after = commit_book n b h pages H.arena (suc c)

  abbrev owned : ℕ → Bool
  owned = either (passed b grant.arena) (in_run_of pages grant.run)

  one : 1 ≤ (shape_of c).pages
  one = (shape-sound c).paged

  pub few : length (commit n h (shape_of c).pages H.arena).arena.store.holes ≤ hole_slots
  few = stored-few b (commit-stored h pages b n H.arena ok.tidy.slots)

  pub changes : Changes (is_step owned) b after
  changes = committed-changes n b h pages H.arena ok.tidy.slots (suc c)

  rep₁ : (cs : ℕ → Class) → ArenaRep n after (heap_of H.rules grant.arena (pass_to (class c) (covers_run pages grant.run) H.holder) cs)
  rep₁ cs = commit-rep n b H R.arena ok h pages one (class c) refl cs

  -- ---- no run
  module _ (e : (commit n h (shape_of c).pages H.arena).run ≡ none) where
    pub none-arena : (cs : ℕ → Class) → ArenaRep n after (heap_of H.rules grant.arena H.holder cs)
    none-arena cs = subst (λ (o : Option ℕ). ArenaRep n after (heap_of H.rules grant.arena (pass_to (class c) (covers_run pages o) H.holder) cs)) e (rep₁ cs)

    pub none_rule : (d : ℕ) {lim : Limits} → ltb d class_rows ≡ true → RuleRep b d lim → RuleRep after d lim
    none_rule = step_rule owned b after changes

    pub none_stays : (d : ℕ) → ltb d class_rows ≡ true → {k : Park} {ps xs ys fs : List Page} → ClassRep n b d (shape_of d) k ps xs ys fs → ClassRep n after d (shape_of d) k ps xs ys fs
    none_stays d hd r =
        let law = commit-law n h pages H.arena in
        step-class owned b after changes (shape-sound d) hd
        (λ x. drawn-whole n b after H ok R.arena grant.arena (λ y. 0) nobody H.classes (none-arena H.classes) law.rises (λ y. omega (arith, law.pages y))
        (λ y t. step-first owned b after changes y) (shape_of d) d x (shape-sound d).paged (nobody-other d)) r

  -- ---- a run at q
  module _ (q : ℕ) (e : (commit n h (shape_of c).pages H.arena).run ≡ some q) where
    abbrev new : List ℕ
    new = new_run after (shape_of c) q

    within : q + (shape_of c).pages ≤ n
    within = omega (arith, commit-below n h pages H.arena one (idle-once n H ok) q e, (commit-law n h pages H.arena).bound ok.bound)

    s₁ : Setting n after c (shape_of c)
    s₁ = record { long = (rep₁ H.classes).long; row = hc; shape = shape-sound c }

    pub written : Changes (is_new q pages) after new
    written = new-changes s₁ q (is_new q pages) (new_lets q pages)

    -- the commit and the new run at once
    abbrev is_joined : Field → Bool
    is_joined g = is_step owned g || is_new q pages g

    joined : Changes is_joined b new
    joined =
        changes_trans is_joined b after new (changes_mono (is_step owned) is_joined b after (λ g. or_left (is_step owned g) (is_new q pages g)) changes)
        (changes_mono (is_new q pages) is_joined after new (λ g. or_right (is_step owned g) (is_new q pages g)) written)

    pub new-setting : Setting n new c (shape_of c)
    new-setting = setting_kept new written.long s₁

    rep₂ : (cs : ℕ → Class) → ArenaRep n new (heap_of H.rules grant.arena (pass_to (class c) (covers_run pages grant.run) H.holder) cs)
    rep₂ cs =
        let ch = new-changes s₁ q (λ g. not (is_arenas g)) (arena_lets q pages) in
        rep-kept n after new (heap_of H.rules grant.arena (pass_to (class c) (covers_run pages grant.run) H.holder) cs) few ch.long (λ g o t. ch.kept g o (rw t)) (rep₁ cs)

    pub new-arena : (cs : ℕ → Class) → ArenaRep n new (heap_of H.rules grant.arena (pass_to (class c) (covers pages q) H.holder) cs)
    new-arena cs = subst (λ (o : Option ℕ). ArenaRep n new (heap_of H.rules grant.arena (pass_to (class c) (covers_run pages o) H.holder) cs)) e (rep₂ cs)

    pub new-reached : (cs : ℕ → Class) → Reached n (heap_of H.rules grant.arena (pass_to (class c) (covers pages q) H.holder) cs)
    new-reached cs = subst (λ (o : Option ℕ). Reached n (heap_of H.rules grant.arena (pass_to (class c) (covers_run pages o) H.holder) cs)) e (reached-commit n H ok h pages one (class c) hc cs)

    inside : (y : ℕ) → in_run (shape_of c).pages q y ≡ true → get new (page first y) ≡ q
    inside y i =
        new-names s₁ q within y (leb-true q y (and_left (leb q y) (ltb y (q + pages)) i)) (ltb-true y (q + pages) (and_right (leb q y) (ltb y (q + pages)) i))

    outside : (y : ℕ) → in_run (shape_of c).pages q y ≡ false → get new (page first y) ≡ get b (page first y)
    outside y i = joined.kept (page first y) refl (or_none (in_run pages q y) ∙ i)

    -- which runs are whole: the new one, and the others as before; none was there
    pub same : (d x : ℕ) → (d ≡ c → x ≡ q → ⊥) → whole n new (shape_of d) d x ≡ whole n b (shape_of d) d x
    same d x ne = claim_others n b H R.arena ok h pages one q e c H.classes new (rep₂ H.classes) inside outside (shape_of d) d x (shape-sound d).paged ne

    whole-now : whole n new (shape_of c) c q ≡ true
    whole-now = claim_new n b H R.arena ok h pages one q e c H.classes new (rep₂ H.classes) inside outside (shape_of c) refl

    not-before : (d : ℕ) → whole n b (shape_of d) d q ≡ false
    not-before d = claim_none n b H R.arena ok h pages one q e (shape_of d) d (shape-sound d).paged

    apart : (d x : ℕ) → whole n b (shape_of d) d x ≡ true → x ≡ q → ⊥
    apart d x w z = true≢false (sym w ∙ ap (whole n b (shape_of d) d) z ∙ not-before d)

    new-keeps : {sh : Shape} {d : ℕ} (x : ℕ) → (x ≡ q → ⊥) → whole n new sh d x ≡ true → Keeps n sh d b new x
    new-keeps x ne w =
        let off = ne_eqb x q ne in
        record {
          body = changes-body joined x off off off (λ i. off) (λ i. off) (λ j. off);
          listing = joined.kept (page listed x) refl off;
          ties = record { fore = joined.kept (page next x) refl off; back = joined.kept (page prev x) refl off };
          run = w;
        }

    row : (f : Field.ClassField) (d : ℕ) → ltb d class_rows ≡ true → get new (Field.class f d) ≡ get b (Field.class f d)
    row f d hd = joined.kept (Field.class f d) hd refl

    pub new_rule : (d : ℕ) {lim : Limits} → ltb d class_rows ≡ true → RuleRep b d lim → RuleRep new d lim
    new_rule d hd = rule_kept (row Field.empty_limit d hd) (row Field.cold_limit d hd)

    pub others-stay : (d : ℕ) → ltb d class_rows ≡ true → (d ≡ c → ⊥) → {k : Park} {ps xs ys fs : List Page} → ClassRep n b d (shape_of d) k ps xs ys fs
        → ClassRep n new d (shape_of d) k ps xs ys fs
    others-stay d hd ne r =
        class-kept (shape-sound d) r (λ f. row f d hd) (λ x. same d x (λ z. absurd (ne z))) (λ x w. new-keeps x (apart d x w) (same d x (λ z. absurd (ne z)) ∙ w))

    -- the class itself: one more page, in no list
    pub class_joins : {k : Park} {ps xs ys fs : List Page} → ClassRep n b c (shape_of c) k ps xs ys fs → ClassRep n new c (shape_of c) k ps xs ys (carve (shape_of c) q true ∷ fs)
    class_joins {k} {ps} {xs} {ys} {fs} r =
        let start = carve-first (shape_of c) q true in
        class-now (shape-sound c) r fs (carve (shape_of c) q true ∷ []) (λ f. row f c hc)
        (λ x l. let w = listed-whole (shape-sound c) r x l in new-keeps x (apart c x w) (same c x (λ z. apart c x w) ∙ w))
        r.fulls (new-rep s₁ q (lt-ltb q n (omega (arith, within, one))) whole-now, tt)
        (λ x. elim (ℕ_discrete x q) [
          | yes z ↦ (let now : digit (whole n new (shape_of c) c x) ≡ 1 = ap digit (ap (whole n new (shape_of c) c) z ∙ whole-now) in
              let old : digit (whole n b (shape_of c) c x) ≡ 0 = ap digit (ap (whole n b (shape_of c) c) z ∙ not-before c) in
              let here : ◌≡◌ {A = ℕ} (cond (eqb x (carve (shape_of c) q true).first) 1 0) 1 = rw (eq-eqb x (carve (shape_of c) q true).first (z ∙ sym start)) in
              omega (arith, r.runs x))
          | no z ↦ (let there : ◌≡◌ {A = ℕ} (cond (eqb x (carve (shape_of c) q true).first) 1 0) 0 = rw (ne_eqb x (carve (shape_of c) q true).first (λ t. z (t ∙ start))) in
              rw (same c x (λ w. z)) (omega (arith, r.runs x)))
        ])
