-- A take that asks the arena keeps to the class's words, the arena's, and those of the pages that nobody holds.
use Rattle.facts.proofs.Prelude.{ℕ, suc, ◌+◌, ◌<◌, arith, Bool, true, List, [], ◌∷◌, Option, none, some, ◌≡◌, refl, sym, ◌∙◌, subst, ltb, le-leb, lt-ltb}
use native.Mathlib.Decide.{ℕ_discrete}
use Rattle.words.specs.Limits.{class_rows}
use Rattle.classes.specs.Shape.{shape_of}
use Rattle.classes.proofs.Shapes.{shape-sound}
use Rattle.model.specs.Page.{Page, carve}
use Rattle.model.specs.Arena.{commit, Given}
use Rattle.model.specs.Heap.{Heap, nobody}
use Rattle.pages.specs.declared.Park.TheVariants.{Empty}
use Rattle.pages.specs.Links.{link}
use Rattle.pages.specs.Carve.{new_run}
use Rattle.calls.specs.Take.{on_run, take_new}
use Rattle.arena.specs.Calls.{commit_book}
use Rattle.refinement.specs.way.Represents.{ClassRep, Represents}
use Rattle.refinement.proofs.ArenaReached.{Reached}
use Rattle.refinement.proofs.ArenaValid.{loads-frontier}
use Rattle.refinement.proofs.CommitRep.{commit_for_lem}
use Rattle.refinement.proofs.CommitRuns.{run-nobody}
use Rattle.refinement.proofs.Pushes.{carve-first}
use Rattle.refinement.proofs.Join.{same, new-setting, class_joins}
use Rattle.refinement.proofs.TakeWhole.{run-setting, run_rep, run_only}
use Rattle.refinement.proofs.Override.{override, PageIn}
use Rattle.refinement.proofs.LocalFill.{Home, home-only, link_local, fill_local}
use Rattle.refinement.proofs.LocalArena.{ArenaIn, RunIn, committed_in, new_in}

module _ {S : ℕ → Bool} (n : ℕ) (b : List ℕ) (H : Heap) (R : Represents n b H) (ok : Reached n H) (c : ℕ) (hc : ltb c class_rows ≡ true) (hm : Home S n b c (shape_of c)) (d : List ℕ)
    (ai : ArenaIn S) (idle : (x : ℕ) → (x < H.arena.frontier → H.holder x ≡ nobody) → PageIn S x) (h : ℕ) (l : List ℕ) (fs : List Page)
    (z : ClassRep n b c (shape_of c) Empty [] [] [] fs) where
  abbrev grant : Given
  grant = commit n h (shape_of c).pages H.arena

  abbrev after : List ℕ
  after = commit_book n b h (shape_of c).pages H.arena (suc c)

  run_in : (q : ℕ) → (commit n h (shape_of c).pages H.arena).run ≡ some q → RunIn S q (shape_of c).pages
  run_in q e x u v = idle x (λ w. run-nobody n b H R.arena ok h (shape_of c).pages (shape-sound c).paged q e x (rw (le-leb q x u, lt-ltb x (q + (shape_of c).pages) v)))

  after_in : commit_book n (override S b d) h (shape_of c).pages H.arena (suc c) ≡ override S after d
  after_in =
      committed_in ai d n b h (shape_of c).pages H.arena (suc c) ok.tidy.slots
      (λ x u v. idle x (λ w. absurd (omega (arith, loads-frontier b H.arena R.arena.loads)))) run_in

  with-run : (q : ℕ) → (commit n h (shape_of c).pages H.arena).run ≡ some q → (on_run (override S after d) c (shape_of c) l (some q)).book ≡ override S (on_run after c (shape_of c) l (some q)).book d
  unfolding on_run
  with-run q e =
      let sh = shape_of c in
      let b₂ = new_run after sh q in
      let p = carve sh q true in
      let s₂ = new-setting n b H R ok c hc h q e in
      let r₂ = class_joins n b H R ok c hc h q e z in
      let start : (carve (shape_of c) q true).first ≡ q = carve-first sh q true in
      let h₂ : Home S n (new_run after (shape_of c) q) c (shape_of c) = record {
        row = hm.row;
        pages = λ x w. elim (ℕ_discrete x q) [
          | yes y ↦ subst (λ (q : ℕ). PageIn S q) (sym y) (run_in q e q (omega arith) (omega (arith, (shape-sound c).paged)))
          | no y ↦ hm.pages x (sym (same n b H R ok c hc h q e c x (λ t. y)) ∙ w)
        ];
      } in
      let k₃ : link (override S (new_run after (shape_of c) q) d) c q ≡ override S (link (new_run after (shape_of c) q) c q) d
      = subst (λ (x : ℕ). link (override S (new_run after (shape_of c) q) d) c x ≡ override S (link (new_run after (shape_of c) q) c x) d) start (link_local s₂ h₂ d r₂) in
      rw (
        new_in d after sh q (shape-sound c).few (shape-sound c).paged (run_in q e),
        k₃,
        fill_local d sh.batch sh.batch (link b₂ c q) (p ∷ []) [] [] fs (run-setting n b H R ok c hc h l fs z q e) (home-only (run_only n b H R ok c hc h l fs z q e) h₂) (run_rep n b H R ok c hc h l fs z q e),
      )

  with-answer : (o : Option ℕ) → (commit n h (shape_of c).pages H.arena).run ≡ o → (on_run (override S after d) c (shape_of c) l o).book ≡ override S (on_run after c (shape_of c) l o).book d
  unfolding on_run
  with-answer none e = refl
  with-answer (some q) e = with-run q e

  pub new_local : (H' : Heap) → Represents n (override S b d) H' → Reached n H' → H'.arena ≡ H.arena → (take_new n (override S b d) c (shape_of c) h l).book ≡ override S (take_new n b c (shape_of c) h l).book d
  unfolding take_new
  new_local H' R' ok' e =
      rw (commit_for_lem n b H R.arena ok h (shape_of c).pages (suc c), commit_for_lem n (override S b d) H' R'.arena ok' h (shape_of c).pages (suc c), e, after_in)
      (with-answer grant.run refl)
