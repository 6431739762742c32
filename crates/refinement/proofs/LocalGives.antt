-- Runs of a class that go to the arena keep to the arena's words and those of the class's pages.
--     gives_local     one run after the other
--     Roams           what a call may touch that reaches the arena
--     runs-local      the runs of a release, which stays at home or may roam
use Rattle.facts.proofs.Prelude.{ℕ, suc, ◌≤◌, arith, Bool, true, cond, List, [], ◌∷◌, ◌⊎◌, inl, inr, ◌≡◌, refl, sym, ap, ◌∙◌, eqb, length, by_cases}
use Rattle.words.specs.Limits.{hole_slots}
use Rattle.classes.specs.Shape.{shape_of}
use Rattle.classes.proofs.Shapes.{shape-sound}
use Rattle.fields.specs.Field.{arena, holes, get}
use Rattle.model.specs.Cover.{covers}
use Rattle.model.specs.Page.{Page}
use Rattle.model.specs.Class.{Class, Result, done}
use Rattle.model.specs.Arena.{give}
use Rattle.model.specs.Heap.{Heap, Holder, nobody}
use Rattle.model.specs.Demands.{StaysHome, stays}
use Rattle.model.proofs.ArenaTidy.{tidy-give}
use Rattle.arena.specs.Load.{load_arena}
use Rattle.arena.specs.Owners.{owner_code}
use Rattle.pages.specs.Runs.{whole}
use Rattle.calls.specs.Chunks.{give_runs}
use Rattle.pages.proofs.Runs.{whole_says}
use Rattle.refinement.specs.way.Represents.{firsts, Represents}
use Rattle.refinement.proofs.ArenaValid.{loads-frontier, loads-number}
use Rattle.refinement.proofs.Book.{Stands, state-rep}
use Rattle.refinement.proofs.ReleaseGives.{waiting, next, Acts, left}
use Rattle.refinement.proofs.Override.{override, PageIn}
use Rattle.refinement.proofs.LocalArena.{ArenaIn, RunIn, given_in}

module _ (n c : ℕ) {S : ℕ → Bool} (ai : ArenaIn S) (d : List ℕ) where
  run_in : (b : List ℕ) (H : Heap) → Represents n b H → ((x : ℕ) → owner_code (H.holder x) ≡ suc c → PageIn S x)
      → (q : ℕ) → whole n b (shape_of c) c q ≡ true → RunIn S q (shape_of c).pages
  run_in b H R kin q e x u v =
      let w = whole_says n b (shape_of c) c q e in
      kin x (sym (R.arena.owners x (omega (arith, w.below, loads-frontier b H.arena R.arena.loads))) ∙ w.owner x u v)

  -- a page that is the class's after a give was so before
  still : (k : ℕ) (w : Holder) → owner_code (cond (eqb k 0) w nobody) ≡ suc c → owner_code w ≡ suc c
  still k w e = by_cases (eqb k 0) (λ u. rw u at e) (λ u. absurd (let z : 0 ≡ suc c = rw u at e in omega arith))

  gives_local : (ps : List Page) (s : Class) {b : List ℕ} (B : Stands n b c (waiting s ps)) → ((x : ℕ) → owner_code (B.heap.holder x) ≡ suc c → PageIn S x)
      → give_runs (override S b d) (shape_of c).pages (firsts ps) ≡ override S (give_runs b (shape_of c).pages (firsts ps)) d
  unfolding next
  gives_local [] s B kin = refl
  gives_local (p ∷ ps) s {b} B kin =
      let H = B.heap in
      let R = B.represents in
      let ok = B.reached in
      let m = (shape_of c).pages in
      let q = p.first in
      let few : get b (arena holes) ≤ hole_slots = omega (arith, loads-number b H.arena R.arena.loads, ok.tidy.slots) in
      let few' : length (give (shape_of c).pages p.first (load_arena b)).store.holes ≤ hole_slots
      = rw R.arena.loads (tidy-give (shape_of c).pages (shape-sound c).paged p.first H.arena ok.tidy).slots in
      ap (λ (x : List ℕ). give_runs x m (firsts ps)) (given_in ai d b q m few few' (run_in b H R kin q (state-rep B).fulls.0.holds.run))
      ∙ gives_local ps s (next p (waiting s ps) B) (λ x y. kin x (still (covers m q x) (H.holder x) y))

-- ---- a release
-- what a call that reaches the arena may touch besides the class's words
pub record Roams (S : ℕ → Bool) (H : Heap) (c : ℕ) : Type 0 where
  pub arena : ArenaIn S
  pub kin : (x : ℕ) → owner_code (H.holder x) ≡ suc c → PageIn S x

-- a call that stays at home gives nothing
home-gives : {r : Result} → StaysHome (done r) → r.gives ≡ []
home-gives (stays s a) = refl

pub runs_local : {S : ℕ → Bool} {n c : ℕ} {t : Class} {b : List ℕ} (B : Stands n b c t) (d : List ℕ) {settled runs : List ℕ} {r : Result} (a : Acts n b c settled runs r) → StaysHome (done r) ⊎ Roams S B.heap c
    → give_runs (override S settled d) (shape_of c).pages runs ≡ override S (give_runs settled (shape_of c).pages runs) d
unfolding left
runs_local B d a (inl z) = rw (a.gives ∙ home-gives z)
runs_local {n = n} {c} B d {r = r} a (inr z) = rw (a.gives ∙ sym a.named) (gives_local n c z.arena d a.pages r.class (left B a) z.kin)
