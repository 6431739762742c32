-- A run that the arena gave becomes a page of the class.
--     new-changes     which fields are written
--     new-names       every page of the run names its first
--     new-rep         the run is a page with no block out, in no list, carved as the model carves it
use Rattle.facts.proofs.Prelude.{ℕ, ◌+◌, ◌≤◌, ◌<◌, Bool, true, List, ◌≡◌, ltb, ltb-true, by_cases}
use Rattle.classes.specs.declared.Shape.{Shape}
use Rattle.fields.specs.Field.{Field, page, mark, slot, out, first, free, carved, listed, virgin, get}
use Rattle.fields.proofs.Changes.{Changes}
use Rattle.model.specs.Page.{carve}
use Rattle.pages.specs.Runs.{whole}
use Rattle.pages.specs.Stack.{out_bit}
use Rattle.pages.specs.Carve.{bare_run, new_run}
use Rattle.pages.proofs.Frames.{changes-new}
use Rattle.pages.proofs.NewRun as Runs
use Rattle.pages.proofs.NewRun.{bare-long, bare-listed, bare-outs, bare-marks}
use Rattle.refinement.specs.way.Represents.{PageRep}
use Rattle.refinement.proofs.Basics.{Setting, setting_kept}
use Rattle.refinement.proofs.Pushes.{anew_holds, carve-rep}

-- ---- what a new run writes: FIRST of its pages, and all words of the first page but OWNER
pub record LetsNew (t : Field → Bool) (q m : ℕ) : Type 0 where
  pub starts : (y : ℕ) → q ≤ y → y < q + m → t (page first y) ≡ true
  pub listing : t (page listed q) ≡ true
  pub free : t (page free q) ≡ true
  pub carved : t (page carved q) ≡ true
  pub virgin : t (page virgin q) ≡ true
  pub slots : (i : ℕ) → t (slot q i) ≡ true
  pub outs : (i : ℕ) → t (out q i) ≡ true
  pub marks : (j : ℕ) → t (mark q j) ≡ true

module _ {n : ℕ} {b : List ℕ} {c : ℕ} {sh : Shape} (s : Setting n b c sh) (q : ℕ) where
  pub new-changes : (t : Field → Bool) → LetsNew t q sh.pages → Changes t b (new_run b sh q)
  new-changes t l = changes-new t b sh q s.shape.few l.free l.virgin l.slots l.carved l.listing l.outs l.marks l.starts

  s₁ : Setting n (bare_run b sh q) c sh
  s₁ = setting_kept (bare_run b sh q) (bare-long b sh s.shape.few q) s

  pub new-names : q + sh.pages ≤ n → (y : ℕ) → q ≤ y → y < q + sh.pages → get (new_run b sh q) (page first y) ≡ q
  new-names = Runs.new-names b sh s.shape.few q n s.long

  module _ (hq : ltb q n ≡ true) where
    idle : (i : ℕ) → out_bit (bare_run b sh q) sh q i ≡ 0
    unfolding out_bit
    idle i = by_cases (ltb i sh.capacity) (λ e. rw e (bare-outs b sh s.shape.few q n s.long hq i (ltb-true i sh.capacity e))) (λ e. rw e)

    pub new-rep : whole n (new_run b sh q) sh c q ≡ true → PageRep n sh (new_run b sh q) c 0 (carve sh q true)
    unfolding new_run
    new-rep run = carve-rep sh q true (anew_holds s₁ q true hq run (bare-listed b sh s.shape.few q n s.long hq) idle (bare-marks b sh s.shape.few q n s.long hq))
