-- A take from the class's own pages: on a represented book 13 never answers, and answer and book are the model's.
use Rattle.facts.proofs.Prelude.{ℕ, arith, true, List, [], ◌∷◌, map, ◌≡◌, refl}
use Rattle.classes.specs.declared.Shape.{Shape}
use Rattle.fields.specs.Ranges.{head_valid}
use Rattle.model.specs.Calls.{taken}
use Rattle.model.specs.Page.{Page, reused}
use Rattle.model.specs.Class as Model
use Rattle.model.specs.Class.{lists, Result, Ask, done, asks, fill_from_list, served, thawed, on_run, take_from}
use Rattle.pages.specs.declared.Park.{Park}
use Rattle.pages.specs.declared.Park.TheVariants.{Empty, Cold}
use Rattle.pages.specs.Links.{other, pop_store, unpark_run}
use Rattle.calls.specs.Take.{Took, Filled, took, fill_from, take_new, take_blocks}
use Rattle.refinement.specs.way.Represents.{ClassRep, StateRep}
use Rattle.refinement.proofs.Basics.{Setting, setting_kept}
use Rattle.refinement.proofs.Sources.{take-partial, take-empty, take-cold, take_none}
use Rattle.refinement.proofs.Frames.{Only, only_trans}
use Rattle.refinement.proofs.Moves.{swap, from-store, to-partial, pop_store-only, link-only}
use Rattle.refinement.proofs.Fill.{AllMore, FillRep, fills}
use Rattle.refinement.proofs.Plan.{parked-more}

-- a take that was done, against the model's
pub record TookRep (n : ℕ) (b : List ℕ) (c : ℕ) (sh : Shape) (w : Took) (x : Result) : Type 0 where
  pub code : w.code ≡ 0
  pub answer : x.answer ≡ taken w.count w.list w.virgin
  pub gives : x.gives ≡ []
  pub rep : StateRep n w.book c sh x.class
  pub only : Only c b w.book

-- it is done, or both ask the arena
pub data TakeRep (n : ℕ) (b : List ℕ) (c : ℕ) (sh : Shape) (h : ℕ) (l : List ℕ) : Took → Ask → Type 0 where
  did : {w : Took} {x : Result} → TookRep n b c sh w x → TakeRep n b c sh h l w (done x)
  asked : (fs : List Page) → ClassRep n b c sh Empty [] [] [] fs → TakeRep n b c sh h l (take_new n b c sh h l) (asks sh.pages (on_run sh l fs))

module _ {n : ℕ} {b : List ℕ} {c : ℕ} {sh : Shape} (s : Setting n b c sh) (l : List ℕ) where
  -- what is filled, as an answer
  pub filled-rep : (es : List Page) (cs : List Model.Cold) (fs : List Page) (w : Filled) (f : Model.Filled)
      → FillRep n b c sh Empty (map (reused sh) es) (map (thawed sh) cs) fs w f → TookRep n b c sh (took l w) (served l f es cs fs)
  unfolding served
  filled-rep es cs fs w f r = record { code = refl; answer = rw (r.blocks, r.virgin); gives = refl; rep = r.rep; only = r.only }

  -- the newest page of either store heads the partial list, and gives its blocks
  unparks : (k : Park) (p : Page) (xs ys fs : List Page) → ClassRep n b c sh k [] (p ∷ xs) ys fs
      → FillRep n b c sh k xs ys fs (fill_from (unpark_run b c k p.first) c sh sh.batch sh.batch) (fill_from_list sh sh.batch (p ∷ []))
  unparks k p xs ys fs r =
      let q = p.first in
      let b₁ = pop_store b c k q in
      let o₁ = pop_store-only s r in
      let s₁ = setting_kept b₁ o₁.long s in
      let r₁ = from-store s r in
      let o₂ = link-only s₁ r₁ in
      let r₂ = to-partial s₁ r₁ in
      let s₂ = setting_kept (unpark_run b c k q) o₂.long s₁ in
      let f = fills s₂ (p ∷ []) fs sh.batch sh.batch (omega arith) (parked-more n b s.shape c p r.parked.0, tt) r₂ in
      record { rep = f.rep; blocks = f.blocks; virgin = f.virgin; only = only_trans c (only_trans c o₁ o₂) f.only }

  swapped : (k : Park) (xs ys fs : List Page) (w : Filled) (f : Model.Filled) → FillRep n b c sh k xs ys fs w f → FillRep n b c sh (other k) ys xs fs w f
  swapped k xs ys fs w f r = record { rep = swap r.rep; blocks = r.blocks; virgin = r.virgin; only = r.only }

  pub take_own : (h : ℕ) (ps es : List Page) (cs : List Model.Cold) (fs : List Page) → head_valid n b ≡ true → AllMore sh ps
      → StateRep n b c sh (lists ps es cs fs) → TakeRep n b c sh h l (take_blocks n b c sh h l) (take_from sh l ps es cs fs)
  unfolding take_from
  take_own h (p ∷ ps) es cs fs low g r =
      rw (take-partial s low h l p ps es cs fs g r) (did (filled-rep es cs fs _ _ (fills s (p ∷ ps) fs sh.batch sh.batch (omega arith) g r)))
  take_own h [] (e ∷ es) cs fs low g r =
      rw (take-empty s low h l e es cs fs r) (did (filled-rep es cs fs _ _ (unparks Empty (reused sh e) (map (reused sh) es) (map (thawed sh) cs) fs r)))
  take_own h [] [] (d ∷ cs) fs low g r =
      rw (take-cold s low h l d cs fs r)
      (did (filled-rep [] cs fs _ _ (swapped Cold (map (thawed sh) cs) [] fs _ _ (unparks Cold (thawed sh d) (map (thawed sh) cs) [] fs (swap r)))))
  take_own h [] [] [] fs low g r = rw (take_none s low h l fs r) (asked fs r)
