-- A take from the class's own pages keeps to the class's words.
use Rattle.facts.proofs.Prelude.{ℕ, Bool, true, false, true≢false, List, [], ◌∷◌, map, ◌⊎◌, inl, inr, ◌≡◌, refl, sym, ltb, length, by_cases}
use Rattle.classes.specs.declared.Shape.{Shape}
use Rattle.fields.specs.Ranges.{head_valid}
use Rattle.model.specs.Page.{Page, reused}
use Rattle.model.specs.Class as Model
use Rattle.model.specs.Class.{Class, Ask, done, asks, lists, thawed, take_from}
use Rattle.model.specs.Demands.{StaysHome, stays}
use Rattle.calls.specs.Take.{take_new, take_blocks, take_call}
use Rattle.refinement.specs.way.Represents.{StateRep}
use Rattle.refinement.proofs.Basics.{Setting}
use Rattle.refinement.proofs.Moves.{swap}
use Rattle.refinement.proofs.Fill.{AllMore}
use Rattle.refinement.proofs.Sources.{take-partial, take-empty, take-cold, take_none}
use Rattle.refinement.proofs.Override.{override}
use Rattle.refinement.proofs.LocalFill.{Home, fill_local, unpark_run_local}

is_done : Ask → Bool
is_done (done r) = true
is_done (asks m k) = false

home-done : {q : Ask} → StaysHome q → is_done q ≡ true
unfolding is_done
home-done (stays s a) = refl

-- two books that stand for one state of the class; n where no page is at hand
module _ {S : ℕ → Bool} {n : ℕ} {b : List ℕ} {c : ℕ} {sh : Shape} (d : List ℕ) (s : Setting n b c sh) (s' : Setting n (override S b d) c sh) (hm : Home S n b c sh)
    (low : head_valid n b ≡ true) (low' : head_valid n (override S b d) ≡ true) (h : ℕ) (l : List ℕ) where
  -- it stays at home, or a new run is local too
  abbrev pub Asks : Ask → Type 0
  Asks q = StaysHome q ⊎ ((fs : List Page) → StateRep n b c sh (lists [] [] [] fs) → (take_new n (override S b d) c sh h l).book ≡ override S (take_new n b c sh h l).book d)

  blocks_local : (ps es : List Page) (cs : List Model.Cold) (fs : List Page) → Asks (take_from sh l ps es cs fs) → AllMore sh ps → StateRep n b c sh (lists ps es cs fs) → StateRep n (override S b d) c sh (lists ps es cs fs)
      → (take_blocks n (override S b d) c sh h l).book ≡ override S (take_blocks n b c sh h l).book d
  unfolding take_from is_done
  blocks_local (p ∷ ps) es cs fs a g r r' =
      rw (
        take-partial s low h l p ps es cs fs g r,
        take-partial s' low' h l p ps es cs fs g r',
        fill_local d sh.batch sh.batch b (p ∷ ps) (map (reused sh) es) (map (thawed sh) cs) fs s hm r,
      )
  blocks_local [] (e ∷ es) cs fs a g r r' =
      rw (
        take-empty s low h l e es cs fs r,
        take-empty s' low' h l e es cs fs r',
        unpark_run_local d sh.batch b (reused sh e) (map (reused sh) es) (map (thawed sh) cs) fs s hm r,
      )
  blocks_local [] [] (e ∷ cs) fs a g r r' =
      rw (
        take-cold s low h l e cs fs r,
        take-cold s' low' h l e cs fs r',
        unpark_run_local d sh.batch b (thawed sh e) (map (thawed sh) cs) [] fs s hm (swap r),
      )
  blocks_local [] [] [] fs (inl z) g r r' = absurd (true≢false (sym (home-done z)))
  blocks_local [] [] [] fs (inr f) g r r' = rw (take_none s low h l fs r, take_none s' low' h l fs r') (f fs r)

  pub take_local : (t : Class) → (ltb (length l) sh.batch ≡ false → Asks (take_from sh l t.partial t.empty t.cold t.full)) → AllMore sh t.partial → StateRep n b c sh t → StateRep n (override S b d) c sh t
      → (take_call n (override S b d) c sh h l).book ≡ override S (take_call n b c sh h l).book d
  unfolding take_call
  take_local t a g r r' =
      by_cases (ltb (length l) sh.batch) (λ u. rw u) (λ u. rw u (blocks_local t.partial t.empty t.cold t.full (a u) g r r'))
