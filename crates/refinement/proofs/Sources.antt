-- What a take comes to, source by source, on a book that stands for the class's state: number 13's tests pass.
use Rattle.facts.proofs.Prelude.{ℕ, suc, arith, true, List, [], ◌∷◌, map, ◌≡◌, ne_eqb}
use Rattle.classes.specs.declared.Shape.{Shape}
use Rattle.fields.specs.Field.{class, partial, get}
use Rattle.fields.specs.Ranges.{head_valid}
use Rattle.model.specs.Page.{Page, reused}
use Rattle.model.specs.Class as Model
use Rattle.model.specs.Class.{lists, thawed}
use Rattle.pages.specs.declared.Park.{Park}
use Rattle.pages.specs.declared.Park.TheVariants.{Empty, Cold}
use Rattle.pages.specs.Links.{unpark_run}
use Rattle.calls.specs.Take.{took, fill_from, from_partial, from_park, take_new, take_blocks}
use Rattle.refinement.specs.way.Represents.{ClassRep, StateRep}
use Rattle.refinement.proofs.Basics.{Setting}
use Rattle.refinement.proofs.Moves.{swap}
use Rattle.refinement.proofs.Fill.{AllMore, pred}
use Rattle.refinement.proofs.Plan.{walk-passes, park-passes}

module _ {n : ℕ} {b : List ℕ} {c : ℕ} {sh : Shape} (s : Setting n b c sh) (low : head_valid n b ≡ true) (h : ℕ) (l : List ℕ) where
  from-park : (k : Park) (p : Page) (xs ys fs : List Page) → ClassRep n b c sh k [] (p ∷ xs) ys fs
      → from_park n b c sh k l ≡ took l (fill_from (unpark_run b c k p.first) c sh sh.batch sh.batch)
  unfolding from_park
  from-park k p xs ys fs r = rw (park-passes n b s.shape c k p xs r.store r.parked, r.store.line.0, pred p.first)

  pub take-partial : (p : Page) (ps es : List Page) (cs : List Model.Cold) (fs : List Page) → AllMore sh (p ∷ ps) → StateRep n b c sh (lists (p ∷ ps) es cs fs)
      → take_blocks n b c sh h l ≡ took l (fill_from b c sh sh.batch sh.batch)
  unfolding take_blocks from_partial
  take-partial p ps es cs fs g r =
      rw (
        walk-passes n b s.shape c (p ∷ ps) sh.batch sh.batch (get b (class partial c)) 0 r.chain.links r.partials g,
        low,
        r.chain.links.0,
        ne_eqb (suc p.first) 0 (λ z. omega arith),
      )

  pub take-empty : (e : Page) (es : List Page) (cs : List Model.Cold) (fs : List Page) → StateRep n b c sh (lists [] (e ∷ es) cs fs)
      → take_blocks n b c sh h l ≡ took l (fill_from (unpark_run b c Empty (reused sh e).first) c sh sh.batch sh.batch)
  unfolding take_blocks
  take-empty e es cs fs r =
      rw (
        low,
        r.chain.links,
        r.store.line.0,
        ne_eqb (suc (reused sh e).first) 0 (λ z. omega arith),
        from-park Empty (reused sh e) (map (reused sh) es) (map (thawed sh) cs) fs r,
      )

  pub take-cold : (e : Model.Cold) (cs : List Model.Cold) (fs : List Page) → StateRep n b c sh (lists [] [] (e ∷ cs) fs)
      → take_blocks n b c sh h l ≡ took l (fill_from (unpark_run b c Cold (thawed sh e).first) c sh sh.batch sh.batch)
  unfolding take_blocks
  take-cold e cs fs r =
      rw (
        low,
        r.chain.links,
        r.store.line,
        r.beside.line.0,
        ne_eqb (suc (thawed sh e).first) 0 (λ z. omega arith),
        from-park Cold (thawed sh e) (map (thawed sh) cs) [] fs (swap r),
      )

  pub take_none : (fs : List Page) → StateRep n b c sh (lists [] [] [] fs) → take_blocks n b c sh h l ≡ take_new n b c sh h l
  unfolding take_blocks
  take_none fs r = rw (low, r.chain.links, r.store.line, r.beside.line)
