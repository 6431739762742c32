-- The pages that a class's lists name are its own: what holds of the first page of each of its runs holds of them.
--     each-listed     of every page in a list
--     each-head       of the page that heads the partial list
--     each-beside     of the pages behind and before a page of the partial list
use Rattle.facts.proofs.Prelude.{ℕ, suc, ◌+◌, ◌≤◌, arith, true, List, ◌∷◌, ◌++◌, inr, ◌≡◌, sym, ◌∙◌, subst}
use Rattle.classes.specs.declared.Shape.{Shape}
use Rattle.classes.specs.way.Sound.{Sound}
use Rattle.fields.specs.Field.{class, page, partial, next, prev, get}
use Rattle.model.specs.Page.{Page}
use Rattle.pages.specs.Runs.{whole}
use Rattle.pages.specs.declared.Park.{Park}
use Rattle.refinement.specs.way.Chain.{In, Chain}
use Rattle.refinement.specs.way.Represents.{firsts, heads, ClassRep}
use Rattle.refinement.proofs.Lists.{in_left, in_right, in_count, firsts-append, first-page, last-page, part}
use Rattle.refinement.proofs.Kept.{listed-whole}

-- the page of a code, if there is one
abbrev pub Named : (ℕ → Type 0) → ℕ → Type 0
Named P code = (z : ℕ) → code ≡ suc z → P z

module _ {n : ℕ} {b : List ℕ} {c : ℕ} {sh : Shape} {k : Park} (sound : Sound sh) (P : ℕ → Type 0) (each : (x : ℕ) → whole n b sh c x ≡ true → P x) where
  pub each-listed : (x : ℕ) {ps xs ys fs : List Page} → ClassRep n b c sh k ps xs ys fs → 1 ≤ heads x ps + heads x xs + heads x ys + heads x fs → P x
  each-listed x r e = each x (listed-whole sound r x e)

  pub each-head : {ps xs ys fs : List Page} → ClassRep n b c sh k ps xs ys fs → Named P (get b (class partial c))
  each-head {ps} r z e = each-listed z r (omega (arith, in_count z (firsts ps) (first-page b 0 (get b (class partial c)) (firsts ps) z r.chain.links e)))

  pub each-beside : (ss : List Page) (p : Page) (ts : List Page) {xs ys fs : List Page} → ClassRep n b c sh k (ss ++ p ∷ ts) xs ys fs
      → Named P (get b (page next p.first)) × Named P (get b (page prev p.first))
  each-beside ss p ts r =
      let q = p.first in
      let ch : Chain n b c (firsts ss ++ p.first ∷ firsts ts) = rw (firsts-append ss (p ∷ ts)) at r.chain in
      let pa = part b 0 (get b (class partial c)) (firsts ss) q (firsts ts) 0 ch.links in
      let has : (z : ℕ) → In z (firsts ss ++ p.first ∷ firsts ts) → P z
      = λ z i. each-listed z r (omega (arith, in_count z (firsts (ss ++ p ∷ ts)) (subst (λ (l : List ℕ). In z l) (sym (firsts-append ss (p ∷ ts))) i))) in (
        (λ z e. has z (in_right z (firsts ss) (q ∷ firsts ts) (inr (first-page b (suc q) (get b (page next q)) (firsts ts) z pa.aft e)))),
        (λ z e. has z (in_left z (firsts ss) (q ∷ firsts ts) (last-page (firsts ss) z (sym pa.before ∙ e)))),
      )
