-- A class's moves and its filling keep to the class's words.
--     Home S n b c sh    S has the words of the class's row and of the first page of each of its runs
--     .. -local          a step on two books put together is the step, put together with the same words
use Rattle.facts.proofs.Prelude.{ℕ, zero, suc, ◌+◌, ◌-◌, ◌≤◌, arith, Bool, true, List, [], ◌∷◌, ◌++◌, map, ◌≡◌, refl, sym, ap, ◌∙◌, eqb, length, eqb-true, every, by_cases}
use Rattle.classes.specs.declared.Shape.{Shape}
use Rattle.fields.specs.Field.{class, page, partial, next, prev, free, virgin, get}
use Rattle.model.specs.Page.{Page, pop, word_of}
use Rattle.model.proofs.Used.{itself}
use Rattle.pages.specs.Runs.{whole}
use Rattle.pages.specs.Stack.{latest, draw, has_more}
use Rattle.pages.specs.Links.{link, unlink, park_run, pop_store, unpark_run}
use Rattle.pages.specs.declared.Park.{Park}
use Rattle.pages.proofs.Descending.{small, every-below}
use Rattle.calls.specs.Take.{Filled, filled_none, then_filled, unlist_spent, fill_from}
use Rattle.refinement.specs.way.Represents.{Slots, heads, ClassRep}
use Rattle.refinement.proofs.Basics.{Setting, setting_kept}
use Rattle.pages.proofs.Kept.{whole-kept}
use Rattle.refinement.proofs.Frames.{Only, only-owns}
use Rattle.refinement.proofs.Neighbours.{each-listed, each-head, each-beside}
use Rattle.refinement.proofs.Moves.{at-partial, from-partial, from-store, to-partial, unlink-only, pop_store-only, link-only}
use Rattle.refinement.proofs.Draw.{latest-fit, draw_data, draw-only, pop-rep}
use Rattle.refinement.proofs.Fill.{fill_none, fill_empty, step_filled, fill_step}
use Rattle.refinement.proofs.Override.{override, PageIn, RowIn, get-page, get-row}
use Rattle.refinement.proofs.LocalPages.{CodeIn, more_in, latest_in, draw_in, link_in, unlink_in, park-run_in, pop_store_in}

pub record Home (S : ℕ → Bool) (n : ℕ) (b : List ℕ) (c : ℕ) (sh : Shape) : Type 0 where
  pub row : RowIn S c
  pub pages : (q : ℕ) → whole n b sh c q ≡ true → PageIn S q

pub home-only : {S : ℕ → Bool} {n c : ℕ} {b b' : List ℕ} {sh : Shape} → Only c b b' → Home S n b c sh → Home S n b' c sh
home-only {S} {n} {c} {b} {b'} {sh} o h = record { row = h.row; pages = λ q e. h.pages q (sym (whole-kept (only-owns c o) n sh c q) ∙ e) }

pub slots-few : (b : List ℕ) (q : ℕ) (xs : List ℕ) → Slots b q xs → length xs ≤ 4096
slots-few b q [] s = omega arith
slots-few b q (x ∷ xs) s = let z = s.1 in omega arith

module _ {S : ℕ → Bool} {n : ℕ} {b : List ℕ} {c : ℕ} {sh : Shape} {k : Park} (s : Setting n b c sh) (h : Home S n b c sh) (d : List ℕ) where
  pub page-home : (x : ℕ) {ps xs ys fs : List Page} → ClassRep n b c sh k ps xs ys fs → 1 ≤ heads x ps + heads x xs + heads x ys + heads x fs → PageIn S x
  page-home = each-listed s.shape (PageIn S) h.pages

  pub links-home : (ss : List Page) (p : Page) (ts : List Page) {xs ys fs : List Page} → ClassRep n b c sh k (ss ++ p ∷ ts) xs ys fs
      → CodeIn S (get b (page next p.first)) × CodeIn S (get b (page prev p.first))
  links-home = each-beside s.shape (PageIn S) h.pages

  pub unlink_local : (p : Page) (ts : List Page) {xs ys fs : List Page} → ClassRep n b c sh k (p ∷ ts) xs ys fs → unlink (override S b d) c p.first ≡ override S (unlink b c p.first) d
  unlink_local p ts r =
      let i = itself p.first in
      let l = links-home [] p ts r in
      unlink_in h.row (page-home p.first r (omega arith)) b d l.0 l.1

  pub head-home : {ps xs ys fs : List Page} → ClassRep n b c sh k ps xs ys fs → CodeIn S (get b (class partial c))
  head-home = each-head s.shape (PageIn S) h.pages

  pub link_local : {p : Page} {ps xs ys fs : List Page} → ClassRep n b c sh k ps xs ys (p ∷ fs) → link (override S b d) c p.first ≡ override S (link b c p.first) d
  link_local {p} r = let i = itself p.first in link_in h.row (page-home p.first r (omega arith)) b d (head-home r)

  pub pop_store_local : {p : Page} {ps xs ys fs : List Page} → ClassRep n b c sh k ps (p ∷ xs) ys fs → pop_store (override S b d) c k p.first ≡ override S (pop_store b c k p.first) d
  pop_store_local {p} r = let i = itself p.first in pop_store_in h.row (page-home p.first r (omega arith)) b d k

  pub park_run_local : {p : Page} {ps xs ys fs : List Page} → ClassRep n b c sh k ps xs ys (p ∷ fs) → park_run (override S b d) c k p.first ≡ override S (park_run b c k p.first) d
  park_run_local {p} r = let i = itself p.first in park-run_in h.row (page-home p.first r (omega arith)) b d k

-- ---- a filling
abbrev pub override_filled : (ℕ → Bool) → List ℕ → Filled → Filled
override_filled S d f = record { book = override S f.book d; blocks = f.blocks; virgin = f.virgin }

fill_zero : (b : List ℕ) (c : ℕ) (sh : Shape) (m : ℕ) → fill_from b c sh zero m ≡ filled_none b
unfolding fill_from
fill_zero b c sh m = refl

module _ {S : ℕ → Bool} {n c : ℕ} {sh : Shape} {k : Park} (d : List ℕ) where
  -- one page's part, with what comes after it
  step_local : (fuel m : ℕ) (b : List ℕ) (p : Page) (ps xs ys fs : List Page) → Setting n b c sh → Home S n b c sh → ClassRep n b c sh k (p ∷ ps) xs ys fs
      → ((m' : ℕ) (b' : List ℕ) (ps' fs' : List Page) → Setting n b' c sh → Home S n b' c sh → ClassRep n b' c sh k ps' xs ys fs'
      → fill_from (override S b' d) c sh fuel m' ≡ override_filled S d (fill_from b' c sh fuel m'))
      → step_filled (override S b d) c sh fuel m p.first ≡ override_filled S d (step_filled b c sh fuel m p.first)
  unfolding unlist_spent pop
  step_local fuel m b p ps xs ys fs s h r ih =
      let q = p.first in
      let b₁ = draw b sh q m in
      let p₁ = (pop sh m p).page in
      let g = r.partials.0.holds in
      let i = itself q in
      let pg : PageIn S p.first = page-home s h d q r (omega arith) in
      let few : get b (page free p.first) ≤ 4096 = omega (arith, g.height, slots-few b q r.partials.0.stack g.slots) in
      let sm : every small (latest b sh p.first m) ≡ true = every-below sh.capacity 4096 s.shape.few (latest b sh p.first m) (latest-fit s g m) in
      let o₁ = draw-only s g m in
      let s₁ = setting_kept b₁ o₁.long s in
      let r₁ : ClassRep n (draw b sh p.first m) c sh k ((pop sh m p).page ∷ ps) xs ys fs = at-partial s p p₁ refl (draw_data s g m) [] ps r (pop-rep s r.partials.0 m) in
      let h₁ = home-only o₁ h in
      let ws = map (word_of sh q) (latest b sh q m) in
      let m' = m - length (latest b sh q m) in
      rw (get-page pg b d virgin, latest_in pg b d sh m few, draw_in pg b d sh m few sm)
      (by_cases (has_more (draw b sh p.first m) sh p.first)
      (λ e. rw (more_in pg b₁ d sh, e) (ap (then_filled (eqb (get b (page virgin q)) 1) ws) (ih m' b₁ (p₁ ∷ ps) fs s₁ h₁ r₁)))
      (λ e. let o₂ = unlink-only s₁ [] p₁ ps r₁ in
      rw (more_in pg b₁ d sh, e, unlink_local s₁ h₁ d p₁ ps r₁)
      (ap (then_filled (eqb (get b (page virgin q)) 1) ws) (ih m' (unlink b₁ c q) ps (p₁ ∷ fs) (setting_kept _ o₂.long s₁) (home-only o₂ h₁) (from-partial s₁ [] p₁ ps r₁)))))

  pub fill_local : (fuel m : ℕ) (b : List ℕ) (ps xs ys fs : List Page) → Setting n b c sh → Home S n b c sh → ClassRep n b c sh k ps xs ys fs
      → fill_from (override S b d) c sh fuel m ≡ override_filled S d (fill_from b c sh fuel m)
  fill_local zero m b ps xs ys fs s h r = rw (fill_zero b c sh m, fill_zero (override S b d) c sh m)
  fill_local (suc fuel) m b [] xs ys fs s h r =
      rw (fill_empty b c sh (suc fuel) m r.chain.links, fill_empty (override S b d) c sh (suc fuel) m (get-row h.row b d partial ∙ r.chain.links))
  fill_local (suc fuel) m b (p ∷ ps) xs ys fs s h r =
      by_cases (eqb m 0)
      (λ e. rw (eqb-true m 0 e, fill_none b c sh (suc fuel), fill_none (override S b d) c sh (suc fuel)))
      (λ e. rw (fill_step b c sh fuel m p.first r.chain.links.0 e, fill_step (override S b d) c sh fuel m p.first (get-row h.row b d partial ∙ r.chain.links.0) e)
      (step_local fuel m b p ps xs ys fs s h r (λ m' b' ps' fs' s' h' r'. fill_local fuel m' b' ps' xs ys fs' s' h' r')))

  -- the newest page of a store heads the list, and gives its blocks
  pub unpark_run_local : (m : ℕ) (b : List ℕ) (p : Page) (xs ys fs : List Page) → Setting n b c sh → Home S n b c sh → ClassRep n b c sh k [] (p ∷ xs) ys fs
      → fill_from (unpark_run (override S b d) c k p.first) c sh m m ≡ override_filled S d (fill_from (unpark_run b c k p.first) c sh m m)
  unpark_run_local m b p xs ys fs s h r =
      let q = p.first in
      let o₁ = pop_store-only s r in
      let s₁ = setting_kept (pop_store b c k q) o₁.long s in
      let h₁ = home-only o₁ h in
      let r₁ = from-store s r in
      let o₂ = link-only s₁ r₁ in
      rw (pop_store_local s h d r, link_local s₁ h₁ d r₁)
      (fill_local m m (unpark_run b c k q) (p ∷ []) xs ys fs (setting_kept _ o₂.long s₁) (home-only o₂ h₁) (to-partial s₁ r₁))
