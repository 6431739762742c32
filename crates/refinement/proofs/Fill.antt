-- Filling from the partial list: the words do what the model's `fill_from_list` says, and change only words of the class.
use Rattle.facts.proofs.Prelude.{ℕ, zero, suc, ◌+◌, ◌-◌, ◌≤◌, ◌<◌, min, arith, true, false, not, ◌||◌, List, [], ◌∷◌, ◌++◌, map, ◌⊎◌, inl, inr, ◌≡◌, refl, sym, ap, ◌∙◌}
use Rattle.facts.proofs.Prelude.{eqb, ltb, leb, length, drop, length-drop, eq-eqb, ne_eqb, eqb-true, eqb-false, ltb-true, leb-true, leb-false, is_nil, All, by_cases}
use Rattle.classes.specs.declared.Shape.{Shape}
use Rattle.fields.specs.Field.{class, page, partial, virgin, get}
use Rattle.fields.proofs.Changes.{changes-none}
use Rattle.model.specs.Page as Page
use Rattle.model.specs.Page.{Page, pop}
use Rattle.model.specs.Class as Model
use Rattle.model.specs.Class.{after, fill_from_list}
use Rattle.pages.specs.Stack.{latest, draw, has_more}
use Rattle.pages.specs.Links.{unlink}
use Rattle.pages.specs.declared.Park.{Park}
use Rattle.calls.specs.Take.{Filled, filled_none, then_filled, unlist_spent, fill_from}
use Rattle.refinement.specs.way.Represents.{PageRep, ClassRep}
use Rattle.words.proofs.Answers.{eqb-digit}
use Rattle.refinement.proofs.Basics.{Setting, setting_kept}
use Rattle.refinement.proofs.Frames.{of_class, Only, only_trans}
use Rattle.refinement.proofs.Moves.{at-partial, from-partial, full-out, unlink-only}
use Rattle.refinement.proofs.Draw.{draw_data, draw-only, more-is, pop-rep, pop-blocks, pop-length, pop-size}

-- ---- how many blocks a page gives
module _ (sh : Shape) where
  some_more : (xs : List ℕ) (a d : ℕ) → (not (is_nil xs) || ltb a d) ≡ true → 1 ≤ length xs + (d - a)
  some_more [] a d e = let z = ltb-true a d e in omega arith
  some_more (x ∷ xs) a d e = omega arith

  gives_one : (p : Page) (m : ℕ) → Page.has_more sh p ≡ true → 1 ≤ m → 1 ≤ min (m - length p.free) (sh.capacity - p.carved) + min m (length p.free)
  unfolding Page.has_more
  gives_one p m e h = let z = some_more p.free p.carved sh.capacity e in omega arith

  -- in pieces: each has few enough differences for `omega`
  all-given : (m a k d f : ℕ) → f ≡ min (m - a) (d - k) → 1 ≤ (a - m) + (d - (k + f)) → (m ≤ a) ⊎ (a < m) → m - (f + min m a) ≡ 0
  all-given m a k d f e h (inl l) = let z : min m a ≡ m = omega arith in rw z (rest m f)
    where
      rest : (m f : ℕ) → m - (f + m) ≡ 0
      rest m f = omega arith
  all-given m a k d f e h (inr l) =
      let z : min m a ≡ a = low m a l in
      let y : 1 ≤ d - (k + f) = more_left (a - m) (d - (k + f)) (under a m l) h in
      let x : f ≡ m - a = left m a k d f e y in
      rw (z, x) (back m a l)
    where
      low : (m a : ℕ) → a < m → min m a ≡ a
      low m a l = omega arith

      under : (a m : ℕ) → a < m → a - m ≡ 0
      under a m l = omega arith

      more_left : (u v : ℕ) → u ≡ 0 → 1 ≤ u + v → 1 ≤ v
      more_left u v e h = omega arith

      left : (m a k d f : ℕ) → f ≡ min (m - a) (d - k) → 1 ≤ d - (k + f) → f ≡ m - a
      left m a k d f e h = omega arith

      back : (m a : ℕ) → a < m → m - (m - a + a) ≡ 0
      back m a l = omega arith

  -- a page that has more afterwards gave all that was wanted
  gives_all : (p : Page) (m : ℕ) → Page.has_more sh (pop sh m p).page ≡ true
      → m - (min (m - length p.free) (sh.capacity - p.carved) + min m (length p.free)) ≡ 0
  unfolding Page.has_more pop Page.carved_now
  gives_all p m e =
      let z = some_more (drop m p.free) (p.carved + min (m - length p.free) (sh.capacity - p.carved)) sh.capacity e in
      all-given m (length p.free) p.carved sh.capacity (min (m - length p.free) (sh.capacity - p.carved)) refl (rw length-drop at z)
      (by_cases (leb m (length p.free)) (λ u. inl (leb-true m (length p.free) u)) (λ u. inr (leb-false m (length p.free) u)))

-- ---- from page to page
pub pred : (q : ℕ) → suc q - 1 ≡ q
pred q = omega arith

pub fill_none : (b : List ℕ) (c : ℕ) (sh : Shape) (k : ℕ) → fill_from b c sh k 0 ≡ filled_none b
unfolding fill_from
fill_none b c sh zero = refl
fill_none b c sh (suc k) = refl

pub fill_empty : (b : List ℕ) (c : ℕ) (sh : Shape) (k m : ℕ) → get b (class partial c) ≡ 0 → fill_from b c sh k m ≡ filled_none b
unfolding fill_from
fill_empty b c sh zero m e = refl
fill_empty b c sh (suc k) m e = by_cases (eqb m 0) (λ u. rw u) (λ u. rw (u, e))

-- one page's part of a filling, on the words and in the model
abbrev pub step_filled : List ℕ → ℕ → Shape → ℕ → ℕ → ℕ → Filled
step_filled b c sh k m q =
    then_filled (eqb (get b (page virgin q)) 1) (map (Page.word_of sh q) (latest b sh q m))
    (fill_from (unlist_spent (draw b sh q m) c sh q) c sh k (m - length (latest b sh q m)))

abbrev step_model : Shape → ℕ → Page → List Page → Model.Filled
step_model sh m p ps = after sh p.virgin (pop sh m p) (fill_from_list sh (m - length (pop sh m p).blocks) ps)

pub fill_step : (b : List ℕ) (c : ℕ) (sh : Shape) (k m q : ℕ) → get b (class partial c) ≡ suc q → eqb m 0 ≡ false → fill_from b c sh (suc k) m ≡ step_filled b c sh k m q
unfolding fill_from
fill_step b c sh k m q e u = rw (u, e, ne_eqb (suc q) 0 (λ z. omega arith), pred q)

model-none : (sh : Shape) (ps : List Page) → fill_from_list sh 0 ps ≡ record { blocks = []; partial = ps; full = []; virgin = true }
unfolding fill_from_list
model-none sh [] = refl
model-none sh (p ∷ ps) = refl

-- what filling leaves, against what the model's filling leaves
pub record FillRep (n : ℕ) (b : List ℕ) (c : ℕ) (sh : Shape) (k : Park) (xs ys fs : List Page) (w : Filled) (f : Model.Filled) : Type 0 where
  pub rep : ClassRep n w.book c sh k f.partial xs ys (f.full ++ fs)
  pub blocks : w.blocks ≡ f.blocks
  pub virgin : w.virgin ≡ f.virgin
  pub only : Only c b w.book

abbrev pub AllMore : Shape → List Page → Type 0
AllMore sh ps = All (λ p. Page.has_more sh p ≡ true) ps

module _ {n c : ℕ} {sh : Shape} {k : Park} {xs ys : List Page} where
  stopped : {b : List ℕ} {ps fs : List Page} → ClassRep n b c sh k ps xs ys fs
      → FillRep n b c sh k xs ys fs (filled_none b) (record { blocks = []; partial = ps; full = []; virgin = true })
  stopped {b} r = record { rep = r; blocks = refl; virgin = refl; only = changes-none (of_class b c) b }

  module _ {b : List ℕ} (s : Setting n b c sh) {p : Page} {ps fs : List Page} (r : ClassRep n b c sh k (p ∷ ps) xs ys fs) (m : ℕ) where
    b₁ : List ℕ
    b₁ = draw b sh p.first m

    p₁ : Page
    p₁ = (pop sh m p).page

    only₁ : Only c b b₁
    unfolding b₁
    only₁ = draw-only s r.partials.0.holds m

    s₁ : Setting n b₁ c sh
    s₁ = setting_kept b₁ only₁.long s

    rep₁ : PageRep n sh b₁ c 1 p₁
    unfolding b₁ p₁
    rep₁ = pop-rep s r.partials.0 m

    r₁ : ClassRep n b₁ c sh k (p₁ ∷ ps) xs ys fs
    unfolding b₁ p₁ pop
    r₁ = at-partial s p p₁ refl (draw_data s r.partials.0.holds m) [] ps r rep₁

    more₁ : has_more b₁ sh p.first ≡ Page.has_more sh p₁
    unfolding p₁ pop
    more₁ = more-is rep₁

    clean : eqb (get b (page virgin p.first)) 1 ≡ p.virgin
    clean = ap (λ x. eqb x 1) r.partials.0.holds.clean ∙ eqb-digit p.virgin

    size : length (latest b sh p.first m) ≡ min (m - length p.free) (sh.capacity - p.carved) + min m (length p.free)
    size = pop-size s r.partials.0 m

    -- the page has more: then nothing more is wanted
    stays : (fuel : ℕ) → Page.has_more sh (pop sh m p).page ≡ true → FillRep n b c sh k xs ys fs (step_filled b c sh fuel m p.first) (step_model sh m p ps)
    unfolding after unlist_spent b₁ p₁
    stays fuel e =
        let z : m - length (latest b sh p.first m) ≡ 0 = ap (λ x. m - x) size ∙ gives_all sh p m e in
        let y : m - length (pop sh m p).blocks ≡ 0 = ap (λ x. m - x) (sym (pop-length s r.partials.0 m)) ∙ z in
        rw (more₁, e, z, y, fill_none b₁ c sh fuel, model-none sh ps)
        (record { rep = r₁; blocks = pop-blocks s r.partials.0 m; virgin = rw clean; only = only₁ })

    -- it has none: it leaves the list, and the next page heads it
    leaves : (fuel : ℕ) → m ≤ suc fuel → eqb m 0 ≡ false → Page.has_more sh p ≡ true → Page.has_more sh (pop sh m p).page ≡ false
        → ((b' : List ℕ) (fs' : List Page) (m' : ℕ) → Setting n b' c sh → m' ≤ fuel → ClassRep n b' c sh k ps xs ys fs'
        → FillRep n b' c sh k xs ys fs' (fill_from b' c sh fuel m') (fill_from_list sh m' ps))
        → FillRep n b c sh k xs ys fs (step_filled b c sh fuel m p.first) (step_model sh m p ps)
    unfolding after unlist_spent b₁ p₁ pop
    leaves fuel h u g e ih =
        let b₂ = unlink b₁ c p.first in
        let r₂ = from-partial s₁ [] p₁ ps r₁ in
        let o₂ : Only c b₁ (unlink b₁ c p.first) = unlink-only s₁ [] p₁ ps r₁ in
        let m' = m - length (latest b sh p.first m) in
        let z = size in
        let one = gives_one sh p m g (let v = eqb-false m 0 u in omega (arith, v)) in
        let i = ih b₂ (p₁ ∷ fs) m' (setting_kept b₂ o₂.long s₁) (omega arith) r₂ in
        rw (more₁, e, ← (pop-length s r.partials.0 m))
        (record {
          rep = full-out (fill_from_list sh m' ps).full p₁ fs i.rep;
          blocks = rw (i.blocks, pop-blocks s r.partials.0 m);
          virgin = rw (i.virgin, clean);
          only = only_trans c (only_trans c only₁ o₂) i.only;
        })

  pub fills : {b : List ℕ} → Setting n b c sh → (ps fs : List Page) (fuel m : ℕ) → m ≤ fuel → AllMore sh ps → ClassRep n b c sh k ps xs ys fs
      → FillRep n b c sh k xs ys fs (fill_from b c sh fuel m) (fill_from_list sh m ps)
  unfolding fill_from_list
  fills {b} s [] fs fuel m h g r = rw (fill_empty b c sh fuel m r.chain.links) (stopped r)
  fills {b} s (p ∷ ps) fs zero m h g r = let z : m ≡ 0 = omega arith in rw (eq-eqb m 0 z, z, fill_none b c sh zero) (stopped r)
  fills {b} s (p ∷ ps) fs (suc fuel) m h g r =
      by_cases (eqb m 0)
      (λ u. let z = eqb-true m 0 u in rw (u, z, fill_none b c sh (suc fuel)) (stopped r))
      (λ u. rw (u, fill_step b c sh fuel m p.first r.chain.links.0 u)
      (by_cases (Page.has_more sh (pop sh m p).page)
      (λ e. stays s r m fuel e)
      (λ e. leaves s r m fuel h u g.0 e (λ b' fs' m' s' h' r'. fills s' ps fs' fuel m' h' g.1 r'))))
