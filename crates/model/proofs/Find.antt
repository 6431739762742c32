-- The page that a test finds, and what the test finds after a change elsewhere.
use Rattle.facts.proofs.Prelude.{Bool, true, false, cond, List, [], ◌∷◌, ◌++◌, ◌↔◌, Option, none, some, ◌≡◌, refl, sym, ap, ◌∙◌, ap₂, All, by_cases}
use Rattle.model.specs.Page.{Page}
use Rattle.model.specs.Class.{Class}
use Rattle.model.specs.Release.{Found, Site, find, prepend, in_partial, in_full, or_else, map_found, locate}

pub all-at : {A : Type 0} (P : A → Type 0) (s : List A) (p : A) (t : List A) → All P (s ++ p ∷ t) ↔ (P p × All P (s ++ t))
all-at P [] p t = (λ h. h, λ h. h)
all-at P (x ∷ s) p t =
    let r = all-at P s p t in
    (λ h. ((r.0 h.1).0, (h.0, (r.0 h.1).1)), λ h. (h.1.0, r.1 (h.0, h.1.1)))

-- what is found: the list is that page between what stands before and behind it
pub record FoundLaw (t : Page → Bool) (ps : List Page) (f : Found) : Type 0 where
  pub is : ps ≡ f.before ++ f.page ∷ f.behind
  pub passes : t f.page ≡ true

abbrev pub FoundLaws : (Page → Bool) → List Page → Option Found → Type 0
FoundLaws t ps none = Unit {0}
FoundLaws t ps (some f) = FoundLaw t ps f

-- the first page that passes, in a list and among a class's pages with blocks out
abbrev first : (Page → Bool) → List Page → Option Page
first t [] = none
first t (p ∷ ps) = cond (t p) (some p) (first t ps)

abbrev either : Option Page → Option Page → Option Page
either none y = y
either (some x) y = some x

abbrev pub first_of : (Page → Bool) → Class → Option Page
first_of t s = either (first t s.partial) (first t s.full)

abbrev pub page_in : Option Site → Option Page
page_in none = none
page_in (some x) = some x.page

abbrev page_found : Option Found → Option Page
page_found none = none
page_found (some f) = some f.page

module _ (t : Page → Bool) where
  prepend-found : (p : Page) (ps : List Page) (o : Option Found) → FoundLaws t ps o → FoundLaws t (p ∷ ps) (prepend p o)
  prepend-found p ps none h = tt
  prepend-found p ps (some f) h = record { is = ap (λ z. p ∷ z) h.is; passes = h.passes }

  prepend-page : (p : Page) (o : Option Found) → page_found (prepend p o) ≡ page_found o
  prepend-page p none = refl
  prepend-page p (some f) = refl

  pub found-law : (ps : List Page) → FoundLaws t ps (find t ps)
  unfolding find
  found-law [] = tt
  found-law (p ∷ ps) =
      let r = prepend-found p ps (find t ps) (found-law ps) in
      by_cases (t p) (λ e. rw e (record { is = refl; passes = e })) (λ e. rw e r)

  found_first : (ps : List Page) → page_found (find t ps) ≡ first t ps
  unfolding find
  found_first [] = refl
  found_first (p ∷ ps) =
      let r = prepend-page p (find t ps) ∙ found_first ps in
      by_cases (t p) (λ e. rw e) (λ e. rw e r)

  pub located-first : (s : Class) → page_in (locate t s) ≡ first_of t s
  unfolding locate in_partial in_full
  located-first s = go (find t s.partial) (find t s.full) (found_first s.partial) (found_first s.full)
    where
      go : (x y : Option Found) → page_found x ≡ first t s.partial → page_found y ≡ first t s.full → page_in (or_else (map_found (in_partial s) x) (map_found (in_full s) y)) ≡ first_of t s
      go none none p q = ap₂ either p q
      go none (some y) p q = ap₂ either p q
      go (some x) none p q = ap₂ either p q
      go (some x) (some y) p q = ap₂ either p q

-- a test that the page fails finds as much without it, and with another that fails too
first-skip : (u : Page → Bool) (b : List Page) (p : Page) (a : List Page) → u p ≡ false → first u (b ++ p ∷ a) ≡ first u (b ++ a)
first-skip u [] p a e = rw e
first-skip u (x ∷ b) p a e = ap (cond (u x) (some x)) (first-skip u b p a e)

pub record Skips (s : Class) (x : Site) : Type 0 where
  pub without : (u : Page → Bool) → u x.page ≡ false → first_of u x.without ≡ first_of u s
  pub with : (u : Page → Bool) (p : Page) → u x.page ≡ false → u p ≡ false → first_of u (x.with p) ≡ first_of u s

module _ (t : Page → Bool) (s : Class) (f : Found) where
  pub partial-skips : FoundLaw t s.partial f → Skips s (in_partial s f)
  unfolding in_partial
  partial-skips h = record {
    without = λ u e. ap (λ z. either z (first u s.full)) (sym (ap (first u) h.is ∙ first-skip u f.before f.page f.behind e));
    with = λ u p e d. ap (λ z. either z (first u s.full)) (first-skip u f.before p f.behind d ∙ sym (ap (first u) h.is ∙ first-skip u f.before f.page f.behind e));
  }

  pub full-skips : FoundLaw t s.full f → Skips s (in_full s f)
  unfolding in_full
  full-skips h = record {
    without = λ u e. ap (either (first u s.partial)) (sym (ap (first u) h.is ∙ first-skip u f.before f.page f.behind e));
    with = λ u p e d. rw d (ap (either (first u s.partial)) (sym (ap (first u) h.is ∙ first-skip u f.before f.page f.behind e)));
  }
