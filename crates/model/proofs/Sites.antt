-- A class's pages with blocks out: how often a word is out there, the page that a test finds, and the class without it.
use Rattle.facts.proofs.Prelude.{ℕ, ◌+◌, ◌≤◌, arith, Bool, true, cond, false≢true, List, [], ◌∷◌, Option, none, some, Option·none-ne-some}
use Rattle.facts.proofs.Prelude.{◌≡◌, refl, sym, ap, subst, leb, eqb-true, leb-true, leb-false, All, total, is_some, by_cases}
use Rattle.classes.specs.declared.Shape.{Shape}
use Rattle.classes.specs.way.Sound.{Sound}
use Rattle.model.specs.Page.{Page, is_out}
use Rattle.model.specs.Class.{Class}
use Rattle.model.specs.Release.{Found, find, prepend, Site, in_partial, in_full, or_else, map_found, locate, out_here}
use Rattle.model.specs.Chunks.{starts_at}
use Rattle.model.specs.Ledger.{runs_with}
use Rattle.model.proofs.Counts.{total-at}
use Rattle.model.proofs.Runs.{covers_in}
use Rattle.model.proofs.Find.{all-at, FoundLaws, found-law}
use Rattle.model.proofs.Pages.{out_of, on, begins_on, out-on, out-le, is-out, out-is, GoodPage, EmptyPage}

-- how often w is out in the class: a measure of its pages with blocks out
abbrev pub outs : (Page → ℕ) → Class → ℕ
outs f s = total f s.partial + total f s.full

abbrev pub out_count : Shape → ℕ → Class → ℕ
out_count sh w s = outs (out_of sh w) s

-- the same on a page whose run begins at q, and on all of them
abbrev pub out_from : Shape → ℕ → ℕ → Page → ℕ
out_from sh q w p = cond (starts_at q p) (out_of sh w p) 0

abbrev pub out_at : Shape → ℕ → ℕ → Class → ℕ
out_at sh q w s = outs (out_from sh q w) s

-- no page is in two of the class's runs
abbrev pub Once : Shape → Class → Type 0
Once sh s = (x : ℕ) → runs_with sh x s ≤ 1

pub record GoodClass (sh : Shape) (s : Class) : Type 0 where
  pub partial : All (GoodPage sh) s.partial
  pub empty : All (EmptyPage sh) s.empty
  pub full : All (GoodPage sh) s.full

module _ (sh : Shape) where
  -- a site: the class is its page and the rest, and another page may stand in its stead
  pub record SiteLaw (s : Class) (x : Site) : Type 0 where
    pub page : GoodPage sh x.page
    pub rest : GoodClass sh x.without
    pub pages-rest : (z : ℕ) → on sh z x.page + runs_with sh z x.without ≡ runs_with sh z s
    pub out-rest : (f : Page → ℕ) → f x.page + outs f x.without ≡ outs f s
    pub put : (p : Page) → GoodPage sh p → GoodClass sh (x.with p)
    pub pages-put : (p : Page) (z : ℕ) → runs_with sh z (x.with p) ≡ on sh z p + runs_with sh z x.without
    pub out-put : (p : Page) (f : Page → ℕ) → outs f (x.with p) ≡ f p + outs f x.without

  abbrev pub SiteLaws : Class → Option Site → Type 0
  SiteLaws s none = Unit {0}
  SiteLaws s (some x) = SiteLaw s x

  module _ (s : Class) (good : GoodClass sh s) where
    in_partial_lem : (t : Page → Bool) (o : Option Found) → FoundLaws t s.partial o → SiteLaws s (map_found (in_partial s) o)
    unfolding in_partial
    in_partial_lem t none h = tt
    in_partial_lem t (some f) h =
        let all = (all-at (GoodPage sh) f.before f.page f.behind).0 (subst (All (GoodPage sh)) h.is good.partial) in
        record {
          page = all.0;
          rest = record { partial = all.1; empty = good.empty; full = good.full };
          pages-rest = λ z. omega (arith, ap (total (on sh z)) h.is, total-at (on sh z) f.before f.page f.behind);
          out-rest = λ g. omega (arith, ap (total g) h.is, total-at g f.before f.page f.behind);
          put = λ p gp. record { partial = (all-at (GoodPage sh) f.before p f.behind).1 (gp, all.1); empty = good.empty; full = good.full };
          pages-put = λ p z. omega (arith, total-at (on sh z) f.before p f.behind);
          out-put = λ p g. omega (arith, total-at g f.before p f.behind);
        }

    in_full_lem : (t : Page → Bool) (o : Option Found) → FoundLaws t s.full o → SiteLaws s (map_found (in_full s) o)
    unfolding in_full
    in_full_lem t none h = tt
    in_full_lem t (some f) h =
        let all = (all-at (GoodPage sh) f.before f.page f.behind).0 (subst (All (GoodPage sh)) h.is good.full) in
        record {
          page = all.0;
          rest = record { partial = good.partial; empty = good.empty; full = all.1 };
          pages-rest = λ z. omega (arith, ap (total (on sh z)) h.is, total-at (on sh z) f.before f.page f.behind);
          out-rest = λ g. omega (arith, ap (total g) h.is, total-at g f.before f.page f.behind);
          put = λ p gp. record { partial = (gp, good.partial); empty = good.empty; full = all.1 };
          pages-put = λ p z. omega arith;
          out-put = λ p g. omega arith;
        }

    or_else_lem : (x y : Option Site) → SiteLaws s x → SiteLaws s y → SiteLaws s (or_else x y)
    or_else_lem none y p q = q
    or_else_lem (some x) y p q = p

    pub locate-law : (t : Page → Bool) → SiteLaws s (locate t s)
    unfolding locate
    locate-law t = or_else_lem (map_found (in_partial s) (find t s.partial)) (map_found (in_full s) (find t s.full)) (in_partial_lem t (find t s.partial) (found-law t s.partial)) (in_full_lem t (find t s.full) (found-law t s.full))

-- the page that a test finds passes it; if it finds none, none does
abbrev pub Tells : (Page → Bool) → Class → Option Site → Type 0
Tells t s none = (f : Page → ℕ) → outs (λ p. cond (t p) (f p) 0) s ≡ 0
Tells t s (some x) = t x.page ≡ true

module _ (t : Page → Bool) where
  prepend-none : (p : Page) (o : Option Found) → prepend p o ≡ none → o ≡ none
  prepend-none p none e = refl
  prepend-none p (some f) e = absurd (Option·none-ne-some _ (sym e))

  find_none : (f : Page → ℕ) (ps : List Page) → find t ps ≡ none → total (λ p. cond (t p) (f p) 0) ps ≡ 0
  unfolding find
  find_none f [] e = refl
  find_none f (p ∷ ps) e =
      by_cases (t p)
      (λ d. absurd (Option·none-ne-some _ (sym (rw d at e))))
      (λ d. let ih = find_none f ps (prepend-none p (find t ps) (rw d at e)) in rw d (omega arith))

  pub locate-tells : (s : Class) → Tells t s (locate t s)
  unfolding locate in_partial in_full
  locate-tells s = go (find t s.partial) (find t s.full) refl refl (found-law t s.partial) (found-law t s.full)
    where
      go : (x y : Option Found) → find t s.partial ≡ x → find t s.full ≡ y → FoundLaws t s.partial x → FoundLaws t s.full y → Tells t s (or_else (map_found (in_partial s) x) (map_found (in_full s) y))
      go (some f) y p q l m = l.passes
      go none (some f) p q l m = m.passes
      go none none p q l m = λ f. omega (arith, find_none f s.partial p, find_none f s.full q)

module _ (sh : Shape) (ok : Sound sh) where
  -- in a class whose runs share no page a word is out at most once, and on the pages that begin at q only on the first that does
  total-le : (f g : Page → ℕ) (ps : List Page) → All (GoodPage sh) ps → ((p : Page) → GoodPage sh p → f p ≤ g p) → total f ps ≤ total g ps
  total-le f g [] good h = omega arith
  total-le f g (p ∷ ps) good h = omega (arith, h p good.0, total-le f g ps good.1 h)

  outs-le : (s : Class) (f : Page → ℕ) (x : ℕ) → GoodClass sh s → ((p : Page) → GoodPage sh p → f p ≤ on sh x p) → outs f s ≤ runs_with sh x s
  outs-le s f x good h = omega (arith, total-le f (on sh x) s.partial good.partial h, total-le f (on sh x) s.full good.full h)

  pub out_once : (s : Class) → GoodClass sh s → Once sh s → (w : ℕ) → out_count sh w s ≤ 1
  out_once s good once w = omega (arith, outs-le s (out_of sh w) (begins_on sh ok w) good (out-on sh ok w), once (begins_on sh ok w))

  from_on : (q w : ℕ) (p : Page) → out_from sh q w p ≤ on sh q p
  from_on q w p =
      by_cases (starts_at q p)
      (λ e. let y = eqb-true p.first q e in rw e (omega (arith, out-le sh ok w p, covers_in sh.pages p.first q (omega arith) (omega (arith, ok.paged)))))
      (λ e. rw e (omega arith))

  pub out_first : (s : Class) (x : Site) → SiteLaw sh s x → Once sh s → (q w : ℕ) → starts_at q x.page ≡ true → out_at sh q w s ≡ out_of sh w x.page
  out_first s x law once q w e =
      let y = eqb-true x.page.first q e in
      let c = covers_in sh.pages x.page.first q (omega arith) (omega (arith, ok.paged)) in
      let r : cond (starts_at q x.page) (out_of sh w x.page) 0 ≡ out_of sh w x.page = rw e in
      omega (arith, law.out-rest (out_from sh q w), outs-le x.without (out_from sh q w) q law.rest (λ p g. from_on q w p), law.pages-rest q, once q)

  -- number 10's test and the number of times that a word is out
  module _ (s : Class) (good : GoodClass sh s) (w : ℕ) where
    pub here_out : out_here sh s w ≡ true → 1 ≤ out_count sh w s
    unfolding out_here
    here_out e = go (locate (is_out sh w) s) (locate-law sh s good (is_out sh w)) (locate-tells (is_out sh w) s) e
      where
        go : (o : Option Site) → SiteLaws sh s o → Tells (is_out sh w) s o → is_some o ≡ true → 1 ≤ out_count sh w s
        go none law tells e = absurd (false≢true e)
        go (some x) law tells e = omega (arith, law.out-rest (out_of sh w), is-out sh ok w x.page tells)

    pub out-here : 1 ≤ out_count sh w s → out_here sh s w ≡ true
    unfolding out_here
    out-here h = go (locate (is_out sh w) s) (locate-tells (is_out sh w) s) h
      where
        passes : (p : Page) → out_of sh w p ≤ cond (is_out sh w p) (out_of sh w p) 0
        passes p =
            by_cases (leb 1 (out_of sh w p))
            (λ e. rw (out-is sh ok w p (leb-true 1 (out_of sh w p) e)) (omega arith))
            (λ e. omega (arith, leb-false 1 (out_of sh w p) e))

        go : (o : Option Site) → Tells (is_out sh w) s o → 1 ≤ out_count sh w s → is_some o ≡ true
        go none tells h =
            let f : Page → ℕ = λ p. cond (is_out sh w p) (out_of sh w p) 0 in
            absurd (omega (arith, tells (out_of sh w), total-le (out_of sh w) f s.partial good.partial (λ p g. passes p), total-le (out_of sh w) f s.full good.full (λ p g. passes p)))
        go (some x) tells h = refl
