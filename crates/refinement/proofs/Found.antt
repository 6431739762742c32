-- The page that a word is on: what the model finds is what the words say.
--     Located         what `locate` finds, and where
--     Away, Placed    a class with pages in no list that wait for the arena, and a page of it at its site
--     same-page       on a page of the class a block is out exactly if the words name that page
--     out-here        number 10's test on the words is the model's
--     site-of         the site of a word that is out
use Rattle.facts.proofs.Prelude.{ℕ, ◌+◌, ◌≤◌, arith, Bool, true, false, true≢false, false≢true, List, [], ◌∷◌, ◌++◌, map, append_assoc, Option, none, some, ◌≡◌, refl}
use Rattle.facts.proofs.Prelude.{sym, ap, ◌∙◌, subst, eqb, leb, eq-eqb, eqb-true, leb-true, leb-false, every, All, is_some, by_cases, bool_eq, and_left, and_right}
use Rattle.classes.specs.declared.Shape.{Shape}
use Rattle.fields.specs.Ranges.{max_pages}
use Rattle.fields.proofs.Changes.{Changes, changes-none}
use Rattle.model.specs.Page.{Page, is_out, reused}
use Rattle.model.specs.Class.{Class, thawed}
use Rattle.model.specs.Release.{Found, Site, prepend, find, in_partial, in_full, or_else, map_found, locate, of_kind, out_here}
use Rattle.model.proofs.Find.{all-at, FoundLaw}
use Rattle.words.specs.Host.{digit}
use Rattle.pages.specs.Runs.{whole}
use Rattle.pages.specs.declared.Park.TheVariants.{Empty}
use Rattle.calls.specs.Out.{start_of, out_in, in_run_of, out_at}
use Rattle.calls.specs.Release.{unlisted, relisted}
use Rattle.refinement.specs.way.Represents.{PageRep, Parked, heads, ClassRep, StateRep}
use Rattle.refinement.proofs.Basics.{Setting}
use Rattle.refinement.proofs.Frames.{is_data, of_class, Only}
use Rattle.refinement.proofs.Moves.{full-out, at-partial, at-full, from-partial, to-partial, unlink-only, link-only}
use Rattle.refinement.proofs.Decode.{out_sits, sits_out, in_sits, sits_start, sits_at}

-- ---- what the model finds
abbrev Finds : (Page → Bool) → List Page → Option Found → Type 0
Finds t ps none = All (λ p. t p ≡ false) ps
Finds t ps (some f) = FoundLaw t ps f

pub data Located (t : Page → Bool) (s : Class) : Option Site → Type 0 where
  nowhere : All (λ p. t p ≡ false) s.partial → All (λ p. t p ≡ false) s.full → Located t s none
  in_list : (f : Found) → FoundLaw t s.partial f → Located t s (some (in_partial s f))
  in_none : (f : Found) → FoundLaw t s.full f → Located t s (some (in_full s f))

module _ (t : Page → Bool) where
  finds-prepend : (p : Page) (ps : List Page) (o : Option Found) → t p ≡ false → Finds t ps o → Finds t (p ∷ ps) (prepend p o)
  finds-prepend p ps none e h = (e, h)
  finds-prepend p ps (some f) e h = record { is = ap (λ z. p ∷ z) h.is; passes = h.passes }

  finds : (ps : List Page) → Finds t ps (find t ps)
  unfolding find
  finds [] = tt
  finds (p ∷ ps) =
      let r : t p ≡ false → Finds t (p ∷ ps) (prepend p (find t ps)) = λ e. finds-prepend p ps (find t ps) e (finds ps) in
      by_cases (t p) (λ e. rw e (record { is = refl; passes = e })) (λ e. let z = r e in rw e z)

  module _ (s : Class) where
    either-located : (x y : Option Found) → Finds t s.partial x → Finds t s.full y
        → Located t s (or_else (map_found (in_partial s) x) (map_found (in_full s) y))
    either-located none none h k = nowhere h k
    either-located none (some f) h k = in_none f k
    either-located (some f) y h k = in_list f h

    pub located : Located t s (locate t s)
    unfolding locate
    located = either-located (find t s.partial) (find t s.full) (finds s.partial) (finds s.full)

pub located-passes : {t : Page → Bool} {s : Class} {x : Site} → Located t s (some x) → t x.page ≡ true
unfolding in_partial in_full
located-passes (in_list f h) = h.passes
located-passes (in_none f h) = h.passes

-- ---- a class whose pages zs are in no list and wait for the arena
abbrev pub Away : ℕ → List ℕ → ℕ → Shape → Class → List Page → Type 0
Away n b c sh s zs = ClassRep n b c sh Empty s.partial (map (reused sh) s.empty) (map (thawed sh) s.cold) (zs ++ s.full)

-- page p stands at the site x, whatever page the model has there; l is 1 in the partial list
pub data Placed (n : ℕ) (b : List ℕ) (c : ℕ) (sh : Shape) (zs : List Page) : (l : ℕ) → Page → Site → Type 0 where
  among : {p : Page} (s : Class) (f : Found)
      → ClassRep n b c sh Empty (f.before ++ p ∷ f.behind) (map (reused sh) s.empty) (map (thawed sh) s.cold) (zs ++ s.full)
      → Placed n b c sh zs 1 p (in_partial s f)
  aside : {p : Page} (s : Class) (f : Found)
      → ClassRep n b c sh Empty s.partial (map (reused sh) s.empty) (map (thawed sh) s.cold) (p ∷ (zs ++ (f.before ++ f.behind)))
      → Placed n b c sh zs 0 p (in_full s f)

-- where it stands
pub record At (n : ℕ) (b : List ℕ) (c : ℕ) (sh : Shape) (zs : List Page) (x : Site) : Type 0 where
  pub listing : ℕ
  pub placed : Placed n b c sh zs listing x.page x

module _ {n : ℕ} {b : List ℕ} {c : ℕ} {sh : Shape} {zs : List Page} where
  pub found_at : {t : Page → Bool} {s : Class} {x : Site} → Away n b c sh s zs → Located t s (some x) → At n b c sh zs x
  unfolding in_partial in_full
  found_at {s = s} r (in_list f h) = record {
    listing = 1;
    placed = among s f (subst (λ z. ClassRep n b c sh Empty z (map (reused sh) s.empty) (map (thawed sh) s.cold) (zs ++ s.full)) h.is r);
  }
  found_at {s = s} r (in_none f h) =
      let e : zs ++ s.full ≡ (zs ++ f.before) ++ f.page ∷ f.behind = ap (λ z. zs ++ z) h.is ∙ sym (append_assoc zs f.before (f.page ∷ f.behind)) in
      let r₁ = full-out (zs ++ f.before) f.page f.behind
      (subst (λ z. ClassRep n b c sh Empty s.partial (map (reused sh) s.empty) (map (thawed sh) s.cold) z) e r) in
      record {
        listing = 0;
        placed = aside s f (subst (λ z. ClassRep n b c sh Empty s.partial (map (reused sh) s.empty) (map (thawed sh) s.cold) (f.page ∷ z))
            (append_assoc zs f.before f.behind) r₁);
      }

  pub placed-rep : {l : ℕ} {p : Page} {x : Site} → Placed n b c sh zs l p x → PageRep n sh b c l p
  placed-rep (among {p} s f r) = ((all-at (PageRep n sh b c 1) f.before p f.behind).0 r.partials).0
  placed-rep (aside s f r) = r.fulls.0

  module _ (s : Setting n b c sh) where
    -- the page gets other blocks
    pub placed_data : {l : ℕ} {p : Page} {x : Site} (p' : Page) {b' : List ℕ} → p'.first ≡ p.first → Changes (is_data p.first) b b'
        → PageRep n sh b' c l p' → Placed n b c sh zs l p x → Placed n b' c sh zs l p' x
    placed_data p' e h new (among {p} t f r) = among t f (at-partial s p p' e h f.before f.behind r new)
    placed_data p' e h new (aside {p} t f r) = aside t f (at-full s p p' e h r new)

    -- it leaves its list
    pub placed-out : {l : ℕ} {p : Page} {x : Site} → Placed n b c sh zs l p x → Away n (unlisted b c p.first) c sh x.without (p ∷ zs)
    unfolding unlisted in_partial in_full
    placed-out (among {p} t f r) = rw (placed-rep (among t f r)).holds.listing (from-partial s f.before p f.behind r)
    placed-out (aside t f r) = rw r.fulls.0.holds.listing r

    pub out-only : {l : ℕ} {p : Page} {x : Site} → Placed n b c sh zs l p x → Only c b (unlisted b c p.first)
    unfolding unlisted
    out-only (among {p} t f r) = rw (placed-rep (among t f r)).holds.listing (unlink-only s f.before p f.behind r)
    out-only (aside t f r) = rw r.fulls.0.holds.listing (changes-none (of_class b c) b)

    -- it stays at its place, or heads the partial list
    pub placed_in : {l : ℕ} {p : Page} {x : Site} → Placed n b c sh zs l p x → Away n (relisted b c p.first) c sh (x.with p) zs
    unfolding relisted in_partial in_full
    placed_in (among {p} t f r) = rw (placed-rep (among t f r)).holds.listing r
    placed_in (aside t f r) = rw r.fulls.0.holds.listing (to-partial s r)

    pub in_only : {l : ℕ} {p : Page} {x : Site} → Placed n b c sh zs l p x → Only c b (relisted b c p.first)
    unfolding relisted
    in_only (among {p} t f r) = rw (placed-rep (among t f r)).holds.listing (changes-none (of_class b c) b)
    in_only (aside t f r) = rw r.fulls.0.holds.listing (link-only s r)

-- ---- a page of a list, by its first page
pub record Destination (q : ℕ) (zs : List Page) : Type 0 where
  pub before : List Page
  pub page : Page
  pub behind : List Page
  pub is : zs ≡ before ++ page ∷ behind
  pub here : page.first ≡ q

destination-behind : (q : ℕ) (z : Page) (zs : List Page) → Destination q zs → Destination q (z ∷ zs)
destination-behind q z zs r = record { before = z ∷ r.before; page = r.page; behind = r.behind; is = ap (λ l. z ∷ l) r.is; here = r.here }

pub destination : (q : ℕ) (zs : List Page) → 1 ≤ heads q zs → Destination q zs
destination q [] h = absurd (omega arith)
destination q (z ∷ zs) h =
    by_cases (eqb q z.first)
    (λ e. record { before = []; page = z; behind = zs; is = refl; here = sym (eqb-true q z.first e) })
    (λ e. let y : 1 ≤ 0 + heads q zs = rw e at h in destination-behind q z zs (destination q zs (omega arith)))

pub all-destination : (P : Page → Type 0) {q : ℕ} {zs : List Page} (t : Destination q zs) → All P zs → P t.page
all-destination P t a = ((all-at P t.before t.page t.behind).0 (subst (All P) t.is a)).0

module _ {n : ℕ} {b : List ℕ} {c : ℕ} {sh : Shape} (s : Setting n b c sh) (hn : n ≤ max_pages) where
  -- on which page a block that is out in the class is
  pub same-page : {l : ℕ} {p : Page} → PageRep n sh b c l p → (w : ℕ) → of_kind sh.kind w ≡ true → out_at n b c sh w ≡ true → is_out sh w p ≡ eqb (start_of b w) p.first
  unfolding out_at
  same-page {p = p} r w k o =
      bool_eq (is_out sh w p) (eqb (start_of b w) p.first)
      (λ e. eq-eqb (start_of b w) p.first (sits_start s hn r w (out_sits s hn r w e)))
      (λ e. sits_out s hn r w (in_sits b s.shape p.first w k
      (ap (λ z. out_in b sh z w) (sym (eqb-true (start_of b w) p.first e)) ∙ and_right (in_run_of n b sh c w) (out_in b sh (start_of b w) w) o)))

  -- number 11's test
  pub same-pages : {l : ℕ} {p : Page} → PageRep n sh b c l p → (ws : List ℕ) → every (of_kind sh.kind) ws ≡ true → every (out_at n b c sh) ws ≡ true
      → every (λ w. is_out sh w p) ws ≡ every (λ w. eqb (start_of b w) p.first) ws
  same-pages r [] k o = refl
  same-pages r (w ∷ ws) k o =
      rw (
        same-page r w (and_left (of_kind sh.kind w) (every (of_kind sh.kind) ws) k) (and_left (out_at n b c sh w) (every (out_at n b c sh) ws) o),
        same-pages r ws (and_right (of_kind sh.kind w) (every (of_kind sh.kind) ws) k) (and_right (out_at n b c sh w) (every (out_at n b c sh) ws) o),
      )

  module _ (t : Class) (r : StateRep n b c sh t) (w : ℕ) where
    some_out : (o : Option Site) → Located (is_out sh w) t o → is_some o ≡ true → out_at n b c sh w ≡ true
    some_out none h e = absurd (false≢true e)
    some_out (some x) h e = let a = found_at {zs = []} r h in sits_at s hn (placed-rep a.placed) w (out_sits s hn (placed-rep a.placed) w (located-passes h))

    module _ (k : of_kind sh.kind w ≡ true) (o : out_at n b c sh w ≡ true) where
      out-on : {l : ℕ} {zs : List Page} (p : Destination (start_of b w) zs) → PageRep n sh b c l p.page → is_out sh w p.page ≡ true
      out-on p rp = same-page rp w k o ∙ eq-eqb (start_of b w) p.page.first (sym p.here)

      not-among : (l : ℕ) (zs : List Page) → All (PageRep n sh b c l) zs → All (λ p. is_out sh w p ≡ false) zs → 1 ≤ heads (start_of b w) zs → ⊥
      not-among l zs a f h =
          let p = destination (start_of b w) zs h in
          true≢false (sym (out-on p (all-destination (PageRep n sh b c l) p a)) ∙ all-destination (λ p. is_out sh w p ≡ false) p f)

      not-parked : (zs : List Page) → All (Parked n sh b c) zs → 1 ≤ heads (start_of b w) zs → ⊥
      not-parked zs a h =
          let p = destination (start_of b w) zs h in
          let rp = all-destination (Parked n sh b c) p a in
          let i = out_sits s hn rp.rep w (out-on p rp.rep) in
          omega (arith, i.set, rp.idle i.index)

      seen : whole n b sh c (start_of b w) ≡ true → (o : Option Site) → Located (is_out sh w) t o → is_some o ≡ true
      seen u (some x) h = refl
      seen u none (nowhere h₁ h₂) =
          let q = start_of b w in
          let z = r.runs (start_of b w) in
          let y : digit (whole n b sh c (start_of b w)) ≡ 1 = ap digit u in
          let xs = map (reused sh) t.empty in
          let ys = map (thawed sh) t.cold in
          absurd (none_of (heads q t.partial) (heads q xs) (heads q ys) (heads q t.full) (z ∙ y)
          (not-among 1 t.partial r.partials h₁) (not-parked xs r.parked) (not-parked ys r.parkeds) (not-among 0 t.full r.fulls h₂))
        where
          none_of : (a d e f : ℕ) → a + d + e + f ≡ 1 → (1 ≤ a → ⊥) → (1 ≤ d → ⊥) → (1 ≤ e → ⊥) → (1 ≤ f → ⊥) → ⊥
          none_of a d e f z n₁ n₂ n₃ n₄ =
              by_cases (leb 1 a) (λ u. n₁ (leb-true 1 a u))
              (λ u. by_cases (leb 1 d) (λ v. n₂ (leb-true 1 d v))
              (λ v. by_cases (leb 1 e) (λ x. n₃ (leb-true 1 e x))
              (λ x. n₄ (omega (arith, leb-false 1 a u, leb-false 1 d v, leb-false 1 e x)))))

    pub run_of_lem : out_at n b c sh w ≡ true → whole n b sh c (start_of b w) ≡ true
    unfolding out_at in_run_of
    run_of_lem o = search (and_left, and_right)

    -- number 10's test
    pub out-here : of_kind sh.kind w ≡ true → out_at n b c sh w ≡ out_here sh t w
    unfolding out_here
    out-here k =
        bool_eq (out_at n b c sh w) (is_some (locate (is_out sh w) t))
        (λ o. seen k o (run_of_lem o) (locate (is_out sh w) t) (located (is_out sh w) t))
        (λ e. some_out (locate (is_out sh w) t) (located (is_out sh w) t) e)

  pub outs-here : (t : Class) → StateRep n b c sh t → (ws : List ℕ) → every (of_kind sh.kind) ws ≡ true → every (out_at n b c sh) ws ≡ every (out_here sh t) ws
  outs-here t r [] k = refl
  outs-here t r (w ∷ ws) k =
      rw (out-here t r w (and_left (of_kind sh.kind w) (every (of_kind sh.kind) ws) k), outs-here t r ws (and_right (of_kind sh.kind w) (every (of_kind sh.kind) ws) k))

  module _ (t : Class) (r : StateRep n b c sh t) where
    -- where the words say that the run of a word begins
    pub start-at : (w : ℕ) {x : Site} → Located (is_out sh w) t (some x) → of_kind sh.kind w ≡ true → out_at n b c sh w ≡ true → start_of b w ≡ x.page.first
    start-at w {x} y k o = eqb-true (start_of b w) x.page.first (sym (same-page (placed-rep (found_at {zs = []} r y).placed) w k o) ∙ located-passes y)

    -- the site of a word that is out in the class
    pub record SiteOf (w : ℕ) : Type 0 where
      pub site : Site
      pub is : locate (is_out sh w) t ≡ some site
      pub found : Located (is_out sh w) t (some site)
      pub start : start_of b w ≡ site.page.first

    pub site_of : (w : ℕ) → of_kind sh.kind w ≡ true → out_at n b c sh w ≡ true → SiteOf w
    unfolding out_here
    site_of w k o = go (locate (is_out sh w) t) refl (located (is_out sh w) t) (sym (out-here t r w k) ∙ o)
      where
        go : (x : Option Site) → locate (is_out sh w) t ≡ x → Located (is_out sh w) t x → is_some x ≡ true → SiteOf w
        go none e y f = absurd (false≢true f)
        go (some x) e y f = record { site = x; is = e; found = y; start = start-at w y k o }
