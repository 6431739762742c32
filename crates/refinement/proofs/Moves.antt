-- A class's page gets other blocks, and moves between a list and none. The pages in no list are the place between any two moves.
--     at-partial, at-full              a page with other blocks, in the partial list and in no list
--     from-partial, to-partial         out of the partial list, from any place, and to its head
--     from-store, to-store             off a store's top, and onto it
--     swap, full-out, full-in          the two stores' parts exchanged; the order of pages in no list does not matter
use Rattle.facts.proofs.Prelude.{ℕ, suc, ◌+◌, ◌≤◌, ◌<◌, arith, true, cond, List, [], ◌∷◌, ◌++◌, ◌≡◌, refl, sym, ap, ◌∙◌, eqb, ltb, leb, length, ne_eqb, eq-eqb, All, count}
use Rattle.classes.specs.declared.Shape.{Shape}
use Rattle.classes.specs.way.Sound.{Sound}
use Rattle.fields.specs.Field.{class, page, partial, owner, next, prev, listed, get, put, words}
use Rattle.fields.proofs.Laws.{get_put_same, length-put}
use Rattle.fields.proofs.Changes.{Changes}
use Rattle.model.specs.Page.{Page}
use Rattle.model.proofs.Find.{all-at}
use Rattle.pages.specs.Runs.{whole}
use Rattle.pages.specs.declared.Park.{Park}
use Rattle.pages.specs.declared.Park.TheVariants.{Empty, Cold}
use Rattle.pages.specs.Links.{linked, unlinked, link, unlink, other, top, stored, park_run, pop_store}
use Rattle.pages.proofs.Descending.{digit-le}
use Rattle.model.proofs.Used.{itself}
use Rattle.refinement.specs.way.Chain.{In, Chain}
use Rattle.refinement.specs.way.Represents.{PageRep, Parked, firsts, heads, ClassRep}
use Rattle.refinement.proofs.ArenaStore.{long_kept}
use Rattle.refinement.proofs.Basics.{Setting}
use Rattle.refinement.proofs.Lists.{in_left, in_count, off, not_in, firsts-append, firsts_at, heads-at, all-along, last-page, part}
use Rattle.pages.proofs.Runs.{whole-owner, whole_in}
use Rattle.pages.proofs.Kept.{Body, changes-body, whole-kept}
use Rattle.refinement.proofs.Frames.{is_data, of_class, Only, data_owns}
use Rattle.refinement.proofs.Kept.{Ties, rep-kept, rep-moved, parked-kept, stack-kept, chain-kept, class-now, listed-whole}
use Rattle.refinement.proofs.Neighbours.{each-listed, each-head, each-beside}
use Rattle.refinement.proofs.Links.{is_link, is_park_run, link_lets, class_lets, link-changes, unlink-changes, link-owns, link-body, link-listing, link-next, link-top, link-stored, park_run_lets, class_lets_park_run, park_run-changes, pop_store-changes, park_run-owns, park_run-body, park_run-listing, park_run-ties, park_run-partial, park_run-top, park_run-stored}
use Rattle.refinement.proofs.Linked.{chain-linked, chain-unlinked, stack-parked, stack-popped}

-- ---- the four lists put in another order
module _ {n : ℕ} {b : List ℕ} {c : ℕ} {sh : Shape} {k : Park} where
  pub full-out : {ps xs ys : List Page} (ss : List Page) (p : Page) (ts : List Page) → ClassRep n b c sh k ps xs ys (ss ++ p ∷ ts)
      → ClassRep n b c sh k ps xs ys (p ∷ (ss ++ ts))
  full-out ss p ts r = record {
    chain = r.chain;
    store = r.store;
    beside = r.beside;
    partials = r.partials;
    parked = r.parked;
    parkeds = r.parkeds;
    fulls = (all-at (PageRep n sh b c 0) ss p ts).0 r.fulls;
    runs = λ q. omega (arith, r.runs q, heads-at q ss p ts);
  }

  pub full_in : {ps xs ys : List Page} (ss : List Page) (p : Page) (ts : List Page) → ClassRep n b c sh k ps xs ys (p ∷ (ss ++ ts))
      → ClassRep n b c sh k ps xs ys (ss ++ p ∷ ts)
  full_in ss p ts r = record {
    chain = r.chain;
    store = r.store;
    beside = r.beside;
    partials = r.partials;
    parked = r.parked;
    parkeds = r.parkeds;
    fulls = (all-at (PageRep n sh b c 0) ss p ts).1 r.fulls;
    runs = λ q. omega (arith, r.runs q, heads-at q ss p ts);
  }

other-other : (k : Park) → other (other k) ≡ k
other-other Empty = refl
other-other Cold = refl

pub swap : {n : ℕ} {b : List ℕ} {c : ℕ} {sh : Shape} {k : Park} {ps xs ys fs : List Page} → ClassRep n b c sh k ps xs ys fs → ClassRep n b c sh (other k) ps ys xs fs
swap {k = k} r = record {
  chain = r.chain;
  store = r.beside;
  beside = rw (other-other k) r.store;
  partials = r.partials;
  parked = r.parkeds;
  parkeds = r.parked;
  fulls = r.fulls;
  runs = λ q. omega (arith, r.runs q);
}

-- ---- a step at page q, after which all other pages of the class have the blocks that they had
record Off (n : ℕ) (sh : Shape) (c q : ℕ) (b b' : List ℕ) : Type 0 where
  same : (x : ℕ) → whole n b' sh c x ≡ whole n b sh c x
  body : (x : ℕ) → (x ≡ q → ⊥) → Body x b b'
  listing : (x : ℕ) → (x ≡ q → ⊥) → get b' (page listed x) ≡ get b (page listed x)

module _ {n : ℕ} {sh : Shape} (sound : Sound sh) {c q : ℕ} {b b' : List ℕ} (o : Off n sh c q b b') where
  reps_off : (l : ℕ) (zs : List Page) → heads q zs ≡ 0 → All (PageRep n sh b c l) zs → All (PageRep n sh b' c l) zs
  reps_off l zs e =
      all-along _ _ zs (λ p i r. let d = off q (firsts zs) e p.first i in
      rep-kept sound (o.body p.first d) (o.listing p.first d) (o.same p.first ∙ r.holds.run) r)

  parked-off : (zs : List Page) → heads q zs ≡ 0 → All (Parked n sh b c) zs → All (Parked n sh b' c) zs
  parked-off zs e =
      all-along _ _ zs (λ p i r. let d = off q (firsts zs) e p.first i in
      parked-kept sound (o.body p.first d) (o.listing p.first d) (o.same p.first ∙ r.rep.holds.run) r)

abbrev OwnedBy : List ℕ → ℕ → ℕ → Type 0
OwnedBy b c x = get b (page owner x) ≡ suc c

-- ---- a page gets other blocks
pub data_body : (q : ℕ) {b b' : List ℕ} → Changes (is_data q) b b' → (x : ℕ) → (x ≡ q → ⊥) → Body x b b'
data_body q h x d = let e = ne_eqb x q d in changes-body h x e e e (λ i. e) (λ i. e) (λ j. refl)

pub data_ties : (q : ℕ) {b b' : List ℕ} → Changes (is_data q) b b' → (x : ℕ) → Ties x b b'
data_ties q h x = record { fore = h.kept (page next x) refl refl; back = h.kept (page prev x) refl refl }

same-one : (q x y : ℕ) → x ≡ y → ◌≡◌ {A = ℕ} (cond (eqb q x) 1 0) (cond (eqb q y) 1 0)
same-one q x y e = rw e

module _ {n : ℕ} {b : List ℕ} {c : ℕ} {sh : Shape} (s : Setting n b c sh) (p p' : Page) (same : p'.first ≡ p.first)
    {b' : List ℕ} (h : Changes (is_data p.first) b b') where
  data_off : Off n sh c p.first b b'
  data_off = record {
    same = whole-kept (data_owns p.first h) n sh c;
    body = data_body p.first h;
    listing = λ x d. h.kept (page listed x) refl refl;
  }

  pub at-partial : {k : Park} (ss ts : List Page) {xs ys fs : List Page} → ClassRep n b c sh k (ss ++ p ∷ ts) xs ys fs → PageRep n sh b' c 1 p'
      → ClassRep n b' c sh k (ss ++ p' ∷ ts) xs ys fs
  at-partial {k} ss ts {xs} {ys} {fs} r new =
      let q = p.first in
      let hc = s.row in
      let o = data_off in
      let ties = data_ties q h in
      let u = r.runs q in
      let z = digit-le (whole n b sh c q) in
      let y = heads-at q ss p ts in
      let i = itself q in
      let split = (all-at (PageRep n sh b c 1) ss p ts).0 r.partials in
      record {
        chain = rw (firsts_at ss p p' ts same) (chain-kept (h.kept (class partial c) hc refl) (λ x j. ties x) r.chain);
        store = stack-kept (h.kept (class (top k) c) hc refl) (h.kept (class (stored k) c) hc refl) (λ x j. (ties x).fore) r.store;
        beside = stack-kept (h.kept (class (top (other k)) c) hc refl) (h.kept (class (stored (other k)) c) hc refl) (λ x j. (ties x).fore) r.beside;
        partials = (all-at (PageRep n sh b' c 1) ss p' ts).1 (new, reps_off s.shape o 1 (ss ++ ts) (omega arith) split.1);
        parked = parked-off s.shape o xs (omega arith) r.parked;
        parkeds = parked-off s.shape o ys (omega arith) r.parkeds;
        fulls = reps_off s.shape o 0 fs (omega arith) r.fulls;
        runs = λ x. rw (o.same x) (omega (arith, r.runs x, heads-at x ss p ts, heads-at x ss p' ts, same-one x p'.first p.first same));
      }

  pub at-full : {k : Park} {ps xs ys fs : List Page} → ClassRep n b c sh k ps xs ys (p ∷ fs) → PageRep n sh b' c 0 p' → ClassRep n b' c sh k ps xs ys (p' ∷ fs)
  at-full {k} {ps} {xs} {ys} {fs} r new =
      let q = p.first in
      let o = data_off in
      class-now s.shape r fs (p' ∷ []) (λ f. h.kept (class f c) s.row refl)
      (λ x m. let d : x ≡ p.first → ⊥ = λ e. twice r x e m in
      record {
        body = o.body x d;
        listing = o.listing x d;
        ties = data_ties q h x;
        run = o.same x ∙ listed-whole s.shape r x (omega arith);
      })
      r.fulls.1 (new, tt) (λ x. rw (o.same x) (omega (arith, r.runs x, same-one x p'.first p.first same)))
    where
      twice : ClassRep n b c sh k ps xs ys (p ∷ fs) → (x : ℕ) → x ≡ p.first → 1 ≤ heads x ps + heads x xs + heads x ys + heads x fs → ⊥
      twice r x e m =
          let i : ◌≡◌ {A = ℕ} (cond (eqb x p.first) 1 0) 1 = rw (eq-eqb x p.first e) in
          omega (arith, r.runs x, digit-le (whole n b sh c x))

-- ---- a page moves between the partial list, or a store, and none
listing-set : (n : ℕ) (b b₀ : List ℕ) (q v : ℕ) → leb (words n) (length b₀) ≡ true → ltb q n ≡ true → length (put b (page listed q) v) ≡ length b₀
    → get (put b (page listed q) v) (page listed q) ≡ v
listing-set n b b₀ q v hb hq e = get_put_same n b (page listed q) v (long_kept n b₀ b (sym (length-put b (page listed q) v) ∙ e) hb) hq refl

-- a store's page: the step leaves every page's blocks alone
park_run-off : (n : ℕ) {b : List ℕ} {c : ℕ} (sh : Shape) (k : Park) (q : ℕ) {b' : List ℕ} → Changes (is_park_run k c q) b b' → Off n sh c q b b'
park_run-off n {b} {c} sh k q h = record {
  same = whole-kept (park_run-owns k c q h) n sh c;
  body = λ z d. park_run-body k c q h z;
  listing = λ z d. park_run-listing k c q h z;
}

module _ {n : ℕ} {b : List ℕ} {c : ℕ} {sh : Shape} (s : Setting n b c sh) {k : Park} where
  pub from-partial : (ss : List Page) (p : Page) (ts : List Page) {xs ys fs : List Page} → ClassRep n b c sh k (ss ++ p ∷ ts) xs ys fs
      → ClassRep n (unlink b c p.first) c sh k (ss ++ ts) xs ys (p ∷ fs)
  unfolding unlink
  from-partial ss p ts {xs} {ys} {fs} r =
      let q = p.first in
      let b' = unlink b c q in
      let x = get b (page next q) in
      let y = get b (page prev q) in
      let ch : Chain n b c (firsts ss ++ p.first ∷ firsts ts) = rw (firsts-append ss (p ∷ ts)) at r.chain in
      let pa = part b 0 (get b (class partial c)) (firsts ss) q (firsts ts) 0 ch.links in
      let h = unlink-changes (is_link c q x y) b c q s.row (link_lets c q x y) in
      let o : Off n sh c p.first b (unlink b c p.first) = record {
        same = whole-kept (link-owns c q x y h) n sh c;
        body = λ z d. link-body c q x y h z;
        listing = link-listing c q x y h;
      } in
      let u = r.runs q in
      let f = digit-le (whole n b sh c q) in
      let j = heads-at q ss p ts in
      let i = itself q in
      let split = (all-at (PageRep n sh b c 1) ss p ts).0 r.partials in
      let hq = whole_in n b s.shape c q split.0.holds.run in
      let beyond : (z : ℕ) → heads z (ss ++ p ∷ ts) ≡ 0 → get (unlink b c p.first) (page next z) ≡ get b (page next z)
      = λ z e. let away = not_in z (firsts ss ++ p.first ∷ firsts ts) (ap (count z) (sym (firsts-append ss (p ∷ ts))) ∙ e) in
      link-next c q x y h z (λ d. apart z d e)
      (λ d. away (in_left z (firsts ss) (p.first ∷ firsts ts) (last-page (firsts ss) z (sym pa.before ∙ d)))) in
      record {
        chain = rw (firsts-append ss ts) (chain-unlinked n b s.long c q s.row (firsts ss) (firsts ts) ch);
        store = stack-kept (link-top c q x y h s.row k) (link-stored c q x y h s.row k)
            (λ z m. beyond z (omega (arith, r.runs z, digit-le (whole n b sh c z), in_count z (firsts xs) m))) r.store;
        beside = stack-kept (link-top c q x y h s.row (other k)) (link-stored c q x y h s.row (other k))
            (λ z m. beyond z (omega (arith, r.runs z, digit-le (whole n b sh c z), in_count z (firsts ys) m))) r.beside;
        partials = reps_off s.shape o 1 (ss ++ ts) (omega arith) split.1;
        parked = parked-off s.shape o xs (omega arith) r.parked;
        parkeds = parked-off s.shape o ys (omega arith) r.parkeds;
        fulls = (
          rep-moved s.shape (link-body c q x y h q) (listing-set n (unlinked b c q) b q 0 s.long hq h.long) (o.same q ∙ split.0.holds.run) split.0,
          reps_off s.shape o 0 fs (omega arith) r.fulls,
        );
        runs = λ z. rw (o.same z) (omega (arith, r.runs z, heads-at z ss p ts));
      }
    where
      apart : (z : ℕ) → z ≡ p.first → heads z (ss ++ p ∷ ts) ≡ 0 → ⊥
      apart z d e =
          let i : ◌≡◌ {A = ℕ} (cond (eqb z p.first) 1 0) 1 = rw (eq-eqb z p.first d) in
          omega (arith, heads-at z ss p ts)

  pub to-partial : {p : Page} {ps xs ys fs : List Page} → ClassRep n b c sh k ps xs ys (p ∷ fs) → ClassRep n (link b c p.first) c sh k (p ∷ ps) xs ys fs
  unfolding link
  to-partial {p} {ps} {xs} {ys} {fs} r =
      let q = p.first in
      let x = get b (class partial c) in
      let h = link-changes (is_link c q x 0) b c q s.row (link_lets c q x 0) in
      let o : Off n sh c p.first b (link b c p.first) = record {
        same = whole-kept (link-owns c q x 0 h) n sh c;
        body = λ z d. link-body c q x 0 h z;
        listing = link-listing c q x 0 h;
      } in
      let u = r.runs q in
      let f = digit-le (whole n b sh c q) in
      let i = itself q in
      let hq = whole_in n b s.shape c q r.fulls.0.holds.run in
      let none : heads p.first ps ≡ 0 = omega arith in
      let beyond : (z : ℕ) (zs : List Page) → heads p.first zs ≡ 0 → In z (firsts zs) → get (link b c p.first) (page next z) ≡ get b (page next z)
      = λ z zs e m. link-next c q x 0 h z (off q (firsts zs) e z m) (λ d. omega arith) in
      record {
        chain = chain-linked n b s.long c q s.row hq (firsts ps) (not_in q (firsts ps) none) r.chain;
        store = stack-kept (link-top c q x 0 h s.row k) (link-stored c q x 0 h s.row k) (λ z m. beyond z xs (omega arith) m) r.store;
        beside = stack-kept (link-top c q x 0 h s.row (other k)) (link-stored c q x 0 h s.row (other k)) (λ z m. beyond z ys (omega arith) m) r.beside;
        partials = (
          rep-moved s.shape (link-body c q x 0 h q) (listing-set n (linked b c q) b q 1 s.long hq h.long) (o.same q ∙ r.fulls.0.holds.run) r.fulls.0,
          reps_off s.shape o 1 ps none r.partials,
        );
        parked = parked-off s.shape o xs (omega arith) r.parked;
        parkeds = parked-off s.shape o ys (omega arith) r.parkeds;
        fulls = reps_off s.shape o 0 fs (omega arith) r.fulls.1;
        runs = λ z. rw (o.same z) (omega (arith, r.runs z));
      }

  pub from-store : {p : Page} {ps xs ys fs : List Page} → ClassRep n b c sh k ps (p ∷ xs) ys fs → ClassRep n (pop_store b c k p.first) c sh k ps xs ys (p ∷ fs)
  from-store {p} {ps} {xs} {ys} {fs} r =
      let q = p.first in
      let h = pop_store-changes (is_park_run k c q) b c q s.row k (park_run_lets k c q) in
      let o = park_run-off n sh k q h in
      let u = r.runs q in
      let f = digit-le (whole n b sh c q) in
      let i = itself q in
      let run = r.parked.0.rep.holds.run in
      record {
        chain = chain-kept (park_run-partial k c q h s.row) (λ z m. park_run-ties k c q h z (off q (firsts ps) (omega arith) z m)) r.chain;
        store = stack-popped n b s.long c q s.row (whole_in n b s.shape c q run) k (firsts xs) r.store;
        beside = stack-kept (park_run-top k c q h s.row) (park_run-stored k c q h s.row) (λ z m. (park_run-ties k c q h z (off q (firsts ys) (omega arith) z m)).fore) r.beside;
        partials = reps_off s.shape o 1 ps (omega arith) r.partials;
        parked = parked-off s.shape o xs (omega arith) r.parked.1;
        parkeds = parked-off s.shape o ys (omega arith) r.parkeds;
        fulls = (
          rep-kept s.shape (park_run-body k c q h q) (park_run-listing k c q h q) (o.same q ∙ run) r.parked.0.rep,
          reps_off s.shape o 0 fs (omega arith) r.fulls,
        );
        runs = λ z. rw (o.same z) (omega (arith, r.runs z));
      }

  pub to-store : {p : Page} {ps xs ys fs : List Page} → Parked n sh b c p → length (firsts xs) < 256 → ClassRep n b c sh k ps xs ys (p ∷ fs)
      → ClassRep n (park_run b c k p.first) c sh k ps (p ∷ xs) ys fs
  to-store {p} {ps} {xs} {ys} {fs} idle few r =
      let q = p.first in
      let h = park_run-changes (is_park_run k c q) b c q s.row k (park_run_lets k c q) in
      let o = park_run-off n sh k q h in
      let u = r.runs q in
      let f = digit-le (whole n b sh c q) in
      let i = itself q in
      let run = idle.rep.holds.run in
      record {
        chain = chain-kept (park_run-partial k c q h s.row) (λ z m. park_run-ties k c q h z (off q (firsts ps) (omega arith) z m)) r.chain;
        store = stack-parked n b s.long c q s.row (whole_in n b s.shape c q run) k (firsts xs) (not_in q (firsts xs) (omega arith)) few r.store;
        beside = stack-kept (park_run-top k c q h s.row) (park_run-stored k c q h s.row) (λ z m. (park_run-ties k c q h z (off q (firsts ys) (omega arith) z m)).fore) r.beside;
        partials = reps_off s.shape o 1 ps (omega arith) r.partials;
        parked = (parked-kept s.shape (park_run-body k c q h q) (park_run-listing k c q h q) (o.same q ∙ run) idle, parked-off s.shape o xs (omega arith) r.parked);
        parkeds = parked-off s.shape o ys (omega arith) r.parkeds;
        fulls = reps_off s.shape o 0 fs (omega arith) r.fulls.1;
        runs = λ z. rw (o.same z) (omega (arith, r.runs z));
      }

  -- ---- these moves change the class's words only
  mine : (x : ℕ) {ps xs ys fs : List Page} → ClassRep n b c sh k ps xs ys fs → 1 ≤ heads x ps + heads x xs + heads x ys + heads x fs → OwnedBy b c x
  mine x r e = each-listed s.shape (OwnedBy b c) (whole-owner n b s.shape c) x r e

  pub unlink-only : (ss : List Page) (p : Page) (ts : List Page) {xs ys fs : List Page} → ClassRep n b c sh k (ss ++ p ∷ ts) xs ys fs → Only c b (unlink b c p.first)
  unlink-only ss p ts r =
      let q = p.first in
      let i = itself q in
      let l = each-beside s.shape (OwnedBy b c) (whole-owner n b s.shape c) ss p ts r in
      unlink-changes (of_class b c) b c q s.row
      (class_lets b c q (get b (page next q)) (get b (page prev q)) (mine q r (omega (arith, heads-at q ss p ts))) l.0 l.1)

  pub link-only : {p : Page} {ps xs ys fs : List Page} → ClassRep n b c sh k ps xs ys (p ∷ fs) → Only c b (link b c p.first)
  link-only {p} r =
      let q = p.first in
      let i = itself q in
      link-changes (of_class b c) b c q s.row
      (class_lets b c q (get b (class partial c)) 0 (mine q r (omega arith)) (each-head s.shape (OwnedBy b c) (whole-owner n b s.shape c) r) (λ z e. absurd (omega arith)))

  pub pop_store-only : {p : Page} {ps xs ys fs : List Page} → ClassRep n b c sh k ps (p ∷ xs) ys fs → Only c b (pop_store b c k p.first)
  pop_store-only {p} r =
      let i = itself p.first in
      pop_store-changes (of_class b c) b c p.first s.row k (class_lets_park_run b k c p.first (mine p.first r (omega arith)))

  pub park_run-only : {p : Page} {ps xs ys fs : List Page} → ClassRep n b c sh k ps xs ys (p ∷ fs) → Only c b (park_run b c k p.first)
  park_run-only {p} r =
      let i = itself p.first in
      park_run-changes (of_class b c) b c p.first s.row k (class_lets_park_run b k c p.first (mine p.first r (omega arith)))
