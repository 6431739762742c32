-- A group release is refused exactly as the history and the lists' words tell.
--     groups-are       number 11's test of the groups on a class's pages is that of the words
--     chunks-passed    one that is not refused passed each test and answers the fates
--     chunks-return    it is not refused exactly if its lists are `ChunksOut`
use Rattle.facts.proofs.Prelude.{ℕ, ◌<◌, arith, Bool, true, false, cond, not, ◌&&◌, ◌||◌, false≢true, List, [], ◌∷◌, ◌++◌, map, ◌↔◌, inl, inr, Option}
use Rattle.facts.proofs.Prelude.{none, some, ◌≡◌, refl, sym, ap, ◌∙◌, eqb, ltb, length, drop, eq-eqb, eqb-true, eqb-false, not-false, ltb-false}
use Rattle.facts.proofs.Prelude.{le-ltb, lt-ltb, is_nil, filter, every, is_some, elem, distinct, by_cases, and_left, and_right, nor_left, nor_right}
use Rattle.words.specs.Host.{host_max, bad_host}
use Rattle.words.specs.Word.{chunk_kind, count_of, page_of}
use Rattle.classes.specs.declared.Shape.{Shape}
use Rattle.classes.specs.Shape.{small_shape, shape_of, class_count}
use Rattle.classes.proofs.Shapes.{shape-sound}
use Rattle.rules.specs.Rules.{rules_of}
use Rattle.rules.specs.declared.Limits.{Limits}
use Rattle.model.specs.Calls as Calls
use Rattle.model.specs.Calls.{Call, Named, names, is_refused}
use Rattle.model.specs.Page.{is_out}
use Rattle.model.specs.Class.{Class, Ask, done, serve, refuse}
use Rattle.model.specs.Release.{Site, locate, of_kind, out_here}
use Rattle.model.specs.Chunks.{chunks_max, starts_at, blocks_on, fits_on, chunk_fits, chunked_on, chunked, settle_chunks, release_chunks, answer}
use Rattle.model.specs.History.{Event, heap_after}
use Rattle.model.specs.Entries.{AllOut}
use Rattle.model.proofs.Pages.{out_of, is-out}
use Rattle.model.proofs.Sites.{SiteLaw, SiteLaws, Tells, out_from, locate-law, locate-tells}
use Rattle.pages.specs.Stack.{page_at}
use Rattle.refinement.proofs.OutTests.{once-here}
use Rattle.demands.specs.Run.{Opens, next, observed}
use Rattle.demands.specs.Returns.{Twice, Plain, ChunksOut, count_fits, groups_fit}
use Rattle.demands.proofs.Places.{page_of_lem, ReachedClass, Lies, lies, lies-on, same-page}
use Rattle.demands.proofs.Returns.{elem-first, elem-later, elem-every, Release, passed, passed-blocks, LastTest, ReleaseLaw, release-law, class-after}

-- ---- lists
every-is : (t u : ℕ → Bool) (ws : List ℕ) → ((w : ℕ) → elem w ws ≡ true → t w ≡ u w) → every t ws ≡ every u ws
every-is t u [] f = refl
every-is t u (w ∷ ws) f = rw (f w (elem-first w ws), every-is t u ws (λ v m. f v (elem-later w v ws m)))

filter-is : (t u : ℕ → Bool) (ws : List ℕ) → ((w : ℕ) → elem w ws ≡ true → t w ≡ u w) → filter t ws ≡ filter u ws
filter-is t u [] f = refl
filter-is t u (w ∷ ws) f = rw (f w (elem-first w ws), filter-is t u ws (λ v m. f v (elem-later w v ws m)))

pub filter_none : (t : ℕ → Bool) (ws : List ℕ) → ((w : ℕ) → elem w ws ≡ true → t w ≡ false) → filter t ws ≡ []
filter_none t [] f = refl
filter_none t (w ∷ ws) f = rw (f w (elem-first w ws), filter_none t ws (λ v m. f v (elem-later w v ws m)))

-- ---- number 11, on a class whose runs are single pages and a list of blocks that are out in it
abbrev chunks_fit : Shape → Class → List ℕ → List ℕ → Bool
chunks_fit sh s ws gs = distinct (map page_of gs) && (every (chunk_fits sh s ws) gs && every (chunked sh s gs) ws)

module _ {c : ℕ} {s : Class} (k : ReachedClass c s) (paged : (shape_of c).pages ≡ 1) (ws : List ℕ) (out : every (out_here (shape_of c) s) ws ≡ true) where
  abbrev sh : Shape
  sh = shape_of c

  lie : (w : ℕ) → elem w ws ≡ true → Lies c s w
  lie w m = lies k w (elem-every (out_here sh s) ws out w m)

  lie-page : {w : ℕ} (y : Lies c s w) → page_at w ≡ y.site.page.first
  lie-page {w} y = page_of_lem sh (shape-sound c) y.site.page.first w (k.low y.site y.law) (lies-on y) paged

  -- a block is out on the page where the words say that it is
  out-at : (x : Site) → SiteLaw sh s x → (q : ℕ) → x.page.first ≡ q → (w : ℕ) → elem w ws ≡ true → is_out sh w x.page ≡ eqb (page_at w) q
  out-at x law q f w m =
      by_cases (eqb (page_at w) q)
      (λ e. rw e (same-page k (lie w m) x law (f ∙ sym (eqb-true (page_at w) q e) ∙ lie-page (lie w m))))
      (λ e. rw e (by_cases (is_out sh w x.page) (λ t. absurd (eqb-false (page_at w) q e (lie-page (record { site = x; law = law; out = t }) ∙ f))) (λ t. t)))

  -- where the class has no page, the list has no block
  none-at : (q : ℕ) → Tells (starts_at q) s none → (w : ℕ) → elem w ws ≡ true → eqb (page_at w) q ≡ false
  none-at q t w m =
      let y = lie w m in
      by_cases (eqb (page_at w) q)
      (λ e. let f : out_from sh q w y.site.page ≡ out_of sh w y.site.page = rw (eq-eqb y.site.page.first q (sym (lie-page y) ∙ eqb-true (page_at w) q e)) in
      absurd (omega (arith, t (out_of sh w), f, y.law.out-rest (out_from sh q w), is-out sh (shape-sound c) w y.site.page y.out)))
      (λ e. e)

  fits_on_lem : (g : ℕ) (o : Option Site) → SiteLaws sh s o → Tells (starts_at (page_of g)) s o → fits_on sh ws g o ≡ count_fits ws g
  unfolding blocks_on
  fits_on_lem g none l t = rw (filter_none (λ w. eqb (page_at w) (page_of g)) ws (none-at (page_of g) t)) (by_cases (eqb (count_of g) 0) (λ e. rw e) (λ e. rw e))
  fits_on_lem g (some x) l t = rw (filter-is (λ w. is_out sh w x.page) (λ w. eqb (page_at w) (page_of g)) ws (out-at x l (page_of g) (eqb-true x.page.first (page_of g) t)))

  fits-is : (g : ℕ) → chunk_fits sh s ws g ≡ count_fits ws g
  unfolding chunk_fits
  fits-is g = fits_on_lem g (locate (starts_at (page_of g)) s) (locate-law sh s k.good (starts_at (page_of g))) (locate-tells (starts_at (page_of g)) s)

  chunked-on : (gs : List ℕ) (w : ℕ) (o : Option Site) → SiteLaws sh s o → Tells (is_out sh w) s o → is_some o ≡ true → chunked_on gs o ≡ elem (page_at w) (map page_of gs)
  chunked-on gs w none l t e = absurd (false≢true e)
  chunked-on gs w (some x) l t e = ap (λ q. elem q (map page_of gs)) (sym (lie-page (record { site = x; law = l; out = t })))

  chunked-is : (gs : List ℕ) (w : ℕ) → elem w ws ≡ true → chunked sh s gs w ≡ elem (page_at w) (map page_of gs)
  unfolding chunked out_here
  chunked-is gs w m = chunked-on gs w (locate (is_out sh w) s) (locate-law sh s k.good (is_out sh w)) (locate-tells (is_out sh w) s) (elem-every (out_here sh s) ws out w m)

  groups-are : (gs : List ℕ) → chunks_fit sh s ws gs ≡ groups_fit ws gs
  groups-are gs = rw (every-is (chunk_fits sh s ws) (count_fits ws) gs (λ g m. fits-is g), every-is (chunked sh s gs) (λ w. elem (page_at w) (map page_of gs)) ws (chunked-is gs))

-- ---- a group release
module _ (c : ℕ) (lim : Limits) (s : Class) (h : ℕ) (ws gs fs : List ℕ) (g : Option ℕ) where
  abbrev settled : Ask
  settled = let b = settle_chunks (shape_of c) lim h ws s gs in done (record { class = b.class; answer = Calls.fates (b.fates ++ drop (length gs) fs); gives = b.gives })

  abbrev rest : Ask
  rest = cond (not (chunks_fit (shape_of c) s ws gs)) (refuse s 11) settled

  chunks-release : Release (shape_of c) s h ws (Plain c h ws gs fs) (answer (shape_of c) lim s (Calls.give_chunks h ws gs fs)) rest g
  unfolding answer release_chunks
  chunks-release = record {
    host = λ a. le-ltb host_max h a.host;
    before = λ t u.
        let kind = every (of_kind (shape_of c).kind) ws in
        let chunk = every (of_kind chunk_kind) gs in
        let p7 = passed s 7 (is_nil ws || is_nil gs) _ g u in
        let p8 = passed s 8 (ltb chunks_max (length gs) || ltb (length fs) (length gs)) _ g p7.1 in
        let p9 = passed s 9 (not (kind && chunk)) _ g p8.1 in
        let kinds = not-false (kind && chunk) p9.0 in
        record {
          host = ltb-false host_max h t;
          listed = nor_left (is_nil ws) (is_nil gs) p7.0;
          grouped = nor_right (is_nil ws) (is_nil gs) p7.0;
          few = ltb-false chunks_max (length gs) (nor_left (ltb chunks_max (length gs)) (ltb (length fs) (length gs)) p8.0);
          room = ltb-false (length fs) (length gs) (nor_right (ltb chunks_max (length gs)) (ltb (length fs) (length gs)) p8.0);
          kinds = and_left kind chunk kinds;
          group_kinds = and_right kind chunk kinds;
        };
    blocks = λ a. rw (a.listed, a.grouped, le-ltb chunks_max (length gs) a.few, le-ltb (length fs) (length gs) a.room, a.kinds, a.group_kinds);
  }

  groups-fit : (t : Bool) → chunks_fit (shape_of c) s ws gs ≡ t → LastTest (t ≡ true) (serve rest g).answer
  groups-fit true e = inl (refl, rw e)
  groups-fit false e = inr (false≢true, rw e)

  -- one that is not refused: its tests and its answer
  pub record ChunksPassed : Type 0 where
    pub single : distinct ws ≡ true
    pub pages : distinct (map page_of gs) ≡ true
    pub counts : every (chunk_fits (shape_of c) s ws) gs ≡ true
    pub answer : (serve (answer (shape_of c) lim s (Calls.give_chunks h ws gs fs)) g).answer ≡ (serve settled g).answer

  pub chunks-passed : bad_host h ≡ false → is_refused (serve (answer (shape_of c) lim s (Calls.give_chunks h ws gs fs)) g).answer ≡ false → ChunksPassed
  chunks-passed t u =
      let p = passed-blocks chunks-release t u in
      let p11 = passed s 11 (not (chunks_fit (shape_of c) s ws gs)) _ g p.unrefused in
      let fit = not-false (chunks_fit (shape_of c) s ws gs) p11.0 in
      let pages = distinct (map page_of gs) in
      let counts = every (chunk_fits (shape_of c) s ws) gs in
      let present = every (chunked (shape_of c) s gs) ws in
      record {
        single = once-here (shape_of c) s ws p.single p.out;
        pages = and_left pages (counts && present) fit;
        counts = and_left counts present (and_right pages (counts && present) fit);
        answer = p.answer ∙ rw fit;
      }

-- ---- on the words
pub small-paged : (c : ℕ) → c < 64 → (shape_of c).pages ≡ 1
unfolding shape_of small_shape
small-paged c l = rw (lt-ltb c class_count (omega arith), lt-ltb c 64 l)

module _ (n : ℕ) (rows b : List ℕ) (o : Opens n rows b) (xs : List Call) (c h : ℕ) (ws gs fs : List ℕ) (small : c < 64) where
  abbrev vs : List Event
  vs = observed n rows b xs

  abbrev x : Call
  x = Calls.release_bin_chunks c h ws gs fs

  law : ReleaseLaw n rows b o xs x c ws (Plain c h ws gs fs) (groups_fit ws gs ≡ true)
  law =
      let H = heap_after n (rules_of rows) xs in
      let d : Named = record { class = c; request = Calls.give_chunks h ws gs fs } in
      let named : names x ≡ some d = rw (lt-ltb c 64 small) in
      release-law n rows b o xs x named (chunks-release c (H.rules c) (H.classes c) h ws gs fs _)
      (λ a out. groups-fit c (H.rules c) (H.classes c) h ws gs fs _ (groups_fit ws gs) (groups-are (class-after n rows b o xs c) (small-paged c small) ws out gs))

  pub chunks_return : ((next n rows b xs x).code ≡ 0) ↔ ChunksOut vs c h ws gs fs
  chunks_return =
      let pages = distinct (map page_of gs) in
      let counts = every (count_fits ws) gs in
      let present = every (λ w. elem (page_at w) (map page_of gs)) ws in (
        λ z. let p = law.returns.0 z in
            let u = and_right pages (counts && present) p.2 in
            record { plain = p.0; out = p.1; pages = and_left pages (counts && present) p.2; counts = and_left counts present u; present = and_right counts present u },
        λ p. law.returns.1 (p.plain, p.out, rw (p.pages, p.counts, p.present)),
      )

  pub chunks-repeated : Plain c h ws gs fs → Twice vs c ws → (next n rows b xs x).answer ≡ Calls.refused 15
  chunks-repeated = law.repeated

  pub chunks-not_out : Plain c h ws gs fs → (Twice vs c ws → ⊥) → (AllOut vs c ws → ⊥) → (next n rows b xs x).answer ≡ Calls.refused 10
  chunks-not_out = law.not_out

  pub chunks-not_grouped : Plain c h ws gs fs → AllOut vs c ws → groups_fit ws gs ≡ false → (next n rows b xs x).answer ≡ Calls.refused 11
  chunks-not_grouped p a e = law.unfit p a (λ t. false≢true (sym e ∙ t))
