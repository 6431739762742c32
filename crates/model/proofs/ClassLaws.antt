-- What a class's call does to its pages and blocks: no page comes but the run given, none goes but those given back,
-- what a take answers goes out, and what a release names, no more and no less, comes in.
use Rattle.facts.proofs.Prelude.{ℕ, ◌+◌, ◌≤◌, arith, Bool, true, false, cond, not, ◌&&◌, false≢true, List, [], ◌∷◌, map, Option, none, some, ◌≡◌, refl, eqb, leb}
use Rattle.facts.proofs.Prelude.{take-append_seam, eqb-true, eq-eqb, leb-true, leb-false, not-false, every, All, total, elem, distinct, count, by_cases, and_right}
use Rattle.rules.specs.declared.Limits.{Limits}
use Rattle.model.specs.Cover.{covers, covers_all, covers_run}
use Rattle.words.specs.Word.{page_of}
use Rattle.classes.specs.declared.Shape.{Shape}
use Rattle.classes.specs.way.Sound.{Sound}
use Rattle.model.specs.declared.Destination.{Destination}
use Rattle.model.specs.declared.Destination.TheVariants.{ToEmpty, ToCold, ToArena}
use Rattle.model.specs.Calls.{Request, take, give_back, give_chunks, fate, fates, refused, blocks_of, released_by}
use Rattle.model.specs.Page.{Page, is_medium, carve, is_out, none_out, reused, returned, retire}
use Rattle.model.specs.Class.{Class, lists, Cold, Result, Ask, done, asks, serve, refuse, Filled, fill_from_list, served, thawed, on_run, take_from}
use Rattle.model.specs.Release.{Site, locate, Settled, destination_in, park, park_in, set_retired, settle, out_here, repeats, on_page, site_of_first, release_list}
use Rattle.model.specs.Chunks.{starts_at, blocks_on, chunk_fits, chunked_on, chunked, settle_chunk, settle_chunks, release_chunks, answer}
use Rattle.model.specs.Ledger.{runs_with}
use Rattle.model.proofs.Counts.{every-count, filter-le, filter_passes, filter-keeps, each-once, distinct-count, total-append}
use Rattle.model.proofs.Pages.{all_append, out_of, on, out-le, is-out, out-is, GoodPage, EmptyPage, carve-empty, carve-on, reused-empty, reused-on, thawed-empty, thawed-on, Fills, fills, return_good, return_moves, none-out_of, retire-empty, return_on, retire-on}
use Rattle.model.proofs.Sites.{outs, out_count, out_from, out_at, Once, GoodClass, SiteLaw, SiteLaws, locate-law, Tells, locate-tells, out_once, out_first}

-- does a cold run have page x
abbrev pub on_cold : Shape → ℕ → Cold → ℕ
on_cold sh x c = covers sh.pages c.first x

-- a call's result against the class before, the run given and the words released
pub record Moves (sh : Shape) (s : Class) (g : Option ℕ) (lost : List ℕ) (r : Result) : Type 0 where
  pub good : GoodClass sh r.class
  pub pages : (x : ℕ) → runs_with sh x r.class + covers_all sh.pages r.gives x ≡ runs_with sh x s + covers_run sh.pages g x
  pub out : (w : ℕ) → count w lost ≡ 0 → out_count sh w s + count w (blocks_of r.answer) ≡ out_count sh w r.class
  pub quiet : (w : ℕ) → 1 ≤ count w lost → count w (blocks_of r.answer) ≡ 0
  pub back : (w : ℕ) → 1 ≤ count w lost → out_count sh w r.class ≡ 0

pub data Lawful (sh : Shape) (s : Class) (a : Request) : Ask → Type 0 where
  lawful-done : {r : Result} → Moves sh s none (released_by a r.answer) r → Lawful sh s a (done r)
  lawful-asks : {k : Option ℕ → Result} → ((g : Option ℕ) → Moves sh s g (released_by a (k g).answer) (k g)) → Lawful sh s a (asks sh.pages k)

module _ (sh : Shape) (s : Class) (good : GoodClass sh s) where
  lawful-cond : (a : Request) (b : Bool) (x y : Ask) → (b ≡ true → Lawful sh s a x) → (b ≡ false → Lawful sh s a y) → Lawful sh s a (cond b x y)
  lawful-cond a true x y p q = p refl
  lawful-cond a false x y p q = q refl

  refuse-moves : (n : ℕ) → Moves sh s none [] (record { class = s; answer = refused n; gives = [] })
  refuse-moves n = record { good = good; pages = λ x. omega arith; out = λ w z. omega arith; quiet = λ w z. omega arith; back = λ w z. absurd (omega arith) }

  lawful-refuse : (a : Request) (n : ℕ) → Lawful sh s a (refuse s n)
  lawful-refuse a n = lawful-done (refuse-moves n)

module _ (sh : Shape) (ok : Sound sh) (lim : Limits) where
  -- takes: what is served from pages ps, with the others es, cs, fs
  served-moves : (s : Class) (g : Option ℕ) (l : List ℕ) (ps es : List Page) (cs : List Cold) (fs : List Page) (f : Filled)
      → Fills sh ok ps f → All (EmptyPage sh) es → All (GoodPage sh) fs
      → ((x : ℕ) → total (on sh x) ps + total (on sh x) es + total (on_cold sh x) cs + total (on sh x) fs ≡ runs_with sh x s + covers_run sh.pages g x)
      → ((w : ℕ) → out_count sh w s ≡ total (out_of sh w) ps + total (out_of sh w) fs)
      → Moves sh s g [] (served l f es cs fs)
  unfolding served
  served-moves s g l ps es cs fs f r ge gf hc ho = record {
    good = record { partial = r.partial; empty = ge; full = all_append (GoodPage sh) f.full fs r.full gf };
    pages = λ x. rw total-append (omega (arith, hc x, r.pages x));
    out = λ w z. rw (total-append, take-append_seam) (omega (arith, ho w, r.out w));
    quiet = λ w z. absurd (omega arith);
    back = λ w z. absurd (omega arith);
  }

  -- a take from one page p that had no block out, with the rest of the class beside it
  one-moves : (s : Class) (g : Option ℕ) (l : List ℕ) (n : ℕ) (p : Page) (es : List Page) (cs : List Cold) (fs : List Page)
      → EmptyPage sh p → All (EmptyPage sh) es → All (GoodPage sh) fs
      → ((x : ℕ) → on sh x p + total (on sh x) es + total (on_cold sh x) cs + total (on sh x) fs ≡ runs_with sh x s + covers_run sh.pages g x)
      → ((w : ℕ) → out_count sh w s ≡ total (out_of sh w) fs)
      → Moves sh s g [] (served l (fill_from_list sh n (p ∷ [])) es cs fs)
  one-moves s g l n p es cs fs gp ge gf hc ho =
      served-moves s g l (p ∷ []) es cs fs (fill_from_list sh n (p ∷ [])) (fills sh ok n (p ∷ []) (gp.good, tt)) ge gf (λ x. omega (arith, hc x)) (λ w. omega (arith, ho w, gp.none_out_lem w))

  run-moves : (h : ℕ) (l : List ℕ) (fs : List Page) → All (GoodPage sh) fs → (g : Option ℕ) → Moves sh (lists [] [] [] fs) g (released_by (take h l) (on_run sh l fs g).answer) (on_run sh l fs g)
  unfolding on_run served
  run-moves h l fs gf none = record { good = record { partial = tt; empty = tt; full = gf }; pages = λ x. omega arith; out = λ w z. omega arith; quiet = λ w z. omega arith; back = λ w z. absurd (omega arith) }
  run-moves h l fs gf (some q) =
      one-moves (lists [] [] [] fs) (some q) l sh.batch (carve sh q true) [] [] fs (carve-empty sh ok (is_medium sh) q true) tt gf
      (λ x. omega (arith, carve-on sh ok (is_medium sh) q x true)) (λ w. omega arith)

  cold-moves : (l : List ℕ) (c : Cold) (cs : List Cold) (fs : List Page) → All (GoodPage sh) fs → Moves sh (lists [] [] (c ∷ cs) fs) none [] (serve (take_from sh l [] [] (c ∷ cs) fs) none)
  unfolding take_from
  cold-moves l c cs fs gf = one-moves (lists [] [] (c ∷ cs) fs) none l sh.batch (thawed sh c) [] _ fs (thawed-empty sh ok c) tt gf (λ x. omega (arith, thawed-on sh ok x c)) (λ w. omega arith)

  take-lawful : (h : ℕ) (l : List ℕ) (ps es : List Page) (cs : List Cold) (fs : List Page) → GoodClass sh (lists ps es cs fs) → Lawful sh (lists ps es cs fs) (take h l) (take_from sh l ps es cs fs)
  unfolding take_from served
  take-lawful h l (p ∷ ps) es cs fs good =
      lawful-done (served-moves (lists (p ∷ ps) es cs fs) none l (p ∷ ps) es cs fs (fill_from_list sh sh.batch (p ∷ ps)) (fills sh ok sh.batch (p ∷ ps) good.partial) good.empty good.full
      (λ x. omega arith) (λ w. omega arith))
  take-lawful h l [] (e ∷ es) cs fs good =
      lawful-done (one-moves (lists [] (e ∷ es) cs fs) none l sh.batch (reused sh e) es cs fs (reused-empty sh ok e good.empty.0) good.empty.1 good.full
      (λ x. omega (arith, reused-on sh ok x e)) (λ w. omega arith))
  take-lawful h l [] [] (c ∷ cs) fs good =
      lawful-done (cold-moves l c cs fs good.full)
  take-lawful h l [] [] [] fs good = lawful-asks (run-moves h l fs good.full)

  -- what comes of a release of the words ws to the page whose run begins at `first`; of a page with no block out that is parked
  record SettleLaw (s : Class) (first : ℕ) (ws : List ℕ) (b : Settled) : Type 0 where
    good : GoodClass sh b.class
    pages : (z : ℕ) → runs_with sh z b.class + covers_all sh.pages b.gives z ≡ runs_with sh z s
    out : (w : ℕ) → out_count sh w b.class + count w ws ≡ out_count sh w s
    out-at : (q w : ℕ) → out_at sh q w b.class + cond (eqb first q) (count w ws) 0 ≡ out_at sh q w s

  record ParkLaw (s : Class) (p : Page) (b : Settled) : Type 0 where
    good : GoodClass sh b.class
    pages : (z : ℕ) → runs_with sh z b.class + covers_all sh.pages b.gives z ≡ on sh z p + runs_with sh z s
    out : (f : Page → ℕ) → outs f b.class ≡ outs f s

  module _ (h : ℕ) (s : Class) (p : Page) (gs : GoodClass sh s) (gp : EmptyPage sh p) where
    park_in_lem : (t : Destination) → ParkLaw s p (park_in sh h s p t)
    park_in_lem ToEmpty = record { good = record { partial = gs.partial; empty = (gp, gs.empty); full = gs.full }; pages = λ z. omega arith; out = λ f. omega arith }
    park_in_lem ToCold = record { good = record { partial = gs.partial; empty = gs.empty; full = gs.full }; pages = λ z. omega arith; out = λ f. omega arith }
    park_in_lem ToArena = record { good = record { partial = gs.partial; empty = gs.empty; full = gs.full }; pages = λ z. omega arith; out = λ f. omega arith }

    park-law : ParkLaw s p (park sh lim h s p)
    unfolding park
    park-law = park_in_lem (destination_in sh lim s)

  module _ (h : ℕ) (s : Class) (ws : List ℕ) (x : Site) (law : SiteLaw sh s x) (once : (w : ℕ) → count w ws ≤ 1) (outs : (w : ℕ) → 1 ≤ count w ws → is_out sh w x.page ≡ true) where
    back-good : GoodPage sh (returned ws x.page)
    back-good = return_good sh ok ws x.page law.page once outs

    back-moves : (w : ℕ) → out_of sh w (returned ws x.page) + count w ws ≡ out_of sh w x.page
    back-moves = return_moves sh ok ws x.page law.page once outs

    -- on the pages that begin at q
    abbrev gone : ℕ → ℕ → ℕ
    gone q w = cond (starts_at q x.page) (count w ws) 0

    back_at : (q w : ℕ) → out_from sh q w (returned ws x.page) + gone q w ≡ out_from sh q w x.page
    unfolding returned
    back_at q w = by_cases (starts_at q x.page) (λ e. rw e (back-moves w)) (λ e. rw e)

    none-at : none_out sh (returned ws x.page) ≡ true → (q w : ℕ) → gone q w ≡ out_from sh q w x.page
    none-at e q w = by_cases (starts_at q x.page) (λ d. rw d (omega (arith, none-out_of sh ok w (returned ws x.page) e, back-moves w))) (λ d. rw d)

    parked : (p : Page) → ((z : ℕ) → on sh z p ≡ on sh z x.page) → EmptyPage sh p → none_out sh (returned ws x.page) ≡ true → SettleLaw s x.page.first ws (park sh lim h x.without p)
    parked p same gp e =
        let k = park-law h x.without p law.rest gp in
        record {
          good = k.good;
          pages = λ z. omega (arith, k.pages z, same z, law.pages-rest z);
          out = λ w. omega (arith, k.out (out_of sh w), law.out-rest (out_of sh w), none-out_of sh ok w (returned ws x.page) e, back-moves w);
          out-at = λ q w. omega (arith, k.out (out_from sh q w), law.out-rest (out_from sh q w), none-at e q w);
        }

    retired-law : (b : Settled) → SettleLaw s x.page.first ws b → SettleLaw s x.page.first ws (set_retired b)
    retired-law b k = record { good = k.good; pages = k.pages; out = k.out; out-at = k.out-at }

    leave : (retires : Bool) → none_out sh (returned ws x.page) ≡ true
        → SettleLaw s x.page.first ws (cond retires (set_retired (park sh lim h x.without (retire x.page))) (park sh lim h x.without (returned ws x.page)))
    leave true e = retired-law _ (parked (retire x.page) (λ z. retire-on sh z x.page) (retire-empty sh ok x.page) e)
    leave false e = parked (returned ws x.page) (λ z. return_on sh z ws x.page) (record { good = back-good; none_out_lem = λ w. none-out_of sh ok w (returned ws x.page) e }) e

    settle-law : (retires : Bool) → SettleLaw s x.page.first ws (settle sh lim h retires ws x)
    unfolding settle
    settle-law retires =
        by_cases (none_out sh (returned ws x.page))
        (λ e. rw e (leave retires e))
        (λ e. rw e (record {
          good = law.put (returned ws x.page) back-good;
          pages = λ z. omega (arith, law.pages-put (returned ws x.page) z, law.pages-rest z, return_on sh z ws x.page);
          out = λ w. omega (arith, law.out-put (returned ws x.page) (out_of sh w), law.out-rest (out_of sh w), back-moves w);
          out-at = λ q w. omega (arith, law.out-put (returned ws x.page) (out_from sh q w), law.out-rest (out_from sh q w), back_at q w);
        }))

  -- a release by list
  settled-moves : (s : Class) (q : ℕ) (ws : List ℕ) (b : Settled) → GoodClass sh s → Once sh s → SettleLaw s q ws b → Moves sh s none ws (record { class = b.class; answer = fate b.fate; gives = b.gives })
  settled-moves s q ws b good one k = record {
    good = k.good;
    pages = λ z. omega (arith, k.pages z);
    out = λ w z. omega (arith, k.out w);
    quiet = λ w z. refl;
    back = λ w z. omega (arith, k.out w, out_once sh ok s good one w);
  }

  module _ (h : ℕ) (s : Class) (ws : List ℕ) (good : GoodClass sh s) (one : Once sh s) (d : distinct ws ≡ true) where
    settle-lawful : (x : Site) → SiteLaw sh s x → every (λ w. is_out sh w x.page) ws ≡ true
        → (let b = settle sh lim h false ws x in Lawful sh s (give_back h ws) (done (record { class = b.class; answer = fate b.fate; gives = b.gives })))
    settle-lawful x law e =
        lawful-done (settled-moves s x.page.first ws (settle sh lim h false ws x) good one (settle-law h s ws x law (λ w. distinct-count w ws d) (λ w. every-count (λ v. is_out sh v x.page) w ws e) false))

    page-lawful : (o : Option Site) → SiteLaws sh s o → Lawful sh s (give_back h ws) (on_page sh lim h s ws o)
    unfolding on_page
    page-lawful none law = lawful-refuse sh s good (give_back h ws) 10
    page-lawful (some x) law = search (lawful-cond sh s good, lawful-refuse sh s good, settle-lawful x law)

  -- a release by chunks of the pages qs: none of its words is out on them afterwards, nor elsewhere if it was not
  record ChunkLaw (s : Class) (ws qs : List ℕ) (t : Class) (gives : List ℕ) : Type 0 where
    good : GoodClass sh t
    pages : (z : ℕ) → runs_with sh z t + covers_all sh.pages gives z ≡ runs_with sh z s
    out : (w : ℕ) → count w ws ≡ 0 → out_count sh w t ≡ out_count sh w s
    less : (q w : ℕ) → out_at sh q w t ≤ out_at sh q w s
    elsewhere : (q w : ℕ) → out_count sh w t + out_at sh q w s ≤ out_count sh w s + out_at sh q w t
    back : (q w : ℕ) → elem q qs ≡ true → 1 ≤ count w ws → out_at sh q w t ≡ 0

  -- a chunk's blocks are out on its page, and are the list's
  blocks-out : (ws : List ℕ) (p : Page) (w : ℕ) → 1 ≤ count w (blocks_on sh ws p) → is_out sh w p ≡ true
  unfolding blocks_on
  blocks-out ws p w h = filter_passes _ w ws h

  blocks-le : (ws : List ℕ) (p : Page) (w : ℕ) → count w (blocks_on sh ws p) ≤ count w ws
  unfolding blocks_on
  blocks-le ws p w = filter-le _ w ws

  blocks-all : (ws : List ℕ) (p : Page) (w : ℕ) → is_out sh w p ≡ true → count w (blocks_on sh ws p) ≡ count w ws
  unfolding blocks_on
  blocks-all ws p w e = filter-keeps (λ v. is_out sh v p) w ws e

  only : (r q : ℕ) → elem r (q ∷ []) ≡ true → r ≡ q
  only r q e = by_cases (eqb r q) (λ b. eqb-true r q b) (λ b. absurd (false≢true (rw b at e)))

  cond-le : (b : Bool) (n : ℕ) → cond b n 0 ≤ n
  cond-le true n = omega arith
  cond-le false n = omega arith

  module _ (h : ℕ) (ws : List ℕ) (d : distinct ws ≡ true) where
    module _ (s : Class) (good : GoodClass sh s) (one : Once sh s) (q : ℕ) where
      chunk_back : (x : Site) (b : Settled) → SiteLaw sh s x → starts_at q x.page ≡ true → SettleLaw s x.page.first (blocks_on sh ws x.page) b
          → (w : ℕ) → 1 ≤ count w ws → out_at sh q w b.class ≡ 0
      chunk_back x b law e k w n =
          let o = out_first sh ok s x law one q w e in
          let m : out_at sh q w b.class + count w (blocks_on sh ws x.page) ≡ out_at sh q w s = rw e at (k.out-at q w) in
          by_cases (leb 1 (out_of sh w x.page))
          (λ u. omega (arith, out-le sh ok w x.page, blocks-all ws x.page w (out-is sh ok w x.page (leb-true 1 (out_of sh w x.page) u))))
          (λ u. omega (arith, leb-false 1 (out_of sh w x.page) u))

      chunk-law : (o : Option Site) → SiteLaws sh s o → Tells (starts_at q) s o → ChunkLaw s ws (q ∷ []) (settle_chunk sh lim h s ws o).class (settle_chunk sh lim h s ws o).gives
      unfolding settle_chunk
      chunk-law none law tells = record {
        good = good;
        pages = λ z. omega arith;
        out = λ w z. refl;
        less = λ r w. omega arith;
        elsewhere = λ r w. omega arith;
        back = λ r w e n. rw (only r q e) (tells (out_of sh w));
      }
      chunk-law (some x) law tells =
          let k = settle-law h s (blocks_on sh ws x.page) x law (λ w. omega (arith, blocks-le ws x.page w, distinct-count w ws d)) (blocks-out ws x.page) true in
          record {
            good = k.good;
            pages = k.pages;
            out = λ w z. omega (arith, k.out w, blocks-le ws x.page w);
            less = λ r w. omega (arith, k.out-at r w);
            elsewhere = λ r w. omega (arith, k.out w, k.out-at r w, cond-le (starts_at r x.page) (count w (blocks_on sh ws x.page)));
            back = λ r w e n. rw (only r q e) (chunk_back x _ law tells k w n);
          }

    chunks-law : (s : Class) (gs : List ℕ) → GoodClass sh s → Once sh s → ChunkLaw s ws (map page_of gs) (settle_chunks sh lim h ws s gs).class (settle_chunks sh lim h ws s gs).gives
    unfolding settle_chunks
    chunks-law s [] good one = record {
      good = good;
      pages = λ z. omega arith;
      out = λ w z. refl;
      less = λ q w. omega arith;
      elsewhere = λ q w. omega arith;
      back = λ q w e n. absurd (false≢true e);
    }
    chunks-law s (g ∷ gs) good one =
        let t = starts_at (page_of g) in
        let k = chunk-law s good one (page_of g) (locate t s) (locate-law sh s good t) (locate-tells t s) in
        let r = chunks-law (settle_chunk sh lim h s ws (locate t s)).class gs k.good (λ z. omega (arith, k.pages z, one z)) in
        record {
          good = r.good;
          pages = λ z. rw total-append (omega (arith, k.pages z, r.pages z));
          out = λ w z. omega (arith, k.out w z, r.out w z);
          less = λ q w. omega (arith, k.less q w, r.less q w);
          elsewhere = λ q w. omega (arith, k.elsewhere q w, r.elsewhere q w);
          back = λ q w e n.
              by_cases (eqb q (page_of g))
              (λ b. omega (arith, r.less q w, k.back q w (rw b) n))
              (λ b. r.back q w (rw b at e) n);
        }

  -- number 11's "a page missing": each word is out on the page of a chunk
  record OnChunk (s : Class) (gs : List ℕ) (w : ℕ) : Type 0 where
    page : ℕ
    listed : elem page (map page_of gs) ≡ true
    out : 1 ≤ out_at sh page w s

  on-chunk : (s : Class) → GoodClass sh s → (gs : List ℕ) (w : ℕ) → chunked sh s gs w ≡ true → OnChunk s gs w
  unfolding chunked
  on-chunk s good gs w e = go (locate (is_out sh w) s) (locate-law sh s good (is_out sh w)) (locate-tells (is_out sh w) s) e
    where
      go : (o : Option Site) → SiteLaws sh s o → Tells (is_out sh w) s o → chunked_on gs o ≡ true → OnChunk s gs w
      go none law tells e = absurd (false≢true e)
      go (some x) law tells e =
          let same : cond (starts_at x.page.first x.page) (out_of sh w x.page) 0 ≡ out_of sh w x.page = rw (eq-eqb x.page.first x.page.first refl) in
          record { page = x.page.first; listed = e; out = omega (arith, law.out-rest (out_from sh x.page.first w), is-out sh ok w x.page tells) }

  chunks-moves : (s : Class) (ws gs l : List ℕ) (t : Class) (gives : List ℕ) → GoodClass sh s → Once sh s → every (chunked sh s gs) ws ≡ true → ChunkLaw s ws (map page_of gs) t gives
      → Moves sh s none ws (record { class = t; answer = fates l; gives = gives })
  chunks-moves s ws gs l t gives good one e k = record {
    good = k.good;
    pages = λ z. omega (arith, k.pages z);
    out = λ w z. omega (arith, k.out w z);
    quiet = λ w z. refl;
    back = λ w z.
        let c = on-chunk s good gs w (every-count (chunked sh s gs) w ws e z) in
        omega (arith, out_once sh ok s good one w, k.elsewhere c.page w, k.back c.page w c.listed z);
  }

  second : (a b : Bool) → not (a && b) ≡ false → b ≡ true
  second a b e = and_right a b (not-false (a && b) e)

  first-law : (s : Class) (ws : List ℕ) → GoodClass sh s → SiteLaws sh s (site_of_first sh s ws)
  first-law s [] good = tt
  first-law s (w ∷ ws) good = locate-law sh s good (is_out sh w)

  module _ (s : Class) (good : GoodClass sh s) (one : Once sh s) (h : ℕ) (ws : List ℕ) (single : repeats sh s ws ≡ false) (out : not (every (out_here sh s) ws) ≡ false) where
    once : distinct ws ≡ true
    unfolding repeats
    once = each-once (out_here sh s) ws single (not-false (every (out_here sh s) ws) out)

    list_lawful : Lawful sh s (give_back h ws) (on_page sh lim h s ws (site_of_first sh s ws))
    list_lawful = page-lawful h s ws good one once (site_of_first sh s ws) (first-law s ws good)

    chunks-lawful : (gs fs l : List ℕ) → not (distinct (map page_of gs) && (every (chunk_fits sh s ws) gs && every (chunked sh s gs) ws)) ≡ false
        → Lawful sh s (give_chunks h ws gs fs) (done (record { class = (settle_chunks sh lim h ws s gs).class; answer = fates l; gives = (settle_chunks sh lim h ws s gs).gives }))
    chunks-lawful gs fs l placed =
        let every_one = and_right (every (chunk_fits sh s ws) gs) (every (chunked sh s gs) ws) (second (distinct (map page_of gs)) (every (chunk_fits sh s ws) gs && every (chunked sh s gs) ws) placed) in
        lawful-done (chunks-moves s ws gs l (settle_chunks sh lim h ws s gs).class (settle_chunks sh lim h ws s gs).gives good one every_one (chunks-law h ws once s gs good one))

  -- every request of a class is lawful
  pub answer-lawful : (s : Class) → GoodClass sh s → Once sh s → (a : Request) → Lawful sh s a (answer sh lim s a)
  unfolding answer release_list release_chunks
  answer-lawful s good one (take h l) = search (lawful-cond sh s good, lawful-refuse sh s good, take-lawful h l s.partial s.empty s.cold s.full good)
  answer-lawful s good one (give_back h ws) = search (lawful-cond sh s good, lawful-refuse sh s good, list_lawful s good one h ws)
  answer-lawful s good one (give_chunks h ws gs fs) = search (lawful-cond sh s good, lawful-refuse sh s good, chunks-lawful s good one h ws) depth 10
