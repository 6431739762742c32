-- A class's lists against the history: every partial page has a block out, and the cold runs are those that the history tells. One request, then
-- every history.
use Rattle.facts.proofs.Prelude.{ℕ, suc, ◌+◌, ◌-◌, ◌%◌, ◌≤◌, arith, Bool, true, false, cond, not, ◌&&◌, ◌||◌, true≢false, false≢true, List, [], ◌∷◌, ◌++◌, map, inl, inr, Option}
use Rattle.facts.proofs.Prelude.{none, some, ◌≡◌, refl, sym, ap, ◌∙◌, subst, eqb, leb, ltb, length, drop, take-append_seam, eqb-true, eqb-false, eq-eqb, ne_eqb, leb-true, ltb-true}
use Rattle.facts.proofs.Prelude.{not-true, not-false, is_nil, every, any, All, total, elem, distinct, count, by_cases, and_left, and_right, and_no, or_left, or_right, eqb-turned}
use lib.ListN as ListN
use Rattle.words.specs.Word.{page_of}
use Rattle.classes.specs.declared.Shape.{Shape}
use Rattle.classes.specs.Shape.{shape_of, small_shape, medium_shape, number_of}
use Rattle.classes.specs.way.Sound.{Sound}
use Rattle.classes.proofs.Shapes.{shape-sound}
use Rattle.rules.specs.declared.Limits.{Limits}
use Rattle.rules.specs.Rules.{Rules}
use Rattle.model.specs.declared.Destination.{Destination}
use Rattle.model.specs.declared.Destination.TheVariants.{ToEmpty, ToCold, ToArena}
use Rattle.model.specs.Calls as Calls
use Rattle.model.specs.Calls.{Call, Answer, Named, names, Request, Way, way_of, host_of, blocks_of, released_by}
use Rattle.model.specs.Cover.{covers}
use Rattle.model.specs.Page.{Page, is_medium, is_out, carve_as, carve, has_more, none_out, pop, returned, retire, reused}
use Rattle.model.specs.Class.{Class, lists, Cold, Result, Ask, done, asks, serve, refuse, stays, after, fill_from_list, served, thawed, on_run, take_from}
use Rattle.model.specs.Release.{Found, Site, Settled, find, in_partial, in_full, or_else, map_found, locate, park_in, destination_in, park, set_retired, settle, on_page, site_of_first, release_list}
use Rattle.model.specs.Chunks.{starts_at, blocks_on, fits_on, chunk_fits, chunked, chunked_on, settle_chunk, AllSettled, settle_chunks, release_chunks, answer}
use Rattle.model.specs.Heap.{Heap, new_heap, offer, finish, interact, class_call, direct_call, route, step}
use Rattle.model.specs.History.{Event, event_of, events_from, events, heap_from, heap_after}
use Rattle.model.specs.Entries.{Entry}
use Rattle.model.specs.Yields.{Listed}
use Rattle.model.specs.Offered.{blocks_at, has_block, went_cold, went_back, fated_in, fated, releases_to}
use Rattle.model.specs.Sources.{chills, draws, behind, releases_after, follows}
use Rattle.model.proofs.Counts.{count-append, elem-count, count_in_lem, every-count}
use Rattle.model.proofs.Runs.{covers_in}
use Rattle.model.proofs.Find.{all-at, FoundLaws, found-law}
use Rattle.model.proofs.Pages.{on, begins_on, GoodPage, pop-moves, none-out_of, carve-empty, reused-empty, reused-on, thawed-empty, thawed-on, fills}
use Rattle.model.proofs.Sites.{Once, GoodClass, SiteLaw, SiteLaws, locate-law, Tells, locate-tells}
use Rattle.model.proofs.Update.{update_same}
use Rattle.model.proofs.Ways.{Goes, is_turned, is-straight, is-class, goes}
use Rattle.model.proofs.Alone.{direct-keeps}
use Rattle.model.proofs.Fates.{chunks-fated}
use Rattle.model.proofs.HeapLaws.{Inv, at-class, step-inv, start}
use Rattle.model.proofs.Yields as Yields
use Rattle.model.proofs.Yields.{More, AllListed, route-listed}
use Rattle.model.proofs.Since.{since_next, since_from}
use Rattle.model.proofs.RunsObserved.{each, and_yes, any_passing, passing_any, block_of, block_on, weigh-once, total-le}
use Rattle.model.proofs.Weights.{weigh, SiteWeight, SiteWeights, site_weight, settle-weighs}
use Rattle.model.proofs.Newest.{firsts, cold_firsts, firsts-count, cold-count, Ordered, ordered_map, next_at, ordered_beside, ordered_top, next_all, all-observed}
use Rattle.model.proofs.RunRequests.{unfated}
use Rattle.model.proofs.RunHistories.{Tellings, AllOnce, inv-once, refused-request}
use Rattle.model.proofs.TakesObserved.{pop-block, some_block, came}
use Rattle.model.proofs.Offers.{outs-on}

covered : (q z : ℕ) → covers 1 q z ≡ 1 → q ≡ z
covered q z e =
    by_cases (leb q z)
    (λ a. by_cases (ltb z (q + 1))
    (λ b. omega (arith, leb-true q z a, ltb-true z (q + 1) b))
    (λ b. let k : 0 ≡ 1 = rw (a, b) at e in absurd (omega arith)))
    (λ a. let k : 0 ≡ 1 = rw a at e in absurd (omega arith))

-- a small class's run is one page
pub one-page : (c : ℕ) → is_medium (shape_of c) ≡ false → (shape_of c).pages ≡ 1
unfolding shape_of small_shape medium_shape
one-page c e = by_cases (ltb (number_of c) 64) (λ a. rw a) (λ a. absurd (true≢false (rw a at e)))

module _ (sh : Shape) where
  -- a run keeps its place, however it comes back
  pub carve-first : (q : ℕ) (v : Bool) → (carve sh q v).first ≡ q
  unfolding carve_as
  carve-first q v = go (is_medium sh)
    where
      go : (t : Bool) → (carve_as sh t q v).first ≡ q
      go true = refl
      go false = refl

  pub thawed-first : (c : Cold) → (thawed sh c).first ≡ c.first
  unfolding thawed
  thawed-first c = carve-first c.first _

  pub reused-first : (p : Page) → (reused sh p).first ≡ p.first
  unfolding reused
  reused-first p = go p.retired
    where
      go : (t : Bool) → (cond t (carve sh p.first false) p).first ≡ p.first
      go true = carve-first p.first false
      go false = refl

  -- a page with a block out
  abbrev pub Busy : Page → Type 0
  Busy p = none_out sh p ≡ false

  -- how many runs stand cold at q, as the fates tell it: a cold span counts as kept
  abbrev pub cold_one : ℕ
  cold_one = cond (is_medium sh) 0 1

  abbrev pub chilled : ℕ → List Cold → ℕ
  chilled q cs = total (λ (c : Cold). cond (eqb c.first q) cold_one 0) cs

  -- b tells the cold runs, o which of two runs was released to last
  pub record Stands (s : Class) (b : ℕ → Bool) (o : ℕ → ℕ → Bool) : Type 0 where
    pub busy : All Busy s.partial
    pub cold : (q : ℕ) → chilled q s.cold ≡ cond (b q) 1 0
    pub empties : is_medium sh ≡ false → Ordered o (firsts s.empty)
    pub colds : is_medium sh ≡ false → Ordered o (cold_firsts s.cold)

  abbrev pub cold_next : Request → Result → (ℕ → Bool) → ℕ → Bool
  cold_next a r b q = fated went_cold sh q a r.answer || (b q && not (has_block sh q (blocks_of r.answer)))

  abbrev pub later_next : Request → Result → (ℕ → ℕ → Bool) → ℕ → ℕ → Bool
  later_next a r o i j = releases_after sh i j a r.answer || (o i j && not (has_block sh j (released_by a r.answer)))

  pub record Kept (s : Class) (a : Request) (r : Result) : Type 0 where
    pub keep : Once sh r.class → (b : ℕ → Bool) (o : ℕ → ℕ → Bool) → Stands s b o → Stands r.class (cold_next a r b) (later_next a r o)

  pub data Keeps (s : Class) (a : Request) : Ask → Type 0 where
    keeps-done : {r : Result} → Kept s a r → Keeps s a (done r)
    keeps-asks : {n : ℕ} {k : Option ℕ → Result} → ((g : Option ℕ) → Kept s a (k g)) → Keeps s a (asks n k)

module _ (sh : Shape) (ok : Sound sh) (lim : Limits) (paged : is_medium sh ≡ false → sh.pages ≡ 1) where
  keeps-cond : (s : Class) (a : Request) (t : Bool) (x y : Ask) → (t ≡ true → Keeps sh s a x) → (t ≡ false → Keeps sh s a y) → Keeps sh s a (cond t x y)
  keeps-cond s a true x y f g = f refl
  keeps-cond s a false x y f g = g refl

  none-drawn : (q : ℕ) → has_block sh q [] ≡ false
  unfolding has_block
  none-drawn q = refl

  stays-later : (a : Request) (n i j : ℕ) (t : Bool) → t ≡ true → (releases_after sh i j a (Calls.refused n) || (t && not (has_block sh j []))) ≡ true
  stays-later a n i j t e = rw (e, none-drawn j) (or_right (releases_after sh i j a (Calls.refused n)) true refl)

  refuse-kept : (s : Class) (a : Request) (n : ℕ) → Kept sh s a (record { class = s; answer = Calls.refused n; gives = [] })
  refuse-kept s a n = record {
    keep = λ one b o k. record {
      busy = k.busy;
      cold = λ q. rw (unfated sh q went_cold a n, none-drawn q, and_yes (b q)) (k.cold q);
      empties = λ m. ordered_map o _ (firsts s.empty) (λ i j c e. stays-later a n i j (o i j) e) (k.empties m);
      colds = λ m. ordered_map o _ (cold_firsts s.cold) (λ i j c e. stays-later a n i j (o i j) e) (k.colds m);
    };
  }

  keeps-refuse : (s : Class) (a : Request) (n : ℕ) → Keeps sh s a (refuse s n)
  keeps-refuse s a n = keeps-done (refuse-kept s a n)

  -- ---- chilled runs are runs of the class
  one-le : cold_one sh ≤ 1
  one-le = by_cases (is_medium sh) (λ e. rw e (omega arith)) (λ e. rw e (omega arith))

  chilled-le : (q z : ℕ) → covers sh.pages q z ≡ 1 → (cs : List Cold) → chilled sh q cs ≤ total (λ (c : Cold). covers sh.pages c.first z) cs
  chilled-le q z e cs = total-le _ (λ (c : Cold). covers sh.pages c.first z) cs (λ c. le c)
    where
      le : (c : Cold) → cond (eqb c.first q) (cold_one sh) 0 ≤ covers sh.pages c.first z
      le c = by_cases (eqb c.first q) (λ a. rw a (omega (arith, one-le, ap (λ n. covers sh.pages n z) (eqb-true c.first q a)))) (λ a. rw a (omega arith))

  covers-own : (q : ℕ) → covers sh.pages q q ≡ 1
  covers-own q = covers_in sh.pages q q (omega arith) (omega (arith, ok.paged))

  chilled-once : (s : Class) → Once sh s → (q : ℕ) → chilled sh q s.cold ≤ 1
  chilled-once s one q = omega (arith, chilled-le q q (covers-own q) s.cold, one q)

  -- ---- takes
  pop-busy : (n : ℕ) (p : Page) → 1 ≤ n → GoodPage sh p → has_more sh p ≡ true → Busy sh (pop sh n p).page
  pop-busy n p h good more =
      let w = some_block sh ok lim (pop sh n p).blocks (Yields.pop-gives sh ok lim n p h more) in
      by_cases (none_out sh (pop sh n p).page)
      (λ e. absurd (omega (arith, pop-moves sh ok n p good w.0, w.1, none-out_of sh ok w.0 (pop sh n p).page e)))
      (λ e. e)

  fill_rest : (n : ℕ) (ps : List Page) → All (GoodPage sh) ps → All (More sh) ps → All (Busy sh) ps → All (Busy sh) (fill_from_list sh n ps).partial
  unfolding fill_from_list after
  fill_rest n [] good more k = tt
  fill_rest n (p ∷ ps) good more k =
      let ih = fill_rest (n - length (pop sh n p).blocks) ps good.1 more.1 k.1 in
      by_cases (eqb n 0)
      (λ e. rw e k)
      (λ e. let y = pop-busy n p (omega (arith, eqb-false n 0 e)) good.0 more.0 in
      rw e (by_cases (stays sh (pop sh n p).page) (λ b. rw b (y, ih)) (λ b. rw b ih)))

  fill_busy : (n : ℕ) (p : Page) (ps : List Page) → 1 ≤ n → All (GoodPage sh) (p ∷ ps) → All (More sh) (p ∷ ps) → All (Busy sh) ps → All (Busy sh) (fill_from_list sh n (p ∷ ps)).partial
  unfolding fill_from_list after
  fill_busy n p ps h good more k =
      let ih = fill_rest (n - length (pop sh n p).blocks) ps good.1 more.1 k in
      let y = pop-busy n p h good.0 more.0 in
      rw (ne_eqb n 0 (omega arith)) (by_cases (stays sh (pop sh n p).page) (λ b. rw b (y, ih)) (λ b. rw b ih))

  -- the blocks of a fill are none of a run beside its pages
  fill_apart : (n : ℕ) (ps : List Page) → All (GoodPage sh) ps → (q m : ℕ) → ((z : ℕ) → covers sh.pages q z ≡ 1 → m + total (on sh z) ps ≤ 1) → 1 ≤ m → has_block sh q (fill_from_list sh n ps).blocks ≡ false
  unfolding has_block
  fill_apart n ps good q m one h =
      let f = fill_from_list sh n ps in
      by_cases (any (λ w. elem w (blocks_at sh q)) f.blocks)
      (λ a. let p = any_passing (λ w. elem w (blocks_at sh q)) f.blocks a in
      let w = p.word in
      let z = begins_on sh ok w in
      let k = fills sh ok n ps good in
      absurd (omega (arith, elem-count w f.blocks p.member, k.out w, k.pages z, outs-on sh ok w f.partial k.partial, outs-on sh ok w f.full k.full, one z (block_on sh ok w q p.passes))))
      (λ a. a)

  -- and some are the first page's
  fill_drawn : (n : ℕ) (p : Page) (ps : List Page) → 1 ≤ n → GoodPage sh p → More sh p → has_block sh p.first (fill_from_list sh n (p ∷ ps)).blocks ≡ true
  unfolding has_block fill_from_list after
  fill_drawn n p ps h good more =
      let b = some_block sh ok lim (pop sh n p).blocks (Yields.pop-gives sh ok lim n p h more) in
      let f = fill_from_list sh (n - length (pop sh n p).blocks) ps in
      rw (ne_eqb n 0 (omega arith))
      (passing_any (λ v. elem v (blocks_at sh p.first)) (f.blocks ++ (pop sh n p).blocks) b.0
      (count_in_lem b.0 (f.blocks ++ (pop sh n p).blocks) (rw count-append (omega (arith, b.1))))
      (pop-block sh ok lim n p good b.0 b.1))

  untaken : (q h : ℕ) (l : List ℕ) (x : Answer) → fated went_cold sh q (Calls.take h l) x ≡ false
  unfolding fated
  untaken q h l x = refl

  abbrev filled : List Page → List ℕ
  filled ps = (fill_from_list sh sh.batch ps).blocks

  served-kept : (s : Class) (h : ℕ) (l : List ℕ) (p : Page) (ps es : List Page) (cs : List Cold) (fs : List Page) → All (GoodPage sh) (p ∷ ps) → All (More sh) (p ∷ ps) → (All (Busy sh) s.partial → All (Busy sh) ps)
      → ((b : Bool) (q : ℕ) → chilled sh q s.cold ≡ cond b 1 0 → chilled sh q cs ≡ cond (b && not (has_block sh q (filled (p ∷ ps)))) 1 0)
      → ((o : ℕ → ℕ → Bool) → Ordered o (firsts s.empty) → Ordered o (firsts es)) → ((o : ℕ → ℕ → Bool) → Ordered o (cold_firsts s.cold) → Ordered o (cold_firsts cs))
      → Kept sh s (Calls.take h l) (served l (fill_from_list sh sh.batch (p ∷ ps)) es cs fs)
  unfolding served
  served-kept s h l p ps es cs fs good more rest colds eo co = record {
    keep = λ one b o k. record {
      busy = fill_busy sh.batch p ps ok.gives good more (rest k.busy);
      cold = λ q. rw (untaken q h l (served l (fill_from_list sh sh.batch (p ∷ ps)) es cs fs).answer, came 0 lim l (fill_from_list sh sh.batch (p ∷ ps)) es cs fs) (colds (b q) q (k.cold q));
      empties = λ m. ordered_map o _ (firsts es) (λ i j n e. rw (e, none-drawn j)) (eo o (k.empties m));
      colds = λ m. ordered_map o _ (cold_firsts cs) (λ i j n e. rw (e, none-drawn j)) (co o (k.colds m));
    };
  }

  cold-stays : (ps : List Page) → All (GoodPage sh) ps → (cs : List Cold) → ((z : ℕ) → total (on sh z) ps + total (λ (c : Cold). covers sh.pages c.first z) cs ≤ 1)
      → (b : Bool) (q : ℕ) → chilled sh q cs ≡ cond b 1 0 → chilled sh q cs ≡ cond (b && not (has_block sh q (filled ps))) 1 0
  cold-stays ps good cs one true q e = rw (fill_apart sh.batch ps good q (chilled sh q cs) (λ z k. omega (arith, chilled-le q z k cs, one z)) (omega arith)) e
  cold-stays ps good cs one false q e = e

  cold-leaves : (c : Cold) (cs : List Cold) → ((z : ℕ) → covers sh.pages c.first z + total (λ (c : Cold). covers sh.pages c.first z) cs ≤ 1)
      → (b : Bool) (q : ℕ) → chilled sh q (c ∷ cs) ≡ cond b 1 0 → chilled sh q cs ≡ cond (b && not (has_block sh q (filled (thawed sh c ∷ [])))) 1 0
  cold-leaves c cs one b q e =
      let t = thawed sh c in
      let good = (thawed-empty sh ok c).good in
      by_cases (eqb c.first q)
      (λ a. let d : has_block sh q (filled (t ∷ [])) ≡ true = subst (λ n. has_block sh n (filled (t ∷ [])) ≡ true) (thawed-first sh c ∙ eqb-true c.first q a) (fill_drawn sh.batch t [] ok.gives good (Yields.thawed-more sh ok lim c)) in
      let z : chilled sh q cs ≡ 0 = omega (arith, chilled-le q q (covers-own q) cs, one q, covers-own q, ap (λ n. covers sh.pages n q) (eqb-true c.first q a)) in
      rw (d, and_no b) z)
      (λ a. let k : 0 + chilled sh q cs ≡ cond b 1 0 = rw a at e in
      cold-stays (t ∷ []) (good, tt) cs (λ z. omega (arith, one z, thawed-on sh ok z c)) b q (omega arith))

  -- with no run parked there is none to leave
  none-cold : (b x : Bool) → ◌≡◌ {A = ℕ} 0 (cond b 1 0) → ◌≡◌ {A = ℕ} 0 (cond (b && x) 1 0)
  none-cold true x e = absurd (omega arith)
  none-cold false x e = refl

  run-kept : (h : ℕ) (l : List ℕ) (fs : List Page) (g : Option ℕ) → Kept sh (lists [] [] [] fs) (Calls.take h l) (on_run sh l fs g)
  unfolding on_run
  run-kept h l fs none = record { keep = λ one b o k. record { busy = tt; cold = λ q. rw (untaken q h l (Calls.taken 0 l false)) (none-cold (b q) _ (k.cold q)); empties = λ m. tt; colds = λ m. tt } }
  run-kept h l fs (some r) = served-kept (lists [] [] [] fs) h l (carve sh r true) [] [] [] fs ((carve-empty sh ok (is_medium sh) r true).good, tt) (Yields.new-more sh ok lim r true, tt) (λ k. tt) (λ b q e. none-cold b _ e) (λ o k. tt) (λ o k. tt)

  take-keeps : (h : ℕ) (l : List ℕ) (ps es : List Page) (cs : List Cold) (fs : List Page) → GoodClass sh (lists ps es cs fs) → Once sh (lists ps es cs fs) → Listed sh (lists ps es cs fs)
      → Keeps sh (lists ps es cs fs) (Calls.take h l) (take_from sh l ps es cs fs)
  unfolding take_from
  take-keeps h l (p ∷ ps) es cs fs good one y =
      keeps-done (served-kept (lists (p ∷ ps) es cs fs) h l p ps es cs fs good.partial y.partial (λ k. k.1) (cold-stays (p ∷ ps) good.partial cs (λ z. omega (arith, one z))) (λ o k. k) (λ o k. k))
  take-keeps h l [] (e ∷ es) cs fs good one y =
      let g = (reused-empty sh ok e good.empty.0).good in
      keeps-done (served-kept (lists [] (e ∷ es) cs fs) h l (reused sh e) [] es cs fs (g, tt) (y.empty.0, tt) (λ k. tt) (cold-stays (reused sh e ∷ []) (g, tt) cs (λ z. omega (arith, one z, reused-on sh ok z e))) (λ o k. k.1) (λ o k. k))
  take-keeps h l [] [] (c ∷ cs) fs good one y =
      keeps-done (served-kept (lists [] [] (c ∷ cs) fs) h l (thawed sh c) [] [] cs fs ((thawed-empty sh ok c).good, tt) (Yields.thawed-more sh ok lim c, tt) (λ k. tt) (cold-leaves c cs (λ z. omega (arith, one z))) (λ o k. tt) (λ o k. k.1))
  take-keeps h l [] [] [] fs good one y = keeps-asks (run-kept h l fs)

  -- ---- a page with blocks out: the class without it, and with another in its stead
  record SiteBusy (s : Class) (x : Site) : Type 0 where
    rest : All (Busy sh) s.partial → All (Busy sh) x.without.partial
    put : (p : Page) → Busy sh p → All (Busy sh) s.partial → All (Busy sh) (x.with p).partial
    cold-rest : x.without.cold ≡ s.cold
    cold-put : (p : Page) → (x.with p).cold ≡ s.cold
    empty-rest : x.without.empty ≡ s.empty
    empty-put : (p : Page) → (x.with p).empty ≡ s.empty

  abbrev SitesBusy : Class → Option Site → Type 0
  SitesBusy s none = Unit {0}
  SitesBusy s (some x) = SiteBusy s x

  module _ (t : Page → Bool) (s : Class) where
    partial-busy : (o : Option Found) → FoundLaws t s.partial o → SitesBusy s (map_found (in_partial s) o)
    unfolding in_partial
    partial-busy none h = tt
    partial-busy (some f) h = record {
      rest = λ k. ((all-at (Busy sh) f.before f.page f.behind).0 (subst (All (Busy sh)) h.is k)).1;
      put = λ p y k. (all-at (Busy sh) f.before p f.behind).1 (y, ((all-at (Busy sh) f.before f.page f.behind).0 (subst (All (Busy sh)) h.is k)).1);
      cold-rest = refl;
      cold-put = λ p. refl;
      empty-rest = refl;
      empty-put = λ p. refl;
    }

    full-busy : (o : Option Found) → SitesBusy s (map_found (in_full s) o)
    unfolding in_full
    full-busy none = tt
    full-busy (some f) = record { rest = λ k. k; put = λ p y k. (y, k); cold-rest = refl; cold-put = λ p. refl; empty-rest = refl; empty-put = λ p. refl }

    either-busy : (x y : Option Site) → SitesBusy s x → SitesBusy s y → SitesBusy s (or_else x y)
    either-busy none y a b = b
    either-busy (some x) y a b = a

    site-busy : SitesBusy s (locate t s)
    unfolding locate
    site-busy = either-busy (map_found (in_partial s) (find t s.partial)) (map_found (in_full s) (find t s.full)) (partial-busy (find t s.partial) (found-law t s.partial)) (full-busy (find t s.full))

  -- ---- a release to one page
  abbrev one_if : Bool → ℕ
  one_if t = cond t 1 0

  record Settles (s : Class) (p : Page) (b : Settled) : Type 0 where
    busy : All (Busy sh) s.partial → All (Busy sh) b.class.partial
    cold : (q : ℕ) → chilled sh q b.class.cold ≡ chilled sh q s.cold + cond (starts_at q p) (one_if (went_cold b.fate)) 0
    span : is_medium sh ≡ true → went_cold b.fate ≡ false
    empties : count p.first (firsts s.empty) ≡ 0 → (o : ℕ → ℕ → Bool) → Ordered o (firsts s.empty) → Ordered (next_at p.first o) (firsts b.class.empty)
    colds : count p.first (cold_firsts s.cold) ≡ 0 → (o : ℕ → ℕ → Bool) → Ordered o (cold_firsts s.cold) → Ordered (next_at p.first o) (cold_firsts b.class.cold)

  no_more : (t : Bool) (n : ℕ) → n ≡ n + cond t 0 0
  no_more true n = omega arith
  no_more false n = omega arith

  again : (v : ℕ) → (4 + v) % 4 ≡ v % 4
  again v = omega arith

  module _ (h : ℕ) where
    park_in_lem : (s : Class) (p : Page) (t : Destination) → Settles s p (park_in sh h s p t)
    park_in_lem s p ToEmpty = record {
      busy = λ k. k;
      cold = λ q. no_more (starts_at q p) (chilled sh q s.cold);
      span = λ e. refl;
      empties = λ z o k. ordered_top p.first o (firsts s.empty) z k;
      colds = λ z o k. ordered_beside p.first o (cold_firsts s.cold) z k;
    }
    park_in_lem s p ToCold = record {
      busy = λ k. k;
      cold = λ q.
          let z : cond (starts_at q p) (cold_one sh) 0 ≡ cond (starts_at q p) (one_if (went_cold (park_in sh h s p ToCold).fate)) 0 =
          by_cases (is_medium sh) (λ e. rw e refl) (λ e. rw e refl) in
          omega (arith, z);
      span = λ e. rw e refl;
      empties = λ z o k. ordered_beside p.first o (firsts s.empty) z k;
      colds = λ z o k. ordered_top p.first o (cold_firsts s.cold) z k;
    }
    park_in_lem s p ToArena = record {
      busy = λ k. k;
      cold = λ q. no_more (starts_at q p) (chilled sh q s.cold);
      span = λ e. refl;
      empties = λ z o k. ordered_beside p.first o (firsts s.empty) z k;
      colds = λ z o k. ordered_beside p.first o (cold_firsts s.cold) z k;
    }

    parked : (s : Class) (p : Page) → Settles s p (park sh lim h s p)
    unfolding park
    parked s p = park_in_lem s p (destination_in sh lim s)

    retired_weighs : (s : Class) (p : Page) (b : Settled) → Settles s p b → Settles s p (set_retired b)
    retired_weighs s p b k = record { busy = k.busy; cold = λ q. rw (again b.fate) (k.cold q); span = λ e. rw (again b.fate) (k.span e); empties = k.empties; colds = k.colds }

    module _ (s : Class) (x : Site) (k : SiteBusy s x) where
      parked-at : (p : Page) → p.first ≡ x.page.first → Settles s x.page (park sh lim h x.without p)
      parked-at p same =
          let y = parked x.without p in
          record {
            busy = λ a. y.busy (k.rest a);
            cold = λ q. y.cold q ∙ rw (k.cold-rest, same);
            span = y.span;
            empties = λ z o i.
                let z' : count p.first (firsts x.without.empty) ≡ 0 = rw (same, k.empty-rest) z in
                let i' : Ordered o (firsts x.without.empty) = rw k.empty-rest i in
                subst (λ r. Ordered (next_at r o) (firsts (park sh lim h x.without p).class.empty)) same (y.empties z' o i');
            colds = λ z o i.
                let z' : count p.first (cold_firsts x.without.cold) ≡ 0 = rw (same, k.cold-rest) z in
                let i' : Ordered o (cold_firsts x.without.cold) = rw k.cold-rest i in
                subst (λ r. Ordered (next_at r o) (cold_firsts (park sh lim h x.without p).class.cold)) same (y.colds z' o i');
          }

      leaves : (retires : Bool) (ws : List ℕ) → Settles s x.page (cond retires (set_retired (park sh lim h x.without (retire x.page))) (park sh lim h x.without (returned ws x.page)))
      unfolding retire returned
      leaves true ws = retired_weighs s x.page _ (parked-at (retire x.page) refl)
      leaves false ws = parked-at (returned ws x.page) refl

      settles : (retires : Bool) (ws : List ℕ) → Settles s x.page (settle sh lim h retires ws x)
      unfolding settle
      settles retires ws =
          by_cases (none_out sh (returned ws x.page))
          (λ e. rw e (leaves retires ws))
          (λ e. rw e (record {
            busy = λ a. k.put (returned ws x.page) e a;
            cold = λ q. rw (k.cold-put (returned ws x.page)) (no_more (starts_at q x.page) (chilled sh q s.cold));
            span = λ d. refl;
            empties = λ z o i. rw (k.empty-put (returned ws x.page)) (ordered_beside x.page.first o (firsts s.empty) z i);
            colds = λ z o i. rw (k.cold-put (returned ws x.page)) (ordered_beside x.page.first o (cold_firsts s.cold) z i);
          }))

  -- what a release makes of the telling
  cold-observed : (n m : ℕ) (t b : Bool) → m ≤ 1 → n ≡ cond b 1 0 → (t ≡ true → 1 ≤ m) → (t ≡ false → m ≡ n) → n ≤ m → m ≡ cond (t || b) 1 0
  cold-observed n m true b l e f g k = omega (arith, f refl)
  cold-observed n m false b l e f g k = g refl ∙ e

  same-page : is_medium sh ≡ false → (w q r : ℕ) → elem w (blocks_at sh q) ≡ true → elem w (blocks_at sh r) ≡ true → q ≡ r
  same-page e w q r a b =
      let z = begins_on sh ok w in
      let x : covers 1 q z ≡ 1 = rw (paged e) at (block_on sh ok w q a) in
      let y : covers 1 r z ≡ 1 = rw (paged e) at (block_on sh ok w r b) in
      covered q z x ∙ sym (covered r z y)

  -- a page with blocks out is none of the parked ones
  record Fresh (s : Class) (x : Site) : Type 0 where
    empty : count x.page.first (firsts s.empty) ≡ 0
    cold : count x.page.first (cold_firsts s.cold) ≡ 0

  fresh : (s : Class) (x : Site) → ((q : ℕ) → weigh sh q each s ≤ 1) → SiteWeight sh x.page.first each s x → SiteBusy s x → Fresh s x
  fresh s x one weight k =
      let r = x.page.first in
      let y : weigh sh r each x.without + 1 ≡ weigh sh r each s = rw (eq-eqb r r refl) at weight.rest in
      record {
        empty = omega (arith, one r, firsts-count r s.empty, ap (total (λ p. cond (starts_at r p) 1 0)) k.empty-rest);
        cold = omega (arith, one r, cold-count r s.cold, ap (total (λ (c : Cold). cond (eqb c.first r) 1 0)) k.cold-rest);
      }

  -- a word that is out on a small class's page is of no other run
  out-page : is_medium sh ≡ false → (p : Page) → GoodPage sh p → (w q : ℕ) → is_out sh w p ≡ true → elem w (blocks_at sh q) ≡ true → p.first ≡ q
  out-page m p good w q o e = same-page m w p.first q (block_of sh ok w p good o) e

  module _ (s : Class) (good : GoodClass sh s) (single : Once sh s) where
    -- a list with blocks of one page: the run at q is that page's, or the list has none of it
    list-cold : (ws : List ℕ) (w : ℕ) → elem w ws ≡ true → (x : Site) → SiteLaw sh s x → every (λ v. is_out sh v x.page) ws ≡ true → (b : Settled) → Settles s x.page b → (q : ℕ) → Once sh b.class
        → (t : Bool) → chilled sh q s.cold ≡ cond t 1 0 → chilled sh q b.class.cold ≡ cond ((has_block sh q ws && (went_cold b.fate || false)) || (t && not (has_block sh q []))) 1 0
    unfolding has_block
    list-cold ws w m x law out b k q one t e =
        let n = chilled sh q s.cold in
        let y = k.cold q in
        let has = any (λ v. elem v (blocks_at sh q)) ws in
        rw (and_yes t)
        (cold-observed n (chilled sh q b.class.cold) (has && (went_cold b.fate || false)) t (chilled-once b.class one q) e
        (λ d. let a = and_left has (went_cold b.fate || false) d in
        let v = any_passing (λ v. elem v (blocks_at sh q)) ws a in
        let c : went_cold b.fate ≡ true = or_none (went_cold b.fate) (and_right has (went_cold b.fate || false) d) in
        let small : is_medium sh ≡ false = by_cases (is_medium sh) (λ i. absurd (true≢false (sym c ∙ k.span i))) (λ i. i) in
        let p = same-page small v.word x.page.first q (block_of sh ok v.word x.page law.page (every-count (λ u. is_out sh u x.page) v.word ws out (elem-count v.word ws v.member))) v.passes in
        let z : chilled sh q b.class.cold ≡ n + 1 = rw (eq-eqb x.page.first q p, c) at y in
        omega arith)
        (λ d. by_cases (starts_at q x.page)
        (λ a. let here : has ≡ true = passing_any (λ v. elem v (blocks_at sh q)) ws w m (rw (← eqb-true x.page.first q a) (block_of sh ok w x.page law.page (every-count (λ u. is_out sh u x.page) w ws out (elem-count w ws m)))) in
        let c : went_cold b.fate ≡ false = or_none_false (went_cold b.fate) (rw here at d) in
        let z : chilled sh q b.class.cold ≡ n + 0 = rw (a, c) at y in
        omega arith)
        (λ a. let z : chilled sh q b.class.cold ≡ n + 0 = rw a at y in omega arith))
        (omega arith))
      where
        or_none : (t : Bool) → (t || false) ≡ true → t ≡ true
        or_none true e = refl
        or_none false e = e

        or_none_false : (t : Bool) → (t || false) ≡ false → t ≡ false
        or_none_false true e = e
        or_none_false false e = refl

    list-later : is_medium sh ≡ false → (ws : List ℕ) (w : ℕ) → elem w ws ≡ true → (x : Site) → SiteLaw sh s x → every (λ v. is_out sh v x.page) ws ≡ true → (o : ℕ → ℕ → Bool) (i j : ℕ) → next_at x.page.first o i j ≡ true
        → (has_block sh i ws || (o i j && not (has_block sh j ws))) ≡ true
    unfolding has_block
    list-later m ws w l x law out o i j e =
        let r = x.page.first in
        let on-page : (v : ℕ) → elem v ws ≡ true → is_out sh v x.page ≡ true = λ v n. every-count (λ u. is_out sh u x.page) v ws out (elem-count v ws n) in
        by_cases (eqb i r)
        (λ a. or_left (any (λ v. elem v (blocks_at sh i)) ws) _ (passing_any (λ v. elem v (blocks_at sh i)) ws w l (rw (eqb-true i r a) (block_of sh ok w x.page law.page (on-page w l)))))
        (λ a. let y : (o i j && not (eqb j r)) ≡ true = rw a at e in
        let z : any (λ v. elem v (blocks_at sh j)) ws ≡ false =
        by_cases (any (λ v. elem v (blocks_at sh j)) ws)
        (λ b. let v = any_passing (λ v. elem v (blocks_at sh j)) ws b in
        absurd (eqb-false j r (not-true (eqb j r) (and_right (o i j) (not (eqb j r)) y)) (sym (out-page m x.page law.page v.word j (on-page v.word v.member) v.passes))))
        (λ b. b)
        in
        rw (and_left (o i j) (not (eqb j r)) y, z) (or_right (any (λ v. elem v (blocks_at sh i)) ws) true refl))

    page-keeps : (h w : ℕ) (ws : List ℕ) (o : Option Site) → SiteLaws sh s o → SitesBusy s o → ((q : ℕ) → SiteWeights sh q each s o) → Keeps sh s (Calls.give_back h (w ∷ ws)) (on_page sh lim h s (w ∷ ws) o)
    unfolding on_page fated
    page-keeps h w ws none law k weight = keeps-refuse s _ 10
    page-keeps h w ws (some x) law k weight =
        keeps-cond s _ (every (λ v. is_out sh v x.page) (w ∷ ws)) _ _
        (λ e. let b = settle sh lim h false (w ∷ ws) x in
        let y = settles h s x k false (w ∷ ws) in
        let new = fresh s x (λ q. weigh-once sh ok q s single) (weight x.page.first) k in
        let here : elem w (w ∷ ws) ≡ true = rw (eq-eqb w w refl) in
        keeps-done (record {
          keep = λ one t o i. record {
            busy = y.busy i.busy;
            cold = λ q. list-cold (w ∷ ws) w here x law e b y q one (t q) (i.cold q);
            empties = λ m. ordered_map (next_at x.page.first o) _ (firsts b.class.empty) (λ u v n. list-later m (w ∷ ws) w here x law e o u v) (y.empties new.empty o (i.empties m));
            colds = λ m. ordered_map (next_at x.page.first o) _ (cold_firsts b.class.cold) (λ u v n. list-later m (w ∷ ws) w here x law e o u v) (y.colds new.cold o (i.colds m));
          };
        }))
        (λ e. keeps-refuse s _ 11)

    list-keeps : (h : ℕ) (ws : List ℕ) → is_nil ws ≡ false → Keeps sh s (Calls.give_back h ws) (on_page sh lim h s ws (site_of_first sh s ws))
    list-keeps h [] n = absurd (true≢false n)
    list-keeps h (w ∷ ws) n = page-keeps h w ws (locate (is_out sh w) s) (locate-law sh s good (is_out sh w)) (site-busy (is_out sh w) s) (λ q. site_weight sh q each (is_out sh w) s)

  -- ---- a release by chunks
  abbrev cold_in : ℕ → List ℕ → List ℕ → ℕ
  cold_in q [] vs = 0
  cold_in q (g ∷ gs) [] = 0
  cold_in q (g ∷ gs) (v ∷ vs) = one_if (eqb q (page_of g) && went_cold v) + cold_in q gs vs

  cold_in_lem : (q : ℕ) (gs vs : List ℕ) → fated_in went_cold q gs vs ≡ true → 1 ≤ cold_in q gs vs
  cold_in_lem q [] vs e = absurd (false≢true e)
  cold_in_lem q (g ∷ gs) [] e = absurd (false≢true e)
  cold_in_lem q (g ∷ gs) (v ∷ vs) e =
      by_cases (eqb q (page_of g) && went_cold v) (λ a. rw a (omega arith)) (λ a. omega (arith, cold_in_lem q gs vs (rw a at e)))

  cold-not : (q : ℕ) (gs vs : List ℕ) → fated_in went_cold q gs vs ≡ false → cold_in q gs vs ≡ 0
  cold-not q [] vs e = refl
  cold-not q (g ∷ gs) [] e = refl
  cold-not q (g ∷ gs) (v ∷ vs) e =
      by_cases (eqb q (page_of g) && went_cold v) (λ a. absurd (true≢false (rw a at e))) (λ a. let ih = cold-not q gs vs (rw a at e) in rw a (omega arith))

  record AllSettles (gs : List ℕ) (s : Class) (r : AllSettled) : Type 0 where
    busy : All (Busy sh) s.partial → All (Busy sh) r.class.partial
    cold : (q : ℕ) → chilled sh q r.class.cold ≡ chilled sh q s.cold + cold_in q gs r.fates

  record ChunkSettles (g : ℕ) (s : Class) (b : Settled) : Type 0 where
    busy : All (Busy sh) s.partial → All (Busy sh) b.class.partial
    cold : (q : ℕ) → chilled sh q b.class.cold ≡ chilled sh q s.cold + one_if (eqb q (page_of g) && went_cold b.fate)

  one_at : (t u : Bool) → cond t (one_if u) 0 ≡ one_if (t && u)
  one_at true u = refl
  one_at false u = refl

  chunk-settles : (h : ℕ) (ws : List ℕ) (g : ℕ) (s : Class) (o : Option Site) → SitesBusy s o → Tells (starts_at (page_of g)) s o → ChunkSettles g s (settle_chunk sh lim h s ws o)
  unfolding settle_chunk
  chunk-settles h ws g s none k t = record { busy = λ a. a; cold = λ q. rw (and_no (eqb q (page_of g))) (omega arith) }
  chunk-settles h ws g s (some x) k t =
      let y = settles h s x k true (blocks_on sh ws x.page) in
      record {
        busy = y.busy;
        cold = λ q. y.cold q ∙ ap (λ i. chilled sh q s.cold + i) (one_at (starts_at q x.page) _ ∙ ap (λ i. one_if (i && went_cold (settle sh lim h true (blocks_on sh ws x.page) x).fate)) (ap (λ n. eqb n q) (eqb-true x.page.first (page_of g) t) ∙ eqb-turned (page_of g) q));
      }

  chunks-settle : (h : ℕ) (ws gs : List ℕ) (s : Class) → AllSettles gs s (settle_chunks sh lim h ws s gs)
  unfolding settle_chunks
  chunks-settle h ws [] s = record { busy = λ a. a; cold = λ q. omega arith }
  chunks-settle h ws (g ∷ gs) s =
      let o = locate (starts_at (page_of g)) s in
      let y = chunk-settles h ws g s o (site-busy (starts_at (page_of g)) s) (locate-tells (starts_at (page_of g)) s) in
      let ih = chunks-settle h ws gs (settle_chunk sh lim h s ws o).class in
      record { busy = λ a. ih.busy (y.busy a); cold = λ q. omega (arith, ih.cold q, y.cold q) }

  -- each group finds its page, whatever those before it did, and the order of the groups is the order of the releases
  record ChunkOrders (r : ℕ) (s t : Class) : Type 0 where
    empties : (o : ℕ → ℕ → Bool) → Ordered o (firsts s.empty) → Ordered (next_at r o) (firsts t.empty)
    colds : (o : ℕ → ℕ → Bool) → Ordered o (cold_firsts s.cold) → Ordered (next_at r o) (cold_firsts t.cold)
    single : (q : ℕ) → weigh sh q each t ≤ 1

  chunk_orders : (h : ℕ) (ws : List ℕ) (g : ℕ) (s : Class) (o : Option Site) → SitesBusy s o → Tells (starts_at (page_of g)) s o → ((q : ℕ) (k : Bool → ℕ) → SiteWeights sh q k s o) → ((q : ℕ) → weigh sh q each s ≤ 1) → fits_on sh ws g o ≡ true
      → ChunkOrders (page_of g) s (settle_chunk sh lim h s ws o).class
  unfolding settle_chunk
  chunk_orders h ws g s none k t weight one fit = absurd (false≢true fit)
  chunk_orders h ws g s (some x) k t weight one fit =
      let bs = blocks_on sh ws x.page in
      let b = settle sh lim h true bs x in
      let y = settles h s x k true bs in
      let new = fresh s x one (weight x.page.first each) k in
      let at = eqb-true x.page.first (page_of g) t in
      record {
        empties = λ o i. subst (λ r. Ordered (next_at r o) (firsts b.class.empty)) at (y.empties new.empty o i);
        colds = λ o i. subst (λ r. Ordered (next_at r o) (cold_firsts b.class.cold)) at (y.colds new.cold o i);
        single = λ q.
            let w = (settle-weighs sh q lim h s x (λ m. weight q m) true bs).weighs each in
            by_cases (starts_at q x.page)
            (λ e. by_cases (went_back b.fate)
            (λ d. let z : weigh sh q each b.class + 1 ≡ weigh sh q each s + 0 = rw (e, d) at w in omega (arith, one q))
            (λ d. let z : weigh sh q each b.class + 1 ≡ weigh sh q each s + 1 = rw (e, d) at w in omega (arith, one q)))
            (λ e. let z : weigh sh q each b.class + 0 ≡ weigh sh q each s + 0 = rw e at w in omega (arith, one q));
      }

  record AllOrders (gs : List ℕ) (s t : Class) : Type 0 where
    empties : (o : ℕ → ℕ → Bool) → Ordered o (firsts s.empty) → Ordered (next_all gs o) (firsts t.empty)
    colds : (o : ℕ → ℕ → Bool) → Ordered o (cold_firsts s.cold) → Ordered (next_all gs o) (cold_firsts t.cold)

  chunks-order : (h : ℕ) (ws gs : List ℕ) (s : Class) → ((q : ℕ) → weigh sh q each s ≤ 1) → Listed sh s → distinct (map page_of gs) ≡ true → every (chunk_fits sh s ws) gs ≡ true → AllOrders gs s (settle_chunks sh lim h ws s gs).class
  unfolding settle_chunks chunk_fits
  chunks-order h ws [] s one y d f = record { empties = λ o k. k; colds = λ o k. k }
  chunks-order h ws (g ∷ gs) s one y d f =
      let t = starts_at (page_of g) in
      let o = locate t s in
      let fit = and_left (chunk_fits sh s ws g) (every (chunk_fits sh s ws) gs) f in
      let k = Yields.chunk-law sh ok lim h s ws g o (Yields.located sh ok lim t s y) fit in
      let n = not-true (elem (page_of g) (map page_of gs)) (and_left (not (elem (page_of g) (map page_of gs))) (distinct (map page_of gs)) d) in
      let r = chunk_orders h ws g s o (site-busy t s) (locate-tells t s) (λ q m. site_weight sh q m t s) one fit in
      let ih = chunks-order h ws gs (settle_chunk sh lim h s ws o).class r.single k.listed (and_right (not (elem (page_of g) (map page_of gs))) (distinct (map page_of gs)) d)
      (Yields.all_fit sh ok lim ws (page_of g) s _ k.skip gs n (and_right (chunk_fits sh s ws g) (every (chunk_fits sh s ws) gs) f))
      in
      record { empties = λ u i. ih.empties (next_at (page_of g) u) (r.empties u i); colds = λ u i. ih.colds (next_at (page_of g) u) (r.colds u i) }

  module _ (s : Class) (good : GoodClass sh s) (single : Once sh s) (listed : Listed sh s) where
    -- the list has blocks of the groups' pages only
    chunks_miss : is_medium sh ≡ false → (ws gs : List ℕ) → every (chunked sh s gs) ws ≡ true → (q : ℕ) → elem q (map page_of gs) ≡ false → has_block sh q ws ≡ false
    unfolding has_block chunked
    chunks_miss m ws gs c q e =
        by_cases (any (λ w. elem w (blocks_at sh q)) ws)
        (λ a. let p = any_passing (λ w. elem w (blocks_at sh q)) ws a in
        absurd (go p.word p.passes (locate (is_out sh p.word) s) (locate-law sh s good (is_out sh p.word)) (locate-tells (is_out sh p.word) s)
        (every-count (chunked sh s gs) p.word ws c (elem-count p.word ws p.member))))
        (λ a. a)
      where
        go : (w : ℕ) → elem w (blocks_at sh q) ≡ true → (o : Option Site) → SiteLaws sh s o → Tells (is_out sh w) s o → chunked_on gs o ≡ true → ⊥
        go w b none law tells f = false≢true f
        go w b (some x) law tells f = true≢false (sym (rw (out-page m x.page law.page w q tells b) at f) ∙ e)

    chunks-later : is_medium sh ≡ false → (ws gs : List ℕ) → every (chunked sh s gs) ws ≡ true → (o : ℕ → ℕ → Bool) (i j : ℕ) → next_all gs o i j ≡ true → (behind i j gs || (o i j && not (has_block sh j ws))) ≡ true
    chunks-later m ws gs c o i j e = elim (all-observed gs o i j e) [
      | inl b ↦ rw b
      | inr k ↦ rw (k.0, chunks_miss m ws gs c j k.1) (or_right (behind i j gs) true refl)
    ]

    chunks-kept : (h : ℕ) (ws gs fs : List ℕ) → not (distinct (map page_of gs) && (every (chunk_fits sh s ws) gs && every (chunked sh s gs) ws)) ≡ false
        → (let b = settle_chunks sh lim h ws s gs in Kept sh s (Calls.give_chunks h ws gs fs) (record { class = b.class; answer = Calls.fates (b.fates ++ drop (length gs) fs); gives = b.gives }))
    unfolding fated
    chunks-kept h ws gs fs e =
        let d = distinct (map page_of gs) in
        let f = every (chunk_fits sh s ws) gs in
        let c = every (chunked sh s gs) ws in
        let p = not-false (d && (f && c)) e in
        let met = and_right f c (and_right d (f && c) p) in
        let b = settle_chunks sh lim h ws s gs in
        let y = chunks-settle h ws gs s in
        let r = chunks-order h ws gs s (λ q. weigh-once sh ok q s single) listed (and_left d (f && c) p) (and_left f c (and_right d (f && c) p)) in
        let same : ListN.take (length gs) (b.fates ++ drop (length gs) fs) ≡ b.fates = rw (sym (chunks-fated sh lim h ws gs s).many, take-append_seam) in
        record {
          keep = λ one t o i. record {
            busy = y.busy i.busy;
            cold = λ q.
                rw (same, none-drawn q, and_yes (t q))
                (cold-observed (chilled sh q s.cold) (chilled sh q b.class.cold) (fated_in went_cold q gs b.fates) (t q) (chilled-once b.class one q) (i.cold q)
                (λ e. omega (arith, y.cold q, cold_in_lem q gs b.fates e))
                (λ e. omega (arith, y.cold q, cold-not q gs b.fates e))
                (omega (arith, y.cold q)));
            empties = λ m. ordered_map (next_all gs o) _ (firsts b.class.empty) (λ u v n. chunks-later m ws gs met o u v) (r.empties o (i.empties m));
            colds = λ m. ordered_map (next_all gs o) _ (cold_firsts b.class.cold) (λ u v n. chunks-later m ws gs met o u v) (r.colds o (i.colds m));
          };
        }

    chunks-keep : (h : ℕ) (ws gs fs : List ℕ) → not (distinct (map page_of gs) && (every (chunk_fits sh s ws) gs && every (chunked sh s gs) ws)) ≡ false
        → (let b = settle_chunks sh lim h ws s gs in Keeps sh s (Calls.give_chunks h ws gs fs) (done (record { class = b.class; answer = Calls.fates (b.fates ++ drop (length gs) fs); gives = b.gives })))
    chunks-keep h ws gs fs e = keeps-done (chunks-kept h ws gs fs e)

  -- every request of a class
  pub answer_keeps : (s : Class) → GoodClass sh s → Once sh s → Listed sh s → (a : Request) → Keeps sh s a (answer sh lim s a)
  unfolding answer release_list release_chunks
  answer_keeps s good one y (Calls.take h l) = search (keeps-cond, keeps-refuse, take-keeps h l s.partial s.empty s.cold s.full)
  answer_keeps s good one y (Calls.give_back h ws) = search (keeps-cond, keeps-refuse, list-keeps s good one) depth 9
  answer_keeps s good one y (Calls.give_chunks h ws gs fs) = search (keeps-cond, keeps-refuse, chunks-keep s good one y h ws gs fs) depth 10

-- ---- after every history
abbrev Orders : Type 0
Orders = ℕ → ℕ → ℕ → Bool

abbrev AllStand : Heap → Tellings → Orders → Type 0
AllStand H bs os = (c : ℕ) → Stands (shape_of c) (H.classes c) (bs c) (os c)

abbrev cold_after : Event → Tellings → Tellings
cold_after v bs = λ c q. since_next (chills c q) (draws c q) (bs c q) v

abbrev later_after : Event → Orders → Orders
later_after v os = λ c i j. since_next (follows c i j) (releases_to c j) (os c i j) v

-- an event tells nothing if no test passes
silent : (c : ℕ) (s : Class) (bs : Tellings) (os : Orders) (v : Event) → ((q : ℕ) → chills c q v ≡ false) → ((q : ℕ) → draws c q v ≡ false) → ((q : ℕ) → releases_to c q v ≡ false)
    → Stands (shape_of c) s (bs c) (os c) → Stands (shape_of c) s (cold_after v bs c) (later_after v os c)
silent c s bs os v f g t k = record {
  busy = k.busy;
  cold = λ q. rw (f q, g q, and_yes (bs c q)) (k.cold q);
  empties = λ m. ordered_map (os c) _ (firsts s.empty) (λ i j n. stays i j) (k.empties m);
  colds = λ m. ordered_map (os c) _ (cold_firsts s.cold) (λ i j n. stays i j) (k.colds m);
}
  where
    stays : (i j : ℕ) → os c i j ≡ true → later_after v os c i j ≡ true
    stays i j e = rw (e, t j) (or_right (follows c i j v) true refl)

no_block : (c q : ℕ) → has_block (shape_of c) q [] ≡ false
unfolding has_block
no_block c q = refl

served-keeps : (sh : Shape) (s : Class) (a : Request) (size h : ℕ) (H : Heap) (x : Ask) → Keeps sh s a x → Kept sh s a (serve x (offer size h H.arena x).run)
unfolding offer
served-keeps sh s a size h H x (keeps-done k) = k
served-keeps sh s a size h H x (keeps-asks k) = k _

module _ (size : ℕ) (H : Heap) (good : (c : ℕ) → GoodClass (shape_of c) (H.classes c)) (one : AllOnce H) (listed : AllListed H) (bs : Tellings) (os : Orders) (k : AllStand H bs os) where
  module _ (x : Call) (d : Named) (e : names x ≡ some d) (once : AllOnce (class_call size H d.class d.request).heap) where
    abbrev now : Event
    now = event_of x (class_call size H d.class d.request)

    abbrev ask : Ask
    ask = answer (shape_of d.class) (H.rules d.class) (H.classes d.class) d.request

    abbrev given : Option ℕ
    given = (offer size (host_of d.request) H.arena ask).run

    own : Stands (shape_of d.class) (serve ask given).class (cold_after now bs d.class) (later_after now os d.class)
    unfolding class_call interact finish
    own =
        let c = d.class in
        let r = d.request in
        let o : Once (shape_of c) (serve ask given).class = subst (Once (shape_of c)) (update_same H.classes c (serve ask given).class) (once c) in
        let y = (served-keeps (shape_of c) (H.classes c) r size (host_of r) H ask (answer_keeps (shape_of c) (shape-sound c) (H.rules c) (one-page c) (H.classes c) (good c) (one c) (listed c) r)).keep o (bs c) (os c) (k c) in
        record {
          busy = y.busy;
          cold = λ q. rw (e, eq-eqb c c refl) (y.cold q);
          empties = λ m. ordered_map (later_next (shape_of c) r (serve ask given) (os c)) _ (firsts (serve ask given).class.empty) (λ i j n t. rw (e, eq-eqb c c refl) t) (y.empties m);
          colds = λ m. ordered_map (later_next (shape_of c) r (serve ask given) (os c)) _ (cold_firsts (serve ask given).class.cold) (λ i j n t. rw (e, eq-eqb c c refl) t) (y.colds m);
        }

    others : (c : ℕ) → eqb c d.class ≡ false → Stands (shape_of c) (H.classes c) (cold_after now bs c) (later_after now os c)
    others c n =
        let m = ne_eqb d.class c (λ p. eqb-false c d.class n (sym p)) in
        silent c (H.classes c) bs os now (λ q. rw (e, m)) (λ q. rw (e, m)) (λ q. rw (e, m)) (k c)

  route-stands : (x : Call) {w : Way} → Goes x w → AllOnce (route size H x w).heap → AllStand (route size H x w).heap (cold_after (event_of x (route size H x w)) bs) (later_after (event_of x (route size H x w)) os)
  unfolding class_call interact finish
  route-stands x (is_turned t) once c =
      silent c (H.classes c) bs os (event_of x (route size H x Calls.turned))
      (λ q. refused-request c (fated went_cold (shape_of c) q) (names x) 3 (λ r. unfated (shape_of c) q went_cold r 3))
      (λ q. refused-request c (λ r z. has_block (shape_of c) q (blocks_of z)) (names x) 3 (λ r. no_block c q))
      (λ q. refused-request c (λ r z. has_block (shape_of c) q (released_by r z)) (names x) 3 (λ r. no_block c q))
      (k c)
  route-stands x (is-straight t e) once c =
      rw (direct-keeps size H x).kept (silent c (H.classes c) bs os (event_of x (direct_call size H x)) (λ q. rw e) (λ q. rw e) (λ q. rw e) (k c))
  route-stands x (is-class d t e) once c =
      at-class (λ j s. Stands (shape_of j) s (cold_after (now x d e once) bs j) (later_after (now x d e once) os j)) H.classes d.class _ (own x d e once) (λ j n. others x d e once j n) c

stand-from : (size n : ℕ) (H : Heap) (es : List Entry) (f : ℕ → Bool) (l : ℕ → ℕ) → Inv size n H es f l → AllListed H → (bs : Tellings) (os : Orders) → AllStand H bs os → (xs : List Call)
    → AllStand (heap_from size H xs) (λ c q. since_from (chills c q) (draws c q) (bs c q) (events_from size H xs)) (λ c i j. since_from (follows c i j) (releases_to c j) (os c i j) (events_from size H xs))
unfolding step
stand-from size n H es f l inv y bs os k [] = k
stand-from size n H es f l inv y bs os k (x ∷ xs) =
    let i = step-inv size n H es f l inv x in
    stand-from size (suc n) (step size H x).heap _ _ _ i (route-listed size H y x (way_of x)) _ _
    (route-stands size H inv.good (inv-once size n H es f l inv) y bs os k x (goes x) (inv-once size (suc n) (step size H x).heap _ _ _ i)) xs

pub stores_observed : (size : ℕ) (rules : Rules) (xs : List Call) (c : ℕ)
    → Stands (shape_of c) ((heap_after size rules xs).classes c) (λ q. since_from (chills c q) (draws c q) false (events size rules xs)) (λ i j. since_from (follows c i j) (releases_to c j) false (events size rules xs))
unfolding new_heap
stores_observed size rules xs c =
    stand-from size 0 (new_heap rules) [] (λ x. false) (λ x. 0) (start size rules) (λ c. record { partial = tt; empty = tt; full = tt })
    (λ c q. false) (λ c i j. false) (λ c. record { busy = tt; cold = λ q. refl; empties = λ m. tt; colds = λ m. tt }) xs c
