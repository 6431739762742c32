-- In which order a take turns to its sources, by the history.
use Rattle.facts.proofs.Prelude.{ℕ, ◌+◌, ◌-◌, ◌≤◌, arith, true, false, cond, true≢false, false≢true, List, [], ◌∷◌, ◌++◌, ◌⊎◌, inl, inr, Option, none, some}
use Rattle.facts.proofs.Prelude.{◌≡◌, refl, sym, ap, ◌∙◌, subst, eqb, ltb, length, eqb-true, eqb-false, eq-eqb, every, All, total, elem, count, by_cases}
use Rattle.words.specs.Host.{bad_host}
use Rattle.classes.specs.declared.Shape.{Shape}
use Rattle.classes.specs.Shape.{shape_of}
use Rattle.classes.specs.way.Sound.{Sound}
use Rattle.classes.proofs.Shapes.{shape-sound}
use Rattle.rules.specs.declared.Limits.{Limits}
use Rattle.rules.specs.Rules.{Rules}
use Rattle.model.specs.Calls as Calls
use Rattle.model.specs.Calls.{Call, names, host_in, way_of, is_refused, blocks_of}
use Rattle.model.specs.Cover.{covers}
use Rattle.model.specs.Page.{Page, word_of, is_medium, carve, carved_words, has_more, none_out, pop, reused}
use Rattle.model.specs.Class.{Class, Cold, Ask, serve, after, fill_from_list, served, thawed, on_run, take_from}
use Rattle.model.specs.Chunks.{starts_at, answer}
use Rattle.model.specs.Heap.{Heap, new_heap, offer, finish, interact, class_call, step}
use Rattle.model.specs.History.{Event, event_of, events, heap_after}
use Rattle.model.specs.Yields.{Listed}
use Rattle.model.specs.Offered.{blocks_at, releases_to, HasRun, Used}
use Rattle.model.specs.Sources.{chills, draws, Chilled, IsPartial, IsEmpty, IsCold, Has, ComesFrom, FromOneRun, follows, Later, Turns}
use Rattle.model.specs.Demands.{Sources}
use Rattle.model.proofs.Counts.{elem-count, count-elem, count_in_lem, count-append}
use Rattle.model.proofs.Pages.{out_of, on, begins_on, out-on, out-is, GoodPage, EmptyPage, carve-empty, reused-empty, thawed-empty}
use Rattle.model.proofs.Sites.{out_count, Once, GoodClass}
use Rattle.model.proofs.Update.{update_same}
use Rattle.model.proofs.Weights.{page_weight, weigh, served_weight}
use Rattle.model.proofs.RunsObserved.{each, total-le, block_of, block_on, at-le, two_runs}
use Rattle.model.proofs.Since.{since_from, observed, untold}
use Rattle.model.proofs.Yields.{after-listed}
use Rattle.model.proofs.Offers.{word_in, full-out, Spare, spare, outs-on, good, once, run-counted, counted-run, out-counted, counted-out, none-partial}
use Rattle.model.proofs.TakesObserved.{pop-block, came, one_more}
use Rattle.model.proofs.Newest.{firsts, cold_firsts, firsts-count, cold-count, Ordered, all-count}
use Rattle.model.proofs.Stores.{Busy, chilled, Stands, stores_observed, carve-first, thawed-first, reused-first}

module _ (sh : Shape) (ok : Sound sh) (lim : Limits) where
  -- ---- from which pages the blocks of a fill come
  record Comes (Is : Page → Type 0) (w : ℕ) (ps : List Page) : Type 0 where
    page : Page
    among : (m : Page → ℕ) → m page ≤ total m ps
    is : Is page
    block : elem w (blocks_at sh page.first) ≡ true

  fill_comes : (Is : Page → Type 0) (n : ℕ) (ps : List Page) → All (GoodPage sh) ps → All Is ps → (w : ℕ) → 1 ≤ count w (fill_from_list sh n ps).blocks → Comes Is w ps
  unfolding fill_from_list after
  fill_comes Is n [] g k w h = absurd (omega arith)
  fill_comes Is n (p ∷ ps) g k w h =
      let f = fill_from_list sh (n - length (pop sh n p).blocks) ps in
      by_cases (eqb n 0)
      (λ e. let y : 1 ≤ 0 = rw e at h in absurd (omega arith))
      (λ e. let y : 1 ≤ count w f.blocks + count w (pop sh n p).blocks = rw (e, count-append) at h in
      by_cases (eqb (count w (pop sh n p).blocks) 0)
      (λ z. let r = fill_comes Is (n - length (pop sh n p).blocks) ps g.1 k.1 w (omega (arith, eqb-true (count w (pop sh n p).blocks) 0 z)) in
      record { page = r.page; among = λ m. omega (arith, r.among m); is = r.is; block = r.block })
      (λ z. record { page = p; among = λ m. omega arith; is = k.0; block = pop-block sh ok lim n p g.0 w (omega (arith, eqb-false (count w (pop sh n p).blocks) 0 z)) }))

  fill_one : (n : ℕ) (p : Page) → GoodPage sh p → (w : ℕ) → elem w (fill_from_list sh n (p ∷ [])).blocks ≡ true → elem w (blocks_at sh p.first) ≡ true
  unfolding fill_from_list after
  fill_one n p g w h =
      by_cases (eqb n 0)
      (λ e. let y : false ≡ true = rw e at h in absurd (false≢true y))
      (λ e. let y : elem w ([] ++ (pop sh n p).blocks) ≡ true = rw e at h in pop-block sh ok lim n p g w (elem-count w (pop sh n p).blocks y))

module _ (sh : Shape) (ok : Sound sh) where
  -- ---- pages with a block out
  record Out (p : Page) : Type 0 where
    word : ℕ
    out : 1 ≤ out_of sh word p

  busy-out : (p : Page) → Busy sh p → Out p
  unfolding none_out
  busy-out p e = go (carved_words sh p) e (λ w h. h)
    where
      go : (l : List ℕ) → every (λ w. elem w p.free) l ≡ false → ((w : ℕ) → 1 ≤ count w l → 1 ≤ count w (carved_words sh p)) → Out p
      go [] e k = absurd (true≢false e)
      go (x ∷ l) e k =
          by_cases (elem x p.free)
          (λ a. go l (rw a at e) (λ w h. k w (omega arith)))
          (λ a. let y : 1 ≤ count x (x ∷ l) = rw (eq-eqb x x refl) (omega arith) in
          record { word = x; out = omega (arith, k x y, count-elem x p.free a) })

  module _ (s : Class) (good : GoodClass sh s) (one : Once sh s) (listed : Listed sh s) (q : ℕ) where
    abbrev pub starts : List Page → ℕ
    starts ps = total (λ p. cond (starts_at q p) 1 0) ps

    abbrev pub starts_cold : List Cold → ℕ
    starts_cold cs = total (λ (c : Cold). cond (eqb c.first q) 1 0) cs

    -- a word of the run at q that is out
    record OutAt : Type 0 where
      word : ℕ
      block : elem word (blocks_at sh q) ≡ true
      out : 1 ≤ out_count sh word s

    -- a run that begins at q in such a list has one
    busy-at : (ps : List Page) → All (GoodPage sh) ps → All (Busy sh) ps → 1 ≤ starts ps → (w : ℕ) × (elem w (blocks_at sh q) ≡ true) × (1 ≤ total (out_of sh w) ps)
    busy-at [] g b h = absurd (omega arith)
    busy-at (p ∷ ps) g b h =
        by_cases (starts_at q p)
        (λ e. let o = busy-out p b.0 in
        (o.word, rw (← eqb-true p.first q e) (block_of sh ok o.word p g.0 (out-is sh ok o.word p o.out)), omega (arith, o.out)))
        (λ e. let y : 1 ≤ 0 + starts ps = rw e at h in
        let r = busy-at ps g.1 b.1 (omega arith) in
        (r.0, r.1, omega (arith, r.2)))

    full_at : (ps : List Page) → All (GoodPage sh) ps → All (λ p. has_more sh p ≡ false) ps → 1 ≤ starts ps → 1 ≤ total (out_of sh (word_of sh q 0)) ps
    full_at [] g b h = absurd (omega arith)
    full_at (p ∷ ps) g b h =
        by_cases (starts_at q p)
        (λ e. omega (arith, full-out sh ok p g.0 b.0 (word_of sh q 0) (rw (eqb-true p.first q e) first_block)))
        (λ e. let y : 1 ≤ 0 + starts ps = rw e at h in omega (arith, full_at ps g.1 b.1 (omega arith)))
      where
        first_block : elem (word_of sh q 0) (blocks_at sh q) ≡ true
        first_block = count_in_lem (word_of sh q 0) (blocks_at sh q) (word_in sh ok q 0 sh.capacity (omega (arith, ok.blocks)))

    -- a run with no block out is parked
    unused-parked : All (Busy sh) s.partial → 1 ≤ weigh sh q each s → (OutAt → ⊥) → 1 ≤ starts s.empty + starts_cold s.cold
    unused-parked b n u =
        by_cases (eqb (starts s.partial) 0)
        (λ e. by_cases (eqb (starts s.full) 0)
        (λ d. omega (arith, eqb-true (starts s.partial) 0 e, eqb-true (starts s.full) 0 d))
        (λ d. absurd (u (record {
          word = word_of sh q 0;
          block = count_in_lem (word_of sh q 0) (blocks_at sh q) (word_in sh ok q 0 sh.capacity (omega (arith, ok.blocks)));
          out = omega (arith, full_at s.full good.full listed.full (omega (arith, eqb-false (starts s.full) 0 d)));
        }))))
        (λ e. let r = busy-at s.partial good.partial b (omega (arith, eqb-false (starts s.partial) 0 e)) in
        absurd (u (record { word = r.0; block = r.1; out = omega (arith, r.2) })))

    -- and a parked one has none out
    parked-unused : 1 ≤ starts s.empty + starts_cold s.cold → OutAt → ⊥
    parked-unused n o =
        let w = o.word in
        let z = begins_on sh ok w in
        let c = block_on sh ok w q o.block in
        omega (
          arith,
          o.out,
          one z,
          outs-on sh ok w s.partial good.partial,
          outs-on sh ok w s.full good.full,
          total-le _ (on sh z) s.empty (λ (p : Page). at-le sh ok q z p.first c),
          total-le _ (λ (p : Cold). covers sh.pages p.first z) s.cold (λ (p : Cold). at-le sh ok q z p.first c),
        )

  -- a partial page has a block at hand
  rest-on : (z w : ℕ) (ps : List Page) → All (GoodPage sh) ps → begins_on sh ok w ≡ z → total (λ p. on sh z p - out_of sh w p) ps + total (out_of sh w) ps ≡ total (on sh z) ps
  rest-on z w [] g e = refl
  rest-on z w (p ∷ ps) g e =
      let l : out_of sh w p ≤ on sh z p = rw (← e) (out-on sh ok w p g.0) in
      omega (arith, rest-on z w ps g.1 e)

  partial-spare : (s : Class) → GoodClass sh s → Once sh s → (p : Page) → ((m : Page → ℕ) → m p ≤ total m s.partial) → (k : Spare sh ok p) → out_count sh k.word s ≡ 0
  partial-spare s good one p among k =
      let w = k.word in
      let z = begins_on sh ok w in
      omega (
        arith,
        k.in_hand,
        block_on sh ok w p.first k.block,
        among (λ x. on sh z x - out_of sh w x),
        rest-on z w s.partial good.partial refl,
        outs-on sh ok w s.full good.full,
        one z,
      )

  -- the cold runs by the fates: all of a small class, no span
  cold-small : is_medium sh ≡ false → (q : ℕ) (cs : List Cold) → chilled sh q cs ≡ total (λ (c : Cold). cond (eqb c.first q) 1 0) cs
  cold-small e q cs = rw e

  cold-span : is_medium sh ≡ true → (q : ℕ) (cs : List Cold) → chilled sh q cs ≡ 0
  cold-span e q [] = refl
  cold-span e q (c ∷ cs) =
      let ih = cold-span e q cs in
      let z : ◌≡◌ {A = ℕ} (cond (eqb c.first q) (cond (is_medium sh) 0 1) 0) 0 = by_cases (eqb c.first q) (λ a. rw (a, e)) (λ a. rw a) in
      omega arith

-- ---- after a history
module _ (size : ℕ) (rules : Rules) (xs : List Call) (c : ℕ) where
  abbrev sh : Shape
  sh = shape_of c

  abbrev ok : Sound (shape_of c)
  ok = shape-sound c

  abbrev s : Class
  s = (heap_after size rules xs).classes c

  abbrev vs : List Event
  vs = events size rules xs

  stands : Stands (shape_of c) s (λ q. since_from (chills c q) (draws c q) false vs) (λ i j. since_from (follows c i j) (releases_to c j) false vs)
  stands = stores_observed size rules xs c

  listed : Listed (shape_of c) s
  listed = after-listed size rules xs c

  -- ---- what a run is, and where it stands
  chilled-cold : (q : ℕ) → Chilled c q vs → chilled sh q s.cold ≡ 1
  chilled-cold q k = stands.cold q ∙ ap (λ b. cond b 1 0) (observed (chills c q) (draws c q) vs k)

  cold-chilled : (q : ℕ) → 1 ≤ chilled sh q s.cold → Chilled c q vs
  cold-chilled q n =
      by_cases (since_from (chills c q) (draws c q) false vs) (untold (chills c q) (draws c q) vs)
      (λ e. absurd (omega (arith, stands.cold q, ap {B = ℕ} (λ b. cond b 1 0) e)))

  used-at : (q : ℕ) → OutAt sh ok s (good size rules xs c) (once size rules xs c) listed q → Used vs c q
  used-at q o = record { word = o.word; block = o.block; out = counted-out size rules xs c o.word o.out }

  at-used : (q : ℕ) → Used vs c q → OutAt sh ok s (good size rules xs c) (once size rules xs c) listed q
  at-used q u = record { word = u.word; block = u.block; out = out-counted size rules xs c u.word u.out }

  abbrev in_empty : ℕ → ℕ
  in_empty q = starts sh ok s (good size rules xs c) (once size rules xs c) listed q s.empty

  abbrev in_cold : ℕ → ℕ
  in_cold q = starts_cold sh ok s (good size rules xs c) (once size rules xs c) listed q s.cold

  parked-idle : (q : ℕ) → 1 ≤ in_empty q + in_cold q → Used vs c q → ⊥
  parked-idle q n u = parked-unused sh ok s (good size rules xs c) (once size rules xs c) listed q n (at-used q u)

  idle-parked : (q : ℕ) → HasRun c q vs → (Used vs c q → ⊥) → 1 ≤ in_empty q + in_cold q
  idle-parked q h u = unused-parked sh ok s (good size rules xs c) (once size rules xs c) listed q stands.busy (omega (arith, run-counted size rules xs c q h)) (λ o. u (used-at q o))

  -- a small class's empty run stands in the empty list, and its cold one in the cold list
  empty_in : is_medium sh ≡ false → (h : Has IsEmpty vs c) → 1 ≤ total (λ p. cond (starts_at h.run p) 1 0) s.empty
  empty_in small h =
      let q = h.run in
      let n = idle-parked q h.has h.is.0 in
      let z : chilled sh q s.cold ≡ 0 = by_cases (eqb (chilled sh q s.cold) 0) (eqb-true (chilled sh q s.cold) 0) (λ d. absurd (h.is.1 (cold-chilled q (omega (arith, eqb-false (chilled sh q s.cold) 0 d))))) in
      omega (arith, cold-small sh ok small q s.cold)

  cold_in_lem : is_medium sh ≡ false → (h : Has IsCold vs c) → 1 ≤ total (λ (k : Cold). cond (eqb k.first h.run) 1 0) s.cold
  cold_in_lem small h = omega (arith, chilled-cold h.run h.is.1, cold-small sh ok small h.run s.cold)

  empty-listed : is_medium sh ≡ false → Has IsEmpty vs c → s.empty ≡ [] → ⊥
  empty-listed small h e = omega (arith, empty_in small h, ap (total (λ p. cond (starts_at h.run p) 1 0)) e)

  -- what heads either list was released to last
  abbrev Last : ℕ → ℕ → Type 0
  Last r q = (r ≡ q) ⊎ Later c r q vs

  last_of : (r q : ℕ) (l : List ℕ) → Ordered (λ i j. since_from (follows c i j) (releases_to c j) false vs) (r ∷ l) → 1 ≤ count q (r ∷ l) → Last r q
  last_of r q l k n =
      by_cases (eqb q r)
      (λ e. inl (sym (eqb-true q r e)))
      (λ e. let m : 1 ≤ 0 + count q l = rw e at n in
      inr (untold (follows c r q) (releases_to c q) vs (all-count (λ j. since_from (follows c r j) (releases_to c j) false vs ≡ true) q l (omega arith) k.0)))

  empty-last : is_medium sh ≡ false → (e : Page) (es : List Page) → s.empty ≡ e ∷ es → (h : Has IsEmpty vs c) → Last e.first h.run
  empty-last small e es d h =
      let q = h.run in
      last_of e.first q (firsts es) (subst (λ (l : List Page). Ordered (λ i j. since_from (follows c i j) (releases_to c j) false vs) (firsts l)) d (stands.empties small))
      (omega (arith, empty_in small h, firsts-count q (e ∷ es), ap (total (λ p. cond (starts_at q p) 1 0)) d))

  cold-last : is_medium sh ≡ false → (k : Cold) (ks : List Cold) → s.cold ≡ k ∷ ks → (h : Has IsCold vs c) → Last k.first h.run
  cold-last small k ks d h =
      let q = h.run in
      last_of k.first q (cold_firsts ks) (subst (λ (l : List Cold). Ordered (λ i j. since_from (follows c i j) (releases_to c j) false vs) (cold_firsts l)) d (stands.colds small))
      (omega (arith, cold_in_lem small h, cold-count q (k ∷ ks), ap (total (λ (i : Cold). cond (eqb i.first q) 1 0)) d))

  idle-listed : (q : ℕ) → HasRun c q vs → (Used vs c q → ⊥) → s.empty ≡ [] → s.cold ≡ [] → ⊥
  idle-listed q h u e d = omega (arith, idle-parked q h u, ap (total (λ p. cond (starts_at q p) 1 0)) e, ap (total (λ (k : Cold). cond (eqb k.first q) 1 0)) d)

  -- what stands in a list
  record RunIs (Is : List Event → ℕ → ℕ → Type 0) (q : ℕ) : Type 0 where
    has : HasRun c q vs
    is : Is vs c q

  empty-run : (e : Page) (es : List Page) → s.empty ≡ e ∷ es → RunIs IsEmpty e.first
  empty-run e es d =
      let q = e.first in
      let n : total (λ p. cond (starts_at q p) 1 0) s.empty ≡ 1 + total (λ p. cond (starts_at q p) 1 0) es = ap (total (λ p. cond (starts_at q p) 1 0)) d ∙ rw (eq-eqb q q refl) in
      let h = counted-run size rules xs c q (omega arith) in
      record { has = h; is = (parked-idle q (omega arith), λ k. not-chilled q (run-counted size rules xs c q h) (omega arith) (chilled-cold q k)) }
    where
      not-chilled : (q : ℕ) → weigh sh q each s ≡ 1 → 1 ≤ in_empty q → chilled sh q s.cold ≡ 1 → ⊥
      not-chilled q w n k =
          by_cases (is_medium sh)
          (λ m. omega (arith, cold-span sh ok m q s.cold))
          (λ m. omega (arith, cold-small sh ok m q s.cold))

  record ColdRun (k : Cold) : Type 0 where
    has : HasRun c k.first vs
    idle : Used vs c k.first → ⊥
    span : is_medium sh ≡ true → Chilled c k.first vs → ⊥
    small : is_medium sh ≡ false → Chilled c k.first vs

  cold-run : (k : Cold) (ks : List Cold) → s.cold ≡ k ∷ ks → ColdRun k
  cold-run k ks d =
      let q = k.first in
      let n : total (λ (i : Cold). cond (eqb i.first q) 1 0) s.cold ≡ 1 + total (λ (i : Cold). cond (eqb i.first q) 1 0) ks = ap (total (λ (i : Cold). cond (eqb i.first q) 1 0)) d ∙ rw (eq-eqb q q refl) in
      record {
        has = counted-run size rules xs c q (omega arith);
        idle = parked-idle q (omega arith);
        span = λ m j. omega (arith, chilled-cold q j, cold-span sh ok m q s.cold);
        small = λ m. cold-chilled q (omega (arith, cold-small sh ok m q s.cold));
      }

  -- a page of the partial list
  record Fit (p : Page) : Type 0 where
    good-page : GoodPage sh p
    more : has_more sh p ≡ true
    busy : Busy sh p

  partial-run : (p : Page) → Fit p → ((m : Page → ℕ) → m p ≤ total m s.partial) → RunIs IsPartial p.first
  partial-run p k among =
      let q = p.first in
      let o = busy-out sh ok p k.busy in
      let sp = spare sh ok p k.good-page k.more in
      let y : ◌≡◌ {A = ℕ} (cond (starts_at q p) 1 0) 1 = rw (eq-eqb q q refl) in
      record {
        has = counted-run size rules xs c q (omega (arith, among (λ x. cond (starts_at q x) 1 0)));
        is = (
          record {
            word = o.word;
            block = block_of sh ok o.word p k.good-page (out-is sh ok o.word p o.out);
            out = counted-out size rules xs c o.word (omega (arith, o.out, among (out_of sh o.word)));
          },
          λ f. omega (arith, out-counted size rules xs c sp.word (f sp.word sp.block), partial-spare sh ok s (good size rules xs c) (once size rules xs c) p among sp),
        );
      }

  no-partial : s.partial ≡ [] → Has IsPartial vs c → ⊥
  no-partial e h = h.is.1 ((none-partial size rules xs c e).full h.run h.has h.is.0)

  -- a word is of one run only
  same-run : (w q r : ℕ) → HasRun c q vs → HasRun c r vs → elem w (blocks_at sh q) ≡ true → elem w (blocks_at sh r) ≡ true → q ≡ r
  same-run w q r hq hr a b =
      two_runs sh ok q s (once size rules xs c) r (begins_on sh ok w) (block_on sh ok w q a) (block_on sh ok w r b) (omega (arith, run-counted size rules xs c q hq)) (omega (arith, run-counted size rules xs c r hr))

  abbrev has_of : {Is : List Event → ℕ → ℕ → Type 0} {w : ℕ} → ComesFrom Is vs c w → Has Is vs c
  has_of b = record { run = b.run; has = b.has; is = b.is }

  -- ---- the four sources
  module _ (v : Event) where
    abbrev ws : List ℕ
    ws = blocks_of v.answer

    from-partial : Has IsPartial vs c → ((w : ℕ) → elem w ws ≡ true → ComesFrom IsPartial vs c w) → Turns vs c v
    from-partial h k = record {
      partial = λ w m. (λ b. h, λ i. k w m);
      empty = λ w m. (λ b. absurd (idle w m b b.is.0), λ i. absurd (i.0 h));
      cold = λ w m. (λ b. absurd (idle w m b b.is.0), λ i. absurd (i.0 h));
      one = λ n w m. absurd (n h);
      last_empty = λ i w m b k. absurd (idle w m b b.is.0);
      last_cold = λ i w m b k. absurd (idle w m b b.is.0);
    }
      where
        idle : {Is : List Event → ℕ → ℕ → Type 0} (w : ℕ) → elem w ws ≡ true → (b : ComesFrom Is vs c w) → (Used vs c b.run → ⊥) → ⊥
        idle w m b u =
            let p = k w m in
            u (subst (Used vs c) (same-run w p.run b.run p.has b.has p.block b.block) p.is.0)

    module _ (n : Has IsPartial vs c → ⊥) (r : ℕ) (h : HasRun c r vs) (run : FromOneRun (vs ++ v ∷ []) c ws) (blocks : (w : ℕ) → elem w ws ≡ true → elem w (blocks_at sh r) ≡ true) where
      its : {Is : List Event → ℕ → ℕ → Type 0} (w : ℕ) → elem w ws ≡ true → (b : ComesFrom Is vs c w) → b.run ≡ r
      its w m b = same-run w b.run r b.has h b.block (blocks w m)

      from_empty : IsEmpty vs c r → (is_medium sh ≡ false → (k : Has IsEmpty vs c) → Last r k.run) → Turns vs c v
      from_empty i last = record {
        partial = λ w m. (λ b. has_of b, λ k. absurd (n k));
        empty = λ w m. (λ b. (n, has_of b), λ k. record { run = r; has = h; is = i; block = blocks w m });
        cold = λ w m. (λ b. absurd (warm w m b), λ k. absurd (k.1 (record { run = r; has = h; is = i })));
        one = λ k w m. run;
        last_empty = λ small w m b k. subst (λ q. Last q k.run) (sym (its w m b)) (last small k);
        last_cold = λ small w m b k. absurd (warm w m b);
      }
        where
          warm : (w : ℕ) → elem w ws ≡ true → ComesFrom IsCold vs c w → ⊥
          warm w m b = i.1 (subst (λ q. Chilled c q vs) (its w m b) b.is.1)

      from-cold : (Has IsEmpty vs c → ⊥) → IsCold vs c r → (is_medium sh ≡ false → (k : Has IsCold vs c) → Last r k.run) → Turns vs c v
      from-cold e i last = record {
        partial = λ w m. (λ b. has_of b, λ k. absurd (n k));
        empty = λ w m. (λ b. absurd (e (has_of b)), λ k. absurd (e k.1));
        cold = λ w m. (λ b. (n, e, has_of b), λ k. record { run = r; has = h; is = i; block = blocks w m });
        one = λ k w m. run;
        last_empty = λ small w m b k. absurd (e (has_of b));
        last_cold = λ small w m b k. subst (λ q. Last q k.run) (sym (its w m b)) (last small k);
      }

    from-new : (Has IsPartial vs c → ⊥) → (Has IsEmpty vs c → ⊥) → (Has IsCold vs c → ⊥) → ((w : ℕ) → elem w ws ≡ true → FromOneRun (vs ++ v ∷ []) c ws) → Turns vs c v
    from-new n e k run = record {
      partial = λ w m. (λ b. has_of b, λ i. absurd (n i));
      empty = λ w m. (λ b. absurd (e (has_of b)), λ i. absurd (e i.1));
      cold = λ w m. (λ b. absurd (k (has_of b)), λ i. absurd (k i.2));
      one = λ i w m. run w m;
      last_empty = λ small w m b i. absurd (e (has_of b));
      last_cold = λ small w m b i. absurd (k (has_of b));
    }

-- ---- a take that is not refused
module _ (size : ℕ) (H : Heap) (x : Call) (c : ℕ) (l : List ℕ) where
  record Served : Type 0 where
    given : Option ℕ
    answers : (step size H x).answer ≡ (serve (take_from (shape_of c) l (H.classes c).partial (H.classes c).empty (H.classes c).cold (H.classes c).full) given).answer
    leaves : (step size H x).heap.classes c ≡ (serve (take_from (shape_of c) l (H.classes c).partial (H.classes c).empty (H.classes c).cold (H.classes c).full) given).class

  serves : (h : ℕ) → names x ≡ some (record { class = c; request = Calls.take h l }) → is_refused (step size H x).answer ≡ false → Served
  unfolding step way_of class_call interact finish answer
  serves h e u =
      by_cases (bad_host (host_in x)) (λ b. absurd (true≢false (rw b at u))) λ b.
      let sh = shape_of c in
      let s = H.classes c in
      let ask = answer sh (H.rules c) s (Calls.take h l) in
      let g = (offer size h H.arena ask).run in
      by_cases (ltb (length l) sh.batch)
      (λ k. absurd (true≢false (rw (b, e, k) at u)))
      (λ k. record {
        given = g;
        answers = rw (b, e) (ap (λ (q : Ask). (serve q g).answer) (whole s k));
        leaves = rw (b, e) (update_same H.classes c (serve ask g).class ∙ ap (λ (q : Ask). (serve q g).class) (whole s k));
      })
    where
      whole : (s : Class) → ltb (length l) (shape_of c).batch ≡ false → answer (shape_of c) (H.rules c) s (Calls.take h l) ≡ take_from (shape_of c) l s.partial s.empty s.cold s.full
      whole s k = rw k

module _ (size : ℕ) (rules : Rules) (xs : List Call) (x : Call) (c : ℕ) (l : List ℕ) where
  abbrev shape : Shape
  shape = shape_of c

  abbrev class : Class
  class = (heap_after size rules xs).classes c

  abbrev before : List Event
  before = events size rules xs

  abbrev now : Event
  now = event_of x (step size (heap_after size rules xs) x)

  -- the class has the run of a page that is served from
  run-after : (p : Page) (es : List Page) (cs : List Cold) (fs : List Page) → (step size (heap_after size rules xs) x).heap.classes c ≡ (served l (fill_from_list shape shape.batch (p ∷ [])) es cs fs).class
      → HasRun c p.first (before ++ now ∷ [])
  run-after p es cs fs e =
      let q = p.first in
      let one = one_more size (new_heap rules) xs x in
      let is = ap (λ (H : Heap). H.classes c) one.heap ∙ e in
      let y : page_weight shape q each p ≡ 1 = rw (eq-eqb q q refl) in
      subst (HasRun c q) one.observed
      (counted-run size rules (xs ++ x ∷ []) c q (omega (arith, served_weight shape q each l shape.batch (p ∷ []) es cs fs, ap (weigh shape q each) is)))

  -- the blocks of a fill from one page
  module _ (p : Page) (es : List Page) (cs : List Cold) (fs : List Page) (good : GoodPage shape p)
      (a : (step size (heap_after size rules xs) x).answer ≡ (served l (fill_from_list shape shape.batch (p ∷ [])) es cs fs).answer) where
    are : blocks_of now.answer ≡ (fill_from_list shape shape.batch (p ∷ [])).blocks
    are = ap blocks_of a ∙ came 0 (rules c) l (fill_from_list shape shape.batch (p ∷ [])) es cs fs

    page-blocks : (q : ℕ) → p.first ≡ q → (w : ℕ) → elem w (blocks_of now.answer) ≡ true → elem w (blocks_at shape q) ≡ true
    page-blocks q e w m = rw (← e) (fill_one shape (shape-sound c) (rules c) shape.batch p good w (rw are at m))

    page-run : (q : ℕ) → p.first ≡ q → (step size (heap_after size rules xs) x).heap.classes c ≡ (served l (fill_from_list shape shape.batch (p ∷ [])) es cs fs).class → FromOneRun (before ++ now ∷ []) c (blocks_of now.answer)
    page-run q e d = record { run = q; has = subst (λ r. HasRun c r (before ++ now ∷ [])) e (run-after p es cs fs d); blocks = page-blocks q e }

  all_fit : (ps : List Page) → All (GoodPage shape) ps → All (λ p. has_more shape p ≡ true) ps → All (Busy shape) ps → All (Fit size rules xs c) ps
  all_fit [] g m b = tt
  all_fit (p ∷ ps) g m b = (record { good-page = g.0; more = m.0; busy = b.0 }, all_fit ps g.1 m.1 b.1)

  turns-by : (ps es : List Page) (cs : List Cold) (fs : List Page) (g : Option ℕ) → class.partial ≡ ps → class.empty ≡ es → class.cold ≡ cs
      → (step size (heap_after size rules xs) x).answer ≡ (serve (take_from shape l ps es cs fs) g).answer → (step size (heap_after size rules xs) x).heap.classes c ≡ (serve (take_from shape l ps es cs fs) g).class
      → Turns before c now
  unfolding take_from on_run
  turns-by (p ∷ ps) es cs fs g dp de dc a k =
      let goods = subst (All (GoodPage shape)) dp (good size rules xs c).partial in
      let fit = all_fit (p ∷ ps) goods (subst (All (λ p. has_more shape p ≡ true)) dp (after-listed size rules xs c).partial) (subst (All (Busy shape)) dp (stores_observed size rules xs c).busy) in
      let f = fill_from_list shape shape.batch (p ∷ ps) in
      let are : blocks_of now.answer ≡ f.blocks = ap blocks_of a ∙ came 0 (rules c) l f es cs fs in
      let r = partial-run size rules xs c p fit.0 (λ m. omega (arith, ap (total m) dp)) in
      from-partial size rules xs c now (record { run = p.first; has = r.has; is = r.is })
      (λ w m.
      let y = fill_comes shape (shape-sound c) (rules c) (Fit size rules xs c) shape.batch (p ∷ ps) goods fit w (elem-count w f.blocks (rw are at m)) in
      let z = partial-run size rules xs c y.page y.is (λ i. omega (arith, y.among i, ap (total i) dp)) in
      record { run = y.page.first; has = z.has; is = z.is; block = y.block })
  turns-by [] (e ∷ es) cs fs g dp de dc a k =
      let p = reused shape e in
      let gp = (reused-empty shape (shape-sound c) e (subst (All (EmptyPage shape)) de (good size rules xs c).empty).0).good in
      let r = empty-run size rules xs c e es de in
      from_empty size rules xs c now (no-partial size rules xs c dp) e.first r.has
      (page-run p es cs fs gp a e.first (reused-first shape e) k) (page-blocks p es cs fs gp a e.first (reused-first shape e)) r.is (λ m. empty-last size rules xs c m e es de)
  turns-by [] [] (i ∷ cs) fs g dp de dc a k =
      let p = thawed shape i in
      let gp = (thawed-empty shape (shape-sound c) i).good in
      let r = cold-run size rules xs c i cs dc in
      let one = page-run p [] cs fs gp a i.first (thawed-first shape i) k in
      let blocks = page-blocks p [] cs fs gp a i.first (thawed-first shape i) in
      by_cases (is_medium shape)
      (λ m. from_empty size rules xs c now (no-partial size rules xs c dp) i.first r.has one blocks (r.idle, r.span m) (λ n. absurd (true≢false (sym m ∙ n))))
      (λ m. from-cold size rules xs c now (no-partial size rules xs c dp) i.first r.has one blocks (λ h. empty-listed size rules xs c m h de) (r.idle, r.small m) (λ n. cold-last size rules xs c n i cs dc))
  turns-by [] [] [] fs g dp de dc a k =
      from-new size rules xs c now (no-partial size rules xs c dp)
      (λ h. idle-listed size rules xs c h.run h.has h.is.0 de dc)
      (λ h. idle-listed size rules xs c h.run h.has h.is.0 de dc)
      (go g a k)
    where
      go : (g : Option ℕ) → (step size (heap_after size rules xs) x).answer ≡ (on_run shape l fs g).answer → (step size (heap_after size rules xs) x).heap.classes c ≡ (on_run shape l fs g).class
          → (w : ℕ) → elem w (blocks_of now.answer) ≡ true → FromOneRun (before ++ now ∷ []) c (blocks_of now.answer)
      go none a k w m = let z : elem w [] ≡ true = rw a at m in absurd (false≢true z)
      go (some q) a k w m = page-run (carve shape q true) [] [] fs (carve-empty shape (shape-sound c) (is_medium shape) q true).good a q (carve-first shape q true) k

pub sources : (size : ℕ) (rules : Rules) (xs : List Call) → Sources size rules xs
sources size rules xs = record {
  turns = λ x c h l e u.
      let s = (heap_after size rules xs).classes c in
      let r = serves size (heap_after size rules xs) x c l h e u in
      turns-by size rules xs x c l s.partial s.empty s.cold s.full r.given refl refl refl r.answers r.leaves;
}
