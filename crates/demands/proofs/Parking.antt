-- Document 02, A.9, holds of the exported calls: rows that are not refused cover the classes, their limits stand in the book, and no class
-- ever has more runs parked than they allow.
use Rattle.facts.proofs.Prelude.{ℕ, suc, ◌*◌, ◌≤◌, ◌<◌, arith, Bool, true, false, cond, ◌&&◌, false≢true, List, [], ◌∷◌, Option, none, some, ◌≡◌, refl, sym}
use Rattle.facts.proofs.Prelude.{ap, ◌∙◌, subst, leb, ltb, length, ltb-true, leb-true, le-leb, lt-ltb, le-ltb, is_nil, every, by_cases, and_left, and_right}
use Rattle.words.specs.Limits.{class_rows}
use Rattle.words.specs.Word.{page_of}
use Rattle.classes.specs.declared.Shape.{Shape}
use Rattle.classes.specs.Shape.{shape_of, small_shape, medium_shape, class_count, pool_id}
use Rattle.classes.proofs.Shapes.{number-low, number-pool, shape-alike}
use Rattle.rules.specs.declared.Limits.{Limits}
use Rattle.rules.specs.Rules.{Rules, plain_rules, limits_in, rows_in, rules_of, Fit}
use Rattle.rules.proofs.Cover.{rows_cover, rules-fit, plain-rules}
use Rattle.model.specs.Calls as Calls
use Rattle.model.specs.Calls.{Call, is_refused, Request, Way, turned, straight, to_class, way_of}
use Rattle.model.specs.Page.{Page, is_out, returned, retire, none_out}
use Rattle.model.specs.Class.{Class, Cold, lists, Result, Ask, done, asks, serve, refuse, served, on_run, take_from}
use Rattle.model.specs.Destination.{keeps_empty, destination_of, fate_of}
use Rattle.model.specs.Release as Release
use Rattle.model.specs.Release.{Site, in_partial, in_full, locate, park, settle, on_page, site_of_first, release_list}
use Rattle.model.specs.Chunks.{starts_at, settle_chunk, settle_chunks, release_chunks, answer}
use Rattle.model.specs.Heap.{Heap, new_heap, step, route, class_call, interact, finish}
use Rattle.model.specs.Held.{fates_in}
use Rattle.model.specs.History.{events, heap_from, heap_after}
use Rattle.model.proofs.Update.{update_all}
use Rattle.model.proofs.Alone.{direct-keeps, step-rules}
use Rattle.model.proofs.Offers.{good}
use Rattle.refinement.proofs.Found.{Located, in_list, in_none, located}
use Rattle.demands.specs.Start.{Start, pages, rule_rows, rules, lent, Starts, calls}
use Rattle.demands.specs.Parking.{Within, goes_to, GroupsGo, Parking}
use Rattle.demands.proofs.Calls.{room}
use Rattle.demands.proofs.Starts.{represents, next-agrees}
use Rattle.demands.proofs.Fates.{freed-by, by_row}
use Rattle.demands.proofs.GroupFates.{groups-fated}

-- ---- one request of a class
module _ (sh : Shape) (lim : Limits) where
  abbrev In : Class → Type 0
  In s = Within sh lim s

  -- what comes of a request, whatever run it is given
  data Keeps : Ask → Type 0 where
    over : {r : Result} → In r.class → Keeps (done r)
    away : {n : ℕ} {k : Option ℕ → Result} → ((g : Option ℕ) → In (k g).class) → Keeps (asks n k)

  keeps-cond : (t : Bool) (x y : Ask) → Keeps x → Keeps y → Keeps (cond t x y)
  keeps-cond true x y p q = p
  keeps-cond false x y p q = q

  keeps-refuse : (s : Class) (n : ℕ) → In s → Keeps (refuse s n)
  keeps-refuse s n y = over y

  -- ---- takes only have runs out of the stores
  fewer : (ps : List Page) (e : Page) (es : List Page) (cs : List Cold) (fs ps' fs' : List Page) → In (lists ps (e ∷ es) cs fs) → In (lists ps' es cs fs')
  fewer ps e es cs fs ps' fs' y = record { empty = omega (arith, y.empty); cold = y.cold; pages = omega (arith, y.pages) }

  colder : (ps es : List Page) (c : Cold) (cs : List Cold) (fs ps' fs' : List Page) → In (lists ps es (c ∷ cs) fs) → In (lists ps' es cs fs')
  colder ps es c cs fs ps' fs' y = record { empty = y.empty; cold = omega (arith, y.cold); pages = y.pages }

  as_were : (ps es : List Page) (cs : List Cold) (fs ps' fs' : List Page) → In (lists ps es cs fs) → In (lists ps' es cs fs')
  as_were ps es cs fs ps' fs' y = record { empty = y.empty; cold = y.cold; pages = y.pages }

  take-keeps : (l : List ℕ) (ps es : List Page) (cs : List Cold) (fs : List Page) → In (lists ps es cs fs) → Keeps (take_from sh l ps es cs fs)
  unfolding take_from served on_run
  take-keeps l (p ∷ ps) es cs fs y = over (as_were (p ∷ ps) es cs fs _ _ y)
  take-keeps l [] (e ∷ es) cs fs y = over (fewer [] e es cs fs _ _ y)
  take-keeps l [] [] (c ∷ cs) fs y = over (colder [] [] c cs fs _ _ y)
  take-keeps l [] [] [] fs y = away {k = on_run sh l fs} (λ g. run-keeps g)
    where
      run-keeps : (g : Option ℕ) → In (on_run sh l fs g).class
      run-keeps none = as_were [] [] [] fs [] fs y
      run-keeps (some q) = as_were [] [] [] fs _ _ y

  -- ---- a run is parked where there is room
  park-keeps : (h : ℕ) (s : Class) (p : Page) → In s → In (park sh lim h s p).class
  unfolding park destination_of
  park-keeps h s p y =
      by_cases (keeps_empty sh lim (length s.empty))
      (λ t. rw t (record {
        empty = ltb-true (length s.empty) lim.empty (and_left (ltb (length s.empty) lim.empty) _ t);
        cold = y.cold;
        pages = leb-true (suc (length s.empty) * sh.pages) sh.emptypages (and_right (ltb (length s.empty) lim.empty) _ t);
      }))
      (λ t. by_cases (ltb (length s.cold) lim.cold)
      (λ u. rw (t, u) (record { empty = y.empty; cold = ltb-true (length s.cold) lim.cold u; pages = y.pages }))
      (λ u. rw (t, u) y))

  -- a page with blocks out leaves the stores alone
  record SiteIn (x : Site) : Type 0 where
    rest : In x.without
    put : (p : Page) → In (x.with p)

  site_in : {t : Page → Bool} {s : Class} {x : Site} → In s → Located t s (some x) → SiteIn x
  unfolding in_partial in_full
  site_in y (in_list f k) = record { rest = record { empty = y.empty; cold = y.cold; pages = y.pages }; put = λ p. record { empty = y.empty; cold = y.cold; pages = y.pages } }
  site_in y (in_none f k) = record { rest = record { empty = y.empty; cold = y.cold; pages = y.pages }; put = λ p. record { empty = y.empty; cold = y.cold; pages = y.pages } }

  settle-keeps : (h : ℕ) (retires : Bool) (ws : List ℕ) (x : Site) → SiteIn x → In (settle sh lim h retires ws x).class
  unfolding settle
  settle-keeps h retires ws x y =
      by_cases (none_out sh (returned ws x.page))
      (λ t. rw t (leaves retires))
      (λ t. rw t (y.put (returned ws x.page)))
    where
      leaves : (u : Bool) → In (cond u (Release.set_retired (park sh lim h x.without (retire x.page))) (park sh lim h x.without (returned ws x.page))).class
      leaves true = park-keeps h x.without (retire x.page) y.rest
      leaves false = park-keeps h x.without (returned ws x.page) y.rest

  page-keeps : (h : ℕ) {t : Page → Bool} (s : Class) (ws : List ℕ) → In s → (o : Option Site) → Located t s o → Keeps (on_page sh lim h s ws o)
  unfolding on_page
  page-keeps h s ws y none l = over y
  page-keeps h s ws y (some x) l =
      by_cases (every (λ w. is_out sh w x.page) ws) (λ t. rw t (over (settle-keeps h false ws x (site_in y l)))) (λ t. rw t (over y))

  first-keeps : (h : ℕ) (s : Class) (ws : List ℕ) → In s → Keeps (on_page sh lim h s ws (site_of_first sh s ws))
  unfolding on_page
  first-keeps h s [] y = over y
  first-keeps h s (w ∷ ws) y = page-keeps h s (w ∷ ws) y _ (located _ s)

  chunk-keeps : (h : ℕ) {t : Page → Bool} (s : Class) (ws : List ℕ) → In s → (o : Option Site) → Located t s o → In (settle_chunk sh lim h s ws o).class
  unfolding settle_chunk
  chunk-keeps h s ws y none l = y
  chunk-keeps h s ws y (some x) l = settle-keeps h true _ x (site_in y l)

  chunks-keep : (h : ℕ) (ws : List ℕ) (s : Class) (gs : List ℕ) → In s → In (settle_chunks sh lim h ws s gs).class
  unfolding settle_chunks
  chunks-keep h ws s [] y = y
  chunks-keep h ws s (g ∷ gs) y =
      chunks-keep h ws (settle_chunk sh lim h s ws (locate (starts_at (page_of g)) s)).class gs
      (chunk-keeps h s ws y (locate (starts_at (page_of g)) s) (located (starts_at (page_of g)) s))

  chunks-over : (h : ℕ) (ws : List ℕ) (s : Class) (gs l : List ℕ) → In s → (let b = settle_chunks sh lim h ws s gs in Keeps (done (record { class = b.class; answer = Calls.fates l; gives = b.gives })))
  chunks-over h ws s gs l y = over (chunks-keep h ws s gs y)

  answer_keeps : (s : Class) → In s → (r : Request) → Keeps (answer sh lim s r)
  unfolding answer release_list release_chunks
  answer_keeps s y (Calls.take h l) = search (keeps-cond, keeps-refuse, take-keeps l s.partial s.empty s.cold s.full (as_were s.partial s.empty s.cold s.full s.partial s.full y)) depth 9
  answer_keeps s y (Calls.give_back h ws) = search (keeps-cond, keeps-refuse, first-keeps) depth 9
  answer_keeps s y (Calls.give_chunks h ws gs fs) = search (keeps-cond, keeps-refuse, chunks-over) depth 9

  serve-keeps : (q : Ask) (g : Option ℕ) → Keeps q → In (serve q g).class
  serve-keeps q g (over y) = y
  serve-keeps q g (away y) = y g

-- ---- after every history
abbrev AllWithin : Heap → Type 0
AllWithin H = (c : ℕ) → Within (shape_of c) (H.rules c) (H.classes c)

route-within : (n : ℕ) (H : Heap) → AllWithin H → (x : Call) (w : Way) → AllWithin (route n H x w).heap
unfolding class_call interact finish
route-within n H y x turned c = y c
route-within n H y x straight c = rw ((direct-keeps n H x).kept, (direct-keeps n H x).ruled) (y c)
route-within n H y x (to_class d) c =
    let k = d.class in
    let lim = H.rules k in
    update_all H.classes (λ j s. Within (shape_of j) (H.rules j) s) k _
    (serve-keeps (shape_of k) lim (answer (shape_of k) lim (H.classes k) d.request) _ (answer_keeps (shape_of k) lim (H.classes k) (y k) d.request))
    y c

within-from : (n : ℕ) (H : Heap) → AllWithin H → (xs : List Call) → AllWithin (heap_from n H xs)
unfolding step
within-from n H y [] = y
within-from n H y (x ∷ xs) = within-from n (step n H x).heap (route-within n H y x (way_of x)) xs

rules-from : (n : ℕ) (H : Heap) (xs : List Call) → (heap_from n H xs).rules ≡ H.rules
rules-from n H [] = refl
rules-from n H (x ∷ xs) = rw (rules-from n (step n H x).heap xs) (step-rules n H x)

pub rules-after : (n : ℕ) (rules : Rules) (xs : List Call) → (heap_after n rules xs).rules ≡ rules
unfolding new_heap
rules-after n rules xs = rules-from n (new_heap rules) xs

within-after : (n : ℕ) (rules : Rules) (xs : List Call) (c : ℕ) → Within (shape_of c) (rules c) ((heap_after n rules xs).classes c)
unfolding new_heap
within-after n rules xs c =
    subst (λ (r : Rules). Within (shape_of c) (r c) ((heap_after n rules xs).classes c)) (rules-after n rules xs)
    (within-from n (new_heap rules) (λ k. record { empty = omega arith; cold = omega arith; pages = omega arith }) xs c)

-- ---- where an emptied run goes
module _ (c : ℕ) (lim : Limits) (e k : ℕ) where
  small-goes : Fit lim → c < 64 → destination_of (shape_of c) lim e k ≡ goes_to (ltb e lim.empty) (ltb k lim.cold)
  unfolding destination_of shape_of small_shape
  small-goes f h =
      by_cases (ltb e lim.empty)
      (λ t. let l : suc e * 1 ≤ 256 = omega (arith, ltb-true e lim.empty t, f.empty) in rw (lt-ltb c class_count (omega arith), lt-ltb c 64 h, t, le-leb (suc e * 1) 256 l))
      (λ t. rw (lt-ltb c class_count (omega arith), lt-ltb c 64 h, t))

  medium-goes : 64 ≤ c → c < class_count → destination_of (shape_of c) lim e k ≡ goes_to (ltb e lim.empty && leb (suc e * (shape_of c).pages) 128) (ltb k lim.cold)
  unfolding destination_of shape_of medium_shape
  medium-goes h l = rw (lt-ltb c class_count l, le-ltb c 64 h)

nil_rules : (rows : List ℕ) → is_nil rows ≡ true → rules_of rows ≡ plain_rules
nil_rules [] e = plain-rules
nil_rules (x ∷ rows) e = absurd (false≢true e)

-- the limits go by the number
limits-alike : (rows : List ℕ) (c : ℕ) → ltb c class_count ≡ true → rules_of rows (pool_id c) ≡ rules_of rows c
unfolding rules_of
limits-alike rows c low = ap (limits_in (rows_in rows)) (number-pool c ∙ number-low c (ltb-true c class_count low))

pub parking : (s : Start) → Starts s → Parking s
parking s o =
    let rows = rule_rows s in
    let r = (room (pages s) rows (lent s) o).ruled in
    record {
      rows_cover = rows_cover rows r;
      no_rows = nil_rules rows;
      fit = rules-fit rows r;
      stand = λ xs c h. ((represents s o xs).rules c (lt-ltb c class_rows h)).same ∙ rw (rules-after (pages s) (rules s) (calls s xs));
      alike = λ c h. (limits-alike rows c (lt-ltb c class_count h), shape-alike c (lt-ltb c class_count h));
      within = λ xs. within-after (pages s) (rules s) (calls s xs);
      kept = λ c e k h. small-goes c (rules s c) e k (rules-fit rows r c) h;
      kept_spans = λ c e k h. medium-goes c (rules s c) e k h;
      fates = λ xs x c h q v ws e u has l m.
          let ys = calls s xs in
          let H = heap_after (pages s) (rules s) ys in
          let a = (next-agrees s o xs x).answer in
          let f = freed-by (pages s) H x c h ws e (good (pages s) (rules s) ys c) (ap is_refused (sym a) ∙ u) in
          let r = by_row (pages s) (rules s) ys c f q v has l m in
          let k = ap (λ (z : Rules). z c) (rules-after (pages s) (rules s) ys) in
          (λ z. a ∙ r.0 z ∙ ap (λ (lim : Limits). Calls.fate (fate_of (shape_of c) (destination_of (shape_of c) lim (length (H.classes c).empty) (length (H.classes c).cold)))) k, λ z. a ∙ r.1 z);
      group_fates = λ xs c h ws gs fs l u.
          let ys = calls s xs in
          let H = heap_after (pages s) (rules s) ys in
          let a = (next-agrees s o xs (Calls.release_bin_chunks c h ws gs fs)).answer in
          let g = groups-fated (pages s) (rules s) ys c h ws gs fs l (ap is_refused (sym a) ∙ u) in
          let k = ap (λ (z : Rules). z c) (rules-after (pages s) (rules s) ys) in
          rw a (subst (λ (lim : Limits). GroupsGo (events (pages s) (rules s) ys) c lim ws (length (H.classes c).empty) (length (H.classes c).cold) gs (fates_in (length gs) (step (pages s) H (Calls.release_bin_chunks c h ws gs fs)).answer)) k g);
    }
