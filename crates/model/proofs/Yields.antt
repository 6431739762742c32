-- A listed page always yields a block, so a take is empty only if the arena was asked and gave none.
use Rattle.facts.proofs.Prelude.{ℕ, ◌-◌, ◌≤◌, arith, Bool, true, false, cond, not, ◌&&◌, false≢true, true≢false, List, [], ◌∷◌, map, Option, none, some, Option·none-ne-some}
use Rattle.facts.proofs.Prelude.{Option·some-ne-none, Option·some-injective, ◌≡◌, refl, sym, ap, ◌∙◌, subst, eqb, ltb, length, length-append, length-reverse, length-take}
use Rattle.facts.proofs.Prelude.{take-append_seam, ltb-true, eqb-true, ne_eqb, lt-ltb, not-true, not-false, is_nil, every, All, elem, distinct, by_cases, and_left, and_right}
use Rattle.words.specs.Word.{count_of, page_of}
use Rattle.classes.specs.declared.Shape.{Shape}
use Rattle.classes.specs.Shape.{shape_of}
use Rattle.classes.specs.way.Sound.{Sound}
use Rattle.classes.proofs.Shapes.{shape-sound}
use Rattle.rules.specs.declared.Limits.{Limits}
use Rattle.rules.specs.Rules.{Rules}
use Rattle.model.specs.declared.Destination.{Destination}
use Rattle.model.specs.declared.Destination.TheVariants.{ToEmpty, ToCold, ToArena}
use Rattle.model.specs.Calls as Calls
use Rattle.model.specs.Calls.{Call, Request, Way, turned, straight, to_class, way_of, blocks_of, fates}
use Rattle.model.specs.Page.{Page, is_medium, words_from, carve_as, carve, is_out, none_out, has_more, carved_now, pop, returned, retire, reused}
use Rattle.model.specs.Class.{Class, lists, Cold, Result, Ask, done, asks, serve, refuse, stays, after, fill_from_list, served, thawed, on_run, take_from}
use Rattle.model.specs.Release.{Found, Site, Settled, find, in_partial, in_full, or_else, map_found, locate, destination_in, park, park_in, set_retired, settle, on_page, site_of_first, release_list}
use Rattle.model.specs.Chunks.{starts_at, blocks_on, fits_on, chunk_fits, settle_chunk, settle_chunks, release_chunks, answer}
use Rattle.model.specs.Heap.{Heap, step, route, class_call, interact, finish, new_heap}
use Rattle.model.specs.History.{heap_from, heap_after}
use Rattle.model.specs.Yields.{Listed, TakeYields, refuses, yields, asks-first}
use Rattle.model.specs.Demands.{Yielding}
use Rattle.model.proofs.Update.{update_all}
use Rattle.model.proofs.NewRun.{length-words}
use Rattle.model.proofs.Pages.{all_append}
use Rattle.model.proofs.Find.{all-at, FoundLaws, found-law, first_of, page_in, located-first, Skips, partial-skips, full-skips}
use Rattle.model.proofs.Alone.{direct-keeps}

nil_length : (l : List ℕ) → is_nil l ≡ false → 1 ≤ length l
nil_length [] e = absurd (true≢false e)
nil_length (x ∷ l) e = omega arith

pub length_nil : (l : List ℕ) → 1 ≤ length l → is_nil l ≡ false
length_nil [] h = absurd (omega arith)
length_nil (x ∷ l) h = refl

-- a page that has a block to give
abbrev pub More : Shape → Page → Type 0
More sh p = has_more sh p ≡ true

module _ (sh : Shape) (ok : Sound sh) (lim : Limits) where
  abbrev Less : Page → Type 0
  Less p = has_more sh p ≡ false

  abbrev Again : Page → Type 0
  Again p = has_more sh (reused sh p) ≡ true

  carve-more : (b : Bool) (q : ℕ) (v : Bool) → More sh (carve_as sh b q v)
  unfolding has_more carve_as
  carve-more true q v = rw (length_nil (words_from sh q 0 sh.capacity) (omega (arith, length-words sh q 0 sh.capacity, ok.blocks))) refl
  carve-more false q v = lt-ltb 0 sh.capacity (omega (arith, ok.blocks))

  return_more : (w : ℕ) (ws : List ℕ) (p : Page) → More sh (returned (w ∷ ws) p)
  unfolding has_more returned
  return_more w ws p = refl

  return_again : (w : ℕ) (ws : List ℕ) (p : Page) → Again (returned (w ∷ ws) p)
  unfolding has_more returned reused
  return_again w ws p = refl

  retire-again : (p : Page) → Again (retire p)
  unfolding retire reused
  retire-again p = carve-more (is_medium sh) p.first false

  -- takes: a page with more gives a block
  pub pop-gives : (n : ℕ) (p : Page) → 1 ≤ n → More sh p → 1 ≤ length (pop sh n p).blocks
  unfolding pop has_more carved_now
  pop-gives n p h m =
      rw (length-append, length-words, length-reverse, length-take)
      (by_cases (is_nil p.free)
      (λ e. let c : ltb p.carved sh.capacity ≡ true = rw e at m in omega (arith, ltb-true p.carved sh.capacity c))
      (λ e. omega (arith, nil_length p.free e)))

  pub fill_gives : (n : ℕ) (p : Page) (ps : List Page) → 1 ≤ n → More sh p → 1 ≤ length (fill_from_list sh n (p ∷ ps)).blocks
  unfolding fill_from_list after
  fill_gives n p ps h m = rw (ne_eqb n 0 (omega arith)) (rw length-append (omega (arith, pop-gives n p h m)))

  fill_less : (n : ℕ) (ps : List Page) → All Less (fill_from_list sh n ps).full
  unfolding fill_from_list after
  fill_less n [] = tt
  fill_less n (p ∷ ps) =
      let ih = fill_less (n - length (pop sh n p).blocks) ps in
      by_cases (eqb n 0)
      (λ e. rw e tt)
      (λ e. rw e (by_cases (stays sh (pop sh n p).page) (λ b. rw b ih) (λ b. rw b (b, ih))))

  fill_more : (n : ℕ) (ps : List Page) → All (More sh) ps → All (More sh) (fill_from_list sh n ps).partial
  unfolding fill_from_list after
  fill_more n [] h = tt
  fill_more n (p ∷ ps) h =
      let ih = fill_more (n - length (pop sh n p).blocks) ps h.1 in
      by_cases (eqb n 0)
      (λ e. rw e h)
      (λ e. rw e (by_cases (stays sh (pop sh n p).page) (λ b. rw b (b, ih)) (λ b. rw b ih)))

  module _ (l : List ℕ) (p : Page) (ps es : List Page) (cs : List Cold) (fs : List Page) (m : More sh p) where
    abbrev served_from : Result
    served_from = served l (fill_from_list sh sh.batch (p ∷ ps)) es cs fs

    pub served-yields : is_nil (blocks_of served_from.answer) ≡ false
    unfolding served
    served-yields = rw take-append_seam (length_nil (fill_from_list sh sh.batch (p ∷ ps)).blocks (fill_gives sh.batch p ps ok.gives m))

    served-listed : All (More sh) ps → All Again es → All Less fs → Listed sh served_from.class
    unfolding served
    served-listed y z u = record {
      partial = fill_more sh.batch (p ∷ ps) (m, y);
      empty = z;
      full = all_append Less (fill_from_list sh sh.batch (p ∷ ps)).full fs (fill_less sh.batch (p ∷ ps)) u;
    }

  pub thawed-more : (c : Cold) → More sh (thawed sh c)
  unfolding thawed
  thawed-more c = carve-more (is_medium sh) c.first _

  pub new-more : (q : ℕ) (v : Bool) → More sh (carve sh q v)
  new-more q v = carve-more (is_medium sh) q v

  take-yields : (l : List ℕ) (ps es : List Page) (cs : List Cold) (fs : List Page) → All (More sh) ps → All Again es → TakeYields (take_from sh l ps es cs fs)
  unfolding take_from on_run
  take-yields l (p ∷ ps) es cs fs y z = yields (served-yields l p ps es cs fs y.0)
  take-yields l [] (e ∷ es) cs fs y z = yields (served-yields l (reused sh e) [] es cs fs z.0)
  take-yields l [] [] (c ∷ cs) fs y z = yields (served-yields l (thawed sh c) [] [] cs fs (thawed-more c))
  take-yields l [] [] [] fs y z = asks-first (λ q. served-yields l _ [] [] [] fs (new-more q _))

  yields-cond : (b : Bool) (x y : Ask) → TakeYields x → TakeYields y → TakeYields (cond b x y)
  yields-cond true x y p q = p
  yields-cond false x y p q = q

  refuse-yields : (s : Class) (n : ℕ) → TakeYields (refuse s n)
  refuse-yields s n = refuses refl

  pub answer-yields : (s : Class) (h : ℕ) (l : List ℕ) → All (More sh) s.partial → All Again s.empty → TakeYields (answer sh lim s (Calls.take h l))
  unfolding answer
  answer-yields s h l y z = search (yields-cond, refuse-yields, take-yields l s.partial s.empty s.cold s.full y z)

  -- every request leaves the class so, whatever it is given
  pub data KeepsListed : Ask → Type 0 where
    keeps-done : {r : Result} → Listed sh r.class → KeepsListed (done r)
    keeps-asks : {n : ℕ} {k : Option ℕ → Result} → ((g : Option ℕ) → Listed sh (k g).class) → KeepsListed (asks n k)

  keeps-cond : (b : Bool) (x y : Ask) → (b ≡ true → KeepsListed x) → (b ≡ false → KeepsListed y) → KeepsListed (cond b x y)
  keeps-cond true x y p q = p refl
  keeps-cond false x y p q = q refl

  keeps-refuse : (s : Class) (n : ℕ) → Listed sh s → KeepsListed (refuse s n)
  keeps-refuse s n y = keeps-done y

  run-listed : (l : List ℕ) (fs : List Page) → All Less fs → (g : Option ℕ) → Listed sh (on_run sh l fs g).class
  unfolding on_run
  run-listed l fs u none = record { partial = tt; empty = tt; full = u }
  run-listed l fs u (some q) = served-listed l _ [] [] [] fs (new-more q _) tt tt u

  take-keeps : (l : List ℕ) (ps es : List Page) (cs : List Cold) (fs : List Page) → Listed sh (lists ps es cs fs) → KeepsListed (take_from sh l ps es cs fs)
  unfolding take_from
  take-keeps l (p ∷ ps) es cs fs y = keeps-done (served-listed l p ps es cs fs y.partial.0 y.partial.1 y.empty y.full)
  take-keeps l [] (e ∷ es) cs fs y = keeps-done (served-listed l (reused sh e) [] es cs fs y.empty.0 tt y.empty.1 y.full)
  take-keeps l [] [] (c ∷ cs) fs y = keeps-done (served-listed l (thawed sh c) [] [] cs fs (thawed-more c) tt tt y.full)
  take-keeps l [] [] [] fs y = keeps-asks (run-listed l fs y.full)

  -- a page with blocks out: the class without it, and with another that has more
  pub record SiteLaw (t : Page → Bool) (s : Class) (x : Site) : Type 0 where
    pub passes : t x.page ≡ true
    rest : Listed sh x.without
    put : (p : Page) → More sh p → Listed sh (x.with p)
    skips : Skips s x

  abbrev pub SiteLaws : (Page → Bool) → Class → Option Site → Type 0
  SiteLaws t s none = Unit {0}
  SiteLaws t s (some x) = SiteLaw t s x

  module _ (t : Page → Bool) (s : Class) (y : Listed sh s) where
    partial-site : (o : Option Found) → FoundLaws t s.partial o → SiteLaws t s (map_found (in_partial s) o)
    unfolding in_partial
    partial-site none h = tt
    partial-site (some f) h =
        let all = (all-at (More sh) f.before f.page f.behind).0 (subst (All (More sh)) h.is y.partial) in
        record {
          passes = h.passes;
          rest = record { partial = all.1; empty = y.empty; full = y.full };
          put = λ p m. record { partial = (all-at (More sh) f.before p f.behind).1 (m, all.1); empty = y.empty; full = y.full };
          skips = partial-skips t s f h;
        }

    full-site : (o : Option Found) → FoundLaws t s.full o → SiteLaws t s (map_found (in_full s) o)
    unfolding in_full
    full-site none h = tt
    full-site (some f) h =
        let others = ((all-at Less f.before f.page f.behind).0 (subst (All Less) h.is y.full)).1 in
        record {
          passes = h.passes;
          rest = record { partial = y.partial; empty = y.empty; full = others };
          put = λ p m. record { partial = (m, y.partial); empty = y.empty; full = others };
          skips = full-skips t s f h;
        }

    either-site : (x z : Option Site) → SiteLaws t s x → SiteLaws t s z → SiteLaws t s (or_else x z)
    either-site none z p q = q
    either-site (some x) z p q = p

    pub located : SiteLaws t s (locate t s)
    unfolding locate
    located = either-site (map_found (in_partial s) (find t s.partial)) (map_found (in_full s) (find t s.full)) (partial-site (find t s.partial) (found-law t s.partial)) (full-site (find t s.full) (found-law t s.full))

  -- parking leaves the pages with blocks out
  record Parked (s : Class) (b : Settled) : Type 0 where
    listed : Listed sh b.class
    skip : (u : Page → Bool) → first_of u b.class ≡ first_of u s

  module _ (h : ℕ) (s : Class) (p : Page) (y : Listed sh s) (m : Again p) where
    park_in_lem : (t : Destination) → Parked s (park_in sh h s p t)
    park_in_lem ToEmpty = record { listed = record { partial = y.partial; empty = (m, y.empty); full = y.full }; skip = λ u. refl }
    park_in_lem ToCold = record { listed = record { partial = y.partial; empty = y.empty; full = y.full }; skip = λ u. refl }
    park_in_lem ToArena = record { listed = y; skip = λ u. refl }

    parked : Parked s (park sh lim h s p)
    unfolding park
    parked = park_in_lem (destination_in sh lim s)

  -- one page's release, of at least one block: every other page is found as before
  pub record SettledLaw (s : Class) (q : ℕ) (b : Settled) : Type 0 where
    pub listed : Listed sh b.class
    pub skip : (r : ℕ) → eqb q r ≡ false → first_of (starts_at r) b.class ≡ first_of (starts_at r) s

  module _ (h : ℕ) (t : Page → Bool) (s : Class) (x : Site) (k : SiteLaw t s x) (w : ℕ) (ws : List ℕ) where
    abbrev back : Page
    back = returned (w ∷ ws) x.page

    back_at : (r : ℕ) → starts_at r back ≡ starts_at r x.page
    unfolding returned
    back_at r = refl

    parked-law : (p : Page) → Again p → SettledLaw s x.page.first (park sh lim h x.without p)
    parked-law p m =
        let l = parked h x.without p k.rest m in
        record { listed = l.listed; skip = λ r e. l.skip (starts_at r) ∙ k.skips.without (starts_at r) e }

    set_retired-law : (b : Settled) → SettledLaw s x.page.first b → SettledLaw s x.page.first (set_retired b)
    set_retired-law b l = record { listed = l.listed; skip = l.skip }

    leave-law : (retires : Bool) → SettledLaw s x.page.first (cond retires (set_retired (park sh lim h x.without (retire x.page))) (park sh lim h x.without back))
    leave-law true = set_retired-law _ (parked-law (retire x.page) (retire-again x.page))
    leave-law false = parked-law back (return_again w ws x.page)

    settle-law : (retires : Bool) → SettledLaw s x.page.first (settle sh lim h retires (w ∷ ws) x)
    unfolding settle
    settle-law retires =
        by_cases (none_out sh back)
        (λ e. rw e (leave-law retires))
        (λ e. rw e (record { listed = k.put back (return_more w ws x.page); skip = λ r n. k.skips.with (starts_at r) back n (back_at r ∙ n) }))

  page-keeps : (h : ℕ) (s : Class) (w : ℕ) (ws : List ℕ) → Listed sh s → (o : Option Site) → SiteLaws (is_out sh w) s o → KeepsListed (on_page sh lim h s (w ∷ ws) o)
  unfolding on_page
  page-keeps h s w ws y none k = keeps-refuse s 10 y
  page-keeps h s w ws y (some x) k =
      keeps-cond (every (λ v. is_out sh v x.page) (w ∷ ws)) _ _ (λ e. keeps-done (settle-law h (is_out sh w) s x k w ws false).listed) (λ e. keeps-refuse s 11 y)

  list-keeps : (h : ℕ) (s : Class) (ws : List ℕ) → Listed sh s → is_nil ws ≡ false → KeepsListed (on_page sh lim h s ws (site_of_first sh s ws))
  list-keeps h s [] y n = absurd (true≢false n)
  list-keeps h s (w ∷ ws) y n = page-keeps h s w ws y (locate (is_out sh w) s) (located (is_out sh w) s y)

  -- chunks: each finds its page with its blocks, whatever the chunks before it did
  fits-page : (ws : List ℕ) (g : ℕ) (o o' : Option Site) → page_in o ≡ page_in o' → fits_on sh ws g o ≡ fits_on sh ws g o'
  fits-page ws g none none e = refl
  fits-page ws g none (some x) e = absurd (Option·none-ne-some x.page e)
  fits-page ws g (some x) none e = absurd (Option·some-ne-none x.page e)
  fits-page ws g (some x) (some x') e = ap (λ p. not (eqb (count_of g) 0) && eqb (count_of g) (length (blocks_on sh ws p))) (Option·some-injective x.page x'.page e)

  fits-still : (ws : List ℕ) (s s' : Class) (g : ℕ) → first_of (starts_at (page_of g)) s' ≡ first_of (starts_at (page_of g)) s → chunk_fits sh s ws g ≡ true → chunk_fits sh s' ws g ≡ true
  unfolding chunk_fits
  fits-still ws s s' g e h =
      fits-page ws g (locate (starts_at (page_of g)) s') (locate (starts_at (page_of g)) s)
      (located-first (starts_at (page_of g)) s' ∙ e ∙ sym (located-first (starts_at (page_of g)) s)) ∙ h

  pub all_fit : (ws : List ℕ) (q : ℕ) (s s' : Class) → ((r : ℕ) → eqb q r ≡ false → first_of (starts_at r) s' ≡ first_of (starts_at r) s)
      → (gs : List ℕ) → elem q (map page_of gs) ≡ false → every (chunk_fits sh s ws) gs ≡ true → every (chunk_fits sh s' ws) gs ≡ true
  all_fit ws q s s' same [] n h = refl
  all_fit ws q s s' same (g ∷ gs) n h =
      let a = and_left (chunk_fits sh s ws g) (every (chunk_fits sh s ws) gs) h in
      let b = and_right (chunk_fits sh s ws g) (every (chunk_fits sh s ws) gs) h in
      by_cases (eqb q (page_of g))
      (λ e. absurd (true≢false (rw e at n)))
      (λ e. rw (fits-still ws s s' g (same (page_of g) e) a) (all_fit ws q s s' same gs (rw e at n) b))

  pub chunk-law : (h : ℕ) (s : Class) (ws : List ℕ) (g : ℕ) (o : Option Site) → SiteLaws (starts_at (page_of g)) s o → fits_on sh ws g o ≡ true → SettledLaw s (page_of g) (settle_chunk sh lim h s ws o)
  unfolding settle_chunk
  chunk-law h s ws g none k f = absurd (false≢true f)
  chunk-law h s ws g (some x) k f = go (blocks_on sh ws x.page) f
    where
      go : (bs : List ℕ) → (not (eqb (count_of g) 0) && eqb (count_of g) (length bs)) ≡ true → SettledLaw s (page_of g) (settle sh lim h true bs x)
      go [] f = absurd (true≢false (sym (and_right (not (eqb (count_of g) 0)) (eqb (count_of g) 0) f) ∙ not-true (eqb (count_of g) 0) (and_left (not (eqb (count_of g) 0)) (eqb (count_of g) 0) f)))
      go (w ∷ bs) f = subst (λ q. SettledLaw s q (settle sh lim h true (w ∷ bs) x)) (eqb-true x.page.first (page_of g) k.passes) (settle-law h (starts_at (page_of g)) s x k w bs true)

  chunks-listed : (h : ℕ) (ws : List ℕ) (s : Class) (gs : List ℕ) → Listed sh s → distinct (map page_of gs) ≡ true → every (chunk_fits sh s ws) gs ≡ true → Listed sh (settle_chunks sh lim h ws s gs).class
  unfolding settle_chunks chunk_fits
  chunks-listed h ws s [] y d f = y
  chunks-listed h ws s (g ∷ gs) y d f =
      let o = locate (starts_at (page_of g)) s in
      let k = chunk-law h s ws g o (located (starts_at (page_of g)) s y) (and_left (chunk_fits sh s ws g) (every (chunk_fits sh s ws) gs) f) in
      chunks-listed h ws (settle_chunk sh lim h s ws o).class gs k.listed (and_right (not (elem (page_of g) (map page_of gs))) (distinct (map page_of gs)) d)
      (all_fit ws (page_of g) s _ k.skip gs (not-true (elem (page_of g) (map page_of gs)) (and_left (not (elem (page_of g) (map page_of gs))) (distinct (map page_of gs)) d)) (and_right (chunk_fits sh s ws g) (every (chunk_fits sh s ws) gs) f))

  chunks-keep : (h : ℕ) (s : Class) (ws gs l : List ℕ) (c : Bool) → Listed sh s → not (distinct (map page_of gs) && (every (chunk_fits sh s ws) gs && c)) ≡ false
      → KeepsListed (done (record { class = (settle_chunks sh lim h ws s gs).class; answer = fates l; gives = (settle_chunks sh lim h ws s gs).gives }))
  chunks-keep h s ws gs l c y n =
      let a = distinct (map page_of gs) in
      let b = every (chunk_fits sh s ws) gs in
      let p = not-false (a && (b && c)) n in
      keeps-done (chunks-listed h ws s gs y (and_left a (b && c) p) (and_left b c (and_right a (b && c) p)))

  pub answer_keeps : (s : Class) → Listed sh s → (r : Request) → KeepsListed (answer sh lim s r)
  unfolding answer release_list release_chunks
  answer_keeps s y (Calls.take h l) = search (keeps-cond, keeps-refuse, take-keeps l s.partial s.empty s.cold s.full y)
  answer_keeps s y (Calls.give_back h ws) = search (keeps-cond, keeps-refuse, list-keeps) depth 9
  answer_keeps s y (Calls.give_chunks h ws gs fs) = search (keeps-cond, keeps-refuse, chunks-keep) depth 9

  serve-keeps : (q : Ask) (g : Option ℕ) → KeepsListed q → Listed sh (serve q g).class
  serve-keeps q g (keeps-done y) = y
  serve-keeps q g (keeps-asks y) = y g

-- after every history
abbrev pub AllListed : Heap → Type 0
AllListed H = (c : ℕ) → Listed (shape_of c) (H.classes c)

pub route-listed : (size : ℕ) (H : Heap) → AllListed H → (x : Call) (w : Way) → AllListed (route size H x w).heap
unfolding class_call interact finish
route-listed size H y x turned c = y c
route-listed size H y x straight c = rw (direct-keeps size H x).kept (y c)
route-listed size H y x (to_class d) c =
    let k = d.class in
    update_all H.classes (λ j s. Listed (shape_of j) s) k _
    (serve-keeps (shape_of k) (shape-sound k) (H.rules k) (answer (shape_of k) (H.rules k) (H.classes k) d.request) _ (answer_keeps (shape_of k) (shape-sound k) (H.rules k) (H.classes k) (y k) d.request))
    y c

pub history-listed : (size : ℕ) (H : Heap) → AllListed H → (xs : List Call) → AllListed (heap_from size H xs)
unfolding step
history-listed size H y [] = y
history-listed size H y (x ∷ xs) = history-listed size (step size H x).heap (route-listed size H y x (way_of x)) xs

pub after-listed : (size : ℕ) (rules : Rules) (xs : List Call) → AllListed (heap_after size rules xs)
unfolding new_heap
after-listed size rules xs = history-listed size (new_heap rules) (λ c. record { partial = tt; empty = tt; full = tt }) xs

pub yielding : (size : ℕ) (rules : Rules) (xs : List Call) → Yielding size rules xs
yielding size rules xs = record {
  listed = after-listed size rules xs;
  takes = λ c h l. answer-yields (shape_of c) (shape-sound c) _ _ h l (after-listed size rules xs c).partial (after-listed size rules xs c).empty;
}
