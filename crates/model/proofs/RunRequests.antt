-- What a request does to the run of its class at page q, told from its answer: whether the class has it, and whether it is clean.
use Rattle.facts.proofs.Prelude.{ℕ, ◌+◌, ◌≤◌, arith, Bool, true, false, cond, not, ◌&&◌, ◌||◌, true≢false, false≢true, List, [], ◌∷◌, map, ◌++◌}
use Rattle.facts.proofs.Prelude.{Option, none, some, ◌≡◌, refl, sym, ap, ◌∙◌, eqb, length, drop, take-append_seam, eqb-true, eqb-false, eq-eqb}
use Rattle.facts.proofs.Prelude.{ne_eqb, not-true, not-false, is_nil, filter, every, elem, any, distinct, count, by_cases, and_left, and_right, and_no}
use lib.ListN as ListN
use Rattle.words.specs.Word.{count_of, page_of}
use Rattle.classes.specs.declared.Shape.{Shape}
use Rattle.classes.specs.way.Sound.{Sound}
use Rattle.rules.specs.declared.Limits.{Limits}
use Rattle.model.specs.Calls as Calls
use Rattle.model.specs.Calls.{Request, host_of, released_by}
use Rattle.model.specs.Page.{Page, is_out}
use Rattle.model.specs.Class.{Class, lists, Cold, Result, Ask, done, asks, refuse, take_from}
use Rattle.model.specs.Release.{Site, Settled, locate, settle, on_page, site_of_first, release_list}
use Rattle.model.specs.Chunks.{starts_at, blocks_on, fits_on, chunk_fits, chunked, chunked_on, settle_chunk, AllSettled, settle_chunks, release_chunks, answer}
use Rattle.model.specs.Yields.{Listed}
use Rattle.model.specs.Offered.{blocks_at, has_block, went_cold, went_back, fated_in, fated, zeroes}
use Rattle.model.proofs.Counts.{elem-count, count_in_lem, every-count, filter-le, filter_passes}
use Rattle.model.proofs.Sites.{Once, GoodClass, SiteLaw, SiteLaws, locate-law, Tells, locate-tells}
use Rattle.model.proofs.Weights.{weigh, new_weight, take_weight, SiteWeight, SiteWeights, site_weight, left_over, Weighs, settle-weighs}
use Rattle.model.proofs.RunsObserved.{each, clean, and_yes, any_passing, passing_any, block_of, one-run, weigh-once, weigh-parts, Counted, Back, apart, met, counted_back}
use Rattle.model.proofs.Fates.{chunks-fated}
use Rattle.model.proofs.Yields as Yields

turned : (m n : ℕ) (b : Bool) → eqb m n ≡ b → eqb n m ≡ b
turned m n true e = eq-eqb n m (sym (eqb-true m n e))
turned m n false e = ne_eqb n m (λ p. eqb-false m n e (sym p))

or_no : (b : Bool) → (b || false) ≡ b
or_no true = refl
or_no false = refl

module _ (sh : Shape) (q : ℕ) where
  no-fates : (t : ℕ → Bool) (gs : List ℕ) → fated_in t q gs [] ≡ false
  no-fates t [] = refl
  no-fates t (g ∷ gs) = refl

  pub unfated : (t : ℕ → Bool) (a : Request) (n : ℕ) → fated t sh q a (Calls.refused n) ≡ false
  unfolding fated
  unfated t (Calls.take h l) n = refl
  unfated t (Calls.give_back h ws) n = and_no (has_block sh q ws)
  unfated t (Calls.give_chunks h ws gs fs) n = no-fates t gs

-- the run at q is what is given
abbrev pub got_at : ℕ → Option ℕ → Bool
got_at q none = false
got_at q (some r) = eqb r q

module _ (sh : Shape) (ok : Sound sh) (lim : Limits) (q : ℕ) where
  -- what is told of the run afterwards
  abbrev pub has_next : Request → Option ℕ → Result → Bool → Bool
  has_next a g r h = got_at q g || (h && not (fated went_back sh q a r.answer))

  abbrev pub clean_next : Request → Option ℕ → Result → Bool → Bool
  clean_next a g r b = (got_at q g || zeroes sh q a r.answer) || (b && not (has_block sh q (released_by a r.answer)))

  pub record Follow (s : Class) (a : Request) (g : Option ℕ) (r : Result) : Type 0 where
    pub follow : Once sh r.class → (h b : Bool) → Counted sh ok q s h b → Counted sh ok q r.class (has_next a g r h) (clean_next a g r b)

  pub data Follows (s : Class) (a : Request) : Ask → Type 0 where
    follows-done : {r : Result} → Follow s a none r → Follows s a (done r)
    follows-asks : {n : ℕ} {k : Option ℕ → Result} → ((g : Option ℕ) → Follow s a g (k g)) → Follows s a (asks n k)

  follows-cond : (s : Class) (a : Request) (t : Bool) (x y : Ask) → (t ≡ true → Follows s a x) → (t ≡ false → Follows s a y) → Follows s a (cond t x y)
  follows-cond s a true x y f g = f refl
  follows-cond s a false x y f g = g refl

  -- ---- a refusal tells nothing
  refuse-follow : (s : Class) (a : Request) (n : ℕ) → Follow s a none (record { class = s; answer = Calls.refused n; gives = [] })
  unfolding has_block
  refuse-follow s a n = record { follow = λ one h b c. rw (unfated sh q went_back a n, unfated sh q went_cold a n, and_yes h, and_yes b) c }

  follows-refuse : (s : Class) (a : Request) (n : ℕ) → Follows s a (refuse s n)
  follows-refuse s a n = follows-done (refuse-follow s a n)

  -- ---- a take adds the run that is given
  nothing-back : (t : Bool) → has_block sh q (cond t [] []) ≡ false
  unfolding has_block
  nothing-back true = refl
  nothing-back false = refl

  untaken : (t : ℕ → Bool) (h : ℕ) (l : List ℕ) (x : Calls.Answer) → fated t sh q (Calls.take h l) x ≡ false
  unfolding fated
  untaken t h l x = refl

  take-follow : (s : Class) (h : ℕ) (l : List ℕ) (g : Option ℕ) (r : Result) → ((k : Bool → ℕ) → weigh sh q k r.class ≡ weigh sh q k s + new_weight sh q k g) → Follow s (Calls.take h l) g r
  take-follow s h l g r w = record {
    follow = λ one x b c.
        rw (untaken went_back h l r.answer, untaken went_cold h l r.answer, nothing-back (Calls.is_refused r.answer), and_yes x, and_yes b)
        (go g one x b c (w each) (w clean));
  }
    where
      go : (g : Option ℕ) → Once sh r.class → (x b : Bool) → Counted sh ok q s x b → weigh sh q each r.class ≡ weigh sh q each s + new_weight sh q each g → weigh sh q clean r.class ≡ weigh sh q clean s + new_weight sh q clean g
          → Counted sh ok q r.class (got_at q g || x) ((got_at q g || false) || b)
      go none one x b c e f = record { runs = omega (arith, c.runs); cleans = omega (arith, c.cleans) }
      go (some z) one x b c e f =
          by_cases (eqb z q)
          (λ d. let e' : weigh sh q each r.class ≡ weigh sh q each s + 1 = rw d at e in
          let f' : weigh sh q clean r.class ≡ weigh sh q clean s + 1 = rw d at f in
          rw d (record { runs = omega (arith, weigh-once sh ok q r.class one); cleans = omega (arith, weigh-once sh ok q r.class one, weigh-parts sh ok q s) }))
          (λ d. let e' : weigh sh q each r.class ≡ weigh sh q each s + 0 = rw d at e in
          let f' : weigh sh q clean r.class ≡ weigh sh q clean s + 0 = rw d at f in
          rw d (record { runs = omega (arith, c.runs); cleans = omega (arith, c.cleans) }))

  take-follows : (h : ℕ) (l : List ℕ) (ps es : List Page) (cs : List Cold) (fs : List Page) → Follows (lists ps es cs fs) (Calls.take h l) (take_from sh l ps es cs fs)
  unfolding take_from
  take-follows h l (p ∷ ps) es cs fs = follows-done (take-follow _ h l none _ (λ k. take_weight sh q k l (p ∷ ps) es cs fs none refl))
  take-follows h l [] (e ∷ es) cs fs = follows-done (take-follow _ h l none _ (λ k. take_weight sh q k l [] (e ∷ es) cs fs none refl))
  take-follows h l [] [] (c ∷ cs) fs = follows-done (take-follow _ h l none _ (λ k. take_weight sh q k l [] [] (c ∷ cs) fs none refl))
  take-follows h l [] [] [] fs = follows-asks (λ g. take-follow _ h l g _ (λ k. take_weight sh q k l [] [] [] fs g tt))

  -- ---- a release by list
  back-follow : (s : Class) (a : Request) (r : Result) → Back sh ok q (host_of a) s (released_by a r.answer) (λ t. fated t sh q a r.answer) r.class → Follow s a none r
  back-follow s a r k = record { follow = λ one h b c. counted_back sh ok q (host_of a) s (released_by a r.answer) (λ t. fated t sh q a r.answer) r.class h b c k }

  module _ (s : Class) (good : GoodClass sh s) (one : Once sh s) where
    -- no word of a page elsewhere is of the run at q, where there is one
    none_here : (x : Site) → SiteLaw sh s x → SiteWeight sh q each s x → starts_at q x.page ≡ false → (ws : List ℕ) → every (λ w. is_out sh w x.page) ws ≡ true → 1 ≤ weigh sh q each s → has_block sh q ws ≡ false
    unfolding has_block
    none_here x law weight e ws out n =
        by_cases (any (λ w. elem w (blocks_at sh q)) ws)
        (λ a. let p = any_passing (λ w. elem w (blocks_at sh q)) ws a in
        absurd (true≢false (sym (one-run sh ok q s x law weight one p.word (every-count (λ w. is_out sh w x.page) p.word ws out (elem-count p.word ws p.member)) p.passes n) ∙ e)))
        (λ a. a)

    some-here : (x : Site) → SiteLaw sh s x → starts_at q x.page ≡ true → (ws : List ℕ) (w : ℕ) → elem w ws ≡ true → is_out sh w x.page ≡ true → has_block sh q ws ≡ true
    unfolding has_block
    some-here x law e ws w m out = passing_any (λ v. elem v (blocks_at sh q)) ws w m (rw (← eqb-true x.page.first q e) (block_of sh ok w x.page law.page out))

    settled_back : (h : ℕ) (ws : List ℕ) (w : ℕ) → elem w ws ≡ true → (x : Site) → SiteLaw sh s x → ((k : Bool → ℕ) → SiteWeight sh q k s x) → every (λ v. is_out sh v x.page) ws ≡ true
        → (b : Settled) → Weighs sh q lim h s x.page b → Back sh ok q h s ws (λ t. has_block sh q ws && (t b.fate || false)) b.class
    settled_back h ws w m x law weight out b k =
        by_cases (starts_at q x.page)
        (λ e. let here = some-here x law e ws w m (every-count (λ v. is_out sh v x.page) w ws out (elem-count w ws m)) in
        met here b.fate x.page.virgin (λ t. rw here (or_no (t b.fate))) (λ f. rw e at (k.weighs f))
        (λ f. let y : weigh sh q f x.without + f x.page.virgin ≡ weigh sh q f s = rw e at (weight f).rest in omega arith))
        (λ e. apart (λ n. let none = none_here x law (weight each) e ws out n in (none, λ t. rw none)) (λ f. let y : weigh sh q f b.class + 0 ≡ weigh sh q f s + 0 = rw e at (k.weighs f) in omega arith))

    page-follows : (h w : ℕ) (ws : List ℕ) (o : Option Site) → SiteLaws sh s o → ((k : Bool → ℕ) → SiteWeights sh q k s o) → Follows s (Calls.give_back h (w ∷ ws)) (on_page sh lim h s (w ∷ ws) o)
    unfolding on_page fated
    page-follows h w ws none law weight = follows-refuse s _ 10
    page-follows h w ws (some x) law weight =
        follows-cond s _ (every (λ v. is_out sh v x.page) (w ∷ ws)) _ _
        (λ e. let b = settle sh lim h false (w ∷ ws) x in
        follows-done (back-follow s (Calls.give_back h (w ∷ ws)) _ (settled_back h (w ∷ ws) w (rw (eq-eqb w w refl)) x law weight e b (settle-weighs sh q lim h s x weight false (w ∷ ws)))))
        (λ e. follows-refuse s _ 11)

    list-follows : (h : ℕ) (ws : List ℕ) → is_nil ws ≡ false → Follows s (Calls.give_back h ws) (on_page sh lim h s ws (site_of_first sh s ws))
    list-follows h [] n = absurd (true≢false n)
    list-follows h (w ∷ ws) n = page-follows h w ws (locate (is_out sh w) s) (locate-law sh s good (is_out sh w)) (λ k. site_weight sh q k (is_out sh w) s)

  -- ---- a release by chunks: each finds its page, whatever those before it did
  module _ (h : ℕ) (ws : List ℕ) where
    data Among (s : Class) (gs : List ℕ) (r : AllSettled) : Type 0 where
      no : elem q (map page_of gs) ≡ false → ((t : ℕ → Bool) → fated_in t q gs r.fates ≡ false) → ((k : Bool → ℕ) → weigh sh q k r.class ≡ weigh sh q k s) → Among s gs r
      yes : elem q (map page_of gs) ≡ true → (v : ℕ) (b : Bool) → ((t : ℕ → Bool) → fated_in t q gs r.fates ≡ t v)
          → ((k : Bool → ℕ) → weigh sh q k r.class + k b ≡ weigh sh q k s + left_over sh h k v) → ((k : Bool → ℕ) → k b ≤ weigh sh q k s) → Among s gs r

    abbrev joined : Settled → AllSettled → AllSettled
    joined b r = record { class = r.class; fates = b.fate ∷ r.fates; gives = b.gives ++ r.gives }

    module _ (s : Class) (g : ℕ) (gs : List ℕ) (x : Site) (at : starts_at (page_of g) x.page ≡ true) (weight : (k : Bool → ℕ) → SiteWeight sh q k s x) (b : Settled) (w : Weighs sh q lim h s x.page b) (r : AllSettled) where
      starts : {b : Bool} → eqb q (page_of g) ≡ b → starts_at q x.page ≡ b
      starts e = ap (λ n. eqb n q) (eqb-true x.page.first (page_of g) at) ∙ turned q (page_of g) _ e

      here : eqb q (page_of g) ≡ true → elem q (map page_of gs) ≡ false → Among b.class gs r → Among s (g ∷ gs) (joined b r)
      here e n (no z f k) =
          yes (rw e) b.fate x.page.virgin (λ t. rw (e, f t) (or_no (t b.fate)))
          (λ m. let y : weigh sh q m b.class + m x.page.virgin ≡ weigh sh q m s + left_over sh h m b.fate = rw (starts e) at (w.weighs m) in omega (arith, k m))
          (λ m. let y : weigh sh q m x.without + m x.page.virgin ≡ weigh sh q m s = rw (starts e) at (weight m).rest in omega arith)
      here e n (yes z v d f k l) = absurd (true≢false (sym z ∙ n))

      same : eqb q (page_of g) ≡ false → (m : Bool → ℕ) → weigh sh q m b.class ≡ weigh sh q m s
      same e m = let y : weigh sh q m b.class + 0 ≡ weigh sh q m s + 0 = rw (starts e) at (w.weighs m) in omega arith

      there : eqb q (page_of g) ≡ false → Among b.class gs r → Among s (g ∷ gs) (joined b r)
      there e (no z f k) = no (rw (e, z)) (λ t. rw (e, f t)) (λ m. k m ∙ same e m)
      there e (yes z v d f k l) = yes (rw (e, z)) v d (λ t. rw (e, f t)) (λ m. omega (arith, k m, same e m)) (λ m. omega (arith, l m, same e m))

    one-among : (g : ℕ) (gs : List ℕ) (s : Class) (o : Option Site) → Yields.SiteLaws sh ok lim (starts_at (page_of g)) s o → ((k : Bool → ℕ) → SiteWeights sh q k s o) → fits_on sh ws g o ≡ true
        → elem (page_of g) (map page_of gs) ≡ false → (r : AllSettled) → Among (settle_chunk sh lim h s ws o).class gs r → Among s (g ∷ gs) (joined (settle_chunk sh lim h s ws o) r)
    unfolding settle_chunk
    one-among g gs s none law weight fit n r ih = absurd (false≢true fit)
    one-among g gs s (some x) law weight fit n r ih =
        let w = settle-weighs sh q lim h s x weight true (blocks_on sh ws x.page) in
        by_cases (eqb q (page_of g))
        (λ e. here s g gs x law.passes weight _ w r e (rw (eqb-true q (page_of g) e) n) ih)
        (λ e. there s g gs x law.passes weight _ w r e ih)

    chunks-among : (gs : List ℕ) (s : Class) → Listed sh s → distinct (map page_of gs) ≡ true → every (chunk_fits sh s ws) gs ≡ true → Among s gs (settle_chunks sh lim h ws s gs)
    unfolding settle_chunks chunk_fits
    chunks-among [] s y d f = no refl (λ t. refl) (λ k. refl)
    chunks-among (g ∷ gs) s y d f =
        let o = locate (starts_at (page_of g)) s in
        let law = Yields.located sh ok lim (starts_at (page_of g)) s y in
        let fit = and_left (chunk_fits sh s ws g) (every (chunk_fits sh s ws) gs) f in
        let k = Yields.chunk-law sh ok lim h s ws g o law fit in
        let n = not-true (elem (page_of g) (map page_of gs)) (and_left (not (elem (page_of g) (map page_of gs))) (distinct (map page_of gs)) d) in
        one-among g gs s o law (λ m. site_weight sh q m (starts_at (page_of g)) s) fit n _
        (chunks-among gs (settle_chunk sh lim h s ws o).class k.listed (and_right (not (elem (page_of g) (map page_of gs))) (distinct (map page_of gs)) d)
        (Yields.all_fit sh ok lim ws (page_of g) s _ k.skip gs n (and_right (chunk_fits sh s ws g) (every (chunk_fits sh s ws) gs) f)))

  module _ (s : Class) (good : GoodClass sh s) (one : Once sh s) (ws : List ℕ) where
    -- a chunk of the page at q has blocks of the run there
    chunk-here : (g : ℕ) → eqb q (page_of g) ≡ true → (o : Option Site) → SiteLaws sh s o → Tells (starts_at (page_of g)) s o → fits_on sh ws g o ≡ true → has_block sh q ws ≡ true
    unfolding blocks_on
    chunk-here g e none law tells f = absurd (false≢true f)
    chunk-here g e (some x) law tells f = go (filter (λ w. is_out sh w x.page) ws) refl f
      where
        go : (bs : List ℕ) → filter (λ w. is_out sh w x.page) ws ≡ bs → (not (eqb (count_of g) 0) && eqb (count_of g) (length bs)) ≡ true → has_block sh q ws ≡ true
        go [] d f = absurd (true≢false (sym (and_right (not (eqb (count_of g) 0)) (eqb (count_of g) 0) f) ∙ not-true (eqb (count_of g) 0) (and_left (not (eqb (count_of g) 0)) (eqb (count_of g) 0) f)))
        go (w ∷ bs) d f =
            let n : 1 ≤ count w (filter (λ w. is_out sh w x.page) ws) = rw (d, eq-eqb w w refl) (omega arith) in
            some-here s good one x law (ap (λ m. eqb m q) (eqb-true x.page.first (page_of g) tells) ∙ turned q (page_of g) true e) ws w
            (count_in_lem w ws (omega (arith, filter-le (λ v. is_out sh v x.page) w ws))) (filter_passes (λ v. is_out sh v x.page) w ws n)

    chunks-here : (gs : List ℕ) → every (chunk_fits sh s ws) gs ≡ true → elem q (map page_of gs) ≡ true → has_block sh q ws ≡ true
    unfolding chunk_fits
    chunks-here [] f e = absurd (false≢true e)
    chunks-here (g ∷ gs) f e =
        by_cases (eqb q (page_of g))
        (λ a. chunk-here g a (locate (starts_at (page_of g)) s) (locate-law sh s good (starts_at (page_of g))) (locate-tells (starts_at (page_of g)) s) (and_left (chunk_fits sh s ws g) (every (chunk_fits sh s ws) gs) f))
        (λ a. chunks-here gs (and_right (chunk_fits sh s ws g) (every (chunk_fits sh s ws) gs) f) (rw a at e))

    chunks-none : (gs : List ℕ) → every (chunked sh s gs) ws ≡ true → elem q (map page_of gs) ≡ false → 1 ≤ weigh sh q each s → has_block sh q ws ≡ false
    unfolding has_block chunked
    chunks-none gs c e n =
        by_cases (any (λ w. elem w (blocks_at sh q)) ws)
        (λ a. let p = any_passing (λ w. elem w (blocks_at sh q)) ws a in
        absurd (go p.word p.passes (locate (is_out sh p.word) s) (locate-law sh s good (is_out sh p.word)) (site_weight sh q each (is_out sh p.word) s) (locate-tells (is_out sh p.word) s)
        (every-count (chunked sh s gs) p.word ws c (elem-count p.word ws p.member))))
        (λ a. a)
      where
        go : (w : ℕ) → elem w (blocks_at sh q) ≡ true → (o : Option Site) → SiteLaws sh s o → SiteWeights sh q each s o → Tells (is_out sh w) s o → chunked_on gs o ≡ true → ⊥
        go w b none law weight tells f = false≢true f
        go w b (some x) law weight tells f =
            let y = eqb-true x.page.first q (one-run sh ok q s x law weight one w tells b n) in
            true≢false (sym (rw y at f) ∙ e)

    among-back : (h : ℕ) (gs : List ℕ) → every (chunk_fits sh s ws) gs ≡ true → every (chunked sh s gs) ws ≡ true → (r : AllSettled) → Among h ws s gs r → Back sh ok q h s ws (λ t. fated_in t q gs r.fates) r.class
    among-back h gs f c r (no z t k) = apart (λ n. (chunks-none gs c z n, t)) k
    among-back h gs f c r (yes z v b t k l) = met (chunks-here gs f z) v b t k l

    chunks-follows : (h : ℕ) (gs fs : List ℕ) → Listed sh s → not (distinct (map page_of gs) && (every (chunk_fits sh s ws) gs && every (chunked sh s gs) ws)) ≡ false
        → (let b = settle_chunks sh lim h ws s gs in Follows s (Calls.give_chunks h ws gs fs) (done (record { class = b.class; answer = Calls.fates (b.fates ++ drop (length gs) fs); gives = b.gives })))
    unfolding fated
    chunks-follows h gs fs y e =
        let d = distinct (map page_of gs) in
        let f = every (chunk_fits sh s ws) gs in
        let c = every (chunked sh s gs) ws in
        let p = not-false (d && (f && c)) e in
        let b = settle_chunks sh lim h ws s gs in
        let same : ListN.take (length gs) (b.fates ++ drop (length gs) fs) ≡ b.fates = rw (sym (chunks-fated sh lim h ws gs s).many, take-append_seam) in
        let k = among-back h gs (and_left f c (and_right d (f && c) p)) (and_right f c (and_right d (f && c) p)) b (chunks-among h ws gs s y (and_left d (f && c) p) (and_left f c (and_right d (f && c) p))) in
        follows-done (back-follow s (Calls.give_chunks h ws gs fs) (record { class = b.class; answer = Calls.fates (b.fates ++ drop (length gs) fs); gives = b.gives }) (rw same k))

  -- every request of a class
  pub answer-follows : (s : Class) → GoodClass sh s → Once sh s → Listed sh s → (a : Request) → Follows s a (answer sh lim s a)
  unfolding answer release_list release_chunks
  answer-follows s good one y (Calls.take h l) = search (follows-cond, follows-refuse, take-follows h l s.partial s.empty s.cold s.full)
  answer-follows s good one y (Calls.give_back h ws) = search (follows-cond, follows-refuse, list-follows s good one) depth 9
  answer-follows s good one y (Calls.give_chunks h ws gs fs) = search (follows-cond, follows-refuse, chunks-follows s good one ws h gs fs y) depth 10
