-- A release by list is refused exactly as the history and the list's words tell.
--     release-law                        the law of it and of a group release, which differ before number 15 and in number 11
--     list-returns                       it is not refused exactly if the list is `ListOut`
--     repeated, not-out, not-together    a list with a block out that stands twice is refused as 15, else one with a block that is not out as 10, one of
--                                        blocks of several runs as 11
--     word-returns                       so a block alone is released exactly if it is out, which is that it is an entry's not yet released
use Rattle.facts.proofs.Prelude.{ℕ, ◌+◌, ◌*◌, ◌^◌, ◌≤◌, ◌<◌, arith, mul-le-mul_right, Bool, true, false, cond, not, false≢true, true≢false, List}
use Rattle.facts.proofs.Prelude.{[], ◌∷◌, ◌↔◌, ◌⊎◌, inl, inr, Option, none, some, ◌≡◌, refl, sym, ap, ◌∙◌, eqb, eq-eqb, eqb-true, not-true}
use Rattle.facts.proofs.Prelude.{not-false, ltb-false, le-ltb, is_nil, filter, every, is_some, elem, distinct, count, by_cases, and_left}
use Rattle.words.specs.Host.{host_max, bad_host}
use Rattle.words.specs.Word.{kind_bits}
use Rattle.words.proofs.RoundTrip.{kind-block}
use Rattle.classes.specs.declared.Shape.{Shape}
use Rattle.classes.specs.Shape.{shape_of}
use Rattle.classes.specs.way.Sound.{Sound}
use Rattle.classes.proofs.Shapes.{shape-sound}
use Rattle.rules.specs.declared.Limits.{Limits}
use Rattle.rules.specs.Rules.{rules_of}
use Rattle.fields.specs.Ranges.{max_pages}
use Rattle.model.specs.Calls as Calls
use Rattle.model.specs.Calls.{Call, Answer, Named, names, host_of, is_refused}
use Rattle.model.specs.Page.{word_of, page_granules, is_out}
use Rattle.model.specs.Class.{Class, Ask, serve, refuse}
use Rattle.model.specs.Release.{Site, locate, of_kind, out_here, repeats, on_page, site_of_first, release_list}
use Rattle.model.specs.Chunks.{answer}
use Rattle.model.specs.Heap.{Heap}
use Rattle.model.specs.History.{Event, heap_after}
use Rattle.model.specs.Entries.{OutIn, AllOut}
use Rattle.model.proofs.Counts.{elem-count, every-count, filter-le, filter_passes, filter-keeps, filter-all, distinct-count}
use Rattle.model.proofs.Sites.{SiteLaws, Tells, locate-law, locate-tells}
use Rattle.model.proofs.Theorems.{outs}
use Rattle.refinement.proofs.OutTests.{once-here}
use Rattle.demands.specs.Run.{Opens, next, observed}
use Rattle.demands.specs.Returns.{Twice, BlockOf, OneRun, ListOut}
use Rattle.demands.proofs.Calls.{room}
use Rattle.demands.proofs.Observed.{observed-out, out-observed}
use Rattle.demands.proofs.Codes.{class_ask, class_run, next-host, next-answer, next-exactly}
use Rattle.demands.proofs.Sizes.{one-first}
use Rattle.demands.proofs.Places.{ReachedClass, reached-class, out-block, lies, lies-on, same-page}

-- ---- lists
pub elem-first : (w : ℕ) (ws : List ℕ) → elem w (w ∷ ws) ≡ true
elem-first w ws = rw (eq-eqb w w refl)

pub elem-later : (w v : ℕ) (ws : List ℕ) → elem v ws ≡ true → elem v (w ∷ ws) ≡ true
elem-later w v ws m = by_cases (eqb v w) (λ e. rw e) (λ e. rw (e, m))

elem-only : (w v : ℕ) → elem v (w ∷ []) ≡ true → v ≡ w
elem-only w v m = by_cases (eqb v w) (λ e. eqb-true v w e) (λ e. absurd (false≢true (rw e at m)))

pub every-elem : (t : ℕ → Bool) (ws : List ℕ) → ((w : ℕ) → elem w ws ≡ true → t w ≡ true) → every t ws ≡ true
every-elem t [] f = refl
every-elem t (w ∷ ws) f = rw (f w (elem-first w ws), every-elem t ws (λ v m. f v (elem-later w v ws m)))

pub elem-every : (t : ℕ → Bool) (ws : List ℕ) → every t ws ≡ true → (w : ℕ) → elem w ws ≡ true → t w ≡ true
elem-every t ws e w m = every-count t w ws e (elem-count w ws m)

-- a list in which a word stands twice
pub not-distinct : (s : List ℕ) → distinct s ≡ false → (w : ℕ) × (2 ≤ count w s)
not-distinct [] e = absurd (true≢false e)
not-distinct (x ∷ s) e =
    by_cases (elem x s)
    (λ m. (x, rw (eq-eqb x x refl) (omega (arith, elem-count x s m))))
    (λ m. let r = not-distinct s (rw m at e) in (r.0, omega (arith, r.1)))

-- ---- a release of the blocks ws: A is what it asks before it looks at a block, then none out may stand twice (15), all must be out (10)
-- h is the host word, q what the class asks of the arena, rest what it asks after these tests, g what it is given
pub record Release (sh : Shape) (s : Class) (h : ℕ) (ws : List ℕ) (A : Type 0) (q rest : Ask) (g : Option ℕ) : Type 0 where
  pub host : A → bad_host h ≡ false
  pub before : bad_host h ≡ false → is_refused (serve q g).answer ≡ false → A
  pub blocks : A → q ≡ cond (repeats sh s ws) (refuse s 15) (cond (not (every (out_here sh s) ws)) (refuse s 10) rest)

-- one that is not refused passed each test
pub passed : (s : Class) (k : ℕ) (b : Bool) (q : Ask) (g : Option ℕ) → is_refused (serve (cond b (refuse s k) q) g).answer ≡ false → (b ≡ false) × (is_refused (serve q g).answer ≡ false)
passed s k true q g u = absurd (false≢true (sym u))
passed s k false q g u = (refl, u)

pub record PassedBlocks (sh : Shape) (s : Class) (ws : List ℕ) (A : Type 0) (q rest : Ask) (g : Option ℕ) : Type 0 where
  pub plain : A
  pub single : repeats sh s ws ≡ false
  pub out : every (out_here sh s) ws ≡ true
  pub answer : (serve q g).answer ≡ (serve rest g).answer
  pub unrefused : is_refused (serve rest g).answer ≡ false

pub passed-blocks : {sh : Shape} {s : Class} {h : ℕ} {ws : List ℕ} {A : Type 0} {q rest : Ask} {g : Option ℕ} → Release sh s h ws A q rest g → bad_host h ≡ false → is_refused (serve q g).answer ≡ false → PassedBlocks sh s ws A q rest g
passed-blocks {sh} {s} {ws = ws} {rest = rest} {g = g} r t u =
    let a = r.before t u in
    let e = ap (λ (q : Ask). (serve q g).answer) (r.blocks a) in
    let p15 = passed s 15 (repeats sh s ws) _ g (ap is_refused (sym e) ∙ u) in
    let p10 = passed s 10 (not (every (out_here sh s) ws)) rest g p15.1 in
    let out = not-false (every (out_here sh s) ws) p10.0 in
    record { plain = a; single = p15.0; out = out; answer = e ∙ rw (p15.0, out); unrefused = p10.1 }

-- the last test asks B: the answer a is no refusal, or it is number 11
abbrev pub LastTest : Type 0 → Answer → Type 0
LastTest B a = (B × (is_refused a ≡ false)) ⊎ ((B → ⊥) × (a ≡ Calls.refused 11))

-- ---- a release by list
abbrev pub PlainList : Shape → ℕ → List ℕ → Type 0
PlainList sh h ws = (h ≤ host_max) × (is_nil ws ≡ false) × (every (of_kind sh.kind) ws ≡ true)

pub list-release : (sh : Shape) (lim : Limits) (s : Class) (h : ℕ) (ws : List ℕ) (g : Option ℕ)
    → Release sh s h ws (PlainList sh h ws) (answer sh lim s (Calls.give_back h ws)) (on_page sh lim h s ws (site_of_first sh s ws)) g
unfolding answer release_list
list-release sh lim s h ws g = record {
  host = λ a. le-ltb host_max h a.0;
  before = λ t u.
      let p7 = passed s 7 (is_nil ws) _ g u in
      let p9 = passed s 9 (not (every (of_kind sh.kind) ws)) _ g p7.1 in
      (ltb-false host_max h t, p7.0, not-false (every (of_kind sh.kind) ws) p9.0);
  blocks = λ a. rw (a.1, a.2);
}

-- number 11, by the page of the first block
module _ {c : ℕ} {s : Class} (k : ReachedClass c s) (lim : Limits) (h : ℕ) (g : Option ℕ) where
  abbrev sh : Shape
  sh = shape_of c

  page-together : (w : ℕ) (ws : List ℕ) → every (out_here sh s) (w ∷ ws) ≡ true → (o : Option Site) → SiteLaws sh s o → Tells (is_out sh w) s o → is_some o ≡ true
      → LastTest (OneRun sh (w ∷ ws)) (serve (on_page sh lim h s (w ∷ ws) o) g).answer
  unfolding on_page
  page-together w ws out none l t e = absurd (false≢true e)
  page-together w ws out (some x) l t e =
      let on : ℕ → Bool = λ v. is_out sh v x.page in
      let block : (v : ℕ) → on v ≡ true → BlockOf sh x.page.first v = λ v u. out-block sh (shape-sound c) x.page v l.page u in
      by_cases (every on (w ∷ ws))
      (λ u. inl (record { first = x.page.first; blocks = λ v m. block v (elem-every on (w ∷ ws) u v m) }, rw u))
      (λ u. inr (
        λ r. false≢true (sym u ∙ every-elem on (w ∷ ws) (λ v m.
            let y = lies k v (elem-every (out_here sh s) (w ∷ ws) out v m) in
            same-page k y x l (one-first c _ _ w (block w t) (r.blocks w (elem-first w ws)) ∙ sym (one-first c _ _ v (lies-on y) (r.blocks v m))))),
        rw u,
      ))

  list-together : (ws : List ℕ) → is_nil ws ≡ false → every (out_here sh s) ws ≡ true → LastTest (OneRun sh ws) (serve (on_page sh lim h s ws (site_of_first sh s ws)) g).answer
  unfolding out_here
  list-together [] e out = absurd (false≢true (sym e))
  list-together (w ∷ ws) e out = page-together w ws out (locate (is_out sh w) s) (locate-law sh s k.good (is_out sh w)) (locate-tells (is_out sh w) s) (and_left (is_some (locate (is_out sh w) s)) _ out)

word-kind : (sh : Shape) (ok : Sound sh) (q i : ℕ) → q + sh.pages ≤ max_pages → i < sh.capacity → of_kind sh.kind (word_of sh q i) ≡ true
unfolding of_kind word_of
word-kind sh ok q i low inside =
    let g : q * page_granules + (sh.header + i * sh.block) < 2 ^ kind_bits = omega (arith, mul-le-mul_right sh.block inside, ok.fits, ok.wide) in
    eq-eqb _ sh.kind (kind-block sh.kind g)

-- ---- after a history
module _ (n : ℕ) (rows b : List ℕ) (o : Opens n rows b) (xs : List Call) where
  abbrev heap : Heap
  heap = heap_after n (rules_of rows) xs

  abbrev vs : List Event
  vs = observed n rows b xs

  -- the tests of 10 and 15, by the history
  module _ (c : ℕ) where
    abbrev out_after : ℕ → Bool
    out_after = out_here (shape_of c) (heap.classes c)

    out-after : (w : ℕ) → OutIn vs c w → out_after w ≡ true
    out-after w p = ((outs n (rules_of rows) xs).out c w).1 (observed-out n rows b o xs c w p)

    after-out : (w : ℕ) → out_after w ≡ true → OutIn vs c w
    after-out w e = out-observed n rows b o xs c w (((outs n (rules_of rows) xs).out c w).0 e)

    module _ (ws : List ℕ) where
      abbrev repeats_after : Bool
      repeats_after = repeats (shape_of c) (heap.classes c) ws

      all-out : every out_after ws ≡ true → repeats_after ≡ false → AllOut vs c ws
      all-out e u = record { out = λ w m. after-out w (elem-every out_after ws e w m); once = once-here (shape_of c) (heap.classes c) ws u e }

      out-all : AllOut vs c ws → (every out_after ws ≡ true) × (repeats_after ≡ false)
      unfolding repeats
      out-all p =
          let e = every-elem out_after ws (λ w m. out-after w (p.out w m)) in
          (e, rw (filter-all out_after ws e, p.once))

      twice-repeats : Twice vs c ws → repeats_after ≡ true
      unfolding repeats
      twice-repeats p =
          let e = filter-keeps out_after p.word ws (out-after p.word p.out) in
          by_cases (distinct (filter out_after ws)) (λ u. absurd (omega (arith, p.times, e, distinct-count p.word (filter out_after ws) u))) (λ u. rw u)

      repeats-twice : repeats_after ≡ true → Twice vs c ws
      unfolding repeats
      repeats-twice e =
          let r = not-distinct (filter out_after ws) (not-true (distinct (filter out_after ws)) e) in
          let w = r.0 in
          record { word = w; out = after-out w (filter_passes out_after w ws (omega (arith, r.1))); times = omega (arith, r.1, filter-le out_after w ws) }

  -- both releases are refused exactly as the history tells, and A and B
  pub record ReleaseLaw (x : Call) (c : ℕ) (ws : List ℕ) (A B : Type 0) : Type 0 where
    pub returns : ((next n rows b xs x).code ≡ 0) ↔ (A × AllOut vs c ws × B)
    pub repeated : A → Twice vs c ws → (next n rows b xs x).answer ≡ Calls.refused 15
    pub not_out : A → (Twice vs c ws → ⊥) → (AllOut vs c ws → ⊥) → (next n rows b xs x).answer ≡ Calls.refused 10
    pub unfit : A → AllOut vs c ws → (B → ⊥) → (next n rows b xs x).answer ≡ Calls.refused 11

  pub release-law : {A B : Type 0} {ws : List ℕ} {d : Named} {rest : Ask} (x : Call) → names x ≡ some d
      → Release (shape_of d.class) (heap.classes d.class) (host_of d.request) ws A (class_ask heap d) rest (class_run n heap d)
      → (A → every (out_after d.class) ws ≡ true → LastTest B (serve rest (class_run n heap d)).answer) → ReleaseLaw x d.class ws A B
  release-law {A} {B} {ws} {d} {rest} x e r last =
      let c = d.class in
      let s = heap.classes c in
      let g = class_run n heap d in
      let answered : A → (next n rows b xs x).answer ≡ (serve (cond (repeats_after c ws) (refuse s 15) (cond (not (every (out_after c) ws)) (refuse s 10) rest)) g).answer
      = λ a. next-answer n rows b o xs x d e (r.host a) ∙ ap (λ (q : Ask). (serve q g).answer) (r.blocks a) in
      record {
        returns = (
          λ z. let host = next-host n rows b o xs x d e z in
              let t = passed-blocks r host ((next-exactly n rows b o xs x d e host).0 z) in
              (t.plain, all-out c ws t.out t.single, elim (last t.plain t.out) [ inl y ↦ y.0 | inr y ↦ absurd (false≢true (sym t.unrefused ∙ ap is_refused y.1)) ]),
          λ p. let t = out-all c ws p.1 in
              let u : is_refused (serve rest g).answer ≡ false = elim (last p.0 t.0) [ inl y ↦ y.1 | inr y ↦ absurd (y.0 p.2) ] in
              (next-exactly n rows b o xs x d e (r.host p.0)).1 (ap (λ (q : Ask). is_refused (serve q g).answer) (r.blocks p.0) ∙ rw (t.1, t.0) u),
        );
        repeated = λ a p. answered a ∙ rw (twice-repeats c ws p);
        not_out = λ a p q.
            by_cases (repeats_after c ws) (λ t. absurd (p (repeats-twice c ws t)))
            (λ t. by_cases (every (out_after c) ws) (λ u. absurd (q (all-out c ws u t))) (λ u. answered a ∙ rw (t, u)));
        unfit = λ a p q. let t = out-all c ws p in answered a ∙ rw (t.1, t.0) (elim (last a t.0) [ inl y ↦ absurd (q y.0) | inr y ↦ y.1 ]);
      }

  -- by list
  abbrev pub class-after : (c : ℕ) → ReachedClass c (heap.classes c)
  class-after = reached-class n (room n rows b o).few-pages (rules_of rows) xs

  list_law : (c : ℕ) (x : Call) (h : ℕ) (ws : List ℕ) → names x ≡ some (record { class = c; request = Calls.give_back h ws }) → ReleaseLaw x c ws (PlainList (shape_of c) h ws) (OneRun (shape_of c) ws)
  list_law c x h ws e = release-law x e (list-release (shape_of c) (heap.rules c) (heap.classes c) h ws _) (λ a out. list-together (class-after c) (heap.rules c) h _ ws a.1 out)

  pub list-returns : (c : ℕ) (x : Call) (h : ℕ) (ws : List ℕ) → names x ≡ some (record { class = c; request = Calls.give_back h ws }) → ((next n rows b xs x).code ≡ 0) ↔ ListOut vs c h ws
  list-returns c x h ws e = (
    λ z. let p = (list_law c x h ws e).returns.0 z in record { host = p.0.0; listed = p.0.1; kinds = p.0.2; out = p.1; together = p.2 },
    λ p. (list_law c x h ws e).returns.1 ((p.host, p.listed, p.kinds), p.out, p.together),
  )

  module _ (c : ℕ) (x : Call) (h : ℕ) (ws : List ℕ) (low : h ≤ host_max) (e : names x ≡ some (record { class = c; request = Calls.give_back h ws })) (listed : is_nil ws ≡ false) (kinds : every (of_kind (shape_of c).kind) ws ≡ true) where
    pub repeated : Twice vs c ws → (next n rows b xs x).answer ≡ Calls.refused 15
    repeated = (list_law c x h ws e).repeated (low, listed, kinds)

    pub not-out : (Twice vs c ws → ⊥) → (AllOut vs c ws → ⊥) → (next n rows b xs x).answer ≡ Calls.refused 10
    not-out = (list_law c x h ws e).not_out (low, listed, kinds)

    pub not-together : AllOut vs c ws → (OneRun (shape_of c) ws → ⊥) → (next n rows b xs x).answer ≡ Calls.refused 11
    not-together = (list_law c x h ws e).unfit (low, listed, kinds)

  -- a block alone
  alone-out : (c w h : ℕ) → h ≤ host_max → OutIn vs c w → ListOut vs c h (w ∷ [])
  alone-out c w h low p =
      let k = class-after c in
      let y = lies k w (out-after c w p) in
      let s = lies-on y in
      record {
        host = low;
        listed = refl;
        kinds = rw (s.word, word-kind (shape_of c) (shape-sound c) y.site.page.first s.index (k.low y.site y.law) s.inside);
        out = record { out = λ v m. rw (elem-only w v m) p; once = refl };
        together = record { first = y.site.page.first; blocks = λ v m. rw (elem-only w v m) s };
      }

  pub word-returns : (c w : ℕ) (x : Call) (h : ℕ) → h ≤ host_max → names x ≡ some (record { class = c; request = Calls.give_back h (w ∷ []) })
      → ((next n rows b xs x).code ≡ 0) ↔ OutIn vs c w
  word-returns c w x h low d = (
    λ z. ((list-returns c x h (w ∷ []) d).0 z).out.out w (elem-first w []),
    λ p. (list-returns c x h (w ∷ []) d).1 (alone-out c w h low p),
  )
