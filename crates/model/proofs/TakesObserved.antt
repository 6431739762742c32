-- A take against the history: how many blocks it answers, and its virgin.
use Rattle.facts.proofs.Prelude.{ℕ, ◌+◌, ◌-◌, ◌≤◌, ◌<◌, arith, Bool, true, false, ◌&&◌, true≢false, false≢true, List, [], ◌∷◌, ◌++◌, inl, inr, Option, none}
use Rattle.facts.proofs.Prelude.{some, ◌≡◌, refl, sym, ap, ◌∙◌, subst, eqb, ltb, length, drop, length-append, length-reverse, length-take, length-drop}
use Rattle.facts.proofs.Prelude.{take-append_seam, eqb-true, eqb-false, eq-eqb, le-ltb, is_nil, All, total, elem, count, by_cases, and_left, and_right}
use Rattle.facts.proofs.Bools.{and-false}
use Rattle.words.specs.Host.{bad_host}
use Rattle.classes.specs.declared.Shape.{Shape}
use Rattle.classes.specs.Shape.{shape_of}
use Rattle.classes.specs.way.Sound.{Sound}
use Rattle.classes.proofs.Shapes.{shape-sound}
use Rattle.rules.specs.declared.Limits.{Limits}
use Rattle.rules.specs.Rules.{Rules}
use Rattle.model.specs.Calls as Calls
use Rattle.model.specs.Calls.{Call, Answer, names, host_in, way_of, is_refused, blocks_of}
use Rattle.model.specs.Page.{Page, is_medium, carve, has_more, carved_now, pop, reused}
use Rattle.model.specs.Class.{Class, lists, Cold, Result, serve, Filled, after, fill_from_list, served, thawed, on_run, take_from}
use Rattle.model.specs.Chunks.{answer}
use Rattle.model.specs.Heap.{Heap, new_heap, offer, finish, interact, class_call, step}
use Rattle.model.specs.History.{Event, event_of, events_from, events, heap_from, heap_after, with_call}
use Rattle.model.specs.Yields.{Listed}
use Rattle.model.specs.Offered.{blocks_at, NonePartial, CleanBlock, Virgin}
use Rattle.model.specs.Demands.{Offered, Virgins}
use Rattle.model.proofs.Counts.{count-append, elem-count, count_in_lem}
use Rattle.model.proofs.NewRun.{length-words}
use Rattle.model.proofs.Pages.{begins_on, GoodPage, pop-good, pop-moves, out-is, carve-empty, reused-empty, thawed-empty}
use Rattle.model.proofs.Sites.{GoodClass}
use Rattle.model.proofs.Update.{update_same}
use Rattle.model.proofs.Weights.{page_weight, weigh, served_weight}
use Rattle.model.proofs.RunsObserved.{each, clean, dirty, block_of, block_on, two_runs, weigh-parts}
use Rattle.model.proofs.Yields as Yields
use Rattle.model.proofs.Yields.{More}
use Rattle.model.proofs.Offers.{good, once, run-counted, counted-run, clean-counted, counted-clean, spent-observed, none-partial}

no_length : (l : List ℕ) → length l ≡ 0 → is_nil l ≡ true
no_length [] e = refl
no_length (x ∷ l) e = absurd (omega arith)

module _ (sh : Shape) (ok : Sound sh) (lim : Limits) where
  -- ---- how many
  pop-length : (n : ℕ) (p : Page) → length (pop sh n p).blocks ≤ n
  unfolding pop carved_now
  pop-length n p = rw (length-append, length-words, length-reverse, length-take) (omega arith)

  pub fill_length : (n : ℕ) (ps : List Page) → length (fill_from_list sh n ps).blocks ≤ n
  unfolding fill_from_list after
  fill_length n [] = omega arith
  fill_length n (p ∷ ps) =
      by_cases (eqb n 0)
      (λ e. rw e (omega arith))
      (λ e. rw e (rw length-append (omega (arith, pop-length n p, fill_length (n - length (pop sh n p).blocks) ps))))

  -- a page that gives fewer than are wanted has no more
  pop-spent : (n : ℕ) (p : Page) → length (pop sh n p).blocks < n → has_more sh (pop sh n p).page ≡ false
  unfolding pop carved_now has_more
  pop-spent n p h =
      let k = rw (length-append, length-words, length-reverse, length-take) at h in
      rw (no_length (drop n p.free) (rw length-drop (omega arith)), le-ltb (p.carved + carved_now sh n p) sh.capacity (omega arith))

  pub fill_spent : (n : ℕ) (ps : List Page) → length (fill_from_list sh n ps).blocks < n → (fill_from_list sh n ps).partial ≡ []
  unfolding fill_from_list after
  fill_spent n [] h = refl
  fill_spent n (p ∷ ps) h =
      by_cases (eqb n 0)
      (λ e. absurd (omega (arith, eqb-true n 0 e)))
      (λ e. let k = rw (e, length-append) at h in
      rw e (rw (pop-spent n p (omega arith)) (fill_spent (n - length (pop sh n p).blocks) ps (omega arith))))

  -- ---- from which pages
  pub pop-block : (n : ℕ) (p : Page) → GoodPage sh p → (w : ℕ) → 1 ≤ count w (pop sh n p).blocks → elem w (blocks_at sh p.first) ≡ true
  unfolding pop
  pop-block n p good w h =
      block_of sh ok w (pop sh n p).page (pop-good sh ok n p good) (out-is sh ok w (pop sh n p).page (omega (arith, pop-moves sh ok n p good w)))

  pub some_block : (ws : List ℕ) → 1 ≤ length ws → (w : ℕ) × (1 ≤ count w ws)
  some_block [] h = absurd (omega arith)
  some_block (w ∷ ws) h = (w, rw (eq-eqb w w refl) (omega arith))

  -- the page is one of the list, as every measure sees it
  abbrev pub Among : Page → List Page → Type 0
  Among p ps = (m : Page → ℕ) → m p ≤ total m ps

  pub record From (v : Bool) (w : ℕ) (ps : List Page) : Type 0 where
    pub page : Page
    pub among : Among page ps
    pub block : elem w (blocks_at sh page.first) ≡ true
    pub is : page.virgin ≡ v

  pub later : {v : Bool} {w : ℕ} (p : Page) {ps : List Page} → From v w ps → From v w (p ∷ ps)
  later p f = record { page = f.page; among = λ m. omega (arith, f.among m); block = f.block; is = f.is }

  -- virgin: each block is a virgin page's
  pub fill_virgin : (n : ℕ) (ps : List Page) → All (GoodPage sh) ps → (fill_from_list sh n ps).virgin ≡ true → (w : ℕ) → 1 ≤ count w (fill_from_list sh n ps).blocks → From true w ps
  unfolding fill_from_list after
  fill_virgin n [] good v w h = absurd (omega arith)
  fill_virgin n (p ∷ ps) good v w h =
      let f = fill_from_list sh (n - length (pop sh n p).blocks) ps in
      by_cases (eqb n 0)
      (λ e. let k : 1 ≤ 0 = rw e at h in absurd (omega arith))
      (λ e. let v' : (p.virgin && f.virgin) ≡ true = rw e at v in
      let k : 1 ≤ count w f.blocks + count w (pop sh n p).blocks = rw (e, count-append) at h in
      by_cases (eqb (count w (pop sh n p).blocks) 0)
      (λ z. later p (fill_virgin (n - length (pop sh n p).blocks) ps good.1 (and_right p.virgin f.virgin v') w (omega (arith, eqb-true (count w (pop sh n p).blocks) 0 z))))
      (λ z. record { page = p; among = λ m. omega arith; block = pop-block n p good.0 w (omega (arith, eqb-false (count w (pop sh n p).blocks) 0 z)); is = and_left p.virgin f.virgin v' }))

  -- not: one of them is another's
  pub record Stale (ps : List Page) (ws : List ℕ) : Type 0 where
    pub word : ℕ
    pub came : 1 ≤ count word ws
    pub from : From false word ps

  pub fill_stale : (n : ℕ) (ps : List Page) → All (GoodPage sh) ps → All (More sh) ps → (fill_from_list sh n ps).virgin ≡ false → Stale ps (fill_from_list sh n ps).blocks
  unfolding fill_from_list after
  fill_stale n [] good more v = absurd (true≢false v)
  fill_stale n (p ∷ ps) good more v =
      let f = fill_from_list sh (n - length (pop sh n p).blocks) ps in
      by_cases (eqb n 0)
      (λ e. absurd (true≢false (rw e at v)))
      (λ e. let v' : (p.virgin && f.virgin) ≡ false = rw e at v in
      elim (and-false p.virgin f.virgin v') [
        | inl a ↦ (let b = some_block (pop sh n p).blocks (Yields.pop-gives sh ok lim n p (omega (arith, eqb-false n 0 e)) more.0) in
            rw e (record { word = b.0; came = rw count-append (omega (arith, b.1)); from = record { page = p; among = λ m. omega arith; block = pop-block n p good.0 b.0 b.1; is = a } }))
        | inr a ↦ (let r = fill_stale (n - length (pop sh n p).blocks) ps good.1 more.1 a in
            rw e (record { word = r.word; came = rw count-append (omega (arith, r.came)); from = later p r.from }))
      ])

  -- ---- what a take comes to: it is served from pages that yield, or the arena gave none
  pub data Takes (l : List ℕ) : Result → Type 0 where
    fills : (ps es : List Page) (cs : List Cold) (fs : List Page) → All (GoodPage sh) ps → All (More sh) ps → is_nil (fill_from_list sh sh.batch ps).blocks ≡ false → Takes l (served l (fill_from_list sh sh.batch ps) es cs fs)
    lacks : (fs : List Page) → Takes l (record { class = lists [] [] [] fs; answer = Calls.taken 0 l false; gives = [] })

  from_one : (l : List ℕ) (p : Page) (ps es : List Page) (cs : List Cold) (fs : List Page) → All (GoodPage sh) (p ∷ ps) → All (More sh) (p ∷ ps) → Takes l (served l (fill_from_list sh sh.batch (p ∷ ps)) es cs fs)
  from_one l p ps es cs fs good more = fills (p ∷ ps) es cs fs good more (Yields.length_nil (fill_from_list sh sh.batch (p ∷ ps)).blocks (Yields.fill_gives sh ok lim sh.batch p ps ok.gives more.0))

  run-takes : (l : List ℕ) (fs : List Page) (g : Option ℕ) → Takes l (on_run sh l fs g)
  unfolding on_run
  run-takes l fs none = lacks fs
  run-takes l fs (some q) = from_one l (carve sh q true) [] [] [] fs ((carve-empty sh ok (is_medium sh) q true).good, tt) (Yields.new-more sh ok lim q true, tt)

  pub take-takes : (l : List ℕ) (ps es : List Page) (cs : List Cold) (fs : List Page) → GoodClass sh (lists ps es cs fs) → Listed sh (lists ps es cs fs) → (g : Option ℕ) → Takes l (serve (take_from sh l ps es cs fs) g)
  unfolding take_from
  take-takes l (p ∷ ps) es cs fs good y g = from_one l p ps es cs fs good.partial y.partial
  take-takes l [] (e ∷ es) cs fs good y g = from_one l (reused sh e) [] es cs fs ((reused-empty sh ok e good.empty.0).good, tt) (y.empty.0, tt)
  take-takes l [] [] (c ∷ cs) fs good y g = from_one l (thawed sh c) [] [] cs fs ((thawed-empty sh ok c).good, tt) (Yields.thawed-more sh ok lim c, tt)
  take-takes l [] [] [] fs good y g = run-takes l fs g

-- ---- one more call
pub record With (size : ℕ) (H : Heap) (xs : List Call) (x : Call) : Type 0 where
  pub observed : events_from size H (xs ++ x ∷ []) ≡ events_from size H xs ++ event_of x (step size (heap_from size H xs) x) ∷ []
  pub heap : heap_from size H (xs ++ x ∷ []) ≡ (step size (heap_from size H xs) x).heap

pub one_more : (size : ℕ) (H : Heap) (xs : List Call) (x : Call) → With size H xs x
one_more size H [] x = record { observed = refl; heap = refl }
one_more size H (y ∷ xs) x =
    let ih = one_more size (step size H y).heap xs x in
    record { observed = ap (λ (vs : List Event). event_of y (step size H y) ∷ vs) ih.observed; heap = ih.heap }

-- a take that is not refused
module _ (size : ℕ) (H : Heap) (x : Call) (c h : ℕ) (l : List ℕ) (e : names x ≡ some (record { class = c; request = Calls.take h l })) (good : GoodClass (shape_of c) (H.classes c)) (listed : Listed (shape_of c) (H.classes c)) where
  pub record Took : Type 0 where
    pub result : Result
    pub takes : Takes (shape_of c) (shape-sound c) (H.rules c) l result
    pub answers : (step size H x).answer ≡ result.answer
    pub leaves : (step size H x).heap.classes c ≡ result.class

  pub took : is_refused (step size H x).answer ≡ false → Took
  unfolding step way_of class_call interact finish answer
  took u =
      by_cases (bad_host (host_in x)) (λ b. absurd (true≢false (rw b at u))) λ b.
      let sh = shape_of c in
      let s = H.classes c in
      let ask = answer sh (H.rules c) s (Calls.take h l) in
      let g = (offer size h H.arena ask).run in
      by_cases (ltb (length l) sh.batch)
      (λ k. absurd (true≢false (rw (b, e, k) at u)))
      (λ k. record {
        result = serve ask g;
        takes = rw k (take-takes sh (shape-sound c) (H.rules c) l s.partial s.empty s.cold s.full good listed _);
        answers = rw (b, e);
        leaves = rw (b, e) (update_same H.classes c (serve ask g).class);
      })

-- ---- against the history
module _ (c : ℕ) (lim : Limits) (l : List ℕ) where
  pub came : (f : Filled) (es : List Page) (cs : List Cold) (fs : List Page) → blocks_of (served l f es cs fs).answer ≡ f.blocks
  unfolding served
  came f es cs fs = take-append_seam _ _

  takes-length : {r : Result} → Takes (shape_of c) (shape-sound c) lim l r → length (blocks_of r.answer) ≤ (shape_of c).batch
  takes-length (fills ps es cs fs good more n) = rw (came (fill_from_list (shape_of c) (shape_of c).batch ps) es cs fs) (fill_length (shape_of c) (shape-sound c) lim (shape_of c).batch ps)
  takes-length (lacks fs) = omega arith

  takes-partial : {r : Result} → Takes (shape_of c) (shape-sound c) lim l r → length (blocks_of r.answer) < (shape_of c).batch → r.class.partial ≡ []
  unfolding served
  takes-partial (fills ps es cs fs good more n) h =
      fill_spent (shape_of c) (shape-sound c) lim (shape_of c).batch ps (rw (came (fill_from_list (shape_of c) (shape_of c).batch ps) es cs fs) at h)
  takes-partial (lacks fs) h = refl

module _ (size : ℕ) (rules : Rules) (xs : List Call) (c : ℕ) (lim : Limits) (l : List ℕ) where
  abbrev sh : Shape
  sh = shape_of c

  abbrev class : Class
  class = (heap_after size rules xs).classes c

  module _ (ps es : List Page) (cs : List Cold) (fs : List Page) (is : class ≡ (served l (fill_from_list sh sh.batch ps) es cs fs).class) where
    -- a page that was served from weighs in the class afterwards
    weighed : (k : Bool → ℕ) (p : Page) → Among sh (shape-sound c) lim p ps → k p.virgin ≤ weigh sh p.first k class
    weighed k p among =
        let y : page_weight sh p.first k p ≡ k p.virgin = rw (eq-eqb p.first p.first refl) in
        omega (arith, among (page_weight sh p.first k), served_weight sh p.first k l sh.batch ps es cs fs, ap (weigh sh p.first k) is)

    clean-block : (w : ℕ) → From sh (shape-sound c) lim true w ps → CleanBlock (events size rules xs) c w
    clean-block w f = record {
      run = f.page.first;
      has = counted-run size rules xs c f.page.first (weighed each f.page f.among);
      block = f.block;
      clean = counted-clean size rules xs c f.page.first (omega (arith, weighed clean f.page f.among, ap clean f.is));
    }

    no_stale : (w : ℕ) → From sh (shape-sound c) lim false w ps → CleanBlock (events size rules xs) c w → ⊥
    no_stale w f b =
        let q = f.page.first in
        let n = weighed each f.page f.among in
        let same = two_runs sh (shape-sound c) q class (once size rules xs c) b.run (begins_on sh (shape-sound c) w) (block_on sh (shape-sound c) w q f.block) (block_on sh (shape-sound c) w b.run b.block) n
        (omega (arith, run-counted size rules xs c b.run b.has)) in
        let k : weigh sh q clean class ≡ 1 = rw same (clean-counted size rules xs c b.run b.has b.clean) in
        omega (arith, run-counted size rules xs c q (counted-run size rules xs c q n), weigh-parts sh (shape-sound c) q class, weighed dirty f.page f.among, ap dirty f.is)

  takes-virgin : {r : Result} → Takes sh (shape-sound c) lim l r → class ≡ r.class → Virgin (events size rules xs) c r.answer
  unfolding served
  takes-virgin (fills ps es cs fs good more n) is =
      let f = fill_from_list sh sh.batch ps in
      rw (came c lim l f es cs fs) (
        λ v. (n, λ w m. clean-block ps es cs fs is w (fill_virgin sh (shape-sound c) lim sh.batch ps good v w (elem-count w f.blocks m))),
        λ k. by_cases f.virgin (λ v. v)
            (λ v. let s = fill_stale sh (shape-sound c) lim sh.batch ps good more v in
            absurd (no_stale ps es cs fs is s.word s.from (k.1 s.word (count_in_lem s.word f.blocks s.came)))),
      )
  takes-virgin (lacks fs) is = (λ v. absurd (false≢true v), λ k. absurd (true≢false k.0))

module _ (size : ℕ) (rules : Rules) (xs : List Call) where
  module _ (x : Call) (c h : ℕ) (l : List ℕ) (e : names x ≡ some (record { class = c; request = Calls.take h l })) (u : is_refused (step size (heap_after size rules xs) x).answer ≡ false) where
    taking : Took size (heap_after size rules xs) x c h l e (good size rules xs c) (Yields.after-listed size rules xs c)
    taking = took size (heap_after size rules xs) x c h l e (good size rules xs c) (Yields.after-listed size rules xs c) u

    left : (heap_after size rules (xs ++ x ∷ [])).classes c ≡ taking.result.class
    left = ap (λ (H : Heap). H.classes c) (one_more size (new_heap rules) xs x).heap ∙ taking.leaves

    fewer : length (blocks_of (step size (heap_after size rules xs) x).answer) < (shape_of c).batch → NonePartial (with_call size rules xs x) c
    fewer n =
        subst (λ (vs : List Event). NonePartial vs c) (one_more size (new_heap rules) xs x).observed
        (none-partial size rules (xs ++ x ∷ []) c (ap (λ (s : Class). s.partial) left ∙ takes-partial c _ l taking.takes (rw taking.answers at n)))

    most : length (blocks_of (step size (heap_after size rules xs) x).answer) ≤ (shape_of c).batch
    most = rw taking.answers (takes-length c _ l taking.takes)

    virgin : Virgin (with_call size rules xs x) c (step size (heap_after size rules xs) x).answer
    virgin =
        subst (λ (a : Answer). Virgin (with_call size rules xs x) c a) (sym taking.answers)
        (subst (λ (vs : List Event). Virgin vs c taking.result.answer) (one_more size (new_heap rules) xs x).observed (takes-virgin size rules (xs ++ x ∷ []) c _ l taking.takes left))

  pub offered : Offered size rules xs
  offered = record { spent = spent-observed size rules xs; fewer = fewer; most = most }

  pub virgins : Virgins size rules xs
  virgins = record { virgin = virgin }
