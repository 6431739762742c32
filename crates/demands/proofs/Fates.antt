-- Where an emptied run goes, by the fate that a release by list answers (document 02, A.9).
--     emptied-none     the list has every block of the run that is out exactly if none is out afterwards
--     by_row           the answer
use Rattle.facts.proofs.Prelude.{ℕ, ◌+◌, ◌≤◌, arith, Bool, true, false, cond, true≢false, List, [], ◌∷◌, ◌++◌, Option, none}
use Rattle.facts.proofs.Prelude.{some, ◌≡◌, refl, sym, ap, ◌∙◌, length, eq-eqb, every, elem, distinct, count, by_cases}
use Rattle.classes.specs.declared.Shape.{Shape}
use Rattle.classes.specs.Shape.{shape_of}
use Rattle.classes.specs.way.Sound.{Sound}
use Rattle.classes.proofs.Shapes.{shape-sound}
use Rattle.rules.specs.declared.Limits.{Limits}
use Rattle.rules.specs.Rules.{Rules}
use Rattle.model.specs.declared.Destination.{Destination}
use Rattle.model.specs.declared.Destination.TheVariants.{ToEmpty, ToCold, ToArena}
use Rattle.model.specs.Calls as Calls
use Rattle.model.specs.Calls.{Call, Answer, fate, is_refused, names}
use Rattle.model.specs.Page.{Page, is_out, none_out, returned, carved_words}
use Rattle.model.specs.Class.{Class, serve}
use Rattle.model.specs.Destination.{destination_of, fate_of, kept_fate}
use Rattle.model.specs.Release.{Site, in_partial, in_full, locate, park_in, park, destination_in, settle, on_page, site_of_first}
use Rattle.model.specs.Chunks.{starts_at}
use Rattle.model.specs.Heap.{Heap, step}
use Rattle.model.specs.History.{Event, events, heap_after}
use Rattle.model.specs.Entries.{OutIn}
use Rattle.model.specs.Offered.{blocks_at, HasRun}
use Rattle.model.proofs.Counts.{count-append, elem-count, count_in_lem, every-count, distinct-count}
use Rattle.model.proofs.Pages.{out_of, begins_on, is-out, return_moves, none-out_of}
use Rattle.model.proofs.Sites.{out_count, Once, GoodClass, SiteLaw, SiteLaws, locate-law}
use Rattle.model.proofs.Weights.{weigh}
use Rattle.model.proofs.RunsObserved.{each, block_of, block_on, two_runs}
use Rattle.model.proofs.Offers.{once, run-counted, out-counted, counted-out, outs-on}
use Rattle.refinement.proofs.Found.{Located, in_list, in_none, located}
use Rattle.refinement.proofs.OutTests.{once-here}
use Rattle.demands.specs.Parking.{Empties}
use Rattle.demands.proofs.Codes.{step-served}
use Rattle.demands.proofs.Returns.{every-elem, elem-every, passed-blocks, list-release}

-- the stores are as they were while a page with blocks out is away
pub beside : {t : Page → Bool} {s : Class} {x : Site} → Located t s (some x) → (length x.without.empty ≡ length s.empty) × (length x.without.cold ≡ length s.cold)
unfolding in_partial in_full
beside (in_list f k) = (refl, refl)
beside (in_none f k) = (refl, refl)

-- ---- one release of a class: the blocks ws came back to a page, and a was answered
pub in_fate : (sh : Shape) (h : ℕ) (s : Class) (p : Page) (t : Destination) → (park_in sh h s p t).fate ≡ fate_of sh t
in_fate sh h s p ToEmpty = refl
in_fate sh h s p ToCold = refl
in_fate sh h s p ToArena = refl

pub record Freed (sh : Shape) (lim : Limits) (h : ℕ) (s : Class) (ws : List ℕ) (a : Answer) : Type 0 where
  pub site : Site
  pub law : SiteLaw sh s site
  pub empty : length site.without.empty ≡ length s.empty
  pub cold : length site.without.cold ≡ length s.cold
  pub outs : every (λ w. is_out sh w site.page) ws ≡ true
  pub once : (w : ℕ) → count w ws ≤ 1
  pub is : a ≡ fate (settle sh lim h false ws site).fate

module _ (sh : Shape) (lim : Limits) (h : ℕ) (g : Option ℕ) (s : Class) where
  page-freed : (ws : List ℕ) (t : Page → Bool) (o : Option Site) → Located t s o → SiteLaws sh s o → distinct ws ≡ true
      → is_refused (serve (on_page sh lim h s ws o) g).answer ≡ false → Freed sh lim h s ws (serve (on_page sh lim h s ws o) g).answer
  unfolding on_page
  page-freed ws t none l law d u = absurd (true≢false u)
  page-freed ws t (some x) l law d u =
      by_cases (every (λ w. is_out sh w x.page) ws)
      (λ e. let k = beside l in rw e (record { site = x; law = law; empty = k.0; cold = k.1; outs = e; once = λ w. distinct-count w ws d; is = refl }))
      (λ e. absurd (true≢false (rw e at u)))

  first-freed : GoodClass sh s → (ws : List ℕ) → distinct ws ≡ true → is_refused (serve (on_page sh lim h s ws (site_of_first sh s ws)) g).answer ≡ false → Freed sh lim h s ws (serve (on_page sh lim h s ws (site_of_first sh s ws)) g).answer
  unfolding on_page
  first-freed gs [] d v = absurd (true≢false v)
  first-freed gs (w ∷ ws) d v = page-freed (w ∷ ws) (is_out sh w) (locate (is_out sh w) s) (located (is_out sh w) s) (locate-law sh s gs (is_out sh w)) d v

-- a call that is such a release
pub freed-by : (size : ℕ) (H : Heap) (x : Call) (c h : ℕ) (ws : List ℕ) → names x ≡ some (record { class = c; request = Calls.give_back h ws }) → GoodClass (shape_of c) (H.classes c)
    → is_refused (step size H x).answer ≡ false → Freed (shape_of c) (H.rules c) h (H.classes c) ws (step size H x).answer
freed-by size H x c h ws e good u =
    let s = H.classes c in
    let t = step-served size H x _ e u in
    let p = passed-blocks (list-release (shape_of c) (H.rules c) s h ws _) t.0 (ap is_refused (sym t.1) ∙ u) in
    rw (t.1 ∙ p.answer) (first-freed (shape_of c) (H.rules c) h _ s good ws (once-here (shape_of c) s ws p.single p.out) p.unrefused)

-- ---- the page afterwards
module _ {sh : Shape} {lim : Limits} {h : ℕ} {s : Class} {ws : List ℕ} {a : Answer} (ok : Sound sh) (f : Freed sh lim h s ws a) where
  abbrev p : Page
  p = f.site.page

  moves : (w : ℕ) → out_of sh w (returned ws p) + count w ws ≡ out_of sh w p
  moves = return_moves sh ok ws p f.law.page f.once (λ w. every-count (λ v. is_out sh v p) w ws f.outs)

  fate-gone : none_out sh (returned ws p) ≡ true → a ≡ fate (fate_of sh (destination_of sh lim (length s.empty) (length s.cold)))
  unfolding settle park
  fate-gone e = f.is ∙ rw e (ap fate (in_fate sh h f.site.without (returned ws p) (destination_in sh lim f.site.without) ∙ rw (f.empty, f.cold)))

  fate-stays : none_out sh (returned ws p) ≡ false → a ≡ fate kept_fate
  unfolding settle
  fate-stays e = f.is ∙ rw e

  -- none is out afterwards if the list has all that are out, and only then
  listed-none : ((w : ℕ) → is_out sh w p ≡ true → elem w ws ≡ true) → none_out sh (returned ws p) ≡ true
  unfolding none_out returned carved_words is_out
  listed-none l =
      every-elem (λ w. elem w (ws ++ p.free)) (carved_words sh (returned ws p)) (λ w m.
      by_cases (elem w p.free)
      (λ y. count_in_lem w (ws ++ p.free) (rw count-append (omega (arith, elem-count w p.free y))))
      (λ y. let z = l w (rw (m, y)) in count_in_lem w (ws ++ p.free) (rw count-append (omega (arith, elem-count w ws z)))))

  none-listed : none_out sh (returned ws p) ≡ true → (w : ℕ) → 1 ≤ out_of sh w p → elem w ws ≡ true
  none-listed e w n = count_in_lem w ws (omega (arith, moves w, none-out_of sh ok w (returned ws p) e))

  -- a block of the page's run that is out in the class is out there
  here : Once sh s → (w : ℕ) → elem w (blocks_at sh p.first) ≡ true → 1 ≤ out_count sh w s → 1 ≤ out_of sh w p
  here one w m n =
      let z = begins_on sh ok w in
      let r = f.site.without in
      omega (
        arith,
        f.law.out-rest (out_of sh w),
        f.law.pages-rest z,
        one z,
        block_on sh ok w p.first m,
        outs-on sh ok w r.partial f.law.rest.partial,
        outs-on sh ok w r.full f.law.rest.full,
      )

  -- the class has the page's run
  weighed : 1 ≤ weigh sh p.first each s
  weighed =
      let g : Page → ℕ = λ x. cond (starts_at p.first x) 1 0 in
      let y : g p ≡ 1 = rw (eq-eqb p.first p.first refl) in
      omega (arith, f.law.out-rest g, y)

-- ---- against the history
module _ (size : ℕ) (limits : Rules) (xs : List Call) (c : ℕ) {h : ℕ} {lim : Limits} {ws : List ℕ} {a : Answer} (f : Freed (shape_of c) lim h ((heap_after size limits xs).classes c) ws a) where
  abbrev sh : Shape
  sh = shape_of c

  abbrev ok : Sound sh
  ok = shape-sound c

  abbrev s : Class
  s = (heap_after size limits xs).classes c

  abbrev vs : List Event
  vs = events size limits xs

  abbrev page : Page
  page = f.site.page

  -- the run at q is the page's
  module _ {q : ℕ} (run : page.first ≡ q) where
    pub emptied-none : Empties vs c q ws → none_out sh (returned ws page) ≡ true
    emptied-none k =
        listed-none ok f (λ w o.
        k w (rw (← run) (block_of sh ok w page f.law.page o))
        (counted-out size limits xs c w (omega (arith, f.law.out-rest (out_of sh w), is-out sh ok w page o))))

    pub out-there : (w : ℕ) → elem w (blocks_at sh q) ≡ true → OutIn vs c w → 1 ≤ out_of sh w page
    out-there w m o = here ok f (once size limits xs c) w (rw run m) (out-counted size limits xs c w o)

    pub none-emptied : none_out sh (returned ws page) ≡ true → Empties vs c q ws
    none-emptied e w m o = none-listed ok f e w (out-there w m o)

  module _ (q v : ℕ) (has : HasRun c q vs) (listed : elem v ws ≡ true) (block : elem v (blocks_at sh q) ≡ true) where
    same : page.first ≡ q
    same =
        let o = elem-every (λ w. is_out sh w page) ws f.outs v listed in
        let z = begins_on sh ok v in
        two_runs sh ok page.first s (once size limits xs c) q z
        (block_on sh ok v page.first (block_of sh ok v page f.law.page o)) (block_on sh ok v q block)
        (weighed ok f) (omega (arith, run-counted size limits xs c q has))

    pub by_row : (Empties vs c q ws → a ≡ fate (fate_of sh (destination_of sh lim (length s.empty) (length s.cold)))) × ((Empties vs c q ws → ⊥) → a ≡ fate kept_fate)
    by_row = (
      λ k. fate-gone ok f (emptied-none same k),
      λ k. by_cases (none_out sh (returned ws page)) (λ e. absurd (k (none-emptied same e))) (fate-stays ok f),
    )
