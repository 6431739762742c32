-- Where a block that is out lies.
--     out-block        it is a block of a run of its class
--     page-of          the page of a small block is its granule / 4,096
--     reached-class    each class after a history is a `ReachedClass`
--     lies             in such a class it lies on a page; same-page, on every page that begins where that one does it is out
--     byte-held        a page with one of its bytes is held by its class
use Rattle.facts.proofs.Prelude.{ℕ, ◌+◌, ◌-◌, ◌*◌, ◌/◌, ◌≤◌, ◌<◌, arith, mul-le-mul_right, true, not, false≢true, List, Option}
use Rattle.facts.proofs.Prelude.{none, some, ◌≡◌, refl, sym, ltb, eq-eqb, ltb-true, ltb-false, elem, is_some, by_cases, and_left}
use Rattle.words.specs.Word.{granule_of}
use Rattle.classes.specs.declared.Shape.{Shape}
use Rattle.classes.specs.Sizes.{page_bytes, granule_bytes}
use Rattle.classes.specs.Shape.{shape_of}
use Rattle.classes.specs.way.Sound.{Sound}
use Rattle.classes.proofs.Shapes.{shape-sound}
use Rattle.rules.specs.Rules.{Rules}
use Rattle.fields.specs.Ranges.{max_pages}
use Rattle.model.specs.Cover.{covers}
use Rattle.model.specs.Calls.{Call}
use Rattle.model.specs.Page.{Page, page_granules, word_of, words_from, carved_words, is_out}
use Rattle.model.specs.Class.{Class}
use Rattle.model.specs.Release.{Site, locate, out_here}
use Rattle.model.specs.Heap.{Heap}
use Rattle.model.specs.History.{events, heap_after}
use Rattle.model.specs.Entries.{Entry, Live, HasByte}
use Rattle.model.specs.Ledger.{held_by}
use Rattle.model.proofs.Counts.{elem-count}
use Rattle.model.proofs.ArenaLaws.{above_at, covers_in}
use Rattle.model.proofs.Pages.{out_of, is-out, out-is, GoodPage}
use Rattle.model.proofs.Sites.{Once, GoodClass, SiteLaw, SiteLaws, Tells, out_from, locate-law, locate-tells, out_first}
use Rattle.model.proofs.Accounts.{held-le}
use Rattle.model.proofs.HeapLaws.{kept}
use Rattle.model.proofs.Apart.{which}
use Rattle.model.proofs.Offers.{good, once}
use Rattle.model.proofs.Theorems.{outs, conserved}
use Rattle.pages.specs.Stack.{page_at}
use Rattle.demands.specs.Returns.{BlockOf}

-- ---- a page
module _ (sh : Shape) (ok : Sound sh) where
  pub out-block : (p : Page) (w : ℕ) → GoodPage sh p → is_out sh w p ≡ true → BlockOf sh p.first w
  unfolding is_out carved_words
  out-block p w good e =
      let ws = words_from sh p.first 0 p.carved in
      let r = which sh p.first p.carved w (elem-count w ws (and_left (elem w ws) (not (elem w p.free)) e)) in
      record { index = r.0; inside = omega (arith, r.1, good.within); word = r.2 }

  module _ (q w : ℕ) (low : q + sh.pages ≤ max_pages) (s : BlockOf sh q w) where
    -- its place in the arena, in granules, and that it ends within the run
    placed : (granule_of w ≡ q * page_granules + (sh.header + s.index * sh.block)) × (granule_of w + sh.block ≤ (q + sh.pages) * page_granules)
    unfolding word_of
    placed =
        let high = mul-le-mul_right sh.block s.inside in
        (omega (arith, s.word, high, ok.fits, ok.wide), omega (arith, s.word, high, ok.fits, ok.wide))

    pub page_of_lem : sh.pages ≡ 1 → page_at w ≡ q
    page_of_lem one = omega (arith, placed.0, placed.1, one, ok.wide)

    byte-on : (b : ℕ) → granule_of w * granule_bytes ≤ b → b < granule_of w * granule_bytes + sh.block * granule_bytes → covers sh.pages q (b / page_bytes) ≡ 1
    byte-on b f t = covers_in sh.pages q (b / page_bytes) (omega (arith, placed.0, f)) (omega (arith, placed.1, t))

-- ---- a class as a history leaves it: its pages are good, no page of the arena is in two of its runs, and none ends past the longest arena
pub record ReachedClass (c : ℕ) (s : Class) : Type 0 where
  pub good : GoodClass (shape_of c) s
  pub once : Once (shape_of c) s
  pub low : (x : Site) → SiteLaw (shape_of c) s x → x.page.first + (shape_of c).pages ≤ max_pages

pub record Lies (c : ℕ) (s : Class) (w : ℕ) : Type 0 where
  pub site : Site
  pub law : SiteLaw (shape_of c) s site
  pub out : is_out (shape_of c) w site.page ≡ true

pub lies-on : {c : ℕ} {s : Class} {w : ℕ} (y : Lies c s w) → BlockOf (shape_of c) y.site.page.first w
lies-on {c} {w = w} y = out-block (shape_of c) (shape-sound c) y.site.page w y.law.page y.out

module _ {c : ℕ} {s : Class} (k : ReachedClass c s) where
  abbrev sh : Shape
  sh = shape_of c

  pub lies : (w : ℕ) → out_here sh s w ≡ true → Lies c s w
  unfolding out_here
  lies w e = go (locate (is_out sh w) s) (locate-law sh s k.good (is_out sh w)) (locate-tells (is_out sh w) s) e
    where
      go : (o : Option Site) → SiteLaws sh s o → Tells (is_out sh w) s o → is_some o ≡ true → Lies c s w
      go none l t e = absurd (false≢true e)
      go (some x) l t e = record { site = x; law = l; out = t }

  pub same-page : {w : ℕ} (y : Lies c s w) (x : Site) → SiteLaw sh s x → x.page.first ≡ y.site.page.first → is_out sh w x.page ≡ true
  same-page {w} y x law e =
      let q = x.page.first in
      let f : out_from sh q w y.site.page ≡ out_of sh w y.site.page = rw (eq-eqb y.site.page.first q (sym e)) in
      out-is sh (shape-sound c) w x.page
      (omega (arith, out_first sh (shape-sound c) s x law k.once q w (eq-eqb q q refl), f, y.law.out-rest (out_from sh q w), is-out sh (shape-sound c) w y.site.page y.out))

-- ---- the heap after a history
module _ (n : ℕ) (small : n ≤ max_pages) (rules : Rules) (xs : List Call) where
  abbrev heap : Heap
  heap = heap_after n rules xs

  held_low : (c y : ℕ) → 1 ≤ held_by c (heap.holder y) → y < max_pages
  held_low c y h =
      let k = kept n rules xs in
      by_cases (ltb y heap.arena.frontier)
      (λ e. omega (arith, ltb-true y heap.arena.frontier e, k.inv.bound))
      (λ e. absurd (omega (arith, held-le c (heap.holder y), k.inv.one y, above_at heap.arena.frontier y (ltb-false y heap.arena.frontier e))))

  pub reached-class : (c : ℕ) → ReachedClass c (heap.classes c)
  reached-class c =
      let sh = shape_of c in
      let paged = (shape-sound c).paged in
      record {
        good = good n rules xs c;
        once = once n rules xs c;
        low = λ x law.
            let y = x.page.first + sh.pages - 1 in
            let z = covers_in sh.pages x.page.first y (omega (arith, paged)) (omega (arith, paged)) in
            omega (arith, paged, held_low c y (omega (arith, z, law.pages-rest y, (kept n rules xs).inv.mine c y)));
      }

  pub byte-held : (e : Entry) → Live 0 (events n rules xs) e → (b : ℕ) → HasByte e b → 1 ≤ held_by e.class (heap.holder (b / page_bytes))
  byte-held e l b h =
      let c = e.class in
      let o = ((outs n rules xs).out c e.word).1 (record { entry = e; live = l; class = refl; word = refl }) in
      let k = reached-class c in
      let y = lies k e.word o in
      let z = byte-on (shape_of c) (shape-sound c) y.site.page.first e.word (k.low y.site y.law) (lies-on y) b h.from h.to in
      omega (arith, z, y.law.pages-rest (b / page_bytes), (conserved n rules xs).classes c (b / page_bytes))
