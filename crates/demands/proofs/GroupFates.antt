-- Where the emptied runs of a group release go, by the fates that it answers (document 02, A.9).
--     Decides            the group returns all blocks of its page that are out exactly if the list has them all, by the history
--     counts-observed    what a group adds to the two stores is told by its fate
--     groups-go          the groups in their order
use Rattle.facts.proofs.Prelude.{ℕ, ◌+◌, ◌<◌, arith, Bool, true, false, cond, not, false≢true, List, [], ◌∷◌, ◌++◌, map, Option, none, some}
use Rattle.facts.proofs.Prelude.{Option·none-ne-some, Option·some-injective, ◌≡◌, refl, sym, ap, ◌∙◌, subst, eqb, length, take, drop, take-append_seam}
use Rattle.facts.proofs.Prelude.{eqb-true, lt-ltb, not-true, All, every, elem, distinct, by_cases, and_left, and_right, nor_left, nor_right}
use Rattle.words.specs.Host.{digit}
use Rattle.words.specs.Word.{page_of}
use Rattle.classes.specs.declared.Shape.{Shape}
use Rattle.classes.specs.Shape.{shape_of}
use Rattle.classes.proofs.Shapes.{shape-sound}
use Rattle.rules.specs.declared.Limits.{Limits}
use Rattle.rules.specs.Rules.{Rules}
use Rattle.model.specs.declared.Destination.{Destination}
use Rattle.model.specs.declared.Destination.TheVariants.{ToEmpty, ToCold, ToArena}
use Rattle.model.specs.Calls as Calls
use Rattle.model.specs.Calls.{Call, fate, names, is_refused}
use Rattle.model.specs.Page.{Page, is_medium, is_out, none_out, returned, retire}
use Rattle.model.specs.Class.{Class}
use Rattle.model.specs.Destination.{fate_of, kept_fate, retired}
use Rattle.model.specs.Release.{Site, Settled, locate, destination_in, park, settle}
use Rattle.model.specs.Chunks.{starts_at, blocks_on, fits_on, chunk_fits, settle_chunk, settle_chunks}
use Rattle.model.specs.Held.{fates_in}
use Rattle.model.specs.Heap.{step}
use Rattle.model.specs.History.{Event, events, heap_after}
use Rattle.model.proofs.Counts.{elem-count, count_in_lem, filter-le, filter-keeps}
use Rattle.model.proofs.Fates.{chunks-fated}
use Rattle.model.proofs.Find.{first_of, page_in, located-first}
use Rattle.model.proofs.Offers.{good}
use Rattle.model.proofs.Pages.{out-is}
use Rattle.model.proofs.Sites.{SiteLaw, SiteLaws, locate-law}
use Rattle.refinement.proofs.ChunkWhole.{small-shape}
use Rattle.refinement.proofs.Found.{Located, located, located-passes}
use Rattle.refinement.proofs.Chunks.{Adds, settle-adds, settle-skips, every-blocks, once-blocks}
use Rattle.demands.specs.Parking.{Empties, GroupsGo}
use Rattle.demands.proofs.Codes.{step-served}
use Rattle.demands.proofs.ChunkReturns.{chunks-passed}
use Rattle.demands.proofs.Fates.{Freed, in_fate, beside, emptied-none, none-emptied, out-there}

-- ---- a group's fate, and what it tells of the stores
module _ (sh : Shape) (small : is_medium sh ≡ false) (lim : Limits) (h : ℕ) where
  counts-observed : (e k : ℕ) (destination : Destination) (gone : Bool) (y : Settled) → Adds e k destination gone y → y.fate ≡ cond gone (retired (fate_of sh destination)) kept_fate
      → (length y.class.empty ≡ e + digit (eqb y.fate (retired (fate_of sh ToEmpty)))) × (length y.class.cold ≡ k + digit (eqb y.fate (retired (fate_of sh ToCold))))
  counts-observed e k destination false y a f = (a.empty ∙ rw f (omega arith), a.cold ∙ rw (f, small) (omega arith))
  counts-observed e k ToEmpty true y a f = (a.empty ∙ rw f, a.cold ∙ rw (f, small))
  counts-observed e k ToCold true y a f = (a.empty ∙ rw (f, small), a.cold ∙ rw (f, small))
  counts-observed e k ToArena true y a f = (a.empty ∙ rw f, a.cold ∙ rw (f, small))

  settle-fate : {t : Page → Bool} {s : Class} {x : Site} → Located t s (some x) → (ws : List ℕ)
      → (settle sh lim h true ws x).fate ≡ cond (none_out sh (returned ws x.page)) (retired (fate_of sh (destination_in sh lim s))) kept_fate
  unfolding settle park
  settle-fate {x = x} l ws =
      let k = beside l in
      by_cases (none_out sh (returned ws x.page))
      (λ e. rw e (ap retired (in_fate sh h x.without (retire x.page) (destination_in sh lim x.without) ∙ rw (k.0, k.1))))
      (λ e. rw e)

-- ---- against the history
module _ (size : ℕ) (limits : Rules) (xs : List Call) (c h : ℕ) (lim : Limits) (ws : List ℕ) (single : distinct ws ≡ true) where
  abbrev sh : Shape
  sh = shape_of c

  abbrev s : Class
  s = (heap_after size limits xs).classes c

  abbrev vs : List Event
  vs = events size limits xs

  abbrev gone : Page → Bool
  gone p = none_out sh (returned (blocks_on sh ws p) p)

  record Decides (q : ℕ) (p : Page) : Type 0 where
    all : Empties vs c q ws → gone p ≡ true
    only : gone p ≡ true → Empties vs c q ws

  -- of a page as the class has it before the first group
  decides : (q : ℕ) (x : Site) → Located (starts_at q) s (some x) → SiteLaw sh s x → Decides q x.page
  unfolding blocks_on
  decides q x l law =
      let bs = blocks_on sh ws x.page in
      let k = beside l in
      let f : Freed sh lim h s (blocks_on sh ws x.page) (fate (settle sh lim h false (blocks_on sh ws x.page) x).fate)
      = record { site = x; law = law; empty = k.0; cold = k.1; outs = every-blocks sh ws x.page; once = once-blocks sh ws single x.page; is = refl } in
      let run : x.page.first ≡ q = eqb-true x.page.first q (located-passes l) in
      let t : ℕ → Bool = λ w. is_out sh w x.page in
      record {
        all = λ e. emptied-none size limits xs c f run (λ w m o.
            let y = out-is sh (shape-sound c) w x.page (out-there size limits xs c f run w m o) in
            count_in_lem w bs (omega (arith, filter-keeps t w ws y, elem-count w ws (e w m o))));
        only = λ e w m o. count_in_lem w ws (omega (arith, filter-le t w ws, elem-count w bs (none-emptied size limits xs c f run e w m o)));
      }

  -- a group whose page has its blocks out, whatever the groups before it did
  record Awaits (t : Class) (g : ℕ) : Type 0 where
    page : Page
    found : first_of (starts_at (page_of g)) t ≡ some page
    observed : Decides (page_of g) page

  awaits-on : (g : ℕ) (o : Option Site) → Located (starts_at (page_of g)) s o → SiteLaws sh s o → page_in o ≡ first_of (starts_at (page_of g)) s → fits_on sh ws g o ≡ true → Awaits s g
  awaits-on g none l law e f = absurd (false≢true f)
  awaits-on g (some x) l law e f = record { page = x.page; found = sym e; observed = decides (page_of g) x l law }

  awaits : (gs : List ℕ) → every (chunk_fits sh s ws) gs ≡ true → All (Awaits s) gs
  unfolding chunk_fits
  awaits [] e = tt
  awaits (g ∷ gs) e =
      let t = starts_at (page_of g) in (
        awaits-on g (locate t s) (located t s) (locate-law sh s (good size limits xs c) t) (located-first t s) (and_left (chunk_fits sh s ws g) (every (chunk_fits sh s ws) gs) e),
        awaits gs (and_right (chunk_fits sh s ws g) (every (chunk_fits sh s ws) gs) e),
      )

  awaits-next : (t t' : Class) (q : ℕ) → ((r : ℕ) → eqb q r ≡ false → first_of (starts_at r) t' ≡ first_of (starts_at r) t) → (gs : List ℕ) → elem q (map page_of gs) ≡ false → All (Awaits t) gs → All (Awaits t') gs
  awaits-next t t' q k [] e a = tt
  awaits-next t t' q k (g ∷ gs) e a =
      let r = a.0 in
      let ne = nor_left (eqb q (page_of g)) (elem q (map page_of gs)) e in
      (record { page = r.page; found = k (page_of g) ne ∙ r.found; observed = r.observed }, awaits-next t t' q k gs (nor_right (eqb q (page_of g)) (elem q (map page_of gs)) e) a.1)

  abbrev Go : Class → List ℕ → List ℕ → Type 0
  Go t gs us = GroupsGo vs c lim ws (length t.empty) (length t.cold) gs us

  module _ (small : is_medium sh ≡ false) (g : ℕ) (gs : List ℕ) (new : elem (page_of g) (map page_of gs) ≡ false)
      (rest : (t : Class) → All (Awaits t) gs → Go t gs (settle_chunks sh lim h ws t gs).fates) (t : Class) (a : Awaits t g) (b : All (Awaits t) gs) where
    first_goes : (o : Option Site) → Located (starts_at (page_of g)) t o → page_in o ≡ some a.page
        → (let y = settle_chunk sh lim h t ws o in Go t (g ∷ gs) (y.fate ∷ (settle_chunks sh lim h ws y.class gs).fates))
    unfolding settle_chunk
    first_goes none l e = absurd (Option·none-ne-some a.page e)
    first_goes (some x) l e =
        let bs = blocks_on sh ws x.page in
        let y = settle sh lim h true (blocks_on sh ws x.page) x in
        let same : x.page ≡ a.page = Option·some-injective x.page a.page e in
        let run : x.page.first ≡ page_of g = eqb-true x.page.first (page_of g) (located-passes l) in
        let d : Decides (page_of g) x.page = subst (Decides (page_of g)) (sym same) a.observed in
        let f = settle-fate sh small lim h l bs in
        let k = counts-observed sh small lim h (length t.empty) (length t.cold) (destination_in sh lim t) (gone x.page) y (settle-adds sh lim h l bs) f in
        let r = rest y.class (awaits-next t y.class (page_of g) (λ r ne. settle-skips sh lim h l bs r (ap (λ v. eqb v r) run ∙ ne)) gs new b) in (
          record { emptied = λ z. f ∙ rw (d.all z); kept = λ z. f ∙ by_cases (gone x.page) (λ u. absurd (z (d.only u))) (λ u. rw u) },
          subst (λ (n : ℕ). GroupsGo vs c lim ws (length t.empty + digit (eqb y.fate (retired (fate_of sh ToEmpty)))) n gs (settle_chunks sh lim h ws y.class gs).fates) k.1
              (subst (λ (n : ℕ). GroupsGo vs c lim ws n (length y.class.cold) gs (settle_chunks sh lim h ws y.class gs).fates) k.0 r),
        )

  groups-go : is_medium sh ≡ false → (gs : List ℕ) → distinct (map page_of gs) ≡ true → (t : Class) → All (Awaits t) gs → Go t gs (settle_chunks sh lim h ws t gs).fates
  unfolding settle_chunks
  groups-go small [] d t a = tt
  groups-go small (g ∷ gs) d t a =
      let q = page_of g in
      let qs = map page_of gs in
      let new = not-true (elem q qs) (and_left (not (elem q qs)) (distinct qs) d) in
      let others = and_right (not (elem q qs)) (distinct qs) d in
      first_goes small g gs new (λ t a. groups-go small gs others t a) t a.0 a.1 (locate (starts_at q) t) (located (starts_at q) t) (located-first (starts_at q) t ∙ a.0.found)

-- ---- a group release that is not refused
pub groups-fated : (size : ℕ) (limits : Rules) (xs : List Call) (c h : ℕ) (ws gs fs : List ℕ) → c < 64
    → (let H = heap_after size limits xs in
    let a = (step size H (Calls.release_bin_chunks c h ws gs fs)).answer in
    is_refused a ≡ false → GroupsGo (events size limits xs) c (H.rules c) ws (length (H.classes c).empty) (length (H.classes c).cold) gs (fates_in (length gs) a))
groups-fated size limits xs c h ws gs fs l u =
    let H = heap_after size limits xs in
    let lim = H.rules c in
    let k = H.classes c in
    let named : names (Calls.release_bin_chunks c h ws gs fs) ≡ some (record { class = c; request = Calls.give_chunks h ws gs fs }) = rw (lt-ltb c 64 l) in
    let e = step-served size H (Calls.release_bin_chunks c h ws gs fs) _ named u in
    let t = chunks-passed c lim k h ws gs fs _ e.0 (ap is_refused (sym e.1) ∙ u) in
    let us = (settle_chunks (shape_of c) lim h ws k gs).fates in
    let z : fates_in (length gs) (step size H (Calls.release_bin_chunks c h ws gs fs)).answer ≡ us
    = ap (fates_in (length gs)) (e.1 ∙ t.answer) ∙ subst (λ (n : ℕ). take n (us ++ drop (length gs) fs) ≡ us) (chunks-fated (shape_of c) lim h ws gs k).many (take-append_seam us (drop (length gs) fs)) in
    rw z (groups-go size limits xs c h lim ws t.single (small-shape c (lt-ltb c 64 l)) gs t.pages k (awaits size limits xs c h lim ws t.single gs t.counts))
