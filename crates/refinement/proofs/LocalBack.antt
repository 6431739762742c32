-- A page whose blocks come back, by list or by a chunk, up to the give: that keeps to the class's words.
use Rattle.facts.proofs.Prelude.{ℕ, ◌≤◌, arith, Bool, true, false, not, ◌&&◌, List, map, ◌≡◌, refl, ap, eqb, every, count, by_cases}
use Rattle.words.specs.Host.{discard_zeroed}
use Rattle.classes.specs.declared.Shape.{Shape}
use Rattle.fields.specs.Field.{class, page, partial, empty_count, cold_count, empty_limit, cold_limit, next, prev, free, carved, listed, get}
use Rattle.fields.specs.Ranges.{max_pages}
use Rattle.fields.proofs.Laws.{get-put_other}
use Rattle.model.specs.Page.{Page, is_medium, is_out}
use Rattle.model.specs.declared.Destination.{Destination}
use Rattle.model.specs.declared.Destination.TheVariants.{ToEmpty, ToCold, ToArena}
use Rattle.model.specs.Release.{Site}
use Rattle.pages.specs.Stack.{back, index_of}
use Rattle.pages.specs.declared.Park.TheVariants.{Empty, Cold}
use Rattle.pages.specs.Carve.{carved_at_once, carve_anew}
use Rattle.pages.proofs.Descending.{every-below}
use Rattle.pages.proofs.Frames.{at_once-few}
use Rattle.calls.specs.Release.{Released, unlisted, park_as, destination_at, park_at, emptied, set_retired, leaves, placed, give_back_at}
use Rattle.calls.specs.Chunks.{chunk_back_at}
use Rattle.refinement.proofs.Basics.{Setting}
use Rattle.refinement.proofs.Found.{Placed, among, aside, placed-rep}
use Rattle.refinement.proofs.Returned.{return_data, return_fit, return_slots}
use Rattle.refinement.proofs.Override.{override, PageIn, RowIn, get-page, get-row}
use Rattle.refinement.proofs.LocalPages.{CodeIn, back_in, carve_in, emptied_in, park-run_in, unlisted_in, relisted_in}
use Rattle.refinement.proofs.LocalFill.{Home, links-home, head-home}

abbrev pub override_released : (ℕ → Bool) → List ℕ → Released → Released
override_released S d r = record { code = r.code; book = override S r.book d; fate = r.fate }

-- the neighbours of page q, where it is in the partial list
abbrev TiesIn : (ℕ → Bool) → List ℕ → ℕ → Type 0
TiesIn S b q = get b (page listed q) ≡ 1 → CodeIn S (get b (page next q)) × CodeIn S (get b (page prev q))

module _ {S : ℕ → Bool} {c q : ℕ} (r : RowIn S c) (p : PageIn S q) (sh : Shape) (few : sh.capacity ≤ 4096) (h : ℕ) (d : List ℕ) where
  as_in : (b : List ℕ) (destination : Destination) → park_as (override S b d) c sh h q destination ≡ override_released S d (park_as b c sh h q destination)
  as_in b ToEmpty = rw (park-run_in r p b d Empty)
  as_in b ToCold =
      let v = discard_zeroed h && not (is_medium sh) in
      rw (carve_in p b d sh (discard_zeroed h && not (is_medium sh)) (at_once-few sh (carved_at_once sh) refl few), park-run_in r p (carve_anew b sh q v) d Cold)
  as_in b ToArena = refl

  pub park_in_lem : (b : List ℕ) → TiesIn S b q → park_at (override S b d) c sh h q ≡ override_released S d (park_at b c sh h q)
  unfolding park_at
  park_in_lem b t = rw (get-row r b d empty_count, get-row r b d cold_count, get-row r b d empty_limit, get-row r b d cold_limit, unlisted_in r p b d t) (as_in (unlisted b c q) (destination_at b c sh))

module _ {S : ℕ → Bool} {n : ℕ} {b : List ℕ} {c : ℕ} {sh : Shape} {zs : List Page} (s : Setting n b c sh) (hn : n ≤ max_pages) (hm : Home S n b c sh) (h : ℕ) (d : List ℕ)
    {l : ℕ} (x : Site) (pl : Placed n b c sh zs l x.page x) (ws : List ℕ) (outs : every (λ w. is_out sh w x.page) ws ≡ true) (once : (w : ℕ) → count w ws ≤ 1) where
  abbrev q : ℕ
  q = x.page.first

  abbrev is : List ℕ
  is = map (index_of sh x.page.first) ws

  pg : PageIn S x.page.first
  pg = hm.pages x.page.first (placed-rep pl).holds.run

  came : back (override S b d) q is ≡ override S (back b q is) d
  came = back_in pg b d is (every-below sh.capacity 4096 s.shape.few is (return_fit s hn (placed-rep pl) ws outs once)) (return_slots s hn (placed-rep pl) ws outs once)

  ties : {l : ℕ} {p : Page} {x : Site} → Placed n b c sh zs l p x → TiesIn S b p.first
  ties (among {p} t f r) e = links-home s hm d f.before p f.behind r
  ties (aside {p} t f r) e = absurd (omega (arith, r.fulls.0.holds.listing))

  head : {l : ℕ} {p : Page} {x : Site} → Placed n b c sh zs l p x → CodeIn S (get b (class partial c))
  head (among t f r) = head-home s hm d r
  head (aside t f r) = head-home s hm d r

  -- the same after the blocks came back
  ties-back : TiesIn S (back b q is) q
  ties-back =
      let ch = return_data s hn (placed-rep pl) ws outs once in
      rw (ch.kept (page listed q) refl refl, ch.kept (page next q) refl refl, ch.kept (page prev q) refl refl) (ties pl)

  head-back : CodeIn S (get (back b q is) (class partial c))
  head-back = let ch = return_data s hn (placed-rep pl) ws outs once in rw (ch.kept (class partial c) s.row refl) (head pl)

  leaves_local : (t : Bool) → leaves t (override S (back b q is) d) c sh h q ≡ override_released S d (leaves t (back b q is) c sh h q)
  unfolding emptied
  leaves_local true =
      rw (emptied_in pg (back b q is) d) (ap set_retired (park_in_lem hm.row pg sh s.shape.few h d (emptied (back b q is) q) (simp get-put_other ties-back)))
  leaves_local false = park_in_lem hm.row pg sh s.shape.few h d (back b q is) ties-back

  -- by list, and by a chunk
  pub placed_local : (t : Bool) → placed t (back (override S b d) q is) c sh h q ≡ override_released S d (placed t (back b q is) c sh h q)
  placed_local t =
      rw (came, get-page pg (back b q is) d carved, get-page pg (back b q is) d free)
      (by_cases (eqb (get (back b q is) (page carved q)) (get (back b q is) (page free q)))
      (λ e. rw e (leaves_local t))
      (λ e. rw (e, relisted_in hm.row pg (back b q is) d head-back)))

  pub list_local : give_back_at (override S b d) c sh h q is ≡ override_released S d (give_back_at b c sh h q is)
  unfolding give_back_at
  list_local = placed_local false

  pub chunk_local : chunk_back_at (override S b d) c sh h q is ≡ override_released S d (chunk_back_at b c sh h q is)
  unfolding chunk_back_at
  chunk_local = placed_local true
