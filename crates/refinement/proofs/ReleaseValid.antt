-- Number 13's tests of a release pass on a represented book.
--     row-valid         the class's row
--     page-valid        a page with blocks out, of which some come back
--     release-valid     all that a release by list tests
use Rattle.facts.proofs.Prelude.{ℕ, zero, suc, ◌+◌, ◌≤◌, arith, Bool, true, false, cond, ◌&&◌, List, [], ◌∷◌, ◌++◌, inl, ◌≡◌, refl, ap, eqb, leb, length, le-leb}
use Rattle.classes.specs.declared.Shape.{Shape}
use Rattle.classes.specs.Shape.{shape_of}
use Rattle.classes.proofs.Shapes.{shape-sound}
use Rattle.rules.specs.declared.Limits.{Limits}
use Rattle.fields.specs.Field.{arena, class, page, partial, empty, empty_count, cold, cold_count, empty_limit, cold_limit, next, prev, free, carved, frontier, get}
use Rattle.model.specs.Page.{Page}
use Rattle.model.specs.Heap.{Heap}
use Rattle.model.specs.Release.{Site}
use Rattle.pages.specs.Runs.{whole}
use Rattle.pages.specs.declared.Park.TheVariants.{Empty}
use Rattle.arena.specs.Valid.{give_valid}
use Rattle.model.specs.Destination.{is_arena}
use Rattle.pages.specs.Valid.{header_valid}
use Rattle.calls.specs.Release.{page_valid, row_valid, destination_at, destination_valid, release_valid}
use Rattle.refinement.specs.way.Chain.{In, Line}
use Rattle.refinement.specs.way.Represents.{firsts, heads, ClassRep, RuleRep, Represents}
use Rattle.refinement.proofs.Basics.{Setting, digit-small}
use Rattle.refinement.proofs.Lists.{in_count}
use Rattle.pages.proofs.Runs.{whole_below}
use Rattle.refinement.proofs.Neighbours.{each-listed, each-head, each-beside}
use Rattle.refinement.proofs.Draw.{free-length}
use Rattle.refinement.proofs.ArenaReached.{Reached}
use Rattle.refinement.proofs.ArenaValid.{head-passes}
use Rattle.refinement.proofs.GiveRep.{give-valid}
use Rattle.refinement.proofs.GiveClass.{run-held}
use Rattle.refinement.proofs.Found.{Placed, among, aside, placed-rep}

-- a code that is 0, or of a page below f
code-valid : (code f : ℕ) → ((z : ℕ) → code ≡ suc z → suc z ≤ f) → leb code f ≡ true
code-valid zero f h = le-leb zero f (omega arith)
code-valid (suc z) f h = le-leb (suc z) f (h z refl)

line-page : (b : List ℕ) (h : ℕ) (xs : List ℕ) (z : ℕ) → Line b h xs → h ≡ suc z → In z xs
line-page b h [] z s e = absurd (omega arith)
line-page b h (x ∷ xs) z s e = inl (omega (arith, s.0))

module _ {n : ℕ} {b : List ℕ} {c : ℕ} {sh : Shape} (s : Setting n b c sh) {ps xs ys fs : List Page} (r : ClassRep n b c sh Empty ps xs ys fs) where
  under : (z : ℕ) → 1 ≤ heads z ps + heads z xs + heads z ys + heads z fs → suc z ≤ get b (arena frontier)
  under z h = each-listed s.shape (λ z. suc z ≤ get b (arena frontier)) (whole_below n b s.shape c) z r h

  pub row-valid : {lim : Limits} → RuleRep b c lim → row_valid b c ≡ true
  unfolding row_valid
  row-valid rl =
      let f = get b (arena frontier) in
      rw (
        code-valid (get b (class partial c)) f (each-head s.shape (λ z. suc z ≤ get b (arena frontier)) (whole_below n b s.shape c) r),
        code-valid (get b (class empty c)) f (λ z e. under z (omega (arith, in_count z (firsts xs) (line-page b (get b (class empty c)) (firsts xs) z r.store.line e)))),
        le-leb (get b (class empty_count c)) 256 (omega (arith, r.store.number, r.store.few)),
        code-valid (get b (class cold c)) f (λ z e. under z (omega (arith, in_count z (firsts ys) (line-page b (get b (class cold c)) (firsts ys) z r.beside.line e)))),
        le-leb (get b (class cold_count c)) 256 (omega (arith, r.beside.number, r.beside.few)),
        le-leb (get b (class empty_limit c)) 256 (rw (ap (λ l. l.empty) rl.same) rl.fit.empty),
        le-leb (get b (class cold_limit c)) 256 (rw (ap (λ l. l.cold) rl.same) rl.fit.cold),
      )

-- the links of a page of the partial list
module _ {n : ℕ} {b : List ℕ} {c : ℕ} {sh : Shape} (s : Setting n b c sh) (ss : List Page) (p : Page) (ts : List Page) {xs ys fs : List Page}
    (r : ClassRep n b c sh Empty (ss ++ p ∷ ts) xs ys fs) where
  links-valid : (leb (get b (page next p.first)) (get b (arena frontier)) && leb (get b (page prev p.first)) (get b (arena frontier))) ≡ true
  links-valid =
      let f = get b (arena frontier) in
      let l = each-beside s.shape (λ z. suc z ≤ get b (arena frontier)) (whole_below n b s.shape c) ss p ts r in
      rw (code-valid (get b (page next p.first)) f l.0, code-valid (get b (page prev p.first)) f l.1)

module _ {n : ℕ} {b : List ℕ} {c : ℕ} {sh : Shape} (s : Setting n b c sh) {zs : List Page} where
  pub page-valid : {l : ℕ} {p : Page} {x : Site} (m : ℕ) → length p.free + m ≤ p.carved → Placed n b c sh zs l p x → page_valid b sh m p.first ≡ true
  unfolding page_valid header_valid
  page-valid m room (among {p} t f r) =
      let rp = placed-rep {zs = zs} (among t f r) in
      let h = rp.holds in
      rw (
        h.ready,
        h.height,
        h.listing,
        h.clean,
        le-leb p.carved sh.capacity h.within,
        le-leb (length rp.stack + m) p.carved (omega (arith, free-length rp)),
        digit-small p.virgin,
        links-valid s f.before p f.behind r,
      )
  page-valid m room (aside {p} t f r) =
      let rp = r.fulls.0 in
      let h = rp.holds in
      rw (
        h.ready,
        h.height,
        h.listing,
        h.clean,
        le-leb p.carved sh.capacity h.within,
        le-leb (length rp.stack + m) p.carved (omega (arith, free-length rp)),
        digit-small p.virgin,
      )

  pub placed_row : {lim : Limits} → RuleRep b c lim → {l : ℕ} {p : Page} {x : Site} → Placed n b c sh zs l p x → row_valid b c ≡ true
  placed_row rl (among t f r) = row-valid s r rl
  placed_row rl (aside t f r) = row-valid s r rl

if_true : (t u : Bool) → u ≡ true → cond t u true ≡ true
if_true true u e = e
if_true false u e = refl

-- a run of the class may be given
module _ (n : ℕ) (b : List ℕ) (H : Heap) (R : Represents n b H) (ok : Reached n H) (c : ℕ) where
  run-valid : (q : ℕ) → whole n b (shape_of c) c q ≡ true → give_valid n b (shape_of c).pages ≡ true
  run-valid q e = give-valid n b H R.arena ok q (shape_of c).pages (shape-sound c).paged (run-held n b H R.arena (shape_of c) c q e)

  pub release-valid : Setting n b c (shape_of c) → {zs : List Page} {l : ℕ} {p : Page} {x : Site} (m : ℕ) → length p.free + m ≤ p.carved
      → Placed n b c (shape_of c) zs l p x → release_valid n b c (shape_of c) m p.first ≡ true
  unfolding release_valid destination_valid
  release-valid s {p = p} m room pl =
      let sh = shape_of c in
      rw (
        head-passes n b H R.arena ok,
        page-valid s m room pl,
        placed_row s (R.rules c s.row) pl,
        if_true (eqb (get b (page free p.first) + m) (get b (page carved p.first)) && is_arena (destination_at b c sh)) (give_valid n b sh.pages)
            (run-valid p.first (placed-rep pl).holds.run),
      )
