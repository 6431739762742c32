-- On a represented book every test of a take's plan passes.
--     page-sound      a page of the class that has a block is in its ranges
--     walk-passes     the walk over the partial list
--     park-passes     the newest page of a store
use Rattle.facts.proofs.Prelude.{ℕ, zero, suc, ◌+◌, ◌-◌, ◌≤◌, arith, Bool, true, not, List, [], ◌∷◌, map, ◌≡◌, refl, ap, ◌∙◌, eqb, ltb, leb}
use Rattle.facts.proofs.Prelude.{length, take, eq-eqb, ne_eqb, ltb-false, le-leb, lt-ltb, is_nil, All, count, by_cases, or_left, or_right}
use Rattle.classes.specs.declared.Shape.{Shape}
use Rattle.classes.specs.way.Sound.{Sound}
use Rattle.fields.specs.Field.{arena, class, page, next, frontier, get}
use Rattle.model.specs.Page as Page
use Rattle.model.specs.Page.{Page, word_of}
use Rattle.model.proofs.Counts.{count_cut}
use Rattle.words.specs.Host.{digit}
use Rattle.pages.specs.Stack.{latest, has_more}
use Rattle.pages.specs.declared.Park.{Park}
use Rattle.pages.specs.Links.{top}
use Rattle.pages.specs.Valid.{header_valid}
use Rattle.calls.specs.Take.{page_ready, sound, walk, park_valid}
use Rattle.pages.proofs.Descending.{digit_cases}
use Rattle.refinement.specs.way.Chain.{Segment, Line, Stack}
use Rattle.refinement.specs.way.Represents.{Holds, PageRep, Parked, firsts}
use Rattle.refinement.proofs.Basics.{digit-small}
use Rattle.pages.proofs.Runs.{whole_below}
use Rattle.refinement.proofs.Blocks.{few-counts, every-counts, top_entries-take}
use Rattle.refinement.proofs.Draw.{more-is}
use Rattle.refinement.proofs.Fill.{AllMore, pred}

module _ {n : ℕ} {sh : Shape} {b : List ℕ} {c l q : ℕ} {xs : List ℕ} {k : ℕ} {v : Bool} (h : Holds n sh b c l q xs k v) where
  pub stack-below : (i : ℕ) → k ≤ i → count i xs ≡ 0
  stack-below i u = digit_cases i k (λ w e. absurd (omega arith)) (λ w e. omega (arith, h.outs i))

  -- FREE is at most CARVED
  pub stack-fits : length xs ≤ k
  stack-fits = few-counts xs k (λ i. omega (arith, h.outs i))

  pub page-sound : (m : ℕ) → has_more b sh q ≡ true → sound n b c sh l m q ≡ true
  unfolding sound page_ready header_valid
  page-sound m g =
      rw (
        h.run,
        h.listing,
        h.height,
        h.ready,
        h.clean,
        g,
        top_entries-take b q m xs h.slots,
        eq-eqb l l refl,
        le-leb (length xs + 0) k (omega (arith, stack-fits)),
        le-leb k sh.capacity h.within,
        digit-small v,
      )
      (every-counts k (take m xs) (λ i u. omega (arith, count_cut i m xs, stack-below i u)))

module _ (n : ℕ) (b : List ℕ) {sh : Shape} (ok : Sound sh) (c : ℕ) where
  rep-sound : (l : ℕ) (p : Page) (m : ℕ) → Page.has_more sh p ≡ true → PageRep n sh b c l p → sound n b c sh l m p.first ≡ true
  rep-sound l p m g r = page-sound r.holds m (more-is r ∙ g)

  code_below : (y h : ℕ) (ps : List Page) → Segment b y h (firsts ps) 0 → All (PageRep n sh b c 1) ps → leb h (get b (arena frontier)) ≡ true
  code_below y h [] s a = le-leb h (get b (arena frontier)) (omega arith)
  code_below y h (p ∷ ps) s a = le-leb h (get b (arena frontier)) (omega (arith, s.0, whole_below n b ok c p.first a.0.holds.run))

  pub walk-passes : (ps : List Page) (fuel m code y : ℕ) → Segment b y code (firsts ps) 0 → All (PageRep n sh b c 1) ps → AllMore sh ps
      → walk n b c sh fuel m code y ≡ true
  unfolding walk
  walk-passes ps zero m code y s a g = code_below y code ps s a
  walk-passes [] (suc fuel) m code y s a g = rw (code_below y code [] s a, s) (by_cases (eqb m 0) (λ u. rw u) (λ u. rw u))
  walk-passes (p ∷ ps) (suc fuel) m code y s a g =
      rw (code_below y code (p ∷ ps) s a)
      (by_cases (eqb m 0) (λ u. rw u)
      (λ u. rw (u, s.0, ne_eqb (suc p.first) 0 (λ z. omega arith), pred p.first, s.1, eq-eqb y y refl, rep-sound 1 p m g.0 a.0)
      (walk-passes ps fuel (m - length (latest b sh p.first m)) (get b (page next p.first)) (suc p.first) s.2 a.1 g.1)))

  -- a parked page has a block: all its blocks are free or still to be carved
  pub parked-more : (p : Page) → Parked n sh b c p → Page.has_more sh p ≡ true
  unfolding Page.has_more
  parked-more p r =
      by_cases (ltb p.carved sh.capacity)
      (λ e. or_right (not (is_nil p.free)) (ltb p.carved sh.capacity) e)
      (λ e. let z = ltb-false p.carved sh.capacity e in
      let f : digit (ltb 0 p.carved) ≡ 1 = ap digit (lt-ltb 0 p.carved (omega (arith, ok.blocks))) in
      or_left (not (is_nil p.free)) (ltb p.carved sh.capacity)
      (named p.first p.free r.rep.stack r.rep.names (omega (arith, r.rep.holds.outs 0, r.idle 0))))
    where
      named : (q : ℕ) (fr xs : List ℕ) → fr ≡ map (word_of sh q) xs → 1 ≤ count 0 xs → not (is_nil fr) ≡ true
      named q fr [] e z = absurd (omega arith)
      named q fr (x ∷ xs) e z = rw e

  line-below : (h : ℕ) (xs : List Page) → Line b h (firsts xs) → All (Parked n sh b c) xs → leb h (get b (arena frontier)) ≡ true
  line-below h [] s a = le-leb h (get b (arena frontier)) (omega arith)
  line-below h (p ∷ ps) s a = le-leb h (get b (arena frontier)) (omega (arith, s.0, whole_below n b ok c p.first a.0.rep.holds.run))

  pub park-passes : (k : Park) (p : Page) (xs : List Page) → Stack b c k (firsts (p ∷ xs)) → All (Parked n sh b c) (p ∷ xs) → park_valid n b c sh k ≡ true
  unfolding park_valid
  park-passes k p xs s a =
      rw (
        line-below (get b (class (top k) c)) (p ∷ xs) s.line a,
        s.number,
        s.line.0,
        pred p.first,
        ne_eqb (suc (length (firsts xs))) 0 (λ z. omega arith),
        le-leb (suc (length (firsts xs))) 256 s.few,
        rep-sound 0 p sh.batch (parked-more p a.0) a.0.rep,
        line-below (get b (page next p.first)) xs s.line.1 a.1,
      )
