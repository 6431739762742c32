-- Number 13's tests are the table of specs/Ranges over the rows that the call reads. n is the arena's length, LENGTH of the book.
use Rattle.facts.proofs.Prelude.{ℕ, zero, suc, ◌+◌, ◌-◌, ◌/◌, ◌≤◌, min, arith, add-zero, Bool, true, false, cond, not, ◌&&◌, ◌||◌, and-true}
use Rattle.facts.proofs.Prelude.{and-false, and_assoc, and_comm, List, [], ◌∷◌, ◌++◌, map, ◌≡◌, refl, sym, ap, ◌∙◌, eqb, ltb, leb, length, leb-true}
use Rattle.facts.proofs.Prelude.{le-leb, lt-leb, ltb-true, ltb-false, eqb-true, eqb-false, eq-eqb, ne_eqb, every, below, by_cases, and_swap}
use Rattle.words.specs.Limits.{class_rows}
use Rattle.words.specs.Word.{count_of, page_of}
use Rattle.classes.specs.declared.Shape.{Shape}
use Rattle.fields.specs.Field.{arena, class, hole, page, size, frontier, holes, hole_pages, held, start, pages, partial, empty, cold, free, carved, listed, get}
use Rattle.fields.specs.Ranges.{max_parked, format_valid, head_valid}
use Rattle.fields.proofs.Sound.{head-frontier}
use Rattle.model.specs.Destination.{is_arena}
use Rattle.arena.specs.Load.{load_holes}
use Rattle.arena.specs.Valid.{record_valid, hole_ends_valid, holes_end_valid, hole_valid, holes_valid, commit_valid, give_valid, grow_gives, grow_valid, counts_valid, all_counts_valid, report_valid}
use Rattle.pages.specs.Runs.{of_run, whole}
use Rattle.pages.specs.Stack.{top_entries, latest, has_more, index_of}
use Rattle.pages.proofs.Draws.{latest-length}
use Rattle.pages.specs.Links.{top, stored}
use Rattle.pages.specs.Valid.{header_valid, links_valid}
use Rattle.pages.specs.declared.Park.{Park}
use Rattle.pages.specs.declared.Park.TheVariants.{Empty, Cold}
use Rattle.calls.specs.Take.{page_ready, sound, walk, park_valid}
use Rattle.calls.specs.Out.{start_of, outs, clean, unmarked}
use Rattle.calls.specs.Release.{page_valid, row_valid, destination_at, destination_valid, release_valid}
use Rattle.calls.specs.Chunks.{pages_given, chunks_valid}
use Rattle.demands.specs.Ranges.{Link, partial_of, empty_of, cold_of, next_of, prev_of, link_field, Use, state_known, format_is, frontier_fits, holes_few, hole_pages_few, held_fits, hole_ends, code, visited, empty_few, empty_taken, cold_few, cold_taken, owner_is, first_is, prev_is, listed_flag, listed_yes, listed_no, free_fits, mark_clear, free_with, carved_fits, virgin_flag, in_range, fits, strays, empty_limited, cold_limited}
use Rattle.poolcalls.specs.Calls.{count_valid, top_valid}
use Rattle.demands.specs.Number13.{take_valid, Number13}
use Rattle.demands.specs.Reads.{count_reads, record_reads, hole_reads, commit_reads, give_reads, parked_reads, report_reads, run_reads, entry_reads, page_reads, walk_reads, walk_visits, park_reads, take_reads, take_visits, supply, yields, yield_all, barren, mark_reads, back_reads, row_reads, release_reads, backs_reads, chunks_reads, neighbours_reads, given_reads, grow_reads, stock_reads, top_reads}
use Rattle.demands.proofs.RefusalsLaws.{not_and}

-- ---- conjunctions

ruleset sorts = (and_assoc, and_comm, and_swap)

pub fits-append : (b : List ℕ) (us vs : List Use) → fits b (us ++ vs) ≡ (fits b us && fits b vs)
unfolding fits
fits-append b [] vs = refl
fits-append b (u ∷ us) vs = ap (λ (t : Bool). in_range b u && t) (fits-append b us vs) ∙ sym (and_assoc (in_range b u) (fits b us) (fits b vs))

fits-none : (b : List ℕ) → true ≡ fits b []
unfolding fits
fits-none b = refl

fits_if : (b : List ℕ) (t : Bool) (us : List Use) → cond t (fits b us) true ≡ fits b (cond t us [])
fits_if b true us = refl
fits_if b false us = fits-none b

every-cond : {A : Type 0} (t : A → Bool) (i : Bool) (us vs : List A) → every t (cond i us vs) ≡ cond i (every t us) (every t vs)
every-cond t true us vs = refl
every-cond t false us vs = refl

-- ---- the arena
hole_as : (x y z r : Bool) → ((y && (x && z)) && r) ≡ ((x && y) && (z && r))
hole_as x y z r = simp sorts

-- a hole that ends at f or below has at most f pages
neighbours_as : (q m f : ℕ) (r : Bool) → ((leb 1 m && leb (q + m) f) && r) ≡ ((leb 1 m && leb m f) && (leb (q + m) f && r))
neighbours_as q m f r =
    by_cases (leb (q + m) f)
    (λ e. let l = leb-true (q + m) f e in rw (e, le-leb m f (omega arith)) (simp and_assoc))
    (λ e. rw (e, and-false (leb 1 m), and-false (leb 1 m && leb m f)))

give_as : (s v f h p l m r : Bool) → ((s && ((v && f) && (h && (p && l)))) && (m && r)) ≡ ((s && (v && (f && (h && (p && ((m && l) && true)))))) && r)
give_as s v f h p l m r = rw (and-true (m && l)) (simp sorts)

module _ (b : List ℕ) where
  record_ranges : record_valid (get b (arena size)) b ≡ fits b record_reads
  unfolding record_valid head_valid format_valid fits record_reads count_reads
  record_ranges = rw (and-true (in_range b held_fits), and_assoc (in_range b format_is) (in_range b frontier_fits))

  holes_ranges : (i k : ℕ) → every (hole_valid (get b (arena hole_pages)) (get b (arena frontier))) (load_holes b i k) ≡ fits b (hole_reads i k)
  unfolding load_holes hole_reads fits
  holes_ranges i zero = refl
  holes_ranges i (suc k) = rw (holes_ranges (suc i) k) (hole_as (leb 1 (get b (hole pages i))) (leb (get b (hole pages i)) (get b (arena hole_pages))) (in_range b (hole_ends i)) (fits b (hole_reads (suc i) k)))

  commit_ranges : commit_valid (get b (arena size)) b ≡ fits b (commit_reads b)
  unfolding commit_valid commit_reads holes_valid
  commit_ranges = rw (record_ranges, holes_ranges 0 (get b (arena holes)), fits-append)

  neighbours_ranges : (i k : ℕ) → every (hole_ends_valid (get b (arena frontier))) (load_holes b i k) ≡ fits b (neighbours_reads i k)
  unfolding load_holes neighbours_reads fits
  neighbours_ranges i zero = refl
  neighbours_ranges i (suc k) = rw (neighbours_ranges (suc i) k) (neighbours_as (get b (hole start i)) (get b (hole pages i)) (get b (arena frontier)) (fits b (neighbours_reads (suc i) k)))

  given_as : (m : ℕ) (r : Bool) → (record_valid (get b (arena size)) b && (leb m (get b (arena held)) && r)) ≡ (fits b (given_reads m) && r)
  unfolding record_valid head_valid format_valid fits given_reads count_reads
  given_as m r =
      give_as (in_range b state_known) (in_range b format_is) (in_range b frontier_fits) (in_range b holes_few) (in_range b hole_pages_few) (in_range b held_fits) (leb m (get b (arena held))) r

  give_ranges : (m : ℕ) → give_valid (get b (arena size)) b m ≡ fits b (give_reads b m)
  unfolding give_valid give_reads holes_end_valid
  give_ranges m = rw (given_as m (every (hole_ends_valid (get b (arena frontier))) (load_holes b 0 (get b (arena holes)))), neighbours_ranges 0 (get b (arena holes)), fits-append)

  grow_ranges : (h e m : ℕ) → grow_valid (get b (arena size)) b h e m ≡ fits b (grow_reads b h e m)
  unfolding grow_valid grow_reads holes_end_valid
  grow_ranges h e m = rw (record_ranges, neighbours_ranges 0 (get b (arena holes)), fits-append) (ap (λ (t : Bool). fits b record_reads && t) (fits_if b (grow_gives (get b (arena size)) b h e m) (neighbours_reads 0 (get b (arena holes)))))

  parked_ranges : (cs : List ℕ) → every (counts_valid b) cs ≡ fits b (parked_reads cs)
  unfolding fits parked_reads
  parked_ranges [] = refl
  parked_ranges (c ∷ cs) = rw (parked_ranges cs) (and_assoc (in_range b (empty_few c)) (in_range b (cold_few c)) (fits b (parked_reads cs)))

  report_ranges : report_valid (get b (arena size)) b ≡ fits b report_reads
  unfolding report_valid all_counts_valid report_reads
  report_ranges = rw (record_ranges, parked_ranges (below class_rows), fits-append)

-- ---- marks
module _ (b : List ℕ) (c : ℕ) (sh : Shape) where
  mark_ranges : (ws : List ℕ) → every (clean b sh) ws ≡ fits b (map (λ w. mark_clear (start_of b w) (index_of sh (start_of b w) w / 32)) ws)
  unfolding fits
  mark_ranges [] = refl
  mark_ranges (w ∷ ws) = ap (λ (t : Bool). clean b sh w && t) (mark_ranges ws)

  marks_ranges : (ws : List ℕ) → unmarked (get b (arena size)) b c sh ws ≡ fits b (mark_reads b c sh ws)
  unfolding unmarked mark_reads
  marks_ranges ws = mark_ranges (outs (get b (arena size)) b c sh ws)

-- ---- releases
back_as : (c f i l k : Bool) → ((c && (f && i)) && (l && k)) ≡ (c && (f && (l && (i && k))))
back_as c f i l k = simp sorts

row_as : (p e f c k l m : Bool) → (p && ((e && f) && ((c && k) && (l && m)))) ≡ (p && (e && (f && (c && (k && (l && (m && true)))))))
row_as p e f c k l m = rw (and-true m, and_assoc e f ((c && k) && (l && m)), and_assoc c k (l && m))

module _ (b : List ℕ) (c : ℕ) (sh : Shape) where
  back_ranges : (m q : ℕ) → page_valid b sh m q ≡ fits b (back_reads b sh m q)
  unfolding page_valid header_valid fits back_reads
  back_ranges m q =
      rw (every-cond (in_range b), and-true (in_range b (code (prev_of q))))
      (back_as (in_range b (carved_fits q sh.capacity)) (in_range b (free_with q m)) (in_range b (virgin_flag q)) (in_range b (listed_flag q)) (links_valid b q))

  row_ranges : row_valid b c ≡ fits b (row_reads c)
  unfolding row_valid fits row_reads
  row_ranges =
      row_as (in_range b (code (partial_of c))) (in_range b (code (empty_of c))) (in_range b (empty_few c)) (in_range b (code (cold_of c))) (in_range b (cold_few c))
      (in_range b (empty_limited c)) (in_range b (cold_limited c))

  given_ranges : (t : Bool) (m : ℕ) → cond t (give_valid (get b (arena size)) b m) true ≡ fits b (cond t (give_reads b m) [])
  given_ranges true m = give_ranges b m
  given_ranges false m = fits-none b

  first_use : (us : List Use) → fits b (format_is ∷ frontier_fits ∷ us) ≡ (head_valid (get b (arena size)) b && fits b us)
  unfolding fits head_valid format_valid
  first_use us = sym (and_assoc (in_range b format_is) (in_range b frontier_fits) (every (in_range b) us))

  release_ranges : (m q : ℕ) → release_valid (get b (arena size)) b c sh m q ≡ fits b (release_reads b c sh m q)
  unfolding release_valid destination_valid release_reads
  release_ranges m q =
      rw (
        back_ranges m q,
        row_ranges,
        given_ranges (eqb (get b (page free q) + m) (get b (page carved q)) && is_arena (destination_at b c sh)) sh.pages,
        first_use,
        fits-append,
        fits-append,
      )

  backs_ranges : (gs : List ℕ) → every (λ g. page_valid b sh (count_of g) (page_of g)) gs ≡ fits b (backs_reads b sh gs)
  unfolding backs_reads
  backs_ranges [] = fits-none b
  backs_ranges (g ∷ gs) = rw (back_ranges (count_of g) (page_of g), fits-append, backs_ranges gs)

  nothing-given : (t : Bool) (m : ℕ) → cond t true (give_valid (get b (arena size)) b m) ≡ fits b (cond t [] (give_reads b m))
  nothing-given true m = fits-none b
  nothing-given false m = give_ranges b m

  chunks_ranges : (gs : List ℕ) → chunks_valid (get b (arena size)) b c sh gs ≡ fits b (chunks_reads b c sh gs)
  unfolding chunks_valid chunks_reads
  chunks_ranges gs =
      rw (
        backs_ranges gs,
        row_ranges,
        nothing-given (eqb (pages_given b c sh gs) 0) (pages_given b c sh gs),
        first_use,
        fits-append,
        fits-append,
      )

-- ---- takes: a page that a take comes to
page_as : (v o l f c i h e : Bool) → ((v && o) && (((c && (f && i)) && (l && h)) && e)) ≡ ((v && (l && (f && (c && (i && (o && e)))))) && h)
page_as v o l f c i h e = simp sorts

walk_as : (c p r h s y : Bool) → (c && (p && ((r && h) && (s && y)))) ≡ ((c && (p && (r && s))) && (h && y))
walk_as c p r h s y = simp sorts

park_as_lem : (c z k r h x : Bool) → ((c && k) && (z && ((r && h) && x))) ≡ ((c && ((z && k) && (x && r))) && (h && true))
park_as_lem c z k r h x = rw (and-true h) (simp sorts)

-- the supply
module _ (b : List ℕ) (sh : Shape) (q : ℕ) where
  less : (m f r : ℕ) → m - (min m f + min (m - f) r) ≡ m - (f + r)
  less m f r = omega arith

  pub wanted : (m : ℕ) → m - length (latest b sh q m) ≡ m - supply b sh q
  wanted m = rw (latest-length b sh q m) (less m (get b (page free q)) (sh.capacity - get b (page carved q)))

  more : has_more b sh q ≡ yields b sh q
  unfolding has_more
  more =
      let f = get b (page free q) in
      let k = get b (page carved q) in
      by_cases (eqb f 0)
      (λ e. by_cases (ltb k sh.capacity)
      (λ i. rw (e, i, ne_eqb (supply b sh q) 0 (λ z. let h = ltb-true k sh.capacity i in omega arith)))
      (λ i. rw (e, i, eq-eqb (supply b sh q) 0 (let h = ltb-false k sh.capacity i in omega (arith, eqb-true f 0 e)))))
      (λ e. rw (e, ne_eqb (supply b sh q) 0 (λ z. let d = eqb-false f 0 e in omega arith)))

some_as : (v : ℕ) → not (eqb v 0) ≡ leb 1 v
some_as v = by_cases (eqb v 0) (λ e. rw (e, lt-leb 1 v (omega (arith, eqb-true v 0 e)))) (λ e. rw (e, le-leb 1 v (let d = eqb-false v 0 e in omega arith)))

module _ (b : List ℕ) (c : ℕ) (sh : Shape) where
  run_ranges : (q : ℕ) (ks : List ℕ) → every (of_run b c q) ks ≡ fits b (run_reads c q ks)
  unfolding run_reads fits
  run_ranges q [] = refl
  run_ranges q (k ∷ ks) = rw (run_ranges q ks) (and_assoc (in_range b (owner_is (q + k) c)) (in_range b (first_is (q + k) q)) (fits b (run_reads c q ks)))

  page_uses : (f : Link) (on x y z : Use) (us vs : List Use)
      → fits b (visited f sh.pages ∷ on ∷ x ∷ y ∷ z ∷ (us ++ vs)) ≡ (in_range b (visited f sh.pages) && (in_range b on && (in_range b x && (in_range b y && (in_range b z && (fits b us && fits b vs))))))
  unfolding fits
  page_uses f on x y z us vs = rw (fits-append b us vs)

  use_one : (u : Use) → fits b (u ∷ []) ≡ in_range b u
  unfolding fits
  use_one u = and-true (in_range b u)

  use_more : (u : Use) (us : List Use) → fits b (u ∷ us) ≡ (in_range b u && fits b us)
  unfolding fits
  use_more u us = refl

  entry_ranges : (q m t : ℕ) → every (λ i. ltb i (get b (page carved q))) (top_entries b q m t) ≡ fits b (entry_reads q m t)
  unfolding entry_reads fits
  entry_ranges q zero t = refl
  entry_ranges q (suc m) zero = refl
  entry_ranges q (suc m) (suc t) = rw (entry_ranges q m t)

  module _ (n : ℕ) (low : get b (arena frontier) ≤ n) where
    whole_as : (q : ℕ) → whole n b sh c q ≡ (leb (q + sh.pages) (get b (arena frontier)) && fits b (run_reads c q (below sh.pages)))
    unfolding whole
    whole_as q =
        rw (run_ranges q (below sh.pages))
        (by_cases (leb (q + sh.pages) (get b (arena frontier)))
        (λ e. let h = leb-true (q + sh.pages) (get b (arena frontier)) e in rw (e, le-leb (q + sh.pages) n (omega arith)))
        (λ e. rw (e, and-false)))

    page_ranges : (f : Link) (l : ℕ) (on : Use) (m : ℕ)
        → in_range b on ≡ eqb (get b (page listed (get b (link_field f) - 1))) l
        → sound n b c sh l m (get b (link_field f) - 1) ≡ (fits b (page_reads b c sh f on m) && yields b sh (get b (link_field f) - 1))
    unfolding sound page_ready header_valid page_reads
    page_ranges f l on m e =
        let q = get b (link_field f) - 1 in
        rw (whole_as q, more b sh q, entry_ranges q m (get b (page free q)), page_uses f on (free_fits q) (carved_fits q sh.capacity) (virgin_flag q) (run_reads c q (below sh.pages)) (entry_reads q m (get b (page free q))), e, add-zero)
        (page_as (in_range b (visited f sh.pages)) (fits b (run_reads c q (below sh.pages))) (eqb (get b (page listed q)) l) (in_range b (free_fits q)) (in_range b (carved_fits q sh.capacity)) (in_range b (virgin_flag q)) (yields b sh q) (fits b (entry_reads q m (get b (page free q)))))

    -- the partial list from a code on
    walk_ranges : (k m : ℕ) (f : Link) (y : ℕ)
        → walk n b c sh k m (get b (link_field f)) y ≡ (fits b (walk_reads b c sh k m f y) && every (yields b sh) (walk_visits b c sh k m f y))
    unfolding walk walk_reads walk_visits
    walk_ranges zero m f y = rw (use_one (code f), and-true (in_range b (code f)))
    walk_ranges (suc k) m f y =
        let q = get b (link_field f) - 1 in
        let m' = m - supply b sh q in
        by_cases (eqb m 0 || eqb (get b (link_field f)) 0)
        (λ e. rw (e, use_one (code f), and-true (in_range b (code f))))
        (λ e.
        rw (
          e,
          wanted b sh q m,
          page_ranges f 1 (listed_yes q) m refl,
          walk_ranges k m' (next_of q) (get b (link_field f)),
          use_more (code f),
          use_more (prev_is q y),
          fits-append,
        )
        (walk_as (in_range b (code f)) (in_range b (prev_is q y)) (fits b (page_reads b c sh f (listed_yes q) m)) (yields b sh q) (fits b (walk_reads b c sh k m' (next_of q) (get b (link_field f)))) (every (yields b sh) (walk_visits b c sh k m' (next_of q) (get b (link_field f))))))

    -- a store's newest page
    park_ranges : (p : Park) (f : Link) (count : Use)
        → get b (link_field f) ≡ get b (class (top p) c)
        → in_range b count ≡ (leb 1 (get b (class (stored p) c)) && leb (get b (class (stored p) c)) max_parked)
        → park_valid n b c sh p ≡ (fits b (park_reads b c sh f count) && (yields b sh (get b (link_field f) - 1) && true))
    unfolding park_valid park_reads
    park_ranges p f count e i =
        let q = get b (link_field f) - 1 in
        rw (
          ← e,
          some_as (get b (class (stored p) c)),
          page_ranges f 0 (listed_no q) sh.batch refl,
          use_more (code f),
          use_more count,
          use_more (code (next_of q)),
          i,
        )
        (park_as_lem (in_range b (code f)) (leb 1 (get b (class (stored p) c))) (leb (get b (class (stored p) c)) max_parked) (fits b (page_reads b c sh f (listed_no q) sh.batch)) (yields b sh q) (in_range b (code (next_of q))))

-- ---- the take's test: FORMAT and FRONTIER, then its source
-- a code that is 0 is in its range
none-fits : (v f : ℕ) → not (eqb v 0) ≡ false → leb v f ≡ true
none-fits v f e = le-leb v f (omega (arith, eqb-true v 0 (by_cases (eqb v 0) (λ i. i) (λ i. let z : ◌≡◌ {A = ℕ} 0 1 = cc in absurd (omega arith)))))

module _ (b : List ℕ) (c : ℕ) (sh : Shape) where
  source_ranges : head_valid (get b (arena size)) b ≡ true → take_valid (get b (arena size)) b c sh ≡ (fits b (take_reads b c sh) && yield_all b c sh)
  unfolding take_valid take_reads yield_all take_visits
  source_ranges low =
      let n = get b (arena size) in
      let f = get b (arena frontier) in
      let h = head-frontier n b low in
      rw (first_use b c sh, low)
      (by_cases (not (eqb (get b (class partial c)) 0))
      (λ e. rw (e, walk_ranges b c sh n h sh.batch sh.batch (partial_of c) 0))
      (λ e. rw (e, use_more b c sh (code (partial_of c)), none-fits (get b (class partial c)) f e)
      (by_cases (not (eqb (get b (class empty c)) 0))
      (λ e. rw (e, park_ranges b c sh n h Empty (empty_of c) (empty_taken c) refl refl))
      (λ e. rw (e, use_more b c sh (code (empty_of c)), none-fits (get b (class empty c)) f e)
      (by_cases (not (eqb (get b (class cold c)) 0))
      (λ e. rw (e, park_ranges b c sh n h Cold (cold_of c) (cold_taken c) refl refl))
      (λ e. rw (e, use_more b c sh (code (cold_of c)), none-fits (get b (class cold c)) f e, commit_ranges b, and-true)))))))

  take_ranges : take_valid (get b (arena size)) b c sh ≡ (fits b (take_reads b c sh) && yield_all b c sh)
  unfolding take_valid take_reads
  take_ranges = by_cases (head_valid (get b (arena size)) b) source_ranges (λ e. rw (first_use b c sh, e))

-- ---- the pool
module _ (b : List ℕ) (c : ℕ) where
  stock_ranges : count_valid b c ≡ fits b (stock_reads c)
  unfolding count_valid fits stock_reads
  stock_ranges = rw and-true

  top_ranges : top_valid (get b (arena size)) b c ≡ fits b (top_reads b c)
  unfolding top_valid count_valid format_valid fits top_reads
  top_ranges = rw and-true

-- ---- the table
pub number_13 : (b : List ℕ) → Number13 b
number_13 b = record {
  commit = commit_ranges b;
  give = give_ranges b;
  grow = grow_ranges b;
  report = report_ranges b;
  take = take_ranges b;
  marks = marks_ranges b;
  release = release_ranges b;
  chunks = chunks_ranges b;
  stock = stock_ranges b;
  top = top_ranges b;
}

-- ---- for each call: its test fails exactly where a word that it reads is out of its range, or a listed page yields no block
module _ (b : List ℕ) where
  pub commit-strays : not (commit_valid (get b (arena size)) b) ≡ strays b (commit_reads b)
  unfolding strays
  commit-strays = ap not (commit_ranges b)

  pub give-strays : (m : ℕ) → not (give_valid (get b (arena size)) b m) ≡ strays b (give_reads b m)
  unfolding strays
  give-strays m = ap not (give_ranges b m)

  pub grow-strays : (h e m : ℕ) → not (grow_valid (get b (arena size)) b h e m) ≡ strays b (grow_reads b h e m)
  unfolding strays
  grow-strays h e m = ap not (grow_ranges b h e m)

  pub report-strays : not (report_valid (get b (arena size)) b) ≡ strays b report_reads
  unfolding strays
  report-strays = ap not (report_ranges b)

  module _ (c : ℕ) (sh : Shape) where
    pub take-strays : not (take_valid (get b (arena size)) b c sh) ≡ (strays b (take_reads b c sh) || barren b c sh)
    unfolding strays barren
    take-strays = ap not (take_ranges b c sh) ∙ not_and (fits b (take_reads b c sh)) (yield_all b c sh)

    pub marks-strays : (ws : List ℕ) → not (unmarked (get b (arena size)) b c sh ws) ≡ strays b (mark_reads b c sh ws)
    unfolding strays
    marks-strays ws = ap not (marks_ranges b c sh ws)

    pub release-strays : (m q : ℕ) → not (release_valid (get b (arena size)) b c sh m q) ≡ strays b (release_reads b c sh m q)
    unfolding strays
    release-strays m q = ap not (release_ranges b c sh m q)

    pub chunks-strays : (gs : List ℕ) → not (chunks_valid (get b (arena size)) b c sh gs) ≡ strays b (chunks_reads b c sh gs)
    unfolding strays
    chunks-strays gs = ap not (chunks_ranges b c sh gs)

  pub top-strays : (c : ℕ) → not (top_valid (get b (arena size)) b c) ≡ strays b (top_reads b c)
  unfolding strays
  top-strays c = ap not (top_ranges b c)
