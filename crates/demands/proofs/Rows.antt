-- Number 13's tests look at no word but those of the rows that specs/Reads lists, and LENGTH: two books that have the same words there
-- pass or fail alike.
use Rattle.facts.proofs.Prelude.{ℕ, zero, suc, ◌+◌, ◌-◌, ◌/◌, Bool, true, false, cond, not, ◌&&◌, ◌||◌, List, []}
use Rattle.facts.proofs.Prelude.{◌∷◌, ◌++◌, map, ◌≡◌, refl, sym, ap, ◌∙◌, subst, eqb, every, All, below, by_cases}
use Rattle.words.specs.Host.{digit}
use Rattle.words.specs.Limits.{class_rows}
use Rattle.words.specs.Word.{count_of, page_of}
use Rattle.classes.specs.declared.Shape.{Shape}
use Rattle.fields.specs.Ranges.{format_valid, head_valid}
use Rattle.fields.specs.Field.{arena, class, page, size, format, frontier, holes, hole_pages, held, partial, empty, empty_count, cold, cold_count, free, carved, listed, get}
use Rattle.rules.specs.declared.Limits.{Limits}
use Rattle.model.specs.Destination.{destination_of, is_empty, is_cold, is_arena}
use Rattle.arena.specs.Load.{load_holes, load_arena}
use Rattle.arena.specs.Valid.{record_valid, hole_ends_valid, holes_end_valid, hole_valid, holes_valid, commit_valid, give_valid, grow_gives, grow_valid, counts_valid, all_counts_valid, report_valid}
use Rattle.pages.specs.Runs.{of_run, whole}
use Rattle.pages.specs.Stack.{top_entries, has_more, index_of}
use Rattle.pages.specs.Links.{top, stored}
use Rattle.pages.specs.Valid.{header_valid, limits_at}
use Rattle.pages.specs.declared.Park.{Park}
use Rattle.pages.specs.declared.Park.TheVariants.{Empty, Cold}
use Rattle.calls.specs.Take.{page_ready, sound, walk, park_valid}
use Rattle.calls.specs.Out.{start_of, outs}
use Rattle.calls.specs.Release.{page_valid, row_valid, destination_at, destination_valid, release_valid}
use Rattle.calls.specs.Chunks.{runs_given, pages_given, chunks_valid}
use Rattle.demands.specs.Ranges.{Link, partial_of, empty_of, cold_of, next_of, link_field, Use, empty_taken, cold_taken, listed_yes, listed_no, mark_clear, value, fits}
use Rattle.demands.specs.Reads.{count_reads, record_reads, hole_reads, commit_reads, give_reads, parked_reads, report_reads, run_reads, entry_reads, page_reads, supply, walk_reads, park_reads, take_reads, mark_reads, back_reads, row_reads, release_reads, backs_reads, chunks_reads, neighbours_reads, given_reads, grow_reads, stock_reads, top_reads}
use Rattle.poolcalls.specs.Calls.{count_valid, top_valid}
use Rattle.demands.specs.Number13.{take_valid, RowsDecide}
use Rattle.demands.proofs.Ranges.{wanted, number_13}

all-l : {A : Type 0} (P : A → Type 0) (s t : List A) → All P (s ++ t) → All P s
all-l P [] t h = tt
all-l P (x ∷ s) t h = (h.0, all-l P s t h.1)

all-r : {A : Type 0} (P : A → Type 0) (s t : List A) → All P (s ++ t) → All P t
all-r P [] t h = h
all-r P (x ∷ s) t h = all-r P s t h.1

module _ (b b' : List ℕ) where
  -- the words of these rows are the same
  abbrev Same : List Use → Type 0
  Same us = All (λ u. value b u ≡ value b' u) us

  left : (us vs : List Use) → Same (us ++ vs) → Same us
  left us vs h = all-l (λ u. value b u ≡ value b' u) us vs h

  right : (us vs : List Use) → Same (us ++ vs) → Same vs
  right us vs h = all-r (λ u. value b u ≡ value b' u) us vs h

  -- ---- marks
  mark-rows : (p j : ℕ → ℕ) (ws : List ℕ) → Same (map (λ w. mark_clear (p w) (j w)) ws) → fits b (map (λ w. mark_clear (p w) (j w)) ws) ≡ fits b' (map (λ w. mark_clear (p w) (j w)) ws)
  unfolding fits
  mark-rows p j [] h = refl
  mark-rows p j (w ∷ ws) h = rw (h.0, mark-rows p j ws h.1)

  mark-same : (c : ℕ) (sh : Shape) (ws : List ℕ) → Same (mark_reads b c sh ws) → fits b (mark_reads b c sh ws) ≡ fits b' (mark_reads b c sh ws)
  unfolding mark_reads
  mark-same c sh ws h = mark-rows (start_of b) (λ w. index_of sh (start_of b w) w / 32) (outs (get b (arena size)) b c sh ws) h

  module _ (n : ℕ) where
    -- ---- the arena
    record_same : Same record_reads → record_valid n b ≡ record_valid n b'
    unfolding record_valid head_valid format_valid record_reads count_reads
    record_same h = rw (h.0, h.1.0, h.1.1.0, h.1.1.1.0, h.1.1.1.1.0, h.1.1.1.1.1.0)

    parked-same : (cs : List ℕ) → Same (parked_reads cs) → every (counts_valid b) cs ≡ every (counts_valid b') cs
    unfolding parked_reads
    parked-same [] h = refl
    parked-same (c ∷ cs) h = rw (h.0, h.1.0, parked-same cs h.1.1)

    report-same : Same report_reads → report_valid n b ≡ report_valid n b'
    unfolding report_valid all_counts_valid report_reads
    report-same h =
        let cs = parked_reads (below class_rows) in
        rw (record_same (left record_reads cs h), parked-same (below class_rows) (right record_reads cs h))

    holes-same : (total f i k : ℕ) → Same (hole_reads i k) → every (hole_valid total f) (load_holes b i k) ≡ every (hole_valid total f) (load_holes b' i k)
    unfolding load_holes hole_reads
    holes-same total f i zero h = refl
    holes-same total f i (suc k) h = rw (h.0, h.1.0, holes-same total f (suc i) k h.1.1)

    holes-words : Same record_reads → (get b (arena holes) ≡ get b' (arena holes)) × (get b (arena hole_pages) ≡ get b' (arena hole_pages)) × (get b (arena frontier) ≡ get b' (arena frontier))
    unfolding record_reads
    holes-words h = (h.1.1.1.0, h.1.1.1.1.0, h.1.1.0)

    commit-same : Same (commit_reads b) → commit_valid n b ≡ commit_valid n b'
    unfolding commit_valid commit_reads holes_valid
    commit-same h =
        let hs = hole_reads 0 (get b (arena holes)) in
        let r = left record_reads hs h in
        let w = holes-words r in
        rw (record_same r, holes-same (get b (arena hole_pages)) (get b (arena frontier)) 0 (get b (arena holes)) (right record_reads hs h), w.0, w.1, w.2)

    -- the holes where a give reads them
    neighbours-same : (f i k : ℕ) → Same (neighbours_reads i k) → every (hole_ends_valid f) (load_holes b i k) ≡ every (hole_ends_valid f) (load_holes b' i k)
    unfolding load_holes neighbours_reads
    neighbours-same f i zero h = refl
    neighbours-same f i (suc k) h = rw (h.0, h.1.0, neighbours-same f (suc i) k h.1.1)

    ends_same : get b (arena holes) ≡ get b' (arena holes) → get b (arena frontier) ≡ get b' (arena frontier) → Same (neighbours_reads 0 (get b (arena holes))) → holes_end_valid b ≡ holes_end_valid b'
    unfolding holes_end_valid
    ends_same e d h = rw (neighbours-same (get b (arena frontier)) 0 (get b (arena holes)) h, e, d)

    given_record : (m : ℕ) → Same (given_reads m) → (record_valid n b ≡ record_valid n b') × (get b (arena held) ≡ get b' (arena held)) × (get b (arena holes) ≡ get b' (arena holes)) × (get b (arena frontier) ≡ get b' (arena frontier))
    unfolding record_valid head_valid format_valid given_reads count_reads
    given_record m h = (rw (h.0, h.1.0, h.1.1.0, h.1.1.1.0, h.1.1.1.1.0, h.1.1.1.1.1.0), h.1.1.1.1.1.0, h.1.1.1.0, h.1.1.0)

    give-same : (m : ℕ) → Same (give_reads b m) → give_valid n b m ≡ give_valid n b' m
    unfolding give_valid give_reads
    give-same m h =
        let hs = neighbours_reads 0 (get b (arena holes)) in
        let w = given_record m (left (given_reads m) hs h) in
        rw (w.0, w.1, ends_same w.2 w.3 (right (given_reads m) hs h))

    grow-gives : (h e m : ℕ) → get b (arena frontier) ≡ get b' (arena frontier) → grow_gives n b h e m ≡ grow_gives n b' h e m
    unfolding grow_gives load_arena
    grow-gives h e m d = rw d

    grow-same : get b (arena size) ≡ n → (h e m : ℕ) → Same (grow_reads b h e m) → grow_valid n b h e m ≡ grow_valid n b' h e m
    unfolding grow_valid grow_reads
    grow-same z h e m k =
        let hs = neighbours_reads 0 (get b (arena holes)) in
        let t = grow_gives (get b (arena size)) b h e m in
        let r = left record_reads (cond t hs []) k in
        let w = holes-words r in
        rw (record_same r, ← (grow-gives h e m w.2)) (ap (λ (x : Bool). record_valid n b' && x) (if_ends (grow_gives n b h e m) w.0 w.2 (subst (λ (y : ℕ). Same (cond (grow_gives y b h e m) hs [])) z (right record_reads (cond t hs []) k))))
      where
        if_ends : (t : Bool) → get b (arena holes) ≡ get b' (arena holes) → get b (arena frontier) ≡ get b' (arena frontier) → Same (cond t (neighbours_reads 0 (get b (arena holes))) [])
            → cond t (holes_end_valid b) true ≡ cond t (holes_end_valid b') true
        if_ends true e d s = ends_same e d s
        if_ends false e d s = refl

    -- ---- a page that a take comes to
    run-same : (c q : ℕ) (ks : List ℕ) → Same (run_reads c q ks) → every (of_run b c q) ks ≡ every (of_run b' c q) ks
    unfolding run_reads
    run-same c q [] h = refl
    run-same c q (k ∷ ks) h = rw (h.0, h.1.0, run-same c q ks h.1.1)

    entry-same : (q m t : ℕ) → Same (entry_reads q m t) → top_entries b q m t ≡ top_entries b' q m t
    unfolding entry_reads
    entry-same q zero t h = refl
    entry-same q (suc m) zero h = refl
    entry-same q (suc m) (suc t) h = rw (h.0, entry-same q m t h.1)

    module _ (low : get b (arena frontier) ≡ get b' (arena frontier)) (c : ℕ) (sh : Shape) where
      page-same : (f : Link) (l : ℕ) (on : Use) (m : ℕ)
          → ((d : List ℕ) → value d on ≡ get d (page listed (get b (link_field f) - 1)))
          → Same (page_reads b c sh f on m)
          → sound n b c sh l m (get b (link_field f) - 1) ≡ sound n b' c sh l m (get b (link_field f) - 1)
      unfolding sound page_ready header_valid whole has_more page_reads
      page-same f l on m e h =
          let q = get b (link_field f) - 1 in
          let rs = run_reads c q (below sh.pages) in
          let es = entry_reads q m (get b (page free q)) in
          let t = h.1.1.1.1.1 in
          let o : get b (page listed q) ≡ get b' (page listed q) = sym (e b) ∙ h.1.0 ∙ e b' in
          rw (run-same c q (below sh.pages) (left rs es t), entry-same q m (get b (page free q)) (right rs es t), low, o, h.1.1.0, h.1.1.1.0, h.1.1.1.1.0)

      supply-same : (f : Link) (on : Use) (m : ℕ) → Same (page_reads b c sh f on m) → supply b sh (get b (link_field f) - 1) ≡ supply b' sh (get b (link_field f) - 1)
      unfolding page_reads
      supply-same f on m h = rw (h.1.1.0, h.1.1.1.0)

      walk_code : (k m : ℕ) (f : Link) (y : ℕ) → Same (walk_reads b c sh k m f y) → get b (link_field f) ≡ get b' (link_field f)
      unfolding walk_reads
      walk_code zero m f y h = h.0
      walk_code (suc k) m f y h = h.0

      walk_same : (k m : ℕ) (f : Link) (y : ℕ) → Same (walk_reads b c sh k m f y) → walk n b c sh k m (get b (link_field f)) y ≡ walk n b' c sh k m (get b (link_field f)) y
      unfolding walk walk_reads
      walk_same zero m f y h = rw low
      walk_same (suc k) m f y h =
          let q = get b (link_field f) - 1 in
          let ps = page_reads b c sh f (listed_yes q) m in
          let ws = walk_reads b c sh k (m - supply b sh q) (next_of q) (get b (link_field f)) in
          by_cases (eqb m 0 || eqb (get b (link_field f)) 0)
          (λ e. rw (e, low))
          (λ e.
          let t = (rw e at h).1 in
          let p = left ps ws t.1 in
          let r = right ps ws t.1 in
          rw (e, wanted b sh q m, wanted b' sh q m, page-same f 1 (listed_yes q) m (λ d. refl) p, walk_same k (m - supply b sh q) (next_of q) (get b (link_field f)) r, low, t.0, supply-same f (listed_yes q) m p, walk_code k (m - supply b sh q) (next_of q) (get b (link_field f)) r))

      park-code : (f : Link) (count : Use) → Same (park_reads b c sh f count) → get b (link_field f) ≡ get b' (link_field f)
      unfolding park_reads
      park-code f count h = h.0

      park-same : (p : Park) (f : Link) (count : Use)
          → link_field f ≡ class (top p) c
          → ((d : List ℕ) → value d count ≡ get d (class (stored p) c))
          → Same (park_reads b c sh f count)
          → park_valid n b c sh p ≡ park_valid n b' c sh p
      unfolding park_valid park_reads
      park-same p f count e i h =
          let q = get b (link_field f) - 1 in
          let k : get b (class (stored p) c) ≡ get b' (class (stored p) c) = sym (i b) ∙ h.1.0 ∙ i b' in
          let s = page-same f 0 (listed_no q) sh.batch (λ d. refl) h.1.1.1 in
          rw (← e, s, h.1.1.0, low, h.0, k)

      -- ---- a take: FORMAT and FRONTIER, then its source
      head-same : get b (arena format) ≡ get b' (arena format) → head_valid n b ≡ head_valid n b'
      unfolding head_valid format_valid
      head-same f = rw (f, low)

      take_same : Same (take_reads b c sh) → take_valid n b c sh ≡ take_valid n b' c sh
      unfolding take_valid take_reads
      take_same h =
          let f = head-same h.0 in
          by_cases (not (eqb (get b (class partial c)) 0))
          (λ e.
          let w = (rw e at h).1.1 in
          let x = walk_code sh.batch sh.batch (partial_of c) 0 w in
          let e' : not (eqb (get b' (class partial c)) 0) ≡ true = rw x at e in
          rw (e, e', walk_same sh.batch sh.batch (partial_of c) 0 w, f, x))
          (λ e.
          let h = (rw e at h).1.1 in
          let e' : not (eqb (get b' (class partial c)) 0) ≡ false = rw h.0 at e in
          rw (e, e')
          (by_cases (not (eqb (get b (class empty c)) 0))
          (λ e.
          let w = (rw e at h).1 in
          let e' : not (eqb (get b' (class empty c)) 0) ≡ true = rw (park-code (empty_of c) (empty_taken c) w) at e in
          rw (e, e', park-same Empty (empty_of c) (empty_taken c) refl (λ d. refl) w, f))
          (λ e.
          let h = (rw e at h).1 in
          let e' : not (eqb (get b' (class empty c)) 0) ≡ false = rw h.0 at e in
          rw (e, e')
          (by_cases (not (eqb (get b (class cold c)) 0))
          (λ e.
          let w = (rw e at h).1 in
          let e' : not (eqb (get b' (class cold c)) 0) ≡ true = rw (park-code (cold_of c) (cold_taken c) w) at e in
          rw (e, e', park-same Cold (cold_of c) (cold_taken c) refl (λ d. refl) w, f))
          (λ e.
          let h = (rw e at h).1 in
          let e' : not (eqb (get b' (class cold c)) 0) ≡ false = rw h.0 at e in
          rw (e, e', commit-same h.1, f))))))

      -- ---- releases
      back-same : (m q : ℕ) → Same (back_reads b sh m q) → page_valid b sh m q ≡ page_valid b' sh m q
      unfolding page_valid header_valid back_reads
      back-same m q h =
          by_cases (eqb (get b (page listed q)) 1)
          (λ e.
          let t = (rw e at h).1.1.1.1 in
          let e' : eqb (get b' (page listed q)) 1 ≡ true = rw h.1.1.0 at e in
          rw (e, e', t.0, t.1.0, low, h.0, h.1.0, h.1.1.0, h.1.1.1.0))
          (λ e.
          let e' : eqb (get b' (page listed q)) 1 ≡ false = rw h.1.1.0 at e in
          rw (e, e', h.0, h.1.0, h.1.1.0, h.1.1.1.0))

      back-words : (m q : ℕ) → Same (back_reads b sh m q) → (get b (page carved q) ≡ get b' (page carved q)) × (get b (page free q) ≡ get b' (page free q))
      unfolding back_reads
      back-words m q h = (h.0, h.1.0)

      row_same : Same (row_reads c) → row_valid b c ≡ row_valid b' c
      unfolding row_valid row_reads
      row_same h = rw (h.0, h.1.0, h.1.1.0, h.1.1.1.0, h.1.1.1.1.0, h.1.1.1.1.1.0, h.1.1.1.1.1.1.0, low)

      row_words : Same (row_reads c) → (get b (class empty_count c) ≡ get b' (class empty_count c)) × (get b (class cold_count c) ≡ get b' (class cold_count c)) × (limits_at b c ≡ limits_at b' c)
      unfolding row_reads
      row_words h = (h.1.1.0, h.1.1.1.1.0, rw (h.1.1.1.1.1.0, h.1.1.1.1.1.1.0))

      given-same : (t : Bool) (m : ℕ) → Same (cond t (give_reads b m) []) → cond t (give_valid n b m) true ≡ cond t (give_valid n b' m) true
      given-same true m h = give-same m h
      given-same false m h = refl

      release-same : (m q : ℕ) → Same (release_reads b c sh m q) → release_valid n b c sh m q ≡ release_valid n b' c sh m q
      unfolding release_valid destination_valid release_reads
      release-same m q h =
          let ps = back_reads b sh m q in
          let t = eqb (get b (page free q) + m) (get b (page carved q)) && is_arena (destination_at b c sh) in
          let gs = cond t (give_reads b sh.pages) [] in
          let p = left ps (row_reads c ++ gs) h.1.1 in
          let r = right ps (row_reads c ++ gs) h.1.1 in
          let w = back-words m q p in
          let e = row_words (left (row_reads c) gs r) in
          rw (back-same m q p, row_same (left (row_reads c) gs r), given-same t sh.pages (right (row_reads c) gs r), head-same h.0, w.0, w.1, e.0, e.1, e.2)

      -- ---- releases of chunks
      backs-same : (gs : List ℕ)
          → Same (backs_reads b sh gs)
          → every (λ g. page_valid b sh (count_of g) (page_of g)) gs ≡ every (λ g. page_valid b' sh (count_of g) (page_of g)) gs
      unfolding backs_reads
      backs-same [] h = refl
      backs-same (g ∷ gs) h =
          let ps = back_reads b sh (count_of g) (page_of g) in
          rw (back-same (count_of g) (page_of g) (left ps (backs_reads b sh gs) h), backs-same gs (right ps (backs_reads b sh gs) h))

      runs_same : (lim : Limits) (gs : List ℕ) (e k : ℕ) → Same (backs_reads b sh gs) → runs_given b sh lim gs e k ≡ runs_given b' sh lim gs e k
      unfolding runs_given backs_reads
      runs_same lim [] e k h = refl
      runs_same lim (g ∷ gs) e k h =
          let ps = back_reads b sh (count_of g) (page_of g) in
          let w = back-words (count_of g) (page_of g) (left ps (backs_reads b sh gs) h) in
          let r = right ps (backs_reads b sh gs) h in
          let s = destination_of sh lim e k in
          rw (w.0, w.1, runs_same lim gs (e + digit (is_empty s)) (k + digit (is_cold s)) r, runs_same lim gs e k r)

      none-same : (t : Bool) (m : ℕ) → Same (cond t [] (give_reads b m)) → cond t true (give_valid n b m) ≡ cond t true (give_valid n b' m)
      none-same true m h = refl
      none-same false m h = give-same m h

      chunks-same : (gs : List ℕ) → Same (chunks_reads b c sh gs) → chunks_valid n b c sh gs ≡ chunks_valid n b' c sh gs
      unfolding chunks_valid chunks_reads
      chunks-same gs h =
          let ps = backs_reads b sh gs in
          let m = pages_given b c sh gs in
          let ms = cond (eqb m 0) [] (give_reads b m) in
          let p = left ps (row_reads c ++ ms) h.1.1 in
          let r = right ps (row_reads c ++ ms) h.1.1 in
          let e = row_words (left (row_reads c) ms r) in
          rw (
            backs-same gs p,
            row_same (left (row_reads c) ms r),
            none-same (eqb m 0) m (right (row_reads c) ms r),
            runs_same (limits_at b c) gs (get b (class empty_count c)) (get b (class cold_count c)) p,
            head-same h.0,
            e.0,
            e.1,
            e.2,
          )

-- ---- with LENGTH as each book has it
module _ (b b' : List ℕ) where
  take-low : (c : ℕ) (sh : Shape) → Same b b' (take_reads b c sh) → get b (arena frontier) ≡ get b' (arena frontier)
  unfolding take_reads
  take-low c sh h = h.1.0

  release-low : (c : ℕ) (sh : Shape) (m q : ℕ) → Same b b' (release_reads b c sh m q) → get b (arena frontier) ≡ get b' (arena frontier)
  unfolding release_reads
  release-low c sh m q h = h.1.0

  chunks-low : (c : ℕ) (sh : Shape) (gs : List ℕ) → Same b b' (chunks_reads b c sh gs) → get b (arena frontier) ≡ get b' (arena frontier)
  unfolding chunks_reads
  chunks-low c sh gs h = h.1.0

  stock-same : (c : ℕ) → Same b b' (stock_reads c) → count_valid b c ≡ count_valid b' c
  unfolding stock_reads count_valid
  stock-same c h = rw h.0

  top-same : (c : ℕ) → get b (arena size) ≡ get b' (arena size) → Same b b' (top_reads b c) → top_valid (get b (arena size)) b c ≡ top_valid (get b' (arena size)) b' c
  unfolding top_reads top_valid count_valid format_valid
  top-same c e h = let r = h.1 in rw (r.1.0, r.0, h.0, e)

  pub rows_decide : RowsDecide b b'
  rows_decide =
      let n = get b' (arena size) in
      record {
        commit = λ h. rw h.0 (commit-same b b' n h.1);
        give = λ m h. rw h.0 (give-same b b' n m h.1);
        grow = λ g e m h. rw h.0 (grow-same b b' n h.0 g e m h.1);
        report = λ h. rw h.0 (report-same b b' n h.1);
        take = λ c sh h. rw h.0 (take_same b b' n (take-low c sh h.1) c sh h.1);
        marks = λ c sh ws e h. (number_13 b).marks c sh ws ∙ mark-same b b' c sh ws h.1 ∙ ap (fits b') e ∙ sym ((number_13 b').marks c sh ws);
        release = λ c sh m q h. rw h.0 (release-same b b' n (release-low c sh m q h.1) c sh m q h.1);
        chunks = λ c sh gs h. rw h.0 (chunks-same b b' n (chunks-low c sh gs h.1) c sh gs h.1);
        stock = λ c h. stock-same c h.1;
        top = λ c h. top-same c h.0 h.1;
      }
