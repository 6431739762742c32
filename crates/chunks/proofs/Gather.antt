-- A group release in passes ends as the definition says (calls, specs/Chunks): the blocks back on their stacks, then the pages
-- placed in the chunks' order, is the chunks settled one after the other. Of a class whose runs are one page.
--     page-start     a word that is out is on the page that its run begins at
--     settle-as      settling, with each page's stack height and blocks as they were before the first chunk
--     placed-as      the passes come to the same
--     gathered       the passes settle the chunks
use Rattle.facts.proofs.Prelude.{ℕ, ◌+◌, ◌≤◌, ◌<◌, arith, Bool, true, false, not, ◌&&◌, true≢false, List, [], ◌∷◌, ◌++◌, map, ◌≡◌}
use Rattle.facts.proofs.Prelude.{refl, sym, ap, ◌∙◌, eqb, ltb, leb, length, length-map, lt-ltb, ltb-true, leb-true, eq-eqb, eqb-true}
use Rattle.facts.proofs.Prelude.{eqb-false, ne_eqb, not-true, every, All, elem, distinct, by_cases, and_left, and_right, every-same}
use Rattle.words.specs.Limits.{class_rows}
use Rattle.words.specs.Word.{count_of, page_of}
use Rattle.classes.specs.declared.Shape.{Shape}
use Rattle.classes.specs.way.Sound.{Sound}
use Rattle.fields.specs.Field.{arena, page, slot, out, frontier, first, free, virgin, get, words}
use Rattle.fields.proofs.Laws.{put-comm}
use Rattle.fields.proofs.Changes.{Changes, changes_trans}
use Rattle.pages.specs.Runs.{whole}
use Rattle.pages.specs.Stack.{set_outs, push, pushed, back, index_of, page_at}
use Rattle.pages.proofs.Descending.{small}
use Rattle.pages.proofs.Frames.{back-free}
use Rattle.calls.specs.Out.{start_of, in_run_of, out_at}
use Rattle.calls.specs.Release.{page_valid}
use Rattle.calls.specs.Chunks.{blocks_on, chunk_fits, chunks_match, chunk_back_at, gives_of, Settled, settle_chunks}
use Rattle.release.proofs.OutLaws.{run_of-out, index_of-out, page_of-out}
use Rattle.release.proofs.ValidSteps.{page-room, page-carved}
use Rattle.chunks.specs.way.Pass.{cleared, push_all, place_at, place_all}
use Rattle.chunks.proofs.GatherPlace.{writes, on_book, place-past, place-changes}
use Rattle.chunks.proofs.GatherPush.{stacked, stacked_all, blocks_of, Fits, stacked-changes, on_pages, pushes}

-- ---- the words that are out
module _ (n c : ℕ) (sh : Shape) (s : Sound sh) (one : sh.pages ≡ 1) where
  pub page-start : (b : List ℕ) (w : ℕ) → out_at n b c sh w ≡ true → start_of b w ≡ page_at w
  unfolding in_run_of
  page-start b w o =
      let p = page_at w in
      let r = and_right (ltb p (get b (arena frontier))) _ (and_right (ltb p n) _ (run_of-out n c sh s b w o)) in
      let l = leb-true (start_of b w) p (and_left (leb (start_of b w) p) _ r) in
      let m = ltb-true p (start_of b w + sh.pages) (and_left (ltb p (start_of b w + sh.pages)) (whole n b sh c (start_of b w)) (and_right (leb (start_of b w) p) _ r)) in
      omega arith

  -- each on its page, within the book, with a chunk
  pub all_start : (b : List ℕ) (ws : List ℕ) → every (out_at n b c sh) ws ≡ true → every (λ w. eqb (start_of b w) (page_at w)) ws ≡ true
  all_start b [] o = refl
  all_start b (w ∷ ws) o =
      let z = page-start b w (and_left (out_at n b c sh w) (every (out_at n b c sh) ws) o) in
      rw (eq-eqb (start_of b w) (page_at w) z) (all_start b ws (and_right (out_at n b c sh w) (every (out_at n b c sh) ws) o))

  all-on_pages : (b : List ℕ) (qs ws : List ℕ) → every (out_at n b c sh) ws ≡ true → every (λ w. elem (start_of b w) qs) ws ≡ true → every (on_pages n sh qs) ws ≡ true
  all-on_pages b qs [] o e = refl
  all-on_pages b qs (w ∷ ws) o e =
      let u = and_left (out_at n b c sh w) (every (out_at n b c sh) ws) o in
      let z = page-start b w u in
      let i : index_of sh (page_at w) w < 4096 = rw z at (index_of-out n c sh s b w u) in
      let x : elem (page_at w) qs ≡ true = rw z at (and_left (elem (start_of b w) qs) (every (λ w. elem (start_of b w) qs) ws) e) in
      rw (lt-ltb (page_at w) n (page_of-out n c sh s b w u), lt-ltb (index_of sh (page_at w) w) 4096 i, x)
      (all-on_pages b qs ws (and_right (out_at n b c sh w) (every (out_at n b c sh) ws) o) (and_right (elem (start_of b w) qs) (every (λ w. elem (start_of b w) qs) ws) e))

-- ---- a page's blocks
low-blocks : (n : ℕ) (sh : Shape) (qs ws : List ℕ) (q : ℕ) → every (on_pages n sh qs) ws ≡ true → every small (blocks_of sh ws q) ≡ true
unfolding blocks_of
low-blocks n sh qs [] q o = refl
low-blocks n sh qs (w ∷ ws) q o =
    let u = on_pages n sh qs in
    let ih = low-blocks n sh qs ws q (and_right (u w) (every u ws) o) in
    let i : small (index_of sh (page_at w) w) ≡ true
    = and_left (small (index_of sh (page_at w) w)) (elem (page_at w) qs) (and_right (ltb (page_at w) n) (small (index_of sh (page_at w) w) && elem (page_at w) qs) (and_left (u w) (every u ws) o)) in
    by_cases (eqb (page_at w) q)
    (λ e. let j : small (index_of sh q w) ≡ true = rw (eqb-true (page_at w) q e) at i in rw (e, j) ih)
    (λ e. rw e ih)

abbrev starts : List ℕ → List ℕ → Bool
starts b ws = every (λ w. eqb (start_of b w) (page_at w)) ws

pub blocks-on : (sh : Shape) (b ws : List ℕ) (q : ℕ) → starts b ws ≡ true → map (index_of sh q) (blocks_on b ws q) ≡ blocks_of sh ws q
unfolding blocks_on blocks_of
blocks-on sh b [] q e = refl
blocks-on sh b (w ∷ ws) q e =
    let z = eqb-true (start_of b w) (page_at w) (and_left (eqb (start_of b w) (page_at w)) (starts b ws) e) in
    let ih = blocks-on sh b ws q (and_right (eqb (start_of b w) (page_at w)) (starts b ws) e) in
    by_cases (eqb (page_at w) q)
    (λ d. rw (z, d, ih))
    (λ d. rw (z, d, ih))

-- ---- one chunk: its blocks, then its page
chunk_back : (b : List ℕ) (c : ℕ) (sh : Shape) (h q : ℕ) (is : List ℕ) → every small is ≡ true → chunk_back_at b c sh h q is ≡ place_at (stacked b q (get b (page free q)) is) c sh h q
unfolding chunk_back_at place_at back pushed stacked
chunk_back b c sh h q is low =
    let m = get b (page free q) in
    rw (back-free b q is low, put-comm (push (set_outs b q 0 is) q m is) (page virgin q) (page free q) 0 (m + length is) refl refl refl)

module _ (c : ℕ) (sh : Shape) (h : ℕ) (hc : ltb c class_rows ≡ true) (few : sh.capacity ≤ 4096) where
  -- ---- blocks of other pages may as well come back after it
  module _ (q p : ℕ) (d : eqb p q ≡ false) where
    place-marks : (is : List ℕ) → every small is ≡ true → (b : List ℕ) → place_at (set_outs b p 0 is) c sh h q ≡ on_book (λ x. set_outs x p 0 is) (place_at b c sh h q)
    place-marks [] l b = refl
    place-marks (i ∷ is) l b =
        rw (place-past c q hc (out p i) 0 (and_left (small i) (every small is) l) (rw d) sh few (set_outs b p 0 is) h, place-marks is (and_right (small i) (every small is) l) b)

    place_push : (m : ℕ) (is : List ℕ) → m + length is ≤ 4096 → (b : List ℕ) → place_at (push b p m is) c sh h q ≡ on_book (λ x. push x p m is) (place_at b c sh h q)
    place_push m [] l b = refl
    place_push m (i ∷ is) l b =
        rw (place-past c q hc (slot p (m + length is)) i (lt-ltb (m + length is) 4096 (omega arith)) (rw d) sh few (push b p m is) h, place_push m is (omega arith) b)

    place-stacked : (m : ℕ) (is : List ℕ) → m + length is ≤ 4096 → every small is ≡ true → (b : List ℕ) → place_at (stacked b p m is) c sh h q ≡ on_book (λ x. stacked x p m is) (place_at b c sh h q)
    unfolding stacked
    place-stacked m is l low b =
        rw (place-past c q hc (page free p) (m + length is) refl (rw d) sh few (push (set_outs b p 0 is) p m is) h, place_push m is l (set_outs b p 0 is), place-marks is low b)

  module _ (k : ℕ → ℕ) (f : ℕ → List ℕ) where
    place_stacks : (q : ℕ) (ps : List ℕ) → elem q ps ≡ false → All (Fits k f) ps → (b : List ℕ) → place_at (stacked_all b k f ps) c sh h q ≡ on_book (λ x. stacked_all x k f ps) (place_at b c sh h q)
    unfolding stacked_all
    place_stacks q [] e a b = refl
    place_stacks q (p ∷ ps) e a b =
        by_cases (eqb q p)
        (λ d. absurd (true≢false (rw d at e)))
        (λ d.
        let x : eqb p q ≡ false = ne_eqb p q (λ z. eqb-false q p d (sym z)) in
        rw (place_stacks q ps (rw d at e) a.1 (stacked b p (k p) (f p)), place-stacked q p x (k p) (f p) a.0.room a.0.low b))

    -- ---- all chunks
    settle_as : List ℕ → List ℕ → Settled
    settle_as b [] = record { book = b; fates = []; gives = [] }
    settle_as b (g ∷ gs) =
        let r = place_at (stacked b (page_of g) (k (page_of g)) (f (page_of g))) c sh h (page_of g) in
        let s = settle_as r.book gs in
        record { book = s.book; fates = r.fate ∷ s.fates; gives = gives_of (page_of g) r.fate ++ s.gives }

    placed_as : (gs : List ℕ) → distinct (map page_of gs) ≡ true → All (Fits k f) (map page_of gs) → (b : List ℕ) → place_all (stacked_all b k f (map page_of gs)) c sh h gs ≡ settle_as b gs
    unfolding place_all stacked_all settle_as
    placed_as [] u a b = refl
    placed_as (g ∷ gs) u a b =
        let q = page_of g in
        let e = not-true (elem q (map page_of gs)) (and_left (not (elem q (map page_of gs))) (distinct (map page_of gs)) u) in
        let d = stacked b q (k q) (f q) in
        rw (place_stacks q (map page_of gs) e a.1 d, placed_as gs (and_right (not (elem q (map page_of gs))) (distinct (map page_of gs)) u) a.1 (place_at d c sh h q).book)

  -- ---- what placing one page leaves to the others
  module _ (q : ℕ) (b b' : List ℕ) (z : Changes (writes q) b b') where
    starts-kept : (ws : List ℕ) → starts b ws ≡ true → starts b' ws ≡ true
    unfolding start_of
    starts-kept ws e = every-same _ _ ws (λ w. rw (z.kept (page first (page_at w)) refl refl)) ∙ e

    frees-kept : (k : ℕ → ℕ) (ps : List ℕ) → elem q ps ≡ false → All (λ p. get b (page free p) ≡ k p) ps → All (λ p. get b' (page free p) ≡ k p) ps
    frees-kept k [] e a = tt
    frees-kept k (p ∷ ps) e a =
        by_cases (eqb q p)
        (λ d. absurd (true≢false (rw d at e)))
        (λ d.
        let x : eqb p q ≡ false = ne_eqb p q (λ z. eqb-false q p d (sym z)) in
        (z.kept (page free p) refl (rw x) ∙ a.0, frees-kept k ps (rw d at e) a.1))

  module _ (k : ℕ → ℕ) (ws : List ℕ) where
    settle_as_lem : (gs : List ℕ) → distinct (map page_of gs) ≡ true → All (Fits k (blocks_of sh ws)) (map page_of gs) → (b : List ℕ) → starts b ws ≡ true → All (λ q. get b (page free q) ≡ k q) (map page_of gs)
        → settle_chunks b c sh h ws gs ≡ settle_as k (blocks_of sh ws) b gs
    unfolding settle_chunks settle_as
    settle_as_lem [] u a b e l = refl
    settle_as_lem (g ∷ gs) u a b e l =
        let q = page_of g in
        let qs = map page_of gs in
        let is = blocks_of sh ws q in
        let new = not-true (elem q qs) (and_left (not (elem q qs)) (distinct qs) u) in
        let d = stacked b q (k q) is in
        let r : chunk_back_at b c sh h (page_of g) (map (index_of sh (page_of g)) (blocks_on b ws (page_of g))) ≡ place_at (stacked b (page_of g) (k (page_of g)) (blocks_of sh ws (page_of g))) c sh h (page_of g)
        = ap (chunk_back_at b c sh h q) (blocks-on sh b ws q e) ∙ chunk_back b c sh h q is a.0.low ∙ ap (λ m. place_at (stacked b q m is) c sh h q) l.0 in
        let z = changes_trans (writes q) b d _ (stacked-changes q (k q) is a.0.room a.0.low b) (place-changes c q hc sh few h d) in
        let b' = (place_at d c sh h q).book in
        rw (r, settle_as_lem gs (and_right (not (elem q qs)) (distinct qs) u) a.1 b' (starts-kept q b b' z ws e) (frees-kept q b b' z k qs new l.1))

-- ---- the whole
module _ (n : ℕ) (b : List ℕ) (c : ℕ) (sh : Shape) (ws : List ℕ) (s : Sound sh) (one : sh.pages ≡ 1) (hb : leb (words n) (length b) ≡ true) (outs : every (out_at n b c sh) ws ≡ true) where
  length-on : (q : ℕ) → length (blocks_of sh ws q) ≡ length (blocks_on b ws q)
  length-on q = ap length (sym (blocks-on sh b ws q (all_start n c sh s one b ws outs))) ∙ length-map (blocks_on b ws q) (index_of sh q)

  chunk-fits : (qs : List ℕ) (g : ℕ) → every (on_pages n sh qs) ws ≡ true → chunk_fits b ws g ≡ true → page_valid b sh (count_of g) (page_of g) ≡ true → Fits (λ q. get b (page free q)) (blocks_of sh ws) (page_of g)
  unfolding chunk_fits
  chunk-fits qs g o m f =
      let q = page_of g in
      let k = eqb-true (count_of g) (length (blocks_on b ws q)) (and_right (not (eqb (count_of g) 0)) (eqb (count_of g) (length (blocks_on b ws q))) m) in
      record { room = omega (arith, k, length-on q, page-room b sh (count_of g) q f, page-carved b sh (count_of g) q f, s.few); low = low-blocks n sh qs ws q o }

  pub chunks_fit : (qs gs : List ℕ) → every (on_pages n sh qs) ws ≡ true → every (chunk_fits b ws) gs ≡ true → every (λ g. page_valid b sh (count_of g) (page_of g)) gs ≡ true
      → All (Fits (λ q. get b (page free q)) (blocks_of sh ws)) (map page_of gs)
  chunks_fit qs [] o m f = tt
  chunks_fit qs (g ∷ gs) o m f =
      let t = chunk_fits b ws in
      let u : ℕ → Bool = λ g. page_valid b sh (count_of g) (page_of g) in
      (chunk-fits qs g o (and_left (t g) (every t gs) m) (and_left (u g) (every u gs) f), chunks_fit qs gs o (and_right (t g) (every t gs) m) (and_right (u g) (every u gs) f))

  all-free : (qs : List ℕ) → All (λ q. get b (page free q) ≡ get b (page free q)) qs
  all-free [] = tt
  all-free (q ∷ qs) = (refl, all-free qs)

  pub gathered : (h : ℕ) (gs : List ℕ) → ltb c class_rows ≡ true → chunks_match b ws gs ≡ true → every (λ g. page_valid b sh (count_of g) (page_of g)) gs ≡ true
      → place_all (push_all (cleared b sh ws) sh ws) c sh h gs ≡ settle_chunks b c sh h ws gs
  unfolding chunks_match
  gathered h gs hc m f =
      let qs = map page_of gs in
      let fits = every (chunk_fits b ws) gs in
      let chunked = every (λ w. elem (start_of b w) qs) ws in
      let u = and_left (distinct qs) (fits && chunked) m in
      let o = all-on_pages n c sh s one b qs ws outs (and_right fits chunked (and_right (distinct qs) (fits && chunked) m)) in
      let a = chunks_fit qs gs o (and_left fits chunked (and_right (distinct qs) (fits && chunked) m)) f in
      let height : ℕ → ℕ = λ q. get b (page free q) in
      ap (λ d. place_all d c sh h gs) (pushes sh n height qs u ws o a b hb (λ q. refl))
      ∙ placed_as c sh h hc s.few height (blocks_of sh ws) gs u a b
      ∙ sym (settle_as_lem c sh h hc s.few height ws gs u a b (all_start n c sh s one b ws outs) (all-free qs))
