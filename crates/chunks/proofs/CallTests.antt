-- Numbers 11 and 13 of a group release once the blocks are taken: no test reads an out bit. And what the tests tell of the pages.
--     match-kept, chunks-valid-kept    the tests are those of the book before
--     Lands                            a page below the frontier
--     match_is                         number 11, by the words' own pages
--     fits-lands                       number 11 passed: a chunk's page is one of a listed word's
--     slots-left                       number 13 passed: the pages' stacks have room for the listed blocks
use Rattle.facts.proofs.Prelude.{ℕ, zero, suc, ◌+◌, ◌≤◌, ◌<◌, arith, Bool, true, false, not, ◌&&◌, true≢false, false≢true, List, [], ◌∷◌, map, ◌≡◌, refl, ap, ◌∙◌, eqb}
use Rattle.facts.proofs.Prelude.{ltb, leb, length, ltb-true, lt-ltb, leb-true, eqb-true, not-true, every, elem, distinct, by_cases, and_left, and_right, every-same}
use Rattle.words.specs.Limits.{class_rows}
use Rattle.words.specs.Word.{count_of, page_of}
use Rattle.classes.specs.declared.Shape.{Shape}
use Rattle.fields.specs.Field.{arena, class, hole, page, format, frontier, partial, empty, empty_count, cold, cold_count, next, prev, free, carved, listed, virgin, get, words, empty_limit, cold_limit}
use Rattle.rules.specs.declared.Limits.{Limits}
use Rattle.fields.proofs.Changes.{Changes}
use Rattle.arena.specs.Valid.{give_valid}
use Rattle.arena.proofs.Frames.{give_kept}
use Rattle.pages.specs.Runs.{whole}
use Rattle.pages.specs.Stack.{page_at}
use Rattle.pages.specs.Valid.{header_valid}
use Rattle.calls.specs.Out.{start_of, in_run_of}
use Rattle.calls.specs.Release.{page_valid, row_valid}
use Rattle.calls.specs.Chunks.{blocks_on, chunk_fits, chunks_match, returns_all, runs_given, pages_given, chunks_valid}
use Rattle.release.proofs.Bits.{is_bit, start-kept}
use Rattle.release.proofs.ValidSteps.{page-room, page-carved}
use Rattle.fields.specs.Ranges.{max_pages, head_valid}
use Rattle.fields.proofs.Sound.{head-kept}
use Rattle.pages.proofs.Descending.{every_mono}
use Rattle.model.specs.Chunks.{chunks_max}
use Rattle.chunks.specs.way.Match.{words_on, page_fits, has_page, pages_match, in_arena, MatchPre}
use Rattle.chunks.specs.way.CallPre.{CallPre}

-- ---- what number 11's test asks
pub match_pre : (n : ℕ) (b : List ℕ) (c : ℕ) (sh : Shape) (gs : List ℕ) → CallPre n b c sh → length gs ≤ chunks_max → MatchPre n b gs
match_pre n b c sh gs a l = record { few = a.class.few; long = a.class.long; chunks = l }

-- ---- the tests read no out bit
module _ (b b' : List ℕ) (h : Changes is_bit b b') where
  blocks-kept : (ws : List ℕ) (q : ℕ) → blocks_on b' ws q ≡ blocks_on b ws q
  unfolding blocks_on
  blocks-kept [] q = refl
  blocks-kept (w ∷ ws) q = rw (start-kept b b' h w, blocks-kept ws q)

  fits_kept : (ws : List ℕ) (g : ℕ) → chunk_fits b' ws g ≡ chunk_fits b ws g
  unfolding chunk_fits
  fits_kept ws g = rw (blocks-kept ws (page_of g))

  pub match_kept : (ws gs : List ℕ) → chunks_match b' ws gs ≡ chunks_match b ws gs
  unfolding chunks_match
  match_kept ws gs =
      rw (every-same (chunk_fits b' ws) (chunk_fits b ws) gs (fits_kept ws), every-same (λ w. elem (start_of b' w) (map page_of gs)) (λ w. elem (start_of b w) (map page_of gs)) ws (λ w. rw (start-kept b b' h w)))

  page-kept : (sh : Shape) (m q : ℕ) → page_valid b' sh m q ≡ page_valid b sh m q
  unfolding page_valid header_valid
  page-kept sh m q =
      let k = h.kept in
      rw (
        k (arena frontier) refl refl,
        k (page carved q) refl refl,
        k (page free q) refl refl,
        k (page listed q) refl refl,
        k (page virgin q) refl refl,
        k (page next q) refl refl,
        k (page prev q) refl refl,
      )

  returns-kept : (g : ℕ) → returns_all b' g ≡ returns_all b g
  returns-kept g = rw (h.kept (page free (page_of g)) refl refl, h.kept (page carved (page_of g)) refl refl)

  runs-kept : (sh : Shape) (lim : Limits) (gs : List ℕ) (e k : ℕ) → runs_given b' sh lim gs e k ≡ runs_given b sh lim gs e k
  unfolding runs_given
  runs-kept sh lim [] e k = refl
  runs-kept sh lim (g ∷ gs) e k = rw (returns-kept g, runs-kept sh lim gs e k, runs-kept sh lim gs _ _)

  valid-kept : (n m : ℕ) → give_valid n b' m ≡ give_valid n b m
  valid-kept n m = give_kept n b b' (λ f. h.kept (arena f) refl refl) (λ f j o. h.kept (hole f j) o refl) m

  module _ (c : ℕ) (hc : ltb c class_rows ≡ true) where
    row_kept : row_valid b' c ≡ row_valid b c
    unfolding row_valid
    row_kept =
        let k = h.kept in
        rw (
          k (arena frontier) refl refl,
          k (class partial c) hc refl,
          k (class empty c) hc refl,
          k (class empty_count c) hc refl,
          k (class cold c) hc refl,
          k (class cold_count c) hc refl,
          k (class empty_limit c) hc refl,
          k (class cold_limit c) hc refl,
        )

    given-kept : (sh : Shape) (gs : List ℕ) → pages_given b' c sh gs ≡ pages_given b c sh gs
    given-kept sh gs = rw (h.kept (class empty_count c) hc refl, h.kept (class cold_count c) hc refl, h.kept (class empty_limit c) hc refl, h.kept (class cold_limit c) hc refl, runs-kept sh _ gs _ _)

    pub chunks_valid-kept : (n : ℕ) (sh : Shape) (gs : List ℕ) → chunks_valid n b' c sh gs ≡ chunks_valid n b c sh gs
    unfolding chunks_valid
    chunks_valid-kept n sh gs =
        rw (head-kept b b' (h.kept (arena format) refl refl) n (h.kept (arena frontier) refl refl), every-same (λ g. page_valid b' sh (count_of g) (page_of g)) (λ g. page_valid b sh (count_of g) (page_of g)) gs (λ g. page-kept sh (count_of g) (page_of g)), row_kept, given-kept sh gs, valid-kept n _)

-- ---- the pages' part of number 13
pub valid-pages : (n : ℕ) (b : List ℕ) (c : ℕ) (sh : Shape) (gs : List ℕ) → chunks_valid n b c sh gs ≡ true → every (λ g. page_valid b sh (count_of g) (page_of g)) gs ≡ true
unfolding chunks_valid
valid-pages n b c sh gs f = and_left (every (λ g. page_valid b sh (count_of g) (page_of g)) gs) _ (and_right (head_valid n b) _ f)

-- ---- where the listed words are, in a class whose runs are one page
module _ (n : ℕ) (b : List ℕ) (c : ℕ) (sh : Shape) (one : sh.pages ≡ 1) where
  module _ (w : ℕ) (r : in_run_of n b sh c w ≡ true) where
    run-rest : (ltb (page_at w) (get b (arena frontier)) && (leb (start_of b w) (page_at w) && (ltb (page_at w) (start_of b w + sh.pages) && whole n b sh c (start_of b w)))) ≡ true
    unfolding in_run_of
    run-rest = and_right (ltb (page_at w) n) _ r

    run-start : start_of b w ≡ page_at w
    run-start =
        let x = and_right (ltb (page_at w) (get b (arena frontier))) _ run-rest in
        let l = leb-true (start_of b w) (page_at w) (and_left (leb (start_of b w) (page_at w)) _ x) in
        let m = ltb-true (page_at w) (start_of b w + sh.pages) (and_left (ltb (page_at w) (start_of b w + sh.pages)) (whole n b sh c (start_of b w)) (and_right (leb (start_of b w) (page_at w)) _ x)) in
        omega arith

    run-below : page_at w < n
    unfolding in_run_of
    run-below = ltb-true (page_at w) n (and_left (ltb (page_at w) n) _ r)

    run-low : page_at w < get b (arena frontier)
    run-low = ltb-true (page_at w) (get b (arena frontier)) (and_left (ltb (page_at w) (get b (arena frontier))) _ run-rest)

  -- a page of the arena, below the frontier
  pub record Lands (q : ℕ) : Type 0 where
    pub below : q < n
    pub low : q < get b (arena frontier)

  pub words-on : (ws : List ℕ) → every (in_run_of n b sh c) ws ≡ true → every (in_arena n) ws ≡ true
  unfolding in_arena
  words-on = every_mono (in_run_of n b sh c) (λ w. ltb (page_at w) n) (λ w r. lt-ltb (page_at w) n (run-below w r))

  pub on-words : (ws : List ℕ) → every (in_run_of n b sh c) ws ≡ true → (q : ℕ) → length (blocks_on b ws q) ≡ words_on ws q
  unfolding blocks_on words_on
  on-words [] r q = refl
  on-words (w ∷ ws) r q =
      let t = in_run_of n b sh c in
      let e = run-start w (and_left (t w) (every t ws) r) in
      let ih = on-words ws (and_right (t w) (every t ws) r) q in
      by_cases (eqb (page_at w) q)
      (λ d. rw (e, d) (ap suc ih))
      (λ d. rw (e, d) ih)

  -- number 11 goes by the words' own pages
  fits-is : (ws : List ℕ) → every (in_run_of n b sh c) ws ≡ true → (g : ℕ) → chunk_fits b ws g ≡ page_fits ws g
  unfolding chunk_fits page_fits
  fits-is ws r g = rw (on-words ws r (page_of g))

  has-is : (gs ws : List ℕ) → every (in_run_of n b sh c) ws ≡ true → every (λ w. elem (start_of b w) (map page_of gs)) ws ≡ every (has_page gs) ws
  has-is gs [] r = refl
  has-is gs (w ∷ ws) r = rw (run-start w (and_left (in_run_of n b sh c w) _ r), has-is gs ws (and_right (in_run_of n b sh c w) _ r))

  pub match_is : (ws gs : List ℕ) → every (in_run_of n b sh c) ws ≡ true → chunks_match b ws gs ≡ pages_match ws gs
  unfolding chunks_match pages_match
  match_is ws gs r = rw (every-same (chunk_fits b ws) (page_fits ws) gs (fits-is ws r), has-is gs ws r)

  some_lands : (ws : List ℕ) → every (in_run_of n b sh c) ws ≡ true → (q : ℕ) → 1 ≤ words_on ws q → Lands q
  unfolding words_on
  some_lands [] r q h = absurd (omega arith)
  some_lands (w ∷ ws) r q h =
      let t = in_run_of n b sh c in
      let u = and_left (t w) (every t ws) r in
      by_cases (eqb (page_at w) q)
      (λ d. let e = eqb-true (page_at w) q d in record { below = rw e at (run-below w u); low = rw e at (run-low w u) })
      (λ d. some_lands ws (and_right (t w) (every t ws) r) q (rw d at h))

  some-chunk : (ws : List ℕ) → every (in_run_of n b sh c) ws ≡ true → (qs : List ℕ) → every (λ w. elem (start_of b w) qs) ws ≡ true → (q : ℕ) → 1 ≤ words_on ws q → elem q qs ≡ true
  unfolding words_on
  some-chunk [] r qs e q h = absurd (omega arith)
  some-chunk (w ∷ ws) r qs e q h =
      let t = in_run_of n b sh c in
      let u : ℕ → Bool = λ w. elem (start_of b w) qs in
      by_cases (eqb (page_at w) q)
      (λ d. rw (run-start w (and_left (t w) (every t ws) r), eqb-true (page_at w) q d) at (and_left (u w) (every u ws) e))
      (λ d. some-chunk ws (and_right (t w) (every t ws) r) qs (and_right (u w) (every u ws) e) q (rw d at h))

  -- ---- numbers 11 and 13 have passed
  module _ (ws gs : List ℕ) (r : every (in_run_of n b sh c) ws ≡ true) (m : chunks_match b ws gs ≡ true) where
    pub match_apart : distinct (map page_of gs) ≡ true
    unfolding chunks_match
    match_apart = and_left (distinct (map page_of gs)) (every (chunk_fits b ws) gs && every (λ w. elem (start_of b w) (map page_of gs)) ws) m

    match_rest : (every (chunk_fits b ws) gs && every (λ w. elem (start_of b w) (map page_of gs)) ws) ≡ true
    unfolding chunks_match
    match_rest = and_right (distinct (map page_of gs)) (every (chunk_fits b ws) gs && every (λ w. elem (start_of b w) (map page_of gs)) ws) m

    pub match_fits : every (chunk_fits b ws) gs ≡ true
    match_fits = and_left (every (chunk_fits b ws) gs) (every (λ w. elem (start_of b w) (map page_of gs)) ws) match_rest

    pub fits_count : (g : ℕ) → chunk_fits b ws g ≡ true → count_of g ≡ words_on ws (page_of g)
    unfolding chunk_fits
    fits_count g f = eqb-true (count_of g) (length (blocks_on b ws (page_of g))) (and_right (not (eqb (count_of g) 0)) _ f) ∙ on-words ws r (page_of g)

    pub fits_lands : (g : ℕ) → chunk_fits b ws g ≡ true → Lands (page_of g)
    unfolding chunk_fits
    fits_lands g f =
        let z = not-true (eqb (count_of g) 0) (and_left (not (eqb (count_of g) 0)) (eqb (count_of g) (length (blocks_on b ws (page_of g)))) f) in
        some_lands ws r (page_of g) (some (count_of g) (words_on ws (page_of g)) z (fits_count g f))
      where
        some : (x y : ℕ) → eqb x 0 ≡ false → x ≡ y → 1 ≤ y
        some zero y z e = absurd (true≢false z)
        some (suc x) y z e = omega arith

    -- what holds of every chunk that fits
    every-fits : (t : ℕ → Bool) → ((g : ℕ) → chunk_fits b ws g ≡ true → t g ≡ true) → (hs : List ℕ) → every (chunk_fits b ws) hs ≡ true → every t hs ≡ true
    every-fits t k [] e = refl
    every-fits t k (g ∷ hs) e = rw (k g (and_left (chunk_fits b ws g) (every (chunk_fits b ws) hs) e)) (every-fits t k hs (and_right (chunk_fits b ws g) (every (chunk_fits b ws) hs) e))

    pub chunks-below : every (λ g. ltb (page_of g) n) gs ≡ true
    chunks-below = every-fits (λ g. ltb (page_of g) n) (λ g f. lt-ltb (page_of g) n (fits_lands g f).below) gs match_fits

    module _ (f : every (λ g. page_valid b sh (count_of g) (page_of g)) gs ≡ true) (few : sh.capacity ≤ 4096) where
      room_at : (q : ℕ) (hs : List ℕ) → elem q (map page_of hs) ≡ true → every (chunk_fits b ws) hs ≡ true → every (λ g. page_valid b sh (count_of g) (page_of g)) hs ≡ true
          → get b (page free q) + words_on ws q ≤ 4096
      room_at q [] e i j = absurd (false≢true e)
      room_at q (g ∷ hs) e i j =
          let t = chunk_fits b ws in
          let u : ℕ → Bool = λ g. page_valid b sh (count_of g) (page_of g) in
          by_cases (eqb q (page_of g))
          (λ d.
          let p = page_of g in
          let k = and_left (u g) (every u hs) j in
          rw (eqb-true q p d) (omega (arith, fits_count g (and_left (t g) (every t hs) i), page-room b sh (count_of g) p k, page-carved b sh (count_of g) p k)))
          (λ d. room_at q hs (rw d at e) (and_right (t g) (every t hs) i) (and_right (u g) (every u hs) j))

      pub slots-left : (q : ℕ) → 1 ≤ words_on ws q → get b (page free q) + words_on ws q ≤ 4096
      slots-left q h = room_at q gs (some-chunk ws r (map page_of gs) (and_right (every (chunk_fits b ws) gs) (every (λ w. elem (start_of b w) (map page_of gs)) ws) match_rest) q h) match_fits f

    pub page-low : n ≤ max_pages → (q : ℕ) → 1 ≤ words_on ws q → q < max_pages
    page-low f q h = omega (arith, (some_lands ws r q h).below)

    pub page-there : words n ≤ length b → (q : ℕ) → 1 ≤ words_on ws q → words (q + 1) ≤ length b
    page-there l q h = omega (arith, (some_lands ws r q h).below)
