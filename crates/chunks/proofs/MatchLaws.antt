-- The test on the named book is `pages_match`.
use Rattle.facts.proofs.Prelude.{ℕ, ◌+◌, ◌≤◌, ◌<◌, arith, Bool, true, false, cond, not, ◌&&◌, and-false, and-true, true≢false, List, [], ◌∷◌, map, ◌≡◌, refl, sym}
use Rattle.facts.proofs.Prelude.{ap, ◌∙◌, eqb, ltb, leb, length, get_or, ltb-true, ltb-false, eqb-true, eqb-false, lt-ltb, le-ltb, eq-eqb, ne_eqb, not-true, filter}
use Rattle.facts.proofs.Prelude.{every, elem, distinct, count, below, by_cases, bool_eq, and_left, and_right, every-same, every_get, every_made, every-at, every_of}
use Rattle.words.specs.Word.{count_of, page_of}
use Rattle.fields.specs.Field.{page, tally, words, get}
use Rattle.pages.specs.Stack.{page_at}
use Rattle.model.specs.Chunks.{chunks_max}
use Rattle.chunks.specs.way.Match.{is_page, words_on, page_fits, has_page, pages_match, arena_match, in_arena}
use Rattle.chunks.specs.way.Tally.{page_in, tally_in, named, named_by, of_chunk, chunk_at, has_chunk, agrees, tallied}
use Rattle.chunks.proofs.Indices.{elem_at, elem-found, distinct-at, distinct_of}
use Rattle.chunks.proofs.NameLaws.{page_in_lem, finds}

-- ---- a listed word's page
module _ (n : ℕ) where
  -- no word on a page past the arena
  none-past : (ws : List ℕ) (q : ℕ) → every (in_arena n) ws ≡ true → n ≤ q → words_on ws q ≡ 0
  unfolding words_on in_arena
  none-past [] q e h = refl
  none-past (w ∷ ws) q e h =
      let l = ltb-true (page_at w) n (and_left (ltb (page_at w) n) _ e) in
      let d : page_at w ≡ q → ⊥ = λ z. omega arith in
      rw (ne_eqb (page_at w) q d) (none-past ws q (and_right (ltb (page_at w) n) _ e) h)

  fits_in : (ws : List ℕ) (g : ℕ) → every (in_arena n) ws ≡ true → page_fits ws g ≡ true → is_page n g ≡ true
  unfolding page_fits is_page
  fits_in ws g e f = by (ltb (page_of g) n) refl
    where
      by : (u : Bool) → ltb (page_of g) n ≡ u → ltb (page_of g) n ≡ true
      by true d = d
      by false d =
          let z = none-past ws (page_of g) e (ltb-false (page_of g) n d) in
          let x = eqb-true (count_of g) (words_on ws (page_of g)) (and_right (not (eqb (count_of g) 0)) _ f) in
          absurd (eqb-false (count_of g) 0 (not-true _ (and_left _ _ f)) (x ∙ z))

  page-past : (ws gs : List ℕ) → every (in_arena n) ws ≡ true → every (is_page n) gs ≡ false → pages_match ws gs ≡ false
  unfolding pages_match
  page-past ws gs e d = by (every (page_fits ws) gs) refl
    where
      by : (u : Bool) → every (page_fits ws) gs ≡ u → pages_match ws gs ≡ false
      by true f = absurd (true≢false (sym (every_made (is_page n) gs (λ k l. fits_in ws (get_or gs k 0) e (every_get (page_fits ws) gs k f l))) ∙ d))
      by false f = rw f (and-false (distinct (map page_of gs)))

  pub arena-is : (ws gs : List ℕ) → every (in_arena n) ws ≡ true → arena_match n ws gs ≡ pages_match ws gs
  unfolding arena_match
  arena-is ws gs e = by_cases (every (is_page n) gs) (λ d. rw d) (λ d. rw (d, page-past ws gs e d))

-- no page of a chunk is past the arena
pub low-page : (n : ℕ) (q : ℕ) (gs : List ℕ) → every (is_page n) gs ≡ true → elem q (map page_of gs) ≡ true → q < n
unfolding is_page
low-page n q [] e h = absurd (true≢false (sym h))
low-page n q (g ∷ gs) e h =
    by_cases (eqb q (page_of g))
    (λ d. rw (eqb-true q (page_of g) d) (ltb-true (page_of g) n (and_left (ltb (page_of g) n) _ e)))
    (λ d. low-page n q gs (and_right (ltb (page_of g) n) _ e) (rw d at h))

-- ---- the chunks named
regroup : (d f e : Bool) → (e && (d && f)) ≡ (d && (f && e))
regroup true true true = refl
regroup true true false = refl
regroup true false true = refl
regroup true false false = refl
regroup false f true = refl
regroup false f false = refl

module _ (n : ℕ) (b ws gs : List ℕ) (hb : leb (words n) (length b) ≡ true) (few : length gs ≤ chunks_max) (pages : every (is_page n) gs ≡ true) where
  abbrev B : List ℕ
  B = named b gs (length gs)

  -- a page names a chunk of its own if there is one
  names-elem : (q : ℕ) → ltb q n ≡ true → of_chunk gs (get B (page tally q)) q ≡ elem q (map page_of gs)
  unfolding of_chunk
  names-elem q hq =
      bool_eq _ _
      (λ e. let l = ltb-true (get B (page tally q)) (length gs) (and_left _ _ e) in
      let z = eqb-true (page_in gs (get B (page tally q))) q (and_right (ltb (get B (page tally q)) (length gs)) _ e) in
      rw z at (elem_at gs (get B (page tally q)) l))
      (λ e. elem-found q gs e (λ k l z. let y = finds n b gs hb pages q hq (length gs) k l z in rw (lt-ltb _ _ y.0, eq-eqb _ _ y.1)))

  -- one past the arena names none
  none-elem : (q : ℕ) → ltb q n ≡ false → of_chunk gs 4294967295 q ≡ elem q (map page_of gs)
  unfolding of_chunk
  none-elem q hq =
      rw (le-ltb 4294967295 (length gs) (omega arith))
      (by_cases (elem q (map page_of gs)) (λ e. absurd (no_lower (low-page n q gs pages e) (ltb-false q n hq))) (λ e. sym e))
    where
      no_lower : q < n → n ≤ q → ⊥
      no_lower h l = omega arith

  named-elem : (q : ℕ) → of_chunk gs (named_by n B q) q ≡ elem q (map page_of gs)
  unfolding named_by
  named-elem q = by_cases (ltb q n) (λ e. rw e (names-elem q e)) (λ e. rw e (none-elem q e))

  has-elem : (xs : List ℕ) → every (has_chunk n B gs) xs ≡ every (has_page gs) xs
  unfolding has_chunk
  has-elem xs = every-same (λ w. of_chunk gs (chunk_at n B w) (page_at w)) (has_page gs) xs (λ w. named-elem (page_at w))

  -- a chunk that its page names has the count of its page's blocks
  module _ (k : ℕ) (h : get B (tally_in gs k) ≡ k) where
    page-named : (q : ℕ) → q ≡ page_in gs k → of_chunk gs (named_by n B q) q ≡ true → named_by n B q ≡ k
    unfolding named_by
    page-named q y e = rw (lt-ltb q n (low-page n q gs pages (sym (named-elem q) ∙ e))) (ap (λ p. get B (page tally p)) y ∙ h)

    same_test : (w : ℕ) → has_chunk n B gs w ≡ true → eqb k (chunk_at n B w) ≡ eqb (page_at w) (page_in gs k)
    unfolding has_chunk of_chunk
    same_test w e =
        let z = eqb-true (page_in gs (chunk_at n B w)) (page_at w) (and_right (ltb (chunk_at n B w) (length gs)) _ e) in
        bool_eq _ _
        (λ x. let y = eqb-true k (chunk_at n B w) x in eq-eqb _ _ (sym z ∙ ap (page_in gs) (sym y)))
        (λ x. let y = eqb-true (page_at w) (page_in gs k) x in eq-eqb _ _ (sym (page-named (page_at w) y e)))

    counts-words : (xs : List ℕ) → every (has_chunk n B gs) xs ≡ true → count k (map (chunk_at n B) xs) ≡ words_on xs (page_in gs k)
    unfolding words_on
    counts-words [] c = refl
    counts-words (w ∷ xs) c =
        rw (same_test w (and_left _ _ c), counts-words xs (and_right (has_chunk n B gs w) _ c)) (by (eqb (page_at w) (page_in gs k)) (filter (λ w. eqb (page_at w) (page_in gs k)) xs))
      where
        by : (u : Bool) (ys : List ℕ) → cond u 1 0 + length ys ≡ length (cond u (w ∷ ys) ys)
        by true ys = omega arith
        by false ys = omega arith

  abbrev agrees_at : ℕ → Bool
  agrees_at k = agrees B gs k (count k (map (chunk_at n B) ws))

  -- with every page named: the chunks agree exactly if no page stands twice and each chunk fits
  module _ (c : every (has_chunk n B gs) ws ≡ true) where
    agrees-fits : (k : ℕ) → get B (tally_in gs k) ≡ k → agrees_at k ≡ page_fits ws (get_or gs k 0)
    unfolding agrees page_fits
    agrees-fits k h = rw (counts-words k h ws c, eq-eqb _ _ h) (ap (λ t. not (eqb (count_of (get_or gs k 0)) 0) && t) (and-true _))

    agrees-named : (k : ℕ) → agrees_at k ≡ true → get B (tally_in gs k) ≡ k
    unfolding agrees
    agrees-named k e = eqb-true _ _ (and_right (eqb (count_of (get_or gs k 0)) (count k (map (chunk_at n B) ws))) _ (and_right (not (eqb (count_of (get_or gs k 0)) 0)) _ e))

    all_agree : every agrees_at (below (length gs)) ≡ (distinct (map page_of gs) && every (page_fits ws) gs)
    all_agree =
        bool_eq _ _
        (λ e. let at : (k : ℕ) → k < length gs → get B (tally_in gs k) ≡ k = λ k l. agrees-named k (every-at agrees_at (length gs) k e l) in
        let d = distinct_of gs (λ i j k l z. sym (at i k) ∙ ap (λ q. get B (page tally q)) z ∙ at j l) in
        let f = every_made (page_fits ws) gs (λ k l. sym (agrees-fits k (at k l)) ∙ every-at agrees_at (length gs) k e l) in
        rw (d, f))
        (λ e. every_of agrees_at (length gs) (λ k l.
        let y = finds n b gs hb pages (page_in gs k) (page_in_lem n b gs hb pages k l) (length gs) k l refl in
        let h = distinct-at gs (get B (tally_in gs k)) k (and_left _ _ e) y.0 l y.1 in
        agrees-fits k h ∙ every_get (page_fits ws) gs k (and_right (distinct (map page_of gs)) _ e) l))

  tallied-by : (u : Bool) → every (has_chunk n B gs) ws ≡ u → tallied n B ws gs ≡ (every (has_chunk n B gs) ws && (distinct (map page_of gs) && every (page_fits ws) gs))
  unfolding tallied
  tallied-by true c = rw (c, all_agree c)
  tallied-by false c = rw c

  pub tallied-is : tallied n B ws gs ≡ pages_match ws gs
  unfolding pages_match
  tallied-is = tallied-by (every (has_chunk n B gs) ws) refl ∙ rw (has-elem ws) (regroup (distinct (map page_of gs)) (every (page_fits ws) gs) (every (has_page gs) ws))
