-- The listed blocks go back on their pages' stacks in any order of pages: word by word, or page by page.
--     stacked         blocks come back to page q, whose stack has m: `back` (pages, specs/Stack) but for VIRGIN
--     stacked_all      to several pages; h has their stacks' heights, f each one's blocks
--     blocks_of        a page's blocks of the list
--     pushes          the words' blocks, one by one, are the pages' blocks, page by page
use Rattle.facts.proofs.Prelude.{ℕ, suc, ◌+◌, ◌≤◌, arith, Bool, true, false, not, ◌&&◌, true≢false, false≢true, List, [], ◌∷◌, map, ◌≡◌, refl, sym, ap, ◌∙◌}
use Rattle.facts.proofs.Prelude.{eqb, ltb, leb, length, lt-ltb, eq-eqb, eqb-true, not-true, filter, every, All, elem, distinct, by_cases, and_left, and_right}
use Rattle.classes.specs.declared.Shape.{Shape}
use Rattle.fields.specs.Field.{Field, page, slot, out, region, row, free, get, put, ok, same, words}
use Rattle.fields.proofs.Laws.{get_put_same, get-put_other, put-comm, put_put_same, put-get, length-put}
use Rattle.fields.proofs.Changes.{Changes, changes-put, changes_trans, same-eq}
use Rattle.pages.specs.Stack.{set_outs, push, index_of, page_at}
use Rattle.pages.proofs.Descending.{small}
use Rattle.pages.proofs.SetOuts.{is_out_bit, length-set_outs, set_outs-changes}
use Rattle.pages.proofs.Pushes.{length_push, push-changes}
use Rattle.chunks.specs.way.Pass.{cleared, push_one, push_all}
use Rattle.chunks.proofs.GatherPlace.{aside, writes, writes-own, own, past-put, past-push, past-marks}

unfoldable pub stacked : List ℕ → ℕ → ℕ → List ℕ → List ℕ
stacked b q m is = put (push (set_outs b q 0 is) q m is) (page free q) (m + length is)

unfoldable pub stacked_all : List ℕ → (ℕ → ℕ) → (ℕ → List ℕ) → List ℕ → List ℕ
stacked_all b h f [] = b
stacked_all b h f (q ∷ qs) = stacked_all (stacked b q (h q) (f q)) h f qs

unfoldable pub blocks_of : Shape → List ℕ → ℕ → List ℕ
blocks_of sh ws q = map (index_of sh q) (filter (λ w. eqb (page_at w) q) ws)

-- the page's blocks and their places are there
pub record Fits (h : ℕ → ℕ) (f : ℕ → List ℕ) (q : ℕ) : Type 0 where
  pub room : h q + length (f q) ≤ 4096
  pub low : every small (f q) ≡ true

-- ---- blocks of one page
-- two out bits set to one value, in either order
bits-comm : (b : List ℕ) (p q i j v : ℕ) → small i ≡ true → small j ≡ true → put (put b (out p i) v) (out q j) v ≡ put (put b (out q j) v) (out p i) v
bits-comm b p q i j v hi hj = by (same (out p i) (out q j)) refl
  where
    by : (t : Bool) → same (out p i) (out q j) ≡ t → put (put b (out p i) v) (out q j) v ≡ put (put b (out q j) v) (out p i) v
    by true e = rw (same-eq (out p i) (out q j) e)
    by false e = put-comm b (out p i) (out q j) v v hi hj e

marks-bit : (b : List ℕ) (p i q v : ℕ) (is : List ℕ) → small i ≡ true → every small is ≡ true → set_outs (put b (out p i) v) q v is ≡ put (set_outs b q v is) (out p i) v
marks-bit b p i q v [] hi l = refl
marks-bit b p i q v (j ∷ js) hi l =
    rw (marks-bit b p i q v js hi (and_right (small j) (every small js) l)) (bits-comm (set_outs b q v js) p q i j v hi (and_left (small j) (every small js) l))

module _ (q m : ℕ) (is : List ℕ) (room : m + length is ≤ 4096) (low : every small is ≡ true) where
  pub stacked-past : (f : Field) (v : ℕ) → ok f ≡ true → aside q f ≡ true → (b : List ℕ) → stacked (put b f v) q m is ≡ put (stacked b q m is) f v
  unfolding stacked
  stacked-past f v of tf b =
      past-put (aside q) f v of tf _ _ (page free q) (m + length is) refl (own q)
      (past-push (aside q) f v of tf _ _ q m is (λ i. own q) room
      (past-marks (aside q) f v of tf b _ q 0 is (λ i. own q) low refl))

  stacked-bit : (p i : ℕ) → small i ≡ true → (b : List ℕ) → stacked (put b (out p i) 0) q m is ≡ put (stacked b q m is) (out p i) 0
  unfolding stacked
  stacked-bit p i hi b =
      past-put is_out_bit (out p i) 0 hi refl _ _ (page free q) (m + length is) refl refl
      (past-push is_out_bit (out p i) 0 hi refl _ _ q m is (λ j. refl) room (marks-bit b p i q 0 is hi low))

  pub stacked-changes : (b : List ℕ) → Changes (writes q) b (stacked b q m is)
  unfolding stacked
  stacked-changes b =
      changes-put (writes q) b _ (page free q) (m + length is) refl (writes-own q)
      (changes_trans (writes q) b (set_outs b q 0 is) _ (set_outs-changes b q 0 (writes q) (λ i. writes-own q) is low)
      (push-changes (set_outs b q 0 is) q m (writes q) (λ i. writes-own q) is room))

length-stacked : (b : List ℕ) (q m : ℕ) (is : List ℕ) → length (stacked b q m is) ≡ length b
unfolding stacked
length-stacked b q m is = length-put _ (page free q) (m + length is) ∙ length_push (set_outs b q 0 is) q m is ∙ length-set_outs b q 0 is

-- block i on page q, whose stack has m
abbrev stacked_one : List ℕ → ℕ → ℕ → ℕ → List ℕ
stacked_one b q m i = put (put (put b (out q i) 0) (slot q m) i) (page free q) (m + 1)

abbrev of_page : Field → Bool
of_page f = eqb (region f) 4

module _ (n : ℕ) (b : List ℕ) (hb : leb (words n) (length b) ≡ true) (q m : ℕ) (hq : ltb q n ≡ true) (i : ℕ) (is : List ℕ) (room : m + suc (length is) ≤ 4096) (hi : small i ≡ true) where
  stacked-cons : stacked b q m (i ∷ is) ≡ stacked_one (stacked b q m is) q (m + length is) i
  unfolding stacked
  stacked-cons =
      let k = m + length is in
      let x = push (set_outs b q 0 is) q m is in
      let y = put (put x (out q i) 0) (slot q k) i in
      let hk : ltb k 4096 ≡ true = lt-ltb k 4096 (omega arith) in
      let hy : leb (words n) (length y) ≡ true
      = rw (length-put (put x (out q i) 0) (slot q k) i, length-put x (out q i) 0, length_push (set_outs b q 0 is) q m is, length-set_outs b q 0 is) hb in
      let e : push (put (set_outs b q 0 is) (out q i) 0) q m is ≡ put x (out q i) 0
      = past-push is_out_bit (out q i) 0 hi refl (set_outs b q 0 is) _ q m is (λ j. refl) (omega arith) refl in
      let l : put (put (put x (page free q) k) (out q i) 0) (slot q k) i ≡ put y (page free q) k
      = past-put of_page (page free q) k refl refl (put x (out q i) 0) _ (slot q k) i hk refl (past-put of_page (page free q) k refl refl x _ (out q i) 0 hi refl refl) in
      let z : m + suc (length is) ≡ k + 1 = omega arith in
      rw (e, z) (sym (ap (λ d. put d (page free q) (k + 1)) l ∙ put_put_same n y (page free q) k (k + 1) hy hq))

-- ---- blocks of several pages
module _ (h : ℕ → ℕ) (f : ℕ → List ℕ) where
  pub stacks_past : (g : Field) (v : ℕ) → ok g ≡ true → ((p : ℕ) → eqb (row g) p ≡ false → aside p g ≡ true)
      → (qs : List ℕ) → elem (row g) qs ≡ false → All (Fits h f) qs → (b : List ℕ) → stacked_all (put b g v) h f qs ≡ put (stacked_all b h f qs) g v
  unfolding stacked_all
  stacks_past g v og tg [] e a b = refl
  stacks_past g v og tg (q ∷ qs) e a b =
      by_cases (eqb (row g) q)
      (λ d. absurd (true≢false (rw d at e)))
      (λ d. rw (stacked-past q (h q) (f q) a.0.room a.0.low g v og (tg q d) b) (stacks_past g v og tg qs (rw d at e) a.1 (stacked b q (h q) (f q))))

  stacks_bit : (p i : ℕ) → small i ≡ true → (qs : List ℕ) → All (Fits h f) qs → (b : List ℕ) → stacked_all (put b (out p i) 0) h f qs ≡ put (stacked_all b h f qs) (out p i) 0
  unfolding stacked_all
  stacks_bit p i hi [] a b = refl
  stacks_bit p i hi (q ∷ qs) a b = rw (stacked-bit q (h q) (f q) a.0.room a.0.low p i hi b) (stacks_bit p i hi qs a.1 (stacked b q (h q) (f q)))

  length_stacks : (qs : List ℕ) (b : List ℕ) → length (stacked_all b h f qs) ≡ length b
  unfolding stacked_all
  length_stacks [] b = refl
  length_stacks (q ∷ qs) b = length_stacks qs (stacked b q (h q) (f q)) ∙ length-stacked b q (h q) (f q)

  free-kept : (q : ℕ) (qs : List ℕ) → elem q qs ≡ false → All (Fits h f) qs → (b : List ℕ) → get (stacked_all b h f qs) (page free q) ≡ get b (page free q)
  unfolding stacked_all
  free-kept q [] e a b = refl
  free-kept q (p ∷ qs) e a b =
      by_cases (eqb q p)
      (λ d. absurd (true≢false (rw d at e)))
      (λ d. free-kept q qs (rw d at e) a.1 (stacked b p (h p) (f p)) ∙ (stacked-changes p (h p) (f p) a.0.room a.0.low b).kept (page free q) refl (rw d))

  module _ (n q : ℕ) (hq : ltb q n ≡ true) where
    free-stacked : (b : List ℕ) → leb (words n) (length b) ≡ true → get (stacked b q (h q) (f q)) (page free q) ≡ h q + length (f q)
    unfolding stacked
    free-stacked b hb =
        get_put_same n (push (set_outs b q 0 (f q)) q (h q) (f q)) (page free q) (h q + length (f q)) (rw (length_push (set_outs b q 0 (f q)) q (h q) (f q), length-set_outs b q 0 (f q)) hb) hq refl

    free-at : (qs : List ℕ) → elem q qs ≡ true → distinct qs ≡ true → All (Fits h f) qs → (b : List ℕ) → leb (words n) (length b) ≡ true
        → get (stacked_all b h f qs) (page free q) ≡ h q + length (f q)
    unfolding stacked_all
    free-at [] e u a b hb = absurd (false≢true e)
    free-at (p ∷ qs) e u a b hb =
        by_cases (eqb q p)
        (λ d. let z : p ≡ q = sym (eqb-true q p d) in
        let y : elem q qs ≡ false = rw z at (not-true (elem p qs) (and_left (not (elem p qs)) (distinct qs) u)) in
        rw z (free-kept q qs y a.1 (stacked b q (h q) (f q)) ∙ free-stacked b hb))
        (λ d. free-at qs (rw d at e) (and_right (not (elem p qs)) (distinct qs) u) a.1 (stacked b p (h p) (f p)) (rw (length-stacked b p (h p) (f p)) hb))

-- one block more, of a page that is among them
module _ (n : ℕ) (h : ℕ → ℕ) (f g : ℕ → List ℕ) (q i : ℕ) (hq : ltb q n ≡ true) (hi : small i ≡ true) (more : g q ≡ i ∷ f q) (others : (p : ℕ) → eqb q p ≡ false → g p ≡ f p) where
  stacks_agree : (qs : List ℕ) → elem q qs ≡ false → (b : List ℕ) → stacked_all b h g qs ≡ stacked_all b h f qs
  unfolding stacked_all
  stacks_agree [] e b = refl
  stacks_agree (p ∷ qs) e b =
      by_cases (eqb q p)
      (λ d. absurd (true≢false (rw d at e)))
      (λ d. rw (others p d) (stacks_agree qs (rw d at e) (stacked b p (h p) (f p))))

  stacks_first : (qs : List ℕ) → elem q qs ≡ false → All (Fits h g) qs → Fits h g q → (b : List ℕ) → leb (words n) (length b) ≡ true
      → stacked_all (stacked b q (h q) (g q)) h g qs ≡ stacked_one (stacked_all (stacked b q (h q) (f q)) h f qs) q (h q + length (f q)) i
  stacks_first qs e a z b hb =
      let m = h q + length (f q) in
      let d = stacked b q (h q) (f q) in
      let r : h q + suc (length (f q)) ≤ 4096 = rw more at z.room in
      let hm : ltb m 4096 ≡ true = lt-ltb m 4096 (omega arith) in
      rw (more, stacked-cons n b hb q (h q) hq i (f q) r hi)
      (stacks_past h g (page free q) (m + 1) refl (λ p k. rw k) qs e a (put (put d (out q i) 0) (slot q m) i)
      ∙ ap (λ x. put x (page free q) (m + 1)) (stacks_past h g (slot q m) i hm (λ p k. rw k) qs e a (put d (out q i) 0)
      ∙ ap (λ x. put x (slot q m) i) (stacks_past h g (out q i) 0 hi (λ p k. rw k) qs e a d
      ∙ ap (λ x. put x (out q i) 0) (stacks_agree qs e d))))

  stacks_more : (qs : List ℕ) → elem q qs ≡ true → distinct qs ≡ true → All (Fits h g) qs → (b : List ℕ) → leb (words n) (length b) ≡ true
      → stacked_all b h g qs ≡ stacked_one (stacked_all b h f qs) q (h q + length (f q)) i
  unfolding stacked_all
  stacks_more [] e u a b hb = absurd (false≢true e)
  stacks_more (p ∷ qs) e u a b hb =
      by_cases (eqb q p)
      (λ d. let z : p ≡ q = sym (eqb-true q p d) in
      let y : elem q qs ≡ false = rw z at (not-true (elem p qs) (and_left (not (elem p qs)) (distinct qs) u)) in
      let a₀ : Fits h g q = rw z at a.0 in
      rw z (stacks_first qs y a.1 a₀ b hb))
      (λ d. rw (others p d) (stacks_more qs (rw d at e) (and_right (not (elem p qs)) (distinct qs) u) a.1 (stacked b p (h p) (f p)) (rw (length-stacked b p (h p) (f p)) hb)))

-- ---- the list's words
-- a page with chunk, in a book of n pages, whose block has an out bit
abbrev pub on_pages : ℕ → Shape → List ℕ → ℕ → Bool
on_pages n sh qs w = ltb (page_at w) n && (small (index_of sh (page_at w) w) && elem (page_at w) qs)

module _ (sh : Shape) where
  blocks-here : (w : ℕ) (ws : List ℕ) → blocks_of sh (w ∷ ws) (page_at w) ≡ index_of sh (page_at w) w ∷ blocks_of sh ws (page_at w)
  unfolding blocks_of
  blocks-here w ws = rw (eq-eqb (page_at w) (page_at w) refl)

  blocks_else : (w : ℕ) (ws : List ℕ) (p : ℕ) → eqb (page_at w) p ≡ false → blocks_of sh (w ∷ ws) p ≡ blocks_of sh ws p
  unfolding blocks_of
  blocks_else w ws p e = rw e

  fits-less : (h : ℕ → ℕ) (w : ℕ) (ws : List ℕ) (q : ℕ) → Fits h (blocks_of sh (w ∷ ws)) q → Fits h (blocks_of sh ws) q
  fits-less h w ws q a =
      by_cases (eqb (page_at w) q)
      (λ e.
      let z : blocks_of sh (w ∷ ws) q ≡ index_of sh (page_at w) w ∷ blocks_of sh ws q = rw (← (eqb-true (page_at w) q e)) (blocks-here w ws) in
      let i = index_of sh (page_at w) w in
      let r : h q + suc (length (blocks_of sh ws q)) ≤ 4096 = rw z at a.room in
      let l : (small i && every small (blocks_of sh ws q)) ≡ true = rw z at a.low in
      record { room = omega arith; low = and_right (small i) (every small (blocks_of sh ws q)) l })
      (λ e.
      let z = blocks_else w ws q e in
      record { room = rw z at a.room; low = rw z at a.low })

  all-less : (h : ℕ → ℕ) (w : ℕ) (ws qs : List ℕ) → All (Fits h (blocks_of sh (w ∷ ws))) qs → All (Fits h (blocks_of sh ws)) qs
  all-less h w ws [] a = tt
  all-less h w ws (q ∷ qs) a = (fits-less h w ws q a.0, all-less h w ws qs a.1)

  nothing-stacked : (h : ℕ → ℕ) (qs : List ℕ) (b : List ℕ) → ((q : ℕ) → get b (page free q) ≡ h q) → b ≡ stacked_all b h (blocks_of sh []) qs
  unfolding stacked_all stacked blocks_of
  nothing-stacked h [] b k = refl
  nothing-stacked h (q ∷ qs) b k =
      let z : h q + 0 ≡ get b (page free q) = omega (arith, k q) in
      let e : put b (page free q) (h q + 0) ≡ b = rw z (put-get b (page free q)) in
      rw e (nothing-stacked h qs b k)

  module _ (n : ℕ) (h : ℕ → ℕ) (qs : List ℕ) (apart : distinct qs ≡ true) where
    pub pushes : (ws : List ℕ) → every (on_pages n sh qs) ws ≡ true → All (Fits h (blocks_of sh ws)) qs → (b : List ℕ) → leb (words n) (length b) ≡ true
        → ((q : ℕ) → get b (page free q) ≡ h q) → push_all (cleared b sh ws) sh ws ≡ stacked_all b h (blocks_of sh ws) qs
    unfolding push_all push_one cleared
    pushes [] o a b hb k = nothing-stacked h qs b k
    pushes (w ∷ ws) o a b hb k =
        let q = page_at w in
        let i = index_of sh (page_at w) w in
        let hw = and_left (on_pages n sh qs w) (every (on_pages n sh qs) ws) o in
        let hq : ltb (page_at w) n ≡ true = and_left (ltb (page_at w) n) (small i && elem q qs) hw in
        let hr = and_right (ltb (page_at w) n) (small i && elem q qs) hw in
        let hi : small (index_of sh (page_at w) w) ≡ true = and_left (small i) (elem q qs) hr in
        let he : elem (page_at w) qs ≡ true = and_right (small i) (elem q qs) hr in
        let d = put b (out q i) 0 in
        let r = stacked_all b h (blocks_of sh ws) qs in
        let a' = all-less h w ws qs a in
        let ih : push_all (cleared d sh ws) sh ws ≡ stacked_all d h (blocks_of sh ws) qs =
        pushes ws (and_right (on_pages n sh qs w) (every (on_pages n sh qs) ws) o) a' d (rw (length-put b (out q i) 0) hb) (λ p. get-put_other b (out q i) (page free p) 0 hi refl refl ∙ k p) in
        let e : stacked_all d h (blocks_of sh ws) qs ≡ put r (out q i) 0 = stacks_bit h (blocks_of sh ws) q i hi qs a' b in
        let t : get (put r (out q i) 0) (page free q) ≡ h q + length (blocks_of sh ws q)
        = get-put_other r (out q i) (page free q) 0 hi refl refl ∙ free-at h (blocks_of sh ws) n q hq qs he apart a' b hb in
        rw (ih, e, t) (sym (stacks_more n h (blocks_of sh ws) (blocks_of sh (w ∷ ws)) q i hq hi (blocks-here w ws) (blocks_else w ws) qs he apart a b hb))
