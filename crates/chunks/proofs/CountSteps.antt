-- The loops and ways out of chunk_of, run_on, count_blocks, counts_fit and what they call.
use Rattle.std.proofs.Common.{one-add}
use Rattle.std.proofs.lemmas.List.{nil_from_length}
use Rattle.std.specs.List.{prefix_len}
use Rattle.facts.proofs.Prelude.{ℕ, ◌+◌, ◌^◌, ◌≤◌, ◌<◌, arith, Bool, true, false, not, ◌&&◌, and-false, cond, true≢false, List, [], ◌∷◌, map, ◌≡◌, refl, sym, ap}
use Rattle.facts.proofs.Prelude.{◌∙◌, eqb, length, get_or, set, drop, length-set, get_or-set_same, get_or-set_other, ltb-true}
use Rattle.facts.proofs.Prelude.{eqb-false, eqb-true, lt-ltb, le-ltb, eq-eqb, ne_eqb, every, count, below, by_cases, and_left, every-same, every-at, every_of}
use Rattle.words.specs.Word.{count_of, page_of}
use Rattle.fields.specs.Field.{page, tally, words, get, Has}
use Rattle.pages.specs.Stack.{page_at}
use Rattle.chunks.specs.way.Tally.{page_in, tally_in, named_by, of_chunk, chunk_at, has_chunk, run_on, agrees, fits, tallied}
use Rattle.chunks.specs.way.TallyPre.{Counted, OnePre, FitPre}
use Rattle.chunks.proofs.NameSteps.{page-below, tally-there}

-- ---- chunk_of: the chunk that a page names, if it has the page
module _ (n : ℕ) (b gs : List ℕ) (p : ℕ) where
  pub past-none : length gs ≤ 2056 → n ≤ p → of_chunk gs (named_by n b p) p ≡ false
  unfolding of_chunk named_by
  past-none a h = rw (le-ltb p n h) (rw (le-ltb 4294967295 (length gs) (omega arith)))

  module _ (l : p < n) (i : ℕ) (e : i ≡ get b (page tally p)) where
    pub names-it : i ≡ named_by n b p
    unfolding named_by
    names-it = rw (lt-ltb p n l) e

    pub no_chunk : length gs ≤ i → of_chunk gs (named_by n b p) p ≡ false
    unfolding of_chunk
    no_chunk h = rw (← names-it) (rw (le-ltb i (length gs) h))

    module _ (w q : ℕ) (f : w ≡ get_or gs i 0) (g : q ≡ page_of w) where
      pub other_page : (q ≡ p → ⊥) → of_chunk gs (named_by n b p) p ≡ false
      unfolding of_chunk
      other_page d = rw (← names-it, ← f, ← g, ne_eqb q p d) (simp and-false)

      pub its_page : i < length gs → q ≡ p → of_chunk gs i p ≡ true
      unfolding of_chunk
      its_page h d = rw (lt-ltb i (length gs) h, ← f, ← g, eq-eqb q p d)

  pub page-tally : words n ≤ length b → p < n → Has b (page tally p)
  page-tally l h = omega arith

-- ---- run_on: how far the library's `take_while` goes
pub run-prefix : (p : ℕ) (ws : List ℕ) → prefix_len (λ w. eqb (page_at w) p) ws ≡ run_on p ws
unfolding run_on
run-prefix p [] = refl
run-prefix p (w ∷ ws) = rw (run-prefix p ws, one-add)

-- what a run at the list's head counts: its length, for the chunk that its page names
pub run-le : (p : ℕ) (ws : List ℕ) → run_on p ws ≤ length ws
unfolding run_on
run-le p [] = omega arith
run-le p (w ∷ ws) =
    let z = run-le p ws in
    by_cases (eqb (page_at w) p) (λ d. rw d (omega arith)) (λ d. rw d (omega arith))

module _ (n : ℕ) (b : List ℕ) (p i : ℕ) (f : i ≡ named_by n b p) where
  at-index : (w : ℕ) → eqb (page_at w) p ≡ true → chunk_at n b w ≡ i
  at-index w d = ap (named_by n b) (eqb-true (page_at w) p d) ∙ sym f

  run-counts : (k : ℕ) (ws : List ℕ) → count k (map (chunk_at n b) ws) ≡ cond (eqb k i) (run_on p ws) 0 + count k (map (chunk_at n b) (drop (run_on p ws) ws))
  unfolding run_on
  run-counts k [] = by_cases (eqb k i) (λ d. rw d) (λ d. rw d)
  run-counts k (w ∷ ws) =
      let z = run-counts k ws in
      by_cases (eqb (page_at w) p)
      (λ d. rw (d, at-index w d) (by_cases (eqb k i) (λ x. rw x (let y = rw x at z in omega (arith, y))) (λ x. rw x (let y = rw x at z in omega (arith, y)))))
      (λ d. rw d (by_cases (eqb k i) (λ x. rw x (omega arith)) (λ x. rw x (omega arith))))

  run-rest : (gs : List ℕ) → of_chunk gs i p ≡ true → (ws : List ℕ) → every (has_chunk n b gs) ws ≡ every (has_chunk n b gs) (drop (run_on p ws) ws)
  unfolding run_on has_chunk
  run-rest gs h [] = refl
  run-rest gs h (w ∷ ws) =
      by_cases (eqb (page_at w) p)
      (λ d. rw (d, at-index w d, eqb-true (page_at w) p d, h) (run-rest gs h ws))
      (λ d. rw d)

-- ---- count_blocks: what is counted so far, with what the words left will add, is the whole list's
pub record CountInv (n : ℕ) (b ws gs cs cs' rs : List ℕ) : Type 0 where
  pub room : length cs' ≡ length cs
  pub rest : every (has_chunk n b gs) rs ≡ every (has_chunk n b gs) ws
  pub counts : (k : ℕ) → get_or cs' k 0 + count k (map (chunk_at n b) rs) ≡ count k (map (chunk_at n b) ws)

count-le : (n : ℕ) (b : List ℕ) (k : ℕ) (ws : List ℕ) → count k (map (chunk_at n b) ws) ≤ length ws
count-le n b k [] = omega arith
count-le n b k (w ∷ ws) =
    let z = count-le n b k ws in
    by_cases (eqb k (chunk_at n b w)) (λ d. rw d (omega arith)) (λ d. rw d (omega arith))

module _ (n : ℕ) (b ws gs cs : List ℕ) where
  pub count-starts : ((k : ℕ) → get_or cs k 0 ≡ 0) → CountInv n b ws gs cs cs ws
  count-starts z = record { room = refl; rest = refl; counts = λ k. rw (z k) (omega arith) }

  module _ (cs' rs : List ℕ) (v : CountInv n b ws gs cs cs' rs) where
    module _ (w : ℕ) (vs : List ℕ) (l : rs ≡ w ∷ vs) (p : ℕ) (e : p ≡ page_at w) where
      test_is : has_chunk n b gs w ≡ of_chunk gs (named_by n b p) p
      unfolding has_chunk
      test_is = rw e

      pub count-stops : of_chunk gs (named_by n b p) p ≡ false → Counted false cs' n b ws gs
      count-stops z = record { answer = rw (l, test_is, z) at v.rest; counts = λ x. absurd (true≢false (sym x)) }

      module _ (i : ℕ) (f : i ≡ named_by n b p) (g : of_chunk gs i p ≡ true) where
        pub index-low : i < length gs
        unfolding of_chunk
        index-low = ltb-true i (length gs) (and_left _ _ g)

        pub index_in : length gs ≤ length cs → i < length cs'
        index_in r = omega (arith, v.room, index-low)

        index_is : chunk_at n b w ≡ i
        index_is = sym (f ∙ ap (named_by n b) e)

        -- the word and the run after it
        module _ (r : ℕ) (h : r ≡ run_on p vs) where
          more : (k : ℕ) → get_or cs' k 0 + (cond (eqb k i) (1 + r) 0 + count k (map (chunk_at n b) (drop r vs))) ≡ count k (map (chunk_at n b) ws)
          more k =
              let x = rw (l, index_is) at (v.counts k) in
              let y = rw (← h) at (run-counts n b p i f k vs) in
              by_cases (eqb k i)
              (λ d. let x' = rw d at x in let y' = rw d at y in rw d (omega (arith, x', y')))
              (λ d. let x' = rw d at x in let y' = rw d at y in rw d (omega (arith, x', y')))

          pub count_fits : get_or cs' i 0 + (1 + r) ≤ length ws
          count_fits =
              let z = rw (eq-eqb i i refl) at (more i) in
              omega (arith, z, count-le n b i ws)

          next-count : i < length cs' → (k : ℕ) → get_or (set cs' i (get_or cs' i 0 + (1 + r))) k 0 + count k (map (chunk_at n b) (drop r vs)) ≡ count k (map (chunk_at n b) ws)
          next-count m k =
              by_cases (eqb k i)
              (λ d. let z = rw d at (more k) in
              let x : k ≡ i = eqb-true k i d in
              rw (x, get_or-set_same cs' i (get_or cs' i 0 + (1 + r)) 0 m) (let y = rw x at z in omega (arith, y)))
              (λ d. let z = rw d at (more k) in
              rw (get_or-set_other cs' i k (get_or cs' i 0 + (1 + r)) 0 (eqb-false k i d)) (omega (arith, z)))

          pub count-goes_on : length gs ≤ length cs → (us : List ℕ) → us ≡ drop r vs → CountInv n b ws gs cs (set cs' i (get_or cs' i 0 + (1 + r))) us
          count-goes_on m us d =
              rw d (record {
                room = rw length-set v.room;
                rest = sym (rw (← h) at (run-rest n b p i f gs g vs)) ∙ (rw (l, test_is, ← f, g) at v.rest);
                counts = next-count (index_in m);
              })

    pub count-ends : length rs ≡ 0 → Counted true cs' n b ws gs
    count-ends l =
        let d = nil_from_length rs l in
        record { answer = rw d at v.rest; counts = λ x k. let z = rw d at (v.counts k) in omega (arith, z) }

-- ---- chunk_fits
pub both-run : (u m : ℕ) (r : Bool) → (u ≡ 0 → ⊥) → r ≡ eqb u m → r ≡ (not (eqb u 0) && eqb u m)
both-run u m r h e = rw (ne_eqb u 0 h) e

pub first_fails : (u m : ℕ) (r : Bool) → u ≡ 0 → r ≡ not (eqb u 0) → r ≡ (not (eqb u 0) && eqb u m)
first_fails u m r h e = rw (eq-eqb u 0 h) (rw (eq-eqb u 0 h) at e)

pub one-fits : (b gs cs : List ℕ) (k : ℕ) → OnePre b gs cs k → page_in gs k < 2 ^ 32
one-fits b gs cs k a = omega (arith, a.below)

module _ (b gs cs : List ℕ) (k w u : ℕ) (e : w ≡ get_or gs k 0) (c : u ≡ count_of w) where
  count-is : count_of (get_or gs k 0) ≡ u
  count-is = sym (c ∙ ap count_of e)

  -- r: the count is not 0, and is the one given
  module _ (r : Bool) (d : r ≡ (not (eqb u 0) && eqb u (get_or cs k 0))) where
    fits-is : fits b gs cs k ≡ (r && eqb (get b (tally_in gs k)) k)
    unfolding fits agrees
    fits-is = rw (count-is, d) (by_cases (eqb u 0) (λ x. rw x) (λ x. rw x))

    pub count-other : r ≡ false → r ≡ fits b gs cs k
    count-other h = rw (fits-is, h)

    pub count_same : r ≡ true → (p t : ℕ) → p ≡ page_in gs k → t ≡ get b (page tally p) → eqb t k ≡ fits b gs cs k
    count_same h p t f g =
        let n : get b (tally_in gs k) ≡ t = sym (g ∙ ap (λ q. get b (page tally q)) f) in
        rw (fits-is, h, n)

-- ---- counts_fit
module _ (b gs cs : List ℕ) (i : ℕ) (l : i < length gs) where
  pub fits-at : FitPre b gs cs → OnePre b gs cs i
  fits-at a = record { here = l; below = page-below b gs i a.there l; there = tally-there b b gs i (page_in gs i) refl a.there l refl; room = omega (arith, a.room) }

  pub fit-stops : (t : Bool) → t ≡ fits b gs cs i → t ≡ false → false ≡ every (fits b gs cs) (below (length gs))
  fit-stops t e z = by_cases (every (fits b gs cs) (below (length gs))) (λ d. absurd (true≢false (sym (every-at (fits b gs cs) (length gs) i d l) ∙ sym e ∙ z))) (λ d. sym d)

pub fit-ends : (b gs cs : List ℕ) (i : ℕ) → ((k : ℕ) → k < i → fits b gs cs k ≡ true) → length gs ≤ i → true ≡ every (fits b gs cs) (below (length gs))
fit-ends b gs cs i v l = sym (every_of (fits b gs cs) (length gs) (λ k h. v k (omega arith)))

-- ---- tallies_agree
module _ (n : ℕ) (b ws gs cs' : List ℕ) (t : Bool) (a : Counted t cs' n b ws gs) where
  pub blocks-counted : t ≡ true → (r : Bool) → r ≡ every (fits b gs cs') (below (length gs)) → r ≡ tallied n b ws gs
  unfolding tallied fits
  blocks-counted z r e =
      rw (← a.answer, z)
      (e ∙ every-same (λ k. agrees b gs k (get_or cs' k 0)) (λ k. agrees b gs k (count k (map (chunk_at n b) ws))) (below (length gs)) (λ k. rw (a.counts z k)))

  pub page_missing : t ≡ false → t ≡ tallied n b ws gs
  unfolding tallied
  page_missing z = rw (← a.answer, z)
