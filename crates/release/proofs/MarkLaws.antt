-- What marking shows, and that clearing the marked words gives back the book.
--     marked-after    one word's mark once another's is set
--     marks-all       marking in turn comes to the list's end exactly if no word that is out is marked at entry or stands twice
--     repeats-found   number 15: where the mark words are 0, exactly if none that is out stands twice
--     marks-clear     the words that the list marked, cleared whole: the book at entry
use Rattle.facts.proofs.Prelude.{ℕ, zero, suc, ◌+◌, ◌/◌, ◌%◌, ◌^◌, ◌≤◌, ◌<◌, arith, zero-div, Bool, true, false, cond, not, ◌&&◌, ◌||◌}
use Rattle.facts.proofs.Prelude.{and-false, true≢false, List, [], ◌∷◌, ◌≡◌, refl, sym, ap, ◌∙◌, eqb, ltb, leb, eqb·zero-suc, eqb·suc-suc}
use Rattle.facts.proofs.Prelude.{length, take, eqb-true, eqb-false, lt-ltb, eq-eqb, ne_eqb, every, elem, distinct, and_left, and_right}
use native.Mathlib.Decide.{dec_le}
use Rattle.words.specs.Word.{kind_of}
use Rattle.classes.specs.declared.Shape.{Shape}
use Rattle.classes.specs.way.Sound.{Sound}
use Rattle.fields.specs.Field.{Field, bits, out, mark, region, read, place, get, put, same, words}
use Rattle.fields.proofs.Laws.{get_put_same, get-put_other, put_put_same, put-comm, put-get}
use Rattle.fields.proofs.Parts.{Split, below, above, read-place, read-place_other}
use Rattle.fields.proofs.Changes.{Changes, changes-none, changes-put, changes_trans, changes_mono, same-eq}
use Rattle.model.specs.Release.{of_kind}
use Rattle.pages.specs.Stack.{index_of, is_block}
use Rattle.calls.specs.Out.{start_of, out_in, out_at, mark_of, outs, clean, unmarked, repeats}
use Rattle.release.specs.way.Marks.{is_marked_in, marked_in, is_marked, marked, mark_count, mark_book, clear_book}
use Rattle.release.proofs.Bits.{is_bit, start-kept, in_run-kept, out_in_lem, below_capacity, one_word}
use Rattle.release.proofs.OutLaws.{kind_of_lem, block_of-out, index_of-out, start_of-out}

-- ---- a change of marks
abbrev pub is_mark_word : Field → Bool
is_mark_word f = eqb (region f) 1

pub mark-bits : (b b' : List ℕ) → Changes is_mark_word b b' → Changes is_bit b b'
mark-bits b b' h = changes_mono is_mark_word is_bit b b' (λ g e. rw e) h

pub put-mark : (b : List ℕ) (q j v : ℕ) → j < 128 → Changes is_mark_word b (put b (mark q j) v)
put-mark b q j v h = changes-put is_mark_word b b (mark q j) v (lt-ltb j 128 h) refl (changes-none is_mark_word b)

same-mark : (q j : ℕ) → same (mark q j) (mark q j) ≡ true
same-mark q j = rw (eq-eqb j j refl, eq-eqb q q refl)

-- ---- the bit at y of a word whose bit at x was set
split-bits : (x y : ℕ) → eqb x y ≡ false → Split (bits x 1) (bits y 1)
split-bits x y e =
    let d : x ≡ y → ⊥ = eqb-false x y e in
    elim (dec_le y x) [
      | yes h ↦ let l : y + 1 ≤ x = omega arith in above l
      | no h ↦ let l : x + 1 ≤ y = omega arith in below l
    ]

bit-after : (x y d : ℕ) (t : Bool) → eqb x y ≡ t → eqb (read (bits y 1) (place (bits x 1) d 1)) 1 ≡ (t || eqb (read (bits y 1) d) 1)
bit-after x y d true e =
    let z : x ≡ y = eqb-true x y e in
    let l : 1 < 2 ^ 1 = omega arith in
    rw (z, read-place (bits y 1) d 1 l)
bit-after x y d false e = rw (read-place_other d 1 (split-bits x y e))

-- two mark words cleared, in either order
marks-comm : (b : List ℕ) (p i q j : ℕ) → i < 128 → j < 128 → put (put b (mark p i) 0) (mark q j) 0 ≡ put (put b (mark q j) 0) (mark p i) 0
marks-comm b p i q j hi hj = by (same (mark p i) (mark q j)) refl
  where
    by : (t : Bool) → same (mark p i) (mark q j) ≡ t → put (put b (mark p i) 0) (mark q j) 0 ≡ put (put b (mark q j) 0) (mark p i) 0
    by true e = rw (same-eq (mark p i) (mark q j) e)
    by false e = put-comm b (mark p i) (mark q j) 0 0 (lt-ltb i 128 hi) (lt-ltb j 128 hj) e

-- ---- tautologies
past-each : (e m l x : Bool) → (not (e || m) && (not l && x)) ≡ (not (e || l) && (not m && x))
past-each true m l x = refl
past-each false true l x = sym (and-false (not l))
past-each false false l x = refl

regroup : (e y d : Bool) → ((e && y) && d) ≡ (y && (e && d))
regroup true y d = refl
regroup false y d = sym (and-false y)

not-not : (t : Bool) → not (not t) ≡ t
not-not true = refl
not-not false = refl

abbrev pub free : List ℕ → Shape → ℕ → Bool
free b sh w = not (is_marked b sh w)

-- a word of marks that is 0 has none set
clean_free : (b : List ℕ) (sh : Shape) (w : ℕ) → clean b sh w ≡ true → free b sh w ≡ true
unfolding is_marked_in
clean_free b sh w e =
    let z : get b (mark_of b sh w) ≡ 0 = eqb-true (get b (mark_of b sh w)) 0 e in
    rw (z, zero-div)

every_weaker : (t u : ℕ → Bool) (xs : List ℕ) → ((x : ℕ) → t x ≡ true → u x ≡ true) → every t xs ≡ true → every u xs ≡ true
every_weaker t u [] f e = refl
every_weaker t u (x ∷ xs) f e = rw (f x (and_left (t x) _ e), every_weaker t u xs f (and_right (t x) _ e))

module _ (n c : ℕ) (sh : Shape) (s : Sound sh) where
  block-kept : (b b' : List ℕ) → Changes is_mark_word b b' → (q w : ℕ) → out_in b' sh q w ≡ out_in b sh q w
  block-kept b b' h q w = out_in_lem b' sh q w ∙ by (is_block sh q w) refl ∙ sym (out_in_lem b sh q w)
    where
      by : (t : Bool) → is_block sh q w ≡ t → (is_block sh q w && eqb (get b' (out q (index_of sh q w))) 1) ≡ (is_block sh q w && eqb (get b (out q (index_of sh q w))) 1)
      by true e = let l : index_of sh q w < 4096 = omega (arith, below_capacity sh q w e, s.few) in rw (h.kept (out q (index_of sh q w)) (lt-ltb _ _ l) refl)
      by false e = rw e

  pub out-kept : (b b' : List ℕ) → Changes is_mark_word b b' → (w : ℕ) → out_at n b' c sh w ≡ out_at n b c sh w
  unfolding out_at
  out-kept b b' h w =
      let k = mark-bits b b' h in
      rw (start-kept b b' k w, in_run-kept b b' k n sh c w, block-kept b b' h (start_of b w) w)

  pub outs-kept : (b b' : List ℕ) → Changes is_mark_word b b' → (ws : List ℕ) → outs n b' c sh ws ≡ outs n b c sh ws
  outs-kept b b' h [] = refl
  outs-kept b b' h (w ∷ ws) = rw (out-kept b b' h w, outs-kept b b' h ws)

  -- ---- a word that is out has its mark in the book
  module _ (b : List ℕ) (w : ℕ) (o : out_at n b c sh w ≡ true) where
    mark-low : index_of sh (start_of b w) w / 32 < 128
    mark-low = omega (arith, index_of-out n c sh s b w o)

    mark_in-book : (ltb (index_of sh (start_of b w) w / 32) 128 && ltb (start_of b w) n) ≡ true
    mark_in-book = rw (lt-ltb _ _ mark-low, lt-ltb _ _ (start_of-out n c sh s b w o))

    pub mark-changes : (v : ℕ) → Changes is_mark_word b (put b (mark_of b sh w) v)
    mark-changes v = put-mark b (start_of b w) (index_of sh (start_of b w) w / 32) v mark-low

    pub marked-changes : Changes is_mark_word b (marked b sh w)
    unfolding marked_in
    marked-changes = mark-changes _

  -- ---- another word's mark, once that one's is set
  module _ (b : List ℕ) (hb : leb (words n) (length b) ≡ true) (w : ℕ) (o : out_at n b c sh w ≡ true) where
    now-there : (v : ℕ) → get (put b (mark_of b sh w) v) (mark_of b sh w) ≡ v
    now-there v = get_put_same n b (mark_of b sh w) v hb (mark_in-book b w o) refl

    module _ (v : ℕ) (u : out_at n b c sh v ≡ true) (k : kind_of v ≡ kind_of w) where
      one_place : start_of b w ≡ start_of b v → index_of sh (start_of b w) w / 32 ≡ index_of sh (start_of b v) v / 32
          → (t : Bool) → eqb (index_of sh (start_of b w) w % 32) (index_of sh (start_of b v) v % 32) ≡ t → eqb w v ≡ t
      one_place q j true e =
          let m : index_of sh (start_of b w) w % 32 ≡ index_of sh (start_of b v) v % 32 = eqb-true _ _ e in
          let i : index_of sh (start_of b w) w ≡ index_of sh (start_of b v) v = omega arith in
          eq-eqb w v (one_word sh (start_of b v) w v (rw q at (block_of-out n c sh s b w o)) (block_of-out n c sh s b v u) (sym k) (rw q at i))
      one_place q j false e = ne_eqb w v (λ g. eqb-false _ _ e (ap (λ x. index_of sh (start_of b x) x % 32) g))

      read-after : (t : Bool) → same (mark_of b sh w) (mark_of b sh v) ≡ t → is_marked_in (marked_in b sh (start_of b w) w) sh (start_of b v) v ≡ (eqb w v || is_marked_in b sh (start_of b v) v)
      unfolding is_marked_in marked_in
      read-after true d =
          let f : mark_of b sh w ≡ mark_of b sh v = same-eq (mark_of b sh w) (mark_of b sh v) d in
          let q : start_of b w ≡ start_of b v = cc in
          let j : index_of sh (start_of b w) w / 32 ≡ index_of sh (start_of b v) v / 32 = cc in
          let x = index_of sh (start_of b w) w % 32 in
          let y = index_of sh (start_of b v) v % 32 in
          let e = bit-after x y (get b (mark_of b sh w)) (eqb x y) refl in
          rw (← f, now-there (place (bits x 1) (get b (mark_of b sh w)) 1), one_place q j (eqb x y) refl) e
      read-after false d =
          let x : eqb w v ≡ false = ne_eqb w v (λ g. true≢false (sym (same-mark (start_of b v) (index_of sh (start_of b v) v / 32)) ∙ rw g at d)) in
          rw (x, get-put_other b (mark_of b sh w) (mark_of b sh v) (place (bits (index_of sh (start_of b w) w % 32) 1) (get b (mark_of b sh w)) 1) (lt-ltb _ _ (mark-low b w o)) (lt-ltb _ _ (mark-low b v u)) d)

      pub marked-after : is_marked (marked b sh w) sh v ≡ (eqb w v || is_marked b sh v)
      marked-after =
          rw (start-kept b (marked b sh w) (mark-bits b (marked b sh w) (marked-changes b w o)) v) (read-after (same (mark_of b sh w) (mark_of b sh v)) refl)

    pub all_after : (k : ℕ) (vs : List ℕ) → kind_of w ≡ k → every (of_kind k) vs ≡ true
        → every (free (marked b sh w) sh) (outs n b c sh vs) ≡ (not (elem w (outs n b c sh vs)) && every (free b sh) (outs n b c sh vs))
    all_after k [] e h = refl
    all_after k (v ∷ vs) e h = by (out_at n b c sh v) refl (all_after k vs e (and_right (of_kind k v) _ h))
      where
        by : (t : Bool) → out_at n b c sh v ≡ t
            → every (free (marked b sh w) sh) (outs n b c sh vs) ≡ (not (elem w (outs n b c sh vs)) && every (free b sh) (outs n b c sh vs))
            → every (free (marked b sh w) sh) (outs n b c sh (v ∷ vs)) ≡ (not (elem w (outs n b c sh (v ∷ vs))) && every (free b sh) (outs n b c sh (v ∷ vs)))
        by true u z =
            rw (u, marked-after v u (kind_of_lem k v (and_left _ _ h) ∙ sym e), z) (past-each (eqb w v) (is_marked b sh v) (elem w (outs n b c sh vs)) (every (free b sh) (outs n b c sh vs)))
        by false u z = rw u z

  -- ---- number 15
  pub marks-all : (b : List ℕ) (k : ℕ) (ws : List ℕ) → leb (words n) (length b) ≡ true → every (of_kind k) ws ≡ true
      → eqb (mark_count n b c sh ws) (length ws) ≡ (every (free b sh) (outs n b c sh ws) && distinct (outs n b c sh ws))
  unfolding mark_count
  marks-all b k [] hb h = refl
  marks-all b k (w ∷ ws) hb h =
      by (out_at n b c sh w) (is_marked b sh w) refl refl (marks-all b k ws hb h') (λ l. marks-all (marked b sh w) k ws l h')
    where
      h' : every (of_kind k) ws ≡ true
      h' = and_right (of_kind k w) _ h

      by : (t m : Bool) → out_at n b c sh w ≡ t → is_marked b sh w ≡ m
          → eqb (mark_count n b c sh ws) (length ws) ≡ (every (free b sh) (outs n b c sh ws) && distinct (outs n b c sh ws))
          → (leb (words n) (length (marked b sh w)) ≡ true
          → eqb (mark_count n (marked b sh w) c sh ws) (length ws) ≡ (every (free (marked b sh w) sh) (outs n (marked b sh w) c sh ws) && distinct (outs n (marked b sh w) c sh ws)))
          → eqb (mark_count n b c sh (w ∷ ws)) (suc (length ws)) ≡ (every (free b sh) (outs n b c sh (w ∷ ws)) && distinct (outs n b c sh (w ∷ ws)))
      by false m o d y z = rw o (eqb·suc-suc _ (length ws) ∙ y)
      by true true o d y z = rw (o, d) (eqb·zero-suc (length ws))
      by true false o d y z =
          let g = marked-changes b w o in
          rw (o, d) (eqb·suc-suc _ (length ws) ∙ z (rw g.long hb)
          ∙ rw (outs-kept b (marked b sh w) g ws, all_after b hb w o k ws (kind_of_lem k w (and_left _ _ h)) h')
          (regroup (not (elem w (outs n b c sh ws))) (every (free b sh) (outs n b c sh ws)) (distinct (outs n b c sh ws))))

  -- all words were passed: none that is out stands twice
  pub all-single : (b : List ℕ) (k : ℕ) (ws : List ℕ) → leb (words n) (length b) ≡ true → every (of_kind k) ws ≡ true → mark_count n b c sh ws ≡ length ws → repeats n b c sh ws ≡ false
  unfolding repeats
  all-single b k ws hb kinds l =
      let e = sym (marks-all b k ws hb kinds) ∙ eq-eqb (mark_count n b c sh ws) (length ws) l in
      rw (and_right (every (free b sh) (outs n b c sh ws)) (distinct (outs n b c sh ws)) e)

  pub repeats-found : (b : List ℕ) (k : ℕ) (ws : List ℕ) → leb (words n) (length b) ≡ true → every (of_kind k) ws ≡ true → unmarked n b c sh ws ≡ true
      → eqb (mark_count n b c sh ws) (length ws) ≡ not (repeats n b c sh ws)
  unfolding unmarked repeats
  repeats-found b k ws hb h e =
      marks-all b k ws hb h
      ∙ rw (every_weaker (clean b sh) (free b sh) (outs n b c sh ws) (clean_free b sh) e, not-not (distinct (outs n b c sh ws)))

  -- ---- the book while it is marked
  pub book-changes : (b : List ℕ) (ws : List ℕ) → Changes is_mark_word b (mark_book n b c sh ws)
  unfolding mark_book
  book-changes b [] = changes-none is_mark_word b
  book-changes b (w ∷ ws) = by (out_at n b c sh w) (is_marked b sh w) refl refl (book-changes b ws) (book-changes (marked b sh w) ws)
    where
      by : (t m : Bool) → out_at n b c sh w ≡ t → is_marked b sh w ≡ m → Changes is_mark_word b (mark_book n b c sh ws) → Changes is_mark_word (marked b sh w) (mark_book n (marked b sh w) c sh ws)
          → Changes is_mark_word b (mark_book n b c sh (w ∷ ws))
      by false m o d y z = rw o y
      by true true o d y z = rw (o, d) (changes-none is_mark_word b)
      by true false o d y z = rw (o, d) (changes_trans is_mark_word b (marked b sh w) _ (marked-changes b w o) z)

  -- ---- clearing
  clear-one : (b b' : List ℕ) → Changes is_mark_word b b' → (w : ℕ) → out_at n b c sh w ≡ true → cond (out_at n b' c sh w) (put b' (mark_of b' sh w) 0) b' ≡ put b' (mark_of b sh w) 0
  clear-one b b' h w o = rw (out-kept b b' h w, o, start-kept b b' (mark-bits b b' h) w)

  clear-skip : (b : List ℕ) (w : ℕ) (vs : List ℕ) → out_at n b c sh w ≡ false → clear_book n b c sh (w ∷ vs) ≡ clear_book n b c sh vs
  unfolding clear_book
  clear-skip b w vs o = ap (λ t. clear_book n (cond t (put b (mark_of b sh w) 0) b) c sh vs) o

  clear-out : (b b' : List ℕ) → Changes is_mark_word b b' → (w : ℕ) (vs : List ℕ) → out_at n b c sh w ≡ true → clear_book n b' c sh (w ∷ vs) ≡ clear_book n (put b' (mark_of b sh w) 0) c sh vs
  unfolding clear_book
  clear-out b b' h w vs o = ap (λ d. clear_book n d c sh vs) (clear-one b b' h w o)

  pub clear_comm : (p i : ℕ) → i < 128 → (b : List ℕ) (ws : List ℕ) → clear_book n (put b (mark p i) 0) c sh ws ≡ put (clear_book n b c sh ws) (mark p i) 0
  unfolding clear_book
  clear_comm p i hi b [] = refl
  clear_comm p i hi b (w ∷ ws) = by (out_at n b c sh w) refl (clear_comm p i hi b ws) (clear_comm p i hi (put b (mark_of b sh w) 0) ws)
    where
      h : Changes is_mark_word b (put b (mark p i) 0)
      h = put-mark b p i 0 hi

      by : (t : Bool) → out_at n b c sh w ≡ t → clear_book n (put b (mark p i) 0) c sh ws ≡ put (clear_book n b c sh ws) (mark p i) 0
          → clear_book n (put (put b (mark_of b sh w) 0) (mark p i) 0) c sh ws ≡ put (clear_book n (put b (mark_of b sh w) 0) c sh ws) (mark p i) 0
          → clear_book n (put b (mark p i) 0) c sh (w ∷ ws) ≡ put (clear_book n b c sh (w ∷ ws)) (mark p i) 0
      by false o y z = rw (out-kept b (put b (mark p i) 0) h w, o) y
      by true o y z =
          rw (clear-one b (put b (mark p i) 0) h w o, o)
          (ap (λ d. clear_book n d c sh ws) (marks-comm b p i (start_of b w) (index_of sh (start_of b w) w / 32) hi (mark-low b w o)) ∙ z)

  marked-cleared : (b : List ℕ) → leb (words n) (length b) ≡ true → (w : ℕ) → out_at n b c sh w ≡ true → put (marked b sh w) (mark_of b sh w) 0 ≡ put b (mark_of b sh w) 0
  unfolding marked_in
  marked-cleared b hb w o = put_put_same n b (mark_of b sh w) _ 0 hb (mark_in-book b w o)

  -- what was set in words that are cleared leaves nothing
  clears_marks : (b : List ℕ) (ws : List ℕ) → leb (words n) (length b) ≡ true
      → clear_book n (mark_book n b c sh ws) c sh (take (mark_count n b c sh ws) ws) ≡ clear_book n b c sh (take (mark_count n b c sh ws) ws)
  unfolding mark_book mark_count clear_book
  clears_marks b [] hb = refl
  clears_marks b (w ∷ ws) hb = by (out_at n b c sh w) (is_marked b sh w) refl refl (clears_marks b ws hb) (λ l. clears_marks (marked b sh w) ws l)
    where
      by : (t m : Bool) → out_at n b c sh w ≡ t → is_marked b sh w ≡ m
          → clear_book n (mark_book n b c sh ws) c sh (take (mark_count n b c sh ws) ws) ≡ clear_book n b c sh (take (mark_count n b c sh ws) ws)
          → (leb (words n) (length (marked b sh w)) ≡ true
          → clear_book n (mark_book n (marked b sh w) c sh ws) c sh (take (mark_count n (marked b sh w) c sh ws) ws) ≡ clear_book n (marked b sh w) c sh (take (mark_count n (marked b sh w) c sh ws) ws))
          → clear_book n (mark_book n b c sh (w ∷ ws)) c sh (take (mark_count n b c sh (w ∷ ws)) (w ∷ ws)) ≡ clear_book n b c sh (take (mark_count n b c sh (w ∷ ws)) (w ∷ ws))
      by false m o d y z =
          let vs = take (mark_count n b c sh ws) ws in
          let g = out-kept b (mark_book n b c sh ws) (book-changes b ws) w ∙ o in
          rw o (clear-skip (mark_book n b c sh ws) w vs g ∙ y ∙ sym (clear-skip b w vs o))
      by true true o d y z = rw (o, d)
      by true false o d y z =
          let g = marked-changes b w o in
          let b₁ = marked b sh w in
          let b₂ = mark_book n b₁ c sh ws in
          let vs = take (mark_count n b₁ c sh ws) ws in
          let f = mark_of b sh w in
          let x = clear_comm (start_of b w) (index_of sh (start_of b w) w / 32) (mark-low b w o) in
          rw (o, d)
          (clear-out b b₂ (changes_trans is_mark_word b b₁ b₂ g (book-changes b₁ ws)) w vs o
          ∙ x b₂ vs ∙ ap (λ e. put e f 0) (z (rw g.long hb)) ∙ sym (x b₁ vs)
          ∙ ap (λ e. clear_book n e c sh vs) (marked-cleared b hb w o)
          ∙ sym (clear-out b b (changes-none is_mark_word b) w vs o))

  -- words that are 0 stay as they are
  clears_none : (b : List ℕ) (k : ℕ) (ws : List ℕ) → every (clean b sh) (outs n b c sh ws) ≡ true → clear_book n b c sh (take k ws) ≡ b
  unfolding clear_book
  clears_none b zero ws e = refl
  clears_none b (suc k) [] e = refl
  clears_none b (suc k) (w ∷ ws) e = by (out_at n b c sh w) refl (clears_none b k ws)
    where
      by : (t : Bool) → out_at n b c sh w ≡ t → (every (clean b sh) (outs n b c sh ws) ≡ true → clear_book n b c sh (take k ws) ≡ b)
          → clear_book n b c sh (take (suc k) (w ∷ ws)) ≡ b
      by false o z = clear-skip b w (take k ws) o ∙ z (rw o at e)
      by true o z =
          let d : (clean b sh w && every (clean b sh) (outs n b c sh ws)) ≡ true = rw o at e in
          let x : 0 ≡ get b (mark_of b sh w) = sym (eqb-true (get b (mark_of b sh w)) 0 (and_left (clean b sh w) _ d)) in
          let y : put b (mark_of b sh w) 0 ≡ b = ap (put b (mark_of b sh w)) x ∙ put-get b (mark_of b sh w) in
          clear-out b b (changes-none is_mark_word b) w (take k ws) o ∙ ap (λ x. clear_book n x c sh (take k ws)) y ∙ z (and_right (clean b sh w) _ d)

  -- ---- the words that the list marked become 0, and that is the book at entry
  pub marks-clear : (b : List ℕ) (ws : List ℕ) → leb (words n) (length b) ≡ true → unmarked n b c sh ws ≡ true
      → clear_book n (mark_book n b c sh ws) c sh (take (mark_count n b c sh ws) ws) ≡ b
  unfolding unmarked
  marks-clear b ws hb e = clears_marks b ws hb ∙ clears_none b (mark_count n b c sh ws) ws e
