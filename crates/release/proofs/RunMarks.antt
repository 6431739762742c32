-- Marking in the run at q alone, in words of marks that were 0: the way of a list that is carried out, or refused by number 13's last test.
--     takes_all     all marked: taking the marks away by words clears just the listed blocks' out bits
--     clears-run    clearing the marks by words gives back the book
--     all-fresh, not-marked, not-repeated    all marked: none of numbers 13 (a mark), 15, 10 and 11 applies
use Rattle.facts.proofs.Prelude.{ℕ, zero, suc, ◌+◌, ◌*◌, ◌/◌, ◌%◌, ◌≤◌, ◌<◌, arith, Bool, true, false, not, ◌&&◌, and-false, List, [], ◌∷◌, map, ◌≡◌, refl, sym, ap, ◌∙◌}
use Rattle.facts.proofs.Prelude.{subst, eqb, ltb, leb, length, get_or, set, set-get_or, set-set, eqb-true, lt-ltb, eq-eqb, ne_eqb, every, and_left, and_right, every-same, every_made}
use native.Mathlib.Decide.{ℕ_discrete}
use lib.Bits.{bit_xor, xor_zero_r}
use Rattle.classes.specs.declared.Shape.{Shape}
use Rattle.classes.specs.way.Sound.{Sound}
use Rattle.fields.specs.Field.{mark, out, get, put, words}
use Rattle.fields.specs.Clear.{clear_marks}
use Rattle.fields.proofs.Laws.{length-put, put-comm, put-get}
use Rattle.fields.proofs.Changes.{Changes, changes-none, changes_trans}
use Rattle.fields.proofs.Parts.{read_small}
use Rattle.model.specs.Release.{of_kind}
use Rattle.pages.specs.Runs.{whole}
use Rattle.pages.specs.Stack.{set_outs, index_of, is_block}
use Rattle.calls.specs.Out.{start_of, out_in, out_at, outs, clean, unmarked, repeats}
use Rattle.fields.specs.way.OutBits.{out_word}
use Rattle.release.specs.way.Marks.{mark_at, fresh_at, is_marked_in, marked_in, mark_count, fresh_in, fresh_count, fresh_book, no_marks, take_word, take_marks, count_by, book_by}
use Rattle.pages.proofs.Kept.{whole-kept}
use Rattle.release.proofs.Bits.{out_in_lem, below_capacity, bits-own, start-kept}
use Rattle.release.proofs.RunLaws.{low-marks, run_out, run-start}
use Rattle.release.proofs.OutLaws.{block_of-out}
use Rattle.release.proofs.MarkLaws.{is_mark_word, mark-bits, put-mark, out-kept, all-single}
use Rattle.release.proofs.TakeMarks.{takes-marked}

-- a mark is 0 or 1
not-one : (x : ℕ) → x < 2 → not (eqb x 1) ≡ true → x ≡ 0
not-one zero h e = refl
not-one (suc zero) h e = let z : ◌≡◌ {A = Bool} false true = e in cc
not-one (suc (suc x)) h e = absurd (omega arith)

-- ---- words that are 0
pub clean_at : (b : List ℕ) (q m j : ℕ) → no_marks b q m ≡ true → j < m → get b (mark q j) ≡ 0
clean_at b q zero j e h = absurd (omega arith)
clean_at b q (suc m) j e h =
    elim (ℕ_discrete j m) [
      | yes z ↦ rw z (eqb-true (get b (mark q m)) 0 (and_left _ _ e))
      | no z ↦ clean_at b q m j (and_right (eqb (get b (mark q m)) 0) _ e) (omega arith)
    ]

clear-same : (b : List ℕ) (q j : ℕ) → get b (mark q j) ≡ 0 → put b (mark q j) 0 ≡ b
clear-same b q j e = ap (put b (mark q j)) (sym e) ∙ put-get b (mark q j)

take_same : (b : List ℕ) (q j : ℕ) → get b (mark q j) ≡ 0 → take_word b q j ≡ b
unfolding take_word
take_same b q j e =
    let x : set b (out_word q j) (bit_xor (get_or b (out_word q j) 0) (get b (mark q j))) ≡ b =
    ap (set b (out_word q j)) (ap (bit_xor (get_or b (out_word q j) 0)) e ∙ xor_zero_r (get_or b (out_word q j) 0)) ∙ set-get_or b (out_word q j) 0 in
    ap (λ d. put d (mark q j) 0) x ∙ clear-same b q j e

pub none-taken : (b : List ℕ) (q m : ℕ) → no_marks b q m ≡ true → take_marks b q m ≡ b
unfolding take_marks
none-taken b q zero e = refl
none-taken b q (suc m) e =
    ap (λ d. take_word d q m) (none-taken b q m (and_right (eqb (get b (mark q m)) 0) _ e)) ∙ take_same b q m (eqb-true (get b (mark q m)) 0 (and_left _ _ e))

pub none-cleared : (b : List ℕ) (q m : ℕ) → no_marks b q m ≡ true → clear_marks b q m ≡ b
unfolding clear_marks
none-cleared b q zero e = refl
none-cleared b q (suc m) e =
    ap (λ d. put d (mark q m) 0) (none-cleared b q m (and_right (eqb (get b (mark q m)) 0) _ e)) ∙ clear-same b q m (eqb-true (get b (mark q m)) 0 (and_left _ _ e))

-- ---- a word that is cleared may have held anything
twice : (b : List ℕ) (q j u v : ℕ) → put (put b (mark q j) u) (mark q j) v ≡ put b (mark q j) v
unfolding put
twice b q j u v = set-set b (40144 + 4112 * q + j) u v

clear_later : (b : List ℕ) (q m j v : ℕ) → m ≤ j → j < 128 → clear_marks (put b (mark q j) v) q m ≡ put (clear_marks b q m) (mark q j) v
unfolding clear_marks
clear_later b q zero j v h l = refl
clear_later b q (suc m) j v h l =
    ap (λ d. put d (mark q m) 0) (clear_later b q m j v (omega arith) l)
    ∙ put-comm (clear_marks b q m) (mark q j) (mark q m) v 0 (lt-ltb j 128 l) (lt-ltb m 128 (omega arith)) (apart j m (λ z. omega arith))
  where
    apart : (x y : ℕ) → (x ≡ y → ⊥) → (eqb x y && eqb q q) ≡ false
    apart x y d = rw (ne_eqb x y d)

pub clear-past : (b : List ℕ) (q m j v : ℕ) → j < m → m ≤ 128 → clear_marks (put b (mark q j) v) q m ≡ clear_marks b q m
unfolding clear_marks
clear-past b q zero j v h l = absurd (omega arith)
clear-past b q (suc m) j v h l =
    elim (ℕ_discrete j m) [
      | yes z ↦
          subst (λ x. clear_marks (put b (mark q x) v) q (suc m) ≡ clear_marks b q (suc m)) (sym z)
          (ap (λ d. put d (mark q m) 0) (clear_later b q m m v (omega arith) (omega arith)) ∙ twice (clear_marks b q m) q m v 0)
      | no z ↦ ap (λ d. put d (mark q m) 0) (clear-past b q m j v (omega arith) (omega arith))
    ]

-- a mark of another page
pub clear-away : (b : List ℕ) (q m p j v : ℕ) → (p ≡ q → ⊥) → m ≤ 128 → j < 128 → clear_marks (put b (mark p j) v) q m ≡ put (clear_marks b q m) (mark p j) v
unfolding clear_marks
clear-away b q zero p j v d h l = refl
clear-away b q (suc m) p j v d h l =
    ap (λ z. put z (mark q m) 0) (clear-away b q m p j v d (omega arith) l)
    ∙ put-comm (clear_marks b q m) (mark p j) (mark q m) v 0 (lt-ltb j 128 l) (lt-ltb m 128 (omega arith)) (rw (ne_eqb p q d) (and-false (eqb j m)))

module _ (sh : Shape) (s : Sound sh) (q : ℕ) where
  -- ---- a word that is out and not marked
  module _ (b : List ℕ) (w : ℕ) (o : fresh_in b sh q w ≡ true) where
    pub fresh-kind : of_kind sh.kind w ≡ true
    unfolding fresh_in
    fresh-kind = and_left (of_kind sh.kind w) _ o

    fresh-rest : (is_block sh q w && fresh_at b q (index_of sh q w)) ≡ true
    unfolding fresh_in
    fresh-rest = and_right (of_kind sh.kind w) _ o

    pub fresh-block : is_block sh q w ≡ true
    fresh-block = and_left (is_block sh q w) _ fresh-rest

    fresh_at_lem : fresh_at b q (index_of sh q w) ≡ true
    fresh_at_lem = and_right (is_block sh q w) _ fresh-rest

    pub fresh-low : index_of sh q w < 4096
    fresh-low = omega (arith, below_capacity sh q w fresh-block, s.few)

    pub fresh-word : (m : ℕ) → sh.capacity ≤ 32 * m → index_of sh q w / 32 < m
    fresh-word m all = omega (arith, below_capacity sh q w fresh-block)

    pub fresh-out : get b (out q (index_of sh q w)) ≡ 1
    fresh-out = eqb-true _ 1 (and_left (eqb (get b (out q (index_of sh q w))) 1) _ fresh_at_lem)

    pub fresh-mark : mark_at b q (index_of sh q w) ≡ 0
    fresh-mark = not-one _ (read_small (index_of sh q w % 32) 1 (get b (mark q (index_of sh q w / 32)))) (and_right (eqb (get b (out q (index_of sh q w))) 1) _ fresh_at_lem)

  pub fresh-put : (b : List ℕ) (w : ℕ) → fresh_in b sh q w ≡ true → Changes is_mark_word b (marked_in b sh q w)
  unfolding marked_in
  fresh-put b w o = put-mark b q (index_of sh q w / 32) _ (omega (arith, fresh-low b w o))

  -- ---- taking by words
  lows : (b : List ℕ) (ws : List ℕ) → fresh_count b sh q ws ≡ length ws → every (λ j. ltb j 4096) (map (index_of sh q) ws) ≡ true
  unfolding count_by
  lows b [] l = refl
  lows b (w ∷ ws) l = by (fresh_in b sh q w) refl (lows (marked_in b sh q w) ws)
    where
      by : (t : Bool) → fresh_in b sh q w ≡ t → (fresh_count (marked_in b sh q w) sh q ws ≡ length ws → every (λ j. ltb j 4096) (map (index_of sh q) ws) ≡ true)
          → every (λ j. ltb j 4096) (map (index_of sh q) (w ∷ ws)) ≡ true
      by true o z = rw (lt-ltb _ 4096 (fresh-low b w o), z (omega (arith, rw o at l)))
      by false o z = absurd (omega (arith, rw o at l))

  marked-long : (b : List ℕ) (w : ℕ) → length (marked_in b sh q w) ≡ length b
  unfolding marked_in
  marked-long b w = length-put b (mark q (index_of sh q w / 32)) _

  module _ (m : ℕ) (few : m ≤ 128) (all : sh.capacity ≤ 32 * m) where
    take-fresh : (b : List ℕ) (w : ℕ) → fresh_in b sh q w ≡ true → words (q + 1) ≤ length b
        → take_marks (marked_in b sh q w) q m ≡ put (take_marks b q m) (out q (index_of sh q w)) 0
    unfolding marked_in
    take-fresh b w o long = takes-marked q m b (index_of sh q w) (fresh-low b w o) few (fresh-word b w o m all) (omega arith) (fresh-out b w o) (fresh-mark b w o)

    takes-fresh : (b : List ℕ) (ws : List ℕ) → words (q + 1) ≤ length b → fresh_count b sh q ws ≡ length ws
        → take_marks (fresh_book b sh q ws) q m ≡ set_outs (take_marks b q m) q 0 (map (index_of sh q) ws)
    unfolding count_by book_by
    takes-fresh b [] long l = refl
    takes-fresh b (w ∷ ws) long l =
        by (fresh_in b sh q w) refl (takes-fresh (marked_in b sh q w) ws (rw (marked-long b w) long)) (lows (marked_in b sh q w) ws)
      where
        by : (t : Bool) → fresh_in b sh q w ≡ t
            → (fresh_count (marked_in b sh q w) sh q ws ≡ length ws → take_marks (fresh_book (marked_in b sh q w) sh q ws) q m ≡ set_outs (take_marks (marked_in b sh q w) q m) q 0 (map (index_of sh q) ws))
            → (fresh_count (marked_in b sh q w) sh q ws ≡ length ws → every (λ j. ltb j 4096) (map (index_of sh q) ws) ≡ true)
            → take_marks (fresh_book b sh q (w ∷ ws)) q m ≡ set_outs (take_marks b q m) q 0 (map (index_of sh q) (w ∷ ws))
        by true o z y =
            let k : fresh_count (marked_in b sh q w) sh q ws ≡ length ws = omega (arith, rw o at l) in
            let is = map (index_of sh q) ws in
            rw o (z k ∙ ap (λ d. set_outs d q 0 is) (take-fresh b w o long) ∙ low-marks (take_marks b q m) q 0 (index_of sh q w) is (fresh-low b w o) (y k))
        by false o z y = absurd (omega (arith, rw o at l))

    pub takes_all : (b : List ℕ) (ws : List ℕ) → words (q + 1) ≤ length b → no_marks b q m ≡ true → fresh_count b sh q ws ≡ length ws
        → take_marks (fresh_book b sh q ws) q m ≡ set_outs b q 0 (map (index_of sh q) ws)
    takes_all b ws long e l = takes-fresh b ws long l ∙ ap (λ d. set_outs d q 0 (map (index_of sh q) ws)) (none-taken b q m e)

  pub fresh-is_out : (b : List ℕ) (w : ℕ) → fresh_in b sh q w ≡ true → out_in b sh q w ≡ true
  fresh-is_out b w o = out_in_lem b sh q w ∙ rw (fresh-block b w o, fresh-out b w o)

  pub fresh-is_free : (b : List ℕ) (w : ℕ) → fresh_in b sh q w ≡ true → is_marked_in b sh q w ≡ false
  unfolding is_marked_in
  fresh-is_free b w o = rw (fresh-mark b w o)

-- ---- lists: each word in the run that `at` says for it
module _ (sh : Shape) (s : Sound sh) (at : ℕ → ℕ) where
  -- nothing but marks is changed
  pub fresh-changes : (b : List ℕ) (ws : List ℕ) → Changes is_mark_word b (book_by at b sh ws)
  unfolding book_by
  fresh-changes b [] = changes-none is_mark_word b
  fresh-changes b (w ∷ ws) = by (fresh_in b sh (at w) w) refl (fresh-changes (marked_in b sh (at w) w) ws)
    where
      by : (t : Bool) → fresh_in b sh (at w) w ≡ t → Changes is_mark_word (marked_in b sh (at w) w) (book_by at (marked_in b sh (at w) w) sh ws) → Changes is_mark_word b (book_by at b sh (w ∷ ws))
      by true o z = rw o (changes_trans is_mark_word b (marked_in b sh (at w) w) _ (fresh-put sh s (at w) b w o) z)
      by false o z = rw o (changes-none is_mark_word b)

  -- a way to clear that passes over the mark of each word passes over all of them
  pub clears_by : (clear : List ℕ → List ℕ) (has : ℕ → Bool) → ((b : List ℕ) (w : ℕ) → has w ≡ true → fresh_in b sh (at w) w ≡ true → clear (marked_in b sh (at w) w) ≡ clear b)
      → (b : List ℕ) (ws : List ℕ) → every has ws ≡ true → clear (book_by at b sh ws) ≡ clear b
  unfolding book_by
  clears_by clear has f b [] e = refl
  clears_by clear has f b (w ∷ ws) e = by (fresh_in b sh (at w) w) refl (clears_by clear has f (marked_in b sh (at w) w) ws (and_right (has w) _ e))
    where
      by : (t : Bool) → fresh_in b sh (at w) w ≡ t → clear (book_by at (marked_in b sh (at w) w) sh ws) ≡ clear (marked_in b sh (at w) w) → clear (book_by at b sh (w ∷ ws)) ≡ clear b
      by true o z = rw o (z ∙ f b w (and_left (has w) _ e) o)
      by false o z = rw o

  module _ (n c : ℕ) where
    abbrev pub in_whole : List ℕ → ℕ → Bool
    in_whole b w = whole n b sh c (at w)

    -- what an all-marked list shows of each word, in runs that are wholly the class's, and that the class's way comes to its end too
    pub record AllFresh (b : List ℕ) (ws : List ℕ) : Type 0 where
      pub counted : mark_count n b c sh ws ≡ length ws
      pub kinds : every (of_kind sh.kind) ws ≡ true
      pub out : every (out_at n b c sh) ws ≡ true
      pub start : every (λ w. eqb (start_of b w) (at w)) ws ≡ true

    pub all-fresh : (b : List ℕ) (ws : List ℕ) → every (in_whole b) ws ≡ true → count_by at b sh ws ≡ length ws → AllFresh b ws
    unfolding count_by mark_count
    all-fresh b [] h l = record { counted = refl; kinds = refl; out = refl; start = refl }
    all-fresh b (w ∷ ws) h l = by (fresh_in b sh (at w) w) refl (λ o. all-fresh (marked_in b sh (at w) w) ws)
      where
        by : (t : Bool) → fresh_in b sh (at w) w ≡ t
            → (fresh_in b sh (at w) w ≡ true → every (in_whole (marked_in b sh (at w) w)) ws ≡ true → count_by at (marked_in b sh (at w) w) sh ws ≡ length ws → AllFresh (marked_in b sh (at w) w) ws)
            → AllFresh b (w ∷ ws)
        by false o z = absurd (omega (arith, rw o at l))
        by true o z =
            let b' = marked_in b sh (at w) w in
            let g = fresh-put sh s (at w) b w o in
            let m = mark-bits b b' g in
            let k : count_by at (marked_in b sh (at w) w) sh ws ≡ length ws = omega (arith, rw o at l) in
            let r = z o (every-same (in_whole b') (in_whole b) ws (λ v. whole-kept (bits-own b b' m) n sh c (at v)) ∙ and_right (in_whole b w) _ h) k in
            let i = fresh-is_out sh s (at w) b w o in
            let x = run_out n c sh s (at w) b (and_left (in_whole b w) _ h) w i in
            let y = run-start n c sh s (at w) b (and_left (in_whole b w) _ h) w i in
            record {
              counted = rw (x, y, fresh-is_free sh s (at w) b w o) (ap suc r.counted);
              kinds = rw (fresh-kind sh s (at w) b w o) r.kinds;
              out = rw x (sym (every-same _ _ ws (out-kept n c sh s b b' g)) ∙ r.out);
              start = rw (eq-eqb (start_of b w) (at w) y) (sym (every-same _ _ ws (λ v. rw (start-kept b b' m v))) ∙ r.start);
            }

    -- ---- the numbers: none of 13 (a mark), 15, 10, 11 applies to a list that is all marked
    module _ (b : List ℕ) (ws : List ℕ) (r : AllFresh b ws) where
      pub not-repeated : leb (words n) (length b) ≡ true → repeats n b c sh ws ≡ false
      not-repeated hb = all-single n c sh s b sh.kind ws hb r.kinds r.counted

    module _ (m : ℕ) (all : sh.capacity ≤ 32 * m) where
      clean_of : (b : List ℕ) (w : ℕ) → no_marks b (at w) m ≡ true → eqb (start_of b w) (at w) ≡ true → out_at n b c sh w ≡ true → clean b sh w ≡ true
      clean_of b w e y o =
          let x : start_of b w ≡ at w = eqb-true (start_of b w) (at w) y in
          let l : index_of sh (at w) w / 32 < m = omega (arith, below_capacity sh (at w) w (rw x at (block_of-out n c sh s b w o))) in
          eq-eqb _ 0 (ap (λ p. get b (mark p (index_of sh p w / 32))) x ∙ clean_at b (at w) m (index_of sh (at w) w / 32) e l)

      all-clean : (b : List ℕ) (ws : List ℕ) → every (λ w. no_marks b (at w) m) ws ≡ true → every (λ w. eqb (start_of b w) (at w)) ws ≡ true → every (clean b sh) (outs n b c sh ws) ≡ true
      all-clean b [] e y = refl
      all-clean b (w ∷ ws) e y = by (out_at n b c sh w) refl (all-clean b ws (and_right (no_marks b (at w) m) _ e) (and_right (eqb (start_of b w) (at w)) _ y))
        where
          by : (t : Bool) → out_at n b c sh w ≡ t → every (clean b sh) (outs n b c sh ws) ≡ true → every (clean b sh) (outs n b c sh (w ∷ ws)) ≡ true
          by true o z = rw (o, clean_of b w (and_left (no_marks b (at w) m) _ e) (and_left (eqb (start_of b w) (at w)) _ y) o, z)
          by false o z = rw o z

      pub not-marked : (b : List ℕ) (ws : List ℕ) → every (λ w. no_marks b (at w) m) ws ≡ true → AllFresh b ws → unmarked n b c sh ws ≡ true
      unfolding unmarked
      not-marked b ws e r = all-clean b ws e r.start

-- ---- clearing by words
module _ (sh : Shape) (s : Sound sh) (q m : ℕ) (few : m ≤ 128) (all : sh.capacity ≤ 32 * m) where
  clear-one : (b : List ℕ) (w : ℕ) → fresh_in b sh q w ≡ true → clear_marks (marked_in b sh q w) q m ≡ clear_marks b q m
  unfolding marked_in
  clear-one b w o = clear-past b q m (index_of sh q w / 32) _ (fresh-word sh s q b w o m all) few

  pub clears_run : (b : List ℕ) (ws : List ℕ) → no_marks b q m ≡ true → clear_marks (fresh_book b sh q ws) q m ≡ b
  clears_run b ws e = clears_by sh s (λ w. q) (λ d. clear_marks d q m) (λ w. true) (λ d w t o. clear-one d w o) b ws (every_made (λ w. true) ws (λ k l. refl)) ∙ none-cleared b q m e
