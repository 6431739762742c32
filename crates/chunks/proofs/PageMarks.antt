-- The blocks of a group release marked on their pages. Of a class whose runs are one page.
--     own-count, own-book    neighbours on one page marked together, then the rest
--     takes-own              all marked: the marks of the chunks' pages taken away by words clear just the listed blocks' out bits
--     clears-own             the marks of the chunks' pages cleared: the book at entry
use Rattle.facts.proofs.Prelude.{ℕ, suc, ◌+◌, ◌*◌, ◌/◌, ◌≤◌, ◌<◌, arith, Bool, true, false, not, ◌&&◌, false≢true, List, [], ◌∷◌, map, ◌≢◌, ◌≡◌, refl, ap, ◌∙◌, eqb}
use Rattle.facts.proofs.Prelude.{length, drop, eqb-true, eqb-false, ltb-true, not-true, every, elem, distinct, by_cases, and_left, and_right, nor_left, nor_right}
use Rattle.words.specs.Word.{page_of}
use Rattle.classes.specs.declared.Shape.{Shape}
use Rattle.classes.specs.way.Sound.{Sound}
use Rattle.fields.specs.Field.{mark, out, get, put, words}
use Rattle.fields.specs.Clear.{clear_marks}
use Rattle.fields.proofs.Laws.{length-put}
use Rattle.model.specs.Release.{of_kind}
use Rattle.pages.specs.Runs.{whole}
use Rattle.pages.specs.Stack.{index_of, is_block, page_at}
use Rattle.release.specs.way.Marks.{mark_at, set_mark, fresh_at, marked_in, fresh_in, fresh_count, fresh_book, no_marks, take_marks, count_by, book_by}
use Rattle.release.proofs.RunLaws.{not-before, not_behind}
use Rattle.release.proofs.TakeMarks.{lengths, takes-marked, out-past, mark-past, out-still, mark-still}
use Rattle.release.proofs.RunMarks.{none-taken, none-cleared, clear-past, clear-away, fresh-low, fresh-word, fresh-out, fresh-mark, clears_by, in_whole}
use Rattle.chunks.specs.way.Match.{has_page, in_arena}
use Rattle.chunks.specs.way.Pass.{cleared}
use Rattle.chunks.specs.way.Marks.{page_clean, own_count, own_book, take_pages, clear_pages}

module _ (sh : Shape) (s : Sound sh) (one : sh.pages ≡ 1) where
  -- ---- neighbours on page q
  fresh-page : (b : List ℕ) (q w : ℕ) → fresh_in b sh q w ≡ true → page_at w ≡ q
  unfolding fresh_in
  fresh-page b q w o =
      let e = and_left (is_block sh q w) (fresh_at b q (index_of sh q w)) (and_right (of_kind sh.kind w) _ o) in
      omega (arith, not-before 0 0 sh s q w e, not_behind 0 0 sh s q w e)

  module _ (q : ℕ) where
    pub own-count : (b vs : List ℕ) → own_count b sh vs ≡ fresh_count b sh q vs + own_count (fresh_book b sh q vs) sh (drop (fresh_count b sh q vs) vs)
    unfolding count_by book_by
    own-count b [] = refl
    own-count b (v ∷ vs) = by (fresh_in b sh q v) refl (own-count (marked_in b sh q v) vs)
      where
        by : (t : Bool) → fresh_in b sh q v ≡ t
            → own_count (marked_in b sh q v) sh vs ≡ fresh_count (marked_in b sh q v) sh q vs + own_count (fresh_book (marked_in b sh q v) sh q vs) sh (drop (fresh_count (marked_in b sh q v) sh q vs) vs)
            → own_count b sh (v ∷ vs) ≡ fresh_count b sh q (v ∷ vs) + own_count (fresh_book b sh q (v ∷ vs)) sh (drop (fresh_count b sh q (v ∷ vs)) (v ∷ vs))
        by true o z = rw (fresh-page b q v o, o) (omega (arith, z))
        by false o z = rw o (omega arith)

    pub own-book : (b vs : List ℕ) → own_book b sh vs ≡ own_book (fresh_book b sh q vs) sh (drop (fresh_count b sh q vs) vs)
    unfolding book_by count_by
    own-book b [] = refl
    own-book b (v ∷ vs) = by (fresh_in b sh q v) refl (own-book (marked_in b sh q v) vs)
      where
        by : (t : Bool) → fresh_in b sh q v ≡ t
            → own_book (marked_in b sh q v) sh vs ≡ own_book (fresh_book (marked_in b sh q v) sh q vs) sh (drop (fresh_count (marked_in b sh q v) sh q vs) vs)
            → own_book b sh (v ∷ vs) ≡ own_book (fresh_book b sh q (v ∷ vs)) sh (drop (fresh_count b sh q (v ∷ vs)) (v ∷ vs))
        by true o z = rw (fresh-page b q v o, o) z
        by false o z = rw o

    pub fresh-within : (b vs : List ℕ) → fresh_count b sh q vs ≤ length vs
    unfolding count_by
    fresh-within b [] = omega arith
    fresh-within b (v ∷ vs) = by (fresh_in b sh q v) refl (fresh-within (marked_in b sh q v) vs)
      where
        by : (t : Bool) → fresh_in b sh q v ≡ t → fresh_count (marked_in b sh q v) sh q vs ≤ length vs → fresh_count b sh q (v ∷ vs) ≤ suc (length vs)
        by true o z = rw o (omega arith)
        by false o z = rw o (omega arith)

    -- the first word is not marked: none is
    module _ (b : List ℕ) (v : ℕ) (vs : List ℕ) (e : page_at v ≡ q) (z : fresh_count b sh q (v ∷ vs) ≡ 0) where
      not-fresh : fresh_in b sh q v ≡ false
      unfolding count_by
      not-fresh = by_cases (fresh_in b sh q v) (λ o. absurd (omega (arith, rw o at z))) (λ o. o)

      pub none-counted : own_count b sh (v ∷ vs) ≡ 0
      unfolding count_by
      none-counted = rw (e, not-fresh)

      pub none_left : own_book b sh (v ∷ vs) ≡ b
      unfolding book_by
      none_left = rw (e, not-fresh)

      pub none-marked : fresh_book b sh q (v ∷ vs) ≡ b
      unfolding book_by
      none-marked = rw not-fresh

  module _ (m : ℕ) (few : m ≤ 128) (all : sh.capacity ≤ 32 * m) where
    module _ (n c : ℕ) where
      -- ---- the pages that are ready: those of the words
      ready_at : (b : List ℕ) (q : ℕ) (gs : List ℕ) → every (page_clean n b c sh m) gs ≡ true → elem q (map page_of gs) ≡ true → (whole n b sh c q && no_marks b q m) ≡ true
      unfolding page_clean
      ready_at b q [] e h = absurd (false≢true h)
      ready_at b q (g ∷ gs) e h =
          let t : ℕ → Bool = λ g. whole n b sh c (page_of g) && no_marks b (page_of g) m in
          by_cases (eqb q (page_of g))
          (λ d. rw (eqb-true q (page_of g) d) (and_left (t g) (every t gs) e))
          (λ d. ready_at b q gs (and_right (t g) (every t gs) e) (rw d at h))

      pub ready_words : (b gs ws : List ℕ) → every (page_clean n b c sh m) gs ≡ true → every (has_page gs) ws ≡ true → (every (in_whole sh s page_at n c b) ws ≡ true) × (every (λ w. no_marks b (page_at w) m) ws ≡ true)
      ready_words b gs [] e h = (refl, refl)
      ready_words b gs (w ∷ ws) e h =
          let z = ready_at b (page_at w) gs e (and_left (has_page gs w) _ h) in
          let y = ready_words b gs ws e (and_right (has_page gs w) _ h) in
          (rw (and_left (in_whole sh s page_at n c b w) _ z) y.0, rw (and_right (in_whole sh s page_at n c b w) _ z) y.1)

    -- ---- a mark among the chunks' pages
    apart : (q : ℕ) (g : ℕ) → eqb q (page_of g) ≡ false → q ≢ page_of g
    apart q g d = eqb-false q (page_of g) d

    takes-away : (q i : ℕ) → i < 4096 → (gs : List ℕ) → elem q (map page_of gs) ≡ false → (b : List ℕ) → take_pages (put b (out q i) 0) m gs ≡ put (take_pages b m gs) (out q i) 0
    takes-away q i h [] e b = refl
    takes-away q i h (g ∷ gs) e b =
        ap (λ d. take_pages d m gs) (out-past (page_of g) q (apart q g (nor_left (eqb q (page_of g)) _ e)) m few b i h)
        ∙ takes-away q i h gs (nor_right (eqb q (page_of g)) _ e) (take_marks b (page_of g) m)

    takes_one : (q i : ℕ) → i < 4096 → i / 32 < m → (gs : List ℕ) → elem q (map page_of gs) ≡ true → distinct (map page_of gs) ≡ true
        → (b : List ℕ) → words (q + 1) ≤ length b → get b (out q i) ≡ 1 → mark_at b q i ≡ 0 → take_pages (set_mark b q i) m gs ≡ put (take_pages b m gs) (out q i) 0
    takes_one q i h k [] e u b l x y = absurd (false≢true e)
    takes_one q i h k (g ∷ gs) e u b l x y =
        let p = page_of g in
        by_cases (eqb q (page_of g))
        (λ d.
        let z = eqb-true q (page_of g) d in
        let v : elem q (map page_of gs) ≡ false = rw z (not-true (elem (page_of g) (map page_of gs)) (and_left (not (elem (page_of g) (map page_of gs))) _ u)) in
        rw (← z) (ap (λ d. take_pages d m gs) (takes-marked q m b i h few k (omega arith) x y) ∙ takes-away q i h gs v (take_marks b q m)))
        (λ d.
        let v = apart q g d in
        ap (λ d. take_pages d m gs) (mark-past p q v m few b i h)
        ∙ takes_one q i h k gs (rw d at e) (and_right (not (elem (page_of g) (map page_of gs))) _ u) (take_marks b p m) (rw (lengths p m b) l) (out-still p q v m few b i h ∙ x) (mark-still p q v m few b i h ∙ y))

    clears_one : (q j v : ℕ) → j < m → (gs : List ℕ) → elem q (map page_of gs) ≡ true → (b : List ℕ) → clear_pages (put b (mark q j) v) m gs ≡ clear_pages b m gs
    clears_one q j v h [] e b = absurd (false≢true e)
    clears_one q j v h (g ∷ gs) e b =
        by_cases (eqb q (page_of g))
        (λ d. let z = eqb-true q (page_of g) d in rw (← z) (ap (λ d. clear_pages d m gs) (clear-past b q m j v h few)))
        (λ d.
        ap (λ d. clear_pages d m gs) (clear-away b (page_of g) m q j v (apart q g d) few (omega arith))
        ∙ clears_one q j v h gs (rw d at e) (clear_marks b (page_of g) m))

    -- ---- pages without a mark
    module _ (n c : ℕ) where
      take_none : (b gs : List ℕ) → every (page_clean n b c sh m) gs ≡ true → take_pages b m gs ≡ b
      unfolding page_clean
      take_none b [] e = refl
      take_none b (g ∷ gs) e =
          let t : ℕ → Bool = λ g. whole n b sh c (page_of g) && no_marks b (page_of g) m in
          ap (λ d. take_pages d m gs) (none-taken b (page_of g) m (and_right (whole n b sh c (page_of g)) _ (and_left (t g) (every t gs) e))) ∙ take_none b gs (and_right (t g) (every t gs) e)

      clear_none : (b gs : List ℕ) → every (page_clean n b c sh m) gs ≡ true → clear_pages b m gs ≡ b
      unfolding page_clean
      clear_none b [] e = refl
      clear_none b (g ∷ gs) e =
          let t : ℕ → Bool = λ g. whole n b sh c (page_of g) && no_marks b (page_of g) m in
          ap (λ d. clear_pages d m gs) (none-cleared b (page_of g) m (and_right (whole n b sh c (page_of g)) _ (and_left (t g) (every t gs) e))) ∙ clear_none b gs (and_right (t g) (every t gs) e)

      -- ---- the whole list
      marked-long : (b : List ℕ) (q w : ℕ) → length (marked_in b sh q w) ≡ length b
      unfolding marked_in
      marked-long b q w = length-put b (mark q (index_of sh q w / 32)) _

      take-fresh : (gs : List ℕ) → distinct (map page_of gs) ≡ true → (b : List ℕ) (w : ℕ) → words n ≤ length b → in_arena n w ≡ true → has_page gs w ≡ true → fresh_in b sh (page_at w) w ≡ true
          → take_pages (marked_in b sh (page_at w) w) m gs ≡ put (take_pages b m gs) (out (page_at w) (index_of sh (page_at w) w)) 0
      unfolding marked_in in_arena
      take-fresh gs u b w l i e o =
          let q = page_at w in
          takes_one q (index_of sh q w) (fresh-low sh s q b w o) (fresh-word sh s q b w o m all) gs e u b (omega (arith, ltb-true (page_at w) n i)) (fresh-out sh s q b w o) (fresh-mark sh s q b w o)

      takes-fresh : (gs : List ℕ) → distinct (map page_of gs) ≡ true → (b ws : List ℕ) → words n ≤ length b → every (in_arena n) ws ≡ true → every (has_page gs) ws ≡ true → own_count b sh ws ≡ length ws
          → take_pages (own_book b sh ws) m gs ≡ cleared (take_pages b m gs) sh ws
      unfolding count_by book_by cleared
      takes-fresh gs u b [] l i e k = refl
      takes-fresh gs u b (w ∷ ws) l i e k =
          by (fresh_in b sh (page_at w) w) refl (takes-fresh gs u (marked_in b sh (page_at w) w) ws (rw (marked-long b (page_at w) w) l) (and_right (in_arena n w) _ i) (and_right (has_page gs w) _ e))
        where
          by : (t : Bool) → fresh_in b sh (page_at w) w ≡ t
              → (own_count (marked_in b sh (page_at w) w) sh ws ≡ length ws → take_pages (own_book (marked_in b sh (page_at w) w) sh ws) m gs ≡ cleared (take_pages (marked_in b sh (page_at w) w) m gs) sh ws)
              → take_pages (own_book b sh (w ∷ ws)) m gs ≡ cleared (take_pages b m gs) sh (w ∷ ws)
          by true o z = rw o (z (omega (arith, rw o at k)) ∙ ap (λ d. cleared d sh ws) (take-fresh gs u b w l (and_left (in_arena n w) _ i) (and_left (has_page gs w) _ e) o))
          by false o z = absurd (omega (arith, rw o at k))

      clear-fresh : (gs b : List ℕ) (w : ℕ) → has_page gs w ≡ true → fresh_in b sh (page_at w) w ≡ true → clear_pages (marked_in b sh (page_at w) w) m gs ≡ clear_pages b m gs
      unfolding marked_in
      clear-fresh gs b w e o = clears_one (page_at w) (index_of sh (page_at w) w / 32) _ (fresh-word sh s (page_at w) b w o m all) gs e b

      module _ (b gs ws : List ℕ) (r : every (page_clean n b c sh m) gs ≡ true) (e : every (has_page gs) ws ≡ true) where
        pub clears_own : clear_pages (own_book b sh ws) m gs ≡ b
        clears_own = clears_by sh s page_at (λ d. clear_pages d m gs) (has_page gs) (λ d w h o. clear-fresh gs d w h o) b ws e ∙ clear_none b gs r

        pub takes-own : distinct (map page_of gs) ≡ true → words n ≤ length b → every (in_arena n) ws ≡ true → own_count b sh ws ≡ length ws → take_pages (own_book b sh ws) m gs ≡ cleared b sh ws
        takes-own u l i k = takes-fresh gs u b ws l i e k ∙ ap (λ d. cleared d sh ws) (take_none b gs r)
