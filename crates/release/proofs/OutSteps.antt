-- `find_out`: its ways out, and what a block that it found tells; the loops over it: `list_clean`, `mark_list`, `clear_list`, `list_out`.
use Rattle.facts.proofs.Prelude.{ℕ, ◌+◌, ◌/◌, ◌≤◌, ◌<◌, arith, add-one, Bool, true, false, cond, not, ◌&&◌, List, [], ◌∷◌, ◌≡◌, refl, sym, ap, ◌∙◌, eqb}
use Rattle.facts.proofs.Prelude.{length, get_or, drop, drop-cons, eq-eqb, ne_eqb, not-true, every, filter, and_right, drop_past}
use Rattle.std.specs.Prelude.{Option, Some, None, is_some}
use Rattle.classes.specs.declared.Shape.{Shape}
use Rattle.fields.specs.Field.{mark, out, get, put, Has}
use Rattle.fields.specs.Ranges.{max_pages}
use Rattle.pages.specs.Stack.{index_of, is_block}
use Rattle.calls.specs.Out.{start_of, out_in, in_run_of, out_at, mark_of, clean, unmarked}
use Rattle.release.specs.declared.Place.{Place}
use Rattle.release.specs.way.Pre.{ClassPre}
use Rattle.release.specs.way.Blocks.{block_at, run_at, out_as, find_out}
use Rattle.release.specs.way.Marks.{is_marked_in, marked_in, is_marked, marked, mark_count, mark_book, clear_book, clean_at}
use Rattle.release.specs.way.MarkPre.{MarkedBlock, MarkedList}
use Rattle.release.proofs.Bits.{out_in_lem, below_capacity}
use Rattle.release.proofs.BlockSteps.{none_found, found_at}
use Rattle.release.proofs.RunSteps.{run-there}
use Rattle.release.proofs.OutLaws.{index_of-out, start_of-out}

-- ---- the ways out
module _ (n : ℕ) (b : List ℕ) (c : ℕ) (sh : Shape) (w : ℕ) where
  pub find-no_run : None ≡ run_at n b sh c w → None ≡ find_out n b c sh w
  unfolding out_at
  find-no_run h = rw (none_found (in_run_of n b sh c w) (start_of b w) h)

  module _ (q : ℕ) (h : Some q ≡ run_at n b sh c w) where
    run_is : (in_run_of n b sh c w ≡ true) × (q ≡ start_of b w)
    run_is = found_at (in_run_of n b sh c w) (start_of b w) q h

    pub run-low : ClassPre n b c sh → q < max_pages
    run-low a = (run-there n b c sh w q h a.sound a.few a.long).below

    pub find-no_block : None ≡ block_at sh q w → None ≡ find_out n b c sh w
    unfolding out_at
    find-no_block y = rw (run_is.0, ← run_is.1, out_in_lem b sh q w, none_found (is_block sh q w) (index_of sh q w) y)

    module _ (i : ℕ) (y : Some i ≡ block_at sh q w) where
      block-is : (is_block sh q w ≡ true) × (i ≡ index_of sh q w)
      block-is = found_at (is_block sh q w) (index_of sh q w) i y

      pub find-bit : ClassPre n b c sh → Has b (out q i)
      find-bit a =
          let l = (run-there n b c sh w q h a.sound a.few a.long).there in
          omega (arith, l, below_capacity sh q w block-is.0, block-is.1, a.sound.few)

      module _ (x : ℕ) (z : x ≡ get b (out q i)) where
        pub find-not_out : (x ≡ 1 → ⊥) → None ≡ find_out n b c sh w
        unfolding out_at
        find-not_out d = rw (run_is.0, ← run_is.1, out_in_lem b sh q w, block-is.0, ← block-is.1, ← z, ne_eqb x 1 d)

        pub find-is_out : x ≡ 1 → Some (record { run = q; index = i }) ≡ find_out n b c sh w
        unfolding out_at
        find-is_out d = rw (run_is.0, ← run_is.1, out_in_lem b sh q w, block-is.0, ← block-is.1, ← z, eq-eqb x 1 d)

-- ---- what it tells
pub record OutHere (n : ℕ) (b : List ℕ) (c : ℕ) (sh : Shape) (w : ℕ) (p : Place) : Type 0 where
  pub out : out_at n b c sh w ≡ true
  pub start : p.run ≡ start_of b w
  pub index : p.index ≡ index_of sh (start_of b w) w

out_none : (t : Bool) (q i : ℕ) → None ≡ out_as t q i → t ≡ false
out_none true q i e = let z : ◌≡◌ {A = ℕ} 0 1 = cc in absurd (omega arith)
out_none false q i e = refl

module _ (n : ℕ) (b : List ℕ) (c : ℕ) (sh : Shape) (w : ℕ) where
  pub not-out : None ≡ find_out n b c sh w → out_at n b c sh w ≡ false
  not-out h = out_none (out_at n b c sh w) (start_of b w) (index_of sh (start_of b w) w) h

  module _ (p : Place) (h : Some p ≡ find_out n b c sh w) where
    pub is-out : OutHere n b c sh w p
    is-out = by (out_at n b c sh w) refl h
      where
        by : (t : Bool) → out_at n b c sh w ≡ t → Some p ≡ out_as t (start_of b w) (index_of sh (start_of b w) w) → OutHere n b c sh w p
        by true o z =
            let y : p ≡ record { run = start_of b w; index = index_of sh (start_of b w) w } = cc in
            record { out = o; start = ap (λ x. x.run) y; index = ap (λ x. x.index) y }
        by false o z = let z : ◌≡◌ {A = ℕ} 0 1 = cc in absurd (omega arith)

    pub mark-has : ClassPre n b c sh → Has b (mark p.run (p.index / 32))
    mark-has a = omega (arith, is-out.start, is-out.index, index_of-out n c sh a.sound b w is-out.out, start_of-out n c sh a.sound b w is-out.out, a.long)

    pub mark_has_now : (b₀ : List ℕ) → ClassPre n b₀ c sh → length b ≡ length b₀ → Has b (mark p.run (p.index / 32))
    mark_has_now b₀ a k = mark-has (record { known = a.known; sound = a.sound; few = a.few; long = omega (arith, a.long) })

    out-bit : eqb (get b (out p.run p.index)) 1 ≡ true
    unfolding out_at
    out-bit =
        rw (is-out.index, is-out.start)
        (and_right (is_block sh (start_of b w) w) _ (sym (out_in_lem b sh (start_of b w) w) ∙ and_right (in_run_of n b sh c w) (out_in b sh (start_of b w) w) is-out.out))

-- ---- number 13
pub clean_all : (n : ℕ) (b : List ℕ) (c : ℕ) (sh : Shape) (ws : List ℕ) → unmarked n b c sh ws ≡ every (clean_at n b c sh) ws
unfolding clean_at unmarked
clean_all n b c sh [] = refl
clean_all n b c sh (w ∷ ws) = by (out_at n b c sh w) refl (clean_all n b c sh ws)
  where
    by : (t : Bool) → out_at n b c sh w ≡ t → every (clean b sh) (filter (out_at n b c sh) ws) ≡ every (clean_at n b c sh) ws
        → every (clean b sh) (filter (out_at n b c sh) (w ∷ ws)) ≡ every (clean_at n b c sh) (w ∷ ws)
    by true o z = rw o (ap (λ t. clean b sh w && t) z)
    by false o z = rw o z

module _ (n : ℕ) (b : List ℕ) (c : ℕ) (sh : Shape) (w : ℕ) where
  pub clean-over : None ≡ find_out n b c sh w → true ≡ clean_at n b c sh w
  unfolding clean_at
  clean-over h = rw (not-out n b c sh w h)

  pub clean-told : (p : Place) → Some p ≡ find_out n b c sh w → (m : ℕ) → m ≡ get b (mark p.run (p.index / 32)) → eqb m 0 ≡ clean_at n b c sh w
  unfolding clean_at
  clean-told p h m g = let z = is-out n b c sh w p h in rw (z.out, ← z.index, ← z.start, ← g)

-- ---- number 15
pub record PassInv (n : ℕ) (b : List ℕ) (c : ℕ) (sh : Shape) (ws : List ℕ) (b' : List ℕ) (i : ℕ) : Type 0 where
  pub within : i ≤ length ws
  pub long : length b' ≡ length b
  pub answer : i + mark_count n b' c sh (drop i ws) ≡ mark_count n b c sh ws
  pub left : mark_book n b' c sh (drop i ws) ≡ mark_book n b c sh ws

module _ (n : ℕ) (b : List ℕ) (c : ℕ) (sh : Shape) (ws : List ℕ) where
  pub pass-starts : PassInv n b c sh ws b 0
  pass-starts = record { within = omega arith; long = refl; answer = omega arith; left = refl }

  pub pass-ends : (b' : List ℕ) (i : ℕ) → PassInv n b c sh ws b' i → length ws ≤ i → MarkedList (length ws) b' n b c sh ws
  unfolding mark_count mark_book
  pass-ends b' i v l =
      let d : drop i ws ≡ [] = drop_past ws i l in
      record { answer = omega (arith, rw d at v.answer, v.within); left = rw d at v.left }

  module _ (b' : List ℕ) (i : ℕ) (v : PassInv n b c sh ws b' i) (l : i < length ws) where
    cons : drop i ws ≡ get_or ws i 0 ∷ drop (i + 1) ws
    cons = rw add-one (drop-cons ws i 0 l)

    pub pass-over : None ≡ find_out n b' c sh (get_or ws i 0) → PassInv n b c sh ws b' (i + 1)
    unfolding mark_count mark_book
    pass-over h =
        let z = not-out n b' c sh (get_or ws i 0) h in
        record { within = omega arith; long = v.long; answer = omega (arith, rw (cons, z) at v.answer); left = rw (cons, z) at v.left }

    module _ (p : Place) (h : Some p ≡ find_out n b' c sh (get_or ws i 0)) (r : Bool) (b'' : List ℕ) (m : MarkedBlock r b'' b' p.run p.index) where
      here : OutHere n b' c sh (get_or ws i 0) p
      here = is-out n b' c sh (get_or ws i 0) p h

      told : not (is_marked b' sh (get_or ws i 0)) ≡ r
      unfolding is_marked_in
      told = rw (← here.index, ← here.start) (sym (m.answer ∙ rw (out-bit n b' c sh (get_or ws i 0) p h)))

      now-marked : r ≡ true → b'' ≡ marked b' sh (get_or ws i 0)
      unfolding marked_in
      now-marked t = rw (← here.index, ← here.start) (rw (← m.answer, t) at m.left)

      pub pass-goes_on : r ≡ true → length b'' ≡ length b' → PassInv n b c sh ws b'' (i + 1)
      unfolding mark_count mark_book
      pass-goes_on t j =
          let x : is_marked b' sh (get_or ws i 0) ≡ false = not-true (is_marked b' sh (get_or ws i 0)) (told ∙ t) in
          let y : b'' ≡ marked b' sh (get_or ws i 0) = now-marked t in
          record { within = omega arith; long = j ∙ v.long; answer = omega (arith, rw (cons, here.out, x, ← y) at v.answer); left = rw (cons, here.out, x, ← y) at v.left }

      pub pass-stops : r ≡ false → MarkedList i b'' n b c sh ws
      unfolding mark_count mark_book
      pass-stops t =
          let x : is_marked b' sh (get_or ws i 0) ≡ true = set (is_marked b' sh (get_or ws i 0)) (told ∙ t) in
          let y : b'' ≡ b' = rw (← m.answer, t) at m.left in
          record { answer = omega (arith, rw (cons, here.out, x) at v.answer); left = y ∙ rw (cons, here.out, x) at v.left }
        where
          set : (u : Bool) → not u ≡ false → u ≡ true
          set true z = refl
          set false z = sym z

-- ---- and back
pub record ClearListInv (n : ℕ) (b : List ℕ) (c : ℕ) (sh : Shape) (ws : List ℕ) (b' : List ℕ) (i : ℕ) : Type 0 where
  pub within : i ≤ length ws
  pub long : length b' ≡ length b
  pub left : clear_book n b' c sh (drop i ws) ≡ clear_book n b c sh ws

module _ (n : ℕ) (b : List ℕ) (c : ℕ) (sh : Shape) (ws : List ℕ) where
  pub clears_start : ClearListInv n b c sh ws b 0
  clears_start = record { within = omega arith; long = refl; left = refl }

  pub clears_end : (b' : List ℕ) (i : ℕ) → ClearListInv n b c sh ws b' i → length ws ≤ i → b' ≡ clear_book n b c sh ws
  unfolding clear_book
  clears_end b' i v l = rw (drop_past ws i l) at v.left

  module _ (b' : List ℕ) (i : ℕ) (v : ClearListInv n b c sh ws b' i) (l : i < length ws) where
    next : drop i ws ≡ get_or ws i 0 ∷ drop (i + 1) ws
    next = rw (add-one i) (drop-cons ws i 0 l)

    turn : (w : ℕ) (vs : List ℕ) → clear_book n b' c sh (w ∷ vs) ≡ clear_book n (cond (out_at n b' c sh w) (put b' (mark_of b' sh w) 0) b') c sh vs
    unfolding clear_book
    turn w vs = refl

    go_on : (b'' : List ℕ) → b'' ≡ cond (out_at n b' c sh (get_or ws i 0)) (put b' (mark_of b' sh (get_or ws i 0)) 0) b' → length b'' ≡ length b' → ClearListInv n b c sh ws b'' (i + 1)
    go_on b'' x j = record {
      within = omega arith;
      long = j ∙ v.long;
      left = ap (λ d. clear_book n d c sh (drop (i + 1) ws)) x ∙ sym (turn (get_or ws i 0) (drop (i + 1) ws)) ∙ sym (ap (clear_book n b' c sh) next) ∙ v.left;
    }

    pub clears_over : None ≡ find_out n b' c sh (get_or ws i 0) → ClearListInv n b c sh ws b' (i + 1)
    clears_over y = go_on b' (rw (not-out n b' c sh (get_or ws i 0) y)) refl

    pub clears_one : (p : Place) → Some p ≡ find_out n b' c sh (get_or ws i 0) → (b'' : List ℕ) → b'' ≡ put b' (mark p.run (p.index / 32)) 0 → length b'' ≡ length b' → ClearListInv n b c sh ws b'' (i + 1)
    clears_one p y b'' x j = let z = is-out n b' c sh (get_or ws i 0) p y in go_on b'' (rw (z.out, ← z.index, ← z.start) x) j

-- ---- number 10
module _ (n : ℕ) (b : List ℕ) (c : ℕ) (sh : Shape) (w : ℕ) (f : Option Place) (e : f ≡ find_out n b c sh w) where
  pub out-told : is_some f ≡ out_at n b c sh w
  out-told = by (out_at n b c sh w) e
    where
      by : (t : Bool) → f ≡ out_as t (start_of b w) (index_of sh (start_of b w) w) → is_some f ≡ t
      by true z = rw z
      by false z = rw z
