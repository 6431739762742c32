-- A page whose blocks come back: the words do what the model's `returned` says, and "none is out" compares two counts.
--     back-holds       the words of the run afterwards
--     none_is          no block is out exactly if FREE is CARVED; none-idle: then no out bit is set
--     return-rep       the page afterwards is the model's
--     emptied-rep      a page with none out, its blocks forgotten
use Rattle.facts.proofs.Prelude.{ℕ, suc, ◌+◌, ◌≤◌, arith, Bool, true, false, cond, not, true≢false, List, [], ◌∷◌, ◌++◌, map, ◌≡◌, refl, sym, ap, ◌∙◌, eqb, ltb, leb, length}
use Rattle.facts.proofs.Prelude.{length-append, lt-ltb, eq-eqb, eqb-true, eqb-false, leb-true, leb-false, not-true, every, elem, count, by_cases, and_left, and_right}
use Rattle.classes.specs.declared.Shape.{Shape}
use Rattle.fields.specs.Field.{Field, page, mark, slot, out, owner, free, carved, listed, virgin, region, get, put}
use Rattle.fields.specs.Ranges.{max_pages}
use Rattle.fields.proofs.Laws.{get_put_same, get-put_other, length-put}
use Rattle.fields.proofs.Changes.{Changes, changes-none, changes-put, changes_trans}
use Rattle.model.specs.Page.{Page, word_of, words_from, is_out, carved_words, none_out, returned}
use Rattle.model.proofs.Counts.{count-append, elem-count, every-count}
use Rattle.model.proofs.Pages.{GoodPage}
use Rattle.model.proofs.Used.{none_out-count}
use Rattle.words.specs.Host.{digit}
use Rattle.pages.specs.Stack.{out_bit, set_outs, push, pushed, back, index_of}
use Rattle.pages.proofs.Descending.{every-below}
use Rattle.pages.proofs.SetOuts.{set_outs-changes, set_outs-at}
use Rattle.pages.proofs.Frames.{back-free}
use Rattle.pages.proofs.Pushes.{length_push, push-changes, push_kept}
use Rattle.calls.specs.Release.{emptied}
use Rattle.refinement.specs.way.Represents.{Holds, PageRep}
use Rattle.refinement.proofs.ArenaStore.{long_kept}
use Rattle.refinement.proofs.Basics.{Setting, setting_kept, digit-le, digit_false, digit_cases}
use Rattle.pages.proofs.Runs.{whole_in, whole-owner}
use Rattle.pages.proofs.Kept.{whole-kept}
use Rattle.refinement.proofs.Frames.{is_data, of_class, Only, data_owns, out_bit-kept, slots_kept}
use Rattle.refinement.proofs.Blocks.{map-append, length-map, fits, in_row, few-counts, every-counts}
use Rattle.refinement.proofs.Pushes.{push-slots, slots-under}
use Rattle.refinement.proofs.Draw.{free-length}
use Rattle.refinement.proofs.Decode.{word_inj, count-words, words-elem, index_is, Sits, out_sits, sits_out, page-low}

-- ---- the words
module _ {n : ℕ} {b : List ℕ} {c : ℕ} {sh : Shape} (s : Setting n b c sh) {l q : ℕ} {xs : List ℕ} {k : ℕ} {v : Bool} (h : Holds n sh b c l q xs k v)
    (is : List ℕ) (outs : (j : ℕ) → count j is ≤ out_bit b sh q j) where
  back-fit : every (fits sh) is ≡ true
  back-fit = every-counts sh.capacity is (λ j z. omega (arith, outs j, h.outs j, digit_false j k (omega (arith, h.within))))

  -- FREE and the blocks that come back are at most CARVED
  pub back-length : length (is ++ xs) ≤ k
  back-length = few-counts (is ++ xs) k (λ j. omega (arith, count-append j is xs, outs j, h.outs j))

  room : get b (page free q) + length is ≤ 4096
  room = omega (arith, back-length, length-append is xs, h.height, h.within, s.shape.few)

  cleared : List ℕ
  cleared = set_outs b q 0 is

  cleared-changes : (t : Field → Bool) → ((i : ℕ) → t (out q i) ≡ true) → Changes t b cleared
  unfolding cleared
  cleared-changes t o = set_outs-changes b q 0 t o is (every-below sh.capacity 4096 s.shape.few is back-fit)

  s₁ : Setting n cleared c sh
  s₁ = setting_kept cleared (cleared-changes (λ g. true) (λ i. refl)).long s

  back_is : back b q is ≡ put (put (push cleared q (get b (page free q)) is) (page virgin q) 0) (page free q) (get b (page free q) + length is)
  unfolding back pushed cleared
  back_is = rw (back-free b q is (every-below sh.capacity 4096 s.shape.few is back-fit))

  back-changes : (t : Field → Bool) → t (page free q) ≡ true → t (page virgin q) ≡ true → ((i : ℕ) → t (slot q i) ≡ true) → ((i : ℕ) → t (out q i) ≡ true)
      → Changes t b (back b q is)
  back-changes t f v e o =
      rw back_is (changes-put t b _ (page free q) _ refl f
      (changes-put t b _ (page virgin q) _ refl v
      (changes_trans t b cleared _ (cleared-changes t o) (push-changes cleared q (get b (page free q)) t e is room))))

  pub back_data : Changes (is_data q) b (back b q is)
  back_data = let e = eq-eqb q q refl in back-changes (is_data q) e e (λ i. e) (λ i. e)

  pub back-only : Only c b (back b q is)
  back-only =
      let o : eqb (get b (page owner q)) (suc c) ≡ true = eq-eqb _ _ (whole-owner n b s.shape c q h.run) in
      back-changes (of_class b c) o o (λ i. o) (λ i. o)

  hq : ltb q n ≡ true
  hq = whole_in n b s.shape c q h.run

  back-out : (j : ℕ) → ◌≡◌ {A = ℕ} (out_bit (back b q is) sh q j) (cond (eqb (count j is) 0) (out_bit b sh q j) 0)
  unfolding cleared
  back-out j =
      out_bit-kept cleared (back b q is) sh q j (λ e. let o = in_row s j e in rw back_is (simp get-put_other (push_kept cleared q (get b (page free q)) is room (out q j) o refl)))
      ∙ set_outs-at n b s.long q hq 0 refl sh s.shape.few is back-fit j

  back-outs : (j : ℕ) → out_bit (back b q is) sh q j + count j (is ++ xs) ≡ digit (ltb j k)
  back-outs j =
      let o = h.outs j in
      let u = outs j in
      let f = digit-le (ltb j k) in
      by_cases (eqb (count j is) 0)
      (λ e. let z = eqb-true (count j is) 0 e in rw (back-out j, e, count-append) (omega arith))
      (λ e. let z = eqb-false (count j is) 0 e in rw (back-out j, e, count-append) (omega (arith, z)))

  pub back-holds : Holds n sh (back b q is) c l q (is ++ xs) k false
  back-holds =
      let ch = back_data in
      let here = hq in
      let t₀ = get b (page free q) in
      let b₂ = push cleared q (get b (page free q)) is in
      let hb₂ = long_kept n cleared b₂ (length_push cleared q t₀ is) s₁.long in
      let low = slots_kept b cleared q xs (λ i e. (cleared-changes (λ g. eqb (region g) 5) (λ i. refl)).kept (slot q i) e refl) h.slots in
      record {
        run = whole-kept (data_owns q ch) n sh c q ∙ h.run;
        listing = ch.kept (page listed q) refl refl ∙ h.listing;
        height = rw back_is (simp (get_put_same n, length-put, hb₂) (rw (h.height, length-append) (omega arith)));
        slots = slots-under b₂ _ q (is ++ xs) (λ j w o. rw back_is (simp get-put_other)) (push-slots s₁ q hq xs is t₀ (sym h.height) room back-fit low);
        ready = rw back_is (simp get-put_other (push_kept cleared q t₀ is room (page carved q) refl refl
            ∙ (cleared-changes (λ g. eqb (region g) 5) (λ i. refl)).kept (page carved q) refl refl ∙ h.ready));
        clean = rw back_is (simp (get-put_other, get_put_same n, hb₂));
        within = h.within;
        outs = back-outs;
        unmarked = λ j u. ch.kept (mark q j) (lt-ltb j 128 (omega (arith, s.shape.few))) refl ∙ h.unmarked j u;
      }

-- ---- the page
module _ {n : ℕ} {b : List ℕ} {c : ℕ} {sh : Shape} (s : Setting n b c sh) (hn : n ≤ max_pages) {l : ℕ} {p : Page} (r : PageRep n sh b c l p) where
  named : (w : ℕ) (xs : List ℕ) → 1 ≤ count w (map (word_of sh p.first) xs) → (i : ℕ) × (w ≡ word_of sh p.first i)
  named w [] h = absurd (omega arith)
  named w (x ∷ xs) h =
      by_cases (eqb w (word_of sh p.first x)) (λ e. (x, eqb-true w (word_of sh p.first x) e))
      (λ e. named w xs (let z : 1 ≤ 0 + count w (map (word_of sh p.first) xs) = rw e at h in omega arith))

  -- the model's invariant of a page, from the words
  rep-good : GoodPage sh p
  unfolding carved_words
  rep-good = record { within = r.holds.within; linked = λ w. one w (ap (count w) r.names) }
    where
      one : (w : ℕ) → count w p.free ≡ count w (map (word_of sh p.first) r.stack) → count w p.free ≤ count w (words_from sh p.first 0 p.carved)
      one w e =
          by_cases (leb 1 (count w p.free))
          (λ u. let z = leb-true 1 (count w p.free) u in
          let t = named w r.stack (omega arith) in
          let i = t.0 in
          let e₁ : count w (map (word_of sh p.first) r.stack) ≡ count t.0 r.stack
          = ap (λ z. count z (map (word_of sh p.first) r.stack)) t.1 ∙ count-words s.shape p.first t.0 r.stack in
          digit_cases t.0 p.carved
          (λ v f. let y = elem-count w (words_from sh p.first 0 p.carved)
          (ap (λ z. elem z (words_from sh p.first 0 p.carved)) t.1 ∙ words-elem s.shape p.first p.carved t.0 v) in omega (arith, r.holds.outs t.0))
          (λ v f. absurd (omega (arith, r.holds.outs t.0))))
          (λ u. let z = leb-false 1 (count w p.free) u in omega arith)

  pub none-count : none_out sh p ≡ eqb p.carved (length p.free)
  none-count = none_out-count sh s.shape p rep-good

  pub none_is : none_out sh p ≡ eqb (get b (page carved p.first)) (get b (page free p.first))
  none_is = none-count ∙ rw (free-length r, r.holds.height, r.holds.ready)

  pub none-idle : none_out sh p ≡ true → (i : ℕ) → out_bit b sh p.first i ≡ 0
  unfolding none_out is_out
  none-idle e i =
      by_cases (leb 1 (out_bit b sh p.first i))
      (λ u. digit_cases i p.carved
      (λ v f. let t : Sits b sh p.first (word_of sh p.first i) = record {
        index = i;
        inside = omega (arith, r.holds.within);
        names = refl;
        set = omega (arith, r.holds.outs i, leb-true 1 (out_bit b sh p.first i) u);
      } in
      let w = word_of sh p.first i in
      let o = sits_out s hn r w t in
      let x = elem-count w (carved_words sh p) (and_left (elem w (carved_words sh p)) (not (elem w p.free)) o) in
      absurd (true≢false (sym (every-count (λ z. elem z p.free) w (carved_words sh p) e x)
      ∙ not-true (elem w p.free) (and_right (elem w (carved_words sh p)) (not (elem w p.free)) o))))
      (λ v f. absurd (omega (arith, r.holds.outs i, leb-true 1 (out_bit b sh p.first i) u))))
      (λ u. omega (arith, leb-false 1 (out_bit b sh p.first i) u))

  -- ---- blocks that are out come back, each once
  module _ (ws : List ℕ) (outs : every (λ w. is_out sh w p) ws ≡ true) (once : (w : ℕ) → count w ws ≤ 1) where
    spelled : (ws : List ℕ) → every (λ w. is_out sh w p) ws ≡ true → ws ≡ map (word_of sh p.first) (map (index_of sh p.first) ws)
    spelled [] e = refl
    spelled (w ∷ ws) e =
        let t = out_sits s hn r w (and_left (is_out sh w p) (every (λ w. is_out sh w p) ws) e) in
        let i : index_of sh p.first w ≡ t.index = ap (index_of sh p.first) t.names ∙ index_is s.shape p.first t.index t.inside (page-low s hn r) in
        let h : w ≡ word_of sh p.first (index_of sh p.first w) = t.names ∙ ap (word_of sh p.first) (sym i) in
        cons h (spelled ws (and_right (is_out sh w p) (every (λ w. is_out sh w p) ws) e))
      where
        cons : {x y : ℕ} {xs ys : List ℕ} → x ≡ y → xs ≡ ys → x ∷ xs ≡ y ∷ ys
        cons e f = cc

    set-once : (j : ℕ) → count j (map (index_of sh p.first) ws) ≤ out_bit b sh p.first j
    set-once j =
        let w = word_of sh p.first j in
        let e : count (word_of sh p.first j) ws ≡ count j (map (index_of sh p.first) ws)
        = ap (count (word_of sh p.first j)) (spelled ws outs) ∙ count-words s.shape p.first j (map (index_of sh p.first) ws) in
        by_cases (leb 1 (count (word_of sh p.first j) ws))
        (λ u. let t = out_sits s hn r w (every-count (λ w. is_out sh w p) w ws outs (leb-true 1 (count w ws) u)) in
        let m : out_bit b sh p.first j ≡ 1 = ap (out_bit b sh p.first) (word_inj s.shape p.first j t.index t.names) ∙ t.set in
        omega (arith, once (word_of sh p.first j)))
        (λ u. omega (arith, leb-false 1 (count (word_of sh p.first j) ws) u))

    pub return_fit : every (fits sh) (map (index_of sh p.first) ws) ≡ true
    return_fit = back-fit s r.holds (map (index_of sh p.first) ws) set-once

    pub return_slots : get b (page free p.first) + length (map (index_of sh p.first) ws) ≤ 4096
    return_slots = room s r.holds (map (index_of sh p.first) ws) set-once

    pub return_data : Changes (is_data p.first) b (back b p.first (map (index_of sh p.first) ws))
    return_data = back_data s r.holds (map (index_of sh p.first) ws) set-once

    pub return_only : Only c b (back b p.first (map (index_of sh p.first) ws))
    return_only = back-only s r.holds (map (index_of sh p.first) ws) set-once

    -- number 13's test of the counts
    pub return_room : length ws + length p.free ≤ p.carved
    return_room =
        let is = map (index_of sh p.first) ws in
        omega (arith, back-length s r.holds is set-once, length-append is r.stack, free-length r, length-map (index_of sh p.first) ws)

    pub return_rep : PageRep n sh (back b p.first (map (index_of sh p.first) ws)) c l (returned ws p)
    unfolding returned
    return_rep = record {
      stack = map (index_of sh p.first) ws ++ r.stack;
      names = joined (spelled ws outs) r.names ∙ sym (map-append (word_of sh p.first) (map (index_of sh p.first) ws) r.stack);
      holds = back-holds s r.holds (map (index_of sh p.first) ws) set-once;
    }
      where
        joined : {u v x y : List ℕ} → u ≡ v → x ≡ y → u ++ x ≡ v ++ y
        joined e f = cc

-- ---- a page with none out, its blocks forgotten: as a small class's page comes back after it was retired
abbrev pub blank : ℕ → Page
blank q = record { first = q; free = []; carved = 0; virgin = false; retired = false }

module _ {n : ℕ} {b : List ℕ} {c : ℕ} {sh : Shape} (s : Setting n b c sh) {l q : ℕ} {xs : List ℕ} {k : ℕ} (h : Holds n sh b c l q xs k false) where
  emptied-changes : (t : Field → Bool) → t (page free q) ≡ true → t (page carved q) ≡ true → Changes t b (emptied b q)
  unfolding emptied
  emptied-changes t f k = changes-put t b _ (page free q) 0 refl f (changes-put t b _ (page carved q) 0 refl k (changes-none t b))

  pub emptied_data : Changes (is_data q) b (emptied b q)
  emptied_data = let e = eq-eqb q q refl in emptied-changes (is_data q) e e

  pub emptied-only : Only c b (emptied b q)
  emptied-only =
      let o : eqb (get b (page owner q)) (suc c) ≡ true = eq-eqb _ _ (whole-owner n b s.shape c q h.run) in
      emptied-changes (of_class b c) o o

  module _ (idle : (i : ℕ) → out_bit b sh q i ≡ 0) where
    pub emptied-idle : (i : ℕ) → out_bit (emptied b q) sh q i ≡ 0
    unfolding emptied
    emptied-idle i = out_bit-kept b (emptied b q) sh q i (λ e. let o = in_row s i e in simp get-put_other) ∙ idle i

    pub emptied-rep : PageRep n sh (emptied b q) c l (blank q)
    unfolding emptied
    emptied-rep =
        let hb = s.long in
        let hq = whole_in n b s.shape c q h.run in
        record {
          stack = [];
          names = refl;
          holds = record {
            run = whole-kept (data_owns q emptied_data) n sh c q ∙ h.run;
            listing = simp get-put_other h.listing;
            height = simp (get_put_same n, length-put, hb);
            slots = tt;
            ready = simp (get-put_other, get_put_same n);
            clean = simp get-put_other h.clean;
            within = omega arith;
            outs = λ i. omega (arith, emptied-idle i, digit_false i 0 (omega arith));
            unmarked = λ j u. emptied_data.kept (mark q j) (lt-ltb j 128 (omega (arith, s.shape.few))) refl ∙ h.unmarked j u;
          };
        }
