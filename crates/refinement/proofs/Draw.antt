-- A page that gives blocks: the words do what the model's `pop` says.
--     draw-holds     the words of the run afterwards
--     pop-rep        the page afterwards is the model's
--     pop-blocks     the blocks are the model's
use Rattle.facts.proofs.Prelude.{ℕ, suc, ◌+◌, ◌-◌, min, arith, Bool, true, cond, not, ◌&&◌, List, [], ◌∷◌, ◌++◌, map, reverse, ◌≡◌, refl, sym, ap, ◌∙◌, eqb, ltb, length, take}
use Rattle.facts.proofs.Prelude.{drop, length-append, length-drop, length-take, length-reverse, lt-ltb, eq-eqb, ne_eqb, eqb-true, eqb-false, is_nil, every, count, by_cases}
use Rattle.classes.specs.declared.Shape.{Shape}
use Rattle.fields.specs.Field.{Field, page, mark, slot, out, owner, free, carved, listed, virgin, region, get, off}
use Rattle.fields.proofs.Laws.{get-put_other}
use Rattle.fields.proofs.Changes.{Changes}
use Rattle.model.specs.Page as Model
use Rattle.model.specs.Page.{Page, word_of, pop}
use Rattle.model.proofs.Counts.{count-append, count-reverse, count_cut}
use Rattle.words.specs.Host.{digit}
use Rattle.pages.specs.Stack.{out_bit, descending, set_outs, latest, draw, has_more}
use Rattle.pages.proofs.Descending.{digit-le, digit_false, length-descending, count-descending, every-below}
use Rattle.pages.proofs.Draws.{draw-changes, draw-free, draw-carved}
use Rattle.pages.proofs.SetOuts.{set_outs-at}
use Rattle.refinement.specs.way.Represents.{Holds, PageRep}
use Rattle.refinement.proofs.Basics.{Setting}
use Rattle.pages.proofs.Runs.{whole_in, whole-owner}
use Rattle.pages.proofs.Kept.{whole-kept}
use Rattle.refinement.proofs.Frames.{is_data, of_class, Only, data_owns, out_bit-kept, slots_kept}
use Rattle.refinement.proofs.Blocks.{map-append, map-reverse, map-take, map-drop, length-map, words-descending, fits, in_row, every-counts, top_entries-take, slots-drop}

-- ---- the words
module _ {n : ℕ} {b : List ℕ} {c : ℕ} {sh : Shape} (s : Setting n b c sh) {l q : ℕ} {xs : List ℕ} {k : ℕ} {v : Bool} (h : Holds n sh b c l q xs k v) (m : ℕ) where
  pub latest-is : latest b sh q m ≡ descending k (min (m - length xs) (sh.capacity - k)) ++ reverse (take m xs)
  unfolding latest
  latest-is = rw (h.ready, h.height, top_entries-take b q m xs h.slots)

  latest-count : (j : ℕ) → count j (latest b sh q m) ≡ count j (descending k (min (m - length xs) (sh.capacity - k))) + count j (take m xs)
  latest-count j = rw (latest-is, count-append, count-reverse)

  latest-size : length (latest b sh q m) ≡ min (m - length xs) (sh.capacity - k) + min m (length xs)
  latest-size = rw (latest-is, length-append, length-descending, length-reverse, length-take)

  pub latest-fit : every (fits sh) (latest b sh q m) ≡ true
  latest-fit =
      every-counts sh.capacity (latest b sh q m) (λ j z.
      omega (
        arith,
        latest-count j,
        count_cut j m xs,
        h.outs j,
        count-descending j k (min (m - length xs) (sh.capacity - k)),
        digit_false j (k + min (m - length xs) (sh.capacity - k)) (omega (arith, h.within)),
        digit_false j k (omega (arith, h.within)),
      ))

  changes : (t : Field → Bool) → t (page free q) ≡ true → t (page carved q) ≡ true → ((i : ℕ) → t (out q i) ≡ true) → Changes t b (draw b sh q m)
  changes = draw-changes b sh q m (every-below sh.capacity 4096 s.shape.few (latest b sh q m) latest-fit)

  pub draw_data : Changes (is_data q) b (draw b sh q m)
  draw_data = let e = eq-eqb q q refl in changes (is_data q) e e (λ i. e)

  pub draw-only : Only c b (draw b sh q m)
  draw-only =
      let o : eqb (get b (page owner q)) (suc c) ≡ true = eq-eqb _ _ (whole-owner n b s.shape c q h.run) in
      changes (of_class b c) o o (λ i. o)

  hq : ltb q n ≡ true
  hq = whole_in n b s.shape c q h.run

  draw-out : (j : ℕ) → ◌≡◌ {A = ℕ} (out_bit (draw b sh q m) sh q j) (cond (eqb (count j (latest b sh q m)) 0) (out_bit b sh q j) 1)
  unfolding draw
  draw-out j =
      out_bit-kept (set_outs b q 1 (latest b sh q m)) _ sh q j (λ e. let o = in_row s j e in simp get-put_other)
      ∙ set_outs-at n b s.long q hq 1 refl sh s.shape.few (latest b sh q m) latest-fit j

  draw-outs : (j : ℕ) → out_bit (draw b sh q m) sh q j + count j (drop m xs) ≡ digit (ltb j (k + min (m - length xs) (sh.capacity - k)))
  draw-outs j =
      let o = h.outs j in
      let d = count-descending j k (min (m - length xs) (sh.capacity - k)) in
      let u = count_cut j m xs in
      let w = latest-count j in
      let f = digit-le (ltb j (k + min (m - length xs) (sh.capacity - k))) in
      by_cases (eqb (count j (latest b sh q m)) 0)
      (λ e. let z = eqb-true (count j (latest b sh q m)) 0 e in rw (draw-out j, e) (omega arith))
      (λ e. let z = eqb-false (count j (latest b sh q m)) 0 e in rw (draw-out j, e) (omega (arith, z)))

  pub draw-holds : Holds n sh (draw b sh q m) c l q (drop m xs) (k + min (m - length xs) (sh.capacity - k)) v
  draw-holds = record {
    run = whole-kept (data_owns q draw_data) n sh c q ∙ h.run;
    listing = draw_data.kept (page listed q) refl refl ∙ h.listing;
    height = draw-free b sh q m n s.long hq ∙ rw h.height (sym (length-drop m xs));
    slots = slots_kept b (draw b sh q m) q (drop m xs) (λ i e. (changes (λ g. not (eqb (region g) 6)) refl refl (λ j. refl)).kept (slot q i) e refl) (slots-drop b q m xs h.slots);
    ready = draw-carved b sh q m n s.long hq ∙ rw (h.ready, h.height);
    clean = (changes (λ g. not (eqb (region g) 4 && eqb (off g) 7)) refl refl (λ j. refl)).kept (page virgin q) refl refl ∙ h.clean;
    within = omega (arith, h.within);
    outs = draw-outs;
    unmarked = λ j u. draw_data.kept (mark q j) (lt-ltb j 128 (omega (arith, s.shape.few))) refl ∙ h.unmarked j u;
  }

-- ---- the page
is_nil_lem : (xs : List ℕ) → is_nil xs ≡ eqb (length xs) 0
is_nil_lem [] = refl
is_nil_lem (x ∷ xs) = sym (ne_eqb (suc (length xs)) 0 (λ e. omega arith))

module _ {n : ℕ} {b : List ℕ} {c : ℕ} {sh : Shape} {l : ℕ} {p : Page} (r : PageRep n sh b c l p) where
  pub free-length : length p.free ≡ length r.stack
  free-length = ap length r.names ∙ length-map (word_of sh p.first) r.stack

  pub more-is : has_more b sh p.first ≡ Model.has_more sh p
  unfolding has_more Model.has_more
  more-is = rw (is_nil_lem p.free, free-length, r.holds.height, r.holds.ready)

  now-is : (m : ℕ) → Model.carved_now sh m p ≡ min (m - length r.stack) (sh.capacity - p.carved)
  unfolding Model.carved_now
  now-is m = rw free-length

module _ {n : ℕ} {b : List ℕ} {c : ℕ} {sh : Shape} (s : Setting n b c sh) {l : ℕ} {p : Page} (r : PageRep n sh b c l p) (m : ℕ) where
  pub pop-rep : PageRep n sh (draw b sh p.first m) c l (pop sh m p).page
  unfolding pop
  pop-rep = record {
    stack = drop m r.stack;
    names = ap (drop m) r.names ∙ sym (map-drop (word_of sh p.first) m r.stack);
    holds = rw (now-is r m) (draw-holds s r.holds m);
  }

  pub pop-blocks : map (word_of sh p.first) (latest b sh p.first m) ≡ (pop sh m p).blocks
  unfolding pop
  pop-blocks =
      let f = word_of sh p.first in
      let new = descending p.carved (min (m - length r.stack) (sh.capacity - p.carved)) in
      ap (map f) (latest-is s r.holds m)
      ∙ map-append f new (reverse (take m r.stack))
      ∙ rw (now-is r m, words-descending)
      (ap (λ z. map f new ++ z) (map-reverse f (take m r.stack) ∙ ap reverse (map-take f m r.stack ∙ ap (take m) (sym r.names))))

  pub pop-length : length (latest b sh p.first m) ≡ length (pop sh m p).blocks
  pop-length = sym (length-map (word_of sh p.first) (latest b sh p.first m)) ∙ ap length pop-blocks

  pub pop-size : length (latest b sh p.first m) ≡ min (m - length p.free) (sh.capacity - p.carved) + min m (length p.free)
  pop-size = latest-size s r.holds m ∙ rw (free-length r)
