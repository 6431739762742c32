-- Blocks pushed on a page's stack, and a run carved anew.
--     push-slots     the stack with a list pushed on it
--     anew-holds     a run that has no block out, carved anew
--     carve-rep      it is the model's carved page
use Rattle.facts.proofs.Prelude.{ℕ, suc, ◌+◌, ◌≤◌, ◌<◌, arith, Bool, true, false, cond, List, [], ◌∷◌, ◌++◌, append-nil, ◌≡◌, refl, sym, ap}
use Rattle.facts.proofs.Prelude.{◌∙◌, subst, eqb, ltb, length, length-append, lt-ltb, ltb-true, eq-eqb, ne_eqb, every, and_left, and_right}
use Rattle.classes.specs.declared.Shape.{Shape}
use Rattle.fields.specs.Field.{Field, page, mark, slot, out, owner, free, carved, listed, virgin, get}
use Rattle.fields.proofs.Laws.{get_put_same, get-put_other, length-put}
use Rattle.fields.proofs.Changes.{Changes}
use Rattle.model.specs.Page.{is_medium, carve_as, carve}
use Rattle.pages.specs.Runs.{whole}
use Rattle.pages.specs.Stack.{out_bit, descending, push}
use Rattle.pages.specs.Carve.{carved_at_once, carve_anew, out_words}
use Rattle.pages.proofs.Descending.{digit_false, length-descending}
use Rattle.pages.proofs.Pushes.{length_push, push_kept}
use Rattle.pages.proofs.Frames.{at_once-le, changes-carve}
use Rattle.refinement.specs.way.Represents.{Slots, Holds, PageRep}
use Rattle.refinement.proofs.ArenaStore.{long_kept}
use Rattle.refinement.proofs.Basics.{Setting}
use Rattle.refinement.proofs.Frames.{is_data, of_class, Only, out_bit-kept}
use Rattle.refinement.proofs.Blocks.{fits, in_row, words-descending, count_descending_zero, every-counts}

-- ---- a list pushed on a stack whose top stands below t₀
pub slots-under : (b b' : List ℕ) (q : ℕ) (zs : List ℕ) → ((j : ℕ) → j < length zs → ltb j 4096 ≡ true → get b' (slot q j) ≡ get b (slot q j)) → Slots b q zs → Slots b' q zs
slots-under b b' q [] k s = tt
slots-under b b' q (z ∷ zs) k s = (k (length zs) (omega arith) (lt-ltb _ _ s.1) ∙ s.0, s.1, slots-under b b' q zs (λ j l e. k j (omega arith) e) s.2)

module _ {n : ℕ} {b : List ℕ} {c : ℕ} {sh : Shape} (s : Setting n b c sh) (q : ℕ) (hq : ltb q n ≡ true) where
  pub push-slots : (xs is : List ℕ) (t₀ : ℕ) → length xs ≡ t₀ → t₀ + length is ≤ 4096 → every (fits sh) is ≡ true → Slots b q xs → Slots (push b q t₀ is) q (is ++ xs)
  push-slots xs [] t₀ e l f sl = sl
  push-slots xs (i ∷ is) t₀ e l f sl =
      let b₁ = push b q t₀ is in
      let top : length (is ++ xs) ≡ t₀ + length is = length-append is xs ∙ sums (length is) (length xs) t₀ e in
      let room : ltb (t₀ + length is) 4096 ≡ true = lt-ltb (t₀ + length is) 4096 (omega arith) in
      let small = ltb-true i sh.capacity (and_left (fits sh i) (every (fits sh) is) f) in
      let long = long_kept n b b₁ (length_push b q t₀ is) s.long in (
        ap (λ z. get (push b q t₀ (i ∷ is)) (slot q z)) top
            ∙ get_put_same n b₁ (slot q (t₀ + length is)) i long (rw (room, hq)) (lt-ltb i 65536 (omega (arith, s.shape.few))),
        omega arith,
        slots-under b₁ (push b q t₀ (i ∷ is)) q (is ++ xs)
            (λ j u o. get-put_other b₁ (slot q (t₀ + length is)) (slot q j) i room o (rw (ne_eqb (t₀ + length is) j (λ z. omega arith))))
            (push-slots xs is t₀ e (omega arith) (and_right (fits sh i) (every (fits sh) is) f) sl),
      )
    where
      sums : (a x t : ℕ) → x ≡ t → a + x ≡ t + a
      sums a x t e = omega arith

-- ---- a run carved anew
module _ {n : ℕ} {b : List ℕ} {c : ℕ} {sh : Shape} (s : Setting n b c sh) (q : ℕ) (u : Bool) where
  room : 0 + length (descending 0 (carved_at_once sh)) ≤ 4096
  room = omega (arith, length-descending 0 (carved_at_once sh), at_once-le sh, s.shape.few)

  anew_changes : (t : Field → Bool) → t (page free q) ≡ true → t (page carved q) ≡ true → t (page virgin q) ≡ true → ((i : ℕ) → t (slot q i) ≡ true)
      → Changes t b (carve_anew b sh q u)
  anew_changes t f k v e = changes-carve t b q f v e sh u k s.shape.few

  pub anew_data : Changes (is_data q) b (carve_anew b sh q u)
  anew_data = let e = eq-eqb q q refl in anew_changes (is_data q) e e e (λ i. e)

  pub anew_only : get b (page owner q) ≡ suc c → Only c b (carve_anew b sh q u)
  anew_only o =
      let e : eqb (get b (page owner q)) (suc c) ≡ true = eq-eqb _ _ o in
      anew_changes (of_class b c) e e e (λ i. e)

  pub anew_out : (j : ℕ) → out_bit (carve_anew b sh q u) sh q j ≡ out_bit b sh q j
  unfolding carve_anew
  anew_out j =
      out_bit-kept b (carve_anew b sh q u) sh q j
      (λ e. let o = in_row s j e in simp get-put_other (push_kept b q 0 (descending 0 (carved_at_once sh)) room (out q j) o refl))

  -- the run's words, where no block is out, whatever they said of its blocks
  pub anew_holds : {l : ℕ} → ltb q n ≡ true → whole n (carve_anew b sh q u) sh c q ≡ true → get b (page listed q) ≡ l → ((i : ℕ) → out_bit b sh q i ≡ 0) → ((j : ℕ) → j < out_words sh → get b (mark q j) ≡ 0)
      → Holds n sh (carve_anew b sh q u) c l q (descending 0 (carved_at_once sh)) (carved_at_once sh) u
  unfolding carve_anew
  anew_holds hq run listing idle unmarked =
      let b₁ = push b q 0 (descending 0 (carved_at_once sh)) in
      let hb₁ = long_kept n b (push b q 0 (descending 0 (carved_at_once sh))) (length_push b q 0 (descending 0 (carved_at_once sh))) s.long in
      let low : every (fits sh) (descending 0 (carved_at_once sh)) ≡ true
      = every-counts sh.capacity (descending 0 (carved_at_once sh)) (λ j z. omega (arith, count_descending_zero j (carved_at_once sh), digit_false j (carved_at_once sh) (omega (arith, at_once-le sh)))) in
      record {
        run = run;
        listing = simp get-put_other (push_kept b q 0 (descending 0 (carved_at_once sh)) room (page listed q) refl refl ∙ listing);
        height = simp (get_put_same n, length-put, hb₁) (sym (length-descending 0 (carved_at_once sh)));
        slots = slots-under b₁ _ q (descending 0 (carved_at_once sh)) (λ j w o. simp get-put_other)
            (subst (λ (xs : List ℕ). Slots b₁ q xs) (append-nil (descending 0 (carved_at_once sh))) (push-slots s q hq [] (descending 0 (carved_at_once sh)) 0 refl room low tt));
        ready = simp (get-put_other, get_put_same n, length-put, hb₁);
        clean = simp (get-put_other, get_put_same n, hb₁);
        within = at_once-le sh;
        outs = λ j. omega (arith, anew_out j, idle j, count_descending_zero j (carved_at_once sh));
        unmarked = λ j w. anew_data.kept (mark q j) (lt-ltb j 128 (omega (arith, s.shape.few))) refl ∙ unmarked j w;
      }

-- the model's carving
module _ (sh : Shape) (q : ℕ) (u : Bool) where
  pub carve-first : (carve sh q u).first ≡ q
  unfolding carve_as
  carve-first = go (is_medium sh)
    where
      go : (t : Bool) → (carve_as sh t q u).first ≡ q
      go true = refl
      go false = refl

  pub carve-rep : {n : ℕ} {b : List ℕ} {c l : ℕ} → Holds n sh b c l q (descending 0 (carved_at_once sh)) (carved_at_once sh) u → PageRep n sh b c l (carve sh q u)
  unfolding carve_as
  carve-rep {n} {b} {c} {l} h = go (is_medium sh) h
    where
      go : (t : Bool) → Holds n sh b c l q (descending 0 (cond t sh.capacity 0)) (cond t sh.capacity 0) u → PageRep n sh b c l (carve_as sh t q u)
      go true h = record { stack = descending 0 sh.capacity; names = words-descending sh q 0 sh.capacity; holds = h }
      go false h = record { stack = []; names = refl; holds = h }
