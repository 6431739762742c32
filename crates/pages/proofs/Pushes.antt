-- Blocks pushed on a page's stack.
--     length_push, push-changes, push_kept
--     push-under           entries below the old top are as they were
--     top-entries-push     what was pushed on is on top
use Rattle.facts.proofs.Prelude.{ℕ, suc, ◌+◌, ◌≤◌, ◌<◌, arith, Bool, true, false, List, [], ◌∷◌, ◌++◌, ◌≡◌, refl}
use Rattle.facts.proofs.Prelude.{ap, ◌∙◌, eqb, ltb, leb, length, lt-ltb, ltb-true, ne_eqb, every, and_left, and_right}
use Rattle.fields.specs.Field.{Field, region, slot, get, put, ok, words}
use Rattle.fields.proofs.Laws.{get_put_same, get-put_other, length-put}
use Rattle.fields.proofs.Changes.{Changes, changes-none, changes-put}
use Rattle.pages.specs.Stack.{top_entries, push}
use Rattle.pages.proofs.Descending.{small}
use Rattle.pages.proofs.TopEntries.{top_entries-kept}

abbrev pub is_slot : Field → Bool
is_slot f = eqb (region f) 6

module _ (b : List ℕ) (q t₀ : ℕ) where
  pub length_push : (is : List ℕ) → length (push b q t₀ is) ≡ length b
  length_push [] = refl
  length_push (i ∷ is) = length-put (push b q t₀ is) (slot q (t₀ + length is)) i ∙ length_push is

  pub push-changes : (t : Field → Bool) → ((i : ℕ) → t (slot q i) ≡ true) → (is : List ℕ) → t₀ + length is ≤ 4096 → Changes t b (push b q t₀ is)
  push-changes t h [] l = changes-none t b
  push-changes t h (i ∷ is) l =
      changes-put t b (push b q t₀ is) (slot q (t₀ + length is)) i (lt-ltb (t₀ + length is) 4096 (omega arith)) (h (t₀ + length is)) (push-changes t h is (omega arith))

  pub push_kept : (is : List ℕ) → t₀ + length is ≤ 4096 → (g : Field) → ok g ≡ true → is_slot g ≡ false → get (push b q t₀ is) g ≡ get b g
  push_kept is l g o d = (push-changes is_slot (λ i. refl) is l).kept g o d

  pub push-under : (is : List ℕ) → t₀ + length is ≤ 4096 → (j : ℕ) → j < t₀ → get (push b q t₀ is) (slot q j) ≡ get b (slot q j)
  push-under [] l j h = refl
  push-under (i ∷ is) l j h =
      get-put_other (push b q t₀ is) (slot q (t₀ + length is)) (slot q j) i (lt-ltb (t₀ + length is) 4096 (omega arith)) (lt-ltb j 4096 (omega arith)) (rw (ne_eqb (t₀ + length is) j (λ z. omega arith)))
      ∙ push-under is (omega arith) j h

-- all of the stack: what was pushed on it, then what it had
module _ (n : ℕ) (b : List ℕ) (hb : leb (words n) (length b) ≡ true) (q : ℕ) (hq : ltb q n ≡ true) (t₀ : ℕ) where
  pub top_entries-push : (is : List ℕ) → t₀ + length is ≤ 4096 → every small is ≡ true → top_entries (push b q t₀ is) q (length is + t₀) (length is + t₀) ≡ is ++ top_entries b q t₀ t₀
  top_entries-push [] l s = same (0 + t₀) t₀ (omega arith)
    where
      same : (x y : ℕ) → x ≡ y → top_entries b q x x ≡ top_entries b q y y
      same x y e = rw e
  top_entries-push (i ∷ is) l s =
      let b' = push b q t₀ is in
      let top = t₀ + length is in
      let m = length is + t₀ in
      let ok' : ltb top 4096 ≡ true = lt-ltb top 4096 (omega arith) in
      let si = ltb-true i 4096 (and_left (small i) (every small is) s) in
      let hb' : leb (words n) (length b') ≡ true = rw length_push hb in
      let here : get (put b' (slot q top) i) (slot q m) ≡ i = ap (λ z. get (put b' (slot q top) i) (slot q z)) (omega arith) ∙ get_put_same n b' (slot q top) i hb' (rw ok' hq) (lt-ltb i 65536 (omega arith)) in
      let rest : top_entries (put b' (slot q top) i) q m m ≡ top_entries b' q m m =
      top_entries-kept b' (put b' (slot q top) i) q m m (λ j h. get-put_other b' (slot q top) (slot q j) i ok' (lt-ltb j 4096 (omega arith)) (rw (ne_eqb top j (λ z. omega arith)))) in
      shifted m (suc (length is) + t₀) (omega arith)
      ∙ ap (λ x. x ∷ top_entries (put b' (slot q top) i) q m m) here
      ∙ ap (λ l. i ∷ l) (rest ∙ top_entries-push is (omega arith) (and_right (small i) (every small is) s))
    where
      shifted : (m x : ℕ) → suc m ≡ x → top_entries (push b q t₀ (i ∷ is)) q x x ≡ get (push b q t₀ (i ∷ is)) (slot q m) ∷ top_entries (push b q t₀ (i ∷ is)) q m m
      shifted m x e = rw (← e)
