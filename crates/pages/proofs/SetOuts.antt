-- Out bits of listed blocks set or cleared.
--     length-set-outs, set-outs-append
--     set-outs-changes, set-outs-kept    nothing else is changed
--     set-outs-get, set-outs-at          what is read of a block's bit
use Rattle.facts.proofs.Prelude.{ℕ, ◌+◌, ◌≤◌, arith, zero-add, Bool, true, false, cond, List, [], ◌∷◌, ◌++◌, ◌≡◌, refl, sym, ap, ◌∙◌, eqb}
use Rattle.facts.proofs.Prelude.{ltb, leb, length, lt-ltb, ltb-true, ne_eqb, eqb-true, eqb-false, every, count, by_cases, and_left, and_right}
use Rattle.classes.specs.declared.Shape.{Shape}
use Rattle.fields.specs.Field.{Field, region, out, get, put, ok, words}
use Rattle.fields.proofs.Laws.{get_put_same, get-put_other, length-put}
use Rattle.fields.proofs.Changes.{Changes, changes-none, changes-put}
use Rattle.model.proofs.Counts.{every-count}
use Rattle.pages.specs.Stack.{out_bit, set_outs}
use Rattle.pages.proofs.Descending.{small, every-below}

abbrev pub is_out_bit : Field → Bool
is_out_bit f = eqb (region f) 5

pub length-set_outs : (b : List ℕ) (q v : ℕ) (is : List ℕ) → length (set_outs b q v is) ≡ length b
length-set_outs b q v [] = refl
length-set_outs b q v (i ∷ is) = length-put (set_outs b q v is) (out q i) v ∙ length-set_outs b q v is

pub set_outs-append : (b : List ℕ) (q v : ℕ) (is js : List ℕ) → set_outs (set_outs b q v js) q v is ≡ set_outs b q v (is ++ js)
set_outs-append b q v [] js = refl
set_outs-append b q v (i ∷ is) js = ap (λ z. put z (out q i) v) (set_outs-append b q v is js)

module _ (b : List ℕ) (q v : ℕ) where
  pub set_outs-changes : (t : Field → Bool) → ((i : ℕ) → t (out q i) ≡ true) → (is : List ℕ) → every small is ≡ true → Changes t b (set_outs b q v is)
  set_outs-changes t h [] s = changes-none t b
  set_outs-changes t h (i ∷ is) s =
      changes-put t b (set_outs b q v is) (out q i) v (and_left (small i) (every small is) s) (h i)
      (set_outs-changes t h is (and_right (small i) (every small is) s))

  pub set_outs-kept : (is : List ℕ) → every small is ≡ true → (g : Field) → ok g ≡ true → is_out_bit g ≡ false → get (set_outs b q v is) g ≡ get b g
  set_outs-kept is s g o d = (set_outs-changes is_out_bit (λ i. refl) is s).kept g o d

module _ (n : ℕ) (b : List ℕ) (hb : leb (words n) (length b) ≡ true) (q : ℕ) (hq : ltb q n ≡ true) (v : ℕ) (hv : ltb v 2 ≡ true) where
  pub set_outs-get : (is : List ℕ) → every small is ≡ true → (j : ℕ) → ltb j 4096 ≡ true → get (set_outs b q v is) (out q j) ≡ cond (eqb (count j is) 0) (get b (out q j)) v
  set_outs-get [] s j l = refl
  set_outs-get (i ∷ is) s j l =
      let si = and_left (small i) (every small is) s in
      let sis = and_right (small i) (every small is) s in
      let hb' : leb (words n) (length (set_outs b q v is)) ≡ true = rw length-set_outs hb in
      by_cases (eqb j i)
      (λ e.
      let j-i : j ≡ i = eqb-true j i e in
      rw (e, ne_eqb (1 + count j is) 0 (λ z. omega arith), j-i) (get_put_same n (set_outs b q v is) (out q i) v hb' (rw si hq) hv))
      (λ e. rw (e, zero-add) (get-put_other (set_outs b q v is) (out q i) (out q j) v si l (rw (ne_eqb i j (λ z. eqb-false j i e (sym z)))) ∙ set_outs-get is sis j l))

  -- blocks of the class: the bit is 0 at and above the capacity
  pub set_outs-at : (sh : Shape) → sh.capacity ≤ 4096 → (is : List ℕ) → every (λ i. ltb i sh.capacity) is ≡ true → (j : ℕ)
      → out_bit (set_outs b q v is) sh q j ≡ cond (eqb (count j is) 0) (out_bit b sh q j) v
  unfolding out_bit
  set_outs-at sh h is s j =
      by_cases (ltb j sh.capacity)
      (λ e. rw e (set_outs-get is (every-below sh.capacity 4096 h is s) j (lt-ltb j 4096 (omega (arith, ltb-true j sh.capacity e)))))
      (λ e. rw e (by_cases (eqb (count j is) 0) (λ z. rw z) (λ z. absurd (none e z))))
    where
      none : ltb j sh.capacity ≡ false → eqb (count j is) 0 ≡ false → ⊥
      none e z =
          let w : ltb j sh.capacity ≡ true = every-count (λ i. ltb i sh.capacity) j is s (omega (arith, eqb-false (count j is) 0 z)) in
          let x : ◌≡◌ {A = Bool} true false = sym w ∙ e in
          let y : ◌≡◌ {A = ℕ} 0 1 = cc in
          omega arith
