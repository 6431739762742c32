-- What a page gives, and the page after it.
--     latest-length     how many blocks: the free ones that are wanted, and new ones
--     latest-below      they are blocks of the class
--     draw-changes      only FREE, CARVED and out bits are changed
--     draw-free, draw-carved
use Rattle.facts.proofs.Prelude.{ℕ, ◌+◌, ◌-◌, ◌≤◌, min, arith, Bool, true, List, reverse, ◌≡◌, refl, ltb, leb, length, length-append, length-reverse, every}
use Rattle.classes.specs.declared.Shape.{Shape}
use Rattle.fields.specs.Field.{Field, page, out, free, carved, get, put, words}
use Rattle.fields.proofs.Laws.{get_put_same, get-put_other, length-put}
use Rattle.fields.proofs.Changes.{Changes, changes-put}
use Rattle.pages.specs.Stack.{top_entries, descending, set_outs, carved_now, latest, draw}
use Rattle.pages.proofs.Descending.{small, length-descending, descending-below, every_append, every-reverse, every-below}
use Rattle.pages.proofs.TopEntries.{length-top_entries}
use Rattle.pages.proofs.SetOuts.{length-set_outs, set_outs-changes}

module _ (b : List ℕ) (sh : Shape) (q m : ℕ) where
  pub latest-length : length (latest b sh q m) ≡ min m (get b (page free q)) + carved_now b sh q m
  unfolding latest
  latest-length =
      let t = get b (page free q) in
      let a = get b (page carved q) in
      let x = carved_now b sh q m in
      omega (
        arith,
        length-append (descending a x) (reverse (top_entries b q m t)),
        length-descending a x,
        length-reverse (top_entries b q m t),
        length-top_entries b q m t,
      )

  pub latest-below : get b (page carved q) ≤ sh.capacity → every (λ i. ltb i (get b (page carved q))) (top_entries b q m (get b (page free q))) ≡ true
      → every (λ i. ltb i sh.capacity) (latest b sh q m) ≡ true
  unfolding latest
  latest-below h e =
      let a = get b (page carved q) in
      let t = top_entries b q m (get b (page free q)) in
      let x = carved_now b sh q m in
      every_append (λ i. ltb i sh.capacity) (descending a x) (reverse t)
      (descending-below a x sh.capacity (within a sh.capacity (m - get b (page free q)) h))
      (every-reverse (λ i. ltb i sh.capacity) t (every-below a sh.capacity h t e))
    where
      within : (a c n : ℕ) → a ≤ c → a + min n (c - a) ≤ c
      within a c n h = omega arith

  module _ (s : every small (latest b sh q m) ≡ true) where
    pub draw-changes : (t : Field → Bool) → t (page free q) ≡ true → t (page carved q) ≡ true → ((i : ℕ) → t (out q i) ≡ true) → Changes t b (draw b sh q m)
    unfolding draw
    draw-changes t f k o =
        let xs = latest b sh q m in
        let v = get b (page free q) - m in
        changes-put t b (put (set_outs b q 1 xs) (page free q) v) (page carved q) _ refl k (changes-put t b (set_outs b q 1 xs) (page free q) v refl f (set_outs-changes b q 1 t o xs s))

  module _ (n : ℕ) (hb : leb (words n) (length b) ≡ true) (hq : ltb q n ≡ true) where
    outs-long : leb (words n) (length (set_outs b q 1 (latest b sh q m))) ≡ true
    outs-long = rw length-set_outs hb

    pub draw-free : get (draw b sh q m) (page free q) ≡ get b (page free q) - m
    unfolding draw
    draw-free = let h = outs-long in simp (get-put_other, get_put_same n)

    pub draw-carved : get (draw b sh q m) (page carved q) ≡ get b (page carved q) + carved_now b sh q m
    unfolding draw
    draw-carved = let h = outs-long in simp (get_put_same n, length-put, h)
