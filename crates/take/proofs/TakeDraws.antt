-- A page that gives blocks, on any words that passed the plan's tests.
--     latest-small   the blocks that it gives have out bits
--     draw-full      a page that still gives blocks gave all that were wanted
use Rattle.facts.proofs.Prelude.{ℕ, ◌+◌, ◌-◌, ◌≤◌, ◌<◌, min, arith, true, not, ◌||◌, List, ◌≡◌, ◌∙◌, eqb}
use Rattle.facts.proofs.Prelude.{ltb, leb, length, ltb-true, leb-true, eqb-true, eqb-false, every, by_cases}
use Rattle.classes.specs.declared.Shape.{Shape}
use Rattle.fields.specs.Field.{page, free, carved, get, words}
use Rattle.pages.specs.Stack.{top_entries, latest, draw, has_more}
use Rattle.pages.proofs.Descending.{small, every-below}
use Rattle.pages.proofs.Draws.{latest-length, latest-below, draw-free, draw-carved}
use Rattle.take.proofs.TakePages.{Valid}

over : (f m : ℕ) → (f - m ≡ 0 → ⊥) → m < f
over f m z = omega (arith, z)

full-popped : (m f r : ℕ) → m < f → min m f + min (m - f) r ≡ m
full-popped m f r l = omega arith

full-carved : (m f k top : ℕ) → f ≤ m → k ≤ top → k + min (m - f) (top - k) < top → min m f + min (m - f) (top - k) ≡ m
full-carved m f k top l l' h = omega arith

full_of : (m f k top : ℕ) → k ≤ top → (not (eqb (f - m) 0) || ltb (k + min (m - f) (top - k)) top) ≡ true → min m f + min (m - f) (top - k) ≡ m
full_of m f k top l e =
    by_cases (eqb (f - m) 0)
    (λ u. let v : ltb (k + min (m - f) (top - k)) top ≡ true = rw u at e in full-carved m f k top (le_of f m (eqb-true (f - m) 0 u)) l (ltb-true (k + min (m - f) (top - k)) top v))
    (λ u. full-popped m f (top - k) (over f m (eqb-false (f - m) 0 u)))
  where
    le_of : (f m : ℕ) → f - m ≡ 0 → f ≤ m
    le_of f m e = omega arith

pub latest-small : (b : List ℕ) (sh : Shape) (m q : ℕ) → sh.capacity ≤ 4096 → get b (page carved q) ≤ sh.capacity
    → every (λ i. ltb i (get b (page carved q))) (top_entries b q m (get b (page free q))) ≡ true → every small (latest b sh q m) ≡ true
latest-small b sh m q few within entries = every-below sh.capacity 4096 few (latest b sh q m) (latest-below b sh q m within entries)

module _ (n : ℕ) (b : List ℕ) (hb : leb (words n) (length b) ≡ true) (c : ℕ) (sh : Shape) (l m q : ℕ) (hq : ltb q n ≡ true) (f : Valid n b c sh l m q) where
  pub draw-full : has_more (draw b sh q m) sh q ≡ true → length (latest b sh q m) ≡ m
  unfolding has_more
  draw-full e =
      latest-length b sh q m
      ∙ full_of m (get b (page free q)) (get b (page carved q)) sh.capacity (leb-true (get b (page carved q)) sh.capacity f.within) (rw (draw-free b sh q m n hb hq, draw-carved b sh q m n hb hq) at e)
