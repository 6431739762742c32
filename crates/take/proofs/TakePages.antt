-- A page that a take's plan found sound: what the test says, and that other books with the same words of the page pass it too.
--     Valid         what `sound` tests, by name
--     valid-kept    it passes on a book that agrees on whose the pages are and on the page's blocks
use Rattle.facts.proofs.Prelude.{ℕ, ◌+◌, ◌-◌, ◌≤◌, ◌<◌, min, arith, true, not, ◌||◌, List, ◌≡◌, ◌∙◌, eqb, ltb, leb, length}
use Rattle.facts.proofs.Prelude.{ltb-true, le-leb, leb-true, eq-eqb, eqb-true, eqb-false, every, by_cases, and_left, and_right}
use Rattle.classes.specs.declared.Shape.{Shape}
use Rattle.fields.specs.Field.{page, free, carved, listed, virgin, get}
use Rattle.pages.specs.Runs.{whole}
use Rattle.pages.specs.Stack.{top_entries, latest, has_more}
use Rattle.pages.proofs.Kept.{Owns, Body, whole-kept, entries-kept, more-kept}
use Rattle.pages.proofs.Draws.{latest-length}
use Rattle.pages.specs.Valid.{header_valid}
use Rattle.pages.proofs.ValidLaws.{carved-low, room-left, virgin-low, header_passes}
use Rattle.calls.specs.Take.{page_ready, sound}

pub record Valid (n : ℕ) (b : List ℕ) (c : ℕ) (sh : Shape) (l m q : ℕ) : Type 0 where
  pub run : whole n b sh c q ≡ true
  pub listing : eqb (get b (page listed q)) l ≡ true
  pub stack : leb (get b (page free q)) (get b (page carved q)) ≡ true
  pub within : leb (get b (page carved q)) sh.capacity ≡ true
  pub clean : leb (get b (page virgin q)) 1 ≡ true
  pub more : has_more b sh q ≡ true
  pub entries : every (λ i. ltb i (get b (page carved q))) (top_entries b q m (get b (page free q))) ≡ true

pub sound-valid : (n : ℕ) (b : List ℕ) (c : ℕ) (sh : Shape) (l m q : ℕ) → sound n b c sh l m q ≡ true → Valid n b c sh l m q
unfolding sound page_ready
sound-valid n b c sh l m q e =
    let e₁ = and_right (whole n b sh c q) _ e in
    let e₂ = and_left (page_ready b sh l q) _ e₁ in
    let h = and_left (header_valid b sh 0 q) _ e₂ in
    let e₃ = and_right (header_valid b sh 0 q) _ e₂ in
    record {
      run = and_left _ _ e;
      listing = and_left _ _ e₃;
      stack = le-leb (get b (page free q)) (get b (page carved q)) (omega (arith, room-left b sh 0 q h));
      within = le-leb (get b (page carved q)) sh.capacity (carved-low b sh 0 q h);
      clean = le-leb (get b (page virgin q)) 1 (virgin-low b sh 0 q h);
      more = and_right (eqb (get b (page listed q)) l) _ e₃;
      entries = and_right (page_ready b sh l q) _ e₁;
    }

pub valid-sound : (n : ℕ) (b : List ℕ) (c : ℕ) (sh : Shape) (l m q : ℕ) → Valid n b c sh l m q → sound n b c sh l m q ≡ true
unfolding sound page_ready
valid-sound n b c sh l m q f =
    let x = leb-true (get b (page free q)) (get b (page carved q)) f.stack in
    let h = header_passes b sh 0 q (leb-true (get b (page carved q)) sh.capacity f.within) (omega arith) (leb-true (get b (page virgin q)) 1 f.clean) in
    rw (f.run, h, f.listing, f.more) f.entries

-- ---- other books
pub valid-kept : {b b' : List ℕ} {q : ℕ} → Owns b b' → Body q b b' → (n c : ℕ) (sh : Shape) (l l' m : ℕ) → sh.capacity ≤ 4096 → get b' (page listed q) ≡ l'
    → Valid n b c sh l m q → Valid n b' c sh l' m q
valid-kept {b} {b'} {q} o h n c sh l l' m few e f =
    let t : get b (page free q) ≤ 4096 = omega (arith, leb-true, f.stack, f.within) in
    record {
      run = whole-kept o n sh c q ∙ f.run;
      listing = eq-eqb (get b' (page listed q)) l' e;
      stack = rw (h.free, h.carved) f.stack;
      within = rw h.carved f.within;
      clean = rw h.virgin f.clean;
      more = more-kept h sh ∙ f.more;
      entries = rw (h.free, h.carved, entries-kept h m (get b (page free q)) t) f.entries;
    }

-- ---- how many blocks a page gives
pub positive : (x : ℕ) → (x ≡ 0 → ⊥) → 1 ≤ x
positive x z = omega (arith, z)

some_of : (m f r : ℕ) → 1 ≤ m → 1 ≤ f → 1 ≤ min m f + min (m - f) r
some_of m f r l h = let z : 1 ≤ min m f = omega arith in omega arith

some-new : (m k top : ℕ) → 1 ≤ m → k < top → 1 ≤ min m 0 + min (m - 0) (top - k)
some-new m k top l h = omega arith

gives : (m f k top : ℕ) → 1 ≤ m → (not (eqb f 0) || ltb k top) ≡ true → 1 ≤ min m f + min (m - f) (top - k)
gives m f k top l e =
    by_cases (eqb f 0)
    (λ u. let v : ltb k top ≡ true = rw u at e in rw (eqb-true f 0 u) (some-new m k top l (ltb-true k top v)))
    (λ u. some_of m f (top - k) l (positive f (eqb-false f 0 u)))

pub latest-some : (b : List ℕ) (sh : Shape) (q m : ℕ) → (m ≡ 0 → ⊥) → has_more b sh q ≡ true → 1 ≤ length (latest b sh q m)
unfolding has_more
latest-some b sh q m z e = rw (latest-length b sh q m) (gives m (get b (page free q)) (get b (page carved q)) sh.capacity (positive m z) e)

pub latest-most : (b : List ℕ) (sh : Shape) (q m : ℕ) → length (latest b sh q m) ≤ m
latest-most b sh q m = rw (latest-length b sh q m) (most m (get b (page free q)) (sh.capacity - get b (page carved q)))
  where
    most : (m f r : ℕ) → min m f + min (m - f) r ≤ m
    most m f r = omega arith
