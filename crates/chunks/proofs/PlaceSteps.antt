-- Placing one chunk's page, and the loop over the chunks.
use Rattle.facts.proofs.Prelude.{ℕ, zero, suc, ◌+◌, ◌^◌, ◌≤◌, ◌<◌, arith, add-one, Bool, true, List, [], ◌∷◌, ◌++◌, append_assoc, ◌≡◌}
use Rattle.facts.proofs.Prelude.{refl, sym, ap, ◌∙◌, ltb, leb, length, get_or, set, take, drop, length-set, take-append-drop, drop-cons}
use Rattle.facts.proofs.Prelude.{drop-length, take-suc-set, drop-set-lt, leb-true, lt-ltb, ltb-true, eq-eqb, ne_eqb, every, and_left, and_right}
use mir.Val.{Fits}
use mir.Syntax.{w32}
use Rattle.words.specs.Limits.{class_rows}
use Rattle.words.specs.Word.{page_of}
use Rattle.classes.specs.declared.Shape.{Shape}
use Rattle.fields.specs.Field.{arena, page, frontier, free, carved, virgin, words, get, put}
use Rattle.model.specs.Destination.{arena_fate}
use Rattle.pages.specs.way.Pre.{LinkPre}
use Rattle.calls.specs.Release.{relisted, destination_at, park_at, emptied}
use Rattle.pages.specs.Valid.{links_valid}
use Rattle.release.specs.way.Act.{ParkingPre, Parked}
use Rattle.release.proofs.Destinations.{fate-low}
use Rattle.chunks.specs.way.Pass.{place_at, place_all}
use Rattle.chunks.specs.way.PlacePre.{place_valid, PlacePre, Placed}
use Rattle.chunks.proofs.PlaceKept.{Steady, row_out, ties-out, steady-none, virgin-steady, emptied-steady, placed-steady, pre-kept}

pub retires : (b b₁ b₂ : List ℕ) (q : ℕ) → b₁ ≡ put b (page carved q) 0 → b₂ ≡ put b₁ (page free q) 0 → b₂ ≡ emptied b q
unfolding emptied
retires b b₁ b₂ q e k = k ∙ rw e

-- ---- one page
module _ (b : List ℕ) (c : ℕ) (sh : Shape) (h q : ℕ) where
  parked-low : (park_at b c sh h q).fate ≤ arena_fate
  unfolding park_at
  parked-low = fate-low sh (destination_at b c sh)

  pub fate-fits : (m r : ℕ) (b' : List ℕ) → leb m 4 ≡ true → Parked r b' (park_at b c sh h q) → Fits w32 (m + r)
  fate-fits m r b' l p = record { fits = omega (arith, leb-true m 4 l, p.fate, parked-low) }

module _ (b : List ℕ) (c : ℕ) (sh : Shape) (h q : ℕ) (b₁ : List ℕ) (e : b₁ ≡ put b (page virgin q) 0) where
  virgin-pre : ParkingPre b c sh q → ParkingPre b₁ c sh q
  virgin-pre a =
      let hc = lt-ltb c class_rows a.known in
      rw e (pre-kept b c sh q a _ (virgin-steady b c hc b (steady-none b c hc (row_out b c a.row)) q))

  pub place-pre : ParkingPre b c sh q → (b₂ : List ℕ) → b₂ ≡ emptied b₁ q → ParkingPre b₂ c sh q
  place-pre a b₂ k =
      let hc = lt-ltb c class_rows a.known in
      let a₁ = virgin-pre a in
      rw k (pre-kept b₁ c sh q a₁ _ (emptied-steady b₁ c hc b₁ (steady-none b₁ c hc (row_out b₁ c a₁.row)) q))

  pub head-pre : ParkingPre b c sh q → LinkPre b₁ c q
  head-pre a =
      let a₁ = virgin-pre a in
      record { known = a.known; below = a.below; there = a₁.there; head = omega (arith, a₁.low, (row_out b₁ c a₁.row).head) }

  module _ (x y : ℕ) (j : x ≡ get b₁ (page carved q)) (k : y ≡ get b₁ (page free q)) where
    pub goes-retired : (b₂ b₃ : List ℕ) (r k : ℕ) → x ≡ y → b₂ ≡ emptied b₁ q → Parked r b₃ (park_at b₂ c sh h q) → k ≡ 4 + r → Parked k b₃ (place_at b c sh h q)
    unfolding place_at
    goes-retired b₂ b₃ r k' z l p o = rw (← e, ← j, ← k, eq-eqb x y z, ← l) (record { fate = o ∙ ap (λ f. 4 + f) p.fate; left = p.left })

    pub goes-partial : (b₂ : List ℕ) (r : ℕ) → (x ≡ y → ⊥) → b₂ ≡ relisted b₁ c q → r ≡ 0 → Parked r b₂ (place_at b c sh h q)
    unfolding place_at
    goes-partial b₂ r z p o = rw (← e, ← j, ← k, ne_eqb x y z) (record { fate = o; left = p })

-- ---- the loop: what is left to place from here comes to what was asked at the start, and the fates before place i stand
pub record PlaceInv (b : List ℕ) (c : ℕ) (sh : Shape) (h : ℕ) (gs fs b' fs' : List ℕ) (i : ℕ) : Type 0 where
  pub within : i ≤ length gs
  pub size : length fs' ≡ length fs
  pub steady : Steady b c b'
  pub left : (place_all b' c sh h (drop i gs)).book ≡ (place_all b c sh h gs).book
  pub fates : take i fs' ++ ((place_all b' c sh h (drop i gs)).fates ++ drop (length gs) fs') ≡ (place_all b c sh h gs).fates ++ drop (length gs) fs

module _ (c : ℕ) (sh : Shape) (h : ℕ) (b' b'' xs ys : List ℕ) (g q r : ℕ) (d : xs ≡ g ∷ ys) (e : q ≡ page_of g) (p : Parked r b'' (place_at b' c sh h q)) where
  next-book : (place_all b' c sh h xs).book ≡ (place_all b'' c sh h ys).book
  unfolding place_all
  next-book =
      let z : (place_at b' c sh h (page_of g)).book ≡ b'' = rw (← e) (sym p.left) in
      rw d (ap (λ x. (place_all x c sh h ys).book) z)

  next-fates : (place_all b' c sh h xs).fates ≡ r ∷ (place_all b'' c sh h ys).fates
  unfolding place_all
  next-fates = rw (d, ← e, ← p.left, ← p.fate)

one_more : (fs xs ys zs : List ℕ) (n i r : ℕ) → i < n → n ≤ length fs → xs ≡ r ∷ ys → take i fs ++ (xs ++ drop n fs) ≡ zs → take (i + 1) (set fs i r) ++ (ys ++ drop n (set fs i r)) ≡ zs
one_more fs xs ys zs n i r l m e h =
    rw (add-one i, take-suc-set fs i r (omega arith), drop-set-lt n fs i r l, append_assoc) (rw e at h)

every-at : (P : ℕ → Bool) (xs : List ℕ) (i : ℕ) → i < length xs → every P xs ≡ true → P (get_or xs i 0) ≡ true
every-at P [] i l e = absurd (omega arith)
every-at P (x ∷ xs) zero l e = and_left _ _ e
every-at P (x ∷ xs) (suc i) l e = every-at P xs i (omega arith) (and_right (P x) _ e)

module _ (b : List ℕ) (c : ℕ) (sh : Shape) (h : ℕ) (gs fs : List ℕ) (a : PlacePre b c sh gs fs) where
  pub place-starts : PlaceInv b c sh h gs fs b fs 0
  place-starts = record { within = omega arith; size = refl; steady = steady-none b c (lt-ltb c class_rows a.known) (row_out b c a.row); left = refl; fates = refl }

  valid-at : (i : ℕ) → i < length gs → place_valid b (page_of (get_or gs i 0)) ≡ true
  valid-at i l = every-at (λ g. place_valid b (page_of g)) gs i l a.pages

  low-at : (i : ℕ) → i < length gs → page_of (get_or gs i 0) < get b (arena frontier)
  low-at i l = ltb-true (page_of (get_or gs i 0)) (get b (arena frontier)) (and_left _ _ (valid-at i l))

  pub turn-page : (i : ℕ) → i < length gs → page_of (get_or gs i 0) < 2 ^ 32
  turn-page i l = omega (arith, low-at i l, a.few)

  module _ (b' fs' : List ℕ) (i : ℕ) (v : PlaceInv b c sh h gs fs b' fs' i) (l : i < length gs) (q : ℕ) (e : q ≡ page_of (get_or gs i 0)) where
    valid : place_valid b q ≡ true
    valid = rw e (valid-at i l)

    low : q < get b (arena frontier)
    low = rw e (low-at i l)

    links : links_valid b q ≡ true
    links = and_right (ltb q (get b (arena frontier))) _ valid

    there : words (q + 1) ≤ length b
    there = omega (arith, low, a.long)

    pub turn-pre : ParkingPre b' c sh q
    turn-pre =
        pre-kept b c sh q
        (record { known = a.known; sound = a.sound; below = omega (arith, low, a.few); there = there; low = a.long; links = links; row = a.row })
        b'
        v.steady

    pub fate-place : i < length fs'
    fate-place = omega (arith, v.size, a.room)

    pub turn-goes_on : (b'' : List ℕ) (r : ℕ) → Parked r b'' (place_at b' c sh h q) → PlaceInv b c sh h gs fs b'' (set fs' i r) (i + 1)
    turn-goes_on b'' r p =
        let d : drop i gs ≡ get_or gs i 0 ∷ drop (i + 1) gs = rw add-one (drop-cons gs i 0 l) in
        record {
          within = omega arith;
          size = length-set fs' i r ∙ v.size;
          steady = rw p.left (placed-steady b c (lt-ltb c class_rows a.known) q low there sh a.sound h (ties-out b q links) b' v.steady);
          left = sym (next-book c sh h b' b'' (drop i gs) (drop (i + 1) gs) (get_or gs i 0) q r d e p) ∙ v.left;
          fates = one_more fs' _ _ _ (length gs) i r l (omega (arith, v.size, a.room)) (next-fates c sh h b' b'' (drop i gs) (drop (i + 1) gs) (get_or gs i 0) q r d e p) v.fates;
        }

  pub place-ends : (b' fs' : List ℕ) (i : ℕ) → PlaceInv b c sh h gs fs b' fs' i → length gs ≤ i → Placed b' fs' b c sh h gs fs
  unfolding place_all
  place-ends b' fs' i v l =
      let n : i ≡ length gs = omega (arith, v.within) in
      let d : drop i gs ≡ [] = rw n (drop-length gs) in
      record { left = rw d at v.left; fates = sym (take-append-drop (length gs) fs') ∙ rw (d, n) at v.fates }
