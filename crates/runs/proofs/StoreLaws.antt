-- Writing only what changed is storing everything.
--     holes-kept       the holes that the words hold, stored again, change no word
--     loaded-set       one hole written: one of the loaded list changes
--     holes-set        one hole changed: one hole written
--     holes-append     a hole appended: one hole written
--     holes-removed    a hole of the loaded list used up: the last one written in its place
use Rattle.facts.proofs.Prelude.{ℕ, zero, suc, ◌+◌, ◌≤◌, ◌<◌, arith, add-zero, true, false, List, [], ◌∷◌, ◌++◌, ◌≡◌}
use Rattle.facts.proofs.Prelude.{refl, sym, ap, ◌∙◌, eqb, ltb, leb, length, lt-ltb, ltb-true, ne_eqb, ltb-false, by_cases}
use Rattle.words.specs.Limits.{hole_slots}
use Rattle.fields.specs.Field.{Field, hole, start, pages, put, same, ok, words}
use Rattle.fields.proofs.Laws.{put-get, put_put_same, put-comm, length-put}
use Rattle.model.specs.declared.Hole.{Hole}
use Rattle.model.specs.HoleStore.{hole_at, set_at, remove_at, without_last, last_hole}
use Rattle.model.proofs.HoleLists.{set-length}
use Rattle.arena.specs.Load.{load_hole, load_holes}
use Rattle.arena.proofs.Frames.{loaded_length, hole-there, hole-other, holes-same}
use Rattle.arena.specs.Store.{store_hole, store_holes}

-- ---- one hole
-- another field's write goes past a hole's
pub put-hole : (b : List ℕ) (f : Field) (v i : ℕ) (h : Hole) → ok f ≡ true → ltb i hole_slots ≡ true → same f (hole start i) ≡ false → same f (hole pages i) ≡ false
    → store_hole (put b f v) i h ≡ put (store_hole b i h) f v
put-hole b f v i h of oi d e =
    ap (λ x. put x (hole pages i) h.pages) (put-comm b f (hole start i) v h.first of oi d)
    ∙ put-comm (put b (hole start i) h.first) f (hole pages i) v h.pages of oi e

pub hole-comm : (b : List ℕ) (i j : ℕ) (x y : Hole) → ltb i hole_slots ≡ true → ltb j hole_slots ≡ true → eqb i j ≡ false
    → store_hole (store_hole b i x) j y ≡ store_hole (store_hole b j y) i x
hole-comm b i j x y oi oj d =
    put-hole (put b (hole start i) x.first) (hole pages i) x.pages j y oi oj refl d
    ∙ ap (λ z. put z (hole pages i) x.pages) (put-hole b (hole start i) x.first j y oi oj d refl)

pub hole-length : (b : List ℕ) (i : ℕ) (x : Hole) → length (store_hole b i x) ≡ length b
hole-length b i x = simp length-put

pub hole-twice : (n : ℕ) (b : List ℕ) (i : ℕ) (x y : Hole) → leb (words n) (length b) ≡ true → ltb i hole_slots ≡ true
    → store_hole (store_hole b i x) i y ≡ store_hole b i y
hole-twice n b i x y hb oi =
    ap (λ z. put z (hole pages i) y.pages) (put-comm (put b (hole start i) x.first) (hole pages i) (hole start i) x.pages y.first oi oi refl
    ∙ ap (λ z. put z (hole pages i) x.pages) (put_put_same n b (hole start i) x.first y.first hb oi))
    ∙ put_put_same n (put b (hole start i) y.first) (hole pages i) x.pages y.pages (rw length-put hb) oi

pub hole-kept : (b : List ℕ) (i : ℕ) → store_hole b i (load_hole b i) ≡ b
hole-kept b i = simp put-get

-- ---- the list of holes
pub holes-length : (b : List ℕ) (i : ℕ) (hs : List Hole) → length (store_holes b i hs) ≡ length b
unfolding store_holes
holes-length b i [] = refl
holes-length b i (h ∷ hs) = hole-length (store_holes b (suc i) hs) i h ∙ holes-length b (suc i) hs

-- what is loaded and stored again changes nothing
pub holes-kept : (b : List ℕ) (i k : ℕ) → store_holes b i (load_holes b i k) ≡ b
unfolding load_holes store_holes
holes-kept b i zero = refl
holes-kept b i (suc k) = rw (holes-kept b (suc i) k) (hole-kept b i)

-- one hole written: one of the loaded list changes
pub loaded_set : (n : ℕ) (b : List ℕ) → leb (words n) (length b) ≡ true → (j i k : ℕ) (v : Hole) → j + k ≤ hole_slots → j + i < hole_slots → load_holes (store_hole b (j + i) v) j k ≡ set_at i v (load_holes b j k)
unfolding load_holes
loaded_set n b hb j i zero v l u = refl
loaded_set n b hb j zero (suc k) v l u =
    let o : ltb j hole_slots ≡ true = lt-ltb j hole_slots (omega arith) in
    let same_rest = ap (λ hs. v ∷ hs) (holes-same b (store_hole b j v) (suc j) k (omega arith) (λ f x y z. hole-other n b j x f v o y (ne_eqb j x (λ e. omega arith)))) in
    let here : load_holes (store_hole b j v) j (suc k) ≡ set_at zero v (load_holes b j (suc k)) = rw (hole-there n b j v hb o) same_rest in
    ap (λ (z : ℕ). load_holes (store_hole b z v) j (suc k)) (add-zero j) ∙ here
loaded_set n b hb j (suc i) (suc k) v l u =
    let o : ltb (j + suc i) hole_slots ≡ true = lt-ltb (j + suc i) hole_slots u in
    let d : ltb j hole_slots ≡ true = lt-ltb j hole_slots (omega arith) in
    let e : suc j + i ≡ j + suc i = omega arith in
    let ne = ne_eqb (j + suc i) j (λ z. omega arith) in
    rw (hole-other n b (j + suc i) j start v o d ne, hole-other n b (j + suc i) j pages v o d ne)
    (ap (λ hs. load_hole b j ∷ hs) (ap (λ x. load_holes (store_hole b x v) (suc j) k) (sym e) ∙ loaded_set n b hb (suc j) i k v (omega arith) (omega arith)))

-- one hole of any list changed
pub holes-set : (n : ℕ) (b : List ℕ) → leb (words n) (length b) ≡ true → (i j : ℕ) (x : Hole) (hs : List Hole) → i + length hs ≤ hole_slots → j < length hs
    → store_holes b i (set_at j x hs) ≡ store_hole (store_holes b i hs) (i + j) x
unfolding store_holes
holes-set n b hb i j x [] l u = absurd (omega arith)
holes-set n b hb i zero x (h ∷ hs) l u =
    rw add-zero (sym (hole-twice n (store_holes b (suc i) hs) i h x (rw holes-length hb) (lt-ltb i hole_slots (omega arith))))
holes-set n b hb i (suc j) x (h ∷ hs) l u =
    let e : suc i + j ≡ i + suc j = omega arith in
    rw (holes-set n b hb (suc i) j x hs (omega arith) (omega arith), e)
    (hole-comm (store_holes b (suc i) hs) (i + suc j) i x h (lt-ltb (i + suc j) hole_slots (omega arith)) (lt-ltb i hole_slots (omega arith)) (ne_eqb (i + suc j) i (λ z. omega arith)))

-- a hole appended to any list
pub holes-append : (b : List ℕ) (i : ℕ) (hs : List Hole) (x : Hole) → i + length hs < hole_slots
    → store_holes b i (hs ++ x ∷ []) ≡ store_hole (store_holes b i hs) (i + length hs) x
unfolding store_holes
holes-append b i [] x l = rw add-zero
holes-append b i (h ∷ hs) x l =
    let e : suc i + length hs ≡ i + suc (length hs) = omega arith in
    rw (holes-append b (suc i) hs x (omega arith), e)
    (hole-comm (store_holes b (suc i) hs) (i + suc (length hs)) i x h (lt-ltb (i + suc (length hs)) hole_slots (omega arith)) (lt-ltb i hole_slots (omega arith)) (ne_eqb (i + suc (length hs)) i (λ z. omega arith)))

-- the loaded list by index, its last hole, and what is before it
pub loaded_at : (b : List ℕ) (i k j : ℕ) → j < k → hole_at j (load_holes b i k) ≡ load_hole b (i + j)
unfolding load_holes
loaded_at b i zero j l = absurd (omega arith)
loaded_at b i (suc k) zero l = rw add-zero
loaded_at b i (suc k) (suc j) l = let e : suc i + j ≡ i + suc j = omega arith in loaded_at b (suc i) k j (omega arith) ∙ rw e

pub loaded_last : (b : List ℕ) (i k : ℕ) → last_hole (load_holes b i (suc k)) ≡ load_hole b (i + k)
unfolding load_holes
loaded_last b i zero = rw add-zero
loaded_last b i (suc k) = let e : suc i + k ≡ i + suc k = omega arith in loaded_last b (suc i) k ∙ rw e

pub loaded_front : (b : List ℕ) (i k : ℕ) → without_last (load_holes b i (suc k)) ≡ load_holes b i k
unfolding load_holes
loaded_front b i zero = refl
loaded_front b i (suc k) = ap (λ l. load_hole b i ∷ l) (loaded_front b (suc i) k)

pub set_past : (j : ℕ) (x : Hole) (hs : List Hole) → length hs ≤ j → set_at j x hs ≡ hs
set_past j x [] l = refl
set_past zero x (h ∷ hs) l = absurd (omega arith)
set_past (suc j) x (h ∷ hs) l = ap (λ z. h ∷ z) (set_past j x hs (omega arith))

-- a hole of the loaded list used up: the last one comes into its place, or it was the last one
pub holes_removed : (n : ℕ) (b : List ℕ) → leb (words n) (length b) ≡ true → (k j : ℕ) → suc k ≤ hole_slots → j < suc k
    → store_holes b 0 (remove_at j (load_holes b 0 (suc k))) ≡ store_hole b j (load_hole b k)
holes_removed n b hb k j l u =
    let e : 0 + k ≡ k = omega arith in
    let z : 0 + j ≡ j = omega arith in
    rw (loaded_last b 0 k, loaded_front b 0 k, e)
    (by_cases (ltb j k)
    (λ t. holes-set n b hb 0 j (load_hole b k) (load_holes b 0 k) (rw (loaded_length b 0 k) (omega arith)) (rw (loaded_length b 0 k) (ltb-true j k t))
    ∙ rw (holes-kept b 0 k, z))
    (λ t. let w : j ≡ k = (let y = ltb-false j k t in omega arith) in
    rw (set_past j (load_hole b k) (load_holes b 0 k) (rw (loaded_length b 0 k, w) (omega arith)), holes-kept b 0 k, w) (sym (hole-kept b k))))

pub removed_length : (b : List ℕ) (k j : ℕ) → length (remove_at j (load_holes b 0 (suc k))) ≡ k
removed_length b k j = rw (loaded_front b 0 k) (set-length j (last_hole (load_holes b 0 (suc k))) (load_holes b 0 k) ∙ loaded_length b 0 k)
