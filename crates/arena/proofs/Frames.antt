-- What the arena's stores and the owners' writes leave as it was, and that holes that were stored are loaded again.
use Rattle.facts.proofs.Prelude.{ℕ, zero, suc, ◌+◌, ◌≤◌, ◌<◌, arith, Bool, true, false, ◌&&◌, List, [], ◌∷◌, ◌≡◌, refl, ap}
use Rattle.facts.proofs.Prelude.{◌∙◌, eqb, ltb, leb, length, lt-ltb, ne_eqb, leb-true, by_cases, and_left, and_right, and_no}
use Rattle.words.specs.Limits.{hole_slots}
use Rattle.fields.specs.Field.{Field, arena, mark, class, hole, page, out, slot, ArenaField, state, frontier, holes, hole_pages, commits, commits_high, reuses, reuses_high, abandoned, abandoned_high, start, pages, owner, arena_off, page_off, put, words, HoleField, held, format, hole_off, get}
use Rattle.fields.specs.Ranges.{head_valid}
use Rattle.fields.proofs.Laws.{put_put_same, put-comm, length-put, get_put_same, get-put_other}
use Rattle.fields.proofs.Sound.{head-kept}
use Rattle.fields.proofs.Changes.{Changes, changes-none, changes-put}
use Rattle.model.specs.declared.Hole.{Hole}
use Rattle.model.specs.Arena.{Arena}
use Rattle.arena.specs.Load.{load_hole, load_holes}
use Rattle.arena.specs.Store.{store_hole, store_holes, store_counts, store_top, store_arena}
use Rattle.arena.specs.Owners.{own}
use Rattle.arena.specs.Valid.{record_valid, holes_end_valid, give_valid}

-- as many holes are loaded as are asked for
pub loaded_length : (b : List ℕ) (i k : ℕ) → length (load_holes b i k) ≡ k
unfolding load_holes
loaded_length b i zero = refl
loaded_length b i (suc k) = ap suc (loaded_length b (suc i) k)

-- the words that hold the arena: all of its record but the length and HELD, and the holes
abbrev pub is_stored : Field → Bool
is_stored (arena k) = ltb 0 (arena_off k) && ltb (arena_off k) 11
is_stored (mark p j) = false
is_stored (class k c) = false
is_stored (hole k i) = true
is_stored (page k p) = false
is_stored (out p i) = false
is_stored (slot p i) = false

module _ (b : List ℕ) where
  pub holes_change : (i : ℕ) (hs : List Hole) → i + length hs ≤ hole_slots → Changes is_stored b (store_holes b i hs)
  unfolding store_holes
  holes_change i [] l = changes-none is_stored b
  holes_change i (h ∷ hs) l =
      let o : ltb i hole_slots ≡ true = lt-ltb i hole_slots (omega arith) in
      changes-put is_stored b _ (hole pages i) h.pages o refl (changes-put is_stored b _ (hole start i) h.first o refl (holes_change (suc i) hs (omega arith)))

  changed : (k : ArenaField) → is_stored (arena k) ≡ true → (x : List ℕ) (v : ℕ) → Changes is_stored b x → Changes is_stored b (put x (arena k) v)
  changed k t x v h = changes-put is_stored b x (arena k) v refl t h

  pub record_changes : (x : List ℕ) (c r a s f k t : ℕ) → Changes is_stored b x → Changes is_stored b (store_top (store_counts x c r a) s f k t)
  unfolding store_top store_counts
  record_changes x c r a s f k t h =
      changed hole_pages refl _ _ (changed holes refl _ _ (changed frontier refl _ _ (changed state refl _ _
      (changed abandoned_high refl _ _ (changed abandoned refl _ _ (changed reuses_high refl _ _ (changed reuses refl _ _ (changed commits_high refl _ _ (changed commits refl _ _ h)))))))))

  pub arena-changes : (a : Arena) → length a.store.holes ≤ hole_slots → Changes is_stored b (store_arena b a)
  unfolding store_arena
  arena-changes a l = record_changes _ _ _ _ _ _ _ _ (holes_change 0 a.store.holes (omega arith))

-- ---- the holes that were stored, or that no write came to
pub holes-same : (b b' : List ℕ) (i k : ℕ) → i + k ≤ hole_slots → ((f : HoleField) (j : ℕ) → ltb j hole_slots ≡ true → i ≤ j → get b' (hole f j) ≡ get b (hole f j))
    → load_holes b' i k ≡ load_holes b i k
unfolding load_holes
holes-same b b' i zero l h = refl
holes-same b b' i (suc k) l h =
    let o : ltb i hole_slots ≡ true = lt-ltb i hole_slots (omega arith) in
    rw (h start i o (omega arith), h pages i o (omega arith), holes-same b b' (suc i) k (omega arith) (λ f j u v. h f j u (omega arith)))

module _ (n : ℕ) where
  pub hole-there : (b : List ℕ) (i : ℕ) (h : Hole) → leb (words n) (length b) ≡ true → ltb i hole_slots ≡ true → load_hole (store_hole b i h) i ≡ h
  hole-there b i h hb o =
      let hb' : leb (words n) (length (put b (hole start i) h.first)) ≡ true = rw length-put hb in
      let e : get (store_hole b i h) (hole start i) ≡ h.first
      = get-put_other (put b (hole start i) h.first) (hole pages i) (hole start i) h.pages o o refl ∙ get_put_same n b (hole start i) h.first hb o refl in
      let f : get (store_hole b i h) (hole pages i) ≡ h.pages = get_put_same n (put b (hole start i) h.first) (hole pages i) h.pages hb' o refl in
      rw (e, f)

  pub hole-other : (b : List ℕ) (i j : ℕ) (f : HoleField) (h : Hole) → ltb i hole_slots ≡ true → ltb j hole_slots ≡ true → eqb i j ≡ false
      → get (store_hole b i h) (hole f j) ≡ get b (hole f j)
  hole-other b i j f h o v d =
      get-put_other (put b (hole start i) h.first) (hole pages i) (hole f j) h.pages o v (rw (d, and_no (eqb (hole_off pages) (hole_off f))))
      ∙ get-put_other b (hole start i) (hole f j) h.first o v (rw (d, and_no (eqb (hole_off start) (hole_off f))))

  pub holes-there : (b : List ℕ) (i : ℕ) (hs : List Hole) → leb (words n) (length b) ≡ true → i + length hs ≤ hole_slots → load_holes (store_holes b i hs) i (length hs) ≡ hs
  unfolding load_holes store_holes
  holes-there b i [] hb l = refl
  holes-there b i (h ∷ hs) hb l =
      let c = store_holes b (suc i) hs in
      let o : ltb i hole_slots ≡ true = lt-ltb i hole_slots (omega arith) in
      let hc : leb (words n) (length c) ≡ true = rw (holes_change b (suc i) hs (omega arith)).long hb in
      rw (hole-there c i h hc o)
      (ap (λ l. h ∷ l) (holes-same c (store_hole c i h) (suc i) (length hs) (omega arith) (λ f j v u. hole-other c i j f h o v (ne_eqb i j (λ e. omega arith)))
      ∙ holes-there b (suc i) hs hb (omega arith)))

-- number 13's test of a give, on a book with the same words
module _ (n : ℕ) (b b' : List ℕ) (k : (f : ArenaField) → get b' (arena f) ≡ get b (arena f)) where
  record_kept : record_valid n b' ≡ record_valid n b
  unfolding record_valid
  record_kept = rw (k state, head-kept b b' (k format) n (k frontier), k holes, k hole_pages, k held)

  few-holes : record_valid n b ≡ true → get b (arena holes) ≤ hole_slots
  unfolding record_valid
  few-holes e = leb-true _ hole_slots (and_left _ _ (and_right (head_valid n b) _ (and_right (leb (get b (arena state)) 2) _ e)))

  pub give_kept : ((f : HoleField) (j : ℕ) → ltb j hole_slots ≡ true → get b' (hole f j) ≡ get b (hole f j)) → (m : ℕ) → give_valid n b' m ≡ give_valid n b m
  unfolding give_valid holes_end_valid
  give_kept h m =
      by_cases (record_valid n b)
      (λ t. rw (record_kept, t, k held, k frontier, k holes, holes-same b b' 0 (get b (arena holes)) (let z = few-holes t in omega arith) (λ f j o l. h f j o)))
      (λ t. rw (record_kept, t))

-- ---- owners
abbrev pub is_owner : Field → Bool
is_owner (arena k) = false
is_owner (mark p j) = false
is_owner (class k c) = false
is_owner (hole k i) = false
is_owner (page k p) = eqb (page_off k) 0
is_owner (out p i) = false
is_owner (slot p i) = false

pub own-changes : (b x : List ℕ) (q m w : ℕ) → Changes is_owner b x → Changes is_owner b (own x q m w)
unfolding own
own-changes b x q zero w k = k
own-changes b x q (suc m) w k = own-changes b (put x (page owner q) w) (suc q) m w (changes-put is_owner b x (page owner q) w refl refl k)

-- an owner written before later pages' owners, or after
own-past : (b : List ℕ) (p w q m v : ℕ) → p < q → own (put b (page owner p) w) q m v ≡ put (own b q m v) (page owner p) w
unfolding own
own-past b p w q zero v l = refl
own-past b p w q (suc m) v l =
    ap (λ x. own x (suc q) m v) (put-comm b (page owner p) (page owner q) w v refl refl (ne_eqb p q (λ e. omega arith)))
    ∙ own-past (put b (page owner q) v) p w (suc q) m v (omega arith)

-- the owner that is written last stays
pub own-twice : (n : ℕ) (b : List ℕ) → leb (words n) (length b) ≡ true → (q m v w : ℕ) → q + m ≤ n → own (own b q m v) q m w ≡ own b q m w
unfolding own
own-twice n b hb q zero v w l = refl
own-twice n b hb q (suc m) v w l =
    rw (← (own-past (put b (page owner q) v) q w (suc q) m v (omega arith)), put_put_same n b (page owner q) v w hb (lt-ltb q n (omega arith)))
    (own-twice n (put b (page owner q) w) (rw length-put hb) (suc q) m v w (omega arith))
