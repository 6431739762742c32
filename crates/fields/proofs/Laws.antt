-- The laws of the book's fields: reading after a write, two writes, and the length.
--     get-put-same, get-put-other    what is read after a write: at the field itself, and at another
--     put-put-same, put-comm         two writes: at one field, and at two
--     put-get                        a write of what is there changes nothing
--     length-put                     a write keeps the length
--     get-room                       what is read is a value that the field can hold
-- All arithmetic of the layout is in `separate` and, for the fields of pages, in the laws on `Lies` before it.
use Rattle.facts.proofs.Prelude.{ℕ, ◌+◌, ◌*◌, ◌/◌, ◌≤◌, ◌<◌, arith, true, false, ◌&&◌, List, ◌⊎◌, inl, inr, ◌≢◌, ⊎_elim, ◌≡◌, refl, sym}
use Rattle.facts.proofs.Prelude.{ap, ◌∙◌, eqb, ltb, leb, length, get_or, set, length-set, get_or-set_same, get_or-set_other, set-get_or, set-set}
use Rattle.facts.proofs.Prelude.{set_comm, set_out, leb-true, ltb-true, ltb-false, eqb-false, lt-ltb, by_cases, and_left, and_right}
use Rattle.facts.proofs.Bools.{and-false}
use native.Mathlib.Decide.{ℕ_discrete, dec_le}
use Rattle.fields.specs.Field.{Field, arena, mark, class, hole, page, out, slot, ArenaField, ClassField, HoleField, PageField, arena_off, class_off, hole_off, page_off, pair, word, Part, bits, part, read, place, get, put, same, ok, in_book, words, room}
use Rattle.fields.proofs.Parts.{Split, below, above, holdable, read-place, read_small, place_read, place-place, read-place_other, place-comm}

-- ---- the offsets
pub arena_off-lt : (k : ArenaField) → arena_off k < 13
arena_off-lt ArenaField.size = omega arith
arena_off-lt ArenaField.state = omega arith
arena_off-lt ArenaField.frontier = omega arith
arena_off-lt ArenaField.holes = omega arith
arena_off-lt ArenaField.hole_pages = omega arith
arena_off-lt ArenaField.commits = omega arith
arena_off-lt ArenaField.commits_high = omega arith
arena_off-lt ArenaField.reuses = omega arith
arena_off-lt ArenaField.reuses_high = omega arith
arena_off-lt ArenaField.abandoned = omega arith
arena_off-lt ArenaField.abandoned_high = omega arith
arena_off-lt ArenaField.held = omega arith
arena_off-lt ArenaField.format = omega arith

-- the last word of a row has no field
pub class_off-lt : (k : ClassField) → class_off k < 7
class_off-lt ClassField.partial = omega arith
class_off-lt ClassField.empty = omega arith
class_off-lt ClassField.empty_count = omega arith
class_off-lt ClassField.cold = omega arith
class_off-lt ClassField.cold_count = omega arith
class_off-lt ClassField.empty_limit = omega arith
class_off-lt ClassField.cold_limit = omega arith

pub hole_off-lt : (k : HoleField) → hole_off k < 2
hole_off-lt HoleField.start = omega arith
hole_off-lt HoleField.pages = omega arith

pub page_off-lt : (k : PageField) → page_off k < 16
page_off-lt PageField.owner = omega arith
page_off-lt PageField.first = omega arith
page_off-lt PageField.next = omega arith
page_off-lt PageField.prev = omega arith
page_off-lt PageField.free = omega arith
page_off-lt PageField.carved = omega arith
page_off-lt PageField.listed = omega arith
page_off-lt PageField.virgin = omega arith
page_off-lt PageField.tally = omega arith

-- ---- a page's field: OWNER and FIRST lie in the page's pair, the others in its own words
Lies : PageField → ℕ → Type 0
Lies k p = ((page_off k < 2) × (word (page k p) ≡ pair p + page_off k)) ⊎ ((2 ≤ page_off k) × (page_off k < 16) × (word (page k p) ≡ 40000 + 4112 * p + page_off k))

lies : (k : PageField) (p : ℕ) → Lies k p
unfolding Lies
lies k p = by_cases (ltb (page_off k) 2) (λ e. inl (ltb-true _ _ e, rw e)) (λ e. inr (ltb-false _ _ e, page_off-lt k, rw e))

-- it is past the rows and the holes
past_head : (k : PageField) (p : ℕ) → 40000 ≤ word (page k p)
unfolding Lies
past_head k p = ⊎_elim (λ h. omega arith) (λ h. omega arith) (lies k p)

-- it is in the book of every arena that has the page
page_in_lem : (k : PageField) (p n : ℕ) → p < n → word (page k p) < words n
unfolding Lies
page_in_lem k p n l = ⊎_elim (λ h. omega arith) (λ h. omega arith) (lies k p)

-- it is none of a page's out bits, marks and stack
aside : (k : PageField) (p q r : ℕ) → 16 ≤ r → r < 2320 → word (page k p) ≡ 40000 + 4112 * q + r → ⊥
unfolding Lies
aside k p q r lo hi e = ⊎_elim (λ h. omega arith) (λ h. omega arith) (lies k p)

-- two in one word are one
one-page : (k l : PageField) (p q : ℕ) → word (page k p) ≡ word (page l q) → (page_off k ≡ page_off l) × (p ≡ q)
unfolding Lies
one-page k l p q e =
    ⊎_elim (λ h. ⊎_elim (λ i. omega arith) (λ i. omega arith) (lies l q)) (λ h. ⊎_elim (λ i. omega arith) (λ i. omega arith) (lies l q)) (lies k p)

-- ---- tests

both : (k l x y : ℕ) → (eqb k l && eqb x y) ≡ false → k ≡ l → x ≡ y → ⊥
both k l x y e u v = ⊎_elim (λ z. eqb-false k l z u) (λ z. eqb-false x y z v) (and-false _ _ e)

-- ---- two fields lie in different words, or in different bits of one
Separate : Field → Field → Type 0
Separate f g = (word f ≢ word g) ⊎ ((word f ≡ word g) × Split (part f) (part g))

apart : (x y : ℕ) → (x ≡ y → ⊥) → (x < y) ⊎ (y < x)
apart x y d = elim (dec_le y x) [ yes h ↦ inr (omega arith) | no h ↦ inl (omega arith) ]

singles : (x y : ℕ) → (x < y) ⊎ (y < x) → Split (bits x 1) (bits y 1)
singles x y (inl h) = let l : x + 1 ≤ y = omega arith in below l
singles x y (inr h) = let l : y + 1 ≤ x = omega arith in above l

halves : (x y : ℕ) → (x < y) ⊎ (y < x) → Split (bits (16 * x) 16) (bits (16 * y) 16)
halves x y (inl h) = let l : 16 * x + 16 ≤ 16 * y = omega arith in below l
halves x y (inr h) = let l : 16 * y + 16 ≤ 16 * x = omega arith in above l

outs : (p q i j : ℕ) → i < 4096 → j < 4096 → (eqb i j && eqb p q) ≡ false → Separate (out p i) (out q j)
unfolding Separate
outs p q i j hi hj e =
    elim (ℕ_discrete (word (out p i)) (word (out q j))) [
      | yes z ↦ inr (z, singles _ _ (apart _ _ (λ t. both i j p q e (omega arith) (omega arith))))
      | no z ↦ inl z
    ]

slots : (p q i j : ℕ) → i < 4096 → j < 4096 → (eqb i j && eqb p q) ≡ false → Separate (slot p i) (slot q j)
unfolding Separate
slots p q i j hi hj e =
    elim (ℕ_discrete (word (slot p i)) (word (slot q j))) [
      | yes z ↦ inr (z, halves _ _ (apart _ _ (λ t. both i j p q e (omega arith) (omega arith))))
      | no z ↦ inl z
    ]

separate : (f g : Field) → ok f ≡ true → ok g ≡ true → same f g ≡ false → Separate f g
unfolding Separate
separate (arena k) (arena l) u v e = inl (λ z. both (arena_off k) (arena_off l) 0 0 e z refl)
separate (arena k) (mark q j) u v e = inl (λ z. omega (arith, ltb-true, arena_off-lt k))
separate (arena k) (class l d) u v e = inl (λ z. omega (arith, ltb-true, arena_off-lt k, class_off-lt l))
separate (arena k) (hole l j) u v e = inl (λ z. omega (arith, ltb-true, arena_off-lt k, hole_off-lt l))
separate (arena k) (page l q) u v e = inl (λ z. omega (arith, arena_off-lt k, past_head l q))
separate (arena k) (out q j) u v e = inl (λ z. omega (arith, ltb-true, arena_off-lt k))
separate (arena k) (slot q j) u v e = inl (λ z. omega (arith, ltb-true, arena_off-lt k))
separate (mark p i) (arena l) u v e = inl (λ z. omega (arith, ltb-true, arena_off-lt l))
separate (mark p i) (mark q j) u v e = inl (λ z. both i j p q e (omega (arith, ltb-true)) (omega (arith, ltb-true)))
separate (mark p i) (class l d) u v e = inl (λ z. omega (arith, ltb-true, class_off-lt l))
separate (mark p i) (hole l j) u v e = inl (λ z. omega (arith, ltb-true, hole_off-lt l))
separate (mark p i) (page l q) u v e = inl (λ z. aside l q p (144 + i) (omega arith) (omega (arith, ltb-true)) (omega (arith, z)))
separate (mark p i) (out q j) u v e = inl (λ z. omega (arith, ltb-true))
separate (mark p i) (slot q j) u v e = inl (λ z. omega (arith, ltb-true))
separate (class k c) (arena l) u v e = inl (λ z. omega (arith, ltb-true, class_off-lt k, arena_off-lt l))
separate (class k c) (mark q j) u v e = inl (λ z. omega (arith, ltb-true, class_off-lt k))
separate (class k c) (class l d) u v e = inl (λ z. both (class_off k) (class_off l) c d e (omega (arith, ltb-true, class_off-lt k, class_off-lt l)) (omega (arith, ltb-true, class_off-lt k, class_off-lt l)))
separate (class k c) (hole l j) u v e = inl (λ z. omega (arith, ltb-true, class_off-lt k, hole_off-lt l))
separate (class k c) (page l q) u v e = inl (λ z. omega (arith, ltb-true, class_off-lt k, past_head l q))
separate (class k c) (out q j) u v e = inl (λ z. omega (arith, ltb-true, class_off-lt k))
separate (class k c) (slot q j) u v e = inl (λ z. omega (arith, ltb-true, class_off-lt k))
separate (hole k i) (arena l) u v e = inl (λ z. omega (arith, ltb-true, hole_off-lt k, arena_off-lt l))
separate (hole k i) (mark q j) u v e = inl (λ z. omega (arith, ltb-true, hole_off-lt k))
separate (hole k i) (class l d) u v e = inl (λ z. omega (arith, ltb-true, hole_off-lt k, class_off-lt l))
separate (hole k i) (hole l j) u v e = inl (λ z. both (hole_off k) (hole_off l) i j e (omega (arith, ltb-true, hole_off-lt k, hole_off-lt l)) (omega (arith, ltb-true, hole_off-lt k, hole_off-lt l)))
separate (hole k i) (page l q) u v e = inl (λ z. omega (arith, ltb-true, hole_off-lt k, past_head l q))
separate (hole k i) (out q j) u v e = inl (λ z. omega (arith, ltb-true, hole_off-lt k))
separate (hole k i) (slot q j) u v e = inl (λ z. omega (arith, ltb-true, hole_off-lt k))
separate (page k p) (arena l) u v e = inl (λ z. omega (arith, past_head k p, arena_off-lt l))
separate (page k p) (mark q j) u v e = inl (λ z. aside k p q (144 + j) (omega arith) (omega (arith, ltb-true)) (omega (arith, z)))
separate (page k p) (class l d) u v e = inl (λ z. omega (arith, ltb-true, past_head k p, class_off-lt l))
separate (page k p) (hole l j) u v e = inl (λ z. omega (arith, ltb-true, past_head k p, hole_off-lt l))
separate (page k p) (page l q) u v e = inl (λ z. both (page_off k) (page_off l) p q e (one-page k l p q z).0 (one-page k l p q z).1)
separate (page k p) (out q j) u v e = inl (λ z. aside k p q (16 + j / 32) (omega arith) (omega (arith, ltb-true)) (omega (arith, z)))
separate (page k p) (slot q j) u v e = inl (λ z. aside k p q (272 + j / 2) (omega arith) (omega (arith, ltb-true)) (omega (arith, z)))
separate (out p i) (arena l) u v e = inl (λ z. omega (arith, ltb-true, arena_off-lt l))
separate (out p i) (mark q j) u v e = inl (λ z. omega (arith, ltb-true))
separate (out p i) (class l d) u v e = inl (λ z. omega (arith, ltb-true, class_off-lt l))
separate (out p i) (hole l j) u v e = inl (λ z. omega (arith, ltb-true, hole_off-lt l))
separate (out p i) (page l q) u v e = inl (λ z. aside l q p (16 + i / 32) (omega arith) (omega (arith, ltb-true)) (omega (arith, z)))
separate (out p i) (out q j) u v e = outs p q i j (ltb-true _ _ u) (ltb-true _ _ v) e
separate (out p i) (slot q j) u v e = inl (λ z. omega (arith, ltb-true))
separate (slot p i) (arena l) u v e = inl (λ z. omega (arith, ltb-true, arena_off-lt l))
separate (slot p i) (mark q j) u v e = inl (λ z. omega (arith, ltb-true))
separate (slot p i) (class l d) u v e = inl (λ z. omega (arith, ltb-true, class_off-lt l))
separate (slot p i) (hole l j) u v e = inl (λ z. omega (arith, ltb-true, hole_off-lt l))
separate (slot p i) (page l q) u v e = inl (λ z. aside l q p (272 + i / 2) (omega arith) (omega (arith, ltb-true)) (omega (arith, z)))
separate (slot p i) (out q j) u v e = inl (λ z. omega (arith, ltb-true))
separate (slot p i) (slot q j) u v e = slots p q i j (ltb-true _ _ u) (ltb-true _ _ v) e

-- ---- what a field holds
holds : (f : Field) (v : ℕ) → room f v ≡ true → holdable (part f) v
holds (arena k) v e = tt
holds (mark p j) v e = tt
holds (class k c) v e = tt
holds (hole k i) v e = tt
holds (page k p) v e = tt
holds (out p i) v e = ltb-true v 2 e
holds (slot p i) v e = ltb-true v 65536 e

pub get-room : (b : List ℕ) (f : Field) → room f (get b f) ≡ true
unfolding get
get-room b (arena k) = refl
get-room b (mark p j) = refl
get-room b (class k c) = refl
get-room b (hole k i) = refl
get-room b (page k p) = refl
get-room b (out p i) = lt-ltb _ _ (read_small _ 1 (get_or b (word (out p i)) 0))
get-room b (slot p i) = lt-ltb _ _ (read_small _ 16 (get_or b (word (slot p i)) 0))

-- ---- a field of a book of n pages lies in it
pub within : (n : ℕ) (f : Field) → in_book n f ≡ true → word f < words n
within n (arena k) e = omega (arith, arena_off-lt k)
within n (mark p j) e =
    omega (arith, ltb-true j 128 (and_left _ (ltb p n) e), ltb-true p n (and_right (ltb j 128) _ e))
within n (class k c) e = omega (arith, ltb-true, class_off-lt k)
within n (hole k i) e = omega (arith, ltb-true, hole_off-lt k)
within n (page k p) e = page_in_lem k p n (ltb-true p n e)
within n (out p i) e =
    omega (arith, ltb-true i 4096 (and_left _ (ltb p n) e), ltb-true p n (and_right (ltb i 4096) _ e))
within n (slot p i) e =
    omega (arith, ltb-true i 4096 (and_left _ (ltb p n) e), ltb-true p n (and_right (ltb i 4096) _ e))

-- ---- the laws
pub length-put : (b : List ℕ) (f : Field) (v : ℕ) → length (put b f v) ≡ length b
unfolding put
length-put b f v = simp length-set

pub get_put_same : (n : ℕ) (b : List ℕ) (f : Field) (v : ℕ) → leb (words n) (length b) ≡ true → in_book n f ≡ true → room f v ≡ true → get (put b f v) f ≡ v
unfolding get put
get_put_same n b f v hb hf hv =
    ap (read (part f)) (get_or-set_same b (word f) _ 0 (omega (arith, leb-true, within n f hf)))
    ∙ read-place (part f) (get_or b (word f) 0) v (holds f v hv)

pub put-get : (b : List ℕ) (f : Field) → put b f (get b f) ≡ b
unfolding get put
put-get b f = ap (set b (word f)) (place_read (part f) (get_or b (word f) 0)) ∙ set-get_or b (word f) 0

pub put_put_same : (n : ℕ) (b : List ℕ) (f : Field) (u v : ℕ) → leb (words n) (length b) ≡ true → in_book n f ≡ true → put (put b f u) f v ≡ put b f v
unfolding put
put_put_same n b f u v hb hf =
    set-set b (word f) _ _
    ∙ ap (set b (word f)) (ap (λ w. place (part f) w v) (get_or-set_same b (word f) _ 0 (omega (arith, leb-true, within n f hf)))
    ∙ place-place (part f) (get_or b (word f) 0) u v)

-- two parts of one word, and of two words
module _ {p q : Part} (b : List ℕ) (x : ℕ) (s : Split p q) where
  one_word-read : (v : ℕ) → (x < length b) ⊎ (length b ≤ x) → read q (get_or (set b x (place p (get_or b x 0) v)) x 0) ≡ read q (get_or b x 0)
  one_word-read v (inl h) = rw get_or-set_same (read-place_other (get_or b x 0) v s)
  one_word-read v (inr h) = rw set_out

  one_word-place : (u v : ℕ) → (x < length b) ⊎ (length b ≤ x)
      → set (set b x (place p (get_or b x 0) u)) x (place q (get_or (set b x (place p (get_or b x 0) u)) x 0) v)
      ≡ set (set b x (place q (get_or b x 0) v)) x (place p (get_or (set b x (place q (get_or b x 0) v)) x 0) u)
  one_word-place u v (inl h) = simp (get_or-set_same, set-set) (ap (set b x) (place-comm (get_or b x 0) u v s))
  one_word-place u v (inr h) = simp set_out

lt_or_le : (x n : ℕ) → (x < n) ⊎ (n ≤ x)
lt_or_le x n = elim (dec_le n x) [ yes h ↦ inr h | no h ↦ inl (omega arith) ]

two-words_read : (b : List ℕ) (p q : Part) (x y v : ℕ) → (x ≢ y) ⊎ ((x ≡ y) × Split p q)
    → read q (get_or (set b x (place p (get_or b x 0) v)) y 0) ≡ read q (get_or b y 0)
two-words_read b p q x y v (inl z) = ap (read q) (get_or-set_other b x y _ 0 (λ e. z (sym e)))
two-words_read b p q x y v (inr z) = rw (← z.0) (one_word-read b x z.1 v (lt_or_le x (length b)))

two_words_place : (b : List ℕ) (p q : Part) (x y u v : ℕ) → (x ≢ y) ⊎ ((x ≡ y) × Split p q)
    → set (set b x (place p (get_or b x 0) u)) y (place q (get_or (set b x (place p (get_or b x 0) u)) y 0) v)
    ≡ set (set b y (place q (get_or b y 0) v)) x (place p (get_or (set b y (place q (get_or b y 0) v)) x 0) u)
two_words_place b p q x y u v (inl z) =
    rw (get_or-set_other b x y _ 0 (λ e. z (sym e)), get_or-set_other b y x _ 0 z) (set_comm b x y _ _ z)
two_words_place b p q x y u v (inr z) = rw (← z.0) (one_word-place b x z.1 u v (lt_or_le x (length b)))

pub get-put_other : (b : List ℕ) (f g : Field) (v : ℕ) → ok f ≡ true → ok g ≡ true → same f g ≡ false → get (put b f v) g ≡ get b g
unfolding get put Separate
get-put_other b f g v hf hg d = two-words_read b (part f) (part g) (word f) (word g) v (separate f g hf hg d)

pub put-comm : (b : List ℕ) (f g : Field) (u v : ℕ) → ok f ≡ true → ok g ≡ true → same f g ≡ false → put (put b f u) g v ≡ put (put b g v) f u
unfolding put Separate
put-comm b f g u v hf hg d = two_words_place b (part f) (part g) (word f) (word g) u v (separate f g hf hg d)
