-- The blocks of a trace that are out are the entries not yet released, and their bytes are of the arena.
--     live-next      one call more
--     still-append   a take adds its entries
--     still_back     a release of one place takes just that entry away
--     live-bytes     the bytes of the entries not yet released are at most the arena's
use Rattle.facts.proofs.Prelude.{ℕ, zero, suc, ◌+◌, ◌-◌, ◌*◌, ◌≤◌, arith, Bool, true, cond, not, false≢true, List, [], ◌∷◌, ◌++◌, map, inl, inr}
use Rattle.facts.proofs.Prelude.{◌≡◌, refl, sym, ap, ◌∙◌, eqb, ltb, length, eq-eqb, eqb-true, ltb-true, ltb-false, le-ltb, total, filter, by_cases, and_no}
use Rattle.classes.specs.Sizes.{page_bytes}
use Rattle.classes.proofs.Shapes.{shape-sound}
use Rattle.rules.specs.Rules.{rules_of}
use Rattle.fields.specs.Ranges.{max_pages}
use Rattle.model.specs.Cover.{covers}
use Rattle.model.specs.Calls.{Call, names}
use Rattle.model.specs.Heap.{Heap, step, new_heap}
use Rattle.model.specs.History.{events_from, events, heap_from, heap_after}
use Rattle.model.specs.Entries.{Entry, In, HasByte, has_word, first_byte, block_bytes}
use Rattle.model.proofs.Fold.{live_next, live_from, in_live}
use Rattle.model.proofs.EntryCounts.{at, in_total}
use Rattle.model.proofs.Runs.{covers_in, covers-before, covers-after}
use Rattle.model.proofs.HeapLaws.{kept}
use Rattle.model.proofs.Theorems.{demand_3, iso-disjoint}
use Rattle.trace.specs.Trace.{Handed, handed, out_at, back_at}
use Rattle.demands.specs.Trace.{still_out}

-- ---- one call more
live-from : (n k : ℕ) (H : Heap) (es : List Entry) (xs : List Call) (x : Call)
    → live_from k es (events_from n H (xs ++ x ∷ [])) ≡ live_next (k + length xs) (names x) (step n (heap_from n H xs) x).answer (live_from k es (events_from n H xs))
live-from n k H es [] x = let e : k ≡ k + 0 = omega arith in ap (λ (j : ℕ). live_next j (names x) (step n H x).answer es) e
live-from n k H es (y ∷ xs) x =
    let e : suc k + length xs ≡ k + suc (length xs) = omega arith in
    live-from n (suc k) (step n H y).heap (live_next k (names y) (step n H y).answer es) xs x
    ∙ ap (λ (j : ℕ). live_next j (names x) (step n (heap_from n (step n H y).heap xs) x).answer (live_from (suc k) (live_next k (names y) (step n H y).answer es) (events_from n (step n H y).heap xs))) e

abbrev pub live : ℕ → List Call → List Entry
live n xs = live_from 0 [] (events n (rules_of []) xs)

pub live-next : (n : ℕ) (xs : List Call) (x : Call) → live n (xs ++ x ∷ []) ≡ live_next (length xs) (names x) (step n (heap_after n (rules_of []) xs) x).answer (live n xs)
live-next n xs x =
    let e : 0 + length xs ≡ length xs = omega arith in
    live-from n 0 (new_heap (rules_of [])) [] xs x ∙ ap (λ (j : ℕ). live_next j (names x) (step n (heap_after n (rules_of []) xs) x).answer (live n xs)) e

-- ---- a take
filter-all : (f : Entry → Bool) (es : List Entry) → ((e : Entry) → In e es → f e ≡ true) → filter f es ≡ es
filter-all f [] h = refl
filter-all f (e ∷ es) h = rw (h e (inl refl)) (ap (λ (s : List Entry). e ∷ s) (filter-all f es (λ x m. h x (inr m))))

pub none-released : (c : ℕ) (es : List Entry) → filter (λ (e : Entry). not (has_word c [] e)) es ≡ es
none-released c es = filter-all (λ (e : Entry). not (has_word c [] e)) es (λ e m. rw (and_no (eqb e.class c)))

pub still-append : (hs : List Handed) (es : List Entry) → still_out (hs ++ map handed es) ≡ still_out hs ++ es
still-append [] [] = refl
still-append [] (e ∷ es) = ap (λ (s : List Entry). e ∷ s) (still-append [] es)
still-append (h ∷ hs) es =
    let ih = still-append hs es in
    by_cases h.back (λ b. rw b ih) (λ b. rw b (ap (λ (s : List Entry). h.entry ∷ s) ih))

-- ---- told apart by call and place, and two with a byte in common are one
pub record Single (es : List Entry) : Type 0 where
  pub once : (k i : ℕ) → total (at k i) es ≤ 1
  pub twins : (e e' : Entry) → In e es → In e' es → (x : ℕ) → HasByte e x → HasByte e' x → (e.call ≡ e'.call) × (e.place ≡ e'.place)

rest : (x : Entry) (es : List Entry) → Single (x ∷ es) → Single es
rest x es s = record {
  once = λ k i. omega (arith, s.once k i);
  twins = λ e e' m m'. s.twins e e' (inr m) (inr m');
}

at_same : (e e' : Entry) → e.call ≡ e'.call → e.place ≡ e'.place → at e.call e.place e' ≡ 1
at_same e e' p q = rw (eq-eqb e'.call e.call (sym p), eq-eqb e'.place e.place (sym q))

-- so the others have no byte of the first
other : (x e : Entry) (es : List Entry) → Single (x ∷ es) → In e es → (b : ℕ) → HasByte x b → HasByte e b → ⊥
other x e es s m b p q =
    let t = s.twins x e (inl refl) (inr m) b p q in
    omega (arith, s.once x.call x.place, at_same x x refl refl, at_same x e t.0 t.1, in_total (at x.call x.place) e es m)

pub own-byte : (e : Entry) → HasByte e (first_byte e)
own-byte e = record { from = omega arith; to = omega (arith, (shape-sound e.class).wide) }

-- one with the same class and word has its first byte
same_byte : (x e : Entry) → x.word ≡ e.word → HasByte e (first_byte x)
same_byte x e q =
    let p : first_byte x ≡ first_byte e = ap (λ (w : ℕ). first_byte (record { call = 0; place = 0; class = 0; word = w })) q in
    record { from = omega (arith, p); to = omega (arith, p, (shape-sound e.class).wide) }

other_word : (x e : Entry) (es : List Entry) → Single (x ∷ es) → In e es → x.word ≡ e.word → ⊥
other_word x e es s m q = other x e es s m (first_byte x) (own-byte x) (same_byte x e q)

-- ---- a release
has_one : (c w : ℕ) (e : Entry) → has_word c (w ∷ []) e ≡ true → e.word ≡ w
has_one c w e h =
    by_cases (eqb e.class c)
    (λ u. by_cases (eqb e.word w) (λ v. eqb-true e.word w v) (λ v. absurd (false≢true (rw (u, v) at h))))
    (λ u. absurd (false≢true (rw u at h)))

one_has : (e : Entry) → has_word e.class (e.word ∷ []) e ≡ true
one_has e = rw (eq-eqb e.class e.class refl, eq-eqb e.word e.word refl)

abbrev pub keeps : Entry → Entry → Bool
keeps a e = not (has_word a.class (a.word ∷ []) e)

-- the entry at a place; where there is none, the other
abbrev pub entry_at : ℕ → List Handed → Entry → Entry
entry_at p [] d = d
entry_at zero (h ∷ hs) d = h.entry
entry_at (suc p) (h ∷ hs) d = entry_at p hs d

pub at-still : (p : ℕ) (hs : List Handed) (d : Entry) → out_at p hs ≡ true → In (entry_at p hs d) (still_out hs)
at-still p [] d o = absurd (false≢true o)
at-still zero (h ∷ hs) d o = by_cases h.back (λ b. absurd (false≢true (rw b at o))) (λ b. rw b (inl refl))
at-still (suc p) (h ∷ hs) d o = let ih = at-still p hs d o in by_cases h.back (λ b. rw b ih) (λ b. rw b (inr ih))

pub still_back : (p : ℕ) (hs : List Handed) (d : Entry) → out_at p hs ≡ true → Single (still_out hs) → filter (keeps (entry_at p hs d)) (still_out hs) ≡ still_out (back_at p hs)
still_back p [] d o s = absurd (false≢true o)
still_back zero (h ∷ hs) d o s =
    by_cases h.back
    (λ b. absurd (false≢true (rw b at o)))
    (λ b. let a = h.entry in
    let s' : Single (a ∷ still_out hs) = rw b at s in
    rw (b, one_has a) (filter-all (keeps a) (still_out hs)
    (λ e m. by_cases (has_word a.class (a.word ∷ []) e) (λ u. absurd (other_word a e (still_out hs) s' m (sym (has_one a.class a.word e u)))) (λ u. rw u))))
still_back (suc p) (h ∷ hs) d o s =
    by_cases h.back
    (λ b. let s' : Single (still_out hs) = rw b at s in rw b (still_back p hs d o s'))
    (λ b. let s' : Single (h.entry ∷ still_out hs) = rw b at s in
    let a = entry_at p hs d in
    let ih = still_back p hs d o (rest h.entry (still_out hs) s') in
    by_cases (has_word a.class (a.word ∷ []) h.entry)
    (λ u. absurd (other_word h.entry a (still_out hs) s' (at-still p hs d o) (has_one a.class a.word h.entry u)))
    (λ u. rw (b, u) (ap (λ (es : List Entry). h.entry ∷ es) ih)))

-- ---- bytes: how many of an entry lie below byte x, and whether it has byte x
abbrev under : ℕ → Entry → ℕ
under x e = cond (ltb (x - first_byte e) (block_bytes e)) (x - first_byte e) (block_bytes e)

abbrev has_byte : ℕ → Entry → ℕ
has_byte x e = covers (block_bytes e) (first_byte e) x

under-few : (x : ℕ) (e : Entry) → x - first_byte e ≤ block_bytes e → under x e ≡ x - first_byte e
under-few x e h =
    by_cases (ltb (x - first_byte e) (block_bytes e)) (λ u. rw u) (λ u. rw u (omega (arith, ltb-false (x - first_byte e) (block_bytes e) u)))

under_all : (x : ℕ) (e : Entry) → block_bytes e ≤ x - first_byte e → under x e ≡ block_bytes e
under_all x e h = rw (le-ltb (x - first_byte e) (block_bytes e) h)

under_next : (x : ℕ) (e : Entry) → under (suc x) e ≡ under x e + has_byte x e
under_next x e =
    let f = first_byte e in
    let k = block_bytes e in
    by_cases (ltb x f)
    (λ u. let l = ltb-true x f u in omega (arith, under-few x e (omega arith), under-few (suc x) e (omega arith), covers-before k f x l))
    (λ u. let l = ltb-false x f u in
    by_cases (ltb x (f + k))
    (λ v. let m = ltb-true x (f + k) v in omega (arith, under-few x e (omega arith), under-few (suc x) e (omega arith), covers_in k f x l m))
    (λ v. let m = ltb-false x (f + k) v in omega (arith, under_all x e (omega arith), under_all (suc x) e (omega arith), covers-after k f x m)))

under-nothing : (e : Entry) → under 0 e ≡ 0
under-nothing e = omega (arith, under-few 0 e (omega arith))

total-next : (x : ℕ) (es : List Entry) → total (under (suc x)) es ≡ total (under x) es + total (has_byte x) es
total-next x [] = omega arith
total-next x (e ∷ es) = omega (arith, under_next x e, total-next x es)

total-nothing : (es : List Entry) → total (under 0) es ≡ 0
total-nothing [] = refl
total-nothing (e ∷ es) = omega (arith, under-nothing e, total-nothing es)

-- no byte is had twice
byte-none : (x : ℕ) (es : List Entry) → ((e : Entry) → In e es → HasByte e x → ⊥) → total (has_byte x) es ≡ 0
byte-none x [] h = refl
byte-none x (e ∷ es) h =
    let f = first_byte e in
    let k = block_bytes e in
    let ih = byte-none x es (λ e m. h e (inr m)) in
    by_cases (ltb x f)
    (λ u. omega (arith, covers-before k f x (ltb-true x f u)))
    (λ u. by_cases (ltb x (f + k))
    (λ v. absurd (h e (inl refl) (record { from = ltb-false x f u; to = ltb-true x (f + k) v })))
    (λ v. omega (arith, covers-after k f x (ltb-false x (f + k) v))))

byte-once : (x : ℕ) (es : List Entry) → Single es → total (has_byte x) es ≤ 1
byte-once x [] s = omega arith
byte-once x (e ∷ es) s =
    let f = first_byte e in
    let k = block_bytes e in
    let ih = byte-once x es (rest e es s) in
    by_cases (ltb x f)
    (λ u. omega (arith, covers-before k f x (ltb-true x f u)))
    (λ u. by_cases (ltb x (f + k))
    (λ v. let l = ltb-false x f u in
    let m = ltb-true x (f + k) v in
    omega (arith, covers_in k f x l m, byte-none x es (λ e' i h. other e e' es s i x (record { from = l; to = m }) h)))
    (λ v. omega (arith, covers-after k f x (ltb-false x (f + k) v))))

total-under : (x : ℕ) (es : List Entry) → Single es → total (under x) es ≤ x
total-under zero es s = omega (arith, total-nothing es)
total-under (suc x) es s = omega (arith, total-next x es, byte-once x es s, total-under x es s)

total_inside : (x : ℕ) (es : List Entry) → ((e : Entry) → In e es → first_byte e + block_bytes e ≤ x) → total (under x) es ≡ total block_bytes es
total_inside x [] h = refl
total_inside x (e ∷ es) h = omega (arith, under_all x e (omega (arith, h e (inl refl))), total_inside x es (λ e m. h e (inr m)))

-- ---- the entries not yet released are such
module _ (n : ℕ) (small : n ≤ max_pages) (xs : List Call) where
  pub live-single : Single (live n xs)
  live-single = record {
    once = (kept n (rules_of []) xs).inv.once;
    twins = λ e e' m m' x h h'. (((demand_3 n small).disjoint (rules_of []) xs).apart e e' (in_live e (events n (rules_of []) xs) m) (in_live e' (events n (rules_of []) xs) m')).0 (x, h, h');
  }

  pub live-bytes : total block_bytes (live n xs) ≤ n * page_bytes
  live-bytes =
      omega (arith, total_inside (n * page_bytes) (live n xs) (λ e m. (iso-disjoint n small (rules_of []) xs).in_arena e (in_live e (events n (rules_of []) xs) m)), total-under (n * page_bytes) (live n xs) live-single)
