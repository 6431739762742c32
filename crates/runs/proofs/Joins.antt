-- A run put among the holes that a book holds: the few words that change.
--     set_words      one hole changed: one hole written
--     place-stands   the holes with the run, stored, are the words that the code writes, and the record goes with them
--     no_place       where no hole is touched and no slot is free nothing is written
use Rattle.facts.proofs.Prelude.{ℕ, zero, suc, ◌+◌, ◌-◌, ◌≤◌, ◌<◌, arith, true, false, true≢false, List, [], ◌∷◌, Option, ◌≡◌, refl, sym, ap}
use Rattle.facts.proofs.Prelude.{◌∙◌, eqb, ltb, leb, length, length-append, eqb-true, eqb-false, lt-ltb, ltb-true, ltb-false, ne_eqb, by_cases}
use Rattle.words.specs.Limits.{hole_slots}
use Rattle.fields.specs.Field.{words}
use Rattle.model.specs.declared.Hole.{Hole}
use Rattle.model.specs.HoleStore as Model
use Rattle.model.specs.HoleStore.{hole_at, set_at, remove_at, without_last, last_hole, ends_at, starts_at, place, has_room}
use Rattle.model.proofs.HoleLists.{set-length, remove_length}
use Rattle.model.proofs.Placing.{Found, found, not_found}
use Rattle.arena.specs.Load.{load_hole, load_holes}
use Rattle.arena.specs.Store.{store_hole, store_holes}
use Rattle.arena.proofs.Frames.{loaded_length}
use Rattle.runs.specs.declared.Arena.{Arena as Record}
use Rattle.runs.specs.way.Record.{abandoning}
use Rattle.runs.specs.way.Plan.{index_code}
use Rattle.runs.specs.way.Act.{with_holes, both_words, place_words, place_record}
use Rattle.runs.proofs.StoreLaws.{hole-comm, hole-kept, holes-kept, holes-set, holes-append, loaded_at, loaded_last, loaded_front, set_past}

-- ---- one hole of a list set: what is before the last, and the last
set_front : (i : ℕ) (v : Hole) (hs : List Hole) → without_last (set_at i v hs) ≡ set_at i v (without_last hs)
set_front i v [] = refl
set_front zero v (h ∷ []) = refl
set_front (suc i) v (h ∷ []) = refl
set_front zero v (h ∷ g ∷ hs) = refl
set_front (suc zero) v (h ∷ g ∷ hs) = ap (λ l. h ∷ l) (set_front zero v (g ∷ hs))
set_front (suc (suc i)) v (h ∷ g ∷ hs) = ap (λ l. h ∷ l) (set_front (suc i) v (g ∷ hs))

set_last : (i : ℕ) (v : Hole) (hs : List Hole) → suc i < length hs → last_hole (set_at i v hs) ≡ last_hole hs
set_last i v [] l = absurd (omega arith)
set_last i v (h ∷ []) l = absurd (omega arith)
set_last zero v (h ∷ g ∷ hs) l = refl
set_last (suc zero) v (h ∷ g ∷ hs) l = set_last zero v (g ∷ hs) (omega arith)
set_last (suc (suc i)) v (h ∷ g ∷ hs) l = set_last (suc i) v (g ∷ hs) (omega arith)

last_set : (i : ℕ) (v : Hole) (hs : List Hole) → suc i ≡ length hs → last_hole (set_at i v hs) ≡ v
last_set i v [] l = absurd (omega arith)
last_set zero v (h ∷ []) l = refl
last_set (suc i) v (h ∷ []) l = absurd (omega arith)
last_set zero v (h ∷ g ∷ hs) l = absurd (omega arith)
last_set (suc zero) v (h ∷ g ∷ hs) l = last_set zero v (g ∷ hs) (omega arith)
last_set (suc (suc i)) v (h ∷ g ∷ hs) l = last_set (suc i) v (g ∷ hs) (omega arith)

-- ---- the book b holds the holes hs
module _ (n : ℕ) (b : List ℕ) (hb : leb (words n) (length b) ≡ true) (hs : List Hole) (here : load_holes b 0 (length hs) ≡ hs) (few : length hs ≤ hole_slots) where
  pub holds : store_holes b 0 hs ≡ b
  holds = ap (store_holes b 0) (sym here) ∙ holes-kept b 0 (length hs)

  pub hole-is : (i : ℕ) → i < length hs → hole_at i hs ≡ load_hole b i
  hole-is i l = let e : 0 + i ≡ i = omega arith in ap (hole_at i) (sym here) ∙ loaded_at b 0 (length hs) i l ∙ rw e

  pub set_words : (i : ℕ) (v : Hole) → i < length hs → store_holes b 0 (set_at i v hs) ≡ store_hole b i v
  set_words i v l = let e : 0 + i ≡ i = omega arith in holes-set n b hb 0 i v hs (omega arith) l ∙ rw (holds, e)

  -- hole i is set, then hole j is replaced by the last
  module _ (i j : ℕ) (v : Hole) (li : i < length hs) (lj : j < length hs) (ne : i ≡ j → ⊥) where
    k : ℕ
    k = length hs - 1

    k-is : length hs ≡ suc k
    unfolding k
    k-is = omega arith

    front : without_last hs ≡ load_holes b 0 k
    front = ap without_last (sym here ∙ ap (load_holes b 0) k-is) ∙ loaded_front b 0 k

    last : last_hole hs ≡ load_hole b k
    last = let e : 0 + k ≡ k = omega arith in ap last_hole (sym here ∙ ap (load_holes b 0) k-is) ∙ loaded_last b 0 k ∙ rw e

    front_length : length (load_holes b 0 k) ≡ k
    front_length = loaded_length b 0 k

    -- j, or the last one, which is no longer there
    written : (x : Hole) (gs : List Hole) (c : List ℕ) → length gs ≡ k → store_holes b 0 gs ≡ c → j < k → store_holes b 0 (set_at j x gs) ≡ store_hole c j x
    written x gs c e s l = let z : 0 + j ≡ j = omega arith in holes-set n b hb 0 j x gs (let y = k-is in omega arith) (omega arith) ∙ rw (s, z)

    joined-last : suc i ≡ length hs → store_holes b 0 (remove_at j (set_at i v hs)) ≡ store_hole b j v
    joined-last s =
        rw (last_set i v hs s, set_front i v hs, front, set_past i v (load_holes b 0 k) (let y = k-is in let z = front_length in omega arith))
        (written v (load_holes b 0 k) b front_length (holes-kept b 0 k) (let y = k-is in omega arith))

    others : suc i < length hs → store_holes b 0 (set_at i v (load_holes b 0 k)) ≡ store_hole b i v
    others s =
        let e : 0 + i ≡ i = omega arith in
        holes-set n b hb 0 i v (load_holes b 0 k) (let y = k-is in let z = front_length in omega arith) (let y = k-is in let z = front_length in omega arith) ∙ rw (holes-kept b 0 k, e)

    not_last : suc i < length hs → store_holes b 0 (remove_at j (set_at i v hs)) ≡ store_hole (store_hole b i v) j (load_hole b k)
    not_last s =
        let y = k-is in
        let z = front_length in
        rw (set_last i v hs s, set_front i v hs, front, last)
        (by_cases (ltb j k)
        (λ t. written (load_hole b k) (set_at i v (load_holes b 0 k)) (store_hole b i v) (set-length i v (load_holes b 0 k) ∙ z) (others s) (ltb-true j k t))
        (λ t. let w : j ≡ k = omega (arith, ltb-false j k t) in
        rw (set_past j (load_hole b k) (set_at i v (load_holes b 0 k)) (omega (arith, set-length i v (load_holes b 0 k))), others s)
        (sym (ap (λ z. store_hole (store_hole b i v) z (load_hole b k)) w ∙ hole-comm b i k v (load_hole b k) (lt-ltb i hole_slots (omega arith)) (lt-ltb k hole_slots (omega arith)) (ne_eqb i k (λ x. omega arith)) ∙ rw (hole-kept b k)))))

    both_words_lem : (r : Record) → r.count ≡ length hs → store_holes b 0 (remove_at j (set_at i v hs)) ≡ both_words b r i j v
    unfolding both_words k
    both_words_lem r c =
        by_cases (eqb (i + 1) (length hs))
        (λ t. rw (c, t) (joined-last (omega (arith, eqb-true (i + 1) (length hs) t))))
        (λ t. rw (c, t) (not_last (omega (arith, eqb-false (i + 1) (length hs) t))))

    both-length : length (remove_at j (set_at i v hs)) ≡ length hs - 1
    both-length = omega (arith, remove_length j (set_at i v hs), set-length i v hs)

  -- the record r goes with the holes
  module _ (r : Record) (c : r.count ≡ length hs) (m q : ℕ) (apart : (h : Hole) → ends_at q h ≡ true → starts_at (q + m) h ≡ true → 1 ≤ h.pages → ⊥) (some-pages : (i : ℕ) → i < length hs → 1 ≤ (hole_at i hs).pages) where
    pub record PlacesAs (o p : Option ℕ) : Type 0 where
      pub words : store_holes b 0 (place m q hs o p) ≡ place_words b r m q (index_code o) (index_code p)
      pub top : with_holes (length (place m q hs o p)) (r.total + m) r ≡ place_record r m (index_code o) (index_code p)

    pub place-stands : {o p : Option ℕ} → Found (ends_at q) hs o → Found (starts_at (q + m)) hs p → has_room hs o p ≡ true → PlacesAs o p
    unfolding place place_words place_record
    place-stands (not_found z) (not_found y) t =
        let e : 0 + length hs ≡ length hs = omega arith in
        record {
          words = rw (c, t) (holes-append b 0 hs (Model.hole q m) (rw e (ltb-true (length hs) hole_slots t)) ∙ rw (holds, e));
          top = rw (c, t, length-append) refl;
        }
    place-stands (found i l e) (not_found y) t = record { words = set_words i _ l ∙ rw (hole-is i l); top = rw (set-length, c) }
    place-stands (not_found z) (found j l d) t = record { words = set_words j _ l ∙ rw (hole-is j l); top = rw (set-length, c) }
    place-stands (found i l e) (found j k d) t =
        record {
          words = both_words_lem i j _ l k (λ s. apart (hole_at i hs) e (rw (← s) at d) (some-pages i l)) r c ∙ rw (hole-is i l, hole-is j k);
          top = rw (both-length i j _ l k (λ s. apart (hole_at i hs) e (rw (← s) at d) (some-pages i l)), c);
        }

    pub no_place : {o p : Option ℕ} → Found (ends_at q) hs o → Found (starts_at (q + m)) hs p → has_room hs o p ≡ false → (place_words b r m q (index_code o) (index_code p) ≡ b) × (place_record r m (index_code o) (index_code p) ≡ abandoning r)
    unfolding place_words place_record
    no_place (not_found z) (not_found y) t = (rw (c, t), rw (c, t))
    no_place (found i l e) (not_found y) t = absurd (true≢false t)
    no_place (not_found z) (found j l d) t = absurd (true≢false t)
    no_place (found i l e) (found j k d) t = absurd (true≢false t)
