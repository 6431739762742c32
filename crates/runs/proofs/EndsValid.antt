-- Tests of every hole of a list: by index, after a run is drawn from a hole, and after one is put among them.
--     every-at, every-weaker    at an index; by a weaker test
--     ends_more                 holes in a give's range are so with a higher frontier
--     take-valid, draw-valid, place-valid     holes in a give's range stay in it
use Rattle.facts.proofs.Prelude.{ℕ, suc, ◌+◌, ◌-◌, ◌≤◌, ◌<◌, arith, Bool, true, List, [], ◌∷◌, ◌++◌, Option, ◌≡◌, refl, sym, ap, ◌∙◌}
use Rattle.facts.proofs.Prelude.{subst, ltb, leb, length, ltb-true, le-leb, leb-true, eqb-true, every, All, by_cases, and_left, and_right}
use Rattle.model.specs.declared.Hole.{Hole}
use Rattle.model.specs.HoleStore as Model
use Rattle.model.specs.HoleStore.{HoleStore, hole_at, set_at, remove_at, without_last, last_hole, cut_from, take_at, ends_at, starts_at, with_before, with_after, with_both, place}
use Rattle.model.proofs.HoleLists.{all_set, all_remove, all_snoc, all-at}
use Rattle.model.proofs.Placing.{Found, found, not_found}
use Rattle.words.specs.Limits.{hole_slots}
use Rattle.fields.specs.Field.{words}
use Rattle.arena.specs.Load.{load_hole, load_holes}
use Rattle.arena.specs.Store.{store_hole}
use Rattle.arena.specs.Valid.{hole_ends_valid}
use Rattle.arena.proofs.Frames.{loaded_length}
use Rattle.runs.specs.declared.Arena.{Arena as Record}
use Rattle.runs.specs.way.Act.{draw_words, draw_record}
use Rattle.runs.proofs.StoreLaws.{loaded_set, loaded_at, loaded_last, loaded_front}

module _ (t : Hole → Bool) where
  all_of : (hs : List Hole) → every t hs ≡ true → All (λ h. t h ≡ true) hs
  all_of [] e = tt
  all_of (h ∷ hs) e = (and_left (t h) _ e, all_of hs (and_right (t h) _ e))

  of_all_lem : (hs : List Hole) → All (λ h. t h ≡ true) hs → every t hs ≡ true
  of_all_lem [] k = refl
  of_all_lem (h ∷ hs) k = rw k.0 (of_all_lem hs k.1)

  pub every-at : (hs : List Hole) (i : ℕ) → every t hs ≡ true → i < length hs → t (hole_at i hs) ≡ true
  every-at hs i e l = all-at (λ h. t h ≡ true) i hs l (all_of hs e)

  pub every_weaker : (u : Hole → Bool) → ((h : Hole) → t h ≡ true → u h ≡ true) → (hs : List Hole) → every t hs ≡ true → every u hs ≡ true
  every_weaker u w [] e = refl
  every_weaker u w (h ∷ hs) e = rw (w h (and_left (t h) _ e)) (every_weaker u w hs (and_right (t h) _ e))

  every_set : (i : ℕ) (v : Hole) (hs : List Hole) → t v ≡ true → every t hs ≡ true → every t (set_at i v hs) ≡ true
  every_set i v hs p e = of_all_lem (set_at i v hs) (all_set (λ h. t h ≡ true) i v p hs (all_of hs e))

  every_remove : (i : ℕ) (hs : List Hole) → every t hs ≡ true → every t (remove_at i hs) ≡ true
  every_remove i hs e = of_all_lem (remove_at i hs) (all_remove (λ h. t h ≡ true) i hs (all_of hs e))

-- below a higher frontier too
pub ends_more : (f g : ℕ) → f ≤ g → (hs : List Hole) → every (hole_ends_valid f) hs ≡ true → every (hole_ends_valid g) hs ≡ true
ends_more f g l hs e = every_weaker (hole_ends_valid f) (hole_ends_valid g) (λ h k. rw (and_left (leb 1 h.pages) _ k, le-leb (h.first + h.pages) g (omega (arith, leb-true (h.first + h.pages) f (and_right (leb 1 h.pages) _ k)))) refl) hs e

-- ---- a hole that ends at or below page f
module _ (f : ℕ) where
  pub record Ends (h : Hole) : Type 0 where
    pub some : 1 ≤ h.pages
    pub low : h.first + h.pages ≤ f

  ends-told : (h : Hole) → hole_ends_valid f h ≡ true → Ends h
  ends-told h e = record { some = leb-true 1 h.pages (and_left _ _ e); low = leb-true _ f (and_right (leb 1 h.pages) _ e) }

  ends-made : (h : Hole) → 1 ≤ h.pages → h.first + h.pages ≤ f → hole_ends_valid f h ≡ true
  ends-made h l k = rw (le-leb 1 h.pages l, le-leb (h.first + h.pages) f k)

  module _ (hs : List Hole) (valid : every (hole_ends_valid f) hs ≡ true) where
    pub ends_at_lem : (i : ℕ) → i < length hs → Ends (hole_at i hs)
    ends_at_lem i l = ends-told (hole_at i hs) (every-at (hole_ends_valid f) hs i valid l)

  pub take-valid : (m i : ℕ) (s : HoleStore) → i < length s.holes → every (hole_ends_valid f) s.holes ≡ true → every (hole_ends_valid f) (take_at m i s).holes ≡ true
  unfolding cut_from
  take-valid m i s l e =
      let x = hole_at i s.holes in
      by_cases (ltb m x.pages)
      (λ t. let z = ltb-true m x.pages t in
      let y = ends_at_lem s.holes e i l in
      rw t (every_set (hole_ends_valid f) i _ s.holes (ends-made (Model.hole (x.first + m) (x.pages - m)) (omega arith) (omega (arith, y.low))) e))
      (λ t. rw t (every_remove (hole_ends_valid f) i s.holes e))

  -- on the words
  pub draw-valid : (n : ℕ) (b : List ℕ) → leb (words n) (length b) ≡ true → (a : Record) (m i : ℕ) → a.count ≤ hole_slots → i < a.count → every (hole_ends_valid f) (load_holes b 0 a.count) ≡ true
      → every (hole_ends_valid f) (load_holes (draw_words b a m i) 0 (draw_record b a m i).count) ≡ true
  unfolding draw_words draw_record
  draw-valid n b hb a m i few l valid =
      let hs = load_holes b 0 a.count in
      let long : length hs ≡ a.count = loaded_length b 0 a.count in
      let z : 0 + i ≡ i = omega arith in
      let x = load_hole b i in
      let e : hole_at i hs ≡ x = loaded_at b 0 a.count i l ∙ ap (load_hole b) z in
      let k = a.count - 1 in
      let k-is : a.count ≡ suc k = omega arith in
      let last : last_hole hs ≡ load_hole b k = ap (λ c. last_hole (load_holes b 0 c)) k-is ∙ loaded_last b 0 k ∙ ap (load_hole b) (let y : 0 + k ≡ k = omega arith in y) in
      let front : without_last hs ≡ load_holes b 0 k = ap (λ c. without_last (load_holes b 0 c)) k-is ∙ loaded_front b 0 k in
      by_cases (ltb m x.pages)
      (λ t. let u = ltb-true m x.pages t in
      let y = ends-told x (subst (λ h. hole_ends_valid f h ≡ true) e (every-at (hole_ends_valid f) hs i valid (omega arith))) in
      let v = Model.hole (x.first + m) (x.pages - m) in
      rw t (subst (λ c. every (hole_ends_valid f) (load_holes (store_hole b c v) 0 a.count) ≡ true) z
      (subst (λ gs. every (hole_ends_valid f) gs ≡ true) (sym (loaded_set n b hb 0 i a.count v (omega arith) (omega arith)))
      (every_set (hole_ends_valid f) i v hs (ends-made v (omega arith) (omega (arith, y.low))) valid))))
      (λ t. rw t (subst (λ c. every (hole_ends_valid f) (load_holes (store_hole b c (load_hole b k)) 0 k) ≡ true) z
      (subst (λ gs. every (hole_ends_valid f) gs ≡ true) (ap (λ v. set_at i v (without_last hs)) last ∙ ap (set_at i (load_hole b k)) front ∙ sym (loaded_set n b hb 0 i k (load_hole b k) (omega arith) (omega arith)))
      (every_remove (hole_ends_valid f) i hs valid))))

  -- m pages from q on, below f
  module _ (m q : ℕ) (one : 1 ≤ m) (below : q + m ≤ f) (hs : List Hole) (valid : every (hole_ends_valid f) hs ≡ true) where
    pub place-valid : {o p : Option ℕ} → Found (ends_at q) hs o → Found (starts_at (q + m)) hs p → every (hole_ends_valid f) (place m q hs o p) ≡ true
    unfolding place
    place-valid (not_found z) (not_found y) = of_all_lem (hole_ends_valid f) (hs ++ Model.hole q m ∷ []) (all_snoc (λ h. hole_ends_valid f h ≡ true) hs (Model.hole q m) (all_of (hole_ends_valid f) hs valid) (ends-made (Model.hole q m) one below))
    place-valid (found i l e) (not_found y) =
        let x = hole_at i hs in
        every_set (hole_ends_valid f) i (with_before m x) hs (ends-made (with_before m x) (omega arith) (omega (arith, eqb-true (x.first + x.pages) q e))) valid
    place-valid (not_found z) (found j l d) =
        let y = hole_at j hs in
        every_set (hole_ends_valid f) j (with_after m q y) hs (ends-made (with_after m q y) (omega arith) (omega (arith, eqb-true y.first (q + m) d, (ends_at_lem hs valid j l).low))) valid
    place-valid (found i l e) (found j k d) =
        let x = hole_at i hs in
        let y = hole_at j hs in
        every_remove (hole_ends_valid f) j (set_at i (with_both m x y) hs) (every_set (hole_ends_valid f) i (with_both m x y) hs (ends-made (with_both m x y) (omega arith) (omega (arith, eqb-true (x.first + x.pages) q e, eqb-true y.first (q + m) d, (ends_at_lem hs valid j k).low))) valid)
