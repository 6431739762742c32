-- Where a given run stands among the holes, case by case.
use Rattle.facts.proofs.Prelude.{ℕ, suc, ◌+◌, ◌-◌, ◌≤◌, ◌<◌, arith, true, false, List, ◌⊎◌, inl, inr, ◌↔◌, Option, ◌≡◌, refl, sym, ap, ◌∙◌, eqb, leb, ltb}
use Rattle.facts.proofs.Prelude.{length, eqb-true, eqb-false, eq-eqb, ne_eqb, leb-true, le-leb, ltb-true, lt-ltb, update, by_cases, and_left, and_right}
use Rattle.model.specs.declared.Hole.{Hole}
use Rattle.model.specs.HoleStore.{HoleStore, hole, hole_at, set_at, remove_at, ends_at, starts_at, hole_before, hole_after, hole_slots, hole_pages_max, with_both, place, insert, has_room, accepts}
use Rattle.model.specs.Arena.{Arena, give}
use Rattle.model.specs.Joining.{NoneEnds, NoneStarts, Touches, HasRoom, at, Stand, JoinedWhere, joins_none, joins_before, joins_after, joins_both, joins_last_after, joins_last_joined}
use Rattle.model.proofs.HoleLists.{num, at-total, set-length, remove_length, set_same, set-differs, remove_same, remove_differs}
use Rattle.model.proofs.Placing.{ends, starts, Found, found, not_found, finds, touching-differ}

pub none-ends : (q : ℕ) (hs : List Hole) → ends q hs ≡ 0 → NoneEnds hs q
none-ends q hs z i e = omega (arith, at-total (λ h. num (ends_at q h)) i hs e.0, ap num (eq-eqb ((hole_at i hs).first + (hole_at i hs).pages) q e.1))

pub none-starts : (q : ℕ) (hs : List Hole) → starts q hs ≡ 0 → NoneStarts hs q
none-starts q hs z i e = omega (arith, at-total (λ h. num (starts_at q h)) i hs e.0, ap num (eq-eqb (hole_at i hs).first q e.1))

-- index by index: a hole set, a hole replaced by the last
module _ (i : ℕ) (v : Hole) (hs : List Hole) (l : i < length hs) where
  set-at : (k : ℕ) → hole_at k (set_at i v hs) ≡ update (at hs) i v k
  set-at k =
      by_cases (eqb k i)
      (λ e. rw e (ap (λ j. hole_at j (set_at i v hs)) (eqb-true k i e) ∙ set_same i v hs l))
      (λ e. rw e (set-differs i k v hs (eqb-false k i e)))

-- hole i is set, then hole j is replaced by the last
module _ (i j : ℕ) (v : Hole) (hs : List Hole) (l : i < length hs) where
  abbrev after : List Hole
  after = remove_at j (set_at i v hs)

  after-length : length after ≡ length hs - 1
  after-length = omega (arith, remove_length j (set_at i v hs), set-length i v hs)

  stays : (k : ℕ) → k < length hs - 1 → eqb k j ≡ false → hole_at k after ≡ update (at hs) i v k
  stays k b e = remove_differs j k (set_at i v hs) (omega (arith, set-length i v hs)) (eqb-false k j e) ∙ set-at i v hs l k

  takes : (k : ℕ) → k < length hs - 1 → eqb k j ≡ true → hole_at k after ≡ update (at hs) i v (length hs - 1)
  takes k b e =
      let same = eqb-true k j e in
      ap (λ m. hole_at m after) same ∙ remove_same j (set_at i v hs) (omega (arith, set-length i v hs)) ∙ ap (λ m. hole_at (m - 1) (set_at i v hs)) (set-length i v hs) ∙ set-at i v hs l (length hs - 1)

  last-joined : suc i ≡ length hs → Stand after (length hs - 1) (update (at hs) j v)
  last-joined s = (
    after-length,
    λ k b.
        by_cases (eqb k j)
        (λ e. rw e (takes k b e ∙ rw (eq-eqb (length hs - 1) i (omega arith))))
        (λ e. rw e (stays k b e ∙ rw (ne_eqb k i (λ x. omega arith)))),
  )

  last-after : suc j ≡ length hs → Stand after (length hs - 1) (update (at hs) i v)
  last-after s = (after-length, λ k b. stays k b (ne_eqb k j (λ x. omega arith)))

  neither-last : suc i < length hs → (i ≡ j → ⊥) → Stand after (length hs - 1) (update (update (at hs) j (at hs (length hs - 1))) i v)
  neither-last s ne = (
    after-length,
    λ k b.
        by_cases (eqb k j)
        (λ e. let same = eqb-true k j e in rw (ne_eqb k i (λ x. ne (sym x ∙ same)), e) (takes k b e ∙ rw (ne_eqb (length hs - 1) i (λ x. omega arith))))
        (λ e. rw e (stays k b e)),
  )

module _ (n q : ℕ) (one : 1 ≤ n) (hs : List Hole) where
  joined-both : (i j : ℕ) → i < length hs → ends_at q (hole_at i hs) ≡ true → j < length hs → starts_at (q + n) (hole_at j hs) ≡ true
      → JoinedWhere n q hs (remove_at j (set_at i (with_both n (hole_at i hs) (hole_at j hs)) hs))
  joined-both i j li e lj d =
      let b = hole_at i hs in
      let c = hole_at j hs in
      let v = with_both n b c in
      let is = eqb-true (b.first + b.pages) q e in
      let is' = eqb-true c.first (q + n) d in
      by_cases (eqb (suc i) (length hs))
      (λ s. let x = eqb-true (suc i) (length hs) s in joins_last_joined i j (li, is) (lj, is') x (last-joined i j v hs li x))
      (λ s. by_cases (eqb (suc j) (length hs))
      (λ t. let x = eqb-true (suc j) (length hs) t in joins_last_after i j (li, is) (lj, is') x (last-after i j v hs li x))
      (λ t. let x : suc i < length hs = omega (arith, eqb-false (suc i) (length hs) s) in
      joins_both i j (li, is) (lj, is') x (omega (arith, eqb-false (suc j) (length hs) t)) (neither-last i j v hs li x (λ y. touching-differ n q one b e (rw (← y) at d)))))

  joined-found : {o p : Option ℕ} → Found (ends_at q) hs o → Found (starts_at (q + n)) hs p → JoinedWhere n q hs (place n q hs o p)
  unfolding place
  joined-found (not_found z) (not_found y) = joins_none (none-ends q hs z) (none-starts (q + n) hs y) refl
  joined-found (found i li e) (not_found y) =
      let b = hole_at i hs in
      let v = hole b.first (b.pages + n) in
      joins_before i (li, eqb-true (b.first + b.pages) q e) (none-starts (q + n) hs y) (set-length i v hs, λ k l. set-at i v hs li k)
  joined-found (not_found z) (found j lj d) =
      let c = hole_at j hs in
      let v = hole q (n + c.pages) in
      joins_after j (none-ends q hs z) (lj, eqb-true c.first (q + n) d) (set-length j v hs, λ k l. set-at j v hs lj k)
  joined-found (found i li e) (found j lj d) = joined-both i j li e lj d

-- a run that is given and not abandoned
pub joined_where_lem : (n q : ℕ) → 1 ≤ n → (a : Arena) → accepts n q a.store ≡ true → JoinedWhere n q a.store.holes (give n q a).store.holes
unfolding give insert
joined_where_lem n q one a e = rw e (joined-found n q one a.store.holes (finds (ends_at q) a.store.holes) (finds (starts_at (q + n)) a.store.holes))

-- room for it: it touches a hole, or there is a slot
module _ (n q : ℕ) (hs : List Hole) where
  room-found : {o p : Option ℕ} → Found (ends_at q) hs o → Found (starts_at (q + n)) hs p → (has_room hs o p ≡ true) ↔ (Touches n q hs ⊎ (length hs < hole_slots))
  room-found (found i l e) (found j k d) = (λ _. inl (inl (i, (l, eqb-true ((hole_at i hs).first + (hole_at i hs).pages) q e))), λ _. refl)
  room-found (found i l e) (not_found y) = (λ _. inl (inl (i, (l, eqb-true ((hole_at i hs).first + (hole_at i hs).pages) q e))), λ _. refl)
  room-found (not_found z) (found j l d) = (λ _. inl (inr (j, (l, eqb-true (hole_at j hs).first (q + n) d))), λ _. refl)
  room-found (not_found z) (not_found y) = (λ e. inr (ltb-true (length hs) hole_slots e), slot)
    where
      slot : Touches n q hs ⊎ (length hs < hole_slots) → ltb (length hs) hole_slots ≡ true
      slot (inl (inl x)) = absurd (none-ends q hs z x.0 x.1)
      slot (inl (inr x)) = absurd (none-starts (q + n) hs y x.0 x.1)
      slot (inr l) = lt-ltb (length hs) hole_slots l

pub stored : (n q : ℕ) (s : HoleStore) → (accepts n q s ≡ true) ↔ HasRoom n q s
unfolding accepts
stored n q s =
    let hs = s.holes in
    let t = leb (s.total + n) hole_pages_max in
    let u = has_room hs (hole_before q hs) (hole_after (q + n) hs) in
    let r = room-found n q hs (finds (ends_at q) hs) (finds (starts_at (q + n)) hs) in
    (λ e. (leb-true (s.total + n) hole_pages_max (and_left t u e), r.0 (and_right t u e)), λ x. rw (le-leb (s.total + n) hole_pages_max x.0, r.1 x.1))
