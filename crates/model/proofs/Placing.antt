-- A run put among the holes: what it joins, the account of every measure of holes, and that no two touch afterwards.
use Rattle.facts.proofs.Prelude.{ℕ, suc, ◌+◌, ◌-◌, ◌≤◌, ◌<◌, arith, Bool, true, false, List, [], ◌∷◌, ◌⊎◌, inl, inr, Option, none, some, ◌≡◌, refl, sym}
use Rattle.facts.proofs.Prelude.{ap, ◌∙◌, eqb, ltb, length, length-append, eqb-true, eqb-false, eq-eqb, ne_eqb, ltb-true, ltb-false, All, total, by_cases}
use Rattle.model.specs.declared.Hole.{Hole}
use Rattle.model.specs.Cover.{covers}
use Rattle.model.specs.HoleStore.{hole, hole_at, set_at, remove_at, next, lowest_that, ends_at, starts_at, hole_before, hole_after, with_both, place, hole_slots, has_room}
use Rattle.model.specs.Joining.{NoTwoTouch}
use Rattle.model.proofs.Counts.{total-append}
use Rattle.model.proofs.Runs.{covers_in, covers-before, covers-after, covers-cut}
use Rattle.model.proofs.HoleLists.{num, set-total, remove_total, at-total, total-le, all_set, all_remove, all_snoc, set-length, remove_length, set_same, set-differs}

-- how many holes end at page x, and start there
abbrev pub ends : ℕ → List Hole → ℕ
ends x hs = total (λ h. num (ends_at x h)) hs

abbrev pub starts : ℕ → List Hole → ℕ
starts x hs = total (λ h. num (starts_at x h)) hs

-- the lowest index that passes a test: it is there and passes, or none does
pub data Found (t : Hole → Bool) (hs : List Hole) : Option ℕ → Type 0 where
  found : (i : ℕ) → i < length hs → t (hole_at i hs) ≡ true → Found t hs (some i)
  not_found : total (λ h. num (t h)) hs ≡ 0 → Found t hs none

module _ (t : Hole → Bool) where
  found-next : (h : Hole) (hs : List Hole) {o : Option ℕ} → t h ≡ false → Found t hs o → Found t (h ∷ hs) (next o)
  found-next h hs e (found i l p) = found (suc i) (omega arith) p
  found-next h hs e (not_found z) = not_found (rw e (omega arith))

  pub finds : (hs : List Hole) → Found t hs (lowest_that t hs)
  unfolding lowest_that
  finds [] = not_found refl
  finds (h ∷ hs) = by_cases (t h) (λ e. rw e (found 0 (omega arith) e)) (λ e. rw e (found-next h hs e (finds hs)))

-- two runs that touch are one
pub covers-join : (n m q x : ℕ) → covers (n + m) q x ≡ covers n q x + covers m (q + n) x
covers-join n m q x = let k : n + m - n ≡ m = omega arith in sym (rw k at (covers-cut n (n + m) q x (omega arith)))

-- the hole at an index that was found, or none; the hole that a run makes with the one before it and the one behind; the holes it joins
abbrev pub value_at : List Hole → Option ℕ → Option Hole
value_at hs none = none
value_at hs (some i) = some (hole_at i hs)

abbrev pub new_of : ℕ → ℕ → Option Hole → Option Hole → Hole
new_of n q none none = hole q n
new_of n q (some b) none = hole b.first (b.pages + n)
new_of n q none (some c) = hole q (n + c.pages)
new_of n q (some b) (some c) = with_both n b c

abbrev pub joined_of : Option Hole → Option Hole → List Hole
joined_of none none = []
joined_of (some b) none = b ∷ []
joined_of none (some c) = c ∷ []
joined_of (some b) (some c) = b ∷ c ∷ []

-- the account: the joined holes are exchanged for the one that has the run
pub record Exchange (n : ℕ) (hs gs : List Hole) (new : Hole) (joined : List Hole) : Type 0 where
  pub sums : (f : Hole → ℕ) → total f gs + total f joined ≡ total f hs + f new
  pub pages : new.pages ≡ n + total (λ h. h.pages) joined
  -- it starts where no hole ends or a joined one started, and ends where no hole starts or a joined one ended
  pub opens : (ends new.first hs ≡ 0) ⊎ (1 ≤ starts new.first joined)
  pub closes : (starts (new.first + new.pages) hs ≡ 0) ⊎ (1 ≤ ends (new.first + new.pages) joined)

abbrev pub Placing : ℕ → ℕ → List Hole → Option ℕ → Option ℕ → Type 0
Placing n q hs o p = Exchange n hs (place n q hs o p) (new_of n q (value_at hs o) (value_at hs p)) (joined_of (value_at hs o) (value_at hs p))

-- both: hole i becomes v, then hole j is replaced by the last
module _ (hs : List Hole) (i j : ℕ) (li : i < length hs) (lj : j < length hs) (ne : i ≡ j → ⊥) (v : Hole) where
  abbrev set : List Hole
  set = set_at i v hs

  set_len : length set ≡ length hs
  set_len = set-length i v hs

  pub both_sums : (f : Hole → ℕ) → total f (remove_at j set) + (f (hole_at i hs) + (f (hole_at j hs) + 0)) ≡ total f hs + f v
  both_sums f =
      let other : hole_at j set ≡ hole_at j hs = set-differs i j v hs (λ e. ne (sym e)) in
      omega (arith, remove_total f j set (omega (arith, set_len)), set-total f i v hs li, ap f other)

-- no hole ends where it starts and starts behind it both: so the two that are found differ
pub touching-differ : (n q : ℕ) → 1 ≤ n → (h : Hole) → ends_at q h ≡ true → starts_at (q + n) h ≡ true → ⊥
touching-differ n q l h e d = omega (arith, eqb-true (h.first + h.pages) q e, eqb-true h.first (q + n) d)

module _ (n q : ℕ) (l : 1 ≤ n) (hs : List Hole) where
  placing-before : (i : ℕ) → i < length hs → ends_at q (hole_at i hs) ≡ true → starts (q + n) hs ≡ 0 → Placing n q hs (some i) none
  unfolding place
  placing-before i li e z =
      let b = hole_at i hs in
      let d = eqb-true (b.first + b.pages) q e in
      let end : b.first + (b.pages + n) ≡ q + n = omega arith in
      record {
        sums = λ f. omega (arith, set-total f i (hole b.first (b.pages + n)) hs li);
        pages = omega arith;
        opens = inr (rw (eq-eqb b.first b.first refl) (omega arith));
        closes = rw end (inl z);
      }

  placing-after : (j : ℕ) → j < length hs → starts_at (q + n) (hole_at j hs) ≡ true → ends q hs ≡ 0 → Placing n q hs none (some j)
  unfolding place
  placing-after j lj e z =
      let c = hole_at j hs in
      let d = eqb-true c.first (q + n) e in
      record {
        sums = λ f. omega (arith, set-total f j (hole q (n + c.pages)) hs lj);
        pages = omega arith;
        opens = inl z;
        closes = inr (rw (eq-eqb (c.first + c.pages) (q + (n + c.pages)) (omega arith)) (omega arith));
      }

  placing-both : (i j : ℕ) → i < length hs → ends_at q (hole_at i hs) ≡ true → j < length hs → starts_at (q + n) (hole_at j hs) ≡ true → Placing n q hs (some i) (some j)
  unfolding place
  placing-both i j li e lj d =
      let b = hole_at i hs in
      let c = hole_at j hs in
      let ends_at_lem = eqb-true (b.first + b.pages) q e in
      let starts-at = eqb-true c.first (q + n) d in
      record {
        sums = both_sums hs i j li lj (λ s. touching-differ n q l b e (rw (← s) at d)) (with_both n b c);
        pages = omega arith;
        opens = inr (rw (eq-eqb b.first b.first refl) (omega arith));
        closes = inr (rw (eq-eqb (c.first + c.pages) (b.first + (b.pages + n + c.pages)) (omega arith)) (omega arith));
      }

  placing-none : ends q hs ≡ 0 → starts (q + n) hs ≡ 0 → Placing n q hs none none
  unfolding place
  placing-none z y = record { sums = λ f. rw total-append (omega arith); pages = omega arith; opens = inl z; closes = inl y }

  placing-found : {o p : Option ℕ} → Found (ends_at q) hs o → Found (starts_at (q + n)) hs p → Placing n q hs o p
  placing-found (not_found z) (not_found y) = placing-none z y
  placing-found (found i li e) (not_found y) = placing-before i li e y
  placing-found (not_found z) (found j lj d) = placing-after j lj d z
  placing-found (found i li e) (found j lj d) = placing-both i j li e lj d

  pub placing : Placing n q hs (hole_before q hs) (hole_after (q + n) hs)
  placing = placing-found (finds (ends_at q) hs) (finds (starts_at (q + n)) hs)

-- no two touch, by counting
abbrev pub Touchless : List Hole → Type 0
Touchless hs = (x : ℕ) → (ends x hs ≡ 0) ⊎ (starts x hs ≡ 0)

pub no_two_touch_lem : (hs : List Hole) → Touchless hs → NoTwoTouch hs
no_two_touch_lem hs t i j li lj e =
    let x = (hole_at j hs).first in
    let a : 1 ≤ ends x hs = omega (arith, at-total (λ h. num (ends_at x h)) i hs li, ap num (eq-eqb ((hole_at i hs).first + (hole_at i hs).pages) x e)) in
    let b : 1 ≤ starts x hs = omega (arith, at-total (λ h. num (starts_at x h)) j hs lj, ap num (eq-eqb x x refl)) in
    elim (t x) [
      | inl z ↦ omega arith
      | inr z ↦ omega arith
    ]

module _ (n : ℕ) (one-page : 1 ≤ n) (hs gs : List Hole) (new : Hole) (joined : List Hole) (k : Exchange n hs gs new joined) where
  -- what a sum counts of the new hole
  ends-sum : (x : ℕ) → ends x gs + ends x joined ≡ ends x hs + num (ends_at x new)
  ends-sum x = k.sums (λ h. num (ends_at x h))

  starts-sum : (x : ℕ) → starts x gs + starts x joined ≡ starts x hs + num (starts_at x new)
  starts-sum x = k.sums (λ h. num (starts_at x h))

  fewer : (x : ℕ) → ends x gs ≤ ends x hs → starts x gs ≤ starts x hs → (ends x hs ≡ 0) ⊎ (starts x hs ≡ 0) → (ends x gs ≡ 0) ⊎ (starts x gs ≡ 0)
  fewer x a b (inl z) = inl (omega arith)
  fewer x a b (inr z) = inr (omega arith)

  pub touch-place : Touchless hs → Touchless gs
  touch-place t x =
      by_cases (starts_at x new)
      (λ e. let is = eqb-true new.first x e in
      let no_end : ends x gs ≤ ends x hs = omega (arith, ends-sum x, ap num (ne_eqb (new.first + new.pages) x (λ d. omega (arith, k.pages)))) in
      elim k.opens [
        | inl z ↦ inl (let y : ends x hs ≡ 0 = rw is at z in omega arith)
        | inr z ↦ (let y : 1 ≤ starts x joined = rw is at z in fewer x no_end (omega (arith, starts-sum x, ap num e)) (t x))
      ])
      (λ e. let no_start : starts x gs ≤ starts x hs = omega (arith, starts-sum x, ap num e) in
      by_cases (ends_at x new)
      (λ d. let is = eqb-true (new.first + new.pages) x d in
      elim k.closes [
        | inl z ↦ inr (let y : starts x hs ≡ 0 = rw is at z in omega arith)
        | inr z ↦ (let y : 1 ≤ ends x joined = rw is at z in fewer x (omega (arith, ends-sum x, ap num d)) no_start (t x))
      ])
      (λ d. fewer x (omega (arith, ends-sum x, ap num d)) no_start (t x)))

-- taking: a hole is used up, or cut at its front
module _ (i : ℕ) (hs : List Hole) (l : i < length hs) (t : Touchless hs) where
  pub touch_remove : Touchless (remove_at i hs)
  touch_remove x = elim (t x) [
    | inl z ↦ inl (omega (arith, remove_total (λ h. num (ends_at x h)) i hs l))
    | inr z ↦ inr (omega (arith, remove_total (λ h. num (starts_at x h)) i hs l))
  ]

-- a hole that ends behind page x has it, and no page is in two holes: so none ends within another
end-covers : (x : ℕ) (h : Hole) → 1 ≤ h.pages → num (ends_at (suc x) h) ≤ covers h.pages h.first x
end-covers x h l =
    by_cases (ends_at (suc x) h)
    (λ e. let d = eqb-true (h.first + h.pages) (suc x) e in rw e (omega (arith, covers_in h.pages h.first x (omega arith) (omega arith))))
    (λ e. rw e (omega arith))

module _ (n i : ℕ) (hs : List Hole) (one-page : 1 ≤ n) (l : i < length hs) (less : n < (hole_at i hs).pages)
    (each : All (λ h. 1 ≤ h.pages) hs) (once : (x : ℕ) → total (λ h. covers h.pages h.first x) hs ≤ 1) where
  abbrev cut : Hole
  cut = hole_at i hs

  none_within : (x : ℕ) → cut.first ≤ x → suc x < cut.first + cut.pages → ends (suc x) hs ≡ 0
  none_within x a b =
      let f : Hole → ℕ = λ h. num (ends_at (suc x) h) in
      let g : Hole → ℕ = λ h. covers h.pages h.first x in
      omega (
        arith,
        total-le (λ h. 1 ≤ h.pages) f g (end-covers x) (remove_at i hs) (all_remove (λ h. 1 ≤ h.pages) i hs each),
        remove_total f i hs l,
        remove_total g i hs l,
        ap num (ne_eqb (cut.first + cut.pages) (suc x) (λ e. omega arith)),
        covers_in cut.pages cut.first x a (omega arith),
        once x,
      )

  pub touch-cut : Touchless hs → Touchless (set_at i (hole (cut.first + n) (cut.pages - n)) hs)
  touch-cut t x =
      let rest = hole (cut.first + n) (cut.pages - n) in
      let end : rest.first + rest.pages ≡ cut.first + cut.pages = omega arith in
      let same : num (ends_at x rest) ≡ num (ends_at x cut) = ap (λ e. num (eqb e x)) end in
      let es = set-total (λ h. num (ends_at x h)) i rest hs l in
      let ss = set-total (λ h. num (starts_at x h)) i rest hs l in
      by_cases (starts_at x rest)
      (λ e. let is = eqb-true rest.first x e in
      let at : suc (cut.first + n - 1) ≡ x = omega arith in
      let z : ends x hs ≡ 0 = rw at at (none_within (cut.first + n - 1) (omega arith) (omega arith)) in
      inl (omega arith))
      (λ e. elim (t x) [
        | inl z ↦ inl (omega arith)
        | inr z ↦ inr (omega (arith, ap num e))
      ])

-- the pages of the holes, also for a run of none
covers-none : (n q x : ℕ) → n ≡ 0 → covers n q x ≡ 0
covers-none n q x z = by_cases (ltb x q) (λ e. covers-before n q x (ltb-true x q e)) (λ e. covers-after n q x (omega (arith, ltb-false x q e)))

module _ (n q x : ℕ) (hs : List Hole) where
  abbrev pages : Hole → ℕ
  pages h = covers h.pages h.first x

  covers-both : (i j : ℕ) → i < length hs → ends_at q (hole_at i hs) ≡ true → j < length hs → starts_at (q + n) (hole_at j hs) ≡ true
      → total pages (remove_at j (set_at i (with_both n (hole_at i hs) (hole_at j hs)) hs)) ≡ total pages hs + covers n q x
  covers-both i j li e lj d =
      let b = hole_at i hs in
      let c = hole_at j hs in
      let v = with_both n b c in
      let ends_at_lem = eqb-true (b.first + b.pages) q e in
      let starts-at = eqb-true c.first (q + n) d in
      by_cases (eqb i j)
      (λ s. let same = eqb-true i j s in
      let own : hole_at j (set_at i v hs) ≡ v = ap (λ k. hole_at k (set_at i v hs)) (sym same) ∙ set_same i v hs li in
      let bc : b ≡ c = ap (λ k. hole_at k hs) same in
      let zero-b : b.pages ≡ 0 = omega (arith, ap (λ (h : Hole). h.first) bc) in
      let zero-n : n ≡ 0 = omega (arith, ap (λ (h : Hole). h.first) bc) in
      omega (arith, remove_total pages j (set_at i v hs) (omega (arith, set-length i v hs)), set-total pages i v hs li, ap pages own, covers-none n q x zero-n, covers-none b.pages b.first x zero-b))
      (λ s. let first : covers n (b.first + b.pages) x ≡ covers n q x = rw ends_at_lem in
      let second : covers c.pages (b.first + (b.pages + n)) x ≡ covers c.pages c.first x = ap (λ k. covers c.pages k x) (omega arith) in
      omega (arith, both_sums hs i j li lj (eqb-false i j s) v pages, covers-join (b.pages + n) c.pages b.first x, covers-join b.pages n b.first x))

  covers-found : {o p : Option ℕ} → Found (ends_at q) hs o → Found (starts_at (q + n)) hs p → total pages (place n q hs o p) ≡ total pages hs + covers n q x
  unfolding place
  covers-found (not_found z) (not_found y) = rw total-append (omega arith)
  covers-found (found i li e) (not_found y) =
      let b = hole_at i hs in
      let at : covers n (b.first + b.pages) x ≡ covers n q x = rw (eqb-true (b.first + b.pages) q e) in
      omega (arith, set-total pages i (hole b.first (b.pages + n)) hs li, covers-join b.pages n b.first x)
  covers-found (not_found z) (found j lj d) =
      let c = hole_at j hs in
      let at : covers c.pages c.first x ≡ covers c.pages (q + n) x = rw (eqb-true c.first (q + n) d) in
      omega (arith, set-total pages j (hole q (n + c.pages)) hs lj, covers-join n c.pages q x)
  covers-found (found i li e) (found j lj d) = covers-both i j li e lj d

  pub place-covers : total pages (place n q hs (hole_before q hs) (hole_after (q + n) hs)) ≡ total pages hs + covers n q x
  place-covers = covers-found (finds (ends_at q) hs) (finds (starts_at (q + n)) hs)

-- as many holes as there were, if one was joined; and none of no pages
pub place-slots : (n q : ℕ) (hs : List Hole) → length hs ≤ hole_slots → (o p : Option ℕ) → has_room hs o p ≡ true → length (place n q hs o p) ≤ hole_slots
unfolding place
place-slots n q hs l none none e = rw length-append (omega (arith, ltb-true (length hs) hole_slots e))
place-slots n q hs l (some i) none e = rw set-length l
place-slots n q hs l none (some j) e = rw set-length l
place-slots n q hs l (some i) (some j) e = omega (arith, remove_length j (set_at i (with_both n (hole_at i hs) (hole_at j hs)) hs), set-length i (with_both n (hole_at i hs) (hole_at j hs)) hs)

pub place-each : (n q : ℕ) → 1 ≤ n → (hs : List Hole) → All (λ h. 1 ≤ h.pages) hs → (o p : Option ℕ) → All (λ h. 1 ≤ h.pages) (place n q hs o p)
unfolding place
place-each n q l hs k none none = all_snoc (λ h. 1 ≤ h.pages) hs (hole q n) k l
place-each n q l hs k (some i) none = all_set (λ h. 1 ≤ h.pages) i (hole (hole_at i hs).first ((hole_at i hs).pages + n)) (omega arith) hs k
place-each n q l hs k none (some j) = all_set (λ h. 1 ≤ h.pages) j (hole q (n + (hole_at j hs).pages)) (omega arith) hs k
place-each n q l hs k (some i) (some j) =
    let v = with_both n (hole_at i hs) (hole_at j hs) in
    all_remove (λ h. 1 ≤ h.pages) j (set_at i v hs) (all_set (λ h. 1 ≤ h.pages) i v (omega arith) hs k)
