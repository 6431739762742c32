-- Arenas that differ in the order of their holes and in the three counts alone answer alike, and go on differing in these alone.
use Rattle.facts.proofs.Prelude.{ℕ, ◌+◌, ◌-◌, ◌≤◌, ◌<◌, arith, Bool, true, false, cond, ◌&&◌, ◌||◌, List, [], ◌∷◌, Option, none, some, ◌≡◌, refl, sym}
use Rattle.facts.proofs.Prelude.{ap, ◌∙◌, ap₂, subst, eqb, leb, ltb, length, eqb-true, eq-eqb, All, total, is_some, by_cases, and_left, and_right}
use Rattle.words.specs.Host.{reservation_granted, commit_granted}
use Rattle.model.specs.declared.Hole.{Hole}
use Rattle.model.specs.Cover.{covers, covers_all}
use Rattle.model.specs.HoleStore.{HoleStore, hole, hole_at, remove_at, cut_from, take_at, ends_at, starts_at, hole_before, hole_after, hole_slots, hole_pages_max, insert, has_room, accepts}
use Rattle.model.specs.Arena.{Arena, Status, unasked, ready, disabled, with_status, with_frontier, counted, give, give_all, given, draw_from, draw, grant, commit_ready, commit_as, commit, can_grow, grow}
use Rattle.model.specs.Order.{is_hole, SameHoles, SameArena, SameGiven, SameGrown}
use Rattle.model.specs.Ledger.{above}
use Rattle.model.proofs.Runs.{covers_in, above-cut}
use Rattle.model.proofs.HoleLists.{num, set-total, remove_total, at-total, total-le, length-total, all-at}
use Rattle.model.proofs.Placing.{ends, starts, Found, found, not_found, finds, value_at, new_of, joined_of, placing}
use Rattle.model.proofs.StoreLaws.{Chosen, at-hole, no-hole, chosen, holes_with}
use Rattle.model.proofs.ArenaLaws.{idle, give-law, drawn}
use Rattle.model.proofs.Tidy.{Tidy}
use Rattle.model.proofs.ArenaTidy.{tidy-give, tidy-draw}

-- every measure of holes has the same sum
abbrev pub Sums : List Hole → List Hole → Type 0
Sums hs gs = (f : Hole → ℕ) → total f hs ≡ total f gs

same-hole : (h g : Hole) → h.first ≡ g.first → h.pages ≡ g.pages → h ≡ g
same-hole h g e d = ap₂ hole e d

is-hole : (h g : Hole) → is_hole g.first g.pages h ≡ true → h ≡ g
is-hole h g e = same-hole h g (eqb-true h.first g.first (and_left (eqb h.first g.first) (eqb h.pages g.pages) e)) (eqb-true h.pages g.pages (and_right (eqb h.first g.first) (eqb h.pages g.pages) e))

own-hole : (h : Hole) → is_hole h.first h.pages h ≡ true
own-hole h = rw (eq-eqb h.first h.first refl, eq-eqb h.pages h.pages refl)

-- a hole that a list counts is at some index of it
record At (g : Hole) (hs : List Hole) : Type 0 where
  index : ℕ
  inside : index < length hs
  there : hole_at index hs ≡ g

counted-at : (g : Hole) (hs : List Hole) → 1 ≤ total (λ h. num (is_hole g.first g.pages h)) hs → At g hs
counted-at g hs l = look (finds (is_hole g.first g.pages) hs)
  where
    look : {o : Option ℕ} → Found (is_hole g.first g.pages) hs o → At g hs
    look (found i b e) = record { index = i; inside = b; there = is-hole (hole_at i hs) g e }
    look (not_found z) = absurd (omega arith)

pub same-sums : (hs gs : List Hole) → SameHoles hs gs → Sums hs gs
same-sums [] [] s f = refl
same-sums [] (g ∷ gs) s f = absurd (omega (arith, s g.first g.pages, ap num (own-hole g)))
same-sums (h ∷ hs) gs s f =
    let x = counted-at h gs (omega (arith, s h.first h.pages, ap num (own-hole h))) in
    let i = x.index in
    let rest : SameHoles hs (remove_at i gs) = λ q n. omega (arith, s q n, remove_total (λ g. num (is_hole q n g)) i gs x.inside, ap (λ g. num (is_hole q n g)) x.there) in
    omega (arith, same-sums hs (remove_at i gs) rest f, remove_total f i gs x.inside, ap f x.there)

module _ (hs gs : List Hole) (s : Sums hs gs) where
  other_at : (i : ℕ) → i < length hs → At (hole_at i hs) gs
  other_at i l =
      let g = hole_at i hs in
      counted-at g gs (omega (arith, s (λ h. num (is_hole g.first g.pages h)), at-total (λ h. num (is_hole g.first g.pages h)) i hs l, ap num (own-hole g)))

  same_length : length hs ≡ length gs
  same_length = sym (length-total hs) ∙ s (λ h. 1) ∙ length-total gs

module _ (hs gs : List Hole) (s : Sums hs gs) where
  -- what holds of every hole of the one holds of a hole of the other
  all-other : (P : Hole → Type 0) → All P hs → (j : ℕ) → j < length gs → P (hole_at j gs)
  all-other P k j l = let x = other_at gs hs (λ f. sym (s f)) j l in rw x.there at (all-at P x.index hs x.inside k)

-- the chosen hole is the same
chosen-same : (n : ℕ) (hs gs : List Hole) → Sums hs gs → {o p : Option ℕ} → Chosen n hs o → Chosen n gs p → value_at hs o ≡ value_at gs p
chosen-same n hs gs s (no-hole k) (no-hole l) = refl
chosen-same n hs gs s (at-hole i a b) (no-hole l) = absurd (omega (arith, a.enough, all-other gs hs (λ f. sym (s f)) (λ h. h.pages < n) l i a.inside))
chosen-same n hs gs s (no-hole k) (at-hole j c d) = absurd (omega (arith, c.enough, all-other hs gs s (λ h. h.pages < n) k j c.inside))
chosen-same n hs gs s (at-hole i a b) (at-hole j c d) =
    let x = hole_at i hs in
    let y = hole_at j gs in
    let le = all-other hs gs s (λ h. n ≤ h.pages → x.pages ≤ h.pages) a.least j c.inside c.enough in
    let ge = all-other gs hs (λ f. sym (s f)) (λ h. n ≤ h.pages → y.pages ≤ h.pages) c.least i a.inside a.enough in
    let same : x.pages ≡ y.pages = omega arith in
    let lo = all-other hs gs s (λ h. h.pages ≡ x.pages → x.first ≤ h.first) b j c.inside (sym same) in
    let hi = all-other gs hs (λ f. sym (s f)) (λ h. h.pages ≡ y.pages → y.first ≤ h.first) d i a.inside same in
    ap some (same-hole x y (omega arith) same)

-- the hole that passes a test is the same where only one does
none_passes : (t : Hole → Bool) (g : Hole → ℕ) (hs : List Hole) → total (λ h. num (t h)) hs ≡ 0 → total (λ h. cond (t h) (g h) 0) hs ≡ 0
none_passes t g [] z = refl
none_passes t g (h ∷ hs) z = by_cases (t h) (λ e. absurd (omega (arith, ap num e))) (λ e. rw e (omega (arith, none_passes t g hs (omega arith))))

one_passes : (t : Hole → Bool) (g : Hole → ℕ) (hs : List Hole) (i : ℕ) → i < length hs → t (hole_at i hs) ≡ true → total (λ h. num (t h)) hs ≤ 1
    → total (λ h. cond (t h) (g h) 0) hs ≡ g (hole_at i hs)
one_passes t g hs i l e u =
    let own : cond (t (hole_at i hs)) (g (hole_at i hs)) 0 ≡ g (hole_at i hs) = rw e in
    omega (
      arith,
      remove_total (λ h. num (t h)) i hs l,
      ap num e,
      remove_total (λ h. cond (t h) (g h) 0) i hs l,
      none_passes t g (remove_at i hs) (omega (arith, remove_total (λ h. num (t h)) i hs l, ap num e)),
    )

found-same : (t : Hole → Bool) (hs gs : List Hole) → Sums hs gs → total (λ h. num (t h)) hs ≤ 1 → {o p : Option ℕ} → Found t hs o → Found t gs p → value_at hs o ≡ value_at gs p
found-same t hs gs s u (not_found z) (not_found y) = refl
found-same t hs gs s u (found i l e) (not_found y) = absurd (omega (arith, s (λ h. num (t h)), at-total (λ h. num (t h)) i hs l, ap num e))
found-same t hs gs s u (not_found z) (found j l e) = absurd (omega (arith, s (λ h. num (t h)), at-total (λ h. num (t h)) j gs l, ap num e))
found-same t hs gs s u (found i l e) (found j k d) =
    let v = s (λ h. num (t h)) in
    ap some (same-hole (hole_at i hs) (hole_at j gs)
    (omega (arith, one_passes t (λ h. h.first) hs i l e u, one_passes t (λ h. h.first) gs j k d (omega arith), s (λ h. cond (t h) h.first 0)))
    (omega (arith, one_passes t (λ h. h.pages) hs i l e u, one_passes t (λ h. h.pages) gs j k d (omega arith), s (λ h. cond (t h) h.pages 0))))

-- no page is in two holes: so at most one ends, and one starts, at a page
start-covers : (x : ℕ) (h : Hole) → 1 ≤ h.pages → num (starts_at x h) ≤ covers h.pages h.first x
start-covers x h l =
    by_cases (starts_at x h)
    (λ e. let d = eqb-true h.first x e in rw e (omega (arith, covers_in h.pages h.first x (omega arith) (omega arith))))
    (λ e. rw e (omega arith))

end_covers_any : (x : ℕ) (h : Hole) → 1 ≤ h.pages → num (ends_at x h) ≤ covers h.pages h.first (x - 1)
end_covers_any x h l =
    by_cases (ends_at x h)
    (λ e. let d = eqb-true (h.first + h.pages) x e in rw e (omega (arith, covers_in h.pages h.first (x - 1) (omega arith) (omega arith))))
    (λ e. rw e (omega arith))

module _ (hs : List Hole) (each : All (λ h. 1 ≤ h.pages) hs) (once : (x : ℕ) → holes_with x hs ≤ 1) where
  ends-once : (q : ℕ) → ends q hs ≤ 1
  ends-once q = omega (arith, once (q - 1), total-le (λ h. 1 ≤ h.pages) (λ h. num (ends_at q h)) (λ h. covers h.pages h.first (q - 1)) (end_covers_any q) hs each)

  starts-once : (q : ℕ) → starts q hs ≤ 1
  starts-once q = omega (arith, once q, total-le (λ h. 1 ≤ h.pages) (λ h. num (starts_at q h)) (λ h. covers h.pages h.first q) (start-covers q) hs each)

-- an arena whose holes are of 1 page or more, and which has no page idle twice
pub record Sound (a : Arena) : Type 0 where
  pub tidy : Tidy a.store
  pub once : (x : ℕ) → idle x a ≤ 1

-- giving
abbrev room_of : ℕ → Option Hole → Option Hole → Bool
room_of l b c = is_some b || is_some c || ltb l hole_slots

room-value : (hs : List Hole) (o p : Option ℕ) → has_room hs o p ≡ room_of (length hs) (value_at hs o) (value_at hs p)
room-value hs none none = refl
room-value hs none (some j) = refl
room-value hs (some i) none = refl
room-value hs (some i) (some j) = refl

module _ (n q : ℕ) (one : 1 ≤ n) (a b : Arena) (s : SameArena a b) (k : Sound a) where
  abbrev hs : List Hole
  hs = a.store.holes

  abbrev gs : List Hole
  gs = b.store.holes

  sums : Sums hs gs
  sums = same-sums hs gs s.holes

  once : (x : ℕ) → holes_with x hs ≤ 1
  once x = omega (arith, k.once x)

  before_same : value_at hs (hole_before q hs) ≡ value_at gs (hole_before q gs)
  before_same = found-same (ends_at q) hs gs sums (ends-once hs k.tidy.each once q) (finds (ends_at q) hs) (finds (ends_at q) gs)

  after_same : value_at hs (hole_after (q + n) hs) ≡ value_at gs (hole_after (q + n) gs)
  after_same = found-same (starts_at (q + n)) hs gs sums (starts-once hs k.tidy.each once (q + n)) (finds (starts_at (q + n)) hs) (finds (starts_at (q + n)) gs)

  accepts-same : accepts n q a.store ≡ accepts n q b.store
  unfolding accepts
  accepts-same =
      let x = before_same in
      let y = after_same in
      let z = same_length hs gs sums in
      ap₂ ◌&&◌ (ap (λ t. leb (t + n) hole_pages_max) s.total) (room-value hs (hole_before q hs) (hole_after (q + n) hs) ∙ (cc) ∙ sym (room-value gs (hole_before q gs) (hole_after (q + n) gs)))

  insert-same : Sums (insert n q a.store).holes (insert n q b.store).holes
  unfolding insert
  insert-same f =
      omega (
        arith,
        (placing n q one hs).sums f,
        (placing n q one gs).sums f,
        sums f,
        ap₂ (λ x y. total f (joined_of x y)) before_same after_same,
        ap₂ (λ x y. f (new_of n q x y)) before_same after_same,
      )

  pub give-same : SameArena (give n q a) (give n q b)
  unfolding give insert
  give-same =
      by_cases (accepts n q a.store)
      (λ e. let d : accepts n q b.store ≡ true = sym accepts-same ∙ e in
      rw (e, d) (record { status = s.status; frontier = s.frontier; holes = λ x m. insert-same (λ h. num (is_hole x m h)); total = ap (λ t. t + n) s.total }))
      (λ e. let d : accepts n q b.store ≡ false = sym accepts-same ∙ e in
      rw (e, d) (record { status = s.status; frontier = s.frontier; holes = s.holes; total = s.total }))

-- giving in turn, where no page is given that is idle
pub give_all-same : (n : ℕ) → 1 ≤ n → (qs : List ℕ) (a b : Arena) → SameArena a b → Tidy a.store → ((x : ℕ) → idle x a + covers_all n qs x ≤ 1) → SameArena (give_all n qs a) (give_all n qs b)
give_all-same n one [] a b s t u = s
give_all-same n one (q ∷ qs) a b s t u =
    give_all-same n one qs (give n q a) (give n q b)
    (give-same n q one a b s (record { tidy = t; once = λ x. omega (arith, u x) }))
    (tidy-give n one q a t)
    (λ x. omega (arith, u x, give-law n q x a))

-- drawing: what a cut or used-up hole leaves of a sum
abbrev rest_sum : ℕ → (Hole → ℕ) → Hole → ℕ
rest_sum n f x = cond (ltb n x.pages) (f (hole (x.first + n) (x.pages - n))) 0

module _ (n i : ℕ) (s : HoleStore) (l : i < length s.holes) where
  take-sums : (f : Hole → ℕ) → total f (take_at n i s).holes + f (hole_at i s.holes) ≡ total f s.holes + rest_sum n f (hole_at i s.holes)
  unfolding cut_from
  take-sums f =
      let x = hole_at i s.holes in
      by_cases (ltb n x.pages)
      (λ e. rw e (set-total f i (hole (x.first + n) (x.pages - n)) s.holes l))
      (λ e. rw e (omega (arith, remove_total f i s.holes l)))

take-total : (n i : ℕ) (s : HoleStore) → (take_at n i s).total ≡ s.total - n
unfolding cut_from
take-total n i s = by_cases (ltb n (hole_at i s.holes).pages) (λ e. rw e) (λ e. rw e)

same-given : (a b : Arena) (o : Option ℕ) (f : Bool) → SameArena a b → SameGiven (given a o f) (given b o f)
same-given a b o f s = record { run = refl; fresh = refl; arena = s }

module _ (size n : ℕ) (a b : Arena) (s : SameArena a b) where
  abbrev xs : List Hole
  xs = a.store.holes

  abbrev ys : List Hole
  ys = b.store.holes

  from-same : {o p : Option ℕ} → Chosen n xs o → Chosen n ys p → value_at xs o ≡ value_at ys p → SameGiven (draw_from size n a o) (draw_from size n b p)
  unfolding draw_from
  from-same (at-hole i k w) (at-hole j l v) e =
      let x = hole_at i xs in
      let y = hole_at j ys in
      let same : x ≡ y = cc in
      let sum = same-sums xs ys s.holes in
      record {
        run = ap (λ (h : Hole). some h.first) same;
        fresh = refl;
        arena = record {
          status = s.status;
          frontier = s.frontier;
          holes = λ q m. (let f : Hole → ℕ = λ h. num (is_hole q m h) in omega (arith, sum f, take-sums n i a.store k.inside f, take-sums n j b.store l.inside f, ap f same, ap (rest_sum n f) same));
          total = take-total n i a.store ∙ ap (λ t. t - n) s.total ∙ sym (take-total n j b.store);
        };
      }
  from-same (at-hole i k w) (no-hole l) e = let z : ◌≡◌ {A = ℕ} 0 1 = cc in absurd (omega arith)
  from-same (no-hole k) (at-hole j l v) e = let z : ◌≡◌ {A = ℕ} 0 1 = cc in absurd (omega arith)
  from-same (no-hole k) (no-hole l) e =
      by_cases (leb (a.frontier + n) size)
      (λ d. let d' : leb (b.frontier + n) size ≡ true = rw s.frontier at d in
      rw (d, d') (record {
        run = ap some s.frontier;
        fresh = refl;
        arena = record { status = s.status; frontier = ap (λ f. f + n) s.frontier; holes = s.holes; total = s.total };
      }))
      (λ d. let d' : leb (b.frontier + n) size ≡ false = rw s.frontier at d in rw (d, d') (same-given a b none false s))

  draw-same : SameGiven (draw size n a) (draw size n b)
  unfolding draw
  draw-same = from-same (chosen n xs) (chosen n ys) (chosen-same n xs ys (same-sums xs ys s.holes) (chosen n xs) (chosen n ys))

-- committing
counted_same : (f : Bool) (a b : Arena) → SameArena a b → SameArena (counted f a) (counted f b)
counted_same f a b s = record { status = s.status; frontier = s.frontier; holes = s.holes; total = s.total }

status-same : (x : Status) (a b : Arena) → SameArena a b → SameArena (with_status x a) (with_status x b)
status-same x a b s = record { status = refl; frontier = s.frontier; holes = s.holes; total = s.total }

module _ (size h n : ℕ) (one : 1 ≤ n) where
  grant-same : (a b : Arena) (o : Option ℕ) (f : Bool) → SameArena a b → Sound a → SameGiven (grant h n a o f) (grant h n b o f)
  unfolding grant
  grant-same a b none f s k = same-given a b none false s
  grant-same a b (some q) f s k =
      by_cases (commit_granted h)
      (λ e. rw e (same-given (counted f a) (counted f b) (some q) f (counted_same f a b s)))
      (λ e. rw e (same-given (give n q a) (give n q b) none false (give-same n q one a b s k)))

  ready-same : (a b : Arena) → SameArena a b → Sound a → SameGiven (commit_ready size h n a) (commit_ready size h n b)
  unfolding commit_ready
  ready-same a b s k =
      let d = draw size n a in
      let e = draw size n b in
      let w = draw-same size n a b s in
      let sound : Sound d.arena = record { tidy = tidy-draw size n one a (λ x. omega (arith, k.once x)) k.tidy; once = λ x. omega (arith, k.once x, (drawn size n a).pages x) } in
      rw (← w.run, ← w.fresh) (grant-same d.arena e.arena d.run d.fresh w.arena sound)

  as_same : (a b : Arena) (x : Status) → SameArena a b → Sound a → SameGiven (commit_as size h n a x) (commit_as size h n b x)
  unfolding commit_as
  as_same a b unasked s k =
      by_cases (reservation_granted h)
      (λ e. rw e (ready-same (with_status ready a) (with_status ready b) (status-same ready a b s) (record { tidy = k.tidy; once = k.once })))
      (λ e. rw e (same-given (with_status disabled a) (with_status disabled b) none false (status-same disabled a b s)))
  as_same a b ready s k = ready-same a b s k
  as_same a b disabled s k = same-given a b none false s

  pub commit-same : (a b : Arena) → SameArena a b → Sound a → SameGiven (commit size h n a) (commit size h n b)
  unfolding commit
  commit-same a b s k = subst (λ x. SameGiven (commit_as size h n a a.status) (commit_as size h n b x)) s.status (as_same a b a.status s k)

-- growing
module _ (size h e n : ℕ) (one : 1 ≤ n) (a b : Arena) (s : SameArena a b) (k : Sound a) where
  abbrev up : Arena → Arena
  up x = with_frontier (e + n) x

  up_same : SameArena (up a) (up b)
  up_same = record { status = s.status; frontier = refl; holes = s.holes; total = s.total }

  up-sound : can_grow size e n a ≡ true → Sound (up a)
  up-sound c = record { tidy = k.tidy; once = λ x. omega (arith, k.once x, above-cut n e x, ap (λ f. above f x) (eqb-true a.frontier e (and_left (eqb a.frontier e) (leb (e + n) size) c))) }

  pub grow-same : SameGrown (grow size h e n a) (grow size h e n b)
  unfolding grow
  grow-same =
      by_cases (can_grow size e n a)
      (λ c. let c' : can_grow size e n b ≡ true = rw s.frontier at c in
      by_cases (commit_granted h)
      (λ g. rw (c, c', g) (record { grew = refl; arena = counted_same true (up a) (up b) up_same }))
      (λ g. rw (c, c', g) (record { grew = refl; arena = give-same n e one (up a) (up b) up_same (up-sound c) })))
      (λ c. let c' : can_grow size e n b ≡ false = rw s.frontier at c in rw (c, c') (record { grew = refl; arena = s }))
