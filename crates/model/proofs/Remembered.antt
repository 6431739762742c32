-- Document 01's choice of a hole is one of the least sufficient length; where it is the lowest page it is the model's. A given run that touches no
-- hole, or passes the total, goes where the model puts it. So a call's part at the arena is the model's, memory aside.
use Rattle.facts.proofs.Prelude.{ℕ, ◌+◌, ◌≤◌, ◌<◌, arith, Bool, true, false, ◌&&◌, false≢true, List, [], ◌∷◌, inl, inr, Option, none, some, ◌≡◌, refl, sym, ap, ◌∙◌}
use Rattle.facts.proofs.Prelude.{eqb, leb, ltb, length, eqb-true, eqb-false, eq-eqb, leb-true, ltb-true, ltb-false, lt-ltb, All, total, by_cases, and_left, and_right}
use Rattle.words.specs.Host.{reservation_granted, commit_granted}
use Rattle.model.specs.Cover.{covers}
use Rattle.model.specs.declared.Hole.{Hole}
use Rattle.model.specs.HoleStore.{hole, hole_at, set_at, ends_at, starts_at, hole_slots, hole_pages_max, insert, place, accepts}
use Rattle.model.specs.Arena as Arenas
use Rattle.model.specs.Arena.{Status, unasked, ready, disabled, with_status, with_frontier, draw_from, can_grow}
use Rattle.model.specs.BestFit.{LeastAt, Which, NoneFits}
use Rattle.model.specs.Joining.{Touches}
use Rattle.model.specs.Remembered.{Memory, still_holds, lesser, least_above, lowest_of, failing, Choice, choose, has_slot, gave, State, on_arena, holes_of, give, give_all, Given, draw_by, draw, grant, commit_ready, commit_as, commit, Grown, grow}
use Rattle.model.specs.Original.{Alike}
use Rattle.model.proofs.Runs.{covers_in, covers-after}
use Rattle.model.proofs.HoleLists.{num, all_map, set-total, at-total, set-length, set-differs, all-at}
use Rattle.model.proofs.Placing.{Found, found, not_found, finds}
use Rattle.model.proofs.StoreLaws.{Chosen, at-hole, no-hole, chosen, holes_with}

-- ---- the choice
all_of : (P : Hole → Type 0) → ((h : Hole) → P h) → (hs : List Hole) → All P hs
all_of P f [] = tt
all_of P f (h ∷ hs) = (f h, all_of P f hs)

-- a measure that is 0 in all is 0 of each
none_of : (n : ℕ) (P Q : Hole → Type 0) → ((h : Hole) → (h.pages ≡ n → ⊥) → P h → Q h) → (hs : List Hole) → total (λ h. num (eqb h.pages n)) hs ≡ 0 → All P hs → All Q hs
none_of n P Q f [] z k = tt
none_of n P Q f (h ∷ hs) z k = (f h (λ e. omega (arith, ap num (eq-eqb h.pages n e))) k.0, none_of n P Q f hs (omega arith) k.1)

-- the least length above n, or none is above
record Above (n : ℕ) (hs : List Hole) (l : ℕ) : Type 0 where
  above : n < l
  there : 1 ≤ total (λ h. num (eqb h.pages l)) hs
  least : All (λ h. n < h.pages → l ≤ h.pages) hs

data LeastLength (n : ℕ) (hs : List Hole) : Option ℕ → Type 0 where
  is-length : (l : ℕ) → Above n hs l → LeastLength n hs (some l)
  no_length : All (λ h. h.pages ≤ n) hs → LeastLength n hs none

module _ (n : ℕ) (h : Hole) (hs : List Hole) where
  own : 1 ≤ total (λ g. num (eqb g.pages h.pages)) (h ∷ hs)
  own = omega (arith, ap num (eq-eqb h.pages h.pages refl))

  lesser-is : {o : Option ℕ} → LeastLength n hs o → LeastLength n (h ∷ hs) (lesser n h.pages o)
  lesser-is (no_length k) =
      by_cases (ltb n h.pages)
      (λ e. rw e (is-length h.pages (record { above = ltb-true n h.pages e; there = own; least = (λ _. omega arith, all_map (λ g. g.pages ≤ n) (λ g. n < g.pages → h.pages ≤ g.pages) (λ g a b. absurd (omega arith)) hs k) })))
      (λ e. rw e (no_length (ltb-false n h.pages e, k)))
  lesser-is (is-length l a) =
      by_cases (ltb n h.pages && ltb h.pages l)
      (λ e. let less = ltb-true h.pages l (and_right (ltb n h.pages) (ltb h.pages l) e) in
      rw e (is-length h.pages (record { above = ltb-true n h.pages (and_left (ltb n h.pages) (ltb h.pages l) e); there = own; least = (λ _. omega arith, all_map (λ g. n < g.pages → l ≤ g.pages) (λ g. n < g.pages → h.pages ≤ g.pages) (λ g b c. omega (arith, b c)) hs a.least) })))
      (λ e. rw e (is-length l (record {
        above = a.above;
        there = omega (arith, a.there);
        least = (λ b. ltb-false h.pages l (rw (lt-ltb n h.pages b) at e), a.least);
      })))

least-length : (n : ℕ) (hs : List Hole) → LeastLength n hs (least_above n hs)
unfolding least_above
least-length n [] = no_length tt
least-length n (h ∷ hs) = lesser-is n h hs (least-length n hs)

-- a hole of the least sufficient length, or none suffices
data Picked (n : ℕ) (hs : List Hole) : Option ℕ → Type 0 where
  picked : (i : ℕ) → LeastAt n hs i → Picked n hs (some i)
  none-picked : NoneFits n hs → Picked n hs none

module _ (n : ℕ) (hs : List Hole) where
  exact : (i : ℕ) → i < length hs → eqb (hole_at i hs).pages n ≡ true → LeastAt n hs i
  exact i l e =
      let is = eqb-true (hole_at i hs).pages n e in
      record { inside = l; enough = omega arith; least = all_of (λ h. n ≤ h.pages → (hole_at i hs).pages ≤ h.pages) (λ h a. omega arith) hs }

  longer : (l : ℕ) → total (λ h. num (eqb h.pages n)) hs ≡ 0 → Above n hs l → {o : Option ℕ} → Found (λ h. eqb h.pages l) hs o → Picked n hs o
  longer l z a (not_found y) = absurd (omega (arith, a.there))
  longer l z a (found i b e) =
      let is = eqb-true (hole_at i hs).pages l e in
      picked i (record {
        inside = b;
        enough = omega (arith, a.above);
        least = rw is (none_of n (λ h. n < h.pages → l ≤ h.pages) (λ h. n ≤ h.pages → l ≤ h.pages) (λ h ne f g. f (omega (arith, ne))) hs z a.least);
      })

  failing_picks : {o p : Option ℕ} → Found (λ h. eqb h.pages n) hs o → LeastLength n hs p → Picked n hs (failing o (lowest_of p hs))
  failing_picks (found i b e) k = picked i (exact i b e)
  failing_picks (not_found z) (no_length k) = none-picked (none_of n (λ h. h.pages ≤ n) (λ h. h.pages < n) (λ h ne l. omega (arith, ne)) hs z k)
  failing_picks (not_found z) (is-length l a) = longer l z a (finds (λ h. eqb h.pages l) hs)

  held_picks : (o : Option ℕ) → still_holds n hs o ≡ true → Picked n hs o
  unfolding still_holds
  held_picks none e = absurd (false≢true e)
  held_picks (some i) e = picked i (exact i (ltb-true i (length hs) (and_left (ltb i (length hs)) (eqb (hole_at i hs).pages n) e)) (and_right (ltb i (length hs)) (eqb (hole_at i hs).pages n) e))

choose_picks : (n : ℕ) (hs : List Hole) (m : Memory) → Picked n hs (choose n hs m).index
unfolding choose
choose_picks n [] m = none-picked tt
choose_picks n (h ∷ hs) m =
    by_cases (still_holds n (h ∷ hs) (m n))
    (λ e. rw e (held_picks n (h ∷ hs) (m n) e))
    (λ e. rw e (failing_picks n (h ∷ hs) (finds (λ g. eqb g.pages n) (h ∷ hs)) (least-length n (h ∷ hs))))

-- no page is in two holes, and none is of no pages: so no two holes start at one page
pub record Apart (hs : List Hole) : Type 0 where
  pub each : All (λ h. 1 ≤ h.pages) hs
  pub once : (x : ℕ) → holes_with x hs ≤ 1

module _ (hs : List Hole) (d : Apart hs) where
  one_index : (i j : ℕ) → i < length hs → j < length hs → (hole_at i hs).first ≡ (hole_at j hs).first → j ≡ i
  one_index i j li lj e =
      by_cases (eqb j i) (λ s. eqb-true j i s)
      (λ s. let g = hole_at i hs in
      let h = hole_at j hs in
      let x = g.first in
      let f : Hole → ℕ = λ k. covers k.pages k.first x in
      let none = hole 0 0 in
      let other = ap f (set-differs i j none hs (eqb-false j i s)) in
      absurd (omega (
        arith,
        set-total f i none hs li,
        covers-after 0 0 x (omega arith),
        at-total f j (set_at i none hs) (omega (arith, set-length i none hs)),
        covers_in g.pages g.first x (omega arith) (omega (arith, all-at (λ k. 1 ≤ k.pages) i hs li d.each)),
        covers_in h.pages h.first x (omega arith) (omega (arith, all-at (λ k. 1 ≤ k.pages) j hs lj d.each)),
        d.once x,
      )))

  -- what is asked of a choice; then it is the model's
  abbrev Lowest : Option ℕ → Type 0
  Lowest none = Unit
  Lowest (some i) = Which hs i

  same-choice : (n : ℕ) {o p : Option ℕ} → Picked n hs o → Chosen n hs p → Lowest o → p ≡ o
  same-choice n (none-picked z) (no-hole y) w = refl
  same-choice n (none-picked z) (at-hole j k v) w = absurd (omega (arith, k.enough, all-at (λ h. h.pages < n) j hs k.inside z))
  same-choice n (picked i k) (no-hole z) w = absurd (omega (arith, k.enough, all-at (λ h. h.pages < n) i hs k.inside z))
  same-choice n (picked i k) (at-hole j l v) w =
      let P : Hole → Type 0 = λ h. n ≤ h.pages → (hole_at i hs).pages ≤ h.pages in
      let Q : Hole → Type 0 = λ h. n ≤ h.pages → (hole_at j hs).pages ≤ h.pages in
      let long : (hole_at i hs).pages ≡ (hole_at j hs).pages = omega (arith, all-at P j hs l.inside k.least l.enough, all-at Q i hs k.inside l.least k.enough) in
      let a = all-at (λ h. h.pages ≡ (hole_at i hs).pages → (hole_at i hs).first ≤ h.first) j hs l.inside w (sym long) in
      let b = all-at (λ h. h.pages ≡ (hole_at j hs).pages → (hole_at j hs).first ≤ h.first) i hs k.inside v long in
      ap some (one_index i j k.inside l.inside (omega arith))

-- ---- giving
module _ (n q : ℕ) (s : State) where
  gives : (give n q s).acts ≡ gave s.arena.store q n ∷ s.acts
  unfolding give
  gives = by_cases (has_slot n s.arena.store) (λ e. rw e) (λ e. rw e)

  pub give-fine : All Alike (give n q s).acts → Alike (gave s.arena.store q n) × All Alike s.acts
  give-fine f = rw gives at f

  no-before : (Touches n q (holes_of s) → ⊥) → {o : Option ℕ} → Found (ends_at q) (holes_of s) o → o ≡ none
  no-before t (found i l e) = absurd (t (inl (i, (l, eqb-true ((hole_at i (holes_of s)).first + (hole_at i (holes_of s)).pages) q e))))
  no-before t (not_found z) = refl

  no-after : (Touches n q (holes_of s) → ⊥) → {o : Option ℕ} → Found (starts_at (q + n)) (holes_of s) o → o ≡ none
  no-after t (found j l e) = absurd (t (inr (j, (l, eqb-true (hole_at j (holes_of s)).first (q + n) e))))
  no-after t (not_found z) = refl

  pub give-same : Alike (gave s.arena.store q n) → (give n q s).arena ≡ Arenas.give n q s.arena
  unfolding give has_slot Arenas.give accepts insert place
  give-same k =
      by_cases (leb (s.arena.store.total + n) hole_pages_max)
      (λ l. let t = k (leb-true (s.arena.store.total + n) hole_pages_max l) in
      rw (no-before t (finds (ends_at q) (holes_of s)), no-after t (finds (starts_at (q + n)) (holes_of s)))
      (by_cases (leb (s.arena.store.total + n) hole_pages_max && ltb (length (holes_of s)) hole_slots) (λ e. rw e) (λ e. rw e)))
      (λ l. rw l)

pub gives-fine : (n : ℕ) (qs : List ℕ) (s : State) → All Alike (give_all n qs s).acts → All Alike s.acts
gives-fine n [] s f = f
gives-fine n (q ∷ qs) s f = (give-fine n q s (gives-fine n qs (give n q s) f)).1

pub gives_same : (n : ℕ) (qs : List ℕ) (s : State) → All Alike (give_all n qs s).acts → (give_all n qs s).arena ≡ Arenas.give_all n qs s.arena
gives_same n [] s f = refl
gives_same n (q ∷ qs) s f = gives_same n qs (give n q s) f ∙ ap (Arenas.give_all n qs) (give-same n q s (give-fine n q s (gives-fine n qs (give n q s) f)).0)

-- ---- committing: what was given is the model's
abbrev pub as_given : Given → Arenas.Given
as_given g = Arenas.given g.state.arena g.run g.fresh

module _ (size n : ℕ) (s : State) where
  draw-by : (c : Choice) (o : Option ℕ) → as_given (draw_by size n s c o) ≡ draw_from size n s.arena o
  unfolding draw_by
  draw-by c none = refl
  draw-by c (some i) = refl

  draw-low : (d : Apart (holes_of s)) (c : Choice) (o : Option ℕ) → All Alike (draw_by size n s c o).state.acts → Lowest (holes_of s) d o
  unfolding draw_by
  draw-low d c none f = tt
  draw-low d c (some i) f = f.0

  draw-same : Apart (holes_of s) → All Alike (draw size n s).state.acts → as_given (draw size n s) ≡ Arenas.draw size n s.arena
  unfolding draw Arenas.draw
  draw-same d f =
      let c = choose n (holes_of s) s.memory in
      draw-by c c.index ∙ ap (draw_from size n s.arena) (sym (same-choice (holes_of s) d n (choose_picks n (holes_of s) s.memory) (chosen n (holes_of s)) (draw-low d c c.index f)))

module _ (size h n : ℕ) where
  grant-same : (s : State) (o : Option ℕ) (b : Bool) → All Alike (grant h n s o b).state.acts → (as_given (grant h n s o b) ≡ Arenas.grant h n s.arena o b) × All Alike s.acts
  unfolding grant Arenas.grant
  grant-same s none b f = (refl, f)
  grant-same s (some q) b f =
      by_cases (commit_granted h)
      (λ e. (rw e, rw e at f))
      (λ e. let k = give-fine n q s (rw e at f) in (rw e (ap (λ a. Arenas.given a none false) (give-same n q s k.0)), k.1))

  ready-same : (s : State) → Apart (holes_of s) → All Alike (commit_ready size h n s).state.acts → as_given (commit_ready size h n s) ≡ Arenas.commit_ready size h n s.arena
  unfolding commit_ready Arenas.commit_ready
  ready-same s d f =
      let k = draw size n s in
      let w = grant-same k.state k.run k.fresh f in
      w.0 ∙ ap (λ g. Arenas.grant h n g.arena g.run g.fresh) (draw-same size n s d w.1)

  as_same : (s : State) (x : Status) → Apart (holes_of s) → All Alike (commit_as size h n s x).state.acts → as_given (commit_as size h n s x) ≡ Arenas.commit_as size h n s.arena x
  unfolding commit_as Arenas.commit_as
  as_same s unasked d f = by_cases (reservation_granted h) (λ e. rw e (ready-same (on_arena (with_status ready) s) d (rw e at f))) (λ e. rw e)
  as_same s ready d f = ready-same s d f
  as_same s disabled d f = refl

  pub commit-same : (s : State) → Apart (holes_of s) → All Alike (commit size h n s).state.acts → as_given (commit size h n s) ≡ Arenas.commit size h n s.arena
  unfolding Arenas.commit
  commit-same s d f = as_same s s.arena.status d f

-- growing
abbrev pub as_grown : Grown → Arenas.Grown
as_grown g = Arenas.grown g.state.arena g.grew

pub grow-same : (size h e n : ℕ) (s : State) → All Alike (grow size h e n s).state.acts → as_grown (grow size h e n s) ≡ Arenas.grow size h e n s.arena
unfolding grow Arenas.grow
grow-same size h e n s f =
    by_cases (can_grow size e n s.arena)
    (λ c. by_cases (commit_granted h)
    (λ d. rw c (rw d))
    (λ d. let t = on_arena (with_frontier (e + n)) s in
    let g : All Alike (give n e t).acts = rw (c, d) at f in
    rw c (rw d (ap (λ a. Arenas.grown a false) (give-same n e t (give-fine n e t g).0)))))
    (λ c. rw c)
