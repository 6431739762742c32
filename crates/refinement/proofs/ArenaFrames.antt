-- What the arena's steps leave alone, for the class part of the representation.
--     is_step t             the arena's words but LENGTH, and OWNER of the pages of t: no row, no other word of a page
--     step_row, step-first so a class's row and FIRST of every page are as they were
--     names b d x y        page y says that it is of class d's run at x
--     whole_same           a run is whole as before if below the old frontier its pages are named as before, and no page above it names it
use Rattle.facts.proofs.Prelude.{ℕ, zero, suc, ◌+◌, ◌-◌, ◌≤◌, ◌<◌, arith, add-zero, Bool, true, false, ◌&&◌, ◌||◌, true≢false, false≢true}
use Rattle.facts.proofs.Prelude.{List, Option, none, some, ◌≡◌, refl, sym, ap, ◌∙◌, eqb, ltb, leb, length, ne_eqb, lt-ltb, ltb-true, le-leb}
use Rattle.facts.proofs.Prelude.{leb-true, leb-false, every, below, by_cases, and_left, and_right, or_left, or_right, every-at, every_cong}
use Rattle.rules.specs.declared.Limits.{Limits}
use Rattle.model.specs.Cover.{in_run}
use Rattle.model.specs.Heap.{direct}
use Rattle.arena.specs.Owners.{owner_code}
use Rattle.words.specs.Limits.{hole_slots, class_rows}
use Rattle.classes.specs.declared.Shape.{Shape}
use Rattle.fields.specs.Field.{Field, arena, class, hole, page, mark, out, slot, ClassField, owner, first, frontier, held, arena_off, page_off, get, put, words, empty_limit, cold_limit}
use Rattle.fields.proofs.Clear.{changes-row, get-row}
use Rattle.fields.proofs.Changes.{Changes, changes-none, changes-put, changes_trans, changes_mono}
use Rattle.model.specs.Arena.{Arena}
use Rattle.model.specs.Arena as Model
use Rattle.pages.specs.Runs.{of_run, whole}
use Rattle.arena.specs.Load.{load_arena}
use Rattle.arena.specs.Store.{store_arena}
use Rattle.arena.specs.Owners.{own, own_run}
use Rattle.arena.specs.Calls.{advance, passed_to, committed, commit_book, given, grown_by, grown_book, grow_book}
use Rattle.arena.proofs.Frames.{is_stored, arena-changes}
use Rattle.refinement.proofs.ArenaStored.{Few, commit-stored, grow-stored, stored-changes}
use Rattle.refinement.specs.way.Represents.{RuleRep}
use Rattle.refinement.proofs.Frames.{rule_kept}

-- ---- which words
abbrev pub is_owner : (ℕ → Bool) → Field → Bool
is_owner t (arena k) = false
is_owner t (mark p j) = false
is_owner t (class k c) = false
is_owner t (hole k i) = false
is_owner t (page k p) = eqb (page_off k) 0 && t p
is_owner t (out p i) = false
is_owner t (slot p i) = false

abbrev pub is_step : (ℕ → Bool) → Field → Bool
is_step t (arena k) = ltb 0 (arena_off k)
is_step t (mark p j) = false
is_step t (class k c) = false
is_step t (hole k i) = true
is_step t (page k p) = eqb (page_off k) 0 && t p
is_step t (out p i) = false
is_step t (slot p i) = false

-- the pages of a run, or of none
abbrev pub in_run_of : ℕ → Option ℕ → ℕ → Bool
in_run_of m none x = false
in_run_of m (some q) x = in_run m q x

module _ (t : ℕ → Bool) (b b' : List ℕ) (h : Changes (is_step t) b b') where
  pub step_row : (k : ClassField) (c : ℕ) → ltb c class_rows ≡ true → get b' (class k c) ≡ get b (class k c)
  step_row k c o = h.kept (class k c) o refl

  pub step_rule : (c : ℕ) {lim : Limits} → ltb c class_rows ≡ true → RuleRep b c lim → RuleRep b' c lim
  step_rule c o = rule_kept (step_row empty_limit c o) (step_row cold_limit c o)

  pub step-first : (x : ℕ) → get b' (page first x) ≡ get b (page first x)
  step-first x = h.kept (page first x) refl refl

-- ---- owners
and_mono : (s t u : Bool) → (t ≡ true → u ≡ true) → (s && t) ≡ true → (s && u) ≡ true
and_mono true t u h e = h e
and_mono false t u h e = e

owner-step : (t u : ℕ → Bool) → ((x : ℕ) → t x ≡ true → u x ≡ true) → (g : Field) → is_owner t g ≡ true → is_step u g ≡ true
owner-step t u h (arena k) e = absurd (false≢true e)
owner-step t u h (mark p j) e = e
owner-step t u h (class k c) e = e
owner-step t u h (hole k i) e = refl
owner-step t u h (page k p) e = and_mono (eqb (page_off k) 0) (t p) (u p) (h p) e
owner-step t u h (out p i) e = e
owner-step t u h (slot p i) e = e

stored-step : (u : ℕ → Bool) (g : Field) → is_stored g ≡ true → is_step u g ≡ true
stored-step u (arena k) e = and_left (ltb 0 (arena_off k)) (ltb (arena_off k) 11) e
stored-step u (mark p j) e = absurd (false≢true e)
stored-step u (class k c) e = absurd (false≢true e)
stored-step u (hole k i) e = refl
stored-step u (page k p) e = absurd (false≢true e)
stored-step u (out p i) e = absurd (false≢true e)
stored-step u (slot p i) e = absurd (false≢true e)

own-last : (b : List ℕ) (q m w : ℕ) → own b q (suc m) w ≡ put (own b q m w) (page owner (q + m)) w
unfolding own
own-last b q zero w = rw add-zero
own-last b q (suc m) w = own-last (put b (page owner q) w) (suc q) m w ∙ ap (λ y. put (own (put b (page owner q) w) (suc q) m w) (page owner y) w) (omega arith)

pub own-changes : (b : List ℕ) (q m w : ℕ) → Changes (is_owner (in_run m q)) b (own b q m w)
unfolding own
own-changes b q m w =
    changes-row (λ k. page owner (q + k)) w (λ k. own b q k w) (λ k. own-last b q k w) (is_owner (in_run m q)) b m
    (λ k l. refl) (λ k l. rw (le-leb q (q + k) (omega arith), lt-ltb (q + k) (q + m) (omega arith))) (changes-none (is_owner (in_run m q)) b)

pub own_in : (n : ℕ) (b : List ℕ) (q m w x : ℕ) → leb (words n) (length b) ≡ true → q + m ≤ n → in_run m q x ≡ true → get (own b q m w) (page owner x) ≡ w
unfolding own
own_in n b q m w x hb h e =
    let l = leb-true q x (and_left (leb q x) (ltb x (q + m)) e) in
    let u = ltb-true x (q + m) (and_right (leb q x) (ltb x (q + m)) e) in
    let z : q + (x - q) ≡ x = omega arith in
    rw z at (get-row (λ k. page owner (q + k)) w (λ k. own b q k w) (λ k. own-last b q k w) n m (x - q) hb (lt-ltb (q + (x - q)) n (omega arith)) refl
    (λ k v. refl) (λ k d. ne_eqb (q + k) (q + (x - q)) (λ y. d (omega arith))) (omega arith))

-- a run of an owner, or none
pub run-changes : (b : List ℕ) (o : Option ℕ) (m w : ℕ) → Changes (is_owner (in_run_of m o)) b (own_run b o m w)
run-changes b none m w = changes-none (is_owner (λ x. false)) b
run-changes b (some q) m w = own-changes b q m w

-- ---- the steps
abbrev pub either : (ℕ → Bool) → (ℕ → Bool) → ℕ → Bool
either t u x = t x || u x

-- the pages that a frontier passed
abbrev pub passed : List ℕ → Arena → ℕ → Bool
passed b a = in_run (a.frontier - get b (arena frontier)) (get b (arena frontier))

pub advance-changes : (b x : List ℕ) (a : Arena) → Changes is_stored b x → Changes (is_step (passed b a)) b (advance b x a.frontier)
unfolding advance
advance-changes b x a k =
    let t = passed b a in
    let f = get b (arena frontier) in
    changes_trans (is_step t) b x (own x f (a.frontier - f) 0)
    (changes_mono is_stored (is_step t) b x (stored-step t) k)
    (changes_mono (is_owner t) (is_step t) x (own x f (a.frontier - f) 0) (owner-step t t (λ y e. e)) (own-changes x f (a.frontier - f) 0))

-- what a commit or a growth writes: the frontier passed pages, a run got an owner, HELD changed
passed-changes : (b x : List ℕ) (a : Arena) (o : Option ℕ) (m w : ℕ) → Changes is_stored b x → Changes (is_step (either (passed b a) (in_run_of m o))) b (passed_to b x a.frontier o m w)
unfolding passed_to
passed-changes b x a o m w k =
    let t = passed b a in
    let u = in_run_of m o in
    let v = either t u in
    let c = advance b x a.frontier in
    changes-put (is_step v) b (own_run c o m w) (arena held) _ refl refl
    (changes_trans (is_step v) b c (own_run c o m w)
    (changes_mono (is_step t) (is_step v) b c (step_mono t v (λ x e. or_left (t x) (u x) e)) (advance-changes b x a k))
    (changes_mono (is_owner u) (is_step v) c (own_run c o m w) (owner-step u v (λ x e. or_right (t x) (u x) e)) (run-changes c o m w)))
  where
    step_mono : (t u : ℕ → Bool) → ((x : ℕ) → t x ≡ true → u x ≡ true) → (g : Field) → is_step t g ≡ true → is_step u g ≡ true
    step_mono t u h (arena k) e = e
    step_mono t u h (mark p j) e = e
    step_mono t u h (class k c) e = e
    step_mono t u h (hole k i) e = e
    step_mono t u h (page k p) e = and_mono (eqb (page_off k) 0) (t p) (u p) (h p) e
    step_mono t u h (out p i) e = e
    step_mono t u h (slot p i) e = e

module _ (n : ℕ) (b : List ℕ) (h m : ℕ) (a : Arena) (l : Few a) where
  pub committed-changes : (w : ℕ) → Changes (is_step (either (passed b (Model.commit n h m a).arena) (in_run_of m (Model.commit n h m a).run))) b (commit_book n b h m a w)
  unfolding committed
  committed-changes w = let g = Model.commit n h m a in passed-changes b _ g.arena g.run m w (stored-changes b (commit-stored h m b n a l))

  pub grown-changes : (e : ℕ) → Changes (is_step (either (passed b (Model.grow n h e m a).arena) (in_run_of m (grown_by (Model.grow n h e m a).grew e)))) b (grow_book n b h e m a)
  unfolding grown_book
  grown-changes e = let g = Model.grow n h e m a in passed-changes b _ g.arena (grown_by g.grew e) m (owner_code direct) (stored-changes b (grow-stored h m b n e a l))

pub given-changes : (b : List ℕ) (q m : ℕ) → length (Model.give m q (load_arena b)).store.holes ≤ hole_slots → Changes (is_step (in_run m q)) b (given b q m)
unfolding given
given-changes b q m l =
    let t = in_run m q in
    let c = store_arena b (Model.give m q (load_arena b)) in
    changes-put (is_step t) b (own c q m 0) (arena held) (get b (arena held) - m) refl refl
    (changes_trans (is_step t) b c (own c q m 0)
    (changes_mono is_stored (is_step t) b c (stored-step t) (arena-changes b (Model.give m q (load_arena b)) l))
    (changes_mono (is_owner t) (is_step t) c (own c q m 0) (owner-step t t (λ x e. e)) (own-changes c q m 0)))

-- ---- runs
abbrev pub names : List ℕ → ℕ → ℕ → ℕ → Bool
names b d x y = eqb (get b (page owner y)) (suc d) && eqb (get b (page first y)) x

module _ (n : ℕ) (b b' : List ℕ) (sh : Shape) (d x : ℕ) (some-page : 1 ≤ sh.pages) (rises : get b (arena frontier) ≤ get b' (arena frontier))
    (under : (y : ℕ) → y < get b (arena frontier) → names b' d x y ≡ names b d x y)
    (over : (y : ℕ) → get b (arena frontier) ≤ y → y < get b' (arena frontier) → names b' d x y ≡ false) where
  not-over : get b (arena frontier) < x + sh.pages → x + sh.pages ≤ get b' (arena frontier) → every (of_run b' d x) (below sh.pages) ≡ false
  not-over z y =
      by_cases (every (of_run b' d x) (below sh.pages))
      (λ t. absurd (true≢false (sym (every-at (of_run b' d x) sh.pages (sh.pages - 1) t (omega arith)) ∙ over (x + (sh.pages - 1)) (omega arith) (omega arith))))
      (λ t. t)

  pub whole_same : whole n b' sh d x ≡ whole n b sh d x
  unfolding whole
  whole_same =
      ap (λ t. leb (x + sh.pages) n && t)
      (by_cases (leb (x + sh.pages) (get b (arena frontier)))
      (λ u. let z = leb-true (x + sh.pages) (get b (arena frontier)) u in
      rw (u, le-leb (x + sh.pages) (get b' (arena frontier)) (omega arith)) (every_cong (of_run b' d x) (of_run b d x) sh.pages (λ k h. under (x + k) (omega arith))))
      (λ u. let z = leb-false (x + sh.pages) (get b (arena frontier)) u in
      rw u
      (by_cases (leb (x + sh.pages) (get b' (arena frontier))) (λ v. rw v (not-over z (leb-true (x + sh.pages) (get b' (arena frontier)) v))) (λ v. rw v))))
