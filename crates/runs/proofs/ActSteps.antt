-- The ways out of a commit's steps, and what they ask of each other.
use Rattle.facts.proofs.Prelude.{ℕ, zero, suc, ◌+◌, ◌-◌, ◌≤◌, ◌<◌, arith, Bool, true, false, List, ◌≡◌, refl, sym, ap}
use Rattle.facts.proofs.Prelude.{◌∙◌, subst, ltb, length, lt-ltb, le-ltb, le-leb, lt-leb, eq-eqb, ne_eqb, by_cases}
use Rattle.words.specs.Limits.{hole_slots}
use Rattle.words.specs.Host.{reservation_granted, commit_granted}
use Rattle.fields.specs.Field.{arena, held, put}
use Rattle.runs.specs.declared.Arena.{Arena}
use Rattle.runs.specs.declared.record.Draw.{Draw}
use Rattle.runs.specs.declared.record.Gain.{Gain}
use Rattle.model.specs.declared.Hole.{Hole}
use Rattle.model.specs.HoleStore.{hole}
use Rattle.runs.specs.declared.ArenaRequest.{ArenaRequest}
use Rattle.runs.specs.way.Change.{drawn_by, gained_by}
use Rattle.runs.specs.way.Plan.{hole_code}
use Rattle.std.specs.Prelude as Code
use Rattle.runs.specs.way.Record.{store_record, advanced, counted}
use Rattle.arena.specs.Owners.{own}
use Rattle.arena.specs.Load.{load_hole, load_holes}
use Rattle.arena.specs.Store.{store_hole}
use Rattle.runs.specs.way.Act.{with_state, Gives, draw_words, draw_record, Draws, end_none, end_run, end_given, settle, from_frontier, hole_drawn, commit_drawn, next_state, commit_planned}
use Rattle.runs.specs.way.Pre.{RecordIn, HoleIn, PlanIn, EndsIn, RequestIn, RunIn, BackIn}
use Rattle.runs.specs.Answer.{Commit, Run, Nothing, Answers}
use Rattle.runs.proofs.StoreLaws.{hole-length}
use Rattle.runs.proofs.EndsValid.{ends_more, draw-valid}

-- ---- the record afterwards
abbrev draw_of : ℕ → ℕ → ℕ → ℕ → Bool → Bool → Draw
draw_of s k m c t u = record { state = s; count = k; ahead = m; cut = c; commit = t; reuse = u }

module _ (s : ℕ) (a : Arena) where
  same-frontier : a.frontier + 0 ≡ a.frontier
  same-frontier = omega arith

  same_total : a.total - 0 ≡ a.total
  same_total = omega arith

  none_is : drawn_by (draw_of s a.count 0 0 false false) a ≡ with_state s a
  none_is = let y = same-frontier in let z = same_total in cc

  fresh-is : (m : ℕ) → drawn_by (draw_of s a.count m 0 false false) a ≡ advanced m (with_state s a)
  fresh-is m = let z = same_total in cc

  fresh-counted : (m : ℕ) → drawn_by (draw_of s a.count m 0 true false) a ≡ counted true (advanced m (with_state s a))
  fresh-counted m = let z = same_total in cc

  module _ (b : List ℕ) (m i k : ℕ) (e : k ≡ (draw_record b a m i).count) where
    cut-is : drawn_by (draw_of s k 0 m false false) a ≡ draw_record b (with_state s a) m i
    unfolding draw_record
    cut-is = let y = same-frontier in cc

    cut-counted : drawn_by (draw_of s k 0 m true true) a ≡ counted false (draw_record b (with_state s a) m i)
    unfolding draw_record
    cut-counted = let y = same-frontier in cc

-- ---- a run from a hole, which is g
module _ (b : List ℕ) (a : Arena) (m i : ℕ) (g : Hole) (here : g ≡ load_hole b i) where
  same : g.pages ≡ (load_hole b i).pages
  same = ap (λ y. y.pages) here

  pub hole_in : HoleIn a i (load_hole b i) m → HoleIn a i g m
  hole_in k = subst (λ z. HoleIn a i z m) (sym here) k

  pub draws-cut : (x : List ℕ) → m < g.pages → x ≡ store_hole b i (hole (g.first + m) (g.pages - m)) → Draws b a m i x a.count
  unfolding draw_words draw_record
  draws-cut x l e =
      let z = lt-ltb m (load_hole b i).pages (omega (arith, same)) in
      record { book = rw z (e ∙ ap (λ (y : Hole). store_hole b i (hole (y.first + m) (y.pages - m))) here); count = rw z }

  pub draws-used : (last : Hole) (x : List ℕ) → g.pages ≤ m → last ≡ load_hole b (a.count - 1) → x ≡ store_hole b i (hole last.first last.pages) → Draws b a m i x (a.count - 1)
  unfolding draw_words draw_record
  draws-used last x l u e =
      let z = le-ltb m (load_hole b i).pages (omega (arith, same)) in
      record { book = rw z (e ∙ ap (store_hole b i) u); count = rw z }

  draw-length : length (draw_words b a m i) ≡ length b
  unfolding draw_words
  draw-length = by_cases (ltb m (load_hole b i).pages) (λ t. rw t (hole-length b i _)) (λ t. rw t (hole-length b i _))

  draw-count : a.count ≤ hole_slots → (draw_record b a m i).count ≤ hole_slots
  unfolding draw_record
  draw-count l = by_cases (ltb m (load_hole b i).pages) (λ t. rw t l) (λ t. rw t (omega arith))

  module _ (x : List ℕ) (k : ℕ) (q : ArenaRequest) (d : Draws b a m i x k) (e : q.pages ≡ m) (rq : RequestIn b q) (ra : RecordIn q.size a) (rh : HoleIn a i (load_hole b i) m) where
    long : length x ≡ length b
    long = ap length d.book ∙ draw-length

    pub hole-cut : m ≤ a.total
    hole-cut = omega (arith, rh.enough, rh.within)

    pub hole-run : RunIn x g.first q
    hole-run =
        let l = long in
        let h₁ = (hole_in rh).enough in
        let h₂ = (hole_in rh).ends in
        let h₃ = ra.moved in
        let h₄ = rq.long in
        let h₅ = rq.small in
        record { long = omega arith; near = omega arith; owned = rq.owned }

    pub hole-back : (s : ℕ) (t : Bool) → EndsIn b a → t ≡ false → BackIn x (drawn_by (draw_of s k 0 m t t) a) (record { first = g.first; pages = q.pages; clear = false })
    unfolding draw_record
    hole-back s t re v =
        let l = long in
        let h₁ = (hole_in rh).enough in
        let h₂ = (hole_in rh).ends in
        let h₃ = ra.moved in
        let h₄ = rq.long in
        let h₅ = rq.small in
        let h₆ = ra.short in
        let few : k ≤ hole_slots = subst (λ z. z ≤ hole_slots) (sym d.count) (draw-count ra.few) in
        let y = same-frontier s a in
        let valid = draw-valid a.frontier q.size b (le-leb _ _ h₄) a m i ra.few rh.stored re in
        let there : EndsIn x (drawn_by (draw_of s k 0 m t t) a) = rw (y, d.book, d.count) valid in
        record {
          long = omega arith;
          store = record { long = omega arith; few = few; short = omega arith; low = omega arith; near = omega arith; ends = there };
        }

-- ---- no hole
module _ (b : List ℕ) (a : Arena) (q : ArenaRequest) (rq : RequestIn b q) (ra : RecordIn q.size a) (l : a.frontier + q.pages ≤ q.size) where
  pub frontier-run : RunIn b a.frontier q
  frontier-run = let h₁ = rq.long in let h₂ = rq.small in record { long = omega arith; near = omega arith; owned = rq.owned }

  pub frontier-back : (s : ℕ) (t : Bool) (k : ℕ) → (commit_granted q.host ≡ false → a.frontier + q.pages ≤ q.size → EndsIn b a) → k ≡ q.host → t ≡ commit_granted k → t ≡ false
      → BackIn b (drawn_by (draw_of s a.count q.pages 0 t false) a) (record { first = a.frontier; pages = q.pages; clear = true })
  frontier-back s t k re e u v =
      let h₁ = rq.long in
      let h₂ = rq.small in
      let h₃ = ra.short in
      let h₄ = ra.few in
      let valid = re (ap commit_granted (sym e) ∙ sym u ∙ v) l in
      record {
        long = omega arith;
        store = record { long = omega arith; few = h₄; short = omega arith; low = omega arith; near = omega arith; ends = ends_more a.frontier (a.frontier + q.pages) (omega arith) (load_holes b 0 a.count) valid };
      }

-- ---- the end
pub none-ends : (b : List ℕ) (a : Arena) (s : ℕ) (x : List ℕ) → x ≡ store_record b (drawn_by (draw_of s a.count 0 0 false false) a) → x ≡ (end_none b (with_state s a)).book
unfolding end_none
none-ends b a s x e = e ∙ ap (store_record b) (none_is s a)

module _ (b : List ℕ) (a : Arena) (m q : ℕ) where
  module _ (f : Bool) (x y : List ℕ) (g : Gain) (k : Gives b a m q x g) (e : y ≡ store_record x (gained_by g a)) where
    pub given-fresh : (z : List ℕ) → f ≡ true → z ≡ own y q m 0 → z ≡ (end_given b a m q f).book
    unfolding end_given
    given-fresh z t o = rw t (o ∙ ap (λ w. own w q m 0) (e ∙ ap (λ w. store_record w (gained_by g a)) k.book ∙ ap (store_record _) k.top))

    pub given_reuse : f ≡ false → y ≡ (end_given b a m q f).book
    unfolding end_given
    given_reuse t = rw t (e ∙ ap (λ w. store_record w (gained_by g a)) k.book ∙ ap (store_record _) k.top)

  module _ (f : Bool) (h w d : ℕ) (t : Bool) (k : ℕ) (x : List ℕ) (e : k ≡ h) (u : t ≡ commit_granted k) where
    pub settles-run : t ≡ true → x ≡ (end_run b a m q f w d).book → Answers (Run q f) x (settle b a m q f h w d)
    unfolding settle end_run
    settles-run v o =
        let z : commit_granted h ≡ true = ap commit_granted (sym e) ∙ sym u ∙ v in
        rw z (record { answer = refl; book = o })

    pub settles-given : t ≡ false → x ≡ (end_given b a m q f).book → Answers Nothing x (settle b a m q f h w d)
    unfolding settle end_given
    settles-given v o =
        let z : commit_granted h ≡ false = ap commit_granted (sym e) ∙ sym u ∙ v in
        rw z (record { answer = refl; book = o })

-- ---- the whole; s is the state
module _ (n : ℕ) (b : List ℕ) (a : Arena) (s m h w d : ℕ) where
  pub no_room : (x : List ℕ) → n < a.frontier + m → x ≡ (end_none b (with_state s a)).book → Answers Nothing x (from_frontier n b (with_state s a) m h w d)
  unfolding from_frontier end_none
  no_room x l e = rw (lt-leb (a.frontier + m) n l) (record { answer = refl; book = e })

  module _ (x : List ℕ) (l : a.frontier + m ≤ n) (t : Bool) (k : ℕ) (f : k ≡ h) (u : t ≡ commit_granted k) where
    pub frontier-granted : t ≡ true → x ≡ put (own (store_record b (drawn_by (draw_of s a.count m 0 t false) a)) a.frontier m w) (arena held) (d + m) → Answers (Run a.frontier true) x (from_frontier n b (with_state s a) m h w d)
    unfolding from_frontier end_run
    frontier-granted v o =
        let z : drawn_by (draw_of s a.count m 0 t false) a ≡ counted true (advanced m (with_state s a)) = ap (λ y. drawn_by (draw_of s a.count m 0 y false) a) v ∙ fresh-counted s a m in
        rw (le-leb (a.frontier + m) n l) (settles-run b (advanced m (with_state s a)) m a.frontier true h w d t k x f u v (o ∙ ap (λ r. put (own (store_record b r) a.frontier m w) (arena held) (d + m)) z))

    pub frontier-given : t ≡ false → x ≡ (end_given b (drawn_by (draw_of s a.count m 0 t false) a) m a.frontier true).book → Answers Nothing x (from_frontier n b (with_state s a) m h w d)
    unfolding from_frontier
    frontier-given v o =
        let z : drawn_by (draw_of s a.count m 0 t false) a ≡ advanced m (with_state s a) = ap (λ y. drawn_by (draw_of s a.count m 0 y false) a) v ∙ fresh-is s a m in
        rw (le-leb (a.frontier + m) n l) (settles-given b (advanced m (with_state s a)) m a.frontier true h w d t k x f u v (o ∙ ap (λ r. (end_given b r m a.frontier true).book) z))

  module _ (c : ℕ) where
    pub none-drawn : (r : Commit) (y : List ℕ) → c ≡ 0 → Answers r y (from_frontier n b (with_state s a) m h w d) → Answers r y (commit_drawn n b (with_state s a) c m h w d)
    unfolding commit_drawn
    none-drawn r y e k = rw (eq-eqb c 0 e) k

    pub hole-drawn : (r : Commit) (y : List ℕ) → (c ≡ 0 → ⊥) → Answers r y (hole_drawn b (with_state s a) (c - 1) m h w d) → Answers r y (commit_drawn n b (with_state s a) c m h w d)
    unfolding commit_drawn
    hole-drawn r y e k = rw (ne_eqb c 0 e) k

    pub hole-drawn-at : (i : ℕ) (r : Commit) (y : List ℕ) → c ≡ suc i → Answers r y (hole_drawn b (with_state s a) i m h w d) → Answers r y (commit_drawn n b (with_state s a) c m h w d)
    hole-drawn-at i r y e k = let z : c - 1 ≡ i = omega arith in hole-drawn r y (λ w. omega arith) (rw z k)

    pub planned-off : (x : List ℕ) → s ≡ next_state a.state h → s ≡ 2 → x ≡ (end_none b (with_state s a)).book → Answers Nothing x (commit_planned n b a c m h w d)
    unfolding commit_planned end_none
    planned-off x e t o = rw (← e, eq-eqb s 2 t) (record { answer = refl; book = o })

    pub planned-on : (r : Commit) (x : List ℕ) → s ≡ next_state a.state h → (s ≡ 2 → ⊥) → Answers r x (commit_drawn n b (with_state s a) c m h w d) → Answers r x (commit_planned n b a c m h w d)
    unfolding commit_planned
    planned-on r x e t k = rw (← e, ne_eqb s 2 t) k

module _ (b : List ℕ) (a : Arena) (s m i : ℕ) (g : Hole) (here : g ≡ load_hole b i) (h w d : ℕ) (x y : List ℕ) (k : ℕ) (e : Draws b a m i x k) (t : Bool) (j : ℕ) (f : j ≡ h) (u : t ≡ commit_granted j) where
  first-is : g.first ≡ (load_hole b i).first
  first-is = ap (λ z. z.first) here

  words_are : x ≡ draw_words b (with_state s a) m i
  unfolding draw_words
  words_are = e.book

  pub hole-granted : t ≡ true → y ≡ put (own (store_record x (drawn_by (draw_of s k 0 m t t) a)) g.first m w) (arena held) (d + m) → Answers (Run g.first false) y (hole_drawn b (with_state s a) i m h w d)
  unfolding hole_drawn end_run
  hole-granted v o =
      let z : drawn_by (draw_of s k 0 m t t) a ≡ counted false (draw_record b (with_state s a) m i) = ap (λ y. drawn_by (draw_of s k 0 m y y) a) v ∙ cut-counted s a b m i k e.count in
      subst (λ p. Answers (Run g.first false) y (settle (draw_words b (with_state s a) m i) (draw_record b (with_state s a) m i) m p false h w d)) first-is
      (settles-run (draw_words b (with_state s a) m i) (draw_record b (with_state s a) m i) m g.first false h w d t j y f u v
      (o ∙ ap (λ r. put (own (store_record x r) g.first m w) (arena held) (d + m)) z ∙ ap (λ r. put (own (store_record r (counted false (draw_record b (with_state s a) m i))) g.first m w) (arena held) (d + m)) words_are))

  pub hole-given : t ≡ false → y ≡ (end_given x (drawn_by (draw_of s k 0 m t t) a) m g.first false).book → Answers Nothing y (hole_drawn b (with_state s a) i m h w d)
  unfolding hole_drawn
  hole-given v o =
      let z : drawn_by (draw_of s k 0 m t t) a ≡ draw_record b (with_state s a) m i = ap (λ y. drawn_by (draw_of s k 0 m y y) a) v ∙ cut-is s a b m i k e.count in
      subst (λ p. Answers Nothing y (settle (draw_words b (with_state s a) m i) (draw_record b (with_state s a) m i) m p false h w d)) first-is
      (settles-given (draw_words b (with_state s a) m i) (draw_record b (with_state s a) m i) m g.first false h w d t j y f u v
      (o ∙ ap (λ r. (end_given x r m g.first false).book) z ∙ ap (λ r. (end_given r (draw_record b (with_state s a) m i) m g.first false).book) words_are))

-- STATE
pub state-stays : (s h : ℕ) → (s ≡ 0 → ⊥) → s ≡ next_state s h
state-stays zero h d = absurd (d refl)
state-stays (suc s) h d = refl

pub state-ready : (s h k : ℕ) (t : Bool) → s ≡ 0 → k ≡ h → t ≡ reservation_granted k → t ≡ true → 1 ≡ next_state s h
state-ready s h k t e f g v = rw (e, ← f, ← g, v)

pub state-off : (s h k : ℕ) (t : Bool) → s ≡ 0 → k ≡ h → t ≡ reservation_granted k → t ≡ false → 2 ≡ next_state s h
state-off s h k t e f g v = rw (e, ← f, ← g, v)

pub plan-hole : (b : List ℕ) (m i : ℕ) (a : Arena) (o : Code.Option ℕ) → PlanIn b a (hole_code o) m → o ≡ Code.Some i → HoleIn a i (load_hole b i) m
plan-hole b m i a o k e =
    let z : suc i - 1 ≡ i = omega arith in
    let l : HoleIn a (suc i - 1) (load_hole b (suc i - 1)) m = rw e at k (λ y. let w : suc i ≡ 0 = y in omega arith) in
    rw z at l

pub at-none : (o : Code.Option ℕ) → o ≡ Code.None → hole_code o ≡ 0
at-none o e = rw e

pub at_hole : (o : Code.Option ℕ) (i : ℕ) → o ≡ Code.Some i → hole_code o ≡ suc i
at_hole o i e = rw e
