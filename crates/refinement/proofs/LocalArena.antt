-- The arena's steps keep to the arena's words and those of the pages that they pass on.
use Rattle.facts.proofs.Prelude.{ℕ, zero, suc, ◌+◌, ◌-◌, ◌*◌, ◌/◌, ◌≤◌, ◌<◌, arith, Bool, true, List, [], ◌∷◌, Option, none, some, ◌≡◌, refl, length, by_cases}
use Rattle.words.specs.Host.{reservation_granted, commit_granted}
use Rattle.classes.specs.declared.Shape.{Shape}
use Rattle.fields.specs.Field.{ArenaField, HoleField, arena, hole, page, out, frontier, holes, held, start, pages, owner, first, listed, arena_off, word, get, put}
use Rattle.fields.specs.Clear.{clear_out, clear_marks}
use Rattle.fields.proofs.Laws.{arena_off-lt}
use Rattle.model.specs.declared.Hole.{Hole}
use Rattle.model.specs.Arena.{Arena, Status, unasked, ready, disabled}
use Rattle.model.specs.Arena as Model
use Rattle.model.proofs.ArenaTidy.{few-give, few-draw}
use Rattle.arena.specs.Load.{load_holes, load_store, load_arena}
use Rattle.arena.specs.Store.{store_holes, store_counts, store_top, store_arena}
use Rattle.arena.specs.Owners.{own, own_fresh, own_run}
use Rattle.arena.specs.Calls.{settled_arena, ready_arena, arena_as, committed_arena, grown_arena, grown_by, grown_book, grow_book, advance, passed_to, committed, commit_book, given}
use Rattle.pages.specs.Runs.{name_run}
use Rattle.pages.specs.Carve.{carved_at_once, out_words, bare_run, new_run}
use Rattle.pages.proofs.Frames.{at_once-few}
use Rattle.refinement.proofs.Override.{override, PageIn, at-word, get_in, put_in, put-page, put-out, put-mark}
use Rattle.refinement.proofs.LocalPages.{carve_in}

-- the record and the holes lie in S
pub record ArenaIn (S : ℕ → Bool) : Type 0 where
  pub low : (j : ℕ) → j < 160 → S j ≡ true
  pub high : (j : ℕ) → j < 8192 → S (2048 + j) ≡ true

-- the m pages from q on lie in S
abbrev pub RunIn : (ℕ → Bool) → ℕ → ℕ → Type 0
RunIn S q m = (x : ℕ) → q ≤ x → x < q + m → PageIn S x

module _ {S : ℕ → Bool} (a : ArenaIn S) (d : List ℕ) where
  pub in_arena_lem : (k : ArenaField) → S (word (arena k)) ≡ true
  in_arena_lem k = a.low (arena_off k) (omega (arith, arena_off-lt k))

  pub in_hole : (k : HoleField) (i : ℕ) → i < 4096 → S (word (hole k i)) ≡ true
  in_hole HoleField.start i l = at-word S (omega arith) (a.high (2 * i) (omega arith))
  in_hole HoleField.pages i l = at-word S (omega arith) (a.high (2 * i + 1) (omega arith))

  pub get-arena : (b : List ℕ) (k : ArenaField) → get (override S b d) (arena k) ≡ get b (arena k)
  get-arena b k = get_in S b d (arena k) (in_arena_lem k)

  put-arena : (b : List ℕ) (k : ArenaField) (v : ℕ) → put (override S b d) (arena k) v ≡ override S (put b (arena k) v) d
  put-arena b k v = put_in S b d (arena k) v (in_arena_lem k)

  put-hole : (k : HoleField) (i : ℕ) → i < 4096 → (b : List ℕ) (v : ℕ) → put (override S b d) (hole k i) v ≡ override S (put b (hole k i) v) d
  put-hole k i l b v = put_in S b d (hole k i) v (in_hole k i l)

  -- ---- the arena stored
  holes_in : (hs : List Hole) (i : ℕ) → i + length hs ≤ 4096 → (b : List ℕ) → store_holes (override S b d) i hs ≡ override S (store_holes b i hs) d
  unfolding store_holes
  holes_in [] i l b = refl
  holes_in (x ∷ hs) i l b = rw (holes_in hs (suc i) (omega arith) b) (simp (put-hole start i (omega arith), put-hole pages i (omega arith)))

  pub arena_in : (b : List ℕ) (g : Arena) → length g.store.holes ≤ 4096 → store_arena (override S b d) g ≡ override S (store_arena b g) d
  unfolding store_arena store_counts store_top
  arena_in b g l = rw (holes_in g.store.holes 0 (omega arith) b) (simp put-arena)

  -- ---- the arena loaded
  load_holes_in : (b : List ℕ) (k i : ℕ) → i + k ≤ 4096 → load_holes (override S b d) i k ≡ load_holes b i k
  unfolding load_holes
  load_holes_in b zero i l = refl
  load_holes_in b (suc k) i l =
      rw (get_in S b d (hole start i) (in_hole start i (omega arith)), get_in S b d (hole pages i) (in_hole pages i (omega arith)), load_holes_in b k (suc i) (omega arith))

  pub load_in : (b : List ℕ) → get b (arena holes) ≤ 4096 → load_arena (override S b d) ≡ load_arena b
  unfolding load_arena load_store
  load_in b l = simp (get-arena, load_holes_in b (get b (arena holes)) 0 (omega arith))

  -- ---- owners
  pub own_in : (m q w : ℕ) → RunIn S q m → (b : List ℕ) → own (override S b d) q m w ≡ override S (own b q m w) d
  unfolding own
  own_in zero q w r b = refl
  own_in (suc m) q w r b =
      rw (put-page (r q (omega arith) (omega arith)) b d owner w) (own_in m (suc q) w (λ x l u. r x (omega arith) (omega arith)) (put b (page owner q) w))

  own-run_in : (o : Option ℕ) (m w : ℕ) → ((q : ℕ) → o ≡ some q → RunIn S q m) → (b : List ℕ) → own_run (override S b d) o m w ≡ override S (own_run b o m w) d
  own-run_in none m w r b = refl
  own-run_in (some q) m w r b = own_in m q w (r q refl) b

  -- ---- a commit
  settled_in : (b : List ℕ) (h m : ℕ) (g : Arena) (o : Option ℕ) (f : Bool) → length g.store.holes ≤ 4096 → settled_arena h m (override S b d) g o f ≡ override S (settled_arena h m b g o f) d
  unfolding settled_arena
  settled_in b h m g none f l = arena_in b g l
  settled_in b h m g (some q) f l =
      let hs = g.store.holes in
      by_cases (commit_granted h)
      (λ e. rw e (arena_in b (Model.counted f g) l))
      (λ e. rw (e, holes_in hs 0 (omega arith) b) (arena_in (store_holes b 0 hs) (Model.give m q g) (few-give m q g l)))

  module _ (n : ℕ) (b : List ℕ) (h m : ℕ) where
    ready_in : (g : Arena) → length g.store.holes ≤ 4096 → ready_arena n h m (override S b d) g ≡ override S (ready_arena n h m b g) d
    unfolding ready_arena
    ready_in g l = let x = Model.draw n m g in settled_in b h m x.arena x.run x.fresh (few-draw n m g l)

    as_in : (g : Arena) (s : Status) → length g.store.holes ≤ 4096 → arena_as n h m (override S b d) g s ≡ override S (arena_as n h m b g s) d
    unfolding arena_as
    as_in g unasked l = by_cases (reservation_granted h) (λ e. rw e (ready_in (Model.with_status ready g) l)) (λ e. rw e (arena_in b (Model.with_status disabled g) l))
    as_in g ready l = ready_in g l
    as_in g disabled l = arena_in b g l

    pub committed_in : (a : Arena) (w : ℕ) → length a.store.holes ≤ 4096 → RunIn S (get b (arena frontier)) ((Model.commit n h m a).arena.frontier - get b (arena frontier))
        → ((q : ℕ) → (Model.commit n h m a).run ≡ some q → RunIn S q m) → commit_book n (override S b d) h m a w ≡ override S (commit_book n b h m a w) d
    unfolding committed passed_to advance committed_arena
    committed_in a w l f r =
        let g = Model.commit n h m a in
        let x = arena_as n h m b a a.status in
        rw (
          get-arena b held,
          get-arena b frontier,
          as_in a a.status l,
          own_in (g.arena.frontier - get b (arena frontier)) (get b (arena frontier)) 0 f x,
          own-run_in g.run m w r (own_fresh x (get b (arena frontier)) g.arena.frontier),
        )
        (put-arena _ held _)

  grown_arena_in : (n : ℕ) (b : List ℕ) (h e m : ℕ) (a : Arena) → length a.store.holes ≤ 4096 → grown_arena n h e m (override S b d) a ≡ override S (grown_arena n h e m b a) d
  unfolding grown_arena
  grown_arena_in n b h e m a l = by_cases (Model.can_grow n e m a) (λ t. rw t (settled_in b h m (Model.with_frontier (e + m) a) (some e) true l)) (λ t. rw t (arena_in b a l))

  pub grown_in : (n : ℕ) (b : List ℕ) (h e m : ℕ) (a : Arena) → length a.store.holes ≤ 4096 → RunIn S (get b (arena frontier)) ((Model.grow n h e m a).arena.frontier - get b (arena frontier))
      → ((q : ℕ) → grown_by (Model.grow n h e m a).grew e ≡ some q → RunIn S q m) → grow_book n (override S b d) h e m a ≡ override S (grow_book n b h e m a) d
  unfolding grown_book passed_to advance
  grown_in n b h e m a l f r =
      let g = Model.grow n h e m a in
      let x = grown_arena n h e m b a in
      rw (
        get-arena b held,
        get-arena b frontier,
        grown_arena_in n b h e m a l,
        own_in (g.arena.frontier - get b (arena frontier)) (get b (arena frontier)) 0 f x,
        own-run_in (grown_by g.grew e) m _ r (own_fresh x (get b (arena frontier)) g.arena.frontier),
      )
      (put-arena _ held _)

  pub given_in : (b : List ℕ) (q m : ℕ) → get b (arena holes) ≤ 4096 → length (Model.give m q (load_arena b)).store.holes ≤ 4096 → RunIn S q m → given (override S b d) q m ≡ override S (given b q m) d
  unfolding given
  given_in b q m l k r =
      rw (get-arena b held, load_in b l, arena_in b (Model.give m q (load_arena b)) k, own_in m q 0 r (store_arena b (Model.give m q (load_arena b)))) (put-arena _ held _)

-- ---- a new run
module _ {S : ℕ → Bool} (d : List ℕ) where
  name_in : (m f x : ℕ) → RunIn S x m → (b : List ℕ) → name_run (override S b d) f x m ≡ override S (name_run b f x m) d
  unfolding name_run
  name_in zero f x r b = refl
  name_in (suc m) f x r b =
      rw (put-page (r x (omega arith) (omega arith)) b d first f) (name_in m f (suc x) (λ y l u. r y (omega arith) (omega arith)) (put b (page first x) f))

  clear_in : {q : ℕ} → PageIn S q → (k i : ℕ) → i + k ≤ 4096 → (b : List ℕ) → clear_out (override S b d) q i k ≡ override S (clear_out b q i k) d
  unfolding clear_out
  clear_in p zero i l b = refl
  clear_in {q} p (suc k) i l b = rw (put-out p b d i 0 (omega arith)) (clear_in p k (i + 1) (omega arith) (put b (out q i) 0))

  marks_in : {q : ℕ} → PageIn S q → (m : ℕ) → m ≤ 128 → (b : List ℕ) → clear_marks (override S b d) q m ≡ override S (clear_marks b q m) d
  unfolding clear_marks
  marks_in p zero l b = refl
  marks_in {q} p (suc m) l b = rw (marks_in p m (omega arith) b) (put-mark p (clear_marks b q m) d m 0 (omega arith))

  pub new_in : (b : List ℕ) (sh : Shape) (q : ℕ) → sh.capacity ≤ 4096 → 1 ≤ sh.pages → RunIn S q sh.pages → new_run (override S b d) sh q ≡ override S (new_run b sh q) d
  unfolding new_run bare_run
  new_in b sh q l one r =
      let p : PageIn S q = r q (omega arith) (omega arith) in
      let few : 0 + 32 * ((sh.capacity + 31) / 32) ≤ 4096 = omega arith in
      let b₁ = name_run b q q sh.pages in
      let b₂ = clear_out b₁ q 0 (32 * out_words sh) in
      let b₃ = clear_marks b₂ q (out_words sh) in
      rw (name_in sh.pages q q r b, clear_in p (32 * out_words sh) 0 few b₁, marks_in p (out_words sh) (omega arith) b₂, put-page p b₃ d listed 0)
      (carve_in p (put b₃ (page listed q) 0) d sh true (at_once-few sh (carved_at_once sh) refl l))
