-- What the code writes (specs/way/Act) is the model's step with the whole arena stored (arena, specs/Calls).
--     Stands               a book with the record still to be written stands for the model's arena: the record stored, it is the arena stored
--     stands-loaded, stands-status, stands-frontier, stands-counted, give-stands, drawn     each step keeps it
--     commit-acts          a commit, on any words long enough
use Rattle.facts.proofs.Prelude.{ℕ, zero, suc, ◌+◌, ◌-◌, ◌≤◌, ◌<◌, arith, Bool, true, false, List, Option, none, some, ◌≡◌, refl, sym, ap, ◌∙◌, subst}
use Rattle.facts.proofs.Prelude.{ltb, leb, length, eqb-true, eq-eqb, ne_eqb, le-leb, lt-leb, leb-true, every, is_some, by_cases, and_left, and_right}
use native.Mathlib.Decide.{ℕ_discrete, dec_le}
use Rattle.words.specs.Limits.{hole_slots, hole_pages_max}
use Rattle.words.specs.Host.{reservation_granted, commit_granted}
use Rattle.fields.specs.Field.{arena, state, frontier, holes, hole_pages, held, get, put, words}
use Rattle.fields.proofs.Laws.{put-get}
use Rattle.model.specs.declared.Hole.{Hole}
use Rattle.model.specs.HoleStore as Model
use Rattle.model.specs.HoleStore.{HoleStore, hole_at, set_at, remove_at, choose, cut_from, take_at, ends_at, starts_at, hole_before, hole_after, has_room, accepts, insert}
use Rattle.model.specs.Arena as Arenas
use Rattle.model.specs.Arena.{Arena, Status, ready, disabled, Given, give, draw_from, draw, grant, commit_ready, commit_as, commit}
use Rattle.model.specs.Heap.{direct}
use Rattle.model.proofs.HoleLists.{set-length}
use Rattle.model.proofs.StoreLaws.{Chosen, at-hole, no-hole, chosen}
use Rattle.model.proofs.ArenaLaws.{give-frontier}
use Rattle.model.proofs.ArenaTidy.{few-give}
use Rattle.model.proofs.Placing.{finds}
use Rattle.runs.specs.declared.Arena.{Arena as Record}
use Rattle.arena.specs.Load.{status_of, status_code, load_hole, load_holes, load_store, load_arena}
use Rattle.arena.specs.Store.{store_hole, store_holes, store_arena}
use Rattle.runs.specs.way.Record.{record_of, store_record, advanced, counted}
use Rattle.arena.specs.Valid.{record_valid, hole_ends_valid, holes_end_valid, hole_valid, holes_valid, commit_valid}
use Rattle.arena.specs.Owners.{owner_code, own}
use Rattle.runs.specs.way.Plan.{index_code, plan_as, plan_of, neighbours_of}
use Rattle.arena.specs.Calls.{Committed, settled_arena, ready_arena, arena_as, committed_arena, grown_arena, advance, passed_to, committed, commit_for, given, grown_by, grown_book, grow_book}
use Rattle.runs.specs.way.Act.{with_state, touching, give_words, give_record, draw_words, draw_record, end_none, end_run, end_given, settle, from_frontier, hole_drawn, commit_drawn, commit_planned, planned, commit_read, commit_acts, given_with, give_acts, grow_with, grow_acts}
use Rattle.runs.proofs.StoreLaws.{holes-length, holes-kept, holes-set, holes_removed, loaded_at, removed_length}
use Rattle.runs.proofs.Joins.{holds, place-stands, no_place}
use Rattle.runs.proofs.EndsValid.{every-at, every_weaker, take-valid}
use Rattle.arena.proofs.Frames.{loaded_length, is_owner, holes_change, holes-there, arena-changes, own-changes, own-twice}
use Rattle.fields.proofs.Changes.{changes-none}
use Rattle.fields.specs.Ranges.{head_valid}
use Rattle.fields.proofs.Sound.{head-frontier}

-- ---- the record that an arena is stored by
abbrev pub summary : Arena → Record
summary a = record { state = status_code a.status; frontier = a.frontier; count = length a.store.holes; total = a.store.total; commits = a.commits; reuses = a.reuses; abandoned = a.abandoned }

pub record Stands (b : List ℕ) (a : Arena) (x : List ℕ) (r : Record) : Type 0 where
  pub words : store_holes b 0 a.store.holes ≡ x
  pub top : summary a ≡ r

pub stands-stored : (b : List ℕ) (a : Arena) (x : List ℕ) (r : Record) → Stands b a x r → store_arena b a ≡ store_record x r
unfolding store_arena
stands-stored b a x r k = ap (λ z. store_record z (summary a)) k.words ∙ ap (store_record x) k.top

pub status-code : (s : ℕ) → s ≤ 2 → status_code (status_of s) ≡ s
status-code zero l = refl
status-code (suc zero) l = refl
status-code (suc (suc zero)) l = refl
status-code (suc (suc (suc s))) l = absurd (omega arith)

pub stands_loaded : (b : List ℕ) → get b (arena state) ≤ 2 → Stands b (load_arena b) b (record_of b)
unfolding load_arena load_store
stands_loaded b l = record { words = holes-kept b 0 (get b (arena holes)); top = rw (status-code (get b (arena state)) l, loaded_length b 0 (get b (arena holes))) }

module _ (b : List ℕ) (a : Arena) (x : List ℕ) (r : Record) (k : Stands b a x r) where
  pub stands-status : (s : Status) → Stands b (Arenas.with_status s a) x (with_state (status_code s) r)
  stands-status s = record { words = k.words; top = ap (with_state (status_code s)) k.top }

  pub stands-frontier : (m : ℕ) → Stands b (Arenas.with_frontier (a.frontier + m) a) x (advanced m r)
  stands-frontier m = record { words = k.words; top = ap (advanced m) k.top }

  pub stands-counted : (f : Bool) → Stands b (Arenas.counted f a) x (counted f r)
  stands-counted f = record { words = k.words; top = ap (counted f) k.top }

-- giving, on a book that holds the arena's holes: stored, joined to those that it touches, or abandoned
not-apart : (m q : ℕ) (h : Hole) → ends_at q h ≡ true → starts_at (q + m) h ≡ true → 1 ≤ h.pages → ⊥
not-apart m q h e d l = omega (arith, eqb-true (h.first + h.pages) q e, eqb-true h.first (q + m) d)

module _ (n : ℕ) (b : List ℕ) (hb : leb (words n) (length b) ≡ true) (m q : ℕ) (a : Arena) (here : load_holes b 0 (length a.store.holes) ≡ a.store.holes) (few : length a.store.holes ≤ hole_slots)
    (f : ℕ) (valid : every (hole_ends_valid f) a.store.holes ≡ true) where
  abbrev hs : List Hole
  hs = a.store.holes

  some-pages : (i : ℕ) → i < length hs → 1 ≤ (hole_at i hs).pages
  some-pages i l = leb-true 1 _ (and_left _ _ (every-at (hole_ends_valid f) hs i valid l))

  pub give-stands : Stands b (give m q a) (give_words b (summary a) m q) (give_record b (summary a) m q)
  unfolding give accepts insert give_words give_record touching neighbours_of
  give-stands =
      let o = finds (ends_at q) hs in
      let p = finds (starts_at (q + m)) hs in
      by_cases (leb (a.store.total + m) hole_pages_max)
      (λ t. by_cases (has_room hs (hole_before q hs) (hole_after (q + m) hs))
      (λ u. let z = place-stands n b hb hs here few (summary a) refl m q (not-apart m q) some-pages o p u in rw (here, t, u) (record { words = z.words; top = z.top }))
      (λ u. let z = no_place n b hb hs here few (summary a) refl m q (not-apart m q) some-pages o p u in rw (here, t, u) (record { words = holds n b hb hs here few ∙ sym z.0; top = sym z.1 })))
      (λ t. rw (here, t) (record { words = holds n b hb hs here few; top = refl }))

-- a run that was drawn is given: the holes after the draw are stored, then it is a give
pub given-stored : (n : ℕ) (b : List ℕ) → leb (words n) (length b) ≡ true → (m q : ℕ) (a : Arena) (x : List ℕ) (r : Record) → Stands b a x r → length a.store.holes ≤ hole_slots → (f : ℕ) → every (hole_ends_valid f) a.store.holes ≡ true
    → store_arena (store_holes b 0 a.store.holes) (give m q a) ≡ store_record (give_words x r m q) (give_record x r m q)
given-stored n b hb m q a x r k few f valid =
    let y = store_holes b 0 a.store.holes in
    let hy : leb (words n) (length y) ≡ true = rw (holes-length b 0 a.store.holes) hb in
    let z = give-stands n y hy m q a (holes-there n b 0 a.store.holes hb (omega arith)) few f valid in
    stands-stored y (give m q a) _ _ z
    ∙ ap (λ w. store_record (give_words w (summary a) m q) (give_record w (summary a) m q)) k.words
    ∙ ap (λ w. store_record (give_words x w m q) (give_record x w m q)) k.top

-- ---- the end of a commit
-- the arena's words are then y
abbrev finish : List ℕ → List ℕ → Given → ℕ → ℕ → Committed
finish b y g m w = record { code = 0; book = committed b y g m w; run = g.run; fresh = g.fresh }

held_kept : (b y : List ℕ) → get y (arena held) ≡ get b (arena held) → put y (arena held) (get b (arena held)) ≡ y
held_kept b y e = rw (← e) (put-get y (arena held))

held-stored : (b : List ℕ) (a : Arena) → length a.store.holes ≤ hole_slots → get (store_arena b a) (arena held) ≡ get b (arena held)
held-stored b a few = (arena-changes b a few).kept (arena held) refl refl

held-owned : (b y : List ℕ) (q m w : ℕ) → get y (arena held) ≡ get b (arena held) → get (own y q m w) (arena held) ≡ get b (arena held)
held-owned b y q m w e = (own-changes y y q m w (changes-none is_owner y)).kept (arena held) refl refl ∙ e

-- the frontier did not move, or it moved by m pages
advance-still : (b y : List ℕ) (f : ℕ) → f ≡ get b (arena frontier) → advance b y f ≡ y
unfolding advance own
advance-still b y f e =
    let z : f - get b (arena frontier) ≡ 0 = omega arith in
    rw z

advance-moved : (b y : List ℕ) (f m : ℕ) → f ≡ get b (arena frontier) + m → advance b y f ≡ own y (get b (arena frontier)) m 0
unfolding advance
advance-moved b y f m e =
    let z : f - get b (arena frontier) ≡ m = omega arith in
    rw z

module _ (n : ℕ) (b : List ℕ) (hb : leb (words n) (length b) ≡ true) (m w : ℕ) (a : Arena) (x : List ℕ) (r : Record) (k : Stands b a x r) (few : length a.store.holes ≤ hole_slots) where
  pub ends-none : a.frontier ≡ get b (arena frontier) → finish b (store_arena b a) (Arenas.given a none false) m w ≡ end_none x r
  unfolding committed passed_to end_none
  ends-none e =
      ap (λ z. record { code = 0; book = z; run = none; fresh = false })
      (rw (advance-still b (store_arena b a) a.frontier e) (held_kept b (store_arena b a) (held-stored b a few) ∙ stands-stored b a x r k))

  -- of a hole
  pub ends_reuse : (q : ℕ) → a.frontier ≡ get b (arena frontier) → finish b (store_arena b (Arenas.counted false a)) (Arenas.given (Arenas.counted false a) (some q) false) m w ≡ end_run x r m q false w (get b (arena held))
  unfolding committed passed_to end_run
  ends_reuse q e =
      let z = stands-stored b (Arenas.counted false a) x (counted false r) (stands-counted b a x r k false) in
      ap (λ y. record { code = 0; book = y; run = some q; fresh = false })
      (rw (advance-still b (store_arena b (Arenas.counted false a)) a.frontier e, z))

  -- of the frontier
  pub ends_fresh : a.frontier ≡ get b (arena frontier) + m → a.frontier ≤ n
      → finish b (store_arena b (Arenas.counted true a)) (Arenas.given (Arenas.counted true a) (some (get b (arena frontier))) true) m w ≡ end_run x r m (get b (arena frontier)) true w (get b (arena held))
  unfolding committed passed_to end_run
  ends_fresh e l =
      let z = stands-stored b (Arenas.counted true a) x (counted true r) (stands-counted b a x r k true) in
      let y = store_arena b (Arenas.counted true a) in
      let q = get b (arena frontier) in
      ap (λ y. record { code = 0; book = y; run = some q; fresh = true })
      (rw (
        advance-moved b y a.frontier m e,
        own-twice n y (rw (arena-changes b (Arenas.counted true a) few).long hb) q m 0 w (omega arith),
      ) (rw z))

  -- given, where it is not granted
  module _ (f : ℕ) (valid : every (hole_ends_valid f) a.store.holes ≡ true) (q : ℕ) where
    given-words : List ℕ
    given-words = store_arena (store_holes b 0 a.store.holes) (give m q a)

    given-are : given-words ≡ store_record (give_words x r m q) (give_record x r m q)
    unfolding given-words
    given-are = given-stored n b hb m q a x r k few f valid

    held-given : get given-words (arena held) ≡ get b (arena held)
    unfolding given-words
    held-given = held-stored (store_holes b 0 a.store.holes) (give m q a) (few-give m q a few) ∙ (holes_change b 0 a.store.holes (omega arith)).kept (arena held) refl refl

    pub ends_reuse_given : a.frontier ≡ get b (arena frontier) → finish b (store_arena (store_holes b 0 a.store.holes) (give m q a)) (Arenas.given (give m q a) none false) m w ≡ end_given x r m q false
    unfolding committed passed_to end_given given-words
    ends_reuse_given e =
        ap (λ y. record { code = 0; book = y; run = none; fresh = false })
        (rw (advance-still b given-words (give m q a).frontier (give-frontier m q a ∙ e)) (held_kept b given-words held-given ∙ given-are))

    pub ends_fresh-given : q ≡ get b (arena frontier) → a.frontier ≡ get b (arena frontier) + m
        → finish b (store_arena (store_holes b 0 a.store.holes) (give m q a)) (Arenas.given (give m q a) none false) m w ≡ end_given x r m q true
    unfolding committed passed_to end_given given-words
    ends_fresh-given s e =
        ap (λ y. record { code = 0; book = y; run = none; fresh = false })
        (rw (advance-moved b given-words (give m q a).frontier m (give-frontier m q a ∙ e), ← s)
        (held_kept b (own given-words q m 0) (held-owned b given-words q m 0 held-given) ∙ ap (λ y. own y q m 0) given-are))

-- granted or not
module _ (n : ℕ) (b : List ℕ) (hb : leb (words n) (length b) ≡ true) (m h w : ℕ) (a : Arena) (x : List ℕ) (r : Record) (k : Stands b a x r) (few : length a.store.holes ≤ hole_slots)
    (f : ℕ) (valid : commit_granted h ≡ false → every (hole_ends_valid f) a.store.holes ≡ true) (q : ℕ) where
  settles_reuse : a.frontier ≡ get b (arena frontier) → finish b (settled_arena h m b a (some q) false) (grant h m a (some q) false) m w ≡ settle x r m q false h w (get b (arena held))
  unfolding grant settled_arena settle
  settles_reuse e = by_cases (commit_granted h) (λ t. rw t (ends_reuse n b hb m w a x r k few q e)) (λ t. rw t (ends_reuse_given n b hb m w a x r k few f (valid t) q e))

  settles-fresh : q ≡ get b (arena frontier) → a.frontier ≡ get b (arena frontier) + m → a.frontier ≤ n
      → finish b (settled_arena h m b a (some q) true) (grant h m a (some q) true) m w ≡ settle x r m q true h w (get b (arena held))
  unfolding grant settled_arena settle
  settles-fresh s e l =
      by_cases (commit_granted h)
      (λ t. rw (t, s) (ends_fresh n b hb m w a x r k few e l))
      (λ t. rw t (ends_fresh-given n b hb m w a x r k few f (valid t) q s e))

-- ---- a run from the holes
module _ (n : ℕ) (b : List ℕ) (hb : leb (words n) (length b) ≡ true) (few : get b (arena holes) ≤ hole_slots) (m : ℕ) where
  HS : List Hole
  HS = load_holes b 0 (get b (arena holes))

  S : HoleStore
  S = Model.store HS (get b (arena hole_pages))

  length-HS : length HS ≡ get b (arena holes)
  unfolding HS
  length-HS = loaded_length b 0 (get b (arena holes))

  hole-HS : (i : ℕ) → i < length HS → hole_at i HS ≡ load_hole b i
  unfolding HS
  hole-HS i l = let e : 0 + i ≡ i = omega arith in loaded_at b 0 (get b (arena holes)) i (let z = length-HS in omega arith) ∙ rw e

  -- the words after it
  module _ (i : ℕ) (l : i < length HS) where
    k : ℕ
    k = get b (arena holes) - 1

    k-is : get b (arena holes) ≡ suc k
    unfolding k
    k-is = let z = length-HS in omega arith

    cut-words : (x : Hole) → store_holes b 0 (set_at i x HS) ≡ store_hole b i x
    unfolding HS
    cut-words x =
        let e : 0 + i ≡ i = omega arith in
        holes-set n b hb 0 i x HS (let z = length-HS in omega arith) l ∙ rw (holes-kept b 0 (get b (arena holes)), e)

    used-words : store_holes b 0 (remove_at i HS) ≡ store_hole b i (load_hole b k)
    unfolding HS
    used-words = ap (λ z. store_holes b 0 (remove_at i (load_holes b 0 z))) k-is ∙ holes_removed n b hb k i (let z = k-is in omega arith) (let z = length-HS in let y = k-is in omega arith)

    used-length : length (remove_at i HS) ≡ k
    unfolding HS
    used-length = ap (λ z. length (remove_at i (load_holes b 0 z))) k-is ∙ removed_length b k i

    -- for any record that goes with the store
    draw-words : (r : Record) → r.count ≡ length HS → store_holes b 0 (take_at m i S).holes ≡ draw_words b r m i
    unfolding cut_from draw_words S k
    draw-words r c =
        let e : r.count - 1 ≡ get b (arena holes) - 1 = (let z = length-HS in omega arith) in
        by_cases (ltb m (load_hole b i).pages)
        (λ t. rw (hole-HS i l, t) (cut-words _))
        (λ t. rw (hole-HS i l, t, e) used-words)

    draw-top : (a : Arena) → summary (Arenas.with_store (take_at m i S) a) ≡ draw_record b (summary (Arenas.with_store S a)) m i
    unfolding cut_from draw_record S k
    draw-top a =
        let e : length HS - 1 ≡ get b (arena holes) - 1 = (let z = length-HS in omega arith) in
        by_cases (ltb m (load_hole b i).pages)
        (λ t. rw (hole-HS i l, t, set-length))
        (λ t. rw (hole-HS i l, t, e, used-length))

    few-drawn : length (take_at m i S).holes ≤ hole_slots
    unfolding cut_from S k
    few-drawn =
        by_cases (ltb m (hole_at i HS).pages)
        (λ t. rw (t, set-length) (let z = length-HS in omega arith))
        (λ t. rw (t, used-length) (omega arith))

  -- the run drawn and settled, for any record that goes with the store
  module _ (h w : ℕ) (f : ℕ) (valid : every (hole_ends_valid f) HS ≡ true) (a : Arena) (fr : a.frontier ≡ get b (arena frontier)) where
    A₀ : Arena
    A₀ = Arenas.with_store S a

    settled : Given → Committed
    settled d = finish b (settled_arena h m b d.arena d.run d.fresh) (grant h m d.arena d.run d.fresh) m w

    lf : length HS ≤ hole_slots
    lf = rw length-HS few

    stands : Stands b A₀ b (summary A₀)
    unfolding HS S A₀
    stands = record { words = holes-kept b 0 (get b (arena holes)); top = refl }

    by-frontier : settled (draw_from n m A₀ none) ≡ from_frontier n b (summary A₀) m h w (get b (arena held))
    unfolding settled draw_from from_frontier grant settled_arena A₀ S
    by-frontier =
        by_cases (leb (a.frontier + m) n)
        (λ t. rw t (settles-fresh n b hb m h w (Arenas.with_frontier (a.frontier + m) A₀) b _ (stands-frontier b A₀ b _ stands m) lf f (λ _. valid) a.frontier fr (omega (arith, fr)) (leb-true _ n t)))
        (λ t. rw t (ends-none n b hb m w A₀ b _ stands lf fr))

    by-hole : (i : ℕ) → i < length HS → settled (draw_from n m A₀ (some i)) ≡ commit_drawn n b (summary A₀) (suc i) m h w (get b (arena held))
    unfolding settled draw_from commit_drawn hole_drawn A₀ S
    by-hole i l =
        let d : suc i - 1 ≡ i = omega arith in
        rw (ne_eqb (suc i) 0 (λ e. omega arith), d)
        (ap (λ q. finish b (settled_arena h m b (Arenas.with_store (take_at m i S) a) (some q) false) (grant h m (Arenas.with_store (take_at m i S) a) (some q) false) m w) (ap (λ x. x.first) (hole-HS i l))
        ∙ settles_reuse n b hb m h w _ (draw_words b (summary A₀) m i) (draw_record b (summary A₀) m i)
        (record { words = draw-words i l (summary A₀) refl; top = draw-top i l a }) (few-drawn i l) f (λ _. take-valid f m i S l valid) (load_hole b i).first fr)

    drawn : (o : Option ℕ) → Chosen m HS o → settled (draw_from n m A₀ o) ≡ commit_drawn n b (summary A₀) (index_code o) m h w (get b (arena held))
    unfolding commit_drawn
    drawn o (no-hole e) = by-frontier
    drawn o (at-hole i l u) = by-hole i l.inside

  module _ (h w : ℕ) (f : ℕ) (valid : every (hole_ends_valid f) HS ≡ true) where
    by-ready : (s : Status) (r : Record) → summary (Arenas.with_status s (load_arena b)) ≡ r
        → finish b (ready_arena n h m b (Arenas.with_status s (load_arena b))) (commit_ready n h m (Arenas.with_status s (load_arena b))) m w ≡ commit_drawn n b r (index_code (choose m HS)) m h w (get b (arena held))
    unfolding commit_ready ready_arena draw load_arena load_store HS S A₀ settled
    by-ready s r top = drawn h w f valid (Arenas.with_status s (load_arena b)) refl (choose m HS) (chosen m HS) ∙ ap (λ z. commit_drawn n b z (index_code (choose m HS)) m h w (get b (arena held))) top

    -- the arena as loaded, with its own STATE
    loaded_top : (s : ℕ) → s ≤ 2 → get b (arena state) ≡ s → summary (load_arena b) ≡ with_state s (record_of b)
    loaded_top s l e = (stands_loaded b (rw e l)).top ∙ ap (λ z. with_state z (record_of b)) e

    off : (s : Status) (r : Record) → summary (Arenas.with_status s (load_arena b)) ≡ r → finish b (store_arena b (Arenas.with_status s (load_arena b))) (Arenas.given (Arenas.with_status s (load_arena b)) none false) m w ≡ end_none b r
    unfolding load_arena load_store HS
    off s r top = ends-none n b hb m w (Arenas.with_status s (load_arena b)) b r (record { words = holes-kept b 0 (get b (arena holes)); top = top }) (rw length-HS few) refl

    by_state : (s : ℕ) → s ≤ 2 → get b (arena state) ≡ s
        → finish b (arena_as n h m b (load_arena b) (status_of s)) (commit_as n h m (load_arena b) (status_of s)) m w ≡ commit_planned n b (record_of b) (index_code (choose m HS)) m h w (get b (arena held))
    unfolding commit_as arena_as commit_planned
    by_state zero l e =
        by_cases (reservation_granted h)
        (λ t. rw (e, t) (by-ready ready _ (ap (with_state 1) (loaded_top 0 (omega arith) e))))
        (λ t. rw (e, t) (off disabled _ (ap (with_state 2) (loaded_top 0 (omega arith) e))))
    by_state (suc zero) l e = rw e (by-ready (load_arena b).status _ (loaded_top 1 (omega arith) e))
    by_state (suc (suc zero)) l e = rw e (off (load_arena b).status _ (loaded_top 2 (omega arith) e))
    by_state (suc (suc (suc s))) l e = absurd (omega arith)

    commit-valid : get b (arena state) ≤ 2
        → finish b (committed_arena n h m b (load_arena b)) (commit n h m (load_arena b)) m w ≡ commit_planned n b (record_of b) (index_code (choose m (load_holes b 0 (get b (arena holes))))) m h w (get b (arena held))
    unfolding commit committed_arena load_arena HS
    commit-valid l = by_state (get b (arena state)) l refl

-- ---- a commit
pub record ValidRecord (n : ℕ) (b : List ℕ) : Type 0 where
  pub state : get b (arena state) ≤ 2
  pub frontier : get b (arena frontier) ≤ n
  pub holes : get b (arena holes) ≤ hole_slots
  pub hole_pages : get b (arena hole_pages) ≤ hole_pages_max
  pub held : get b (arena held) ≤ n

pub valid_record : (n : ℕ) (b : List ℕ) → record_valid n b ≡ true → ValidRecord n b
unfolding record_valid
valid_record n b e =
    let e₁ = and_right (leb (get b (arena state)) 2) _ e in
    let e₂ = and_right (head_valid n b) _ e₁ in
    let e₃ = and_right (leb (get b (arena holes)) hole_slots) _ e₂ in
    record {
      state = leb-true _ 2 (and_left _ _ e);
      frontier = head-frontier n b (and_left _ _ e₁);
      holes = leb-true _ hole_slots (and_left _ _ e₂);
      hole_pages = leb-true _ hole_pages_max (and_left _ _ e₃);
      held = leb-true _ n (and_right (leb (get b (arena hole_pages)) hole_pages_max) _ e₃);
    }

pub planned-is : (b : List ℕ) (m : ℕ) → planned b m ≡ plan_as (holes_valid b) (index_code (choose m (load_holes b 0 (get b (arena holes)))))
unfolding planned plan_of holes_valid
planned-is b m = refl

-- a hole in a commit's range is in a give's
pub ends_of : (b : List ℕ) → holes_valid b ≡ true → every (hole_ends_valid (get b (arena frontier))) (load_holes b 0 (get b (arena holes))) ≡ true
unfolding holes_valid
ends_of b e = every_weaker (hole_valid (get b (arena hole_pages)) (get b (arena frontier))) (hole_ends_valid (get b (arena frontier))) (λ h. and_right (leb h.pages (get b (arena hole_pages))) _) (load_holes b 0 (get b (arena holes))) e

pub commit-acts : (n : ℕ) (b : List ℕ) → leb (words n) (length b) ≡ true → (h m w : ℕ) → commit_acts n b h m w ≡ commit_for n b h m w
unfolding commit_acts commit_read commit_for commit_valid HS
commit-acts n b hb h m w =
    by_cases (record_valid n b)
    (λ e. let k = valid_record n b e in
    by_cases (holes_valid b)
    (λ v. rw (e, planned-is b m, v) (sym (commit-valid n b hb k.holes m h w (get b (arena frontier)) (ends_of b v) k.state)))
    (λ v. rw (e, planned-is b m, v)))
    (λ e. rw e)

-- ---- giving
loaded_here : (b : List ℕ) → load_holes b 0 (length (load_arena b).store.holes) ≡ (load_arena b).store.holes
unfolding load_arena load_store
loaded_here b = rw (loaded_length b 0 (get b (arena holes)))

few_loaded : (b : List ℕ) → get b (arena holes) ≤ hole_slots → length (load_arena b).store.holes ≤ hole_slots
unfolding load_arena load_store
few_loaded b l = rw (loaded_length b 0 (get b (arena holes))) l

valid_loaded : (b : List ℕ) → holes_end_valid b ≡ true → every (hole_ends_valid (get b (arena frontier))) (load_arena b).store.holes ≡ true
unfolding load_arena load_store holes_end_valid
valid_loaded b e = e

pub give-acts : (n : ℕ) (b : List ℕ) → leb (words n) (length b) ≡ true → ValidRecord n b → holes_end_valid b ≡ true → (q m : ℕ) → given b q m ≡ give_acts b q m
unfolding given give_acts given_with
give-acts n b hb k e q m =
    let z = stands-stored b (give m q (load_arena b)) _ _ (give-stands n b hb m q (load_arena b) (loaded_here b) (few_loaded b k.holes) (get b (arena frontier)) (valid_loaded b e)) in
    let y : store_arena b (give m q (load_arena b)) ≡ store_record (give_words b (record_of b) m q) (give_record b (record_of b) m q)
    = z ∙ ap (λ w. store_record (give_words b w m q) (give_record b w m q)) (stands_loaded b k.state).top in
    rw y

-- ---- growth
pub record GrowsAs (n : ℕ) (b : List ℕ) (h e m : ℕ) : Type 0 where
  pub book : grow_book n b h e m (load_arena b) ≡ (grow_acts n b h e m (owner_code direct)).book
  pub yes : (Arenas.grow n h e m (load_arena b)).grew ≡ is_some (grow_acts n b h e m (owner_code direct)).run

-- the growth as a commit's end
grown-given : (b y : List ℕ) (e m : ℕ) (g : Arenas.Grown) → grown_book b y g e m ≡ committed b y (Arenas.given g.arena (grown_by g.grew e) g.grew) m (owner_code direct)
unfolding grown_book committed
grown-given b y e m g = refl

module _ (n : ℕ) (b : List ℕ) (hb : leb (words n) (length b) ≡ true) (k : ValidRecord n b) (h m : ℕ) where
  A : Arena
  A = Arenas.with_frontier (get b (arena frontier) + m) (load_arena b)

  stands-A : Stands b A b (advanced m (record_of b))
  unfolding A load_arena
  stands-A = stands-frontier b (load_arena b) b (record_of b) (stands_loaded b k.state) m

  grows_at : get b (arena frontier) + m ≤ n → (commit_granted h ≡ false → holes_end_valid b ≡ true) → GrowsAs n b h (get b (arena frontier)) m
  unfolding grow_acts grow_with from_frontier settle grown_arena settled_arena Arenas.grow load_arena A
  grows_at l valid =
      let f = get b (arena frontier) in
      let few = few_loaded b k.holes in
      by_cases (commit_granted h)
      (λ t. let z = ends_fresh n b hb m (owner_code direct) A b (advanced m (record_of b)) stands-A few refl l in
      record {
        book = rw (eq-eqb f f refl, le-leb (f + m) n l, t) (grown-given b _ f m _ ∙ ap (λ y. y.book) z);
        yes = rw (eq-eqb f f refl, le-leb (f + m) n l, t) (ap (λ y. is_some y.run) z);
      })
      (λ t. let z = ends_fresh-given n b hb m (owner_code direct) A b (advanced m (record_of b)) stands-A few f (valid_loaded b (valid t)) f refl refl in
      record {
        book = rw (eq-eqb f f refl, le-leb (f + m) n l, t) (grown-given b _ f m _ ∙ ap (λ y. y.book) z);
        yes = rw (eq-eqb f f refl, le-leb (f + m) n l, t) (ap (λ y. is_some y.run) z);
      })

  unmoved : finish b (store_arena b (load_arena b)) (Arenas.given (load_arena b) none false) m (owner_code direct) ≡ end_none b (record_of b)
  unfolding load_arena
  unmoved = ends-none n b hb m (owner_code direct) (load_arena b) b (record_of b) (stands_loaded b k.state) (few_loaded b k.holes) refl

  grows-full : n < get b (arena frontier) + m → GrowsAs n b h (get b (arena frontier)) m
  unfolding grow_acts grow_with from_frontier end_none grown_arena Arenas.grow load_arena
  grows-full l =
      let f = get b (arena frontier) in
      record { book = rw (eq-eqb f f refl, lt-leb (f + m) n l) (grown-given b _ f m _ ∙ ap (λ y. y.book) unmoved); yes = rw (eq-eqb f f refl, lt-leb (f + m) n l) refl }

  grows-elsewhere : (e : ℕ) → (get b (arena frontier) ≡ e → ⊥) → GrowsAs n b h e m
  unfolding grow_acts grow_with end_none grown_arena Arenas.grow load_arena
  grows-elsewhere e d =
      let t = ne_eqb (get b (arena frontier)) e d in
      record { book = rw t (grown-given b _ e m _ ∙ ap (λ y. y.book) unmoved); yes = rw t refl }

  pub grow-acts : (e : ℕ) → (commit_granted h ≡ false → get b (arena frontier) ≡ e → e + m ≤ n → holes_end_valid b ≡ true) → GrowsAs n b h e m
  grow-acts e valid =
      elim (ℕ_discrete (get b (arena frontier)) e) [
        | yes z ↦ subst (λ y. GrowsAs n b h y m) z (elim (dec_le (get b (arena frontier) + m) n) [
          | yes l ↦ grows_at l (λ t. valid t z (omega (arith, z)))
          | no l ↦ grows-full (omega arith)
        ])
        | no d ↦ grows-elsewhere e d
      ]
