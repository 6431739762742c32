-- What a call gives to the arena joins the holes that it touches, or is appended, or abandoned (document 02, A.4).
--     run-given        a run released directly
--     commit-given     the run that a commit drew and was not granted
--     growth-given     the pages of a growth that was not granted
--     class-given      the runs that a class's call gives
--     none_touch       no two holes touch
use Rattle.facts.proofs.Prelude.{ℕ, ◌+◌, ◌-◌, ◌≤◌, true, false, false≢true, List, [], ◌∷◌, some, ◌≡◌, refl, sym, ◌∙◌, subst, eq-eqb, le-leb, by_cases}
use Rattle.classes.specs.Shape.{shape_of}
use Rattle.classes.proofs.Shapes.{shape-sound}
use Rattle.rules.specs.Rules.{rules_of}
use Rattle.words.specs.Host.{bad_host, commit_granted}
use Rattle.model.specs.Calls as Calls
use Rattle.model.specs.Calls.{Call, Named, names, way_of, host_of, is_refused}
use Rattle.model.specs.HoleStore.{accepts}
use Rattle.model.specs.Arena as Arenas
use Rattle.model.specs.Arena.{Arena, Status, unasked, ready, disabled, with_status, with_frontier, give, give_all, draw, grant, commit_ready, commit_as, grow}
use Rattle.model.specs.Class.{serve}
use Rattle.model.specs.Heap.{Heap, offer, finish, interact, class_call, bad_run, bad_growth, held_direct, answer_run, commit_call, grow_call, release_call, direct_call, step}
use Rattle.model.specs.History.{heap_after}
use Rattle.model.specs.BestFit.{usable}
use Rattle.model.specs.Joining.{NoTwoTouch}
use Rattle.model.proofs.Joining.{stored, joined_where_lem}
use Rattle.model.proofs.HistoryArena.{good-run, longer}
use Rattle.model.proofs.HeapLaws.{run-answered}
use Rattle.model.proofs.Theorems.{joining}
use Rattle.arena.specs.Load.{load_arena}
use Rattle.vigbuso.specs.Direct.{commit_on, grow_on, release_on}
use Rattle.demands.specs.Call.{call}
use Rattle.demands.specs.Run.{Opens, book_after, next}
use Rattle.demands.specs.Demands.{GivenTo, GivenInTurn, all-given, first-given}
use Rattle.demands.proofs.Histories.{run-represents, next-agrees}
use Rattle.demands.proofs.Codes.{class_ask, step-class, zero-exactly, next-host}

give-given : (m q : ℕ) → 1 ≤ m → (a : Arena) → GivenTo m q a (give m q a)
unfolding give
give-given m q one a = record {
  joined = λ r. joined_where_lem m q one a ((stored m q a.store).1 r);
  uncounted = λ r. rw ((stored m q a.store).1 r);
  abandoned = λ f. by_cases (accepts m q a.store) (λ e. absurd (f ((stored m q a.store).0 e))) (λ e. rw e (record { holes = refl; counted = refl }));
  frontier = by_cases (accepts m q a.store) (λ e. rw e) (λ e. rw e);
}

all_in_turn : (m : ℕ) → 1 ≤ m → (qs : List ℕ) (a : Arena) → GivenInTurn m qs a (give_all m qs a)
all_in_turn m one [] a = all-given a
all_in_turn m one (q ∷ qs) a = first-given q qs a (give m q a) _ (give-given m q one a) (all_in_turn m one qs (give m q a))

-- ---- a usable arena's commit that is not granted gives what it drew; so a growth
module _ (n h m q : ℕ) (a : Arena) (c : commit_granted h ≡ false) where
  commit-gives : usable h a.status ≡ true → (draw n m (with_status ready a)).run ≡ some q → (Arenas.commit n h m a).arena ≡ give m q (draw n m (with_status ready a)).arena
  unfolding Arenas.commit commit_as commit_ready grant
  commit-gives u e = on-status a.status refl u
    where
      on-ready : (commit_ready n h m (with_status ready a)).arena ≡ give m q (draw n m (with_status ready a)).arena
      on-ready = rw (e, c)

      on-status : (s : Status) → a.status ≡ s → usable h s ≡ true → (commit_as n h m a s).arena ≡ give m q (draw n m (with_status ready a)).arena
      on-status unasked d u = rw u on-ready
      on-status ready d u = subst (λ (x : Status). (commit_ready n h m (with_status x a)).arena ≡ give m q (draw n m (with_status ready a)).arena) (sym d) on-ready
      on-status disabled d u = absurd (false≢true u)

  growth-gives : a.frontier ≡ q → q + m ≤ n → (grow n h q m a).arena ≡ give m q (with_frontier (q + m) a)
  unfolding grow
  growth-gives e l = rw (eq-eqb a.frontier q e, le-leb (q + m) n l, c)

-- ---- a call that is not refused: its run has a page, and its arena
module _ (n : ℕ) (H : Heap) (h : ℕ) where
  step-release : (q m : ℕ) → is_refused (step n H (Calls.release h q m)).answer ≡ false → (1 ≤ m) × ((step n H (Calls.release h q m)).heap.arena ≡ give m q H.arena)
  unfolding step way_of direct_call release_call
  step-release q m u =
      by_cases (bad_host h) (λ t. absurd (false≢true (sym (rw t at u))))
      (λ t. by_cases (bad_run m) (λ v. absurd (false≢true (sym (rw (t, v) at u))))
      (λ v. by_cases (held_direct n H q m) (λ w. (good-run m v, rw (t, v, w))) (λ w. absurd (false≢true (sym (rw (t, v, w) at u))))))

  step-commit : (m : ℕ) → is_refused (step n H (Calls.commit h m)).answer ≡ false → (1 ≤ m) × ((step n H (Calls.commit h m)).heap.arena ≡ (Arenas.commit n h m H.arena).arena)
  unfolding step way_of direct_call commit_call
  step-commit m u =
      by_cases (bad_host h) (λ t. absurd (false≢true (sym (rw t at u))))
      (λ t. by_cases (bad_run m) (λ v. absurd (false≢true (sym (rw (t, v) at u)))) (λ v. (good-run m v, rw (t, v))))

  step-growth : (q old new : ℕ) → is_refused (step n H (Calls.grow_frontier h q old new)).answer ≡ false
      → (1 ≤ new - old) × ((step n H (Calls.grow_frontier h q old new)).heap.arena ≡ (grow n h (q + old) (new - old) H.arena).arena)
  unfolding step way_of direct_call grow_call
  step-growth q old new u =
      by_cases (bad_host h) (λ t. absurd (false≢true (sym (rw t at u))))
      (λ t. by_cases (bad_growth old new) (λ v. absurd (false≢true (sym (rw (t, v) at u))))
      (λ v. by_cases (held_direct n H q old) (λ w. (longer old new v, rw (t, v, w))) (λ w. absurd (false≢true (sym (rw (t, v, w) at u))))))

-- ---- on the words
module _ (n : ℕ) (rows b : List ℕ) (o : Opens n rows b) (xs : List Call) where
  abbrev heap : Heap
  heap = heap_after n (rules_of rows) xs

  loads : load_arena (book_after n rows b xs) ≡ heap.arena
  loads = (run-represents n rows b o xs).arena.loads

  pub none_touch : NoTwoTouch (load_arena (book_after n rows b xs)).store.holes
  none_touch = rw loads (joining n (rules_of rows) xs).no_two_touch

  pub run-given : (h q m : ℕ) → (next n rows b xs (Calls.release h q m)).code ≡ 0 → GivenTo m q (load_arena (book_after n rows b xs)) (load_arena (next n rows b xs (Calls.release h q m)).book)
  unfolding call
  run-given h q m e =
      let z = next-agrees n rows b o xs (Calls.release h q m) in
      let s = step-release n heap h q m (rw z.answer at ((zero-exactly (release_on (book_after n rows b xs) h q m).code Calls.released refl).0 e)) in
      rw (z.heap.arena.loads ∙ s.1, loads) (give-given m q s.0 heap.arena)

  pub commit-given : (h m q : ℕ) → (next n rows b xs (Calls.commit h m)).code ≡ 0 → usable h (load_arena (book_after n rows b xs)).status ≡ true → commit_granted h ≡ false
      → (draw n m (with_status ready (load_arena (book_after n rows b xs)))).run ≡ some q
      → GivenTo m q (draw n m (with_status ready (load_arena (book_after n rows b xs)))).arena (load_arena (next n rows b xs (Calls.commit h m)).book)
  unfolding call
  commit-given h m q e u c d =
      let a = heap.arena in
      let w = commit_on (book_after n rows b xs) h m in
      let z = next-agrees n rows b o xs (Calls.commit h m) in
      let s = step-commit n heap h m (rw z.answer at ((zero-exactly w.code (answer_run w.run w.fresh) (run-answered w.run w.fresh)).0 e)) in
      rw (z.heap.arena.loads ∙ s.1 ∙ commit-gives n h m q a c (rw loads at u) (rw loads at d), loads) (give-given m q s.0 (draw n m (with_status ready a)).arena)

  pub growth-given : (h q old new : ℕ) → (next n rows b xs (Calls.grow_frontier h q old new)).code ≡ 0
      → (load_arena (book_after n rows b xs)).frontier ≡ q + old → q + old + (new - old) ≤ n → commit_granted h ≡ false
      → GivenTo (new - old) (q + old) (with_frontier (q + old + (new - old)) (load_arena (book_after n rows b xs))) (load_arena (next n rows b xs (Calls.grow_frontier h q old new)).book)
  unfolding call
  growth-given h q old new e f k c =
      let a = heap.arena in
      let w = grow_on (book_after n rows b xs) h q old new in
      let z = next-agrees n rows b o xs (Calls.grow_frontier h q old new) in
      let s = step-growth n heap h q old new (rw z.answer at ((zero-exactly w.code (Calls.grown w.yes) refl).0 e)) in
      rw (z.heap.arena.loads ∙ s.1 ∙ growth-gives n h (new - old) (q + old) a c (rw loads at f) k, loads) (give-given (new - old) (q + old) s.0 (with_frontier (q + old + (new - old)) a))

  pub class-given : (x : Call) (d : Named) → names x ≡ some d → (next n rows b xs x).code ≡ 0
      → (let q = class_ask heap d in
      let g = offer n (host_of d.request) (load_arena (book_after n rows b xs)) q in
      GivenInTurn (shape_of d.class).pages (serve q g.run).gives g.arena (load_arena (next n rows b xs x).book))
  unfolding class_call interact finish
  class-given x d e z =
      let q = class_ask heap d in
      let g = offer n (host_of d.request) heap.arena q in
      rw ((next-agrees n rows b o xs x).heap.arena.loads, step-class n heap x d e (next-host n rows b o xs x d e z), loads) (all_in_turn (shape_of d.class).pages (shape-sound d.class).paged (serve q g.run).gives g.arena)
