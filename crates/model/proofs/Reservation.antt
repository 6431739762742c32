-- The arena's status is the reservation that the calls and answers of a history tell.
--     never-run    where the reservation was not asked for, no class has a run
--     reserved     the statement
use Rattle.facts.proofs.Prelude.{ℕ, suc, ◌+◌, ◌-◌, ◌*◌, ◌^◌, ◌≤◌, arith, Bool, true, false, cond, false≢true, List, [], ◌∷◌, ◌↔◌, Option, none, some, Option·none-ne-some, ◌≡◌}
use Rattle.facts.proofs.Prelude.{refl, sym, ap, ◌∙◌, subst, leb, ltb, length, eqb-true, ltb-true, leb-true, lt-ltb, le-leb, total, by_cases, and_left, and_right, and_no, nor_left}
use Rattle.words.specs.Host.{reservation_granted, commit_granted}
use Rattle.classes.specs.declared.Shape.{Shape}
use Rattle.classes.specs.Shape.{shape_of, class_count, pool_id}
use Rattle.classes.specs.Sizes.{page_bytes}
use Rattle.classes.proofs.Shapes.{shape-sound}
use Rattle.rules.specs.declared.Limits.{Limits}
use Rattle.rules.specs.Rules.{Rules}
use Rattle.model.specs.declared.Hole.{Hole}
use Rattle.model.specs.Cover.{covers}
use Rattle.model.specs.Calls as Calls
use Rattle.model.specs.Calls.{Call, Answer, Named, named, names, Request, Way, host_in, host_of, is_refused, way_of, contained}
use Rattle.model.specs.HoleStore.{accepts}
use Rattle.model.specs.Arena as Arenas
use Rattle.model.specs.Arena.{Arena, Status, unasked, ready, disabled, with_status, with_frontier, give, give_all, Given, draw_from, draw, grant, commit_ready, commit_as, can_grow, grow, is_ready}
use Rattle.model.specs.HoleStore.{choose}
use Rattle.model.specs.Page.{Page}
use Rattle.model.specs.Class.{Class, Cold, Result, Ask, done, serve, on_run, take_from, served}
use Rattle.model.specs.Release.{Site, on_page, release_list}
use Rattle.model.specs.Chunks.{release_chunks, answer}
use Rattle.model.specs.Heap.{Heap, Outcome, new_heap, offer, finish, interact, class_call, bad_growth, commit_call, grow_call, release_call, answer_run, unchanged, direct_call, route, step}
use Rattle.model.specs.History.{Event, event_of, events_from, heap_after, heap_from}
use Rattle.model.specs.Entries.{Entry}
use Rattle.model.specs.Ledger.{runs_with}
use Rattle.model.specs.Reservation.{wants_run, settled_by, reserved_next, reserved_from, Contained, Reserved}
use Rattle.model.proofs.Ways.{Goes, is_turned, is-straight, is-class, goes, host_of_lem}
use Rattle.model.proofs.Runs.{covers_in, above_at}
use Rattle.model.proofs.ArenaLaws.{give-frontier, give_all-frontier}
use Rattle.model.proofs.Accounts.{held-le}
use Rattle.model.proofs.HeapLaws.{Inv, run-answered, step-inv, start}
use Rattle.model.proofs.HistoryArena.{AsksRun, is-done, is-asked, answer-asks, good-run}

-- ---- the arena: what each act does to the status
give-status : (n q : ℕ) (a : Arena) → (give n q a).status ≡ a.status
unfolding give
give-status n q a = by_cases (accepts n q a.store) (λ e. rw e refl) (λ e. rw e refl)

give_all-status : (n : ℕ) (qs : List ℕ) (a : Arena) → (give_all n qs a).status ≡ a.status
give_all-status n [] a = refl
give_all-status n (q ∷ qs) a = give_all-status n qs (give n q a) ∙ give-status n q a

-- by a commit: asked for where it was not; else as it was
abbrev asked : ℕ → Status → Status
asked h unasked = settled_by h
asked h ready = ready
asked h disabled = disabled

module _ (size h n : ℕ) where
  draw-status : (a : Arena) (i : Option ℕ) → (draw_from size n a i).arena.status ≡ a.status
  unfolding draw_from
  draw-status a (some i) = refl
  draw-status a none = by_cases (leb (a.frontier + n) size) (λ e. rw e refl) (λ e. rw e refl)

  grant-status : (a : Arena) (o : Option ℕ) (f : Bool) → (grant h n a o f).arena.status ≡ a.status
  unfolding grant
  grant-status a none f = refl
  grant-status a (some q) f = by_cases (commit_granted h) (λ e. rw e refl) (λ e. rw e (give-status n q a))

  ready-status : (a : Arena) → (commit_ready size h n a).arena.status ≡ a.status
  unfolding commit_ready draw
  ready-status a = let i = choose n a.store.holes in let d = draw_from size n a i in grant-status d.arena d.run d.fresh ∙ draw-status a i

  commit-status : (a : Arena) → (Arenas.commit size h n a).arena.status ≡ asked h a.status
  unfolding Arenas.commit commit_as
  commit-status a = on a.status refl
    where
      on : (s : Status) → a.status ≡ s → (commit_as size h n a s).arena.status ≡ asked h s
      on unasked e = by_cases (reservation_granted h) (λ t. rw t (ready-status (with_status ready a))) (λ t. rw t refl)
      on ready e = ready-status a ∙ e
      on disabled e = e

grow-status : (size h e n : ℕ) (a : Arena) → (grow size h e n a).arena.status ≡ a.status
unfolding grow
grow-status size h e n a =
    by_cases (can_grow size e n a)
    (λ d. by_cases (commit_granted h) (λ c. rw (d, c) refl) (λ c. rw (d, c) (give-status n e (with_frontier (e + n) a))))
    (λ d. rw d refl)

-- ---- before it is asked for, nothing was given out
-- the frontier is where it began; no call moves it without the reservation
pub record Untouched (a : Arena) : Type 0 where
  pub low : a.status ≡ unasked → a.frontier ≡ 0

asked-not : (h : ℕ) (s : Status) → asked h s ≡ unasked → ⊥
asked-not h unasked e =
    by_cases (reservation_granted h)
    (λ t. let z : ready ≡ unasked = rw t at e in false≢true cc)
    (λ t. let z : disabled ≡ unasked = rw t at e in false≢true cc)
asked-not h ready e = false≢true cc
asked-not h disabled e = false≢true cc

no-runs : {A : Type 0} (first : A → ℕ) (m : ℕ) → 1 ≤ m → (ps : List A) → ((x : ℕ) → total (λ p. covers m (first p) x) ps ≡ 0) → ps ≡ []
no-runs first m one [] z = refl
no-runs first m one (p ∷ ps) z = absurd (let y = z (first p) in omega (arith, covers_in m (first p) (first p) (omega arith) (omega arith)))

-- no class has a run
record Bare (s : Class) : Type 0 where
  partial : s.partial ≡ []
  empty : s.empty ≡ []
  cold : s.cold ≡ []

module _ (size n : ℕ) (H : Heap) (es : List Entry) (f : ℕ → Bool) (l : ℕ → ℕ) (inv : Inv size n H es f l) where
  never-run : H.arena.frontier ≡ 0 → (c : ℕ) → Bare (H.classes c)
  never-run e c =
      let one = (shape-sound c).paged in
      let m = (shape_of c).pages in
      let none-held : (x : ℕ) → runs_with (shape_of c) x (H.classes c) ≡ 0 = λ x. omega (arith, inv.mine c x, held-le c (H.holder x), inv.one x, above_at H.arena.frontier x (omega arith)) in
      record {
        partial = no-runs (λ (p : Page). p.first) m one _ (λ x. omega (arith, none-held x));
        empty = no-runs (λ (p : Page). p.first) m one _ (λ x. omega (arith, none-held x));
        cold = no-runs (λ (p : Cold). p.first) m one _ (λ x. omega (arith, none-held x));
      }

-- ---- what a call of a class wants of the arena
data Wants (x : Call) : Request → Type 0 where
  a_take : {h : ℕ} {l : List ℕ} → wants_run x ≡ true → Wants x (Calls.take h l)
  a-list : {h : ℕ} {ws : List ℕ} → wants_run x ≡ false → Wants x (Calls.give_back h ws)
  some-chunks : {h : ℕ} {ws gs fs : List ℕ} → wants_run x ≡ false → Wants x (Calls.give_chunks h ws gs fs)

named-wants : (x : Call) (t : Bool) (c : ℕ) (r : Request) (d : Named) → named t c r ≡ some d → Wants x r → Wants x d.request
named-wants x true c r d e w = let z : record { class = c; request = r } ≡ d = cc in subst (λ (y : Named). Wants x y.request) z w
named-wants x false c r d e w = absurd (Option·none-ne-some d e)

wants : (x : Call) (d : Named) → names x ≡ some d → Wants x d.request
wants (Calls.take_blocks c h l) d e = named-wants _ (ltb c 64) c _ d e (a_take refl)
wants (Calls.medium_take_blocks c h l) d e = named-wants _ (ltb c 12) (64 + c) _ d e (a_take refl)
wants (Calls.release_blocks c h ws) d e = named-wants _ (ltb c 64) c _ d e (a-list refl)
wants (Calls.medium_release_blocks c h ws) d e = named-wants _ (ltb c 12) (64 + c) _ d e (a-list refl)
wants (Calls.pooled_take c h l) d e = named-wants _ (ltb c class_count) (pool_id c) _ d e (a_take refl)
wants (Calls.pooled_release c h ws) d e = named-wants _ (ltb c class_count) (pool_id c) _ d e (a-list refl)
wants (Calls.release_bin_chunks c h ws gs fs) d e = named-wants _ (ltb c 64) c _ d e (some-chunks refl)
wants (Calls.commit h m) d e = absurd (Option·none-ne-some d e)
wants (Calls.grow_frontier h q old new) d e = absurd (Option·none-ne-some d e)
wants (Calls.release h q m) d e = absurd (Option·none-ne-some d e)
wants (Calls.contains o k) d e = absurd (Option·none-ne-some d e)
wants Calls.report d e = absurd (Option·none-ne-some d e)

-- a release asks for nothing
data AtHome : Ask → Type 0 where
  at_home : {r : Result} → AtHome (done r)

home-cond : (t : Bool) (p q : Ask) → AtHome p → AtHome q → AtHome (cond t p q)
home-cond true p q h k = h
home-cond false p q h k = k

module _ (sh : Shape) (lim : Limits) (s : Class) (h : ℕ) where
  page-home : (ws : List ℕ) (x : Option Site) → AtHome (on_page sh lim h s ws x)
  unfolding on_page
  page-home ws none = at_home
  page-home ws (some x) = search (home-cond, at_home)

  list-home : (ws : List ℕ) → AtHome (answer sh lim s (Calls.give_back h ws))
  unfolding answer release_list
  list-home ws = search (home-cond, at_home, page-home)

  chunks-home : (ws gs fs : List ℕ) → AtHome (answer sh lim s (Calls.give_chunks h ws gs fs))
  unfolding answer release_chunks
  chunks-home ws gs fs = search (home-cond, at_home) depth 9

-- ---- one call
refused-next : (v : Event) (s : Status) → is_refused v.answer ≡ true → reserved_next v s ≡ s
refused-next v unasked e = rw (e, and_no)
refused-next v ready e = refl
refused-next v disabled e = refl

idle-next : (v : Event) (s : Status) → wants_run v.call ≡ false → reserved_next v s ≡ s
idle-next v unasked e = rw e
idle-next v ready e = refl
idle-next v disabled e = refl

module _ (size h : ℕ) (a : Arena) where
  home-status : {q : Ask} → AtHome q → (offer size h a q).arena.status ≡ a.status
  unfolding offer
  home-status at_home = refl

  -- once asked for, it stays
  stays-asked : {sh : Shape} {q : Ask} → AsksRun sh q → (s : Status) → a.status ≡ s → asked h s ≡ s → (offer size h a q).arena.status ≡ s
  unfolding offer
  stays-asked is-done s e d = e
  stays-asked {sh} is-asked s e d = commit-status size h sh.pages a ∙ rw e d

module _ (size n : ℕ) (H : Heap) (es : List Entry) (f : ℕ → Bool) (l : ℕ → ℕ) (inv : Inv size n H es f l) (low : Untouched H.arena) where
  abbrev Tells : Call → Outcome → Type 0
  Tells x o = o.heap.arena.status ≡ reserved_next (event_of x o) H.arena.status

  module _ (x : Call) (c h : ℕ) (w : wants_run x ≡ true) (e : host_in x ≡ h) (o : Option Hole) where
    abbrev sh : Shape
    sh = shape_of c

    abbrev g : Ask → Given
    g q = offer size h H.arena q

    -- no class has a run: a take that is not refused asks
    first-asks : (ls : List ℕ) (fs : List Page) → H.arena.status ≡ unasked → (g (take_from sh ls [] [] [] fs)).arena.status ≡ reserved_next (record { call = x; answer = (serve (take_from sh ls [] [] [] fs) (g (take_from sh ls [] [] [] fs)).run).answer; run = o }) unasked
    unfolding take_from offer on_run served
    first-asks ls fs z = commit-status size h sh.pages H.arena ∙ ap (asked h) z ∙ rw (w, unrefused (Arenas.commit size h sh.pages H.arena).run, e)
      where
        unrefused : (o : Option ℕ) → is_refused (on_run sh ls fs o).answer ≡ false
        unrefused none = refl
        unrefused (some q) = refl

    take-tells : (ls : List ℕ) (s : Status) → H.arena.status ≡ s
        → (let q = answer sh (H.rules c) (H.classes c) (Calls.take h ls) in (g q).arena.status ≡ reserved_next (record { call = x; answer = (serve q (g q).run).answer; run = o }) s)
    unfolding answer offer
    take-tells ls ready z = stays-asked size h H.arena (answer-asks sh (H.rules c) (H.classes c) (Calls.take h ls)) ready z refl
    take-tells ls disabled z = stays-asked size h H.arena (answer-asks sh (H.rules c) (H.classes c) (Calls.take h ls)) disabled z refl
    take-tells ls unasked z =
        let k = never-run size n H es f l inv (low.low z) c in
        by_cases (ltb (length ls) sh.batch)
        (λ t. rw t (z ∙ sym (refused-next (record { call = x; answer = Calls.refused 5; run = o }) unasked refl)))
        (λ t. rw (t, k.partial, k.empty, k.cold) (first-asks ls (H.classes c).full z))

  class-status : (c : ℕ) (r : Request) → (class_call size H c r).heap.arena.status ≡ (offer size (host_of r) H.arena (answer (shape_of c) (H.rules c) (H.classes c) r)).arena.status
  unfolding class_call interact finish
  class-status c r =
      let q = answer (shape_of c) (H.rules c) (H.classes c) r in
      let g = offer size (host_of r) H.arena q in
      give_all-status (shape_of c).pages (serve q g.run).gives g.arena

  class-tells : (x : Call) (c : ℕ) (r : Request) → host_in x ≡ host_of r → Wants x r → Tells x (class_call size H c r)
  unfolding class_call interact finish
  class-tells x c r e (a-list {h = h} {ws = ws} w) =
      class-status c r ∙ home-status size h H.arena (list-home (shape_of c) (H.rules c) (H.classes c) h ws) ∙ sym (idle-next (event_of x (class_call size H c r)) H.arena.status w)
  class-tells x c r e (some-chunks {h = h} {ws = ws} {gs = gs} {fs = fs} w) =
      class-status c r ∙ home-status size h H.arena (chunks-home (shape_of c) (H.rules c) (H.classes c) h ws gs fs) ∙ sym (idle-next (event_of x (class_call size H c r)) H.arena.status w)
  class-tells x c r e (a_take {h = h} {l = ls} w) = class-status c r ∙ take-tells x c h w e (class_call size H c r).run ls H.arena.status refl

  -- the direct calls
  record Settles (x : Call) (o : Outcome) : Type 0 where
    tells : Tells x o

  settles-cond : (x : Call) (b : Bool) (o p : Outcome) → (b ≡ true → Settles x o) → (b ≡ false → Settles x p) → Settles x (cond b o p)
  settles-cond x true o p h k = h refl
  settles-cond x false o p h k = k refl

  direct-refused : (x : Call) (k : ℕ) → Settles x (unchanged H (Calls.refused k))
  direct-refused x k = record { tells = sym (refused-next (event_of x (unchanged H (Calls.refused k))) H.arena.status refl) }

  direct-same : (x : Call) (a : Answer) → wants_run x ≡ false → Settles x (unchanged H a)
  direct-same x a e = record { tells = sym (idle-next (event_of x (unchanged H a)) H.arena.status e) }

  direct-commit : (h m : ℕ) → Settles (Calls.commit h m) (commit_call size H h m)
  unfolding commit_call
  direct-commit h m =
      let g = Arenas.commit size h m H.arena in
      record { tells = commit-status size h m H.arena ∙ next H.arena.status (answer_run g.run g.fresh) (run-answered g.run g.fresh) }
    where
      next : (s : Status) (a : Answer) → is_refused a ≡ false → asked h s ≡ reserved_next (record { call = Calls.commit h m; answer = a; run = none }) s
      next unasked a e = rw e
      next ready a e = refl
      next disabled a e = refl

  direct-grow : (h q old new : ℕ) → Settles (Calls.grow_frontier h q old new) (grow_call size H h q old new)
  unfolding grow_call
  direct-grow h q old new = record { tells = grow-status size h (q + old) (new - old) H.arena ∙ sym (idle-next (event_of (Calls.grow_frontier h q old new) (grow_call size H h q old new)) H.arena.status refl) }

  direct-release : (h q m : ℕ) → Settles (Calls.release h q m) (release_call H q m)
  unfolding release_call
  direct-release h q m = record { tells = give-status m q H.arena ∙ sym (idle-next (event_of (Calls.release h q m) (release_call H q m)) H.arena.status refl) }

  direct-tells : (x : Call) → Settles x (direct_call size H x)
  unfolding direct_call
  direct-tells (Calls.take_blocks c h ws) = direct-refused _ 4
  direct-tells (Calls.medium_take_blocks c h ws) = direct-refused _ 4
  direct-tells (Calls.release_blocks c h ws) = direct-refused _ 4
  direct-tells (Calls.medium_release_blocks c h ws) = direct-refused _ 4
  direct-tells (Calls.pooled_take c h ws) = direct-refused _ 4
  direct-tells (Calls.pooled_release c h ws) = direct-refused _ 4
  direct-tells (Calls.release_bin_chunks c h ws gs fs) = direct-refused _ 4
  direct-tells (Calls.commit h m) = search (settles-cond, direct-refused, direct-commit)
  direct-tells (Calls.grow_frontier h q old new) = search (settles-cond, direct-refused, direct-grow)
  direct-tells (Calls.release h q m) = search (settles-cond, direct-refused, direct-release)
  direct-tells (Calls.contains o m) = direct-same _ _ refl
  direct-tells Calls.report = direct-same _ _ refl

  route-tells : (x : Call) {w : Way} → Goes x w → Tells x (route size H x w)
  route-tells x (is_turned t) = sym (refused-next (event_of x (route size H x Calls.turned)) H.arena.status refl)
  route-tells x (is-straight t e) = (direct-tells x).tells
  route-tells x (is-class d t e) = class-tells x d.class d.request (host_of_lem x d e) (wants x d e)

  step-tells : (x : Call) → Tells x (step size H x)
  unfolding step
  step-tells x = route-tells x (goes x)

-- ---- the frontier stays where it began
record Low (o : Outcome) : Type 0 where
  low : Untouched o.heap.arena

low-cond : (b : Bool) (o p : Outcome) → (b ≡ true → Low o) → (b ≡ false → Low p) → Low (cond b o p)
low-cond true o p h k = h refl
low-cond false o p h k = k refl

module _ (size : ℕ) (H : Heap) (low : Untouched H.arena) where
  low_same : (a : Answer) → Low (unchanged H a)
  low_same a = record { low = low }

  low-commit : (h m : ℕ) → Low (commit_call size H h m)
  unfolding commit_call
  low-commit h m = record { low = record { low = λ e. absurd (asked-not h H.arena.status (sym (commit-status size h m H.arena) ∙ e)) } }

  low-grow : (h q old new : ℕ) → bad_growth old new ≡ false → Low (grow_call size H h q old new)
  unfolding grow_call grow
  low-grow h q old new b = record {
    low = record {
      low = λ e. let z = low.low (sym (grow-status size h (q + old) (new - old) H.arena) ∙ e) in
          by_cases (can_grow size (q + old) (new - old) H.arena)
          (λ d. absurd (let y = eqb-true H.arena.frontier (q + old) (and_left _ _ d) in omega (arith, good-run old (nor_left _ _ b))))
          (λ d. rw d z);
    };
  }

  low-release : (q m : ℕ) → Low (release_call H q m)
  unfolding release_call
  low-release q m = record { low = record { low = λ e. give-frontier m q H.arena ∙ low.low (sym (give-status m q H.arena) ∙ e) } }

  low-direct : (x : Call) → Low (direct_call size H x)
  unfolding direct_call
  low-direct (Calls.take_blocks c h ws) = low_same _
  low-direct (Calls.medium_take_blocks c h ws) = low_same _
  low-direct (Calls.release_blocks c h ws) = low_same _
  low-direct (Calls.medium_release_blocks c h ws) = low_same _
  low-direct (Calls.pooled_take c h ws) = low_same _
  low-direct (Calls.pooled_release c h ws) = low_same _
  low-direct (Calls.release_bin_chunks c h ws gs fs) = low_same _
  low-direct (Calls.commit h m) = search (low-cond, low_same, low-commit)
  low-direct (Calls.grow_frontier h q old new) = search (low-cond, low_same, low-grow)
  low-direct (Calls.release h q m) = search (low-cond, low_same, low-release)
  low-direct (Calls.contains o m) = low_same _
  low-direct Calls.report = low_same _

  low-offer : (h : ℕ) {sh : Shape} {q : Ask} → AsksRun sh q → Untouched (offer size h H.arena q).arena
  unfolding offer
  low-offer h is-done = low
  low-offer h {sh} is-asked = record { low = λ e. absurd (asked-not h H.arena.status (sym (commit-status size h sh.pages H.arena) ∙ e)) }

  low-class : (c : ℕ) (r : Request) → Low (class_call size H c r)
  unfolding class_call interact finish
  low-class c r =
      let q = answer (shape_of c) (H.rules c) (H.classes c) r in
      let g = offer size (host_of r) H.arena q in
      let vs = (serve q g.run).gives in
      let k = low-offer (host_of r) (answer-asks (shape_of c) (H.rules c) (H.classes c) r) in
      record { low = record { low = λ e. give_all-frontier (shape_of c).pages vs g.arena ∙ k.low (sym (give_all-status (shape_of c).pages vs g.arena) ∙ e) } }

  low-route : (x : Call) (w : Way) → Low (route size H x w)
  low-route x Calls.turned = low_same _
  low-route x Calls.straight = low-direct x
  low-route x (Calls.to_class d) = low-class d.class d.request

  low_step : (x : Call) → Untouched (step size H x).heap.arena
  unfolding step
  low_step x = (low-route x (way_of x)).low

-- ---- every history
reserved-from : (size n : ℕ) (H : Heap) (es : List Entry) (f : ℕ → Bool) (l : ℕ → ℕ) → Inv size n H es f l → Untouched H.arena → (xs : List Call)
    → (heap_from size H xs).arena.status ≡ reserved_from H.arena.status (events_from size H xs)
reserved-from size n H es f l inv low [] = refl
reserved-from size n H es f l inv low (x ∷ xs) =
    reserved-from size (suc n) (step size H x).heap _ _ _ (step-inv size n H es f l inv x) (low_step size H low x) xs
    ∙ ap (λ s. reserved_from s (events_from size (step size H x).heap xs)) (step-tells size n H es f l inv low x)

is-ready : (s : Status) → is_ready s ≡ true → s ≡ ready
is-ready unasked e = absurd (false≢true e)
is-ready ready e = refl
is-ready disabled e = absurd (false≢true e)

pub contained-exactly : (size o b : ℕ) (a : Arena) → (Arenas.contains size o b a ≡ true) ↔ Contained size a.status o b
unfolding Arenas.contains
contained-exactly size o b a = (
  λ e. let y = and_right (is_ready a.status) _ e in
      record {
        granted = is-ready a.status (and_left _ _ e);
        no_overflow = ltb-true (o + b) (2 ^ 64) (and_left _ _ y);
        inside = leb-true (o + b) (size * page_bytes) (and_right (ltb (o + b) (2 ^ 64)) _ y);
      },
  λ k. rw (k.granted, lt-ltb (o + b) (2 ^ 64) k.no_overflow, le-leb (o + b) (size * page_bytes) k.inside),
)

contains-exactly : (size o b : ℕ) (H : Heap) → ((step size H (Calls.contains o b)).answer ≡ contained true) ↔ Contained size H.arena.status o b
unfolding step way_of direct_call
contains-exactly size o b H =
    let k = contained-exactly size o b H.arena in
    (λ e. k.0 cc, λ c. ap contained (k.1 c))

pub reserved : (size : ℕ) (rules : Rules) (xs : List Call) → Reserved size rules xs
unfolding new_heap
reserved size rules xs =
    let e = reserved-from size 0 (new_heap rules) [] (λ x. false) (λ x. 0) (start size rules) (record { low = λ z. refl }) xs in
    record { status = e; contains = λ o b. subst (λ s. ((step size (heap_after size rules xs) (Calls.contains o b)).answer ≡ contained true) ↔ Contained size s o b) e (contains-exactly size o b (heap_after size rules xs)) }
