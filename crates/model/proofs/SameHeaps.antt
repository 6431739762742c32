-- Heaps that differ in the order of their holes and in the three counts alone answer every call alike, a report's counts aside, along every
-- history.
use Rattle.facts.proofs.Prelude.{ℕ, suc, ◌+◌, ◌-◌, ◌≤◌, arith, Bool, true, false, cond, List, [], ◌∷◌, map, Option, ◌≡◌, refl, ap, ap₂, subst}
use Rattle.classes.specs.declared.Shape.{Shape}
use Rattle.classes.specs.Shape.{shape_of}
use Rattle.classes.proofs.Shapes.{shape-sound}
use Rattle.rules.specs.Rules.{Rules}
use Rattle.model.specs.Cover.{covers, covers_run, covers_all}
use Rattle.model.specs.Calls as Calls
use Rattle.model.specs.Calls.{Call, Answer, Request, Way, host_of}
use Rattle.model.specs.Arena as Arenas
use Rattle.model.specs.Arena.{Arena, given, give_all}
use Rattle.model.specs.Class.{Result, Ask, serve}
use Rattle.model.specs.Chunks.{answer}
use Rattle.model.specs.Heap.{Heap, Outcome, offer, finish, interact, class_call, asked, held_direct, bad_run, bad_growth, pass_to, answer_run, commit_call, grow_call, release_call, figures, unchanged, direct_call, route, step, direct}
use Rattle.model.specs.History.{events_from, heap_from, heap_after}
use Rattle.model.specs.Entries.{Entry}
use Rattle.model.specs.Ledger.{class_abandons}
use Rattle.model.specs.Demands.{Orderless}
use Rattle.model.specs.Order.{SameArena, SameHeap, SameGiven, SameOutcome, without_counts, counts_aside}
use Rattle.model.proofs.ArenaLaws.{idle, give_all-law}
use Rattle.model.proofs.Tidy.{Tidy}
use Rattle.model.proofs.Order.{Sound, give-same, give_all-same, commit-same, grow-same}
use Rattle.model.proofs.Ways.{Goes, is_turned, is-straight, is-class, goes}
use Rattle.model.proofs.HeapLaws.{Inv, route-inv, step-inv, kept}
use Rattle.model.proofs.HistoryArena.{AsksRun, is-done, is-asked, answer-asks, good-run, longer, once-inv, tidy-offer, tidy-step, tidy-after}

same_cond : (t : Bool) (o p o' p' : Outcome) → (t ≡ true → SameOutcome o o') → (t ≡ false → SameOutcome p p') → SameOutcome (cond t o p) (cond t o' p')
same_cond true o p o' p' f g = f refl
same_cond false o p o' p' f g = g refl

-- the heap with another arena
abbrev with : Arena → Heap → Heap
with b H = record { arena = b; holder = H.holder; classes = H.classes; rules = H.rules }

module _ (size : ℕ) (H : Heap) (b : Arena) (s : SameArena H.arena b) (k : Sound H.arena) where
  abbrev K : Heap
  K = with b H

  same-unchanged : (x y : Answer) → counts_aside x ≡ counts_aside y → SameOutcome (unchanged H x) (unchanged K y)
  same-unchanged x y e = record { heap = record { arena = s; holder = refl; classes = refl; rules = refl }; answer = e; run = refl }

  same : (x : Answer) → SameOutcome (unchanged H x) (unchanged K x)
  same x = same-unchanged x x refl

  -- a class's call
  offer-same : (h : ℕ) (sh : Shape) → 1 ≤ sh.pages → (q : Ask) → AsksRun sh q → SameGiven (offer size h H.arena q) (offer size h b q)
  unfolding offer
  offer-same h sh one q is-done = record { run = refl; fresh = refl; arena = s }
  offer-same h sh one q is-asked = commit-same size h sh.pages one H.arena b s k

  finish-same : (c : ℕ) (sh : Shape) (m : ℕ) (a a' : Arena) (o : Option ℕ) (f f' : Bool) (r : Result) → SameArena (give_all sh.pages r.gives a) (give_all sh.pages r.gives a')
      → SameOutcome (finish H c sh m (given a o f) r) (finish K c sh m (given a' o f') r)
  unfolding finish
  finish-same c sh m a a' o f f' r w = record { heap = record { arena = w; holder = refl; classes = refl; rules = refl }; answer = refl; run = refl }

  class_same : (c : ℕ) (r : Request)
      → Tidy (offer size (host_of r) H.arena (answer (shape_of c) (H.rules c) (H.classes c) r)).arena.store
      → ((x : ℕ) → idle x (offer size (host_of r) H.arena (answer (shape_of c) (H.rules c) (H.classes c) r)).arena
      + covers_all (shape_of c).pages (serve (answer (shape_of c) (H.rules c) (H.classes c) r) (offer size (host_of r) H.arena (answer (shape_of c) (H.rules c) (H.classes c) r)).run).gives x ≤ 1)
      → SameOutcome (class_call size H c r) (class_call size K c r)
  unfolding class_call interact
  class_same c r t u =
      let sh = shape_of c in
      let one = (shape-sound c).paged in
      let q = answer sh (H.rules c) (H.classes c) r in
      let g = offer size (host_of r) H.arena q in
      let d = offer size (host_of r) b q in
      let w = offer-same (host_of r) sh one q (answer-asks sh (H.rules c) (H.classes c) r) in
      subst (λ o. SameOutcome (finish H c sh (asked q) g (serve q g.run)) (finish K c sh (asked q) (given d.arena o d.fresh) (serve q o))) w.run
      (finish-same c sh (asked q) g.arena d.arena g.run g.fresh d.fresh (serve q g.run) (give_all-same sh.pages one (serve q g.run).gives g.arena d.arena w.arena t u))

  -- the direct calls
  commit-call : (h n : ℕ) → bad_run n ≡ false → SameOutcome (commit_call size H h n) (commit_call size K h n)
  unfolding commit_call
  commit-call h n e =
      let w = commit-same size h n (good-run n e) H.arena b s k in
      record { heap = record { arena = w.arena; holder = ap (λ o. pass_to direct (covers_run n o) H.holder) w.run; classes = refl; rules = refl }; answer = ap₂ (λ o f. counts_aside (answer_run o f)) w.run w.fresh; run = refl }

  grow-call : (h q old new : ℕ) → bad_growth old new ≡ false → SameOutcome (grow_call size H h q old new) (grow_call size K h q old new)
  unfolding grow_call
  grow-call h q old new e =
      let w = grow-same size h (q + old) (new - old) (longer old new e) H.arena b s k in
      record { heap = record { arena = w.arena; holder = ap (λ t. pass_to direct (λ x. cond t (covers (new - old) (q + old) x) 0) H.holder) w.grew; classes = refl; rules = refl }; answer = ap Calls.grown w.grew; run = refl }

  release-call : (q n : ℕ) → bad_run n ≡ false → SameOutcome (release_call H q n) (release_call K q n)
  unfolding release_call
  release-call q n e = record { heap = record { arena = give-same n q (good-run n e) H.arena b s k; holder = refl; classes = refl; rules = refl }; answer = refl; run = refl }

  figures-same : without_counts (figures size H) ≡ without_counts (figures size K)
  figures-same = let t = s.total in let f = s.frontier in cc

  contains-same : (o m : ℕ) → Arenas.contains size o m H.arena ≡ Arenas.contains size o m b
  unfolding Arenas.contains
  contains-same o m = rw s.status

  direct-same : (x : Call) → SameOutcome (direct_call size H x) (direct_call size K x)
  unfolding direct_call held_direct
  direct-same (Calls.take_blocks c h l) = same _
  direct-same (Calls.medium_take_blocks c h l) = same _
  direct-same (Calls.release_blocks c h ws) = same _
  direct-same (Calls.medium_release_blocks c h ws) = same _
  direct-same (Calls.pooled_take c h l) = same _
  direct-same (Calls.pooled_release c h ws) = same _
  direct-same (Calls.release_bin_chunks c h ws gs fs) = same _
  direct-same (Calls.commit h n) = search (same_cond, same, commit-call) depth 9
  direct-same (Calls.grow_frontier h q old new) = search (same_cond, same, grow-call) depth 9
  direct-same (Calls.release h q n) = search (same_cond, same, release-call) depth 9
  direct-same (Calls.contains o m) = same-unchanged _ _ (ap Calls.contained (contains-same o m))
  direct-same Calls.report = same-unchanged _ _ (ap Calls.reported figures-same)

-- a call, on a heap with the invariant
module _ (size n : ℕ) (H : Heap) (es : List Entry) (f : ℕ → Bool) (l : ℕ → ℕ) (inv : Inv size n H es f l) (t : Tidy H.arena.store) where
  sound : Sound H.arena
  sound = record { tidy = t; once = λ x. omega (arith, inv.one x) }

  module _ (b : Arena) (s : SameArena H.arena b) where
    route-same : (x : Call) {w : Way} → Goes x w → SameOutcome (route size H x w) (route size (with b H) x w)
    unfolding class_call interact finish class_abandons
    route-same x (is_turned e) = same size H b s sound _
    route-same x (is-straight e d) = direct-same size H b s sound x
    route-same x (is-class d e i) =
        let c = d.class in
        let sh = shape_of c in
        let q = answer sh (H.rules c) (H.classes c) d.request in
        let h = host_of d.request in
        let g = offer size h H.arena q in
        let after = route-inv size n H es f l inv x (is-class d e i) in
        class_same size H b s sound c d.request
        (tidy-offer size H (once-inv inv) t h sh (shape-sound c).paged q (answer-asks sh (H.rules c) (H.classes c) d.request))
        (λ y. omega (arith, after.one y, give_all-law sh.pages y (serve q g.run).gives g.arena))

    step-with : (x : Call) → SameOutcome (step size H x) (step size (with b H) x)
    unfolding step
    step-with x = route-same x (goes x)

  step_same : (K : Heap) → SameHeap H K → (x : Call) → SameOutcome (step size H x) (step size K x)
  step_same K k x =
      subst (λ w. SameOutcome (step size H x) (step size (record { arena = K.arena; holder = w; classes = K.classes; rules = K.rules }) x)) k.holder
      (subst (λ c. SameOutcome (step size H x) (step size (record { arena = K.arena; holder = H.holder; classes = c; rules = K.rules }) x)) k.classes
      (subst (λ r. SameOutcome (step size H x) (step size (record { arena = K.arena; holder = H.holder; classes = H.classes; rules = r }) x)) k.rules
      (step-with K.arena k.arena x)))

-- along a history
module _ (size : ℕ) where
  record SameFrom (H K : Heap) (zs : List Call) : Type 0 where
    alike : map (λ v. counts_aside v.answer) (events_from size H zs) ≡ map (λ v. counts_aside v.answer) (events_from size K zs)
    runs : map (λ v. v.run) (events_from size H zs) ≡ map (λ v. v.run) (events_from size K zs)
    stays : SameHeap (heap_from size H zs) (heap_from size K zs)

  from-same : (n : ℕ) (H : Heap) (es : List Entry) (f : ℕ → Bool) (l : ℕ → ℕ) → Inv size n H es f l → Tidy H.arena.store → (K : Heap) → SameHeap H K → (zs : List Call) → SameFrom H K zs
  from-same n H es f l inv t K k [] = record { alike = refl; runs = refl; stays = k }
  from-same n H es f l inv t K k (z ∷ zs) =
      let w = step_same size n H es f l inv t K k z in
      let ih = from-same (suc n) (step size H z).heap _ _ _ (step-inv size n H es f l inv z) (tidy-step size H (once-inv inv) t z) (step size K z).heap w.heap zs in
      record { alike = ap₂ ◌∷◌ w.answer ih.alike; runs = ap₂ ◌∷◌ w.run ih.runs; stays = ih.stays }

  pub orderless : (rules : Rules) (xs ys : List Call) → Orderless size rules xs ys
  orderless rules xs ys =
      let same : SameHeap (heap_after size rules xs) (heap_after size rules ys) → (zs : List Call) → SameFrom (heap_after size rules xs) (heap_after size rules ys) zs
      = λ k zs. from-same _ (heap_after size rules xs) _ _ _ (kept size rules xs).inv (tidy-after size rules xs) (heap_after size rules ys) k zs in
      record { alike = λ k zs. (same k zs).alike; runs = λ k zs. (same k zs).runs; stays = λ k zs. (same k zs).stays }
