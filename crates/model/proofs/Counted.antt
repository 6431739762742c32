-- The counts of the arena's record are those of the history.
--     counted-by    the statement
use Rattle.facts.proofs.Prelude.{ℕ, suc, ◌+◌, ◌-◌, ◌*◌, ◌/◌, ◌%◌, ◌^◌, ◌≤◌, arith, div-eq_of_eq-mul_left, zero-div, zero-mul, Bool, true}
use Rattle.facts.proofs.Prelude.{false, cond, not, true≢false, false≢true, List, [], ◌∷◌, Option, none, some, ◌≡◌, refl, sym, ap, ◌∙◌, subst}
use Rattle.facts.proofs.Prelude.{eqb, leb, leb-true, leb-false, not-false, total, below, is_some, every, by_cases, and_left, and_right}
use Rattle.words.specs.Host.{bad_host, reservation_granted, commit_granted}
use Rattle.classes.specs.declared.Shape.{Shape}
use Rattle.classes.specs.Shape.{shape_of}
use Rattle.classes.proofs.Shapes.{shape-sound}
use Rattle.rules.specs.Rules.{Rules}
use Rattle.model.specs.Cover.{covers, covers_all, covers_run}
use Rattle.model.specs.Calls as Calls
use Rattle.model.specs.Calls.{Call, Named, names, Way, host_of, is_refused, way_of}
use Rattle.model.specs.HoleStore.{accepts, choose, hole_at}
use Rattle.model.specs.Arena as Arenas
use Rattle.model.specs.Arena.{Arena, Status, unasked, ready, disabled, with_status, with_frontier, more, counted, give, give_all, Given, draw_from, draw, grant, commit_ready, commit_as, can_grow, grow}
use Rattle.model.specs.Class.{Ask, serve}
use Rattle.model.specs.Chunks.{answer}
use Rattle.model.specs.Heap.{Heap, Outcome, new_heap, is_held, held_direct, is_direct, run_with, asked, offer, finish, interact, class_call, bad_run, bad_growth, answer_run, commit_call, grow_call, release_call, unchanged, direct_call, route, step, figures}
use Rattle.model.specs.History.{event_of, events_from, heap_after, heap_from}
use Rattle.model.specs.Entries.{Entry, run_of, is_grown}
use Rattle.model.specs.Ledger.{in_holes, above, abandons, all_abandon, grant_abandons, ready_abandons, commit_abandons, grow_abandons, offer_abandons, class_abandons, direct_abandons, call_abandons}
use Rattle.model.specs.Held.{run_pages, wanted_pages, given_pages}
use Rattle.model.specs.Counted.{first_page, commits_at, holes_at, reuses_at, reuses_from, somewhere, run_length, abandoned_at, abandoned_runs, Counted}
use Rattle.model.proofs.Runs.{covers_in, above_at}
use Rattle.model.proofs.Sums.{zeros, total_plus, total-same, covers-total}
use Rattle.model.proofs.RunSums.{run-sum, given-sum}
use Rattle.model.proofs.StoreLaws.{Chosen, at-hole, no-hole, chosen, take-law}
use Rattle.model.proofs.ArenaLaws.{idle, drawn, commit-law, give_all-law, give_all-frontier}
use Rattle.model.proofs.Ways.{Goes, is_turned, is-straight, is-class, goes}
use Rattle.model.proofs.HeapLaws.{Inv, run-answered, step-inv, route-inv, start, kept}
use Rattle.model.proofs.HistoryArena.{AsksRun, is-done, is-asked, answer-asks, good-run, longer}

-- ---- counts modulo 2 to the 64th: what stood for A stands for A + n
abbrev Adds : ℕ → ℕ → ℕ → Type 0
Adds x y n = (A : ℕ) → x ≡ A % 2 ^ 64 → y ≡ (A + n) % 2 ^ 64

adds_none : (x : ℕ) → Adds x x 0
adds_none x A e = omega (arith, e)

adds_one : (x : ℕ) → Adds x (more x) 1
adds_one x A e = omega (arith, e)

adds-both : (x y z m n : ℕ) → Adds x y m → Adds y z n → Adds x z (m + n)
adds-both x y z m n f g A e = let k = g (A + m) (f A e) in omega (arith, k)

adds_if : (b : Bool) (x : ℕ) → Adds x (cond b x (more x)) (cond b 0 1)
adds_if true x = adds_none x
adds_if false x = adds_one x

module _ (size : ℕ) where
  -- from the arena a to b, by acts that give runs of n pages: c commits, r reuses, and as many runs abandoned as pages were
  record Counts (n : ℕ) (a b : Arena) (lost : ℕ → ℕ) (c r : ℕ) : Type 0 where
    many : ℕ
    commits : Adds a.commits b.commits c
    reuses : Adds a.reuses b.reuses r
    abandoned : Adds a.abandoned b.abandoned many
    pages : total lost (below size) ≡ many * n
    paged : 1 ≤ many → 1 ≤ n

  none-lost : (n : ℕ) (a b : Arena) (lost : ℕ → ℕ) (c r : ℕ) → Adds a.commits b.commits c → Adds a.reuses b.reuses r → a.abandoned ≡ b.abandoned → ((x : ℕ) → lost x ≡ 0) → Counts n a b lost c r
  none-lost n a b lost c r f g e z = record {
    many = 0;
    commits = f;
    reuses = g;
    abandoned = λ A d. omega (arith, d, e);
    pages = omega (arith, total-same lost (λ x. 0) (below size) z, zeros (below size));
    paged = λ e. absurd (omega arith);
  }

  other-lost : (n : ℕ) (a b : Arena) (l k : ℕ → ℕ) (c r : ℕ) → ((x : ℕ) → k x ≡ l x) → Counts n a b l c r → Counts n a b k c r
  other-lost n a b l k c r e f = record { many = f.many; commits = f.commits; reuses = f.reuses; abandoned = f.abandoned; pages = total-same k l (below size) e ∙ f.pages; paged = f.paged }

  same-counts : (n : ℕ) (a : Arena) (lost : ℕ → ℕ) → ((x : ℕ) → lost x ≡ 0) → Counts n a a lost 0 0
  same-counts n a lost z = none-lost n a a lost 0 0 (adds_none _) (adds_none _) refl z

  restated : (n m : ℕ) (a b : Arena) (l k : ℕ → ℕ) (c c' r r' : ℕ) → Counts n a b l c r → n ≡ m → ((x : ℕ) → k x ≡ l x) → c ≡ c' → r ≡ r' → Counts m a b k c' r'
  restated n m a b l k c c' r r' f e d u v = record {
    many = f.many;
    commits = λ A z. f.commits A z ∙ ap (λ t. (A + t) % 2 ^ 64) u;
    reuses = λ A z. f.reuses A z ∙ ap (λ t. (A + t) % 2 ^ 64) v;
    abandoned = f.abandoned;
    pages = total-same k l (below size) d ∙ f.pages ∙ ap (λ t. f.many * t) e;
    paged = λ z. omega (arith, f.paged z, e);
  }

  both-counts : (n : ℕ) (a b d : Arena) (l k : ℕ → ℕ) (c r c' r' : ℕ) → Counts n a b l c r → Counts n b d k c' r' → Counts n a d (λ x. l x + k x) (c + c') (r + r')
  both-counts n a b d l k c r c' r' f g = record {
    many = f.many + g.many;
    commits = adds-both _ _ _ c c' f.commits g.commits;
    reuses = adds-both _ _ _ r r' f.reuses g.reuses;
    abandoned = adds-both _ _ _ f.many g.many f.abandoned g.abandoned;
    pages = omega (arith, total_plus l k (below size), f.pages, g.pages);
    paged = λ e. by_cases (leb 1 f.many) (λ t. f.paged (leb-true 1 f.many t)) (λ t. g.paged (omega (arith, leb-false 1 f.many t)));
  }

  give-counts : (n q : ℕ) → 1 ≤ n → (a : Arena) → total (covers n q) (below size) ≡ n → Counts n a (give n q a) (abandons n q a) 0 0
  unfolding give
  give-counts n q some-pages a e =
      by_cases (accepts n q a.store)
      (λ t. rw t (none-lost n a _ (abandons n q a) 0 0 (adds_none _) (adds_none _) refl (λ x. rw t)))
      (λ t. rw t (record { many = 1; commits = adds_none _; reuses = adds_none _; abandoned = adds_one _; pages = omega (arith, total-same (abandons n q a) (covers n q) (below size) (λ x. rw t), e); paged = λ d. some-pages }))

  give_all-counts : (n f : ℕ) → 1 ≤ n → f ≤ size → (qs : List ℕ) (a : Arena) → ((x : ℕ) → covers_all n qs x + above f x ≤ 1) → Counts n a (give_all n qs a) (all_abandon n qs a) 0 0
  give_all-counts n f some-pages low [] a k = same-counts n a _ (λ x. refl)
  give_all-counts n f some-pages low (q ∷ qs) a k =
      both-counts n a (give n q a) (give_all n qs (give n q a)) (abandons n q a) (all_abandon n qs (give n q a)) 0 0 0 0
      (give-counts n q some-pages a (run-sum size f low n q (λ x. omega (arith, k x))))
      (give_all-counts n f some-pages low qs (give n q a) (λ x. omega (arith, k x)))

  -- a run drawn: nothing is counted yet
  record Uncounted (a b : Arena) : Type 0 where
    commits : a.commits ≡ b.commits
    reuses : a.reuses ≡ b.reuses
    abandoned : a.abandoned ≡ b.abandoned

  draw-uncounted : (n : ℕ) (a : Arena) (o : Option ℕ) → Uncounted a (draw_from size n a o).arena
  unfolding draw_from
  draw-uncounted n a (some i) = record { commits = refl; reuses = refl; abandoned = refl }
  draw-uncounted n a none =
      by_cases (leb (a.frontier + n) size)
      (λ e. rw e (record { commits = refl; reuses = refl; abandoned = refl }))
      (λ e. rw e (record { commits = refl; reuses = refl; abandoned = refl }))

  from-uncounted : (n : ℕ) (a b d : Arena) (l : ℕ → ℕ) (c r : ℕ) → Uncounted a b → Counts n b d l c r → Counts n a d l c r
  from-uncounted n a b d l c r u k = record {
    many = k.many;
    commits = λ A e. k.commits A (sym u.commits ∙ e);
    reuses = λ A e. k.reuses A (sym u.reuses ∙ e);
    abandoned = λ A e. k.abandoned A (sym u.abandoned ∙ e);
    pages = k.pages;
    paged = k.paged;
  }

  -- a commit: one where it answers a run, and a reuse where that is not fresh
  abbrev one : Option ℕ → ℕ
  one o = cond (is_some o) 1 0

  abbrev old : Option ℕ → Bool → ℕ
  old o f = cond (is_some o) (cond f 0 1) 0

  module _ (h n : ℕ) (some-pages : 1 ≤ n) where
    grant-counts : (a : Arena) (o : Option ℕ) (f : Bool) → total (covers_run n o) (below size) ≡ run_pages (run_with n o)
        → Counts n a (grant h n a o f).arena (grant_abandons h n a o) (one (grant h n a o f).run) (old (grant h n a o f).run (grant h n a o f).fresh)
    unfolding grant
    grant-counts a none f e = same-counts n a _ (λ x. refl)
    grant-counts a (some q) f e =
        by_cases (commit_granted h)
        (λ t. rw t (none-lost n a (counted f a) _ 1 (cond f 0 1) (adds_one _) (adds_if f _) refl (λ x. rw t)))
        (λ t. rw t (other-lost n a (give n q a) (abandons n q a) _ 0 0 (λ x. rw t) (give-counts n q some-pages a e)))

    module _ (a : Arena) (once : (x : ℕ) → idle x a ≤ 1) (low : a.frontier ≤ size) where
      ready-counts : Counts n a (commit_ready size h n a).arena (ready_abandons size h n a) (one (commit_ready size h n a).run) (old (commit_ready size h n a).run (commit_ready size h n a).fresh)
      unfolding commit_ready ready_abandons draw
      ready-counts =
          let d = draw size n a in
          let k = drawn size n a in
          from-uncounted n a d.arena _ _ _ _ (draw-uncounted n a (choose n a.store.holes))
          (grant-counts d.arena d.run d.fresh (given-sum size d.arena.frontier (k.bound low) n d.run (λ x. omega (arith, k.pages x, once x))))

    commit-counts : (a : Arena) → ((x : ℕ) → idle x a ≤ 1) → a.frontier ≤ size
        → Counts n a (Arenas.commit size h n a).arena (commit_abandons size h n a a.status) (one (Arenas.commit size h n a).run) (old (Arenas.commit size h n a).run (Arenas.commit size h n a).fresh)
    unfolding Arenas.commit commit_as
    commit-counts a once low = on a.status
      where
        on : (s : Status) → Counts n a (commit_as size h n a s).arena (commit_abandons size h n a s) (one (commit_as size h n a s).run) (old (commit_as size h n a s).run (commit_as size h n a s).fresh)
        on unasked =
            by_cases (reservation_granted h)
            (λ t. rw t (other-lost n a _ (ready_abandons size h n (with_status ready a)) _ _ _ (λ x. rw t)
            (from-uncounted n a (with_status ready a) _ _ _ _ (record { commits = refl; reuses = refl; abandoned = refl }) (ready-counts (with_status ready a) once low))))
            (λ t. rw t (none-lost n a _ _ 0 0 (adds_none _) (adds_none _) refl (λ x. rw t)))
        on ready = ready-counts a once low
        on disabled = same-counts n a _ (λ x. refl)

    -- a run that is not fresh stood in a hole, and a fresh one did not
    module _ (a : Arena) (once : (x : ℕ) → idle x a ≤ 1) where
      draw-old : {o : Option ℕ} → Chosen n a.store.holes o → old (draw_from size n a o).run (draw_from size n a o).fresh ≡ holes_at (draw_from size n a o).run a
      unfolding draw_from
      draw-old (at-hole i k w) =
          let q = (hole_at i a.store.holes).first in
          omega (arith, take-law n i q a.store k.inside k.enough, covers_in n q q (omega arith) (omega arith), once q)
      draw-old (no-hole k) =
          by_cases (leb (a.frontier + n) size)
          (λ e. rw e (omega (arith, once a.frontier, above_at a.frontier a.frontier (omega arith))))
          (λ e. rw e refl)

      grant-old : (b : Arena) (o : Option ℕ) (f : Bool) → old o f ≡ holes_at o a → old (grant h n b o f).run (grant h n b o f).fresh ≡ holes_at (grant h n b o f).run a
      unfolding grant
      grant-old b none f e = refl
      grant-old b (some q) f e = by_cases (commit_granted h) (λ t. rw t e) (λ t. rw t refl)

      ready-old : old (commit_ready size h n a).run (commit_ready size h n a).fresh ≡ holes_at (commit_ready size h n a).run a
      unfolding commit_ready draw
      ready-old = let d = draw size n a in grant-old d.arena d.run d.fresh (draw-old (chosen n a.store.holes))

    commit-old : (a : Arena) → ((x : ℕ) → idle x a ≤ 1) → old (Arenas.commit size h n a).run (Arenas.commit size h n a).fresh ≡ holes_at (Arenas.commit size h n a).run a
    unfolding Arenas.commit commit_as
    commit-old a once = on a.status
      where
        same-holes : (o : Option ℕ) → holes_at o (with_status ready a) ≡ holes_at o a
        same-holes none = refl
        same-holes (some q) = refl

        on : (s : Status) → old (commit_as size h n a s).run (commit_as size h n a s).fresh ≡ holes_at (commit_as size h n a s).run a
        on unasked = by_cases (reservation_granted h) (λ t. rw t (ready-old (with_status ready a) once ∙ same-holes (commit_ready size h n (with_status ready a)).run)) (λ t. rw t refl)
        on ready = ready-old a once
        on disabled = refl

  grow-counts : (h e n : ℕ) → 1 ≤ n → (a : Arena) → ((x : ℕ) → idle x a ≤ 1) → Counts n a (grow size h e n a).arena (grow_abandons size h e n a) (cond (grow size h e n a).grew 1 0) 0
  unfolding grow
  grow-counts h e n some-pages a once =
      by_cases (can_grow size e n a)
      (λ d. let fits = leb-true (e + n) size (and_right (eqb a.frontier e) _ d) in
      by_cases (commit_granted h)
      (λ t. rw (d, t) (none-lost n a _ _ 1 0 (adds_one _) (adds_none _) refl (λ x. rw (d, t))))
      (λ t. rw (d, t) (other-lost n a _ (abandons n e (with_frontier (e + n) a)) _ 0 0 (λ x. rw (d, t))
      (from-uncounted n a (with_frontier (e + n) a) _ _ _ _ (record { commits = refl; reuses = refl; abandoned = refl }) (give-counts n e some-pages (with_frontier (e + n) a) (covers-total n e size fits))))))
      (λ d. rw d (same-counts n a _ (λ x. rw d)))

-- ---- one call
abbrev Observed : ℕ → ℕ → Heap → Call → Outcome → (ℕ → ℕ) → Type 0
Observed size n H x o lost = Counts size n H.arena o.heap.arena lost (commits_at (event_of x o)) (reuses_at H (event_of x o))

one_of : (n : ℕ) (o : Option ℕ) → cond (is_some (first_page (run_with n o))) 1 0 ≡ cond {A = ℕ} (is_some o) 1 0
one_of n none = refl
one_of n (some q) = refl

holes_of_lem : (n : ℕ) (o : Option ℕ) (a : Arena) → holes_at (first_page (run_with n o)) a ≡ holes_at o a
holes_of_lem n none a = refl
holes_of_lem n (some q) a = refl

run-one : (o : Option ℕ) (t : Bool) → cond (is_some (run_of (answer_run o t))) 1 0 + cond (is_grown (answer_run o t)) 1 0 ≡ cond {A = ℕ} (is_some o) 1 0
run-one none t = refl
run-one (some q) t = refl

run-holes : (o : Option ℕ) (t : Bool) (a : Arena) → holes_at (run_of (answer_run o t)) a ≡ holes_at o a
run-holes none t a = refl
run-holes (some q) t a = refl

module _ (size n : ℕ) (H : Heap) (es : List Entry) (f : ℕ → Bool) (l : ℕ → ℕ) (inv : Inv size n H es f l) where
  once : (x : ℕ) → idle x H.arena ≤ 1
  once x = omega (arith, inv.one x)

  -- a class's call
  record Offers (m : ℕ) (g : Given) (lost : ℕ → ℕ) : Type 0 where
    counts : Counts size m H.arena g.arena lost (cond (is_some g.run) 1 0) (holes_at g.run H.arena)
    bound : g.arena.frontier ≤ size

  offers : (h : ℕ) {sh : Shape} → 1 ≤ sh.pages → {q : Ask} → AsksRun sh q → Offers sh.pages (offer size h H.arena q) (offer_abandons size h H.arena q)
  unfolding offer
  offers h {sh} some-pages is-done = record { counts = same-counts size sh.pages H.arena _ (λ x. refl); bound = inv.bound }
  offers h {sh} some-pages is-asked = record {
    counts = restated size sh.pages _ H.arena _ _ _ _ _ _ _ (commit-counts size h sh.pages some-pages H.arena once inv.bound) refl (λ x. refl) refl (commit-old size h sh.pages some-pages H.arena once);
    bound = (commit-law size h sh.pages H.arena).bound inv.bound;
  }

  -- after a call that abandoned so much, each page is in one place
  abbrev Placed : (ℕ → ℕ) → Outcome → Type 0
  Placed a o = (y : ℕ) → is_held (o.heap.holder y) + in_holes y o.heap.arena + above o.heap.arena.frontier y + (l y + a y) ≡ 1

  class-observed : (x : Call) (d : Named) → names x ≡ some d → Placed (call_abandons size H x (Calls.to_class d)) (route size H x (Calls.to_class d))
      → Observed size (shape_of d.class).pages H x (route size H x (Calls.to_class d)) (call_abandons size H x (Calls.to_class d))
  unfolding class_call interact finish class_abandons
  class-observed x d e one_place =
      let c = d.class in
      let r = d.request in
      let m = (shape_of c).pages in
      let q = answer (shape_of c) (H.rules c) (H.classes c) r in
      let g = offer size (host_of r) H.arena q in
      let vs = (serve q g.run).gives in
      let s = offers (host_of r) (shape-sound c).paged (answer-asks (shape_of c) (H.rules c) (H.classes c) r) in
      let top = give_all-frontier m vs g.arena in
      let k = both-counts size m H.arena g.arena (give_all m vs g.arena) _ _ _ _ 0 0 s.counts
      (give_all-counts size m g.arena.frontier (shape-sound c).paged s.bound vs g.arena (λ y. omega (arith, one_place y, give_all-law m y vs g.arena, top))) in
      rw e (restated size m m H.arena _ _ _ _ _ _ _ k refl (λ y. refl) (omega (arith, one_of (asked q) g.run)) (omega (arith, holes_of_lem (asked q) g.run H.arena)))

  -- the direct calls
  record Sums (x : Call) (o : Outcome) : Type 0 where
    observed : Counts size (wanted_pages x + given_pages x) H.arena o.heap.arena (λ y. cond (is_refused o.answer) 0 (direct_abandons size H x y))
        (cond (is_some (run_of o.answer)) 1 0 + cond (is_grown o.answer) 1 0) (holes_at (run_of o.answer) H.arena)

  sums-cond : (x : Call) (b : Bool) (o p : Outcome) → (b ≡ true → Sums x o) → (b ≡ false → Sums x p) → Sums x (cond b o p)
  sums-cond x true o p h k = h refl
  sums-cond x false o p h k = k refl

  direct-refused : (x : Call) (k : ℕ) → Sums x (unchanged H (Calls.refused k))
  direct-refused x k = record { observed = same-counts size _ H.arena _ (λ y. refl) }

  direct-commit : (h m : ℕ) → bad_run m ≡ false → Sums (Calls.commit h m) (commit_call size H h m)
  unfolding commit_call
  direct-commit h m b =
      let g = Arenas.commit size h m H.arena in
      let some-pages = good-run m b in
      record {
        observed = restated size m _ H.arena g.arena _ _ _ _ _ _ (commit-counts size h m some-pages H.arena once inv.bound) (omega arith) (λ y. rw (run-answered g.run g.fresh))
            (sym (run-one g.run g.fresh)) (commit-old size h m some-pages H.arena once ∙ sym (run-holes g.run g.fresh H.arena));
      }

  direct-grow : (h q old new : ℕ) → bad_growth old new ≡ false → Sums (Calls.grow_frontier h q old new) (grow_call size H h q old new)
  unfolding grow_call
  direct-grow h q old new b = record {
    observed = restated size (new - old) _ H.arena _ _ _ _ _ _ _ (grow-counts size h (q + old) (new - old) (longer old new b) H.arena once) (omega arith) (λ y. refl) (omega arith) refl;
  }

  direct-release : (h q m : ℕ) → bad_run m ≡ false → not (held_direct size H q m) ≡ false → Sums (Calls.release h q m) (release_call H q m)
  unfolding release_call held_direct
  direct-release h q m b e =
      let fits = leb-true (q + m) size (and_left (leb (q + m) size) (every (λ k. is_direct (H.holder (q + k))) (below m)) (not-false (held_direct size H q m) e)) in
      record { observed = restated size m _ H.arena _ _ _ _ _ _ _ (give-counts size m q (good-run m b) H.arena (covers-total m q size fits)) (omega arith) (λ y. refl) refl refl }

  direct-observed : (x : Call) → Sums x (direct_call size H x)
  unfolding direct_call
  direct-observed (Calls.take_blocks c h ws) = direct-refused _ 4
  direct-observed (Calls.medium_take_blocks c h ws) = direct-refused _ 4
  direct-observed (Calls.release_blocks c h ws) = direct-refused _ 4
  direct-observed (Calls.medium_release_blocks c h ws) = direct-refused _ 4
  direct-observed (Calls.pooled_take c h ws) = direct-refused _ 4
  direct-observed (Calls.pooled_release c h ws) = direct-refused _ 4
  direct-observed (Calls.release_bin_chunks c h ws gs fs) = direct-refused _ 4
  direct-observed (Calls.commit h m) = search (sums-cond, direct-refused, direct-commit)
  direct-observed (Calls.grow_frontier h q old new) = search (sums-cond, direct-refused, direct-grow)
  direct-observed (Calls.release h q m) = search (sums-cond, direct-refused, direct-release)
  direct-observed (Calls.contains o m) = record { observed = same-counts size _ H.arena _ (λ y. refl) }
  direct-observed Calls.report = record { observed = same-counts size _ H.arena _ (λ y. refl) }

  turned-observed : (x : Call) (d : Option Named) → names x ≡ d → Observed size (run_length d x) H x (unchanged H (Calls.refused 3)) (λ y. 0)
  turned-observed x none e = rw e (same-counts size _ H.arena _ (λ y. refl))
  turned-observed x (some d) e = rw e (same-counts size _ H.arena _ (λ y. refl))

  route-observed : (x : Call) {w : Way} → Goes x w → Placed (call_abandons size H x w) (route size H x w) → Observed size (run_length (names x) x) H x (route size H x w) (call_abandons size H x w)
  route-observed x (is_turned t) one_place = turned-observed x (names x) refl
  route-observed x (is-straight t e) one_place = rw e (direct-observed x).observed
  route-observed x (is-class d t e) one_place = subst (λ m. Observed size m H x (route size H x (Calls.to_class d)) (call_abandons size H x (Calls.to_class d))) (rw e) (class-observed x d e one_place)

  step-observed : (x : Call) → Observed size (run_length (names x) x) H x (step size H x) (call_abandons size H x (way_of x))
  unfolding step
  step-observed x = route-observed x (goes x) (route-inv size n H es f l inv x (goes x)).one

  -- the pages that are nowhere any more are those that the call abandoned
  step-lost : (x : Call) → somewhere size H ≡ somewhere size (step size H x).heap + total (call_abandons size H x (way_of x)) (below size)
  step-lost x =
      let k = step-inv size n H es f l inv x in
      total-same _ (λ y. is_held ((step size H x).heap.holder y) + in_holes y (step size H x).heap.arena + above (step size H x).heap.arena.frontier y + call_abandons size H x (way_of x) y) (below size) (λ y. omega (arith, inv.one y, k.one y))
      ∙ total_plus (λ y. is_held ((step size H x).heap.holder y) + in_holes y (step size H x).heap.arena + above (step size H x).heap.arena.frontier y) (call_abandons size H x (way_of x)) (below size)

  step-many : (x : Call) → abandoned_at size H x ≡ (step-observed x).many
  step-many x =
      let m = run_length (names x) x in
      let k = step-observed x in
      let lost : somewhere size H - somewhere size (step size H x).heap ≡ k.many * m = omega (arith, step-lost x, k.pages) in
      by_cases (leb 1 m)
      (λ t. div-eq_of_eq-mul_left (leb-true 1 m t) lost)
      (λ t. by_cases (leb 1 k.many)
      (λ u. absurd (omega (arith, k.paged (leb-true 1 k.many u), leb-false 1 m t)))
      (λ u. let z : k.many ≡ 0 = omega (arith, leb-false 1 k.many u) in
      let y : somewhere size H - somewhere size (step size H x).heap ≡ 0 = lost ∙ rw z (zero-mul m) in
      ap (λ d. d / m) y ∙ zero-div m ∙ sym z))

-- ---- every history
record Stands (H : Heap) (c r a : ℕ) : Type 0 where
  commits : H.arena.commits ≡ c % 2 ^ 64
  reuses : H.arena.reuses ≡ r % 2 ^ 64
  abandoned : H.arena.abandoned ≡ a % 2 ^ 64

counted-from : (size n : ℕ) (H : Heap) (es : List Entry) (f : ℕ → Bool) (l : ℕ → ℕ) → Inv size n H es f l → (c r a : ℕ) → Stands H c r a → (xs : List Call)
    → Stands (heap_from size H xs) (c + total commits_at (events_from size H xs)) (r + reuses_from size H xs) (a + abandoned_runs size H xs)
counted-from size n H es f l inv c r a s [] = record { commits = omega (arith, s.commits); reuses = omega (arith, s.reuses); abandoned = omega (arith, s.abandoned) }
counted-from size n H es f l inv c r a s (x ∷ xs) =
    let k = step-observed size n H es f l inv x in
    let t = counted-from size (suc n) (step size H x).heap _ _ _ (step-inv size n H es f l inv x) _ _ _
    (record { commits = k.commits c s.commits; reuses = k.reuses r s.reuses; abandoned = k.abandoned a s.abandoned }) xs in
    record { commits = omega (arith, t.commits); reuses = omega (arith, t.reuses); abandoned = omega (arith, t.abandoned, step-many size n H es f l inv x) }

fresh-from : (size n : ℕ) (H : Heap) (es : List Entry) (f : ℕ → Bool) (l : ℕ → ℕ) → Inv size n H es f l → (h m q : ℕ) (t : Bool) → (step size H (Calls.commit h m)).answer ≡ Calls.run q t → in_holes q H.arena ≡ cond t 0 1
unfolding step way_of direct_call commit_call
fresh-from size n H es f l inv h m q t e =
    by_cases (bad_host h) (λ u. absurd (true≢false (ap is_refused (rw u at e))))
    (λ u. by_cases (bad_run m) (λ v. absurd (true≢false (ap is_refused (rw (u, v) at e))))
    (λ v. let g = Arenas.commit size h m H.arena in
    answered g.run g.fresh (rw (u, v) at e) (commit-old size h m (good-run m v) H.arena (once size n H es f l inv))))
  where
    answered : (o : Option ℕ) (s : Bool) → answer_run o s ≡ Calls.run q t → cond (is_some o) (cond s 0 1) 0 ≡ holes_at o H.arena → in_holes q H.arena ≡ cond t 0 1
    answered none s d k = absurd (false≢true (ap (λ a. is_some (run_of a)) d))
    answered (some p) s d k = let y : p ≡ q = cc in let z : s ≡ t = cc in rw (sym y, sym z) (sym k)

pub counted-by : (size : ℕ) (rules : Rules) (xs : List Call) → Counted size rules xs (figures size (heap_after size rules xs))
unfolding new_heap
counted-by size rules xs =
    let s = counted-from size 0 (new_heap rules) [] (λ x. false) (λ x. 0) (start size rules) 0 0 0 (record { commits = refl; reuses = refl; abandoned = refl }) xs in
    let k = kept size rules xs in
    record {
      commits = omega (arith, s.commits);
      reuses = omega (arith, s.reuses);
      abandoned = omega (arith, s.abandoned);
      fresh = fresh-from size k.number (heap_after size rules xs) _ _ _ k.inv;
    }
