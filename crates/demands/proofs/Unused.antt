-- What is given out lies in the arena and was nobody's: its pages were idle, and each page is in one place only.
--     commit-unused    the run that a direct commit answers
--     growth-unused    the pages that a growth adds
--     class-unused     the run that a class gets
use Rattle.facts.proofs.Prelude.{ℕ, ◌+◌, ◌-◌, ◌/◌, ◌≤◌, arith, Bool, true, false≢true, List, Option, none, some, Option·none-ne-some, ◌≡◌, refl, sym, ap, ◌∙◌, subst, by_cases}
use Rattle.words.specs.Host.{bad_host}
use Rattle.classes.specs.Sizes.{page_bytes}
use Rattle.rules.specs.Rules.{rules_of}
use Rattle.model.specs.declared.Hole.{Hole}
use Rattle.model.specs.Cover.{in_run, covers, covers_run}
use Rattle.model.specs.Calls as Calls
use Rattle.model.specs.Calls.{Call, Named, names, host_in, way_of, host_of}
use Rattle.model.specs.HoleStore.{hole, hole_at}
use Rattle.model.specs.Arena as Arenas
use Rattle.model.specs.Arena.{Arena}
use Rattle.model.specs.Class.{Ask, done, asks}
use Rattle.model.specs.Heap.{Heap, is_direct, held_direct, bad_run, bad_growth, run_with, asked, offer, finish, interact, class_call, answer_run, commit_call, grow_call, direct_call, step}
use Rattle.model.specs.History.{heap_after}
use Rattle.model.specs.Entries.{run_of, is_grown}
use Rattle.model.specs.BestFit as BestFit
use Rattle.model.specs.BestFit.{Commits, from-hole, from-frontier, unusable}
use Rattle.model.proofs.HoleLists.{all-at}
use Rattle.model.proofs.HistoryArena.{holes-after}
use Rattle.model.proofs.ArenaLaws.{idle, covers_in, commit-law, grow-law}
use Rattle.model.proofs.Accounts.{held-le}
use Rattle.model.proofs.Theorems.{conserved, best_fit}
use Rattle.refinement.proofs.ArenaReached.{reached-after}
use Rattle.refinement.proofs.DirectCalls.{direct-held}
use Rattle.demands.specs.Run.{Opens, next, observed}
use Rattle.demands.specs.Demands.{Grows, grew, elsewhere, exhausted, ungranted, Unused}
use Rattle.demands.proofs.Calls.{room}
use Rattle.demands.proofs.Histories.{next-agrees}
use Rattle.demands.proofs.Observed.{observed-live, observed-direct}
use Rattle.demands.proofs.Codes.{class_ask}
use Rattle.demands.proofs.Held.{grow-fits}
use Rattle.demands.proofs.Places.{byte-held}

run_of_lem : (r : Option ℕ) (f : Bool) → run_of (answer_run r f) ≡ r
run_of_lem none f = refl
run_of_lem (some q) f = refl

grows-inside : {n h e m : ℕ} {a : Arena} {yes : Bool} → Grows n h e m a yes → yes ≡ true → e + m ≤ n
grows-inside (grew f l c) y = l
grows-inside (elsewhere f) y = absurd (false≢true y)
grows-inside (exhausted l) y = absurd (false≢true y)
grows-inside (ungranted c) y = absurd (false≢true y)

module _ (n : ℕ) (rows b : List ℕ) (o : Opens n rows b) (xs : List Call) where
  abbrev heap : Heap
  heap = heap_after n (rules_of rows) xs

  abbrev arena : Arena
  arena = heap.arena

  -- m pages at q lie in the arena and were idle
  record WasIdle (q m : ℕ) : Type 0 where
    inside : q + m ≤ n
    pages : (x : ℕ) → covers m q x ≤ idle x arena

  -- ---- what each call draws
  commits-inside : {h m q : ℕ} {r : Option ℕ} {f : Bool} → Commits n h m arena r f → r ≡ some q → q + m ≤ n
  commits-inside {h} {m} {q} (from-hole i u g l w) e =
      let hs = arena.store.holes in
      let z : (hole_at i hs).first ≡ q = cc in
      omega (arith, all-at (λ x. x.first + x.pages ≤ arena.frontier) i hs l.inside (holes-after n (rules_of rows) xs), l.enough, (reached-after n (rules_of rows) xs).bound)
  commits-inside {h} {m} {q} (from-frontier u g s l) e = let z : arena.frontier ≡ q = cc in omega (arith, l)
  commits-inside (unusable u) e = absurd (Option·none-ne-some _ e)
  commits-inside (BestFit.ungranted u) e = absurd (Option·none-ne-some _ e)
  commits-inside (BestFit.exhausted u v) e = absurd (Option·none-ne-some _ e)

  commit-idle : (h m q : ℕ) → (Arenas.commit n h m arena).run ≡ some q → WasIdle q m
  commit-idle h m q e = record {
    inside = commits-inside ((best_fit n (rules_of rows) xs).commits h m) e;
    pages = λ x. omega (arith, (commit-law n h m arena).pages x, ap (λ r. covers_run m r x) e);
  }

  commit-run : (h m q : ℕ) → run_of (step n heap (Calls.commit h m)).answer ≡ some q → (Arenas.commit n h m arena).run ≡ some q
  unfolding step way_of direct_call commit_call
  commit-run h m q e =
      by_cases (bad_host h) (λ t. absurd (Option·none-ne-some _ (rw t at e)))
      (λ t. by_cases (bad_run m) (λ u. absurd (Option·none-ne-some _ (rw (t, u) at e)))
      (λ u. sym (run_of_lem (Arenas.commit n h m arena).run (Arenas.commit n h m arena).fresh) ∙ (rw (t, u) at e)))

  growth-yes : (h q old new : ℕ) → is_grown (step n heap (Calls.grow_frontier h q old new)).answer ≡ true → (Arenas.grow n h (q + old) (new - old) arena).grew ≡ true
  unfolding step way_of direct_call grow_call
  growth-yes h q old new e =
      by_cases (bad_host h) (λ t. absurd (false≢true (rw t at e)))
      (λ t. by_cases (bad_growth old new) (λ u. absurd (false≢true (rw (t, u) at e)))
      (λ u. by_cases (held_direct n heap q old) (λ v. rw (t, u, v) at e) (λ v. absurd (false≢true (rw (t, u, v) at e)))))

  offer-idle : (h : ℕ) (q : Ask) (r : Hole) → run_with (asked q) (offer n h arena q).run ≡ some r → WasIdle r.first r.pages
  unfolding offer
  offer-idle h (done x) r e = absurd (Option·none-ne-some r e)
  offer-idle h (asks m k) r e = with-run (Arenas.commit n h m arena).run refl e
    where
      with-run : (g : Option ℕ) → (Arenas.commit n h m arena).run ≡ g → run_with m g ≡ some r → WasIdle r.first r.pages
      with-run none d f = absurd (Option·none-ne-some r f)
      with-run (some q) d f = let z : hole q m ≡ r = cc in subst (λ (x : Hole). WasIdle x.first x.pages) z (commit-idle h m q d)

  class-idle : (y : Call) (d : Named) (r : Hole) → names y ≡ some d → (step n heap y).run ≡ some r → WasIdle r.first r.pages
  unfolding step way_of class_call interact finish
  class-idle y d r e f =
      by_cases (bad_host (host_in y)) (λ t. absurd (Option·none-ne-some r (rw t at f))) (λ t. offer-idle (host_of d.request) (class_ask heap d) r (rw (t, e) at f))

  -- ---- an idle page is nobody's
  unused : {q m : ℕ} → WasIdle q m → Unused n (observed n rows b xs) q m
  unused {q} {m} d = record {
    inside = d.inside;
    off_direct = λ k l.
        let x = q + k in
        observed-direct n rows b o xs x ∙ (conserved n (rules_of rows) xs).direct x
        ∙ by_cases (is_direct (heap.holder x))
        (λ t. absurd (omega (arith, direct-held (heap.holder x) t, d.pages x, covers_in m q x (omega arith) (omega arith), (conserved n (rules_of rows) xs).one x)))
        (λ t. t);
    off_blocks = λ e l i h.
        let x = i / page_bytes in
        let held = byte-held n (room n rows b o).few-pages (rules_of rows) xs e (observed-live n rows b o xs e l) i h in
        by_cases (in_run m q x)
        (λ t. let c : covers m q x ≡ 1 = rw t in absurd (omega (arith, d.pages x, c, held, held-le e.class (heap.holder x), (conserved n (rules_of rows) xs).one x)))
        (λ t. t);
  }

  pub commit-unused : (h m q : ℕ) (fresh : Bool) → (next n rows b xs (Calls.commit h m)).answer ≡ Calls.run q fresh → Unused n (observed n rows b xs) q m
  commit-unused h m q fresh e = unused (commit-idle h m q (commit-run h m q (ap run_of (sym (next-agrees n rows b o xs (Calls.commit h m)).answer ∙ e))))

  pub growth-unused : (h q old new : ℕ) → (next n rows b xs (Calls.grow_frontier h q old new)).answer ≡ Calls.grown true → Unused n (observed n rows b xs) (q + old) (new - old)
  growth-unused h q old new e =
      let m = new - old in
      let g = growth-yes h q old new (ap is_grown (sym (next-agrees n rows b o xs (Calls.grow_frontier h q old new)).answer ∙ e)) in
      unused (record { inside = grows-inside (grow-fits n h (q + old) m arena) g; pages = λ x. omega (arith, rw g at (grow-law n h (q + old) m arena x)) })

  pub class-unused : (x : Call) (d : Named) (r : Hole) → names x ≡ some d → (step n heap x).run ≡ some r → Unused n (observed n rows b xs) r.first r.pages
  class-unused x d r e f = unused (class-idle x d r e f)
