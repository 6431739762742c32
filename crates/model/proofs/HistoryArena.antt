-- Along every history the hole store is tidy: hence best fit, joining, the total of the holes, and the figure of the arena's idle pages.
use Rattle.facts.proofs.Prelude.{ℕ, suc, ◌+◌, ◌-◌, ◌≤◌, arith, Bool, true, false, cond, true≢false, List, [], ◌∷◌}
use Rattle.facts.proofs.Prelude.{Option, none, some, ◌≡◌, refl, eqb, leb, eqb-false, leb-false, total, below, by_cases}
use Rattle.classes.specs.declared.Shape.{Shape}
use Rattle.classes.specs.Shape.{shape_of}
use Rattle.classes.proofs.Shapes.{shape-sound}
use Rattle.rules.specs.declared.Limits.{Limits}
use Rattle.rules.specs.Rules.{Rules}
use Rattle.model.specs.Calls as Calls
use Rattle.model.specs.Calls.{Call, Request, Way, turned, straight, to_class, way_of, host_of}
use Rattle.model.specs.Arena.{Arena}
use Rattle.model.specs.Page.{Page}
use Rattle.model.specs.Class.{Class, Cold, Result, Ask, done, asks, serve, take_from}
use Rattle.model.specs.Release.{Site, on_page, release_list}
use Rattle.model.specs.Chunks.{answer, release_chunks}
use Rattle.model.specs.Heap.{Heap, Outcome, new_heap, offer, finish, interact, class_call, bad_run, bad_growth, commit_call, grow_call, release_call, unchanged, direct_call, route, step}
use Rattle.model.specs.History.{heap_from, heap_after}
use Rattle.model.specs.Entries.{Entry}
use Rattle.model.specs.Demands.{BestFit, Joining}
use Rattle.model.proofs.ArenaLaws.{idle}
use Rattle.model.proofs.BestFit.{commits}
use Rattle.model.proofs.Placing.{no_two_touch_lem}
use Rattle.model.proofs.Joining.{stored, joined_where_lem}
use Rattle.model.proofs.Tidy.{Tidy}
use Rattle.model.proofs.ArenaTidy.{Once, tidy-new, tidy-give, tidy-give_all, tidy-commit, tidy-grow}
use Rattle.model.proofs.IdlePages.{HolesBelow, holes-below, idle_figure}
use Rattle.model.proofs.HeapLaws.{Inv, start, step-inv, kept}

-- a request is done, or asks for one of the class's runs
pub data AsksRun (sh : Shape) : Ask → Type 0 where
  is-done : {r : Result} → AsksRun sh (done r)
  is-asked : {k : Option ℕ → Result} → AsksRun sh (asks sh.pages k)

asks-cond : (sh : Shape) (b : Bool) (x y : Ask) → AsksRun sh x → AsksRun sh y → AsksRun sh (cond b x y)
asks-cond sh true x y p q = p
asks-cond sh false x y p q = q

module _ (sh : Shape) (lim : Limits) where
  take-asks : (l : List ℕ) (ps es : List Page) (cs : List Cold) (fs : List Page) → AsksRun sh (take_from sh l ps es cs fs)
  unfolding take_from
  take-asks l (p ∷ ps) es cs fs = is-done
  take-asks l [] (e ∷ es) cs fs = is-done
  take-asks l [] [] (c ∷ cs) fs = is-done
  take-asks l [] [] [] fs = is-asked

  page-asks : (h : ℕ) (s : Class) (ws : List ℕ) (x : Option Site) → AsksRun sh (on_page sh lim h s ws x)
  unfolding on_page
  page-asks h s ws none = is-done
  page-asks h s ws (some x) = search (asks-cond, is-done)

  pub answer-asks : (s : Class) (r : Request) → AsksRun sh (answer sh lim s r)
  unfolding answer release_list release_chunks
  answer-asks s (Calls.take h l) = search (asks-cond, is-done, take-asks)
  answer-asks s (Calls.give_back h ws) = search (asks-cond, is-done, page-asks)
  answer-asks s (Calls.give_chunks h ws gs fs) = search (asks-cond, is-done) depth 9

-- runs of 1 page or more
pub good-run : (n : ℕ) → bad_run n ≡ false → 1 ≤ n
unfolding bad_run
good-run n e = by_cases (eqb n 0) (λ d. absurd (true≢false (rw d at e))) (λ d. omega (arith, eqb-false n 0 d))

pub longer : (old new : ℕ) → bad_growth old new ≡ false → 1 ≤ new - old
longer old new e =
    by_cases (leb new old)
    (λ d. by_cases (bad_run old) (λ c. absurd (true≢false (rw c at e))) (λ c. by_cases (bad_run new) (λ b. absurd (true≢false (rw (c, b) at e))) (λ b. absurd (true≢false (rw (c, b, d) at e)))))
    (λ d. omega (arith, leb-false new old d))

-- the heap after a call: its holes are tidy
record TidyAfter (o : Outcome) : Type 0 where
  tidy : Tidy o.heap.arena.store

after-cond : (b : Bool) (o p : Outcome) → (b ≡ true → TidyAfter o) → (b ≡ false → TidyAfter p) → TidyAfter (cond b o p)
after-cond true o p h k = h refl
after-cond false o p h k = k refl

module _ (size : ℕ) (H : Heap) (once : Once H.arena) (k : Tidy H.arena.store) where
  pub tidy-offer : (h : ℕ) (sh : Shape) → 1 ≤ sh.pages → (q : Ask) → AsksRun sh q → Tidy (offer size h H.arena q).arena.store
  unfolding offer
  tidy-offer h sh one q is-done = k
  tidy-offer h sh one q is-asked = tidy-commit size h sh.pages one H.arena once k

  tidy-class : (c : ℕ) (r : Request) → TidyAfter (class_call size H c r)
  unfolding class_call interact finish
  tidy-class c r =
      let sh = shape_of c in
      let one = (shape-sound c).paged in
      let q = answer sh (H.rules c) (H.classes c) r in
      let g = offer size (host_of r) H.arena q in
      record { tidy = tidy-give_all sh.pages one (serve q g.run).gives g.arena (tidy-offer (host_of r) sh one q (answer-asks sh (H.rules c) (H.classes c) r)) }

  same : (x : Calls.Answer) → TidyAfter (unchanged H x)
  same x = record { tidy = k }

  commit-tidy : (h n : ℕ) → bad_run n ≡ false → TidyAfter (commit_call size H h n)
  unfolding commit_call
  commit-tidy h n e = record { tidy = tidy-commit size h n (good-run n e) H.arena once k }

  grow-tidy : (h q old new : ℕ) → bad_growth old new ≡ false → TidyAfter (grow_call size H h q old new)
  unfolding grow_call
  grow-tidy h q old new e = record { tidy = tidy-grow size h (new - old) (longer old new e) (q + old) H.arena k }

  release-tidy : (q n : ℕ) → bad_run n ≡ false → TidyAfter (release_call H q n)
  unfolding release_call
  release-tidy q n e = record { tidy = tidy-give n (good-run n e) q H.arena k }

  tidy-direct : (x : Call) → TidyAfter (direct_call size H x)
  unfolding direct_call
  tidy-direct (Calls.take_blocks c h l) = same _
  tidy-direct (Calls.medium_take_blocks c h l) = same _
  tidy-direct (Calls.release_blocks c h ws) = same _
  tidy-direct (Calls.medium_release_blocks c h ws) = same _
  tidy-direct (Calls.pooled_take c h l) = same _
  tidy-direct (Calls.pooled_release c h ws) = same _
  tidy-direct (Calls.release_bin_chunks c h ws gs fs) = same _
  tidy-direct (Calls.commit h n) = search (after-cond, same, commit-tidy) depth 9
  tidy-direct (Calls.grow_frontier h q old new) = search (after-cond, same, grow-tidy) depth 9
  tidy-direct (Calls.release h q n) = search (after-cond, same, release-tidy) depth 9
  tidy-direct (Calls.contains o b) = same _
  tidy-direct Calls.report = same _

  tidy-route : (x : Call) (w : Way) → TidyAfter (route size H x w)
  tidy-route x turned = same _
  tidy-route x straight = tidy-direct x
  tidy-route x (to_class d) = tidy-class d.class d.request

  pub tidy-step : (x : Call) → Tidy (step size H x).heap.arena.store
  unfolding step
  tidy-step x = (tidy-route x (way_of x)).tidy

-- along a history: that no page is in two holes is the heap's invariant
pub once-inv : {size n : ℕ} {H : Heap} {es : List Entry} {f : ℕ → Bool} {l : ℕ → ℕ} → Inv size n H es f l → Once H.arena
once-inv inv x = omega (arith, inv.one x)

tidy-from : (size n : ℕ) (H : Heap) (es : List Entry) (f : ℕ → Bool) (l : ℕ → ℕ) → Inv size n H es f l → (xs : List Call) → Tidy H.arena.store → Tidy (heap_from size H xs).arena.store
tidy-from size n H es f l inv [] k = k
tidy-from size n H es f l inv (x ∷ xs) k = tidy-from size (suc n) (step size H x).heap _ _ _ (step-inv size n H es f l inv x) xs (tidy-step size H (once-inv inv) k x)

module _ (size : ℕ) (rules : Rules) (xs : List Call) where
  abbrev arena : Arena
  arena = (heap_after size rules xs).arena

  pub tidy-after : Tidy arena.store
  unfolding new_heap
  tidy-after = tidy-from size 0 (new_heap rules) [] (λ x. false) (λ x. 0) (start size rules) xs tidy-new

  -- demand 2's choice of a run
  pub best_fit : BestFit size rules xs
  best_fit = record { commits = λ h n. commits size h n arena }

  -- no two holes touch, and a given run stands where document 02 says
  pub joining : Joining size rules xs
  joining = record { no_two_touch = no_two_touch_lem arena.store.holes tidy-after.touch; stored = λ n q. stored n q arena.store; joined_where = λ n q one e. joined_where_lem n q one arena e }

  -- the report's figures
  pub hole-total : arena.store.total ≡ total (λ h. h.pages) arena.store.holes
  hole-total = tidy-after.sum

  idle-once : (x : ℕ) → idle x arena ≤ 1
  idle-once x = omega (arith, (kept size rules xs).inv.one x)

  pub idle-after : arena.store.total + (size - arena.frontier) ≡ total (λ x. idle x arena) (below size)
  idle-after = idle_figure size arena tidy-after (kept size rules xs).inv.bound idle-once

  -- every hole lies below the frontier
  pub holes-after : HolesBelow arena.frontier arena.store.holes
  holes-after = holes-below arena tidy-after idle-once
