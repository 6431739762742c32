-- Pages held are those that the history tells: at each call, what was held and is drawn is held or given back, page by page.
use Rattle.facts.proofs.Prelude.{ℕ, suc, ◌+◌, ◌-◌, ◌*◌, ◌≤◌, arith, Bool, true, false, cond, not, ◌||◌, List, [], ◌∷◌, Option, none, some}
use Rattle.facts.proofs.Prelude.{Option·none-ne-some, ◌≡◌, refl, leb, length, leb-true, not-false, total, below, every, is_some, and_left}
use Rattle.classes.specs.declared.Shape.{Shape}
use Rattle.classes.specs.Shape.{shape_of}
use Rattle.classes.proofs.Shapes.{shape-sound}
use Rattle.rules.specs.Rules.{Rules}
use Rattle.model.specs.Cover.{covers, covers_all, covers_run}
use Rattle.model.specs.Calls as Calls
use Rattle.model.specs.Calls.{Call, Answer, Named, names, Way, host_of, is_refused, Request}
use Rattle.model.specs.Class.{Ask, serve}
use Rattle.model.specs.Chunks.{answer}
use Rattle.model.specs.Arena as Arenas
use Rattle.model.specs.Arena.{Given}
use Rattle.model.specs.Heap.{Heap, Outcome, new_heap, is_held, is_direct, held_pages, run_with, asked, offer, finish, interact, class_call, direct_call, route, step, unchanged, commit_call, grow_call, release_call, held_direct, answer_run}
use Rattle.model.specs.History.{event_of, events, events_from, heap_after, heap_from}
use Rattle.model.specs.Entries.{Entry, run_of, is_grown}
use Rattle.model.specs.Ledger.{in_holes, above, offer_abandons, class_abandons, call_abandons, direct_abandons, grow_abandons}
use Rattle.model.specs.Held.{run_pages, gains, losses, wanted_pages, given_pages, direct_gains, direct_losses, class_losses, gained, lost}
use Rattle.model.proofs.Ways.{Goes, is_turned, is-straight, is-class, goes}
use Rattle.model.proofs.Sums.{zeros, total-balance, covers-total}
use Rattle.model.proofs.RunSums.{runs-sum, given-sum, grown-sum}
use Rattle.model.proofs.ArenaLaws.{idle, commit-law, give_all-law, give_all-frontier, give-law, grow-law, grow-bound}
use Rattle.model.proofs.Accounts.{held-le}
use Rattle.model.proofs.ClassLaws.{Lawful, lawful-done, lawful-asks, answer-lawful}
use Rattle.model.proofs.Fates.{runs-observed}
use Rattle.model.proofs.HeapLaws.{Inv, run-answered, step-inv, route-inv, start}

-- a class's call asks for no page itself, and gives none
class_hands : (x : Call) (d : Named) → names x ≡ some d → (wanted_pages x ≡ 0) × (given_pages x ≡ 0)
class_hands (Calls.take_blocks c h ws) d e = (refl, refl)
class_hands (Calls.medium_take_blocks c h ws) d e = (refl, refl)
class_hands (Calls.release_blocks c h ws) d e = (refl, refl)
class_hands (Calls.medium_release_blocks c h ws) d e = (refl, refl)
class_hands (Calls.pooled_take c h ws) d e = (refl, refl)
class_hands (Calls.pooled_release c h ws) d e = (refl, refl)
class_hands (Calls.release_bin_chunks c h ws gs fs) d e = (refl, refl)
class_hands (Calls.commit h m) d e = absurd (Option·none-ne-some d e)
class_hands (Calls.grow_frontier h q old new) d e = absurd (Option·none-ne-some d e)
class_hands (Calls.release h q m) d e = absurd (Option·none-ne-some d e)
class_hands (Calls.contains o m) d e = absurd (Option·none-ne-some d e)
class_hands Calls.report d e = absurd (Option·none-ne-some d e)

cond-none : (t : Bool) → ◌≡◌ {A = ℕ} (cond t 0 0) 0
cond-none true = refl
cond-none false = refl

refused-class : (d : Option Named) (k : ℕ) → class_losses d (Calls.refused k) ≡ 0
refused-class none k = refl
refused-class (some d) k = omega arith

-- ---- one call
module _ (size n : ℕ) (H : Heap) (es : List Entry) (f : ℕ → Bool) (l : ℕ → ℕ) (inv : Inv size n H es f l) where
  -- pages held before and after, and what the call tells
  abbrev Keeps : Call → Outcome → Type 0
  Keeps x o = held_pages size o.heap + losses (event_of x o) ≡ held_pages size H + gains (event_of x o)

  -- after the call each page is in one place
  abbrev One : Outcome → (ℕ → ℕ) → Type 0
  One o a = (y : ℕ) → is_held (o.heap.holder y) + in_holes y o.heap.arena + above o.heap.arena.frontier y + (l y + a y) ≡ 1

  -- a class's call: what the arena gave it, and what it gave
  module _ (c : ℕ) (r : Request) where
    abbrev sh : Shape
    sh = shape_of c

    lawful : Lawful sh (H.classes c) r (answer sh (H.rules c) (H.classes c) r)
    lawful = answer-lawful sh (shape-sound c) (H.rules c) (H.classes c) (inv.good c) (λ y. omega (arith, inv.mine c y, held-le c (H.holder y), inv.one y)) r

    record Offers (q : Ask) (g : Given) (a : ℕ → ℕ) : Type 0 where
      pages : (x : ℕ) → idle x g.arena + covers_run sh.pages g.run x + a x ≡ idle x H.arena
      bound : g.arena.frontier ≤ size
      sum : total (covers_run sh.pages g.run) (below size) ≡ run_pages (run_with (asked q) g.run)

    offers : (h : ℕ) (q : Ask) → Lawful sh (H.classes c) r q → Offers q (offer size h H.arena q) (offer_abandons size h H.arena q)
    unfolding offer
    offers h q (lawful-done m) = record { pages = λ y. omega arith; bound = inv.bound; sum = zeros (below size) }
    offers h q (lawful-asks m) =
        let k = commit-law size h sh.pages H.arena in
        let g = Arenas.commit size h sh.pages H.arena in
        record {
          pages = k.pages;
          bound = k.bound inv.bound;
          sum = given-sum size g.arena.frontier (k.bound inv.bound) sh.pages g.run (λ x. omega (arith, k.pages x, inv.one x));
        }

  class-keeps : (x : Call) (d : Named) → names x ≡ some d → One (route size H x (Calls.to_class d)) (call_abandons size H x (Calls.to_class d)) → Keeps x (route size H x (Calls.to_class d))
  unfolding class_call interact finish class_abandons
  class-keeps x d e one =
      let c = d.class in
      let r = d.request in
      let m = (shape_of c).pages in
      let q = answer (shape_of c) (H.rules c) (H.classes c) r in
      let g = offer size (host_of r) H.arena q in
      let vs = (serve q g.run).gives in
      let s = offers c r (host_of r) q (lawful c r) in
      let top = give_all-frontier m vs g.arena in
      let went : total (covers_all m vs) (below size) ≡ length vs * m = runs-sum size g.arena.frontier s.bound (λ v. v) m vs (λ y. omega (arith, one y, give_all-law m y vs g.arena, top)) in
      let sums = total-balance (λ y. is_held (H.holder y)) (λ y. is_held ((route size H x (Calls.to_class d)).heap.holder y)) (covers_run m g.run) (covers_all m vs) (below size)
      (λ y. omega (arith, one y, give_all-law m y vs g.arena, s.pages y, inv.one y)) in
      let observed = runs-observed (shape_of c) (H.rules c) (H.classes c) r g.run in
      let a = (serve q g.run).answer in
      let hands = class_hands x d e in
      let gain : direct_gains x a ≡ 0 = rw hands.0 (cond-none (is_some (run_of a) || is_grown a)) in
      let loss : direct_losses x a ≡ 0 = rw hands.1 (cond-none (is_refused a)) in
      let runs : class_losses (names x) a ≡ length vs * m = rw (e, observed) in
      omega (arith, sums, went, s.sum, gain, loss, runs)

  -- the direct calls
  record Direct (x : Call) (o : Outcome) : Type 0 where
    keeps : One o (λ y. cond (is_refused o.answer) 0 (direct_abandons size H x y)) → held_pages size o.heap + direct_losses x o.answer ≡ held_pages size H + (run_pages o.run + direct_gains x o.answer)

  direct-cond : (x : Call) (b : Bool) (o p : Outcome) → (b ≡ true → Direct x o) → (b ≡ false → Direct x p) → Direct x (cond b o p)
  direct-cond x true o p h k = h refl
  direct-cond x false o p h k = k refl

  direct-same : (x : Call) (a : Answer) → direct_gains x a ≡ 0 → direct_losses x a ≡ 0 → Direct x (unchanged H a)
  direct-same x a e d = record { keeps = λ one. omega arith }

  run-gains : (m : ℕ) (o : Option ℕ) (b : Bool) → cond (is_some (run_of (answer_run o b)) || is_grown (answer_run o b)) m 0 ≡ run_pages (run_with m o)
  run-gains m none b = refl
  run-gains m (some q) b = refl

  direct-commit : (h m : ℕ) → Direct (Calls.commit h m) (commit_call size H h m)
  unfolding commit_call
  direct-commit h m =
      let k = commit-law size h m H.arena in
      let g = Arenas.commit size h m H.arena in
      record {
        keeps = λ one. omega (
          arith,
          given-sum size g.arena.frontier (k.bound inv.bound) m g.run (λ y. omega (arith, k.pages y, inv.one y)),
          run-gains m g.run g.fresh,
          cond-none (is_refused (answer_run g.run g.fresh)),
          total-balance (λ y. is_held (H.holder y)) (λ y. is_held ((commit_call size H h m).heap.holder y)) (covers_run m g.run) (λ y. 0) (below size)
              (λ y. omega (arith, rw (run-answered g.run g.fresh) at (one y), k.pages y, inv.one y)),
          zeros (below size),
        );
      }

  direct-grow : (h q old new : ℕ) → Direct (Calls.grow_frontier h q old new) (grow_call size H h q old new)
  unfolding grow_call
  direct-grow h q old new =
      let m = new - old in
      let g = Arenas.grow size h (q + old) m H.arena in
      let law : (y : ℕ) → idle y g.arena + cond g.grew (covers m (q + old) y) 0 + grow_abandons size h (q + old) m H.arena y ≡ idle y H.arena = grow-law size h (q + old) m H.arena in
      record {
        keeps = λ one. omega (
          arith,
          grown-sum size g.arena.frontier (grow-bound size h (q + old) m H.arena inv.bound) g.grew m (q + old) (λ y. omega (arith, law y, inv.one y)),
          total-balance (λ y. is_held (H.holder y)) (λ y. is_held ((grow_call size H h q old new).heap.holder y)) (λ y. cond g.grew (covers m (q + old) y) 0) (λ y. 0) (below size)
              (λ y. omega (arith, one y, law y, inv.one y)),
          zeros (below size),
        );
      }

  direct-release : (h q m : ℕ) → not (held_direct size H q m) ≡ false → Direct (Calls.release h q m) (release_call H q m)
  unfolding release_call held_direct
  direct-release h q m e =
      let fits = leb-true (q + m) size (and_left (leb (q + m) size) (every (λ k. is_direct (H.holder (q + k))) (below m)) (not-false (held_direct size H q m) e)) in
      record {
        keeps = λ one. omega (
          arith,
          covers-total m q size fits,
          total-balance (λ y. is_held (H.holder y)) (λ y. is_held ((release_call H q m).heap.holder y)) (λ y. 0) (covers m q) (below size)
              (λ y. omega (arith, one y, give-law m q y H.arena, inv.one y)),
          zeros (below size),
        );
      }

  direct-keeps : (x : Call) → Direct x (direct_call size H x)
  unfolding direct_call
  direct-keeps (Calls.take_blocks c h ws) = direct-same _ _ refl refl
  direct-keeps (Calls.medium_take_blocks c h ws) = direct-same _ _ refl refl
  direct-keeps (Calls.release_blocks c h ws) = direct-same _ _ refl refl
  direct-keeps (Calls.medium_release_blocks c h ws) = direct-same _ _ refl refl
  direct-keeps (Calls.pooled_take c h ws) = direct-same _ _ refl refl
  direct-keeps (Calls.pooled_release c h ws) = direct-same _ _ refl refl
  direct-keeps (Calls.release_bin_chunks c h ws gs fs) = direct-same _ _ refl refl
  direct-keeps (Calls.commit h m) = search (direct-cond, direct-same, direct-commit)
  direct-keeps (Calls.grow_frontier h q old new) = search (direct-cond, direct-same, direct-grow)
  direct-keeps (Calls.release h q m) = search (direct-cond, direct-same, direct-release)
  direct-keeps (Calls.contains o m) = direct-same _ _ refl refl
  direct-keeps Calls.report = direct-same _ _ refl refl

  route-keeps : (x : Call) {w : Way} → Goes x w → One (route size H x w) (call_abandons size H x w) → Keeps x (route size H x w)
  route-keeps x (is_turned t) one = omega (arith, refused-class (names x) 3)
  route-keeps x (is-straight t e) one =
      let none-lost : class_losses (names x) (direct_call size H x).answer ≡ 0 = rw e in
      omega (arith, (direct-keeps x).keeps one, none-lost)
  route-keeps x (is-class d t e) one = class-keeps x d e one

  step_keeps : (x : Call) → Keeps x (step size H x)
  unfolding step
  step_keeps x = route-keeps x (goes x) (route-inv size n H es f l inv x (goes x)).one

-- ---- every history
held-from : (size n : ℕ) (H : Heap) (es : List Entry) (f : ℕ → Bool) (l : ℕ → ℕ) → Inv size n H es f l → (xs : List Call)
    → gained (events_from size H xs) + held_pages size H ≡ held_pages size (heap_from size H xs) + lost (events_from size H xs)
held-from size n H es f l inv [] = omega arith
held-from size n H es f l inv (x ∷ xs) =
    omega (arith, step_keeps size n H es f l inv x, held-from size (suc n) (step size H x).heap _ _ _ (step-inv size n H es f l inv x) xs)

pub held-history : (size : ℕ) (rules : Rules) (xs : List Call) → gained (events size rules xs) ≡ held_pages size (heap_after size rules xs) + lost (events size rules xs)
unfolding new_heap
held-history size rules xs = omega (arith, held-from size 0 (new_heap rules) [] (λ x. false) (λ x. 0) (start size rules) xs, zeros (below size))
