-- By document 01's own hole store each call is answered as by the model and leaves its heap, along every history in which no given run that the
-- total allows touches a hole and each hole chosen is the lowest page.
use Rattle.facts.proofs.Prelude.{ℕ, suc, ◌+◌, ◌-◌, Bool, true, false, cond, List, [], ◌∷◌, ◌++◌, map, ◌≡◌, refl, sym, ap, ap₂, ◌∙◌, subst, length, take, All}
use Rattle.classes.specs.Shape.{shape_of}
use Rattle.rules.specs.Rules.{plain_rules}
use Rattle.model.specs.Cover.{covers, covers_run}
use Rattle.model.specs.Calls as Calls
use Rattle.model.specs.Calls.{Call, Request, Way, turned, straight, to_class, way_of, host_of}
use Rattle.model.specs.Arena as Arenas
use Rattle.model.specs.Class.{Ask, done, asks, serve}
use Rattle.model.specs.Chunks.{answer}
use Rattle.model.specs.Heap as Heaps
use Rattle.model.specs.Heap.{Heap, new_heap, nobody, direct, pass_to, with_pages, finish, asked, answer_run}
use Rattle.model.specs.History as Histories
use Rattle.model.specs.History.{events_from}
use Rattle.model.specs.Entries.{Entry}
use Rattle.model.specs.Remembered.{Memory, no_memory}
use Rattle.model.specs.Original.{Outcome, begun, as_model, offer, interact, class_call, commit_call, grow_call, release_call, direct_call, route, step, answers_from, acts_from, heap_from, original_acts, Alike, Equality}
use Rattle.model.proofs.Tidy.{Tidy}
use Rattle.model.proofs.HeapLaws.{Inv, start, step-inv}
use Rattle.model.proofs.ArenaTidy.{tidy-new}
use Rattle.model.proofs.HistoryArena.{once-inv, tidy-step}
use Rattle.model.proofs.Remembered.{Apart, give-fine, give-same, gives-fine, gives_same, as_given, commit-same, grow-same}

-- a call by these rules is the model's, memory aside
record Same (o : Outcome) (p : Heaps.Outcome) : Type 0 where
  heap : o.heap ≡ p.heap
  answer : o.answer ≡ p.answer

-- as far as what it did is as before
record Follows (o : Outcome) (p : Heaps.Outcome) : Type 0 where
  by : All Alike o.acts → Same o p

follows-cond : (b : Bool) (o o' : Outcome) (p p' : Heaps.Outcome) → Follows o p → Follows o' p' → Follows (cond b o o') (cond b p p')
follows-cond true o o' p p' f g = f
follows-cond false o o' p p' f g = g

same : (m : Memory) (p : Heaps.Outcome) → Follows (as_model m p) p
same m p = record { by = λ f. record { heap = refl; answer = refl } }

module _ (size : ℕ) (H : Heap) (m : Memory) (d : Apart H.arena.store.holes) where
  -- a class's call
  offer-same : (h : ℕ) (q : Ask) → All Alike (offer size h (begun H m) q).state.acts → as_given (offer size h (begun H m) q) ≡ Heaps.offer size h H.arena q
  unfolding offer Heaps.offer
  offer-same h (done r) f = refl
  offer-same h (asks n k) f = commit-same size h n (begun H m) d f

  interact-same : (c h : ℕ) (q : Ask) → Follows (interact size H m c h q) (Heaps.interact size H c h q)
  unfolding interact Heaps.interact finish
  interact-same c h q =
      let sh = shape_of c in
      let g = offer size h (begun H m) q in
      let gs = (serve q g.run).gives in
      let k = finish H c sh (asked q) (as_given g) (serve q g.run) in
      record {
        by = λ f.
            let e = ap (λ (d : Arenas.Given). finish H c sh (asked q) d (serve q d.run)) (offer-same h q (gives-fine sh.pages gs g.state f)) in
            record { heap = ap (λ a. with_pages a k.heap.holder k.heap) (gives_same sh.pages gs g.state f) ∙ ap (λ (p : Heaps.Outcome). p.heap) e; answer = ap (λ (p : Heaps.Outcome). p.answer) e };
      }

  class_same : (c : ℕ) (r : Request) → Follows (class_call size H m c r) (Heaps.class_call size H c r)
  unfolding class_call Heaps.class_call
  class_same c r = interact-same c (host_of r) (answer (shape_of c) (H.rules c) (H.classes c) r)

  -- the direct calls
  commit-call : (h n : ℕ) → Follows (commit_call size H m h n) (Heaps.commit_call size H h n)
  unfolding commit_call Heaps.commit_call
  commit-call h n = record {
    by = λ f.
        let e = commit-same size h n (begun H m) d f in
        record { heap = ap (λ (g : Arenas.Given). with_pages g.arena (pass_to direct (covers_run n g.run) H.holder) H) e; answer = ap (λ (g : Arenas.Given). answer_run g.run g.fresh) e };
  }

  grow-call : (h q old new : ℕ) → Follows (grow_call size H m h q old new) (Heaps.grow_call size H h q old new)
  unfolding grow_call Heaps.grow_call
  grow-call h q old new = record {
    by = λ f.
        let e = grow-same size h (q + old) (new - old) (begun H m) f in
        record { heap = ap (λ (g : Arenas.Grown). with_pages g.arena (pass_to direct (λ x. cond g.grew (covers (new - old) (q + old) x) 0) H.holder) H) e; answer = ap (λ (g : Arenas.Grown). Calls.grown g.grew) e };
  }

  release-call : (q n : ℕ) → Follows (release_call H m q n) (Heaps.release_call H q n)
  unfolding release_call Heaps.release_call
  release-call q n = record {
    by = λ f. record { heap = ap (λ a. with_pages a (pass_to nobody (covers n q) H.holder) H) (give-same n q (begun H m) (give-fine n q (begun H m) f).0); answer = refl };
  }

  direct-same : (x : Call) → Follows (direct_call size H m x) (Heaps.direct_call size H x)
  unfolding direct_call Heaps.direct_call
  direct-same (Calls.take_blocks c h l) = same m _
  direct-same (Calls.medium_take_blocks c h l) = same m _
  direct-same (Calls.release_blocks c h ws) = same m _
  direct-same (Calls.medium_release_blocks c h ws) = same m _
  direct-same (Calls.pooled_take c h l) = same m _
  direct-same (Calls.pooled_release c h ws) = same m _
  direct-same (Calls.release_bin_chunks c h ws gs fs) = same m _
  direct-same (Calls.commit h n) = search (follows-cond, same, commit-call) depth 9
  direct-same (Calls.grow_frontier h q old new) = search (follows-cond, same, grow-call) depth 9
  direct-same (Calls.release h q n) = search (follows-cond, same, release-call) depth 9
  direct-same (Calls.contains o b) = same m _
  direct-same Calls.report = same m _

  route-same : (x : Call) (w : Way) → Follows (route size H m x w) (Heaps.route size H x w)
  route-same x turned = same m _
  route-same x straight = direct-same x
  route-same x (to_class k) = class_same k.class k.request

  step_same : (x : Call) → Follows (step size H m x) (Heaps.step size H x)
  unfolding step Heaps.step
  step_same x = route-same x (way_of x)

-- along a history
record Along (size : ℕ) (H : Heap) (m : Memory) (xs : List Call) : Type 0 where
  answers : answers_from size H m xs ≡ map (λ e. e.answer) (events_from size H xs)
  heap : heap_from size H m xs ≡ Histories.heap_from size H xs

module _ (size : ℕ) where
  along : (n : ℕ) (H : Heap) (es : List Entry) (f : ℕ → Bool) (l : ℕ → ℕ) → Inv size n H es f l → Tidy H.arena.store → (m : Memory) (xs : List Call) → All (All Alike) (acts_from size H m xs) → Along size H m xs
  along n H es f l inv t m [] g = record { answers = refl; heap = refl }
  along n H es f l inv t m (x ∷ xs) g =
      let o = step size H m x in
      let p = Heaps.step size H x in
      let w = (step_same size H m (record { each = t.each; once = once-inv inv }) x).by g.0 in
      let rest : All (All Alike) (acts_from size p.heap o.memory xs) = subst (λ K. All (All Alike) (acts_from size K o.memory xs)) w.heap g.1 in
      let ih = along (suc n) p.heap _ _ _ (step-inv size n H es f l inv x) (tidy-step size H (once-inv inv) t x) o.memory xs rest in
      record {
        answers = ap₂ (λ z zs. z ∷ zs) w.answer (ap (λ K. answers_from size K o.memory xs) w.heap ∙ ih.answers);
        heap = ap (λ K. heap_from size K o.memory xs) w.heap ∙ ih.heap;
      }

  -- the answers to the first calls are those of the history that ends with them
  first-answers : (H : Heap) (m : Memory) (xs ys : List Call) → take (length xs) (answers_from size H m (xs ++ ys)) ≡ answers_from size H m xs
  first-answers H m [] ys = refl
  first-answers H m (x ∷ xs) ys = let o = step size H m x in ap (λ zs. o.answer ∷ zs) (first-answers o.heap o.memory xs ys)

  first-events : (H : Heap) (xs ys : List Call) → take (length xs) (map (λ e. e.answer) (events_from size H (xs ++ ys))) ≡ map (λ e. e.answer) (events_from size H xs)
  first-events H [] ys = refl
  first-events H (x ∷ xs) ys = let o = Heaps.step size H x in ap (λ zs. o.answer ∷ zs) (first-events o.heap xs ys)

  pub equality : (xs : List Call) → Equality size xs
  equality xs = record {
    answered = λ g. sym (by g).answers;
    before = λ ys g. first-events (new_heap plain_rules) xs ys ∙ sym (by g).answers ∙ sym (first-answers (new_heap plain_rules) no_memory xs ys);
    heap = λ g. sym (by g).heap;
  }
    where
      by : All (All Alike) (original_acts size xs) → Along size (new_heap plain_rules) no_memory xs
      by g = along 0 (new_heap plain_rules) [] (λ x. false) (λ x. 0) (start size plain_rules) (unfold new_heap in tidy-new) no_memory xs g
