-- A heap from which nothing was released, t c takes of each class c done: one more take.
use Rattle.facts.proofs.Prelude.{ℕ, suc, ◌+◌, ◌*◌, ◌≤◌, ◌<◌, arith, true, false, List, [], Option, none, some}
use Rattle.facts.proofs.Prelude.{◌≡◌, refl, sym, subst, eqb, eqb-true, lt-ltb, le-ltb, is_nil, update, by_cases}
use Rattle.words.specs.Host.{host_max, reservation_granted, commit_granted}
use Rattle.classes.specs.Shape.{shape_of}
use Rattle.classes.proofs.Shapes.{shape-sound}
use Rattle.rules.specs.Rules.{Rules}
use Rattle.model.specs.Calls as Calls
use Rattle.model.specs.Calls.{Call, names, blocks_of, to_class, way_of}
use Rattle.model.specs.Arena.{Given}
use Rattle.model.specs.Class.{Class, Result, Ask}
use Rattle.model.specs.Heap.{Heap, new_heap, Outcome, offer, finish, interact, class_call, step}
use Rattle.plan.specs.Plan.{class_count, pages_of}
use Rattle.plan.specs.Fits.{TakePre, Granted, small, medium, Gives}
use Rattle.plan.proofs.Rounding.{per, pages-same, pages-new}
use Rattle.plan.proofs.Takes.{At, spent, Takes, serves, wants, take-stands}
use Rattle.plan.proofs.Draws.{Fresh, Draws, suffices, short, commit-draws}
use Rattle.plan.proofs.PageSums.{bump, pages-bump, pages-none}

pub record HeapAt (n : ℕ) (f : ℕ → ℕ) (H : Heap) : Type 0 where
  pub classes : (c : ℕ) → At (shape_of c) (f c) (H.classes c)
  pub fresh : Fresh H.arena
  pub frontier : H.arena.frontier ≡ pages_of f
  pub within : H.arena.frontier ≤ n

pub data StepIs (n : ℕ) (f : ℕ → ℕ) (k : ℕ) (o : Outcome) : Type 0 where
  fits : pages_of (bump f k) ≤ n → Gives o.answer → HeapAt n (bump f k) o.heap → StepIs n f k o
  fails : n < pages_of (bump f k) → is_nil (blocks_of o.answer) ≡ true → StepIs n f k o

module _ (n : ℕ) (f : ℕ → ℕ) (H : Heap) (w : HeapAt n f H) (k : ℕ) (low : k < class_count) where
  others : (s : Class) → At (shape_of k) (suc (f k)) s → (c : ℕ) → At (shape_of c) (bump f k c) (update H.classes k s c)
  others s a c = by_cases (eqb c k) (λ e. rw e (subst (λ j. At (shape_of j) (suc (f k)) s) (sym (eqb-true c k e)) a)) (λ e. rw e (w.classes c))

  -- the class goes on with what the arena gave
  with-run : (j : Option ℕ → Result) (r : ℕ) → f k + 0 ≡ r * per (shape_of k) → is_nil (blocks_of (j none).answer) ≡ true
      → ((q : ℕ) → is_nil (blocks_of (j (some q)).answer) ≡ false) → ((q : ℕ) → (j (some q)).gives ≡ []) → ((q : ℕ) → At (shape_of k) (suc (f k)) (j (some q)).class)
      → (g : Given) → Draws n (shape_of k).pages H.arena g → StepIs n f k (finish H k (shape_of k) (shape_of k).pages g (j g.run))
  unfolding finish
  with-run j r e z y gs a g (suffices l i fr fresh) =
      let more : pages_of (bump f k) ≡ pages_of f + (shape_of k).pages = omega (arith, pages-bump f k low, pages-new k (f k) r e) in
      fits (omega (arith, w.frontier)) (rw i (y H.arena.frontier))
      (record {
        classes = rw i (others (j (some H.arena.frontier)).class (a H.arena.frontier));
        fresh = rw (i, gs H.arena.frontier) fresh;
        frontier = rw (i, gs H.arena.frontier) (omega (arith, w.frontier));
        within = rw (i, gs H.arena.frontier) (omega arith);
      })
  with-run j r e z y gs a g (short l i) =
      let more : pages_of (bump f k) ≡ pages_of f + (shape_of k).pages = omega (arith, pages-bump f k low, pages-new k (f k) r e) in
      fails (omega (arith, w.frontier)) (rw i z)

  asked_is : (h : ℕ) → reservation_granted h ≡ true → commit_granted h ≡ true → (q : Ask) → Takes (shape_of k) (shape-sound k) (f k) q → StepIs n f k (interact n H k h q)
  unfolding interact offer finish
  asked_is h rg cg q (serves {s = s} r u e l y gs a) =
      let more : pages_of (bump f k) ≡ pages_of f = omega (arith, pages-bump f k low, pages-same k (f k) r u e l) in
      fits (omega (arith, w.frontier, w.within)) y
      (record { classes = others s.class a; fresh = rw gs w.fresh; frontier = rw gs (omega (arith, w.frontier)); within = rw gs w.within })
  asked_is h rg cg q (wants {k = j} r e z y gs a) = with-run j r e z y gs a _ (commit-draws n h (shape_of k).pages rg cg H.arena w.fresh)

-- ---- a granted take: its class, and that the call goes there
pub record Named (x : Call) : Type 0 where
  pub class : ℕ
  pub host : ℕ
  pub list : List ℕ
  pub known : class < class_count
  pub pre : TakePre class host list
  pub named : names x ≡ some (record { class = class; request = Calls.take host list })
  pub way : way_of x ≡ to_class (record { class = class; request = Calls.take host list })

pub granted-names : (x : Call) → Granted x → Named x
unfolding way_of
granted-names x (small c h l k a) = record { class = c; host = h; list = l; known = omega arith; pre = a; named = rw (lt-ltb c 64 k); way = rw (le-ltb host_max h a.low, lt-ltb c 64 k) }
granted-names x (medium c h l k a) = record { class = 64 + c; host = h; list = l; known = omega arith; pre = a; named = rw (lt-ltb c 12 k); way = rw (le-ltb host_max h a.low, lt-ltb c 12 k) }

pub step_is : (n : ℕ) (f : ℕ → ℕ) (H : Heap) → HeapAt n f H → (x : Call) (g : Named x) → StepIs n f g.class (step n H x)
unfolding step class_call
step_is n f H w x g =
    rw g.way
    (asked_is n f H w g.class g.known g.host g.pre.reserves g.pre.commits _
    (take-stands (shape_of g.class) (shape-sound g.class) (H.rules g.class) (f g.class) g.host g.list (H.classes g.class) g.pre.long (w.classes g.class)))

-- a new heap
pub new-at : (n : ℕ) (rules : Rules) → HeapAt n (λ c. 0) (new_heap rules)
unfolding new_heap
new-at n rules = record { classes = λ c. spent 0 (omega arith); fresh = record { holes = refl; usable = refl }; frontier = sym pages-none; within = omega arith }
