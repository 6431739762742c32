-- Neighbouring calls on two classes, at most one of which reaches the arena, may change places.
use Rattle.facts.proofs.Prelude.{ℕ, false, [], ◌⊎◌, inl, inr, ◌≡◌, refl, sym, ap, ◌∙◌, eqb, update}
use Rattle.classes.specs.Shape.{shape_of}
use Rattle.model.specs.Calls.{Request, Answer, host_of}
use Rattle.model.specs.Class.{Class, Ask, done}
use Rattle.model.specs.Chunks.{answer}
use Rattle.model.specs.Heap.{Heap, Outcome, unchanged, class_call, interact, finish, offer}
use Rattle.model.specs.Demands.{Commute, StaysHome, stays}
use Rattle.model.proofs.Update.{other_way, update_other, update_swap}

-- a call that stays at home, as an equation
record AtHome (q : Ask) : Type 0 where
  class : Class
  answer : Answer
  is : q ≡ done (record { class = class; answer = answer; gives = [] })

at_home : {q : Ask} → StaysHome q → AtHome q
at_home (stays s a) = record { class = s; answer = a; is = refl }

-- the heap with another class c
abbrev put : Heap → ℕ → Class → Heap
put H c s = record { arena = H.arena; holder = H.holder; classes = update H.classes c s; rules = H.rules }

module _ (size : ℕ) where
  home-call : (H : Heap) (c : ℕ) (x : Request) (m : AtHome (answer (shape_of c) (H.rules c) (H.classes c) x)) → class_call size H c x ≡ unchanged (put H c m.class) m.answer
  unfolding class_call interact finish offer
  home-call H c x m = ap (interact size H c (host_of x)) m.is

  -- a call of class d does not see class c, and leaves it
  module _ (H : Heap) (c d : ℕ) (y : Request) (n : eqb c d ≡ false) where
    abbrev next : Heap
    next = (class_call size H d y).heap

    keeps-class : next.classes c ≡ H.classes c
    unfolding class_call interact finish
    keeps-class = update_other H.classes d c _ (other_way c d n)

    put-heap : (s : Class) → (class_call size (put H c s) d y).heap ≡ put next c s
    unfolding class_call interact finish
    put-heap s =
        ap (λ t. (interact size (put H c s) d (host_of y) (answer (shape_of d) (H.rules d) t y)).heap) (update_other H.classes c d s n)
        ∙ ap (λ f. with_classes f) (update_swap H.classes c d s _ n)
      where
        with_classes : (ℕ → Class) → Heap
        with_classes f = record { arena = next.arena; holder = next.holder; classes = f; rules = next.rules }

    put-answer : (s : Class) → (class_call size (put H c s) d y).answer ≡ (class_call size H d y).answer
    unfolding class_call interact finish
    put-answer s = ap (λ t. (interact size (put H c s) d (host_of y) (answer (shape_of d) (H.rules d) t y)).answer) (update_other H.classes c d s n)

  first_home : (H : Heap) (c d : ℕ) (x y : Request) → eqb c d ≡ false → AtHome (answer (shape_of c) (H.rules c) (H.classes c) x) → Commute size H c d x y
  unfolding class_call interact finish
  first_home H c d x y n m =
      let early = home-call H c x m in
      let late = home-call (next H c d y n) c x (record { class = m.class; answer = m.answer; is = ap (λ t. answer (shape_of c) (H.rules c) t x) (keeps-class H c d y n) ∙ m.is }) in
      record {
        heap = ap (λ (o : Outcome). (class_call size o.heap d y).heap) early ∙ put-heap H c d y n m.class ∙ ap (λ (o : Outcome). o.heap) (sym late);
        first = ap (λ (o : Outcome). o.answer) early ∙ ap (λ (o : Outcome). o.answer) (sym late);
        second = ap (λ (o : Outcome). (class_call size o.heap d y).answer) early ∙ put-answer H c d y n m.class;
      }

  turned : (H : Heap) (c d : ℕ) (x y : Request) → Commute size H d c y x → Commute size H c d x y
  turned H c d x y m = record { heap = sym m.heap; first = sym m.second; second = sym m.first }

  pub commute : (H : Heap) (c d : ℕ) (x y : Request) → eqb c d ≡ false
      → StaysHome (answer (shape_of c) (H.rules c) (H.classes c) x) ⊎ StaysHome (answer (shape_of d) (H.rules d) (H.classes d) y) → Commute size H c d x y
  commute H c d x y n (inl m) = first_home H c d x y n (at_home m)
  commute H c d x y n (inr m) = turned H c d x y (first_home H d c y x (other_way c d n) (at_home m))
