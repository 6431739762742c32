-- Runs that wait in no list go to the arena one after the other: the whole book stands for the model's heap.
--     Acts          what a class's call settled, and the runs that it gives
--     all-given     the book after the gives
--     all_held      so many pages are held before them
use Rattle.facts.proofs.Prelude.{ℕ, ◌+◌, ◌*◌, ◌≤◌, arith, cond, List, [], ◌∷◌, ◌++◌, ◌≡◌, refl, sym, subst}
use Rattle.facts.proofs.Prelude.{fun_ext, eqb, length, eq-eqb, eqb-true, eqb-false, ne_eqb, update, by_cases}
use Rattle.model.specs.Cover.{covers, covers_all}
use Rattle.classes.specs.Shape.{shape_of}
use Rattle.classes.proofs.Shapes.{shape-sound}
use Rattle.fields.proofs.Changes.{changes-none}
use Rattle.model.specs.Page.{Page}
use Rattle.model.specs.Class.{Class, Result, lists}
use Rattle.model.specs.Arena.{give, give_all}
use Rattle.model.specs.Heap.{Holder, nobody, is_held, pass_to, held_pages}
use Rattle.arena.specs.Calls.{given}
use Rattle.calls.specs.Chunks.{give_runs}
use Rattle.refinement.specs.way.Represents.{firsts, Represents}
use Rattle.refinement.proofs.Frames.{of_class, Only}
use Rattle.refinement.proofs.ArenaReached.{heap_of, reached-classes, reached-give}
use Rattle.refinement.proofs.ArenaHeld.{held-less}
use Rattle.refinement.proofs.ArenaSteps.{rep-classes}
use Rattle.refinement.proofs.Book.{classes-with, represents-class, Stands, state-rep}
use Rattle.refinement.proofs.Found.{Away}
use Rattle.refinement.proofs.GiveRep.{run_ends}
use Rattle.refinement.proofs.GiveClass.{run-held, give-represents}

-- a class with the pages ps besides those that it has in no list
abbrev pub waiting : Class → List Page → Class
waiting s ps = lists s.partial s.empty s.cold (ps ++ s.full)

-- ---- what passes to nobody at once, and run by run
passed-twice : (a d : ℕ) (o : Holder) → cond (eqb d 0) (cond (eqb a 0) o nobody) nobody ≡ cond (eqb (a + d) 0) o nobody
passed-twice a d o =
    by_cases (eqb d 0)
    (λ e. let z = eqb-true d 0 e in by_cases (eqb a 0)
    (λ u. let y = eqb-true a 0 u in rw (e, u, eq-eqb (a + d) 0 (omega arith)))
    (λ u. let y = eqb-false a 0 u in rw (e, u, ne_eqb (a + d) 0 (λ x. y (omega arith)))))
    (λ e. let z = eqb-false d 0 e in rw (e, ne_eqb (a + d) 0 (λ x. z (omega arith))))

updated_twice : (f : ℕ → Class) (c : ℕ) (x y : Class) → update (update f c x) c y ≡ update f c y
updated_twice f c x y = fun_ext (λ d. by_cases (eqb d c) (λ e. rw e) (λ e. rw e))

module _ {n c : ℕ} where
  -- a class that has a page that waits, before and after it is given
  module _ (p : Page) (s : Class) {b : List ℕ} (B : Stands n b c (waiting s (p ∷ []))) where
    pub held : (x : ℕ) → covers (shape_of c).pages p.first x ≤ is_held (B.heap.holder x)
    held = run-held n b B.heap B.represents.arena (shape_of c) c p.first (state-rep B).fulls.0.holds.run

    unfoldable pub next : Stands n (given b p.first (shape_of c).pages) c s
    next =
        let H = B.heap in
        let m = (shape_of c).pages in
        record {
          heap = heap_of H.rules (give m p.first H.arena) (pass_to nobody (covers m p.first) H.holder) (update H.classes c s);
          represents = give-represents n b H B.represents B.reached c B.row b (changes-none (of_class b c) b) s p (state-rep B);
          reached = reached-give n H B.reached p.first m (shape-sound c).paged held (update H.classes c s);
          row = B.row;
          state = rw (eq-eqb c c refl);
        }

    next-held : held_pages n B.heap ≡ held_pages n next.heap + (shape_of c).pages
    unfolding next
    next-held =
        let m = (shape_of c).pages in
        held-less n p.first m B.heap.holder
        (omega (arith, run_ends n b B.heap B.represents.arena B.reached p.first (shape_of c).pages (shape-sound c).paged held, B.reached.bound)) held

  gives-held : (ps : List Page) (s : Class) {b : List ℕ} (B : Stands n b c (waiting s ps)) → length ps * (shape_of c).pages ≤ held_pages n B.heap
  gives-held [] s B = omega arith
  gives-held (p ∷ ps) s B = let ih = gives-held ps s (next p (waiting s ps) B) in omega (arith, next-held p (waiting s ps) B)

  gives_represent : (ps : List Page) (s : Class) {b : List ℕ} (B : Stands n b c (waiting s ps))
      → (let H = B.heap in
      Represents n (give_runs b (shape_of c).pages (firsts ps))
      (heap_of H.rules (give_all (shape_of c).pages (firsts ps) H.arena) (pass_to nobody (covers_all (shape_of c).pages (firsts ps)) H.holder) (update H.classes c s)))
  unfolding next
  gives_represent [] s {b} B = record {
    arena = rep-classes n b B.heap (update B.heap.classes c s) B.represents.arena;
    classes = classes-with n b B.heap c s (state-rep B) (λ d hd ne. B.represents.classes d hd);
    rules = B.represents.rules;
  }
  gives_represent (p ∷ ps) s {b} B =
      let H = B.heap in
      let m = (shape_of c).pages in
      let qs = firsts ps in
      let b₁ = given b p.first m in
      let a₁ = give_all m qs (give m p.first H.arena) in
      let w₁ = pass_to nobody (covers_all m qs) (pass_to nobody (covers m p.first) H.holder) in
      subst (λ (w : ℕ → Holder). Represents n (give_runs b₁ m qs) (heap_of H.rules a₁ w (update H.classes c s)))
      (fun_ext (λ x. passed-twice (covers m p.first x) (covers_all m qs x) (H.holder x)))
      (subst (λ (f : ℕ → Class). Represents n (give_runs b₁ m qs) (heap_of H.rules a₁ w₁ f)) (updated_twice H.classes c (waiting s ps) s) (gives_represent ps s (next p (waiting s ps) B)))

-- ---- after a call changed words of class c only: what it settled, and the runs for the arena, as the model has them
pub record Acts (n : ℕ) (b : List ℕ) (c : ℕ) (settled runs : List ℕ) (r : Result) : Type 0 where
  pub pages : List Page
  pub rep : Away n settled c (shape_of c) r.class pages
  pub only : Only c b settled
  pub gives : runs ≡ r.gives
  pub named : firsts pages ≡ r.gives

module _ {n : ℕ} {b : List ℕ} {c : ℕ} {t : Class} (B : Stands n b c t) {settled runs : List ℕ} {r : Result} (a : Acts n b c settled runs r) where
  -- before the gives
  unfoldable pub left : Stands n settled c (waiting r.class a.pages)
  left =
      let H = B.heap in
      let cs = update H.classes c (waiting r.class a.pages) in
      record {
        heap = heap_of H.rules H.arena H.holder cs;
        represents = represents-class n b H B.represents B.reached settled c (waiting r.class a.pages) a.only a.rep;
        reached = reached-classes n H B.reached cs;
        row = B.row;
        state = rw (eq-eqb c c refl);
      }

  pub all_held : length a.pages * (shape_of c).pages ≤ held_pages n B.heap
  unfolding left
  all_held = gives-held a.pages r.class left

  pub all-given : (let H = B.heap in
      let m = (shape_of c).pages in
      Represents n (give_runs settled m runs) (heap_of H.rules (give_all m r.gives H.arena) (pass_to nobody (covers_all m r.gives) H.holder) (update H.classes c r.class)))
  unfolding left
  all-given =
      let H = B.heap in
      let m = (shape_of c).pages in
      let qs = firsts a.pages in
      rw (a.gives, sym a.named)
      (subst (λ (f : ℕ → Class). Represents n (give_runs settled m qs) (heap_of H.rules (give_all m qs H.arena) (pass_to nobody (covers_all m qs) H.holder) f))
      (updated_twice H.classes c (waiting r.class a.pages) r.class) (gives_represent a.pages r.class left))
