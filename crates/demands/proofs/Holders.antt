-- Which class has a page, told from the history: a page is a class's exactly if it is in a run that the class has.
--     run-holder      a page of a run that class c has is held by c
--     holder-run      a page that class c holds is in a run that c has
--     holder-low      and c is a class of the heap or of the pool
--     held_below      and the page is below the frontier, which is in the arena (`frontier-low`)
use Rattle.facts.proofs.Prelude.{ℕ, ◌+◌, ◌≤◌, ◌<◌, arith, true, cond, List, [], ◌∷◌, ◌≡◌, refl, sym, ap, ◌∙◌, eqb, leb, eqb-true, eq-eqb, leb-true, leb-false, ltb-true, total, by_cases}
use Rattle.words.specs.Limits.{class_rows}
use Rattle.classes.specs.declared.Shape.{Shape}
use Rattle.classes.specs.Shape.{shape_of}
use Rattle.classes.proofs.Shapes.{shape-sound}
use Rattle.rules.specs.Rules.{Rules}
use Rattle.model.specs.Cover.{in_run, covers}
use Rattle.model.specs.Calls.{Call}
use Rattle.model.specs.Page.{Page}
use Rattle.model.specs.Class.{Class, Cold}
use Rattle.model.specs.Heap.{Holder, nobody, direct, class, is_held}
use Rattle.model.specs.History.{Event, events, heap_after}
use Rattle.model.specs.Ledger.{runs_with, held_by}
use Rattle.model.specs.Offered.{HasRun}
use Rattle.model.proofs.Weights.{weigh}
use Rattle.model.proofs.RunsObserved.{each, weigh-on}
use Rattle.model.proofs.Offers.{run-counted, counted-run}
use Rattle.model.proofs.Theorems.{conserved}
use Rattle.refinement.proofs.ArenaHolders.{is_known, known-after}
use Rattle.refinement.proofs.ArenaReached as Reached

-- ---- a holder
pub owned : (c : ℕ) (h : Holder) → 1 ≤ held_by c h → h ≡ class c
owned c nobody l = absurd (omega arith)
owned c direct l = absurd (omega arith)
owned c (class d) l = by_cases (eqb d c) (λ e. ap class (eqb-true d c e)) (λ e. absurd (omega (arith, rw e at l)))

own : (c : ℕ) (h : Holder) → h ≡ class c → held_by c h ≡ 1
own c h e = rw (e, eq-eqb c c refl)

-- ---- of some runs of m pages one has page x: where it begins
record Begins (m x : ℕ) (starts : ℕ → ℕ) : Type 0 where
  at : ℕ
  page : in_run m at x ≡ true
  counted : 1 ≤ starts at

begins : {A : Type 0} (first : A → ℕ) (m x : ℕ) (ps : List A) → 1 ≤ total (λ p. covers m (first p) x) ps → Begins m x (λ q. total (λ p. cond (eqb (first p) q) 1 0) ps)
begins first m x [] l = absurd (omega arith)
begins first m x (p ∷ ps) l =
    by_cases (in_run m (first p) x)
    (λ e. record { at = first p; page = e; counted = rw (eq-eqb (first p) (first p) refl) (omega arith) })
    (λ e. let r = begins first m x ps (omega (arith, rw e at l)) in record { at = r.at; page = r.page; counted = omega (arith, r.counted) })

-- one of two counts
among : {m x : ℕ} {f g : ℕ → ℕ} (a b : ℕ) → 1 ≤ a + b → (1 ≤ a → Begins m x f) → (1 ≤ b → Begins m x g) → Begins m x (λ q. f q + g q)
among a b l r t =
    by_cases (leb 1 a)
    (λ e. let k = r (leb-true 1 a e) in record { at = k.at; page = k.page; counted = omega (arith, k.counted) })
    (λ e. let k = t (omega (arith, leb-false 1 a e)) in record { at = k.at; page = k.page; counted = omega (arith, k.counted) })

class-begins : (sh : Shape) (x : ℕ) (s : Class) → 1 ≤ runs_with sh x s → Begins sh.pages x (λ q. weigh sh q each s)
class-begins sh x s l =
    let page = begins (λ (p : Page). p.first) sh.pages x in
    among _ _ (omega arith) (λ a. among _ _ a (λ b. among _ _ b (page s.partial) (page s.full)) (page s.empty)) (begins (λ (k : Cold). k.first) sh.pages x s.cold)

-- ---- after a history
module _ (n : ℕ) (rules : Rules) (xs : List Call) where
  abbrev vs : List Event
  vs = events n rules xs

  abbrev holder : ℕ → Holder
  holder x = (heap_after n rules xs).holder x

  pub frontier-low : (heap_after n rules xs).arena.frontier ≤ n
  frontier-low = (Reached.reached-after n rules xs).bound

  module _ (c : ℕ) where
    pub run-holder : (q x : ℕ) → HasRun c q vs → in_run (shape_of c).pages q x ≡ true → holder x ≡ class c
    run-holder q x h e =
        let s = (heap_after n rules xs).classes c in
        owned c (holder x) (omega (arith, run-counted n rules xs c q h, weigh-on (shape_of c) (shape-sound c) q s x (rw e), (conserved n rules xs).classes c x))

    module _ (x : ℕ) (e : holder x ≡ class c) where
      pub holder-run : (q : ℕ) × HasRun c q vs × (in_run (shape_of c).pages q x ≡ true)
      holder-run =
          let s = (heap_after n rules xs).classes c in
          let r = class-begins (shape_of c) x s (omega (arith, (conserved n rules xs).classes c x, own c (holder x) e)) in
          (r.at, counted-run n rules xs c r.at r.counted, r.page)

      pub holder-low : c < class_rows
      holder-low = ltb-true c class_rows (sym (ap is_known e) ∙ (known-after n rules xs).at x)

      pub held_below : x < (heap_after n rules xs).arena.frontier
      held_below = Reached.held_below n (heap_after n rules xs) (Reached.reached-after n rules xs) x (omega (arith, ap is_held e))
