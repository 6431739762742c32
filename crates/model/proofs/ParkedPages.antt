-- Parked pages: one class holds a page at most, so a page is parked once at most, and then it is held.
use Rattle.facts.proofs.Prelude.{ℕ, zero, suc, ◌+◌, ◌*◌, ◌≤◌, arith, List, ◌≡◌, refl, sym, ◌∙◌, eqb, eqb-true, total, below, by_cases}
use Rattle.words.specs.Limits.{class_rows}
use Rattle.classes.specs.Shape.{shape_of}
use Rattle.rules.specs.Rules.{Rules}
use Rattle.model.specs.Cover.{covers}
use Rattle.model.specs.Calls.{Call}
use Rattle.model.specs.Page.{Page}
use Rattle.model.specs.Class.{Cold}
use Rattle.model.specs.Heap.{Heap, Holder, nobody, direct, class, is_held, parked_runs, parked_pages}
use Rattle.model.specs.History.{heap_after}
use Rattle.model.specs.Ledger.{held_by, above}
use Rattle.model.specs.Held.{parked_with, parked_at}
use Rattle.model.proofs.Sums.{zeros, total_plus, total-same, total-less, total-swap}
use Rattle.model.proofs.RunSums.{runs-sum}
use Rattle.model.proofs.Accounts.{held-le}
use Rattle.model.proofs.HeapLaws.{kept}

class-once : (d m : ℕ) → (total (λ c. held_by c (class d)) (below m) ≤ 1) × (m ≤ d → total (λ c. held_by c (class d)) (below m) ≡ 0)
class-once d zero = (omega arith, λ h. refl)
class-once d (suc m) =
    let ih = class-once d m in
    by_cases (eqb d m)
    (λ e. let k = eqb-true d m e in let z = ih.1 (omega arith) in rw e (omega arith, λ h. absurd (omega arith)))
    (λ e. rw e (omega (arith, ih.0), λ h. omega (arith, ih.1 (omega arith))))

holder-once : (o : Holder) (m : ℕ) → total (λ c. held_by c o) (below m) ≤ is_held o
holder-once nobody m = omega (arith, zeros (below m))
holder-once direct m = omega (arith, zeros (below m))
holder-once (class d) m = (class-once d m).0

module _ (size : ℕ) (rules : Rules) (xs : List Call) where
  abbrev H : Heap
  H = heap_after size rules xs

  parked-below : (x m : ℕ) → total (λ c. parked_with (shape_of c) x (H.classes c)) (below m) ≤ is_held (H.holder x)
  parked-below x m =
      omega (
        arith,
        holder-once (H.holder x) m,
        total-less (λ c. parked_with (shape_of c) x (H.classes c)) (λ c. held_by c (H.holder x)) (below m) (λ c. omega (arith, (kept size rules xs).inv.mine c x)),
      )

  pub parked-held : (x : ℕ) → parked_at H x ≤ is_held (H.holder x)
  unfolding parked_at
  parked-held x = parked-below x class_rows

  class-sum : (c : ℕ) → total (λ x. parked_with (shape_of c) x (H.classes c)) (below size) ≡ parked_runs (H.classes c) * (shape_of c).pages
  class-sum c =
      let s = H.classes c in
      let m = (shape_of c).pages in
      let f = H.arena.frontier in
      let low : (x : ℕ) → parked_with (shape_of c) x s + above f x ≤ 1 = λ x. omega (arith, (kept size rules xs).inv.mine c x, held-le c (H.holder x), (kept size rules xs).inv.one x) in
      omega (
        arith,
        total_plus (λ x. total (λ (p : Page). covers m p.first x) s.empty) (λ x. total (λ (p : Cold). covers m p.first x) s.cold) (below size),
        runs-sum size f (kept size rules xs).inv.bound (λ (p : Page). p.first) m s.empty (λ x. omega (arith, low x)),
        runs-sum size f (kept size rules xs).inv.bound (λ (p : Cold). p.first) m s.cold (λ x. omega (arith, low x)),
      )

  pub parked-sum : parked_pages (λ c. parked_runs (H.classes c)) ≡ total (parked_at H) (below size)
  unfolding parked_pages parked_at
  parked-sum =
      sym (total-swap (λ c x. parked_with (shape_of c) x (H.classes c)) (below class_rows) (below size)
      ∙ total-same (λ c. total (λ x. parked_with (shape_of c) x (H.classes c)) (below size)) (λ c. parked_runs (H.classes c) * (shape_of c).pages) (below class_rows) class-sum)
