-- A report's figures count the pages held, the idle ones, and those that are both (document 02, A.5).
use Rattle.facts.proofs.Prelude.{ℕ, ◌+◌, arith, List, ◌≡◌, refl, total, below}
use Rattle.rules.specs.Rules.{Rules}
use Rattle.model.specs.Calls.{Call}
use Rattle.model.specs.Heap.{Heap, new_heap, is_held, held_pages, figures}
use Rattle.model.specs.History.{heap_after}
use Rattle.model.specs.Ledger.{abandoned_from}
use Rattle.model.specs.Held.{parked_at, idle_at}
use Rattle.model.specs.Demands.{Figured}
use Rattle.model.proofs.Sums.{total_plus, total-same, ones_total}
use Rattle.model.proofs.ArenaLaws.{idle}
use Rattle.model.proofs.HeapLaws.{kept}
use Rattle.model.proofs.HistoryArena.{idle-after}
use Rattle.model.proofs.HeldPages.{held-history}
use Rattle.model.proofs.ParkedPages.{parked-held, parked-sum}

module _ (size : ℕ) (rules : Rules) (xs : List Call) where
  abbrev H : Heap
  H = heap_after size rules xs

  abbrev gone : ℕ → ℕ
  gone = abandoned_from size (new_heap rules) xs

  idle-sum : (figures size H).idle ≡ total (idle_at H) (below size)
  idle-sum = omega (arith, parked-sum size rules xs, idle-after size rules xs, total_plus (λ x. idle x H.arena) (parked_at H) (below size))

  -- every page is held, the arena's or abandoned
  whole : held_pages size H + total (λ x. idle x H.arena) (below size) + total gone (below size) ≡ size
  whole =
      omega (
        arith,
        total_plus (λ x. is_held (H.holder x) + idle x H.arena) gone (below size),
        total_plus (λ x. is_held (H.holder x)) (λ x. idle x H.arena) (below size),
        total-same (λ x. is_held (H.holder x) + idle x H.arena + gone x) (λ x. 1) (below size) (λ x. omega (arith, (kept size rules xs).inv.one x)),
        ones_total size,
      )

  pub figured : Figured size rules xs (figures size H)
  figured = record {
    held-history = held-history size rules xs;
    held-counts = refl;
    idle-counts = idle-sum;
    idle-once = λ x. omega (arith, parked-held size rules xs x, (kept size rules xs).inv.one x);
    overlap_counts = parked-sum size rules xs;
    overlap_both = λ x. omega (arith, parked-held size rules xs x, (kept size rules xs).inv.one x);
    arena-whole = omega (arith, whole, idle-after size rules xs);
  }
