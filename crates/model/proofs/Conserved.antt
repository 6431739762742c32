-- Every page is in exactly one place after every history.
use Rattle.facts.proofs.Prelude.{ℕ, ◌+◌, List, ◌≡◌}
use Rattle.classes.specs.Shape.{shape_of}
use Rattle.rules.specs.Rules.{Rules}
use Rattle.model.specs.Calls.{Call}
use Rattle.model.specs.Heap.{new_heap, is_held, is_direct}
use Rattle.model.specs.History.{events, heap_after}
use Rattle.model.specs.Entries.{direct_after}
use Rattle.model.specs.Ledger.{in_holes, above, runs_with, held_by, abandoned_from}
use Rattle.model.proofs.HeapLaws.{kept}

module _ (size : ℕ) (rules : Rules) (xs : List Call) where
  pub one_place : (x : ℕ) → is_held ((heap_after size rules xs).holder x) + in_holes x (heap_after size rules xs).arena + above (heap_after size rules xs).arena.frontier x + abandoned_from size (new_heap rules) xs x ≡ 1
  one_place = (kept size rules xs).inv.one

  pub one-run : (c x : ℕ) → runs_with (shape_of c) x ((heap_after size rules xs).classes c) ≡ held_by c ((heap_after size rules xs).holder x)
  one-run = (kept size rules xs).inv.mine

  pub observed-direct : (x : ℕ) → direct_after (events size rules xs) x ≡ is_direct ((heap_after size rules xs).holder x)
  observed-direct = (kept size rules xs).inv.directs
