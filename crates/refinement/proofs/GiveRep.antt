-- A run that is held goes to the arena, on the words as in the model: from a class or from the direct calls.
--     give-rep      the book afterwards stands for the model's arena, and the run is nobody's
--     give-valid    number 13's test for it passes
use Rattle.facts.proofs.Prelude.{ℕ, ◌+◌, ◌-◌, ◌≤◌, arith, true, List, ◌≡◌, sym, subst}
use Rattle.model.specs.Cover.{covers}
use Rattle.fields.specs.Field.{arena, held, get, put}
use Rattle.model.specs.Arena.{give}
use Rattle.model.specs.Class.{Class}
use Rattle.model.specs.Heap.{Heap, nobody, is_held, pass_to, held_pages}
use Rattle.model.proofs.Runs.{covers_in}
use Rattle.model.proofs.ArenaTidy.{tidy-give}
use Rattle.model.proofs.ArenaLaws.{give-frontier}
use Rattle.arena.specs.Store.{store_arena}
use Rattle.arena.specs.Owners.{own}
use Rattle.arena.specs.Valid.{give_valid}
use Rattle.arena.specs.Calls.{given}
use Rattle.arena.specs.way.Represents.{ArenaRep}
use Rattle.refinement.proofs.ArenaStored.{once}
use Rattle.refinement.proofs.ArenaReached.{Reached, heap_of, held_below}
use Rattle.refinement.proofs.ArenaValid.{give-passes}
use Rattle.refinement.proofs.ArenaHeld.{held_of, held-less}
use Rattle.refinement.proofs.ArenaSteps.{Stands, rep-stands, stands-rep, store-stands, own-stands, held-stands}

module _ (n : ℕ) (b : List ℕ) (H : Heap) (rep : ArenaRep n b H) (r : Reached n H) (q m : ℕ) (one : 1 ≤ m) (holds : (x : ℕ) → covers m q x ≤ is_held (H.holder x)) where
  -- the run's last page is held, so below the frontier
  pub run_ends : q + m ≤ H.arena.frontier
  run_ends =
      let x = q + m - 1 in
      omega (arith, held_below n H r (q + m - 1) (omega (arith, holds (q + m - 1), covers_in m q (q + m - 1) (omega arith) (omega arith))))

  held-is : held_pages n H ≡ held_of n (pass_to nobody (covers m q) H.holder) + m
  held-is = held-less n q m H.holder (omega (arith, run_ends, r.bound)) holds

  pub give-valid : give_valid n b m ≡ true
  give-valid = give-passes n b H rep r m (omega (arith, held-is))

  pub give-rep : (cs : ℕ → Class) → ArenaRep n (given b q m) (heap_of H.rules (give m q H.arena) (pass_to nobody (covers m q) H.holder) cs)
  unfolding given
  give-rep cs =
      let a = give m q H.arena in
      let f = H.arena.frontier in
      let k = held_pages n H in
      let w = pass_to nobody (covers m q) H.holder in
      let t = tidy-give m one q H.arena r.tidy in
      let s = store-stands n b H.arena H.holder f k (rep-stands n b H rep) a (store_arena b a) (once t.slots) in
      let o = own-stands n (store_arena b a) a H.holder f k s t.slots q m (omega (arith, run_ends, r.bound)) nobody in
      let p = held-stands n (own (store_arena b a) q m 0) a w f k o t.slots (get b (arena held) - m) in
      rw rep.loads
      (stands-rep n _ a w (get b (arena held) - m) cs (omega (arith, rep.held, held-is))
      (subst (λ y. Stands n (put (own (store_arena b a) q m 0) (arena held) (get b (arena held) - m)) a w y (get b (arena held) - m)) (sym (give-frontier m q H.arena)) p))
