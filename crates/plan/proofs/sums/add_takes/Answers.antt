use Rattle.facts.proofs.Prelude.{length-append}
use Rattle.std.proofs.lemmas.Slice.Zip.{zip_turn}
use Rattle.plan.proofs.AddSteps.{add-pre, add-next}
use Rattle.plan.proofs.sums.add_takes.Goals as goal

-- The pair at hand stands in the lists at the number of pairs so far.
pub add_entry-requires : goal.add_entry-requires
add_entry-requires c =
    let z = zip_turn c.args.sizes.now c.args.takes.now c.loop-size.yielded c.into_iter-size-iterator.result _ c.next.new.self _ (cc) (cc) c.loop-size.yielded_by _ c.in-Some.is c.next.ensures.steps in
    rw (z.3 0) (add-pre _ _ c.requires.fine _ _ c.loop-size.invariant z.0 _ (rw (← z.2 0) c.class_of.ensures))

pub loop-size-preserved : goal.loop-size-preserved
loop-size-preserved c =
    let z = zip_turn c.args.sizes.now c.args.takes.now c.loop-size.yielded c.into_iter-size-iterator.result _ c.next.new.self _ (cc) (cc) c.loop-size.yielded_by _ c.in-Some.is c.next.ensures.steps in
    simp length-append (add-next _ _ c.requires.fine _ _ c.loop-size.invariant z.0 _ _ (rw (← z.2 0) c.class_of.ensures) (rw (z.3 0) at c.add_entry.ensures))
