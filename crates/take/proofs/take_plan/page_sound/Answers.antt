use Rattle.facts.proofs.Prelude.{arith, sym, ◌∙◌, false≢true}
use Rattle.std.proofs.lemmas.Grind.{common_steps}
use Rattle.calls.specs.Take.{sound}
use Rattle.take.proofs.PlanSteps.{run-there, run-free, run-carved, header_top_entries}
use Rattle.take.proofs.take_plan.page_sound.Goals as goal
use Rattle.take.proofs.take_plan.page_sound.Goals.{then-whole, else-whole}

pub page_ready-requires : goal.page_ready-requires
page_ready-requires c = search run-there

pub get-requires : goal.get-requires
get-requires c = search run-free

pub get-requires-then-page_ready : goal.get-requires-then-page_ready
get-requires-then-page_ready c = search run-carved

pub top_entries_below-requires : goal.top_entries_below-requires
top_entries_below-requires c =
    elim c.if-whole.branch [
      | then-whole w ↦ header_top_entries _ _ _ _ _ c.args.m _ _ _ _ c.requires c.whole.ensures w.if-whole.true w.page_ready.ensures (sym w.value-is ∙ c.if-page_ready.true) c.get.ensures
      | else-whole w ↦ absurd (false≢true (sym w.if-whole.false ∙ sym w.value-is ∙ c.if-page_ready.true))
    ]

pub returns-then-page_ready : goal.returns-then-page_ready
unfolding sound
returns-then-page_ready c = grind (arith, common_steps)

pub returns-else-page_ready : goal.returns-else-page_ready
unfolding sound
returns-else-page_ready c = grind (arith, common_steps)
