use Rattle.std.proofs.Common.{inl, inr}
use Rattle.facts.proofs.Prelude.{rules}
use Rattle.chunks.proofs.GiveLaws.{giving-none, giving-pre, giving-more, giving-done, fates-done}
use Rattle.chunks.proofs.gives.give_chunks.Goals as goal

pub loop-chunk-init : goal.loop-chunk-init
loop-chunk-init c = search (rules, giving-none)

pub give_chunk-requires : goal.give_chunk-requires
give_chunk-requires c = giving-pre _ _ _ _ _ _ _ _ c.loop-chunk.invariant _ _ _ _ c.in-Some.ensures.steps.0 c.in-Some.ensures.steps.1

pub loop-chunk-preserved : goal.loop-chunk-preserved
loop-chunk-preserved c = giving-more _ _ _ _ _ _ _ _ c.loop-chunk.invariant _ _ _ _ c.in-Some.ensures.steps.0 c.in-Some.ensures.steps.1 _ c.give_chunk.ensures

pub returns : goal.returns
returns c =
    elim c.in-None.ensures.steps [
      | inl h ↦ giving-done _ _ _ _ _ _ _ _ c.loop-chunk.invariant h.1.0
      | inr h ↦ fates-done _ _ _ _ _ _ _ _ c.loop-chunk.invariant h.1.0
    ]
