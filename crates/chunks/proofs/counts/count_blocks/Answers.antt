use Rattle.facts.proofs.Prelude.{arith, take_all, length-drop}
use Rattle.chunks.proofs.CountSteps.{count-stops, index-low, index_in, count_fits, count-goes_on}
use Rattle.chunks.proofs.counts.count_blocks.Goals as goal

pub returns-in_default-chunk_of : goal.returns-in_default-chunk_of
returns-in_default-chunk_of c = count-stops _ _ _ _ _ _ _ c.loop-w.invariant _ _ c.in-Some.ensures.cases.0 _ c.page_at-p.ensures c.in_default-chunk_of.ensures

pub overflow_add-counts : goal.overflow_add-counts
overflow_add-counts c =
    let z = count_fits _ _ _ _ _ _ _ c.loop-w.invariant _ _ c.in-Some.ensures.cases.0 _ c.page_at-p.ensures _ c.in-Some-chunk_of.ensures.0 c.in-Some-chunk_of.ensures.1 _ c.run_on-run.ensures.run in
    omega (arith, z)

pub offset_bounds-counts-i : goal.offset_bounds-counts-i
offset_bounds-counts-i c =
    let z = index-low _ _ _ _ _ _ _ c.loop-w.invariant _ _ c.in-Some.ensures.cases.0 _ c.page_at-p.ensures _ c.in-Some-chunk_of.ensures.0 c.in-Some-chunk_of.ensures.1 in
    omega (arith, z)

pub bounds-counts-i : goal.bounds-counts-i
bounds-counts-i c = index_in _ _ _ _ _ _ _ c.loop-w.invariant _ _ c.in-Some.ensures.cases.0 _ c.page_at-p.ensures _ c.in-Some-chunk_of.ensures.0 c.in-Some-chunk_of.ensures.1 c.requires.room

pub overflow_add-counts-in-Some : goal.overflow_add-counts-in-Some
overflow_add-counts-in-Some c =
    let z = count_fits _ _ _ _ _ _ _ c.loop-w.invariant _ _ c.in-Some.ensures.cases.0 _ c.page_at-p.ensures _ c.in-Some-chunk_of.ensures.0 c.in-Some-chunk_of.ensures.1 _ c.run_on-run.ensures.run in
    omega (arith, z)

pub bounds-counts-i-in-Some : goal.bounds-counts-i-in-Some
bounds-counts-i-in-Some c = index_in _ _ _ _ _ _ _ c.loop-w.invariant _ _ c.in-Some.ensures.cases.0 _ c.page_at-p.ensures _ c.in-Some-chunk_of.ensures.0 c.in-Some-chunk_of.ensures.1 c.requires.room

pub loop-w-preserved : goal.loop-w-preserved
loop-w-preserved c =
    count-goes_on _ _ _ _ _ _ _ c.loop-w.invariant _ _ c.in-Some.ensures.cases.0 _ c.page_at-p.ensures _ c.in-Some-chunk_of.ensures.0 c.in-Some-chunk_of.ensures.1 _ c.run_on-run.ensures.run c.requires.room _
    (take_all _ _ (omega (arith, length-drop c.run_on-run.result c.in-Some.later.now)))
