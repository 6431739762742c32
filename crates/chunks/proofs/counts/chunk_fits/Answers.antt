use Rattle.facts.proofs.Prelude.{◌≡◌, not, ◌&&◌, eqb, get_or}
use Rattle.chunks.proofs.CountSteps.{one-fits, both-run, first_fails, count-other, count_same}
use Rattle.chunks.proofs.counts.chunk_fits.Goals as goal
use Rattle.chunks.proofs.counts.chunk_fits.Goals.{then-count-ne0, else-count-ne0}

pub chunk_page-requires : goal.chunk_page-requires
chunk_page-requires c = search one-fits

pub returns-then-count-counts : goal.returns-then-count-counts
returns-then-count-counts c =
    let d : c.if-count-ne0.value ≡ (not (eqb c.count-count.result 0) && eqb c.count-count.result (get_or c.args.counts.now c.args.i 0))
    = elim c.if-count-ne0.branch [
      | then-count-ne0 w ↦ both-run _ _ _ w.if-count-ne0.true w.value-is
      | else-count-ne0 w ↦ first_fails _ _ _ w.if-count-ne0.false w.value-is
    ] in
    count_same _ _ _ _ _ _ c.of.ensures c.count-count.ensures _ d c.if-count-counts.true _ _ c.chunk_page.ensures c.get.ensures

pub returns-else-count-counts : goal.returns-else-count-counts
returns-else-count-counts c =
    let d : c.if-count-ne0.value ≡ (not (eqb c.count-count.result 0) && eqb c.count-count.result (get_or c.args.counts.now c.args.i 0))
    = elim c.if-count-ne0.branch [
      | then-count-ne0 w ↦ both-run _ _ _ w.if-count-ne0.true w.value-is
      | else-count-ne0 w ↦ first_fails _ _ _ w.if-count-ne0.false w.value-is
    ] in
    count-other _ _ _ _ _ _ c.of.ensures c.count-count.ensures _ d c.if-count-counts.false
