use Rattle.facts.proofs.Prelude.{◌<◌, ◌≤◌, arith}
use Rattle.chunks.proofs.CountSteps.{past-none, names-it, no_chunk, other_page, its_page}
use Rattle.chunks.proofs.counts.chunk_of.Goals as goal
use Rattle.chunks.proofs.counts.chunk_of.Goals.{else-i-chunks-via-then-i-chunks+else-page-p, else-i-chunks-via-else-i-chunks}

pub returns-then-p-from : goal.returns-then-p-from
returns-then-p-from c =
    let h : c.args.n ≤ c.args.p = omega arith in
    past-none _ _ _ _ c.requires.few h

pub returns-then-page-p : goal.returns-then-page-p
returns-then-page-p c =
    let l : c.args.p < c.args.n = omega arith in (
      names-it _ _ c.args.chunks.now _ l _ c.get-i.ensures,
      its_page _ _ _ _ l _ c.get-i.ensures _ _ c.of.ensures c.page.ensures c.if-i-chunks.true c.if-page-p.true,
    )

pub returns-else-i-chunks : goal.returns-else-i-chunks
returns-else-i-chunks c =
    let l : c.args.p < c.args.n = omega arith in
    elim c.else-i-chunks.branch [
      | else-i-chunks-via-then-i-chunks+else-page-p w ↦ other_page _ _ _ _ l _ c.get-i.ensures _ _ w.of.ensures w.page.ensures w.if-page-p.false
      | else-i-chunks-via-else-i-chunks w ↦ no_chunk _ _ _ _ l _ c.get-i.ensures w.if-i-chunks.false
    ]
