use Rattle.release.proofs.OutSteps.{find-no_run, run-low, find-no_block, find-bit, find-not_out, find-is_out}
use Rattle.release.proofs.blocks.find_out.Goals as goal

pub returns-in_err-run : goal.returns-in_err-run
returns-in_err-run c = rw c.from_residual.ensures (search (find-no_run, c.in_err-run.ensures))

pub block_at-requires-clause-q_lt_max_pages : goal.block_at-requires-clause-q_lt_max_pages
block_at-requires-clause-q_lt_max_pages c = search (run-low, c.in_ok-run.ensures)

pub returns-in_err-index : goal.returns-in_err-index
returns-in_err-index c = rw c.from_residual-in_err-index.ensures (search (find-no_block, c.in_ok-run.ensures, c.in_err-index.ensures))

pub bit-requires : goal.bit-requires
bit-requires c = search (find-bit, c.in_ok-run.ensures, c.in_ok-index.ensures)

pub returns-then-bit-ne1 : goal.returns-then-bit-ne1
returns-then-bit-ne1 c = search (find-not_out, c.in_ok-run.ensures, c.in_ok-index.ensures)

pub returns : goal.returns
returns c = search (find-is_out, c.in_ok-run.ensures, c.in_ok-index.ensures)
