use Rattle.replay.proofs.Made.{grow-made}
use Rattle.replay.proofs.arena_calls.grow.Goals as goal

pub returns : goal.returns
returns c =
    let ends = rw c.word.ensures at c.vigbuso_grow_frontier-code.ensures in
    grow-made c.args.answers.now ends c.low-grown.ensures c.from.ensures c.from-2.ensures
