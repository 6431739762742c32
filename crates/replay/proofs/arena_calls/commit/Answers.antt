use Rattle.replay.proofs.Made.{commit-made}
use Rattle.replay.proofs.arena_calls.commit.Goals as goal

pub returns : goal.returns
returns c =
    let ends = rw c.word.ensures at c.vigbuso_commit-code.ensures in
    commit-made c.args.answers.now ends c.low-first.ensures c.low-fresh.ensures c.from.ensures c.from-2.ensures c.from-3.ensures
