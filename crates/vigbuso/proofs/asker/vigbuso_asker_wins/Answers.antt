use Rattle.game.proofs.Answer.{ends_won, ends_refused}
use Rattle.vigbuso.proofs.asker.vigbuso_asker_wins.Goals as goal

pub returns-in-Ok : goal.returns-in-Ok
returns-in-Ok c = ends_won _ _ c.in-Ok.won _ c.from.ensures c.in-Ok.ensures

pub returns-in-Err : goal.returns-in-Err
returns-in-Err c = rw c.number.ensures (ends_refused _ _ c.in-Err.refusal c.in-Err.ensures)
