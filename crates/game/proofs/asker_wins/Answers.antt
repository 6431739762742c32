use Rattle.facts.proofs.Prelude.{sym}
use Rattle.game.proofs.Answer.{refused, answered}
use Rattle.game.proofs.asker_wins.Goals as goal

pub returns-then-bad_game : goal.returns-then-bad_game
returns-then-bad_game c = refused c.args.pages c.args.live c.args.moves (sym c.if-bad_game.ensures)

pub returns : goal.returns
returns c = answered c.args.pages c.args.live c.args.moves (sym c.if-bad_game.ensures) c.asker.result c.asker.ensures
