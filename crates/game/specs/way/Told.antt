-- What the game's code answers, as a call tells it.
use Rattle.std.specs.Prelude.{Bool, false, Result, Ok, Err}
use Rattle.words.specs.Refusal.{number_of}
use Rattle.words.specs.declared.refusal.Refusal.{Refusal}
use Rattle.game.specs.Game.{Played, played}

abbrev pub told : Result Bool Refusal → Played
told (Ok won) = played 0 won
told (Err e) = played (number_of e) false
