-- What the code of a release returns, as the answer that it tells.
use Rattle.std.specs.Prelude.{Result, Ok, Err}
use Rattle.words.specs.declared.refusal.Refusal.{Refusal}
use Rattle.words.specs.Refusal.{number_of}
use Rattle.release.specs.declared.fates.Fate.{Fate}
use Rattle.release.specs.way.Fate.{fate_number}
use Rattle.release.specs.Answer.{Released}

abbrev pub told : Result Fate Refusal → Released
told (Ok f) = Released.Fate (fate_number f)
told (Err e) = Released.Refused (number_of e)
