-- A page's fate by its number.
use Rattle.std.specs.Prelude.{ℕ}
use Rattle.release.specs.declared.fates.Fate.{Fate}
use Rattle.release.specs.declared.fates.Fate.TheVariants.{Kept, Cold, Arena}

abbrev pub fate_number : Fate → ℕ
fate_number Kept = 0
fate_number Cold = 1
fate_number Arena = 2
