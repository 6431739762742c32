-- What the listing's code answers and leaves in the list, as a call tells it.
use Rattle.std.specs.Prelude.{ℕ, List, Result, Ok, Err}
use Rattle.words.specs.Refusal.{number_of}
use Rattle.words.specs.declared.refusal.Refusal.{Refusal}
use Rattle.listing.specs.Listing.{Listed, listed}

abbrev pub told : Result ℕ Refusal → List ℕ → Listed
told (Ok many) list = listed 0 list many
told (Err e) list = listed (number_of e) list 0
