-- Where a run with no block out goes, and the fate that says so (document 01, "Blocks out and back").
--     destination_of      the destination, by the class's limits and the counts of its empty and cold runs
--     fate_of             the run's fate
--     retired            the fate of a run that was retired
use Rattle.std.specs.Prelude.{ℕ, suc, ◌+◌, ◌*◌, Bool, true, false, cond, ◌&&◌, leb, ltb}
use Rattle.classes.specs.declared.Shape.{Shape}
use Rattle.rules.specs.declared.Limits.{Limits}
use Rattle.model.specs.declared.Destination.{Destination}
use Rattle.model.specs.declared.Destination.TheVariants.{ToEmpty, ToCold, ToArena}
use Rattle.model.specs.Page.{is_medium}

-- "at most 4 empty, last in first out, then 256 cold, then given to the arena"; for spans "32 and 8 MiB". Since document 02, A.9, the
-- two counts are the limits of the class
abbrev pub keeps_empty : Shape → Limits → ℕ → Bool
keeps_empty sh lim e = ltb e lim.empty && leb (suc e * sh.pages) sh.emptypages

unfoldable pub destination_of : Shape → Limits → ℕ → ℕ → Destination
destination_of sh lim e k = cond (keeps_empty sh lim e) ToEmpty (cond (ltb k lim.cold) ToCold ToArena)

abbrev pub is_empty : Destination → Bool
is_empty ToEmpty = true
is_empty ToCold = false
is_empty ToArena = false

abbrev pub is_cold : Destination → Bool
is_cold ToEmpty = false
is_cold ToCold = true
is_cold ToArena = false

abbrev pub is_arena : Destination → Bool
is_arena ToEmpty = false
is_arena ToCold = false
is_arena ToArena = true

-- "Release answers each page's fate: 0 kept, 1 cold, 2 to the arena; plus 4 if retired." "For medium, cold counts as 0"
abbrev pub kept_fate : ℕ
kept_fate = 0

abbrev pub arena_fate : ℕ
arena_fate = 2

abbrev pub fate_of : Shape → Destination → ℕ
fate_of sh ToEmpty = kept_fate
fate_of sh ToCold = cond (is_medium sh) kept_fate 1
fate_of sh ToArena = arena_fate

abbrev pub retired : ℕ → ℕ
retired fate = 4 + fate
