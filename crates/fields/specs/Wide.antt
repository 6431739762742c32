-- A count of 64 bits: its low and its high word.
use Rattle.std.specs.Prelude.{ℕ, ◌+◌, ◌*◌, ◌/◌, ◌%◌, ◌^◌, List}
use Rattle.fields.specs.Field.{ArenaField, arena, get, put}

abbrev pub get_wide : List ℕ → ArenaField → ArenaField → ℕ
get_wide b low high = get b (arena low) + get b (arena high) * 2 ^ 32

abbrev pub put_wide : List ℕ → ArenaField → ArenaField → ℕ → List ℕ
put_wide b low high v = put (put b (arena low) (v % 2 ^ 32)) (arena high) (v / 2 ^ 32)
