-- A line as it is read (src/line.rt): a number for each of its words.
--     low            the low half of a number
--     read_byte      a number with a byte more
--     put_at         where it is put
--     blank, with_byte, ended    a line before its first byte, with a byte more, at its end
use Rattle.std.specs.Prelude.{ℕ, ◌+◌, ◌*◌, ◌%◌, ◌^◌, cond, ◌&&◌, ◌||◌, List, replicate, ◌==◌, nat_le, nat_lt, slice_index, slice_set}
use Rattle.replay.specs.declared.line.Line.{Line}

abbrev pub low : ℕ → ℕ
low v = v % 4294967296

-- a blank (32) or a line's end (10) starts another number, a digit counts as one, of a name the first letter counts a hundred times its byte, each other one
unfoldable pub read_byte : ℕ → ℕ → ℕ
read_byte v b =
    cond (b == 32 || b == 10) 0
    (cond (nat_le 48 b && nat_le b 57) ((v % 1844674407370955162 * 10 + b % 48) % 2 ^ 64)
    (cond (v == 0) (b * 100) ((v + 1) % 2 ^ 64)))

-- a list with a number put at a place that it has
abbrev pub put_at : List ℕ → ℕ → ℕ → List ℕ
put_at l at v = cond (nat_lt at 4096) (slice_set l at v) l

abbrev pub put_byte : List ℕ → ℕ → ℕ → List ℕ
put_byte l at b = put_at l at (read_byte (slice_index l at) b)

unfoldable pub blank : Line
blank = record { numbers = replicate 4096 0; count = 0; equals = 0 }

-- a blank starts the next number; `=` (61) marks the place of the number that it is in
abbrev pub place_after : ℕ → ℕ → ℕ
place_after at b = cond (b == 32) ((at + 1) % 2 ^ 64) at

unfoldable pub with_byte : Line → ℕ → Line
with_byte l b =
    let at = place_after l.count b in
    record { numbers = put_byte l.numbers at b; count = at; equals = cond (b == 61) at l.equals }

-- its name is blank again; what later places hold stays
unfoldable pub ended : Line → Line
ended l = record { numbers = put_byte l.numbers 0 10; count = 0; equals = 0 }
