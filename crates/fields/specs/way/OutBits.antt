-- Out bits set, as those of blocks that a page carves, and 32 of them at once.
use Rattle.std.specs.Prelude.{ℕ, zero, suc, ◌+◌, ◌*◌, List, get_or, set}
use Rattle.std.specs.Int.Bits.{bit_xor}
use Rattle.fields.specs.Field.{out, put}

-- blocks i to i + k - 1 of page p are out
unfoldable pub set_out_run : List ℕ → ℕ → ℕ → ℕ → List ℕ
set_out_run b p i zero = b
set_out_run b p i (suc k) = put (set_out_run b p i k) (out p (i + k)) 1

-- the out bits of blocks 32 j to 32 j + 31 of page p are this word
abbrev pub out_word : ℕ → ℕ → ℕ
out_word p j = 40016 + 4112 * p + j

abbrev pub outs_at : List ℕ → ℕ → ℕ → ℕ
outs_at b p j = get_or b (out_word p j) 0

-- those at which x has a 1 change
abbrev pub flip_word : List ℕ → ℕ → ℕ → ℕ → List ℕ
flip_word b p j x = set b (out_word p j) (bit_xor (outs_at b p j) x)
