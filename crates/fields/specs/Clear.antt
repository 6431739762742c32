-- Out bits and words of marks cleared, as a page that comes from the arena has them.
use Rattle.std.specs.Prelude.{ℕ, zero, suc, ◌+◌, List}
use Rattle.fields.specs.Field.{mark, out, put}

-- blocks i to i + k - 1 of page p are not out
unfoldable pub clear_out : List ℕ → ℕ → ℕ → ℕ → List ℕ
clear_out b p i zero = b
clear_out b p i (suc k) = clear_out (put b (out p i) 0) p (i + 1) k

-- words 0 to m - 1 of the marks of page p are 0
unfoldable pub clear_marks : List ℕ → ℕ → ℕ → List ℕ
clear_marks b p zero = b
clear_marks b p (suc m) = put (clear_marks b p m) (mark p m) 0
