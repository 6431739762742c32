-- Opening: the arena's length, FORMAT, each class's limits, and 0 in all other words up to the last class row's, those that no call reads included; the
-- rest of the book stays as it was, whatever it holds, so that the cost is the same for every arena length.
use Rattle.std.specs.Prelude.{ℕ, zero, suc, List, set}
use Rattle.words.specs.Limits.{class_rows, book_format}
use Rattle.rules.specs.declared.Limits.{Limits}
use Rattle.rules.specs.Rules.{Rules}
use Rattle.fields.specs.Field.{arena, class, size, format, empty_limit, cold_limit, put}

-- the first k words 0
unfoldable pub cleared : List ℕ → ℕ → List ℕ
cleared b zero = b
cleared b (suc k) = set (cleared b k) k 0

-- the words before the holes: 160 of the arena, 8 of each of 152 classes
unfoldable pub head_words : ℕ
head_words = 1376

-- the limits of class c; of the first k classes
abbrev pub limited : List ℕ → ℕ → Limits → List ℕ
limited b c lim = put (put b (class empty_limit c) lim.empty) (class cold_limit c) lim.cold

unfoldable pub ruled : List ℕ → Rules → ℕ → List ℕ
ruled b rules zero = b
ruled b rules (suc k) = limited (ruled b rules k) k (rules k)

unfoldable pub opened : ℕ → Rules → List ℕ → List ℕ
opened n rules b = ruled (put (put (cleared b head_words) (arena size) n) (arena format) book_format) rules class_rows
