-- Carving a run, and a new run from the arena.
use Rattle.std.specs.Prelude.{ℕ, ◌+◌, ◌*◌, ◌/◌, Bool, true, cond, List}
use Rattle.classes.specs.declared.Shape.{Shape}
use Rattle.fields.specs.Field.{page, free, carved, listed, virgin, put}
use Rattle.fields.specs.Clear.{clear_out, clear_marks}
use Rattle.model.specs.Page.{is_medium}
use Rattle.words.specs.Host.{digit}
use Rattle.pages.specs.Runs.{name_run}
use Rattle.pages.specs.Stack.{descending, push}

-- how many blocks are carved at once: a span's all, a small page's none
abbrev pub carved_at_once : Shape → ℕ
carved_at_once sh = cond (is_medium sh) sh.capacity 0

unfoldable pub carve_anew : List ℕ → Shape → ℕ → Bool → List ℕ
carve_anew b sh q v =
    put (put (put (push b q 0 (descending 0 (carved_at_once sh))) (page virgin q) (digit v)) (page carved q) (carved_at_once sh)) (page free q) (carved_at_once sh)

-- the words of out bits that blocks below the capacity have, and of marks
abbrev pub out_words : Shape → ℕ
out_words sh = (sh.capacity + 31) / 32

-- the blocks of the first k words are not out, and not marked
abbrev pub bare_bits : List ℕ → ℕ → ℕ → List ℕ
bare_bits b q k = clear_marks (clear_out b q 0 (32 * k)) q k

-- a run that the arena gave: it names its first page, no block is out or marked, and it is in no list
unfoldable pub bare_run : List ℕ → Shape → ℕ → List ℕ
bare_run b sh q = put (bare_bits (name_run b q q sh.pages) q (out_words sh)) (page listed q) 0

-- and it is carved
unfoldable pub new_run : List ℕ → Shape → ℕ → List ℕ
new_run b sh q = carve_anew (bare_run b sh q) sh q true
