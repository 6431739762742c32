-- Where a listed word's block is, as the code finds it.
--     block_at     the index of the block of the run at q that the word is, or none
--     block_in     the same of a word of the class's kind
--     run_at       the first page of the class's run that has the word's granule, or none
--     find_out     the run and the index of the block that is out in the class and that the word is, or none
use Rattle.std.specs.Prelude.{ℕ, Bool, true, false, ◌&&◌, Option, Some, None, List}
use Rattle.classes.specs.declared.Shape.{Shape}
use Rattle.fields.specs.Field.{Field, out}
use Rattle.model.specs.Release.{of_kind}
use Rattle.pages.specs.Stack.{index_of, is_block}
use Rattle.calls.specs.Out.{start_of, in_run_of, out_at}
use Rattle.release.specs.declared.Place.{Place}

abbrev pub found : Bool → ℕ → Option ℕ
found true i = Some i
found false i = None

abbrev pub block_at : Shape → ℕ → ℕ → Option ℕ
block_at sh q w = found (is_block sh q w) (index_of sh q w)

abbrev pub block_in : Shape → ℕ → ℕ → Option ℕ
block_in sh q w = found (of_kind sh.kind w && is_block sh q w) (index_of sh q w)

abbrev pub run_at : ℕ → List ℕ → Shape → ℕ → ℕ → Option ℕ
run_at n b sh c w = found (in_run_of n b sh c w) (start_of b w)

abbrev pub out_as : Bool → ℕ → ℕ → Option Place
out_as true q i = Some (record { run = q; index = i })
out_as false q i = None

abbrev pub find_out : ℕ → List ℕ → ℕ → Shape → ℕ → Option Place
find_out n b c sh w = out_as (out_at n b c sh w) (start_of b w) (index_of sh (start_of b w) w)

-- the out bit of a word's block in the run at q
abbrev pub bit_in : Shape → ℕ → ℕ → Field
bit_in sh q w = out q (index_of sh q w)
