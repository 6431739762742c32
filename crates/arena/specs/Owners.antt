-- Who holds each page, on the words.
use Rattle.std.specs.Prelude.{ℕ, zero, suc, ◌+◌, ◌-◌, List}
use Rattle.std.proofs.Math.Option.{Option, none, some}
use Rattle.fields.specs.Field.{page, owner, put}
use Rattle.model.specs.Heap.{Holder, nobody, direct, class}

-- OWNER: 0 nobody, 1 + the class's id, 153 the direct calls
abbrev pub owner_code : Holder → ℕ
owner_code nobody = 0
owner_code direct = 153
owner_code (class c) = suc c

-- the m pages from q on get an owner, the first one first
unfoldable pub own : List ℕ → ℕ → ℕ → ℕ → List ℕ
own b q zero w = b
own b q (suc m) w = own (put b (page owner q) w) (suc q) m w

-- the pages below a moved frontier are nobody's, whatever their words were
abbrev pub own_fresh : List ℕ → ℕ → ℕ → List ℕ
own_fresh b old new = own b old (new - old) 0

-- a run that was answered is the owner's, and counts as held
abbrev pub own_run : List ℕ → Option ℕ → ℕ → ℕ → List ℕ
own_run b none m w = b
own_run b (some q) m w = own b q m w

abbrev pub held_with : ℕ → Option ℕ → ℕ → ℕ
held_with k none m = k
held_with k (some q) m = k + m
