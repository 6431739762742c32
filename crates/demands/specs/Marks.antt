-- Document 02, A.3, on any book: what a call does to the words of marks. The book need not be reached from an opening, and the page need not be a class's
-- (`Repeats.Unmarked`). proofs/Marks proves it.
--     MarksStay    a call that is no take leaves each word of marks as it was; a take leaves it or makes it 0; so after every history it is 0 or as it was lent
use Rattle.std.specs.Prelude.{ℕ, ◌<◌, Bool, true, false, List, ◌⊎◌, ◌≡◌}
use Rattle.fields.specs.Field.{mark, get}
use Rattle.model.specs.Calls as Calls
use Rattle.model.specs.Calls.{Call}
use Rattle.vigbuso.specs.Direct.{open_on}
use Rattle.demands.specs.Call.{call}
use Rattle.demands.specs.Start.{Start, lent, book_after}

abbrev pub is_take_call : Call → Bool
is_take_call (Calls.take_blocks c h l) = true
is_take_call (Calls.medium_take_blocks c h l) = true
is_take_call (Calls.release_blocks c h ws) = false
is_take_call (Calls.medium_release_blocks c h ws) = false
is_take_call (Calls.pooled_take c h l) = true
is_take_call (Calls.pooled_release c h ws) = false
is_take_call (Calls.release_bin_chunks c h ws gs fs) = false
is_take_call (Calls.commit h n) = false
is_take_call (Calls.grow_frontier h q old new) = false
is_take_call (Calls.release h q n) = false
is_take_call (Calls.contains o b) = false
is_take_call Calls.report = false

-- word j of the marks of page p, of which a page has 128
abbrev pub LeftOrZero : List ℕ → List ℕ → ℕ → ℕ → Type 0
LeftOrZero b b' p j = (get b' (mark p j) ≡ get b (mark p j)) ⊎ (get b' (mark p j) ≡ 0)

pub record MarksStay : Type 0 where
  pub others : (b : List ℕ) (x : Call) → is_take_call x ≡ false → (p j : ℕ) → j < 128 → get (call b x).book (mark p j) ≡ get b (mark p j)
  pub takes : (b : List ℕ) (x : Call) → is_take_call x ≡ true → (p j : ℕ) → j < 128 → LeftOrZero b (call b x).book p j
  -- an opening leaves each
  pub opens : (n : ℕ) (rows b : List ℕ) (p j : ℕ) → j < 128 → get (open_on b n rows).book (mark p j) ≡ get b (mark p j)
  -- so after an opening or a trace, refused or not, and any calls each word of marks of each page, also of one that is no class's, is 0 or as it was lent
  pub history : (s : Start) (xs : List Call) (p j : ℕ) → j < 128 → LeftOrZero (lent s) (book_after s xs) p j
