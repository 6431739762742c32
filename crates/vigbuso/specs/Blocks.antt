-- The exported takes and releases, by list and by groups, on any book, any numbers and any list: the answer, the book, the list and the
-- out-parameters afterwards, refusals included. Numbers 1 to 4 come first; then it is a call of the class, on an arena of the length
-- that the book holds.
use Rattle.std.specs.Prelude.{ℕ, ◌+◌, List, cond, ◌≡◌, eqb}
use Rattle.words.specs.Host.{digit}
use Rattle.classes.specs.declared.Shape.{Shape}
use Rattle.classes.specs.Shape.{shape_of}
use Rattle.fields.specs.Field.{arena, size, get}
use Rattle.calls.specs.Take as Heap
use Rattle.calls.specs.Take.{took_none, take_call}
use Rattle.take.specs.Answer.{Take, Refused, Took, answer_of}
use Rattle.calls.specs.Release as Back
use Rattle.calls.specs.Release.{released_none, release_blocks}
use Rattle.calls.specs.Chunks.{ChunksReleased, chunks_none, release_chunks}
use Rattle.release.specs.Answer.{Released, Fate, answer_as}
use Rattle.vigbuso.specs.Faults.{class_fault}

-- a take of class c among those of ids low to low + many - 1: 0 and 64 for the small ones, 64 and 12 for the medium ones; 76 and 76 for the pool's, which no function exports
unfoldable pub take_on : ℕ → ℕ → List ℕ → ℕ → ℕ → List ℕ → Heap.Took
take_on low many b c h l =
    cond (eqb (class_fault b h many c) 0)
    (take_call (get b (arena size)) b (low + c) (shape_of (low + c)) h l) (took_none b l (class_fault b h many c))

abbrev pub code_out : Take → ℕ
code_out (Refused k) = k
code_out (Took m v) = 0

abbrev pub count_out : Take → ℕ → ℕ
count_out (Refused k) old = old
count_out (Took m v) old = m

abbrev pub virgin_out : Take → ℕ → ℕ
virgin_out (Refused k) old = old
virgin_out (Took m v) old = digit v

abbrev pub answered : Heap.Took → Take
answered t = answer_of t.code t.count t.virgin

pub record TakeEnds (t : Heap.Took) (r : ℕ) (b l : List ℕ) (count₀ count' virgin₀ virgin' : ℕ) : Type 0 where
  pub code : r ≡ code_out (answered t)
  pub book : b ≡ t.book
  pub list : l ≡ t.list
  pub count : count' ≡ count_out (answered t) count₀
  pub virgin : virgin' ≡ virgin_out (answered t) virgin₀

-- ---- releases by list; `release` is the class's own
abbrev pub release_on_by : (ℕ → List ℕ → ℕ → Shape → ℕ → List ℕ → Back.Released) → ℕ → ℕ → List ℕ → ℕ → ℕ → List ℕ → Back.Released
release_on_by release low many b c h ws =
    cond (eqb (class_fault b h many c) 0)
    (release (get b (arena size)) b (low + c) (shape_of (low + c)) h ws) (released_none b (class_fault b h many c))

unfoldable pub release_on : ℕ → ℕ → List ℕ → ℕ → ℕ → List ℕ → Back.Released
release_on low many b c h ws = release_on_by release_blocks low many b c h ws

abbrev pub release_code : Released → ℕ
release_code (Released.Refused k) = k
release_code (Fate f) = 0

abbrev pub fate_out : Released → ℕ → ℕ
fate_out (Released.Refused k) old = old
fate_out (Fate f) old = f

pub record ReleaseEnds (o : Back.Released) (r : ℕ) (b : List ℕ) (fate₀ fate' : ℕ) : Type 0 where
  pub code : r ≡ release_code (answer_as o.code o.fate)
  pub book : b ≡ o.book
  pub fate : fate' ≡ fate_out (answer_as o.code o.fate) fate₀

-- ---- group releases, of small classes alone: gs are the groups, fs the lent fates
abbrev pub chunks_on_by : (ℕ → List ℕ → ℕ → Shape → ℕ → List ℕ → List ℕ → List ℕ → ChunksReleased) → List ℕ → ℕ → ℕ → List ℕ → List ℕ → List ℕ → ChunksReleased
chunks_on_by release b c h ws gs fs =
    cond (eqb (class_fault b h 64 c) 0)
    (release (get b (arena size)) b c (shape_of c) h ws gs fs) (chunks_none b fs (class_fault b h 64 c))

unfoldable pub chunks_on : List ℕ → ℕ → ℕ → List ℕ → List ℕ → List ℕ → ChunksReleased
chunks_on b c h ws gs fs = chunks_on_by release_chunks b c h ws gs fs

pub record ChunksEnds (o : ChunksReleased) (r : ℕ) (b fs : List ℕ) : Type 0 where
  pub code : r ≡ o.code
  pub book : b ≡ o.book
  pub fates : fs ≡ o.fates
