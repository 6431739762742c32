-- A release of one block that leaves others of its run out.
use Rattle.std.specs.Prelude.{◌≡◌, ℕ, ◌+◌, ◌/◌, ◌<◌, ◌≤◌, Bool, cond, not, ◌&&◌, List, [], ◌∷◌, length, ◌==◌}
use Rattle.words.specs.Limits.{class_rows}
use Rattle.classes.specs.declared.Shape.{Shape}
use Rattle.fields.specs.Field.{class, page, partial, out, mark, free, carved, get, words}
use Rattle.fields.specs.Ranges.{max_pages}
use Rattle.pages.specs.Stack.{back, index_of, is_block, page_slots}
use Rattle.model.specs.Release.{of_kind}
use Rattle.calls.specs.Out.{start_of, in_run_of}
use Rattle.calls.specs.Release.{release_valid, relisted}
use Rattle.release.specs.way.Pre.{ClassPre}

-- block i of the run at q is out, and its word of marks is 0
abbrev pub ready_at : List ℕ → ℕ → ℕ → Bool
ready_at b q i = get b (out q i) == 1 && get b (mark q (i / 32)) == 0

-- 13's last test passes for one block of the run at q, and others stay out
unfoldable pub stays_valid : ℕ → List ℕ → ℕ → Shape → ℕ → Bool
stays_valid n b c sh q = release_valid n b c sh 1 q && not (get b (page free q) + 1 == get b (page carved q))

abbrev pub back_ready : ℕ → List ℕ → ℕ → Shape → ℕ → ℕ → Bool
back_ready n b c sh q i = ready_at b q i && stays_valid n b c sh q

-- the word is such a block of the run at q; of the class's run that has its granule
abbrev pub one_in : ℕ → List ℕ → ℕ → Shape → ℕ → ℕ → Bool
one_in n b c sh q w = (of_kind sh.kind w && is_block sh q w) && back_ready n b c sh q (index_of sh q w)

abbrev pub one_ready : ℕ → List ℕ → ℕ → Shape → ℕ → Bool
one_ready n b c sh w = in_run_of n b sh c w && one_in n b c sh (start_of b w) w

-- block i of the run at q is back, and its page is in the partial list
abbrev pub back_book : List ℕ → ℕ → ℕ → ℕ → List ℕ
back_book b c q i = relisted (back b q (i ∷ [])) c q

pub record PutPre (b : List ℕ) (c q i : ℕ) : Type 0 where
  pub known : c < class_rows
  pub below : q < max_pages
  pub there : words (q + 1) ≤ length b
  pub head : words (get b (class partial c)) ≤ length b
  pub bit : i < page_slots
  pub room : get b (page free q) < page_slots
  pub out : get b (out q i) ≡ 1

pub record BackPre (n : ℕ) (b : List ℕ) (c : ℕ) (sh : Shape) (q i : ℕ) : Type 0 where
  pub class : ClassPre n b c sh
  pub inside : q + sh.pages ≤ n
  pub bit : i < page_slots

pub record BackOne (r : Bool) (b' : List ℕ) (n : ℕ) (b : List ℕ) (c : ℕ) (sh : Shape) (q i : ℕ) : Type 0 where
  pub answer : r ≡ back_ready n b c sh q i
  pub left : b' ≡ cond (back_ready n b c sh q i) (back_book b c q i) b

pub record OneIn (r : Bool) (b' : List ℕ) (n : ℕ) (b : List ℕ) (c : ℕ) (sh : Shape) (q w : ℕ) : Type 0 where
  pub answer : r ≡ one_in n b c sh q w
  pub left : b' ≡ cond (one_in n b c sh q w) (back_book b c q (index_of sh q w)) b

-- the release was carried out, or the book is as it was
pub record OneBack (r : Bool) (b' : List ℕ) (n : ℕ) (b : List ℕ) (c : ℕ) (sh : Shape) (w : ℕ) : Type 0 where
  pub answer : r ≡ one_ready n b c sh w
  pub left : b' ≡ cond (one_ready n b c sh w) (back_book b c (start_of b w) (index_of sh (start_of b w) w)) b
