-- A history on the words is the model's.
--     run_is            the replies of `run` are the refinement's, from an unrefused opening on any book
--     run-answers       its answers are the model's
--     run-valid         number 13 is never among its codes
--     run-represents    the book after it stands for the model's heap after it
--     run-calls         each reply is the reply to the next call after the history before it
use Rattle.facts.proofs.Prelude.{ℕ, ◌≤◌, true, List, [], ◌∷◌, ◌++◌, ◌≡◌, refl, sym, ap, ◌∙◌, subst, leb, length, le-leb, All}
use Rattle.rules.specs.Rules.{Rules, rules_of, Fit}
use Rattle.rules.proofs.Cover.{rules-fit}
use Rattle.fields.specs.Field.{words}
use Rattle.fields.specs.Ranges.{max_pages}
use Rattle.model.specs.Calls.{Call}
use Rattle.model.specs.Heap.{Heap, step, new_heap}
use Rattle.model.specs.History.{heap_after, answers}
use Rattle.arena.specs.Open.{opened}
use Rattle.vigbuso.specs.Direct.{open_on}
use Rattle.refinement.specs.way.Represents.{Represents}
use Rattle.refinement.specs.Direct.{Reply, Agrees}
use Rattle.refinement.specs.Run.{call_reply, replies_from, book_from, answers_in}
use Rattle.refinement.proofs.ArenaReached.{heap-next}
use Rattle.refinement.proofs.OpenRep.{opened-represents}
use Rattle.refinement.proofs.Whole as Whole
use Rattle.refinement.proofs.Whole.{call-whole}
use Rattle.demands.specs.Call.{call}
use Rattle.demands.specs.Run.{Opens, run, book_after, next}
use Rattle.demands.proofs.Calls.{room, opened-by, call-is}

-- the calls xs, on a book that stands for the heap after the history ys
record Same (n : ℕ) (b : List ℕ) (xs : List Call) : Type 0 where
  replies : replies_from call b xs ≡ replies_from (call_reply n) b xs
  book : book_from call b xs ≡ book_from (call_reply n) b xs

module _ (n : ℕ) (some-pages : 1 ≤ n) (few-pages : n ≤ max_pages) (rules : Rules) where
  same : (xs ys : List Call) (b : List ℕ) → Represents n b (heap_after n rules ys) → Same n b xs
  same [] ys b R = record { replies = refl; book = refl }
  same (x ∷ xs) ys b R =
      let e = call-is n b some-pages few-pages (heap_after n rules ys) R x in
      let b₁ = (call_reply n b x).book in
      let g : heap_after n rules (ys ++ x ∷ []) ≡ (step n (heap_after n rules ys) x).heap = heap-next n (new_heap rules) ys x in
      let R₁ : Represents n b₁ (heap_after n rules (ys ++ x ∷ [])) = subst (λ (H : Heap). Represents n b₁ H) (sym g) (call-whole n few-pages rules ys b R x).heap in
      let ih = same xs (ys ++ x ∷ []) b₁ R₁ in
      record {
        replies = ap (λ (r : Reply). r ∷ replies_from call r.book xs) e ∙ ap (λ (rs : List Reply). call_reply n b x ∷ rs) ih.replies;
        book = ap (λ (r : Reply). book_from call r.book xs) e ∙ ih.book;
      }

module _ (n : ℕ) (rows b : List ℕ) (o : Opens n rows b) (xs : List Call) where
  fit : (c : ℕ) → Fit (rules_of rows c)
  fit = rules-fit rows (room n rows b o).ruled

  long : leb (words n) (length b) ≡ true
  long = le-leb (words n) (length b) (room n rows b o).long

  whole : Same n (open_on b n rows).book xs
  whole =
      let r = room n rows b o in
      subst (λ (d : List ℕ). Same n d xs) (sym (opened-by n rows b o)) (same n r.some-pages r.few-pages (rules_of rows) xs [] (opened n (rules_of rows) b) (opened-represents n (rules_of rows) b long fit))

  pub run_is : run n rows b xs ≡ replies_from (call_reply n) (opened n (rules_of rows) b) xs
  run_is = whole.replies ∙ ap (λ (d : List ℕ). replies_from (call_reply n) d xs) (opened-by n rows b o)

  pub book-is : book_after n rows b xs ≡ book_from (call_reply n) (opened n (rules_of rows) b) xs
  book-is = whole.book ∙ ap (λ (d : List ℕ). book_from (call_reply n) d xs) (opened-by n rows b o)

  pub run-answers : answers_in (run n rows b xs) ≡ answers n (rules_of rows) xs
  run-answers = ap answers_in run_is ∙ Whole.run-answers n (room n rows b o).few-pages (rules_of rows) fit b long xs

  pub run-valid : All (λ (r : Reply). r.code ≡ 13 → ⊥) (run n rows b xs)
  run-valid = rw run_is (Whole.run-valid n (room n rows b o).few-pages (rules_of rows) fit b long xs)

  pub run-represents : Represents n (book_after n rows b xs) (heap_after n (rules_of rows) xs)
  run-represents = rw book-is (Whole.run-represents n (room n rows b o).few-pages (rules_of rows) fit b long xs)

  -- one more call
  pub next-is : (x : Call) → next n rows b xs x ≡ call_reply n (book_after n rows b xs) x
  next-is x = call-is n (book_after n rows b xs) (room n rows b o).some-pages (room n rows b o).few-pages (heap_after n (rules_of rows) xs) run-represents x

  pub next-agrees : (x : Call) → Agrees (Represents n) (next n rows b xs x) (step n (heap_after n (rules_of rows) xs) x)
  next-agrees x = rw next-is (call-whole n (room n rows b o).few-pages (rules_of rows) xs (book_after n rows b xs) run-represents x)

-- every reply of a history is one of those
replies-split : (b : List ℕ) (xs : List Call) (x : Call) (ys : List Call) → replies_from call b (xs ++ x ∷ ys) ≡ replies_from call b xs ++ (call (book_from call b xs) x ∷ replies_from call (call (book_from call b xs) x).book ys)
replies-split b [] x ys = refl
replies-split b (y ∷ xs) x ys = ap (λ (rs : List Reply). call b y ∷ rs) (replies-split (call b y).book xs x ys)

-- and the book after more calls
pub book-split : (b : List ℕ) (xs ys : List Call) → book_from call b (xs ++ ys) ≡ book_from call (book_from call b xs) ys
book-split b [] ys = refl
book-split b (x ∷ xs) ys = book-split (call b x).book xs ys

pub run-calls : (n : ℕ) (rows b : List ℕ) (xs : List Call) (x : Call) (ys : List Call) → run n rows b (xs ++ x ∷ ys) ≡ run n rows b xs ++ (next n rows b xs x ∷ replies_from call (next n rows b xs x).book ys)
run-calls n rows b = replies-split (open_on b n rows).book
