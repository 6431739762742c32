-- Exchanges of neighbouring calls, any number of them, leave the same book and what each class was answered (document 02, A.14).
use Rattle.facts.proofs.Prelude.{ℕ, false, List, [], ◌∷◌, ◌++◌, append_assoc, none, some, ◌≡◌, refl, sym, ap, ◌∙◌, eqb, eqb-true, eqb-false, ne_eqb, by_cases}
use Rattle.model.specs.Calls.{Call, Answer, Named, names}
use Rattle.model.specs.History.{Event, is_of, answers_of}
use Rattle.vigbuso.specs.Direct.{open_on}
use Rattle.refinement.specs.Run.{replies_from, book_from}
use Rattle.demands.specs.Call.{call}
use Rattle.demands.specs.Run.{answered}
use Rattle.demands.specs.Start.{Start, pages, rule_rows, lent, begun, did, Starts, calls, book_after, next, observed}
use Rattle.demands.specs.ChangePlaces.{Swapped}
use Rattle.demands.specs.Reorders.{Reorders, same, exchange, Reordered}
use Rattle.demands.proofs.Histories.{book-split}
use Rattle.demands.proofs.Starts.{as_opening, observed-is}
use Rattle.demands.proofs.ChangePlaces.{change_places}

-- ---- what is told of calls in turn from a book
abbrev observed_from : List ℕ → List Call → List Event
observed_from b xs = answered xs (replies_from call b xs)

abbrev event : Call → Answer → Event
event x a = record { call = x; answer = a; run = none }

observed-split : (b : List ℕ) (xs ys : List Call) → observed_from b (xs ++ ys) ≡ observed_from b xs ++ observed_from (book_from call b xs) ys
observed-split b [] ys = refl
observed-split b (x ∷ xs) ys = ap (λ (vs : List Event). event x (call b x).answer ∷ vs) (observed-split (call b x).book xs ys)

-- ---- a class's answers
answers-split : (c : ℕ) (us vs : List Event) → answers_of c (us ++ vs) ≡ answers_of c us ++ answers_of c vs
answers-split c [] vs = refl
answers-split c (u ∷ us) vs =
    by_cases (is_of c (names u.call)) (λ e. rw e (ap (λ (zs : List Answer). u.answer ∷ zs) (answers-split c us vs))) (λ e. rw e (answers-split c us vs))

-- two neighbours of different classes: each class was answered the same
answers-swap : (c : ℕ) (x y : Call) (p q : Named) (a d : Answer) (vs : List Event) → names x ≡ some p → names y ≡ some q → eqb p.class q.class ≡ false
    → answers_of c (event x a ∷ event y d ∷ vs)
    ≡ answers_of c (event y d ∷ event x a ∷ vs)
answers-swap c x y p q a d vs ex ey ne =
    rw (ex, ey)
    (by_cases (eqb p.class c)
    (λ u. let other : eqb q.class c ≡ false = ne_eqb q.class c (λ z. eqb-false p.class q.class ne (eqb-true p.class c u ∙ sym z)) in rw (u, other))
    (λ u. by_cases (eqb q.class c) (λ v. rw (u, v)) (λ v. rw (u, v))))

module _ (s : Start) (o : Starts s) (xs : List Call) where
  -- a call after one more, on the book that this one leaves
  after_one : (x y : Call) → (next s (xs ++ x ∷ []) y).answer ≡ (call (next s xs x).book y).answer
  after_one x y = ap (λ (m : List ℕ). (call m y).answer) (book-split (begun s) xs (x ∷ []))

  observed-more : (ys : List Call) → observed s (xs ++ ys) ≡ observed s xs ++ observed_from (book_after s xs) ys
  observed-more ys =
      let begins = (open_on (lent s) (pages s) (rule_rows s)).book in
      observed-is s o (xs ++ ys)
      ∙ ap (observed_from begins) (sym (append_assoc (did s) xs ys))
      ∙ observed-split begins (calls s xs) ys
      ∙ ap (λ (vs : List Event). vs ++ observed_from (book_from call begins (calls s xs)) ys) (sym (observed-is s o xs))
      ∙ ap (λ (m : List ℕ). observed s xs ++ observed_from m ys) (sym (as_opening s o xs).book)

  class-observed : (c : ℕ) (ys : List Call) → answers_of c (observed s (xs ++ ys)) ≡ answers_of c (observed s xs) ++ answers_of c (observed_from (book_after s xs) ys)
  class-observed c ys = ap (answers_of c) (observed-more ys) ∙ answers-split c (observed s xs) (observed_from (book_after s xs) ys)

  exchanged : (x y : Call) (p q : Named) (zs : List Call) → names x ≡ some p → names y ≡ some q → eqb p.class q.class ≡ false → Swapped s xs x y
      → (c : ℕ) → answers_of c (observed s (xs ++ x ∷ y ∷ zs)) ≡ answers_of c (observed s (xs ++ y ∷ x ∷ zs))
  exchanged x y p q zs ex ey ne w c =
      let m = book_after s xs in
      let first : (call m x).answer ≡ (call (call m y).book x).answer = w.first ∙ after_one y x in
      let second : (call (call m x).book y).answer ≡ (call m y).answer = sym (after_one x y) ∙ w.second in
      let books : (call (call m x).book y).book ≡ (call (call m y).book x).book
      = sym (book-split (begun s) xs (x ∷ y ∷ [])) ∙ w.book [] ∙ book-split (begun s) xs (y ∷ x ∷ []) in
      rw (class-observed c (x ∷ y ∷ zs), class-observed c (y ∷ x ∷ zs))
      (ap (λ (ws : List Answer). answers_of c (observed s xs) ++ ws)
      (ap (λ (d : Answer). answers_of c (event x (call m x).answer ∷ event y d ∷ observed_from (call (call m x).book y).book zs)) second
      ∙ ap (λ (a : Answer). answers_of c (event x a ∷ event y (call m y).answer ∷ observed_from (call (call m x).book y).book zs)) first
      ∙ ap (λ (k : List ℕ). answers_of c (event x (call (call m y).book x).answer ∷ event y (call m y).answer ∷ observed_from k zs)) books
      ∙ answers-swap c x y p q (call (call m y).book x).answer (call m y).answer (observed_from (call (call m y).book x).book zs) ex ey ne))

pub reordered : (s : Start) → Starts s → (xs ys : List Call) → Reorders s xs ys → Reordered s xs ys
reordered s o xs ys (same us) = record { book = refl; answers = λ c. refl }
reordered s o us ys (exchange xs x y p q zs ws ex ey ne one r) =
    let w = change_places s o xs x y p q ex ey ne one in
    let ih = reordered s o (xs ++ y ∷ x ∷ zs) ys r in
    record { book = w.book zs ∙ ih.book; answers = λ c. exchanged s o xs x y p q zs ex ey ne w c ∙ ih.answers c }
