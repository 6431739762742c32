-- A chain of tests, each with a number that it answers, is a table of rows: one law for a test, and one for the tests of a book's
-- length. R is what a definition of a call yields, with its number and what its refusals keep.
use Rattle.facts.proofs.Prelude.{ℕ, arith, Bool, true, false, cond, not, ◌&&◌, ◌||◌, List, [], ◌∷◌, ◌≡◌, refl, eqb}
use Rattle.facts.proofs.Prelude.{ltb, leb, length, ltb-true, ltb-false, lt-leb, le-leb, eqb-true, eqb-false, by_cases}
use Rattle.fields.specs.Field.{words}
use Rattle.fields.specs.Ranges.{within, between, max_pages, length_fault}
use Rattle.demands.specs.Refusals.{bad_length, too_short, Row, first_number}

-- ---- tests
pub not_and : (x y : Bool) → not (x && y) ≡ (not x || not y)
not_and true y = refl
not_and false y = refl

pub le_not_lt : (m n : ℕ) → leb m n ≡ not (ltb n m)
le_not_lt m n = by_cases (ltb n m) (λ e. rw (e, lt-leb m n (ltb-true n m e))) (λ e. rw (e, le-leb m n (ltb-false n m e)))

sized : (n : ℕ) → within (between 1 max_pages) n ≡ not (bad_length n)
sized n =
    by_cases (eqb n 0)
    (λ e. rw (e, lt-leb 1 n (omega (arith, eqb-true n 0 e))))
    (λ e. rw (e, le-leb 1 n (let d = eqb-false n 0 e in omega arith)) (le_not_lt n max_pages))

-- ---- the chain
pub record Ends {R : Type 0} (code : R → ℕ) (Same : R → Type 0) (rows : List Row) (o : R) : Type 0 where
  pub number : code o ≡ first_number rows
  pub kept : (code o ≡ 0 → ⊥) → Same o

module _ {R : Type 0} (code : R → ℕ) (Same : R → Type 0) where
  -- no test is left
  pub ends : (o : R) → code o ≡ 0 → Ends code Same [] o
  ends o e = record { number = e; kept = λ d. absurd (d e) }

  -- a test that applies answers its number and keeps all; what comes next knows that it did not apply
  pub turn : (t : Bool) (k : ℕ) (rows : List Row) (x o : R) → code x ≡ k → Same x → (t ≡ false → Ends code Same rows o) → Ends code Same ((k, t) ∷ rows) (cond t x o)
  turn true k rows x o e s f = record { number = e; kept = λ d. s }
  turn false k rows x o e s f = let g = f refl in record { number = g.number; kept = g.kept }

  -- the same, tested the other way round
  pub unless : (t : Bool) (k : ℕ) (rows : List Row) (x o : R) → code x ≡ k → Same x → (t ≡ true → Ends code Same rows o) → Ends code Same ((k, not t) ∷ rows) (cond t o x)
  unless true k rows x o e s f = let g = f refl in record { number = g.number; kept = g.kept }
  unless false k rows x o e s f = record { number = e; kept = λ d. s }

  -- the test of a release's blocks: 13 for a mark, 15, 10
  pub out-turn : (u r o : Bool) (rows : List Row) (x : ℕ → R) (y : R) → ((k : ℕ) → code (x k) ≡ k) → ((k : ℕ) → Same (x k)) → Ends code Same rows y
      → (let k : ℕ = cond (not u) 13 (cond r 15 (cond (not o) 10 0)) in Ends code Same ((13, not u) ∷ (15, r) ∷ (10, not o) ∷ rows) (cond (not (eqb k 0)) (x k) y))
  out-turn false r o rows x y e s f = record { number = e 13; kept = λ d. s 13 }
  out-turn true true o rows x y e s f = record { number = e 15; kept = λ d. s 15 }
  out-turn true false false rows x y e s f = record { number = e 10; kept = λ d. s 10 }
  out-turn true false true rows x y e s f = record { number = f.number; kept = f.kept }

  -- numbers 1 and 2
  module _ (rows : List Row) (x : ℕ → R) (o : R) (e : (k : ℕ) → code (x k) ≡ k) (s : (k : ℕ) → Same (x k)) (f : Ends code Same rows o) where
    fault : (i j : Bool) → Ends code Same ((1, i) ∷ (2, j) ∷ rows) (cond (eqb (cond (not i) (cond (not j) 0 2) 1) 0) o (x (cond (not i) (cond (not j) 0 2) 1)))
    fault true j = record { number = e 1; kept = λ d. s 1 }
    fault false true = record { number = e 2; kept = λ d. s 2 }
    fault false false = record { number = f.number; kept = f.kept }

    pub book-turn : (n : ℕ) (b : List ℕ) → Ends code Same ((1, bad_length n) ∷ (2, too_short n b) ∷ rows) (cond (eqb (length_fault n (length b)) 0) o (x (length_fault n (length b))))
    book-turn n b = rw (sized n, le_not_lt (words n) (length b)) (fault (bad_length n) (too_short n b))

-- a test of number k after those of the number f: as numbers, and as the chain
pub chain : {R : Type 0} (f k : ℕ) (t : Bool) (x : ℕ → R) (o : R) → eqb k 0 ≡ false
    → cond (eqb (cond (eqb f 0) (cond t k 0) f) 0) o (x (cond (eqb f 0) (cond t k 0) f)) ≡ cond (eqb f 0) (cond t (x k) o) (x f)
chain f k true x o d = by_cases (eqb f 0) (λ e. rw (e, d)) (λ e. rw (e, e))
chain f k false x o d = by_cases (eqb f 0) (λ e. rw e) (λ e. rw (e, e))

-- one row alone, where a choice is made before its test
module _ {R : Type 0} (code : R → ℕ) (Same : R → Type 0) (k : ℕ) where
  pub choose : (t i j : Bool) (x y : R) → Ends code Same ((k, not i) ∷ []) x → Ends code Same ((k, not j) ∷ []) y → Ends code Same ((k, not (cond t i j)) ∷ []) (cond t x y)
  choose true i j x y f g = f
  choose false i j x y f g = g
