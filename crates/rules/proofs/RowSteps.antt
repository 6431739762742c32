-- The functions on rule rows: the rows of a list, a test of each row, a test of each class.
use Rattle.facts.proofs.Prelude.{ℕ, zero, suc, ◌+◌, ◌*◌, ◌≤◌, ◌<◌, ◌/◌, arith, Bool, true, false, not, ◌&&◌, ◌||◌, List, [], ◌∷◌, map, ◌≡◌, refl, ap, ◌∙◌, leb, ltb, eqb, length, zero-add, ◌++◌, every, below, total, by_cases, sym, true≢false, eqb-true}
use Rattle.std.specs.List.{filter, list_all, list_any, range_with_len}
use Rattle.std.specs.Prelude.{Option, Some, None, MatchOption, is_none}
use Rattle.std.proofs.lemmas.Bool.Decides.{nat_tests}
use Rattle.std.specs.Simd.{first_chunks}
use Rattle.std.proofs.lemmas.List.Folds.{list_any-append}
use Rattle.words.specs.Host.{digit}
use Rattle.classes.specs.Shape.{class_count}
use Rattle.rules.specs.declared.Limits.{Limits}
use Rattle.rules.specs.declared.row.RuleRow.{RuleRow}
use Rattle.rules.specs.Rules.{rows_in, rows_on, rows_for, two_rows, no_row, spans, row_limits, limits_in, plain_limits}
use Rattle.rules.specs.way.Rows.{row_of, row_for}

rows_cut : (k : ℕ) (ws : List ℕ) → k * 4 ≤ length ws → length ws < k * 4 + 4 → map row_of (first_chunks 4 k ws) ≡ rows_in ws
unfolding rows_in
rows_cut zero [] l h = refl
rows_cut zero (a ∷ []) l h = refl
rows_cut zero (a ∷ b ∷ []) l h = refl
rows_cut zero (a ∷ b ∷ c ∷ []) l h = refl
rows_cut zero (a ∷ b ∷ c ∷ d ∷ ws) l h = absurd (omega arith)
rows_cut (suc k) [] l h = absurd (omega arith)
rows_cut (suc k) (a ∷ []) l h = absurd (omega arith)
rows_cut (suc k) (a ∷ b ∷ []) l h = absurd (omega arith)
rows_cut (suc k) (a ∷ b ∷ c ∷ []) l h = absurd (omega arith)
rows_cut (suc k) (a ∷ b ∷ c ∷ d ∷ ws) l h = ap (λ rs. record { first = a; last = b; empty = c; cold = d } ∷ rs) (rows_cut k ws (omega arith) (omega arith))

-- the words taken four at a time are the rows
pub rows_read : (ws : List ℕ) → map row_of (first_chunks 4 (length ws / 4) ws) ≡ rows_in ws
rows_read ws = rows_cut (length ws / 4) ws (omega arith) (omega arith)

-- a test of each
pub all_rows : (t : RuleRow → Bool) (ws : List (List ℕ)) → list_all (λ w. t (row_of w)) ws ≡ every t (map row_of ws)
all_rows t [] = refl
all_rows t (w ∷ ws) = rw (all_rows t ws)

range_last : (a n k : ℕ) → a + n ≡ k → range_with_len a (suc n) ≡ range_with_len a n ++ k ∷ []
range_last a zero k e = let z : a ≡ k = omega arith in rw z
range_last a (suc n) k e = ap (λ ks. a ∷ ks) (range_last (a + 1) n k (omega arith))

-- a test of each class
any-class : (t u : ℕ → Bool) (n : ℕ) → ((k : ℕ) → t k ≡ not (u k)) → list_any t (range_with_len 0 n) ≡ not (every u (below n))
any-class t u zero e = refl
any-class t u (suc n) e =
    let last : list_any t (range_with_len 0 (suc n)) ≡ list_any t (range_with_len 0 n ++ n ∷ []) = ap (list_any t) (range_last 0 n n (zero-add n)) in
    last ∙ list_any-append t (range_with_len 0 n) (n ∷ []) ∙ rw (any-class t u n e, e n) (turned (u n) (every u (below n)))
  where
    turned : (a b : Bool) → (not b || (not a || false)) ≡ not (a && b)
    turned true true = refl
    turned true false = refl
    turned false true = refl
    turned false false = refl

more_than : (n : ℕ) → ltb 1 n ≡ not (leb n 1)
more_than n = grind (arith, nat_tests)

one_at_least : (n : ℕ) → leb 1 (1 + n) ≡ true
one_at_least n = grind (arith, nat_tests)

none_of : (c : ℕ) (rs : List RuleRow) → is_none (row_for rs c) ≡ not (leb 1 (rows_on rs c))
none_of c [] = refl
none_of c (r ∷ rs) =
    by_cases (spans r c)
    (λ h. rw (h, one_at_least (rows_on rs c)))
    (λ h. rw (h, zero-add (rows_on rs c)) (none_of c rs))

pub any-two : (ws : List ℕ) → list_any (λ c. ltb 1 (rows_for ws c)) (range_with_len 0 class_count) ≡ two_rows ws
unfolding two_rows
any-two ws = any-class (λ c. ltb 1 (rows_for ws c)) (λ c. leb (rows_for ws c) 1) class_count (λ c. more_than (rows_for ws c))

pub two-given : (ws : List ℕ) (s : Bool) → s ≡ eqb (length ws) 0 → s ≡ true → false ≡ two_rows ws
unfolding two_rows rows_for rows_in
two-given [] s e h = refl
two-given (w ∷ ws) s e h = absurd (omega (arith, eqb-true (length (w ∷ ws)) 0 (sym e ∙ h)))

pub any-none : (ws : List ℕ) (s : Bool) → s ≡ eqb (length ws) 0 → s ≡ false → list_any (λ c. is_none (row_for (rows_in ws) c)) (range_with_len 0 class_count) ≡ no_row ws
unfolding no_row rows_for
any-none [] s e h = absurd (true≢false (sym e ∙ h))
any-none (w ∷ ws) s e h = any-class (λ c. is_none (row_for (rows_in (w ∷ ws)) c)) (λ c. leb 1 (rows_for (w ∷ ws) c)) class_count (λ c. none_of c (rows_in (w ∷ ws)))

pub none-given : (ws : List ℕ) (s : Bool) → s ≡ eqb (length ws) 0 → s ≡ true → false ≡ no_row ws
unfolding no_row
none-given [] s e h = refl
none-given (w ∷ ws) s e h = absurd (omega (arith, eqb-true (length (w ∷ ws)) 0 (sym e ∙ h)))

-- the rows that pass
pub count_rows : (t : RuleRow → Bool) (ws : List (List ℕ)) → length (filter (λ w. t (row_of w)) ws) ≡ total (λ r. digit (t r)) (map row_of ws)
count_rows t [] = refl
count_rows t (w ∷ ws) =
    by_cases (t (row_of w))
    (λ h. rw (h, count_rows t ws) (omega arith))
    (λ h. rw (h, count_rows t ws) (omega arith))

-- the first row of a class, or none
abbrev limits_by : ℕ → Option RuleRow → Limits
limits_by c None = plain_limits c
limits_by c (Some r) = row_limits r

limits-first : (c : ℕ) (rs : List RuleRow) → limits_by c (row_for rs c) ≡ limits_in rs c
limits-first c [] = refl
limits-first c (r ∷ rs) =
    by_cases (spans r c)
    (λ h. rw h)
    (λ h. rw h (limits-first c rs))

pub limits-found : (c : ℕ) (rs : List RuleRow) (o : Option RuleRow) (l : Limits) (D : Type 0) → o ≡ row_for rs c → MatchOption o D (λ r. l ≡ row_limits r) → (D → l ≡ plain_limits c)
    → l ≡ limits_in rs c
limits-found c rs None l D e m p = p m ∙ ap (limits_by c) e ∙ limits-first c rs
limits-found c rs (Some r) l D e m p = m ∙ ap (limits_by c) e ∙ limits-first c rs
