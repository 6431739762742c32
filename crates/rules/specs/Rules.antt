-- Parking rules (document 02, A.9): how many runs a class parks, and the rule rows that an opening is given.
--     Rules, plain_rules    the limits of each class, by its id; those of document 01
--     rows_in               the rows of a list
--     rows_fault            number 19, 18 or 17 of a list, in that order, or 0
--     rules_of              the limits that a list gives each class
--     RowOf, RowsCover     row i of the list is one of class c; each class has just one, and its limits
-- A run is a page of a small class, a span of a medium one. Classes are numbered 0 to 75; ids from 76 on have the limits of id - 76.
use Rattle.std.specs.Prelude.{ℕ, ◌+◌, ◌*◌, ◌%◌, ◌≤◌, ◌<◌, Bool, cond, not, ◌&&◌, List, [], ◌∷◌, ◌≡◌, eqb, leb, ltb, length, get_or}
use Rattle.facts.specs.Lists.{is_nil, every, total, below}
use Rattle.words.specs.Host.{digit}
use Rattle.words.specs.Limits.{max_parked}
use Rattle.classes.specs.Shape.{class_count, number_of}
use Rattle.rules.specs.declared.Limits.{Limits}
use Rattle.rules.specs.declared.row.RuleRow.{RuleRow}

abbrev pub Rules : Type 0
Rules = ℕ → Limits

abbrev pub limits : ℕ → ℕ → Limits
limits e k = record { empty = e; cold = k }

-- "With no rows, 01's limits hold": 4 empty pages, 32 empty spans, 256 cold ones
abbrev pub plain_limits : ℕ → Limits
plain_limits c = cond (ltb c 64) (limits 4 256) (limits 32 256)

unfoldable pub plain_rules : Rules
plain_rules c = plain_limits (number_of c)

-- "A rule row is four 32-bit numbers: first class, last class .., empty limit 0 to 256 and cold limit 0 to 256."
unfoldable pub rows_in : List ℕ → List RuleRow
rows_in [] = []
rows_in (f ∷ []) = []
rows_in (f ∷ l ∷ []) = []
rows_in (f ∷ l ∷ e ∷ []) = []
rows_in (f ∷ l ∷ e ∷ k ∷ ws) = record { first = f; last = l; empty = e; cold = k } ∷ rows_in ws

-- the row is one of class c; how many the class has
abbrev pub spans : RuleRow → ℕ → Bool
spans r c = leb r.first c && leb c r.last

abbrev pub rows_on : List RuleRow → ℕ → ℕ
rows_on rs c = total (λ r. digit (spans r c)) rs

unfoldable pub rows_for : List ℕ → ℕ → ℕ
rows_for ws c = rows_on (rows_in ws) c

-- 19 "when the list isn't whole rows, a row's limit exceeds 256 or its last class is below its first or above 75"
abbrev pub limits_fit : RuleRow → Bool
limits_fit r = leb r.empty max_parked && leb r.cold max_parked

abbrev pub good_row : RuleRow → Bool
good_row r = limits_fit r && (leb r.first r.last && ltb r.last class_count)

unfoldable pub bad_rows : List ℕ → Bool
bad_rows ws = not (eqb (length ws % 4) 0 && every good_row (rows_in ws))

-- 18 "when a class has two"
unfoldable pub two_rows : List ℕ → Bool
two_rows ws = not (every (λ c. leb (rows_for ws c) 1) (below class_count))

-- 17 "when rows are given and a class has none"
unfoldable pub no_row : List ℕ → Bool
no_row ws = not (is_nil ws) && not (every (λ c. leb 1 (rows_for ws c)) (below class_count))

-- "with 19 tested first, then 18, then 17"
unfoldable pub rows_fault : List ℕ → ℕ
rows_fault ws = cond (bad_rows ws) 19 (cond (two_rows ws) 18 (cond (no_row ws) 17 0))

-- "A row's limits hold for each of its classes alone"
abbrev pub row_limits : RuleRow → Limits
row_limits r = limits r.empty r.cold

abbrev pub limits_in : List RuleRow → ℕ → Limits
limits_in [] c = plain_limits c
limits_in (r ∷ rs) c = cond (spans r c) (row_limits r) (limits_in rs c)

unfoldable pub rules_of : List ℕ → Rules
rules_of ws c = limits_in (rows_in ws) (number_of c)

-- Of the list's words, four to a row: "first class, last class .., empty limit .. and cold limit"
pub record RowOf (ws : List ℕ) (c i : ℕ) : Type 0 where
  pub there : i * 4 + 4 ≤ length ws
  pub first : get_or ws (i * 4) 0 ≤ c
  pub last : c ≤ get_or ws (i * 4 + 1) 0

pub record ItsRow (ws : List ℕ) (c : ℕ) : Type 0 where
  pub row : ℕ
  pub is : RowOf ws c row

-- Rows "must cover 0 to 75 without gap or overlap": each class has just one, and its limits are that row's
pub record RowsCover (ws : List ℕ) (rules : Rules) : Type 0 where
  pub one : (c : ℕ) → c < class_count → ItsRow ws c
  pub only : (c i j : ℕ) → c < class_count → RowOf ws c i → RowOf ws c j → i ≡ j
  pub empty : (c i : ℕ) → c < class_count → RowOf ws c i → (rules c).empty ≡ get_or ws (i * 4 + 2) 0
  pub cold : (c i : ℕ) → c < class_count → RowOf ws c i → (rules c).cold ≡ get_or ws (i * 4 + 3) 0

-- no limit exceeds 256
pub record Fit (l : Limits) : Type 0 where
  pub empty : l.empty ≤ max_parked
  pub cold : l.cold ≤ max_parked
