-- Class tables from a growth rate (document 02, A.13): the growth is a over b, sizes are bytes.
--     next_size                     the size after one
--     table                        so many sizes from 16 on
--     bad_rate, bad_top, bad_slots    when numbers 22, 23 and 24 apply
--     class_table                   a call: its number, and the lent list afterwards
use Rattle.std.specs.Prelude.{ℕ, zero, suc, ◌+◌, ◌-◌, ◌*◌, ◌/◌, ◌%◌, ◌≤◌, ◌<◌, Bool, cond, not, ◌||◌, List, [], ◌∷◌, ◌++◌, ◌≡◌, leb, ltb, eqb, length, get_or, drop}
use Rattle.classes.specs.Sizes.{granule_bytes, max_medium_size}

-- "divided by b, rounded up"
abbrev pub quotient_up : ℕ → ℕ → ℕ
quotient_up n b = (n + (b - 1)) / b

-- "up to a multiple of 16"
abbrev pub whole_up : ℕ → ℕ
whole_up n = quotient_up n granule_bytes * granule_bytes

-- "cut at the top"
abbrev pub cut_at : ℕ → ℕ → ℕ
cut_at top n = cond (ltb n top) n top

-- "each size times a is divided by b, rounded up, then up to a multiple of 16, cut at the top"
unfoldable pub next_size : ℕ → ℕ → ℕ → ℕ → ℕ
next_size a b top size = cut_at top (whole_up (quotient_up (size * a) b))

-- so many sizes from one on; at the top they stay there
unfoldable pub sizes_from : ℕ → ℕ → ℕ → ℕ → ℕ → List ℕ
sizes_from a b top size zero = []
sizes_from a b top size (suc n) = size ∷ sizes_from a b top (next_size a b top size) n

-- "From 16"
abbrev pub table : ℕ → ℕ → ℕ → ℕ → List ℕ
table a b top slots = sizes_from a b top granule_bytes slots

abbrev pub last_size : ℕ → ℕ → ℕ → ℕ → ℕ
last_size a b top slots = get_or (table a b top slots) (slots - 1) 0

-- ---- numbers 22, 23, 24
abbrev pub max_rate : ℕ
max_rate = 1000

-- "22 when a is not above b, b is 0, or either exceeds 1,000"
abbrev pub bad_rate : ℕ → ℕ → Bool
bad_rate a b = leb a b || (eqb b 0 || (ltb max_rate a || ltb max_rate b))

-- "23 when the top is below 16, not a multiple of 16 or above 65,472"
abbrev pub bad_top : ℕ → Bool
bad_top top = ltb top granule_bytes || (not (eqb (top % granule_bytes) 0) || ltb max_medium_size top)

-- "24 when the slots are 0, more than the lent list or too few to reach the top"
abbrev pub bad_slots : ℕ → ℕ → ℕ → ℕ → ℕ → Bool
bad_slots a b top slots room = eqb slots 0 || (ltb room slots || ltb (last_size a b top slots) top)

-- a growth and a top that are not refused; what the code needs of them
pub record Growth (a b top : ℕ) : Type 0 where
  pub above : b < a
  pub positive : 1 ≤ b
  pub bounded : a ≤ max_rate
  pub low : granule_bytes ≤ top
  pub high : top ≤ max_medium_size

-- ---- a call
pub record Tabled : Type 0 where
  pub code : ℕ
  pub list : List ℕ

abbrev pub tabled : ℕ → List ℕ → Tabled
tabled k list = record { code = k; list = list }

unfoldable pub class_table : ℕ → ℕ → ℕ → ℕ → List ℕ → Tabled
class_table a b top slots list =
    cond (bad_rate a b) (tabled 22 list)
    (cond (bad_top top) (tabled 23 list)
    (cond (bad_slots a b top slots (length list)) (tabled 24 list)
    (tabled 0 (table a b top slots ++ drop slots list))))

-- r is what the function returns, l' the lent list afterwards
pub record TableEnds (o : Tabled) (r : ℕ) (l' : List ℕ) : Type 0 where
  pub code : r ≡ o.code
  pub list : l' ≡ o.list
