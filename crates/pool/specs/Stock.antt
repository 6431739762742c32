-- A class's stock: blocks that are out of the heap and that nobody has. How many a free lets it hold, and the list that a take is lent.
use Rattle.std.specs.Prelude.{ℕ, ◌*◌, ◌/◌, cond, List, ltb, replicate}
use Rattle.classes.specs.Shape.{shape_of}
use Rattle.classes.specs.Sizes.{granule_bytes}

-- the most that COUNT says: a place in the stock is 8 bits
abbrev pub count_max : ℕ
count_max = 255

-- 256 KiB of blocks, but 8 at least and `stock_limit` at most
abbrev pub stock_bytes : ℕ
stock_bytes = 262144

abbrev pub stock_least : ℕ
stock_least = 8

abbrev pub stock_limit : ℕ
stock_limit = 255

-- between the two
abbrev pub clamped : ℕ → ℕ
clamped k = cond (ltb k stock_least) stock_least (cond (ltb stock_limit k) stock_limit k)

-- a free puts its block into a stock that holds fewer than these
unfoldable pub stock_most : ℕ → ℕ
stock_most c = clamped (stock_bytes / ((shape_of c).block * granule_bytes))

-- the list that the pool lends to a take: number 5 never applies
abbrev pub blank : List ℕ
blank = replicate 64 0
