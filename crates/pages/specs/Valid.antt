-- Number 13 on a page's words and on a class's stores: each is in its range (docs/RANGES.md).
--     header_valid    CARVED, FREE and VIRGIN of page q, which has m blocks out or more
--     links_valid     NEXT and PREV, which are read only where the page is listed
--     store_valid     a store's newest page and its count
--     limits_at       the limits of the stores, in the class's own row; limits_valid
use Rattle.std.specs.Prelude.{ℕ, ◌+◌, Bool, true, cond, ◌&&◌, List, eqb, leb}
use Rattle.classes.specs.declared.Shape.{Shape}
use Rattle.fields.specs.Field.{arena, class, page, frontier, empty_limit, cold_limit, next, prev, free, carved, listed, virgin, get}
use Rattle.rules.specs.declared.Limits.{Limits}
use Rattle.fields.specs.Ranges.{max_parked}
use Rattle.pages.specs.declared.Park.{Park}
use Rattle.pages.specs.Links.{top, stored}

unfoldable pub header_valid : List ℕ → Shape → ℕ → ℕ → Bool
header_valid b sh m q =
    leb (get b (page carved q)) sh.capacity
    && (leb (get b (page free q) + m) (get b (page carved q)) && leb (get b (page virgin q)) 1)

abbrev pub links_valid : List ℕ → ℕ → Bool
links_valid b q = cond (eqb (get b (page listed q)) 1) (leb (get b (page next q)) (get b (arena frontier)) && leb (get b (page prev q)) (get b (arena frontier))) true

abbrev pub store_valid : List ℕ → ℕ → Park → Bool
store_valid b c k = leb (get b (class (top k) c)) (get b (arena frontier)) && leb (get b (class (stored k) c)) max_parked

-- a release reads them, a take does not
abbrev pub limits_at : List ℕ → ℕ → Limits
limits_at b c = record { empty = get b (class empty_limit c); cold = get b (class cold_limit c) }

abbrev pub limits_valid : List ℕ → ℕ → Bool
limits_valid b c = leb (get b (class empty_limit c)) max_parked && leb (get b (class cold_limit c)) max_parked
