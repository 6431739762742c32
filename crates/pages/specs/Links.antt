-- A class's lists of pages. A page is stored as its code, page + 1, and 0 is none.
--     link, unlink          into the partial list at its head, and out of it, wherever the page stands
--     park_run, pop_store     onto the empty or the cold store, and the newest page off it
use Rattle.std.specs.Prelude.{ℕ, zero, suc, ◌+◌, ◌-◌, List}
use Rattle.pages.specs.declared.Park.{Park}
use Rattle.pages.specs.declared.Park.TheVariants.{Empty, Cold}
use Rattle.fields.specs.Field.{ClassField, class, page, partial, empty, empty_count, cold, cold_count, next, prev, listed, get, put}
use Rattle.fields.specs.Outcome.{put_at}

-- a write to what points forward to a place: the page before it, or else the class
abbrev pub point_next : List ℕ → ℕ → ℕ → ℕ → List ℕ
point_next b c zero v = put b (class partial c) v
point_next b c (suc q) v = put b (page next q) v

unfoldable pub linked : List ℕ → ℕ → ℕ → List ℕ
linked b c q =
    put (put_at (put (put b (page next q) (get b (class partial c))) (page prev q) 0) prev (get b (class partial c)) (q + 1)) (class partial c) (q + 1)

-- page q, whose neighbours are stored as x behind it and y before it, is cut out
unfoldable pub cut_out : List ℕ → ℕ → ℕ → ℕ → ℕ → List ℕ
cut_out b c q x y = put (put (put_at (point_next b c y x) prev x y) (page next q) 0) (page prev q) 0

abbrev pub unlinked : List ℕ → ℕ → ℕ → List ℕ
unlinked b c q = cut_out b c q (get b (page next q)) (get b (page prev q))

unfoldable pub link : List ℕ → ℕ → ℕ → List ℕ
link b c q = put (linked b c q) (page listed q) 1

unfoldable pub unlink : List ℕ → ℕ → ℕ → List ℕ
unlink b c q = put (unlinked b c q) (page listed q) 0

-- the two stores, by one definition: the field of the newest page's code, and that of the count
abbrev pub other : Park → Park
other Empty = Cold
other Cold = Empty

abbrev pub top : Park → ClassField
top Empty = empty
top Cold = cold

abbrev pub stored : Park → ClassField
stored Empty = empty_count
stored Cold = cold_count

unfoldable pub pop_store : List ℕ → ℕ → Park → ℕ → List ℕ
pop_store b c k q = put (put b (class (top k) c) (get b (page next q))) (class (stored k) c) (get b (class (stored k) c) - 1)

unfoldable pub park_run : List ℕ → ℕ → Park → ℕ → List ℕ
park_run b c k q =
    put (put (put b (page next q) (get b (class (top k) c))) (class (top k) c) (q + 1)) (class (stored k) c) (get b (class (stored k) c) + 1)

-- a page of a store heads the partial list
abbrev pub unpark_run : List ℕ → ℕ → Park → ℕ → List ℕ
unpark_run b c k q = link (pop_store b c k q) c q
