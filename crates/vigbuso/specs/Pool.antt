-- The exported calls of the pool, on any book and any numbers: the answer, the book and the out-parameter afterwards, refusals included.
-- Numbers 1 to 4 come first, for 76 classes by one number; then it is a call on an arena of the length that the book holds.
use Rattle.std.specs.Prelude.{ℕ, ◌-◌, List, Bool, cond, ◌&&◌, eqb, leb}
use Rattle.words.specs.Limits.{class_rows}
use Rattle.classes.specs.Shape.{shape_of, class_count, pool_id, number_of}
use Rattle.fields.specs.Field.{arena, size, frontier, get}
use Rattle.fields.specs.Ranges.{meta_fault, format_valid, head_valid}
use Rattle.model.specs.Release.{of_kind}
use Rattle.pool.specs.Pool.{PoolRequest, host_in, refused}
pub use Rattle.poolcalls.specs.Calls.{BlockEnds, FreeEnds}
use Rattle.poolcalls.specs.Calls.{PoolReply, pool_reply, request_on, granted_in, stocked_in}
use Rattle.trace.specs.Words.{owner_at}
use Rattle.vigbuso.specs.Faults.{class_fault, admits}

unfoldable pub pool_on : List ℕ → ℕ → PoolRequest → PoolReply
pool_on b c x =
    cond (eqb (class_fault b (host_in x) class_count c) 0)
    (request_on (get b (arena size)) b c x) (pool_reply (refused (class_fault b (host_in x) class_count c)) b)

-- the number of the class that has the block's page, below FRONTIER, by OWNER, be it the heap's or the pool's; `class_count` for none, and on a book that 1 or 2
-- refuses or whose FORMAT or FRONTIER is out of its range
unfoldable pub class_on : List ℕ → ℕ → ℕ
class_on b w =
    let k = owner_at (get b (arena frontier)) b w in
    cond (eqb (meta_fault b) 0 && head_valid (get b (arena size)) b) (cond (leb 1 k && leb k class_rows) (number_of (k - 1)) class_count) class_count

-- whether the block is granted in the class; not on a book that 1 or 2 refuses or that no opening of this layout made, nor in a class above 75
unfoldable pub granted_on : List ℕ → ℕ → ℕ → Bool
granted_on b c w = admits b c && (format_valid b && (of_kind (shape_of (pool_id c)).kind w && granted_in (get b (arena size)) b c w))

-- how many blocks the class has in stock; 0 on a book that 1 or 2 refuses, in a class above 75, and for a FORMAT or a COUNT out of its range
unfoldable pub stocked_on : List ℕ → ℕ → ℕ
stocked_on b c = cond (admits b c) (stocked_in b c) 0
