-- Every call of heap and pool on the words, and a history of both: each call gets the book as the last one left it. n is the arena's
-- length. Assumes nothing.
use Rattle.std.specs.Prelude.{ℕ, cond, not, List, [], ◌∷◌, ltb}
use Rattle.words.specs.Host.{bad_host}
use Rattle.classes.specs.Shape.{class_count}
use Rattle.model.specs.Calls as Calls
use Rattle.model.specs.Calls.{is_pooled}
use Rattle.refinement.specs.Run.{call_reply}
use Rattle.pool.specs.Pool.{PoolCall, PoolAnswer, PoolRequest, host_in, to, heap, answered, refused}
use Rattle.poolcalls.specs.Calls.{PoolReply, pool_reply, request_on}

-- numbers 3 and 4, then the request
unfoldable pub ask_on : ℕ → List ℕ → ℕ → PoolRequest → PoolReply
ask_on n b c x = cond (bad_host (host_in x)) (pool_reply (refused 3) b) (cond (not (ltb c class_count)) (pool_reply (refused 4) b) (request_on n b c x))

unfoldable pub on_call : ℕ → List ℕ → PoolCall → PoolReply
on_call n b (to c x) = ask_on n b c x
on_call n b (heap x) = cond (is_pooled x) (pool_reply (answered (Calls.refused 4)) b) (pool_reply (answered (call_reply n b x).answer) (call_reply n b x).book)

-- the calls of a history in turn, each by f: what is answered, and the book after them
module _ (f : List ℕ → PoolCall → PoolReply) where
  abbrev pub pool_answers_from : List ℕ → List PoolCall → List PoolAnswer
  pool_answers_from b [] = []
  pool_answers_from b (x ∷ xs) = (f b x).answer ∷ pool_answers_from (f b x).book xs

  abbrev pub book_from : List ℕ → List PoolCall → List ℕ
  book_from b [] = b
  book_from b (x ∷ xs) = book_from (f b x).book xs
