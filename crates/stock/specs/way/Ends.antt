-- What the pool's functions come to, as numbers.
--     ReleasedOne     a release of one block answered r
--     Brings          of a take's blocks the last was answered, or none, and the others are the stock
--     Granted         an alloc or a trim answered r
--     Kept            a free that its stock has room for, whatever the host word
use Rattle.std.specs.Prelude.{◌≡◌, ℕ, ◌^◌, Bool, cond, not, ◌&&◌, List, nat_le, nat_lt, Result, Ok, Err}
use Rattle.words.specs.declared.refusal.Refusal.{Refusal}
use Rattle.words.specs.Refusal as Refusals
use Rattle.calls.specs.Release.{Released}
use Rattle.pool.specs.Stock.{stock_most}
use Rattle.poolcalls.specs.Calls.{PoolReply, code_of, block_out, free_on, BlockEnds, FreeEnds}

pub record ReleasedOne (r : ℕ) (b : List ℕ) (z : Released) : Type 0 where
  pub code : r ≡ z.code
  pub book : b ≡ z.book

pub record Brings (r : ℕ) (b : List ℕ) (s : PoolReply) : Type 0 where
  pub code : code_of s.answer ≡ 0
  pub block : (old : ℕ) → r ≡ block_out s.answer old
  pub book : b ≡ s.book

-- a caller's word for the block, which held w: it is written if there is a block
abbrev pub block_left : Result ℕ Refusal → ℕ → ℕ
block_left (Ok block) w = block
block_left (Err e) w = w

pub record Granted (s : PoolReply) (r : Result ℕ Refusal) (b : List ℕ) : Type 0 where
  pub ends : (w : ℕ) → BlockEnds s (Refusals.code_of r) b w (block_left r w)

pub record Kept (r : ℕ) (b' : List ℕ) (n : ℕ) (b : List ℕ) (c w : ℕ) : Type 0 where
  pub ends : (h : ℕ) → FreeEnds (free_on n b c h w) r b'

-- the number of a word that lies x behind the class's first, and not in the arena
abbrev pub far_fault : ℕ → ℕ
far_fault x = cond (nat_le (2 ^ 62) x) 9 10

-- a stock of k blocks that holds the class's most; a COUNT beyond every stock's is none
abbrev pub is_full : ℕ → ℕ → Bool
is_full c k = nat_le k 255 && not (nat_lt k (stock_most c))
