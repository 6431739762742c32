-- What the pool's functions ask of their callers. n is the arena's length, c a class's number, g a granule, p a page, w a block's word, k the blocks in stock.
use Rattle.std.specs.Prelude.{◌≡◌, ℕ, ◌*◌, ◌<◌, ◌≤◌, false, List, length, slice_index}
use Rattle.words.specs.Word.{kind_of, granule_of}
use Rattle.classes.specs.Shape.{class_count, shape_of, pool_id}
use Rattle.fields.specs.Field.{words}
use Rattle.fields.specs.Ranges.{max_pages}
use Rattle.poolcalls.specs.Stock.{count_in, stocked}

pub record StockPre (b : List ℕ) (c : ℕ) : Type 0 where
  pub known : c < class_count
  pub long : 40000 ≤ length b

-- a class that the pool serves: one that a caller names
pub record PoolPre (n : ℕ) (b : List ℕ) (c : ℕ) : Type 0 where
  pub known : c < class_count
  pub few : n ≤ max_pages
  pub long : words n ≤ length b

-- a stock that has a block
pub record TopPre (b : List ℕ) (c k : ℕ) : Type 0 where
  pub known : c < class_count
  pub long : 40000 ≤ length b
  pub counted : k ≡ count_in b c
  pub some : 1 ≤ k

-- a granule of the arena
pub record GranulePre (n : ℕ) (b : List ℕ) (c g : ℕ) : Type 0 where
  pub known : c < class_count
  pub few : n ≤ max_pages
  pub long : words n ≤ length b
  pub low : g < 4096 * n

-- blocks of the arena, as a take answers them
pub record ListPre (n : ℕ) (ws : List ℕ) : Type 0 where
  pub few : length ws ≤ 64
  pub low : (i : ℕ) → i < length ws → granule_of (slice_index ws i) < 4096 * n

-- a page of the arena, and a small class
pub record PagePre (n : ℕ) (b : List ℕ) (c p : ℕ) : Type 0 where
  pub small : c < 64
  pub few : n ≤ max_pages
  pub long : words n ≤ length b
  pub below : p < n

-- a word whose granule is in the arena, and a small class
pub record SmallPre (n : ℕ) (b : List ℕ) (c w : ℕ) : Type 0 where
  pub small : c < 64
  pub few : n ≤ max_pages
  pub long : words n ≤ length b
  pub low : granule_of w < 4096 * n

-- a word of the class's kind whose granule is in the arena
pub record NearPre (n : ℕ) (b : List ℕ) (c g w : ℕ) : Type 0 where
  pub known : c < class_count
  pub few : n ≤ max_pages
  pub long : words n ≤ length b
  pub low : g < 4096 * n
  pub granule : g ≡ granule_of w
  pub kind : kind_of w ≡ (shape_of (pool_id c)).kind

-- and not in stock
pub record FreePre (n : ℕ) (b : List ℕ) (c g w : ℕ) : Type 0 where
  pub known : c < class_count
  pub few : n ≤ max_pages
  pub long : words n ≤ length b
  pub low : g < 4096 * n
  pub granule : g ≡ granule_of w
  pub kind : kind_of w ≡ (shape_of (pool_id c)).kind
  pub away : stocked b c g ≡ false
