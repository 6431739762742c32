-- Document 02, A.13, as statements about every call of `vigbuso_class_table` that is not refused. proofs/ClassTables proves them.
use Rattle.std.specs.Prelude.{ℕ, ◌+◌, ◌-◌, ◌≤◌, ◌<◌, List, ◌++◌, false, ◌↔◌, ◌≡◌, length, get_or, drop}
use Rattle.classes.specs.Sizes.{small_sizes, granule_bytes}
use Rattle.tables.specs.Table.{table, last_size, bad_rate, bad_top, class_table, TableEnds}
use Rattle.tables.specs.Meaning.{Grows}

-- l is the lent list, l' what it holds afterwards
pub record ClassTable (a b top slots : ℕ) (l l' : List ℕ) : Type 0 where
  -- the table, and past it what stood there
  pub is : l' ≡ table a b top slots ++ drop slots l
  -- "From 16, each size times a is divided by b, rounded up, then up to a multiple of 16, cut at the top"
  pub starts : get_or l' 0 0 ≡ granule_bytes
  pub grows : (i : ℕ) → i + 1 < slots → Grows a b top (get_or l' i 0) (get_or l' (i + 1) 0)
  -- "Every two neighbours below the top rise."
  pub rises : (i : ℕ) → i + 1 < slots → get_or l' i 0 < top → get_or l' i 0 < get_or l' (i + 1) 0
  -- "the remaining slots hold the top", and the last one does
  pub stays : (i : ℕ) → i + 1 < slots → get_or l' i 0 ≡ top → get_or l' (i + 1) 0 ≡ top
  pub reaches : get_or l' (slots - 1) 0 ≡ top

-- where growth and top are not refused, and there are slots and room for them, 24 is just "too few to reach the top"
abbrev pub Reaches : (a b top slots r : ℕ) → List ℕ → Type 0
Reaches a b top slots r l = bad_rate a b ≡ false → bad_top top ≡ false → 1 ≤ slots → slots ≤ length l → (r ≡ 0) ↔ (last_size a b top slots ≡ top)

-- "With 9, 8, 16,384 and 64 the output is proved to be the small class table."
abbrev pub SmallTable : ℕ → (l l' : List ℕ) → Type 0
SmallTable r l l' = 64 ≤ length l → (r ≡ 0) × (l' ≡ small_sizes ++ drop 64 l)

pub record ClassTables : Type 0 where
  pub filled : (a b top slots : ℕ) (l : List ℕ) (r : ℕ) (l' : List ℕ) → TableEnds (class_table a b top slots l) r l' → r ≡ 0 → ClassTable a b top slots l l'
  pub exactly : (a b top slots : ℕ) (l : List ℕ) (r : ℕ) (l' : List ℕ) → TableEnds (class_table a b top slots l) r l' → Reaches a b top slots r l
  pub small : (l : List ℕ) (r : ℕ) (l' : List ℕ) → TableEnds (class_table 9 8 16384 64 l) r l' → SmallTable r l l'
