-- Document 02, A.10, as statements about every call of `vigbuso_short_histories`. proofs/Listing proves them.
-- l is the lent list and w what stood in the out-parameter; a prime marks what stands there afterwards.
use Rattle.std.specs.Prelude.{ℕ, ◌≤◌, List, ◌∷◌, ◌++◌, ◌≡◌, length, drop}
use Rattle.listing.specs.History.{Call, Before, Lists}
use Rattle.listing.specs.Listing.{listing, short_histories, ListingEnds}

-- a call that is not refused
pub record ShortHistories (n k : ℕ) (l l' : List ℕ) (w' : ℕ) : Type 0 where
  pub numbers : List ℕ
  -- "every history of exactly the given length once, in that order"
  pub listing-is : Lists n k numbers
  -- they stand in the list, and past them what stood there
  pub list : l' ≡ numbers ++ drop w' l
  -- "the answer is how many numbers were written"
  pub count : w' ≡ length numbers

-- "On one page, length 2 gives 1, 1, 1, 4."
abbrev pub OnePageTwoCalls : ℕ → (l l' : List ℕ) → ℕ → Type 0
OnePageTwoCalls r l l' w' = 4 ≤ length l → (r ≡ 0) × (l' ≡ 1 ∷ 1 ∷ 1 ∷ 4 ∷ drop 4 l) × (w' ≡ 4)

pub record Listing : Type 0 where
  -- the listing to which number 20 compares the lent list's length
  pub listing-is : (n k : ℕ) → 1 ≤ n → n ≤ 3 → k ≤ 4 → Lists n k (listing n k)
  pub lists : (n k : ℕ) (l : List ℕ) (r : ℕ) (l' : List ℕ) (w w' : ℕ) → ListingEnds (short_histories n k l) r l' w w' → r ≡ 0 → ShortHistories n k l l' w'
  -- the order is strict, so that each history stands there once
  pub once : (h : List Call) → Before h h → ⊥
  -- "the history with no call is the only one of length 0": nothing is written
  pub no-calls : (n : ℕ) (l : List ℕ) (r : ℕ) (l' : List ℕ) (w w' : ℕ) → ListingEnds (short_histories n 0 l) r l' w w' → r ≡ 0 → (l' ≡ l) × (w' ≡ 0)
  pub one-page : (l : List ℕ) (r : ℕ) (l' : List ℕ) (w w' : ℕ) → ListingEnds (short_histories 1 2 l) r l' w w' → OnePageTwoCalls r l l' w'
