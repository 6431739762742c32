-- All short histories (document 02, A.10), computed as the code goes. specs/History says what a history is.
--     list_from          the numbers of all histories that go on from a node
--     bad_listing        when number 20 applies
--     short_histories    a call: its number, the lent list afterwards and how many numbers were written
use Rattle.std.specs.Prelude.{ℕ, zero, suc, ◌+◌, Bool, cond, ◌||◌, List, [], ◌∷◌, ◌++◌, ◌≡◌, ltb, eqb, length, get_or, drop}
use Rattle.std.proofs.lemmas.List.Edits.{sets}
use Rattle.listing.specs.declared.node.Node.{Node}
use Rattle.listing.specs.Node.{most_pages, most_calls, start, may_call, after_call}

-- the most numbers of a listing: those of 3 pages and 4 calls
abbrev pub most_numbers : ℕ
most_numbers = 792

-- ---- lists from i on, m of them, one after the other
unfoldable pub gather : {A : Type 0} → (ℕ → List A) → ℕ → ℕ → List A
gather f i zero = []
gather f i (suc m) = f i ++ gather f (suc i) m

-- the calls so far
abbrev pub number_at : List ℕ → ℕ → List ℕ
number_at numbers i = get_or numbers i 0 ∷ []

unfoldable pub so_far : Node → List ℕ
so_far x = gather (number_at x.numbers) 0 x.calls

-- what comes of a call; f goes on from a node
abbrev pub goes_on : (Node → List ℕ) → ℕ → Node → ℕ → List ℕ
goes_on f n x number = cond (may_call n x number) (f (after_call x number)) []

-- "each continued by one call fewer until none are left"
unfoldable pub list_from : ℕ → ℕ → Node → List ℕ
list_from n zero x = so_far x
list_from n (suc left) x = gather (goes_on (list_from n left) n x) 1 (most_pages + x.calls)

abbrev pub listing : ℕ → ℕ → List ℕ
listing n k = list_from n k (start n)

-- the numbers stand in a list from one place on, and r is the place after them; past the list's end none is kept
pub record Wrote (numbers : List ℕ) (at r : ℕ) (l l' : List ℕ) : Type 0 where
  pub next : r ≡ at + length numbers
  pub list : l' ≡ sets l at numbers

-- ---- a call
-- "the arena isn't 1 to 3 pages, the length is above 4"
abbrev pub bad_bounds : ℕ → ℕ → Bool
bad_bounds n k = eqb n 0 || (ltb most_pages n || ltb most_calls k)

-- "or the lent list is shorter than the listing"
abbrev pub bad_listing : ℕ → ℕ → ℕ → Bool
bad_listing n k room = bad_bounds n k || ltb room (length (listing n k))

pub record Listed : Type 0 where
  pub code : ℕ
  pub list : List ℕ
  pub many : ℕ

abbrev pub listed : ℕ → List ℕ → ℕ → Listed
listed code list many = record { code = code; list = list; many = many }

unfoldable pub short_histories : ℕ → ℕ → List ℕ → Listed
short_histories n k l =
    let numbers = listing n k in
    cond (bad_listing n k (length l)) (listed 20 l 0) (listed 0 (numbers ++ drop (length numbers) l) (length numbers))

-- a refused call leaves the out-parameter
abbrev pub written_out : Listed → ℕ → ℕ
written_out o old = cond (eqb o.code 0) o.many old

-- r is what the function returns, l' the lent list afterwards; w is the out-parameter before the call, w' after it
pub record ListingEnds (o : Listed) (r : ℕ) (l' : List ℕ) (w w' : ℕ) : Type 0 where
  pub code : r ≡ o.code
  pub list : l' ≡ o.list
  pub written : w' ≡ written_out o w
