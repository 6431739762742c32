-- Document 02, A.10, of the exported function (specs/Listing).
use Rattle.facts.proofs.Prelude.{ℕ, arith, false, List, ◌++◌, ◌≡◌, sym, ◌∙◌, ltb, length, drop, le-ltb, by_cases, nor_left}
use Rattle.listing.specs.Listing.{listing, bad_bounds, bad_listing, short_histories, ListingEnds}
use Rattle.listing.proofs.Theorems as Theorems
use Rattle.listing.proofs.Answer.{bounds_of}
use Rattle.listing.proofs.Order.{never_before_itself}
use Rattle.demands.specs.Listing.{ShortHistories, OnePageTwoCalls, Listing}

-- what a call that was not refused wrote
module _ (n k : ℕ) (l : List ℕ) (r : ℕ) (l' : List ℕ) (w w' : ℕ) (e : ListingEnds (short_histories n k l) r l' w w') (z : r ≡ 0) where
  unrefused : bad_listing n k (length l) ≡ false
  unfolding short_histories
  unrefused = by_cases (bad_listing n k (length l)) (λ b. let c : 0 ≡ 20 = sym z ∙ (e.code ∙ rw b) in absurd (omega arith)) (λ b. b)

  list-is : l' ≡ listing n k ++ drop (length (listing n k)) l
  unfolding short_histories
  list-is = e.list ∙ rw unrefused

  count-is : w' ≡ length (listing n k)
  unfolding short_histories
  count-is = e.written ∙ rw unrefused

  lists : ShortHistories n k l l' w'
  lists =
      let b = bounds_of n k (nor_left (bad_bounds n k) (ltb (length l) (length (listing n k))) unrefused) in
      record {
        numbers = listing n k;
        listing-is = Theorems.listing-is n k b.some b.pages b.calls;
        list = rw count-is list-is;
        count = count-is;
      }

one-page : (l : List ℕ) (r : ℕ) (l' : List ℕ) (w w' : ℕ) → ListingEnds (short_histories 1 2 l) r l' w w' → OnePageTwoCalls r l l' w'
unfolding short_histories
one-page l r l' w w' e h =
    let two = Theorems.two-listed in
    let room = le-ltb (length l) 4 h in
    (e.code ∙ rw (two, room), e.list ∙ rw (two, room), e.written ∙ rw (two, room))

pub short-histories : Listing
short-histories = record {
  listing-is = Theorems.listing-is;
  lists = lists;
  once = never_before_itself;
  no-calls = λ n l r l' w w' e z. let none = Theorems.none-listed n in (
    list-is n 0 l r l' w w' e z ∙ rw none,
    count-is n 0 l r l' w w' e z ∙ rw none,
  );
  one-page = one-page;
}
