-- What the listing's call answers and leaves, by its tests, and the bounds of numbers that are not refused.
use Rattle.facts.proofs.Prelude.{ℕ, ◌+◌, ◌≤◌, ◌<◌, arith, pos_of_ne-zero, zero-add, Bool, true, false, ◌||◌, List, ◌++◌, ◌≡◌, refl}
use Rattle.facts.proofs.Prelude.{ap, ◌∙◌, eqb, ltb, length, drop, sets, sets-eq, ltb-false, eqb-false, lt-ltb, le-ltb, nor_left, nor_right, ne_eqb}
use Rattle.words.specs.Refusal.{number_of}
use Rattle.words.specs.declared.refusal.Refusal.{Refusal}
use Rattle.words.proofs.Refusals.{positive}
use Rattle.listing.specs.declared.node.Node.{Node}
use Rattle.listing.specs.Node.{most_pages, most_calls, start}
use Rattle.listing.specs.Listing.{most_numbers, list_from, listing, bad_bounds, Wrote, Listed, listed, short_histories, ListingEnds}
use Rattle.listing.proofs.Theorems.{Bounds, listing-small}

pub bounds_of : (n k : ℕ) → bad_bounds n k ≡ false → Bounds n k
bounds_of n k e =
    let rest : Bool = ltb most_pages n || ltb most_calls k in
    let r : rest ≡ false = nor_right (eqb n 0) rest e in
    let nonzero : n ≡ 0 → ⊥ = eqb-false n 0 (nor_left (eqb n 0) rest e) in
    record {
      some = pos_of_ne-zero nonzero;
      pages = ltb-false most_pages n (nor_left (ltb most_pages n) (ltb most_calls k) r);
      calls = ltb-false most_calls k (nor_right (ltb most_pages n) (ltb most_calls k) r);
    }

-- x is the node before any call
module _ (n k : ℕ) (x : Node) (e : x ≡ start n) where
  pub may_list : bad_bounds n k ≡ false → (x.calls + k ≤ most_calls) × (0 + length (list_from n k x) ≤ most_numbers)
  may_list b =
      let bounds = bounds_of n k b in
      rw e (omega (arith, bounds.calls), omega (arith, listing-small n k bounds))

  pub size_is : (r : ℕ) (l l' : List ℕ) → Wrote (list_from n k x) 0 r l l' → r ≡ length (listing n k)
  size_is r l l' w = w.next ∙ (zero-add _ ∙ rw e refl)

module _ (n k : ℕ) (l : List ℕ) where
  pub refused : bad_bounds n k ≡ true → listed 20 l 0 ≡ short_histories n k l
  unfolding short_histories
  refused e = rw e refl

  module _ (e : bad_bounds n k ≡ false) (size : ℕ) (d : size ≡ length (listing n k)) where
    pub no_room : length l < size → listed 20 l 0 ≡ short_histories n k l
    unfolding short_histories
    no_room h = rw (e, lt-ltb (length l) (length (listing n k)) (rw d at h)) refl

    pub listed-all : size ≤ length l → (x : Node) → x ≡ start n → (r : ℕ) (l' : List ℕ) → Wrote (list_from n k x) 0 r l l' → listed 0 l' size ≡ short_histories n k l
    unfolding short_histories
    listed-all h x f r l' w =
        let fits : length (listing n k) ≤ length l = rw d at h in
        let whole : sets l 0 (listing n k) ≡ listing n k ++ drop (length (listing n k)) l =
        sets-eq (listing n k) l 0 (omega arith) ∙ ap (λ (j : ℕ). listing n k ++ drop j l) (zero-add (length (listing n k))) in
        let list : l' ≡ listing n k ++ drop (length (listing n k)) l = w.list ∙ (ap (λ (y : Node). sets l 0 (list_from n k y)) f ∙ whole) in
        rw (e, le-ltb (length l) (length (listing n k)) fits, list, d) refl

-- what the exported call returns and writes, of what the listing answered
module _ (o : Listed) (l' : List ℕ) (old : ℕ) where
  pub ends_listed : (many w : ℕ) → w ≡ many → listed 0 l' many ≡ o → ListingEnds o 0 l' old w
  ends_listed many w is e = rw (← e, is) (record { code = refl; list = refl; written = refl })

  pub ends_refused : (e : Refusal) → listed (number_of e) l' 0 ≡ o → ListingEnds o (number_of e) l' old old
  ends_refused e h =
      let one : number_of e ≡ 0 → ⊥ = λ z. let p = positive e in omega (arith, z, p) in
      rw (← h) (record { code = refl; list = refl; written = rw (ne_eqb (number_of e) 0 one) refl })
