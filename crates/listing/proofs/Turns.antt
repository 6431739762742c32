-- One turn of the listing, as its loop goes through the numbers.
use Rattle.facts.proofs.Prelude.{ℕ, zero, suc, ◌+◌, ◌-◌, ◌≤◌, ◌<◌, arith, true, false, List, ◌≡◌, refl, ap, length}
use Rattle.listing.specs.declared.node.Node.{Node}
use Rattle.listing.specs.Node.{most_pages, most_calls, may_call, after_call}
use Rattle.listing.specs.Listing.{most_numbers, gather, so_far, goes_on, list_from, Wrote}

pub none_left : (n left : ℕ) (x : Node) → left ≡ 0 → list_from n left x ≡ so_far x
unfolding list_from
none_left n left x e = rw e refl

-- what comes of each number, with one call fewer left
abbrev pub turn_of : ℕ → ℕ → Node → ℕ → List ℕ
turn_of n left x = goes_on (list_from n (left - 1)) n x

pub turn : (n left : ℕ) (x : Node) → 0 < left → gather (turn_of n left x) 1 (most_pages + x.calls + 1 - 1) ≡ list_from n left x
unfolding list_from
turn n zero x h = absurd (omega arith)
turn n (suc left) x h =
    let e : suc left - 1 ≡ left = omega arith in
    let d : most_pages + x.calls + 1 - 1 ≡ most_pages + x.calls = omega arith in
    rw (e, d) refl

module _ (n left : ℕ) (x : Node) (number to : ℕ) where
  -- the call was made, and left the node y
  module _ (y : Node) (e : may_call n x number ≡ true) (d : y ≡ after_call x number) where
    same_turn : list_from n (left - 1) y ≡ turn_of n left x number
    same_turn = rw (e, d) refl

    pub may_go_on : 0 < left → x.calls + left ≤ most_calls → (end : ℕ) → to + length (turn_of n left x number) ≤ end → end ≤ most_numbers
        → (y.calls + (left - 1) ≤ most_calls) × (to + length (list_from n (left - 1) y) ≤ most_numbers)
    unfolding after_call
    may_go_on h few end fits small =
        let calls : y.calls ≡ x.calls + 1 = ap (λ (z : Node). z.calls) d in
        (omega arith, omega (arith, ap length same_turn))

    pub went_on : (l l₁ l' : List ℕ) (to₁ to' : ℕ) → Wrote (list_from n (left - 1) y) to to₁ l l₁ → l' ≡ l₁ → to' ≡ to₁ → Wrote (turn_of n left x number) to to' l l'
    went_on l l₁ l' to₁ to' w p q = rw (p, q) (rw same_turn at w)

  pub stayed : may_call n x number ≡ false → (l l' : List ℕ) (to' : ℕ) → l' ≡ l → to' ≡ to → Wrote (turn_of n left x number) to to' l l'
  stayed e l l' to' p q = rw (e, p, q) (record { next = omega arith; list = refl })
