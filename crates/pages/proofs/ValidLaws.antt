-- What number 13's test of a page's own words tells, and when it passes.
use Rattle.facts.proofs.Prelude.{ℕ, ◌+◌, ◌≤◌, true, ◌&&◌, List, ◌≡◌, leb, le-leb, leb-true, and_left, and_right}
use Rattle.classes.specs.declared.Shape.{Shape}
use Rattle.fields.specs.Field.{page, free, carved, virgin, get}
use Rattle.pages.specs.Valid.{header_valid}

module _ (b : List ℕ) (sh : Shape) (m q : ℕ) where
  module _ (e : header_valid b sh m q ≡ true) where
    rest : (leb (get b (page free q) + m) (get b (page carved q)) && leb (get b (page virgin q)) 1) ≡ true
    unfolding header_valid
    rest = and_right (leb (get b (page carved q)) sh.capacity) _ e

    pub carved-low : get b (page carved q) ≤ sh.capacity
    unfolding header_valid
    carved-low = leb-true (get b (page carved q)) sh.capacity (and_left _ _ e)

    pub room-left : get b (page free q) + m ≤ get b (page carved q)
    room-left = leb-true (get b (page free q) + m) (get b (page carved q)) (and_left _ _ rest)

    pub virgin-low : get b (page virgin q) ≤ 1
    virgin-low = leb-true (get b (page virgin q)) 1 (and_right (leb (get b (page free q) + m) (get b (page carved q))) _ rest)

  pub header_passes : get b (page carved q) ≤ sh.capacity → get b (page free q) + m ≤ get b (page carved q) → get b (page virgin q) ≤ 1 → header_valid b sh m q ≡ true
  unfolding header_valid
  header_passes h k l = rw (le-leb (get b (page carved q)) sh.capacity h, le-leb (get b (page free q) + m) (get b (page carved q)) k, le-leb (get b (page virgin q)) 1 l)
