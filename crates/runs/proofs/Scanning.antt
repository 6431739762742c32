-- A scan of the first `count` holes of a slice, the last one first: what a turn of `scan` or `touch` uses.
--     scan-start    before the first turn
--     scan_step     the hole at j is weighed after those behind it
use Rattle.facts.proofs.Prelude.{ℕ, suc, ◌+◌, ◌-◌, ◌<◌, ◌≤◌, arith, List, ◌≡◌, sym, ap, ◌∙◌, length, get_or, take, drop, drop_of_length-le, drop-cons, get_or-take, length-take-le}
use Rattle.model.specs.declared.Hole.{Hole}
use Rattle.runs.specs.way.Scan.{no_hole, fold_holes}

-- what the holes at j and on come to, where the first stands at the index `from`
abbrev pub fold_holes_from : {X : Type 0} → (ℕ → Hole → X → X) → ℕ → ℕ → List Hole → X → ℕ → X
fold_holes_from f from count ys x j = fold_holes f (from + j) (drop j (take count ys)) x

module _ {X : Type 0} (f : ℕ → Hole → X → X) (from count : ℕ) (ys : List Hole) (within : count ≤ length ys) (x : X) where
  long : length (take count ys) ≡ count
  long = length-take-le count ys within

  pub scan_start : x ≡ fold_holes_from f from count ys x count
  unfolding fold_holes
  scan_start =
      let l : length (take count ys) ≤ count = omega (arith, long) in
      ap (λ (hs : List Hole). fold_holes f (from + count) hs x) (sym (drop_of_length-le (take count ys) l))

  pub scan_step : (i : ℕ) → 0 < i → i ≤ count → f (from + (i - 1)) (get_or ys (i - 1) no_hole) (fold_holes_from f from count ys x i) ≡ fold_holes_from f from count ys x (i - 1)
  unfolding fold_holes
  scan_step i l up_to_lem =
      let j : ℕ = i - 1 in
      let zs : List Hole = take count ys in
      let here : j < length zs = omega (arith, long) in
      let e : suc j ≡ i = omega arith in
      let d : suc (from + j) ≡ from + i = omega arith in
      sym (ap (λ (hs : List Hole). fold_holes f (from + j) hs x) (drop-cons zs j no_hole here)
      ∙ ap (λ (g : Hole). f (from + j) g (fold_holes f (suc (from + j)) (drop (suc j) zs) x)) (get_or-take count ys j no_hole (omega arith))
      ∙ ap (λ (k : ℕ). f (from + j) (get_or ys j no_hole) (fold_holes f k (drop (suc j) zs) x)) d
      ∙ ap (λ (k : ℕ). f (from + j) (get_or ys j no_hole) (fold_holes f (from + i) (drop k zs) x)) e)

  pub scan_end : fold_holes_from f from count ys x 0 ≡ fold_holes f from (take count ys) x
  scan_end =
      let e : from + 0 ≡ from = omega arith in
      rw e
