-- The blocks of the run at q, which is wholly the class's.
--     block_start, run-start    a block of the run lies in the run that has its granule, which is this one
--     run_out                   one that is out in the run is out in the class
--     out-here                  one that is out in the class, in this run, is out in the run
--     low-marks                 out bits cleared in another order
use Rattle.facts.proofs.Prelude.{ℕ, suc, ◌+◌, ◌*◌, ◌≤◌, ◌<◌, arith, mul-le-mul_right, suc-mul, Bool, true, false, List}
use Rattle.facts.proofs.Prelude.{[], ◌∷◌, ◌≡◌, refl, sym, ◌∙◌, ltb, ltb-true, lt-ltb, le-leb, every, and_left, and_right}
use Rattle.classes.specs.declared.Shape.{Shape}
use Rattle.classes.specs.way.Sound.{Sound}
use Rattle.fields.specs.Field.{arena, out, frontier, get, put, same}
use Rattle.fields.proofs.Laws.{put-comm}
use Rattle.fields.proofs.Changes.{same-eq}
use Rattle.pages.specs.Runs.{whole}
use Rattle.pages.proofs.Runs.{whole_says}
use Rattle.pages.specs.Stack.{set_outs, index_of, page_at, is_block}
use Rattle.calls.specs.Out.{start_of, out_in, in_run_of, out_at}
use Rattle.release.proofs.Bits.{out_in_lem, from_block, at_block, below_capacity}

-- two bits of one run set to one value, in either order
bits-comm : (b : List ℕ) (q i j v : ℕ) → i < 4096 → j < 4096 → put (put b (out q i) v) (out q j) v ≡ put (put b (out q j) v) (out q i) v
bits-comm b q i j v hi hj = by (same (out q i) (out q j)) refl
  where
    by : (t : Bool) → same (out q i) (out q j) ≡ t → put (put b (out q i) v) (out q j) v ≡ put (put b (out q j) v) (out q i) v
    by true e = rw (same-eq (out q i) (out q j) e)
    by false e = put-comm b (out q i) (out q j) v v (lt-ltb i 4096 hi) (lt-ltb j 4096 hj) e

pub low-marks : (b : List ℕ) (q v i : ℕ) (is : List ℕ) → i < 4096 → every (λ j. ltb j 4096) is ≡ true → set_outs (put b (out q i) v) q v is ≡ put (set_outs b q v is) (out q i) v
low-marks b q v i [] h l = refl
low-marks b q v i (j ∷ js) h l =
    rw (low-marks b q v i js h (and_right (ltb j 4096) _ l)) (bits-comm (set_outs b q v js) q i j v h (ltb-true j 4096 (and_left _ _ l)))

module _ (n c : ℕ) (sh : Shape) (s : Sound sh) (q : ℕ) where
  -- ---- the run's pages hold its blocks
  module _ (w : ℕ) (e : is_block sh q w ≡ true) where
    pub not-before : q ≤ page_at w
    not-before = omega (arith, from_block sh q w e)

    pub not_behind : page_at w < q + sh.pages
    not_behind =
        let m : suc (index_of sh q w) * sh.block ≤ sh.capacity * sh.block = mul-le-mul_right sh.block (below_capacity sh q w e) in
        omega (arith, suc-mul (index_of sh q w) sh.block, from_block sh q w e, at_block sh q w e, s.fits, s.wide)

  module _ (b : List ℕ) (h : whole n b sh c q ≡ true) where
    block_start : (w : ℕ) → is_block sh q w ≡ true → start_of b w ≡ q
    unfolding start_of
    block_start w e = (whole_says n b sh c q h).first (page_at w) (not-before w e) (not_behind w e)

    block_in-run : (w : ℕ) → is_block sh q w ≡ true → in_run_of n b sh c w ≡ true
    unfolding in_run_of
    block_in-run w e =
        let r = whole_says n b sh c q h in
        rw (
          block_start w e,
          lt-ltb (page_at w) n (omega (arith, r.inside, not_behind w e)),
          lt-ltb (page_at w) (get b (arena frontier)) (omega (arith, r.below, not_behind w e)),
          le-leb q (page_at w) (not-before w e),
          lt-ltb (page_at w) (q + sh.pages) (not_behind w e),
          h,
        )

    is_block_lem : (w : ℕ) → out_in b sh q w ≡ true → is_block sh q w ≡ true
    is_block_lem w o = and_left (is_block sh q w) _ (sym (out_in_lem b sh q w) ∙ o)

    pub run-start : (w : ℕ) → out_in b sh q w ≡ true → start_of b w ≡ q
    run-start w o = block_start w (is_block_lem w o)

    pub run_out : (w : ℕ) → out_in b sh q w ≡ true → out_at n b c sh w ≡ true
    unfolding out_at
    run_out w o = rw (run-start w o, block_in-run w (is_block_lem w o), o)

  pub out-here : (b : List ℕ) (w : ℕ) → start_of b w ≡ q → out_at n b c sh w ≡ true → out_in b sh q w ≡ true
  unfolding out_at
  out-here b w e o = rw (← e) (and_right (in_run_of n b sh c w) _ o)

pub in_low : (sh : Shape) (s : Sound sh) (q : ℕ) (b : List ℕ) (w : ℕ) → out_in b sh q w ≡ true → index_of sh q w < 4096
in_low sh s q b w o = omega (arith, below_capacity sh q w (and_left (is_block sh q w) _ (sym (out_in_lem b sh q w) ∙ o)), s.few)
