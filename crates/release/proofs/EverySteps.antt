-- A loop that tests every listed word and ends at the first that fails; and `of_one_run`, which has just such a loop.
use Rattle.facts.proofs.Prelude.{ℕ, ◌+◌, ◌^◌, ◌≤◌, ◌<◌, arith, add-one, Bool, true, false, List, ◌≡◌, refl, ap, ◌∙◌}
use Rattle.facts.proofs.Prelude.{eqb, ltb, length, get_or, drop, drop-cons, ltb-true, every, drop_past, every_get}
use Rattle.fields.specs.Field.{page, first, get, words, Has}
use Rattle.pages.specs.Stack.{page_at}
use Rattle.calls.specs.Out.{start_of}
use Rattle.release.specs.way.Pre.{StartPre}

pub record EveryInv (t : ℕ → Bool) (ws : List ℕ) (i : ℕ) : Type 0 where
  pub within : i ≤ length ws
  pub rest : every t (drop i ws) ≡ every t ws

module _ (t : ℕ → Bool) (ws : List ℕ) where
  pub every-starts : EveryInv t ws 0
  every-starts = record { within = omega arith; rest = refl }

  module _ (i : ℕ) (r : Bool) (v : EveryInv t ws i) (l : i < length ws) (e : r ≡ t (get_or ws i 0)) where
    pub every-goes_on : r ≡ true → EveryInv t ws (i + 1)
    every-goes_on h = record { within = omega arith; rest = rw (add-one i) (rw (drop-cons ws i 0 l, ← e, h) at v.rest) }

    pub every-stops : r ≡ false → false ≡ every t ws
    every-stops h = rw (drop-cons ws i 0 l, ← e, h) at v.rest

  pub every-ends : (i : ℕ) → EveryInv t ws i → length ws ≤ i → true ≡ every t ws
  every-ends i v l = rw (drop_past ws i l) at v.rest

-- ---- number 11
pub page-fits : (n w : ℕ) → n < 2 ^ 32 → ltb (page_at w) n ≡ true → page_at w < 2 ^ 32
page-fits n w h l = omega (arith, ltb-true (page_at w) n l)

module _ (n : ℕ) (b : List ℕ) (q w p : ℕ) (l : ltb (page_at w) n ≡ true) (e : p ≡ page_at w) where
  pub first-there : words n ≤ length b → Has b (page first p)
  first-there h = omega (arith, ltb-true (page_at w) n l)

  pub start-told : (x : ℕ) → x ≡ get b (page first p) → eqb x q ≡ eqb (start_of b w) q
  unfolding start_of
  start-told x k = ap (λ y. eqb y q) (k ∙ ap (λ y. get b (page first y)) e)

pub page-below : (n : ℕ) (b ws : List ℕ) (i : ℕ) → StartPre n b ws → i < length ws → ltb (page_at (get_or ws i 0)) n ≡ true
page-below n b ws i a l = every_get (λ w. ltb (page_at w) n) ws i a.pages l
