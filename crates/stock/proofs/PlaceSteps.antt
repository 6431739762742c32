-- The ways out of the functions on a stock's places, and what the loop over a list keeps.
use Rattle.facts.proofs.Prelude.{ℕ, ◌+◌, ◌*◌, ◌/◌, ◌%◌, ◌^◌, ◌≤◌, ◌<◌, arith, mod-lt, List, ◌≡◌, ap, ◌∙◌}
use Rattle.facts.proofs.Prelude.{eqb, ltb, length, get_or, drop, lt-ltb, le-ltb}
use Rattle.words.specs.Word.{granule_of}
use Rattle.poolcalls.specs.Stock.{place_at, count_in, entry_in, place_in, stocked, put_count, put, pushed, put_all}
use Rattle.stock.specs.way.Pre.{PoolPre}

pub push_step : (b b₁ b₂ : List ℕ) (c k g : ℕ) → k ≡ count_in b c → b₁ ≡ put b c k g → b₂ ≡ put_count b₁ c (k + 1) → b₂ ≡ pushed b c g
push_step b b₁ b₂ c k g p q r = r ∙ rw (q, p) (ap (put_count (put b c (count_in b c) g) c) (omega arith))

module _ (b : List ℕ) (c g k m : ℕ) (p : k ≡ place_in b g) (q : m ≡ count_in b c) where
  pub stocked-yes : (e : ℕ) → k < m → e ≡ entry_in b c k → eqb e g ≡ stocked b c g
  unfolding stocked
  stocked-yes e t f = rw (← p, ← q, lt-ltb k m t, f)

  pub stocked-no : m ≤ k → ltb k m ≡ stocked b c g
  unfolding stocked
  stocked-no t = rw (← p, ← q, le-ltb k m t)

-- a place is 8 bits
pub place-low : (b : List ℕ) (g k : ℕ) → k ≡ place_in b g → k < 256
unfolding place_in
place-low b g k e = let l : get_or b (place_at g) 0 / 2 ^ (8 * (g % 4)) % 2 ^ 8 < 2 ^ 8 = mod-lt (get_or b (place_at g) 0 / 2 ^ (8 * (g % 4))) (omega arith) in omega arith

pub put-granule : (b b' : List ℕ) (c k v w g : ℕ) → v ≡ w → g ≡ granule_of v → b' ≡ put b c k g → b' ≡ put b c k (granule_of w)
put-granule b b' c k v w g e h q = q ∙ ap (put b c k) (h ∙ ap granule_of e)

-- ---- a list's blocks: k are in their places, and the others are left to be put
pub record Putting (n : ℕ) (b₀ : List ℕ) (c : ℕ) (ws b : List ℕ) (k : ℕ) : Type 0 where
  pub pre : PoolPre n b c
  pub same : length b ≡ length b₀
  pub rest : put_all b₀ c 0 ws ≡ put_all b c k (drop k ws)
