-- Class tables: each size comes from the one before as document 02 says, neighbours below the top rise, what reaches the top stays there,
-- and 9, 8, 16,384, 64 give the small class table.
use Rattle.facts.proofs.Prelude.{ℕ, zero, suc, ◌+◌, ◌-◌, ◌*◌, ◌≤◌, ◌<◌, arith, mul-le-mul_left, suc-mul, mul-suc, le-div_iff_mul-le}
use Rattle.facts.proofs.Prelude.{div-lt_iff_lt-mul, add-one, inl, inr, ◌≡◌, refl, ltb, get_or, ltb-true, ltb-false, by_cases}
use Rattle.classes.specs.Sizes.{small_sizes, granule_bytes}
use Rattle.tables.specs.Table.{quotient_up, whole_up, cut_at, next_size, sizes_from, table, Growth}
use Rattle.tables.specs.Meaning.{RoundedUp, Grows}

pub table-small : table 9 8 16384 64 ≡ small_sizes
unfolding sizes_from next_size small_sizes
table-small = refl

-- a growth above 1 grows a size
quotient-above : (a b top size : ℕ) → Growth a b top → 1 ≤ size → size < quotient_up (size * a) b
quotient-above a b top size r h =
    let m : size * suc b ≤ size * a = mul-le-mul_left size r.above in
    let e : suc size * b ≤ size * a + (b - 1) = omega (arith, suc-mul size b, mul-suc size b) in
    (le-div_iff_mul-le r.positive).1 e

rounded_up : (n b : ℕ) → 1 ≤ b → RoundedUp n b (quotient_up n b)
rounded_up n b pos =
    let q : ℕ = quotient_up n b in
    let above : n + (b - 1) < suc q * b = (div-lt_iff_lt-mul pos).0 (omega arith) in
    let fewest : (p : ℕ) → n ≤ p * b → q < suc p = λ p h. (div-lt_iff_lt-mul pos).1 (omega (arith, suc-mul p b)) in
    record { enough = omega (arith, suc-mul q b); least = λ p h. let l = fewest p h in omega arith }

-- a cut number, by cases
cut : (top n : ℕ) (P : ℕ → Type 0) → (n < top → P n) → (top ≤ n → P top) → P (cut_at top n)
cut top n P below above = by_cases (ltb n top) (λ e. rw e (below (ltb-true n top e))) (λ e. rw e (above (ltb-false n top e)))

module _ (a b top : ℕ) (r : Growth a b top) where
  grown : ℕ → ℕ
  grown size = whole_up (quotient_up (size * a) b)

  next_grows : (size : ℕ) → Grows a b top size (next_size a b top size)
  unfolding next_size grown
  next_grows size = record {
    grown = quotient_up (size * a) b;
    granules = quotient_up (quotient_up (size * a) b) granule_bytes;
    divided = rounded_up (size * a) b r.positive;
    whole = rounded_up (quotient_up (size * a) b) granule_bytes (omega arith);
    cut = by_cases (ltb (grown size) top)
        (λ e. let l = ltb-true (grown size) top e in inl (omega arith, rw e refl))
        (λ e. let l = ltb-false (grown size) top e in inr (l, rw e refl));
  }

  next-above : (size : ℕ) → 1 ≤ size → size < top → size < next_size a b top size
  unfolding next_size grown
  next-above size h l = let q = quotient-above a b top size r h in cut top (grown size) (λ n. size < n) (λ _. omega arith) (λ _. l)

  next-top : next_size a b top top ≡ top
  unfolding next_size grown
  next-top = let q = quotient-above a b top top r (omega (arith, r.low)) in cut top (grown top) (λ n. n ≡ top) (λ u. absurd (omega arith)) (λ _. refl)

  next-positive : (size : ℕ) → 1 ≤ size → 1 ≤ next_size a b top size
  unfolding next_size grown
  next-positive size h = let q = quotient-above a b top size r h in cut top (grown size) (λ n. 1 ≤ n) (λ _. omega arith) (λ _. omega (arith, r.low))

  next-within : (size : ℕ) → next_size a b top size ≤ top
  unfolding next_size grown
  next-within size = cut top (grown size) (λ n. n ≤ top) (λ l. omega arith) (λ _. omega arith)

  -- what holds of each size and the next holds of each two neighbours
  neighbours : (P : ℕ → ℕ → Type 0) → ((size : ℕ) → 1 ≤ size → P size (next_size a b top size)) → (size n i : ℕ) → 1 ≤ size → suc i < n
      → P (get_or (sizes_from a b top size n) i 0) (get_or (sizes_from a b top size n) (suc i) 0)
  unfolding sizes_from
  neighbours P f size zero i h k = absurd (omega arith)
  neighbours P f size (suc zero) i h k = absurd (omega arith)
  neighbours P f size (suc (suc n)) zero h k = f size h
  neighbours P f size (suc (suc n)) (suc i) h k = neighbours P f (next_size a b top size) (suc n) i (next-positive size h) (omega arith)

  within-from : (size n i : ℕ) → size ≤ top → get_or (sizes_from a b top size n) i 0 ≤ top
  unfolding sizes_from
  within-from size zero i h = omega arith
  within-from size (suc n) zero h = h
  within-from size (suc n) (suc i) h = within-from (next_size a b top size) n i (next-within size)

  module _ (slots : ℕ) where
    pub table-grows : (i : ℕ) → i + 1 < slots → Grows a b top (get_or (table a b top slots) i 0) (get_or (table a b top slots) (i + 1) 0)
    table-grows i k = rw add-one (neighbours (Grows a b top) (λ size h. next_grows size) granule_bytes slots i (omega arith) (omega arith))

    -- "Every two neighbours below the top rise."
    pub table-rises : (i : ℕ) → i + 1 < slots → get_or (table a b top slots) i 0 < top → get_or (table a b top slots) i 0 < get_or (table a b top slots) (i + 1) 0
    table-rises i k = rw add-one (neighbours (λ m n. m < top → m < n) next-above granule_bytes slots i (omega arith) (omega arith))

    -- "the remaining slots hold the top"
    pub table_stays : (i : ℕ) → i + 1 < slots → get_or (table a b top slots) i 0 ≡ top → get_or (table a b top slots) (i + 1) 0 ≡ top
    table_stays i k = rw add-one (neighbours (λ m n. m ≡ top → n ≡ top) (λ size h e. rw e next-top) granule_bytes slots i (omega arith) (omega arith))

    pub table-within : (i : ℕ) → get_or (table a b top slots) i 0 ≤ top
    table-within i = within-from granule_bytes slots i r.low
