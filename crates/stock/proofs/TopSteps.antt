-- The block on top of a stock: number 13, and its word.
use Rattle.facts.proofs.Prelude.{ℕ, ◌+◌, ◌-◌, ◌*◌, ◌/◌, ◌%◌, ◌^◌, ◌≤◌, ◌<◌, arith, mod-eq_of_lt, Bool, true, false, not, and-true, List, ◌≡◌, refl}
use Rattle.facts.proofs.Prelude.{sym, ap, ◌∙◌, ltb, leb, lt-ltb, le-ltb, le-leb, lt-leb, leb-true, not-false, by_cases, and_no, and_left, and_right}
use Rattle.words.specs.Word.{block_word, pack_block}
use Rattle.classes.specs.Shape.{shape_of, small_shape, medium_shape, pool_id}
use Rattle.classes.specs.way.Near.{block_bytes}
use Rattle.classes.proofs.Shapes.{shape-sound, shape-pool, most_bytes}
use Rattle.fields.specs.Ranges.{format_valid}
use Rattle.poolcalls.specs.Stock.{count_in, entry_in}
use Rattle.poolcalls.specs.Calls.{count_valid, top_valid}

pub granules-are : (c size : ℕ) → size ≡ block_bytes c → size / 16 ≡ (shape_of (pool_id c)).block
unfolding block_bytes small_shape medium_shape
granules-are c size e = rw (shape-pool c, e) (by_cases (ltb c 64) (λ t. rw t) (λ t. rw t))

-- no block is longer than a page
block-most : (c : ℕ) → (shape_of (pool_id c)).block ≤ 4096
block-most c = omega (arith, granules-are c (block_bytes c) refl, most_bytes c (block_bytes c) refl)

module _ (n c g : ℕ) where
  pub ends-early : (s e : ℕ) → s ≡ g → e ≡ n → s + 4096 ≤ 4096 * e → leb (s + 4096) (4096 * e) ≡ leb (g + (shape_of (pool_id c)).block) (4096 * n)
  ends-early s e p q h = le-leb (s + 4096) (4096 * e) h ∙ sym (le-leb (g + (shape_of (pool_id c)).block) (4096 * n) (omega (arith, block-most c)))

module _ (n : ℕ) (b : List ℕ) (c k : ℕ) (e : k ≡ count_in b c) where
  pub top-over : 255 < k → false ≡ top_valid n b c
  unfolding top_valid count_valid
  top-over h = rw (← e, lt-leb k 255 h) (sym (and_no (format_valid b)))

  module _ (h : k ≤ 255) (g : ℕ) (f : g ≡ entry_in b c (k - 1)) (s : Bool) (i : s ≡ leb (g + (shape_of (pool_id c)).block) (4096 * n)) where
    pub top_within : s ≡ true → (t : Bool) → t ≡ format_valid b → t ≡ top_valid n b c
    unfolding top_valid count_valid
    top_within y t u = rw (← e, le-leb k 255 h, ← f, ← i, y, ← u) (sym (and-true t))

    pub top-past : s ≡ false → s ≡ top_valid n b c
    unfolding top_valid count_valid
    top-past y = rw (← e, le-leb k 255 h, ← f, ← i, y) (sym (and_no (format_valid b)))

  pub top-low : (f : Bool) → f ≡ top_valid n b c → not f ≡ false → k - 1 < 256
  unfolding top_valid count_valid
  top-low f ef u = omega (arith, leb-true k 255 (rw (← e) at (and_left (leb (count_in b c) 255) _ (and_right (format_valid b) _ (sym ef ∙ not-false f u)))))

pub kind-small : (c : ℕ) → c < 64 → 1 ≡ (shape_of (pool_id c)).kind
unfolding small_shape
kind-small c h = rw (shape-pool c, lt-ltb c 64 h)

pub kind-medium : (c : ℕ) → 64 ≤ c → 2 ≡ (shape_of (pool_id c)).kind
unfolding medium_shape
kind-medium c h = rw (shape-pool c, le-ltb c 64 h)

pub word-is : (c k g i w : ℕ) → k ≡ (shape_of (pool_id c)).kind → g < 2 ^ 32 → i ≡ g → w ≡ pack_block k i → w ≡ block_word (shape_of (pool_id c)).kind g
word-is c k g i w e h j x =
    let q : w ≡ pack_block k g = rw j at x in
    let a : (shape_of (pool_id c)).kind % 2 ^ 2 ≡ (shape_of (pool_id c)).kind = mod-eq_of_lt (omega (arith, (shape-sound (pool_id c)).known)) in
    let d : g % 2 ^ 62 ≡ g = mod-eq_of_lt (omega arith) in
    q ∙ ap (λ z. pack_block z g) e ∙ ap (λ z. block_word z (g % 2 ^ 62)) a ∙ ap (block_word (shape_of (pool_id c)).kind) d
