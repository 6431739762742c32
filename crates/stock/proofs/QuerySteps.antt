-- The ways out of the look at a class's pool.
use Rattle.facts.proofs.Prelude.{ℕ, ◌+◌, ◌*◌, ◌%◌, ◌^◌, ◌≤◌, ◌<◌, arith, Bool, true, false, not, ◌&&◌, and-true, List, ◌≡◌}
use Rattle.facts.proofs.Prelude.{sym, leb, le-ltb, le-leb, lt-leb, eq-eqb, ne_eqb, leb-true, leb-false, not-true, not-false, by_cases, and_no}
use Rattle.words.specs.Word.{kind_of, granule_of, block_word}
use Rattle.classes.specs.declared.Shape.{Shape}
use Rattle.classes.specs.Shape.{shape_of, pool_id}
use Rattle.classes.proofs.Shapes.{shape-sound}
use Rattle.fields.specs.Ranges.{format_valid}
use Rattle.model.specs.Release.{of_kind}
use Rattle.pages.specs.Stack.{page_at}
use Rattle.calls.specs.Out.{in_run_of, out_at}
use Rattle.poolcalls.specs.Stock.{count_in, stocked}
use Rattle.poolcalls.specs.Calls.{count_valid, granted_in, stocked_in}
use Rattle.stock.specs.way.Pre.{GranulePre, PoolPre}

-- ---- the blocks in stock
module _ (b : List ℕ) (c k : ℕ) (e : k ≡ count_in b c) where
  pub stock-invalid : 255 < k → 0 ≡ stocked_in b c
  unfolding stocked_in count_valid
  stock-invalid h = rw (← e, lt-leb k 255 h, and_no (format_valid b))

  module _ (h : k ≤ 255) (f : Bool) (ef : f ≡ format_valid b) where
    pub stock-counted : f ≡ true → k ≡ stocked_in b c
    unfolding stocked_in count_valid
    stock-counted t = rw (← ef, t, ← e, le-leb k 255 h)

    pub stock_unmade : f ≡ false → 0 ≡ stocked_in b c
    unfolding stocked_in
    stock_unmade t = rw (← ef, t)

-- ---- any word. One beyond the arena is out nowhere
out-low : (n : ℕ) (b : List ℕ) (c : ℕ) (sh : Shape) (w : ℕ) → 4096 * n ≤ granule_of w → out_at n b c sh w ≡ false
unfolding out_at in_run_of
out-low n b c sh w h = rw (le-ltb (page_at w) n (omega arith))

-- x is how far the word lies behind the class's first
module _ (c w x : ℕ) (ex : (x + block_word (shape_of (pool_id c)).kind 0) % 2 ^ 64 ≡ w) (fit : x < 2 ^ 64) where
  pub behind-kind : x < 2 ^ 62 → kind_of w ≡ (shape_of (pool_id c)).kind
  behind-kind h = omega (arith, (shape-sound (pool_id c)).known)

  pub behind-granule : x < 2 ^ 62 → x ≡ granule_of w
  behind-granule h = omega (arith, (shape-sound (pool_id c)).known)

  other-kind : 2 ^ 62 ≤ x → kind_of w ≡ (shape_of (pool_id c)).kind → ⊥
  other-kind h e = omega (arith, (shape-sound (pool_id c)).known)

  pub far-kind : leb (2 ^ 62) x ≡ true → of_kind (shape_of (pool_id c)).kind w ≡ false
  unfolding of_kind
  far-kind t = ne_eqb (kind_of w) (shape_of (pool_id c)).kind (other-kind (leb-true (2 ^ 62) x t))

  pub near-kind : x < 2 ^ 62 → of_kind (shape_of (pool_id c)).kind w ≡ true
  unfolding of_kind
  near-kind h = eq-eqb (kind_of w) (shape_of (pool_id c)).kind (behind-kind h)

  module _ (n : ℕ) (b : List ℕ) where
    pub far-out : 4096 * n ≤ x → x < 2 ^ 62 → out_at n b (pool_id c) (shape_of (pool_id c)) w ≡ false
    far-out l h = out-low n b (pool_id c) (shape_of (pool_id c)) w (omega (arith, behind-granule h))

    pub granted-far : 4096 * n ≤ x → false ≡ (format_valid b && (of_kind (shape_of (pool_id c)).kind w && granted_in n b c w))
    granted-far l =
        by_cases (leb (2 ^ 62) x)
        (λ t. rw (far-kind t) (sym (and_no (format_valid b))))
        (λ t. let s = leb-false (2 ^ 62) x t in rw (near-kind s, far-out l s) (sym (and_no (format_valid b))))

    pub granted_unmade : (f : Bool) → f ≡ format_valid b → not f ≡ true → false ≡ (format_valid b && (of_kind (shape_of (pool_id c)).kind w && granted_in n b c w))
    granted_unmade f e u = rw (← e, not-true f u)

    module _ (a : PoolPre n b c) (l : x < 4096 * n) where
      near : x < 2 ^ 62
      near = omega (arith, a.few)

      pub near-pre : GranulePre n b c x
      near-pre = record { known = a.known; few = a.few; long = a.long; low = l }

      module _ (s : Bool) (es : s ≡ stocked b c x) where
        near-stocked : stocked b c (granule_of w) ≡ s
        near-stocked = rw (← (behind-granule near)) (sym es)

        pub granted-stocked : not s ≡ false → not s ≡ (format_valid b && (of_kind (shape_of (pool_id c)).kind w && granted_in n b c w))
        granted-stocked z = rw (near-kind near, near-stocked, not-false s z, and_no (out_at n b (pool_id c) (shape_of (pool_id c)) w)) (sym (and_no (format_valid b)))

        pub granted-out : (f : Bool) → f ≡ format_valid b → not f ≡ false → (o : Bool) → not s ≡ true → o ≡ out_at n b (pool_id c) (shape_of (pool_id c)) w
            → o ≡ (format_valid b && (of_kind (shape_of (pool_id c)).kind w && granted_in n b c w))
        granted-out f e u o z eo = rw (← e, not-false f u, near-kind near, near-stocked, not-true s z, ← eo) (sym (and-true o))
