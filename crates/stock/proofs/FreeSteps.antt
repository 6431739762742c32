-- The ways out of a free.
use Rattle.facts.proofs.Prelude.{ℕ, ◌+◌, ◌*◌, ◌%◌, ◌^◌, ◌≤◌, ◌<◌, arith, Bool, true, false, cond, not, and-true, true≢false, List, [], ◌∷◌, ◌≡◌, refl, sym}
use Rattle.facts.proofs.Prelude.{ap, ◌∙◌, eqb, ltb, leb, le-ltb, le-leb, lt-leb, eq-eqb, eqb-true, leb-false, not-true, not-false, by_cases, and_no, and_left, and_right}
use Rattle.words.specs.Word.{kind_of, granule_of, block_word}
use Rattle.classes.specs.Shape.{shape_of, pool_id}
use Rattle.fields.specs.Ranges.{format_valid}
use Rattle.model.specs.Release.{of_kind}
use Rattle.calls.specs.Out.{out_at, out_fault, unmarked, repeats}
use Rattle.calls.specs.Release.{released_none, release_blocks}
use Rattle.pool.specs.Stock.{stock_most}
use Rattle.poolcalls.specs.Stock.{count_in, stocked, pushed}
use Rattle.pool.specs.Pool.{refused, freed}
use Rattle.poolcalls.specs.Calls.{pool_reply, count_valid, released_on, freed_on, free_on, FreeEnds}
use Rattle.stock.specs.way.Pre.{NearPre, FreePre, PoolPre}
use Rattle.stock.specs.way.Ends.{ReleasedOne, Kept, far_fault, is_full}
use Rattle.stock.proofs.RoomSteps.{room-limit}
use Rattle.stock.proofs.QuerySteps.{behind-kind, behind-granule, far-kind, near-kind, far-out}

-- ---- not in the arena
pub far-other : (x : ℕ) → 2 ^ 62 ≤ x → 9 ≡ far_fault x
far-other x h = rw (le-leb (2 ^ 62) x h)

pub far-away : (x : ℕ) → x < 2 ^ 62 → 10 ≡ far_fault x
far-away x h = rw (lt-leb (2 ^ 62) x h)

-- x is how far the word lies behind the class's first
module _ (c w x : ℕ) (ex : (x + block_word (shape_of (pool_id c)).kind 0) % 2 ^ 64 ≡ w) (fit : x < 2 ^ 64) where
  module _ (n : ℕ) (b : List ℕ) (h : ℕ) where
    pub free-far : (m r : ℕ) → m ≡ n → 4096 * m ≤ x → r ≡ far_fault x → FreeEnds (free_on n b c h w) r b
    unfolding free_on
    free-far m r q y e =
        let l : 4096 * n ≤ x = rw (← q) y in
        by_cases (leb (2 ^ 62) x)
        (λ t. rw (far-kind c w x ex fit t) (record { code = e ∙ rw t; book = refl }))
        (λ t.
        let s = leb-false (2 ^ 62) x t in
        rw (near-kind c w x ex fit s, far-out c w x ex fit n b l s) (record { code = e ∙ rw t; book = refl }))

    pub free-near : (m : ℕ) → m ≡ n → PoolPre n b c → x < 4096 * m → NearPre n b c x w
    free-near m q a y =
        let l : x < 4096 * n = rw (← q) y in
        let s : x < 2 ^ 62 = omega (arith, a.few) in
        record { known = a.known; few = a.few; long = a.long; low = l; granule = behind-granule c w x ex fit s; kind = behind-kind c w x ex fit s }

-- ---- of the class's kind, in the arena
module _ (n : ℕ) (b : List ℕ) (c g w : ℕ) (a : NearPre n b c g w) (s : Bool) (es : s ≡ stocked b c g) where
  pub free-stocked : (h : ℕ) → s ≡ true → FreeEnds (free_on n b c h w) 10 b
  unfolding free_on of_kind
  free-stocked h z =
      let st : stocked b c (granule_of w) ≡ true = rw (← a.granule) (sym es ∙ z) in
      rw (eq-eqb (kind_of w) (shape_of (pool_id c)).kind a.kind, st, and_no (out_at n b (pool_id c) (shape_of (pool_id c)) w)) (record { code = refl; book = refl })

  pub free-pre : s ≡ false → FreePre n b c g w
  free-pre z = record { known = a.known; few = a.few; long = a.long; low = a.low; granule = a.granule; kind = a.kind; away = sym es ∙ z }

-- ---- and not in stock
module _ (n : ℕ) (b : List ℕ) (c g w : ℕ) (a : FreePre n b c g w) where
  pub pre-call : PoolPre n b c
  pre-call = record { known = a.known; few = a.few; long = a.long }

  pub word_low : granule_of w < 4096 * n
  word_low = rw (← a.granule) a.low

  right-kind : of_kind (shape_of (pool_id c)).kind w ≡ true
  unfolding of_kind
  right-kind = eq-eqb (kind_of w) (shape_of (pool_id c)).kind a.kind

  not-stocked : stocked b c (granule_of w) ≡ false
  not-stocked = rw (← a.granule) a.away

  free-is : (h : ℕ) → free_on n b c h w ≡ cond (not (out_at n b (pool_id c) (shape_of (pool_id c)) w)) (pool_reply (refused 10) b) (freed_on n b c h w)
  unfolding free_on
  free-is h = rw (right-kind, not-stocked, and-true (out_at n b (pool_id c) (shape_of (pool_id c)) w))

  -- the stock is full: the heap refuses a block that is not out, as the pool does
  module _ (f : Bool) (k : ℕ) (ek : k ≡ count_in b c) (ef : f ≡ is_full c k) (full : f ≡ true) (h : ℕ) where
    at_most : leb k 255 ≡ true
    at_most = and_left (leb k 255) (not (ltb k (stock_most c))) (sym ef ∙ full)

    no_room : ltb k (stock_most c) ≡ false
    no_room = not-true (ltb k (stock_most c)) (and_right (leb k 255) (not (ltb k (stock_most c))) (sym ef ∙ full))

    full_is : free_on n b c h w ≡ cond (not (out_at n b (pool_id c) (shape_of (pool_id c)) w)) (pool_reply (refused 10) b) (released_on freed (release_blocks n b (pool_id c) (shape_of (pool_id c)) h (w ∷ [])).book (release_blocks n b (pool_id c) (shape_of (pool_id c)) h (w ∷ [])))
    unfolding freed_on count_valid
    full_is = free-is h ∙ rw (← ek, no_room, at_most)

    not-out : out_at n b (pool_id c) (shape_of (pool_id c)) w ≡ false → release_blocks n b (pool_id c) (shape_of (pool_id c)) h (w ∷ []) ≡ released_none b 10
    unfolding release_blocks out_fault unmarked repeats
    not-out t = rw (right-kind, t)

    free-given : (r : ℕ) (b' : List ℕ) → ReleasedOne r b' (release_blocks n b (pool_id c) (shape_of (pool_id c)) h (w ∷ [])) → FreeEnds (free_on n b c h w) r b'
    unfolding released_on
    free-given r b' z =
        by_cases (out_at n b (pool_id c) (shape_of (pool_id c)) w)
        (λ t.
        rw (full_is, t)
        (by_cases (eqb (release_blocks n b (pool_id c) (shape_of (pool_id c)) h (w ∷ [])).code 0)
        (λ u. rw u (record { code = z.code ∙ eqb-true _ 0 u; book = z.book }))
        (λ u. rw u (record { code = z.code; book = z.book }))))
        (λ t.
        let y : ReleasedOne r b' (released_none b 10) = rw (not-out t) at z in
        rw (full_is, t) (record { code = y.code; book = y.book }))

  -- it is not
  module _ (k : ℕ) (ek : k ≡ count_in b c) (spare : is_full c k ≡ false) (o : Bool) (eo : o ≡ out_at n b (pool_id c) (shape_of (pool_id c)) w) where
    pub keep_absent : not o ≡ true → Kept 10 b n b c w
    keep_absent z = record { ends = λ h. rw (free-is h, ← eo, not-true o z) (record { code = refl; book = refl }) }

    module _ (y : not o ≡ false) where
      z : o ≡ true
      z = not-false o y

      pub keep-beyond : 255 < k → Kept 13 b n b c w
      unfolding freed_on count_valid
      keep-beyond l =
          let none : ltb k (stock_most c) ≡ false = le-ltb k (stock_most c) (omega (arith, room-limit c)) in
          record { ends = λ h. rw (free-is h, ← eo, z, ← ek, none, lt-leb k 255 l) (record { code = refl; book = refl }) }

      has_room : k ≤ 255 → ltb k (stock_most c) ≡ true
      has_room l = by_cases (ltb k (stock_most c)) (λ t. t) (λ t. let f : true ≡ false = rw (le-leb k 255 l, t) at spare in absurd (true≢false f))

      pub keep_low : k ≤ 255 → k < 256
      keep_low l = omega arith

      module _ (l : k ≤ 255) (f : Bool) (ef : f ≡ format_valid b) where
        fewer : ltb (count_in b c) (stock_most c) ≡ true
        fewer = rw (← ek) (has_room l)

        pub keep_unmade : not f ≡ true → Kept 13 b n b c w
        unfolding freed_on
        keep_unmade u = record { ends = λ h. rw (free-is h, ← eo, z, fewer, ← ef, not-true f u) (record { code = refl; book = refl }) }

        pub keep-pushed : (b' : List ℕ) → not f ≡ false → b' ≡ pushed b c g → Kept 0 b' n b c w
        unfolding freed_on
        keep-pushed b' u q =
            record { ends = λ h. rw (free-is h, ← eo, z, fewer, ← ef, not-false f u) (record { code = refl; book = q ∙ ap (pushed b c) a.granule }) }

-- from before the look into the stock
pub free-full : (n : ℕ) (b : List ℕ) (c g w : ℕ) → NearPre n b c g w → (s : Bool) → s ≡ stocked b c g → s ≡ false → (f : Bool) (k : ℕ) → k ≡ count_in b c → f ≡ is_full c k → f ≡ true
    → (h r : ℕ) (b' : List ℕ) → ReleasedOne r b' (release_blocks n b (pool_id c) (shape_of (pool_id c)) h (w ∷ [])) → FreeEnds (free_on n b c h w) r b'
free-full n b c g w a s es z f k ek ef full h r b' t = free-given n b c g w (free-pre n b c g w a s es z) f k ek ef full h r b' t

pub free-kept : (n : ℕ) (b : List ℕ) (c h w r : ℕ) (b' : List ℕ) → Kept r b' n b c w → FreeEnds (free_on n b c h w) r b'
free-kept n b c h w r b' k = k.ends h

pub not_full : (c k : ℕ) (f : Bool) → f ≡ is_full c k → f ≡ false → is_full c k ≡ false
not_full c k f e z = sym e ∙ z
