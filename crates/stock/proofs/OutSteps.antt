-- The ways out of the tests whether a word is a block out in the class.
use Rattle.facts.proofs.Prelude.{ℕ, suc, ◌+◌, ◌-◌, ◌*◌, ◌/◌, ◌%◌, ◌^◌, ◌≤◌, ◌<◌, arith, add-zero, div-add-mod', le-div_iff_mul-le, Bool, true, false, not, not-true, not-false}
use Rattle.facts.proofs.Prelude.{◌&&◌, and-true, true≢false, List, ◌≡◌, refl, sym, ap, ◌∙◌, eqb, ltb, leb, length, lt-ltb, le-ltb, le-leb, lt-leb, eq-eqb}
use Rattle.facts.proofs.Prelude.{ne_eqb, eqb-true, leb-true, leb-false, ltb-true, ltb-false, every, below, by_cases, and_left, and_right, every-at}
use Rattle.std.specs.Prelude.{Option, Some, None, is_some}
use Rattle.std.proofs.Common.{w32, Fits}
use Rattle.words.specs.Word.{granule_of}
use Rattle.classes.specs.declared.Shape.{Shape}
use Rattle.classes.specs.Sizes.{small_sizes}
use Rattle.classes.specs.Shape.{shape_of, small_shape, class_count, pool_id}
use Rattle.classes.specs.way.Sound.{Sound}
use Rattle.classes.proofs.Shapes.{shape-sound, shape-pool, shape-alike}
use Rattle.fields.specs.Field.{arena, page, out, frontier, owner, first, get, words, Has}
use Rattle.pages.specs.Runs.{whole}
use Rattle.pages.specs.Stack.{page_at, blocks_from, index_of, is_block}
use Rattle.calls.specs.Out.{start_of, in_run_of, out_in, out_at}
use Rattle.lists.proofs.InverseLaws.{narrow}
use Rattle.release.specs.declared.Place.{Place}
use Rattle.release.specs.way.Blocks.{block_at, find_out}
use Rattle.release.proofs.BlockSteps.{none_found, found_at}
use Rattle.release.proofs.Bits.{below_capacity}
use Rattle.release.proofs.OutSteps.{out-told}
use Rattle.stock.specs.way.Pre.{PagePre, SmallPre}

-- ---- by the run that has the word's granule
found-block : (sh : Shape) (q w i : ℕ) → Some i ≡ block_at sh q w → (is_block sh q w ≡ true) × (i ≡ index_of sh q w)
found-block sh q w i h = found_at (is_block sh q w) (index_of sh q w) i h

has-bit : (b : List ℕ) (sh : Shape) (q w i : ℕ) → Sound sh → words (q + 1) ≤ length b → Some i ≡ block_at sh q w → Has b (out q i)
has-bit b sh q w i s l h =
    let z = found-block sh q w i h in
    omega (arith, below_capacity sh q w z.0, z.1, s.few)

module _ (b : List ℕ) (sh : Shape) (q w : ℕ) where
  pub out-no_block : None ≡ block_at sh q w → false ≡ out_in b sh q w
  unfolding out_in
  out-no_block h = rw (none_found (is_block sh q w) (index_of sh q w) h)

  pub out-bit : (i : ℕ) → Some i ≡ block_at sh q w → (x : ℕ) → x ≡ get b (out q i) → eqb x 1 ≡ out_in b sh q w
  unfolding out_in
  out-bit i h x k = let z = found-block sh q w i h in rw (z.0, ← z.1, k)

-- ---- by the heap's own look for it; d is the class's id
module _ (n : ℕ) (b : List ℕ) (c d : ℕ) (ed : d ≡ pool_id c) (sh : Shape) (es : sh ≡ shape_of d) (w : ℕ) (f : Option Place) (e : f ≡ find_out n b d sh w) where
  pub out-is_some : (r : Bool) → r ≡ is_some f → r ≡ out_at n b (pool_id c) (shape_of (pool_id c)) w
  out-is_some r h = h ∙ out-told n b d sh w f e ∙ rw (es, ed)

-- ---- a small class: its runs are one page, its blocks begin behind 3 granules
module _ (c : ℕ) (h : c < 64) where
  pub small-pages : (shape_of (pool_id c)).pages ≡ 1
  unfolding small_shape
  small-pages = rw (shape-pool c, lt-ltb c 64 h)

  pub small_header_lem : (shape_of (pool_id c)).header ≡ 3
  unfolding small_shape
  small_header_lem = rw (shape-pool c, lt-ltb c 64 h)

  -- the shape by the class's number
  pub small-alike : (sh : Shape) → sh ≡ shape_of c → sh ≡ shape_of (pool_id c)
  small-alike sh e = e ∙ sym (shape-alike c (lt-ltb c class_count (omega arith)))

module _ (n : ℕ) (b : List ℕ) (c p : ℕ) (a : PagePre n b c p) where
  whole-page : whole n b (shape_of (pool_id c)) (pool_id c) p ≡ (ltb p (get b (arena frontier)) && (eqb (get b (page owner p)) (suc (pool_id c)) && eqb (get b (page first p)) p))
  unfolding whole
  whole-page =
      rw (small-pages c a.small, add-zero p, le-leb (p + 1) n (omega (arith, a.below)))
      (by_cases (ltb p (get b (arena frontier)))
      (λ t. rw (t, le-leb (p + 1) (get b (arena frontier)) (omega (arith, ltb-true p (get b (arena frontier)) t))) (and-true _))
      (λ t. rw (t, none t)))
    where
      none : ltb p (get b (arena frontier)) ≡ false → leb (p + 1) (get b (arena frontier)) ≡ false
      none t = lt-leb (p + 1) (get b (arena frontier)) (omega (arith, ltb-false p (get b (arena frontier)) t))

  module _ (f : ℕ) (ef : f ≡ get b (arena frontier)) where
    pub page-past : f ≤ p → false ≡ whole n b (shape_of (pool_id c)) (pool_id c) p
    page-past h = sym (whole-page ∙ rw (← ef, le-ltb p f h))

    module _ (h : p < f) (o d : ℕ) (eo : o ≡ get b (page owner p)) (ed : d ≡ pool_id c) where
      pub page-other : (o ≡ d + 1 → ⊥) → eqb o (d + 1) ≡ whole n b (shape_of (pool_id c)) (pool_id c) p
      page-other other = ne_eqb o (d + 1) other ∙ sym (whole-page ∙ rw (← ef, lt-ltb p f h, ← eo, ne_eqb o (suc (pool_id c)) (λ z. other (omega arith))))

      pub page-own : o ≡ d + 1 → (q : ℕ) → q ≡ get b (page first p) → eqb q p ≡ whole n b (shape_of (pool_id c)) (pool_id c) p
      page-own own q eq = sym (whole-page ∙ rw (← ef, lt-ltb p f h, ← eo, eq-eqb o (suc (pool_id c)) (omega arith), ← eq))

-- as many blocks as the granules behind the header have
all_capacities : every (λ c. eqb (shape_of (pool_id c)).capacity (4093 / (shape_of (pool_id c)).block)) (below 64) ≡ true
unfolding shape_of small_shape small_sizes
all_capacities = refl

pub small-wide : (c : ℕ) (sh : Shape) → sh ≡ shape_of c → 0 < sh.block
small-wide c sh es = rw es (omega (arith, (shape-sound c).wide))

-- the block of the run at the word's page: y is its granule there, counted from the first block, round the page's end
module _ (c w : ℕ) (small : c < 64) (sh : Shape) (en : sh ≡ shape_of c) (x : ℕ) (ex : (x + 3) % 2 ^ 64 ≡ w) (fit : x < 2 ^ 64) (y : ℕ) (ey : y ≡ x % 4096) where
  es : sh ≡ shape_of (pool_id c)
  es = small-alike c small sh en

  wide : 0 < (shape_of (pool_id c)).block
  wide = omega (arith, (shape-sound (pool_id c)).wide)

  pub small-sum : Fits w32 (y + sh.block)
  small-sum =
      let b : sh.block ≤ 2 ^ 15 = rw es (narrow (shape_of (pool_id c)) (shape-sound (pool_id c))) in
      record { fits = omega arith }

  capacity_is : (shape_of (pool_id c)).capacity ≡ 4093 / (shape_of (pool_id c)).block
  capacity_is = eqb-true (shape_of (pool_id c)).capacity (4093 / (shape_of (pool_id c)).block) (every-at (λ j. eqb (shape_of (pool_id j)).capacity (4093 / (shape_of (pool_id j)).block)) 64 c all_capacities small)

  at-page : granule_of w ≡ page_at w * 4096 + granule_of w % 4096
  at-page = sym (div-add-mod' (granule_of w) 4096)

  -- a word in the header
  header_none : granule_of w % 4096 < 3 → is_block (shape_of (pool_id c)) (page_at w) w ≡ false
  unfolding is_block
  header_none l = rw (lt-leb (blocks_from (shape_of (pool_id c)) (page_at w)) (granule_of w) (omega (arith, at-page, small_header_lem c small)))

  header_far : granule_of w % 4096 < 3 → 4093 ≤ y
  header_far l = omega arith

  behind : 3 ≤ granule_of w % 4096 → granule_of w ≡ y + blocks_from (shape_of (pool_id c)) (page_at w)
  behind l = let z : y ≡ granule_of w % 4096 - 3 = omega arith in omega (arith, at-page, small_header_lem c small)

  module _ (l : 3 ≤ granule_of w % 4096) where
    from : leb (blocks_from (shape_of (pool_id c)) (page_at w)) (granule_of w) ≡ true
    from = le-leb (blocks_from (shape_of (pool_id c)) (page_at w)) (granule_of w) (omega (arith, behind l))

    difference : granule_of w - blocks_from (shape_of (pool_id c)) (page_at w) ≡ y
    difference = omega (arith, behind l)

    index-here : index_of (shape_of (pool_id c)) (page_at w) w ≡ y / (shape_of (pool_id c)).block
    unfolding index_of
    index-here = ap (λ z. z / (shape_of (pool_id c)).block) difference

    here : is_block (shape_of (pool_id c)) (page_at w) w ≡ (eqb (y / (shape_of (pool_id c)).block * (shape_of (pool_id c)).block) y && ltb (y / (shape_of (pool_id c)).block) (shape_of (pool_id c)).capacity)
    unfolding is_block
    here = rw (from, index-here, difference)

  none-at : is_block (shape_of (pool_id c)) (page_at w) w ≡ false → None ≡ block_at (shape_of (pool_id c)) (page_at w) w
  none-at e = rw e

  -- 3 or more, or in the header
  sides : {P : Type 0} → (granule_of w % 4096 < 3 → P) → (3 ≤ granule_of w % 4096 → P) → P
  sides f g = by_cases (ltb (granule_of w % 4096) 3) (λ t. f (ltb-true _ _ t)) (λ t. g (omega (arith, ltb-false (granule_of w % 4096) 3 t)))

  -- the block at y / block begins at y and ends within the page exactly if the page has so many
  within : y / (shape_of (pool_id c)).block * (shape_of (pool_id c)).block ≡ y → y + (shape_of (pool_id c)).block ≤ 4093 → y / (shape_of (pool_id c)).block < (shape_of (pool_id c)).capacity
  within z h = rw capacity_is ((le-div_iff_mul-le wide).1 (omega arith))

  beyond : 4093 < y + (shape_of (pool_id c)).block → y / (shape_of (pool_id c)).block * (shape_of (pool_id c)).block ≡ y → (shape_of (pool_id c)).capacity ≤ y / (shape_of (pool_id c)).block
  beyond h z =
      by_cases (leb (y / (shape_of (pool_id c)).block + 1) (4093 / (shape_of (pool_id c)).block))
      (λ t. let q : (y / (shape_of (pool_id c)).block + 1) * (shape_of (pool_id c)).block ≤ 4093 = (le-div_iff_mul-le wide).0 (leb-true (y / (shape_of (pool_id c)).block + 1) (4093 / (shape_of (pool_id c)).block) t) in absurd (omega arith))
      (λ t. let q = leb-false (y / (shape_of (pool_id c)).block + 1) (4093 / (shape_of (pool_id c)).block) t in omega (arith, capacity_is))

  pub small-past : 4093 < y + sh.block → None ≡ block_at (shape_of (pool_id c)) (page_at w) w
  small-past g =
      let k : 4093 < y + (shape_of (pool_id c)).block = rw (← es) g in
      none-at
      (sides header_none
      (λ l. here l ∙ by_cases (eqb (y / (shape_of (pool_id c)).block * (shape_of (pool_id c)).block) y)
      (λ t. rw (t, le-ltb (y / (shape_of (pool_id c)).block) (shape_of (pool_id c)).capacity (beyond k (eqb-true _ y t))))
      (λ t. rw t)))

  -- not the first granule of a block
  pub small-between : y + sh.block ≤ 4093 → (y % sh.block ≡ 0 → ⊥) → None ≡ block_at (shape_of (pool_id c)) (page_at w) w
  small-between g d =
      let part : y / (shape_of (pool_id c)).block * (shape_of (pool_id c)).block ≡ y → ⊥ = λ z. d (rw es (omega (arith, div-add-mod' y (shape_of (pool_id c)).block))) in
      none-at (sides header_none (λ l. here l ∙ rw (ne_eqb (y / (shape_of (pool_id c)).block * (shape_of (pool_id c)).block) y part)))

  pub small-found : y + sh.block ≤ 4093 → y % sh.block ≡ 0 → Some (y / sh.block) ≡ block_at (shape_of (pool_id c)) (page_at w) w
  small-found g z =
      let k : y + (shape_of (pool_id c)).block ≤ 4093 = rw (← es) g in
      let r : y % (shape_of (pool_id c)).block ≡ 0 = rw (← es) z in
      let u : y / (shape_of (pool_id c)).block * (shape_of (pool_id c)).block ≡ y = omega (arith, div-add-mod' y (shape_of (pool_id c)).block) in
      sides (λ o. absurd (omega (arith, header_far o, wide)))
      (λ o.
      let yes : is_block (shape_of (pool_id c)) (page_at w) w ≡ true = here o ∙ rw (eq-eqb (y / (shape_of (pool_id c)).block * (shape_of (pool_id c)).block) y u, lt-ltb (y / (shape_of (pool_id c)).block) (shape_of (pool_id c)).capacity (within u k)) in
      rw (es, yes, index-here o))

-- ---- and the whole
module _ (n : ℕ) (b : List ℕ) (c w p : ℕ) (a : SmallPre n b c w) (ep : p ≡ page_at w) where
  pub page-pre : PagePre n b c p
  page-pre = record { small = a.small; few = a.few; long = a.long; below = omega (arith, a.low) }

  -- a run of one page that has the granule begins at its page
  run-starts : in_run_of n b (shape_of (pool_id c)) (pool_id c) w ≡ true → start_of b w ≡ p
  unfolding in_run_of
  run-starts t =
      let t₁ = and_right (ltb (page_at w) (get b (arena frontier))) _ (and_right (ltb (page_at w) n) _ t) in
      let l = leb-true (start_of b w) (page_at w) (and_left _ _ t₁) in
      let h = ltb-true (page_at w) (start_of b w + (shape_of (pool_id c)).pages) (and_left _ _ (and_right (leb (start_of b w) (page_at w)) _ t₁)) in
      omega (arith, small-pages c a.small)

  run-whole : in_run_of n b (shape_of (pool_id c)) (pool_id c) w ≡ true → whole n b (shape_of (pool_id c)) (pool_id c) p ≡ true
  unfolding in_run_of
  run-whole t =
      let t₁ = and_right (ltb (page_at w) (get b (arena frontier))) _ (and_right (ltb (page_at w) n) _ t) in
      rw (← (run-starts t)) (and_right (ltb (page_at w) (start_of b w + (shape_of (pool_id c)).pages)) _ (and_right (leb (start_of b w) (page_at w)) _ t₁))

  module _ (o : Bool) (eo : o ≡ whole n b (shape_of (pool_id c)) (pool_id c) p) where
    pub small-away : not o ≡ true → false ≡ out_at n b (pool_id c) (shape_of (pool_id c)) w
    unfolding out_at
    small-away z =
        by_cases (in_run_of n b (shape_of (pool_id c)) (pool_id c) w) (λ t. absurd (let u : true ≡ false = sym (run-whole t) ∙ sym eo ∙ not-true o z in true≢false u)) (λ t. rw t)

    module _ (z : not o ≡ false) where
      w-whole : whole n b (shape_of (pool_id c)) (pool_id c) p ≡ true
      w-whole = sym eo ∙ not-false o z

      starts : start_of b w ≡ p
      unfolding start_of
      starts =
          let q = and_right (eqb (get b (page owner p)) (suc (pool_id c))) _ (and_right (ltb p (get b (arena frontier))) _ (sym (whole-page n b c p page-pre) ∙ w-whole)) in
          rw (← ep) (eqb-true (get b (page first p)) p q)

      in_run_lem : in_run_of n b (shape_of (pool_id c)) (pool_id c) w ≡ true
      unfolding in_run_of
      in_run_lem =
          let f = ltb-true p (get b (arena frontier)) (and_left _ _ (sym (whole-page n b c p page-pre) ∙ w-whole)) in
          rw (starts, ← ep, lt-ltb p n page-pre.below, lt-ltb p (get b (arena frontier)) f, le-leb p p (omega arith), lt-ltb p (p + (shape_of (pool_id c)).pages) (omega (arith, small-pages c a.small))) w-whole

      out-here : out_at n b (pool_id c) (shape_of (pool_id c)) w ≡ out_in b (shape_of (pool_id c)) p w
      unfolding out_at
      out-here = rw (in_run_lem, starts)

      pub small-no_block : None ≡ block_at (shape_of (pool_id c)) (page_at w) w → false ≡ out_at n b (pool_id c) (shape_of (pool_id c)) w
      small-no_block h = out-no_block b (shape_of (pool_id c)) p w (rw ep h) ∙ sym out-here

      module _ (i : ℕ) (h : Some i ≡ block_at (shape_of (pool_id c)) (page_at w) w) where
        at-run : Some i ≡ block_at (shape_of (pool_id c)) p w
        at-run = rw ep h

        pub small-has_bit : Has b (out p i)
        small-has_bit = has-bit b (shape_of (pool_id c)) p w i (shape-sound (pool_id c)) (omega (arith, page-pre.below, a.long)) at-run

        pub small-bit : (x : ℕ) → x ≡ get b (out p i) → eqb x 1 ≡ out_at n b (pool_id c) (shape_of (pool_id c)) w
        small-bit x k = out-bit b (shape_of (pool_id c)) p w i at-run x k ∙ sym out-here
