-- Words that go on by one block from each to the next: their blocks in one word of marks are marked at once, as one by one.
--     Stretching ..        the loop of `stretch`
--     went                 what `mark_along` comes to
use Rattle.facts.proofs.Prelude.{ℕ, zero, suc, ◌+◌, ◌-◌, ◌*◌, ◌/◌, ◌%◌, ◌^◌, ◌≤◌, ◌<◌, min, arith, mul-le-mul_right, mul-div_cancel, Bool}
use Rattle.facts.proofs.Prelude.{true, false, ◌&&◌, ◌||◌, List, [], ◌∷◌, ◌≡◌, refl, sym, ap, ◌∙◌, subst, eqb, leb, length, get_or, drop}
use Rattle.facts.proofs.Prelude.{length-drop, get_or-drop, drop-drop, leb-true, le-leb, lt-ltb, eq-eqb, eqb-true, and_left, and_right}
use Rattle.std.specs.Prelude.{Some}
use native.Mathlib.Decide.{ℕ_discrete}
use Rattle.words.specs.Word.{kind_of, granule_of}
use Rattle.classes.specs.declared.Shape.{Shape}
use Rattle.classes.specs.way.Sound.{Sound}
use Rattle.fields.specs.Field.{bits, mark, read, place, get, put, words, Has}
use Rattle.fields.proofs.Laws.{length-put, put-get}
use Rattle.fields.proofs.Parts.{place_read}
use Rattle.model.specs.Page.{word_of}
use Rattle.model.specs.Release.{of_kind}
use Rattle.pages.specs.Stack.{blocks_from, index_of, is_block}
use Rattle.release.specs.way.Blocks.{block_in}
use Rattle.release.specs.way.Marks.{set_mark, fresh_at, marked_in, fresh_in, fresh_count, fresh_book, fresh_bits, set_bits, count_by, book_by}
use Rattle.release.specs.way.MarkPre.{step_of, room_of, lowest_of, Near, MarkedBits, Stretched, Reaches, Alone}
use Rattle.release.proofs.Bits.{from_block, at_block, below_capacity}
use Rattle.release.proofs.BlockSteps.{found_at, outside}
use Rattle.release.proofs.MarkBits.{fresh_at_lem, set-at, first_bit, others, splits}
use Rattle.release.proofs.MarkSteps.{fresh_in_lem, stays}

-- ---- the loop of `stretch`
pub record Stretching (ws : List ℕ) (step i most want n : ℕ) : Type 0 where
  pub some : 1 ≤ n
  pub low : n ≤ most
  pub each : (k : ℕ) → k < n → get_or ws (i + k) 0 ≡ (get_or ws i 0 + k * step) % 2 ^ 64
  pub next : want ≡ (get_or ws i 0 + n * step) % 2 ^ 64

module _ (ws : List ℕ) (step i most : ℕ) where
  pub stretch-starts : (want : ℕ) → get_or ws i 0 < 2 ^ 64 → 1 ≤ most → want ≡ (get_or ws i 0 + step) % 2 ^ 64 → Stretching ws step i most want 1
  stretch-starts want h m e = record { some = omega arith; low = m; each = first; next = e ∙ ap (λ x. (get_or ws i 0 + x) % 2 ^ 64) (omega arith) }
    where
      first : (k : ℕ) → k < 1 → get_or ws (i + k) 0 ≡ (get_or ws i 0 + k * step) % 2 ^ 64
      first zero l = let z : i + 0 ≡ i = omega arith in ap (λ x. get_or ws x 0) z ∙ omega arith
      first (suc k) l = absurd (omega arith)

  pub stretch-goes_on : (want n want' : ℕ) → Stretching ws step i most want n → n < most → get_or ws (i + n) 0 ≡ want → want' ≡ (want + step) % 2 ^ 64 → Stretching ws step i most want' (n + 1)
  stretch-goes_on want n want' v l e f = record { some = omega arith; low = omega arith; each = more; next = omega (arith, v.next) }
    where
      more : (k : ℕ) → k < n + 1 → get_or ws (i + k) 0 ≡ (get_or ws i 0 + k * step) % 2 ^ 64
      more k h = elim (ℕ_discrete k n) [ yes z ↦ rw z (e ∙ v.next) | no z ↦ v.each k (omega (arith, z)) ]

  pub stretch-ends : (want n room : ℕ) → Stretching ws step i most want n → most ≡ min room (length ws - i) → i < length ws → Stretched n ws step i room
  stretch-ends want n room v m l = record { some = v.some; most = omega (arith, v.low); within = omega (arith, v.low); each = v.each }

pub stretch-within : {n : ℕ} {ws : List ℕ} {step i room : ℕ} → Stretched n ws step i room → i + n ≤ length ws
stretch-within s = s.within

-- ---- the word behind a place
pub alone-told : (sh : Shape) (q base span x : ℕ) (ws : List ℕ) (i : ℕ) → Near sh q base span → (x + base) % 2 ^ 64 ≡ get_or ws (i + 1) 0 → x < 2 ^ 64 → Alone (leb span x) sh q ws i
alone-told sh q base span x ws i a u f = record { told = λ t l. sym (outside sh q base span (get_or ws (i + 1) 0) x a u f (leb-true span x t)) }

pub alone-last : (sh : Shape) (q : ℕ) (ws : List ℕ) (i : ℕ) → length ws ≤ i + 1 → Alone true sh q ws i
alone-last sh q ws i h = record { told = λ t l. absurd (omega arith) }

-- ---- a block's word
down_by : (base t d k block step : ℕ) → t ≡ d + k → k * step + k * block ≡ k * 2 ^ 64 → base + t * block + k * step ≡ base + d * block + k * 2 ^ 64
down_by base t d k block step z x = rw z (omega arith)

-- block k behind block t, upwards or downwards
abbrev onward : Bool → ℕ → ℕ → ℕ
onward true t k = t + k
onward false t k = t - k

pub record Names (sh : Shape) (q v k : ℕ) : Type 0 where
  pub is : (of_kind sh.kind v && is_block sh q v) ≡ true
  pub index : index_of sh q v ≡ k

module _ (sh : Shape) (q base span : ℕ) (a : Near sh q base span) where
  base_is : base ≡ sh.kind * 2 ^ 62 + (q * 4096 + sh.header)
  unfolding word_of
  base_is = a.first ∙ omega arith

  word-is : (v k : ℕ) → Names sh q v k → v ≡ base + k * sh.block
  unfolding of_kind
  word-is v k n =
      let y : kind_of v ≡ sh.kind = eqb-true (kind_of v) sh.kind (and_left _ (is_block sh q v) n.is) in
      let z : is_block sh q v ≡ true = and_right (of_kind sh.kind v) _ n.is in
      let g : k * sh.block ≡ granule_of v - blocks_from sh q = ap (λ t. t * sh.block) (sym n.index) ∙ at_block sh q v z in
      omega (arith, base_is, from_block sh q v z)

  index-low : (v k : ℕ) → Names sh q v k → k < sh.capacity
  index-low v k n = omega (arith, below_capacity sh q v (and_right (of_kind sh.kind v) _ n.is), n.index)

  near-blocks : (k : ℕ) → k < sh.capacity → (k + 1) * sh.block ≤ 32768
  near-blocks k l =
      let m : (k + 1) * sh.block ≤ sh.capacity * sh.block = mul-le-mul_right sh.block (omega arith) in
      omega (arith, a.sound.fits, a.sound.short)

  names : (v k : ℕ) → k < sh.capacity → v ≡ base + k * sh.block → Names sh q v k
  unfolding of_kind is_block index_of
  names v k l e =
      let n = near-blocks k l in
      let g : granule_of v ≡ q * 4096 + sh.header + k * sh.block = omega (arith, base_is, a.sound.fits, a.sound.short, a.below) in
      let y : kind_of v ≡ sh.kind = omega (arith, base_is, a.sound.fits, a.sound.short, a.below) in
      let d : granule_of v - blocks_from sh q ≡ k * sh.block = omega arith in
      let f : blocks_from sh q ≤ granule_of v = omega arith in
      let i : (granule_of v - blocks_from sh q) / sh.block ≡ k = ap (λ t. t / sh.block) d ∙ mul-div_cancel k a.sound.wide in
      record { is = rw (eq-eqb _ _ y, le-leb _ _ f, i, eq-eqb _ _ (sym d), lt-ltb _ _ l); index = i }

  onward-low : (up : Bool) (t k : ℕ) → t < sh.capacity → k < room_of sh t up → onward up t k < sh.capacity
  onward-low true t k h l = omega arith
  onward-low false t k h l = omega arith

  moved : (up : Bool) (t k step : ℕ) → step ≡ step_of sh up → t < sh.capacity → k < room_of sh t up → (base + t * sh.block + k * step) % 2 ^ 64 ≡ base + onward up t k * sh.block
  moved true t k step e h l =
      let m = near-blocks (t + k) (omega arith) in
      rw e (omega (arith, base_is, a.sound.known, a.sound.fits, a.sound.short, a.below))
  moved false t k step e h l =
      let d = t - k in
      let z : t ≡ d + k = omega arith in
      let m = near-blocks t h in
      let o = near-blocks d (omega arith) in
      let y : step + sh.block ≡ 2 ^ 64 = omega arith in
      let x : k * step + k * sh.block ≡ k * 2 ^ 64 = omega (arith, ap (λ v. k * v) y) in
      let u : base + t * sh.block + k * step ≡ base + d * sh.block + k * 2 ^ 64 = down_by base t d k sh.block step z x in
      ap (λ v. v % 2 ^ 64) u ∙ omega (arith, base_is, a.sound.known, a.sound.fits, a.sound.short, a.below)

  names-on : (up : Bool) (ws : List ℕ) (i t n step room : ℕ) → Names sh q (get_or ws i 0) t → Stretched n ws step i room → step ≡ step_of sh up → room ≡ room_of sh t up
      → (k : ℕ) → k < n → Names sh q (get_or ws (i + k) 0) (onward up t k)
  names-on up ws i t n step room f s e m k l =
      let h = index-low (get_or ws i 0) t f in
      let o : k < room_of sh t up = omega (arith, s.most) in
      names (get_or ws (i + k) 0) (onward up t k) (onward-low up t k h o) (s.each k l ∙ rw (word-is (get_or ws i 0) t f) (moved up t k step e h o))

-- ---- their bits, the lowest of which is s
-- of n words the bit of word k
abbrev bit_of : Bool → ℕ → ℕ → ℕ → ℕ
bit_of true s n k = s + k
bit_of false s n k = s + (n - 1 - k)

first-is : (up : Bool) (s n : ℕ) → bit_of up s (suc n) 0 ≡ first_bit up s n
first-is true s n = omega arith
first-is false s n = omega arith

first_fits : (up : Bool) (s n : ℕ) → s + suc n ≤ 32 → first_bit up s n < 32
first_fits true s n h = omega arith
first_fits false s n h = omega arith

others-are : (up : Bool) (s n k : ℕ) → k < n → bit_of up s (suc n) (suc k) ≡ bit_of up (others up s) n k
others-are true s n k l = omega arith
others-are false s n k l = omega arith

others-fit : (up : Bool) (s n : ℕ) → s + suc n ≤ 32 → others up s + n ≤ 32
others-fit true s n h = omega arith
others-fit false s n h = omega arith

-- of n bits the lowest
module _ (s n : ℕ) (up : Bool) where
  pub lowest-up : up ≡ true → s ≡ lowest_of s n up
  lowest-up e = rw e

  pub lowest-down : up ≡ false → s + 1 - n ≡ lowest_of s n up
  lowest-down e = rw e

  pub lowest-left : (up ≡ false → n ≤ s + 1) → up ≡ false → n ≤ s + 1
  lowest-left h e = h e

module _ (sh : Shape) (t : ℕ) where
  pub room-up : (up : Bool) (x : ℕ) → up ≡ true → x ≡ min (32 - t % 32) (sh.capacity - t) → x ≡ room_of sh t up
  room-up up x e h = rw e h

  pub room-down : (up : Bool) → up ≡ false → t % 32 + 1 ≡ room_of sh t up
  room-down up e = rw e

  room-one : (up : Bool) → t < sh.capacity → 1 ≤ room_of sh t up
  room-one true h = omega arith
  room-one false h = omega arith

  bits_fit : (up : Bool) (n : ℕ) → 1 ≤ n → n ≤ room_of sh t up → (lowest_of (t % 32) n up < 32) × (lowest_of (t % 32) n up + n ≤ 32)
  bits_fit true n h l = (omega arith, omega arith)
  bits_fit false n h l = (omega arith, omega arith)

  bit_is : (up : Bool) (n k : ℕ) → k < n → n ≤ room_of sh t up → onward up t k ≡ 32 * (t / 32) + bit_of up (lowest_of (t % 32) n up) n k
  bit_is true n k h l = omega arith
  bit_is false n k h l = omega arith

-- ---- their blocks, one by one
module _ (sh : Shape) (q j : ℕ) where
  -- of n words ws, marked in b
  pub record Passed (n : ℕ) (b : List ℕ) (s : ℕ) (ws : List ℕ) : Type 0 where
    pub count : fresh_count b sh q ws ≡ n + fresh_count (set_bits b q j s n) sh q (drop n ws)
    pub book : fresh_book b sh q ws ≡ fresh_book (set_bits b q j s n) sh q (drop n ws)

  module _ (b : List ℕ) (w t : ℕ) (ws : List ℕ) (h : t < 32) (o : Names sh q w (32 * j + t)) (f : fresh_bits b q j t 1 ≡ true) where
    fresh-one : fresh_in b sh q w ≡ true
    fresh-one = fresh_in_lem b sh q w ∙ rw o.is (ap (fresh_at b q) o.index ∙ fresh_at_lem b q (32 * j + t) j t refl h ∙ f)

    marked-one : marked_in b sh q w ≡ set_bits b q j t 1
    unfolding marked_in
    marked-one = ap (set_mark b q) o.index ∙ set-at b q (32 * j + t) j t refl h

    one-count : fresh_count b sh q (w ∷ ws) ≡ suc (fresh_count (set_bits b q j t 1) sh q ws)
    unfolding count_by
    one-count = rw (fresh-one, marked-one)

    one-book : fresh_book b sh q (w ∷ ws) ≡ fresh_book (set_bits b q j t 1) sh q ws
    unfolding book_by
    one-book = rw (fresh-one, marked-one)

  there-still : (b : List ℕ) (t : ℕ) → 40144 + 4112 * q + j < length b → 40144 + 4112 * q + j < length (set_bits b q j t 1)
  there-still b t l = rw (length-put b (mark q j)) l

  none_more : (x : ℕ) → x ≡ 0 + x
  none_more x = omega arith

  more : (n x : ℕ) → suc (n + x) ≡ suc n + x
  more n x = omega arith

  set-none : (b : List ℕ) (s : ℕ) → set_bits b q j s 0 ≡ b
  set-none b s =
      let z : read (bits s 0) (get b (mark q j)) ≡ 0 = omega arith in
      ap (put b (mark q j)) (ap (place (bits s 0) (get b (mark q j))) (sym z) ∙ place_read (bits s 0) (get b (mark q j))) ∙ put-get b (mark q j)

  pub pass : (up : Bool) (n : ℕ) (b ws : List ℕ) (s : ℕ) → 40144 + 4112 * q + j < length b → s + n ≤ 32 → n ≤ length ws
      → ((k : ℕ) → k < n → Names sh q (get_or ws k 0) (32 * j + bit_of up s n k)) → fresh_bits b q j s n ≡ true → Passed n b s ws
  pass up zero b ws s l h m o f =
      let z = sym (set-none b s) in
      record { count = ap (λ d. fresh_count d sh q ws) z ∙ none_more _; book = ap (λ d. fresh_book d sh q ws) z }
  pass up (suc n) b [] s l h m o f = absurd (omega arith)
  pass up (suc n) b (w ∷ ws) s l h m o f =
      let t = first_bit up s n in
      let z = subst (λ t. Names sh q w (32 * j + t)) (first-is up s n) (o 0 (omega arith)) in
      let d = first_fits up s n h in
      let c = splits b q j l s n f up in
      let r = pass up n (set_bits b q j t 1) ws (others up s) (there-still b t l) (others-fit up s n h) (omega arith) rest c.rest in
      record {
        count = one-count b w t ws d z c.first ∙ ap suc r.count ∙ more n _ ∙ ap (λ d. suc n + fresh_count d sh q (drop n ws)) c.both;
        book = one-book b w t ws d z c.first ∙ r.book ∙ ap (λ d. fresh_book d sh q (drop n ws)) c.both;
      }
    where
      rest : (k : ℕ) → k < n → Names sh q (get_or ws k 0) (32 * j + bit_of up (others up s) n k)
      rest k y = subst (λ t. Names sh q (get_or ws k 0) (32 * j + t)) (others-are up s n k y) (o (suc k) (omega arith))

-- ---- the ways out of `mark_along`
module _ (sh : Shape) (q : ℕ) (b b' : List ℕ) (ws : List ℕ) (i : ℕ) (r : Bool) (j s n : ℕ) (o : MarkedBits r b' b q j s n) where
  pub held_back : r ≡ false → i < length ws → Reaches i b' b sh q ws i
  held_back z l =
      let y : fresh_bits b q j s n ≡ false = sym o.answer ∙ z in
      let e : b' ≡ b = rw y at o.left in
      rw e (stays b sh q ws i (omega arith))

  passes_on : r ≡ true → i + n ≤ length ws → Passed sh q j n b s (drop i ws) → Reaches (i + n) b' b sh q ws i
  passes_on z l p =
      let y : fresh_bits b q j s n ≡ true = sym o.answer ∙ z in
      let e : b' ≡ set_bits b q j s n = rw y at o.left in
      let c = rw (drop-drop n i ws, ← e) at p.count in
      let d = rw (drop-drop n i ws, ← e) at p.book in
      record { onward = omega arith; within = l; answer = omega (arith, c); left = sym d }

module _ (sh : Shape) (q base span : ℕ) (a : Near sh q base span) (b b' : List ℕ) (ws : List ℕ) (i t : ℕ) (g : Some t ≡ block_in sh q (get_or ws i 0)) where
  named : Names sh q (get_or ws i 0) t
  named =
      let w = get_or ws i 0 in
      let z = found_at (of_kind sh.kind w && is_block sh q w) (index_of sh q w) t g in
      record { is = z.0; index = sym z.1 }

  pub found-low : t < sh.capacity
  found-low = index-low sh q base span a (get_or ws i 0) t named

  found-there : words (q + 1) ≤ length b → Has b (mark q (t / 32))
  found-there h = omega (arith, found-low, a.sound.few)

  module _ (up : Bool) (room : ℕ) (m : room ≡ room_of sh t up) where
    pub room-some : 1 ≤ room
    room-some = rw m (room-one sh t up found-low)

    module _ (n step : ℕ) (s : Stretched n ws step i room) where
      within : n ≤ room_of sh t up
      within = omega (arith, s.most)

      pub top-low : up ≡ false → n ≤ t % 32 + 1
      top-low e = rw e at within

      module _ (low : ℕ) (v : low ≡ lowest_of (t % 32) n up) (h : words (q + 1) ≤ length b) where
        pub bits-there : Has b (mark q (t / 32))
        bits-there = found-there h

        pub low-within : low < 32
        low-within = rw v (bits_fit sh t up n s.some within).0

        pub bits-within : low + n ≤ 32
        bits-within = rw v (bits_fit sh t up n s.some within).1

        pub went : (r : Bool) → step ≡ step_of sh up → MarkedBits r b' b q (t / 32) low n → r ≡ true → Reaches (i + n) b' b sh q ws i
        went r u o z =
            let y : fresh_bits b q (t / 32) low n ≡ true = sym o.answer ∙ z in
            let l : n ≤ length (drop i ws) = rw (length-drop i ws) (omega (arith, s.within)) in
            passes_on sh q b b' ws i r (t / 32) low n o z s.within (pass sh q (t / 32) up n b (drop i ws) low (found-there h) bits-within l each y)
          where
            each : (k : ℕ) → k < n → Names sh q (get_or (drop i ws) k 0) (32 * (t / 32) + bit_of up low n k)
            each k y =
                rw (get_or-drop i ws k 0, v) (subst (Names sh q (get_or ws (i + k) 0)) (bit_is sh t up n k y within) (names-on sh q base span a up ws i t n step room named s u m k y))

-- ---- the step to the next word
pub step_is : (sh : Shape) (step x : ℕ) → Sound sh → sh.block < 2 ^ 32 → step < 2 ^ 64 → x ≡ (step + sh.block) % 2 ^ 64
    → (eqb step sh.block || eqb x 0) ≡ true → step ≡ step_of sh (eqb step sh.block)
step_is sh step x s l o e t = by (eqb step sh.block) refl t
  where
    by : (u : Bool) → eqb step sh.block ≡ u → (u || eqb x 0) ≡ true → step ≡ step_of sh u
    by true z y = eqb-true step sh.block z
    by false z y = omega (arith, eqb-true x 0 y, s.wide)
