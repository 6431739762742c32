-- Blocks taken, and pushed one after another, the list's last first.
--     push-length     the book's length stays
--     push-free       FREE of a page grows by the words on it
use Rattle.facts.proofs.Prelude.{ℕ, zero, suc, ◌+◌, ◌^◌, ◌≤◌, ◌<◌, arith, add-one, true, false, List, [], ◌∷◌, ◌≡◌, refl, sym, ap, ◌∙◌, eqb, ltb, length, get_or}
use Rattle.facts.proofs.Prelude.{drop, drop-cons, drop-length, lt-ltb, ltb-true, le-leb, eqb-true, eq-eqb, by_cases, and_left, and_right, drop_past, every_get}
use Rattle.classes.specs.declared.Shape.{Shape}
use Rattle.fields.specs.Field.{page, slot, out, free, words, get, put, Has}
use Rattle.fields.proofs.Laws.{get_put_same, get-put_other, length-put}
use Rattle.pages.specs.way.Pre.{IndexPre}
use Rattle.fields.specs.Ranges.{max_pages}
use Rattle.pages.specs.Stack.{index_of, is_block, page_at}
use Rattle.chunks.specs.way.CallPre.{has_bit, BitsPre}
use Rattle.chunks.specs.way.Pass.{cleared, push_one, push_all}
use Rattle.chunks.specs.way.PushPre.{own_block, PushAllPre}
use Rattle.chunks.specs.way.Match.{words_on}

-- ---- one block
pub one-length : (b : List ℕ) (q i : ℕ) → length (push_one b q i) ≡ length b
unfolding push_one
one-length b q i = simp length-put

module _ (b : List ℕ) (q i : ℕ) (low : get b (page free q) < 4096) where
  lower : ltb (get b (page free q)) 4096 ≡ true
  lower = lt-ltb _ 4096 low

  pub one_free : words (q + 1) ≤ length b → get (push_one b q i) (page free q) ≡ get b (page free q) + 1
  unfolding push_one
  one_free h =
      get_put_same (q + 1) (put b (slot q (get b (page free q))) i) (page free q) (get b (page free q) + 1) (rw length-put (le-leb (words (q + 1)) (length b) h)) (lt-ltb q (q + 1) (omega arith)) refl

  pub one-other : (p : ℕ) → eqb q p ≡ false → get (push_one b q i) (page free p) ≡ get b (page free p)
  unfolding push_one
  one-other p d =
      get-put_other (put b (slot q (get b (page free q))) i) (page free q) (page free p) (get b (page free q) + 1) refl refl d
      ∙ get-put_other b (slot q (get b (page free q))) (page free p) i lower refl refl

-- ---- a list
pub push-length : (b : List ℕ) (sh : Shape) (ws : List ℕ) → length (push_all b sh ws) ≡ length b
unfolding push_all
push-length b sh [] = refl
push-length b sh (w ∷ ws) = one-length (push_all b sh ws) (page_at w) (index_of sh (page_at w) w) ∙ push-length b sh ws

pub on-here : (w : ℕ) (ws : List ℕ) (q : ℕ) → eqb (page_at w) q ≡ true → words_on (w ∷ ws) q ≡ suc (words_on ws q)
unfolding words_on
on-here w ws q e = rw e

pub on-other : (w : ℕ) (ws : List ℕ) (q : ℕ) → eqb (page_at w) q ≡ false → words_on (w ∷ ws) q ≡ words_on ws q
unfolding words_on
on-other w ws q e = rw e

on_none : (q : ℕ) → words_on [] q ≡ 0
unfolding words_on
on_none q = refl

pub on-more : (w : ℕ) (ws : List ℕ) (q : ℕ) → words_on ws q ≤ words_on (w ∷ ws) q
on-more w ws q = by_cases (eqb (page_at w) q) (λ e. omega (arith, on-here w ws q e)) (λ e. omega (arith, on-other w ws q e))

-- the words after the first ask no more
pre-tail : (b : List ℕ) (sh : Shape) (w : ℕ) (ws : List ℕ) → PushAllPre b sh (w ∷ ws) → PushAllPre b sh ws
pre-tail b sh w ws a = record {
  sound = a.sound;
  below = λ q h. a.below q (omega (arith, on-more w ws q));
  there = λ q h. a.there q (omega (arith, on-more w ws q));
  slots = λ q h. omega (arith, a.slots q (omega (arith, on-more w ws q)), on-more w ws q);
}

-- nor do those from any place on
pub pre-drop : (b : List ℕ) (sh : Shape) (i : ℕ) (ws : List ℕ) → PushAllPre b sh ws → PushAllPre b sh (drop i ws)
pre-drop b sh zero ws a = a
pre-drop b sh (suc i) [] a = a
pre-drop b sh (suc i) (w ∷ ws) a = pre-drop b sh i ws (pre-tail b sh w ws a)

head-room : (b : List ℕ) (sh : Shape) (w : ℕ) (ws : List ℕ) → PushAllPre b sh (w ∷ ws) → get b (page free (page_at w)) + words_on ws (page_at w) < 4096
head-room b sh w ws a =
    let e = on-here w ws (page_at w) (eq-eqb (page_at w) (page_at w) refl) in
    omega (arith, e, a.slots (page_at w) (omega (arith, e)))

head-there : (b : List ℕ) (sh : Shape) (w : ℕ) (ws : List ℕ) → PushAllPre b sh (w ∷ ws) → words (page_at w + 1) ≤ length b
head-there b sh w ws a = a.there (page_at w) (omega (arith, on-here w ws (page_at w) (eq-eqb (page_at w) (page_at w) refl)))

head-below : (b : List ℕ) (sh : Shape) (w : ℕ) (ws : List ℕ) → PushAllPre b sh (w ∷ ws) → page_at w < max_pages
head-below b sh w ws a = a.below (page_at w) (omega (arith, on-here w ws (page_at w) (eq-eqb (page_at w) (page_at w) refl)))

pub push-free : (b : List ℕ) (sh : Shape) (ws : List ℕ) → PushAllPre b sh ws → (q : ℕ) → get (push_all b sh ws) (page free q) ≡ get b (page free q) + words_on ws q
unfolding push_all
push-free b sh [] a q = let z : words_on [] q ≡ 0 = on_none q in omega arith
push-free b sh (w ∷ ws) a q =
    let d = push_all b sh ws in
    let before = push-free b sh ws (pre-tail b sh w ws a) in
    let low : get d (page free (page_at w)) < 4096 = rw (before (page_at w)) (head-room b sh w ws a) in
    by_cases (eqb (page_at w) q)
    (λ e. let z = eqb-true (page_at w) q e in
    rw (on-here w ws q e, ← z) (one_free d (page_at w) (index_of sh (page_at w) w) low (rw (push-length b sh ws) (head-there b sh w ws a)) ∙ omega (arith, before (page_at w))))
    (λ e. rw (on-other w ws q e) (one-other d (page_at w) (index_of sh (page_at w) w) low q e ∙ before q))

-- ---- the loop
module _ (b₀ : List ℕ) (sh : Shape) (ws : List ℕ) where
  -- those from place i on are pushed
  pub record Pushing (b : List ℕ) (i : ℕ) : Type 0 where
    pub within : i ≤ length ws
    pub long : length b ≡ length b₀
    pub stacked : b ≡ push_all b₀ sh (drop i ws)

  pub pushing-none : Pushing b₀ (length ws)
  unfolding push_all
  pushing-none = record { within = omega arith; long = refl; stacked = ap (push_all b₀ sh) (sym (drop-length ws)) }

  pub pushing-done : (b : List ℕ) (i : ℕ) → i ≡ 0 → Pushing b i → b ≡ push_all b₀ sh ws
  pushing-done b i h v = rw h at v.stacked

-- ---- the blocks taken
module _ (n : ℕ) (b : List ℕ) (sh : Shape) (w : ℕ) (a : BitsPre n b sh (w ∷ [])) where
  word-bit : has_bit n sh w ≡ true
  word-bit = and_left (has_bit n sh w) true a.bits

  page-low : page_at w < n
  unfolding has_bit
  page-low = ltb-true (page_at w) n (and_left (ltb (page_at w) n) _ word-bit)

  pub take-page : page_at w < 2 ^ 32
  take-page = omega (arith, page-low, a.few)

  has-index : ltb (index_of sh (page_at w) w) 4096 ≡ true
  unfolding has_bit
  has-index = and_right (ltb (page_at w) n) _ word-bit

  pub take-index : (q : ℕ) → q ≡ page_at w → IndexPre sh q w
  take-index q e = record { sound = a.sound; below = omega (arith, page-low, a.few); bit = rw e has-index }

  pub take_own : (q : ℕ) → q ≡ page_at w → is_block sh q w ≡ true
  unfolding own_block
  take_own q e = rw e (and_left (own_block sh w) true a.blocks)

  module _ (q : ℕ) (e : q ≡ page_at w) (k : ℕ) (f : k ≡ index_of sh q w) where
    index-low : index_of sh (page_at w) w < 4096
    index-low = ltb-true (index_of sh (page_at w) w) 4096 has-index

    pub take-there : Has b (out q k)
    take-there =
        let z : k ≡ index_of sh (page_at w) w = f ∙ ap (λ p. index_of sh p w) e in
        omega (arith, index-low, page-low, a.long)

    pub take_done : (b' : List ℕ) → b' ≡ put b (out q k) 0 → b' ≡ put b (out (page_at w) (index_of sh (page_at w) w)) 0
    take_done b' l = l ∙ rw (f, e)

module _ (n : ℕ) (b₀ : List ℕ) (sh : Shape) (ws : List ℕ) where
  -- those before place i are out no longer
  pub record Clearing (b : List ℕ) (i : ℕ) : Type 0 where
    pub within : i ≤ length ws
    pub long : length b ≡ length b₀
    pub rest : cleared b sh (drop i ws) ≡ cleared b₀ sh ws

  pub clearing_none : Clearing b₀ 0
  clearing_none = record { within = omega arith; long = refl; rest = refl }

  module _ (b : List ℕ) (i : ℕ) (v : Clearing b i) (l : i < length ws) where
    pub clearing_pre : BitsPre n b₀ sh ws → BitsPre n b sh (get_or ws i 0 ∷ [])
    clearing_pre a = record { sound = a.sound; few = a.few; long = rw v.long a.long; bits = rw (every_get (has_bit n sh) ws i a.bits l); blocks = rw (every_get (own_block sh) ws i a.blocks l) }

    pub clearing_more : (b' : List ℕ) → b' ≡ put b (out (page_at (get_or ws i 0)) (index_of sh (page_at (get_or ws i 0)) (get_or ws i 0))) 0 → Clearing b' (i + 1)
    unfolding cleared
    clearing_more b' e =
        let w = get_or ws i 0 in
        record {
          within = omega arith;
          long = ap length e ∙ length-put b (out (page_at w) (index_of sh (page_at w) w)) 0 ∙ v.long;
          rest = rw (add-one i, e) (rw (drop-cons ws i 0 l) at v.rest);
        }

  pub clearing_done : (b : List ℕ) (i : ℕ) → Clearing b i → length ws ≤ i → b ≡ cleared b₀ sh ws
  unfolding cleared
  clearing_done b i v l = rw (drop_past ws i l) at v.rest
