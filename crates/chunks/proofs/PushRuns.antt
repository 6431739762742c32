-- List neighbours on one page pushed together, from the list's last on.
--     run_pushed      words that lie on one page, pushed on its stack with FREE written once, are pushed one by one
use Rattle.facts.proofs.Prelude.{ℕ, zero, suc, ◌+◌, ◌-◌, ◌^◌, ◌≤◌, ◌<◌, arith, add-zero, div-le_self, Bool, true, false, true≢false, List, [], ◌∷◌, ◌++◌, map, ◌≡◌, refl}
use Rattle.facts.proofs.Prelude.{sym, ap, ◌∙◌, eqb, ltb, length, get_or, take, drop, length-map, length-drop, take-append-drop, take_all, drop-cons, drop-length}
use Rattle.facts.proofs.Prelude.{drop-append-le, length-take-le, lt-ltb, ltb-true, le-leb, eqb-true, eq-eqb, every, by_cases, and_left, and_right, every_get, every_made}
use native.Mathlib.Decide.{dec_le}
use mir.Val.{Fits}
use mir.Syntax.{w32}
use Rattle.words.specs.Word.{granule_of}
use Rattle.classes.specs.declared.Shape.{Shape}
use Rattle.fields.specs.Field.{page, slot, free, words, get, put, Has}
use Rattle.fields.specs.Ranges.{max_pages}
use Rattle.fields.proofs.Laws.{get_put_same, put-comm, put_put_same, put-get, length-put}
use Rattle.pages.specs.way.Pre.{PushEntriesPre, IndexPre}
use Rattle.pages.specs.Stack.{blocks_from, index_of, is_block, page_at, push}
use Rattle.pages.proofs.Pushes.{length_push}
use Rattle.chunks.specs.way.Match.{words_on}
use Rattle.chunks.specs.way.Pass.{push_one, push_all}
use Rattle.chunks.specs.way.PushPre.{own_block, on_page, in_reach, PushAllPre, EntryPre, TailPre, TailOn, LastPre, PushedFrom}
use Rattle.chunks.proofs.PushLaws.{Pushing, push-length, push-free, on-here, on-other, on-more, pre-drop}

-- ---- lists
every_take : (t : ℕ → Bool) (n : ℕ) (xs : List ℕ) → every t xs ≡ true → every t (take n xs) ≡ true
every_take t zero xs e = refl
every_take t (suc n) [] e = refl
every_take t (suc n) (x ∷ xs) e = rw (and_left (t x) (every t xs) e) (every_take t n xs (and_right (t x) (every t xs) e))

-- a list from place r on, in two parts
parted : (r n : ℕ) (ws : List ℕ) → r ≤ n → n ≤ length ws → drop r (take n ws) ++ drop n ws ≡ drop r ws
parted r n ws l h =
    sym (drop-append-le r (take n ws) (drop n ws) (omega (arith, length-take-le n ws h)))
    ∙ ap (drop r) (take-append-drop n ws)

drop-one : (ws : List ℕ) (i : ℕ) → (i ≡ 0 → ⊥) → i ≤ length ws → drop (i - 1) ws ≡ get_or ws (i - 1) 0 ∷ drop i ws
drop-one ws i h l =
    let k : suc (i - 1) ≡ i = omega (arith, h) in
    drop-cons ws (i - 1) 0 (omega (arith, h)) ∙ ap (λ z. get_or ws (i - 1) 0 ∷ drop z ws) k

every_drop : (t : ℕ → Bool) (k : ℕ) (ws : List ℕ) → every t ws ≡ true → every t (drop k ws) ≡ true
every_drop t zero ws e = e
every_drop t (suc k) [] e = refl
every_drop t (suc k) (w ∷ ws) e = every_drop t k ws (and_right (t w) (every t ws) e)

-- ---- words on a page
pub words-all : (q : ℕ) (vs : List ℕ) → every (on_page q) vs ≡ true → words_on vs q ≡ length vs
unfolding words_on
words-all q [] e = refl
words-all q (v ∷ vs) e = rw (and_left (on_page q v) (every (on_page q) vs) e) (ap suc (words-all q vs (and_right (on_page q v) (every (on_page q) vs) e)))

words-drop : (k : ℕ) (ws : List ℕ) (q : ℕ) → words_on (drop k ws) q ≤ words_on ws q
words-drop zero ws q = omega arith
words-drop (suc k) [] q = omega arith
words-drop (suc k) (w ∷ ws) q = omega (arith, words-drop k ws q, on-more w ws q)

words-some : (ws : List ℕ) (k : ℕ) → k < length ws → 1 ≤ words_on ws (page_at (get_or ws k 0))
words-some ws k l =
    let w = get_or ws k 0 in
    let e : words_on (drop k ws) (page_at w) ≡ suc (words_on (drop (suc k) ws) (page_at w)) =
    ap (λ z. words_on z (page_at w)) (drop-cons ws k 0 l) ∙ on-here w (drop (suc k) ws) (page_at w) (eq-eqb (page_at w) (page_at w) refl) in
    omega (arith, e, words-drop k ws (page_at w))

words-parts : (xs ys : List ℕ) (q : ℕ) → words_on (xs ++ ys) q ≡ words_on xs q + words_on ys q
unfolding words_on
words-parts [] ys q = let z : words_on [] q ≡ 0 = refl in omega (arith, z)
words-parts (x ∷ xs) ys q =
    by_cases (eqb (page_at x) q)
    (λ e. omega (arith, on-here x (xs ++ ys) q e, on-here x xs q e, words-parts xs ys q))
    (λ e. omega (arith, on-other x (xs ++ ys) q e, on-other x xs q e, words-parts xs ys q))

-- ---- on_page, tail_on
pub entry-page : (ws : List ℕ) (i : ℕ) → EntryPre ws i → page_at (get_or ws i 0) < 2 ^ 32
entry-page ws i a = omega (arith, ltb-true (page_at (get_or ws i 0)) max_pages a.reach)

pub entry-told : (ws : List ℕ) (i q w p : ℕ) → w ≡ get_or ws i 0 → p ≡ page_at w → eqb p q ≡ on_page q (get_or ws i 0)
entry-told ws i q w p e f = rw (f, e)

pub record TailInv (q : ℕ) (ws : List ℕ) (i : ℕ) : Type 0 where
  pub within : i ≤ length ws
  pub on : every (on_page q) (drop i ws) ≡ true

module _ (q : ℕ) (ws : List ℕ) where
  pub tail-starts : TailInv q ws (length ws)
  tail-starts = record { within = omega arith; on = rw (drop-length ws) }

  pub tail-ends : (i : ℕ) → TailInv q ws i → i ≡ 0 → TailOn i q ws
  tail-ends i v z = record { within = v.within; on = v.on; stops = λ h. absurd (omega arith) }

  module _ (i : ℕ) (v : TailInv q ws i) (h : i ≡ 0 → ⊥) where
    pub tail-pre : every in_reach ws ≡ true → EntryPre ws (i - 1)
    tail-pre e = let l : i - 1 < length ws = omega (arith, h, v.within) in record { here = l; reach = every_get in_reach ws (i - 1) e l }

    module _ (u : Bool) (e : u ≡ on_page q (get_or ws (i - 1) 0)) where
      pub tail-goes_on : u ≡ true → TailInv q ws (i - 1)
      tail-goes_on x = record { within = omega (arith, v.within); on = rw (drop-one ws i h v.within, ← e, x) v.on }

      pub tail-stops : u ≡ false → TailOn i q ws
      tail-stops x = record { within = v.within; on = v.on; stops = λ z. sym e ∙ x }

-- ---- words of page q
-- the index of a word that lies on page q
near-index : (sh : Shape) (q w : ℕ) → on_page q w ≡ true → ltb (index_of sh q w) 4096 ≡ true
unfolding index_of
near-index sh q w e =
    let z : granule_of w - blocks_from sh q < 4096 = omega (arith, eqb-true (page_at w) q e) in
    lt-ltb (index_of sh q w) 4096 (omega (arith, z, div-le_self (granule_of w - blocks_from sh q) sh.block))

near-bits : (sh : Shape) (q : ℕ) (ws : List ℕ) → every (on_page q) ws ≡ true → every (λ w. ltb (index_of sh q w) 4096) ws ≡ true
near-bits sh q [] e = refl
near-bits sh q (w ∷ ws) e = rw (near-index sh q w (and_left (on_page q w) (every (on_page q) ws) e)) (near-bits sh q ws (and_right (on_page q w) (every (on_page q) ws) e))

near-block : (sh : Shape) (q w : ℕ) → own_block sh w ≡ true → on_page q w ≡ true → is_block sh q w ≡ true
unfolding own_block
near-block sh q w o e = rw (← (eqb-true (page_at w) q e)) o

near-blocks : (sh : Shape) (q : ℕ) (ws : List ℕ) → every (own_block sh) ws ≡ true → every (on_page q) ws ≡ true → every (is_block sh q) ws ≡ true
near-blocks sh q [] o e = refl
near-blocks sh q (w ∷ ws) o e =
    rw (near-block sh q w (and_left (own_block sh w) (every (own_block sh) ws) o) (and_left (on_page q w) (every (on_page q) ws) e))
    (near-blocks sh q ws (and_right (own_block sh w) (every (own_block sh) ws) o) (and_right (on_page q w) (every (on_page q) ws) e))

-- ---- push_tail
module _ (b : List ℕ) (sh : Shape) (q : ℕ) (there : words (q + 1) ≤ length b) where
  pub run_pushed : (vs : List ℕ) → every (on_page q) vs ≡ true → get b (page free q) + length vs ≤ 4096
      → put (push b q (get b (page free q)) (map (index_of sh q) vs)) (page free q) (get b (page free q) + length vs) ≡ push_all b sh vs
  unfolding push_all push_one
  run_pushed [] e l = rw add-zero (put-get b (page free q))
  run_pushed (w ∷ vs) e l =
      let f = get b (page free q) in
      let ix = index_of sh q in
      let k = f + length vs in
      let x = push b q f (map ix vs) in
      let i = ix w in
      let on : page_at w ≡ q = eqb-true (page_at w) q (and_left (on_page q w) (every (on_page q) vs) e) in
      let before : put x (page free q) k ≡ push_all b sh vs = run_pushed vs (and_right (on_page q w) (every (on_page q) vs) e) (omega arith) in
      let hx = le-leb (words (q + 1)) (length x) (omega (arith, there, length_push b q f (map ix vs))) in
      let hq = lt-ltb q (q + 1) (omega arith) in
      let hk : ltb k 4096 ≡ true = lt-ltb k 4096 (omega arith) in
      let top : get (put x (page free q) k) (page free q) ≡ k = get_put_same (q + 1) x (page free q) k hx hq refl in
      let y = put x (slot q k) i in
      let hy = le-leb (words (q + 1)) (length y) (omega (arith, there, length_push b q f (map ix vs), length-put x (slot q k) i)) in
      let c : put (put x (page free q) k) (slot q k) i ≡ put y (page free q) k = put-comm x (page free q) (slot q k) k i refl hk refl in
      let z : f + suc (length vs) ≡ k + 1 = omega arith in
      let s : f + length (map ix vs) ≡ k = ap (λ z. f + z) (length-map vs ix) in
      ap (λ z. put (put x (slot q z) i) (page free q) (f + suc (length vs))) s
      ∙ ap (put y (page free q)) z
      ∙ sym (put_put_same (q + 1) y (page free q) k (k + 1) hy hq)
      ∙ ap (λ d. put d (page free q) (k + 1)) (sym c)
      ∙ rw (← before, on, top)

every-reach : (b : List ℕ) (sh : Shape) (ws : List ℕ) → PushAllPre b sh ws → every in_reach ws ≡ true
every-reach b sh ws a = every_made in_reach ws (λ k l. lt-ltb (page_at (get_or ws k 0)) max_pages (a.below (page_at (get_or ws k 0)) (words-some ws k l)))

module _ (b : List ℕ) (sh : Shape) (q : ℕ) (ws : List ℕ) (a : TailPre b sh q ws) (t : ℕ) (e : t ≡ get b (page free q)) where
  pub tail_stacks : PushEntriesPre b sh q t ws
  tail_stacks = record { sound = a.pre.sound; below = a.pre.below; there = a.pre.there; slots = rw e a.pre.slots; bits = a.pre.bits }

  pub free-fits : Fits w32 (t + length ws)
  free-fits = record { fits = omega (arith, tail_stacks.slots) }

  pub size_fits : Fits w32 (length ws)
  size_fits = record { fits = omega (arith, tail_stacks.slots) }

  module _ (b₁ : List ℕ) (f : b₁ ≡ push b q t (map (index_of sh q) ws)) where
    pub free-there : Has b₁ (page free q)
    free-there = omega (arith, a.pre.there, ap length f, length_push b q t (map (index_of sh q) ws))

    pub tail-done : (b₂ : List ℕ) → b₂ ≡ put b₁ (page free q) (t + length ws) → b₂ ≡ push_all b sh ws
    tail-done b₂ g = g ∙ ap (λ z. put z (page free q) (t + length ws)) f ∙ rw e (run_pushed b sh q a.pre.there ws a.on a.pre.slots)

-- ---- push_block
module _ (b : List ℕ) (sh : Shape) (q w : ℕ) (a : TailPre b sh q (w ∷ [])) where
  pub one_index : IndexPre sh q w
  one_index = record { sound = a.pre.sound; below = a.pre.below; bit = and_left (ltb (index_of sh q w) 4096) true a.pre.bits }

  pub one_block : is_block sh q w ≡ true
  one_block = and_left (is_block sh q w) true a.blocks

  module _ (t : ℕ) (e : t ≡ get b (page free q)) where
    one-room : t + 1 ≤ 4096
    one-room = omega (arith, a.pre.slots)

    pub one-slot : Has b (slot q t)
    one-slot = omega (arith, one-room, a.pre.there)

    pub one-fits : Fits w32 (t + 1)
    one-fits = record { fits = omega (arith, one-room) }

    pub one-done : (i : ℕ) → i ≡ index_of sh q w → (b₁ b₂ : List ℕ) → b₁ ≡ put b (slot q t) i → b₂ ≡ put b₁ (page free q) (t + 1) → b₂ ≡ push_all b sh (w ∷ [])
    unfolding push_all push_one
    one-done i h b₁ b₂ f g =
        let on : page_at w ≡ q = eqb-true (page_at w) q (and_left (on_page q w) true a.on) in
        rw (g, f, h, e, on)

-- ---- push_last
module _ (b : List ℕ) (sh : Shape) (ws : List ℕ) (a : LastPre b sh ws) where
  pub all-reach : every in_reach ws ≡ true
  all-reach = every-reach b sh ws a.all

  pub last-there : length ws - 1 < length ws
  last-there = omega (arith, a.some)

  last_some : 1 ≤ words_on ws (page_at (get_or ws (length ws - 1) 0))
  last_some = words-some ws (length ws - 1) last-there

  pub last-page : page_at (get_or ws (length ws - 1) 0) < 2 ^ 32
  last-page = omega (arith, a.all.below (page_at (get_or ws (length ws - 1) 0)) last_some)

  module _ (q : ℕ) (e : q ≡ page_at (get_or ws (length ws - 1) 0)) (k : ℕ) (z : TailOn k q ws) where
    on_some : 1 ≤ words_on ws q
    on_some = rw e last_some

    tail-some : k < length ws
    tail-some =
        elim (dec_le (length ws) k) [
          | yes h ↦
              let s : k - 1 ≡ length ws - 1 = omega (arith, h, z.within) in
              absurd (true≢false (sym (eq-eqb (page_at (get_or ws (length ws - 1) 0)) q (sym e)) ∙ rw s at (z.stops (omega (arith, h, a.some)))))
          | no h ↦ omega (arith, h)
        ]

    part-is : take (length ws - k) (drop k ws) ≡ drop k ws
    part-is = take_all (length ws - k) (drop k ws) (omega (arith, length-drop k ws))

    last-tail : TailPre b sh q (drop k ws)
    last-tail = record {
      pre = record {
        sound = a.all.sound;
        below = a.all.below q on_some;
        there = a.all.there q on_some;
        slots = omega (arith, a.all.slots q on_some, words-all q (drop k ws) z.on, words-drop k ws q);
        bits = near-bits sh q (drop k ws) z.on;
      };
      blocks = near-blocks sh q (drop k ws) (every_drop (own_block sh) k ws a.blocks) z.on;
      on = z.on;
    }

    pub last-pre : TailPre b sh q (take (length ws - k) (drop k ws))
    last-pre = rw part-is last-tail

    -- the last word alone
    alone-is : k ≡ length ws - 1 → drop k ws ≡ get_or ws (length ws - 1) 0 ∷ []
    alone-is h = ap (λ z. drop z ws) h ∙ drop-one ws (length ws) (λ z. omega (arith, a.some)) (omega arith) ∙ ap (λ z. get_or ws (length ws - 1) 0 ∷ z) (drop-length ws)

    pub last-alone : k ≡ length ws - 1 → TailPre b sh q (get_or ws (length ws - 1) 0 ∷ [])
    last-alone h = rw (← alone-is h) last-tail

    pub alone-done : k ≡ length ws - 1 → (b' : List ℕ) → b' ≡ push_all b sh (get_or ws (length ws - 1) 0 ∷ []) → PushedFrom k b' b sh ws
    alone-done h b' l = record { some = tail-some; left = l ∙ ap (push_all b sh) (sym (alone-is h)) }

    pub last_done : (b' : List ℕ) → b' ≡ push_all b sh (take (length ws - k) (drop k ws)) → PushedFrom k b' b sh ws
    last_done b' l = record { some = tail-some; left = l ∙ ap (push_all b sh) part-is }

-- ---- push_blocks
push-parts : (b : List ℕ) (sh : Shape) (xs ys : List ℕ) → push_all (push_all b sh ys) sh xs ≡ push_all b sh (xs ++ ys)
unfolding push_all
push-parts b sh [] ys = refl
push-parts b sh (x ∷ xs) ys = rw (push-parts b sh xs ys)

module _ (b₀ : List ℕ) (sh : Shape) (ws b : List ℕ) (i : ℕ) (h : i ≡ 0 → ⊥) (v : Pushing b₀ sh ws b i) where
  pub first-long : length (take i ws) ≡ i
  first-long = length-take-le i ws v.within

  on-parts : (q : ℕ) → words_on ws q ≡ words_on (take i ws) q + words_on (drop i ws) q
  on-parts q = ap (λ z. words_on z q) (sym (take-append-drop i ws)) ∙ words-parts (take i ws) (drop i ws) q

  pub with-pre : PushAllPre b₀ sh ws → every (own_block sh) ws ≡ true → LastPre b sh (take i ws)
  with-pre a o = record {
    all = record {
      sound = a.sound;
      below = λ q l. a.below q (omega (arith, on-parts q));
      there = λ q l. rw v.long (a.there q (omega (arith, on-parts q)));
      slots = λ q l. rw (v.stacked, push-free b₀ sh (drop i ws) (pre-drop b₀ sh i ws a) q) (omega (arith, a.slots q (omega (arith, on-parts q)), on-parts q));
    };
    blocks = every_take (own_block sh) i ws o;
    some = omega (arith, first-long, h);
  }

  pub with-more : (r : ℕ) (b' : List ℕ) → PushedFrom r b' b sh (take i ws) → Pushing b₀ sh ws b' r
  with-more r b' p =
      let l : r ≤ i = omega (arith, p.some, first-long) in
      record {
        within = omega (arith, l, v.within);
        long = ap length p.left ∙ push-length b sh (drop r (take i ws)) ∙ v.long;
        stacked =
            p.left
            ∙ ap (λ z. push_all z sh (drop r (take i ws))) v.stacked
            ∙ push-parts b₀ sh (drop r (take i ws)) (drop i ws)
            ∙ ap (push_all b₀ sh) (parted r i ws l v.within);
      }

  pub with-less : (r : ℕ) (b' : List ℕ) → PushedFrom r b' b sh (take i ws) → r < i
  with-less r b' p = omega (arith, p.some, first-long)
