-- Blocks pushed back one after another, from the list's last on, and two at a time.
use Rattle.facts.proofs.Prelude.{ℕ, suc, ◌+◌, ◌-◌, ◌*◌, ◌/◌, ◌%◌, ◌≤◌, ◌<◌, arith, add-zero, true, List, [], ◌∷◌, ◌++◌, map, map-append, ◌≡◌, refl, sym, ap, ◌∙◌, ltb, length, get_or}
use Rattle.facts.proofs.Prelude.{take, drop, length-map, length-drop, length-append, drop-cons, drop-length, length-take-le, take-length, take-suc, get_or-take, every, every_get}
use Rattle.classes.specs.declared.Shape.{Shape}
use Rattle.classes.specs.way.Sound.{Sound}
use Rattle.fields.specs.Ranges.{max_pages}
use Rattle.fields.specs.Field.{page, slot, free, virgin, get, put}
use Rattle.fields.proofs.Laws.{length-put}
use Rattle.pages.specs.Stack.{page_slots, index_of, is_block, push, pushed}
use Rattle.pages.specs.way.Pre.{IndexPre, PushEntriesPre}
use Rattle.lists.specs.way.Push.{PairsPre}

-- each listed word's block has an index
index-pre : (sh : Shape) (q : ℕ) (ws : List ℕ) (k : ℕ) → Sound sh → q < max_pages → every (λ w. ltb (index_of sh q w) page_slots) ws ≡ true → k < length ws → IndexPre sh q (get_or ws k 0)
index-pre sh q ws k s below bits l = record { sound = s; below = below; bit = every_get (λ w. ltb (index_of sh q w) page_slots) ws k bits l }

module _ (b₀ : List ℕ) (sh : Shape) (q top : ℕ) (ws : List ℕ) where
  -- those from place i on lie on the stack
  pub record Pushing (b : List ℕ) (i t : ℕ) : Type 0 where
    pub within : i ≤ length ws
    pub height : t + i ≡ top + length ws
    pub long : length b ≡ length b₀
    pub stacked : b ≡ push b₀ q top (map (index_of sh q) (drop i ws))

  pub pushing-none : Pushing b₀ (length ws) top
  pushing-none = record { within = omega arith; height = refl; long = refl; stacked = ap (λ z. push b₀ q top (map (index_of sh q) z)) (sym (drop-length ws)) }

  pub pushing-more : (b b' : List ℕ) (i t k : ℕ) → (i ≡ 0 → ⊥) → Pushing b i t → k ≡ index_of sh q (get_or ws (i - 1) 0) → b' ≡ put b (slot q t) k → Pushing b' (i - 1) (t + 1)
  pushing-more b b' i t k h v e₁ e₂ =
      let f = index_of sh q in
      let back : suc (i - 1) ≡ i = omega arith in
      let next : drop (i - 1) ws ≡ get_or ws (i - 1) 0 ∷ drop i ws =
      drop-cons ws (i - 1) 0 (omega (arith, v.within)) ∙ ap (λ z. get_or ws (i - 1) 0 ∷ drop z ws) back in
      let under : t ≡ top + length (map f (drop i ws)) = omega (arith, length-map (drop i ws) f, length-drop i ws, v.within, v.height) in
      record {
        within = omega (arith, v.within);
        height = omega (arith, v.height);
        long = ap length e₂ ∙ length-put b (slot q t) k ∙ v.long;
        stacked =
            e₂
            ∙ ap (λ z. put z (slot q t) k) v.stacked
            ∙ ap (λ z. put (push b₀ q top (map f (drop i ws))) (slot q z) k) under
            ∙ ap (put (push b₀ q top (map f (drop i ws))) (slot q (top + length (map f (drop i ws))))) e₁
            ∙ ap (λ z. push b₀ q top (map f z)) (sym next);
      }

  pub pushing-done : (b : List ℕ) (i t : ℕ) → i ≡ 0 → Pushing b i t → b ≡ push b₀ q top (map (index_of sh q) ws)
  pushing-done b i t h v = rw h at v.stacked

-- ---- two at a time
module _ (b₀ : List ℕ) (sh : Shape) (q x : ℕ) (ws : List ℕ) (n : ℕ) where
  pub record Pairing (b : List ℕ) (i t : ℕ) : Type 0 where
    pub within : i ≤ n
    pub height : 2 * t + i ≡ 2 * x + n
    pub long : length b ≡ length b₀
    pub pushing : Pushing b₀ sh q (2 * x) (take n ws) b i (2 * t)

  module _ (a : PairsPre b₀ sh q x ws n) where
    pre : (k : ℕ) → k < n → IndexPre sh q (get_or ws k 0)
    pre k l = index-pre sh q ws k a.sound a.below a.bits (omega (arith, a.within))

    module _ (b : List ℕ) (i t : ℕ) (v : Pairing b i t) where
      pub high-pre : 1 < i → IndexPre sh q (get_or ws (i - 2 + 1) 0)
      high-pre h = pre (i - 2 + 1) (omega (arith, v.within))

      pub low-pre : 1 < i → IndexPre sh q (get_or ws (i - 2) 0)
      low-pre h = pre (i - 2) (omega (arith, v.within))

      pub last-pre : (i ≡ 0 → ⊥) → IndexPre sh q (get_or ws 0 0)
      last-pre h = pre 0 (omega (arith, v.within))

  module _ (enough : n ≤ length ws) where
    pub pairing_none : Pairing b₀ n x
    pairing_none =
        record {
          within = omega arith;
          height = refl;
          long = refl;
          pushing = rw (length-take-le n ws enough) at (pushing-none b₀ sh q (2 * x) (take n ws));
        }

    module _ (b : List ℕ) (i t : ℕ) (v : Pairing b i t) where
      -- each is a block
      module _ (o : every (is_block sh q) ws ≡ true) where
        pub first_block : 1 < i → is_block sh q (get_or ws (i - 2 + 1) 0) ≡ true
        first_block h = every_get (is_block sh q) ws (i - 2 + 1) o (omega (arith, v.within))

        pub next-block : 1 < i → is_block sh q (get_or ws (i - 2) 0) ≡ true
        next-block h = every_get (is_block sh q) ws (i - 2) o (omega (arith, v.within))

        pub last_block : (i ≡ 0 → ⊥) → is_block sh q (get_or ws 0 0) ≡ true
        last_block h = every_get (is_block sh q) ws 0 o (omega (arith, v.within))

      -- one of them
      one : (k j : ℕ) → 1 ≤ i → j ≡ i - 1 → k ≡ index_of sh q (get_or ws j 0) → Pushing b₀ sh q (2 * x) (take n ws) (put b (slot q (2 * t)) k) (i - 1) (2 * t + 1)
      one k j h e f =
          let g : k ≡ index_of sh q (get_or (take n ws) (i - 1) 0) = f ∙ ap (index_of sh q) (ap (λ z. get_or ws z 0) e ∙ sym (get_or-take n ws (i - 1) 0 (omega (arith, v.within)))) in
          pushing-more b₀ sh q (2 * x) (take n ws) b (put b (slot q (2 * t)) k) i (2 * t) k (λ z. omega arith) v.pushing g refl

      pub pairing_more : (b' : List ℕ) (k l : ℕ) → 1 < i → k ≡ index_of sh q (get_or ws (i - 2 + 1) 0) → l ≡ index_of sh q (get_or ws (i - 2) 0)
          → b' ≡ put (put b (slot q (2 * t)) k) (slot q (2 * t + 1)) l → Pairing b' (i - 2) (t + 1)
      pairing_more b' k l h e₁ e₂ e =
          let c = put b (slot q (2 * t)) k in
          let j : i - 1 - 1 ≡ i - 2 = omega arith in
          let u : 2 * t + 1 + 1 ≡ 2 * (t + 1) = omega arith in
          let g : l ≡ index_of sh q (get_or (take n ws) (i - 1 - 1) 0) = e₂ ∙ ap (index_of sh q) (ap (λ z. get_or ws z 0) (sym j) ∙ sym (get_or-take n ws (i - 1 - 1) 0 (omega (arith, v.within)))) in
          let y = pushing-more b₀ sh q (2 * x) (take n ws) c b' (i - 1) (2 * t + 1) l (λ z. omega arith) (one k (i - 2 + 1) (omega arith) (omega arith) e₁) g e in
          record {
            within = omega (arith, v.within);
            height = omega (arith, v.height);
            long = ap length e ∙ length-put c (slot q (2 * t + 1)) l ∙ length-put b (slot q (2 * t)) k ∙ v.long;
            pushing = rw (j, u) at y;
          }

      pub pairing_done : i ≡ 0 → b ≡ push b₀ q (2 * x) (map (index_of sh q) (take n ws))
      pairing_done h = pushing-done b₀ sh q (2 * x) (take n ws) b i (2 * t) h v.pushing

      pub pairing_last : (b' : List ℕ) (k : ℕ) → i ≤ 1 → (i ≡ 0 → ⊥) → k ≡ index_of sh q (get_or ws 0 0) → b' ≡ put b (slot q (2 * t)) k
          → b' ≡ push b₀ q (2 * x) (map (index_of sh q) (take n ws))
      pairing_last b' k h d e f =
          f ∙ pushing-done b₀ sh q (2 * x) (take n ws) (put b (slot q (2 * t)) k) (i - 1) (2 * t + 1) (omega arith) (one k 0 (omega arith) (omega arith) e)

    -- j pairs are pushed
    pub pairing-start : Pairing b₀ (n - 0) (x + 0)
    pairing-start = let e : n - 0 ≡ n = omega arith in rw (e, add-zero x) pairing_none

    module _ (b : List ℕ) (j : ℕ) (v : Pairing b (n - 2 * j) (x + j)) where
      pub pairing-turn : (b' : List ℕ) (k l : ℕ) → j < n / 2 → k ≡ index_of sh q (get_or ws (n - 2 * j - 2 + 1) 0) → l ≡ index_of sh q (get_or ws (n - 2 * j - 2) 0)
          → b' ≡ put (put b (slot q (2 * (x + j))) k) (slot q (2 * (x + j) + 1)) l → Pairing b' (n - 2 * (j + 1)) (x + (j + 1))
      pairing-turn b' k l h e₁ e₂ e =
          let i : n - 2 * j - 2 ≡ n - 2 * (j + 1) = omega arith in
          let t : x + j + 1 ≡ x + (j + 1) = omega arith in
          rw (i, t) at (pairing_more b (n - 2 * j) (x + j) v b' k l (omega arith) e₁ e₂ e)

      pub pairing-odd : (b' : List ℕ) (k : ℕ) → n / 2 ≤ j → j ≤ n / 2 → n % 2 ≡ 1 → k ≡ index_of sh q (get_or ws 0 0) → b' ≡ put b (slot q (2 * (x + n / 2))) k
          → b' ≡ push b₀ q (2 * x) (map (index_of sh q) (take n ws))
      pairing-odd b' k l m o e f =
          let t : n / 2 ≡ j = omega arith in
          pairing_last b (n - 2 * j) (x + j) v b' k (omega arith) (λ z. omega arith) e (rw t at f)

      pub pairing-even : n / 2 ≤ j → (n % 2 ≡ 1 → ⊥) → b ≡ push b₀ q (2 * x) (map (index_of sh q) (take n ws))
      pairing-even l o = pairing_done b (n - 2 * j) (x + j) v (omega (arith, o))

-- ---- one below them
push-under : (b : List ℕ) (q t j : ℕ) (is : List ℕ) → push (put b (slot q t) j) q (t + 1) is ≡ push b q t (is ++ (j ∷ []))
push-under b q t j [] = rw add-zero
push-under b q t j (i ∷ is) =
    let e : t + 1 + length is ≡ t + length (is ++ (j ∷ [])) = omega (arith, length-append is (j ∷ [])) in
    rw (push-under b q t j is, e)

module _ (b : List ℕ) (sh : Shape) (q t : ℕ) (ws : List ℕ) (a : PushEntriesPre b sh q t ws) (some : length ws ≡ 0 → ⊥) where
  pub first-pre : IndexPre sh q (get_or ws 0 0)
  first-pre = index-pre sh q ws 0 a.sound a.below a.bits (omega arith)

  pub end-pre : IndexPre sh q (get_or ws (length ws - 1) 0)
  end-pre = index-pre sh q ws (length ws - 1) a.sound a.below a.bits (omega arith)

  pub odd_pre : (b₁ : List ℕ) (k : ℕ) → (t % 2 ≡ 0 → ⊥) → b₁ ≡ put b (slot q t) k → PairsPre b₁ sh q (t / 2 + 1) ws (length ws - 1)
  odd_pre b₁ k o e =
      record {
        sound = a.sound;
        below = a.below;
        there = omega (arith, a.there, ap length e, length-put b (slot q t) k);
        within = omega arith;
        slots = omega (arith, a.slots);
        bits = a.bits;
      }

module _ (b : List ℕ) (sh : Shape) (q t : ℕ) (ws : List ℕ) (n : ℕ) (e : n ≡ length ws) where
  pub top-block : every (is_block sh q) ws ≡ true → n ≡ 1 → is_block sh q (get_or ws 0 0) ≡ true
  top-block o h = every_get (is_block sh q) ws 0 o (omega arith)

  pub under-block : every (is_block sh q) ws ≡ true → (n ≡ 0 → ⊥) → is_block sh q (get_or ws (n - 1) 0) ≡ true
  under-block o h = every_get (is_block sh q) ws (n - 1) o (omega arith)

  pub push-none : n ≡ 0 → b ≡ push b q t (map (index_of sh q) ws)
  push-none h = by ws (sym e ∙ h)
    where
      by : (vs : List ℕ) → length vs ≡ 0 → b ≡ push b q t (map (index_of sh q) vs)
      by [] z = refl
      by (v ∷ vs) z = absurd (omega arith)

  pub push-one : (b' : List ℕ) (k : ℕ) → n ≡ 1 → k ≡ index_of sh q (get_or ws 0 0) → b' ≡ put b (slot q t) k → b' ≡ push b q t (map (index_of sh q) ws)
  push-one b' k h f g = g ∙ ap (put b (slot q t)) f ∙ by ws (sym e ∙ h)
    where
      by : (vs : List ℕ) → length vs ≡ 1 → put b (slot q t) (index_of sh q (get_or vs 0 0)) ≡ push b q t (map (index_of sh q) vs)
      by [] z = absurd (omega arith)
      by (v ∷ []) z = rw add-zero
      by (v ∷ (u ∷ vs)) z = absurd (omega arith)

  pub push_even : (b' : List ℕ) → t % 2 ≡ 0 → b' ≡ push b q (2 * (t / 2)) (map (index_of sh q) (take n ws)) → b' ≡ push b q t (map (index_of sh q) ws)
  push_even b' h f =
      let u : 2 * (t / 2) ≡ t = omega arith in
      f ∙ ap (λ z. push b q z (map (index_of sh q) (take n ws))) u ∙ ap (λ z. push b q t (map (index_of sh q) z)) (ap (λ z. take z ws) e ∙ take-length ws)

  pub push_odd : (b₁ b₂ : List ℕ) (k : ℕ) → (n ≡ 0 → ⊥) → (t % 2 ≡ 0 → ⊥) → k ≡ index_of sh q (get_or ws (n - 1) 0) → b₁ ≡ put b (slot q t) k
      → b₂ ≡ push b₁ q (2 * (t / 2 + 1)) (map (index_of sh q) (take (n - 1) ws)) → b₂ ≡ push b q t (map (index_of sh q) ws)
  push_odd b₁ b₂ k d o f e₁ e₂ =
      let g = index_of sh q in
      let u : 2 * (t / 2 + 1) ≡ t + 1 = omega arith in
      let m : suc (n - 1) ≡ length ws = omega arith in
      let s : take (n - 1) ws ++ (get_or ws (n - 1) 0 ∷ []) ≡ ws = sym (take-suc ws (n - 1) 0 (omega arith)) ∙ ap (λ z. take z ws) m ∙ take-length ws in
      e₂
      ∙ ap (λ z. push b₁ q z (map g (take (n - 1) ws))) u
      ∙ ap (λ z. push z q (t + 1) (map g (take (n - 1) ws))) (e₁ ∙ ap (put b (slot q t)) f)
      ∙ push-under b q t (g (get_or ws (n - 1) 0)) (map g (take (n - 1) ws))
      ∙ ap (push b q t) (sym (map-append g (take (n - 1) ws) (get_or ws (n - 1) 0 ∷ [])) ∙ ap (map g) s)

pub push-done : (b : List ℕ) (sh : Shape) (q t : ℕ) (ws b₁ b₂ b₃ : List ℕ) → t ≡ get b (page free q) → b₁ ≡ push b q t (map (index_of sh q) ws) → b₂ ≡ put b₁ (page virgin q) 0
    → b₃ ≡ put b₂ (page free q) (t + length ws) → b₃ ≡ pushed b q (map (index_of sh q) ws)
unfolding pushed
push-done b sh q t ws b₁ b₂ b₃ e e₁ e₂ e₃ = rw (e₃, e₂, e₁, e) (ap (λ z. put (put (push b q (get b (page free q)) (map (index_of sh q) ws)) (page virgin q) 0) (page free q) (get b (page free q) + z)) (sym (length-map ws (index_of sh q))))
