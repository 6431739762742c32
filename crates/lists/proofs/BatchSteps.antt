-- New blocks given: their words, and their out bits word by word.
use Rattle.facts.proofs.Prelude.{ℕ, zero, suc, ◌+◌, ◌-◌, ◌*◌, ◌/◌, ◌%◌, ◌≤◌, ◌<◌, min, arith, add-zero, add-one, true, List, [], ◌∷◌, ◌++◌, map, reverse, reverse-append}
use Rattle.facts.proofs.Prelude.{◌≡◌, refl, sym, ap, ◌∙◌, eqb, length, set, length-set, length-map, length-reverse, lt-ltb, eqb-true, every, by_cases, and_left, and_right}
use Rattle.classes.specs.declared.Shape.{Shape}
use Rattle.fields.specs.Field.{out, put}
use Rattle.fields.specs.way.OutBits.{set_out_run}
use Rattle.fields.proofs.Laws.{length-put, put-comm}
use Rattle.model.specs.Page.{word_of}
use Rattle.pages.specs.Stack.{descending, set_outs, spliced, HandedOut}
use Rattle.pages.specs.way.Pre.{NamePre, FreshPre}
use Rattle.pages.proofs.Descending.{small, length-descending, descending-below}
use Rattle.pages.proofs.SetOuts.{set_outs-append}
use Rattle.pages.proofs.Spliced.{spliced-none, spliced-one, spliced-twice}

-- ---- words
-- j blocks' words stand below `at`, and one more is written before them
named_more : (sh : Shape) (q : ℕ) (l₀ : List ℕ) (at j i w : ℕ) (xs l l' : List ℕ) → j < at → at ≤ length l₀ → length xs ≡ j → length l ≡ length l₀ → l ≡ spliced l₀ (at - j) (map (word_of sh q) xs) → w ≡ word_of sh q i → l' ≡ set l (at - 1 - j) w
    → l' ≡ spliced l₀ (at - (j + 1)) (map (word_of sh q) (i ∷ xs))
named_more sh q l₀ at j i w xs l l' r p n long v e f =
    let ws = map (word_of sh q) xs in
    let many : length ws ≡ j = length-map xs (word_of sh q) ∙ n in
    let place : at - 1 - j + length (w ∷ []) ≡ at - j = omega arith in
    let room : at - j + length ws ≤ length l₀ = omega arith in
    let from : at - 1 - j ≡ at - (j + 1) = omega arith in
    f
    ∙ sym (spliced-one l (at - 1 - j) w (omega arith))
    ∙ ap (λ z. spliced z (at - 1 - j) (w ∷ [])) v
    ∙ spliced-twice l₀ (at - j) (at - 1 - j) (w ∷ []) ws place room
    ∙ ap (λ z. spliced l₀ z (w ∷ ws)) from
    ∙ ap (λ z. spliced l₀ (at - (j + 1)) (z ∷ ws)) e

-- descending from its lowest on
descending-last : (a k : ℕ) → descending a (suc k) ≡ descending (suc a) k ++ (a ∷ [])
descending-last a zero = ap (λ z. z ∷ []) (add-zero a)
descending-last a (suc k) =
    let e : a + suc k ≡ suc a + k = omega arith in
    ap (λ z. z ∷ descending a (suc k)) e ∙ ap (λ z. (suc a + k) ∷ z) (descending-last a k)

rising-more : (a k : ℕ) → reverse (descending a (suc k)) ≡ a ∷ reverse (descending (suc a) k)
rising-more a k = ap reverse (descending-last a k) ∙ reverse-append (descending (suc a) k) (a ∷ [])

length-rising : (a k : ℕ) → length (reverse (descending a k)) ≡ k
length-rising a k = length-reverse (descending a k) ∙ length-descending a k

module _ (sh : Shape) (q : ℕ) (l₀ : List ℕ) (at a k : ℕ) where
  pub record Naming (l : List ℕ) (j : ℕ) : Type 0 where
    pub within : j ≤ k
    pub long : length l ≡ length l₀
    pub named : l ≡ spliced l₀ (at - j) (map (word_of sh q) (descending a j))

  pub naming_none : Naming l₀ 0
  naming_none = record { within = omega arith; long = refl; named = sym (spliced-none l₀ (at - 0)) }

  pub naming_more : (l l' : List ℕ) (j w : ℕ) → NamePre sh q l₀ at a k → j < k → Naming l j → w ≡ word_of sh q (a + j) → l' ≡ set l (at - 1 - j) w → Naming l' (j + 1)
  naming_more l l' j w h u v e f =
      record {
        within = omega arith;
        long = ap length f ∙ length-set l (at - 1 - j) w ∙ v.long;
        named =
            named_more sh q l₀ at j (a + j) w (descending a j) l l' (omega (arith, h.room)) h.places (length-descending a j) v.long v.named e f
            ∙ ap (λ z. spliced l₀ (at - (j + 1)) (map (word_of sh q) (descending a z))) (sym (add-one j));
      }

  pub naming_done : (l : List ℕ) (j : ℕ) → k ≤ j → Naming l j → l ≡ spliced l₀ (at - k) (map (word_of sh q) (descending a k))
  naming_done l j h v =
      let e : j ≡ k = omega (arith, v.within) in
      rw e at v.named

  -- the highest j of them, the lowest first
  pub record Raising (l : List ℕ) (j : ℕ) : Type 0 where
    pub within : j ≤ k
    pub long : length l ≡ length l₀
    pub named : l ≡ spliced l₀ (at - j) (map (word_of sh q) (reverse (descending (a + (k - j)) j)))

  pub raising_none : Raising l₀ 0
  raising_none = record { within = omega arith; long = refl; named = sym (spliced-none l₀ (at - 0)) }

  pub raising_more : (l l' : List ℕ) (j w : ℕ) → NamePre sh q l₀ at a k → j < k → Raising l j → w ≡ word_of sh q (a + (k - 1 - j)) → l' ≡ set l (at - 1 - j) w → Raising l' (j + 1)
  raising_more l l' j w h u v e f =
      let i = a + (k - 1 - j) in
      let next : a + (k - j) ≡ suc i = omega arith in
      let same : i ≡ a + (k - (j + 1)) = omega arith in
      let xs = reverse (descending (suc i) j) in
      let was : l ≡ spliced l₀ (at - j) (map (word_of sh q) xs) = v.named ∙ ap (λ z. spliced l₀ (at - j) (map (word_of sh q) (reverse (descending z j)))) next in
      let more : i ∷ xs ≡ reverse (descending (a + (k - (j + 1))) (j + 1)) = sym (rising-more i j) ∙ ap (λ z. reverse (descending i z)) (sym (add-one j)) ∙ ap (λ z. reverse (descending z (j + 1))) same in
      record {
        within = omega arith;
        long = ap length f ∙ length-set l (at - 1 - j) w ∙ v.long;
        named =
            named_more sh q l₀ at j i w xs l l' (omega (arith, h.room)) h.places (length-rising (suc i) j) v.long was e f
            ∙ ap (λ z. spliced l₀ (at - (j + 1)) (map (word_of sh q) z)) more;
      }

  pub raising_done : (l : List ℕ) (j : ℕ) → k ≤ j → Raising l j → l ≡ spliced l₀ (at - k) (map (word_of sh q) (reverse (descending a k)))
  raising_done l j h v =
      let e : j ≡ k = omega (arith, v.within) in
      let z : a + (k - k) ≡ a = omega arith in
      let d : l ≡ spliced l₀ (at - k) (map (word_of sh q) (reverse (descending (a + (k - k)) k))) = rw e at v.named in
      d ∙ ap (λ y. spliced l₀ (at - k) (map (word_of sh q) (reverse (descending y k)))) z

-- ---- out bits
set_out_run-more : (b : List ℕ) (q a m n : ℕ) → set_out_run (set_out_run b q a m) q (a + m) n ≡ set_out_run b q a (m + n)
unfolding set_out_run
set_out_run-more b q a m zero = rw add-zero
set_out_run-more b q a m (suc n) =
    let e : a + m + n ≡ a + (m + n) = omega arith in
    let f : suc (m + n) ≡ m + suc n = omega arith in
    ap (λ z. put z (out q (a + m + n)) 1) (set_out_run-more b q a m n) ∙ ap (λ z. put (set_out_run b q a (m + n)) (out q z) 1) e ∙ ap (set_out_run b q a) f

set_out_run-descending : (b : List ℕ) (q a k : ℕ) → set_out_run b q a k ≡ set_outs b q 1 (descending a k)
unfolding set_out_run
set_out_run-descending b q a zero = refl
set_out_run-descending b q a (suc k) = ap (λ z. put z (out q (a + k)) 1) (set_out_run-descending b q a k)

length-set_out_run : (b : List ℕ) (q a k : ℕ) → length (set_out_run b q a k) ≡ length b
unfolding set_out_run
length-set_out_run b q a zero = refl
length-set_out_run b q a (suc k) = length-put (set_out_run b q a k) (out q (a + k)) 1 ∙ length-set_out_run b q a k

module _ (b₀ : List ℕ) (q a k : ℕ) where
  pub record SettingOuts (b : List ℕ) (i left : ℕ) : Type 0 where
    pub begun : a ≤ i
    pub ends : i + left ≡ a + k
    pub long : length b ≡ length b₀
    pub bits_set : b ≡ set_out_run b₀ q a (i - a)

  pub setting_outs_none : SettingOuts b₀ a k
  unfolding set_out_run
  setting_outs_none = let z : a - a ≡ 0 = omega arith in record { begun = omega arith; ends = refl; long = refl; bits_set = rw z }

  pub setting_outs_more : (b b' : List ℕ) (i left n : ℕ) → SettingOuts b i left → n ≡ min (32 - i % 32) left → b' ≡ set_out_run b q (32 * (i / 32) + i % 32) n → SettingOuts b' (i + n) (left - n)
  setting_outs_more b b' i left n v e f =
      let at : 32 * (i / 32) + i % 32 ≡ a + (i - a) = omega (arith, v.begun) in
      let to : i - a + n ≡ i + n - a = omega (arith, v.begun) in
      record {
        begun = omega (arith, v.begun);
        ends = omega (arith, v.ends);
        long = ap length f ∙ length-set_out_run b q (32 * (i / 32) + i % 32) n ∙ v.long;
        bits_set =
            f
            ∙ ap (λ z. set_out_run b q z n) at
            ∙ ap (λ z. set_out_run z q (a + (i - a)) n) v.bits_set
            ∙ set_out_run-more b₀ q a (i - a) n
            ∙ ap (set_out_run b₀ q a) to;
      }

  pub setting_outs_done : (b : List ℕ) (i left : ℕ) → left ≡ 0 → SettingOuts b i left → b ≡ set_outs b₀ q 1 (descending a k)
  setting_outs_done b i left z v =
      let e : i - a ≡ k = omega (arith, v.ends) in
      v.bits_set ∙ ap (set_out_run b₀ q a) e ∙ set_out_run-descending b₀ q a k

-- ---- both
pub carved-done : (b : List ℕ) (sh : Shape) (q : ℕ) (l : List ℕ) (at a k : ℕ) (b' l' : List ℕ) → l' ≡ spliced l (at - k) (map (word_of sh q) (descending a k)) → b' ≡ set_outs b q 1 (descending a k)
    → HandedOut b sh q l at (descending a k) b' l'
carved-done b sh q l at a k b' l' e f =
    record { outs = f; list = e ∙ ap (λ z. spliced l (at - z) (map (word_of sh q) (descending a k))) (sym (length-descending a k)) }

-- ---- the order in which bits are set is all one
set_out_run-first : (b : List ℕ) (q a : ℕ) (is : List ℕ) → small a ≡ true → every small is ≡ true → put (set_outs b q 1 is) (out q a) 1 ≡ set_outs (put b (out q a) 1) q 1 is
set_out_run-first b q a [] s t = refl
set_out_run-first b q a (i ∷ is) s t =
    let si = and_left (small i) (every small is) t in
    let r = set_out_run-first b q a is s (and_right (small i) (every small is) t) in
    by_cases (eqb i a)
    (λ e. let z : i ≡ a = eqb-true i a e in rw z (ap (λ y. put y (out q a) 1) r))
    (λ e. put-comm (set_outs b q 1 is) (out q i) (out q a) 1 1 si s (rw e) ∙ ap (λ y. put y (out q i) 1) r)

set_out_run-rising : (b : List ℕ) (q a k : ℕ) → a + k ≤ 4096 → set_outs b q 1 (reverse (descending a k)) ≡ set_outs b q 1 (descending a k)
set_out_run-rising b q a zero h = refl
set_out_run-rising b q a (suc k) h =
    ap (set_outs b q 1) (rising-more a k)
    ∙ ap (λ z. put z (out q a) 1) (set_out_run-rising b q (suc a) k (omega arith))
    ∙ set_out_run-first b q a (descending (suc a) k) (lt-ltb a 4096 (omega arith)) (descending-below (suc a) k 4096 (omega arith))
    ∙ set_outs-append b q 1 (descending (suc a) k) (a ∷ [])
    ∙ ap (set_outs b q 1) (sym (descending-last a k))

pub raised-done : (b : List ℕ) (sh : Shape) (q : ℕ) (l : List ℕ) (at a k : ℕ) (b' l' : List ℕ) → FreshPre b sh q l at a k → l' ≡ spliced l (at - k) (map (word_of sh q) (reverse (descending a k))) → b' ≡ set_outs b q 1 (descending a k)
    → HandedOut b sh q l at (reverse (descending a k)) b' l'
raised-done b sh q l at a k b' l' h e f =
    record {
      outs = f ∙ sym (set_out_run-rising b q a k (omega (arith, h.blocks, h.sound.few)));
      list = e ∙ ap (λ z. spliced l (at - z) (map (word_of sh q) (reverse (descending a k)))) (sym (length-rising a k));
    }
