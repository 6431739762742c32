-- Blocks given from the stack: some of them and then others, two a turn.
use Rattle.facts.proofs.Prelude.{ℕ, zero, suc, ◌+◌, ◌-◌, ◌*◌, ◌/◌, ◌%◌, ◌≤◌, ◌<◌, arith, zero-add, suc-add, Bool, true, List, [], ◌∷◌, ◌++◌}
use Rattle.facts.proofs.Prelude.{reverse, reverse-append, ◌≡◌, refl, sym, ap, ◌∙◌, ltb, length, length-reverse, lt-ltb, ltb-true, every, and_right}
use Rattle.classes.specs.declared.Shape.{Shape}
use Rattle.fields.specs.Field.{slot, get}
use Rattle.pages.specs.Stack.{top_entries, descending, HandedOut}
use Rattle.pages.specs.way.Pre.{GivePre, PopPre, FreshPre}
use Rattle.pages.proofs.Descending.{small, every-reverse, every-below}
use Rattle.pages.proofs.TopEntries.{length-top_entries, top_entries-fewer, top_entries-kept, popped-more, every-top_entries}
use Rattle.pages.proofs.SetOuts.{set_outs-kept}
use Rattle.lists.specs.way.Stretch.{StretchPre}
use Rattle.lists.proofs.DrawSteps.{handed_out-none, handed_out-more, handed_out-long}

top_entries-join : (b : List ℕ) (q h n t : ℕ) → h ≤ t → top_entries b q (h + n) t ≡ top_entries b q h t ++ top_entries b q n (t - h)
top_entries-join b q zero n t l = let e : t ≡ t - 0 = omega arith in rw zero-add (ap (top_entries b q n) e)
top_entries-join b q (suc h) n zero l = absurd (omega arith)
top_entries-join b q (suc h) n (suc t) l =
    let e : t - h ≡ suc t - suc h = omega arith in
    rw suc-add (ap (λ z. get b (slot q t) ∷ z) (top_entries-join b q h n t (omega arith) ∙ ap (λ z. top_entries b q h t ++ top_entries b q n z) e))

every-right : (P : ℕ → Bool) (s t : List ℕ) → every P (s ++ t) ≡ true → every P t ≡ true
every-right P [] t e = e
every-right P (x ∷ s) t e = every-right P s t (and_right (P x) (every P (s ++ t)) e)

module _ (b : List ℕ) (sh : Shape) (q : ℕ) (l : List ℕ) (at t k : ℕ) (a : PopPre b sh q l at t k) where
  abbrev within : ℕ → Bool
  within i = ltb i sh.capacity

  -- fewer of them
  pub pre-fewer : (n : ℕ) → n ≤ k → PopPre b sh q l at t n
  pre-fewer n h =
      record {
        sound = a.sound;
        below = a.below;
        there = a.there;
        slots = a.slots;
        enough = omega (arith, a.enough);
        entries = top_entries-fewer b q within n k t h a.entries;
        room = omega (arith, a.room);
        places = a.places;
      }

  -- entry j from the top is one of the class's blocks
  entry-below : (j i : ℕ) → j < k → i ≡ get b (slot q (t - suc j)) → i < sh.capacity
  entry-below j i h e = rw e (ltb-true (get b (slot q (t - suc j))) sh.capacity (every-top_entries b q within k t j a.entries h (omega (arith, a.enough))))

  entry-pre : (j i : ℕ) → j < k → i ≡ get b (slot q (t - suc j)) → GivePre b sh q l at i
  entry-pre j i h e = record { sound = a.sound; below = a.below; there = a.there; block = entry-below j i h e; room = omega (arith, a.room); places = a.places }

  -- ---- none or one
  pub end-pre : (i : ℕ) → (k ≡ 0 → ⊥) → i ≡ get b (slot q (t - 1)) → GivePre b sh q l at i
  end-pre i h e = entry-pre 0 i (omega (arith, h)) e

  pub end-one : (i : ℕ) (b' l' : List ℕ) → (k ≡ 0 → ⊥) → k ≤ 1 → i ≡ get b (slot q (t - 1)) → HandedOut b sh q l at (i ∷ []) b' l' → HandedOut b sh q l at (reverse (top_entries b q k t)) b' l'
  end-one i b' l' h m e g =
      let n : k ≡ 1 = omega (arith, h) in
      let x : reverse (top_entries b q k t) ≡ i ∷ [] = ap (λ z. reverse (top_entries b q z t)) n ∙ popped-more b q 0 t (omega (arith, a.enough)) ∙ ap (λ z. z ∷ []) (sym e) in
      rw x g

  pub end_none : k ≡ 0 → HandedOut b sh q l at (reverse (top_entries b q k t)) b l
  end_none h = rw h (handed_out-none b sh q l at)

  -- ---- h of them given, then n more
  module _ (h : ℕ) (b₁ l₁ : List ℕ) (g : HandedOut b sh q l at (reverse (top_entries b q h t)) b₁ l₁) (n : ℕ) (m : h + n ≤ k) where
    popped-length : length (reverse (top_entries b q h t)) ≡ h
    popped-length = omega (arith, length-reverse (top_entries b q h t), length-top_entries b q h t, a.enough)

    popped-small : every small (reverse (top_entries b q h t)) ≡ true
    popped-small =
        every-reverse small (top_entries b q h t)
        (every-below sh.capacity 4096 a.sound.few (top_entries b q h t) (top_entries-fewer b q within h k t (omega arith) a.entries))

    kept : top_entries b₁ q n (t - h) ≡ top_entries b q n (t - h)
    kept =
        top_entries-kept b b₁ q n (t - h)
        (λ i u. ap (λ z. get z (slot q i)) g.outs ∙ set_outs-kept b q 1 (reverse (top_entries b q h t)) popped-small (slot q i) (lt-ltb i 4096 (omega (arith, a.slots))) refl)

    joined : top_entries b q (h + n) t ≡ top_entries b q h t ++ top_entries b q n (t - h)
    joined = top_entries-join b q h n t (omega (arith, a.enough))

    pub pre_then : PopPre b₁ sh q l₁ (at - h) (t - h) n
    pre_then =
        let longs = handed_out-long b sh q l at (reverse (top_entries b q h t)) b₁ l₁ (omega (arith, popped-length, a.room)) a.places g in
        record {
          sound = a.sound;
          below = a.below;
          there = rw longs.0 a.there;
          slots = omega (arith, a.slots);
          enough = omega (arith, a.enough);
          entries = rw kept (every-right within (top_entries b q h t) (top_entries b q n (t - h)) (rw joined at (top_entries-fewer b q within (h + n) k t m a.entries)));
          room = omega (arith, a.room);
          places = omega (arith, longs.1, a.places);
        }

    pub handed_out_then : (b₂ l₂ : List ℕ) → HandedOut b₁ sh q l₁ (at - h) (reverse (top_entries b₁ q n (t - h))) b₂ l₂ → HandedOut b sh q l at (reverse (top_entries b q (h + n) t)) b₂ l₂
    handed_out_then b₂ l₂ g₂ =
        let xs = reverse (top_entries b q h t) in
        let ys = reverse (top_entries b q n (t - h)) in
        let e : reverse (top_entries b q (h + n) t) ≡ ys ++ xs = ap reverse joined ∙ reverse-append (top_entries b q h t) (top_entries b q n (t - h)) in
        let few : length ys + length xs ≤ at = omega (arith, popped-length, length-reverse (top_entries b q n (t - h)), length-top_entries b q n (t - h), a.room) in
        rw e (handed_out-more b sh q l at xs ys b₁ l₁ b₂ l₂ few a.places g (rw popped-length (rw kept at g₂)))

-- ---- the two entries of a word
module _ (b : List ℕ) (sh : Shape) (q : ℕ) (l : List ℕ) (at x : ℕ) (a : PopPre b sh q l at (2 * x + 2) 2) where
  at_high : get b (slot q (2 * x + 1)) ≡ get b (slot q (2 * x + 2 - 1))
  at_high = let e : 2 * x + 1 ≡ 2 * x + 2 - 1 = omega arith in ap (λ z. get b (slot q z)) e

  at_low : get b (slot q (2 * x)) ≡ get b (slot q (2 * x + 2 - 2))
  at_low = let e : 2 * x ≡ 2 * x + 2 - 2 = omega arith in ap (λ z. get b (slot q z)) e

  pub high-pre : (i : ℕ) → i ≡ get b (slot q (2 * x + 1)) → GivePre b sh q l at i
  high-pre i e = entry-pre b sh q l at (2 * x + 2) 2 a 0 i (omega arith) (e ∙ at_high)

  pub low-pre : (i j : ℕ) (b₁ l₁ : List ℕ) → j ≡ get b (slot q (2 * x)) → HandedOut b sh q l at (i ∷ []) b₁ l₁ → GivePre b₁ sh q l₁ (at - 1) j
  low-pre i j b₁ l₁ e g =
      let longs = handed_out-long b sh q l at (i ∷ []) b₁ l₁ (omega (arith, a.room)) a.places g in
      let r = entry-pre b sh q l at (2 * x + 2) 2 a 1 j (omega arith) (e ∙ at_low) in
      record { sound = a.sound; below = a.below; there = rw longs.0 a.there; block = r.block; room = omega (arith, a.room); places = omega (arith, longs.1, a.places) }

  pub pair-done : (i j : ℕ) (b₁ l₁ b₂ l₂ : List ℕ) → i ≡ get b (slot q (2 * x + 1)) → j ≡ get b (slot q (2 * x)) → HandedOut b sh q l at (i ∷ []) b₁ l₁ → HandedOut b₁ sh q l₁ (at - 1) (j ∷ []) b₂ l₂
      → HandedOut b sh q l at (reverse (top_entries b q 2 (2 * x + 2))) b₂ l₂
  pair-done i j b₁ l₁ b₂ l₂ e e' g g' =
      let z : reverse (top_entries b q 2 (2 * x + 2)) ≡ j ∷ i ∷ [] =
      popped-more b q 1 (2 * x + 2) (omega arith)
      ∙ ap (λ z. get b (slot q (2 * x + 2 - 2)) ∷ z) (popped-more b q 0 (2 * x + 2) (omega arith))
      ∙ ap (λ z. z ∷ get b (slot q (2 * x + 2 - 1)) ∷ []) (sym (e' ∙ at_low))
      ∙ ap (λ z. j ∷ z ∷ []) (sym (e ∙ at_high)) in
      rw z (handed_out-more b sh q l at (i ∷ []) (j ∷ []) b₁ l₁ b₂ l₂ (omega (arith, a.room)) a.places g g')

-- ---- j of k words given
module _ (b₀ : List ℕ) (sh : Shape) (q : ℕ) (l₀ : List ℕ) (at x k : ℕ) where
  pub record Pairs (b l : List ℕ) (j : ℕ) : Type 0 where
    pub within : j ≤ k
    pub long : length b ≡ length b₀
    pub list : length l ≡ length l₀
    pub handed_out : HandedOut b₀ sh q l₀ at (reverse (top_entries b₀ q (2 * j) (2 * x))) b l

  pub pairs-none : Pairs b₀ l₀ 0
  pairs-none = record { within = omega arith; long = refl; list = refl; handed_out = handed_out-none b₀ sh q l₀ at }

  module _ (a : PopPre b₀ sh q l₀ at (2 * x) (2 * k)) (b l : List ℕ) (j : ℕ) (h : j < k) (p : Pairs b l j) where
    next : 2 * x - 2 * j ≡ 2 * (x - 1 - j) + 2
    next = omega (arith, a.enough)

    pub pairs-pre : PopPre b sh q l (at - 2 * j) (2 * (x - 1 - j) + 2) 2
    pairs-pre = rw (← next) (pre_then b₀ sh q l₀ at (2 * x) (2 * k) a (2 * j) b l p.handed_out 2 (omega arith))

    pub pairs-more : (b' l' : List ℕ) → HandedOut b sh q l (at - 2 * j) (reverse (top_entries b q 2 (2 * (x - 1 - j) + 2))) b' l' → Pairs b' l' (j + 1)
    pairs-more b' l' g =
        let w = pairs-pre in
        let few : length (reverse (top_entries b q 2 (2 * (x - 1 - j) + 2))) ≤ at - 2 * j =
        omega (arith, length-reverse (top_entries b q 2 (2 * (x - 1 - j) + 2)), length-top_entries b q 2 (2 * (x - 1 - j) + 2), w.room) in
        let longs = handed_out-long b sh q l (at - 2 * j) (reverse (top_entries b q 2 (2 * (x - 1 - j) + 2))) b' l' few w.places g in
        let n : 2 * j + 2 ≡ 2 * (j + 1) = omega arith in
        record {
          within = omega arith;
          long = longs.0 ∙ p.long;
          list = longs.1 ∙ p.list;
          handed_out = rw (← n) (handed_out_then b₀ sh q l₀ at (2 * x) (2 * k) a (2 * j) b l p.handed_out 2 (omega arith) b' l' (rw next g));
        }

  pub pairs-done : (b l : List ℕ) (j : ℕ) → k ≤ j → Pairs b l j → HandedOut b₀ sh q l₀ at (reverse (top_entries b₀ q (2 * k) (2 * x))) b l
  pairs-done b l j h p =
      let e : j ≡ k = omega (arith, p.within) in
      rw e at p.handed_out

-- ---- half a word, whole words, and half a word
module _ (b : List ℕ) (sh : Shape) (q : ℕ) (l : List ℕ) (at t k : ℕ) (a : PopPre b sh q l at t k) (s : k ≡ 0 → ⊥) where
  abbrev pairs : ℕ
  pairs = (k - t % 2) / 2

  abbrev many : ℕ
  many = t % 2 + 2 * pairs

  few : many ≤ k
  few = omega arith

  whole : t - t % 2 ≡ 2 * (t / 2)
  whole = omega arith

  pub odd_pre : PopPre b sh q l at t (t % 2) × (t % 2 ≤ 1)
  odd_pre = (pre-fewer b sh q l at t k a (t % 2) (omega arith), omega arith)

  module _ (b₁ l₁ : List ℕ) (g : HandedOut b sh q l at (reverse (top_entries b q (t % 2) t)) b₁ l₁) where
    pub words-pre : PopPre b₁ sh q l₁ (at - t % 2) (2 * (t / 2)) (2 * pairs)
    words-pre = rw (← whole) (pre_then b sh q l at t k a (t % 2) b₁ l₁ g (2 * pairs) few)

    module _ (b₂ l₂ : List ℕ) (g' : HandedOut b₁ sh q l₁ (at - t % 2) (reverse (top_entries b₁ q (2 * pairs) (2 * (t / 2)))) b₂ l₂) where
      both : HandedOut b sh q l at (reverse (top_entries b q many t)) b₂ l₂
      both = handed_out_then b sh q l at t k a (t % 2) b₁ l₁ g (2 * pairs) few b₂ l₂ (rw whole g')

      all : many + (k - many) ≡ k
      all = rest many k few
        where
          rest : (m n : ℕ) → m ≤ n → m + (n - m) ≡ n
          rest m n h = omega arith

      one : k - many ≤ 1
      one = omega arith

      all_of : many + (k - many) ≤ k
      all_of = rw all (omega arith)

      pub rest-pre : PopPre b₂ sh q l₂ (at - many) (t - many) (k - many) × (k - many ≤ 1)
      rest-pre = (pre_then b sh q l at t k a many b₂ l₂ both (k - many) all_of, one)

      pub some-done : (b₃ l₃ : List ℕ) → HandedOut b₂ sh q l₂ (at - many) (reverse (top_entries b₂ q (k - many) (t - many))) b₃ l₃ → HandedOut b sh q l at (reverse (top_entries b q k t)) b₃ l₃
      some-done b₃ l₃ g'' = rw all at (handed_out_then b sh q l at t k a many b₂ l₂ both (k - many) all_of b₃ l₃ g'')

-- ---- whole words: none, or blocks that follow one another from the top or from the lowest entry on
module _ (b : List ℕ) (sh : Shape) (q : ℕ) (l : List ℕ) (at x k : ℕ) (a : PopPre b sh q l at (2 * x) (2 * k)) where
  pub pairs-empty : k ≡ 0 → HandedOut b sh q l at (reverse (top_entries b q (2 * k) (2 * x))) b l
  pairs-empty h = end_none b sh q l at (2 * x) (2 * k) a (omega arith)

  module _ (s : k ≡ 0 → ⊥) (t w : ℕ) (et : t ≡ get b (slot q (2 * x - 1))) (ew : w ≡ get b (slot q (2 * (x - k)))) where
    top_below : t < sh.capacity
    top_below = entry-below b sh q l at (2 * x) (2 * k) a 0 t (omega (arith, s)) et

    low_below : w < sh.capacity
    low_below =
        let e : 2 * (x - k) ≡ 2 * x - suc (2 * k - 1) = omega (arith, s) in
        entry-below b sh q l at (2 * x) (2 * k) a (2 * k - 1) w (omega (arith, s)) (ew ∙ ap (λ z. get b (slot q z)) e)

    pub ends-below : (t < 4096) × (w < 4096)
    ends-below = (omega (arith, top_below, a.sound.few), omega (arith, low_below, a.sound.few))

    taken : 2 * x - 2 * (x - k) ≡ 2 * k
    taken = omega (arith, a.enough)

    module _ (f : ℕ) (h : f + 2 * k ≤ sh.capacity) where
      stretch : StretchPre b q (x - k) x f
      stretch = record { there = a.there; begins = omega arith; slots = a.slots; blocks = rw taken (omega (arith, a.sound.few)) }

      fresh : FreshPre b sh q l at f (2 * k)
      fresh = record { sound = a.sound; below = a.below; there = a.there; blocks = h; room = a.room; places = a.places }

    pub rise_pre : w + 2 * k ≡ t + 1 → StretchPre b q (x - k) x w
    rise_pre e = stretch w (omega (arith, top_below))

    pub raise_pre : w + 2 * k ≡ t + 1 → FreshPre b sh q l at w (2 * k)
    raise_pre e = fresh w (omega (arith, top_below))

    pub fall_pre : t + 2 * k ≡ w + 1 → StretchPre b q (x - k) x t
    fall_pre e = stretch t (omega (arith, low_below))

    pub lower-pre : t + 2 * k ≡ w + 1 → FreshPre b sh q l at t (2 * k)
    lower-pre e = fresh t (omega (arith, low_below))

    module _ (r : Bool) (e : r ≡ true) (b' l' : List ℕ) where
      pub raised : (r ≡ true → top_entries b q (2 * x - 2 * (x - k)) (2 * x) ≡ descending w (2 * x - 2 * (x - k))) → HandedOut b sh q l at (reverse (descending w (2 * k))) b' l' → HandedOut b sh q l at (reverse (top_entries b q (2 * k) (2 * x))) b' l'
      raised h g = let z : top_entries b q (2 * k) (2 * x) ≡ descending w (2 * k) = rw taken at (h e) in rw z g

      pub lowered : (r ≡ true → reverse (top_entries b q (2 * x - 2 * (x - k)) (2 * x)) ≡ descending t (2 * x - 2 * (x - k))) → HandedOut b sh q l at (descending t (2 * k)) b' l' → HandedOut b sh q l at (reverse (top_entries b q (2 * k) (2 * x))) b' l'
      lowered h g = let z : reverse (top_entries b q (2 * k) (2 * x)) ≡ descending t (2 * k) = rw taken at (h e) in rw z g
