-- Blocks given, and more; free ones and new ones together.
use Rattle.facts.proofs.Prelude.{ℕ, ◌+◌, ◌-◌, ◌≤◌, min, arith, List, [], ◌∷◌, ◌++◌, map, map-append, reverse, ◌≡◌}
use Rattle.facts.proofs.Prelude.{refl, sym, ap, ◌∙◌, ltb, length, set, length-map, length-append, length-reverse}
use Rattle.classes.specs.declared.Shape.{Shape}
use Rattle.fields.specs.Field.{page, out, free, carved, get, put}
use Rattle.model.specs.Page.{word_of}
use Rattle.pages.specs.Stack.{top_entries, descending, set_outs, carved_now, latest, draw, spliced, HandedOut, Drawn}
use Rattle.pages.specs.way.Pre.{GivePre, BothPre, DrawPre}
use Rattle.pages.proofs.Descending.{length-descending, every-below}
use Rattle.pages.proofs.TopEntries.{length-top_entries, top_entries-cut, top_entries-fewer}
use Rattle.pages.proofs.SetOuts.{length-set_outs, set_outs-append}
use Rattle.pages.proofs.Spliced.{length-spliced, spliced-none, spliced-one, spliced-twice}

-- ---- what was given, and more
module _ (b : List ℕ) (sh : Shape) (q : ℕ) (l : List ℕ) (at : ℕ) where
  pub handed_out-none : HandedOut b sh q l at [] b l
  handed_out-none = record { outs = refl; list = sym (spliced-none l (at - 0)) }

  pub handed_out-one : (i w : ℕ) (b' l' : List ℕ) → GivePre b sh q l at i → w ≡ word_of sh q i → l' ≡ set l (at - 1) w → b' ≡ put b (out q i) 1 → HandedOut b sh q l at (i ∷ []) b' l'
  handed_out-one i w b' l' h e e₁ e₂ =
      record { outs = e₂; list = e₁ ∙ ap (set l (at - 1)) e ∙ sym (spliced-one l (at - 1) (word_of sh q i) (omega (arith, h.room, h.places))) }

  pub handed_out-more : (xs ys b₁ l₁ b₂ l₂ : List ℕ) → length ys + length xs ≤ at → at ≤ length l
      → HandedOut b sh q l at xs b₁ l₁ → HandedOut b₁ sh q l₁ (at - length xs) ys b₂ l₂ → HandedOut b sh q l at (ys ++ xs) b₂ l₂
  handed_out-more xs ys b₁ l₁ b₂ l₂ h k g₁ g₂ =
      let w = word_of sh q in
      let place : at - length xs - length ys + length (map w ys) ≡ at - length xs = omega (arith, length-map ys w) in
      let long : at - length xs + length (map w xs) ≤ length l = omega (arith, length-map xs w) in
      let from : at - length xs - length ys ≡ at - length (ys ++ xs) = omega (arith, length-append ys xs) in
      record {
        outs = g₂.outs ∙ ap (λ z. set_outs z q 1 ys) g₁.outs ∙ set_outs-append b q 1 ys xs;
        list =
            g₂.list
            ∙ ap (λ z. spliced z (at - length xs - length ys) (map w ys)) g₁.list
            ∙ spliced-twice l (at - length xs) (at - length xs - length ys) (map w ys) (map w xs) place long
            ∙ ap (spliced l (at - length xs - length ys)) (sym (map-append w ys xs))
            ∙ ap (λ z. spliced l z (map w (ys ++ xs))) from;
      }

  pub handed_out-long : (xs b' l' : List ℕ) → length xs ≤ at → at ≤ length l → HandedOut b sh q l at xs b' l' → (length b' ≡ length b) × (length l' ≡ length l)
  handed_out-long xs b' l' h k g = (
    ap length g.outs ∙ length-set_outs b q 1 xs,
    ap length g.list ∙ length-spliced l (at - length xs) (map (word_of sh q) xs) (omega (arith, length-map xs (word_of sh q))),
  )

-- ---- both
module _ (b : List ℕ) (sh : Shape) (q : ℕ) (l : List ℕ) (at t p a r : ℕ) where
  length-popped : p ≤ t → length (reverse (top_entries b q p t)) ≡ p
  length-popped h = omega (arith, length-reverse (top_entries b q p t), length-top_entries b q p t)

  pub both-done : (b₁ l₁ b₂ l₂ : List ℕ) → BothPre b sh q l at t p a r → HandedOut b sh q l at (reverse (top_entries b q p t)) b₁ l₁ → HandedOut b₁ sh q l₁ (at - p) (descending a r) b₂ l₂
      → HandedOut b sh q l at (descending a r ++ reverse (top_entries b q p t)) b₂ l₂
  both-done b₁ l₁ b₂ l₂ h g₁ g₂ =
      let e = length-popped h.enough in
      handed_out-more b sh q l at (reverse (top_entries b q p t)) (descending a r) b₁ l₁ b₂ l₂ (omega (arith, length-descending a r, h.room)) h.places g₁ (rw e g₂)

-- ---- as many as are wanted
wanted : (m f p : ℕ) → p ≡ min m f → m - p ≡ m - f
wanted m f p e = omega arith

left_over : (m f p : ℕ) → p ≡ min m f → f - p ≡ f - m
left_over m f p e = omega arith

module _ (b : List ℕ) (sh : Shape) (q : ℕ) (l : List ℕ) (at m f k p r : ℕ) (ef : f ≡ get b (page free q)) (ek : k ≡ get b (page carved q)) (ep : p ≡ min m f) (er : r ≡ min (m - p) (sh.capacity - k)) where
  now-is : r ≡ min (m - f) (sh.capacity - k)
  now-is = er ∙ ap (λ z. min z (sh.capacity - k)) (wanted m f p ep)

  latest-is : latest b sh q m ≡ descending k r ++ reverse (top_entries b q p f)
  unfolding latest
  latest-is = rw (← ef, ← ek) (ap (λ z. descending k z ++ reverse (top_entries b q m f)) (sym now-is) ∙ ap (λ z. descending k r ++ reverse z) (sym (top_entries-cut b q p m f ep)))

  latest-length : length (latest b sh q m) ≡ p + r
  latest-length = ap length latest-is ∙ omega (arith, length-append (descending k r) (reverse (top_entries b q p f)), length-descending k r, length-reverse (top_entries b q p f), length-top_entries b q p f)

  pub draw-pre : DrawPre b sh q l at m → BothPre b sh q l at f p k r
  draw-pre h =
      record {
        sound = h.sound;
        below = h.below;
        there = h.there;
        slots = omega (arith, h.free, h.carved, h.sound.few);
        enough = omega arith;
        entries = every-below k sh.capacity (omega (arith, h.carved)) (top_entries b q p f) (top_entries-fewer b q (λ i. ltb i k) p m f (omega arith) (rw (ef, ek) h.entries));
        blocks = omega (arith, h.carved);
        room = omega (arith, h.room, latest-length);
        places = h.places;
      }

  pub draw-done : (b₁ l₁ b₂ b₃ : List ℕ) → DrawPre b sh q l at m → HandedOut b sh q l at (descending k r ++ reverse (top_entries b q p f)) b₁ l₁ → b₂ ≡ put b₁ (page free q) (f - p) → b₃ ≡ put b₂ (page carved q) (k + r)
      → Drawn (p + r) b₃ l₁ b sh q l at m
  unfolding draw
  draw-done b₁ l₁ b₂ b₃ h g e₂ e₃ =
      let xs = latest b sh q m in
      let outs : b₁ ≡ set_outs b q 1 xs = g.outs ∙ ap (set_outs b q 1) (sym latest-is) in
      let left : f - p ≡ get b (page free q) - m = left_over m f p ep ∙ ap (λ z. z - m) ef in
      let more : k + r ≡ get b (page carved q) + carved_now b sh q m = rw (← ef, ← ek) (ap (λ z. k + z) now-is) in
      record {
        count = sym latest-length;
        book = e₃ ∙ ap (λ z. put z (page carved q) (k + r)) (e₂ ∙ ap (λ z. put z (page free q) (f - p)) outs ∙ ap (put (set_outs b q 1 xs) (page free q)) left) ∙ ap (put (put (set_outs b q 1 xs) (page free q) (get b (page free q) - m)) (page carved q)) more;
        list = g.list ∙ ap (λ z. spliced l (at - length z) (map (word_of sh q) z)) (sym latest-is);
      }
