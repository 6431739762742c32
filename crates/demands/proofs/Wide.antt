-- Document 02, A.11, holds of the exported calls.
use Rattle.facts.proofs.Prelude.{ℕ, ◌+◌, ◌*◌, ◌/◌, ◌%◌, ◌^◌, ◌≤◌, ◌<◌, arith, mod-lt, mul-le-mul_right, Bool, true, false, ◌&&◌, false≢true, List, [], ◌∷◌, map}
use Rattle.facts.proofs.Prelude.{some, ◌≡◌, refl, ap, ◌∙◌, eqb, ltb, le-leb, lt-leb, eq-eqb, ne_eqb, eqb-true, every, elem, distinct, by_cases, and_no}
use lib.Pow.{pow_pos}
use Rattle.words.specs.Host.{host_max}
use Rattle.words.specs.Word.{kind_bits, granule_of, count_of, page_of}
use Rattle.words.proofs.RoundTrip.{kind-block, granule-block, block-lt, count-chunk, page-chunk}
use Rattle.classes.specs.Sizes.{granule_bytes, page_bytes}
use Rattle.classes.specs.Shape.{shape_of, class_count}
use Rattle.classes.proofs.Shapes.{shape-sound}
use Rattle.fields.specs.Ranges.{max_pages}
use Rattle.model.specs.Calls as Calls
use Rattle.model.specs.Calls.{Call, names}
use Rattle.model.specs.Entries.{OutIn, AllOut}
use Rattle.model.specs.Page.{page_granules, word_of}
use Rattle.model.specs.Release.{of_kind}
use Rattle.pages.specs.Stack.{page_at}
use Rattle.trace.specs.Trace as Trace
use Rattle.trace.specs.Trace.{say, say_of}
use Rattle.vigbuso.specs.Direct.{open_fault, open_on}
use Rattle.demands.specs.Call.{call}
use Rattle.demands.specs.Start.{Start, pages, Starts, book_after, observed}
use Rattle.demands.specs.Returns.{Twice, count_fits, groups_fit, Plain}
use Rattle.demands.specs.Wide.{Parts, Wide}
use Rattle.demands.proofs.Calls as Opening
use Rattle.demands.proofs.ChunkReturns.{filter_none}
use Rattle.demands.proofs.Theorems.{demand_2}

parts : Parts
parts = record {
  kind = λ k g h. kind-block k h;
  granule = λ k g h. granule-block k h;
  count = λ m p h l. count-chunk h l;
  page = λ m p h l. page-chunk h l;
}

-- ---- the longest arena
longer : (n : ℕ) (rows b : List ℕ) → 1048576 < n → (open_on b n rows).code ≡ 1
unfolding open_on open_fault
longer n rows b h = rw (le-leb 1 n (omega arith), lt-leb n max_pages h)

-- ---- a block's word
module _ (c q i : ℕ) (low : q + (shape_of c).pages ≤ 1048576) (inside : i < (shape_of c).capacity) where
  granule-low : q * page_granules + ((shape_of c).header + i * (shape_of c).block) < 2 ^ kind_bits
  granule-low = let ok = shape-sound c in omega (arith, mul-le-mul_right (shape_of c).block inside, ok.fits, ok.wide)

  word_fits : word_of (shape_of c) q i < 2 ^ 64
  unfolding word_of
  word_fits = block-lt (shape_of c).kind granule-low (let ok = shape-sound c in omega (arith, ok.known))

  word_byte : granule_of (word_of (shape_of c) q i) * granule_bytes ≡ q * page_bytes + ((shape_of c).header + i * (shape_of c).block) * granule_bytes
  unfolding word_of
  word_byte = ap (λ (g : ℕ). g * granule_bytes) (granule-block (shape_of c).kind granule-low) ∙ omega arith

-- ---- beyond the arena
every-fails : (t : ℕ → Bool) (x : ℕ) (xs : List ℕ) → elem x xs ≡ true → t x ≡ false → every t xs ≡ false
every-fails t x [] m e = absurd (false≢true m)
every-fails t x (y ∷ ys) m e =
    by_cases (eqb x y)
    (λ d. rw (← (eqb-true x y d), e))
    (λ d. rw (every-fails t x ys (rw d at m) e) (and_no (t y)))

module _ (s : Start) (o : Starts s) (xs : List Call) where
  out-low : (c w : ℕ) → OutIn (observed s xs) c w → granule_of w < pages s * page_granules
  out-low c w p =
      let e = p.entry in
      let ok = shape-sound e.class in
      let g : granule_of e.word ≡ granule_of w = ap granule_of p.word in
      omega (arith, (demand_2 s o xs).apart.in_arena p.entry p.live, g, ok.wide)

  not_there_lem : (c w : ℕ) → pages s * page_granules ≤ granule_of w → OutIn (observed s xs) c w → ⊥
  not_there_lem c w h p = omega (arith, out-low c w p)

  -- a list of one word repeats nothing
  once : (c w : ℕ) → Twice (observed s xs) c (w ∷ []) → ⊥
  once c w t = by_cases (eqb t.word w) (λ e. omega (arith, rw e at t.times)) (λ e. omega (arith, rw e at t.times))

  beyond : (c : ℕ) (x : Call) (h w : ℕ) → h ≤ host_max → names x ≡ some (record { class = c; request = Calls.give_back h (w ∷ []) })
      → of_kind (shape_of c).kind w ≡ true → pages s * page_granules ≤ granule_of w → (call (book_after s xs) x).answer ≡ Calls.refused 10
  beyond c x h w l e k g =
      (demand_2 s o xs).not_out c x h (w ∷ []) l e refl (rw k) (once c w) (λ a. not_there_lem c w g (a.out w (rw (eq-eqb w w refl))))

  -- no listed block is on the group's page, so that its count is 0 or not the list's
  module _ (c : ℕ) (ws : List ℕ) (a : AllOut (observed s xs) c ws) (g : ℕ) (h : pages s ≤ page_of g) where
    elsewhere : (w : ℕ) → elem w ws ≡ true → eqb (page_at w) (page_of g) ≡ false
    elsewhere w m = ne_eqb (page_at w) (page_of g) (λ z. omega (arith, out-low c w (a.out w m)))

    count-differs : count_fits ws g ≡ false
    count-differs = rw (filter_none (λ w. eqb (page_at w) (page_of g)) ws elsewhere) (by_cases (eqb (count_of g) 0) (λ e. rw e) (λ e. rw e))

    not-grouped : (gs : List ℕ) → elem g gs ≡ true → groups_fit ws gs ≡ false
    not-grouped gs m = rw (every-fails (count_fits ws) g gs m count-differs) (and_no (distinct (map page_of gs)))

  beyond-chunk : (c h : ℕ) (ws gs fs : List ℕ) → c < 64 → Plain c h ws gs fs → AllOut (observed s xs) c ws
      → (g : ℕ) → elem g gs ≡ true → pages s ≤ page_of g → (call (book_after s xs) (Calls.release_bin_chunks c h ws gs fs)).answer ≡ Calls.refused 11
  beyond-chunk c h ws gs fs l p a g m k = (demand_2 s o xs).not_grouped c h ws gs fs l p a (not-grouped c ws a g k gs m)

-- ---- a trace's own words
place_is : (k m p : ℕ) → say k m ≡ Trace.back p → p ≡ m
place_is k m p h =
    by_cases (eqb k 0)
    (λ e. by_cases (ltb m class_count) (λ f. never (rw (e, f) at h)) (λ f. unsaid (rw (e, f) at h)))
    (λ e. by_cases (eqb k 1) (λ f. same (rw (e, f) at h)) (λ f. by_cases (eqb k 2 && eqb m 0) (λ z. unreported (rw (e, f, z) at h)) (λ z. unsaid (rw (e, f, z) at h))))
  where
    never : Trace.take m ≡ Trace.back p → p ≡ m
    never z = let y : ◌≡◌ {A = ℕ} 0 1 = cc in absurd (omega arith)

    unsaid : Trace.wrong ≡ Trace.back p → p ≡ m
    unsaid z = let y : ◌≡◌ {A = ℕ} 0 1 = cc in absurd (omega arith)

    unreported : Trace.report ≡ Trace.back p → p ≡ m
    unreported z = let y : ◌≡◌ {A = ℕ} 0 1 = cc in absurd (omega arith)

    same : Trace.back m ≡ Trace.back p → p ≡ m
    same z = cc

unnamed : (w p : ℕ) → say_of w ≡ Trace.back p → p < 2 ^ 30
unfolding say_of
unnamed w p h = omega (arith, place_is (w / 2 ^ 30) (w % 2 ^ 30) p h, mod-lt w (pow_pos 30))

pub wide : Wide
wide = record {
  parts = parts;
  longest = λ rows b r l. Opening.opens 1048576 rows b (record { some-pages = omega arith; few-pages = omega arith; long = l; ruled = r });
  longer = longer;
  fits = word_fits;
  byte = word_byte;
  not_there = not_there_lem;
  beyond = beyond;
  beyond_chunk = beyond-chunk;
  unnamed = unnamed;
}
