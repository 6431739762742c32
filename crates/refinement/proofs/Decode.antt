-- A word taken apart: where a block lies, and what the tests on the words say of it.
--     Sits               the word is a block of the run at q, and its out bit is set
--     count-words        words of blocks stand as often as their indices
--     out-sits, sits-out     the model's `is_out` says so of a represented page
--     in-sits, sits-in       and so does `out_in`
--     sits-at            then the word is out in the class, and its run is the page's
use Rattle.facts.proofs.Prelude.{ℕ, zero, suc, ◌+◌, ◌-◌, ◌*◌, ◌/◌, ◌≤◌, ◌<◌, arith, zero-add, mul-le-mul_right, mul-div_cancel, Bool}
use Rattle.facts.proofs.Prelude.{true, not, ◌&&◌, List, [], ◌∷◌, map, ◌≡◌, refl, sym, ap, ◌∙◌, eqb, ltb, leb, eq-eqb, ne_eqb, eqb-true}
use Rattle.facts.proofs.Prelude.{eqb-false, ltb-true, leb-true, le-leb, lt-ltb, not-true, elem, count, by_cases, and_left, and_right}
use native.Mathlib.Decide.{ℕ_discrete, dec_le}
use Rattle.words.specs.Word.{kind_of, granule_of}
use Rattle.classes.specs.declared.Shape.{Shape}
use Rattle.classes.specs.way.Sound.{Sound}
use Rattle.fields.specs.Field.{arena, page, out, first, frontier, get}
use Rattle.fields.specs.Ranges.{max_pages}
use Rattle.model.specs.Page.{Page, word_of, words_from, is_out, carved_words}
use Rattle.model.specs.Release.{of_kind}
use Rattle.model.proofs.Counts.{elem-count, count-elem, count-not}
use Rattle.model.proofs.Pages.{word-rises}
use Rattle.model.proofs.Apart.{which}
use Rattle.words.specs.Host.{digit}
use Rattle.pages.specs.Stack.{out_bit, blocks_from, index_of, page_at, is_block}
use Rattle.calls.specs.Out.{start_of, out_in, in_run_of, out_at}
use Rattle.refinement.specs.way.Represents.{PageRep}
use Rattle.refinement.proofs.Basics.{Setting, digit_cases}
use Rattle.pages.proofs.Runs.{whole_says}

pub both : (s t : Bool) → s ≡ true → t ≡ true → (s && t) ≡ true
both s t e f = rw (e, f)

-- ---- words of a run's blocks
module _ {sh : Shape} (ok : Sound sh) where
  pub word_inj : (q i j : ℕ) → word_of sh q i ≡ word_of sh q j → i ≡ j
  word_inj q i j e =
      elim (ℕ_discrete i j) [
        | yes z ↦ z
        | no z ↦ absurd (elim (dec_le i j) [
          | yes l ↦ (let y = word-rises sh ok q i j (omega (arith, z)) in omega arith)
          | no l ↦ (let y = word-rises sh ok q j i (omega arith) in omega arith)
        ])
      ]

  pub count-words : (q j : ℕ) (xs : List ℕ) → count (word_of sh q j) (map (word_of sh q) xs) ≡ count j xs
  count-words q j [] = refl
  count-words q j (x ∷ xs) =
      let ih = count-words q j xs in
      by_cases (eqb j x)
      (λ e. rw (e, eq-eqb (word_of sh q j) (word_of sh q x) (ap (word_of sh q) (eqb-true j x e))) (omega arith))
      (λ e. rw (e, ne_eqb (word_of sh q j) (word_of sh q x) (λ z. eqb-false j x e (word_inj q j x z))) (omega arith))

  pub words-elem : (q k i : ℕ) → i < k → elem (word_of sh q i) (words_from sh q 0 k) ≡ true
  words-elem q zero i h = absurd (omega arith)
  words-elem q (suc k) i h =
      by_cases (eqb (word_of sh q i) (word_of sh q (0 + k))) (λ e. rw e)
      (λ e. let d : (i ≡ k) → ⊥ = λ z. eqb-false (word_of sh q i) (word_of sh q (0 + k)) e (ap (word_of sh q) (z ∙ sym (zero-add k))) in
      rw (e, words-elem q k i (omega (arith, d))))

  -- block i of a run that lies in the longest arena
  module _ (q i : ℕ) (inside : i < sh.capacity) (low : q + sh.pages ≤ max_pages) where
    ends : sh.header + (i * sh.block + sh.block) ≤ 4096 * sh.pages
    ends = omega (arith, mul-le-mul_right sh.block inside, ok.fits)

    granule-is : granule_of (word_of sh q i) ≡ blocks_from sh q + i * sh.block
    unfolding word_of
    granule-is = omega (arith, ends, ok.wide)

    pub index_is : index_of sh q (word_of sh q i) ≡ i
    unfolding index_of
    index_is =
        ap (λ z. (z - blocks_from sh q) / sh.block) granule-is
        ∙ ap (λ z. z / sh.block) (sums (blocks_from sh q) (i * sh.block)) ∙ mul-div_cancel i ok.wide
      where
        sums : (a d : ℕ) → a + d - a ≡ d
        sums a d = omega arith

    low-page : q ≤ page_at (word_of sh q i)
    low-page = rw granule-is (omega arith)

    high-page : page_at (word_of sh q i) < q + sh.pages
    high-page = rw granule-is (omega (arith, ends, ok.wide))

  decoded : (q w : ℕ) → of_kind sh.kind w ≡ true → leb (blocks_from sh q) (granule_of w) ≡ true → eqb (index_of sh q w * sh.block) (granule_of w - blocks_from sh q) ≡ true
      → w ≡ word_of sh q (index_of sh q w)
  unfolding of_kind word_of
  decoded q w e f g =
      let a = eqb-true (kind_of w) sh.kind e in
      let b = leb-true (blocks_from sh q) (granule_of w) f in
      let c = eqb-true (index_of sh q w * sh.block) (granule_of w - blocks_from sh q) g in
      omega arith

-- ---- a block that is out
pub record Sits (b : List ℕ) (sh : Shape) (q w : ℕ) : Type 0 where
  pub index : ℕ
  pub inside : index < sh.capacity
  pub names : w ≡ word_of sh q index
  pub set : out_bit b sh q index ≡ 1

-- what `out_in` says, whatever stands in the book
module _ (b : List ℕ) {sh : Shape} (ok : Sound sh) (q w : ℕ) where
  pub in_sits : of_kind sh.kind w ≡ true → out_in b sh q w ≡ true → Sits b sh q w
  unfolding out_in is_block out_bit
  in_sits k e =
      let i = index_of sh q w in
      let t₁ = leb (blocks_from sh q) (granule_of w) in
      let t₂ = eqb (index_of sh q w * sh.block) (granule_of w - blocks_from sh q) in
      let t₃ = ltb (index_of sh q w) sh.capacity in
      let t₄ = eqb (get b (out q (index_of sh q w))) 1 in
      let e₁ = and_left (t₁ && (t₂ && t₃)) t₄ e in
      let e₂ = and_right t₁ (t₂ && t₃) e₁ in
      let u = and_right t₂ t₃ e₂ in
      record {
        index = index_of sh q w;
        inside = ltb-true (index_of sh q w) sh.capacity u;
        names = decoded ok q w k (and_left t₁ (t₂ && t₃) e₁) (and_left t₂ t₃ e₂);
        set = rw u (eqb-true (get b (out q (index_of sh q w))) 1 (and_right (t₁ && (t₂ && t₃)) t₄ e));
      }

  pub sits_in : q + sh.pages ≤ max_pages → Sits b sh q w → out_in b sh q w ≡ true
  unfolding out_in is_block out_bit
  sits_in low s =
      let i = s.index in
      let u = lt-ltb s.index sh.capacity s.inside in
      rw (
        s.names,
        index_is ok q s.index s.inside low,
        granule-is ok q s.index s.inside low,
        u,
        le-leb (blocks_from sh q) (blocks_from sh q + i * sh.block) (omega arith),
        eq-eqb (i * sh.block) (blocks_from sh q + i * sh.block - blocks_from sh q) (omega arith),
        eq-eqb (get b (out q i)) 1 (rw u at s.set),
      )

-- on a page of the class
module _ {n : ℕ} {b : List ℕ} {c : ℕ} {sh : Shape} (s : Setting n b c sh) (hn : n ≤ max_pages) {l : ℕ} {p : Page} (r : PageRep n sh b c l p) where
  pub page-low : p.first + sh.pages ≤ max_pages
  page-low = omega (arith, (whole_says n b sh c p.first r.holds.run).inside)

  pub free-count : (i : ℕ) → count (word_of sh p.first i) p.free ≡ count i r.stack
  free-count i = ap (count (word_of sh p.first i)) r.names ∙ count-words s.shape p.first i r.stack

  module _ (w : ℕ) where
    pub out_sits : is_out sh w p ≡ true → Sits b sh p.first w
    unfolding is_out carved_words
    out_sits e =
        let t = which sh p.first p.carved w (elem-count w (carved_words sh p) (and_left (elem w (carved_words sh p)) (not (elem w p.free)) e)) in
        let f = count-elem w p.free (not-true (elem w p.free) (and_right (elem w (carved_words sh p)) (not (elem w p.free)) e)) in
        let z : count t.0 r.stack ≡ 0 = sym (free-count t.0) ∙ ap (λ v. count v p.free) (sym t.2) ∙ f in
        let y : digit (ltb t.0 p.carved) ≡ 1 = ap digit (lt-ltb t.0 p.carved t.1) in
        record { index = t.0; inside = omega (arith, t.1, r.holds.within); names = t.2; set = omega (arith, r.holds.outs t.0) }

    module _ (t : Sits b sh p.first w) where
      pub sits_out : is_out sh w p ≡ true
      unfolding is_out carved_words
      sits_out =
          let i = t.index in
          digit_cases t.index p.carved
          (λ u e. both (elem w (carved_words sh p)) (not (elem w p.free))
          (ap (λ z. elem z (carved_words sh p)) t.names ∙ words-elem s.shape p.first p.carved i u)
          (ap not (count-not w p.free (ap (λ z. count z p.free) t.names ∙ free-count i ∙ none i u e t.set))))
          (λ u e. absurd (omega (arith, r.holds.outs t.index, t.set)))
        where
          none : (i : ℕ) → i < p.carved → digit (ltb i p.carved) ≡ 1 → out_bit b sh p.first i ≡ 1 → count i r.stack ≡ 0
          none i u e m = omega (arith, r.holds.outs i)

      pub sits_start : start_of b w ≡ p.first
      unfolding start_of
      sits_start =
          ap (λ v. get b (page first (page_at v))) t.names
          ∙ (whole_says n b sh c p.first r.holds.run).first (page_at (word_of sh p.first t.index))
          (low-page s.shape p.first t.index t.inside page-low) (high-page s.shape p.first t.index t.inside page-low)

      pub sits_at : out_at n b c sh w ≡ true
      unfolding out_at in_run_of
      sits_at =
          let x = page_at (word_of sh p.first t.index) in
          let lo = low-page s.shape p.first t.index t.inside page-low in
          let hi = high-page s.shape p.first t.index t.inside page-low in
          let w₀ = whole_says n b sh c p.first r.holds.run in
          let g : page_at w ≡ page_at (word_of sh p.first t.index) = ap page_at t.names in
          rw (
            sits_start,
            sits_in b s.shape p.first w page-low t,
            g,
            r.holds.run,
            lt-ltb x n (omega (arith, w₀.inside)),
            lt-ltb x (get b (arena frontier)) (omega (arith, w₀.below)),
            le-leb p.first x lo,
            lt-ltb x (p.first + sh.pages) hi,
          )
