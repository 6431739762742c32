-- The ways out of `mark_one`, and the loops of `mark_few` and `mark_by`.
use Rattle.facts.proofs.Prelude.{ℕ, suc, ◌+◌, ◌*◌, ◌/◌, ◌≤◌, ◌<◌, arith, le_refl, add-one, Bool, true, false, cond, ◌&&◌}
use Rattle.facts.proofs.Prelude.{and_assoc, List, ◌≡◌, refl, sym, ap, ◌∙◌, length, get_or, drop, drop-cons, and_right, drop_past}
use Rattle.std.specs.Prelude.{Some, None}
use native.Mathlib.Decide.{ℕ_discrete, dec_le}
use Rattle.std.proofs.Common.{w32, Fits}
use Rattle.classes.specs.declared.Shape.{Shape}
use Rattle.classes.specs.way.Sound.{Sound}
use Rattle.fields.specs.Field.{mark, words, Has}
use Rattle.model.specs.Release.{of_kind}
use Rattle.pages.specs.Stack.{index_of, is_block}
use Rattle.release.specs.way.Blocks.{block_in}
use Rattle.release.specs.way.Marks.{set_mark, fresh_at, marked_in, fresh_in, fresh_count, fresh_book, count_by, book_by}
use Rattle.release.specs.way.MarkPre.{MarkedBlock, MarkedOne, MarkedIn, MarkedTo, Reaches, Alone}
use Rattle.release.proofs.Bits.{below_capacity}
use Rattle.release.proofs.BlockSteps.{none_found, found_at}

-- ---- one word
module _ (b : List ℕ) (sh : Shape) (q w : ℕ) where
  pub fresh_in_lem : fresh_in b sh q w ≡ ((of_kind sh.kind w && is_block sh q w) && fresh_at b q (index_of sh q w))
  unfolding fresh_in
  fresh_in_lem = sym (and_assoc (of_kind sh.kind w) (is_block sh q w) _)

  pub no_block : None ≡ block_in sh q w → MarkedOne false b b sh q w
  no_block h =
      let z = none_found (of_kind sh.kind w && is_block sh q w) (index_of sh q w) h in
      let o : fresh_in b sh q w ≡ false = fresh_in_lem ∙ rw z in
      record { answer = sym o; left = rw o }

  module _ (i : ℕ) (h : Some i ≡ block_in sh q w) where
    pub block_here : ((of_kind sh.kind w && is_block sh q w) ≡ true) × (i ≡ index_of sh q w)
    block_here = found_at (of_kind sh.kind w && is_block sh q w) (index_of sh q w) i h

    index-low : Sound sh → i < 4096
    index-low s = omega (arith, below_capacity sh q w (and_right (of_kind sh.kind w) _ block_here.0), block_here.1, s.few)

    pub has-mark : Sound sh → words (q + 1) ≤ length b → Has b (mark q (i / 32))
    has-mark s l = omega (arith, index-low s)

    pub a_block : (r : Bool) (b' : List ℕ) → MarkedBlock r b' b q i → MarkedOne r b' b sh q w
    unfolding marked_in
    a_block r b' m =
        let z : fresh_in b sh q w ≡ fresh_at b q i = fresh_in_lem ∙ rw block_here.0 (ap (fresh_at b q) (sym block_here.1)) in
        record { answer = m.answer ∙ sym z; left = rw z (m.left ∙ ap (λ d. cond (fresh_at b q i) d b) (ap (set_mark b q) block_here.1)) }

-- ---- the loop
pub span_fits : (sh : Shape) → Sound sh → Fits w32 (sh.capacity * sh.block)
span_fits sh s = record { fits = omega (arith, s.fits, s.short) }

module _ (b : List ℕ) (sh : Shape) (q : ℕ) (ws : List ℕ) where
  pub stays : (i : ℕ) → i ≤ length ws → Reaches i b b sh q ws i
  stays i h = record { onward = le_refl i; within = h; answer = refl; left = refl }

  pub reaches-on : (from i r : ℕ) (b' b'' : List ℕ) → Reaches i b' b sh q ws from → Reaches r b'' b' sh q ws i → Reaches r b'' b sh q ws from
  reaches-on from i r b' b'' v o = record { onward = omega (arith, v.onward, o.onward); within = o.within; answer = o.answer ∙ v.answer; left = o.left ∙ v.left }

  -- a word that is not marked, and the list's end
  no_more : (i : ℕ) → i < length ws → fresh_in b sh q (get_or ws i 0) ≡ false → (fresh_count b sh q (drop i ws) ≡ 0) × (fresh_book b sh q (drop i ws) ≡ b)
  unfolding count_by book_by
  no_more i l o = rw (drop-cons ws i 0 l, o) (refl, refl)

  no_words : (i : ℕ) → length ws ≤ i → (fresh_count b sh q (drop i ws) ≡ 0) × (fresh_book b sh q (drop i ws) ≡ b)
  unfolding count_by book_by
  no_words i l = rw (drop_past ws i l) (refl, refl)

  ended : (from i : ℕ) (b₀ : List ℕ) → Reaches i b b₀ sh q ws from → (fresh_count b sh q (drop i ws) ≡ 0) × (fresh_book b sh q (drop i ws) ≡ b) → MarkedIn i b b₀ sh q ws from
  ended from i b₀ v z = record { answer = omega (arith, v.answer, z.0); left = sym z.1 ∙ v.left }

  no_block-here : (i : ℕ) → block_in sh q (get_or ws i 0) ≡ None → fresh_in b sh q (get_or ws i 0) ≡ false
  no_block-here i h =
      let w = get_or ws i 0 in
      fresh_in_lem b sh q w ∙ rw (none_found (of_kind sh.kind w && is_block sh q w) (index_of sh q w) (sym h))

-- ---- one by one, below place e
pub record FewInv (b : List ℕ) (sh : Shape) (q : ℕ) (ws : List ℕ) (from e : ℕ) (b' : List ℕ) (i : ℕ) : Type 0 where
  pub on : Reaches i b' b sh q ws from
  pub low : i ≤ e
  pub long : length b' ≡ length b

module _ (b : List ℕ) (sh : Shape) (q : ℕ) (ws : List ℕ) (from e : ℕ) (f : e ≤ length ws) where
  pub few-starts : from ≤ e → FewInv b sh q ws from e b from
  few-starts h = record { on = stays b sh q ws from (omega arith); low = h; long = refl }

  module _ (b' b'' : List ℕ) (i : ℕ) (r : Bool) (v : FewInv b sh q ws from e b' i) (l : i < e) (o : MarkedOne r b'' b' sh q (get_or ws i 0)) (k : length b'' ≡ length b') where
    pub few-goes_on : r ≡ true → FewInv b sh q ws from e b'' (i + 1)
    unfolding count_by book_by
    few-goes_on t =
        let z = sym o.answer ∙ t in
        let u = rw z at o.left in
        let h : i < length ws = omega arith in
        let c : fresh_count b' sh q (drop i ws) ≡ suc (fresh_count b'' sh q (drop (i + 1) ws)) = rw (add-one i, drop-cons ws i 0 h, z, u) in
        let d : fresh_book b'' sh q (drop (i + 1) ws) ≡ fresh_book b' sh q (drop i ws) = rw (add-one i, drop-cons ws i 0 h, z, u) in
        record {
          on = reaches-on b sh q ws from i (i + 1) b' b'' v.on (record { onward = omega arith; within = omega arith; answer = omega (arith, c); left = d });
          low = omega arith;
          long = k ∙ v.long;
        }

    pub few-stops : r ≡ false → MarkedTo i b'' b sh q ws from e
    few-stops t =
        let z = sym o.answer ∙ t in
        let u = rw z at o.left in
        rw u (record { on = v.on; low = v.low; stops = λ h. z })

  pub few-ends : (b' : List ℕ) (i : ℕ) → FewInv b sh q ws from e b' i → e ≤ i → MarkedTo i b' b sh q ws from e
  few-ends b' i v l = record { on = v.on; low = v.low; stops = λ h. absurd (omega arith) }

-- ---- a stretch, or a few
pub record MarkInv (b : List ℕ) (sh : Shape) (q : ℕ) (ws : List ℕ) (from : ℕ) (b' : List ℕ) (i : ℕ) : Type 0 where
  pub on : Reaches i b' b sh q ws from
  pub long : length b' ≡ length b

module _ (b : List ℕ) (sh : Shape) (q : ℕ) (ws : List ℕ) (from : ℕ) where
  pub mark-starts : from ≤ length ws → MarkInv b sh q ws from b from
  mark-starts h = record { on = stays b sh q ws from h; long = refl }

  pub mark-ends : (b' : List ℕ) (i : ℕ) → MarkInv b sh q ws from b' i → length ws ≤ i → MarkedIn i b' b sh q ws from
  mark-ends b' i v l = ended b' sh q ws from i b v.on (no_words b' sh q ws i l)

  module _ (b' b₁ : List ℕ) (i next : ℕ) (v : MarkInv b sh q ws from b' i) (o : Reaches next b₁ b' sh q ws i) where
    pub mark-goes_on : length b₁ ≡ length b' → MarkInv b sh q ws from b₁ next
    mark-goes_on k = record { on = reaches-on b sh q ws from i next b' b₁ v.on o; long = k ∙ v.long }

    module _ (d : next ≡ i) (b₂ : List ℕ) (stop e : ℕ) (m : MarkedTo stop b₂ b₁ sh q ws i e) where
      few_on : Reaches stop b₂ b sh q ws from
      few_on = reaches-on b sh q ws from i stop b₁ b₂ (rw d at (reaches-on b sh q ws from i next b' b₁ v.on o)) m.on

      pub few_stop : e ≤ length ws → (stop ≡ e → ⊥) → MarkedIn stop b₂ b sh q ws from
      few_stop f n =
          let l : stop < e = omega (arith, m.low, n) in
          ended b₂ sh q ws from stop b few_on (no_more b₂ sh q ws stop (omega arith) (m.stops l))

      pub few_on-to : stop ≡ e → length b₂ ≡ length b₁ → length b₁ ≡ length b' → MarkInv b sh q ws from b₂ e
      few_on-to z h k = record { on = rw z at few_on; long = h ∙ k ∙ v.long }

  pub none_left : from ≤ length ws → length ws ≤ from → MarkedIn from b b sh q ws from
  none_left h l = mark-ends b from (mark-starts h) l

  -- a word alone
  pub alone-ends : (r : ℕ) (b' : List ℕ) (t : Bool) → from < length ws → Alone t sh q ws from → t ≡ true → MarkedTo r b' b sh q ws from (from + 1) → MarkedIn r b' b sh q ws from
  alone-ends r b' t l a z m =
      elim (ℕ_discrete r (from + 1)) [
        | yes e ↦
            elim (dec_le (length ws) (from + 1)) [
              | yes h ↦ ended b' sh q ws from r b m.on (no_words b' sh q ws r (omega arith))
              | no h ↦
                  let g : from + 1 < length ws = omega (arith, h) in
                  ended b' sh q ws from r b m.on (no_more b' sh q ws r (omega arith) (rw e (no_block-here b' sh q ws (from + 1) (a.told z g))))
            ]
        | no n ↦
            let h : r < from + 1 = omega (arith, m.low, n) in
            ended b' sh q ws from r b m.on (no_more b' sh q ws r (omega arith) (m.stops h))
      ]
