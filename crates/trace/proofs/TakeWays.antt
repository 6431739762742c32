-- The ways out of a trace's take.
use Rattle.facts.proofs.Prelude.{ℕ, ◌+◌, ◌-◌, ◌*◌, ◌^◌, ◌≤◌, ◌<◌, arith, mul-le-mul, le_refl, Bool, true, false, cond, not, List, ap, ◌++◌, append_assoc, append-nil}
use Rattle.facts.proofs.Prelude.{◌≡◌, refl, sym, ◌∙◌, eqb, ltb, length, drop, length-drop, take-append-drop, paste, paste-zero, take-paste, drop-paste, length-paste}
use Rattle.facts.proofs.Prelude.{length-take-le, take-length, drop-length, drop-drop, take-append_seam, ne_eqb, lt-ltb, le-ltb, ltb-true, ltb-false, by_cases}
use lib.ListN as ListN
use Rattle.classes.specs.Shape.{shape_of}
use Rattle.classes.proofs.Shapes.{shape-sound}
use Rattle.calls.specs.Take as Heap
use Rattle.calls.specs.Take.{take_blocks, take_call}
use Rattle.std.specs.Prelude.{Result, Ok, Err}
use Rattle.words.specs.declared.refusal.Refusal.{Refusal}
use Rattle.words.specs.Refusal.{number_of}
use Rattle.take.specs.declared.call.Taken.{Taken}
use Rattle.take.specs.Answer.{told_take}
use Rattle.take.specs.way.TakeAnswer.{Takes, within, take_list}
use Rattle.take.proofs.TakeSpares.{Fixed, blocks-fixed}
use Rattle.take.proofs.AnswerSteps.{told-refused, told-code, told-count}
use Rattle.trace.specs.declared.tally.Tally.{Tally}
use Rattle.std.proofs.Common.{Some, None}
use Rattle.trace.specs.Trace as Trace
use Rattle.trace.specs.Trace.{max, blank}
use Rattle.trace.specs.Words.{take_now, size_of, bytes_max}
use Rattle.trace.specs.way.Pre.{TakesAt, fitted}
use Rattle.trace.specs.way.Tally.{MorePre}
use Rattle.trace.specs.way.Steps.{CarriedBlocks}
use Rattle.trace.proofs.Refused.{take_spares}
use Rattle.trace.proofs.StepWays.{or_true}

size_low : (c : ℕ) → size_of c ≤ 524288
size_low c =
    let s = shape-sound c in
    let one : 1 * (shape_of c).block ≤ (shape_of c).capacity * (shape_of c).block = mul-le-mul s.blocks (le_refl (shape_of c).block) in
    omega (arith, one, s.fits, s.short)

module _ (n : ℕ) (b bl : List ℕ) (t : Tally) (c : ℕ) (a : t.at ≤ length bl) where
  handed : length (ListN.take t.at bl) ≡ t.at
  handed = length-take-le t.at bl a

  pub take-many : bytes_max < t.bytes → CarriedBlocks None n (Trace.take c) b bl t b bl
  take-many z fl = record { reason = rw (lt-ltb bytes_max t.bytes z) (or_true (not (eqb (take_now n b c).code 0))); same = refl }

  module _ (few_bytes : t.bytes ≤ bytes_max) (b' bl' : List ℕ) (o : Result Taken Refusal) (x : TakesAt o b' bl' (fitted (take_now n b c) b bl t.at) bl t.at) where
    pub take-refused : (k : Refusal) → o ≡ Err k → CarriedBlocks None n (Trace.take c) b bl t b' bl'
    unfolding fitted
    take-refused k e fl =
        let y = take_now n b c in
        by_cases (ltb (length bl) (t.at + (take_now n b c).count))
        (λ u.
        let w = rw u at x in
        let same : bl' ≡ bl = w.blocks ∙ sym (paste-zero bl t.at y.list) in
        record { reason = rw (handed, u, le-ltb bytes_max t.bytes few_bytes) (or_true (not (eqb y.code 0))); same = rw (same, w.book) })
        (λ u.
        let w = rw u at x in
        let z : y.code ≡ 0 → ⊥ = told-refused y.code y.count y.virgin (number_of k) (sym w.answer ∙ ap told_take e) in
        let same : bl' ≡ bl = w.blocks ∙ (rw ((take_spares n b c).none z) (sym (paste-zero bl t.at y.list))) in
        record { reason = rw (ne_eqb y.code 0 z); same = rw (same, w.book, (take_spares n b c).book z) })

    module _ (k : Taken) (e : o ≡ Ok k) (size : ℕ) (s : size ≡ size_of c) where
      fits : ltb (length bl) (t.at + (take_now n b c).count) ≡ false
      unfolding fitted
      fits =
          by_cases (ltb (length bl) (t.at + (take_now n b c).count))
          (λ u. let w = rw u at x in absurd (let z : ◌≡◌ {A = ℕ} 5 0 = told-code 5 0 false k.count k.virgin (sym w.answer ∙ ap told_take e) in omega arith))
          (λ u. u)

      taken : TakesAt o b' bl' (take_now n b c) bl t.at
      unfolding fitted
      taken = rw fits at x

      abbrev m : ℕ
      m = k.count

      counted : m ≡ (take_now n b c).count
      counted = let y = take_now n b c in told-count y.code y.count y.virgin m k.virgin (sym taken.answer ∙ ap told_take e)

      room : t.at + m ≤ length bl
      room = omega (arith, counted, ltb-false (length bl) (t.at + (take_now n b c).count) fits)

      listed : m ≤ length (take_now n b c).list
      listed = rw counted (take_spares n b c).within

      pub take_more : t.out ≤ t.at → length bl < 2 ^ 64 → MorePre t k.count size
      take_more out long =
          let low : size ≤ 524288 = omega (arith, s, size_low c) in
          let few-blocks : m ≤ 64 = omega (arith, counted, taken.few) in
          let p : m * size ≤ 64 * 524288 = mul-le-mul few-blocks low in
          record { at = omega (arith, room); out = omega (arith, room); bytes = omega (arith, p, few_bytes) }

      pub take-went : (t' : Tally) → t' ≡ record { at = t.at + k.count; written = t.written; out = t.out + k.count; bytes = t.bytes + k.count * size; highest = max t.highest (t.bytes + k.count * size) }
          → CarriedBlocks (Some t') n (Trace.take c) b bl t b' bl'
      take-went t' u fl =
          let y = take_now n b c in
          let z : y.code ≡ 0 = told-code y.code y.count y.virgin m k.virgin (sym taken.answer ∙ ap told_take e) in
          rw (u, taken.blocks, ← counted) (record {
            free = rw (handed, z, le-ltb bytes_max t.bytes few_bytes, ← counted, le-ltb (length bl) (t.at + m) room);
            goes = rw (take-paste bl t.at y.list m a listed, s, ← counted, ← taken.book);
            blocks = drop-paste bl t.at y.list m a listed;
            figures = refl;
            further = (omega arith, omega arith);
            handed = λ l. rw (length-paste bl t.at y.list m room listed) room;
            fewer = λ o. omega arith;
            written = λ o. o;
          })

-- ---- the take itself, into the list's places from i on
ltb_shift : (m i k : ℕ) → i ≤ k → ltb (k - i) m ≡ ltb k (i + m)
ltb_shift m i k h =
    by_cases (ltb (k - i) m) (λ e. e ∙ sym (lt-ltb k (i + m) (omega (arith, ltb-true (k - i) m e)))) (λ e. e ∙ sym (le-ltb k (i + m) (omega (arith, ltb-false (k - i) m e))))

module _ (bl : List ℕ) (i : ℕ) where
  -- the list's part from place i on is all that is lent
  lent-part : ListN.take (length bl - i) (drop i bl) ≡ drop i bl
  lent-part = rw (← (length-drop i bl)) (take-length (drop i bl))

  back-part : (l : List ℕ) → ListN.take i bl ++ (l ++ drop (length bl - i) (drop i bl)) ≡ ListN.take i bl ++ l
  back-part l = rw (← (length-drop i bl), drop-length (drop i bl), append-nil l)

  pub back-same : (l : List ℕ) → ListN.take i bl ++ drop i bl ≡ paste bl i l 0
  back-same l = take-append-drop i bl ∙ paste-zero bl i l

  pub back_pasted : (w r : List ℕ) → ListN.take i bl ++ (w ++ drop (length w) (drop i bl)) ≡ paste bl i (w ++ r) (length w)
  back_pasted w r = rw (drop-drop (length w) i bl, take-append_seam w r) (sym (append_assoc (ListN.take i bl) w (drop (i + length w) bl)))

module _ (n : ℕ) (b : List ℕ) (c : ℕ) where
  abbrev fixed : Fixed b (shape_of c).batch (take_blocks n b c (shape_of c) 15)
  fixed = blocks-fixed n b c (shape_of c) 15

  abbrev given : List ℕ
  given = fixed.filled.blocks

  abbrev onto : List ℕ → Heap.Took
  onto l = record { code = fixed.code; book = fixed.filled.book; count = length given; list = given ++ drop (length given) l; virgin = fixed.filled.virgin }

  now-is : take_now n b c ≡ onto blank
  unfolding take_now take_call
  now-is = rw (le-ltb (length blank) (shape_of c).batch (shape-sound c).limited) (fixed.is blank)

  module _ (bl : List ℕ) (i : ℕ) (a : i ≤ length bl) where
    part-is : within (length (drop i bl)) b (take_blocks n b c (shape_of c) 15) (drop i bl) ≡ cond (ltb (length bl) (i + length given)) (Heap.took_none b (drop i bl) 5) (onto (drop i bl))
    unfolding within
    part-is = rw (fixed.is (drop i bl), length-drop i bl, ltb_shift (length given) i (length bl) a)

    fitted-is : fitted (take_now n b c) b bl i ≡ cond (ltb (length bl) (i + length given)) (Heap.took_none b (onto blank).list 5) (onto blank)
    unfolding fitted
    fitted-is = rw now-is

    pub now-takes : (h : ℕ) (o : Result Taken Refusal) (b' l' : List ℕ) → h ≡ 15 → Takes (told_take o) b' l' (take_list false n b c (shape_of c) h (ListN.take (length bl - i) (drop i bl)))
        → TakesAt o b' (ListN.take i bl ++ (l' ++ drop (length bl - i) (drop i bl))) (fitted (take_now n b c) b bl i) bl i
    now-takes h o b' l' g y =
        let x : Takes (told_take o) b' l' (within (length (drop i bl)) b (take_blocks n b c (shape_of c) 15) (drop i bl)) = rw (g, lent-part bl i) at y in
        let z = rw part-is at x in
        rw (back-part bl i l', fitted-is) (go (ltb (length bl) (i + length given)) z)
      where
        go : (t : Bool) → Takes (told_take o) b' l' (cond t (Heap.took_none b (drop i bl) 5) (onto (drop i bl))) → TakesAt o b' (ListN.take i bl ++ l') (cond t (Heap.took_none b (onto blank).list 5) (onto blank)) bl i
        go true z = record { answer = z.answer; book = z.book; few = omega arith; blocks = rw z.list (back-same bl i (onto blank).list) }
        go false z = record { answer = z.answer; book = z.book; few = omega (arith, fixed.most, (shape-sound c).limited); blocks = rw z.list (back_pasted bl i given (drop (length given) blank)) }
