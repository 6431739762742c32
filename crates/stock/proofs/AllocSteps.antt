-- The ways out of an alloc.
use Rattle.facts.proofs.Prelude.{ℕ, zero, suc, ◌-◌, ◌<◌, ◌≤◌, arith, Bool, true, false, not, List, [], ◌∷◌, ◌≡◌, refl, sym, ap, ◌∙◌, length, get_or, get_or-take, length-take-le, take-take, eq-eqb, ne_eqb, not-true, not-false}
use lib.ListN as ListN
use Rattle.std.specs.List.{IsLastAndRest}
use Rattle.std.proofs.lemmas.List.{take_at, get_or_push}
use Rattle.words.specs.Word.{block_word}
use Rattle.classes.specs.Shape.{shape_of, pool_id}
use Rattle.classes.proofs.Shapes.{shape-sound}
use Rattle.calls.specs.Take.{take_call}
use Rattle.take.specs.way.TakePlan as Plan
use Rattle.take.proofs.TakeSteps.{whole-pre}
use Rattle.std.specs.Prelude.{Result, Ok, Err}
use Rattle.words.specs.declared.refusal.Refusal.{Refusal}
use Rattle.words.specs.declared.refusal.Refusal.TheVariants.{BookWord}
use Rattle.words.specs.Refusal.{number_of}
use Rattle.take.specs.declared.call.Taken.{Taken}
use Rattle.take.specs.Answer.{told_take}
use Rattle.take.specs.way.TakeAnswer.{Takes}
use Rattle.take.proofs.AnswerSteps.{told-refused, told-code, told-count, told-number}
use Rattle.take.proofs.TakeSpares.{call_spares}
use Rattle.take.proofs.InArena.{take-in_arena}
use Rattle.pool.specs.Stock.{blank}
use Rattle.poolcalls.specs.Stock.{count_in, entry_in, put_count, put_all}
use Rattle.poolcalls.specs.Calls.{top_valid, bring_on, took_on, alloc_on}
use Rattle.stock.specs.way.Pre.{ListPre, PoolPre}
use Rattle.stock.specs.way.Ends.{Brings, Granted}

-- ---- of a list's blocks the last is granted
pub bring-none : (b : List ℕ) (c : ℕ) (l : List ℕ) → length l ≡ 0 → Brings 0 b (bring_on b c (length l) l)
unfolding bring_on
bring-none b c l z = rw (eq-eqb (length l) 0 z) (record { code = refl; block = λ old. refl; book = refl })

module _ (l : List ℕ) (last : ℕ) (others : List ℕ) (s : IsLastAndRest l last others) where
  fewer : length l - 1 ≡ length others
  fewer = omega (arith, s.1)

  others-are : ListN.take (length l - 1) l ≡ others
  others-are = rw (fewer, s.0) (take_at others (last ∷ []) (length others) refl)

  last-is : get_or l (length l - 1) 0 ≡ last
  last-is = rw (fewer, s.0) (get_or_push others last 0 (length others) refl)

  pub others-pre : (n : ℕ) → ListPre n l → ListPre n others
  others-pre n a = record {
    few = omega (arith, a.few, s.1);
    low = λ i h. let k : i < length l - 1 = omega (arith, s.1) in let e : get_or others i 0 ≡ get_or l i 0 = rw (← others-are) (get_or-take (length l - 1) l i 0 k) in rw e (a.low i (omega (arith, s.1)));
  }

  pub bring-last : (b : List ℕ) (c : ℕ) (b₁ b₂ : List ℕ) → b₁ ≡ put_all b c 0 others → b₂ ≡ put_count b₁ c (length others) → Brings last b₂ (bring_on b c (length l) l)
  unfolding bring_on
  bring-last b c b₁ b₂ e f =
      let some : length l ≡ 0 → ⊥ = λ z. omega (arith, s.1) in
      rw (ne_eqb (length l) 0 some, last-is, others-are) (record { code = refl; block = λ old. refl; book = f ∙ ap (λ z. put_count z c (length others)) e })

-- the list's part that a take filled is as the list
bring_part : (b : List ℕ) (c m : ℕ) (l : List ℕ) → m ≤ length l → bring_on b c (length (ListN.take m l)) (ListN.take m l) ≡ bring_on b c m l
unfolding bring_on
bring_part b c zero l h = refl
bring_part b c (suc m) l h =
    let k : length (ListN.take (suc m) l) ≡ suc m = length-take-le (suc m) l h in
    let one : suc m - 1 ≡ m = omega arith in
    let lower : m ≤ suc m = omega arith in
    let inside : m < suc m = omega arith in
    rw (k, one, take-take m (suc m) l lower, get_or-take (suc m) l m 0 inside)

-- ---- a take
pub take-asks : (n : ℕ) (b : List ℕ) (c d h : ℕ) → PoolPre n b c → d ≡ pool_id c → Plan.ListPre true n b d h
take-asks n b c d h a e = whole-pre n b d h (record { known = omega (arith, a.known); few = a.few; long = a.long })

-- d is the class's id, as the code has it
module _ (n : ℕ) (b : List ℕ) (c d h : ℕ) (ed : d ≡ pool_id c) (s : Result Taken Refusal) (b₁ l : List ℕ) (t₀ : Takes (told_take s) b₁ l (take_call n b d (shape_of d) h blank)) where
  t : Takes (told_take s) b₁ l (take_call n b (pool_id c) (shape_of (pool_id c)) h blank)
  t = rw ed at t₀

  pub refill-refused : (r : Refusal) → s ≡ Err r → Granted (took_on c (take_call n b (pool_id c) (shape_of (pool_id c)) h blank)) (Err r) b₁
  unfolding took_on
  refill-refused r e =
      let x = take_call n b (pool_id c) (shape_of (pool_id c)) h blank in
      let g = sym t.answer ∙ ap told_take e in
      let z = told-refused x.code x.count x.virgin (number_of r) g in
      rw (ne_eqb x.code 0 z) (record { ends = λ old. record { code = told-number x.code x.count x.virgin (number_of r) g; book = t.book; block = refl } })

  module _ (k : Taken) (e : s ≡ Ok k) where
    counted : k.count ≡ (take_call n b (pool_id c) (shape_of (pool_id c)) h blank).count
    counted = let x = take_call n b (pool_id c) (shape_of (pool_id c)) h blank in told-count x.code x.count x.virgin k.count k.virgin (sym t.answer ∙ ap told_take e)

    pub took-fits : k.count ≤ length l
    took-fits = rw (counted, t.list) (call_spares n b (pool_id c) h blank).within

    pub took-length : k.count ≡ length (ListN.take k.count l)
    took-length = sym (length-take-le k.count l took-fits)

    pub took-pre : PoolPre n b c → ListPre n (ListN.take k.count l)
    took-pre a =
        let x = take_call n b (pool_id c) (shape_of (pool_id c)) h blank in
        let here : length (ListN.take k.count l) ≡ k.count = length-take-le k.count l took-fits in
        let low = (take-in_arena n a.few (pool_id c) (shape_of (pool_id c)) (shape-sound (pool_id c)) b h blank (omega (arith, a.known)) a.long).low in
        record {
          few = rw (here, counted) (call_spares n b (pool_id c) h blank).few;
          low = λ i g. let g₁ : i < k.count = omega (arith, here) in let g₂ : i < x.count = omega (arith, counted) in rw (get_or-take k.count l i 0 g₁, t.list) (low i g₂);
        }

    pub refill-took : (r : ℕ) (b₂ : List ℕ) → Brings r b₂ (bring_on b₁ c (length (ListN.take k.count l)) (ListN.take k.count l)) → Granted (took_on c (take_call n b (pool_id c) (shape_of (pool_id c)) h blank)) (Ok r) b₂
    unfolding took_on
    refill-took r b₂ g =
        let x = take_call n b (pool_id c) (shape_of (pool_id c)) h blank in
        let g₁ : Brings r b₂ (bring_on b₁ c k.count l) = rw (bring_part b₁ c k.count l took-fits) at g in
        let g' : Brings r b₂ (bring_on x.book c x.count x.list) = rw (← counted, ← t.book, ← t.list) g₁ in
        rw (told-code x.code x.count x.virgin k.count k.virgin (sym t.answer ∙ ap told_take e)) (record { ends = λ old. record { code = sym g'.code; book = g'.book; block = g'.block old } })

-- ---- the whole
module _ (n : ℕ) (b : List ℕ) (c h k : ℕ) (e : k ≡ count_in b c) where
  pub alloc-took : k ≡ 0 → (r : Result ℕ Refusal) (b' : List ℕ) → Granted (took_on c (take_call n b (pool_id c) (shape_of (pool_id c)) h blank)) r b' → Granted (alloc_on n b c h) r b'
  unfolding alloc_on
  alloc-took z r b' t = rw (eq-eqb (count_in b c) 0 (sym e ∙ z)) t

  module _ (some : k ≡ 0 → ⊥) (f : Bool) (ef : f ≡ top_valid n b c) where
    there : count_in b c ≡ 0 → ⊥
    there z = some (e ∙ z)

    pub alloc-invalid : not f ≡ true → Granted (alloc_on n b c h) (Err BookWord) b
    unfolding alloc_on
    alloc-invalid u = rw (ne_eqb (count_in b c) 0 there, ← ef, not-true f u) (record { ends = λ old. record { code = refl; book = refl; block = refl } })

    pub alloc-popped : (g w : ℕ) (b' : List ℕ) → not f ≡ false → g ≡ entry_in b c (k - 1) → w ≡ block_word (shape_of (pool_id c)).kind g → b' ≡ put_count b c (k - 1) → Granted (alloc_on n b c h) (Ok w) b'
    unfolding alloc_on
    alloc-popped g w b' u eg ew q =
        rw (ne_eqb (count_in b c) 0 there, ← ef, not-false f u, ← e) (record { ends = λ old. record { code = refl; book = q; block = ew ∙ ap (block_word (shape_of (pool_id c)).kind) eg } })
