-- The ways out of a word's code.
use Rattle.facts.proofs.Prelude.{ℕ, zero, suc, ◌+◌, ◌-◌, ◌*◌, ◌^◌, ◌≤◌, ◌<◌, arith, mod-eq_of_lt, Bool, true, false, not, ◌||◌, false≢true, List, [], ◌∷◌, ◌≡◌, refl, sym, ap, ◌∙◌}
use Rattle.facts.proofs.Prelude.{eqb, length, get_or, set, length-set, List·getD-eq-default, get_or-take, drop-set-lt, ne_eqb, eqb-true, not-true, not-false, by_cases}
use lib.ListN as ListN
use Rattle.words.specs.Word.{kind_of, granule_of, pack_block}
use Rattle.words.proofs.RoundTrip.{granule-lt}
use Rattle.classes.specs.declared.Shape.{Shape}
use Rattle.classes.specs.Shape.{shape_of}
use Rattle.release.specs.way.Act.{Answered}
use Rattle.release.specs.Answer.{Refused, Fate, answer_as}
use Rattle.trace.specs.declared.tally.Tally.{Tally}
use Rattle.std.proofs.Common.{Option, Some, None}
use Rattle.trace.specs.Trace as Trace
use Rattle.trace.specs.Trace.{max}
use Rattle.trace.specs.Words.{is_block, flip_kind, size_of, back_now, class_at, owner_at}
use Rattle.trace.specs.way.Steps.{lent, CarriedBlocks}
use Rattle.trace.proofs.Refused.{back-keeps}

module _ (w k : ℕ) (e : k ≡ kind_of w) where
  kind-two : is_block w ≡ true → (k ≡ 1 → ⊥) → kind_of w ≡ 2
  kind-two h z = by_cases (eqb (kind_of w) 2) (λ u. eqb-true (kind_of w) 2 u) (λ u. absurd (false≢true (rw (← e, ne_eqb k 1 z) at (rw u at h))))

  pub flip_kind-one : (r : ℕ) → k ≡ 1 → r ≡ pack_block 0 (granule_of w) → r ≡ flip_kind w
  flip_kind-one r z f = let y : w - 2 ^ 62 ≡ 0 + granule_of w = omega arith in f ∙ rw (mod-eq_of_lt (granule-lt w), ← e, z) (sym y)

  pub flip_kind-two : (r : ℕ) → is_block w ≡ true → (k ≡ 1 → ⊥) → r ≡ pack_block 3 (granule_of w) → r ≡ flip_kind w
  flip_kind-two r h z f =
      let y : w + 2 ^ 62 ≡ 3 * 2 ^ 62 + granule_of w = omega (arith, kind-two h z) in
      f ∙ rw (mod-eq_of_lt (granule-lt w), ← e, ne_eqb k 1 z) (sym y)

pub block-yes : (w : ℕ) (r : Bool) → r ≡ is_block w → not r ≡ false → is_block w ≡ true
block-yes w r e y = sym e ∙ not-false r y

pub size_is : (c k : ℕ) (sh : Shape) → sh ≡ shape_of c → k ≡ sh.block → k * 16 ≡ size_of c
size_is c k sh e f = rw (f, e)

-- ---- the word of a place
pub or_true : (t : Bool) → (t || true) ≡ true
or_true true = refl
or_true false = refl

told-fate : (k f m : ℕ) → answer_as k f ≡ Refused m → k ≡ 0 → ⊥
told-fate zero f m e y = let z : ◌≡◌ {A = ℕ} 0 1 = cc in omega arith
told-fate (suc k) f m e y = omega arith

told-refused : (k f m : ℕ) → answer_as k f ≡ Fate m → k ≡ 0
told-refused zero f m e = refl
told-refused (suc k) f m e = cc

length-take-le : (k : ℕ) (l : List ℕ) → length (ListN.take k l) ≤ k
length-take-le zero l = omega arith
length-take-le (suc k) [] = omega arith
length-take-le (suc k) (x ∷ l) = let ih = length-take-le k l in omega arith

take-set : (k : ℕ) (l : List ℕ) (i v : ℕ) → i < k → ListN.take k (set l i v) ≡ set (ListN.take k l) i v
take-set zero l i v h = absurd (omega arith)
take-set (suc k) [] i v h = refl
take-set (suc k) (x ∷ l) zero v h = refl
take-set (suc k) (x ∷ l) (suc i) v h = ap (λ (s : List ℕ). x ∷ s) (take-set k l i v (omega arith))

module _ (n : ℕ) (b bl : List ℕ) (t : Tally) (p : ℕ) where
  within : p < t.at → get_or (ListN.take t.at bl) p 0 ≡ get_or bl p 0
  within h = rw get_or-take

  pub back-past : t.at ≤ p → CarriedBlocks None n (Trace.back p) b bl t b bl
  back-past h fl =
      let l : length (ListN.take t.at bl) ≤ p = omega (arith, length-take-le t.at bl) in
      record { reason = rw (List·getD-eq-default (ListN.take t.at bl) 0 l); same = refl }

  pub back-gone : (r : Bool) → p < t.at → r ≡ is_block (get_or bl p 0) → not r ≡ true → CarriedBlocks None n (Trace.back p) b bl t b bl
  back-gone r h e z fl = record { reason = rw (within h, ← e, not-true r z); same = refl }

  -- no class has the block's page: a release of it is refused
  pub back-nowhere : (r : Option Tally) → p < t.at → r ≡ None → 0 ≡ owner_at n b (get_or bl p 0) → CarriedBlocks r n (Trace.back p) b bl t b bl
  unfolding back_now
  back-nowhere r h q e fl = rw q (record { reason = rw (within h, ← e) (or_true (not (is_block (get_or bl p 0)))); same = refl })

  module _ (b' : List ℕ) where
    pub back-refused : (k : ℕ) → Answered (Refused k) b' (back_now n b (get_or bl p 0)) → p < t.at → CarriedBlocks None n (Trace.back p) b bl t b' bl
    back-refused k a h fl =
        let z : (back_now n b (get_or bl p 0)).code ≡ 0 → ⊥ = λ y. told-fate (back_now n b (get_or bl p 0)).code (back_now n b (get_or bl p 0)).fate k (sym a.answer) y in
        record { reason = rw (within h, ne_eqb (back_now n b (get_or bl p 0)).code 0 z) (or_true (not (is_block (get_or bl p 0)))); same = ap (λ (d : List ℕ). lent d bl fl) (a.left ∙ back-keeps n b (get_or bl p 0) z) }

    pub back-went : (r : Bool) (f v c size : ℕ) (t' : Tally) → Answered (Fate f) b' (back_now n b (get_or bl p 0)) → p < t.at → r ≡ is_block (get_or bl p 0) → not r ≡ false → v ≡ flip_kind (get_or bl p 0) → c + 1 ≡ owner_at n b (get_or bl p 0) → size ≡ size_of c
        → t' ≡ record { at = t.at; written = t.written; out = t.out - 1; bytes = t.bytes - size; highest = max t.highest (t.bytes - size) }
        → CarriedBlocks (Some t') n (Trace.back p) b bl t b' (set bl p v)
    back-went r f v c size t' a h e y j q g s fl =
        let d : class_at n b (get_or bl p 0) ≡ c = omega (arith, q) in
        let z : (back_now n b (get_or bl p 0)).code ≡ 0 = told-refused (back_now n b (get_or bl p 0)).code (back_now n b (get_or bl p 0)).fate f (sym a.answer) in
        let k : is_block (get_or bl p 0) ≡ true = sym e ∙ not-false r y in
        rw s (record {
          free = rw (within h, k, z);
          goes = rw (within h, j, g, d, a.left, take-set t.at bl p (flip_kind (get_or bl p 0)) h);
          blocks = drop-set-lt t.at bl p v h;
          figures = refl;
          further = (omega arith, omega arith);
          handed = λ l. rw (length-set bl p v) l;
          fewer = λ o. omega arith;
          written = λ o. o;
        })
