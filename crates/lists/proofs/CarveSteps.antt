-- The ways out of the functions that carve, and what their loops keep.
use Rattle.facts.proofs.Prelude.{ℕ, ◌+◌, ◌-◌, ◌*◌, ◌/◌, ◌%◌, ◌≤◌, ◌<◌, arith, add-one, Bool, true, List, ◌≡◌, refl, ap, ◌∙◌, length, eq-eqb, ne_eqb}
use mir.Val.{bool_byte}
use Rattle.classes.specs.declared.Shape.{Shape}
use Rattle.fields.specs.Field.{page, mark, slot, free, carved, virgin, listed, put}
use Rattle.fields.specs.Clear.{clear_out, clear_marks}
use Rattle.fields.proofs.Laws.{length-put}
use Rattle.fields.proofs.Clear.{length-clear, clear-more, marks_past_out}
use Rattle.words.proofs.Answers.{byte-digit}
use Rattle.pages.specs.Runs.{name_run}
use Rattle.pages.specs.Stack.{descending, push}
use Rattle.pages.specs.way.Pre.{PushRangePre, CarvePre, ClearPre}
use Rattle.pages.specs.Carve.{carved_at_once, carve_anew, bare_bits, bare_run, new_run}
use Rattle.pages.proofs.Descending.{length-descending}
use Rattle.pages.proofs.Frames.{at_once-few}

-- ---- blocks pushed on the stack
pub record PushRangeInv (b₀ : List ℕ) (q k : ℕ) (b : List ℕ) (i : ℕ) : Type 0 where
  pub within : i ≤ k
  pub long : length b ≡ length b₀
  pub done : b ≡ push b₀ q 0 (descending 0 i)

push_range_again : (b₀ : List ℕ) (q k : ℕ) (b b' : List ℕ) (i : ℕ) → i < k → PushRangeInv b₀ q k b i → b' ≡ put b (slot q i) i → PushRangeInv b₀ q k b' (i + 1)
push_range_again b₀ q k b b' i h v e =
    record {
      within = omega arith;
      long = rw e (length-put b (slot q i) i ∙ v.long);
      done = rw (e, v.done, add-one) (same-put (push b₀ q 0 (descending 0 i)) i (0 + length (descending 0 i)) i (0 + i) (omega (arith, length-descending 0 i)) (omega arith));
    }
  where
    same-put : (b : List ℕ) (i j v w : ℕ) → i ≡ j → v ≡ w → put b (slot q i) v ≡ put b (slot q j) w
    same-put b i j v w e f = cc

push_range_done : (b₀ : List ℕ) (q k : ℕ) (b : List ℕ) (i : ℕ) → k ≤ i → PushRangeInv b₀ q k b i → b ≡ push b₀ q 0 (descending 0 k)
push_range_done b₀ q k b i h v = let e : i ≡ k = omega (arith, v.within) in v.done ∙ ap (λ z. push b₀ q 0 (descending 0 z)) e

module _ (b₀ : List ℕ) (q k : ℕ) (b : List ℕ) (x : ℕ) (v : PushRangeInv b₀ q k b (2 * x)) where
  pub push_range_pair : (b' : List ℕ) → x < k / 2 → b' ≡ put (put b (slot q (2 * x)) (2 * x)) (slot q (2 * x + 1)) (2 * x + 1) → PushRangeInv b₀ q k b' (2 * (x + 1))
  push_range_pair b' h e =
      let w = push_range_again b₀ q k b (put b (slot q (2 * x)) (2 * x)) (2 * x) (omega arith) v refl in
      let n : 2 * x + 1 + 1 ≡ 2 * (x + 1) = omega arith in
      rw n at (push_range_again b₀ q k (put b (slot q (2 * x)) (2 * x)) b' (2 * x + 1) (omega arith) w e)

  pub push_range_last : (b' : List ℕ) → k / 2 ≤ x → k % 2 ≡ 1 → b' ≡ put b (slot q (k - 1)) (k - 1) → b' ≡ push b₀ q 0 (descending 0 k)
  push_range_last b' l h e =
      let n : k - 1 ≡ 2 * x = omega (arith, v.within) in
      push_range_done b₀ q k b' (2 * x + 1) (omega arith) (push_range_again b₀ q k b b' (2 * x) (omega (arith, v.within)) v (rw n at e))

  pub push_range_all : k / 2 ≤ x → (k % 2 ≡ 1 → ⊥) → b ≡ push b₀ q 0 (descending 0 k)
  push_range_all l h = push_range_done b₀ q k b (2 * x) (omega (arith, h)) v

-- ---- words of out bits and of marks
pub record ClearInv (b₀ : List ℕ) (q k : ℕ) (b : List ℕ) (i : ℕ) : Type 0 where
  pub few : k ≤ 128
  pub within : i ≤ k
  pub long : length b ≡ length b₀
  pub done : b ≡ bare_bits b₀ q i

pub clear-start : (b₀ : List ℕ) (q k : ℕ) → ClearPre b₀ q k → ClearInv b₀ q k b₀ 0
unfolding clear_out clear_marks
clear-start b₀ q k a = record { few = a.few; within = omega arith; long = refl; done = refl }

pub clear-again : (b₀ : List ℕ) (q k : ℕ) (b b₁ b' : List ℕ) (i : ℕ) → i < k → ClearInv b₀ q k b i → b₁ ≡ clear_out b q (32 * i) 32 → b' ≡ put b₁ (mark q i) 0 → ClearInv b₀ q k b' (i + 1)
unfolding clear_marks
clear-again b₀ q k b b₁ b' i h v e₁ e₂ =
    record {
      few = v.few;
      within = omega arith;
      long = e-long ∙ v.long;
      done = e ∙ ap (λ z. put z (mark q i) 0) (ap (λ z. clear_out z q (32 * i) 32) v.done ∙ marks_past_out i 32 q (32 * i) (clear_out b₀ q 0 (32 * i)) (omega (arith, v.few)) (omega (arith, v.few)) ∙ ap (λ z. clear_marks z q i) outs) ∙ one_more (clear_out b₀ q 0 (32 * (i + 1)));
    }
  where
    e : b' ≡ put (clear_out b q (32 * i) 32) (mark q i) 0
    e = e₂ ∙ ap (λ z. put z (mark q i) 0) e₁

    e-long : length b' ≡ length b
    e-long = ap length e ∙ length-put (clear_out b q (32 * i) 32) (mark q i) 0 ∙ length-clear 32 q (32 * i) b

    one_more : (d : List ℕ) → put (clear_marks d q i) (mark q i) 0 ≡ clear_marks d q (i + 1)
    one_more d = rw (add-one i)

    sum : (x : ℕ) → x ≡ 0 + x
    sum x = omega arith

    next : 32 * i + 32 ≡ 32 * (i + 1)
    next = omega arith

    outs : clear_out (clear_out b₀ q 0 (32 * i)) q (32 * i) 32 ≡ clear_out b₀ q 0 (32 * (i + 1))
    outs = ap (λ z. clear_out (clear_out b₀ q 0 (32 * i)) q z 32) (sum (32 * i)) ∙ clear-more (32 * i) 32 q 0 b₀ ∙ ap (clear_out b₀ q 0) next

pub clear-done : (b₀ : List ℕ) (q k : ℕ) (b : List ℕ) (i : ℕ) → k ≤ i → ClearInv b₀ q k b i → b ≡ bare_bits b₀ q k
clear-done b₀ q k b i h v = let e : i ≡ k = omega (arith, v.within) in v.done ∙ ap (λ z. bare_bits b₀ q z) e

-- ---- a run
pub at_once-all : (sh : Shape) → sh.kind ≡ 2 → sh.capacity ≡ carved_at_once sh
at_once-all sh h = rw (eq-eqb sh.kind 2 h)

pub at_once-none : (sh : Shape) → (sh.kind ≡ 2 → ⊥) → 0 ≡ carved_at_once sh
at_once-none sh h = rw (ne_eqb sh.kind 2 h)

pub push_range_pre : (b : List ℕ) (sh : Shape) (q k : ℕ) → CarvePre b sh q → k ≡ carved_at_once sh → PushRangePre b q k
push_range_pre b sh q k h e = record { few = at_once-few sh k e h.few; there = h.there }

pub carve-done : (b : List ℕ) (sh : Shape) (q : ℕ) (v : Bool) (k : ℕ) (b₁ b₂ b₃ b₄ : List ℕ) → k ≡ carved_at_once sh → b₁ ≡ push b q 0 (descending 0 k) → b₂ ≡ put b₁ (page virgin q) (bool_byte v) → b₃ ≡ put b₂ (page carved q) k → b₄ ≡ put b₃ (page free q) k → b₄ ≡ carve_anew b sh q v
unfolding carve_anew
carve-done b sh q v k b₁ b₂ b₃ b₄ e e₁ e₂ e₃ e₄ = rw (e₄, e₃, e₂, e₁, byte-digit v, e)

pub new-done : (b : List ℕ) (sh : Shape) (q : ℕ) (b₁ b₂ b₃ b₄ : List ℕ) → b₁ ≡ name_run b q q sh.pages → b₂ ≡ bare_bits b₁ q ((sh.capacity + 31) / 32) → b₃ ≡ put b₂ (page listed q) 0 → b₄ ≡ carve_anew b₃ sh q true → b₄ ≡ new_run b sh q
unfolding new_run bare_run
new-done b sh q b₁ b₂ b₃ b₄ e₁ e₂ e₃ e₄ = cc
