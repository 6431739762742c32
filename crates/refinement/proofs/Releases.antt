-- A release, by list or by groups: what both go through. Each number's test is alike on every book that stands for the class's state, and in
-- the model; where all pass, the class's words are settled and then runs go to the arena.
--     tested         a number's test, on two such books and in the model
--     past-ten       numbers 15 and 10
--     Ends           refused with the model's number, or settled and the runs given; a take that asks no run ends so too
--     ends-agree     the answer is the model's and never number 13, and the book stands for the model's next heap
use Rattle.facts.proofs.Prelude.{ℕ, ◌≤◌, arith, Bool, true, false, cond, not, ◌||◌, List, ◌≡◌, refl, ◌∙◌, eqb, eqb-false, every, distinct, by_cases, nor_left, nor_right}
use Rattle.classes.specs.Shape.{shape_of}
use Rattle.fields.specs.Ranges.{max_pages}
use Rattle.fields.proofs.Changes.{changes-none}
use Rattle.model.specs.Calls.{Answer}
use Rattle.model.specs.Class.{Class, Result, Ask, done, refuse}
use Rattle.model.specs.Release.{of_kind, out_here, repeats}
use Rattle.model.specs.Heap.{offer, finish, interact}
use Rattle.calls.specs.Out.{out_at, out_fault}
use Rattle.calls.specs.Chunks.{give_runs}
use Rattle.refinement.specs.way.Represents.{Represents}
use Rattle.refinement.specs.Direct.{Reply, reply, Agrees}
use Rattle.refinement.proofs.Frames.{of_class}
use Rattle.refinement.proofs.Book.{represents-class, Stands, setting, state-rep}
use Rattle.refinement.proofs.Found.{outs-here}
use Rattle.refinement.proofs.OutTests.{once-here, fault-same}
use Rattle.refinement.proofs.ReleaseGives.{Acts, all-given}

-- ---- the tests: P is claimed of the outcomes on two books and in the model, and holds where one number refuses on all three
-- a number, but 13
abbrev pub Refusal : ℕ → Type 0
Refusal k = (eqb k 0 || eqb k 13) ≡ false

module _ {n c : ℕ} {t : Class} {b b' : List ℕ} (hn : n ≤ max_pages) (B : Stands n b c t) (B' : Stands n b' c t) {A : Type 0} (none : List ℕ → ℕ → A) (P : A → A → Ask → Type 0)
    (denied : (k : ℕ) → Refusal k → P (none b k) (none b' k) (refuse t k)) where
  pub tested : (e : Bool) (k : ℕ) → Refusal k → {w w' : A} {q : Ask} → (e ≡ false → P w w' q) → P (cond e (none b k) w) (cond e (none b' k) w') (cond e (refuse t k) q)
  tested true k u f = denied k u
  tested false k u f = f refl

  pub past_ten : (ws : List ℕ) → every (of_kind (shape_of c).kind) ws ≡ true → {w w' : A} {q : Ask}
      → (every (out_at n b c (shape_of c)) ws ≡ true → every (out_at n b' c (shape_of c)) ws ≡ true → distinct ws ≡ true → P w w' q)
      → P (cond (not (eqb (out_fault n b c (shape_of c) ws) 0)) (none b (out_fault n b c (shape_of c) ws)) w)
      (cond (not (eqb (out_fault n b' c (shape_of c) ws) 0)) (none b' (out_fault n b' c (shape_of c) ws)) w')
      (cond (repeats (shape_of c) t ws) (refuse t 15) (cond (not (every (out_here (shape_of c) t) ws)) (refuse t 10) q))
  past_ten ws k f =
      let sh = shape_of c in
      let same = outs-here (setting B) hn t (state-rep B) ws k in
      let same' = outs-here (setting B') hn t (state-rep B') ws k in
      rw (fault-same (setting B) hn t (state-rep B) ws k, fault-same (setting B') hn t (state-rep B') ws k)
      (by_cases (repeats (shape_of c) t ws) (λ u. rw u (denied 15 refl))
      (λ u. by_cases (every (out_here (shape_of c) t) ws) (λ o. rw (u, o) (f (same ∙ o) (same' ∙ o) (once-here sh t ws u o))) (λ o. rw (u, o) (denied 10 refl))))

-- ---- the end
pub data Ends (n : ℕ) (b : List ℕ) (c : ℕ) (t : Class) : Reply → Ask → Type 0 where
  denied : (k : ℕ) (x : Answer) → Refusal k → Ends n b c t (reply k x b) (refuse t k)
  did : {settled runs : List ℕ} {r : Result} → Acts n b c settled runs r → Ends n b c t (reply 0 r.answer (give_runs settled (shape_of c).pages runs)) (done r)

pub ends_agree : {n : ℕ} {b : List ℕ} {c : ℕ} {t : Class} (B : Stands n b c t) (h : ℕ) {w : Reply} {q : Ask} → Ends n b c t w q → Agrees (Represents n) w (interact n B.heap c h q)
unfolding interact offer finish
ends_agree {n} {b} {c} {t} B h (denied k x u) = record {
  answer = rw (nor_left (eqb k 0) (eqb k 13) u);
  valid = eqb-false k 13 (nor_right (eqb k 0) (eqb k 13) u);
  heap = represents-class n b B.heap B.represents B.reached b c t (changes-none (of_class b c) b) (state-rep B);
}
ends_agree B h (did a) = record { answer = refl; valid = λ e. omega arith; heap = all-given B a }
