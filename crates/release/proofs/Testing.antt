-- `list_repeats`: number 15, and the book as it was; `out_fault`: the numbers of the blocks in their order.
use Rattle.facts.proofs.Prelude.{ℕ, suc, ◌≤◌, arith, Bool, true, false, cond, not, List, [], ◌∷◌, ◌≡◌, refl, sym, ap, ◌∙◌, eqb, leb, length, length-take, take, le-leb, every}
use Rattle.classes.specs.declared.Shape.{Shape}
use Rattle.fields.specs.Field.{words}
use Rattle.calls.specs.Out.{out_at, unmarked, repeats, out_fault}
use Rattle.calls.proofs.Out.{fault-marked, fault-repeats, fault-foreign}
use Rattle.release.specs.way.Pre.{ClassPre}
use Rattle.release.specs.way.Marks.{is_marked, marked, mark_count, clear_book}
use Rattle.release.specs.way.MarkPre.{MarkedList, FaultPre, TestPre, Tested, Faulted}
use Rattle.release.proofs.MarkLaws.{book-changes, repeats-found, marks-clear}

pub fault-none : (n : ℕ) (b : List ℕ) (c : ℕ) (sh : Shape) (ws : List ℕ) → unmarked n b c sh ws ≡ true → repeats n b c sh ws ≡ false → every (out_at n b c sh) ws ≡ true → out_fault n b c sh ws ≡ 0
unfolding out_fault
fault-none n b c sh ws e f g = rw (e, f, g)

within : (n : ℕ) (b : List ℕ) (c : ℕ) (sh : Shape) (ws : List ℕ) → mark_count n b c sh ws ≤ length ws
unfolding mark_count
within n b c sh [] = omega arith
within n b c sh (w ∷ ws) = by (out_at n b c sh w) (is_marked b sh w) (within n b c sh ws) (within n (marked b sh w) c sh ws)
  where
    by : (o m : Bool) → mark_count n b c sh ws ≤ length ws → mark_count n (marked b sh w) c sh ws ≤ length ws
        → cond o (cond m 0 (suc (mark_count n (marked b sh w) c sh ws))) (suc (mark_count n b c sh ws)) ≤ suc (length ws)
    by false m x y = omega arith
    by true true x y = omega arith
    by true false x y = omega arith

module _ (n : ℕ) (b : List ℕ) (c : ℕ) (sh : Shape) (ws : List ℕ) (a : TestPre n b c sh ws) (k : ℕ) (b' : List ℕ) (r : MarkedList k b' n b c sh ws) where
  pub class-marked : ClassPre n b' c sh
  class-marked =
      let e : length b' ≡ length b = ap length r.left ∙ (book-changes n c sh a.class.sound b ws).long in
      record { known = a.class.known; sound = a.class.sound; few = a.class.few; long = omega (arith, a.class.long) }

  pub count-within : k ≤ length ws
  count-within = omega (arith, r.answer, within n b c sh ws)

  pub count-taken : k ≡ length (take k ws)
  count-taken = sym (length-take k ws ∙ omega (arith, count-within))

  hb : leb (words n) (length b) ≡ true
  hb = le-leb (words n) (length b) a.class.long

  told : eqb k (length ws) ≡ not (repeats n b c sh ws)
  told = rw r.answer (repeats-found n c sh a.class.sound b sh.kind ws hb a.kinds a.clean)

  module _ (b'' : List ℕ) (e : b'' ≡ clear_book n b' c sh (take k ws)) where
    back : b'' ≡ b
    back = e ∙ rw (r.left, r.answer) (marks-clear n c sh a.class.sound b ws hb a.clean)

    flip : (x y : Bool) → x ≡ not y → y ≡ not x
    flip x true z = rw z
    flip x false z = rw z

    pub twice-told : Tested (not (eqb k (length ws))) b'' n b c sh ws
    twice-told = record { answer = sym (flip _ _ told); left = back }

-- ---- the numbers in their order
module _ (n : ℕ) (b : List ℕ) (c : ℕ) (sh : Shape) (ws : List ℕ) (a : FaultPre n b c sh ws) (t : Bool) (e : t ≡ unmarked n b c sh ws) where
  pub some-marked : t ≡ false → Faulted 13 b n b c sh ws
  some-marked x = record { answer = sym (fault-marked n b c sh ws (sym e ∙ x)); left = refl }

  module _ (x : t ≡ true) where
    pub test_pre : TestPre n b c sh ws
    test_pre = record { class = a.class; kinds = a.kinds; clean = sym e ∙ x }

    module _ (r : Bool) (b' : List ℕ) (f : Tested r b' n b c sh ws) where
      pub repeated : r ≡ true → Faulted 15 b' n b c sh ws
      repeated y = record { answer = sym (fault-repeats n b c sh ws (sym e ∙ x) (sym f.answer ∙ y)); left = f.left }

      module _ (y : r ≡ false) (u : Bool) (g : u ≡ every (out_at n b' c sh) ws) where
        outs-are : every (out_at n b c sh) ws ≡ u
        outs-are = rw (← f.left) (sym g)

        pub all-out : u ≡ true → Faulted 0 b' n b c sh ws
        all-out z = record { answer = sym (fault-none n b c sh ws (sym e ∙ x) (sym f.answer ∙ y) (outs-are ∙ z)); left = f.left }

        pub foreign : u ≡ false → Faulted 10 b' n b c sh ws
        foreign z = record { answer = sym (fault-foreign n b c sh ws (sym e ∙ x) (sym f.answer ∙ y) (outs-are ∙ z)); left = f.left }
