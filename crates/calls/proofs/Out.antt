-- What the test of a release's blocks answers, on any book.
--     passed, passes       it answers 0 exactly if each block is out in the class, none stands twice and none of their words of marks is set
--     fault-marked, fault-repeats, fault-foreign    else which number
use Rattle.facts.proofs.Prelude.{ℕ, arith, true, false, List, ◌≡◌, every, distinct, by_cases}
use Rattle.classes.specs.declared.Shape.{Shape}
use Rattle.model.proofs.Counts.{filter-all, each-once}
use Rattle.calls.specs.Out.{out_at, unmarked, repeats, out_fault}

module _ (n : ℕ) (b : List ℕ) (c : ℕ) (sh : Shape) (ws : List ℕ) where
  pub record Passed : Type 0 where
    pub clean : unmarked n b c sh ws ≡ true
    pub single : repeats n b c sh ws ≡ false
    pub out : every (out_at n b c sh) ws ≡ true
    pub once : distinct ws ≡ true

  pub fault-marked : unmarked n b c sh ws ≡ false → out_fault n b c sh ws ≡ 13
  unfolding out_fault
  fault-marked e = rw e

  pub fault-repeats : unmarked n b c sh ws ≡ true → repeats n b c sh ws ≡ true → out_fault n b c sh ws ≡ 15
  unfolding out_fault
  fault-repeats e r = rw (e, r)

  pub fault-foreign : unmarked n b c sh ws ≡ true → repeats n b c sh ws ≡ false → every (out_at n b c sh) ws ≡ false → out_fault n b c sh ws ≡ 10
  unfolding out_fault
  fault-foreign e r o = rw (e, r, o)

  -- a list whose blocks are each out and distinct has no repeat
  pub no_repeat : every (out_at n b c sh) ws ≡ true → distinct ws ≡ true → repeats n b c sh ws ≡ false
  unfolding repeats
  no_repeat o d = rw (filter-all (out_at n b c sh) ws o, d)

  pub passes : unmarked n b c sh ws ≡ true → every (out_at n b c sh) ws ≡ true → distinct ws ≡ true → out_fault n b c sh ws ≡ 0
  unfolding out_fault
  passes e o d = rw (e, no_repeat o d, o)

  once-out : repeats n b c sh ws ≡ false → every (out_at n b c sh) ws ≡ true → distinct ws ≡ true
  unfolding repeats
  once-out r o = each-once (out_at n b c sh) ws r o

  pub passed : out_fault n b c sh ws ≡ 0 → Passed
  unfolding out_fault
  passed e =
      by_cases (unmarked n b c sh ws)
      (λ u. by_cases (repeats n b c sh ws) (λ r. absurd (none 15 (λ z. omega arith) (rw (u, r) at e)))
      (λ r. by_cases (every (out_at n b c sh) ws) (λ o. record { clean = u; single = r; out = o; once = once-out r o }) (λ o. absurd (none 10 (λ z. omega arith) (rw (u, r, o) at e)))))
      (λ u. absurd (none 13 (λ z. omega arith) (rw u at e)))
    where
      none : (k : ℕ) → (k ≡ 0 → ⊥) → k ≡ 0 → ⊥
      none k f e = f e
