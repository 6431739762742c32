-- The steps of `add_entry` and `add_takes`.
use Rattle.facts.proofs.Prelude.{ℕ, ◌+◌, ◌*◌, ◌≤◌, ◌<◌, arith, add-one, cond, List, [], ◌∷◌, ◌++◌, ◌≡◌, sym, ap, ◌∙◌, eqb, leb, length, length-set, get_or, set}
use Rattle.facts.proofs.Prelude.{take, take-suc, take_all, length-take-le, get_or-set_same, get_or-set_other, leb-true, eqb-true, eqb-false, by_cases, every_get}
use Rattle.classes.specs.Sizes.{max_medium_size}
use Rattle.plan.specs.Plan.{class_count, takes_max, class_of, takes_of}
use Rattle.plan.specs.Code.{Fine, Sums, Zeros, Summed, AddPre, Added}
use Rattle.plan.proofs.ClassOf.{class-known}

pub record AddInv (ks ts ss : List ℕ) (i : ℕ) : Type 0 where
  pub at : i ≤ length ks
  pub long : length ss ≡ class_count
  pub sums : Sums (take i ks) (take i ts) ss
  pub low : (c : ℕ) → c < class_count → get_or ss c 0 ≤ i * takes_max

pub added : (ss : List ℕ) (k t r : ℕ) → r ≡ t → AddPre ss k t → Added ss k t (set ss k (get_or ss k 0 + r))
added ss k t r q a = rw q (record { long = length-set ss k (get_or ss k 0 + t) ∙ a.long; sums = at })
  where
    at : (c : ℕ) → c < class_count → get_or (set ss k (get_or ss k 0 + t)) c 0 ≡ get_or ss c 0 + cond (eqb k c) t 0
    at c l =
        by_cases (eqb k c)
        (λ e. let z = eqb-true k c e in rw e (rw (← z) (get_or-set_same ss k (get_or ss k 0 + t) 0 (omega (arith, a.long, a.known)))))
        (λ e. rw e (get_or-set_other ss k c (get_or ss k 0 + t) 0 (λ z. eqb-false k c e (sym z)) ∙ omega arith))

takes_snoc : (xs ys : List ℕ) (k t c : ℕ) → length xs ≡ length ys → takes_of (xs ++ k ∷ []) (ys ++ t ∷ []) c ≡ takes_of xs ys c + cond (eqb (class_of k) c) t 0
takes_snoc [] [] k t c e = omega arith
takes_snoc [] (y ∷ ys) k t c e = absurd (omega arith)
takes_snoc (x ∷ xs) [] k t c e = absurd (omega arith)
takes_snoc (x ∷ xs) (y ∷ ys) k t c e = omega (arith, takes_snoc xs ys k t c (omega arith))

module _ (ks ts : List ℕ) (f : Fine ks ts) where
  pub add_start : (ss : List ℕ) → Zeros ss → AddInv ks ts ss 0
  add_start ss z = record { at = omega arith; long = z.long; sums = z.zeros; low = λ c h. omega (arith, z.zeros c h) }

  module _ (ss : List ℕ) (i : ℕ) (v : AddInv ks ts ss i) (h : i < length ks) where
    abbrev class : ℕ
    class = class_of (get_or ks i 0)

    entry_known : class < class_count
    entry_known = class-known (get_or ks i 0) (leb-true (get_or ks i 0) max_medium_size (every_get (λ k. leb k max_medium_size) ks i f.known h))

    entry-small : get_or ts i 0 ≤ takes_max
    entry-small = leb-true (get_or ts i 0) takes_max (every_get (λ t. leb t takes_max) ts i f.small (omega (arith, f.same)))

    pub add-pre : (r : ℕ) → r ≡ class → AddPre ss r (get_or ts i 0)
    add-pre r e = rw e (record { long = v.long; known = entry_known; fits = omega (arith, v.low class entry_known, entry-small, f.few) })

    next : (ss' : List ℕ) → Added ss class (get_or ts i 0) ss' → AddInv ks ts ss' (i + 1)
    next ss' a = record {
      at = omega arith;
      long = a.long;
      sums = λ c l. a.sums c l ∙ rw (add-one, take-suc ks i 0, take-suc ts i 0 (omega (arith, f.same)))
          (ap (λ z. z + cond (eqb class c) (get_or ts i 0) 0) (v.sums c l)
          ∙ sym (takes_snoc (take i ks) (take i ts) (get_or ks i 0) (get_or ts i 0) c (omega (arith, length-take-le i ks (omega arith), length-take-le i ts (omega (arith, f.same))))));
      low = λ c l. omega (arith, a.sums c l, v.low c l, entry-small, once c);
    }
      where
        once : (c : ℕ) → cond (eqb class c) (get_or ts i 0) 0 ≤ get_or ts i 0
        once c = by_cases (eqb class c) (λ e. rw e (omega arith)) (λ e. rw e (omega arith))

    pub add-next : (r : ℕ) (ss' : List ℕ) → r ≡ class → Added ss r (get_or ts i 0) ss' → AddInv ks ts ss' (i + 1)
    add-next r ss' e a = next ss' (rw (← e) a)

  pub add-end : (ss : List ℕ) (i : ℕ) → AddInv ks ts ss i → length ks ≤ i → Summed ks ts ss
  add-end ss i v h =
      let e : i ≡ length ks = omega (arith, v.at) in
      record {
        sums = λ c l. v.sums c l ∙ rw (take_all i ks, take_all i ts (omega (arith, f.same)));
        low = λ c l. omega (arith, v.low c l, f.few);
      }
