-- One page at one call: where it was, what the arena and the class did with it, and where it is.
use Rattle.facts.proofs.Prelude.{ℕ, ◌+◌, ◌≤◌, arith, Bool, true, false, cond, false≢true, ◌≡◌, refl, sym, ◌∙◌, eqb, eqb-true, eqb-false, eq-eqb, ne_eqb, by_cases}
use Rattle.model.specs.Heap.{Holder, nobody, direct, class, is_direct, is_held}
use Rattle.model.specs.Ledger.{held_by}

-- holders
pub held-le : (c : ℕ) (o : Holder) → held_by c o ≤ is_held o
held-le c nobody = omega arith
held-le c direct = omega arith
held-le c (class d) = by_cases (eqb d c) (λ e. rw e (omega arith)) (λ e. rw e (omega arith))

pub held_two : (c d : ℕ) (o : Holder) → eqb d c ≡ false → held_by c o + held_by d o ≤ is_held o
held_two c d nobody n = omega arith
held_two c d direct n = omega arith
held_two c d (class k) n =
    by_cases (eqb k c)
    (λ e. by_cases (eqb k d)
    (λ b. absurd (eqb-false d c n (sym (eqb-true k d b) ∙ eqb-true k c e)))
    (λ b. rw (e, b) (omega arith)))
    (λ e. by_cases (eqb k d) (λ b. rw (e, b) (omega arith)) (λ b. rw (e, b) (omega arith)))

pub not-direct : (c : ℕ) (o : Holder) → 1 ≤ held_by c o → is_direct o ≡ false
not-direct c nobody h = refl
not-direct c direct h = absurd (omega arith)
not-direct c (class d) h = refl

unheld : (o : Holder) → is_held o ≡ 0 → is_direct o ≡ false
unheld nobody h = refl
unheld direct h = absurd (omega arith)
unheld (class d) h = absurd (omega arith)

direct-held : (o : Holder) → is_direct o ≡ true → is_held o ≡ 1
direct-held nobody e = absurd (false≢true e)
direct-held direct e = refl
direct-held (class c) e = absurd (false≢true e)

direct-not : (d : ℕ) (o : Holder) → is_direct o ≡ true → held_by d o ≡ 0
direct-not d nobody e = absurd (false≢true e)
direct-not d direct e = refl
direct-not d (class c) e = absurd (false≢true e)

-- A page at a call of class c: held by o; idle before (i), after the commit (j) and after the gives (k); in the run that the arena
-- gave (g) and in those given back (v); in the class's runs before (m) and after (n); abandoned so far (l), by the commit (a), by the gives (b)
pub record Account (c : ℕ) (o : Holder) (i j k g v m n l a b : ℕ) : Type 0 where
  pub commits : j + g + a ≡ i
  pub gives : k + b ≡ j + v
  pub moves : n + v ≡ m + g
  pub one : is_held o + i + l ≡ 1
  pub mine : m ≡ held_by c o

module _ (c : ℕ) (o : Holder) (i j k g v m n l a b : ℕ) (at : Account c o i j k g v m n l a b) where
  abbrev now : Holder
  now = cond (eqb v 0) (cond (eqb g 0) o (class c)) nobody

  pub record Balance : Type 0 where
    pub one : is_held now + k + (l + (a + b)) ≡ 1
    pub mine : n ≡ held_by c now
    pub others : (d : ℕ) → eqb d c ≡ false → held_by d now ≡ held_by d o
    pub directs : is_direct now ≡ is_direct o

  pub balance : Balance
  balance =
      let le = held-le c o in
      by_cases (eqb v 0)
      (λ e. let zv = eqb-true v 0 e in by_cases (eqb g 0)
      (λ f. let zg = eqb-true g 0 f in record {
        one = rw (e, f) (omega (arith, at.commits, at.gives, at.one));
        mine = rw (e, f) (omega (arith, at.moves, at.mine));
        others = λ d h. rw (e, f) refl;
        directs = rw (e, f) refl;
      })
      (λ f. let zg = eqb-false g 0 f in record {
        one = rw (e, f) (omega (arith, at.commits, at.gives, at.one));
        mine = rw (e, f) (rw (eq-eqb c c refl) (omega (arith, at.commits, at.one, at.moves, at.mine)));
        others = λ d h. rw (e, f) (rw (ne_eqb c d (λ p. eqb-false d c h (sym p))) (omega (arith, at.commits, at.one, held-le d o)));
        directs = rw (e, f) (sym (unheld o (omega (arith, at.commits, at.one))));
      }))
      (λ e. let zv = eqb-false v 0 e in record {
        one = rw e (omega (arith, at.commits, at.gives, at.one, at.moves, at.mine));
        mine = rw e (omega (arith, at.commits, at.one, at.moves, at.mine));
        others = λ d h. rw e (omega (arith, at.commits, at.one, at.moves, at.mine, held_two c d o h));
        directs = rw e (sym (left-class (omega (arith, at.commits, at.one, at.moves, at.mine))));
      })
    where
      -- a page given back was the class's, or nobody's
      left-class : is_held o ≤ held_by c o → is_direct o ≡ false
      left-class h =
          by_cases (eqb (is_held o) 0)
          (λ z. unheld o (eqb-true (is_held o) 0 z))
          (λ z. not-direct c o (omega (arith, eqb-false (is_held o) 0 z)))

-- a page at a direct call: its holder before and after, idle before and after, abandoned before and after, told direct before and after
pub record Passes (o o' : Holder) (i i' l l' : ℕ) (b b' : Bool) : Type 0 where
  pub one : is_held o' + i' + l' ≡ 1
  pub mine : (d : ℕ) → held_by d o' ≡ held_by d o
  pub directs : b' ≡ is_direct o'

module _ (o : Holder) (i i' g l a : ℕ) (b : Bool) (one : is_held o + i + l ≡ 1) (e : b ≡ is_direct o) where
  -- it is drawn by the direct calls, or it is not
  pub drawn-direct : i' + g + a ≡ i → Passes o (cond (eqb g 0) o direct) i i' l (l + a) b (cond (eqb g 0) b true)
  drawn-direct h =
      by_cases (eqb g 0)
      (λ z. let zz = eqb-true g 0 z in record { one = rw z (omega arith); mine = λ d. rw z refl; directs = rw z e })
      (λ z. let zz = eqb-false g 0 z in record { one = rw z (omega arith); mine = λ d. rw z (omega (arith, held-le d o)); directs = rw z refl })

  -- it is given by them
  pub given-direct : i' + a ≡ i + g → g ≤ 1 → (1 ≤ g → is_direct o ≡ true) → Passes o (cond (eqb g 0) o nobody) i i' l (l + a) b (cond (eqb g 0) b false)
  given-direct h le k =
      by_cases (eqb g 0)
      (λ z. let zz = eqb-true g 0 z in record { one = rw z (omega arith); mine = λ d. rw z refl; directs = rw z e })
      (λ z. let zz = eqb-false g 0 z in let y = k (omega arith) in record {
        one = rw z (omega (arith, direct-held o y));
        mine = λ d. rw z (omega (arith, direct-not d o y));
        directs = rw z refl;
      })
