-- The ways out of giving, growing and the direct calls.
use Rattle.facts.proofs.Prelude.{ℕ, zero, suc, ◌+◌, ◌-◌, ◌≤◌, ◌<◌, arith, Bool, true, false, List, ◌≡◌, refl, sym, ap}
use Rattle.facts.proofs.Prelude.{◌∙◌, subst, leb, le-leb, lt-leb, leb-true, eq-eqb, ne_eqb, and_left, and_right, and_no}
use Rattle.words.specs.Limits.{hole_slots}
use Rattle.words.specs.Host.{commit_granted}
use Rattle.model.specs.Heap.{direct}
use Rattle.arena.specs.Owners.{owner_code}
use Rattle.fields.specs.Field.{arena, page, owner, frontier, holes, held, get, put}
use Rattle.runs.specs.declared.Arena.{Arena}
use Rattle.runs.specs.way.Record.{record_of}
use Rattle.arena.specs.Valid.{record_valid, holes_end_valid, give_valid, grow_gives, grow_valid}
use Rattle.arena.specs.Load.{load_arena}
use Rattle.arena.specs.Calls.{given, every_direct, held_direct}
use Rattle.runs.specs.way.Act.{end_given, given_with, give_acts}
use Rattle.runs.specs.way.Pre.{StoreIn, GiveIn, BackIn}
use Rattle.runs.proofs.Acts.{ValidRecord, valid_record, give-acts}

-- ---- giving
module _ (n : ℕ) (b : List ℕ) (m : ℕ) where
  pub valid-give : (t : Bool) (d : ℕ) (r : Bool) → t ≡ record_valid n b → t ≡ true → d ≡ get b (arena held) → m ≤ d → r ≡ holes_end_valid b → r ≡ give_valid n b m
  unfolding give_valid
  valid-give t d r e v f l g = rw (← e, v, ← f, le-leb m d l) g

  pub short-give : (t : Bool) (d : ℕ) → t ≡ record_valid n b → t ≡ true → d ≡ get b (arena held) → d < m → false ≡ give_valid n b m
  unfolding give_valid
  short-give t d e v f l = rw (← e, v, ← f, lt-leb m d l)

  pub told-few : (t : Bool) → t ≡ record_valid n b → t ≡ true → get b (arena holes) ≤ hole_slots
  told-few t e v = (valid_record n b (sym e ∙ v)).holes

  pub invalid-give : (t : Bool) → t ≡ record_valid n b → t ≡ false → false ≡ give_valid n b m
  unfolding give_valid
  invalid-give t e v = rw (← e, v)

module _ (b : List ℕ) (n : ℕ) (a : Arena) (d q m : ℕ) (k : GiveIn b n q m) (e : a ≡ record_of b) (f : d ≡ get b (arena held)) where
  valid : ValidRecord n b
  unfolding give_valid
  valid = valid_record n b (and_left _ _ k.valid)

  pub enough : m ≤ d
  unfolding give_valid
  enough = let z = leb-true m (get b (arena held)) (and_left _ _ (and_right (record_valid n b) _ k.valid)) in omega arith

  ends : holes_end_valid b ≡ true
  unfolding give_valid
  ends = and_right (leb m (get b (arena held))) _ (and_right (record_valid n b) _ k.valid)

  pub back_in : BackIn b a (record { first = q; pages = m; clear = true })
  unfolding holes_end_valid
  back_in =
      let l₁ = k.long in
      let l₂ = k.small in
      let l₃ = k.inside in
      let z = valid in
      let s : StoreIn b (record_of b) q m = record { long = omega arith; few = z.holes; short = z.hole_pages; low = let x = z.frontier in omega arith; near = omega arith; ends = ends } in
      record { long = omega arith; store = subst (λ y. StoreIn b y q m) (sym e) s }

  pub given_is : (x y : List ℕ) → x ≡ (end_given b a m q true).book → y ≡ put x (arena held) (d - m) → y ≡ given b q m
  unfolding give_acts given_with end_given
  given_is x y g o =
      o ∙ ap (λ z. put z (arena held) (d - m)) g ∙ ap (λ y. given_with b y d q m) e ∙ ap (λ y. given_with b (record_of b) y q m) f ∙ sym (give-acts n b (le-leb _ _ k.long) valid ends q m)

-- ---- the pages of a run, the last one first
pub record Looking (b : List ℕ) (q m left : ℕ) : Type 0 where
  pub within : left ≤ m
  pub rest : every_direct b q left ≡ every_direct b q m

module _ (b : List ℕ) (q m : ℕ) where
  pub looks_start : Looking b q m m
  looks_start = record { within = omega arith; rest = refl }

  pub looks_again : (left o : ℕ) → Looking b q m left → 0 < left → o ≡ get b (page owner (q + (left - 1))) → o ≡ (owner_code direct) → Looking b q m (left - 1)
  unfolding every_direct
  looks_again zero o k l e f = absurd (omega arith)
  looks_again (suc left) o k l e f =
      let z : suc left - 1 ≡ left = omega arith in
      let h : get b (page owner (q + left)) ≡ (owner_code direct) = ap (λ y. get b (page owner (q + y))) (sym z) ∙ sym e ∙ f in
      rw z (record { within = let y = k.within in omega arith; rest = rw (eq-eqb (get b (page owner (q + left))) (owner_code direct) h) at k.rest })

  pub looks_no : (left o : ℕ) → Looking b q m left → 0 < left → o ≡ get b (page owner (q + (left - 1))) → (o ≡ (owner_code direct) → ⊥) → false ≡ every_direct b q m
  unfolding every_direct
  looks_no zero o k l e f = absurd (omega arith)
  looks_no (suc left) o k l e f =
      let z : suc left - 1 ≡ left = omega arith in
      let h : get b (page owner (q + left)) ≡ o = ap (λ y. get b (page owner (q + y))) (sym z) ∙ sym e in
      rw (ne_eqb (get b (page owner (q + left))) (owner_code direct) (λ y. f (sym h ∙ y))) at k.rest

  pub looks_done : (left : ℕ) → Looking b q m left → left ≤ 0 → true ≡ every_direct b q m
  unfolding every_direct
  looks_done zero k l = k.rest
  looks_done (suc left) k l = absurd (omega arith)

-- ---- number 13 of a growth
module _ (n : ℕ) (b : List ℕ) (h e m : ℕ) where
  pub gives-granted : (t : Bool) (k : ℕ) → k ≡ h → t ≡ commit_granted k → t ≡ true → false ≡ grow_gives n b h e m
  unfolding grow_gives
  gives-granted t k u v w = let z : commit_granted h ≡ true = ap commit_granted (sym u) ∙ sym v ∙ w in rw z

  module _ (t : Bool) (k : ℕ) (u : k ≡ h) (v : t ≡ commit_granted k) (w : t ≡ false) (f : ℕ) (g : f ≡ get b (arena frontier)) where
    refused : commit_granted h ≡ false
    refused = ap commit_granted (sym u) ∙ sym v ∙ w

    pub gives-elsewhere : (f ≡ e → ⊥) → false ≡ grow_gives n b h e m
    unfolding grow_gives load_arena
    gives-elsewhere d = rw (refused, ← g, ne_eqb f e d)

    pub gives-there : f ≡ e → leb (e + m) n ≡ grow_gives n b h e m
    unfolding grow_gives load_arena
    gives-there s = rw (refused, ← g, eq-eqb f e s)

  module _ (t : Bool) (r : t ≡ record_valid n b) where
    pub grow-invalid : t ≡ false → false ≡ grow_valid n b h e m
    unfolding grow_valid
    grow-invalid v = rw (← r, v)

    module _ (v : t ≡ true) (g : Bool) (i : g ≡ grow_gives n b h e m) where
      pub grow-holes : (o : Bool) → g ≡ true → o ≡ holes_end_valid b → o ≡ grow_valid n b h e m
      unfolding grow_valid
      grow-holes o w f = rw (← r, v, ← i, w) f

      pub grow_record : g ≡ false → true ≡ grow_valid n b h e m
      unfolding grow_valid
      grow_record w = rw (← r, v, ← i, w)

-- ---- number 12
module _ (n : ℕ) (b : List ℕ) (q m : ℕ) where
  pub direct-long : n < m → false ≡ held_direct n b q m
  unfolding held_direct
  direct-long l = rw (lt-leb (q + m) n (omega arith))

  pub direct-out : m ≤ n → n - m < q → false ≡ held_direct n b q m
  unfolding held_direct
  direct-out k l = rw (lt-leb (q + m) n (omega arith))

  pub direct-above : (f : ℕ) → f ≡ get b (arena frontier) → f < q + m → false ≡ held_direct n b q m
  unfolding held_direct
  direct-above f e l = simp (← e, lt-leb (q + m) f l, and_no)

  pub direct_is : (f : ℕ) (r : Bool) → m ≤ n → q ≤ n - m → f ≡ get b (arena frontier) → q + m ≤ f → r ≡ every_direct b q m → r ≡ held_direct n b q m
  unfolding held_direct
  direct_is f r k l e u v = rw (le-leb (q + m) n (omega arith), ← e, le-leb (q + m) f u) v
