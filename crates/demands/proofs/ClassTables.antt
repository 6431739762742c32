-- Document 02, A.13, of the exported function (specs/ClassTables).
use Rattle.facts.proofs.Prelude.{ℕ, zero, suc, ◌+◌, ◌-◌, ◌≤◌, ◌<◌, arith, pos_of_ne-zero, Bool, true, false, cond, ◌||◌, List, [], ◌∷◌, ◌++◌, ◌≡◌}
use Rattle.facts.proofs.Prelude.{refl, sym, ap, ◌∙◌, eqb, ltb, length, get_or, drop, le-ltb, ne_eqb, ltb-false, eqb-false, nor_left, nor_right}
use Rattle.classes.specs.Sizes.{small_sizes, granule_bytes}
use Rattle.tables.specs.Table.{sizes_from, next_size, table, last_size, bad_rate, bad_top, bad_slots, Growth, tabled, class_table}
use Rattle.tables.proofs.Sizes.{sizes_length}
use Rattle.tables.proofs.Answer.{growth_of}
use Rattle.tables.proofs.Theorems.{table-small, table-grows, table-rises, table_stays, table-within}
use Rattle.demands.specs.ClassTables.{ClassTable, ClassTables}

get-front : (xs ys : List ℕ) (i : ℕ) → i < length xs → get_or (xs ++ ys) i 0 ≡ get_or xs i 0
get-front [] ys i h = absurd (omega arith)
get-front (x ∷ xs) ys zero h = refl
get-front (x ∷ xs) ys (suc i) h = get-front xs ys i (omega arith)

-- a call that was not refused passed each test
passed : (s t u : Bool) (l l' : List ℕ) → (cond s (tabled 22 l) (cond t (tabled 23 l) (cond u (tabled 24 l) (tabled 0 l')))).code ≡ 0
    → (s ≡ false) × (t ≡ false) × (u ≡ false)
passed true t u l l' e = absurd (omega (arith, e))
passed false true u l l' e = absurd (omega (arith, e))
passed false false true l l' e = absurd (omega (arith, e))
passed false false false l l' e = (refl, refl, refl)

first : (a b top n : ℕ) → 1 ≤ n → get_or (table a b top n) 0 0 ≡ granule_bytes
unfolding sizes_from
first a b top zero h = absurd (omega arith)
first a b top (suc n) h = refl

module _ (a b top slots : ℕ) (l : List ℕ) (z : (class_table a b top slots l).code ≡ 0) where
  tests : (bad_rate a b ≡ false) × (bad_top top ≡ false) × (bad_slots a b top slots (length l) ≡ false)
  unfolding class_table
  tests = passed (bad_rate a b) (bad_top top) (bad_slots a b top slots (length l)) l (table a b top slots ++ drop slots l) z

  growth : Growth a b top
  growth = growth_of a b top tests.0 tests.1

  left : (class_table a b top slots l).list ≡ table a b top slots ++ drop slots l
  unfolding class_table
  left = rw (tests.0, tests.1, tests.2) refl

  abbrev late : Bool
  late = ltb (last_size a b top slots) top

  some-slots : 1 ≤ slots
  some-slots = let d : slots ≡ 0 → ⊥ = eqb-false slots 0 (nor_left (eqb slots 0) (ltb (length l) slots || late) tests.2) in pos_of_ne-zero d

  last-top : last_size a b top slots ≡ top
  last-top =
      let rest : (ltb (length l) slots || late) ≡ false = nor_right (eqb slots 0) (ltb (length l) slots || late) tests.2 in
      let h : top ≤ last_size a b top slots = ltb-false (last_size a b top slots) top (nor_right (ltb (length l) slots) late rest) in
      omega (arith, h, table-within a b top growth slots (slots - 1))

  module _ (l' : List ℕ) (e : l' ≡ table a b top slots ++ drop slots l) where
    at : (i : ℕ) → i < slots → get_or (table a b top slots) i 0 ≡ get_or l' i 0
    at i h = sym (ap (λ (m : List ℕ). get_or m i 0) e ∙ get-front (table a b top slots) (drop slots l) i (omega (arith, h, sizes_length a b top granule_bytes slots)))

    table_of : ClassTable a b top slots l l'
    table_of = record {
      is = e;
      starts = sym (at 0 (omega (arith, some-slots))) ∙ first a b top slots some-slots;
      grows = λ i h. rw (at i (omega arith), at (i + 1) h) at (table-grows a b top growth slots i h);
      rises = λ i h. rw (at i (omega arith), at (i + 1) h) at (table-rises a b top growth slots i h);
      stays = λ i h. rw (at i (omega arith), at (i + 1) h) at (table_stays a b top growth slots i h);
      reaches = sym (at (slots - 1) (omega (arith, some-slots))) ∙ last-top;
    }

not-refused : (a b top slots : ℕ) (l : List ℕ) → bad_rate a b ≡ false → bad_top top ≡ false → 1 ≤ slots → slots ≤ length l → last_size a b top slots ≡ top
    → (class_table a b top slots l).code ≡ 0
unfolding class_table
not-refused a b top slots l g t some fits h =
    let d : slots ≡ 0 → ⊥ = λ z. omega (arith, z, some) in
    rw (g, t, ne_eqb slots 0 d, le-ltb (length l) slots fits, le-ltb (last_size a b top slots) top (omega (arith, h))) refl

small-ends : (l : List ℕ) → 64 ≤ length l → ((class_table 9 8 16384 64 l).code ≡ 0) × ((class_table 9 8 16384 64 l).list ≡ small_sizes ++ drop 64 l)
unfolding class_table sizes_from next_size
small-ends l h = rw (le-ltb (length l) 64 h) (refl, ap (λ (m : List ℕ). m ++ drop 64 l) table-small)

pub class_tables : ClassTables
class_tables = record {
  filled = λ a b top slots l r l' e z. let y = sym e.code ∙ z in table_of a b top slots l y l' (e.list ∙ left a b top slots l y);
  exactly = λ a b top slots l r l' e g t some fits. (
    λ z. last-top a b top slots l (sym e.code ∙ z),
    λ h. e.code ∙ not-refused a b top slots l g t some fits h,
  );
  small = λ l r l' e h. let s = small-ends l h in (e.code ∙ s.0, e.list ∙ s.1);
}
