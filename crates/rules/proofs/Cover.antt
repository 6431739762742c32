-- Rows that are not refused cover the classes, each by one row, and no limit exceeds 256.
--     rows-cover    a list that is not refused, and not empty
--     rules-fit     the limits of a list that is not refused; `plain-rules`, those of none are document 01's
use Rattle.facts.proofs.Prelude.{ℕ, zero, suc, ◌+◌, ◌-◌, ◌*◌, ◌%◌, ◌≤◌, ◌<◌, arith, true, false, ◌&&◌, false≢true, List, [], ◌∷◌, ◌≡◌, refl, sym, ◌∙◌, ap, subst, eqb, leb}
use Rattle.facts.proofs.Prelude.{ltb, length, get_or, drop, length-drop, drop-cons, le-leb, lt-ltb, leb-true, leb-false, ltb-true, ltb-false, is_nil, every, All, below, by_cases, and_left, and_right, every-at}
use Rattle.words.specs.Host.{digit}
use Rattle.words.specs.Limits.{max_parked}
use Rattle.classes.specs.Shape.{class_count, number_of}
use Rattle.rules.specs.declared.Limits.{Limits}
use Rattle.rules.specs.Rules.{plain_limits, plain_rules, rows_in, spans, rows_on, rows_for, limits_fit, good_row, bad_rows, two_rows, no_row, rows_fault, row_limits, limits_in, rules_of, RowOf, ItsRow, RowsCover, Fit}
use Rattle.rules.specs.declared.row.RuleRow.{RuleRow}

-- ---- the rows from word i on
abbrev row_at : List ℕ → ℕ → RuleRow
row_at ws i = record { first = get_or ws i 0; last = get_or ws (i + 1) 0; empty = get_or ws (i + 2) 0; cold = get_or ws (i + 3) 0 }

rows_next : (ws : List ℕ) (i : ℕ) → i + 4 ≤ length ws → rows_in (drop i ws) ≡ row_at ws i ∷ rows_in (drop (i + 4) ws)
unfolding rows_in
rows_next ws i h =
    let e₁ : i + 1 ≡ suc i = omega arith in
    let e₂ : i + 2 ≡ suc (suc i) = omega arith in
    let e₃ : i + 3 ≡ suc (suc (suc i)) = omega arith in
    let e₄ : i + 4 ≡ suc (suc (suc (suc i))) = omega arith in
    rw (
      e₁,
      e₂,
      e₃,
      e₄,
      drop-cons ws i 0 (omega arith),
      drop-cons ws (suc i) 0 (omega arith),
      drop-cons ws (suc (suc i)) 0 (omega arith),
      drop-cons ws (suc (suc (suc i))) 0 (omega arith),
    )

rows_short : (ws : List ℕ) → length ws < 4 → rows_in ws ≡ []
unfolding rows_in
rows_short [] h = refl
rows_short (a ∷ []) h = refl
rows_short (a ∷ b ∷ []) h = refl
rows_short (a ∷ b ∷ c ∷ []) h = refl
rows_short (a ∷ b ∷ c ∷ d ∷ ws) h = absurd (omega arith)

rows-past : (ws : List ℕ) (i : ℕ) → length ws - i < 4 → rows_in (drop i ws) ≡ []
rows-past ws i h = rows_short (drop i ws) (simp length-drop (omega arith))

-- ---- what no number leaves
record Passed (ws : List ℕ) : Type 0 where
  good : every good_row (rows_in ws) ≡ true
  few : every (λ c. leb (rows_for ws c) 1) (below class_count) ≡ true
  some : is_nil ws ≡ false → every (λ c. leb 1 (rows_for ws c)) (below class_count) ≡ true

module _ (ws : List ℕ) where
  passed : rows_fault ws ≡ 0 → Passed ws
  unfolding rows_fault bad_rows two_rows no_row
  passed e =
      by_cases (eqb (length ws % 4) 0 && every good_row (rows_in ws))
      (λ g. by_cases (every (λ c. leb (rows_for ws c) 1) (below class_count))
      (λ f. record {
        good = and_right (eqb (length ws % 4) 0) (every good_row (rows_in ws)) g;
        few = f;
        some = λ n. by_cases (every (λ c. leb 1 (rows_for ws c)) (below class_count)) (λ s. s) (λ s. let z : ◌≡◌ {A = ℕ} 17 0 = rw (g, f, n, s) at e in absurd (omega arith));
      })
      (λ f. let z : ◌≡◌ {A = ℕ} 18 0 = rw (g, f) at e in absurd (omega arith)))
      (λ g. let z : ◌≡◌ {A = ℕ} 19 0 = rw g at e in absurd (omega arith))

-- ---- a class with one row has that row's limits
no-others : (rs : List RuleRow) (c : ℕ) (l : Limits) → rows_on rs c ≡ 0 → All (λ r. spans r c ≡ true → l ≡ row_limits r) rs
no-others [] c l e = tt
no-others (r ∷ rs) c l e =
    by_cases (spans r c)
    (λ t. let z : 1 + rows_on rs c ≡ 0 = rw t at e in absurd (omega arith))
    (λ t. ((λ u. absurd (false≢true (sym t ∙ u))), no-others rs c l (let z : 0 + rows_on rs c ≡ 0 = rw t at e in omega arith)))

its-row : (rs : List RuleRow) (c : ℕ) → rows_on rs c ≤ 1 → All (λ r. spans r c ≡ true → limits_in rs c ≡ row_limits r) rs
its-row [] c l = tt
its-row (r ∷ rs) c l =
    by_cases (spans r c)
    (λ t. let e : limits_in (r ∷ rs) c ≡ row_limits r = rw t in subst (λ z. All (λ r'. spans r' c ≡ true → z ≡ row_limits r') (r ∷ rs)) (sym e) ((λ u. refl), no-others rs c (row_limits r) (let z : 1 + rows_on rs c ≤ 1 = rw t at l in omega arith)))
    (λ t. let e : limits_in (r ∷ rs) c ≡ limits_in rs c = rw t in subst (λ z. All (λ r'. spans r' c ≡ true → z ≡ row_limits r') (r ∷ rs)) (sym e) ((λ u. absurd (false≢true (sym t ∙ u))), its-row rs c (let z : 0 + rows_on rs c ≤ 1 = rw t at l in omega arith)))

-- ---- by the list's words: the rows from row i on
module _ (ws : List ℕ) where
  abbrev From : ℕ → List RuleRow
  From i = rows_in (drop (i * 4) ws)

  from_next : (i : ℕ) → i * 4 + 4 ≤ length ws → From i ≡ row_at ws (i * 4) ∷ From (suc i)
  from_next i h = let e : i * 4 + 4 ≡ suc i * 4 = omega arith in rows_next ws (i * 4) h ∙ rw e

  module _ (P : RuleRow → Type 0) (a : All P (rows_in ws)) where
    all_from : (i : ℕ) → i * 4 ≤ length ws → All P (From i)
    all_from zero h = a
    all_from (suc i) h = let x : P (row_at ws (i * 4)) × All P (From (suc i)) = subst (All P) (from_next i (omega (arith, h))) (all_from i (omega (arith, h))) in x.1

    row-at : (i : ℕ) → i * 4 + 4 ≤ length ws → P (row_at ws (i * 4))
    row-at i h = let x : P (row_at ws (i * 4)) × All P (From (suc i)) = subst (All P) (from_next i h) (all_from i (omega (arith, h))) in x.0

  module _ (c : ℕ) where
    spans-at : (i : ℕ) → RowOf ws c i → spans (row_at ws (i * 4)) c ≡ true
    spans-at i r = rw (le-leb (get_or ws (i * 4) 0) c r.first, le-leb c (get_or ws (i * 4 + 1) 0) r.last)

    at-spans : (i : ℕ) → i * 4 + 4 ≤ length ws → spans (row_at ws (i * 4)) c ≡ true → RowOf ws c i
    at-spans i h t = record {
      there = h;
      first = leb-true (get_or ws (i * 4) 0) c (and_left (leb (get_or ws (i * 4) 0) c) (leb c (get_or ws (i * 4 + 1) 0)) t);
      last = leb-true c (get_or ws (i * 4 + 1) 0) (and_right (leb (get_or ws (i * 4) 0) c) (leb c (get_or ws (i * 4 + 1) 0)) t);
    }

    -- how many rows the class has from there on
    counted : (i : ℕ) → i * 4 + 4 ≤ length ws → rows_on (From i) c ≡ digit (spans (row_at ws (i * 4)) c) + rows_on (From (suc i)) c
    counted i h = rw (from_next i h)

    counts-row : (i : ℕ) → RowOf ws c i → rows_on (From i) c ≡ 1 + rows_on (From (suc i)) c
    counts-row i r = counted i r.there ∙ rw (spans-at i r)

    fewer-on : (i d : ℕ) → (d + i) * 4 ≤ length ws → rows_on (From (d + i)) c ≤ rows_on (From i) c
    fewer-on i zero h = let e : 0 + i ≡ i = omega arith in rw e (omega arith)
    fewer-on i (suc d) h =
        let e : suc d + i ≡ suc (d + i) = omega arith in
        let x = counted (d + i) (omega (arith, h)) in
        let l = fewer-on i d (omega (arith, h)) in
        rw e (omega (arith, x, l))

    -- no two of them, in order
    not-two : rows_on (rows_in ws) c ≤ 1 → (i d : ℕ) → RowOf ws c i → RowOf ws c (d + suc i) → ⊥
    not-two few i d r s =
        let e : i + 0 ≡ i = omega arith in
        let whole = subst (λ k. rows_on (From k) c ≤ rows_on (rows_in ws) c) e (fewer-on 0 i (omega (arith, r.there))) in
        let rest = fewer-on (suc i) d (omega (arith, s.there)) in
        omega (arith, few, whole, rest, counts-row i r, counts-row (d + suc i) s)

    one-row : rows_on (rows_in ws) c ≤ 1 → (i j : ℕ) → RowOf ws c i → RowOf ws c j → i ≡ j
    one-row few i j r s =
        by_cases (ltb i j)
        (λ h. absurd (not-two few i (j - suc i) r (let e : j ≡ (j - suc i) + suc i = omega (arith, ltb-true i j h) in subst (RowOf ws c) e s)))
        (λ h. by_cases (ltb j i)
        (λ k. absurd (not-two few j (i - suc j) s (let e : i ≡ (i - suc j) + suc j = omega (arith, ltb-true j i k) in subst (RowOf ws c) e r)))
        (λ k. omega (arith, ltb-false i j h, ltb-false j i k)))

    no_more : (i : ℕ) → length ws - i * 4 < 4 → 1 ≤ rows_on (From i) c → ⊥
    no_more i h some = let e : rows_on (From i) c ≡ 0 = rw (rows-past ws (i * 4) h) in omega (arith, e, some)

    its-place : (k i : ℕ) → length ws - i * 4 ≤ k → 1 ≤ rows_on (From i) c → ItsRow ws c
    its-place zero i l some = absurd (no_more i (omega (arith, l)) some)
    its-place (suc k) i l some =
        by_cases (leb 4 (length ws - i * 4))
        (λ h. let there : i * 4 + 4 ≤ length ws = omega (arith, leb-true 4 (length ws - i * 4) h) in
        by_cases (spans (row_at ws (i * 4)) c)
        (λ t. record { row = i; is = at-spans i there t })
        (λ t. let e : rows_on (From i) c ≡ 0 + rows_on (From (suc i)) c = counted i there ∙ rw t in its-place k (suc i) (omega (arith, l, there)) (omega (arith, e, some))))
        (λ h. absurd (no_more i (leb-false 4 (length ws - i * 4) h) some))

pub rows_cover : (ws : List ℕ) → rows_fault ws ≡ 0 → is_nil ws ≡ false → RowsCover ws (rules_of ws)
unfolding rows_for rules_of
rows_cover ws e n =
    let p = passed ws e in
    record {
      one = λ c h. its-place ws c (length ws) 0 (omega arith) (leb-true 1 (rows_for ws c) (every-at (λ d. leb 1 (rows_for ws d)) class_count c (p.some n) h));
      only = λ c i j h r s. one-row ws c (few c h) i j r s;
      empty = λ c i h r. ap (λ (l : Limits). l.empty) (its c h i r);
      cold = λ c i h r. ap (λ (l : Limits). l.cold) (its c h i r);
    }
  where
    few : (c : ℕ) → c < class_count → rows_on (rows_in ws) c ≤ 1
    few c h = leb-true (rows_for ws c) 1 (every-at (λ d. leb (rows_for ws d) 1) class_count c (passed ws e).few h)

    its : (c : ℕ) → c < class_count → (i : ℕ) → RowOf ws c i → rules_of ws c ≡ row_limits (row_at ws (i * 4))
    its c h i r = rw (lt-ltb c class_count h) (row-at ws (λ x. spans x c ≡ true → limits_in (rows_in ws) c ≡ row_limits x) (its-row (rows_in ws) c (few c h)) i r.there (spans-at ws c i r))

-- ---- limits fit
plain-fit : (c : ℕ) → Fit (plain_limits c)
plain-fit c = by_cases (ltb c 64) (λ e. rw e (record { empty = omega arith; cold = omega arith })) (λ e. rw e (record { empty = omega arith; cold = omega arith }))

rows_fit : (rs : List RuleRow) (c : ℕ) → every good_row rs ≡ true → Fit (limits_in rs c)
rows_fit [] c g = plain-fit c
rows_fit (r ∷ rs) c g =
    let ends = leb r.first r.last && ltb r.last class_count in
    let f = and_left (limits_fit r) ends (and_left (good_row r) (every good_row rs) g) in
    by_cases (spans r c)
    (λ t. rw t (record {
      empty = leb-true r.empty max_parked (and_left (leb r.empty max_parked) (leb r.cold max_parked) f);
      cold = leb-true r.cold max_parked (and_right (leb r.empty max_parked) (leb r.cold max_parked) f);
    }))
    (λ t. rw t (rows_fit rs c (and_right (good_row r) (every good_row rs) g)))

pub rules-fit : (ws : List ℕ) → rows_fault ws ≡ 0 → (c : ℕ) → Fit (rules_of ws c)
unfolding rules_of
rules-fit ws e c = rows_fit (rows_in ws) (number_of c) (passed ws e).good

pub plain-rules : rules_of [] ≡ plain_rules
unfolding rules_of rows_in plain_rules
plain-rules = refl
