-- What a plan on words in their ranges says.
--     plan-fits      a chosen hole is stored, long enough, and within the hole pages and the frontier
--     clamp-commit, clamp-grow, clamp-growth    a run of more pages than any arena has may be counted as one page more than that
--     commit-long    a commit of more pages than any arena has goes like every other one: no hole, no room
use Rattle.facts.proofs.Prelude.{ℕ, suc, ◌+◌, ◌-◌, ◌≤◌, ◌<◌, arith, true, false, cond, List, Option, ◌≡◌, refl, sym, ap}
use Rattle.facts.proofs.Prelude.{◌∙◌, eqb, leb, length, leb-true, leb-false, lt-leb, by_cases, and_left, and_right, and_no}
use Rattle.words.specs.Limits.{max_pages}
use Rattle.fields.specs.Field.{arena, frontier, holes, hole_pages, held, get, words}
use Rattle.model.specs.declared.Hole.{Hole}
use Rattle.model.specs.HoleStore.{hole_at, choose}
use Rattle.model.specs.BestFit.{LeastAt}
use Rattle.model.proofs.StoreLaws.{Chosen, at-hole, no-hole, chosen}
use Rattle.runs.specs.declared.Arena.{Arena}
use Rattle.arena.specs.Load.{load_hole, load_holes}
use Rattle.runs.specs.way.Record.{record_of}
use Rattle.arena.specs.Valid.{record_valid, hole_valid, holes_valid, grow_gives, grow_valid}
use Rattle.runs.specs.way.Plan.{Choice, index_code}
use Rattle.arena.specs.Calls.{commit_refused, commit_for}
use Rattle.runs.specs.way.Act.{end_none, from_frontier, commit_drawn, next_state, with_state, commit_planned, planned, commit_read, commit_acts, grow_with, grow_acts, clamped}
use Rattle.arena.proofs.Frames.{loaded_length}
use Rattle.runs.proofs.StoreLaws.{loaded_at}
use Rattle.runs.proofs.EndsValid.{every-at}
use Rattle.runs.proofs.Acts.{planned-is, valid_record, commit-acts}

-- hole i has m pages or more, and is within the hole pages and the frontier
pub record HoleFits (b : List ℕ) (m i : ℕ) : Type 0 where
  pub stored : i < get b (arena holes)
  pub enough : m ≤ (load_hole b i).pages
  pub within : (load_hole b i).pages ≤ get b (arena hole_pages)
  pub ends : (load_hole b i).first + (load_hole b i).pages ≤ get b (arena frontier)

module _ (b : List ℕ) (m : ℕ) (valid : holes_valid b ≡ true) where
  HS : List Hole
  HS = load_holes b 0 (get b (arena holes))

  fits-at : (i : ℕ) → LeastAt m HS i → HoleFits b m i
  unfolding HS holes_valid
  fits-at i l =
      let here : i < get b (arena holes) = omega (arith, l.inside, loaded_length b 0 (get b (arena holes))) in
      let e : 0 + i ≡ i = omega arith in
      let x : hole_at i HS ≡ load_hole b i = loaded_at b 0 (get b (arena holes)) i here ∙ rw e in
      let z = rw x at (every-at (hole_valid (get b (arena hole_pages)) (get b (arena frontier))) HS i valid l.inside) in
      let z₁ = and_right (leb (load_hole b i).pages (get b (arena hole_pages))) _ z in
      record {
        stored = here;
        enough = rw x at l.enough;
        within = leb-true _ _ (and_left _ _ z);
        ends = leb-true _ _ (and_right (leb 1 (load_hole b i).pages) _ z₁);
      }

  fits_of : (o : Option ℕ) → Chosen m HS o → (index_code o ≡ 0 → ⊥) → HoleFits b m (index_code o - 1)
  fits_of o (no-hole e) d = absurd (d refl)
  fits_of o (at-hole i l u) d = let e : suc i - 1 ≡ i = omega arith in rw e (fits-at i l)

  -- no hole has more pages than all holes together
  none_of : (o : Option ℕ) → Chosen m HS o → get b (arena hole_pages) < m → index_code o ≡ 0
  none_of o (no-hole e) l = refl
  none_of o (at-hole i k u) l = absurd (let z = fits-at i k in omega (arith, z.enough, z.within))

  fits-chosen : (index_code (choose m (load_holes b 0 (get b (arena holes)))) ≡ 0 → ⊥) → HoleFits b m (index_code (choose m (load_holes b 0 (get b (arena holes)))) - 1)
  unfolding HS
  fits-chosen d = fits_of (choose m HS) (chosen m HS) d

  none-chosen : get b (arena hole_pages) < m → index_code (choose m (load_holes b 0 (get b (arena holes)))) ≡ 0
  unfolding HS
  none-chosen l = none_of (choose m HS) (chosen m HS) l

pub plan-fits : (b : List ℕ) (m : ℕ) (p : Choice) → p ≡ planned b m → p.valid ≡ true → (p.code ≡ 0 → ⊥) → HoleFits b m (p.code - 1)
plan-fits b m p e f d =
    let is = e ∙ planned-is b m in
    let valid : holes_valid b ≡ true = sym (ap (λ z. z.valid) is) ∙ f in
    let c : p.code ≡ index_code (choose m (load_holes b 0 (get b (arena holes)))) = ap (λ z. z.code) is ∙ rw valid in
    rw c (fits-chosen b m valid (λ z. d (c ∙ z)))

-- ---- a commit of more pages than any arena has
module _ (n : ℕ) (b : List ℕ) (h w m : ℕ) (small : n ≤ max_pages) (large : max_pages + 1 ≤ m) where
  long-planned : (a : Arena) → commit_planned n b a 0 m h w (get b (arena held)) ≡ end_none b (with_state (next_state a.state h) a)
  unfolding commit_planned commit_drawn from_frontier
  long-planned a =
      by_cases (eqb (next_state a.state h) 2)
      (λ t. rw t)
      (λ t. rw (t, lt-leb (a.frontier + m) n (omega arith)))

  long-acts : commit_acts n b h m w ≡ cond (record_valid n b) (cond (holes_valid b) (end_none b (with_state (next_state (record_of b).state h) (record_of b))) (commit_refused b 13)) (commit_refused b 13)
  unfolding commit_acts commit_read
  long-acts =
      by_cases (record_valid n b)
      (λ e. let k = valid_record n b e in
      by_cases (holes_valid b)
      (λ v. rw (e, planned-is b m, v, none-chosen b m v (let z = k.hole_pages in omega arith)) (long-planned (record_of b)))
      (λ v. rw (e, planned-is b m, v)))
      (λ e. rw e)

pub commit-long : (n : ℕ) (b : List ℕ) → leb (words n) (length b) ≡ true → n ≤ max_pages → (h w m : ℕ) → max_pages + 1 ≤ m → commit_for n b h m w ≡ commit_for n b h (max_pages + 1) w
commit-long n b hb l h w m k =
    sym (commit-acts n b hb h m w) ∙ long-acts n b h w m l k ∙ sym (long-acts n b h w (max_pages + 1) l (omega arith)) ∙ commit-acts n b hb h (max_pages + 1) w

pub clamp_commit : (n : ℕ) (b : List ℕ) → leb (words n) (length b) ≡ true → n ≤ max_pages → (h w m : ℕ) → commit_for n b h (clamped m) w ≡ commit_for n b h m w
unfolding clamped
clamp_commit n b hb l h w m =
    by_cases (leb m max_pages)
    (λ t. rw t)
    (λ t. rw t (sym (commit-long n b hb l h w m (let z = leb-false m max_pages t in omega arith))))

-- a growth by more pages than any arena has
grow-long : (n : ℕ) (b : List ℕ) (h e w m : ℕ) → n ≤ max_pages → max_pages + 1 ≤ m → grow_acts n b h e m w ≡ cond (eqb (record_of b).frontier e) (end_none b (record_of b)) (end_none b (record_of b))
unfolding grow_acts grow_with from_frontier
grow-long n b h e w m l k = rw (lt-leb ((record_of b).frontier + m) n (omega arith))

pub clamp_grow : (n : ℕ) (b : List ℕ) → n ≤ max_pages → (h e w m : ℕ) → grow_acts n b h e (clamped m) w ≡ grow_acts n b h e m w
unfolding clamped
clamp_grow n b l h e w m =
    by_cases (leb m max_pages)
    (λ t. rw t)
    (λ t. rw t (grow-long n b h e w (max_pages + 1) l (omega arith) ∙ sym (grow-long n b h e w m l (let z = leb-false m max_pages t in omega arith))))

-- the test of it
long-gives : (n : ℕ) (b : List ℕ) (h e m : ℕ) → n ≤ max_pages → max_pages + 1 ≤ m → grow_gives n b h e m ≡ false
unfolding grow_gives
long-gives n b h e m l k = simp (lt-leb (e + m) n (omega arith), and_no)

pub clamp_growth : (n : ℕ) (b : List ℕ) → n ≤ max_pages → (h e m : ℕ) → grow_valid n b h e (clamped m) ≡ grow_valid n b h e m
unfolding clamped grow_valid
clamp_growth n b l h e m =
    by_cases (leb m max_pages)
    (λ t. rw t)
    (λ t. rw (t, long-gives n b h e (max_pages + 1) l (omega arith), long-gives n b h e m l (let z = leb-false m max_pages t in omega arith)))

pub clamped-le : (m : ℕ) → clamped m ≤ max_pages + 1
unfolding clamped
clamped-le m = by_cases (leb m max_pages) (λ t. rw t (let z = leb-true m max_pages t in omega arith)) (λ t. rw t (omega arith))
