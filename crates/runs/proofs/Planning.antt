-- The loops over the holes: what is found so far is what the holes from `left` on come to; of `search` also: they are in their range.
--     scans-start, part-scans, one-scans        before the first turn; a part, or a hole, is weighed
--     searches-start, part-again, one_again     the same, where each is in its range
--     part_no, one-no, searches-done            the ways out of `search`: one is out of its range; none is left
--     plans-none                                a plan with no hole stored
--     found-not, found-valid                    what a search answered
--     touches-done                              the way out of `neighbours`
--     ends-again, ends-done                     the test of a give's range: a hole is tested; none is left
use Rattle.facts.proofs.Prelude.{ℕ, zero, suc, ◌-◌, ◌<◌, ◌≤◌, ◌^◌, arith, Bool, true, false, not, ◌&&◌, true≢false, List, [], ◌≡◌, refl, sym, ap, ◌∙◌, not-true, every, by_cases}
use Rattle.model.specs.declared.Hole.{Hole}
use Rattle.model.specs.HoleStore.{least_fit}
use Rattle.arena.specs.Load.{load_hole, load_holes}
use Rattle.arena.specs.Valid.{hole_valid, hole_ends_valid}
use Rattle.runs.specs.declared.holes.Best.{Best}
use Rattle.runs.specs.declared.holes.Neighbours.{Neighbours}
use Rattle.runs.specs.declared.holes.Edges.{Edges}
use Rattle.runs.specs.way.Plan.{Choice, chosen, hole_of, hole_code, plan_as, plan_of, neighbours_of}
use Rattle.runs.specs.way.Scan.{no_best, better_of, fold_holes, best_of, code_at, no_neighbours, neighbours_at}
use Rattle.runs.proofs.Loading.{and-true, part-valid, part-fold_holes}
use Rattle.runs.proofs.Least.{plan-is}
use Rattle.runs.proofs.Touching.{neighbours-are, valid_at, all_ends_valid}
use Rattle.std.specs.Prelude as Code
use Rattle.std.specs.Prelude.{Result, Ok, Err, None, is_some}
use Rattle.words.specs.declared.refusal.Refusal.{Refusal}
use Rattle.words.specs.declared.refusal.Refusal.TheVariants.{BookWord}

-- the holes that the words hold at the index i and on, of so many
abbrev from : List ℕ → ℕ → ℕ → List Hole
from b count i = load_holes b i (count - i)

-- what the holes from `left` on come to, by the step f; x₀ is before the first
pub record ScanSoFar {X : Type 0} (f : ℕ → Hole → X → X) (x₀ : X) (b : List ℕ) (count : ℕ) (x : X) (left : ℕ) : Type 0 where
  pub up_to : left ≤ count
  pub same : x ≡ fold_holes f left (from b count left) x₀

module _ {X : Type 0} (f : ℕ → Hole → X → X) (x₀ : X) (b : List ℕ) (count : ℕ) where
  pub scans-start : ScanSoFar f x₀ b count x₀ count
  unfolding load_holes fold_holes
  scans-start = let z : count - count ≡ 0 = omega arith in record { up_to = omega arith; same = rw z refl }

  module _ (x : X) (left : ℕ) (k : ScanSoFar f x₀ b count x left) where
    scans-again : (i : ℕ) → i ≤ left → (r : X) → r ≡ fold_holes f i (load_holes b i (left - i)) x → ScanSoFar f x₀ b count r i
    scans-again i l r g = record { up_to = let u = k.up_to in omega arith; same = g ∙ ap (fold_holes f i (load_holes b i (left - i))) k.same ∙ part-fold_holes b i left count l k.up_to f x₀ }

    pub part-scans : 4 ≤ left → (part : List Hole) → part ≡ load_holes b (left - 4) 4 → (r : X) → r ≡ fold_holes f (left - 4) part x → ScanSoFar f x₀ b count r (left - 4)
    part-scans l part e r g =
        let four : left - (left - 4) ≡ 4 = omega arith in
        scans-again (left - 4) (omega arith) r (rw four (g ∙ ap (λ (hs : List Hole). fold_holes f (left - 4) hs x) e))

    pub one-scans : 0 < left → (h : Hole) → h ≡ load_hole b (left - 1) → (r : X) → r ≡ f (left - 1) h x → ScanSoFar f x₀ b count r (left - 1)
    unfolding load_holes fold_holes
    one-scans l h e r g =
        let single : left - (left - 1) ≡ 1 = omega arith in
        scans-again (left - 1) (omega arith) r (rw single (g ∙ ap (λ (y : Hole). f (left - 1) y x) e))

    scans-done : left ≤ 0 → x ≡ fold_holes f 0 (load_holes b 0 count) x₀
    scans-done l =
        let z : left ≡ 0 = omega arith in
        let d : count - 0 ≡ count = omega arith in
        k.same ∙ ap (λ (i : ℕ). fold_holes f i (from b count i) x₀) z ∙ ap (λ (n : ℕ). fold_holes f 0 (load_holes b 0 n) x₀) d

pub record Searching (b : List ℕ) (count total f pages : ℕ) (best : Best) (left : ℕ) : Type 0 where
  pub scans : ScanSoFar (better_of pages) no_best b count best left
  pub valid : every (hole_valid total f) (from b count left) ≡ true

yes-is : (t : Bool) → not t ≡ false → t ≡ true
yes-is t d = by_cases t (λ y. y) (λ y. absurd (true≢false (ap not (sym y) ∙ d)))

-- what a search answered, for any plan
pub coded : (c : ℕ) → hole_code (hole_of c) ≡ c
coded zero = refl
coded (suc i) = refl

pub hole-none : (c : ℕ) → c ≡ 0 → None ≡ hole_of c
hole-none c e = rw e

pub hole-some : (c : ℕ) → (c ≡ 0 → ⊥) → Code.Some (c - 1) ≡ hole_of c
hole-some zero d = absurd (d refl)
hole-some (suc i) d = let z : suc i - 1 ≡ i = omega arith in ap Code.Some z

pub code-none : (c : ℕ) → is_some (hole_of c) ≡ false → c ≡ 0
code-none zero e = refl
code-none (suc i) e = absurd (true≢false e)

pub code-some : (c : ℕ) → is_some (hole_of c) ≡ true → c ≡ 0 → ⊥
code-some zero e z = true≢false (sym e)
code-some (suc i) e z = omega arith

module _ (p : Choice) (r : Result (Code.Option ℕ) Refusal) (k : r ≡ chosen p) where
  pub found-not : (e : Refusal) → r ≡ Err e → (p.valid ≡ false) × (e ≡ BookWord)
  found-not e z =
      by_cases p.valid
      (λ y. let w = rw y at k in let x : ◌≡◌ {A = Result (Code.Option ℕ) Refusal} (Ok (hole_of p.code)) (Err e) = sym w ∙ z in cc)
      (λ y. let w = rw y at k in let x : ◌≡◌ {A = Result (Code.Option ℕ) Refusal} (Err BookWord) (Err e) = sym w ∙ z in (y, cc))

  pub found-valid : (o : Code.Option ℕ) → r ≡ Ok o → (p.valid ≡ true) × (o ≡ hole_of p.code)
  found-valid o z =
      by_cases p.valid
      (λ y. let w = rw y at k in let x : ◌≡◌ {A = Result (Code.Option ℕ) Refusal} (Ok (hole_of p.code)) (Ok o) = sym w ∙ z in (y, cc))
      (λ y. let w = rw y at k in let x : ◌≡◌ {A = Result (Code.Option ℕ) Refusal} (Err BookWord) (Ok o) = sym w ∙ z in cc)

module _ (b : List ℕ) (count total f pages : ℕ) where
  abbrev ok : Hole → Bool
  ok = hole_valid total f

  abbrev all : Choice
  all = plan_of (load_holes b 0 count) total f pages

  pub searches_start : Searching b count total f pages no_best count
  unfolding load_holes
  searches_start = let z : count - count ≡ 0 = omega arith in record { scans = scans-start (better_of pages) no_best b count; valid = rw z refl }

  module _ (best : Best) (left : ℕ) (k : Searching b count total f pages best left) where
    -- the holes at i and on, up to those that were searched
    module _ (i : ℕ) (l : i ≤ left) (t : Bool) (is : t ≡ every ok (load_holes b i (left - i))) where
      so : every ok (from b count i) ≡ t
      so = sym (part-valid b i left count l k.scans.up_to ok) ∙ ap (λ (s : Bool). s && every ok (load_holes b i (left - i))) k.valid ∙ sym is

      invalid : not t ≡ true → Err BookWord ≡ chosen all
      unfolding plan_of
      invalid d =
          let u = k.scans.up_to in
          let z : count - 0 ≡ count = omega arith in
          let e : every ok (load_holes b 0 count) ≡ false = ap (λ (n : ℕ). every ok (load_holes b 0 n)) (sym z) ∙ sym (part-valid b 0 i count (omega arith) (omega arith) ok)
          ∙ ap (λ (s : Bool). s && every ok (load_holes b 0 (i - 0))) (so ∙ not-true t d) in
          rw e

    -- a part
    module _ (l : 4 ≤ left) (part : List Hole) (e : part ≡ load_holes b (left - 4) 4) (t : Bool) (is : t ≡ every ok part) where
      is-part : t ≡ every ok (load_holes b (left - 4) (left - (left - 4)))
      is-part = let four : left - (left - 4) ≡ 4 = omega arith in rw four (is ∙ ap (every ok) e)

      pub part-again : not t ≡ false → (r : Best) → r ≡ best_of pages (left - 4) part best → Searching b count total f pages r (left - 4)
      part-again d r g = record { scans = part-scans (better_of pages) no_best b count best left k.scans l part e r g; valid = so (left - 4) (omega arith) t is-part ∙ yes-is t d }

      pub part_no : not t ≡ true → Err BookWord ≡ chosen all
      part_no d = invalid (left - 4) (omega arith) t is-part d

    -- a hole
    module _ (l : 0 < left) (h : Hole) (e : h ≡ load_hole b (left - 1)) (t : Bool) (is : t ≡ ok h) where
      is_one : t ≡ every ok (load_holes b (left - 1) (left - (left - 1)))
      unfolding load_holes
      is_one = let single : left - (left - 1) ≡ 1 = omega arith in rw single (is ∙ ap ok e ∙ sym (and-true (ok (load_hole b (left - 1)))))

      pub one_again : not t ≡ false → (r : Best) → r ≡ better_of pages (left - 1) h best → Searching b count total f pages r (left - 1)
      one_again d r g = record { scans = one-scans (better_of pages) no_best b count best left k.scans l h e r g; valid = so (left - 1) (omega arith) t is_one ∙ yes-is t d }

      pub one-no : not t ≡ true → Err BookWord ≡ chosen all
      one-no d = invalid (left - 1) (omega arith) t is_one d

  pub searches_done : pages < 2 ^ 32 → f < 2 ^ 32 → (best : Best) (left : ℕ) → Searching b count total f pages best left → left ≤ 0 → (c : ℕ) → c ≡ code_at pages best → (o : Code.Option ℕ) → o ≡ hole_of c → Ok o ≡ chosen all
  searches_done pages-fits f-fits best left k l c e o g =
      let z : left ≡ 0 = omega arith in
      let d : count - 0 ≡ count = omega arith in
      let so : every ok (load_holes b 0 count) ≡ true = ap (λ (n : ℕ). every ok (load_holes b 0 n)) (sym d) ∙ ap (λ (i : ℕ). every ok (from b count i)) (sym z) ∙ k.valid in
      let such : best ≡ best_of pages 0 (load_holes b 0 count) no_best = scans-done (better_of pages) no_best b count best left k.scans l in
      let is : plan_as true c ≡ all = ap (plan_as true) (e ∙ ap (code_at pages) such) ∙ ap (λ (s : Bool). plan_as s (code_at pages (best_of pages 0 (load_holes b 0 count) no_best))) (sym so)
      ∙ plan-is pages pages-fits total f f-fits (load_holes b 0 count) in
      ap Ok g ∙ ap chosen is

  -- ---- the plan, of what the search answers
  pub plans_none : count ≡ 0 → Ok None ≡ chosen all
  unfolding plan_of load_holes least_fit
  plans_none z = let e : load_holes b 0 count ≡ [] = ap (load_holes b 0) z in rw e

-- ---- a give
pub touches_done : (b : List ℕ) (count : ℕ) (run : Edges) (sides : Neighbours) (left : ℕ) → ScanSoFar (neighbours_at run) no_neighbours b count sides left → left ≤ 0 → sides ≡ neighbours_of (load_holes b 0 count) run
touches_done b count run sides left k l = scans-done (neighbours_at run) no_neighbours b count sides left k l ∙ neighbours-are run (load_holes b 0 count)

module _ (b : List ℕ) (count f : ℕ) (t : Bool) (left : ℕ) (k : ScanSoFar (valid_at f) true b count t left) where
  pub ends-again : 0 < left → (h : Hole) → h ≡ load_hole b (left - 1) → (s : Bool) → s ≡ hole_ends_valid f h → ScanSoFar (valid_at f) true b count (s && t) (left - 1)
  ends-again l h e s g = one-scans (valid_at f) true b count t left k l h e (s && t) (ap (λ (y : Bool). y && t) g)

  pub ends-done : left ≤ 0 → t ≡ every (hole_ends_valid f) (load_holes b 0 count)
  ends-done l = scans-done (valid_at f) true b count t left k l ∙ all_ends_valid f (load_holes b 0 count) 0
