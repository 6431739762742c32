-- The steps of a report: number 13 on what it reads, the pages of the parked runs, the figures.
use Rattle.facts.proofs.Prelude.{ℕ, ◌+◌, ◌-◌, ◌*◌, ◌^◌, ◌≤◌, ◌<◌, arith, mul-le-mul, add-one, Bool, true, false, not, List, ◌≡◌, refl, ap}
use Rattle.facts.proofs.Prelude.{◌∙◌, leb, leb-true, not-true, not-false, total, below, and_left, and_right, every-at}
use Rattle.std.specs.List.{list_all, range_with_len}
use Rattle.facts.proofs.Ranges.{all-below}
use Rattle.words.specs.Limits.{max_parked, class_rows}
use Rattle.classes.specs.declared.Shape.{Shape}
use Rattle.classes.specs.Shape.{shape_of}
use Rattle.classes.proofs.Shapes.{shape-sound}
use Rattle.fields.specs.Field.{arena, class, held, empty_count, cold_count, get}
use Rattle.model.specs.declared.Figures.{Figures}
use Rattle.model.specs.Heap.{parked_pages}
use Rattle.runs.specs.declared.Arena.{Arena}
use Rattle.arena.specs.Load.{load_store, load_arena}
use Rattle.arena.specs.Valid.{record_valid, counts_valid, all_counts_valid, report_valid}
use Rattle.arena.specs.Calls.{parked_runs, figures}
use Rattle.runs.specs.way.Record.{record_of}
use Rattle.runs.proofs.Acts.{valid_record}
use Rattle.runs.specs.way.Pre.{BookIn}
use Rattle.direct.specs.Answer.{Report, Reported, report_of}
use Rattle.direct.specs.way.Pre.{CountsIn, parked_max, Parks}

-- ---- number 13, class by class
module _ (b : List ℕ) where
  pub all-counts : list_all (counts_valid b) (range_with_len 0 class_rows) ≡ all_counts_valid b
  unfolding all_counts_valid
  all-counts = all-below (counts_valid b) class_rows

  pub counts-at : (c : ℕ) → all_counts_valid b ≡ true → c < class_rows → counts_valid b c ≡ true
  unfolding all_counts_valid
  counts-at c t h = every-at (counts_valid b) class_rows c t h

-- ---- the parked runs of a class
module _ (b : List ℕ) (c x y : ℕ) (t : counts_valid b c ≡ true) (e : x ≡ get b (class empty_count c)) (k : y ≡ get b (class cold_count c)) where
  runs-few : x + y ≤ max_parked + max_parked
  runs-few =
      omega (
        arith,
        leb-true x max_parked (rw e (and_left (leb (get b (class empty_count c)) max_parked) _ t)),
        leb-true y max_parked (rw k (and_right (leb (get b (class empty_count c)) max_parked) _ t)),
      )

  pub runs_fit : x + y < 2 ^ 32
  runs_fit = omega (arith, runs-few)

  pub parks-none : x + y ≡ 0 → Parks b c 0
  parks-none h =
      let none : parked_runs b c ≡ 0 = rw (← e, ← k) h in
      record { pages = rw none (omega arith); few = omega arith }

  module _ (s : Shape) (d : s ≡ shape_of c) where
    pages-few : (x + y) * s.pages ≤ parked_max
    pages-few = let short : s.pages ≤ 8 = rw d (shape-sound c).short in mul-le-mul runs-few short

    pub pages-fit : (x + y) * s.pages < 2 ^ 32
    pages-fit = omega (arith, pages-few)

    pub parks : Parks b c ((x + y) * s.pages)
    parks = record { pages = rw (d, e, k); few = pages-few }

-- ---- of all classes
pub record ParkedInv (b : List ℕ) (sum c : ℕ) : Type 0 where
  pub at : c ≤ class_rows
  pub is : sum ≡ total (λ k. parked_runs b k * (shape_of k).pages) (below c)
  pub low : sum ≤ c * parked_max

pub parked-start : (b : List ℕ) → ParkedInv b 0 0
parked-start b = record { at = omega arith; is = refl; low = omega arith }

pub parked-next : (b : List ℕ) (sum c r : ℕ) → ParkedInv b sum c → c < class_rows → Parks b c r → ParkedInv b (sum + r) (c + 1)
parked-next b sum c r v h e = record { at = omega arith; is = rw add-one (omega (arith, v.is, e.pages)); low = omega (arith, v.low, e.few) }

pub sum_fits : (b : List ℕ) (sum c r : ℕ) → ParkedInv b sum c → c < class_rows → Parks b c r → sum + r < 2 ^ 32
sum_fits b sum c r v h e = omega (arith, v.low, e.few)

pub parked-end : (b : List ℕ) (sum c : ℕ) → ParkedInv b sum c → class_rows ≤ c → sum ≡ parked_pages (parked_runs b)
unfolding parked_pages
parked-end b sum c v h = let e : c ≡ class_rows = omega (arith, v.at) in v.is ∙ ap (λ m. total (λ k. parked_runs b k * (shape_of k).pages) (below m)) e

-- ---- the figures
module _ (n : ℕ) (b : List ℕ) where
  pub counts_in : BookIn b n → report_valid n b ≡ true → CountsIn b
  unfolding report_valid
  counts_in k t = record { long = omega (arith, k.long); valid = and_right (record_valid n b) (all_counts_valid b) t }

  pub figures-below : (a : Arena) → report_valid n b ≡ true → a ≡ record_of b → a.frontier ≤ n
  unfolding report_valid
  figures-below a t e = rw e (valid_record n b (and_left (record_valid n b) (all_counts_valid b) t)).frontier

  pub figures-are : (a : Arena) (d p : ℕ) → a ≡ record_of b → d ≡ get b (arena held) → p ≡ parked_pages (parked_runs b)
      → record { commits = a.commits; reuses = a.reuses; abandoned = a.abandoned; held = d; idle = a.total + (n - a.frontier) + p; overlap = p } ≡ figures n b
  unfolding load_arena load_store
  figures-are a d p e f g = rw (e, f, g)

  -- number 13
  module _ (t : Bool) (e : t ≡ record_valid n b) where
    pub no_record : not t ≡ true → Report.Refused 13 ≡ report_of n b
    unfolding report_of report_valid
    no_record v = rw (← e, not-true t v)

    module _ (u : Bool) (v : not t ≡ false) (f : u ≡ all_counts_valid b) where
      pub no-counts : u ≡ false → Report.Refused 13 ≡ report_of n b
      unfolding report_of report_valid
      no-counts w = rw (← e, not-false t v, ← f, w)

      pub valid-reported : u ≡ true → report_valid n b ≡ true
      unfolding report_valid
      valid-reported w = rw (← e, not-false t v, ← f, w)

      pub told : (r : Figures) → u ≡ true → r ≡ figures n b → Reported r ≡ report_of n b
      unfolding report_of
      told r w g = rw (valid-reported w, g)
