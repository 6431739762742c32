-- Equality with the original where document 02 still claims it, of the exported calls: they answer as document 01's own rules do. That these are the
-- Rust's is compared, not proved (docs/DIFFERENCES.md). proofs/Original proves both records.
use Rattle.std.specs.Prelude.{ℕ, suc, ◌*◌, ◌^◌, ◌≤◌, ◌<◌, ◌&&◌, List, ◌++◌, ◌≡◌, leb, ltb, length, take}
use Rattle.classes.specs.declared.Sized.TheVariants.{Small, Medium}
use Rattle.classes.specs.Sizes.{max_small_size, max_medium_size, page_bytes}
use Rattle.classes.specs.Lookup.{size_class, class_for_size, medium_class_for_size}
use Rattle.classes.specs.Shape.{shape_of, class_count}
use Rattle.model.specs.Calls.{Call}
use Rattle.model.specs.Destination.{destination_of}
use Rattle.model.specs.Original.{original_answers, Claimed}
use Rattle.vigbuso.specs.Sizes.{SizeEnds}
use Rattle.refinement.specs.Run.{answers_in}
use Rattle.demands.specs.Start.{Start, pages, rules, calls, replies}
use Rattle.demands.specs.Parking.{goes_to}

-- of a start without rows, an opening or a trace: "equality with the Rust is claimed for these alone" (document 02, A.9)
pub record Equality (s : Start) : Type 0 where
  -- as long as no given run that the total allows touches a hole (A.4) and each hole that document 01's rules choose is the lowest page (A.8), each
  -- call is answered as these rules answer it
  pub answered : (xs : List Call) → Claimed (pages s) (calls s xs) → answers_in (replies s xs) ≡ original_answers (pages s) (calls s xs)
  -- whatever calls ys follow: "only for the calls before the first such choice"
  pub before : (xs ys : List Call) → Claimed (pages s) (calls s xs)
      → take (length (calls s xs)) (answers_in (replies s (xs ++ ys))) ≡ take (length (calls s xs)) (original_answers (pages s) (calls s (xs ++ ys)))
  -- the limits, where e empty runs and k cold ones are kept: "at most 4 empty, .. then 256 cold, then given to the arena"
  pub limits : (c e k : ℕ) → c < 64 → destination_of (shape_of c) (rules s c) e k ≡ goes_to (ltb e 4) (ltb k 256)
  -- "Empty spans: 32 and 8 MiB; cold: 256"
  pub span_limits : (c e k : ℕ) → 64 ≤ c → c < class_count → destination_of (shape_of c) (rules s c) e k ≡ goes_to (ltb e 32 && leb (suc e * (shape_of c).pages * page_bytes) (8 * 2 ^ 20)) (ltb k 256)

-- the sizes that A.6 did not change: `class_for_size` up to 16,384, `medium_class_for_size` from there to 65,472
pub record SameLookups : Type 0 where
  pub small : (size r c c' : ℕ) → size ≤ max_small_size → SizeEnds (size_class size) r c c' → SizeEnds (Small (class_for_size size)) r c c'
  pub medium : (size r c c' : ℕ) → max_small_size < size → size ≤ max_medium_size → SizeEnds (size_class size) r c c' → SizeEnds (Medium (medium_class_for_size size)) r c c'
