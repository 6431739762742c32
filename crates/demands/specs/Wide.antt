-- Document 02, A.11, over the exported calls and the words that pass between editor and heap. proofs/Wide proves it.
--     Parts     a word's parts stand where A.11 puts them, and lose nothing
--     Wide      the longest arena; a block's word tells its byte on every page of it; what a word says beyond the arena is refused, however
--               many of its lower bits are those of a block or a page that is there
use Rattle.std.specs.Prelude.{ℕ, ◌+◌, ◌*◌, ◌^◌, ◌≤◌, ◌<◌, true, List, [], ◌∷◌, ◌≡◌, length}
use Rattle.std.proofs.Math.Option.{some}
use Rattle.facts.specs.Lists.{elem}
use Rattle.words.specs.Host.{host_max}
use Rattle.words.specs.Word.{kind_of, granule_of, count_of, page_of}
use Rattle.classes.specs.Sizes.{granule_bytes, page_bytes}
use Rattle.classes.specs.Shape.{shape_of}
use Rattle.rules.specs.Rules.{rows_fault}
use Rattle.fields.specs.Field.{words}
use Rattle.model.specs.Calls as Calls
use Rattle.model.specs.Calls.{Call, names}
use Rattle.model.specs.Entries.{OutIn, AllOut}
use Rattle.model.specs.Page.{page_granules, word_of}
use Rattle.model.specs.Release.{of_kind}
use Rattle.trace.specs.Trace.{say_of, back}
use Rattle.vigbuso.specs.Direct.{open_on}
use Rattle.demands.specs.Call.{call}
use Rattle.demands.specs.Run.{Opens}
use Rattle.demands.specs.Start.{Start, pages, Starts, book_after, observed}
use Rattle.demands.specs.Returns.{Plain}

-- "kind in the top two, a block's granule in the low 62, a group's count in the 12 below the kind and its page in the low 50"
pub record Parts : Type 0 where
  pub kind : (k g : ℕ) → g < 2 ^ 62 → kind_of (k * 2 ^ 62 + g) ≡ k
  pub granule : (k g : ℕ) → g < 2 ^ 62 → granule_of (k * 2 ^ 62 + g) ≡ g
  pub count : (m p : ℕ) → m < 2 ^ 12 → p < 2 ^ 50 → count_of (3 * 2 ^ 62 + (m * 2 ^ 50 + p)) ≡ m
  pub page : (m p : ℕ) → m < 2 ^ 12 → p < 2 ^ 50 → page_of (3 * 2 ^ 62 + (m * 2 ^ 50 + p)) ≡ p

pub record Wide : Type 0 where
  pub parts : Parts
  -- "Arena length may reach 1,048,576 pages"; "Number 1 now starts above 1,048,576"
  pub longest : (rows b : List ℕ) → rows_fault rows ≡ 0 → words 1048576 ≤ length b → Opens 1048576 rows b
  pub longer : (n : ℕ) (rows b : List ℕ) → 1048576 < n → (open_on b n rows).code ≡ 1
  -- block i of the class's run at page q, wherever it lies in the longest arena: its word is one of 64 bits, and tells its first byte
  pub fits : (c q i : ℕ) → q + (shape_of c).pages ≤ 1048576 → i < (shape_of c).capacity → word_of (shape_of c) q i < 2 ^ 64
  pub byte : (c q i : ℕ) → q + (shape_of c).pages ≤ 1048576 → i < (shape_of c).capacity
      → granule_of (word_of (shape_of c) q i) * granule_bytes ≡ q * page_bytes + ((shape_of c).header + i * (shape_of c).block) * granule_bytes
  -- after every history a word whose granule is beyond the arena is out in no class, and its release is refused as 10
  pub not_there : (s : Start) → Starts s → (xs : List Call) (c w : ℕ) → pages s * page_granules ≤ granule_of w → OutIn (observed s xs) c w → ⊥
  pub beyond : (s : Start) → Starts s → (xs : List Call) (c : ℕ) (x : Call) (h w : ℕ) → h ≤ host_max → names x ≡ some (record { class = c; request = Calls.give_back h (w ∷ []) })
      → of_kind (shape_of c).kind w ≡ true → pages s * page_granules ≤ granule_of w → (call (book_after s xs) x).answer ≡ Calls.refused 10
  -- a group whose page is beyond it is refused as 11, if no number before applies
  pub beyond_chunk : (s : Start) → Starts s → (xs : List Call) (c h : ℕ) (ws gs fs : List ℕ) → c < 64 → Plain c h ws gs fs → AllOut (observed s xs) c ws
      → (g : ℕ) → elem g gs ≡ true → pages s ≤ page_of g → (call (book_after s xs) (Calls.release_bin_chunks c h ws gs fs)).answer ≡ Calls.refused 11
  -- "The trace's own words in A.7 keep 32 bits .., and a place from 2 to the 30th on can't be named in it."
  pub unnamed : (w p : ℕ) → say_of w ≡ back p → p < 2 ^ 30
