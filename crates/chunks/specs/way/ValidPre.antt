-- Number 13's tests of a group release, part by part, and what each asks.
--     chunk_valid          the page of a chunk, for so many blocks
--     with_destination     the counts after one page more at a destination
--     counted             the counts after one chunk more
use Rattle.std.specs.Prelude.{ℕ, ◌+◌, ◌^◌, ◌<◌, ◌≤◌, Bool, true, cond, List, ◌≡◌, ltb, length}
use Rattle.facts.specs.Lists.{every}
use Rattle.words.specs.Word.{count_of, page_of}
use Rattle.classes.specs.declared.Shape.{Shape}
use Rattle.classes.specs.way.Sound.{Sound}
use Rattle.rules.specs.declared.Limits.{Limits}
use Rattle.fields.specs.Field.{page, free, carved, words, get}
use Rattle.fields.specs.Ranges.{max_pages, max_parked}
use Rattle.model.specs.Chunks.{chunks_max}
use Rattle.words.specs.Host.{digit}
use Rattle.model.specs.declared.Destination.{Destination}
use Rattle.model.specs.Destination.{destination_of, is_empty, is_cold, is_arena}
use Rattle.calls.specs.Release.{page_valid, row_valid}
use Rattle.calls.specs.Chunks.{returns_all}
use Rattle.release.specs.way.Pre.{ClassPre}
use Rattle.chunks.specs.declared.valid.Stores.{Stores}

abbrev pub chunk_valid : List ℕ → Shape → ℕ → Bool
chunk_valid b sh g = page_valid b sh (count_of g) (page_of g)

abbrev pub with_destination : Stores → Destination → Stores
with_destination s k = record { empties = s.empties + digit (is_empty k); colds = s.colds + digit (is_cold k); runs = s.runs + digit (is_arena k) }

unfoldable pub counted : List ℕ → Shape → Limits → ℕ → Stores → Stores
counted b sh lim g s = cond (returns_all b g) (with_destination s (destination_of sh lim s.empties s.colds)) s

-- ---- what is asked
pub record PagesPre (n : ℕ) (b gs : List ℕ) : Type 0 where
  pub few : n ≤ max_pages
  pub long : words n ≤ length b
  pub below : every (λ g. ltb (page_of g) n) gs ≡ true

-- a chunk whose page has passed
pub record ReturnsPre (b : List ℕ) (g : ℕ) : Type 0 where
  pub below : page_of g < max_pages
  pub there : words (page_of g + 1) ≤ length b
  pub room : get b (page free (page_of g)) + count_of g ≤ get b (page carved (page_of g))

pub record WithDestinationPre (s : Stores) : Type 0 where
  pub empties : s.empties < 2 ^ 31
  pub colds : s.colds < 2 ^ 31
  pub runs : s.runs < 2 ^ 31

pub record CountPre (b : List ℕ) (sh : Shape) (g : ℕ) (s : Stores) : Type 0 where
  pub sound : Sound sh
  pub chunk : ReturnsPre b g
  pub empties : s.empties ≤ max_parked
  pub colds : s.colds < 2 ^ 31
  pub runs : s.runs < 2 ^ 31

-- all chunks' pages have passed
pub record RunsPre (n : ℕ) (b : List ℕ) (sh : Shape) (lim : Limits) (gs : List ℕ) (e k : ℕ) : Type 0 where
  pub sound : Sound sh
  pub pages : PagesPre n b gs
  pub valid : every (chunk_valid b sh) gs ≡ true
  pub chunks : length gs ≤ chunks_max
  pub limit : lim.empty ≤ max_parked
  pub empties : e ≤ max_parked
  pub colds : k ≤ max_parked

pub record ChunksValidPre (n : ℕ) (b : List ℕ) (c : ℕ) (sh : Shape) (gs : List ℕ) : Type 0 where
  pub class : ClassPre n b c sh
  pub below : every (λ g. ltb (page_of g) n) gs ≡ true
  pub chunks : length gs ≤ chunks_max

-- the row has passed too
pub record PagesGivenPre (n : ℕ) (b : List ℕ) (c : ℕ) (sh : Shape) (gs : List ℕ) : Type 0 where
  pub all : ChunksValidPre n b c sh gs
  pub pages : every (chunk_valid b sh) gs ≡ true
  pub row : row_valid b c ≡ true
