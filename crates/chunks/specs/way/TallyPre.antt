-- What the functions ask, and what those that write ensure. b is the book, ws the list, gs the chunks, ss what stood in TALLY, cs the
-- counts.
use Rattle.std.specs.Prelude.{ℕ, ◌<◌, ◌≤◌, Bool, true, ◌&&◌, List, map, ◌≡◌, eqb, ltb, length, get_or}
use Rattle.facts.specs.Lists.{every, count}
use Rattle.words.specs.Word.{page_of}
use Rattle.fields.specs.Field.{page, tally, word, words, Has}
use Rattle.fields.specs.Ranges.{max_pages}
use Rattle.model.specs.Chunks.{chunks_max}
use Rattle.chunks.specs.way.Tally.{page_in, tally_in, named, Saved, chunk_at, has_chunk}

-- the page is one of an arena, and its TALLY is in the book; a chunk's page
abbrev pub tally_there : List ℕ → ℕ → Bool
tally_there b p = ltb p max_pages && ltb (word (page tally p)) (length b)

unfoldable pub chunk_there : List ℕ → ℕ → Bool
chunk_there b g = tally_there b (page_of g)

-- ---- naming
pub record NamePre (b gs ss : List ℕ) : Type 0 where
  pub there : every (chunk_there b) gs ≡ true
  pub few : length gs ≤ chunks_max
  pub room : length gs ≤ length ss

pub record Named (b' ss' b gs : List ℕ) : Type 0 where
  pub book : b' ≡ named b gs (length gs)
  pub saved : Saved b gs ss' (length gs)

-- ---- counting, from 0
pub record CountPre (n : ℕ) (b gs cs : List ℕ) : Type 0 where
  pub long : words n ≤ length b
  pub few : length gs ≤ chunks_max
  pub room : length gs ≤ length cs
  pub zeros : (k : ℕ) → get_or cs k 0 ≡ 0

pub record Counted (r : Bool) (cs' : List ℕ) (n : ℕ) (b ws gs : List ℕ) : Type 0 where
  pub answer : r ≡ every (has_chunk n b gs) ws
  pub counts : r ≡ true → (k : ℕ) → get_or cs' k 0 ≡ count k (map (chunk_at n b) ws)

-- ---- comparing: one chunk; all
pub record OnePre (b gs cs : List ℕ) (k : ℕ) : Type 0 where
  pub here : k < length gs
  pub below : page_in gs k < max_pages
  pub there : Has b (tally_in gs k)
  pub room : k < length cs

pub record FitPre (b gs cs : List ℕ) : Type 0 where
  pub there : every (chunk_there b) gs ≡ true
  pub room : length gs ≤ length cs

-- ---- the whole test: room for the chunks
pub record RoomPre (gs ss cs : List ℕ) : Type 0 where
  pub saved : length gs ≤ length ss
  pub counts : length gs ≤ length cs
  pub zeros : every (λ m. eqb m 0) cs ≡ true
