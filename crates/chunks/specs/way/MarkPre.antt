-- What marking and taking a group release's blocks by their pages ask, and what they leave.
use Rattle.std.specs.Prelude.{ℕ, ◌≤◌, Bool, true, cond, List, ◌≡◌, length}
use Rattle.facts.specs.Lists.{every}
use Rattle.classes.specs.declared.Shape.{Shape}
use Rattle.classes.specs.way.Sound.{Sound}
use Rattle.fields.specs.Field.{words}
use Rattle.fields.specs.Ranges.{max_pages}
use Rattle.model.specs.Chunks.{chunks_max}
use Rattle.pages.specs.Carve.{out_words}
use Rattle.release.specs.way.Pre.{ClassPre}
use Rattle.chunks.specs.way.Match.{in_arena, arena_match}
use Rattle.chunks.specs.way.ValidPre.{PagesPre}
use Rattle.chunks.specs.way.Marks.{page_clean, own_count, own_book}
use Rattle.chunks.specs.way.Pass.{cleared}
use Rattle.chunks.specs.way.CallPre.{CallPre, test_fault}

-- ---- what is asked
-- the words' pages are in the arena
pub record OwnPre (n : ℕ) (b : List ℕ) (sh : Shape) (ws : List ℕ) : Type 0 where
  pub sound : Sound sh
  pub single : sh.pages ≡ 1
  pub few : n ≤ max_pages
  pub long : words n ≤ length b
  pub pages : every (in_arena n) ws ≡ true

-- m words of marks of the chunks' pages
pub record SweepPre (n : ℕ) (b : List ℕ) (m : ℕ) (gs : List ℕ) : Type 0 where
  pub few : m ≤ 128
  pub pages : PagesPre n b gs

pub record CleanPre (n : ℕ) (b : List ℕ) (c : ℕ) (sh : Shape) (m : ℕ) : Type 0 where
  pub few : m ≤ 128
  pub class : ClassPre n b c sh

-- after numbers 7, 8 and 9
pub record TryPre (n : ℕ) (b : List ℕ) (c : ℕ) (sh : Shape) (gs : List ℕ) : Type 0 where
  pub call : CallPre n b c sh
  pub chunks : length gs ≤ chunks_max

-- the chunks are the list's, by the words' own pages
pub record MatchedPre (n : ℕ) (b : List ℕ) (c : ℕ) (sh : Shape) (ws gs : List ℕ) : Type 0 where
  pub all : TryPre n b c sh gs
  pub matched : arena_match n ws gs ≡ true

-- and their pages can be marked
pub record SetPre (n : ℕ) (b : List ℕ) (c : ℕ) (sh : Shape) (m : ℕ) (ws gs : List ℕ) : Type 0 where
  pub matching : MatchedPre n b c sh ws gs
  pub all : m ≡ out_words sh
  pub ready : every (page_clean n b c sh m) gs ≡ true

-- ---- what is answered
pub record OwnMarked (r : ℕ) (b' b : List ℕ) (sh : Shape) (ws : List ℕ) : Type 0 where
  pub answer : r ≡ own_count b sh ws
  pub left : b' ≡ own_book b sh ws

-- the listed blocks were taken, and no number applies; or nothing was changed
-- Which lists go unrefused and are yet not taken is free: those of pages with a mark of a block that is not listed. They are taken by the tests, which follow.
pub record Tried (r : Bool) (b' : List ℕ) (n : ℕ) (b : List ℕ) (c : ℕ) (sh : Shape) (ws gs : List ℕ) : Type 0 where
  pub passed : r ≡ true → test_fault n b c sh ws gs ≡ 0
  pub left : b' ≡ cond r (cleared b sh ws) b
