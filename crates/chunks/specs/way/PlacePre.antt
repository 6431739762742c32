-- What placing the chunks' pages asks of the words, and what it leaves.
use Rattle.std.specs.Prelude.{ℕ, ◌<◌, ◌≤◌, Bool, true, ◌&&◌, List, ◌++◌, ◌≡◌, ltb, length, drop}
use Rattle.facts.specs.Lists.{every}
use Rattle.words.specs.Limits.{class_rows}
use Rattle.words.specs.Word.{page_of}
use Rattle.classes.specs.declared.Shape.{Shape}
use Rattle.classes.specs.way.Sound.{Sound}
use Rattle.fields.specs.Field.{arena, frontier, words, get}
use Rattle.fields.specs.Ranges.{max_pages}
use Rattle.calls.specs.Release.{row_valid}
use Rattle.pages.specs.Valid.{links_valid}
use Rattle.chunks.specs.way.Pass.{place_all}

-- a page below the frontier, with the words that placing it reads in their ranges
abbrev pub place_valid : List ℕ → ℕ → Bool
place_valid b q = ltb q (get b (arena frontier)) && links_valid b q

pub record PlacePre (b : List ℕ) (c : ℕ) (sh : Shape) (gs fs : List ℕ) : Type 0 where
  pub known : c < class_rows
  pub sound : Sound sh
  pub few : get b (arena frontier) ≤ max_pages
  pub long : words (get b (arena frontier)) ≤ length b
  pub row : row_valid b c ≡ true
  pub pages : every (λ g. place_valid b (page_of g)) gs ≡ true
  pub room : length gs ≤ length fs

pub record Placed (b' fs' b : List ℕ) (c : ℕ) (sh : Shape) (h : ℕ) (gs fs : List ℕ) : Type 0 where
  pub left : b' ≡ (place_all b c sh h gs).book
  pub fates : fs' ≡ (place_all b c sh h gs).fates ++ drop (length gs) fs
