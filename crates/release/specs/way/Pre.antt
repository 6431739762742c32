-- What the functions ask of the words.
use Rattle.std.specs.Prelude.{◌≡◌, ℕ, ◌+◌, ◌<◌, ◌≤◌, true, List, length, nat_lt}
use Rattle.facts.specs.Lists.{every}
use Rattle.words.specs.Limits.{class_rows}
use Rattle.classes.specs.declared.Shape.{Shape}
use Rattle.classes.specs.way.Sound.{Sound}
use Rattle.fields.specs.Field.{words}
use Rattle.fields.specs.Ranges.{max_pages}
use Rattle.pages.specs.Stack.{index_of, is_block, page_at, page_slots}

-- the run at q
pub record InPre (b : List ℕ) (sh : Shape) (q : ℕ) : Type 0 where
  pub sound : Sound sh
  pub below : q < max_pages
  pub there : words (q + 1) ≤ length b

-- the class's runs, in an arena of n pages
pub record ClassPre (n : ℕ) (b : List ℕ) (c : ℕ) (sh : Shape) : Type 0 where
  pub known : c < class_rows
  pub sound : Sound sh
  pub few : n ≤ max_pages
  pub long : words n ≤ length b

-- every listed word's granule is in the arena
pub record StartPre (n : ℕ) (b ws : List ℕ) : Type 0 where
  pub long : words n ≤ length b
  pub pages : every (λ w. nat_lt (page_at w) n) ws ≡ true

-- every listed word is a block of the run at q, and has an out bit
pub record TakePre (b : List ℕ) (sh : Shape) (q : ℕ) (ws : List ℕ) : Type 0 where
  pub run : InPre b sh q
  pub bits : every (λ w. nat_lt (index_of sh q w) page_slots) ws ≡ true
  pub blocks : every (is_block sh q) ws ≡ true
