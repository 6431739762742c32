-- What pushing the listed blocks asks: the page of every listed word is there, and its stack has room for the words on it.
--     own_block    the word is a block of the page that has its granule
--     on_page      the word lies on a page
use Rattle.std.specs.Prelude.{ℕ, ◌+◌, ◌-◌, ◌<◌, ◌≤◌, Bool, true, false, List, ◌≡◌, eqb, ltb, length, get_or, drop}
use Rattle.facts.specs.Lists.{every}
use Rattle.classes.specs.declared.Shape.{Shape}
use Rattle.classes.specs.way.Sound.{Sound}
use Rattle.fields.specs.Field.{page, free, words, get}
use Rattle.fields.specs.Ranges.{max_pages}
use Rattle.pages.specs.way.Pre.{PushPre}
use Rattle.pages.specs.Stack.{is_block, page_at, page_slots}
use Rattle.chunks.specs.way.Match.{words_on}
use Rattle.chunks.specs.way.Pass.{push_all}

unfoldable pub own_block : Shape → ℕ → Bool
own_block sh w = is_block sh (page_at w) w

abbrev pub on_page : ℕ → ℕ → Bool
on_page q w = eqb (page_at w) q

-- the word's page may be one of an arena
abbrev pub in_reach : ℕ → Bool
in_reach w = ltb (page_at w) max_pages

pub record PushAllPre (b : List ℕ) (sh : Shape) (ws : List ℕ) : Type 0 where
  pub sound : Sound sh
  pub below : (q : ℕ) → 1 ≤ words_on ws q → q < max_pages
  pub there : (q : ℕ) → 1 ≤ words_on ws q → words (q + 1) ≤ length b
  pub slots : (q : ℕ) → 1 ≤ words_on ws q → get b (page free q) + words_on ws q ≤ page_slots

-- ---- neighbours on one page
-- a place of the list, and the word there
pub record EntryPre (ws : List ℕ) (i : ℕ) : Type 0 where
  pub here : i < length ws
  pub reach : in_reach (get_or ws i 0) ≡ true

-- all words from place r on lie on page q, and the one before does not
pub record TailOn (r q : ℕ) (ws : List ℕ) : Type 0 where
  pub within : r ≤ length ws
  pub on : every (on_page q) (drop r ws) ≡ true
  pub stops : 0 < r → on_page q (get_or ws (r - 1) 0) ≡ false

-- blocks of page q, all of them
pub record TailPre (b : List ℕ) (sh : Shape) (q : ℕ) (ws : List ℕ) : Type 0 where
  pub pre : PushPre b sh q ws
  pub blocks : every (is_block sh q) ws ≡ true
  pub on : every (on_page q) ws ≡ true

-- a list that is not empty
pub record LastPre (b : List ℕ) (sh : Shape) (ws : List ℕ) : Type 0 where
  pub all : PushAllPre b sh ws
  pub blocks : every (own_block sh) ws ≡ true
  pub some : 1 ≤ length ws

-- the words from place r on were pushed
pub record PushedFrom (r : ℕ) (b' b : List ℕ) (sh : Shape) (ws : List ℕ) : Type 0 where
  pub some : r < length ws
  pub left : b' ≡ push_all b sh (drop r ws)
