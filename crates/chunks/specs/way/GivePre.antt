-- What giving the chunks' runs to the arena asks: pages of an arena of n pages, and number 13's test for all that is given.
use Rattle.std.specs.Prelude.{ℕ, ◌+◌, ◌*◌, ◌≤◌, Bool, true, cond, List, ◌≡◌, eqb, ltb, length}
use Rattle.facts.specs.Lists.{every}
use Rattle.words.specs.Word.{page_of}
use Rattle.classes.specs.declared.Shape.{Shape}
use Rattle.fields.specs.Field.{arena, frontier, get, words}
use Rattle.fields.specs.Ranges.{max_pages}
use Rattle.model.specs.Destination.{arena_fate, retired}
use Rattle.arena.specs.Valid.{give_valid}
use Rattle.chunks.specs.way.Pass.{gives_in}

-- number 13's test for giving m pages, if there are any
unfoldable pub gives_valid : ℕ → List ℕ → ℕ → Bool
gives_valid n b m = cond (eqb m 0) true (give_valid n b m)

pub record GiveChunkPre (n : ℕ) (b : List ℕ) (m g f : ℕ) : Type 0 where
  pub few : n ≤ max_pages
  pub long : words n ≤ length b
  pub inside : page_of g + m ≤ n
  pub valid : cond (eqb f (retired arena_fate)) (give_valid n b m) true ≡ true

pub record GiveChunksPre (n : ℕ) (b : List ℕ) (sh : Shape) (gs fs : List ℕ) : Type 0 where
  pub few : n ≤ max_pages
  pub long : words n ≤ length b
  pub single : sh.pages ≡ 1
  pub below : every (λ g. ltb (page_of g) n) gs ≡ true
  pub low : every (λ g. ltb (page_of g) (get b (arena frontier))) gs ≡ true
  pub fates : length gs ≤ length fs
  pub valid : gives_valid n b (length (gives_in gs fs) * sh.pages) ≡ true
