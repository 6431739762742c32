-- What a release asks of its lists, told from the calls and answers of a history (vs) and from the lists' words: numbers 3, 7 to 11 and 15
-- with no look at the book. c is the class, h the host word, ws the blocks, gs the groups (chunks here), fs the lent fates.
--     Twice        a block out in the class stands twice in the list
--     OneRun       the blocks stand on one page or span
--     ListOut      what a release by list asks
--     Plain        what a group release asks before it looks at a block; ChunksOut, all that it asks
use Rattle.std.specs.Prelude.{ℕ, ◌≤◌, ◌<◌, Bool, true, false, not, ◌&&◌, List, map, ◌≡◌, eqb, length}
use Rattle.facts.specs.Lists.{is_nil, filter, every, elem, distinct, count}
use Rattle.words.specs.Host.{host_max}
use Rattle.words.specs.Word.{chunk_kind, count_of, page_of}
use Rattle.classes.specs.declared.Shape.{Shape}
use Rattle.classes.specs.Shape.{shape_of}
use Rattle.model.specs.Page.{word_of}
use Rattle.model.specs.Release.{of_kind}
use Rattle.model.specs.Chunks.{chunks_max}
use Rattle.model.specs.History.{Event}
use Rattle.model.specs.Entries.{OutIn, AllOut}
use Rattle.pages.specs.Stack.{page_at}

-- number 15 applies (document 02, A.2): "a block out in this class stands twice in one list"
pub record Twice (vs : List Event) (c : ℕ) (ws : List ℕ) : Type 0 where
  pub word : ℕ
  pub out : OutIn vs c word
  pub times : 2 ≤ count word ws

-- w is a block of the run that begins at page q: "block i of a page starts at byte 48 + i × size", of a span "at 64 + i × size"
pub record BlockOf (sh : Shape) (q w : ℕ) : Type 0 where
  pub index : ℕ
  pub inside : index < sh.capacity
  pub word : w ≡ word_of sh q index

-- number 11 does not apply: no block "is on another page or span than the first". A word is a block of one run only (`one-first`).
pub record OneRun (sh : Shape) (ws : List ℕ) : Type 0 where
  pub first : ℕ
  pub blocks : (w : ℕ) → elem w ws ≡ true → BlockOf sh first w

-- a release by list: each field is a number that does not apply
pub record ListOut (vs : List Event) (c h : ℕ) (ws : List ℕ) : Type 0 where
  pub host : h ≤ host_max  -- 3
  pub listed : is_nil ws ≡ false  -- 7
  pub kinds : every (of_kind (shape_of c).kind) ws ≡ true  -- 9
  pub out : AllOut vs c ws  -- 15, 10
  pub together : OneRun (shape_of c) ws  -- 11

-- a group's count is not 0, and it is the list's: as many of the blocks are on its page (a small block's run is its page)
abbrev pub count_fits : List ℕ → ℕ → Bool
count_fits ws g = not (eqb (count_of g) 0) && eqb (count_of g) (length (filter (λ w. eqb (page_at w) (page_of g)) ws))

-- number 11 does not apply to groups: none has "a page twice, a count 0 or not the list's", and the list no "page missing"
abbrev pub groups_fit : List ℕ → List ℕ → Bool
groups_fit ws gs = distinct (map page_of gs) && (every (count_fits ws) gs && every (λ w. elem (page_at w) (map page_of gs)) ws)

-- a group release
pub record Plain (c h : ℕ) (ws gs fs : List ℕ) : Type 0 where
  pub host : h ≤ host_max  -- 3
  pub listed : is_nil ws ≡ false  -- 7
  pub grouped : is_nil gs ≡ false
  pub few : length gs ≤ chunks_max  -- 8
  pub room : length gs ≤ length fs
  pub kinds : every (of_kind (shape_of c).kind) ws ≡ true  -- 9
  pub group_kinds : every (of_kind chunk_kind) gs ≡ true

pub record ChunksOut (vs : List Event) (c h : ℕ) (ws gs fs : List ℕ) : Type 0 where
  pub plain : Plain c h ws gs fs
  pub out : AllOut vs c ws  -- 15, 10
  pub pages : distinct (map page_of gs) ≡ true  -- 11: no page twice
  pub counts : every (count_fits ws) gs ≡ true  -- no count 0 or not the list's
  pub present : every (λ w. elem (page_at w) (map page_of gs)) ws ≡ true  -- no page missing
