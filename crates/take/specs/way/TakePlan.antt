-- What a take's plan and its fill ask of the words, and what a plan answers.
--     TakePre      a book of n pages, its frontier in range, and a class with its shape
--     share        the blocks that the walk finds on the page with a code; 13 where a test fails
--     Foretold     the plan of one source: a refusal where a test fails, else what the fill will yield
use Rattle.std.specs.Prelude.{ℕ, suc, ◌+◌, ◌-◌, ◌<◌, ◌≤◌, Bool, true, false, cond, ◌&&◌, List, ◌++◌, map, ◌≡◌, eqb, leb, length, drop, Result, Ok, Err}
use Rattle.words.specs.Host.{host_max}
use Rattle.words.specs.Limits.{class_rows}
use Rattle.words.specs.declared.refusal.Refusal.{Refusal}
use Rattle.words.specs.declared.refusal.Refusal.TheVariants.{BookWord}
use Rattle.classes.specs.declared.Shape.{Shape}
use Rattle.classes.specs.way.Sound.{Sound}
use Rattle.fields.specs.Field.{arena, class, page, frontier, partial, empty, owner, free, carved, next, prev, words, get}
use Rattle.fields.specs.Ranges.{max_pages}
use Rattle.model.specs.Page.{word_of}
use Rattle.pages.specs.Stack.{latest, draw, spliced, page_slots}
use Rattle.pages.specs.Links.{top, unpark_run}
use Rattle.pages.specs.declared.Park.{Park}
use Rattle.pages.specs.declared.Park.TheVariants.{Empty, Cold}
use Rattle.pages.specs.way.Pre.{RowPre, UnparkRunPre, DrawPre}
use Rattle.take.specs.declared.call.Taken.{Taken}
use Rattle.calls.specs.Take.{sound, walk, Filled, unlist_spent, fill_from}

pub record TakePre (n : ℕ) (b : List ℕ) (c : ℕ) (sh : Shape) : Type 0 where
  pub known : c < class_rows
  pub shape : Sound sh
  pub few : n ≤ max_pages
  pub long : words n ≤ length b
  pub bound : get b (arena frontier) ≤ n

pub record TopEntriesPre (b : List ℕ) (q t : ℕ) : Type 0 where
  pub there : words (q + 1) ≤ length b
  pub slots : t ≤ page_slots

pub record SupplyPre (b : List ℕ) (sh : Shape) (q : ℕ) : Type 0 where
  pub there : words (q + 1) ≤ length b
  pub some : get b (page free q) ≤ page_slots
  pub carved : get b (page carved q) ≤ sh.capacity
  pub few : sh.capacity ≤ page_slots

unfoldable pub share : ℕ → List ℕ → ℕ → Shape → ℕ → ℕ → ℕ → Result ℕ Refusal
share n b c sh m code y =
    let q = code - 1 in
    cond (leb code (get b (arena frontier)) && (eqb (get b (page prev q)) y && sound n b c sh 1 m q)) (Ok (length (latest b sh q m))) (Err BookWord)

-- the walk and the fill of a whole take
abbrev pub walks_from : ℕ → List ℕ → ℕ → Shape → Bool
walks_from n b c sh = walk n b c sh sh.batch sh.batch (get b (class partial c)) 0

abbrev pub fills : List ℕ → ℕ → Shape → Filled
fills b c sh = fill_from b c sh sh.batch sh.batch

abbrev pub Foretold : Result Taken Refusal → Bool → Filled → Type 0
Foretold p ok f = p ≡ cond ok (Ok (record { count = length f.blocks; virgin = f.virgin })) (Err BookWord)

-- ---- a store: the class has no partial page, and the store has one
pub record ParkedPre (n : ℕ) (b : List ℕ) (c : ℕ) (sh : Shape) (k : Park) : Type 0 where
  pub pre : TakePre n b c sh
  pub alone : get b (class partial c) ≡ 0
  pub some : 0 < get b (class (top k) c)

-- the first store that has a page, or the last
abbrev pub first_store : List ℕ → ℕ → Park
first_store b c = cond (eqb (get b (class empty c)) 0) Cold Empty

-- its newest page heads the partial list
abbrev pub unparked : List ℕ → ℕ → Park → List ℕ
unparked b c k = unpark_run b c k (get b (class (top k) c) - 1)

-- a parked page does, where there is no partial page
unfoldable pub readied : List ℕ → ℕ → List ℕ
readied b c = cond (eqb (get b (class partial c)) 0) (unparked b c (first_store b c)) b

pub record FirstPre (b : List ℕ) (c : ℕ) : Type 0 where
  pub row : RowPre b c
  pub some : get b (class partial c) ≡ 0 → 0 < get b (class (top (first_store b c)) c)
  pub unparks : get b (class partial c) ≡ 0 → UnparkRunPre b c (first_store b c) (get b (class (top (first_store b c)) c) - 1)

-- ---- a run that the arena gave, where no source has a page
pub record TakeRunPre (b : List ℕ) (c : ℕ) (sh : Shape) (q : ℕ) : Type 0 where
  pub pages : ℕ
  pub pre : TakePre pages b c sh
  pub alone : get b (class partial c) ≡ 0
  pub ends : q + sh.pages ≤ pages
  pub under : q + sh.pages ≤ get b (arena frontier)
  pub owners : (i : ℕ) → i < sh.pages → get b (page owner (q + i)) ≡ suc c

-- a take from the arena, and from whatever source
pub record TakeNewPre (n : ℕ) (b : List ℕ) (c : ℕ) (sh : Shape) : Type 0 where
  pub pre : TakePre n b c sh
  pub alone : get b (class partial c) ≡ 0

pub record SourcePre (n : ℕ) (b : List ℕ) (c : ℕ) (sh : Shape) : Type 0 where
  pub known : c < class_rows
  pub shape : Sound sh
  pub few : n ≤ max_pages
  pub long : words n ≤ length b

pub record CallPre (n : ℕ) (b : List ℕ) (c : ℕ) : Type 0 where
  pub known : c < class_rows
  pub few : n ≤ max_pages
  pub long : words n ≤ length b

-- a list that need not be whole is for calls that are granted all: then it is known what the arena answers
pub record ListPre (w : Bool) (n : ℕ) (b : List ℕ) (c h : ℕ) : Type 0 where
  pub call : CallPre n b c
  pub granted : w ≡ false → h ≡ host_max

abbrev pub Granted : ℕ → Shape → ℕ → Type 0
Granted k sh h = k < sh.batch → h ≡ host_max

-- ---- the fill: one turn takes up to m blocks of the head page, to the places below `at`
pub record TurnPre (b : List ℕ) (c : ℕ) (sh : Shape) (l : List ℕ) (at m : ℕ) : Type 0 where
  pub known : c < class_rows
  pub some : 0 < get b (class partial c)
  pub draws : DrawPre b sh (get b (class partial c) - 1) l at m
  pub behind : words (get b (page next (get b (class partial c) - 1))) ≤ length b
  pub before : words (get b (page prev (get b (class partial c) - 1))) ≤ length b

-- it answered r, and left the book b' and the list l'
pub record GaveTurn (r : ℕ) (b' l' b : List ℕ) (c : ℕ) (sh : Shape) (l : List ℕ) (at m : ℕ) : Type 0 where
  pub count : r ≡ length (latest b sh (get b (class partial c) - 1) m)
  pub book : b' ≡ unlist_spent (draw b sh (get b (class partial c) - 1) m) c sh (get b (class partial c) - 1)
  pub list : l' ≡ spliced l (at - length (latest b sh (get b (class partial c) - 1) m)) (map (word_of sh (get b (class partial c) - 1)) (latest b sh (get b (class partial c) - 1) m))

-- the walk passes, whatever the arena's length, and `at` is what the fill yields
pub record FillPre (b : List ℕ) (c : ℕ) (sh : Shape) (l : List ℕ) (at : ℕ) : Type 0 where
  pub pages : ℕ
  pub pre : TakePre pages b c sh
  pub walks : walks_from pages b c sh ≡ true
  pub count : at ≡ length (fills b c sh).blocks
  pub places : at ≤ length l

pub record Filling (b' l' : List ℕ) (f : Filled) (l : List ℕ) : Type 0 where
  pub book : b' ≡ f.book
  pub list : l' ≡ f.blocks ++ drop (length f.blocks) l
