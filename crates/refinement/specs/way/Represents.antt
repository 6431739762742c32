-- The words stand for the model's heap.
--     Holds        the words of one run
--     PageRep      they stand for a page of the model
--     ClassRep     the words of one class
--     RuleRep      its limits
--     Represents   the whole book
use Rattle.std.specs.Prelude.{ℕ, ◌+◌, ◌≤◌, ◌<◌, Bool, true, List, [], ◌∷◌, map, ◌≡◌, ltb, length}
use Rattle.facts.specs.Lists.{All, count}
use Rattle.words.specs.Limits.{class_rows}
use Rattle.classes.specs.declared.Shape.{Shape}
use Rattle.classes.specs.Shape.{shape_of}
use Rattle.fields.specs.Field.{page, mark, slot, free, carved, listed, virgin, get}
use Rattle.rules.specs.declared.Limits.{Limits}
use Rattle.rules.specs.Rules.{Fit}
use Rattle.model.specs.Page.{Page, word_of, reused}
use Rattle.model.specs.Class.{Class, thawed}
use Rattle.model.specs.Heap.{Heap}
use Rattle.arena.specs.way.Represents.{ArenaRep}
use Rattle.words.specs.Host.{digit}
use Rattle.pages.specs.Runs.{whole}
use Rattle.pages.specs.Stack.{out_bit}
use Rattle.pages.specs.Valid.{limits_at}
use Rattle.pages.specs.declared.Park.{Park}
use Rattle.pages.specs.declared.Park.TheVariants.{Empty}
use Rattle.pages.specs.Links.{other}
use Rattle.pages.specs.Carve.{out_words}
use Rattle.refinement.specs.way.Chain.{Chain, Stack}

-- the stack of the run at q, top first
abbrev pub Slots : List ℕ → ℕ → List ℕ → Type 0
Slots b q [] = Unit {0}
Slots b q (x ∷ xs) = (get b (slot q (length xs)) ≡ x) × (length xs < 4096) × Slots b q xs

-- the run at q of class c: l is 1 where it is in the partial list, xs its stack, k blocks are carved, v whether it is virgin.
-- `outs` says at once that the entries are distinct and below k, and that the other blocks below k are out and no more; `unmarked`, that
-- no mark is set (document 02, A.3).
pub record Holds (n : ℕ) (sh : Shape) (b : List ℕ) (c l q : ℕ) (xs : List ℕ) (k : ℕ) (v : Bool) : Type 0 where
  pub run : whole n b sh c q ≡ true
  pub listing : get b (page listed q) ≡ l
  pub height : get b (page free q) ≡ length xs
  pub slots : Slots b q xs
  pub ready : get b (page carved q) ≡ k
  pub clean : get b (page virgin q) ≡ digit v
  pub within : k ≤ sh.capacity
  pub outs : (i : ℕ) → out_bit b sh q i + count i xs ≡ digit (ltb i k)
  pub unmarked : (j : ℕ) → j < out_words sh → get b (mark q j) ≡ 0

pub record PageRep (n : ℕ) (sh : Shape) (b : List ℕ) (c l : ℕ) (p : Page) : Type 0 where
  pub stack : List ℕ
  pub names : p.free ≡ map (word_of sh p.first) stack
  pub holds : Holds n sh b c l p.first stack p.carved p.virgin

-- a parked page has no block out
pub record Parked (n : ℕ) (sh : Shape) (b : List ℕ) (c : ℕ) (p : Page) : Type 0 where
  pub rep : PageRep n sh b c 0 p
  pub idle : (i : ℕ) → out_bit b sh p.first i ≡ 0

abbrev pub firsts : List Page → List ℕ
firsts ps = map (λ p. p.first) ps

-- how often page q heads one of the runs
abbrev pub heads : ℕ → List Page → ℕ
heads q ps = count q (firsts ps)

-- a class whose pages are in the partial list (ps), in store k (xs), in the other store (ys), and in no list (fs). `runs`: these are,
-- each once, the runs that the words call the class's: no page stands twice, each is the class's, none is missing.
pub record ClassRep (n : ℕ) (b : List ℕ) (c : ℕ) (sh : Shape) (k : Park) (ps xs ys fs : List Page) : Type 0 where
  pub chain : Chain n b c (firsts ps)
  pub store : Stack b c k (firsts xs)
  pub beside : Stack b c (other k) (firsts ys)
  pub partials : All (PageRep n sh b c 1) ps
  pub parked : All (Parked n sh b c) xs
  pub parkeds : All (Parked n sh b c) ys
  pub fulls : All (PageRep n sh b c 0) fs
  pub runs : (q : ℕ) → heads q ps + heads q xs + heads q ys + heads q fs ≡ digit (whole n b sh c q)

-- the words keep a retired page and a cold one as they come back
abbrev pub StateRep : ℕ → List ℕ → ℕ → Shape → Class → Type 0
StateRep n b c sh s = ClassRep n b c sh Empty s.partial (map (reused sh) s.empty) (map (thawed sh) s.cold) s.full

-- the limits in a class's row are these, and in their range
pub record RuleRep (b : List ℕ) (c : ℕ) (lim : Limits) : Type 0 where
  pub same : limits_at b c ≡ lim
  pub fit : Fit lim

pub record Represents (n : ℕ) (b : List ℕ) (H : Heap) : Type 0 where
  pub arena : ArenaRep n b H
  pub classes : (c : ℕ) → ltb c class_rows ≡ true → StateRep n b c (shape_of c) (H.classes c)
  pub rules : (c : ℕ) → ltb c class_rows ≡ true → RuleRep b c (H.rules c)
