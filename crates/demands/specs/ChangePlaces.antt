-- Document 02, A.14, over the exported calls: two neighbouring calls on different classes, of which at most one reaches the arena, may
-- change places. proofs/ChangePlaces proves it.
--     reaches          the call x, made after the history xs since a start, reaches the arena "to commit or to give", as the model tells: its
--                      class asks for a run, or has one to give
--     ReachesStays     a call on another class does not change that
--     Swapped          both orders, after xs: x and y with the same numbers and list contents
--     ChangePlaces     for every opening or trace, every history and every two such calls, refused ones included
--     OneOnly          two calls that both reach the arena may not
use Rattle.std.specs.Prelude.{ℕ, Bool, true, false, not, ◌&&◌, List, [], ◌∷◌, ◌++◌, ◌≡◌, eqb}
use Rattle.std.proofs.Math.Option.{some}
use Rattle.facts.specs.Lists.{is_nil}
use Rattle.classes.specs.Shape.{shape_of}
use Rattle.model.specs.Calls.{Call, take_blocks, Named, names, Way, turned, straight, to_class, way_of}
use Rattle.model.specs.Class.{Ask, done, asks}
use Rattle.model.specs.Chunks.{answer}
use Rattle.model.specs.Heap.{Heap}
use Rattle.model.specs.History.{heap_after, is_of}
use Rattle.model.specs.Examples.{lent}
use Rattle.refinement.specs.Direct.{Reply}
use Rattle.demands.specs.Run.{Opens}
use Rattle.demands.specs.Start.{Start, opening, pages, rules, Starts, calls, book_after, next, replies}

abbrev pub uses_arena : Ask → Bool
uses_arena (done r) = not (is_nil r.gives)
uses_arena (asks m k) = true

-- a call that number 3 refuses goes nowhere; one that names no class is no call on a class, and is not spoken of here
abbrev pub reaches_by : Heap → Way → Bool
reaches_by H turned = false
reaches_by H straight = true
reaches_by H (to_class p) = uses_arena (answer (shape_of p.class) (H.rules p.class) (H.classes p.class) p.request)

abbrev pub reaches : Start → List Call → Call → Bool
reaches s xs x = reaches_by (heap_after (pages s) (rules s) (calls s xs)) (way_of x)

abbrev pub ReachesStays : Type 0
ReachesStays = (s : Start) (xs : List Call) (x y : Call) (p : Named) → names x ≡ some p → is_of p.class (names y) ≡ false → reaches s (xs ++ y ∷ []) x ≡ reaches s xs x

pub record Swapped (s : Start) (xs : List Call) (x y : Call) : Type 0 where
  -- "return the same answers": the number, and the answer with every list and out-parameter
  pub first_code : (next s xs x).code ≡ (next s (xs ++ y ∷ []) x).code
  pub first : (next s xs x).answer ≡ (next s (xs ++ y ∷ []) x).answer
  pub second_code : (next s (xs ++ x ∷ []) y).code ≡ (next s xs y).code
  pub second : (next s (xs ++ x ∷ []) y).answer ≡ (next s xs y).answer
  -- "leave the same book", word for word; and so after whatever follows
  pub book : (zs : List Call) → book_after s (xs ++ x ∷ y ∷ zs) ≡ book_after s (xs ++ y ∷ x ∷ zs)
  -- the two histories whole: what follows is replied alike
  pub follows : (zs : List Call) → (rs : List Reply) × (replies s (xs ++ x ∷ y ∷ zs) ≡ replies s xs ++ (next s xs x ∷ next s (xs ++ x ∷ []) y ∷ rs))
      × (replies s (xs ++ y ∷ x ∷ zs) ≡ replies s xs ++ (next s xs y ∷ next s (xs ++ y ∷ []) x ∷ rs))

-- p and q are the classes that the calls name, with what they ask of them; each is told to reach the arena where it is made, x and then y
abbrev pub ChangePlaces : Type 0
ChangePlaces =
    (s : Start) → Starts s → (xs : List Call) (x y : Call) (p q : Named) → names x ≡ some p → names y ≡ some q → eqb p.class q.class ≡ false
    → (reaches s xs x && reaches s (xs ++ x ∷ []) y) ≡ false → Swapped s xs x y

-- the premise is needed: of two takes on a new heap that both commit, the one that is made first has the lower page
abbrev pub take_of : ℕ → Call
take_of c = take_blocks c 15 (lent 64)

abbrev pub OneOnly : Type 0
OneOnly = (b : List ℕ) → Opens 64 [] b → Swapped (opening 64 [] b) [] (take_of 44) (take_of 45) → ⊥
