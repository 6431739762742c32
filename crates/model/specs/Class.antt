-- One class and its takes (document 01, "Blocks out and back"). A class learns nothing of the heap but the run that it is given:
-- its call is done, or asks the arena once and goes on with the answer.
use Rattle.std.specs.Prelude.{ℕ, ◌-◌, List, [], ◌∷◌, ◌++◌, Bool, true, false, cond, not, ◌&&◌, eqb, length, drop}
use Rattle.std.proofs.Math.Option.{Option, none, some}
use Rattle.classes.specs.declared.Shape.{Shape}
use Rattle.model.specs.Calls.{Answer, refused, taken}
use Rattle.model.specs.Page.{Page, Popped, is_medium, carve, has_more, pop, reused}

-- a cold run: it is carved anew when it comes back
pub record Cold : Type 0 where
  pub first : ℕ
  pub zeroed : Bool

pub record Class : Type 0 where
  pub partial : List Page  -- head first
  pub empty : List Page  -- last in first out
  pub cold : List Cold  -- newest first
  pub full : List Page  -- no block to yield; in no order that matters

abbrev pub lists : List Page → List Page → List Cold → List Page → Class
lists ps es cs fs = record { partial = ps; empty = es; cold = cs; full = fs }

abbrev pub new_class : Class
new_class = lists [] [] [] []

-- what comes of a call: the class afterwards, the answer, and the first pages of the runs that go to the arena
pub record Result : Type 0 where
  pub class : Class
  pub answer : Answer
  pub gives : List ℕ

pub data Ask : Type 0 where
  done : Result → Ask
  asks : (pages : ℕ) → (Option ℕ → Result) → Ask

-- the result, given the run's first page or none
abbrev pub serve : Ask → Option ℕ → Result
serve (done r) g = r
serve (asks n k) g = k g

abbrev pub refuse : Class → ℕ → Ask
refuse s n = done (record { class = s; answer = refused n; gives = [] })

-- up to n blocks from the pages in turn, the latest popped first; a page that has no more leaves the list
pub record Filled : Type 0 where
  pub blocks : List ℕ
  pub partial : List Page
  pub full : List Page
  pub virgin : Bool

abbrev pub stays : Shape → Page → Bool
stays sh p = has_more sh p

unfoldable pub after : Shape → Bool → Popped → Filled → Filled
after sh v x f = record {
  blocks = f.blocks ++ x.blocks;
  partial = cond (stays sh x.page) (x.page ∷ f.partial) f.partial;
  full = cond (stays sh x.page) f.full (x.page ∷ f.full);
  virgin = v && f.virgin;
}

unfoldable pub fill_from_list : Shape → ℕ → List Page → Filled
fill_from_list sh n [] = record { blocks = []; partial = []; full = []; virgin = true }
fill_from_list sh n (p ∷ ps) =
    cond (eqb n 0)
    (record { blocks = []; partial = p ∷ ps; full = []; virgin = true })
    (after sh p.virgin (pop sh n p) (fill_from_list sh (n - length (pop sh n p).blocks) ps))

-- "Take answers count, list, virgin; entries past the count keep their content"
unfoldable pub served : List ℕ → Filled → List Page → List Cold → List Page → Result
served l f es cs fs = record {
  class = lists f.partial es cs (f.full ++ fs);
  answer = taken (length f.blocks) (f.blocks ++ drop (length f.blocks) l) f.virgin;
  gives = [];
}

-- a cold run as it comes back: "a span from cold is never virgin"
unfoldable pub thawed : Shape → Cold → Page
thawed sh c = carve sh c.first (c.zeroed && not (is_medium sh))

-- with a new run; "none is count 0, list unchanged, virgin no"
unfoldable pub on_run : Shape → List ℕ → List Page → Option ℕ → Result
on_run sh l fs none = record { class = lists [] [] [] fs; answer = taken 0 l false; gives = [] }
on_run sh l fs (some q) = served l (fill_from_list sh sh.batch (carve sh q true ∷ [])) [] [] fs

-- "partial pages from the list's head, otherwise one empty page, otherwise the newest cold page, otherwise a new one"
unfoldable pub take_from : Shape → List ℕ → List Page → List Page → List Cold → List Page → Ask
take_from sh l (p ∷ ps) es cs fs = done (served l (fill_from_list sh sh.batch (p ∷ ps)) es cs fs)
take_from sh l [] (e ∷ es) cs fs = done (served l (fill_from_list sh sh.batch (reused sh e ∷ [])) es cs fs)
take_from sh l [] [] (c ∷ cs) fs = done (served l (fill_from_list sh sh.batch (thawed sh c ∷ [])) [] cs fs)
take_from sh l [] [] [] fs = asks sh.pages (on_run sh l fs)
