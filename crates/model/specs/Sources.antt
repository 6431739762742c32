-- In which order a take turns to its sources (document 01, "Blocks out and back"), told as in Offered: from the calls, their answers and what the
-- arena gave. No list of the class is looked at.
--     Chilled                       a release parked the run cold, and no take answered a block of it since
--     IsPartial, IsEmpty, IsCold    what a run of the class is
--     Has, ComesFrom                the class has such a run; a word is a block of one
--     Later                         one run was released to after another
--     Turns                         the order
use Rattle.std.specs.Prelude.{ℕ, List, [], ◌∷◌, ◌++◌, map, Bool, true, false, not, ◌&&◌, ◌||◌, ◌≡◌, ◌⊎◌, ◌↔◌, eqb}
use Rattle.facts.specs.Lists.{elem}
use Rattle.words.specs.Word.{page_of}
use Rattle.classes.specs.declared.Shape.{Shape}
use Rattle.classes.specs.Shape.{shape_of}
use Rattle.model.specs.Calls as Calls
use Rattle.model.specs.Calls.{Answer, names, Request, blocks_of, released_by, is_refused}
use Rattle.model.specs.Page.{is_medium}
use Rattle.model.specs.History.{Event}
use Rattle.model.specs.Offered.{blocks_at, has_block, went_cold, fated, has_request, releases_to, Since, HasRun, Full, Used}

-- ---- cold runs
-- a release parked the run at q cold; a take answered a block of it
abbrev pub chills : ℕ → ℕ → Event → Bool
chills c q v = has_request c (fated went_cold (shape_of c) q) (names v.call) v.answer

abbrev pub draws : ℕ → ℕ → Event → Bool
draws c q v = has_request c (λ r x. has_block (shape_of c) q (blocks_of x)) (names v.call) v.answer

-- "For medium, cold counts as 0": the fates tell no cold span from an empty one, so no span is chilled
abbrev pub Chilled : ℕ → ℕ → List Event → Type 0
Chilled c q vs = Since (chills c q) (draws c q) vs

-- ---- what a run of the class is
-- partial: a block is out, and one is at hand
abbrev pub IsPartial : List Event → ℕ → ℕ → Type 0
IsPartial vs c q = Used vs c q × (Full vs c q → ⊥)

-- none is out: empty, or cold
abbrev pub IsEmpty : List Event → ℕ → ℕ → Type 0
IsEmpty vs c q = (Used vs c q → ⊥) × (Chilled c q vs → ⊥)

abbrev pub IsCold : List Event → ℕ → ℕ → Type 0
IsCold vs c q = (Used vs c q → ⊥) × Chilled c q vs

-- the class has such a run
pub record Has (Is : List Event → ℕ → ℕ → Type 0) (vs : List Event) (c : ℕ) : Type 0 where
  pub run : ℕ
  pub has : HasRun c run vs
  pub is : Is vs c run

-- the word is a block of one
pub record ComesFrom (Is : List Event → ℕ → ℕ → Type 0) (vs : List Event) (c w : ℕ) : Type 0 where
  pub run : ℕ
  pub has : HasRun c run vs
  pub is : Is vs c run
  pub block : elem w (blocks_at (shape_of c) run) ≡ true

-- the words are blocks of one run, which the class has
pub record FromOneRun (vs : List Event) (c : ℕ) (ws : List ℕ) : Type 0 where
  pub run : ℕ
  pub has : HasRun c run vs
  pub blocks : (w : ℕ) → elem w ws ≡ true → elem w (blocks_at (shape_of c) run) ≡ true

-- ---- the newest
-- of these groups one is page r's, and none behind it is page q's
abbrev pub behind : ℕ → ℕ → List ℕ → Bool
behind r q [] = false
behind r q (g ∷ gs) = (eqb r (page_of g) && not (elem q (map page_of gs))) || behind r q gs

-- an unrefused release has a block of the run at r, and none of the run at q in a group behind it ("treats groups in order")
abbrev pub releases_after : Shape → ℕ → ℕ → Request → Answer → Bool
releases_after sh r q (Calls.take h l) x = false
releases_after sh r q (Calls.give_back h ws) x = has_block sh r (released_by (Calls.give_back h ws) x)
releases_after sh r q (Calls.give_chunks h ws gs fs) x = not (is_refused x) && behind r q gs

abbrev pub follows : ℕ → ℕ → ℕ → Event → Bool
follows c r q v = has_request c (releases_after (shape_of c) r q) (names v.call) v.answer

-- the run at r was released to after the one at q
abbrev pub Later : ℕ → ℕ → ℕ → List Event → Type 0
Later c r q vs = Since (follows c r q) (releases_to c q) vs

-- ---- the order, vs being the history before the take v: each source is turned to exactly if the class has one and none of an earlier source;
-- a new run comes last (`Offered`, `spent`)
pub record Turns (vs : List Event) (c : ℕ) (v : Event) : Type 0 where
  pub partial : (w : ℕ) → elem w (blocks_of v.answer) ≡ true → ComesFrom IsPartial vs c w ↔ Has IsPartial vs c
  pub empty : (w : ℕ) → elem w (blocks_of v.answer) ≡ true → ComesFrom IsEmpty vs c w ↔ ((Has IsPartial vs c → ⊥) × Has IsEmpty vs c)
  pub cold : (w : ℕ) → elem w (blocks_of v.answer) ≡ true → ComesFrom IsCold vs c w ↔ ((Has IsPartial vs c → ⊥) × (Has IsEmpty vs c → ⊥) × Has IsCold vs c)
  -- where no run is partial, all blocks are one run's
  pub one : (Has IsPartial vs c → ⊥) → (w : ℕ) → elem w (blocks_of v.answer) ≡ true → FromOneRun (vs ++ v ∷ []) c (blocks_of v.answer)
  -- of a small class's empty runs, or of its cold ones, it is the one that was released to last: "last in first out", "the newest cold page"
  pub last_empty : is_medium (shape_of c) ≡ false → (w : ℕ) → elem w (blocks_of v.answer) ≡ true → (b : ComesFrom IsEmpty vs c w) (k : Has IsEmpty vs c) → (b.run ≡ k.run) ⊎ Later c b.run k.run vs
  pub last_cold : is_medium (shape_of c) ≡ false → (w : ℕ) → elem w (blocks_of v.answer) ≡ true → (b : ComesFrom IsCold vs c w) (k : Has IsCold vs c) → (b.run ≡ k.run) ⊎ Later c b.run k.run vs
