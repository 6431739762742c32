-- A class's runs as the calls, their answers and what the arena gave tell them: which runs it has, which of their blocks are out, and
-- which are clean. No list of the class is looked at.
--     blocks_at        the blocks of the run at page q
--     Since           one of the events passes a test, and none after it another
--     HasRun          the class has the run
--     Full, Spent     all blocks of a run are out; those of every run that the class has
--     Clean, Virgin   the run was not released to since it was last new; a take's virgin
use Rattle.std.specs.Prelude.{ℕ, ◌%◌, List, [], ◌∷◌, Bool, true, false, not, ◌&&◌, ◌||◌, ◌≡◌, ◌⊎◌, ◌↔◌, eqb, length}
use Rattle.std.proofs.Math.Option.{Option, none, some}
use Rattle.facts.specs.Lists.{is_nil, every, any, elem}
use Rattle.words.specs.Word.{page_of}
use Rattle.words.specs.Host.{discard_zeroed}
use Rattle.classes.specs.declared.Shape.{Shape}
use Rattle.classes.specs.Shape.{shape_of}
use Rattle.model.specs.declared.Hole.{Hole}
use Rattle.model.specs.Calls as Calls
use Rattle.model.specs.Calls.{Answer, Named, names, Request, host_of, blocks_of, released_by}
use Rattle.model.specs.Page.{words_from, is_medium}
use Rattle.model.specs.Class.{Class}
use Rattle.model.specs.Destination.{arena_fate}
use Rattle.model.specs.History.{Event, is_of}
use Rattle.model.specs.Entries.{OutIn}
use Rattle.model.specs.Held.{fates_in}

-- the words of a run's blocks: "block i of a page starts at byte 48 + i × size", of a span "at 64 + i × size"
abbrev pub blocks_at : Shape → ℕ → List ℕ
blocks_at sh q = words_from sh q 0 sh.capacity

-- does a list have a block of the run at q
unfoldable pub has_block : Shape → ℕ → List ℕ → Bool
has_block sh q ws = any (λ w. elem w (blocks_at sh q)) ws

-- ---- a release, and the fate that it answered for the run at q
-- "0 kept, 1 cold, 2 to the arena; plus 4 if retired"
abbrev pub went_cold : ℕ → Bool
went_cold v = eqb (v % 4) 1

abbrev pub went_back : ℕ → Bool
went_back v = eqb (v % 4) arena_fate

-- of these chunks with these fates, one is page q's and its fate passes the test
abbrev pub fated_in : (ℕ → Bool) → ℕ → List ℕ → List ℕ → Bool
fated_in t q [] vs = false
fated_in t q (g ∷ gs) [] = false
fated_in t q (g ∷ gs) (v ∷ vs) = (eqb q (page_of g) && t v) || fated_in t q gs vs

-- the request released blocks of the run at q, and the fate that it answered for the run passes the test
unfoldable pub fated : (ℕ → Bool) → Shape → ℕ → Request → Answer → Bool
fated t sh q (Calls.take h l) x = false
fated t sh q (Calls.give_back h ws) x = has_block sh q ws && any t (fates_in 0 x)
fated t sh q (Calls.give_chunks h ws gs fs) x = fated_in t q gs (fates_in (length gs) x)

-- ---- events of class c, for its run at q
abbrev pub has_request : ℕ → (Request → Answer → Bool) → Option Named → Answer → Bool
has_request c t none x = false
has_request c t (some d) x = eqb d.class c && t d.request x

abbrev pub starts_run : ℕ → Option Hole → Bool
starts_run q none = false
starts_run q (some h) = eqb h.first q

-- the arena gave it
abbrev pub gets : ℕ → ℕ → Event → Bool
gets c q v = is_of c (names v.call) && starts_run q v.run

-- an unrefused release has a block of it
abbrev pub releases_to : ℕ → ℕ → Event → Bool
releases_to c q v = has_request c (λ r x. has_block (shape_of c) q (released_by r x)) (names v.call) v.answer

-- a release gave it to the arena
abbrev pub yields_up : ℕ → ℕ → Event → Bool
yields_up c q v = has_request c (fated went_back (shape_of c) q) (names v.call) v.answer

-- a release parked it cold, and the discard of that call zeroed it; "a span from cold is never virgin"
abbrev pub zeroes : Shape → ℕ → Request → Answer → Bool
zeroes sh q r x = fated went_cold sh q r x && (discard_zeroed (host_of r) && not (is_medium sh))

abbrev pub renews : ℕ → ℕ → Event → Bool
renews c q v = gets c q v || has_request c (zeroes (shape_of c) q) (names v.call) v.answer

-- one of the events passes the first test, and none after it the second
abbrev pub Since : (Event → Bool) → (Event → Bool) → List Event → Type 0
Since t u [] = ⊥
Since t u (v ∷ vs) = ((t v ≡ true) × (every (λ x. not (u x)) vs ≡ true)) ⊎ Since t u vs

-- ---- runs and their blocks
-- the class has the run at q: the arena gave it, and no release gave it back since
abbrev pub HasRun : ℕ → ℕ → List Event → Type 0
HasRun c q vs = Since (gets c q) (yields_up c q) vs

-- all its blocks are out
abbrev pub Full : List Event → ℕ → ℕ → Type 0
Full vs c q = (w : ℕ) → elem w (blocks_at (shape_of c) q) ≡ true → OutIn vs c w

-- one of them is
pub record Used (vs : List Event) (c q : ℕ) : Type 0 where
  pub word : ℕ
  pub block : elem word (blocks_at (shape_of c) q) ≡ true
  pub out : OutIn vs c word

-- every block of every run of the class is out: nothing of it is at hand
pub record Spent (vs : List Event) (c : ℕ) : Type 0 where
  pub full : (q : ℕ) → HasRun c q vs → Full vs c q

-- no run that has a block out has one at hand
pub record NonePartial (vs : List Event) (c : ℕ) : Type 0 where
  pub full : (q : ℕ) → HasRun c q vs → Used vs c q → Full vs c q

-- the class's own lists say so: no page is partial, empty or cold
pub record NoneListed (s : Class) : Type 0 where
  pub partial : s.partial ≡ []
  pub empty : s.empty ≡ []
  pub cold : s.cold ≡ []

-- ---- virgin
abbrev pub virgin_of : Answer → Bool
virgin_of (Calls.refused n) = false
virgin_of (Calls.taken n l v) = v
virgin_of (Calls.fate n) = false
virgin_of (Calls.fates l) = false
virgin_of (Calls.run q f) = false
virgin_of Calls.no_run = false
virgin_of Calls.released = false
virgin_of (Calls.grown b) = false
virgin_of (Calls.contained b) = false
virgin_of (Calls.reported f) = false

-- "not released to since it was last carved from the arena or from a cold page whose discard zeroed it"
abbrev pub Clean : ℕ → ℕ → List Event → Type 0
Clean c q vs = Since (renews c q) (releases_to c q) vs

-- the word is a block of a clean run of the class
pub record CleanBlock (vs : List Event) (c w : ℕ) : Type 0 where
  pub run : ℕ
  pub has : HasRun c run vs
  pub block : elem w (blocks_at (shape_of c) run) ≡ true
  pub clean : Clean c run vs

-- "Virgin is yes exactly if a block came and each came from" such a run; vs is the history with the take at its end
abbrev pub Virgin : List Event → ℕ → Answer → Type 0
Virgin vs c x = (virgin_of x ≡ true) ↔ ((is_nil (blocks_of x) ≡ false) × ((w : ℕ) → elem w (blocks_of x) ≡ true → CleanBlock vs c w))
