-- The runs that a group release gives to the arena, by its answer (document 01: "For groups the fates stand in the groups' order"; a fate is "2 to the
-- arena; plus 4 if retired").
--     groups_back   the pages of the groups whose fate is 2 or 6, in the groups' order
--     GroupsGive   these a group release gives, one after the other
use Rattle.std.specs.Prelude.{ℕ, ◌≡◌, List, [], ◌∷◌, Bool, cond, ◌||◌, eqb, length}
use Rattle.std.proofs.Math.Option.{Option}
use Rattle.words.specs.Word.{page_of}
use Rattle.classes.specs.declared.Shape.{Shape}
use Rattle.rules.specs.declared.Limits.{Limits}
use Rattle.model.specs.Calls.{give_chunks}
use Rattle.model.specs.Class.{Class, serve}
use Rattle.model.specs.Destination.{arena_fate, retired}
use Rattle.model.specs.Chunks.{answer}
use Rattle.model.specs.Held.{fates_in}

abbrev pub is_back : ℕ → Bool
is_back v = eqb v arena_fate || eqb v (retired arena_fate)

abbrev pub groups_back : List ℕ → List ℕ → List ℕ
groups_back [] vs = []
groups_back (g ∷ gs) [] = []
groups_back (g ∷ gs) (v ∷ vs) = cond (is_back v) (page_of g ∷ groups_back gs vs) (groups_back gs vs)

-- of a class of any shape, with any limits and runs
pub record GroupsGive (sh : Shape) (lim : Limits) (s : Class) : Type 0 where
  pub gives : (h : ℕ) (ws gs fs : List ℕ) (g : Option ℕ)
      → (serve (answer sh lim s (give_chunks h ws gs fs)) g).gives ≡ groups_back gs (fates_in (length gs) (serve (answer sh lim s (give_chunks h ws gs fs)) g).answer)
