-- What a group release gives to the arena is what its answer says.
use Rattle.facts.proofs.Prelude.{ℕ, ◌<◌, false, List, [], ◌∷◌, none, some, ◌≡◌, refl, sym, ap, ◌∙◌, length, take, lt-ltb, by_cases}
use Rattle.words.specs.Word.{page_of}
use Rattle.classes.specs.Shape.{shape_of}
use Rattle.rules.specs.Rules.{rules_of}
use Rattle.model.specs.Calls as Calls
use Rattle.model.specs.Calls.{Call, Named, names, is_refused}
use Rattle.model.specs.Arena.{Arena, Given, given}
use Rattle.model.specs.Class.{Ask, serve}
use Rattle.model.specs.Heap.{Heap, offer}
use Rattle.model.specs.History.{heap_after}
use Rattle.model.specs.Groups.{is_back, groups_back}
use Rattle.model.proofs.Theorems as Model
use Rattle.arena.specs.Load.{load_arena}
use Rattle.vigbuso.specs.Blocks.{chunks_on}
use Rattle.demands.specs.Call.{call}
use Rattle.demands.specs.Run.{Opens, book_after, next}
use Rattle.demands.specs.Start as Starts
use Rattle.demands.specs.Start.{Start, pages, rule_rows, lent}
use Rattle.demands.specs.Demands.{GivenInTurn}
use Rattle.demands.specs.Groups.{GroupsGive}
use Rattle.demands.proofs.Codes.{class_ask, zero-exactly, next-host, next-answer}
use Rattle.demands.proofs.Fits.{Reaches, home, away, chunks-home}
use Rattle.demands.proofs.Gives.{class-given}
use Rattle.demands.proofs.Starts.{as_opening}

-- entries past the fates tell nothing
past-fates : (gs vs : List ℕ) → groups_back gs (take (length gs) vs) ≡ groups_back gs vs
past-fates [] vs = refl
past-fates (g ∷ gs) [] = refl
past-fates (g ∷ gs) (v ∷ vs) = by_cases (is_back v) (λ e. rw e (ap (λ (qs : List ℕ). page_of g ∷ qs) (past-fates gs vs))) (λ e. rw e (past-fates gs vs))

-- a group release asks the arena for nothing
offer-home : (n h : ℕ) (a : Arena) (m : ℕ) {q : Ask} → Reaches m ⊥ q → offer n h a q ≡ given a none false
unfolding offer
offer-home n h a m (home f) = refl
offer-home n h a m (away p) = absurd p

module _ (n : ℕ) (rows b : List ℕ) (o : Opens n rows b) (xs : List Call) (c h : ℕ) (ws gs fs vs : List ℕ) (l : c < 64) where
  abbrev heap : Heap
  heap = heap_after n (rules_of rows) xs

  abbrev x : Call
  x = Calls.release_bin_chunks c h ws gs fs

  abbrev d : Named
  d = record { class = c; request = Calls.give_chunks h ws gs fs }

  abbrev q : Ask
  q = class_ask heap d

  named : names x ≡ some d
  named = rw (lt-ltb c 64 l)

  unrefused : (next n rows b xs x).answer ≡ Calls.fates vs → (next n rows b xs x).code ≡ 0
  unfolding call
  unrefused e = (zero-exactly (chunks_on (book_after n rows b xs) c h ws gs fs).code _ refl).1 (ap is_refused e)

  chunks-give : (next n rows b xs x).answer ≡ Calls.fates vs → GivenInTurn (shape_of c).pages (groups_back gs vs) (load_arena (book_after n rows b xs)) (load_arena (next n rows b xs x).book)
  chunks-give e =
      let z = unrefused e in
      let at_home : (a : Arena) → offer n h a q ≡ given a none false = λ a. offer-home n h a (shape_of c).pages (chunks-home (shape_of c) (heap.rules c) (shape_of c).pages ⊥ (λ p. p) (heap.classes c) h ws gs fs) in
      let a = next-answer n rows b o xs x d named (next-host n rows b o xs x d named z) in
      let observed : (serve q none).answer ≡ Calls.fates vs = sym (a ∙ ap (λ (g : Given). (serve q g.run).answer) (at_home heap.arena)) ∙ e in
      let gives : (serve q none).gives ≡ groups_back gs vs = (Model.groups-give (shape_of c) (heap.rules c) (heap.classes c)).gives h ws gs fs none ∙ rw observed (past-fates gs vs) in
      rw (at_home (load_arena (book_after n rows b xs)), gives) at (class-given n rows b o xs x d named z)

pub groups-give : (s : Start) → Starts.Starts s → (xs : List Call) → GroupsGive s xs
groups-give s o xs = record {
  gives = λ c h ws gs fs vs l e.
      let k = (as_opening s o xs).book in
      rw k (chunks-give (pages s) (rule_rows s) (lent s) o (Starts.calls s xs) c h ws gs fs vs l (rw k at e));
}
