-- What a caller sees of the exported functions, by their contracts alone (crates/vigbuso/src): on any book, any numbers and any list.
--     Observes   a call of the exported function of that name, on the book b, returns and leaves what the reply says
--     InTurn     calls in turn, each on the book as the last one left it, and what is observed of them
-- r is what the function returns; a name with ' is what a lent slice or an out-parameter holds afterwards.
use Rattle.std.specs.Prelude.{ℕ, cond, List, [], ◌∷◌, ◌≡◌, eqb}
use Rattle.words.specs.Host.{digit}
use Rattle.model.specs.Calls as Calls
use Rattle.model.specs.Calls.{Call, Answer, taken, fate, fates, no_run, released, contained, reported}
use Rattle.direct.specs.Answer.{Releases}
use Rattle.vigbuso.specs.Direct as Direct
use Rattle.vigbuso.specs.Direct.{no_page, commit_on, CommitEnds, grow_on, GrowEnds, contains_on, report_on, figures_in, ReportEnds}
use Rattle.vigbuso.specs.Blocks as Blocks
use Rattle.vigbuso.specs.Blocks.{take_on, TakeEnds, ReleaseEnds, chunks_on, ChunksEnds}
use Rattle.refinement.specs.Direct.{Reply, reply}

-- a commit's two out-parameters: for none, the first page is the greatest number
abbrev pub run_observed : ℕ → ℕ → Answer
run_observed q f = cond (eqb q no_page) no_run (Calls.run q (eqb f 1))

-- each premise is what the function ensures
pub data Observes (b : List ℕ) : Call → Reply → Type 0 where
  take_blocks : (c h r k k' v v' : ℕ) (b' l l' : List ℕ) → TakeEnds (take_on 0 64 b c h l) r b' l' k k' v v'
      → Observes b (Calls.take_blocks c h l) (reply r (taken k' l' (eqb v' 1)) b')
  medium_take_blocks : (c h r k k' v v' : ℕ) (b' l l' : List ℕ) → TakeEnds (take_on 64 12 b c h l) r b' l' k k' v v'
      → Observes b (Calls.medium_take_blocks c h l) (reply r (taken k' l' (eqb v' 1)) b')
  release_blocks : (c h r f f' : ℕ) (b' ws : List ℕ) → ReleaseEnds (Blocks.release_on 0 64 b c h ws) r b' f f'
      → Observes b (Calls.release_blocks c h ws) (reply r (fate f') b')
  medium_release_blocks : (c h r f f' : ℕ) (b' ws : List ℕ) → ReleaseEnds (Blocks.release_on 64 12 b c h ws) r b' f f'
      → Observes b (Calls.medium_release_blocks c h ws) (reply r (fate f') b')
  release_bin_chunks : (c h r : ℕ) (b' ws gs fs fs' : List ℕ) → ChunksEnds (chunks_on b c h ws gs fs) r b' fs'
      → Observes b (Calls.release_bin_chunks c h ws gs fs) (reply r (fates fs') b')
  commit : (h m r q q' f f' : ℕ) (b' : List ℕ) → CommitEnds (commit_on b h m) r b' q q' f f' → Observes b (Calls.commit h m) (reply r (run_observed q' f') b')
  grow_frontier : (h q old new r g g' : ℕ) (b' : List ℕ) → GrowEnds (grow_on b h q old new) r b' g g'
      → Observes b (Calls.grow_frontier h q old new) (reply r (Calls.grown (eqb g' 1)) b')
  release : (h q m r : ℕ) (b' : List ℕ) → Releases r b' (Direct.release_on b h q m) → Observes b (Calls.release h q m) (reply r released b')
  contains : (o k r : ℕ) → r ≡ digit (contains_on b o k) → Observes b (Calls.contains o k) (reply 0 (contained (eqb r 1)) b)
  report : (r : ℕ) (fs fs' : List ℕ) → ReportEnds (report_on b) r fs fs' → Observes b Calls.report (reply r (reported (figures_in fs')) b)

pub data InTurn : List ℕ → List Call → List Reply → Type 0 where
  ends : (b : List ℕ) → InTurn b [] []
  calls : (b : List ℕ) (x : Call) (w : Reply) (xs : List Call) (ws : List Reply) → Observes b x w → InTurn w.book xs ws → InTurn b (x ∷ xs) (w ∷ ws)
