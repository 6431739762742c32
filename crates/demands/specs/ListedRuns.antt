-- Document 02, A.10, over the exported calls: a listed history, made by `vigbuso_commit` and `vigbuso_release` from an opening. proofs/ListedRuns proves it.
--     Made          the calls of a listed history, where a release hands back the run of the call that it names; and what each call answers
--     ListedRuns    from every opening the calls answer just that: none is refused, and each commit gets the run that the listing goes by, or none
use Rattle.std.specs.Prelude.{ℕ, List, [], ◌∷◌, ◌≡◌}
use Rattle.std.proofs.Math.Option.{some}
use Rattle.model.specs.Calls as Calls
use Rattle.model.specs.Calls.{Answer}
use Rattle.model.specs.Arena as Arenas
use Rattle.model.specs.Heap.{answer_run}
use Rattle.listing.specs.History.{Call, commit, release, Run, State, opened, granted, committed, released}
use Rattle.refinement.specs.Run.{answers_in}
use Rattle.demands.specs.Run.{Opens, run}

pub data Made (n : ℕ) : State → List Call → List Calls.Call → List Answer → Type 0 where
  over : {s : State} → Made n s [] [] []
  commits : {s : State} {cs : List Call} {xs : List Calls.Call} {zs : List Answer} (p : ℕ) → Made n (committed n p s) cs xs zs
      → Made n s (commit p ∷ cs) (Calls.commit granted p ∷ xs) (answer_run (Arenas.commit n granted p s.arena).run (Arenas.commit n granted p s.arena).fresh ∷ zs)
  releases : {s : State} {cs : List Call} {xs : List Calls.Call} {zs : List Answer} (i : ℕ) (r : Run) → s.runs i ≡ some r → Made n (released i r s) cs xs zs
      → Made n s (release i ∷ cs) (Calls.release granted r.first r.pages ∷ xs) (Calls.released ∷ zs)

pub record ListedRuns (n : ℕ) (h : List Call) : Type 0 where
  pub calls : List Calls.Call
  pub answers : List Answer
  pub made : Made n opened h calls answers
  pub runs : (rows b : List ℕ) → Opens n rows b → answers_in (run n rows b calls) ≡ answers
