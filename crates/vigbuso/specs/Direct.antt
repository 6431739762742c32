-- The exported calls that go straight to the arena, on any book and any numbers: the answer, the book and the out-parameters
-- afterwards, refusals included. Numbers 1 to 3 come first; then the call is one on an arena of the length that the book holds.
use Rattle.std.specs.Prelude.{ℕ, List, [], ◌∷◌, Bool, false, cond, ◌≡◌, eqb, length, get_or}
use Rattle.words.specs.Host.{digit}
use Rattle.rules.specs.Rules.{rows_fault, rules_of}
use Rattle.fields.specs.Field.{arena, size, get}
use Rattle.fields.specs.Outcome.{Outcome, ends}
use Rattle.fields.specs.Ranges.{length_fault, meta_fault}
use Rattle.model.specs.declared.Figures.{Figures}
use Rattle.arena.specs.Calls.{Committed, commit_refused, commit_call, Done, done_refused, grow_call, release_call, contains_call}
use Rattle.arena.specs.Open.{opened}
use Rattle.runs.specs.Answer.{Commit, Refused, Run, Nothing, commit_answer, commit_code}
use Rattle.direct.specs.Answer.{Grow, Yes, No, grown_as, grow_code, Report, Reported, report_of}
use Rattle.vigbuso.specs.Faults.{call_fault}

-- ---- opening
-- numbers 1 and 2, then those of the rule rows ws
unfoldable pub open_fault : ℕ → List ℕ → List ℕ → ℕ
open_fault n ws b = cond (eqb (length_fault n (length b)) 0) (rows_fault ws) (length_fault n (length b))

unfoldable pub open_on : List ℕ → ℕ → List ℕ → Outcome
open_on b n ws = cond (eqb (open_fault n ws b) 0) (ends 0 (opened n (rules_of ws) b)) (ends (open_fault n ws b) b)

-- ---- commit: for none, the first page is the greatest number
unfoldable pub commit_on : List ℕ → ℕ → ℕ → Committed
commit_on b h m = cond (eqb (call_fault b h) 0) (commit_call (get b (arena size)) b h m) (commit_refused b (call_fault b h))

abbrev pub no_page : ℕ
no_page = 4294967295

abbrev pub first_out : Commit → ℕ → ℕ
first_out (Refused k) old = old
first_out (Run q f) old = q
first_out Nothing old = no_page

abbrev pub fresh_out : Commit → ℕ → ℕ
fresh_out (Refused k) old = old
fresh_out (Run q f) old = digit f
fresh_out Nothing old = 0

-- q and f are the out-parameters before the call, q' and f' after it
pub record CommitEnds (o : Committed) (r : ℕ) (b : List ℕ) (q q' f f' : ℕ) : Type 0 where
  pub code : r ≡ commit_code (commit_answer o)
  pub book : b ≡ o.book
  pub first : q' ≡ first_out (commit_answer o) q
  pub fresh : f' ≡ fresh_out (commit_answer o) f

-- ---- growth
unfoldable pub grow_on : List ℕ → ℕ → ℕ → ℕ → ℕ → Done
grow_on b h q old new = cond (eqb (call_fault b h) 0) (grow_call (get b (arena size)) b h q old new) (done_refused b (call_fault b h))

abbrev pub grown_out : Grow → ℕ → ℕ
grown_out (Grow.Refused k) old = old
grown_out Yes old = 1
grown_out No old = 0

pub record GrowEnds (o : Done) (r : ℕ) (b : List ℕ) (g g' : ℕ) : Type 0 where
  pub code : r ≡ grow_code (grown_as o.code o.yes)
  pub book : b ≡ o.book
  pub grown : g' ≡ grown_out (grown_as o.code o.yes) g

-- ---- release
unfoldable pub release_on : List ℕ → ℕ → ℕ → ℕ → Done
release_on b h q m = cond (eqb (call_fault b h) 0) (release_call (get b (arena size)) b q m) (done_refused b (call_fault b h))

-- ---- contains, as a number: no on a book that 1 or 2 would refuse
unfoldable pub contains_on : List ℕ → ℕ → ℕ → Bool
contains_on b o k = cond (eqb (meta_fault b) 0) (contains_call (get b (arena size)) b o k) false

-- ---- report
unfoldable pub report_on : List ℕ → Report
report_on b = cond (eqb (meta_fault b) 0) (report_of (get b (arena size)) b) (Report.Refused (meta_fault b))

abbrev pub report_code : Report → ℕ
report_code (Report.Refused k) = k
report_code (Reported f) = 0

-- the figures as a list, and read from it
abbrev pub figures_out : Report → List ℕ → List ℕ
figures_out (Report.Refused k) old = old
figures_out (Reported f) old = f.commits ∷ f.reuses ∷ f.abandoned ∷ f.held ∷ f.idle ∷ f.overlap ∷ []

abbrev pub figures_in : List ℕ → Figures
figures_in fs = record { commits = get_or fs 0 0; reuses = get_or fs 1 0; abandoned = get_or fs 2 0; held = get_or fs 3 0; idle = get_or fs 4 0; overlap = get_or fs 5 0 }

pub record ReportEnds (o : Report) (r : ℕ) (fs fs' : List ℕ) : Type 0 where
  pub code : r ≡ report_code o
  pub figures : fs' ≡ figures_out o fs
