-- The ways out of the exported calls that go straight to the arena.
use Rattle.facts.proofs.Prelude.{ℕ, zero, suc, ◌≤◌, arith, Bool, true, false, List, none, ◌≡◌, refl, sym, ap, ◌∙◌, leb, length, leb-true, eq-eqb, ne_eqb, and_right}
use Rattle.std.specs.Prelude.{Ok}
use mir.Val.{Fits, bool_byte}
use mir.Syntax.{w32}
use Rattle.words.specs.Host.{digit}
use Rattle.words.proofs.Answers.{byte-digit}
use Rattle.rules.specs.Rules.{rows_fault, rules_of}
use Rattle.fields.specs.Field.{arena, size, get, Has, words}
use Rattle.fields.specs.Outcome.{Did}
use Rattle.fields.specs.Ranges.{within, between, max_pages, length_fault, meta_fault}
use Rattle.fields.proofs.Sound.{sound, both}
use Rattle.model.specs.declared.Figures.{Figures}
use Rattle.arena.specs.Calls.{Committed, commit_refused, commit_call, Done, done_refused, grow_call, release_call, contains_call}
use Rattle.arena.specs.Open.{opened}
use Rattle.runs.specs.way.Pre.{BookIn}
use Rattle.runs.specs.Answer.{Commit, Refused, Run, Nothing, answer_of, Answers}
use Rattle.direct.specs.Answer.{Grow, grown_as, Releases, Report, Reported, report_of}
use Rattle.direct.specs.way.Acts.{Grew}
use Rattle.direct.specs.way.Told.{told_grow}
use Rattle.vigbuso.specs.Faults.{call_fault}
use Rattle.vigbuso.specs.Direct.{open_fault, open_on, no_page, commit_on, CommitEnds, grow_on, GrowEnds, release_on, contains_on, report_on, figures_out, ReportEnds}

-- ---- numbers 1 and 2
pub none_before : (b : List ℕ) (r : ℕ) → r ≡ meta_fault b → r ≡ 0 → meta_fault b ≡ 0
none_before b r e z = sym e ∙ z

module _ (b : List ℕ) (z : meta_fault b ≡ 0) where
  pub has-size : Has b (arena size)
  has-size = let k = leb-true (words (get b (arena size))) (length b) (sound b 0 (sym z) refl).long in omega arith

  pub book_in : (n : ℕ) → n ≡ get b (arena size) → BookIn b n
  book_in n f =
      let k = sound b 0 (sym z) refl in
      let l = leb-true (words (get b (arena size))) (length b) k.long in
      let m = leb-true (get b (arena size)) max_pages (and_right (leb 1 (get b (arena size))) _ k.sized) in
      record { long = omega arith; small = omega arith }

-- a number that is none of 0 is a refusal's
refusal : (k : ℕ) → (k ≡ 0 → ⊥) → Refused k ≡ answer_of k none false
refusal zero d = absurd (d refl)
refusal (suc k) d = refl

grow-refusal : (k : ℕ) → (k ≡ 0 → ⊥) → Grow.Refused k ≡ grown_as k false
grow-refusal zero d = absurd (d refl)
grow-refusal (suc k) d = refl

-- ---- opening

module _ (b : List ℕ) (n r : ℕ) (e : r ≡ length_fault n (length b)) where
  module _ (z : r ≡ 0) where
    pub sides : (within (between 1 max_pages) n ≡ true) × (leb (words n) (length b) ≡ true)
    sides = both _ _ r e z

    pub open_fits : Fits w32 n
    open_fits = record { fits = let k = leb-true n max_pages (and_right (leb 1 n) _ sides.0) in omega arith }

    pub open_long : 40000 ≤ length b
    open_long = let k = leb-true (words n) (length b) sides.1 in omega arith

  module _ (ws : List ℕ) where
    pub length-refused : (r ≡ 0 → ⊥) → r ≡ open_fault n ws b
    unfolding open_fault
    length-refused d = rw (← e, ne_eqb r 0 d)

    pub rows_last : (k j : ℕ) → r ≡ 0 → k ≡ j → j ≡ rows_fault ws → k ≡ open_fault n ws b
    unfolding open_fault
    rows_last k j z d f = rw (← e, eq-eqb r 0 z) (d ∙ f)

module _ (b : List ℕ) (n : ℕ) (ws : List ℕ) (r : ℕ) (e : r ≡ open_fault n ws b) where
  pub open_refused : (r ≡ 0 → ⊥) → Did r b (open_on b n ws)
  unfolding open_on
  open_refused d = rw (← e, ne_eqb r 0 d) (record { answer = refl; book = refl })

  pub open_done : (x : List ℕ) → r ≡ 0 → x ≡ opened n (rules_of ws) b → Did 0 x (open_on b n ws)
  unfolding open_on
  open_done x z f = rw (← e, eq-eqb r 0 z) (record { answer = refl; book = f })

-- ---- the out-parameters
module _ (o : Committed) (x : List ℕ) (s : Commit) (k : Answers s x o) where
  pub commit_ends_refused : (c q f : ℕ) → s ≡ Refused c → CommitEnds o c x q q f f
  commit_ends_refused c q f e = let z = sym k.answer ∙ e in record { code = rw z; book = k.book; first = rw z; fresh = rw z }

  pub commit_ends_run : (p q f : ℕ) (g : Bool) → s ≡ Run p g → CommitEnds o 0 x q p f (bool_byte g)
  commit_ends_run p q f g e = let z = sym k.answer ∙ e in record { code = rw z; book = k.book; first = rw z; fresh = rw z (byte-digit g) }

  pub commit_ends_none : (q f : ℕ) → s ≡ Nothing → CommitEnds o 0 x q no_page f 0
  commit_ends_none q f e = let z = sym k.answer ∙ e in record { code = rw z; book = k.book; first = rw z; fresh = rw z }

module _ (o : Done) (x : List ℕ) (s : Grow) (k : Grew s x o) where
  pub grow_ends_refused : (c g : ℕ) → s ≡ Grow.Refused c → GrowEnds o c x g g
  grow_ends_refused c g e = let z = sym k.answer ∙ e in record { code = rw z; book = k.book; grown = rw z }

  pub grow_ends_told : (g : ℕ) (y : Bool) → s ≡ told_grow (Ok y) → GrowEnds o 0 x g (bool_byte y)
  grow_ends_told g true e = let z = sym k.answer ∙ e in record { code = rw z; book = k.book; grown = rw z }
  grow_ends_told g false e = let z = sym k.answer ∙ e in record { code = rw z; book = k.book; grown = rw z }

module _ (o s : Report) (k : s ≡ o) where
  pub report_ends_refused : (c : ℕ) (fs : List ℕ) → s ≡ Report.Refused c → ReportEnds o c fs fs
  report_ends_refused c fs e = let z = sym k ∙ e in record { code = rw z; figures = rw z }

  pub report_ends_told : (f : Figures) (fs : List ℕ) → s ≡ Reported f → ReportEnds o 0 fs (figures_out (Reported f) fs)
  report_ends_told f fs e = let z = sym k ∙ e in record { code = rw z; figures = rw z }

-- ---- the calls
module _ (b : List ℕ) (h r : ℕ) (e : r ≡ call_fault b h) where
  pub commit-refused : (m q f : ℕ) → (r ≡ 0 → ⊥) → CommitEnds (commit_on b h m) r b q q f f
  unfolding commit_on
  commit-refused m q f d = rw (← e, ne_eqb r 0 d) (commit_ends_refused (commit_refused b r) b (Refused r) (record { answer = refusal r d; book = refl }) r q f refl)

  pub commit-goes : (m n : ℕ) (s : Commit) (x : List ℕ) → r ≡ 0 → n ≡ get b (arena size) → Answers s x (commit_call n b h m) → Answers s x (commit_on b h m)
  unfolding commit_on
  commit-goes m n s x z f k = rw (← e, eq-eqb r 0 z) (rw f at k)

  pub grow-refused : (q old new g : ℕ) → (r ≡ 0 → ⊥) → GrowEnds (grow_on b h q old new) r b g g
  unfolding grow_on
  grow-refused q old new g d = rw (← e, ne_eqb r 0 d) (grow_ends_refused (done_refused b r) b (Grow.Refused r) (record { answer = grow-refusal r d; book = refl }) r g refl)

  pub grow-goes : (q old new n : ℕ) (s : Grow) (x : List ℕ) → r ≡ 0 → n ≡ get b (arena size) → Grew s x (grow_call n b h q old new) → Grew s x (grow_on b h q old new)
  unfolding grow_on
  grow-goes q old new n s x z f k = rw (← e, eq-eqb r 0 z) (rw f at k)

  pub release-refused : (q m : ℕ) → (r ≡ 0 → ⊥) → Releases r b (release_on b h q m)
  unfolding release_on
  release-refused q m d = rw (← e, ne_eqb r 0 d) (record { code = refl; book = refl })

  pub release-goes : (q m n s : ℕ) (x : List ℕ) → r ≡ 0 → n ≡ get b (arena size) → Releases s x (release_call n b q m) → Releases s x (release_on b h q m)
  unfolding release_on
  release-goes q m n s x z f k = rw (← e, eq-eqb r 0 z) (rw f at k)

module _ (b : List ℕ) (r : ℕ) (e : r ≡ meta_fault b) where
  pub contains-refused : (o k : ℕ) → (r ≡ 0 → ⊥) → 0 ≡ digit (contains_on b o k)
  unfolding contains_on
  contains-refused o k d = rw (← e, ne_eqb r 0 d)

  pub contains-goes : (o k n : ℕ) (s : Bool) → r ≡ 0 → n ≡ get b (arena size) → s ≡ contains_call n b o k → bool_byte s ≡ digit (contains_on b o k)
  unfolding contains_on
  contains-goes o k n s z f g = rw (← e, eq-eqb r 0 z) (byte-digit s ∙ ap digit (rw f at g))

  pub report-refused : (fs : List ℕ) → (r ≡ 0 → ⊥) → ReportEnds (report_on b) r fs fs
  unfolding report_on
  report-refused fs d = rw (← e, ne_eqb r 0 d) (record { code = refl; figures = refl })

  pub report-goes : (n : ℕ) (s : Report) → r ≡ 0 → n ≡ get b (arena size) → s ≡ report_of n b → s ≡ report_on b
  unfolding report_on
  report-goes n s z f g = rw (← e, eq-eqb r 0 z) (rw f at g)
