-- Demand 1: every exported function answers the first number of document 01's table that applies to the call, and a refusal changes
-- nothing.
--     .. -refuses         for each function
--     demand-1            all of them, in one record
--     refused-exactly     a call is refused exactly when a number of its table applies
use Rattle.facts.proofs.Prelude.{ℕ, zero, suc, arith, Bool, true, false, cond, not, ◌&&◌, and-true, true≢false, List, [], ◌∷◌, ◌↔◌, Option, none, some, ◌≡◌, refl}
use Rattle.facts.proofs.Prelude.{sym, ap, ◌∙◌, eqb, leb, ltb, ltb-true, lt-leb, eqb-true, eqb-false, every, any, by_cases, and_left, and_right}
use Rattle.words.specs.Host.{digit}
use Rattle.classes.specs.Sizes.{small_sizes, medium_sizes}
use Rattle.classes.specs.Lookup.{first_fit}
use Rattle.classes.proofs.Answers.{sized-small, sized-medium, sized-large}
use Rattle.classes.proofs.Meaning.{small-first_fit, medium-first_fit, small-class, medium-class}
use Rattle.fields.specs.Field.{arena, size, state, get}
use Rattle.fields.specs.Ranges.{meta_fault, format_valid}
use Rattle.model.specs.Arena.{contains, is_ready}
use Rattle.model.proofs.Reservation.{contained-exactly}
use Rattle.plan.specs.Plan.{bad_plan}
use Rattle.arena.specs.Load.{status_of, load_arena}
use Rattle.arena.specs.Calls.{contains_call}
use Rattle.runs.specs.Answer.{answer_of, commit_code}
use Rattle.direct.specs.Answer.{grown_as, grow_code}
use Rattle.take.specs.Answer as Takes
use Rattle.release.specs.Answer.{answer_as}
use Rattle.vigbuso.specs.Direct.{first_out, fresh_out, grown_out, contains_on}
use Rattle.vigbuso.specs.Blocks.{code_out, count_out, virgin_out, release_code, fate_out}
use Rattle.demands.specs.Refusals.{Row, first_number, checking_order, in_order, Refuses, OpenRefuses, CommitRefuses, GrowRefuses, GiveRefuses, ReportRefuses, TakeRefuses, ReleaseRefuses, ChunksRefuses, contains_table, ContainedIn, ContainsAnswers, SizeAnswers, Demand1, TableRefuses, GameRefuses, PlanRefuses, ListingRefuses}
use Rattle.demands.specs.Ranges.{state_known, format_is, strays, fits}
use Rattle.demands.proofs.RefusalsLaws.{Ends, book-turn}
use Rattle.demands.proofs.TraceRefusals.{trace-refuses}
use Rattle.demands.proofs.RefusalsCalls.{open_table_lem, commit-table, grow-table, give-table, report-table, take-table, release-table, chunks-table, rate_table_lem, game-table, listing-table}
use Rattle.pages.proofs.Descending.{digit-le}

-- ---- the answer's number is the definition's, and where it is one, the out-parameters stay as they were
commit-number : (k : ℕ) (q : Option ℕ) (f : Bool) → commit_code (answer_of k q f) ≡ k
commit-number zero none f = refl
commit-number zero (some q) f = refl
commit-number (suc k) q f = refl

commit-first : (k : ℕ) (q : Option ℕ) (f : Bool) (old : ℕ) → (k ≡ 0 → ⊥) → first_out (answer_of k q f) old ≡ old
commit-first zero q f old d = absurd (d refl)
commit-first (suc k) q f old d = refl

commit-fresh : (k : ℕ) (q : Option ℕ) (f : Bool) (old : ℕ) → (k ≡ 0 → ⊥) → fresh_out (answer_of k q f) old ≡ old
commit-fresh zero q f old d = absurd (d refl)
commit-fresh (suc k) q f old d = refl

grow-number : (k : ℕ) (y : Bool) → grow_code (grown_as k y) ≡ k
grow-number zero true = refl
grow-number zero false = refl
grow-number (suc k) y = refl

grow-grown : (k : ℕ) (y : Bool) (old : ℕ) → (k ≡ 0 → ⊥) → grown_out (grown_as k y) old ≡ old
grow-grown zero y old d = absurd (d refl)
grow-grown (suc k) y old d = refl

take-number : (k m : ℕ) (v : Bool) → code_out (Takes.answer_of k m v) ≡ k
take-number zero m v = refl
take-number (suc k) m v = refl

take_count : (k m : ℕ) (v : Bool) (old : ℕ) → (k ≡ 0 → ⊥) → count_out (Takes.answer_of k m v) old ≡ old
take_count zero m v old d = absurd (d refl)
take_count (suc k) m v old d = refl

take-virgin : (k m : ℕ) (v : Bool) (old : ℕ) → (k ≡ 0 → ⊥) → virgin_out (Takes.answer_of k m v) old ≡ old
take-virgin zero m v old d = absurd (d refl)
take-virgin (suc k) m v old d = refl

release-number : (k f : ℕ) → release_code (answer_as k f) ≡ k
release-number zero f = refl
release-number (suc k) f = refl

release-fate : (k f old : ℕ) → (k ≡ 0 → ⊥) → fate_out (answer_as k f) old ≡ old
release-fate zero f old d = absurd (d refl)
release-fate (suc k) f old d = refl

-- ---- from a definition to what its function answers and leaves
module _ {R : Type 0} (code : R → ℕ) (Same : R → Type 0) (rows : List Row) (o : R) (t : Ends code Same rows o) where
  pub refuses : (After : Type 0) (r : ℕ) → in_order checking_order rows ≡ true → r ≡ code o → ((code o ≡ 0 → ⊥) → Same o → After) → Refuses rows r After
  refuses After r u e f = record { order = u; number = e ∙ t.number; kept = λ d. let g : code o ≡ 0 → ⊥ = λ z. d (e ∙ z) in f g (t.kept g) }

-- ---- the functions
pub open_refuses : OpenRefuses
open_refuses b n ws r b' e = refuses _ _ _ _ (open_table_lem b n ws) _ r refl e.answer λ d s. e.book ∙ s

pub commit-refuses : CommitRefuses
commit-refuses b h m r b' q q' f f' e =
    refuses _ _ _ _ (commit-table b h m) _ r refl (e.code ∙ commit-number _ _ _)
    λ d s. (e.book ∙ s, e.first ∙ commit-first _ _ _ q d, e.fresh ∙ commit-fresh _ _ _ f d)

pub grow-refuses : GrowRefuses
grow-refuses b h q old new r b' g g' e =
    refuses _ _ _ _ (grow-table b h q old new) _ r refl (e.code ∙ grow-number _ _) λ d s. (e.book ∙ s, e.grown ∙ grow-grown _ _ g d)

pub give-refuses : GiveRefuses
give-refuses b h q m r b' e = refuses _ _ _ _ (give-table b h q m) _ r refl e.code λ d s. e.book ∙ s

pub report-refuses : ReportRefuses
report-refuses b r fs fs' e = refuses _ _ _ _ (report-table b fs) _ r refl e.code λ d s. e.figures ∙ s

pub take-refuses : (low many : ℕ) → TakeRefuses low many
take-refuses low many b c h l r b' l' k k' v v' e =
    refuses _ _ _ _ (take-table low many b c h l) _ r refl (e.code ∙ take-number _ _ _)
    λ d s. (e.book ∙ s.0, e.list ∙ s.1, e.count ∙ take_count _ _ _ k d, e.virgin ∙ take-virgin _ _ _ v d)

pub release-refuses : (low many : ℕ) → ReleaseRefuses low many
release-refuses low many b c h ws r b' f f' e =
    refuses _ _ _ _ (release-table low many b c h ws) _ r refl (e.code ∙ release-number _ _) λ d s. (e.book ∙ s, e.fate ∙ release-fate _ _ f d)

pub chunks-refuses : ChunksRefuses
chunks-refuses b c h ws gs fs r b' fs' e = refuses _ _ _ _ (chunks-table b c h ws gs fs) _ r refl e.code λ d s. (e.book ∙ s.0, e.fates ∙ s.1)

pub table-refuses : TableRefuses
table-refuses a b top slots l r l' e = refuses _ _ _ _ (rate_table_lem a b top slots l) _ r refl e.code λ d s. e.list ∙ s

pub game-refuses : GameRefuses
game-refuses n limit k r w w' e = refuses _ _ _ _ (game-table n limit k w) _ r refl e.code λ d s. e.wins ∙ s

pub listing-refuses : ListingRefuses
listing-refuses n k l r l' w w' e = refuses _ _ _ _ (listing-table n k l w) _ r refl e.code λ d s. (e.list ∙ s.0, e.written ∙ s.1)

pub plan-refuses : PlanRefuses
plan-refuses ks ts r t t' e = record { order = refl; number = e.code; kept = λ d. kept d }
  where
    kept : (r ≡ 0 → ⊥) → t' ≡ t
    kept d = by_cases (bad_plan ks ts) (λ b. e.total ∙ rw b) (λ b. absurd (d (e.code ∙ rw b)))

-- ---- the lookup and `contains` refuse nothing
pub size-answers : SizeAnswers
size-answers bytes r c c' e = record {
  small = λ h. rw (e.kind, e.class, sized-small bytes h) (refl, small-first_fit bytes h, lt-leb 64 (first_fit bytes small_sizes) (small-class bytes h));
  medium = λ l h. rw (e.kind, e.class, sized-medium bytes l h) (refl, medium-first_fit bytes h, lt-leb 12 (first_fit bytes medium_sizes) (medium-class bytes h));
  large = λ l. rw (e.kind, e.class, sized-large bytes l) (refl, refl);
}

beyond-ready : (s : ℕ) → leb s 2 ≡ false → is_ready (status_of s) ≡ false
beyond-ready zero e = refl
beyond-ready (suc zero) e = e
beyond-ready (suc (suc s)) e = refl

module _ (b : List ℕ) (o k : ℕ) where
  -- the rows are those of the book's length, and of STATE's and FORMAT's ranges
  abbrev in_ranges : Bool
  in_ranges = leb (get b (arena state)) 2 && format_valid b

  ranges_are : strays b (state_known ∷ format_is ∷ []) ≡ not in_ranges
  unfolding strays fits format_valid
  ranges_are = rw (and-true (format_valid b))

  row_first : cond (eqb (meta_fault b) 0) (cond in_ranges 0 13) (meta_fault b) ≡ first_number (contains_table b)
  unfolding meta_fault
  row_first =
      rw ranges_are
      (book-turn {R = ℕ} (λ x. x) (λ x. Unit {0}) ((13, not in_ranges) ∷ []) (λ x. x) _ (λ x. refl) (λ x. tt) (record { number = in_range_lem in_ranges; kept = λ d. tt }) (get b (arena size)) b).number
    where
      in_range_lem : (t : Bool) → cond t 0 13 ≡ first_number ((13, not t) ∷ [])
      in_range_lem true = refl
      in_range_lem false = refl

  contains-no : (first_number (contains_table b) ≡ 0 → ⊥) → contains_on b o k ≡ false
  unfolding contains_on contains_call contains load_arena
  contains-no d =
      by_cases (eqb (meta_fault b) 0)
      (λ e. by_cases (format_valid b)
      (λ f. by_cases (leb (get b (arena state)) 2) (λ i. absurd (d (sym row_first ∙ rw (e, i, f)))) (λ i. rw (e, f, beyond-ready (get b (arena state)) i)))
      (λ f. rw (e, f)))
      (λ e. rw e)

  contains-yes : (contains_on b o k ≡ true) ↔ ContainedIn b o k
  unfolding contains_on contains_call
  contains-yes = (yes, no)
    where
      yes : contains_on b o k ≡ true → ContainedIn b o k
      yes e = record {
        valid = by_cases (eqb (first_number (contains_table b)) 0) (λ z. eqb-true (first_number (contains_table b)) 0 z) (λ z. absurd (true≢false (sym e ∙ contains-no (λ y. eqb-false (first_number (contains_table b)) 0 z y))));
        within = by_cases (eqb (meta_fault b) 0) (λ z. (contained-exactly (get b (arena size)) o k (load_arena b)).0 (and_right (format_valid b) _ (rw z at e))) (λ z. absurd (true≢false (sym (rw z at e))));
      }

      made : eqb (meta_fault b) 0 ≡ true → first_number (contains_table b) ≡ 0 → format_valid b ≡ true
      made z v = by_cases in_ranges (λ t. and_right (leb (get b (arena state)) 2) _ t) (λ t. let y : ◌≡◌ {A = ℕ} 13 0 = rw (z, t) at (row_first ∙ v) in absurd (omega arith))

      no : ContainedIn b o k → contains_on b o k ≡ true
      no c =
          by_cases (eqb (meta_fault b) 0)
          (λ z. rw (z, made z c.valid) ((contained-exactly (get b (arena size)) o k (load_arena b)).1 c.within))
          (λ z. absurd (eqb-false (meta_fault b) 0 z (rw z at (row_first ∙ c.valid))))

pub digit-one : (t : Bool) → digit t ≡ 1 → t ≡ true
digit-one true e = refl
digit-one false e = absurd (omega arith)

pub contains-answers : ContainsAnswers
contains-answers b o k r e = record {
  plain = rw e (digit-le (contains_on b o k));
  no = λ d. e ∙ ap digit (contains-no b o k d);
  yes = (λ z. (contains-yes b o k).0 (digit-one (contains_on b o k) (sym e ∙ z)), λ c. e ∙ ap digit ((contains-yes b o k).1 c));
}

-- ---- the demand
pub demand_1 : Demand1
demand_1 = record {
  opening = open_refuses;
  commit = commit-refuses;
  grow_frontier = grow-refuses;
  release = give-refuses;
  report = report-refuses;
  take_blocks = take-refuses 0 64;
  medium_take_blocks = take-refuses 64 12;
  release_blocks = release-refuses 0 64;
  medium_release_blocks = release-refuses 64 12;
  release_bin_chunks = chunks-refuses;
  class_table = table-refuses;
  asker_wins = game-refuses;
  plan = plan-refuses;
  short_histories = listing-refuses;
  trace = trace-refuses;
  contains = contains-answers;
  size_class = size-answers;
}

-- ---- "refused exactly when one of these papers' numbers applies to it"
none_applies : (ks : List ℕ) (rows : List Row) → every (ltb 0) ks ≡ true → in_order ks rows ≡ true → first_number rows ≡ 0 → any (λ row. row.1) rows ≡ false
none_applies ks [] p u e = refl
none_applies [] (row ∷ rows) p u e = absurd (true≢false (sym u))
none_applies (k ∷ ks) (row ∷ rows) p u e =
    let p' = and_right (ltb 0 k) _ p in
    by_cases (eqb k row.0)
    (λ i. by_cases row.1
    (λ f. absurd (let z = ltb-true 0 k (and_left (ltb 0 k) _ p) in let y : row.0 ≡ 0 = rw f at e in let x = eqb-true k row.0 i in omega arith))
    (λ f. rw f (none_applies ks rows p' (rw i at u) (rw f at e))))
    (λ i. none_applies ks (row ∷ rows) p' (rw i at u) e)

first-none : (rows : List Row) → any (λ row. row.1) rows ≡ false → first_number rows ≡ 0
first-none [] e = refl
first-none (row ∷ rows) e = by_cases row.1 (λ f. absurd (true≢false (rw f at e))) (λ f. rw f (first-none rows (rw f at e)))

pub refused-exactly : {rows : List Row} {r : ℕ} {Same : Type 0} → Refuses rows r Same → (r ≡ 0) ↔ (any (λ row. row.1) rows ≡ false)
refused-exactly {rows} e = (λ z. none_applies checking_order rows refl e.order (sym e.number ∙ z), λ z. e.number ∙ first-none rows z)
