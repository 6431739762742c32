-- A mixed history over the exported functions, from an opening, is the model's.
--     run_is           its answers are the model's
--     pool-rep         the book that it leaves stands for the model's pool
--     observed-is      the calls with their answers are the model's events without the runs
use Rattle.facts.proofs.Prelude.{ℕ, ◌≤◌, true, List, [], ◌∷◌, ◌++◌, map, head-eq_of_cons-eq, tail-eq_of_cons-eq}
use Rattle.facts.proofs.Prelude.{none, ◌≡◌, refl, sym, ap, ap₂, ◌∙◌, subst, ltb, leb, length, le-leb, by_cases}
use Rattle.words.specs.Host.{bad_host}
use Rattle.classes.specs.Shape.{class_count}
use Rattle.rules.specs.Rules.{Rules, rules_of, Fit}
use Rattle.rules.proofs.Cover.{rules-fit}
use Rattle.fields.specs.Field.{words}
use Rattle.fields.specs.Ranges.{max_pages}
use Rattle.model.specs.History.{Event}
use Rattle.arena.specs.Open.{opened}
use Rattle.pool.specs.Pool.{Pool, new_pool, PoolCall, PoolAnswer, PoolRequest, host_in, to, heap, pool_step}
use Rattle.pool.specs.Observed.{PoolEvent, observed, observed_of, pool_events, pool_events_from, pool_after}
use Rattle.pool.proofs.Conserved.{pool-append}
use Rattle.poolcalls.specs.Calls.{PoolReply}
use Rattle.vigbuso.specs.Direct.{open_on}
use Rattle.vigbuso.specs.Pool.{pool_on}
use Rattle.poolrefinement.specs.way.Represents.{PoolRep}
use Rattle.poolrefinement.specs.Run.{ask_on, on_call, pool_answers_from, book_from}
use Rattle.poolrefinement.proofs.Runs.{opened-pool, call-agrees, pool-runs}
use Rattle.demands.specs.Run.{Opens}
use Rattle.demands.specs.Mixed.{pool_call, recorded}
use Rattle.demands.proofs.Calls.{room, opened-by, call-is, class-turned, class-fits, class-none}
use Rattle.demands.proofs.Observed.{bare}

-- ---- one call, on a book that stands for a pool
module _ (n : ℕ) (some-pages : 1 ≤ n) (few-pages : n ≤ max_pages) (b : List ℕ) (P : Pool) (R : PoolRep n b P) where
  pub ask-is : (c : ℕ) (x : PoolRequest) → pool_on b c x ≡ ask_on n b c x
  unfolding pool_on ask_on
  ask-is c x =
      let h = host_in x in
      by_cases (bad_host h)
      (λ e. rw (e, class-turned n b some-pages few-pages P.heap R.heap h class_count c e))
      (λ e. by_cases (ltb c class_count)
      (λ u. rw (e, u, class-fits n b some-pages few-pages P.heap R.heap h e class_count c u, R.heap.arena.length))
      (λ u. rw (e, u, class-none n b some-pages few-pages P.heap R.heap h e class_count c u)))

  one-is : (x : PoolCall) → pool_call b x ≡ on_call n b x
  unfolding pool_call on_call
  one-is (to c x) = ask-is c x
  one-is (heap x) = rw (call-is n b some-pages few-pages P.heap R.heap x)

-- ---- from an opening: what is answered, the book that is left, and what is told
abbrev pub open_run : ℕ → List ℕ → List ℕ → List PoolCall → List PoolAnswer
open_run n rows b xs = pool_answers_from pool_call (open_on b n rows).book xs

abbrev pub open_book : ℕ → List ℕ → List ℕ → List PoolCall → List ℕ
open_book n rows b xs = book_from pool_call (open_on b n rows).book xs

abbrev pub open_recorded : ℕ → List ℕ → List ℕ → List PoolCall → List PoolEvent
open_recorded n rows b xs = recorded xs (open_run n rows b xs)

abbrev pub open_observed : ℕ → List ℕ → List ℕ → List PoolCall → List Event
open_observed n rows b xs = observed_of (open_recorded n rows b xs)

-- ---- in turn
record Same (n : ℕ) (b : List ℕ) (xs : List PoolCall) : Type 0 where
  answers : pool_answers_from pool_call b xs ≡ pool_answers_from (on_call n) b xs
  book : book_from pool_call b xs ≡ book_from (on_call n) b xs

module _ (n : ℕ) (some-pages : 1 ≤ n) (few-pages : n ≤ max_pages) (rules : Rules) where
  same : (xs ys : List PoolCall) (b : List ℕ) → PoolRep n b (pool_after n rules ys) → Same n b xs
  same [] ys b R = record { answers = refl; book = refl }
  same (x ∷ xs) ys b R =
      let e = one-is n some-pages few-pages b (pool_after n rules ys) R x in
      let b₁ = (on_call n b x).book in
      let next = pool-append n (new_pool rules) ys (x ∷ []) in
      let ih = same xs (ys ++ x ∷ []) b₁ (subst (λ Q. PoolRep n b₁ Q) (sym next) (call-agrees n few-pages rules ys b R x).pool) in
      record {
        answers = ap (λ (s : PoolReply). s.answer ∷ pool_answers_from pool_call s.book xs) e ∙ ap (λ (zs : List PoolAnswer). (on_call n b x).answer ∷ zs) ih.answers;
        book = ap (λ (s : PoolReply). book_from pool_call s.book xs) e ∙ ih.book;
      }

module _ (n : ℕ) (rows b : List ℕ) (o : Opens n rows b) (xs : List PoolCall) where
  fit : (c : ℕ) → Fit (rules_of rows c)
  fit = rules-fit rows (room n rows b o).ruled

  long : leb (words n) (length b) ≡ true
  long = le-leb (words n) (length b) (room n rows b o).long

  whole : Same n (open_on b n rows).book xs
  whole =
      let r = room n rows b o in
      subst (λ (d : List ℕ). Same n d xs) (sym (opened-by n rows b o)) (same n r.some-pages r.few-pages (rules_of rows) xs [] (opened n (rules_of rows) b) (opened-pool n (rules_of rows) b long fit))

  pub run_is : open_run n rows b xs ≡ map (λ v. v.answer) (pool_events n (rules_of rows) xs)
  run_is =
      whole.answers
      ∙ ap (λ (d : List ℕ). pool_answers_from (on_call n) d xs) (opened-by n rows b o)
      ∙ (pool-runs n (room n rows b o).few-pages (rules_of rows) fit b long xs).answers

  pub pool-rep : PoolRep n (open_book n rows b xs) (pool_after n (rules_of rows) xs)
  pool-rep =
      subst (λ (d : List ℕ). PoolRep n d (pool_after n (rules_of rows) xs)) (sym (whole.book ∙ ap (λ (d : List ℕ). book_from (on_call n) d xs) (opened-by n rows b o)))
      (pool-runs n (room n rows b o).few-pages (rules_of rows) fit b long xs).book

-- ---- what is told
recorded-is : (n : ℕ) (P : Pool) (xs : List PoolCall) (zs : List PoolAnswer) → zs ≡ map (λ v. v.answer) (pool_events_from n P xs) → observed_of (recorded xs zs) ≡ bare (observed_of (pool_events_from n P xs))
recorded-is n P [] zs e = refl
recorded-is n P (x ∷ xs) [] e = cc
recorded-is n P (x ∷ xs) (a ∷ zs) e =
    ap₂ (λ (a : PoolAnswer) (vs : List Event). observed (record { call = x; answer = a; run = none }) ∷ vs) (head-eq_of_cons-eq e) (recorded-is n (pool_step n P x).pool xs zs (tail-eq_of_cons-eq e))

pub observed-is : (n : ℕ) (rows b : List ℕ) → Opens n rows b → (xs : List PoolCall) → open_observed n rows b xs ≡ bare (observed_of (pool_events n (rules_of rows) xs))
observed-is n rows b o xs = recorded-is n (new_pool (rules_of rows)) xs (open_run n rows b xs) (run_is n rows b o xs)
