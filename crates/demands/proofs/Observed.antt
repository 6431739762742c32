-- What is told of a history on the words, its calls with their answers, is what the model's events have of it; a class's answers, entries
-- and holds read no more of events than that.
--     observed-is           the calls with their answers are the model's events without the runs
--     recounted-is          with the runs they are the model's events
--     observed-answers      so a class's answers are the model's
--     observed-disjoint     and what the model's events have as `Disjoint` and `IsoDisjoint`, these have
use Rattle.facts.proofs.Prelude.{ℕ, suc, ◌/◌, Bool, false, not, ◌&&◌, List, [], ◌∷◌, map, head-eq_of_cons-eq}
use Rattle.facts.proofs.Prelude.{tail-eq_of_cons-eq, inl, inr, none, ◌≡◌, refl, sym, ap, ap₂, ◌∙◌, every, by_cases}
use Rattle.classes.specs.Sizes.{page_bytes}
use Rattle.rules.specs.Rules.{rules_of}
use Rattle.model.specs.Calls.{Call, Answer, names}
use Rattle.model.specs.Heap.{Heap, step, new_heap}
use Rattle.model.specs.History.{Event, events_from, events, answers_of, is_of}
use Rattle.model.specs.Entries.{Entry, Live, OutIn, releases, direct_next, direct_from, direct_after}
use Rattle.model.specs.Demands.{Disjoint, IsoDisjoint}
use Rattle.refinement.specs.Direct.{Reply}
use Rattle.refinement.specs.Run.{answers_in}
use Rattle.demands.specs.Run.{Opens, answered, observed, run, with_runs, recounted}
use Rattle.demands.proofs.Histories.{run-answers}

abbrev pub bare : List Event → List Event
bare [] = []
bare (v ∷ vs) = record { call = v.call; answer = v.answer; run = none } ∷ bare vs

answered-is : (n : ℕ) (H : Heap) (xs : List Call) (rs : List Reply) → answers_in rs ≡ map (λ (e : Event). e.answer) (events_from n H xs) → answered xs rs ≡ bare (events_from n H xs)
answered-is n H [] rs e = refl
answered-is n H (x ∷ xs) [] e = cc
answered-is n H (x ∷ xs) (r ∷ rs) e =
    ap₂ (λ (a : Answer) (vs : List Event). record { call = x; answer = a; run = none } ∷ vs) (head-eq_of_cons-eq e) (answered-is n (step n H x).heap xs rs (tail-eq_of_cons-eq e))

pub observed-is : (n : ℕ) (rows b : List ℕ) → Opens n rows b → (xs : List Call) → observed n rows b xs ≡ bare (events n (rules_of rows) xs)
observed-is n rows b o xs = answered-is n (new_heap (rules_of rows)) xs (run n rows b xs) (run-answers n rows b o xs)

-- with what the arena gave they are the model's events
with-runs : (us : List Event) → with_runs (bare us) us ≡ us
with-runs [] = refl
with-runs (u ∷ us) = ap (λ (vs : List Event). u ∷ vs) (with-runs us)

pub recounted-is : (n : ℕ) (rows b : List ℕ) → Opens n rows b → (xs : List Call) → recounted n (rules_of rows) xs (run n rows b xs) ≡ events n (rules_of rows) xs
recounted-is n rows b o xs = ap (λ (vs : List Event). with_runs vs (events n (rules_of rows) xs)) (observed-is n rows b o xs) ∙ with-runs (events n (rules_of rows) xs)

-- ---- a class's answers
bare-answers : (c : ℕ) (vs : List Event) → answers_of c (bare vs) ≡ answers_of c vs
bare-answers c [] = refl
bare-answers c (v ∷ vs) =
    by_cases (is_of c (names v.call)) (λ e. rw e (ap (λ (ys : List Answer). v.answer ∷ ys) (bare-answers c vs))) (λ e. rw e (bare-answers c vs))

pub observed-answers : (n : ℕ) (rows b : List ℕ) → Opens n rows b → (c : ℕ) (xs : List Call) → answers_of c (observed n rows b xs) ≡ answers_of c (events n (rules_of rows) xs)
observed-answers n rows b o c xs = ap (answers_of c) (observed-is n rows b o xs) ∙ bare-answers c (events n (rules_of rows) xs)

-- ---- entries and holds
bare-kept : (e : Entry) (vs : List Event)
    → every (λ (u : Event). not (releases (names u.call) u.answer e)) (bare vs) ≡ every (λ (u : Event). not (releases (names u.call) u.answer e)) vs
bare-kept e [] = refl
bare-kept e (v ∷ vs) = ap (λ (t : Bool). not (releases (names v.call) v.answer e) && t) (bare-kept e vs)

pub bare-live : (k : ℕ) (vs : List Event) (e : Entry) → Live k (bare vs) e → Live k vs e
bare-live k [] e l = l
bare-live k (v ∷ vs) e (inl p) = inl (p.0, sym (bare-kept e vs) ∙ p.1)
bare-live k (v ∷ vs) e (inr l) = inr (bare-live (suc k) vs e l)

pub live-bare : (k : ℕ) (vs : List Event) (e : Entry) → Live k vs e → Live k (bare vs) e
live-bare k [] e l = l
live-bare k (v ∷ vs) e (inl p) = inl (p.0, bare-kept e vs ∙ p.1)
live-bare k (v ∷ vs) e (inr l) = inr (live-bare (suc k) vs e l)

pub bare-direct : (f : ℕ → Bool) (vs : List Event) (x : ℕ) → direct_from f (bare vs) x ≡ direct_from f vs x
bare-direct f [] x = refl
bare-direct f (v ∷ vs) x = bare-direct (direct_next v.call v.answer f) vs x

pub bare-disjoint : (vs : List Event) → Disjoint vs → Disjoint (bare vs)
bare-disjoint vs d = record {
  apart = λ e e' l l'. d.apart e e' (bare-live 0 vs e l) (bare-live 0 vs e' l');
  off_direct = λ e l b h. bare-direct (λ x. false) vs (b / page_bytes) ∙ d.off_direct e (bare-live 0 vs e l) b h;
}

pub bare-iso : (n : ℕ) (vs : List Event) → IsoDisjoint n vs → IsoDisjoint n (bare vs)
bare-iso n vs d = record {
  in_arena = λ e l. d.in_arena e (bare-live 0 vs e l);
  no_common = λ e e' l l'. d.no_common e e' (bare-live 0 vs e l) (bare-live 0 vs e' l');
}

module _ (n : ℕ) (rows b : List ℕ) (o : Opens n rows b) (xs : List Call) where
  pub observed-live : (e : Entry) → Live 0 (observed n rows b xs) e → Live 0 (events n (rules_of rows) xs) e
  observed-live e l = bare-live 0 (events n (rules_of rows) xs) e (rw (observed-is n rows b o xs) at l)

  pub observed-out : (c w : ℕ) → OutIn (observed n rows b xs) c w → OutIn (events n (rules_of rows) xs) c w
  observed-out c w e = record { entry = e.entry; live = observed-live e.entry e.live; class = e.class; word = e.word }

  pub out-observed : (c w : ℕ) → OutIn (events n (rules_of rows) xs) c w → OutIn (observed n rows b xs) c w
  out-observed c w e = rw (observed-is n rows b o xs) (record { entry = e.entry; live = live-bare 0 (events n (rules_of rows) xs) e.entry e.live; class = e.class; word = e.word })

  pub observed-direct : (x : ℕ) → direct_after (observed n rows b xs) x ≡ direct_after (events n (rules_of rows) xs) x
  observed-direct x = ap (λ (vs : List Event). direct_after vs x) (observed-is n rows b o xs) ∙ bare-direct (λ y. false) (events n (rules_of rows) xs) x

  pub observed-disjoint : Disjoint (events n (rules_of rows) xs) → Disjoint (observed n rows b xs)
  observed-disjoint d = rw (observed-is n rows b o xs) (bare-disjoint (events n (rules_of rows) xs) d)

  pub observed-iso : IsoDisjoint n (events n (rules_of rows) xs) → IsoDisjoint n (observed n rows b xs)
  observed-iso d = rw (observed-is n rows b o xs) (bare-iso n (events n (rules_of rows) xs) d)
