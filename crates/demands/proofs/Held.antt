-- A run held by the direct calls can be released or grown, and no other: number 12 goes by what the calls and their answers tell.
--     held-releases, held-grows       a direct release, a growth is not refused exactly if each page of the run is held so
--     unheld-refused, unheld-stays    else it is refused as 12
--     growth-fits                     and a growth that is not refused is answered yes or no with its reason
use Rattle.facts.proofs.Prelude.{ℕ, ◌+◌, ◌-◌, ◌≤◌, ◌<◌, arith, true, false, cond, false≢true, List, ◌↔◌, ◌≡◌, refl, sym, ap, ◌∙◌, eqb, leb}
use Rattle.facts.proofs.Prelude.{eqb-true, eqb-false, leb-true, leb-false, le-leb, lt-leb, le-ltb, by_cases, and_right, every-at, every_of}
use Rattle.words.specs.Host.{host_max, commit_granted}
use Rattle.rules.specs.Rules.{rules_of}
use Rattle.model.specs.Calls as Calls
use Rattle.model.specs.Calls.{Call, Answer, way_of, is_refused}
use Rattle.model.specs.Arena.{Arena, grow}
use Rattle.model.specs.Heap.{Heap, is_direct, bad_run, held_direct, grow_call, release_call, direct_call, step}
use Rattle.model.specs.History.{heap_after}
use Rattle.model.specs.Entries.{direct_after}
use Rattle.model.proofs.HistoryArena.{good-run}
use Rattle.model.proofs.Theorems.{conserved}
use Rattle.arena.specs.Load.{load_arena}
use Rattle.vigbuso.specs.Direct.{grow_on, release_on}
use Rattle.refinement.proofs.ArenaReached.{Reached, reached-after, held_below}
use Rattle.refinement.proofs.DirectCalls.{direct-held}
use Rattle.demands.specs.Call.{call}
use Rattle.demands.specs.Run.{Opens, book_after, next, observed}
use Rattle.demands.specs.Demands.{Grows, grew, elsewhere, exhausted, ungranted, GrowFits}
use Rattle.demands.proofs.Histories.{run-represents, next-agrees}
use Rattle.demands.proofs.Codes.{zero-exactly}
use Rattle.demands.proofs.Observed.{observed-direct}

pub grow-fits : (n h e m : ℕ) (a : Arena) → Grows n h e m a (grow n h e m a).grew
unfolding grow
grow-fits n h e m a =
    by_cases (eqb a.frontier e)
    (λ f. by_cases (leb (e + m) n)
    (λ l. by_cases (commit_granted h)
    (λ c. rw (f, l, c) (grew (eqb-true a.frontier e f) (leb-true (e + m) n l) c))
    (λ c. rw (f, l, c) (ungranted c)))
    (λ l. rw (f, l) (exhausted (leb-false (e + m) n l))))
    (λ f. rw f (elsewhere (eqb-false a.frontier e f)))

-- ---- a run of m pages at q, on a heap
module _ (n : ℕ) (H : Heap) (q m : ℕ) where
  held-run : Reached n H → bad_run m ≡ false → ((k : ℕ) → k < m → is_direct (H.holder (q + k)) ≡ true) → held_direct n H q m ≡ true
  unfolding held_direct
  held-run r good f =
      let some : 1 ≤ m = good-run m good in
      let z = held_below n H r (q + (m - 1)) (direct-held (H.holder (q + (m - 1))) (f (m - 1) (omega arith))) in
      let l : q + m ≤ n = omega (arith, z, r.bound) in
      rw (le-leb (q + m) n l, every_of (λ k. is_direct (H.holder (q + k))) m f)

  run-held : held_direct n H q m ≡ true → (k : ℕ) → k < m → is_direct (H.holder (q + k)) ≡ true
  unfolding held_direct
  run-held e k l = every-at (λ k. is_direct (H.holder (q + k))) m k (and_right (leb (q + m) n) _ e) l

-- with a host word and a run that are in order, the test of 12 decides
module _ (n : ℕ) (H : Heap) (h q : ℕ) (low : h ≤ host_max) where
  step-released : (m : ℕ) → bad_run m ≡ false → (step n H (Calls.release h q m)).answer ≡ cond (held_direct n H q m) Calls.released (Calls.refused 12)
  unfolding step way_of direct_call release_call
  step-released m good = by_cases (held_direct n H q m) (λ e. rw (le-ltb host_max h low, good, e)) (λ e. rw (le-ltb host_max h low, good, e))

  step-grown : (old new : ℕ) → bad_run old ≡ false → bad_run new ≡ false → old < new
      → (step n H (Calls.grow_frontier h q old new)).answer ≡ cond (held_direct n H q old) (Calls.grown (grow n h (q + old) (new - old) H.arena).grew) (Calls.refused 12)
  unfolding step way_of direct_call grow_call
  step-grown old new good good' more =
      let t = lt-leb new old more in
      by_cases (held_direct n H q old) (λ e. rw (le-ltb host_max h low, good, good', t, e)) (λ e. rw (le-ltb host_max h low, good, good', t, e))

-- ---- after a history
module _ (n : ℕ) (rows b : List ℕ) (o : Opens n rows b) (xs : List Call) where
  abbrev heap : Heap
  heap = heap_after n (rules_of rows) xs

  tells : (x : ℕ) → direct_after (observed n rows b xs) x ≡ is_direct (heap.holder x)
  tells x = observed-direct n rows b o xs x ∙ (conserved n (rules_of rows) xs).direct x

  -- the call x goes by the run of m pages at q, and its answer is a if that is held
  record HeldLaw (x : Call) (q m : ℕ) (a : Answer) : Type 0 where
    returns : ((next n rows b xs x).code ≡ 0) ↔ ((k : ℕ) → k < m → direct_after (observed n rows b xs) (q + k) ≡ true)
    unheld : (k : ℕ) → k < m → direct_after (observed n rows b xs) (q + k) ≡ false → (next n rows b xs x).answer ≡ Calls.refused 12
    answer : (next n rows b xs x).code ≡ 0 → (next n rows b xs x).answer ≡ a

  held-law : (x : Call) (q m : ℕ) (a : Answer) → bad_run m ≡ false → is_refused a ≡ false → ((next n rows b xs x).code ≡ 0) ↔ (is_refused (next n rows b xs x).answer ≡ false)
      → (step n heap x).answer ≡ cond (held_direct n heap q m) a (Calls.refused 12) → HeldLaw x q m a
  held-law x q m a good y u e =
      let is = (next-agrees n rows b o xs x).answer ∙ e in
      let held : (next n rows b xs x).code ≡ 0 → held_direct n heap q m ≡ true
      = λ z. by_cases (held_direct n heap q m) (λ t. t) (λ t. absurd (false≢true (sym (u.0 z) ∙ ap is_refused is ∙ rw t))) in
      record {
        returns = (
          λ z k l. tells (q + k) ∙ run-held n heap q m (held z) k l,
          λ f. u.1 (ap is_refused is ∙ rw (held-run n heap q m (reached-after n (rules_of rows) xs) good (λ k l. sym (tells (q + k)) ∙ f k l)) y),
        );
        unheld = λ k l z. by_cases (held_direct n heap q m) (λ t. absurd (false≢true (sym z ∙ tells (q + k) ∙ run-held n heap q m t k l))) (λ t. is ∙ rw t);
        answer = λ z. is ∙ rw (held z);
      }

  module _ (h q m : ℕ) (low : h ≤ host_max) (good : bad_run m ≡ false) where
    released-by : HeldLaw (Calls.release h q m) q m Calls.released
    unfolding call
    released-by =
        held-law (Calls.release h q m) q m Calls.released good refl (zero-exactly (release_on (book_after n rows b xs) h q m).code Calls.released refl) (step-released n heap h q low m good)

    pub held-releases : ((next n rows b xs (Calls.release h q m)).code ≡ 0) ↔ ((k : ℕ) → k < m → direct_after (observed n rows b xs) (q + k) ≡ true)
    held-releases = released-by.returns

    pub unheld-refused : (k : ℕ) → k < m → direct_after (observed n rows b xs) (q + k) ≡ false → (next n rows b xs (Calls.release h q m)).answer ≡ Calls.refused 12
    unheld-refused = released-by.unheld

  module _ (h q old new : ℕ) (low : h ≤ host_max) (good : bad_run old ≡ false) (good' : bad_run new ≡ false) (more : old < new) where
    grown-by : HeldLaw (Calls.grow_frontier h q old new) q old (Calls.grown (grow n h (q + old) (new - old) heap.arena).grew)
    unfolding call
    grown-by =
        let w = grow_on (book_after n rows b xs) h q old new in
        held-law (Calls.grow_frontier h q old new) q old _ good refl (zero-exactly w.code (Calls.grown w.yes) refl) (step-grown n heap h q low old new good good' more)

    pub held-grows : ((next n rows b xs (Calls.grow_frontier h q old new)).code ≡ 0) ↔ ((k : ℕ) → k < old → direct_after (observed n rows b xs) (q + k) ≡ true)
    held-grows = grown-by.returns

    pub unheld-stays : (k : ℕ) → k < old → direct_after (observed n rows b xs) (q + k) ≡ false → (next n rows b xs (Calls.grow_frontier h q old new)).answer ≡ Calls.refused 12
    unheld-stays = grown-by.unheld

    pub growth-fits : (next n rows b xs (Calls.grow_frontier h q old new)).code ≡ 0
        → GrowFits n h (q + old) (new - old) (load_arena (book_after n rows b xs)) (next n rows b xs (Calls.grow_frontier h q old new)).answer
    growth-fits z = record {
      yes = (grow n h (q + old) (new - old) heap.arena).grew;
      fits = rw (run-represents n rows b o xs).arena.loads (grow-fits n h (q + old) (new - old) heap.arena);
      answer = grown-by.answer z;
    }
