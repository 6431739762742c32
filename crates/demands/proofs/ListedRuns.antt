-- A listed history, made by the exported calls, is answered as the listing goes.
use Rattle.facts.proofs.Prelude.{ℕ, suc, ◌+◌, ◌^◌, ◌≤◌, ◌<◌, arith, Bool, true, false, cond, false≢true, List, [], ◌∷◌, map, Option}
use Rattle.facts.proofs.Prelude.{none, some, Option·none-ne-some, ◌≡◌, refl, sym, ap, ap₂, ◌∙◌, eqb, leb, ltb, eqb-true, eqb-false}
use Rattle.facts.proofs.Prelude.{ne_eqb, le-leb, lt-leb, leb-true, leb-false, ltb-true, ltb-false, every, below, by_cases, every_of}
use Rattle.rules.specs.Rules.{rules_of}
use Rattle.model.specs.Cover.{covers, covers_run}
use Rattle.model.specs.Calls as Calls
use Rattle.model.specs.Calls.{Answer, way_of}
use Rattle.model.specs.Arena as Arenas
use Rattle.model.specs.Heap.{Heap, Holder, nobody, direct, class, is_direct, is_held, new_heap, bad_run, held_direct, commit_call, release_call, direct_call, step, answer_run}
use Rattle.model.specs.History.{Event, events_from}
use Rattle.model.specs.Entries.{Entry}
use Rattle.model.proofs.ArenaLaws.{commit-law}
use Rattle.model.proofs.IdlePages.{commit-below}
use Rattle.model.proofs.Runs.{covers_in, covers-before, covers-after}
use Rattle.model.proofs.HeapLaws.{Inv, start, step-inv}
use Rattle.listing.specs.History.{Call, Run, State, opened, granted, run_of, committed, released, History}
use Rattle.listing.specs.History as Listed
use Rattle.demands.specs.ListedRuns as Specs
use Rattle.demands.specs.ListedRuns.{Made, ListedRuns}
use Rattle.demands.proofs.Histories.{run-answers}

-- ---- the calls of a history
record Calling (n : ℕ) (s : State) (cs : List Call) : Type 0 where
  calls : List Calls.Call
  answers : List Answer
  made : Made n s cs calls answers

making : (n : ℕ) {s : State} {cs : List Call} → History n s cs → Calling n s cs
making n Listed.over = record { calls = []; answers = []; made = Specs.over }
making n (Listed.commits p one most h) = let k = making n h in record { calls = _ ∷ k.calls; answers = _ ∷ k.answers; made = Specs.commits p k.made }
making n (Listed.releases i r one most e h) = let k = making n h in record { calls = _ ∷ k.calls; answers = _ ∷ k.answers; made = Specs.releases i r e k.made }

-- ---- the heap on which they are made: its arena, and the runs that the direct calls hold
record Holds (n : ℕ) (H : Heap) (r : Run) : Type 0 where
  few : bad_run r.pages ≡ false
  inside : r.first + r.pages ≤ n
  held : (x : ℕ) → r.first ≤ x → x < r.first + r.pages → is_direct (H.holder x) ≡ true

record Stands (n : ℕ) (s : State) (H : Heap) : Type 0 where
  arena : H.arena ≡ s.arena
  holds : (i : ℕ) (r : Run) → s.runs i ≡ some r → Holds n H r
  apart : (i j : ℕ) (r t : Run) → (i ≡ j → ⊥) → s.runs i ≡ some r → s.runs j ≡ some t → (x : ℕ) → r.first ≤ x → x < r.first + r.pages → t.first ≤ x → x < t.first + t.pages → ⊥

held-not : (o : Holder) → is_direct o ≡ true → is_held o ≡ 0 → ⊥
held-not nobody e z = false≢true e
held-not direct e z = omega arith
held-not (class c) e z = false≢true e

good : (p : ℕ) → 1 ≤ p → p ≤ 3 → bad_run p ≡ false
unfolding bad_run
good p one most = rw (ne_eqb p 0 (omega arith), lt-leb (2 ^ 48) p (omega arith))

module _ (n k : ℕ) (s : State) (H : Heap) (es : List Entry) (f : ℕ → Bool) (l : ℕ → ℕ) (inv : Inv n k H es f l) (st : Stands n s H) where
  -- a commit
  module _ (p : ℕ) (ok : bad_run p ≡ false) (one : 1 ≤ p) where
    abbrev g : Arenas.Given
    g = Arenas.commit n granted p H.arena

    commit-step : step n H (Calls.commit granted p) ≡ commit_call n H granted p
    unfolding step way_of direct_call
    commit-step = rw ok

    new-was : (q x : ℕ) → g.run ≡ some q → q ≤ x → x < q + p → is_held (H.holder x) ≡ 0
    new-was q x e u v = omega (arith, inv.one x, (commit-law n granted p H.arena).pages x, ap (λ o. covers_run p o x) e, covers_in p q x u v)

    kept : (o : Option ℕ) (x : ℕ) → is_direct (H.holder x) ≡ true → is_direct (cond (eqb (covers_run p o x) 0) (H.holder x) direct) ≡ true
    kept o x e = by_cases (eqb (covers_run p o x) 0) (λ t. rw t e) (λ t. rw t refl)

    new-run : (r : Run) → run_of p g.run ≡ some r → (g.run ≡ some r.first) × (r.pages ≡ p)
    new-run r e = on g.run e
      where
        on : (o : Option ℕ) → run_of p o ≡ some r → (o ≡ some r.first) × (r.pages ≡ p)
        on none d = absurd (Option·none-ne-some r d)
        on (some q) d = let z : record { first = q; pages = p } ≡ r = cc in (ap (λ (t : Run). some t.first) z, ap (λ (t : Run). t.pages) (sym z))

    new-old : (r t : Run) → run_of p g.run ≡ some r → Holds n H t → (x : ℕ) → r.first ≤ x → x < r.first + r.pages → t.first ≤ x → x < t.first + t.pages → ⊥
    new-old r t e h x u v w y =
        let z = new-run r e in
        held-not (H.holder x) (h.held x w y) (new-was r.first x z.0 u (omega (arith, z.1)))

    commit-stands : Stands n (committed n p s) (commit_call n H granted p).heap
    unfolding committed commit_call
    commit-stands = record {
      arena = ap (λ a. (Arenas.commit n granted p a).arena) st.arena;
      holds = λ i r e. by_cases (eqb i (suc s.calls))
          (λ t. let z = new-run r (rw (t, sym st.arena) at e) in record {
            few = rw z.1 ok;
            inside = omega (arith, z.1, commit-below n granted p H.arena one (λ x. omega (arith, inv.one x)) r.first z.0, (commit-law n granted p H.arena).bound inv.bound);
            held = λ x u v. rw (z.0, covers_in p r.first x u (omega (arith, z.1))) refl;
          })
          (λ t. let z = st.holds i r (rw t at e) in record { few = z.few; inside = z.inside; held = λ x u v. kept g.run x (z.held x u v) });
      apart = λ i j r t d e e' x u v w y. by_cases (eqb i (suc s.calls))
          (λ a. by_cases (eqb j (suc s.calls))
          (λ b. d (eqb-true i (suc s.calls) a ∙ sym (eqb-true j (suc s.calls) b)))
          (λ b. new-old r t (rw (a, sym st.arena) at e) (st.holds j t (rw b at e')) x u v w y))
          (λ a. by_cases (eqb j (suc s.calls))
          (λ b. new-old t r (rw (b, sym st.arena) at e') (st.holds i r (rw a at e)) x w y u v)
          (λ b. st.apart i j r t d (rw a at e) (rw b at e') x u v w y));
    }

  -- a release
  module _ (i : ℕ) (r : Run) (e : s.runs i ≡ some r) where
    abbrev has : Holds n H r
    has = st.holds i r e

    release-step : step n H (Calls.release granted r.first r.pages) ≡ release_call H r.first r.pages
    unfolding step way_of direct_call held_direct
    release-step =
        let whole : every (λ j. is_direct (H.holder (r.first + j))) (below r.pages) ≡ true = every_of _ r.pages (λ j u. has.held (r.first + j) (omega arith) (omega arith)) in
        rw (has.few, le-leb (r.first + r.pages) n has.inside, whole)

    off : (t : Run) (x : ℕ) → (r.first ≤ x → x < r.first + r.pages → ⊥) → covers r.pages r.first x ≡ 0
    off t x d =
        by_cases (leb r.first x)
        (λ u. by_cases (ltb x (r.first + r.pages))
        (λ v. absurd (d (leb-true r.first x u) (ltb-true x (r.first + r.pages) v)))
        (λ v. covers-after r.pages r.first x (omega (arith, ltb-false x (r.first + r.pages) v))))
        (λ u. covers-before r.pages r.first x (omega (arith, leb-false r.first x u)))

    still : (j : ℕ) (t : Run) → cond (eqb j i) none (s.runs j) ≡ some t → (j ≡ i → ⊥) × (s.runs j ≡ some t)
    still j t d = by_cases (eqb j i) (λ u. absurd (Option·none-ne-some t (rw u at d))) (λ u. (λ z. eqb-false j i u z, rw u at d))

    release-stands : Stands n (released i r s) (release_call H r.first r.pages).heap
    unfolding released release_call
    release-stands = record {
      arena = ap (λ a. Arenas.give r.pages r.first a) st.arena;
      holds = λ j t d. let k = still j t d in let z = st.holds j t k.1 in record {
        few = z.few;
        inside = z.inside;
        held = λ x u v. rw (off t x (λ w y. st.apart j i t r k.0 k.1 e x u v w y)) (z.held x u v);
      };
      apart = λ j m t u d a b. st.apart j m t u d (still j t a).1 (still m u b).1;
    }

-- ---- what they answer
commit-answer : (n : ℕ) (H : Heap) (p : ℕ) (s : State) → H.arena ≡ s.arena
    → (commit_call n H granted p).answer ≡ answer_run (Arenas.commit n granted p s.arena).run (Arenas.commit n granted p s.arena).fresh
unfolding commit_call
commit-answer n H p s e = ap (λ a. answer_run (Arenas.commit n granted p a).run (Arenas.commit n granted p a).fresh) e

release-answer : (H : Heap) (q m : ℕ) → (release_call H q m).answer ≡ Calls.released
unfolding release_call
release-answer H q m = refl

answered : (n : ℕ) → n ≤ 3 → {s : State} {cs : List Call} (h : History n s cs) (k : ℕ) (H : Heap) (es : List Entry) (f : ℕ → Bool) (l : ℕ → ℕ) → Inv n k H es f l → Stands n s H
    → map (λ (v : Event). v.answer) (events_from n H (making n h).calls) ≡ (making n h).answers
unfolding making
answered n three Listed.over k H es f l inv st = refl
answered n three {s} (Listed.commits p one most h) k H es f l inv st =
    let ok = good p one (omega arith) in
    let e = commit-step n k s H es f l inv st p ok one in
    let st' : Stands n (committed n p s) (step n H (Calls.commit granted p)).heap = rw e (commit-stands n k s H es f l inv st p ok one) in
    ap₂ (λ (a : Answer) (zs : List Answer). a ∷ zs) (ap (λ o. o.answer) e ∙ commit-answer n H p s st.arena)
    (answered n three h (suc k) (step n H (Calls.commit granted p)).heap _ _ _ (step-inv n k H es f l inv (Calls.commit granted p)) st')
answered n three {s} (Listed.releases i r one most e h) k H es f l inv st =
    let d = release-step n k s H es f l inv st i r e in
    let st' : Stands n (released i r s) (step n H (Calls.release granted r.first r.pages)).heap = rw d (release-stands n k s H es f l inv st i r e) in
    ap₂ (λ (a : Answer) (zs : List Answer). a ∷ zs) (ap (λ o. o.answer) d ∙ release-answer H r.first r.pages)
    (answered n three h (suc k) (step n H (Calls.release granted r.first r.pages)).heap _ _ _ (step-inv n k H es f l inv (Calls.release granted r.first r.pages)) st')

-- every listed history: its calls from every opening
pub listed-runs : (n : ℕ) → n ≤ 3 → (h : List Call) → History n opened h → ListedRuns n h
unfolding new_heap
listed-runs n three h w =
    let k = making n w in
    record {
      calls = k.calls;
      answers = k.answers;
      made = k.made;
      runs = λ rows b o. run-answers n rows b o k.calls ∙ answered n three w 0 (new_heap (rules_of rows)) [] (λ x. false) (λ x. 0) (start n (rules_of rows))
          (record { arena = refl; holds = λ i r e. absurd (Option·none-ne-some r e); apart = λ i j r t d e. absurd (Option·none-ne-some r e) });
    }
