-- The ways out of the takes.
use Rattle.facts.proofs.Prelude.{ℕ, zero, suc, ◌+◌, ◌-◌, ◌≤◌, ◌<◌, min, arith, add-one, Bool, true, false, cond, ◌&&◌, false≢true, List, none, some, ◌≡◌, refl, sym, not, not-true, not-false}
use Rattle.facts.proofs.Prelude.{ap, ◌∙◌, eqb, ltb, leb, length, lt-ltb, le-ltb, le-leb, ltb-true, ltb-false, eq-eqb, ne_eqb, eqb-true, is_some, by_cases, and_left, and_right}
use mir.Val.{bool_byte}
use Rattle.words.specs.Limits.{class_rows}
use Rattle.classes.specs.declared.Shape.{Shape}
use Rattle.classes.specs.Shape.{shape_of}
use Rattle.classes.proofs.Shapes.{shape-sound}
use Rattle.fields.specs.Field.{arena, class, frontier, partial, empty, cold, words, get}
use Rattle.fields.proofs.Changes.{Changes}
use Rattle.fields.specs.Ranges.{head_valid}
use Rattle.fields.proofs.Sound.{head-frontier}
use Rattle.arena.specs.Valid.{commit_valid}
use Rattle.arena.specs.Calls.{Committed, commit_refused, commit_for}
use Rattle.runs.specs.Answer as Arena
use Rattle.runs.specs.Answer.{Answers}
use Rattle.runs.specs.way.Found.{has_run}
use Rattle.pages.specs.Stack.{latest}
use Rattle.pages.specs.Links.{link, top, unpark_run}
use Rattle.pages.specs.Carve.{carved_at_once, new_run}
use Rattle.pages.specs.declared.Park.{Park}
use Rattle.pages.specs.declared.Park.TheVariants.{Empty, Cold}
use Rattle.pages.specs.way.Pre.{RowPre, UnparkRunPre, LinkPre, NewPre}
use Rattle.pages.proofs.Draws.{latest-length}
use Rattle.pages.proofs.Frames.{at_once-le}
use Rattle.std.proofs.Math.Option as Math
use Rattle.std.specs.Prelude.{Option, None, Some, Result, Ok, Err, MatchResult, IsOkAnd}
use Rattle.words.specs.declared.refusal.Refusal.{Refusal}
use Rattle.words.specs.declared.refusal.Refusal.TheVariants.{ListTooShort, BookWord}
use Rattle.words.specs.Refusal.{number_of}
use Rattle.take.specs.declared.call.Taken.{Taken}
use Rattle.take.specs.Answer as Answer
use Rattle.calls.specs.Take.{park_valid, Took, took_none, from_partial, from_park, on_run, take_new, take_blocks, take_call}
use Rattle.take.specs.way.TakePlan.{TakePre, TakeRunPre, TakeNewPre, SourcePre, CallPre, ListPre, Granted, walks_from, fills, Foretold, ParkedPre, first_store, unparked, readied, FirstPre, FillPre, Filling}
use Rattle.take.specs.way.TakeAnswer.{TakesInto, Serves, Source, Readies, Plans, within, take_list, Exceeds, on_run_at}
use Rattle.take.specs.Answer.{answer_of}
use Rattle.take.proofs.TakeSpares.{blocks-fixed}
use Rattle.take.proofs.AnswerSteps.{into_refused, into_took}
use Rattle.take.proofs.TakePages.{Valid}
use Rattle.take.proofs.Fill.{foreseen, fill_planned}
use Rattle.take.proofs.TakeAlone.{link-changes, alone-walks, alone-planned}
use Rattle.take.proofs.TakeNew.{is_new, new-changes, new-free, new-carved, new-valid, new-virgin}
use Rattle.take.proofs.TakeGranted.{commit-granted}
use Rattle.take.proofs.TakeParked.{parked-unparks, unparked-pre, unparked-walks}

-- another way to say the same take
said : {f g : List ℕ → Took} → ((l : List ℕ) → f l ≡ g l) → f ≡ g
said h = λ i. λ l. h l i

within-is : (k : ℕ) (b : List ℕ) (t : List ℕ → Took) (l : List ℕ) → (t l).count ≤ k → within k b t l ≡ t l
unfolding within
within-is k b t l h = ap (λ z. cond z (took_none b l 5) (t l)) (le-ltb k (t l).count h)

-- ---- a run of the arena
module _ (b : List ℕ) (c : ℕ) (sh : Shape) (q : ℕ) where
  pub run-new : TakeRunPre b c sh q → NewPre b sh q
  run-new a = record { sound = a.pre.shape; below = omega (arith, a.ends, a.pre.few); there = omega (arith, a.ends, a.pre.long) }

  module _ (a : TakeRunPre b c sh q) where
    abbrev n : ℕ
    n = a.pages

    hb : leb (words n) (length b) ≡ true
    hb = le-leb (words n) (length b) a.pre.long

    hc : ltb c class_rows ≡ true
    hc = lt-ltb c class_rows a.pre.known

    in_arena_lem : q < n
    in_arena_lem = omega (arith, a.ends, a.pre.shape.paged)

    changes : Changes is_new b (new_run b sh q)
    changes = new-changes n b hb c sh a.pre.shape q a.ends a.under a.owners

    valid : Valid n (new_run b sh q) c sh 0 sh.batch q
    valid = new-valid n b hb c sh a.pre.shape q a.ends a.under a.owners sh.batch

    alone : get (new_run b sh q) (class partial c) ≡ 0
    alone = changes.kept (class partial c) hc refl ∙ a.alone

    long₁ : leb (words n) (length (new_run b sh q)) ≡ true
    long₁ = rw changes.long hb

    pub linked-pre : TakePre n (link (new_run b sh q) c q) c sh
    linked-pre =
        let v = link-changes n (new_run b sh q) long₁ c hc q (lt-ltb q n in_arena_lem) alone in
        record {
          known = a.pre.known;
          shape = a.pre.shape;
          few = a.pre.few;
          long = rw (v.long, changes.long) a.pre.long;
          bound = rw (v.kept (arena frontier) refl refl, changes.kept (arena frontier) refl refl) a.pre.bound;
        }

    under₁ : suc q ≤ get (new_run b sh q) (arena frontier)
    under₁ = rw (changes.kept (arena frontier) refl refl) (omega (arith, a.under, a.pre.shape.paged))

    wants : sh.batch ≡ 0 → ⊥
    wants z = omega (arith, a.pre.shape.gives)

    pub linked-walks : walks_from n (link (new_run b sh q) c q) c sh ≡ true
    linked-walks = alone-walks n (new_run b sh q) long₁ c hc q (lt-ltb q n in_arena_lem) alone sh a.pre.shape.few 0 sh.batch valid wants under₁ sh.batch a.pre.shape.gives

    linked-planned : foreseen (fills (link (new_run b sh q) c q) c sh) ≡ record { count = length (latest (new_run b sh q) sh q sh.batch); virgin = true }
    linked-planned =
        let w = linked-pre in
        fill_planned n c hc sh a.pre.shape sh.batch sh.batch (link (new_run b sh q) c q) (le-leb (words n) (length (link (new_run b sh q) c q)) w.long) w.bound linked-walks
        ∙ alone-planned n (new_run b sh q) long₁ c hc q (lt-ltb q n in_arena_lem) alone sh a.pre.shape.few 0 sh.batch valid wants under₁ sh.batch a.pre.shape.gives
        ∙ rw (new-virgin n b hb c sh a.pre.shape q a.ends a.under a.owners)

  pub run-links : (b₁ : List ℕ) → TakeRunPre b c sh q → b₁ ≡ new_run b sh q → LinkPre b₁ c q
  run-links b₁ a e =
      rw e (record {
        known = a.pre.known;
        below = omega (arith, in_arena_lem a, a.pre.few);
        there = rw (changes a).long (omega (arith, in_arena_lem a, a.pre.long));
        head = rw (alone a, (changes a).long) (omega (arith, in_arena_lem a, a.pre.long));
      })

  module _ (a : TakeRunPre b c sh q) where
    gives : (m k top : ℕ) → k ≤ top → min m k + min (m - k) (top - k) ≡ min m top
    gives m k top h = omega arith

    -- with no block out it gives what is wanted, up to its capacity
    run-gives : length (latest (new_run b sh q) sh q sh.batch) ≡ min sh.batch sh.capacity
    run-gives =
        let fr = new-free a.pages b (hb a) c sh a.pre.shape q a.ends a.under a.owners in
        let ca = new-carved a.pages b (hb a) c sh a.pre.shape q a.ends a.under a.owners in
        latest-length (new_run b sh q) sh q sh.batch ∙ rw (fr, ca) (gives sh.batch (carved_at_once sh) sh.capacity (at_once-le sh))

    run-serves : Serves (record { count = min sh.batch sh.capacity; virgin = true }) (link (new_run b sh q) c q) c sh (on_run_at b c sh q)
    unfolding on_run
    run-serves =
        let p = linked-planned a in
        record { pages = a.pages; pre = linked-pre a; walks = linked-walks a; count = sym (ap (λ z. z.count) p ∙ run-gives); virgin = sym (ap (λ z. z.virgin) p); is = λ l. refl }

  pub run-ready : (b₁ b₂ : List ℕ) (k : ℕ) → TakeRunPre b c sh q → b₁ ≡ new_run b sh q → b₂ ≡ link b₁ c q → k ≡ min sh.batch sh.capacity → Serves (record { count = k; virgin = true }) b₂ c sh (on_run_at b c sh q)
  run-ready b₁ b₂ k a e e₂ ek = rw (e₂, e, ek) (run-serves a)

-- ---- what the arena answered
answer-refused : (code : ℕ) (run : Math.Option ℕ) (f : Bool) (k : ℕ) → Arena.answer_of code run f ≡ Arena.Refused k → (code ≡ k) × (k ≡ 0 → ⊥)
answer-refused zero none f k e = absurd (let z : ◌≡◌ {A = ℕ} 0 1 = cc in omega arith)
answer-refused zero (some q) f k e = absurd (let z : ◌≡◌ {A = ℕ} 0 1 = cc in omega arith)
answer-refused (suc j) run f k e = let z : suc j ≡ k = cc in (z, λ u. omega arith)

answer-none : (code : ℕ) (run : Math.Option ℕ) (f : Bool) → Arena.answer_of code run f ≡ Arena.Nothing → (code ≡ 0) × (run ≡ none)
answer-none zero none f e = (refl, refl)
answer-none zero (some q) f e = absurd (let z : ◌≡◌ {A = ℕ} 0 1 = cc in omega arith)
answer-none (suc j) run f e = absurd (let z : ◌≡◌ {A = ℕ} 0 1 = cc in omega arith)

answer-run : (code : ℕ) (run : Math.Option ℕ) (f : Bool) (q : ℕ) (g : Bool) → Arena.answer_of code run f ≡ Arena.Run q g → (code ≡ 0) × (run ≡ some q)
answer-run zero none f q g e = absurd (let z : ◌≡◌ {A = ℕ} 0 1 = cc in omega arith)
answer-run zero (some p) f q g e = let z : p ≡ q = cc in (refl, ap some z)
answer-run (suc j) run f q g e = absurd (let z : ◌≡◌ {A = ℕ} 0 1 = cc in omega arith)

module _ (n : ℕ) (b : List ℕ) (c : ℕ) (sh : Shape) (h : ℕ) where
  abbrev commits : Committed
  commits = commit_for n b h sh.pages (suc c)

  refused-keeps : (commits.code ≡ 0 → ⊥) → (commits.code ≡ 13) × (commits.book ≡ b)
  unfolding commit_for
  refused-keeps d = go (commit_valid n b) _ refl d
    where
      go : (t : Bool) (x : Committed) → x.code ≡ 0 → ((cond t x (commit_refused b 13)).code ≡ 0 → ⊥) → ((cond t x (commit_refused b 13)).code ≡ 13) × ((cond t x (commit_refused b 13)).book ≡ b)
      go true x e d = absurd (d e)
      go false x e d = (refl, refl)

  -- a run that it answered is the class's only page
  run-pre : TakeNewPre n b c sh → (q : ℕ) → commits.run ≡ some q → TakeRunPre commits.book c sh q
  run-pre t q e =
      let g = commit-granted n b (le-leb (words n) (length b) t.pre.long) sh.pages (suc c) h q e in
      record {
        pages = n;
        pre = record { known = t.pre.known; shape = t.pre.shape; few = t.pre.few; long = rw g.long t.pre.long; bound = g.bound };
        alone = g.rows c (lt-ltb c class_rows t.pre.known) ∙ t.alone;
        ends = g.ends;
        under = g.below;
        owners = g.owners;
      }

  run-count : TakeNewPre n b c sh → has_run commits ≡ true → (l : List ℕ) → (take_new n b c sh h l).count ≡ min sh.batch sh.capacity
  unfolding take_new
  run-count t e l = rw (and_left (eqb commits.code 0) _ e) (go commits.run refl (and_right (eqb commits.code 0) _ e))
    where
      go : (o : Math.Option ℕ) → commits.run ≡ o → is_some o ≡ true → (on_run commits.book c sh l o).count ≡ min sh.batch sh.capacity
      go none g w = absurd (false≢true w)
      go (some q) g w = let s = run-serves commits.book c sh q (run-pre t q g) in ap (λ z. z.count) (s.is l) ∙ sym s.count

  module _ (t : TakeNewPre n b c sh) (k : ℕ) (i : Granted k sh h) (x : Bool) (y : Exceeds x k n b sh) where
    -- with less room than a run's blocks need all is granted
    asked : k < min sh.batch sh.capacity → x ≡ has_run commits
    asked o = let g : h ≡ 15 = i (omega arith) in rw g (y (suc c) ∙ rw (lt-ltb k (min sh.batch sh.capacity) o))

    pub new-full : x ≡ true → Readies (Err ListTooShort) b c sh (within k b (take_new n b c sh h))
    unfolding Readies within
    new-full e l =
        let o : k < min sh.batch sh.capacity = ltb-true k _ (and_left (ltb k (min sh.batch sh.capacity)) _ (sym (y (suc c)) ∙ e)) in
        rw (run-count t (sym (asked o) ∙ e) l, lt-ltb k (min sh.batch sh.capacity) o) (record { answer = refl; book = refl; list = refl })

    module _ (e : x ≡ false) (r : Arena.Commit) (b₁ : List ℕ) (a : Answers r b₁ (commit_for n b h sh.pages (c + 1))) where
      told : Answers r b₁ commits
      told = rw add-one at a

      pub new-refused : (j : Refusal) → r ≡ Arena.Refused (number_of j) → Readies (Err j) b₁ c sh (within k b (take_new n b c sh h))
      unfolding take_new Readies within
      new-refused j f l =
          let u = answer-refused commits.code commits.run commits.fresh (number_of j) (sym told.answer ∙ f) in
          let d : commits.code ≡ 0 → ⊥ = λ z. u.1 (sym u.0 ∙ z) in
          rw (ne_eqb commits.code 0 d, (refused-keeps d).0, le-ltb k 0 (omega arith)) (record { answer = ap Answer.Refused (sym u.0 ∙ (refused-keeps d).0); book = told.book ∙ (refused-keeps d).1; list = refl })

      pub new_none : r ≡ Arena.Nothing → Readies (Ok None) b₁ c sh (within k b (take_new n b c sh h))
      unfolding take_new on_run Readies within
      new_none f l =
          let u = answer-none commits.code commits.run commits.fresh (sym told.answer ∙ f) in
          rw (u.0, u.1, le-ltb k 0 (omega arith)) (record { answer = refl; book = told.book; list = refl })

      module _ (q : ℕ) (f : Bool) (z : r ≡ Arena.Run q f) where
        granted : (commits.code ≡ 0) × (commits.run ≡ some q)
        granted = answer-run commits.code commits.run commits.fresh q f (sym told.answer ∙ z)

        pub new-runs : TakeRunPre b₁ c sh q
        new-runs = rw told.book (run-pre t q granted.1)

        has-run : has_run commits ≡ true
        has-run = rw (granted.0, granted.1)

        fits : min sh.batch sh.capacity ≤ k
        fits = by_cases (ltb k (min sh.batch sh.capacity)) (λ w. absurd (false≢true (sym e ∙ asked (ltb-true k _ w) ∙ has-run))) (λ w. ltb-false k _ w)

        is-run : (l : List ℕ) → take_new n b c sh h l ≡ on_run_at b₁ c sh q l
        unfolding take_new
        is-run l = rw (granted.0, granted.1, told.book)

        pub new-ready : (s : Taken) (b₂ : List ℕ) → Serves s b₂ c sh (on_run_at b₁ c sh q) → Readies (Ok (Some s)) b₂ c sh (within k b (take_new n b c sh h))
        unfolding Readies
        new-ready s b₂ p =
            let w : within k b (take_new n b c sh h) ≡ on_run_at b₁ c sh q = said (λ l. within-is k b (take_new n b c sh h) l (rw (run-count t has-run l) fits) ∙ is-run l) in
            rw w p

-- ---- a parked page heads the partial list
module _ (b : List ℕ) (c x : ℕ) (ex : x ≡ get b (class partial c)) where
  pub unparked-first : (k : Park) (y : ℕ) (b₁ : List ℕ) → x ≡ 0 → k ≡ first_store b c → y ≡ get b (class (top k) c) → b₁ ≡ unpark_run b c k (y - 1) → b₁ ≡ readied b c
  unfolding readied
  unparked-first k y b₁ z ek ey e₁ = rw (← ex, z, ← ek, ← ey) e₁

  pub listed-first : (x ≡ 0 → ⊥) → b ≡ readied b c
  unfolding readied
  listed-first d = rw (← ex, ne_eqb x 0 d)

  module _ (a : FirstPre b c) (z : x ≡ 0) (k : Park) (ek : k ≡ first_store b c) (y : ℕ) (ey : y ≡ get b (class (top k) c)) where
    pub first_some : 1 ≤ y
    first_some = let o = a.some (sym ex ∙ z) in rw (ey, ek) o

    pub first-unparks : UnparkRunPre b c k (y - 1)
    first-unparks = let o = a.unparks (sym ex ∙ z) in rw (ey, ek) o

-- ---- the first source that has a page
abbrev pub found : Result Taken Refusal → Source
found (Ok k) = Ok (Some k)
found (Err e) = Err e

pub mapped : (p : Result Taken Refusal) (r : Source) → MatchResult p (λ k. IsOkAnd r (λ o. o ≡ Some k)) (λ e. r ≡ Err e) → r ≡ found p
mapped (Ok k) (Ok o) e = ap Ok e
mapped (Ok k) (Err d) e = absurd e
mapped (Err d) r e = e

module _ (n : ℕ) (b : List ℕ) (c : ℕ) (sh : Shape) (f : Bool) (e : f ≡ head_valid n b) where
  pub plan-invalid : not f ≡ true → Plans (Err BookWord) n b c sh
  unfolding Plans take_blocks
  plan-invalid u = (refl, λ h l. rw (← e, not-true f u))

  module _ (a : SourcePre n b c sh) (u : not f ≡ false) where
    pub source_pre : TakePre n b c sh
    source_pre = record { known = a.known; shape = a.shape; few = a.few; long = a.long; bound = head-frontier n b (sym e ∙ not-false f u) }

    row : RowPre b c
    row = record { known = a.known; long = omega (arith, a.long) }

    module _ (x : ℕ) (ex : x ≡ get b (class partial c)) where
      module _ (d : x ≡ 0 → ⊥) where
        lists : (h : ℕ) (l : List ℕ) → take_blocks n b c sh h l ≡ from_partial n b c sh l
        unfolding take_blocks
        lists h l = rw (← e, not-false f u, ← ex, ne_eqb x 0 d)

        pub plan-listed : (p : Result Taken Refusal) → Foretold p (walks_from n b c sh) (fills b c sh) → Plans (found p) n b c sh
        unfolding Plans from_partial
        plan-listed p t =
            let never : get b (class partial c) ≡ 0 → ⊥ = λ o. d (ex ∙ o) in
            by_cases (walks_from n b c sh)
            (λ w. rw (t, w) (
              record { row = row; some = λ o. absurd (never o); unparks = λ o. absurd (never o) },
              λ h. rw (← (listed-first b c x ex d)) (record { pages = n; pre = source_pre; walks = w; count = refl; virgin = refl; is = λ l. lists h l ∙ rw w }),
            ))
            (λ w. rw (t, w) (refl, λ h l. lists h l ∙ rw w))

      module _ (z : x ≡ 0) (k : Park) (ek : k ≡ first_store b c) (y : ℕ) (ey : y ≡ get b (class (top k) c)) where
        -- no store has a page where the first has none
        no-empty : y ≡ 0 → get b (class empty c) ≡ 0
        no-empty o = by_cases (eqb (get b (class empty c)) 0) (eqb-true (get b (class empty c)) 0) (λ w. let k' : k ≡ Empty = ek ∙ rw w in sym (ap (λ j. get b (class (top j) c)) k') ∙ sym ey ∙ o)

        no-cold : y ≡ 0 → get b (class cold c) ≡ 0
        no-cold o = let k' : k ≡ Cold = ek ∙ rw (eq-eqb (get b (class empty c)) 0 (no-empty o)) in sym (ap (λ j. get b (class (top j) c)) k') ∙ sym ey ∙ o

        pub plan-none : y ≡ 0 → Plans (Ok None) n b c sh
        unfolding Plans take_blocks
        plan-none o = (record { pre = source_pre; alone = sym ex ∙ z }, λ h l. rw (← e, not-false f u, ← ex, z, no-empty o, no-cold o))

        module _ (d : y ≡ 0 → ⊥) where
          parks : (h : ℕ) (l : List ℕ) → take_blocks n b c sh h l ≡ from_park n b c sh k l
          unfolding take_blocks
          parks h l =
              by_cases (eqb (get b (class empty c)) 0)
              (λ w.
              let k' : k ≡ Cold = ek ∙ rw w in
              let some-cold : get b (class cold c) ≡ 0 → ⊥ = λ o. d (ey ∙ ap (λ j. get b (class (top j) c)) k' ∙ o) in
              rw (← e, not-false f u, ← ex, z, w, ne_eqb (get b (class cold c)) 0 some-cold, k'))
              (λ w. let k' : k ≡ Empty = ek ∙ rw w in rw (← e, not-false f u, ← ex, z, w, k'))

          parked-pre : ParkedPre n b c sh k
          parked-pre = record { pre = source_pre; alone = sym ex ∙ z; some = omega (arith, ey, d) }

          pub plan-stored : (p : Result Taken Refusal) → Foretold p (park_valid n b c sh k) (fills (unparked b c k) c sh) → Plans (found p) n b c sh
          unfolding Plans from_park
          plan-stored p t =
              let g = parked-pre in
              by_cases (park_valid n b c sh k)
              (λ w. rw (t, w) (
                record { row = row; some = λ _. rw (← ek) g.some; unparks = λ _. rw (← ek) (parked-unparks n b c sh k g w) },
                λ h. rw (← (unparked-first b c x ex k y (unparked b c k) z ek ey (ap (λ j. unpark_run b c k (j - 1)) (sym ey))))
                    (record { pages = n; pre = unparked-pre n b c sh k g w; walks = unparked-walks n b c sh k g w; count = refl; virgin = refl; is = λ l. parks h l ∙ rw w }),
              ))
              (λ w. rw (t, w) (refl, λ h l. parks h l ∙ rw w))

pub store-empty : (b : List ℕ) (c y : ℕ) → y ≡ get b (class empty c) → (y ≡ 0 → ⊥) → Empty ≡ first_store b c
store-empty b c y e d = rw (← e, ne_eqb y 0 d)

pub store-cold : (b : List ℕ) (c y : ℕ) → y ≡ get b (class empty c) → y ≡ 0 → Cold ≡ first_store b c
store-cold b c y e z = rw (← e, eq-eqb y 0 z)

-- ---- it is made ready
module _ (n : ℕ) (b : List ℕ) (c : ℕ) (sh : Shape) where
  pub made-refused : (k : Refusal) → Plans (Err k) n b c sh → (h j : ℕ) → Readies (Err k) b c sh (within j b (take_blocks n b c sh h))
  unfolding Plans Readies within
  made-refused k q h j l = rw (q.0, q.1 h l, le-ltb j 0 (omega arith)) (record { answer = refl; book = refl; list = refl })

module _ (n : ℕ) (b : List ℕ) (c : ℕ) (sh : Shape) (o : Option Taken) (a : Plans (Ok o) n b c sh) where
  pub made-pre : o ≡ None → TakeNewPre n b c sh
  unfolding Plans
  made-pre e = let q = rw e at a in q.0

  pub made-new : (h j : ℕ) (s : Source) (b₁ : List ℕ) → o ≡ None → Readies s b₁ c sh (within j b (take_new n b c sh h)) → Readies s b₁ c sh (within j b (take_blocks n b c sh h))
  unfolding Plans
  made-new h j s b₁ e t = let q = rw e at a in let z : take_blocks n b c sh h ≡ take_new n b c sh h = said (q.1 h) in rw z t

  module _ (k : Taken) (e : o ≡ Some k) where
    serves : (h : ℕ) → Serves k (readied b c) c sh (take_blocks n b c sh h)
    unfolding Plans
    serves = let q = rw e at a in q.1

    counts : (h : ℕ) (l : List ℕ) → (take_blocks n b c sh h l).count ≡ k.count
    counts h l = ap (λ z. z.count) ((serves h).is l) ∙ sym (serves h).count

    pub made-first : FirstPre b c
    unfolding Plans
    made-first = let q = rw e at a in q.0

    pub made-full : (h j : ℕ) → j < k.count → Readies (Err ListTooShort) b c sh (within j b (take_blocks n b c sh h))
    unfolding Readies within
    made-full h j g l = rw (counts h l, lt-ltb j k.count g) (record { answer = refl; book = refl; list = refl })

    pub made-ready : (h j : ℕ) (b₁ : List ℕ) → k.count ≤ j → b₁ ≡ readied b c → Readies (Ok (Some k)) b₁ c sh (within j b (take_blocks n b c sh h))
    unfolding Readies
    made-ready h j b₁ g e₁ =
        let s = serves h in
        rw e₁ (record { pages = s.pages; pre = s.pre; walks = s.walks; count = s.count; virgin = s.virgin; is = λ l. within-is j b (take_blocks n b c sh h) l (rw (counts h l) g) ∙ s.is l })

-- ---- the call
pub shape-pre : (w : Bool) (n : ℕ) (b : List ℕ) (c h : ℕ) (sh : Shape) → sh ≡ shape_of c → ListPre w n b c h → SourcePre n b c sh
shape-pre w n b c h sh e a = record { known = a.call.known; shape = rw e (shape-sound c); few = a.call.few; long = a.call.long }

module _ (n : ℕ) (b : List ℕ) (c h : ℕ) (l : List ℕ) (sh : Shape) (o : Option Taken) (b₁ : List ℕ) (a : Readies (Ok o) b₁ c sh (within (length l) b (take_blocks n b c sh h))) (k : Taken) (e : o ≡ Some k) where
  serving : Serves k b₁ c sh (within (length l) b (take_blocks n b c sh h))
  unfolding Readies
  serving = rw e at a

  room : k.count ≤ length l
  unfolding within
  room =
      let t = take_blocks n b c sh h l in
      let s = serving.is l in
      by_cases (ltb (length l) t.count)
      (λ u. let z : (within (length l) b (take_blocks n b c sh h) l).code ≡ 5 = rw u in absurd (let y : ◌≡◌ {A = ℕ} 5 0 = sym z ∙ ap (λ z. z.code) s in omega arith))
      (λ u. let z : t.count ≡ k.count = (let y : within (length l) b (take_blocks n b c sh h) l ≡ t = rw u in ap (λ z. z.count) (sym y ∙ s) ∙ sym serving.count) in omega (arith, ltb-false (length l) t.count u))

  pub list-fills : FillPre b₁ c sh l k.count
  list-fills = let s = serving in record { pages = s.pages; pre = s.pre; walks = s.walks; count = s.count; places = room }

module _ (w : Bool) (n : ℕ) (b : List ℕ) (c h : ℕ) (l : List ℕ) (sh : Shape) (i : sh ≡ shape_of c) where
  pub list-short : (w && ltb (length l) sh.batch) ≡ true → (m v : ℕ) → TakesInto 5 b l m m v v (take_list w n b c (shape_of c) h l)
  unfolding take_call
  list-short o m v =
      rw (← i, and_left w _ o, and_right w _ o) (record { code = refl; book = refl; list = refl; count = refl; virgin = refl })

  module _ (o : (w && ltb (length l) sh.batch) ≡ false) where
    pub list-granted : ListPre w n b c h → Granted (length l) sh h
    list-granted a s = a.granted (by_cases w (λ u. absurd (false≢true (sym o ∙ rw (u, lt-ltb (length l) sh.batch s)))) (λ u. u))

    list-is : take_list w n b c (shape_of c) h l ≡ within (length l) b (take_blocks n b c sh h) l
    unfolding take_call within
    list-is =
        by_cases w
        (λ u.
        let long : ltb (length l) sh.batch ≡ false = rw u at o in
        let f = blocks-fixed n b c sh h in
        rw (← i, u, long, f.is l, le-ltb (length l) (length f.filled.blocks) (omega (arith, f.most, ltb-false (length l) sh.batch long))))
        (λ u. rw (← i, u))

    pub list-refused : (k : Refusal) (b₁ : List ℕ) → Readies (Err k) b₁ c sh (within (length l) b (take_blocks n b c sh h)) → (m v : ℕ) → TakesInto (number_of k) b₁ l m m v v (take_list w n b c (shape_of c) h l)
    unfolding Readies
    list-refused k b₁ q m v = rw list-is (into_refused _ b₁ l (Answer.Refused (number_of k)) (q l) (number_of k) m v refl)

    module _ (x : Option Taken) (b₁ : List ℕ) (a : Readies (Ok x) b₁ c sh (within (length l) b (take_blocks n b c sh h))) where
      pub list-none : x ≡ None → (m v : ℕ) → TakesInto 0 b₁ l m 0 v 0 (take_list w n b c (shape_of c) h l)
      unfolding Readies
      list-none e m v = let q = rw e at a in rw list-is (into_took _ b₁ l (Answer.Took 0 false) (q l) 0 m v false refl)

      pub list-took : (k : Taken) (b' l' : List ℕ) (m₀ v₀ : ℕ) → x ≡ Some k → Filling b' l' (fills b₁ c sh) l → TakesInto 0 b' l' m₀ k.count v₀ (bool_byte k.virgin) (take_list w n b c (shape_of c) h l)
      list-took k b' l' m₀ v₀ e g =
          let s = serving n b c h l sh x b₁ a k e in
          rw (list-is, s.is l) (into_took _ b' l' (Answer.Took k.count k.virgin) (rw (s.count, s.virgin) (record { answer = refl; book = g.book; list = g.list })) k.count m₀ v₀ k.virgin refl)

pub whole-pre : (n : ℕ) (b : List ℕ) (c h : ℕ) → CallPre n b c → ListPre true n b c h
whole-pre n b c h a = record { call = a; granted = λ z. absurd (false≢true (sym z)) }
