-- Demand 2 after a history on the words: what the arena answers, and that a take is not empty without need.
--     commit-fits    a direct commit that is not refused is answered by best fit
--     run_fits       so is the commit that a class's call asks for, and it asks for one exactly as `Asks` says
--     take-yields    a take that is not refused answers a block, or the arena has no run for it
--     take-fewer     one that answers fewer than it may leaves nothing at hand in a run in use; take-most, take-turns, take-virgin
use Rattle.facts.proofs.Prelude.{ℕ, ◌≤◌, ◌<◌, Bool, true, false, cond, false≢true, List, [], ◌∷◌, ◌++◌, ◌⊎◌, ◌↔◌, inl, inr, Option, none}
use Rattle.facts.proofs.Prelude.{some, Option·none-ne-some, ◌≡◌, refl, sym, ap, ap₂, ◌∙◌, subst, ltb, length, le-ltb, is_nil, total, by_cases}
use Rattle.words.specs.Host.{host_max, bad_host}
use Rattle.classes.specs.declared.Shape.{Shape}
use Rattle.classes.specs.Shape.{shape_of}
use Rattle.rules.specs.Rules.{rules_of}
use Rattle.rules.specs.declared.Limits.{Limits}
use Rattle.model.specs.Calls as Calls
use Rattle.model.specs.Calls.{Call, Answer, Named, names, way_of, host_of, Request, blocks_of, is_refused}
use Rattle.model.specs.Page.{Page}
use Rattle.model.specs.Arena as Arenas
use Rattle.model.specs.Arena.{Arena}
use Rattle.model.specs.Class as Classes
use Rattle.model.specs.Class.{Class, Cold, Result, Ask, done, asks, serve, on_run, take_from}
use Rattle.model.specs.Release.{Site, on_page, release_list}
use Rattle.model.specs.Chunks.{release_chunks, answer}
use Rattle.model.specs.Heap.{Heap, bad_run, run_with, asked, offer, finish, interact, class_call, commit_call, direct_call, step}
use Rattle.model.specs.History.{Event, heap_after, with_call}
use Rattle.model.specs.BestFit.{Commits, from-hole, from-frontier, unusable, ungranted, exhausted}
use Rattle.model.specs.Yields.{TakeYields, refuses, yields, asks-first}
use Rattle.model.specs.Offered.{Spent, NonePartial, NoneListed, Virgin}
use Rattle.model.specs.Sources.{Turns}
use Rattle.model.proofs.Theorems.{best_fit, yielding, offered, sources, virgins, conserved}
use Rattle.model.proofs.Ways.{host_of_lem}
use Rattle.arena.specs.Load.{load_arena}
use Rattle.demands.specs.Run.{Opens, run, book_after, next, recounted, recounted_with}
use Rattle.demands.specs.Demands.{CommitFits, RunFits, unasked, nothing, given, Asks}
use Rattle.demands.proofs.Histories.{run-represents, next-agrees}
use Rattle.demands.proofs.Observed.{recounted-is}
use Rattle.demands.proofs.Codes.{class_ask, class_run, step-class, next-host, next-answer, next-exactly}

-- ---- a request stays with its class, or goes to the arena for m pages; A says that it should
pub data Reaches (m : ℕ) (A : Type 0) : Ask → Type 0 where
  home : {r : Result} → (A → ⊥) → Reaches m A (done r)
  away : {k : Option ℕ → Result} → A → Reaches m A (asks m k)

module _ (sh : Shape) (lim : Limits) (m : ℕ) (A : Type 0) (no : A → ⊥) where
  at_home : {r : Result} → Reaches m A (done r)
  at_home = home no

  home-cond : (t : Bool) (x y : Ask) → Reaches m A x → Reaches m A y → Reaches m A (cond t x y)
  home-cond true x y p q = p
  home-cond false x y p q = q

  page-home : (h : ℕ) (s : Class) (ws : List ℕ) (x : Option Site) → Reaches m A (on_page sh lim h s ws x)
  unfolding on_page
  page-home h s ws none = at_home
  page-home h s ws (some x) = search (home-cond, at_home)

  list-home : (s : Class) (h : ℕ) (ws : List ℕ) → Reaches m A (answer sh lim s (Calls.give_back h ws))
  unfolding answer release_list
  list-home s h ws = search (home-cond, at_home, page-home)

  pub chunks-home : (s : Class) (h : ℕ) (ws gs fs : List ℕ) → Reaches m A (answer sh lim s (Calls.give_chunks h ws gs fs))
  unfolding answer release_chunks
  chunks-home s h ws gs fs = search (home-cond, at_home) depth 9

module _ (sh : Shape) (lim : Limits) where
  take-reaches : (A : Type 0) (l : List ℕ) (ps es : List Page) (cs : List Cold) (fs : List Page) → (A → (ps ≡ []) × (es ≡ []) × (cs ≡ [])) → (ps ≡ [] → es ≡ [] → cs ≡ [] → A)
      → Reaches sh.pages A (take_from sh l ps es cs fs)
  unfolding take_from
  take-reaches A l (p ∷ ps) es cs fs f g = home (λ a. false≢true (ap is_nil (f a).0))
  take-reaches A l [] (e ∷ es) cs fs f g = home (λ a. false≢true (ap is_nil (f a).1))
  take-reaches A l [] [] (c ∷ cs) fs f g = home (λ a. false≢true (ap is_nil (f a).2))
  take-reaches A l [] [] [] fs f g = away (g refl refl refl)

  ask-unrefused : (l : List ℕ) (fs : List Page) (g : Option ℕ) → is_refused (serve (take_from sh l [] [] [] fs) g).answer ≡ false
  unfolding take_from on_run Classes.served
  ask-unrefused l fs none = refl
  ask-unrefused l fs (some q) = refl

  -- the number is 0 exactly if the class, given g, does not refuse
  module _ {vs : List Event} {c : ℕ} {s : Class} (spent : Spent vs c ↔ NoneListed s) (code : ℕ) (g : Option ℕ) where
    abbrev Exactly : Request → Type 0
    Exactly r = (code ≡ 0) ↔ (is_refused (serve (answer sh lim s r) g).answer ≡ false)

    take-home : (h : ℕ) (l : List ℕ) → Exactly (Calls.take h l) → Reaches sh.pages (Asks vs c (Calls.take h l) code) (answer sh lim s (Calls.take h l))
    unfolding answer
    take-home h l z =
        by_cases (ltb (length l) sh.batch)
        (λ u. rw u (home (λ a. false≢true (sym (rw u at (z.0 a.unrefused))))))
        (λ u. rw u (take-reaches (Asks vs c (Calls.take h l) code) l s.partial s.empty s.cold s.full (λ a. let n = spent.0 a.spent in (n.partial, n.empty, n.cold))
        (λ p q r. record { take = refl; unrefused = (rw (u, p, q, r) at z.1) (ask-unrefused l s.full g); spent = spent.1 (record { partial = p; empty = q; cold = r }) })))

    reaches : (r : Request) → Exactly r → Reaches sh.pages (Asks vs c r code) (answer sh lim s r)
    reaches (Calls.take h l) z = take-home h l z
    reaches (Calls.give_back h ws) z = list-home sh lim sh.pages _ (λ a. false≢true a.take) s h ws
    reaches (Calls.give_chunks h ws gs fs) z = chunks-home sh lim sh.pages _ (λ a. false≢true a.take) s h ws gs fs

-- ---- what the arena answers it
none-fits : {n h m : ℕ} {a : Arena} {r : Option ℕ} {f : Bool} → Commits n h m a r f → r ≡ none → Commits n h m a none false
none-fits (from-hole i u g l w) e = absurd (Option·none-ne-some _ (sym e))
none-fits (from-frontier u g s l) e = absurd (Option·none-ne-some _ (sym e))
none-fits (unusable u) e = unusable u
none-fits (ungranted u) e = ungranted u
none-fits (exhausted u v) e = exhausted u v

module _ (n h m : ℕ) (a : Arena) (fits : Commits n h m a (Arenas.commit n h m a).run (Arenas.commit n h m a).fresh) where
  given-fits : {A : Type 0} → A → (r : Option ℕ) (f : Bool) → Commits n h m a r f → RunFits n h m a A (run_with m r)
  given-fits p none f c = nothing p (none-fits c refl)
  given-fits p (some q) f c = given p q f c

  offer-fits : {A : Type 0} {q : Ask} → Reaches m A q → RunFits n h m a A (run_with (asked q) (offer n h a q).run)
  unfolding offer
  offer-fits (home f) = unasked f
  offer-fits (away p) = given-fits p (Arenas.commit n h m a).run (Arenas.commit n h m a).fresh fits

  serve-yields : (r : Option ℕ) → (Arenas.commit n h m a).run ≡ r → (k : Option ℕ → Result) → ((q : ℕ) → is_nil (blocks_of (k (some q)).answer) ≡ false)
      → (is_nil (blocks_of (k r).answer) ≡ false) ⊎ Commits n h m a none false
  serve-yields none e k y = inr (none-fits fits e)
  serve-yields (some q) e k y = inl (y q)

  offer-yields : {A : Type 0} {q : Ask} → Reaches m A q → TakeYields q → is_refused (serve q (offer n h a q).run).answer ≡ false
      → (is_nil (blocks_of (serve q (offer n h a q).run).answer) ≡ false) ⊎ (A × Commits n h m a none false)
  unfolding offer
  offer-yields (home f) (refuses r) u = absurd (false≢true (sym u ∙ r))
  offer-yields (home f) (yields y) u = inl y
  offer-yields (away {k} p) (asks-first y) u = elim (serve-yields (Arenas.commit n h m a).run refl k y) [ inl z ↦ inl z | inr w ↦ inr (p, w) ]

-- ---- after a history
module _ (n : ℕ) (rows b : List ℕ) (o : Opens n rows b) (xs : List Call) where
  abbrev heap : Heap
  heap = heap_after n (rules_of rows) xs

  abbrev vs : List Event
  vs = recounted n (rules_of rows) xs (run n rows b xs)

  loads : load_arena (book_after n rows b xs) ≡ heap.arena
  loads = (run-represents n rows b o xs).arena.loads

  pub holes-counted : (load_arena (book_after n rows b xs)).store.total ≡ total (λ x. x.pages) (load_arena (book_after n rows b xs)).store.holes
  holes-counted = rw loads (conserved n (rules_of rows) xs).hole_total

  pub commit-fits : (h m : ℕ) → h ≤ host_max → bad_run m ≡ false → CommitFits n h m (load_arena (book_after n rows b xs)) (next n rows b xs (Calls.commit h m)).answer
  unfolding step way_of direct_call commit_call
  commit-fits h m low good = record {
    run = (Arenas.commit n h m heap.arena).run;
    fresh = (Arenas.commit n h m heap.arena).fresh;
    fits = rw loads ((best_fit n (rules_of rows) xs).commits h m);
    answer = (next-agrees n rows b o xs (Calls.commit h m)).answer ∙ rw (le-ltb host_max h low, good);
  }

  -- a call that names a class and passed number 3 is answered by the class, after what the arena gives it
  module _ (x : Call) (d : Named) (e : names x ≡ some d) where
    abbrev Asked : Type 0
    Asked = Asks vs d.class d.request (next n rows b xs x).code

    spent : Spent vs d.class ↔ NoneListed (heap.classes d.class)
    spent = rw (recounted-is n rows b o xs) ((offered n (rules_of rows) xs).spent d.class)

    module _ (host : bad_host (host_of d.request) ≡ false) where
      reached : Reaches (shape_of d.class).pages Asked (class_ask heap d)
      reached = reaches (shape_of d.class) (heap.rules d.class) spent (next n rows b xs x).code (class_run n heap d) d.request (next-exactly n rows b o xs x d e host)

      class-fits : RunFits n (host_of d.request) (shape_of d.class).pages (load_arena (book_after n rows b xs)) Asked (class_call n heap d.class d.request).run
      unfolding class_call interact finish
      class-fits =
          rw loads
          (offer-fits n (host_of d.request) (shape_of d.class).pages heap.arena ((best_fit n (rules_of rows) xs).commits (host_of d.request) (shape_of d.class).pages) reached)

    no_run : bad_host (host_of d.request) ≡ true → (step n heap x).run ≡ none
    unfolding step way_of
    no_run t = rw (host_of_lem x d e, t)

    pub run_fits : RunFits n (host_of d.request) (shape_of d.class).pages (load_arena (book_after n rows b xs)) Asked (step n heap x).run
    run_fits =
        by_cases (bad_host (host_of d.request))
        (λ t. rw (no_run t) (unasked (λ a. false≢true (sym (next-host n rows b o xs x d e a.unrefused) ∙ t))))
        (λ t. rw (step-class n heap x d e t) (class-fits t))

  module _ (x : Call) (c h : ℕ) (l : List ℕ) (e : names x ≡ some (record { class = c; request = Calls.take h l })) where
    abbrev taking : Named
    taking = record { class = c; request = Calls.take h l }

    nothing_left : {A B : Type 0} → A ⊎ (Asked x taking e × B) → A ⊎ (Spent vs c × B)
    nothing_left (inl p) = inl p
    nothing_left (inr p) = inr (p.0.spent, p.1)

    pub take-yields : (next n rows b xs x).code ≡ 0
        → (is_nil (blocks_of (next n rows b xs x).answer) ≡ false) ⊎ (Spent vs c × Commits n h (shape_of c).pages (load_arena (book_after n rows b xs)) none false)
    take-yields z =
        let t = next-host n rows b o xs x taking e z in
        rw (loads, next-answer n rows b o xs x taking e t)
        (nothing_left (offer-yields n h (shape_of c).pages heap.arena ((best_fit n (rules_of rows) xs).commits h (shape_of c).pages) (reached x taking e t) ((yielding n (rules_of rows) xs).takes c h l)
        ((next-exactly n rows b o xs x taking e t).0 z)))

    -- the history with the take at its end is the model's
    with-take : recounted_with n (rules_of rows) (book_after n rows b xs) xs (run n rows b xs) x ≡ with_call n (rules_of rows) xs x
    with-take =
        ap₂ (λ (us : List Event) (a : Answer). us ++ record { call = x; answer = a; run = (step n heap x).run } ∷ [])
        (recounted-is n rows b o xs) (next-agrees n rows b o xs x).answer

    module _ (z : (next n rows b xs x).code ≡ 0) where
      unrefused : is_refused (step n heap x).answer ≡ false
      unfolding class_call interact finish
      unrefused =
          let t = next-host n rows b o xs x taking e z in
          rw (step-class n heap x taking e t) ((next-exactly n rows b o xs x taking e t).0 z)

      agrees : (next n rows b xs x).answer ≡ (step n heap x).answer
      agrees = (next-agrees n rows b o xs x).answer

      pub take-fewer : length (blocks_of (next n rows b xs x).answer) < (shape_of c).batch → NonePartial (recounted_with n (rules_of rows) (book_after n rows b xs) xs (run n rows b xs) x) c
      take-fewer k = subst (λ (us : List Event). NonePartial us c) (sym with-take) ((offered n (rules_of rows) xs).fewer x c h l e unrefused (rw agrees at k))

      pub take-most : length (blocks_of (next n rows b xs x).answer) ≤ (shape_of c).batch
      take-most = rw agrees ((offered n (rules_of rows) xs).most x c h l e unrefused)

      pub take-turns : Turns vs c (record { call = x; answer = (next n rows b xs x).answer; run = (step n heap x).run })
      take-turns =
          subst (λ (a : Answer). Turns vs c (record { call = x; answer = a; run = (step n heap x).run })) (sym agrees)
          (subst (λ (us : List Event). Turns us c (record { call = x; answer = (step n heap x).answer; run = (step n heap x).run })) (sym (recounted-is n rows b o xs))
          ((sources n (rules_of rows) xs).turns x c h l e unrefused))

      pub take-virgin : Virgin (recounted_with n (rules_of rows) (book_after n rows b xs) xs (run n rows b xs) x) c (next n rows b xs x).answer
      take-virgin =
          subst (λ (a : Answer). Virgin (recounted_with n (rules_of rows) (book_after n rows b xs) xs (run n rows b xs) x) c a) (sym agrees)
          (subst (λ (us : List Event). Virgin us c (step n heap x).answer) (sym with-take) ((virgins n (rules_of rows) xs).virgin x c h l e unrefused))
