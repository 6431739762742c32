-- The invariant of the heap, and that every call keeps it.
use Rattle.facts.proofs.Prelude.{ℕ, suc, ◌+◌, ◌-◌, ◌≤◌, arith, Bool, true, false, cond, not, List, [], ◌∷◌, append-nil, Option, none, some}
use Rattle.facts.proofs.Prelude.{Option·none-ne-some, ◌≡◌, refl, sym, ap, ◌∙◌, subst, eqb, leb, ltb, leb-true, leb-false, ltb-true, eqb-true, eqb-false}
use Rattle.facts.proofs.Prelude.{ne_eqb, not-false, filter, every, total, update, count, below, by_cases, and_left, and_right, and_no, every-at}
use Rattle.rules.specs.Rules.{Rules}
use Rattle.model.specs.Cover.{in_run, covers, covers_all, covers_run}
use Rattle.classes.specs.declared.Shape.{Shape}
use Rattle.classes.specs.Shape.{shape_of}
use Rattle.classes.proofs.Shapes.{shape-sound}
use Rattle.model.specs.Calls as Calls
use Rattle.model.specs.Calls.{Call, Answer, Request, Named, names, Way, way_of, host_of, blocks_of, released_by, is_refused}
use Rattle.model.specs.Class.{Class, Result, Ask, serve}
use Rattle.model.specs.Chunks.{answer}
use Rattle.model.specs.Arena as Arenas
use Rattle.model.specs.Arena.{Arena, Given, give_all}
use Rattle.model.specs.Heap.{Heap, Holder, Outcome, new_heap, is_direct, is_held, held_direct, offer, finish, interact, class_call, asked, step, route, direct_call, commit_call, grow_call, release_call, answer_run, unchanged}
use Rattle.model.specs.History.{events_from, heap_from}
use Rattle.model.specs.Entries.{Entry, entries_from, has_word, direct_next, direct_from, run_of}
use Rattle.model.specs.Ledger.{in_holes, above, runs_with, held_by, abandons, all_abandon, commit_abandons, grow_abandons, offer_abandons, class_abandons, direct_abandons, call_abandons, abandoned_from}
use Rattle.model.proofs.Counts.{total-append}
use Rattle.model.proofs.Ways.{Goes, is_turned, is-straight, is-class, goes}
use Rattle.model.proofs.ArenaLaws.{idle, above_at, covers-le, give-law, give-frontier, give_all-law, give_all-frontier, CommitLaw, commit-law, grow-law, grow-bound}
use Rattle.model.proofs.Sites.{GoodClass, out_count}
use Rattle.model.proofs.ClassLaws.{Moves, Lawful, lawful-done, lawful-asks, answer-lawful}
use Rattle.model.proofs.Fold.{live_next, live_from}
use Rattle.model.proofs.EntryCounts.{is, at, entries-same, entries-other, entries_at, entries-not, filter-total, word-stays, other-stays, gone}
use Rattle.model.proofs.Accounts.{held-le, Account, Balance, balance, Passes, drawn-direct, given-direct}

-- a commit's answer is no refusal
pub run-answered : (o : Option ℕ) (b : Bool) → is_refused (answer_run o b) ≡ false
run-answered none b = refl
run-answered (some q) b = refl

-- of a heap after n calls, with the entries not yet released, the pages held by the direct calls as the answers tell, and how often
-- each page was abandoned
pub record Inv (size n : ℕ) (H : Heap) (es : List Entry) (f : ℕ → Bool) (lost : ℕ → ℕ) : Type 0 where
  -- a page is held, in one hole, at or above the frontier, or abandoned: in exactly one place
  pub one : (x : ℕ) → is_held (H.holder x) + in_holes x H.arena + above H.arena.frontier x + lost x ≡ 1
  pub bound : H.arena.frontier ≤ size
  pub good : (c : ℕ) → GoodClass (shape_of c) (H.classes c)
  -- a page is in one run of the class that holds it, and in none of another
  pub mine : (c x : ℕ) → runs_with (shape_of c) x (H.classes c) ≡ held_by c (H.holder x)
  -- what is out in a class is its entries not released
  pub outs : (c w : ℕ) → total (is c w) es ≡ out_count (shape_of c) w (H.classes c)
  pub directs : (x : ℕ) → f x ≡ is_direct (H.holder x)
  -- entries are told apart by call and place, and none is of a later call
  pub once : (k i : ℕ) → total (at k i) es ≤ 1
  pub past : (k i : ℕ) → n ≤ k → total (at k i) es ≡ 0

pub start : (size : ℕ) (rules : Rules) → Inv size 0 (new_heap rules) [] (λ x. false) (λ x. 0)
unfolding new_heap
start size rules = record {
  one = λ x. omega (arith, above_at 0 x (omega arith));
  bound = omega arith;
  good = λ c. record { partial = tt; empty = tt; full = tt };
  mine = λ c x. omega arith;
  outs = λ c w. omega arith;
  directs = λ x. refl;
  once = λ k i. omega arith;
  past = λ k i h. refl;
}

-- what is told and what is abandoned, put in other words
pub restate : {size n : ℕ} {H : Heap} {es : List Entry} {f f' : ℕ → Bool} {l l' : ℕ → ℕ} → Inv size n H es f l → ((x : ℕ) → f' x ≡ f x) → ((x : ℕ) → l' x ≡ l x) → Inv size n H es f' l'
restate k e d = record { one = λ x. omega (arith, k.one x, d x); bound = k.bound; good = k.good; mine = k.mine; outs = k.outs; directs = λ x. e x ∙ k.directs x; once = k.once; past = k.past }

-- by class, where one of them changed
pub at-class : (P : ℕ → Class → Type 0) (f : ℕ → Class) (c : ℕ) (s : Class) → P c s → ((d : ℕ) → eqb d c ≡ false → P d (f d)) → (d : ℕ) → P d (update f c s d)
at-class P f c s p q d = by_cases (eqb d c) (λ e. rw e (subst (λ k. P k s) (sym (eqb-true d c e)) p)) (λ e. rw e (q d e))

-- a lawful request, offered what the arena gives
record Offered (size : ℕ) (sh : Shape) (s : Class) (x : Request) (a : Arena) (q : Ask) (g : Given) (lost : ℕ → ℕ) : Type 0 where
  moves : Moves sh s g.run (released_by x (serve q g.run).answer) (serve q g.run)
  commits : CommitLaw size sh.pages a g lost

offered : (size h : ℕ) (sh : Shape) (s : Class) (x : Request) (a : Arena) (q : Ask) → Lawful sh s x q → Offered size sh s x a q (offer size h a q) (offer_abandons size h a q)
unfolding offer
offered size h sh s x a q (lawful-done m) = record { moves = m; commits = record { pages = λ y. omega arith; rises = omega arith; bound = λ b. b } }
offered size h sh s x a q (lawful-asks m) = record { moves = m (Arenas.commit size h sh.pages a).run; commits = commit-law size h sh.pages a }

module _ (size n : ℕ) (H : Heap) (es : List Entry) (f : ℕ → Bool) (l : ℕ → ℕ) (inv : Inv size n H es f l) where
  -- a class's call
  module _ (c : ℕ) (x : Request) (q : Ask) (g : Given) (a : ℕ → ℕ) (z : Offered size (shape_of c) (H.classes c) x H.arena q g a) where
    abbrev sh : Shape
    sh = shape_of c

    abbrev r : Result
    r = serve q g.run

    abbrev after : Outcome
    after = finish H c sh (asked q) g r

    abbrev b : ℕ → ℕ
    b y = all_abandon sh.pages r.gives g.arena y

    account : (y : ℕ) → Account c (H.holder y) (idle y H.arena) (idle y g.arena) (idle y (give_all sh.pages r.gives g.arena)) (covers_run sh.pages g.run y) (covers_all sh.pages r.gives y) (runs_with sh y (H.classes c)) (runs_with sh y r.class) (l y) (a y) (b y)
    account y = record {
      commits = z.commits.pages y;
      gives = give_all-law sh.pages y r.gives g.arena;
      moves = z.moves.pages y;
      one = omega (arith, inv.one y);
      mine = inv.mine c y;
    }

    balanced : (y : ℕ) → Balance _ _ _ _ _ _ _ _ _ _ _ _ (account y)
    balanced y = balance _ _ _ _ _ _ _ _ _ _ _ _ (account y)

    abbrev es' : List Entry
    es' = live_next n (some (record { class = c; request = x })) r.answer es

    abbrev back : List ℕ
    back = released_by x r.answer

    abbrev came : List ℕ
    came = blocks_of r.answer

    abbrev keeps : Entry → Bool
    keeps e = not (has_word c back e)

    own-outs : (w : ℕ) → total (is c w) es' ≡ out_count sh w r.class
    own-outs w =
        rw total-append
        (by_cases (leb 1 (count w back))
        (λ e. let h = leb-true 1 (count w back) e in omega (arith, gone c w back es h, entries-same n c w 0 came, z.moves.quiet w h, z.moves.back w h))
        (λ e. let h = leb-false 1 (count w back) e in omega (arith, word-stays c w back es (omega arith), entries-same n c w 0 came, z.moves.out w (omega arith), inv.outs c w)))

    other-outs : (w d : ℕ) → eqb d c ≡ false → total (is d w) es' ≡ out_count (shape_of d) w (H.classes d)
    other-outs w d e =
        rw total-append
        (omega (arith, other-stays c d w back es e, entries-other n c d w 0 came (ne_eqb c d (λ p. eqb-false d c e (sym p))), inv.outs d w))

    still-once : (k i : ℕ) → total (at k i) es' ≤ 1
    still-once k i =
        let le = filter-total (at k i) keeps es in
        rw total-append
        (by_cases (eqb n k)
        (λ e. let same = eqb-true n k e in
        let new : total (at k i) (entries_from n c 0 came) ≤ 1 = subst (λ m. total (at m i) (entries_from n c 0 came) ≤ 1) same (entries_at n c i 0 came) in
        omega (arith, inv.past k i (omega arith)))
        (λ e. omega (arith, inv.once k i, entries-not n k c i 0 came e)))

    still-past : (k i : ℕ) → suc n ≤ k → total (at k i) es' ≡ 0
    still-past k i h =
        rw total-append
        (omega (arith, filter-total (at k i) keeps es, inv.past k i (omega arith), entries-not n k c i 0 came (ne_eqb n k (omega arith))))

    class-inv : Inv size (suc n) after.heap es' f (λ y. l y + (a y + b y))
    unfolding finish
    class-inv = record {
      one = λ y. omega (arith, (balanced y).one);
      bound = omega (arith, give_all-frontier sh.pages r.gives g.arena, z.commits.bound inv.bound);
      good = at-class (λ d s. GoodClass (shape_of d) s) H.classes c r.class z.moves.good (λ d e. inv.good d);
      mine = λ d y. at-class (λ k s. runs_with (shape_of k) y s ≡ held_by k (after.heap.holder y)) H.classes c r.class (balanced y).mine (λ k e. inv.mine k y ∙ sym ((balanced y).others k e)) d;
      outs = λ d w. at-class (λ k s. total (is k w) es' ≡ out_count (shape_of k) w s) H.classes c r.class (own-outs w) (other-outs w) d;
      directs = λ y. inv.directs y ∙ sym (balanced y).directs;
      once = still-once;
      past = still-past;
    }

  -- the other calls, page by page
  direct-inv : (a : Arena) (w : ℕ → Holder) (f' : ℕ → Bool) (l' : ℕ → ℕ) → a.frontier ≤ size
      → ((y : ℕ) → Passes (H.holder y) (w y) (idle y H.arena) (idle y a) (l y) (l' y) (f y) (f' y))
      → Inv size (suc n) (record { arena = a; holder = w; classes = H.classes; rules = H.rules }) es f' l'
  direct-inv a w f' l' b h = record {
    one = λ y. omega (arith, (h y).one);
    bound = b;
    good = inv.good;
    mine = λ c y. inv.mine c y ∙ sym ((h y).mine c);
    outs = inv.outs;
    directs = λ y. (h y).directs;
    once = inv.once;
    past = λ k i m. inv.past k i (omega arith);
  }

  account-one : (y : ℕ) → is_held (H.holder y) + idle y H.arena + l y ≡ 1
  account-one y = omega (arith, inv.one y)

  direct-run : (q m : ℕ) → held_direct size H q m ≡ true → (y : ℕ) → 1 ≤ covers m q y → is_direct (H.holder y) ≡ true
  unfolding held_direct
  direct-run q m e y h =
      by_cases (in_run m q y)
      (λ b. let le = leb-true q y (and_left (leb q y) (ltb y (q + m)) b) in
      let lt = ltb-true y (q + m) (and_right (leb q y) (ltb y (q + m)) b) in
      subst (λ v. is_direct (H.holder v) ≡ true) (omega arith)
      (every-at (λ k. is_direct (H.holder (q + k))) m (y - q) (and_right (leb (q + m) size) (every (λ k. is_direct (H.holder (q + k))) (below m)) e) (omega arith)))
      (λ b. absurd (let z : 1 ≤ 0 = rw b at h in omega arith))

  -- the pages that a direct call with this answer abandons
  abbrev leaves : Call → Answer → ℕ → ℕ
  leaves x a y = cond (is_refused a) 0 (direct_abandons size H x y)

  record Next (x : Call) (o : Outcome) : Type 0 where
    next : Inv size (suc n) o.heap es (direct_next x o.answer f) (λ y. l y + leaves x o.answer y)

  next-cond : (x : Call) (b : Bool) (o p : Outcome) → (b ≡ true → Next x o) → (b ≡ false → Next x p) → Next x (cond b o p)
  next-cond x true o p h k = h refl
  next-cond x false o p h k = k refl

  next-same : (x : Call) (a : Answer) → ((y : ℕ) → direct_next x a f y ≡ f y) → ((y : ℕ) → leaves x a y ≡ 0) → Next x (unchanged H a)
  next-same x a e z = record {
    next = direct-inv H.arena H.holder _ _ inv.bound (λ y. record { one = omega (arith, inv.one y, z y); mine = λ d. refl; directs = e y ∙ inv.directs y });
  }

  run_of_lem : (o : Option ℕ) (b : Bool) → run_of (answer_run o b) ≡ o
  run_of_lem none b = refl
  run_of_lem (some q) b = refl

  next-commit : (h m : ℕ) → Next (Calls.commit h m) (commit_call size H h m)
  unfolding commit_call
  next-commit h m =
      let g = Arenas.commit size h m H.arena in
      let k = commit-law size h m H.arena in
      record {
        next = direct-inv g.arena _ _ _ (k.bound inv.bound)
            (λ y. rw (run_of_lem, run-answered) (drawn-direct (H.holder y) (idle y H.arena) (idle y g.arena) (covers_run m g.run y) (l y) (commit_abandons size h m H.arena H.arena.status y) (f y) (account-one y) (inv.directs y) (k.pages y)));
      }

  next-grow : (h q old new : ℕ) → Next (Calls.grow_frontier h q old new) (grow_call size H h q old new)
  unfolding grow_call
  next-grow h q old new =
      let g = Arenas.grow size h (q + old) (new - old) H.arena in
      record {
        next = direct-inv g.arena _ _ _ (grow-bound size h (q + old) (new - old) H.arena inv.bound)
            (λ y. drawn-direct (H.holder y) (idle y H.arena) (idle y g.arena) _ (l y) (grow_abandons size h (q + old) (new - old) H.arena y) (f y) (account-one y) (inv.directs y) (grow-law size h (q + old) (new - old) H.arena y));
      }

  next-release : (h q m : ℕ) → not (held_direct size H q m) ≡ false → Next (Calls.release h q m) (release_call H q m)
  unfolding release_call
  next-release h q m e =
      let a = Arenas.give m q H.arena in
      record {
        next = direct-inv a _ _ _ (omega (arith, give-frontier m q H.arena, inv.bound))
            (λ y. given-direct (H.holder y) (idle y H.arena) (idle y a) (covers m q y) (l y) (abandons m q H.arena y) (f y) (account-one y) (inv.directs y) (give-law m q y H.arena) (covers-le m q y) (direct-run q m (not-false (held_direct size H q m) e) y));
      }

  direct-next : (x : Call) → Next x (direct_call size H x)
  unfolding direct_call
  direct-next (Calls.take_blocks c h ws) = next-same _ _ (λ y. refl) (λ y. refl)
  direct-next (Calls.medium_take_blocks c h ws) = next-same _ _ (λ y. refl) (λ y. refl)
  direct-next (Calls.release_blocks c h ws) = next-same _ _ (λ y. refl) (λ y. refl)
  direct-next (Calls.medium_release_blocks c h ws) = next-same _ _ (λ y. refl) (λ y. refl)
  direct-next (Calls.pooled_take c h ws) = next-same _ _ (λ y. refl) (λ y. refl)
  direct-next (Calls.pooled_release c h ws) = next-same _ _ (λ y. refl) (λ y. refl)
  direct-next (Calls.release_bin_chunks c h ws gs fs) = next-same _ _ (λ y. refl) (λ y. refl)
  direct-next (Calls.commit h m) = search (next-cond, next-same, next-commit)
  direct-next (Calls.grow_frontier h q old new) = search (next-cond, next-same, next-grow)
  direct-next (Calls.release h q m) = search (next-cond, next-same, next-release)
  direct-next (Calls.contains o m) = next-same _ _ (λ y. refl) (λ y. refl)
  direct-next Calls.report = next-same _ _ (λ y. refl) (λ y. refl)

  class-quiet : (x : Call) (d : Named) → names x ≡ some d → (a : Answer) (y : ℕ) → direct_next x a f y ≡ f y
  class-quiet (Calls.take_blocks c h ws) d e a y = refl
  class-quiet (Calls.medium_take_blocks c h ws) d e a y = refl
  class-quiet (Calls.release_blocks c h ws) d e a y = refl
  class-quiet (Calls.medium_release_blocks c h ws) d e a y = refl
  class-quiet (Calls.pooled_take c h ws) d e a y = refl
  class-quiet (Calls.pooled_release c h ws) d e a y = refl
  class-quiet (Calls.release_bin_chunks c h ws gs fs) d e a y = refl
  class-quiet (Calls.commit h m) d e a y = absurd (Option·none-ne-some d e)
  class-quiet (Calls.grow_frontier h q old new) d e a y = absurd (Option·none-ne-some d e)
  class-quiet (Calls.release h q m) d e a y = absurd (Option·none-ne-some d e)
  class-quiet (Calls.contains o m) d e a y = absurd (Option·none-ne-some d e)
  class-quiet Calls.report d e a y = absurd (Option·none-ne-some d e)

  -- a refused call tells of no page held, and of no entry
  pub refused-quiet : (x : Call) (k y : ℕ) → direct_next x (Calls.refused k) f y ≡ f y
  refused-quiet (Calls.take_blocks c h ws) k y = refl
  refused-quiet (Calls.medium_take_blocks c h ws) k y = refl
  refused-quiet (Calls.release_blocks c h ws) k y = refl
  refused-quiet (Calls.medium_release_blocks c h ws) k y = refl
  refused-quiet (Calls.pooled_take c h ws) k y = refl
  refused-quiet (Calls.pooled_release c h ws) k y = refl
  refused-quiet (Calls.release_bin_chunks c h ws gs fs) k y = refl
  refused-quiet (Calls.commit h m) k y = refl
  refused-quiet (Calls.grow_frontier h q old new) k y = refl
  refused-quiet (Calls.release h q m) k y = refl
  refused-quiet (Calls.contains o m) k y = refl
  refused-quiet Calls.report k y = refl

  live-refused : (d : Option Named) (k : ℕ) → live_next n d (Calls.refused k) es ≡ es
  live-refused none k = refl
  live-refused (some d) k = append-nil _ ∙ all_stay es
    where
      all_stay : (es : List Entry) → filter (λ e. not (has_word d.class [] e)) es ≡ es
      all_stay [] = refl
      all_stay (e ∷ es) = rw (and_no (eqb e.class d.class)) (ap (λ (t : List Entry). e ∷ t) (all_stay es))

  pub route-inv : (x : Call) {w : Way} → Goes x w
      → Inv size (suc n) (route size H x w).heap (live_next n (names x) (route size H x w).answer es) (direct_next x (route size H x w).answer f) (λ y. l y + call_abandons size H x w y)
  unfolding class_call interact finish class_abandons
  route-inv x (is_turned t) = rw (live-refused (names x) 3) (next-same x (Calls.refused 3) (refused-quiet x 3) (λ y. refl)).next
  route-inv x (is-straight t e) = rw e (direct-next x).next
  route-inv x (is-class d t e) =
      let c = d.class in
      let h = host_of d.request in
      let q = answer (shape_of c) (H.rules c) (H.classes c) d.request in
      rw e (restate (class-inv c d.request q (offer size h H.arena q) (offer_abandons size h H.arena q)
      (offered size h (shape_of c) (H.classes c) d.request H.arena q (answer-lawful (shape_of c) (shape-sound c) (H.rules c) (H.classes c) (inv.good c) (λ y. omega (arith, inv.mine c y, held-le c (H.holder y), inv.one y)) d.request)))
      (λ y. class-quiet x d e (class_call size H c d.request).answer y)
      (λ y. refl))

  pub step-inv : (x : Call) → Inv size (suc n) (step size H x).heap (live_next n (names x) (step size H x).answer es) (direct_next x (step size H x).answer f) (λ y. l y + call_abandons size H x (way_of x) y)
  unfolding step
  step-inv x = route-inv x (goes x)

-- after every history
pub record Kept (size : ℕ) (H : Heap) (es : List Entry) (f : ℕ → Bool) (l : ℕ → ℕ) : Type 0 where
  pub number : ℕ
  pub inv : Inv size number H es f l

keep : {size : ℕ} {H : Heap} {es : List Entry} {f : ℕ → Bool} {l l' : ℕ → ℕ} → Kept size H es f l → ((x : ℕ) → l' x ≡ l x) → Kept size H es f l'
keep k e = record { number = k.number; inv = restate k.inv (λ x. refl) e }

history-inv : (size n : ℕ) (H : Heap) (es : List Entry) (f : ℕ → Bool) (l : ℕ → ℕ) → Inv size n H es f l → (xs : List Call)
    → Kept size (heap_from size H xs) (live_from n es (events_from size H xs)) (direct_from f (events_from size H xs)) (λ x. l x + abandoned_from size H xs x)
history-inv size n H es f l inv [] = record { number = n; inv = restate inv (λ x. refl) (λ x. omega arith) }
history-inv size n H es f l inv (x ∷ xs) =
    keep (history-inv size (suc n) (step size H x).heap _ _ _ (step-inv size n H es f l inv x) xs) (λ y. omega arith)

pub kept : (size : ℕ) (rules : Rules) (xs : List Call) → Kept size (heap_from size (new_heap rules) xs) (live_from 0 [] (events_from size (new_heap rules) xs)) (direct_from (λ x. false) (events_from size (new_heap rules) xs)) (abandoned_from size (new_heap rules) xs)
kept size rules xs = keep (history-inv size 0 (new_heap rules) [] (λ x. false) (λ x. 0) (start size rules) xs) (λ x. omega arith)
