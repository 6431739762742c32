-- Neighbouring calls of the exported functions may change places (document 02, A.14): the refinement's `change_places`, from any start.
use Rattle.facts.proofs.Prelude.{ℕ, arith, false, not, true≢false, List, [], ◌∷◌, ◌++◌, append_assoc, ◌⊎◌, inl, inr, some, ◌≡◌, refl, sym, ap, ◌∙◌, get_or, is_nil, by_cases}
use Rattle.facts.proofs.Bools.{and-false}
use Rattle.words.specs.Host.{bad_host}
use Rattle.classes.specs.Sizes.{small_sizes}
use Rattle.classes.specs.Shape.{small_shape, shape_of}
use Rattle.rules.specs.Rules.{Rules, rules_of}
use Rattle.model.specs.Calls as Calls
use Rattle.model.specs.Calls.{Call, blocks_of, Named, names, host_in, Way, way_of}
use Rattle.model.specs.Class.{Class, Ask, done, asks}
use Rattle.model.specs.Demands.{StaysHome, stays}
use Rattle.model.specs.HoleStore as Holes
use Rattle.model.specs.Arena as Arenas
use Rattle.model.specs.Page as Pages
use Rattle.model.specs.Class as Classes
use Rattle.model.specs.Chunks as Chunks
use Rattle.model.specs.Chunks.{answer}
use Rattle.model.specs.Heap as Heaps
use Rattle.model.specs.Heap.{Heap, new_heap, step, route, class_call, interact, finish}
use Rattle.model.specs.History.{heap_after, is_of}
use Rattle.model.proofs.Ways.{Goes, is_turned, is-straight, is-class, goes}
use Rattle.model.proofs.Alone.{direct-keeps, step-rules}
use Rattle.model.proofs.Update.{update_other}
use Rattle.pages.specs.Stack.{page_at}
use Rattle.refinement.specs.Direct.{Reply}
use Rattle.refinement.specs.Run.{call_reply, replies_from, book_from}
use Rattle.refinement.proofs.ArenaReached.{heap-next}
use Rattle.refinement.proofs.ChangePlaces as Words
use Rattle.refinement.proofs.ChangePlaces.{AtHome}
use Rattle.demands.specs.Call.{call}
use Rattle.demands.specs.Run.{run}
use Rattle.demands.specs.Start.{Start, opening, pages, rule_rows, rules, lent, begun, did, Starts, calls, book_after, next, replies}
use Rattle.demands.specs.ChangePlaces.{uses_arena, reaches_by, reaches, ReachesStays, ChangePlaces, take_of, OneOnly}
use Rattle.demands.proofs.Calls.{room}
use Rattle.demands.proofs.Histories.{book-split}
use Rattle.demands.proofs.Starts.{replies-append, represents, next-is, next-agrees}

-- ---- a call that does not reach the arena is at home
home_of : (q : Ask) → uses_arena q ≡ false → StaysHome q
home_of (asks m k) e = absurd (true≢false e)
home_of (done r) e = gives_none r.gives e
  where
    gives_none : (gs : List ℕ) → not (is_nil gs) ≡ false → StaysHome (done (record { class = r.class; answer = r.answer; gives = gs }))
    gives_none [] e = stays r.class r.answer
    gives_none (g ∷ gs) e = absurd (true≢false e)

at_home : (H : Heap) (x : Call) (p : Named) → names x ≡ some p → reaches_by H (way_of x) ≡ false → AtHome H x p
unfolding way_of
at_home H x p e r = by_cases (bad_host (host_in x)) inl (λ g. inr (home_of _ (rw (g, e) at r)))

-- ---- whether a call on a class reaches the arena hangs on the calls on that class alone
keeps-class : (n : ℕ) (H : Heap) (c : ℕ) (y : Call) → is_of c (names y) ≡ false → (step n H y).heap.classes c ≡ H.classes c
unfolding step class_call interact finish
keeps-class n H c y e = go (goes y)
  where
    go : {w : Way} → Goes y w → (route n H y w).heap.classes c ≡ H.classes c
    go (is_turned b) = refl
    go (is-straight b f) = ap (λ (f : ℕ → Class). f c) (direct-keeps n H y).kept
    go (is-class d b f) = update_other H.classes d.class c _ (rw f at e)

-- two heaps with the same limits and the same class
reaches-alike : (H K : Heap) (x : Call) (p : Named) → names x ≡ some p → H.rules ≡ K.rules → H.classes p.class ≡ K.classes p.class → reaches_by H (way_of x) ≡ reaches_by K (way_of x)
unfolding way_of
reaches-alike H K x p e r c =
    by_cases (bad_host (host_in x))
    (λ g. rw g)
    (λ g. rw (g, e)
    (ap (λ (l : Rules). uses_arena (answer (shape_of p.class) (l p.class) (H.classes p.class) p.request)) r
    ∙ ap (λ (k : Class). uses_arena (answer (shape_of p.class) (K.rules p.class) k p.request)) c))

pub reaches-stays : ReachesStays
reaches-stays s xs x y p e ne =
    let H = heap_after (pages s) (rules s) (calls s xs) in
    ap (λ (ys : List Call). reaches_by (heap_after (pages s) (rules s) ys) (way_of x)) (sym (append_assoc (did s) xs (y ∷ [])))
    ∙ ap (λ (K : Heap). reaches_by K (way_of x)) (heap-next (pages s) (new_heap (rules s)) (calls s xs) y)
    ∙ reaches-alike (step (pages s) H y).heap H x p e (step-rules (pages s) H y) (keeps-class (pages s) H p.class y ne)

-- ---- the book after more calls
module _ (s : Start) (o : Starts s) (xs : List Call) where
  after : (ys : List Call) → book_after s (xs ++ ys) ≡ book_from call (book_after s xs) ys
  after ys = book-split (begun s) xs ys

  -- one call more, after x
  second_is : (x y : Call) → next s (xs ++ x ∷ []) y ≡ call_reply (pages s) (call_reply (pages s) (book_after s xs) x).book y
  second_is x y = next-is s o (xs ++ x ∷ []) y ∙ ap (λ (m : List ℕ). call_reply (pages s) m y) (after (x ∷ []) ∙ ap (λ (r : Reply). r.book) (next-is s o xs x))

  two-after : (x y : Call) → (call (next s xs x).book y).book ≡ (call_reply (pages s) (call_reply (pages s) (book_after s xs) x).book y).book
  two-after x y = ap (λ (m : List ℕ). (call m y).book) (sym (after (x ∷ []))) ∙ ap (λ (r : Reply). r.book) (second_is x y)

  runs : (x y : Call) (zs : List Call)
      → replies s (xs ++ x ∷ y ∷ zs) ≡ replies s xs ++ (next s xs x ∷ next s (xs ++ x ∷ []) y ∷ replies_from call (call (next s xs x).book y).book zs)
  runs x y zs =
      let before = run (pages s) (rule_rows s) (lent s) (did s) in
      ap (λ (rs : List Reply). before ++ rs) (replies-append (begun s) xs (x ∷ y ∷ zs))
      ∙ sym (append_assoc before (replies_from call (begun s) xs) (replies_from call (book_after s xs) (x ∷ y ∷ zs)))
      ∙ ap (λ (r : Reply). replies s xs ++ (next s xs x ∷ r ∷ replies_from call (call (next s xs x).book y).book zs))
      (ap (λ (m : List ℕ). call m y) (sym (after (x ∷ []))))

pub change_places : ChangePlaces
change_places s o xs x y p q ex ey ne one =
    let w = Words.change_places (pages s) (room (pages s) (rule_rows s) (lent s) o).few-pages (rules s) (calls s xs) (book_after s xs) (represents s o xs) x y p q ex ey ne
    (home (and-false (reaches s xs x) (reaches s (xs ++ x ∷ []) y) one)) in
    let books : (call (next s xs x).book y).book ≡ (call (next s xs y).book x).book
    = two-after s o xs x y ∙ w.book ∙ sym (two-after s o xs y x) in
    record {
      first_code = ap (λ (r : Reply). r.code) (next-is s o xs x) ∙ w.first_code ∙ sym (ap (λ (r : Reply). r.code) (second_is s o xs y x));
      first = ap (λ (r : Reply). r.answer) (next-is s o xs x) ∙ w.first ∙ sym (ap (λ (r : Reply). r.answer) (second_is s o xs y x));
      second_code = ap (λ (r : Reply). r.code) (second_is s o xs x y) ∙ w.second_code ∙ sym (ap (λ (r : Reply). r.code) (next-is s o xs y));
      second = ap (λ (r : Reply). r.answer) (second_is s o xs x y) ∙ w.second ∙ sym (ap (λ (r : Reply). r.answer) (next-is s o xs y));
      book = λ zs. after s o xs (x ∷ y ∷ zs) ∙ ap (λ (m : List ℕ). book_from call m zs) books ∙ sym (after s o xs (y ∷ x ∷ zs));
      follows = λ zs. (
        replies_from call (call (next s xs x).book y).book zs,
        runs s o xs x y zs,
        runs s o xs y x zs ∙ ap (λ (m : List ℕ). replies s xs ++ (next s xs y ∷ next s (xs ++ y ∷ []) x ∷ replies_from call m zs)) (sym books),
      );
    }
  where
    home : (reaches s xs x ≡ false) ⊎ (reaches s (xs ++ x ∷ []) y ≡ false)
        → AtHome (heap_after (pages s) (rules s) (calls s xs)) x p ⊎ AtHome (heap_after (pages s) (rules s) (calls s xs)) y q
    home (inl r) = inl (at_home (heap_after (pages s) (rules s) (calls s xs)) x p ex r)
    home (inr r) = inr (at_home (heap_after (pages s) (rules s) (calls s xs)) y q ey (sym (reaches-stays s xs y x q ey (rw ex ne)) ∙ r))

-- ---- two takes that both commit
-- the page of the first block that a take answers: on a new heap, and after a take of another class
first_page : Calls.Answer → ℕ
first_page x = page_at (get_or (blocks_of x) 0 0)

first_alone : first_page (step 64 (new_heap (rules_of [])) (take_of 44)).answer ≡ 0
unfolding first_page small_sizes small_shape shape_of Holes.least_fit Holes.cut_from Arenas.draw_from Arenas.draw Arenas.grant Arenas.commit_ready Arenas.commit_as Arenas.commit Pages.word_of Pages.carve_as Pages.has_more Pages.carved_now Pages.pop Classes.after Classes.fill_from_list Classes.served Classes.on_run Classes.take_from Chunks.answer Heaps.new_heap Heaps.offer Heaps.finish Heaps.interact Heaps.class_call Heaps.step way_of
first_alone = refl

first-behind : first_page (step 64 (heap_after 64 (rules_of []) (take_of 45 ∷ [])) (take_of 44)).answer ≡ 1
unfolding first_page small_sizes small_shape shape_of Holes.least_fit Holes.cut_from Arenas.draw_from Arenas.draw Arenas.grant Arenas.commit_ready Arenas.commit_as Arenas.commit Pages.word_of Pages.carve_as Pages.has_more Pages.carved_now Pages.pop Classes.after Classes.fill_from_list Classes.served Classes.on_run Classes.take_from Chunks.answer Heaps.new_heap Heaps.offer Heaps.finish Heaps.interact Heaps.class_call Heaps.step way_of
first-behind = refl

pub one_only : OneOnly
one_only b o s =
    let e : ◌≡◌ {A = ℕ} 0 1
    = sym first_alone ∙ ap first_page (sym (next-agrees (opening 64 [] b) o [] (take_of 44)).answer ∙ s.first ∙ (next-agrees (opening 64 [] b) o (take_of 45 ∷ []) (take_of 44)).answer) ∙ first-behind in
    omega arith
