-- Every block that a take answers lies in the arena, on any book: its page is one of a run that the plan found whole, or that the arena gave.
use Rattle.facts.proofs.Prelude.{ℕ, zero, suc, ◌+◌, ◌-◌, ◌*◌, ◌≤◌, ◌<◌, arith, mul-le-mul_right, Bool, true, false, cond, not, List, [], ◌∷◌}
use Rattle.facts.proofs.Prelude.{◌++◌, map, Option, none, some, ◌≡◌, refl, ◌∙◌, eqb, ltb, leb, length, get_or, ltb-true, leb-true}
use Rattle.facts.proofs.Prelude.{le-leb, lt-ltb, eqb-true, eqb-false, not-true, not-false, All, every, by_cases, and_left, and_right}
use Rattle.words.specs.Limits.{class_rows}
use Rattle.words.specs.Word.{granule_of}
use Rattle.classes.specs.declared.Shape.{Shape}
use Rattle.classes.specs.way.Sound.{Sound}
use Rattle.fields.specs.Field.{arena, class, frontier, partial, empty, cold, get, words}
use Rattle.fields.specs.Ranges.{max_pages, head_valid}
use Rattle.fields.proofs.Sound.{head-frontier}
use Rattle.model.specs.Page.{word_of}
use Rattle.model.proofs.Pages.{all_append}
use Rattle.arena.specs.Calls.{commit_for}
use Rattle.pages.specs.Stack.{latest, draw}
use Rattle.pages.specs.Links.{link, top}
use Rattle.pages.specs.Carve.{new_run}
use Rattle.pages.specs.declared.Park.{Park}
use Rattle.pages.specs.declared.Park.TheVariants.{Empty, Cold}
use Rattle.pages.proofs.Runs.{whole_says}
use Rattle.pages.proofs.Draws.{latest-below}
use Rattle.calls.specs.Take.{Took, took_none, walk, park_valid, fill_from, unlist_spent, filled, from_partial, from_park, on_run, take_new, take_blocks, take_call}
use Rattle.take.specs.way.TakePlan.{TakePre, ParkedPre, TakeRunPre, walks_from, fills, unparked}
use Rattle.take.proofs.TakePages.{positive}
use Rattle.take.proofs.Walk.{stops, walk_step}
use Rattle.take.proofs.Fill.{turned}
use Rattle.take.proofs.TakeParked.{unparked-pre, unparked-walks}
use Rattle.take.proofs.TakeGranted.{commit-granted}
use Rattle.take.proofs.TakeSteps.{linked-pre, linked-walks}

pub record InArena (n : ℕ) (t : Took) : Type 0 where
  pub low : (i : ℕ) → i < t.count → granule_of (get_or t.list i 0) < 4096 * n

abbrev Low : ℕ → ℕ → Type 0
Low n w = granule_of w < 4096 * n

all-get : (n : ℕ) (s t : List ℕ) (i : ℕ) → All (Low n) s → i < length s → Low n (get_or (s ++ t) i 0)
all-get n [] t i h l = absurd (omega arith)
all-get n (w ∷ s) t zero h l = h.0
all-get n (w ∷ s) t (suc i) h l = all-get n s t i h.1 (omega arith)

none-taken : {n : ℕ} {b l : List ℕ} {k : ℕ} → InArena n (took_none b l k)
none-taken = record { low = λ i u. absurd (omega arith) }

either : (n : ℕ) (t : Bool) (x y : Took) → (t ≡ true → InArena n x) → (t ≡ false → InArena n y) → InArena n (cond t x y)
either n true x y h g = h refl
either n false x y h g = g refl

module _ (n : ℕ) (few : n ≤ max_pages) (c : ℕ) (sh : Shape) (sd : Sound sh) where
  words-low : (q : ℕ) → q + sh.pages ≤ n → (is : List ℕ) → every (λ i. ltb i sh.capacity) is ≡ true → All (Low n) (map (word_of sh q) is)
  unfolding word_of
  words-low q e [] h = tt
  words-low q e (i ∷ is) h =
      let l : i < sh.capacity = ltb-true i sh.capacity (and_left _ _ h) in
      let ends : sh.header + (i * sh.block + sh.block) ≤ 4096 * sh.pages = omega (arith, mul-le-mul_right sh.block l, sd.fits) in
      (omega (arith, ends, sd.wide), words-low q e is (and_right (ltb i sh.capacity) _ h))

  fill_low : (hc : ltb c class_rows ≡ true) (k m : ℕ) (b : List ℕ) → leb (words n) (length b) ≡ true → get b (arena frontier) ≤ n → walk n b c sh k m (get b (class partial c)) 0 ≡ true
      → All (Low n) (fill_from b c sh k m).blocks
  unfolding fill_from
  fill_low hc zero m b hb bound w = tt
  fill_low hc (suc k) m b hb bound w =
      by_cases (stops m (get b (class partial c)))
      (λ e. rw e tt)
      (λ e.
      let q = get b (class partial c) - 1 in
      let f = (walk_step n b c sh k m (get b (class partial c)) 0 e w).valid in
      let t = turned n b hb c hc sh sd bound k m e w in
      rw e
      (all_append (Low n) (fill_from (unlist_spent (draw b sh q m) c sh q) c sh k (m - length (latest b sh q m))).blocks (map (word_of sh q) (latest b sh q m))
      (fill_low hc k (m - length (latest b sh q m)) (unlist_spent (draw b sh q m) c sh q) (rw t.long hb) (rw t.frontier bound) t.walks)
      (words-low q (whole_says n b sh c q f.run).inside (latest b sh q m) (latest-below b sh q m (leb-true _ _ f.within) f.entries))))

  module _ (l : List ℕ) where
    filled-low : (b : List ℕ) → TakePre n b c sh → walks_from n b c sh ≡ true → InArena n (filled b c sh l)
    filled-low b a w =
        record { low = λ i u. all-get n (fills b c sh).blocks _ i (fill_low (lt-ltb c class_rows a.known) sh.batch sh.batch b (le-leb (words n) (length b) a.long) a.bound w) u }

    module _ (b : List ℕ) (a : TakePre n b c sh) where
      partial-low : InArena n (from_partial n b c sh l)
      unfolding from_partial
      partial-low = either n (walks_from n b c sh) (filled b c sh l) (took_none b l 13) (filled-low b a) (λ e. none-taken)

      module _ (alone : get b (class partial c) ≡ 0) where
        park-low : (k : Park) → (get b (class (top k) c) ≡ 0 → ⊥) → InArena n (from_park n b c sh k l)
        unfolding from_park
        park-low k full =
            let p : ParkedPre n b c sh k = record { pre = a; alone = alone; some = positive (get b (class (top k) c)) full } in
            either n (park_valid n b c sh k) (filled (unparked b c k) c sh l) (took_none b l 13) (λ w. filled-low (unparked b c k) (unparked-pre n b c sh k p w) (unparked-walks n b c sh k p w)) (λ e. none-taken)

        run-low : (h : ℕ) (g : Option ℕ) → (commit_for n b h sh.pages (suc c)).run ≡ g → InArena n (on_run (commit_for n b h sh.pages (suc c)).book c sh l g)
        unfolding on_run
        run-low h none e = none-taken
        run-low h (some q) e =
            let d = (commit_for n b h sh.pages (suc c)).book in
            let g = commit-granted n b (le-leb (words n) (length b) a.long) sh.pages (suc c) h q e in
            let r : TakeRunPre d c sh q = record {
              pages = n;
              pre = record { known = a.known; shape = sd; few = few; long = rw g.long a.long; bound = g.bound };
              alone = g.rows c (lt-ltb c class_rows a.known) ∙ alone;
              ends = g.ends;
              under = g.below;
              owners = g.owners;
            } in
            filled-low (link (new_run d sh q) c q) (linked-pre d c sh q r) (linked-walks d c sh q r)

        new-low : (h : ℕ) → InArena n (take_new n b c sh h l)
        unfolding take_new
        new-low h =
            let g = commit_for n b h sh.pages (suc c) in
            either n (eqb g.code 0) (on_run g.book c sh l g.run) (took_none b l g.code) (λ e. run-low h g.run refl) (λ e. none-taken)

    blocks-low : (b : List ℕ) (h : ℕ) → c < class_rows → words n ≤ length b → InArena n (take_blocks n b c sh h l)
    unfolding take_blocks
    blocks-low b h known long =
        either n (not (head_valid n b)) (took_none b l 13) _ (λ e. none-taken) (λ e.
        let a : TakePre n b c sh = record { known = known; shape = sd; few = few; long = long; bound = head-frontier n b (not-false _ e) } in
        either n (not (eqb (get b (class partial c)) 0)) (from_partial n b c sh l) _ (λ u. partial-low b a) (λ u.
        let alone = eqb-true (get b (class partial c)) 0 (not-false _ u) in
        either n (not (eqb (get b (class empty c)) 0)) (from_park n b c sh Empty l) _ (λ v. park-low b a alone Empty (eqb-false (get b (class empty c)) 0 (not-true _ v))) (λ v.
        either n (not (eqb (get b (class cold c)) 0)) (from_park n b c sh Cold l) (take_new n b c sh h l) (λ x. park-low b a alone Cold (eqb-false (get b (class cold c)) 0 (not-true _ x))) (λ x. new-low b a alone h))))

  pub take-in_arena : (b : List ℕ) (h : ℕ) (l : List ℕ) → c < class_rows → words n ≤ length b → InArena n (take_call n b c sh h l)
  unfolding take_call
  take-in_arena b h l known long = either n (ltb (length l) sh.batch) (took_none b l 5) (take_blocks n b c sh h l) (λ e. none-taken) (λ e. blocks-low l b h known long)
