-- Document 02, A.3, on any book: no call but a take writes a word of marks, and a take makes it 0 where it does.
--     Keeps          every word of marks is as it was; Clears, as it was or 0
--     given-fits     a release that gives a run to the arena has tested HOLES, by which the holes are written; gives-tested, of groups
use Rattle.facts.proofs.Prelude.{ℕ, zero, suc, ◌+◌, ◌-◌, ◌*◌, ◌/◌, ◌≤◌, ◌<◌, arith, Bool, true, false, cond, not, ◌&&◌, ◌||◌, true≢false, false≢true, List}
use Rattle.facts.proofs.Prelude.{[], ◌∷◌, map, inl, inr, ⊎_elim, Option, none, some, ◌≡◌, refl, sym, ap, ◌∙◌, subst, fun_ext, eqb, ltb, leb, length}
use Rattle.facts.proofs.Prelude.{drop, get_or, set, get_or-set_other, ltb-true, ltb-false, leb-true, leb-false, le-leb, lt-ltb, eqb-true, eqb-false, eq-eqb}
use Rattle.facts.proofs.Prelude.{ne_eqb, not-true, not-false, is_nil, All, every, filter, elem, distinct, by_cases, and_left, and_right, nor_left, nor_right}
use Rattle.words.specs.Host.{bad_host}
use Rattle.words.specs.Limits.{class_rows, book_format}
use Rattle.words.specs.Word.{granule_of, chunk_kind, page_of, count_of}
use Rattle.classes.specs.declared.Shape.{Shape}
use Rattle.classes.specs.Shape.{shape_of, class_count}
use Rattle.classes.specs.way.Sound.{Sound}
use Rattle.classes.proofs.Shapes.{shape-sound}
use Rattle.rules.specs.Rules.{rules_of}
use Rattle.fields.specs.Field as Fields
use Rattle.fields.specs.Field.{ClassField, Field, next, prev, region, off, row, page_off, first, arena, mark, class, hole, page, out, slot, size, format, state, frontier, holes, held, partial, empty, cold, get, put, same, ok, words}
use Rattle.fields.specs.Ranges.{length_fault, meta_fault, max_pages, head_valid}
use Rattle.fields.specs.Clear.{clear_out, clear_marks}
use Rattle.fields.proofs.Sound.{sound, head-frontier}
use Rattle.fields.proofs.Laws.{get-put_other}
use Rattle.fields.proofs.Changes.{same-eq, Changes, changes-none, changes-put, changes_trans, changes_mono}
use Rattle.fields.proofs.Clear.{changes-clear}
use Rattle.model.specs.Calls as Calls
use Rattle.model.specs.Calls.{Call}
use Rattle.model.proofs.ArenaTidy.{few-give}
use Rattle.model.proofs.Counts.{filter-all}
use Rattle.model.specs.Destination.{is_arena, kept_fate, arena_fate}
use Rattle.model.specs.Release.{of_kind}
use Rattle.model.specs.Chunks.{chunks_max}
use Rattle.arena.specs.Load.{load_arena, load_store}
use Rattle.arena.specs.Valid.{record_valid, commit_valid, grow_valid, give_valid}
use Rattle.model.specs.Arena as Model
use Rattle.model.specs.Heap.{bad_run, bad_growth}
use Rattle.model.specs.declared.Destination.{Destination}
use Rattle.model.specs.declared.Destination.TheVariants.{ToEmpty, ToCold, ToArena}
use Rattle.arena.specs.Store.{store_arena}
use Rattle.arena.specs.Owners.{own}
use Rattle.arena.specs.Open as Open
use Rattle.arena.specs.Open.{head_words, opened}
use Rattle.arena.specs.Calls.{Committed, Done, commit_for, commit_call, grow_call, release_call, held_direct, given}
use Rattle.arena.proofs.Frames.{loaded_length}
use Rattle.pages.specs.Stack.{latest, draw, has_more, set_outs, pushed, back, page_at, index_of, is_block, blocks_from}
use Rattle.pages.specs.Links.{link, unlink, park_run, pop_store, top, stored}
use Rattle.pages.specs.Carve.{out_words, new_run, bare_run}
use Rattle.pages.specs.Runs.{name_run}
use Rattle.pages.specs.declared.Park.{Park}
use Rattle.pages.specs.declared.Park.TheVariants.{Empty, Cold}
use Rattle.pages.proofs.Descending.{small, every-below}
use Rattle.pages.proofs.SetOuts.{is_out_bit, length-set_outs, set_outs-changes, set_outs-kept}
use Rattle.pages.proofs.Draws.{latest-below, draw-changes}
use Rattle.pages.proofs.Frames.{changes-link, changes-unlink, changes-pop_store, changes-park_run, changes-name, changes-carve, changes-pushed}
use Rattle.calls.specs.Take.{Took, took_none, walk, park_valid, fill_from, unlist_spent, filled, from_partial, from_park, on_run, take_new, take_blocks, take_call}
use Rattle.pages.specs.Valid.{header_valid}
use Rattle.calls.specs.Out.{start_of, out_in, in_run_of, out_at, out_fault}
use Rattle.calls.specs.Release.{Released, released, first_of, release_valid, give_back_at, last_step, release_blocks, page_valid, row_valid, destination_valid, destination_at, park_at, parked_in, unlisted, relisted, emptied, leaves, placed}
use Rattle.calls.specs.Chunks.{blocks_on, chunk_fits, chunks_match, chunks_valid, release_chunks, chunk_back_at, settle_chunks, give_runs}
use Rattle.calls.proofs.Out.{passed}
use Rattle.take.specs.way.TakePlan.{TakePre, ParkedPre, TakeRunPre, walks_from, unparked}
use Rattle.take.proofs.TakePages.{positive}
use Rattle.take.proofs.Walk.{stops, walk_step}
use Rattle.take.proofs.Fill.{turned, length-map}
use Rattle.take.proofs.TakeParked.{unparked-pre, unparked-walks}
use Rattle.take.proofs.TakeGranted.{commit-granted}
use Rattle.take.proofs.TakeSteps.{linked-pre, linked-walks}
use Rattle.release.proofs.Destinations.{arena-alone}
use Rattle.release.proofs.OutLaws.{start_of-out}
use Rattle.release.proofs.BackSteps.{on_stack, push-changes, free-now}
use Rattle.chunks.specs.way.Pass.{cleared, push_all}
use Rattle.chunks.specs.way.GivePre.{gives_valid}
use Rattle.chunks.specs.way.CallPre.{PassPre}
use Rattle.chunks.proofs.Gather.{gathered}
use Rattle.chunks.proofs.GatherGives.{gives_in_lem}
use Rattle.chunks.proofs.CallTests.{valid-pages}
use Rattle.chunks.proofs.CallPasses.{settle-next}
use Rattle.trace.specs.Words.{trace_on}
use Rattle.vigbuso.specs.Faults.{call_fault, class_fault}
use Rattle.vigbuso.specs.Direct as Direct
use Rattle.vigbuso.specs.Direct.{open_fault, open_on, commit_on, grow_on}
use Rattle.vigbuso.specs.Blocks as Blocks
use Rattle.vigbuso.specs.Blocks.{take_on, chunks_on}
use Rattle.refinement.specs.Run.{book_from}
use Rattle.refinement.proofs.ArenaStore.{store-written}
use Rattle.refinement.proofs.ArenaFrames.{is_step, committed-changes, grown-changes, given-changes, own-changes}
use Rattle.refinement.proofs.OpenRep.{ruled-changes}
use Rattle.demands.specs.Call.{call}
use Rattle.demands.specs.Start.{Start, opening, trace, pages, rule_rows, lent, Starts, calls, book_after}
use Rattle.demands.specs.Marks.{is_take_call, LeftOrZero, MarksStay}
use Rattle.demands.proofs.Calls.{room-plain, opens}
use Rattle.demands.proofs.ChunkReturns.{small-paged}
use Rattle.demands.proofs.Starts.{as_opening}

-- ---- one word
abbrev not_mark : Field → Bool
not_mark (arena k) = true
not_mark (mark p j) = false
not_mark (class k c) = true
not_mark (hole k i) = true
not_mark (page k p) = true
not_mark (out p i) = true
not_mark (slot p i) = true

abbrev Keeps : List ℕ → List ℕ → Type 0
Keeps b b' = Changes not_mark b b'

step-mark : (t : ℕ → Bool) (g : Field) → is_step t g ≡ true → not_mark g ≡ true
step-mark t (arena k) e = refl
step-mark t (mark p j) e = e
step-mark t (class k c) e = refl
step-mark t (hole k i) e = refl
step-mark t (page k p) e = refl
step-mark t (out p i) e = refl
step-mark t (slot p i) e = refl

step_keeps : (t : ℕ → Bool) (b b' : List ℕ) → Changes (is_step t) b b' → Keeps b b'
step_keeps t b b' h = changes_mono (is_step t) not_mark b b' (step-mark t) h

record Clears (b b' : List ℕ) : Type 0 where
  left : (p j : ℕ) → j < 128 → LeftOrZero b b' p j

keeps_clears : {b b' : List ℕ} → Keeps b b' → Clears b b'
keeps_clears h = record { left = λ p j l. inl (h.kept (mark p j) (lt-ltb j 128 l) refl) }

clears_then : {a b c : List ℕ} → Clears a b → Clears b c → Clears a c
clears_then h k = record { left = λ p j l. ⊎_elim (λ e. ⊎_elim (λ d. inl (e ∙ d)) (λ d. inr (e ∙ d)) (h.left p j l)) inr (k.left p j l) }

set-zero : (b : List ℕ) (i : ℕ) → get_or (set b i 0) i 0 ≡ 0
set-zero [] i = refl
set-zero (x ∷ b) zero = refl
set-zero (x ∷ b) (suc i) = set-zero b i

put_clears : (b : List ℕ) (q m : ℕ) → m < 128 → Clears b (put b (mark q m) 0)
unfolding get put
put_clears b q m u = record { left = λ p j l. by_cases (same (mark q m) (mark p j)) (λ e. inr (zeroed p j (same-eq (mark q m) (mark p j) e))) (λ e. inl (get-put_other b (mark q m) (mark p j) 0 (lt-ltb m 128 u) (lt-ltb j 128 l) e)) }
  where
    zeroed : (p j : ℕ) → mark q m ≡ mark p j → get (put b (mark q m) 0) (mark p j) ≡ 0
    zeroed p j e = subst (λ f. get (put b (mark q m) 0) f ≡ 0) e (set-zero b (40144 + 4112 * q + m))

clear_clears : (b : List ℕ) (q m : ℕ) → m ≤ 128 → Clears b (clear_marks b q m)
unfolding clear_marks
clear_clears b q zero h = keeps_clears (changes-none not_mark b)
clear_clears b q (suc m) h = clears_then (clear_clears b q m (omega arith)) (put_clears (clear_marks b q m) q m (omega arith))

-- ---- the arena
-- what is tested before the arena is written
record_fits : (n : ℕ) (b : List ℕ) → record_valid n b ≡ true → get b (arena holes) ≤ 4096
unfolding record_valid
record_fits n b e =
    leb-true (get b (arena holes)) 4096 (and_left (leb (get b (arena holes)) 4096) _ (and_right (head_valid n b) _ (and_right (leb (get b (arena state)) 2) _ e)))

give-fits : (n : ℕ) (b : List ℕ) (m : ℕ) → give_valid n b m ≡ true → get b (arena holes) ≤ 4096
unfolding give_valid
give-fits n b m e = record_fits n b (and_left (record_valid n b) _ e)

loaded_few : (b : List ℕ) → get b (arena holes) ≤ 4096 → length (load_arena b).store.holes ≤ 4096
unfolding load_arena load_store
loaded_few b f = omega (arith, loaded_length b 0 (get b (arena holes)))

valid-few : (n : ℕ) (b : List ℕ) → record_valid n b ≡ true → length (load_arena b).store.holes ≤ 4096
valid-few n b e = loaded_few b (record_fits n b e)

module _ (n : ℕ) (b : List ℕ) where
  commit-keeps : (h m w : ℕ) → Keeps b (commit_for n b h m w).book
  unfolding commit_for commit_valid
  commit-keeps h m w =
      by_cases (commit_valid n b)
      (λ e. rw e (step_keeps _ b _ (committed-changes n b h m (load_arena b) (valid-few n b (and_left (record_valid n b) _ e)) w)))
      (λ e. rw e (changes-none not_mark b))

-- ---- the pages
module _ (b : List ℕ) (c q : ℕ) (hc : ltb c class_rows ≡ true) where
  link-keeps : Keeps b (link b c q)
  link-keeps = changes-link not_mark b c q hc refl refl refl refl (λ x e. refl)

  unlink-keeps : Keeps b (unlink b c q)
  unlink-keeps = changes-unlink not_mark b c q hc (λ e. refl) (λ z e. refl) (λ z e. refl) refl refl refl

new_clears : (b : List ℕ) (sh : Shape) (q : ℕ) → sh.capacity ≤ 4096 → Clears b (new_run b sh q)
unfolding new_run bare_run
new_clears b sh q h =
    let b₁ = name_run b q q sh.pages in
    let b₂ = clear_out b₁ q 0 (32 * out_words sh) in
    let b₃ = clear_marks b₂ q (out_words sh) in
    let few : 0 + 32 * ((sh.capacity + 31) / 32) ≤ 4096 = omega arith in
    let words : (sh.capacity + 31) / 32 ≤ 128 = omega arith in
    clears_then (keeps_clears (changes-clear not_mark b (32 * out_words sh) q 0 b₁ few (λ j l u. refl) (changes-name not_mark b b q q sh.pages (λ y l u. refl) (changes-none not_mark b))))
    (clears_then (clear_clears b₂ q (out_words sh) words)
    (keeps_clears (changes_trans not_mark b₃ (put b₃ (page Fields.listed q) 0) _ (changes-put not_mark b₃ b₃ (page Fields.listed q) 0 refl refl (changes-none not_mark b₃)) (changes-carve not_mark (put b₃ (page Fields.listed q) 0) q refl refl (λ i. refl) sh true refl h))))

-- ---- a take
clears_cond : (b : List ℕ) (t : Bool) (x y : Took) → (t ≡ true → Clears b x.book) → (t ≡ false → Clears b y.book) → Clears b (cond t x y).book
clears_cond b true x y h g = h refl
clears_cond b false x y h g = g refl

clears_none : (b : List ℕ) → Clears b b
clears_none b = keeps_clears (changes-none not_mark b)

module _ (n : ℕ) (few : n ≤ max_pages) (c : ℕ) (sh : Shape) (sd : Sound sh) where
  fill_keeps : (hc : ltb c class_rows ≡ true) (k m : ℕ) (b : List ℕ) → leb (words n) (length b) ≡ true → get b (arena frontier) ≤ n → walk n b c sh k m (get b (class partial c)) 0 ≡ true
      → Keeps b (fill_from b c sh k m).book
  unfolding fill_from unlist_spent
  fill_keeps hc zero m b hb bound w = changes-none not_mark b
  fill_keeps hc (suc k) m b hb bound w =
      by_cases (stops m (get b (class partial c)))
      (λ e. rw e (changes-none not_mark b))
      (λ e.
      let q = get b (class partial c) - 1 in
      let f = (walk_step n b c sh k m (get b (class partial c)) 0 e w).valid in
      let t = turned n b hb c hc sh sd bound k m e w in
      let d = draw b sh q m in
      let low : every small (latest b sh q m) ≡ true = every-below sh.capacity 4096 sd.few (latest b sh q m) (latest-below b sh q m (leb-true _ _ f.within) f.entries) in
      rw e
      (changes_trans not_mark b (unlist_spent d c sh q) _
      (changes_trans not_mark b d (unlist_spent d c sh q) (draw-changes b sh q m low not_mark refl refl (λ i. refl)) (spent-keeps d c q hc sh))
      (fill_keeps hc k (m - length (latest b sh q m)) (unlist_spent d c sh q) (rw t.long hb) (rw t.frontier bound) t.walks)))
    where
      spent-keeps : (d : List ℕ) (c q : ℕ) (hc : ltb c class_rows ≡ true) (sh : Shape) → Keeps d (unlist_spent d c sh q)
      spent-keeps d c q hc sh = by_cases (has_more d sh q) (λ e. rw e (changes-none not_mark d)) (λ e. rw e (unlink-keeps d c q hc))

  module _ (l : List ℕ) where
    filled_clears : (b : List ℕ) → TakePre n b c sh → walks_from n b c sh ≡ true → Clears b (filled b c sh l).book
    filled_clears b a w = keeps_clears (fill_keeps (lt-ltb c class_rows a.known) sh.batch sh.batch b (le-leb (words n) (length b) a.long) a.bound w)

    module _ (b : List ℕ) (a : TakePre n b c sh) where
      partial_clears : Clears b (from_partial n b c sh l).book
      unfolding from_partial
      partial_clears = clears_cond b (walks_from n b c sh) (filled b c sh l) (took_none b l 13) (filled_clears b a) (λ e. clears_none b)

      module _ (alone : get b (class partial c) ≡ 0) where
        park_clears : (k : Park) → (get b (class (top k) c) ≡ 0 → ⊥) → Clears b (from_park n b c sh k l).book
        unfolding from_park
        park_clears k full =
            let hc = lt-ltb c class_rows a.known in
            let q = get b (class (top k) c) - 1 in
            let p : ParkedPre n b c sh k = record { pre = a; alone = alone; some = positive (get b (class (top k) c)) full } in
            clears_cond b (park_valid n b c sh k) (filled (unparked b c k) c sh l) (took_none b l 13)
            (λ w. clears_then (keeps_clears (changes_trans not_mark b (pop_store b c k q) (unparked b c k) (changes-pop_store not_mark b c q hc k refl refl) (link-keeps (pop_store b c k q) c q hc)))
            (filled_clears (unparked b c k) (unparked-pre n b c sh k p w) (unparked-walks n b c sh k p w)))
            (λ e. clears_none b)

        run_clears : (h : ℕ) (g : Option ℕ) → (commit_for n b h sh.pages (suc c)).run ≡ g → Clears b (on_run (commit_for n b h sh.pages (suc c)).book c sh l g).book
        unfolding on_run
        run_clears h none e = keeps_clears (commit-keeps n b h sh.pages (suc c))
        run_clears h (some q) e =
            let d = (commit_for n b h sh.pages (suc c)).book in
            let hc = lt-ltb c class_rows a.known in
            let g = commit-granted n b (le-leb (words n) (length b) a.long) sh.pages (suc c) h q e in
            let r : TakeRunPre d c sh q = record {
              pages = n;
              pre = record { known = a.known; shape = sd; few = few; long = rw g.long a.long; bound = g.bound };
              alone = g.rows c hc ∙ alone;
              ends = g.ends;
              under = g.below;
              owners = g.owners;
            } in
            clears_then (keeps_clears (commit-keeps n b h sh.pages (suc c)))
            (clears_then (new_clears d sh q sd.few)
            (clears_then (keeps_clears (link-keeps (new_run d sh q) c q hc))
            (filled_clears (link (new_run d sh q) c q) (linked-pre d c sh q r) (linked-walks d c sh q r))))

        new_run_clears : (h : ℕ) → Clears b (take_new n b c sh h l).book
        unfolding take_new
        new_run_clears h =
            let g = commit_for n b h sh.pages (suc c) in
            clears_cond b (eqb g.code 0) (on_run g.book c sh l g.run) (took_none b l g.code) (λ e. run_clears h g.run refl) (λ e. clears_none b)

    blocks-clear : (b : List ℕ) (h : ℕ) → c < class_rows → words n ≤ length b → Clears b (take_blocks n b c sh h l).book
    unfolding take_blocks
    blocks-clear b h known long =
        clears_cond b (not (head_valid n b)) (took_none b l 13) _ (λ e. clears_none b) (λ e.
        let a : TakePre n b c sh = record { known = known; shape = sd; few = few; long = long; bound = head-frontier n b (not-false (head_valid n b) e) } in
        clears_cond b (not (eqb (get b (class partial c)) 0)) (from_partial n b c sh l) _ (λ u. partial_clears b a) (λ u.
        let alone = eqb-true (get b (class partial c)) 0 (not-false _ u) in
        clears_cond b (not (eqb (get b (class empty c)) 0)) (from_park n b c sh Empty l) _ (λ v. park_clears b a alone Empty (eqb-false (get b (class empty c)) 0 (not-true _ v))) (λ v.
        clears_cond b (not (eqb (get b (class cold c)) 0)) (from_park n b c sh Cold l) (take_new n b c sh h l) (λ x. park_clears b a alone Cold (eqb-false (get b (class cold c)) 0 (not-true _ x))) (λ x. new_run_clears b a alone h))))

  take_clears : (b : List ℕ) (h : ℕ) (l : List ℕ) → c < class_rows → words n ≤ length b → Clears b (take_call n b c sh h l).book
  unfolding take_call
  take_clears b h l known long = clears_cond b (ltb (length l) sh.batch) (took_none b l 5) (take_blocks n b c sh h l) (λ e. clears_none b) (λ e. blocks-clear l b h known long)

-- ---- a page whose blocks come back: which fields are written
-- no field of the arena, no word of marks, and of a page neither OWNER nor FIRST
abbrev in_pages : Field → Bool
in_pages (arena k) = false
in_pages (mark p j) = false
in_pages (class k c) = true
in_pages (hole k i) = false
in_pages (page k p) = ltb 1 (page_off k)
in_pages (out p i) = true
in_pages (slot p i) = true

-- not FREE of page x
abbrev off_free : ℕ → Field → Bool
off_free x f = not (eqb (region f) 4 && (eqb (off f) 4 && eqb (row f) x))

record Lets (t : Field → Bool) (c q : ℕ) : Type 0 where
  rows : (k : ClassField) → t (class k c) ≡ true
  nexts : (x : ℕ) → t (page next x) ≡ true
  prevs : (x : ℕ) → t (page prev x) ≡ true
  listed : t (page Fields.listed q) ≡ true
  free : t (page Fields.free q) ≡ true
  carved : t (page Fields.carved q) ≡ true
  virgin : t (page Fields.virgin q) ≡ true
  outs : (i : ℕ) → t (out q i) ≡ true
  slots : (i : ℕ) → t (slot q i) ≡ true

lets_pages : (c q : ℕ) → Lets in_pages c q
lets_pages c q = record { rows = λ k. refl; nexts = λ x. refl; prevs = λ x. refl; listed = refl; free = refl; carved = refl; virgin = refl; outs = λ i. refl; slots = λ i. refl }

lets_free : (c q x : ℕ) → eqb q x ≡ false → Lets (off_free x) c q
lets_free c q x e = record { rows = λ k. refl; nexts = λ x. refl; prevs = λ x. refl; listed = refl; free = rw e; carved = refl; virgin = refl; outs = λ i. refl; slots = λ i. refl }

module _ (t : Field → Bool) (c q : ℕ) (hc : ltb c class_rows ≡ true) (ls : Lets t c q) (sh : Shape) (few : sh.capacity ≤ 4096) (h : ℕ) where
  relist_changes : (b : List ℕ) → Changes t b (relisted b c q)
  unfolding relisted
  relist_changes b =
      by_cases (eqb (get b (page Fields.listed q)) 0)
      (λ e. rw e (changes-link t b c q hc (ls.rows partial) (ls.nexts q) (ls.prevs q) ls.listed (λ x d. ls.prevs x)))
      (λ e. rw e (changes-none t b))

  unlist_changes : (b : List ℕ) → Changes t b (unlisted b c q)
  unfolding unlisted
  unlist_changes b =
      by_cases (eqb (get b (page Fields.listed q)) 1)
      (λ e. rw e (changes-unlink t b c q hc (λ z. ls.rows partial) (λ z d. ls.nexts z) (λ z d. ls.prevs z) (ls.nexts q) (ls.prevs q) ls.listed))
      (λ e. rw e (changes-none t b))

  parks : (b : List ℕ) (k : Park) → Changes t b (park_run b c k q)
  parks b k = changes-park_run t b c q hc k (ls.rows (top k)) (ls.rows (stored k)) (ls.nexts q)

  in_changes : (b : List ℕ) (s : Destination) → Changes t b (parked_in b c sh h q s)
  in_changes b ToEmpty = parks b Empty
  in_changes b ToCold = changes_trans t b _ _ (changes-carve t b q ls.free ls.virgin ls.slots sh _ ls.carved few) (parks _ Cold)
  in_changes b ToArena = changes-none t b

  park-changes : (b : List ℕ) → Changes t b (park_at b c sh h q).book
  unfolding park_at
  park-changes b = changes_trans t b (unlisted b c q) _ (unlist_changes b) (in_changes (unlisted b c q) (destination_at b c sh))

  empty-changes : (b : List ℕ) → Changes t b (emptied b q)
  unfolding emptied
  empty-changes b = changes-put t b _ (page Fields.free q) 0 refl ls.free (changes-put t b b (page Fields.carved q) 0 refl ls.carved (changes-none t b))

  leave-changes : (r : Bool) (b : List ℕ) → Changes t b (leaves r b c sh h q).book
  leave-changes true b = changes_trans t b (emptied b q) _ (empty-changes b) (park-changes (emptied b q))
  leave-changes false b = park-changes b

  place-changes : (r : Bool) (b : List ℕ) → Changes t b (placed r b c sh h q).book
  place-changes r b = by_cases (eqb (get b (page Fields.carved q)) (get b (page Fields.free q))) (λ e. rw e (leave-changes r b)) (λ e. rw e (relist_changes b))

  back-changes : (b is : List ℕ) → every small is ≡ true → get b (page Fields.free q) + length is ≤ 4096 → Changes t b (back b q is)
  unfolding back
  back-changes b is s l =
      changes_trans t b (set_outs b q 0 is) _ (set_outs-changes b q 0 t ls.outs is s)
      (changes-pushed t (set_outs b q 0 is) q ls.free ls.virgin ls.slots is (rw (set_outs-kept b q 0 is s (page Fields.free q) refl refl) l))

  returns : (r : Bool) (b is : List ℕ) → every small is ≡ true → get b (page Fields.free q) + length is ≤ 4096 → Changes t b (placed r (back b q is) c sh h q).book
  returns r b is s l = changes_trans t b (back b q is) _ (back-changes b is s l) (place-changes r (back b q is))

-- ---- what stays: every word of marks, and HOLES in its range
record Stays (b b' : List ℕ) : Type 0 where
  keeps : Keeps b b'
  fits : get b' (arena holes) ≤ 4096

pages-mark : (g : Field) → in_pages g ≡ true → not_mark g ≡ true
pages-mark (arena k) e = refl
pages-mark (mark p j) e = e
pages-mark (class k c) e = refl
pages-mark (hole k i) e = refl
pages-mark (page k p) e = refl
pages-mark (out p i) e = refl
pages-mark (slot p i) e = refl

pages-keep : (b b' : List ℕ) → Changes in_pages b b' → Keeps b b'
pages-keep b b' h = changes_mono in_pages not_mark b b' pages-mark h

pages-stay : (b b' : List ℕ) → get b (arena holes) ≤ 4096 → Changes in_pages b b' → Stays b b'
pages-stay b b' f h = record { keeps = pages-keep b b' h; fits = rw (h.kept (arena holes) refl refl) f }

stays-none : (b : List ℕ) → get b (arena holes) ≤ 4096 → Stays b b
stays-none b f = record { keeps = changes-none not_mark b; fits = f }

stays_then : {a b c : List ℕ} → Stays a b → Stays b c → Stays a c
stays_then {a} {b} {c} h k = record { keeps = changes_trans not_mark a b c h.keeps k.keeps; fits = k.fits }

module _ (n : ℕ) where
  given_stays : (b : List ℕ) → leb (words n) (length b) ≡ true → get b (arena holes) ≤ 4096 → (q m : ℕ) → Stays b (given b q m)
  unfolding given
  given_stays b hb f q m =
      let a = Model.give m q (load_arena b) in
      let few = few-give m q (load_arena b) (loaded_few b f) in
      let s = store_arena b a in
      let v = get b (arena held) - m in
      let e : get (put (own s q m 0) (arena held) v) (arena holes) ≡ length a.store.holes = get-put_other (own s q m 0) (arena held) (arena holes) v refl refl refl ∙ (own-changes s q m 0).kept (arena holes) refl refl ∙ (store-written n b a hb few).number in
      record { keeps = step_keeps _ b _ (given-changes b q m few); fits = omega (arith, e, few) }

  runs-stay : (b : List ℕ) → leb (words n) (length b) ≡ true → get b (arena holes) ≤ 4096 → (m : ℕ) (qs : List ℕ) → Stays b (give_runs b m qs)
  runs-stay b hb f m [] = stays-none b f
  runs-stay b hb f m (q ∷ qs) = let s = given_stays b hb f q m in stays_then s (runs-stay (given b q m) (rw s.keeps.long hb) s.fits m qs)

  -- where there are runs to give, the record was tested
  runs-keep : (b : List ℕ) → leb (words n) (length b) ≡ true → (m : ℕ) → m ≡ 1 → (qs : List ℕ) → gives_valid n b (length qs * m) ≡ true → Keeps b (give_runs b m qs)
  unfolding gives_valid
  runs-keep b hb m one [] f = changes-none not_mark b
  runs-keep b hb m one (q ∷ qs) f =
      let some : eqb (suc (length qs) * m) 0 ≡ false = ne_eqb (suc (length qs) * m) 0 (λ e. let z : suc (length qs) * 1 ≡ 0 = rw one at e in omega arith) in
      (runs-stay b hb (give-fits n b (suc (length qs) * m) (rw some at f)) m (q ∷ qs)).keeps

-- ---- the groups of a release in turn
blocks-fine : Shape → List ℕ → ℕ → Bool
blocks-fine sh b w = is_block sh (start_of b w) w

module _ (c : ℕ) (hc : ltb c class_rows ≡ true) (sh : Shape) (few : sh.capacity ≤ 4096) (h : ℕ) (ws : List ℕ) (b₀ : List ℕ) (fine : every (blocks-fine sh b₀) ws ≡ true) where
  -- the listed blocks of a run have places there
  on-small : (b : List ℕ) → ((x : ℕ) → get b (page first x) ≡ get b₀ (page first x)) → (q : ℕ) (vs : List ℕ) → every (blocks-fine sh b₀) vs ≡ true
      → every small (map (index_of sh q) (filter (λ w. eqb (start_of b w) q) vs)) ≡ true
  unfolding start_of blocks-fine is_block
  on-small b k q [] e = refl
  on-small b k q (w ∷ vs) e =
      let r = on-small b k q vs (and_right (blocks-fine sh b₀ w) (every (blocks-fine sh b₀) vs) e) in
      by_cases (eqb (get b (page first (page_at w))) q)
      (λ d.
      let s : get b₀ (page first (page_at w)) ≡ q = sym (k (page_at w)) ∙ eqb-true _ q d in
      let i : is_block sh q w ≡ true = subst (λ z. is_block sh z w ≡ true) s (and_left (blocks-fine sh b₀ w) (every (blocks-fine sh b₀) vs) e) in
      let l = ltb-true (index_of sh q w) sh.capacity (and_right (eqb (index_of sh q w * sh.block) (granule_of w - blocks_from sh q)) _ (and_right (leb (blocks_from sh q) (granule_of w)) _ i)) in
      rw (d, lt-ltb (index_of sh q w) 4096 (omega arith)) r)
      (λ d. rw d r)

  on_same : (b : List ℕ) → ((x : ℕ) → get b (page first x) ≡ get b₀ (page first x)) → (q : ℕ) → blocks_on b ws q ≡ blocks_on b₀ ws q
  unfolding blocks_on start_of
  on_same b k q = ap (λ (t : ℕ → Bool). filter t ws) (fun_ext (λ w. ap (λ z. eqb z q) (k (page_at w))))

  abbrev Frees : List ℕ → ℕ → Type 0
  Frees b g = get b (page Fields.free (page_of g)) ≡ get b₀ (page Fields.free (page_of g))

  abbrev Roomy : ℕ → Type 0
  Roomy g = get b₀ (page Fields.free (page_of g)) + length (blocks_on b₀ ws (page_of g)) ≤ 4096

  -- another page's FREE is as it was
  frees-kept : (b b' : List ℕ) (q : ℕ) → ((x : ℕ) → eqb q x ≡ false → Changes (off_free x) b b') → (gs : List ℕ) → elem q (map page_of gs) ≡ false → All (Frees b) gs → All (Frees b') gs
  frees-kept b b' q k [] e a = tt
  frees-kept b b' q k (g ∷ gs) e a =
      let x = page_of g in
      ((k x (nor_left (eqb q x) (elem q (map page_of gs)) e)).kept (page Fields.free x) refl (rw (eq-eqb x x refl)) ∙ a.0, frees-kept b b' q k gs (nor_right (eqb q x) (elem q (map page_of gs)) e) a.1)

  settle-changes : (gs : List ℕ) (b : List ℕ) → ((x : ℕ) → get b (page first x) ≡ get b₀ (page first x)) → distinct (map page_of gs) ≡ true → All Roomy gs → All (Frees b) gs
      → Changes in_pages b (settle_chunks b c sh h ws gs).book
  unfolding settle_chunks chunk_back_at
  settle-changes [] b k u r f = changes-none in_pages b
  settle-changes (g ∷ gs) b k u r f =
      let q = page_of g in
      let is = map (index_of sh q) (blocks_on b ws q) in
      let s : every small (map (index_of sh (page_of g)) (blocks_on b ws (page_of g))) ≡ true = unfold blocks_on in on-small b k q ws fine in
      let l : get b (page Fields.free (page_of g)) + length (map (index_of sh (page_of g)) (blocks_on b ws (page_of g))) ≤ 4096 =
      omega (arith, length-map (index_of sh q) (blocks_on b ws q), ap {B = ℕ} length (on_same b k q), f.0, r.0) in
      let b' = (placed true (back b q is) c sh h q).book in
      let ch = returns in_pages c q hc (lets_pages c q) sh few h true b is s l in
      changes_trans in_pages b b' _ ch
      (settle-changes gs b' (λ x. ch.kept (page first x) refl refl ∙ k x) (and_right (not (elem q (map page_of gs))) _ u) r.1
      (frees-kept b b' q (λ x e. returns (off_free x) c q hc (lets_free c q x e) sh few h true b is s l) gs (not-true _ (and_left (not (elem q (map page_of gs))) _ u)) f.1))

-- ---- what the tests say
module _ (n : ℕ) (b : List ℕ) (c : ℕ) (sh : Shape) (few : sh.capacity ≤ 4096) where
  all-fine : (ws : List ℕ) → every (out_at n b c sh) ws ≡ true → every (blocks-fine sh b) ws ≡ true
  unfolding blocks-fine out_at out_in
  all-fine [] e = refl
  all-fine (w ∷ ws) e =
      let o = and_left (out_at n b c sh w) _ e in
      rw (and_left (is_block sh (start_of b w) w) _ (and_right (in_run_of n b sh c w) _ o)) (all-fine ws (and_right (out_at n b c sh w) _ e))

  page_roomy : (m q : ℕ) → page_valid b sh m q ≡ true → get b (page Fields.free q) + m ≤ 4096
  unfolding page_valid header_valid
  page_roomy m q e =
      let p = and_left (header_valid b sh m q) _ e in
      let r = and_right (leb (get b (page Fields.carved q)) sh.capacity) _ p in
      omega (arith, leb-true (get b (page Fields.carved q)) sh.capacity (and_left _ _ p), leb-true (get b (page Fields.free q) + m) (get b (page Fields.carved q)) (and_left _ _ r))

-- ---- the releases
module _ (n : ℕ) (small-arena : n ≤ max_pages) (b : List ℕ) (hb : leb (words n) (length b) ≡ true) (c : ℕ) (hc : ltb c class_rows ≡ true) (sh : Shape) (sd : Sound sh) (h : ℕ) where
  few : sh.capacity ≤ 4096
  few = sd.few

  abbrev q_of : List ℕ → ℕ
  q_of ws = start_of b (first_of ws)

  first-low : (ws : List ℕ) → is_nil ws ≡ false → every (out_at n b c sh) ws ≡ true → q_of ws < n
  first-low [] e o = absurd (true≢false e)
  first-low (w ∷ ws) e o = start_of-out n c sh sd b w (and_left (out_at n b c sh w) _ o)

  -- a run that goes to the arena is one for which the record was tested
  given-fits : (q : ℕ) (is : List ℕ) → q < n → every small is ≡ true → get b (page Fields.free q) + length is ≤ 4096 → (m : ℕ) → length is ≡ m → release_valid n b c sh m q ≡ true
      → (placed false (back b q is) c sh h q).fate ≡ arena_fate → get b (arena holes) ≤ 4096
  unfolding release_valid destination_valid park_at back
  given-fits q is low s l m k f e = by (pushed (set_outs b q 0 is) q is) refl _ refl e
    where
      free_was : get (set_outs b q 0 is) (page Fields.free q) ≡ get b (page Fields.free q)
      free_was = set_outs-kept b q 0 is s (page Fields.free q) refl refl

      room : get (set_outs b q 0 is) (page Fields.free q) + length is ≤ 4096
      room = rw free_was l

      same : (g : Field) → ok g ≡ true → is_out_bit g ≡ false → on_stack g ≡ false → get (pushed (set_outs b q 0 is) q is) g ≡ get b g
      same g o u v = (push-changes (set_outs b q 0 is) q is room).kept g o v ∙ set_outs-kept b q 0 is s g o u

      destination : destination_at (pushed (set_outs b q 0 is) q is) c sh ≡ destination_at b c sh
      destination = rw (same (class Fields.empty_count c) hc refl refl, same (class Fields.cold_count c) hc refl refl, same (class Fields.empty_limit c) hc refl refl, same (class Fields.cold_limit c) hc refl refl)

      free-is : get (pushed (set_outs b q 0 is) q is) (page Fields.free q) ≡ get b (page Fields.free q) + length is
      free-is = free-now (set_outs b q 0 is) q is room (omega (arith, length-set_outs b q 0 is, leb-true (words n) (length b) hb)) ∙ ap (λ x. x + length is) free_was

      by : (d : List ℕ) → d ≡ pushed (set_outs b q 0 is) q is → (t : Bool) → eqb (get d (page Fields.carved q)) (get d (page Fields.free q)) ≡ t
          → (cond t (park_at d c sh h q) (released (relisted d c q) kept_fate)).fate ≡ arena_fate → get b (arena holes) ≤ 4096
      by d z true x y =
          let u : get d (page Fields.free q) ≡ get b (page Fields.free q) + length is = rw z free-is in
          let v : get d (page Fields.carved q) ≡ get b (page Fields.carved q) = rw z (same (page Fields.carved q) refl refl refl) in
          let w : destination_at d c sh ≡ destination_at b c sh = rw z destination in
          let g : is_arena (destination_at b c sh) ≡ true = ap is_arena (sym w) ∙ arena-alone sh (destination_at d c sh) y in
          let a : eqb (get b (page Fields.free q) + m) (get b (page Fields.carved q)) ≡ true = eq-eqb (get b (page Fields.free q) + m) (get b (page Fields.carved q)) (omega (arith, eqb-true (get d (page Fields.carved q)) (get d (page Fields.free q)) x)) in
          give-fits n b sh.pages (rw (a, g) at (and_right (row_valid b c) _ (and_right (page_valid b sh m q) _ (and_right (head_valid n b) _ f))))
      by d z false x y = absurd (omega (arith, y))

  last-keeps : (q : ℕ) (r : Released) → Changes in_pages b r.book → (r.fate ≡ arena_fate → get b (arena holes) ≤ 4096) → Keeps b (last_step sh q r).book
  last-keeps q r k fit =
      by_cases (eqb r.fate arena_fate)
      (λ e. let s = pages-stay b r.book (fit (eqb-true r.fate arena_fate e)) k in
      rw e (changes_trans not_mark b r.book _ s.keeps (given_stays n r.book (rw k.long hb) s.fits q sh.pages).keeps))
      (λ e. rw e (pages-keep b r.book k))

  list-keeps : (ws : List ℕ) → Keeps b (release_blocks n b c sh h ws).book
  unfolding release_blocks release_valid give_back_at
  list-keeps ws =
      let q = q_of ws in
      let is = map (index_of sh q) ws in
      by_cases (is_nil ws) (λ e. rw e (changes-none not_mark b)) λ e₁.
      by_cases (every (of_kind sh.kind) ws) (λ e₂.
      by_cases (eqb (out_fault n b c sh ws) 0) (λ e₃.
      by_cases (every (λ w. eqb (start_of b w) (q_of ws)) ws) (λ e₄.
      by_cases (release_valid n b c sh (length ws) (q_of ws)) (λ e₅.
      let outs = (passed n b c sh ws (eqb-true (out_fault n b c sh ws) 0 e₃)).out in
      let fine = all-fine n b c sh few ws outs in
      let s : every small (map (index_of sh (q_of ws)) ws) ≡ true = rw (filter-all (λ w. eqb (start_of b w) (q_of ws)) ws e₄) at (on-small c hc sh few h ws b fine b (λ x. refl) (q_of ws) ws fine) in
      let l : get b (page Fields.free (q_of ws)) + length (map (index_of sh (q_of ws)) ws) ≤ 4096 = omega (arith, length-map (index_of sh q) ws, page_roomy n b c sh few (length ws) q (and_left (page_valid b sh (length ws) q) _ (and_right (head_valid n b) _ e₅))) in
      rw (e₁, e₂, e₃, e₄, e₅) (last-keeps q (placed false (back b q is) c sh h q) (returns in_pages c q hc (lets_pages c q) sh few h false b is s l)
      (given-fits q is (first-low ws e₁ outs) s l (length ws) (length-map (index_of sh q) ws) e₅)))
      (λ e₅. rw (e₁, e₂, e₃, e₄, e₅) (changes-none not_mark b)))
      (λ e₄. rw (e₁, e₂, e₃, e₄) (changes-none not_mark b)))
      (λ e₃. rw (e₁, e₂, e₃) (changes-none not_mark b)))
      (λ e₂. rw (e₁, e₂) (changes-none not_mark b))

  all_roomy : (ws gs : List ℕ) (fine : every (blocks-fine sh b) ws ≡ true) → every (chunk_fits b ws) gs ≡ true → every (λ g. page_valid b sh (count_of g) (page_of g)) gs ≡ true → All (Roomy c hc sh few h ws b fine) gs
  unfolding chunk_fits
  all_roomy ws [] fine e f = tt
  all_roomy ws (g ∷ gs) fine e f =
      let q = page_of g in
      let m = eqb-true (count_of g) (length (blocks_on b ws q)) (and_right (not (eqb (count_of g) 0)) _ (and_left (chunk_fits b ws g) _ e)) in
      (omega (arith, page_roomy n b c sh few (count_of g) q (and_left (page_valid b sh (count_of g) q) _ f)), all_roomy ws gs fine (and_right (chunk_fits b ws g) _ e) (and_right (page_valid b sh (count_of g) q) _ f))

  all-frees : (ws gs : List ℕ) (fine : every (blocks-fine sh b) ws ≡ true) → All (Frees c hc sh few h ws b fine b) gs
  all-frees ws [] fine = tt
  all-frees ws (g ∷ gs) fine = (refl, all-frees ws gs fine)

  -- the runs that go to the arena are those for which the record was tested (crate chunks)
  gives-tested : sh.pages ≡ 1 → (ws gs fs : List ℕ) → (ltb chunks_max (length gs) || ltb (length fs) (length gs)) ≡ false → every (out_at n b c sh) ws ≡ true → chunks_match b ws gs ≡ true → chunks_valid n b c sh gs ≡ true
      → (let s = settle_chunks b c sh h ws gs in gives_valid n s.book (length s.gives * sh.pages) ≡ true)
  gives-tested one ws gs fs e o m f =
      let a : PassPre n b c sh ws gs = record {
        call = record { class = record { known = ltb-true c class_rows hc; sound = sd; few = small-arena; long = leb-true (words n) (length b) hb }; single = one };
        out = o;
        chunks = ltb-false chunks_max (length gs) (nor_left (ltb chunks_max (length gs)) _ e);
      } in
      let g = (settle-next n b c sh ws gs a m f fs (ltb-false (length fs) (length gs) (nor_right (ltb chunks_max (length gs)) _ e)) h).giving.valid in
      let z = gives_in_lem c hc sh sd h (push_all (cleared b sh ws) sh ws) gs (drop (length gs) fs) in
      let p = gathered n b c sh ws sd one hb o h gs hc m (valid-pages n b c sh gs f) in
      rw (← z, p) at g

  chunks-keep : sh.pages ≡ 1 → (ws gs fs : List ℕ) → Keeps b (release_chunks n b c sh h ws gs fs).book
  unfolding release_chunks chunks_match chunks_valid
  chunks-keep one ws gs fs =
      by_cases (is_nil ws || is_nil gs) (λ e. rw e (changes-none not_mark b)) λ e₁.
      by_cases (ltb chunks_max (length gs) || ltb (length fs) (length gs)) (λ e. rw (e₁, e) (changes-none not_mark b)) λ e₂.
      by_cases (every (of_kind sh.kind) ws && every (of_kind chunk_kind) gs) (λ e₃.
      by_cases (eqb (out_fault n b c sh ws) 0) (λ e₄.
      by_cases (chunks_match b ws gs) (λ e₅.
      by_cases (chunks_valid n b c sh gs) (λ e₆.
      let outs = (passed n b c sh ws (eqb-true (out_fault n b c sh ws) 0 e₄)).out in
      let fine = all-fine n b c sh few ws outs in
      let u = and_left (distinct (map page_of gs)) _ e₅ in
      let fits = and_left (every (chunk_fits b ws) gs) _ (and_right (distinct (map page_of gs)) _ e₅) in
      let valid = and_left (every (λ g. page_valid b sh (count_of g) (page_of g)) gs) _ (and_right (head_valid n b) _ e₆) in
      let s = settle_chunks b c sh h ws gs in
      let k = settle-changes c hc sh few h ws b fine gs b (λ x. refl) u (all_roomy ws gs fine fits valid) (all-frees ws gs fine) in
      rw (e₁, e₂, e₃, e₄, e₅, e₆)
      (changes_trans not_mark b s.book _ (pages-keep b s.book k) (runs-keep n s.book (rw k.long hb) sh.pages one s.gives (gives-tested one ws gs fs e₂ outs e₅ e₆))))
      (λ e₆. rw (e₁, e₂, e₃, e₄, e₅, e₆) (changes-none not_mark b)))
      (λ e₅. rw (e₁, e₂, e₃, e₄, e₅) (changes-none not_mark b)))
      (λ e₄. rw (e₁, e₂, e₃, e₄) (changes-none not_mark b)))
      (λ e₃. rw (e₁, e₂, e₃) (changes-none not_mark b))

-- ---- the direct calls
module _ (n : ℕ) (b : List ℕ) where
  grow-keeps : (h q old new : ℕ) → Keeps b (grow_call n b h q old new).book
  unfolding grow_call grow_valid
  grow-keeps h q old new =
      by_cases (bad_growth old new) (λ e. rw e (changes-none not_mark b)) λ e.
      by_cases (held_direct n b q old) (λ d.
      by_cases (grow_valid n b h (q + old) (new - old))
      (λ f. rw (e, d, f) (step_keeps _ b _ (grown-changes n b h (new - old) (load_arena b) (valid-few n b (and_left (record_valid n b) _ f)) (q + old))))
      (λ f. rw (e, d, f) (changes-none not_mark b)))
      (λ d. rw (e, d) (changes-none not_mark b))

  release-keeps : (q m : ℕ) → Keeps b (release_call n b q m).book
  unfolding release_call give_valid
  release-keeps q m =
      by_cases (bad_run m) (λ e. rw e (changes-none not_mark b)) λ e.
      by_cases (held_direct n b q m) (λ d.
      by_cases (give_valid n b m)
      (λ f. rw (e, d, f) (step_keeps _ b _ (given-changes b q m (few-give m q (load_arena b) (valid-few n b (and_left (record_valid n b) _ f))))))
      (λ f. rw (e, d, f) (changes-none not_mark b)))
      (λ d. rw (e, d) (changes-none not_mark b))

  call-keeps : (h m : ℕ) → Keeps b (commit_call n b h m).book
  unfolding commit_call
  call-keeps h m = by_cases (bad_run m) (λ e. rw e (changes-none not_mark b)) (λ e. rw e (commit-keeps n b h m _))

-- ---- any call
record Named (b : List ℕ) (c many : ℕ) : Type 0 where
  few : get b (arena size) ≤ max_pages
  long : leb (words (get b (arena size))) (length b) ≡ true
  below : c < many

no-fault : (m : ℕ) (x y : Bool) → eqb (cond (eqb (cond (eqb m 0) (cond x 3 0) m) 0) (cond y 4 0) (cond (eqb m 0) (cond x 3 0) m)) 0 ≡ true → (m ≡ 0) × (y ≡ false)
no-fault zero true y e = absurd (false≢true e)
no-fault zero false true e = absurd (false≢true e)
no-fault zero false false e = (refl, refl)
no-fault (suc m) x y e = let z : eqb (suc m) 0 ≡ false = ne_eqb (suc m) 0 (λ d. omega arith) in absurd (false≢true (simp z at e))

named : (b : List ℕ) (h many c : ℕ) → eqb (class_fault b h many c) 0 ≡ true → Named b c many
unfolding class_fault call_fault
named b h many c e =
    let z = no-fault (meta_fault b) (bad_host h) (leb many c) e in
    let s = sound b (meta_fault b) refl z.0 in
    record { few = leb-true (get b (arena size)) max_pages (and_right (leb 1 (get b (arena size))) _ s.sized); long = s.long; below = leb-false many c z.1 }

module _ (low many : ℕ) (top76 : low + many ≤ class_rows) (b : List ℕ) (c h : ℕ) where
  take-leaves : (l : List ℕ) → Clears b (take_on low many b c h l).book
  unfolding take_on
  take-leaves l =
      by_cases (eqb (class_fault b h many c) 0)
      (λ e. let m = named b h many c e in
      rw e (take_clears (get b (arena size)) m.few (low + c) (shape_of (low + c)) (shape-sound (low + c)) b h l (let z = m.below in omega arith) (leb-true _ _ m.long)))
      (λ e. rw e (clears_none b))

  list-leaves : (ws : List ℕ) → Keeps b (Blocks.release_on low many b c h ws).book
  unfolding Blocks.release_on
  list-leaves ws =
      by_cases (eqb (class_fault b h many c) 0)
      (λ e. let m = named b h many c e in
      rw e (list-keeps (get b (arena size)) m.few b m.long (low + c) (lt-ltb (low + c) class_rows (let z = m.below in omega arith)) (shape_of (low + c)) (shape-sound (low + c)) h ws))
      (λ e. rw e (changes-none not_mark b))

group_leaves : (b : List ℕ) (c h : ℕ) (ws gs fs : List ℕ) → Keeps b (chunks_on b c h ws gs fs).book
unfolding chunks_on
group_leaves b c h ws gs fs =
    by_cases (eqb (class_fault b h 64 c) 0)
    (λ e. let m = named b h 64 c e in rw e (chunks-keep (get b (arena size)) m.few b m.long c (lt-ltb c class_rows (let z = m.below in omega arith)) (shape_of c) (shape-sound c) h (small-paged c m.below) ws gs fs))
    (λ e. rw e (changes-none not_mark b))

kept_at : {b b' : List ℕ} → Keeps b b' → (p j : ℕ) → j < 128 → get b' (mark p j) ≡ get b (mark p j)
kept_at k p j l = k.kept (mark p j) (lt-ltb j 128 l) refl

direct-turn : (b : List ℕ) (t : Bool) {A : Type 0} (f : A → List ℕ) (x y : A) → f y ≡ b → Keeps b (f x) → Keeps b (f (cond t x y))
direct-turn b true f x y e k = k
direct-turn b false f x y e k = rw e (changes-none not_mark b)

others_keep : (b : List ℕ) (x : Call) → is_take_call x ≡ false → Keeps b (call b x).book
unfolding call commit_on grow_on Direct.release_on
others_keep b (Calls.take_blocks c h l) t = absurd (true≢false t)
others_keep b (Calls.medium_take_blocks c h l) t = absurd (true≢false t)
others_keep b (Calls.release_blocks c h ws) t = list-leaves 0 64 (omega arith) b c h ws
others_keep b (Calls.medium_release_blocks c h ws) t = list-leaves 64 12 (omega arith) b c h ws
others_keep b (Calls.pooled_take c h l) t = absurd (true≢false t)
others_keep b (Calls.pooled_release c h ws) t = list-leaves class_count class_count (omega arith) b c h ws
others_keep b (Calls.release_bin_chunks c h ws gs fs) t = group_leaves b c h ws gs fs
others_keep b (Calls.commit h m) t = direct-turn b (eqb (call_fault b h) 0) (λ (w : Committed). w.book) _ _ refl (call-keeps (get b (arena size)) b h m)
others_keep b (Calls.grow_frontier h q old new) t = direct-turn b (eqb (call_fault b h) 0) (λ (w : Done). w.book) _ _ refl (grow-keeps (get b (arena size)) b h q old new)
others_keep b (Calls.release h q m) t = direct-turn b (eqb (call_fault b h) 0) (λ (w : Done). w.book) _ _ refl (release-keeps (get b (arena size)) b q m)
others_keep b (Calls.contains o k) t = changes-none not_mark b
others_keep b Calls.report t = changes-none not_mark b

takes-clear : (b : List ℕ) (x : Call) → is_take_call x ≡ true → Clears b (call b x).book
unfolding call
takes-clear b (Calls.take_blocks c h l) t = take-leaves 0 64 (omega arith) b c h l
takes-clear b (Calls.medium_take_blocks c h l) t = take-leaves 64 12 (omega arith) b c h l
takes-clear b (Calls.release_blocks c h ws) t = absurd (false≢true t)
takes-clear b (Calls.medium_release_blocks c h ws) t = absurd (false≢true t)
takes-clear b (Calls.pooled_take c h l) t = take-leaves class_count class_count (omega arith) b c h l
takes-clear b (Calls.pooled_release c h ws) t = absurd (false≢true t)
takes-clear b (Calls.release_bin_chunks c h ws gs fs) t = absurd (false≢true t)
takes-clear b (Calls.commit h m) t = absurd (false≢true t)
takes-clear b (Calls.grow_frontier h q old new) t = absurd (false≢true t)
takes-clear b (Calls.release h q m) t = absurd (false≢true t)
takes-clear b (Calls.contains o k) t = absurd (false≢true t)
takes-clear b Calls.report t = absurd (false≢true t)

any_clears : (b : List ℕ) (x : Call) → Clears b (call b x).book
any_clears b x = by_cases (is_take_call x) (takes-clear b x) (λ t. keeps_clears (others_keep b x t))

-- ---- a history
calls-clear : (xs : List Call) (b : List ℕ) → Clears b (book_from call b xs)
calls-clear [] b = clears_none b
calls-clear (x ∷ xs) b = clears_then (any_clears b x) (calls-clear xs (call b x).book)

-- an opening writes the first words, and no word of marks is one
cleared-past : (b : List ℕ) (k i : ℕ) → k ≤ i → get_or (Open.cleared b k) i 0 ≡ get_or b i 0
unfolding Open.cleared
cleared-past b zero i l = refl
cleared-past b (suc k) i l = get_or-set_other (Open.cleared b k) k i 0 0 (λ e. omega arith) ∙ cleared-past b k i (omega arith)

module _ (n : ℕ) (rows b : List ℕ) where
  opened-leaves : (p j : ℕ) → j < 128 → get (opened n (rules_of rows) b) (mark p j) ≡ get b (mark p j)
  unfolding opened head_words get
  opened-leaves p j l =
      let o = lt-ltb j 128 l in
      let c = Open.cleared b 1376 in
      (ruled-changes (put (put c (arena size) n) (arena format) book_format) (rules_of rows) class_rows (omega arith)).kept (mark p j) o refl
      ∙ get-put_other (put c (arena size) n) (arena format) (mark p j) book_format refl o refl
      ∙ get-put_other c (arena size) (mark p j) n refl o refl
      ∙ cleared-past b 1376 (40144 + 4112 * p + j) (omega arith)

  open_leaves : (p j : ℕ) → j < 128 → get (open_on b n rows).book (mark p j) ≡ get b (mark p j)
  unfolding open_on
  open_leaves p j l = by_cases (eqb (open_fault n rows b) 0) (λ e. rw e (opened-leaves p j l)) (λ e. rw e)

started_clears : (s : Start) → Starts s → (xs : List Call) → Clears (lent s) (book_after s xs)
started_clears s o xs =
    rw (as_opening s o xs).book
    (clears_then (record { left = λ p j l. inl (open_leaves (pages s) (rule_rows s) (lent s) p j l) }) (calls-clear (calls s xs) (open_on (lent s) (pages s) (rule_rows s)).book))

-- a refused one leaves the book as it was lent
from-lent : (b d : List ℕ) → d ≡ b → (xs : List Call) → Clears b (book_from call d xs)
from-lent b d e xs = subst (λ z. Clears b (book_from call z xs)) (sym e) (calls-clear xs b)

history_clears : (s : Start) (xs : List Call) → Clears (lent s) (book_after s xs)
unfolding open_on trace_on
history_clears (opening n rows b) xs =
    by_cases (eqb (open_fault n rows b) 0)
    (λ e. started_clears (opening n rows b) (rw e) xs)
    (λ e. from-lent b (open_on b n rows).book (rw e) xs)
history_clears (trace n b ws bl fl dn) xs =
    by_cases (eqb (length_fault n (length b)) 0)
    (λ e. started_clears (trace n b ws bl fl dn) (opens n [] b (room-plain n b (eqb-true (length_fault n (length b)) 0 e))) xs)
    (λ e. from-lent b (trace_on b n ws bl fl dn).book (rw e) xs)

pub marks_stay : MarksStay
marks_stay = record {
  others = λ b x t. kept_at (others_keep b x t);
  takes = λ b x t. (takes-clear b x t).left;
  opens = open_leaves;
  history = λ s xs. (history_clears s xs).left;
}
