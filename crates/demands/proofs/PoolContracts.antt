-- What a caller sees of the exported functions is what `pool_call` says (specs/PoolContracts).
--     pool-observes-call    of one function
--     pool-in-turn          of calls in turn; mixed-in-turn, behind a start
use Rattle.facts.proofs.Prelude.{ℕ, zero, suc, ◌-◌, ◌≤◌, ◌<◌, arith, Bool, true, false, cond, not, ◌||◌, List, [], ◌∷◌, ◌++◌, map}
use Rattle.facts.proofs.Prelude.{Option, none, some, ◌≡◌, refl, ap, ap₂, ◌∙◌, eqb, ltb, length, get_or, ne_eqb, eqb-false, All, by_cases}
use Rattle.classes.specs.Shape.{shape_of, class_count, pool_id}
use Rattle.classes.specs.declared.Shape.{Shape}
use Rattle.classes.proofs.Shapes.{shape-sound}
use Rattle.fields.specs.Field.{arena, size, class, partial, empty, cold, get}
use Rattle.fields.specs.Ranges.{format_valid, head_valid}
use Rattle.model.specs.Calls.{Call, is_pooled}
use Rattle.model.specs.Page.{word_of}
use Rattle.model.specs.Release.{of_kind}
use Rattle.model.proofs.Pages.{all_append}
use Rattle.arena.specs.Calls.{commit_for}
use Rattle.pages.specs.Stack.{latest, draw}
use Rattle.pages.specs.declared.Park.{Park}
use Rattle.pages.specs.declared.Park.TheVariants.{Empty, Cold}
use Rattle.calls.specs.Take.{Took, took_none, walk, park_valid, fill_from, unlist_spent, took, from_partial, from_park, on_run, take_new, take_blocks, take_call}
use Rattle.calls.specs.Release.{release_blocks}
use Rattle.pool.specs.Stock.{stock_most, blank}
use Rattle.pool.specs.Pool.{PoolCall, PoolAnswer, refused, granted, trimmed}
use Rattle.pool.specs.Pool as Pool
use Rattle.poolcalls.specs.Stock.{count_in, block_in}
use Rattle.poolcalls.specs.Calls.{PoolReply, pool_reply, code_of, block_out, count_valid, top_valid, granted_in, bring_on, took_on, alloc_on, released_on, freed_on, free_on, trim_on}
use Rattle.vigbuso.specs.Faults.{class_fault}
use Rattle.vigbuso.specs.Pool.{pool_on}
use Rattle.refinement.specs.Direct.{Reply}
use Rattle.poolrefinement.specs.Run.{pool_answers_from, book_from}
use Rattle.demands.specs.Contracts.{Observes}
use Rattle.demands.specs.Contracts as Contracts
use Rattle.demands.specs.Mixed.{pool_call}
use Rattle.demands.specs.PoolContracts.{block_observed, free_observed, PoolObserves, alloc, free, trim, heap, PoolInTurn, ends, calls, left_by, MixedInTurn}
use Rattle.demands.proofs.Contracts.{observes_call}
use Rattle.demands.proofs.Starts.{begins}

-- ---- the words that a take answers, on any book: none is 0, since each has its class's kind
abbrev Some : ℕ → Type 0
Some w = 1 ≤ w

record Full (t : Took) : Type 0 where
  words : (i : ℕ) → i < t.count → Some (get_or t.list i 0)

some_at : (s t : List ℕ) (i : ℕ) → All Some s → i < length s → Some (get_or (s ++ t) i 0)
some_at [] t i h l = absurd (omega arith)
some_at (w ∷ s) t zero h l = h.0
some_at (w ∷ s) t (suc i) h l = some_at s t i h.1 (omega arith)

full-none : {b l : List ℕ} {k : ℕ} → Full (took_none b l k)
full-none = record { words = λ i u. absurd (omega arith) }

full-cond : (t : Bool) (x y : Took) → Full x → Full y → Full (cond t x y)
full-cond true x y h g = h
full-cond false x y h g = g

module _ (c : ℕ) (sh : Shape) (kind : 1 ≤ sh.kind) where
  words-some : (q : ℕ) (is : List ℕ) → All Some (map (word_of sh q) is)
  unfolding word_of
  words-some q [] = tt
  words-some q (i ∷ is) = (omega arith, words-some q is)

  fill_some : (k m : ℕ) (b : List ℕ) → All Some (fill_from b c sh k m).blocks
  unfolding fill_from
  fill_some zero m b = tt
  fill_some (suc k) m b =
      let q = get b (class partial c) - 1 in
      by_cases (eqb m 0 || eqb (get b (class partial c)) 0)
      (λ e. rw e tt)
      (λ e.
      let left = m - length (latest b sh q m) in
      let b' = unlist_spent (draw b sh q m) c sh q in
      rw e (all_append Some (fill_from b' c sh k left).blocks (map (word_of sh q) (latest b sh q m)) (fill_some k left b') (words-some q (latest b sh q m))))

  module _ (l : List ℕ) where
    filled-some : (b : List ℕ) → Full (took l (fill_from b c sh sh.batch sh.batch))
    filled-some b = record { words = λ i u. some_at (fill_from b c sh sh.batch sh.batch).blocks _ i (fill_some sh.batch sh.batch b) u }

    run-some : (b : List ℕ) (g : Option ℕ) → Full (on_run b c sh l g)
    unfolding on_run
    run-some b none = full-none
    run-some b (some q) = filled-some _

    module _ (n : ℕ) (b : List ℕ) where
      partial-some : Full (from_partial n b c sh l)
      unfolding from_partial
      partial-some = full-cond (walk n b c sh sh.batch sh.batch (get b (class partial c)) 0) _ _ (filled-some b) full-none

      park-some : (k : Park) → Full (from_park n b c sh k l)
      unfolding from_park
      park-some k = full-cond (park_valid n b c sh k) _ _ (filled-some _) full-none

      new-some : (h : ℕ) → Full (take_new n b c sh h l)
      unfolding take_new
      new-some h = let g = commit_for n b h sh.pages (suc c) in full-cond (eqb g.code 0) _ _ (run-some g.book g.run) full-none

      take-some : (h : ℕ) → Full (take_call n b c sh h l)
      unfolding take_call take_blocks
      take-some h =
          full-cond (ltb (length l) sh.batch) _ _ full-none
          (full-cond (not (head_valid n b)) _ _ full-none
          (full-cond (not (eqb (get b (class partial c)) 0)) _ _ partial-some
          (full-cond (not (eqb (get b (class empty c)) 0)) _ _ (park-some Empty)
          (full-cond (not (eqb (get b (class cold c)) 0)) _ _ (park-some Cold) (new-some h)))))

-- ---- an answer is read back from its number and the out-parameter
abbrev Reads : (ℕ → ℕ → PoolAnswer) → PoolAnswer → Type 0
Reads f a = (old : ℕ) → f (code_of a) (block_out a old) ≡ a

reads_cond : (f : ℕ → ℕ → PoolAnswer) (t : Bool) (x y : PoolReply) → (t ≡ true → Reads f x.answer) → (t ≡ false → Reads f y.answer) → Reads f (cond t x y).answer
reads_cond f true x y h g = h refl
reads_cond f false x y h g = g refl

-- a free's out-parameter is none
abbrev bare_observed : ℕ → ℕ → PoolAnswer
bare_observed r w = free_observed r

refused-read : (got : ℕ → PoolAnswer) (k : ℕ) → eqb k 0 ≡ false → Reads (block_observed got) (refused k)
refused-read got k e old = rw e

free-refused : (k : ℕ) → eqb k 0 ≡ false → Reads bare_observed (refused k)
free-refused k e old = rw e

granted-read : (w : ℕ) → Some w → Reads (block_observed granted) (granted w)
granted-read w h old = rw (ne_eqb w 0 (λ z. omega arith))

trimmed-read : (w : ℕ) → Some w → Reads (block_observed trimmed) (trimmed w)
trimmed-read w h old = rw (ne_eqb w 0 (λ z. omega arith))

block-some : (b : List ℕ) (c k : ℕ) → Some (block_in b c k)
block-some b c k = omega (arith, (shape-sound (pool_id c)).named)

module _ (n : ℕ) (b : List ℕ) (c h : ℕ) where
  alloc-read : Reads (block_observed granted) (alloc_on n b c h).answer
  unfolding alloc_on took_on bring_on
  alloc-read =
      let t = take_call n b (pool_id c) (shape_of (pool_id c)) h blank in
      reads_cond (block_observed granted) (eqb (count_in b c) 0) _ _
      (λ e. reads_cond (block_observed granted) (eqb t.code 0) _ _
      (λ u. reads_cond (block_observed granted) (eqb t.count 0) _ _ (λ v old. refl)
      (λ v. granted-read (get_or t.list (t.count - 1) 0) ((take-some (pool_id c) (shape_of (pool_id c)) (shape-sound (pool_id c)).named blank n b h).words (t.count - 1) (less t.count (eqb-false t.count 0 v)))))
      (refused-read granted t.code))
      (λ e. reads_cond (block_observed granted) (top_valid n b c) _ _ (λ u. granted-read (block_in b c (count_in b c - 1)) (block-some b c (count_in b c - 1))) (λ u. refused-read granted 13 refl))
    where
      less : (m : ℕ) → (m ≡ 0 → ⊥) → m - 1 < m
      less zero d = absurd (d refl)
      less (suc m) d = omega arith

  trim-read : Reads (block_observed trimmed) (trim_on n b c h).answer
  unfolding trim_on released_on
  trim-read =
      let w = block_in b c (count_in b c - 1) in
      let z = release_blocks n b (pool_id c) (shape_of (pool_id c)) h (w ∷ []) in
      reads_cond (block_observed trimmed) (eqb (count_in b c) 0) _ _
      (λ e. reads_cond (block_observed trimmed) (format_valid b) _ _ (λ u old. refl) (λ u. refused-read trimmed 13 refl))
      (λ e. reads_cond (block_observed trimmed) (top_valid n b c) _ _
      (λ u. reads_cond (block_observed trimmed) (eqb z.code 0) _ _ (λ v. trimmed-read w (block-some b c (count_in b c - 1))) (refused-read trimmed z.code))
      (λ u. refused-read trimmed 13 refl))

  free-read : (w : ℕ) → Reads bare_observed (free_on n b c h w).answer
  unfolding free_on freed_on released_on
  free-read w =
      let z = release_blocks n b (pool_id c) (shape_of (pool_id c)) h (w ∷ []) in
      reads_cond bare_observed (not (of_kind (shape_of (pool_id c)).kind w)) _ _ (λ e. free-refused 9 refl)
      (λ e. reads_cond bare_observed (not (granted_in n b c w)) _ _ (λ u. free-refused 10 refl)
      (λ u. reads_cond bare_observed (ltb (count_in b c) (stock_most c)) _ _
      (λ v. reads_cond bare_observed (format_valid b) _ _ (λ x old. refl) (λ x. free-refused 13 refl))
      (λ v. reads_cond bare_observed (count_valid b c) _ _
      (λ x. reads_cond bare_observed (eqb z.code 0) _ _ (λ y old. refl) (free-refused z.code))
      (λ x. free-refused 13 refl))))

-- numbers 1 to 4 come first
module _ (b : List ℕ) (c h : ℕ) where
  abbrev fault : ℕ
  fault = class_fault b h class_count c

  abbrev n : ℕ
  n = get b (arena size)

  alloc-reply : Reads (block_observed granted) (pool_on b c (Pool.alloc h)).answer
  unfolding pool_on
  alloc-reply = reads_cond (block_observed granted) (eqb fault 0) _ _ (λ e. alloc-read n b c h) (refused-read granted fault)

  trim-reply : Reads (block_observed trimmed) (pool_on b c (Pool.trim h)).answer
  unfolding pool_on
  trim-reply = reads_cond (block_observed trimmed) (eqb fault 0) _ _ (λ e. trim-read n b c h) (refused-read trimmed fault)

  free-reply : (w : ℕ) → Reads bare_observed (pool_on b c (Pool.free h w)).answer
  unfolding pool_on
  free-reply w = reads_cond bare_observed (eqb fault 0) _ _ (λ e. free-read n b c h w) (free-refused fault)

-- no function has a pooled call
plain : {b : List ℕ} {x : Call} {w : Reply} → Observes b x w → is_pooled x ≡ false
plain (Contracts.take_blocks c h r k k' v v' b' l l' e) = refl
plain (Contracts.medium_take_blocks c h r k k' v v' b' l l' e) = refl
plain (Contracts.release_blocks c h r f f' b' ws e) = refl
plain (Contracts.medium_release_blocks c h r f f' b' ws e) = refl
plain (Contracts.release_bin_chunks c h r b' ws gs fs fs' e) = refl
plain (Contracts.commit h m r q q' f f' b' e) = refl
plain (Contracts.grow_frontier h q old new r g g' b' e) = refl
plain (Contracts.release h q m r b' e) = refl
plain (Contracts.contains o k r e) = refl
plain (Contracts.report r fs fs' e) = refl

-- ---- the calls
pub pool_observes_call : {b : List ℕ} {x : PoolCall} {s : PoolReply} → PoolObserves b x s → s ≡ pool_call b x
unfolding pool_call
pool_observes_call {b} (alloc c h r w w' b' e) = rw (e.code, e.book, e.block) (ap (λ a. pool_reply a (pool_on b c (Pool.alloc h)).book) (alloc-reply b c h w))
pool_observes_call {b} (free c h w r b' e) = rw (e.code, e.book) (ap (λ a. pool_reply a (pool_on b c (Pool.free h w)).book) (free-reply b c h w 0))
pool_observes_call {b} (trim c h r w w' b' e) = rw (e.code, e.book, e.block) (ap (λ a. pool_reply a (pool_on b c (Pool.trim h)).book) (trim-reply b c h w))
pool_observes_call (heap x w s) = rw (observes_call s, plain s)

pub pool_in_turn : {b : List ℕ} {xs : List PoolCall} {ss : List PoolReply} → PoolInTurn b xs ss → map (λ s. s.answer) ss ≡ pool_answers_from pool_call b xs
pool_in_turn (ends b) = refl
pool_in_turn (calls b x s xs ss p t) =
    ap₂ (λ (a : PoolAnswer) (zs : List PoolAnswer). a ∷ zs) (ap (λ (v : PoolReply). v.answer) (pool_observes_call p)) (pool_in_turn t ∙ ap (λ (v : PoolReply). pool_answers_from pool_call v.book xs) (pool_observes_call p))

in_turn_book : {b : List ℕ} {xs : List PoolCall} {ss : List PoolReply} → PoolInTurn b xs ss → left_by b ss ≡ book_from pool_call b xs
in_turn_book (ends b) = refl
in_turn_book (calls b x s xs ss p t) = in_turn_book t ∙ ap (λ (v : PoolReply). book_from pool_call v.book xs) (pool_observes_call p)

pub mixed_in_turn : MixedInTurn
mixed_in_turn s b' xs ss d t =
    let g = begins d in
    record {
      starts = g.0;
      answers = pool_in_turn t ∙ ap (λ (m : List ℕ). pool_answers_from pool_call m xs) g.1;
      book = in_turn_book t ∙ ap (λ (m : List ℕ). book_from pool_call m xs) g.1;
    }
