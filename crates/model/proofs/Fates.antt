-- The fates that a class's call answers tell how many runs it gave to the arena.
use Rattle.facts.proofs.Prelude.{ℕ, ◌+◌, ◌%◌, arith, Bool, true, false, cond, List, [], ◌∷◌, ◌++◌, Option, none, some, ◌≡◌}
use Rattle.facts.proofs.Prelude.{refl, sym, length, take, drop, length-append, take-append_seam, total, every, by_cases}
use Rattle.words.specs.Word.{page_of}
use Rattle.classes.specs.declared.Shape.{Shape}
use Rattle.rules.specs.declared.Limits.{Limits}
use Rattle.model.specs.declared.Destination.{Destination}
use Rattle.model.specs.declared.Destination.TheVariants.{ToEmpty, ToCold, ToArena}
use Rattle.model.specs.Calls as Calls
use Rattle.model.specs.Calls.{Request}
use Rattle.model.specs.Page.{Page, is_out, is_medium}
use Rattle.model.specs.Class.{Class, Cold, Result, Ask, done, asks, serve, refuse, served, on_run, take_from}
use Rattle.model.specs.Release.{locate, Site, Settled, park_in, destination_in, park, set_retired, settle, on_page, release_list}
use Rattle.model.specs.Chunks.{starts_at, settle_chunk, settle_chunks, release_chunks, answer}
use Rattle.model.specs.Held.{to_arena, runs_back}

-- ---- a settled page
record Fated (b : Settled) : Type 0 where
  fated : to_arena b.fate ≡ length b.gives

fated-cond : (t : Bool) (x y : Settled) → Fated x → Fated y → Fated (cond t x y)
fated-cond true x y p q = p
fated-cond false x y p q = q

-- ---- an answer
record Observed (r : Request) (x : Result) : Type 0 where
  observed : runs_back r x.answer ≡ length x.gives

data Tells (r : Request) : Ask → Type 0 where
  tells-done : {x : Result} → Observed r x → Tells r (done x)
  tells-asks : {n : ℕ} {k : Option ℕ → Result} → ((g : Option ℕ) → Observed r (k g)) → Tells r (asks n k)

tells-cond : (r : Request) (b : Bool) (x y : Ask) → Tells r x → Tells r y → Tells r (cond b x y)
tells-cond r true x y p q = p
tells-cond r false x y p q = q

tells-refuse : (r : Request) (s : Class) (n : ℕ) → Tells r (refuse s n)
tells-refuse r s n = tells-done (record { observed = refl })

module _ (sh : Shape) (lim : Limits) (h : ℕ) where
  parked-fated : (s : Class) (p : Page) (t : Destination) → Fated (park_in sh h s p t)
  parked-fated s p ToEmpty = record { fated = refl }
  parked-fated s p ToCold = record { fated = by_cases (is_medium sh) (λ e. rw e refl) (λ e. rw e refl) }
  parked-fated s p ToArena = record { fated = refl }

  park-fated : (s : Class) (p : Page) → Fated (park sh lim h s p)
  unfolding park
  park-fated s p = parked-fated s p (destination_in sh lim s)

  retired-fated : (b : Settled) → Fated b → Fated (set_retired b)
  retired-fated b k = record { fated = rw (again b.fate) k.fated }
    where
      again : (v : ℕ) → (4 + v) % 4 ≡ v % 4
      again v = omega arith

  stay-fated : (s : Class) → Fated (record { class = s; fate = 0; gives = [] })
  stay-fated s = record { fated = refl }

  settle-fated : (t : Bool) (ws : List ℕ) (x : Site) → Fated (settle sh lim h t ws x)
  unfolding settle
  settle-fated t ws x = search (fated-cond, retired-fated, park-fated, stay-fated)

  chunk-fated : (s : Class) (ws : List ℕ) (o : Option Site) → Fated (settle_chunk sh lim h s ws o)
  unfolding settle_chunk
  chunk-fated s ws none = stay-fated s
  chunk-fated s ws (some x) = settle-fated true _ x

  pub record AllFated (ws gs : List ℕ) (s : Class) : Type 0 where
    pub many : length (settle_chunks sh lim h ws s gs).fates ≡ length gs
    fates : total to_arena (settle_chunks sh lim h ws s gs).fates ≡ length (settle_chunks sh lim h ws s gs).gives

  pub chunks-fated : (ws gs : List ℕ) (s : Class) → AllFated ws gs s
  unfolding settle_chunks
  chunks-fated ws [] s = record { many = refl; fates = refl }
  chunks-fated ws (g ∷ gs) s =
      let o = locate (starts_at (page_of g)) s in
      let ih = chunks-fated ws gs (settle_chunk sh lim h s ws o).class in
      record { many = omega (arith, ih.many); fates = rw length-append (omega (arith, (chunk-fated s ws o).fated, ih.fates)) }

  take-tells : (l : List ℕ) (ps es : List Page) (cs : List Cold) (fs : List Page) → Tells (Calls.take h l) (take_from sh l ps es cs fs)
  unfolding take_from served on_run
  take-tells l (p ∷ ps) es cs fs = tells-done (record { observed = refl })
  take-tells l [] (e ∷ es) cs fs = tells-done (record { observed = refl })
  take-tells l [] [] (c ∷ cs) fs = tells-done (record { observed = refl })
  take-tells l [] [] [] fs = tells-asks given-observed
    where
      given-observed : (g : Option ℕ) → Observed (Calls.take h l) (on_run sh l fs g)
      given-observed none = record { observed = refl }
      given-observed (some q) = record { observed = refl }

  page-tells : (s : Class) (ws : List ℕ) (o : Option Site) → Tells (Calls.give_back h ws) (on_page sh lim h s ws o)
  unfolding on_page
  page-tells s ws none = tells-refuse _ s 10
  page-tells s ws (some x) =
      tells-cond _ (every (λ w. is_out sh w x.page) ws) _ _
      (tells-done (record { observed = omega (arith, (settle-fated false ws x).fated) }))
      (tells-refuse _ s 11)

  chunks_tell : (s : Class) (ws gs fs : List ℕ)
      → Tells (Calls.give_chunks h ws gs fs) (let b = settle_chunks sh lim h ws s gs in done (record { class = b.class; answer = Calls.fates (b.fates ++ drop (length gs) fs); gives = b.gives }))
  chunks_tell s ws gs fs =
      let k = chunks-fated ws gs s in
      let b = settle_chunks sh lim h ws s gs in
      let t : total to_arena (take (length gs) (b.fates ++ drop (length gs) fs)) ≡ length b.gives = rw (sym k.many, take-append_seam) k.fates in
      tells-done (record { observed = t })

answer-tells : (sh : Shape) (lim : Limits) (s : Class) (r : Request) → Tells r (answer sh lim s r)
unfolding answer release_list release_chunks
answer-tells sh lim s (Calls.take h l) = search (tells-cond, tells-refuse, take-tells sh lim h)
answer-tells sh lim s (Calls.give_back h ws) = search (tells-cond, tells-refuse, page-tells sh lim h) depth 9
answer-tells sh lim s (Calls.give_chunks h ws gs fs) = search (tells-cond, tells-refuse, chunks_tell sh lim h) depth 9

pub runs-observed : (sh : Shape) (lim : Limits) (s : Class) (r : Request) (g : Option ℕ) → runs_back r (serve (answer sh lim s r) g).answer ≡ length (serve (answer sh lim s r) g).gives
runs-observed sh lim s r g = go (answer sh lim s r) (answer-tells sh lim s r)
  where
    go : (q : Ask) → Tells r q → runs_back r (serve q g).answer ≡ length (serve q g).gives
    go q (tells-done k) = k.observed
    go q (tells-asks k) = (k g).observed
