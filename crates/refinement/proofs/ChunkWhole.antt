-- A group release, whole: on a book that stands for a reached heap it has the model's answer, is never refused by number 13, and
-- leaves a book that stands for the model's next heap. n is at most the longest arena, c a small class.
--     chunks-valid     number 13's tests pass
--     chunks-tests     refused with one number on two books and in the model, or passed on all three
--     chunks-ends      refused by both with one number, or settled alike
--     chunks-whole     every group release, refused or not, of any fates, the gives included
--     chunks-after     the same after any history
use Rattle.facts.proofs.Prelude.{ℕ, ◌+◌, ◌≤◌, arith, true, false, not, ◌&&◌, ◌||◌, false≢true, List, [], ◌∷◌, ◌++◌, map, Option, none, some, ◌≡◌, refl, sym, ap, ◌∙◌, subst}
use Rattle.facts.proofs.Prelude.{eqb, ltb, length, drop, length-append, eqb-true, eq-eqb, not-false, is_nil, every, All, distinct, by_cases, bool_eq, and_left, and_right, lt-ltb, ltb-true}
use Rattle.words.specs.Word.{chunk_kind, count_of, page_of}
use Rattle.classes.specs.Shape.{small_shape, shape_of, class_count}
use Rattle.rules.specs.declared.Limits.{Limits}
use Rattle.rules.specs.Rules.{Rules}
use Rattle.fields.specs.Field.{page, free, carved, get}
use Rattle.fields.specs.Ranges.{max_pages}
use Rattle.fields.proofs.Changes.{changes-none}
use Rattle.model.specs.Calls as Calls
use Rattle.model.specs.Calls.{Call, fates}
use Rattle.model.specs.Page.{is_medium, none_out, reused, returned}
use Rattle.model.specs.Class.{Class, Result, Ask, done, refuse, thawed}
use Rattle.model.specs.Release.{Site, locate, of_kind}
use Rattle.model.specs.Chunks as Model
use Rattle.model.specs.Chunks.{starts_at, fits_on, chunked, chunks_max, AllSettled, answer}
use Rattle.model.specs.Heap.{Heap, class_call, held_pages}
use Rattle.model.specs.History.{heap_after}
use Rattle.model.proofs.Find.{page_in, located-first}
use Rattle.calls.specs.Out.{out_at}
use Rattle.calls.specs.Release.{page_valid}
use Rattle.calls.specs.Chunks.{blocks_on, returns_all, runs_given, pages_given, chunks_valid, settle_chunks, give_runs, ChunksReleased, chunks_none, release_chunks}
use Rattle.refinement.specs.way.Represents.{Represents}
use Rattle.refinement.specs.Direct.{Agrees}
use Rattle.refinement.specs.Releases.{chunks_reply}
use Rattle.refinement.proofs.Basics.{setting_kept}
use Rattle.refinement.proofs.Frames.{of_class}
use Rattle.refinement.proofs.ArenaReached.{Reached, reached-after}
use Rattle.refinement.proofs.ArenaValid.{give-passes, head-passes}
use Rattle.refinement.proofs.Draw.{free-length}
use Rattle.refinement.proofs.Book.{Stands, stands, setting, state-rep}
use Rattle.refinement.proofs.Found.{Located, located, located-passes, At, found_at, placed-rep}
use Rattle.refinement.proofs.Returned.{none-count, return_only, return_rep, return_room}
use Rattle.refinement.proofs.Release.{length-firsts}
use Rattle.refinement.proofs.ReleaseValid.{row-valid, page-valid}
use Rattle.refinement.proofs.ReleaseGives.{Acts, all_held}
use Rattle.refinement.proofs.ChunkTests.{same_blocks, chunks-same}
use Rattle.refinement.proofs.Chunks.{every-blocks, once-blocks, Waits, ChunksRep, chunks-rep}
use Rattle.refinement.proofs.ArenaHolders.{small-class}
use Rattle.refinement.proofs.Releases.{Refusal, tested, past_ten, Ends, denied, did, ends_agree}

pub small-shape : (c : ℕ) → ltb c 64 ≡ true → is_medium (shape_of c) ≡ false
unfolding shape_of small_shape
small-shape c e = rw (lt-ltb c class_count (omega (arith, ltb-true c 64 e)), e)

-- what a release comes to that passes
abbrev pub chunks_act : List ℕ → ℕ → ℕ → List ℕ → List ℕ → List ℕ → ChunksReleased
chunks_act b c h ws gs fs =
    let w = settle_chunks b c (shape_of c) h ws gs in
    record { code = 0; book = give_runs w.book (shape_of c).pages w.gives; fates = w.fates ++ drop (length gs) fs }

abbrev pub chunks_result : List ℕ → List ℕ → AllSettled → Result
chunks_result gs fs x = record { class = x.class; answer = fates (x.fates ++ drop (length gs) fs); gives = x.gives }

module _ {n : ℕ} {b : List ℕ} {c : ℕ} {t : Class} (hn : n ≤ max_pages) (B : Stands n b c t) (hs : ltb c 64 ≡ true) where
  -- ---- the list has passed number 10, and the chunks number 11
  module _ (ws : List ℕ) (k : every (of_kind (shape_of c).kind) ws ≡ true) (o : every (out_at n b c (shape_of c)) ws ≡ true) (once : distinct ws ≡ true) where
    -- a chunk that fits
    record Fits (g : ℕ) : Type 0 where
      site : Site
      found : page_in (locate (starts_at (page_of g)) t) ≡ some site.page
      at : At n b c (shape_of c) [] site
      here : site.page.first ≡ page_of g
      number : count_of g ≡ length (Model.blocks_on (shape_of c) ws site.page)

    fits-at : (g : ℕ) (x : Option Site) → locate (starts_at (page_of g)) t ≡ x → Located (starts_at (page_of g)) t x → fits_on (shape_of c) ws g x ≡ true → Fits g
    fits-at g none i y e = absurd (false≢true e)
    fits-at g (some x) i y e = record {
      site = x;
      found = ap page_in i;
      at = found_at {zs = []} (state-rep B) y;
      here = eqb-true x.page.first (page_of g) (located-passes y);
      number = eqb-true (count_of g) (length (Model.blocks_on (shape_of c) ws x.page)) (and_right (not (eqb (count_of g) 0)) (eqb (count_of g) (length (Model.blocks_on (shape_of c) ws x.page))) e);
    }

    module _ (g : ℕ) (f : Fits g) where
      room : length f.site.page.free + count_of g ≤ f.site.page.carved
      room =
          omega (arith, f.number, return_room (setting B) hn (placed-rep f.at.placed) (Model.blocks_on (shape_of c) ws f.site.page) (every-blocks (shape_of c) ws f.site.page) (once-blocks (shape_of c) ws once f.site.page))

      valid : page_valid b (shape_of c) (count_of g) (page_of g) ≡ true
      valid = subst (λ (q : ℕ). page_valid b (shape_of c) (count_of g) q ≡ true) f.here (page-valid (setting B) (count_of g) room f.at.placed)

      all_back : returns_all b g ≡ none_out (shape_of c) (returned (Model.blocks_on (shape_of c) ws f.site.page) f.site.page)
      unfolding returned
      all_back =
          let p = f.site.page in
          let bs = Model.blocks_on (shape_of c) ws f.site.page in
          let r = placed-rep f.at.placed in
          let outs = every-blocks (shape_of c) ws f.site.page in
          let few = once-blocks (shape_of c) ws once f.site.page in
          let s₁ = setting_kept _ (return_only (setting B) hn r bs outs few).long (setting B) in
          let h : get b (page free (page_of g)) ≡ length f.site.page.free = ap (λ q. get b (page free q)) (sym f.here) ∙ r.holds.height ∙ sym (free-length r) in
          let v : get b (page carved (page_of g)) ≡ f.site.page.carved = ap (λ q. get b (page carved q)) (sym f.here) ∙ r.holds.ready in
          rw (h, v) (turned (length p.free) (count_of g) p.carved (length (bs ++ p.free)) (omega (arith, length-append bs p.free, f.number))
          ∙ sym (none-count s₁ hn (return_rep (setting B) hn r bs outs few)))
        where
          turned : (a d e m : ℕ) → a + d ≡ m → eqb (a + d) e ≡ eqb e m
          turned a d e m z =
              bool_eq (eqb (a + d) e) (eqb e m) (λ u. eq-eqb e m (omega (arith, eqb-true (a + d) e u))) (λ u. eq-eqb (a + d) e (omega (arith, eqb-true e m u)))

      waits : Waits (shape_of c) ws b t g
      waits = record {
        page = f.site.page;
        found = sym (located-first (starts_at (page_of g)) t) ∙ f.found;
        blocks = same_blocks (setting B) hn (placed-rep f.at.placed) ws k o ∙ ap (blocks_on b ws) f.here;
        all = all_back;
      }

    fitting : (g : ℕ) → Model.chunk_fits (shape_of c) t ws g ≡ true → Fits g
    unfolding Model.chunk_fits
    fitting g e = fits-at g (locate (starts_at (page_of g)) t) refl (located (starts_at (page_of g)) t) e

    all_valid : (gs : List ℕ) → every (Model.chunk_fits (shape_of c) t ws) gs ≡ true → every (λ g. page_valid b (shape_of c) (count_of g) (page_of g)) gs ≡ true
    all_valid [] e = refl
    all_valid (g ∷ gs) e =
        let fit = Model.chunk_fits (shape_of c) t ws in
        rw (valid g (fitting g (and_left (fit g) (every fit gs) e)), all_valid gs (and_right (fit g) (every fit gs) e))

    pub all_wait : (gs : List ℕ) → every (Model.chunk_fits (shape_of c) t ws) gs ≡ true → All (Waits (shape_of c) ws b t) gs
    all_wait [] e = tt
    all_wait (g ∷ gs) e =
        let fit = Model.chunk_fits (shape_of c) t ws in
        (waits g (fitting g (and_left (fit g) (every fit gs) e)), all_wait gs (and_right (fit g) (every fit gs) e))

    module _ (h : ℕ) (gs : List ℕ) (fits : every (Model.chunk_fits (shape_of c) t ws) gs ≡ true) (apart : distinct (map page_of gs) ≡ true) where
      pub all_settled : ChunksRep n c (shape_of c) b [] (settle_chunks b c (shape_of c) h ws gs) (Model.settle_chunks (shape_of c) (B.heap.rules c) h ws t gs)
          (runs_given b (shape_of c) (B.heap.rules c) gs (length t.empty) (length t.cold))
      all_settled = chunks-rep hn (B.heap.rules c) (small-shape c hs) h ws once b (setting B) (B.represents.rules c B.row) gs apart b t [] (changes-none (of_class b c) b) (state-rep B) (all_wait gs fits)

      pub chunks-acts : (fs : List ℕ)
          → (let w = settle_chunks b c (shape_of c) h ws gs in Acts n b c w.book w.gives (chunks_result gs fs (Model.settle_chunks (shape_of c) (B.heap.rules c) h ws t gs)))
      chunks-acts fs = let w = all_settled in record { pages = w.pages; rep = w.rep; only = w.only; gives = w.gives; named = w.named }

      given-held : pages_given b c (shape_of c) gs ≤ held_pages n B.heap
      unfolding chunks-acts
      given-held =
          let r = state-rep B in
          let w = all_settled in
          rw ((B.represents.rules c B.row).same, r.store.number, length-firsts (reused (shape_of c)) t.empty, r.beside.number, length-firsts (thawed (shape_of c)) t.cold, w.number)
          (all_held B (chunks-acts []))

      pub chunks-valid : chunks_valid n b c (shape_of c) gs ≡ true
      unfolding chunks_valid
      chunks-valid =
          rw (
            head-passes n b B.heap B.represents.arena B.reached,
            all_valid gs fits,
            row-valid (setting B) (state-rep B) (B.represents.rules c B.row),
            give-passes n b B.heap B.represents.arena B.reached (pages_given b c (shape_of c) gs) given-held,
          )
          (by_cases (eqb (pages_given b c (shape_of c) gs) 0) (λ e. rw e) (λ e. rw e))

-- ---- the tests, in their order
module _ {n c : ℕ} {t : Class} (hn : n ≤ max_pages) (h : ℕ) {b b' : List ℕ} (B : Stands n b c t) (B' : Stands n b' c t) (hs : ltb c 64 ≡ true) (lim : Limits) (ws gs fs : List ℕ)
    (P : ChunksReleased → ChunksReleased → Ask → Type 0) (none : (k : ℕ) → Refusal k → P (chunks_none b fs k) (chunks_none b' fs k) (refuse t k)) where
  pub chunks-tests : (every (of_kind (shape_of c).kind) ws ≡ true → every (out_at n b c (shape_of c)) ws ≡ true → distinct ws ≡ true → every (Model.chunk_fits (shape_of c) t ws) gs ≡ true → distinct (map page_of gs) ≡ true
      → P (chunks_act b c h ws gs fs) (chunks_act b' c h ws gs fs) (done (chunks_result gs fs (Model.settle_chunks (shape_of c) lim h ws t gs))))
      → P (release_chunks n b c (shape_of c) h ws gs fs) (release_chunks n b' c (shape_of c) h ws gs fs) (Model.release_chunks (shape_of c) lim h t ws gs fs)
  unfolding release_chunks Model.release_chunks
  chunks-tests f =
      let k₁ = every (of_kind (shape_of c).kind) ws in
      let k₂ = every (of_kind chunk_kind) gs in
      let t₁ = distinct (map page_of gs) in
      let t₂ = every (Model.chunk_fits (shape_of c) t ws) gs in
      let t₃ = every (chunked (shape_of c) t gs) ws in
      tested hn B B' (λ b. chunks_none b fs) P none (is_nil ws || is_nil gs) 7 refl
      (λ e. tested hn B B' (λ b. chunks_none b fs) P none (ltb chunks_max (length gs) || ltb (length fs) (length gs)) 8 refl
      (λ e. tested hn B B' (λ b. chunks_none b fs) P none (not (k₁ && k₂)) 9 refl
      (λ e. let k = and_left k₁ k₂ (not-false (k₁ && k₂) e) in
      past_ten hn B B' (λ b. chunks_none b fs) P none ws k
      (λ o o' once. rw (chunks-same (setting B) hn t (state-rep B) ws k o gs, chunks-same (setting B') hn t (state-rep B') ws k o' gs)
      (tested hn B B' (λ b. chunks_none b fs) P none (not (t₁ && (t₂ && t₃))) 11 refl
      (λ e. let u = not-false (t₁ && (t₂ && t₃)) e in
      let fits = and_left t₂ t₃ (and_right t₁ (t₂ && t₃) u) in
      let apart = and_left t₁ (t₂ && t₃) u in
      rw (chunks-valid hn B hs ws k o once h gs fits apart, chunks-valid hn B' hs ws k o' once h gs fits apart) (f k o once fits apart)))))))

-- ---- the whole call
module _ (n : ℕ) (hn : n ≤ max_pages) (b : List ℕ) (H : Heap) (R : Represents n b H) (ok : Reached n H) (c : ℕ) (hs : ltb c 64 ≡ true) (h : ℕ) (ws gs fs : List ℕ) where
  abbrev B : Stands n b c (H.classes c)
  B = stands R ok (small-class c hs) refl

  pub chunks-ends : Ends n b c (H.classes c) (chunks_reply (release_chunks n b c (shape_of c) h ws gs fs)) (Model.release_chunks (shape_of c) (H.rules c) h (H.classes c) ws gs fs)
  chunks-ends =
      chunks-tests hn h B B hs (H.rules c) ws gs fs (λ w w' q. Ends n b c (H.classes c) (chunks_reply w) q) (λ k u. denied k (fates fs) u)
      (λ k o once fits apart. rw (all_settled hn B hs ws k o once h gs fits apart).fates (did (chunks-acts hn B hs ws k o once h gs fits apart fs)))

  pub chunks-whole : Agrees (Represents n) (chunks_reply (release_chunks n b c (shape_of c) h ws gs fs)) (class_call n H c (Calls.give_chunks h ws gs fs))
  unfolding class_call answer
  chunks-whole = ends_agree B h chunks-ends

-- after every history on an arena of n pages
pub chunks-after : (n : ℕ) → n ≤ max_pages → (rules : Rules) (xs : List Call) (b : List ℕ) → Represents n b (heap_after n rules xs) → (c : ℕ) → ltb c 64 ≡ true → (h : ℕ) (ws gs fs : List ℕ)
    → Agrees (Represents n) (chunks_reply (release_chunks n b c (shape_of c) h ws gs fs)) (class_call n (heap_after n rules xs) c (Calls.give_chunks h ws gs fs))
chunks-after n hn rules xs b R c hs h ws gs fs = chunks-whole n hn b (heap_after n rules xs) R (reached-after n rules xs) c hs h ws gs fs
