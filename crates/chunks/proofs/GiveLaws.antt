-- Runs given one after another.
--     given-length, given-frontier     the book's length and the frontier stay
--     given-valid      a give of m pages leaves a book that is valid for the rest
--     gives-append     runs of two lists
use Rattle.std.proofs.lemmas.List.{nil_from_length}
use Rattle.facts.proofs.Prelude.{ℕ, suc, ◌+◌, ◌-◌, ◌*◌, ◌^◌, ◌≤◌, ◌<◌, arith, true, false, List, [], ◌∷◌, ◌++◌, ◌≡◌, refl, sym, ap, ◌∙◌, eqb, ltb, leb}
use Rattle.facts.proofs.Prelude.{length, ltb-true, le-leb, leb-true, eq-eqb, ne_eqb, every, by_cases, and_left, and_right}
use Rattle.words.specs.Word.{page_of}
use Rattle.classes.specs.declared.Shape.{Shape}
use Rattle.fields.specs.Field.{Field, arena, hole, format, state, frontier, holes, hole_pages, held, words, get, same, ok}
use Rattle.fields.proofs.Laws.{get_put_same, get-put_other, length-put}
use Rattle.fields.proofs.Changes.{Changes, changes-none}
use Rattle.fields.specs.Ranges.{head_valid, format_valid}
use Rattle.fields.proofs.Sound.{head-format, head-made, format-kept}
use Rattle.model.specs.HoleStore.{ends_at, starts_at, insert, accepts}
use Rattle.model.specs.Arena.{Arena, give}
use Rattle.model.proofs.Placing.{finds}
use Rattle.model.proofs.ArenaLaws.{give-frontier}
use Rattle.model.proofs.ArenaTidy.{few-give}
use Rattle.arena.specs.Load.{status_code, load_holes, load_store, load_arena}
use Rattle.arena.specs.Store.{store_holes, store_top, store_counts, store_arena}
use Rattle.arena.specs.Valid.{record_valid, hole_ends_valid, holes_end_valid, give_valid}
use Rattle.arena.specs.Owners.{own}
use Rattle.arena.specs.Calls.{given}
use Rattle.arena.proofs.Frames.{loaded_length, is_owner, holes-same, holes-there, arena-changes, own-changes}
use Rattle.runs.proofs.StoreLaws.{holes-length}
use Rattle.runs.proofs.EndsValid.{place-valid}
use Rattle.runs.proofs.Acts.{ValidRecord, valid_record, status-code}
use Rattle.runs.specs.way.Pre.{GiveIn}
use Rattle.calls.specs.Chunks.{gives_of, give_runs}
use Rattle.chunks.specs.way.Pass.{gives_in}
use Rattle.chunks.specs.way.GivePre.{gives_valid, GiveChunkPre, GiveChunksPre}

-- ---- the arena's words, stored
module _ (n : ℕ) (b : List ℕ) (hb : leb (words n) (length b) ≡ true) (a : Arena) (few : length a.store.holes ≤ 4096) where
  x : List ℕ
  x = store_holes b 0 a.store.holes

  hx : leb (words n) (length x) ≡ true
  unfolding x
  hx = rw (holes-length b 0 a.store.holes) hb

  stored-state : get (store_arena b a) (arena state) ≡ status_code a.status
  unfolding store_arena store_top store_counts x
  stored-state = simp (get_put_same n, get-put_other, length-put, hx)

  stored-frontier : get (store_arena b a) (arena frontier) ≡ a.frontier
  unfolding store_arena store_top store_counts x
  stored-frontier = simp (get_put_same n, get-put_other, length-put, hx)

  stored-holes : get (store_arena b a) (arena holes) ≡ length a.store.holes
  unfolding store_arena store_top store_counts x
  stored-holes = simp (get_put_same n, get-put_other, length-put, hx)

  stored-pages : get (store_arena b a) (arena hole_pages) ≡ a.store.total
  unfolding store_arena store_top store_counts x
  stored-pages = simp (get_put_same n, length-put, hx)

  stored_there : load_holes (store_arena b a) 0 (length a.store.holes) ≡ a.store.holes
  unfolding store_arena store_top store_counts
  stored_there =
      holes-same (store_holes b 0 a.store.holes) (store_arena b a) 0 (length a.store.holes) (omega arith) (λ f j o l. simp get-put_other)
      ∙ holes-there n b 0 a.store.holes hb (omega arith)

-- ---- the arena after a give
module _ (m q : ℕ) (a : Arena) where
  give-status : (give m q a).status ≡ a.status
  unfolding give
  give-status = by_cases (accepts m q a.store) (λ e. rw e) (λ e. rw e)

  give-total : a.store.total ≤ 65536 → (give m q a).store.total ≤ 65536
  unfolding give accepts insert
  give-total l =
      by_cases (accepts m q a.store)
      (λ e. rw e (leb-true (a.store.total + m) 65536 (and_left _ _ e)))
      (λ e. rw e l)

  give-ends : (f : ℕ) → 1 ≤ m → q + m ≤ f → every (hole_ends_valid f) a.store.holes ≡ true → every (hole_ends_valid f) (give m q a).store.holes ≡ true
  unfolding give insert
  give-ends f one l valid =
      let hs = a.store.holes in
      by_cases (accepts m q a.store)
      (λ e. rw e (place-valid f m q one l hs valid (finds (ends_at q) hs) (finds (starts_at (q + m)) hs)))
      (λ e. rw e valid)

-- ---- the test
module _ (n : ℕ) (b : List ℕ) where
  format-told : record_valid n b ≡ true → format_valid b ≡ true
  unfolding record_valid
  format-told e = head-format n b (and_left (head_valid n b) _ (and_right (leb (get b (arena state)) 2) _ e))

  valid-again : format_valid b ≡ true → ValidRecord n b → record_valid n b ≡ true
  unfolding record_valid
  valid-again f k =
      rw (le-leb _ 2 k.state, head-made n b f k.frontier, le-leb _ 4096 k.holes, le-leb _ 65536 k.hole_pages, le-leb _ n k.held)

  module _ (x : ℕ) where
    pub valid-told : give_valid n b x ≡ true → record_valid n b ≡ true
    unfolding give_valid
    valid-told e = and_left _ _ e

    pub held-told : give_valid n b x ≡ true → x ≤ get b (arena held)
    unfolding give_valid
    held-told e = leb-true x (get b (arena held)) (and_left _ _ (and_right (record_valid n b) _ e))

    pub ends-told : give_valid n b x ≡ true → holes_end_valid b ≡ true
    unfolding give_valid
    ends-told e = and_right (leb x (get b (arena held))) _ (and_right (record_valid n b) _ e)

    pub valid-less : record_valid n b ≡ true → holes_end_valid b ≡ true → x ≤ get b (arena held) → give_valid n b x ≡ true
    unfolding give_valid
    valid-less e f l = rw (e, le-leb x (get b (arena held)) l) f

    pub valid-some : (x ≡ 0 → ⊥) → gives_valid n b x ≡ true → give_valid n b x ≡ true
    unfolding gives_valid
    valid-some d e = rw (ne_eqb x 0 d) at e

    pub valid-any : give_valid n b x ≡ true → gives_valid n b x ≡ true
    unfolding gives_valid
    valid-any e = by_cases (eqb x 0) (λ z. rw z) (λ z. rw z e)

-- ---- one run
module _ (n : ℕ) (b : List ℕ) (q m : ℕ) (long : words n ≤ length b) (valid : record_valid n b ≡ true) where
  hb : leb (words n) (length b) ≡ true
  hb = le-leb (words n) (length b) long

  was : ValidRecord n b
  was = valid_record n b valid

  -- the arena afterwards, and the book before the owners and HELD
  after : Arena
  after = give m q (load_arena b)

  few : length after.store.holes ≤ 4096
  unfolding after load_arena load_store
  few = few-give m q (load_arena b) (omega (arith, loaded_length b 0 (get b (arena holes)), was.holes))

  middle : List ℕ
  middle = store_arena b after

  middle-length : length middle ≡ length b
  unfolding middle
  middle-length = (arena-changes b after few).long

  owned : Changes is_owner middle (own middle q m 0)
  owned = own-changes middle middle q m 0 (changes-none is_owner middle)

  pub given-length : length (given b q m) ≡ length b
  unfolding given middle after
  given-length = length-put _ (arena held) _ ∙ owned.long ∙ middle-length

  kept : (f : Field) → ok f ≡ true → is_owner f ≡ false → same (arena held) f ≡ false → get (given b q m) f ≡ get middle f
  unfolding given middle after
  kept f o u d = get-put_other (own middle q m 0) (arena held) f (get b (arena held) - m) refl o d ∙ owned.kept f o u

  pub given-held : get (given b q m) (arena held) ≡ get b (arena held) - m
  unfolding given middle after
  given-held = get_put_same n (own middle q m 0) (arena held) (get b (arena held) - m) (rw (owned.long, middle-length) hb) refl refl

  pub given-frontier : get (given b q m) (arena frontier) ≡ get b (arena frontier)
  unfolding middle after load_arena
  given-frontier = kept (arena frontier) refl refl refl ∙ stored-frontier n b hb after few ∙ give-frontier m q (load_arena b)

  given-format : format_valid (given b q m) ≡ true
  unfolding middle
  given-format =
      rw (format-kept b (given b q m) (kept (arena format) refl refl refl ∙ (arena-changes b after few).kept (arena format) refl refl))
      (format-told n b valid)

  given-count : get (given b q m) (arena holes) ≡ length after.store.holes
  unfolding middle
  given-count = kept (arena holes) refl refl refl ∙ stored-holes n b hb after few

  given_record : ValidRecord n (given b q m)
  unfolding middle after load_arena load_store
  given_record = record {
    state = rw (kept (arena state) refl refl refl ∙ stored-state n b hb after few ∙ ap status_code (give-status m q (load_arena b)) ∙ status-code (get b (arena state)) was.state) was.state;
    frontier = rw given-frontier was.frontier;
    holes = rw given-count few;
    hole_pages = rw (kept (arena hole_pages) refl refl refl ∙ stored-pages n b hb after few) (give-total m q (load_arena b) was.hole_pages);
    held = rw given-held (omega (arith, was.held));
  }

  given-holes : load_holes (given b q m) 0 (length after.store.holes) ≡ after.store.holes
  unfolding middle
  given-holes = holes-same middle (given b q m) 0 (length after.store.holes) (let z = few in omega arith) (λ f j o l. kept (hole f j) o refl refl) ∙ stored_there n b hb after few

  -- the holes stay in their range: so gives in turn are tested once
  module _ (ends : holes_end_valid b ≡ true) (one : 1 ≤ m) (below : q + m ≤ get b (arena frontier)) where
    after-ends : every (hole_ends_valid (get b (arena frontier))) after.store.holes ≡ true
    unfolding after load_arena load_store holes_end_valid
    after-ends = give-ends m q (load_arena b) (get b (arena frontier)) one below ends

    given-ends : holes_end_valid (given b q m) ≡ true
    unfolding holes_end_valid
    given-ends = rw (given-frontier, given-count, given-holes) after-ends

    pub given-valid : (x : ℕ) → m + x ≤ get b (arena held) → give_valid n (given b q m) x ≡ true
    given-valid x l = valid-less n (given b q m) x (valid-again n (given b q m) given-format given_record) given-ends (rw given-held (omega arith))

-- ---- runs one after another
pub gives-append : (b : List ℕ) (m : ℕ) (xs ys : List ℕ) → give_runs b m (xs ++ ys) ≡ give_runs (give_runs b m xs) m ys
gives-append b m [] ys = refl
gives-append b m (x ∷ xs) ys = gives-append (given b x m) m xs ys

module _ (n : ℕ) (b : List ℕ) (sh : Shape) (g f : ℕ) (gs fs : List ℕ) (a : GiveChunksPre n b sh (g ∷ gs) (f ∷ fs)) where
  -- where the first run is given
  module _ (e : eqb f 6 ≡ true) where
    all_valid : give_valid n b (suc (length (gives_in gs fs)) * sh.pages) ≡ true
    unfolding gives_in
    all_valid = valid-some n b (suc (length (gives_in gs fs)) * sh.pages) (λ z. omega (arith, rw a.single at z)) (rw e at a.valid)

    enough : suc (length (gives_in gs fs)) ≤ get b (arena held)
    enough = omega (arith, rw a.single at (held-told n b (suc (length (gives_in gs fs)) * sh.pages) all_valid))

    first-valid : record_valid n b ≡ true
    first-valid = valid-told n b (suc (length (gives_in gs fs)) * sh.pages) all_valid

    first_ends : holes_end_valid b ≡ true
    first_ends = ends-told n b (suc (length (gives_in gs fs)) * sh.pages) all_valid

    first-low : page_of g + sh.pages ≤ get b (arena frontier)
    first-low = rw a.single (omega (arith, ltb-true (page_of g) (get b (arena frontier)) (and_left _ _ a.low)))

  pub chunk-pre : GiveChunkPre n b sh.pages g f
  chunk-pre = record {
    few = a.few;
    long = a.long;
    inside = rw a.single (omega (arith, ltb-true (page_of g) n (and_left _ _ a.below)));
    valid = by_cases (eqb f 6) (λ e. rw e (valid-less n b sh.pages (first-valid e) (first_ends e) (rw a.single (omega (arith, enough e))))) (λ e. rw e);
  }

  pub left-length : length (give_runs b sh.pages (gives_of (page_of g) f)) ≡ length b
  left-length = by_cases (eqb f 6) (λ e. rw e (given-length n b (page_of g) sh.pages a.long (first-valid e))) (λ e. rw e)

  left-frontier : get (give_runs b sh.pages (gives_of (page_of g) f)) (arena frontier) ≡ get b (arena frontier)
  left-frontier = by_cases (eqb f 6) (λ e. rw e (given-frontier n b (page_of g) sh.pages a.long (first-valid e))) (λ e. rw e)

  left-valid : gives_valid n (give_runs b sh.pages (gives_of (page_of g) f)) (length (gives_in gs fs) * sh.pages) ≡ true
  unfolding gives_in
  left-valid =
      by_cases (eqb f 6)
      (λ e. rw e (valid-any n _ (length (gives_in gs fs) * sh.pages) (given-valid n b (page_of g) sh.pages a.long (first-valid e) (first_ends e) (rw a.single (omega arith)) (first-low e) (length (gives_in gs fs) * sh.pages) (rw a.single (omega (arith, enough e))))))
      (λ e. rw e (rw e at a.valid))

  pub pre-rest : GiveChunksPre n (give_runs b sh.pages (gives_of (page_of g) f)) sh gs fs
  pre-rest = record {
    few = a.few;
    long = rw left-length a.long;
    single = a.single;
    below = and_right (ltb (page_of g) n) _ a.below;
    low = rw left-frontier (and_right (ltb (page_of g) (get b (arena frontier))) _ a.low);
    fates = omega (arith, a.fates);
    valid = left-valid;
  }

-- ---- one chunk
-- the fate of a retired run for the arena
-- s is the number of a retired run's fate in the arena
module _ (n : ℕ) (b : List ℕ) (m g f s : ℕ) (z : s ≡ 6) where
  pub give-none : (f ≡ s → ⊥) → b ≡ give_runs b m (gives_of (page_of g) f)
  give-none h = rw (ne_eqb f 6 (λ y. h (y ∙ sym z)))

  pub give-page : GiveChunkPre n b m g f → page_of g < 2 ^ 32
  give-page a = omega (arith, a.inside, a.few)

  module _ (h : f ≡ s) (q : ℕ) (j : q ≡ page_of g) where
    pub give_in : GiveChunkPre n b m g f → GiveIn b n q m
    give_in a = record {
      long = a.long;
      small = a.few;
      inside = rw j a.inside;
      valid = rw (eq-eqb f 6 (h ∙ z)) at a.valid;
    }

    pub give-one : (b' : List ℕ) → b' ≡ given b q m → b' ≡ give_runs b m (gives_of (page_of g) f)
    give-one b' e = rw (e, j, eq-eqb f 6 (h ∙ z))

-- ---- the loop
module _ (n : ℕ) (b₀ : List ℕ) (sh : Shape) (gs fs : List ℕ) where
  -- those before the chunks hs, whose fates begin ks, are given
  pub record Giving (b hs ks : List ℕ) : Type 0 where
    pub long : length b ≡ length b₀
    pub pre : GiveChunksPre n b sh hs ks
    pub same : give_runs b sh.pages (gives_in hs ks) ≡ give_runs b₀ sh.pages (gives_in gs fs)

  pub giving-none : GiveChunksPre n b₀ sh gs fs → (hs ks : List ℕ) → hs ≡ gs → ks ≡ fs → Giving b₀ hs ks
  giving-none a hs ks e f = rw (e, f) (record { long = refl; pre = a; same = refl })

  module _ (b hs ks : List ℕ) (v : Giving b hs ks) where
    module _ (g f : ℕ) (hs' ks' : List ℕ) (d : hs ≡ g ∷ hs') (e : ks ≡ f ∷ ks') where
      here : GiveChunksPre n b sh (g ∷ hs') (f ∷ ks')
      here = rw (d, e) at v.pre

      pub giving-pre : GiveChunkPre n b sh.pages g f
      giving-pre = chunk-pre n b sh g f hs' ks' here

      pub giving-more : (b' : List ℕ) → b' ≡ give_runs b sh.pages (gives_of (page_of g) f) → Giving b' hs' ks'
      unfolding gives_in
      giving-more b' k =
          let now = rw (d, e) at v.same in
          record {
            long = ap length k ∙ left-length n b sh g f hs' ks' here ∙ v.long;
            pre = rw k (pre-rest n b sh g f hs' ks' here);
            same = rw k (sym (gives-append b sh.pages (gives_of (page_of g) f) (gives_in hs' ks')) ∙ now);
          }

    none-left : length hs ≡ 0 → gives_in hs ks ≡ []
    unfolding gives_in
    none-left z = rw (nil_from_length hs z)

    pub giving-done : length hs ≡ 0 → b ≡ give_runs b₀ sh.pages (gives_in gs fs)
    giving-done z = rw (none-left z) at v.same

    -- the fates do not end before the chunks
    pub fates-done : length ks ≡ 0 → b ≡ give_runs b₀ sh.pages (gives_in gs fs)
    fates-done z = giving-done (omega (arith, v.pre.fates))
