-- The passes of a group release, once its listed blocks are taken.
--     valid-pre, settle-pre                  what each pass asks follows from the tests before it
--     mismatch, invalid, taken               numbers 11 and 13, and the taking
use Rattle.facts.proofs.Prelude.{ℕ, ◌+◌, ◌≤◌, ◌<◌, arith, Bool, true, false, cond, ◌&&◌, ◌||◌, List, [], ◌∷◌, ◌++◌, ◌≡◌, refl, sym, ap, ◌∙◌, eqb, ltb}
use Rattle.facts.proofs.Prelude.{length, drop, length-append, lt-ltb, le-leb, eq-eqb, every, All, and_left, and_right, eqb-turned, every-same}
use Rattle.words.specs.Limits.{class_rows}
use Rattle.words.specs.Word.{count_of, page_of}
use Rattle.classes.specs.declared.Shape.{Shape}
use Rattle.fields.specs.Field.{Field, arena, class, page, slot, out, region, off, frontier, partial, empty, empty_count, cold, cold_count, next, prev, free, carved, listed, get, put, words, hole, ok, empty_limit, cold_limit}
use Rattle.fields.proofs.Changes.{Changes, changes-none, changes-put}
use Rattle.fields.specs.Ranges.{head_valid}
use Rattle.fields.proofs.Sound.{head-frontier}
use Rattle.arena.specs.Valid.{give_valid}
use Rattle.pages.specs.Stack.{index_of, is_block, page_at}
use Rattle.calls.specs.Out.{in_run_of, out_at}
use Rattle.arena.proofs.Frames.{give_kept}
use Rattle.calls.specs.Release.{page_valid, row_valid}
use Rattle.calls.specs.Chunks.{chunk_fits, chunks_match, returns_all, runs_given, pages_given, chunks_valid, give_runs}
use Rattle.pages.specs.Valid.{links_valid, limits_at}
use Rattle.release.proofs.Bits.{is_bit, in_run-kept}
use Rattle.release.proofs.ValidSteps.{links-valid}
use Rattle.release.proofs.OutLaws.{run_of-out, block_of-out, index_of-out, page_of-out}
use Rattle.chunks.specs.way.Match.{words_on, Matched}
use Rattle.chunks.proofs.MatchLaws.{arena-is}
use Rattle.chunks.specs.way.Pass.{cleared, push_one, push_all, gives_in}
use Rattle.chunks.specs.way.PushPre.{own_block, PushAllPre}
use Rattle.chunks.specs.way.ValidPre.{ChunksValidPre}
use Rattle.chunks.specs.way.PlacePre.{place_valid, PlacePre, Placed}
use Rattle.chunks.specs.way.GivePre.{gives_valid, GiveChunksPre}
use Rattle.chunks.specs.way.CallPre.{all_placed, settled_to, pass_fault, has_bit, PassPre, TakenPre, BitsPre, SettlePre, TakenBy, ChunksAnswered}
use Rattle.chunks.proofs.PushLaws.{push-free, on-here, on-more}
use Rattle.chunks.proofs.Gather.{page-start}
use Rattle.chunks.proofs.GatherGives.{idle, of_class, gives-count, gives_in_lem, fates-length, all-changes}
use Rattle.chunks.proofs.CallTests.{match_kept, match_is, chunks_valid-kept, valid-pages, words-on, fits_count, fits_lands, match_apart, match_fits, chunks-below, slots-left, page-low, page-there}

-- ---- the blocks back on their stacks: of the words that are tested, only FREE is another
abbrev stacked : Field → Bool
stacked f = eqb (region f) 6 || (eqb (region f) 4 && eqb (off f) 4)

push_stacks : (b : List ℕ) (sh : Shape) (ws : List ℕ) → PushAllPre b sh ws → Changes stacked b (push_all b sh ws)
unfolding push_all push_one
push_stacks b sh [] a = changes-none stacked b
push_stacks b sh (w ∷ ws) a =
    let q = page_at w in
    let e = on-here w ws q (eq-eqb q q refl) in
    let a' : PushAllPre b sh ws
    = record { sound = a.sound; below = λ p h. a.below p (omega (arith, on-more w ws p)); there = λ p h. a.there p (omega (arith, on-more w ws p)); slots = λ p h. omega (arith, a.slots p (omega (arith, on-more w ws p)), on-more w ws p) } in
    let d = push_all b sh ws in
    let l : get (push_all b sh ws) (page free (page_at w)) < 4096 = rw (push-free b sh ws a' q) (omega (arith, e, a.slots q (omega (arith, e)))) in
    changes-put stacked b _ (page free q) _ refl refl (changes-put stacked b d (slot q (get d (page free q))) _ (lt-ltb _ 4096 l) refl (push_stacks b sh ws a'))

every-both : (t u v : ℕ → Bool) → ((g : ℕ) → t g ≡ true → u g ≡ true → v g ≡ true) → (gs : List ℕ) → every t gs ≡ true → every u gs ≡ true → every v gs ≡ true
every-both t u v k [] e f = refl
every-both t u v k (g ∷ gs) e f =
    rw (k g (and_left (t g) (every t gs) e) (and_left (u g) (every u gs) f)) (every-both t u v k gs (and_right (t g) (every t gs) e) (and_right (u g) (every u gs) f))

-- ---- what the passes ask
module _ (n : ℕ) (b : List ℕ) (c : ℕ) (sh : Shape) (ws gs : List ℕ) (a : TakenPre n b c sh ws gs) where
  module _ (m : chunks_match b ws gs ≡ true) where
    pub valid-pre : ChunksValidPre n b c sh gs
    valid-pre = record { class = a.call.class; below = chunks-below n b c sh a.call.single ws gs a.runs m; chunks = a.chunks }

    module _ (f : chunks_valid n b c sh gs ≡ true) (fs : List ℕ) (enough : length gs ≤ length fs) (h : ℕ) where
      valid-low : get b (arena frontier) ≤ n
      unfolding chunks_valid
      valid-low = head-frontier n b (and_left (head_valid n b) _ f)

      valid-rest : (every (λ g. page_valid b sh (count_of g) (page_of g)) gs && (row_valid b c && cond (eqb (pages_given b c sh gs) 0) true (give_valid n b (pages_given b c sh gs)))) ≡ true
      unfolding chunks_valid
      valid-rest = and_right (head_valid n b) _ f

      pages : every (λ g. page_valid b sh (count_of g) (page_of g)) gs ≡ true
      pages = valid-pages n b c sh gs f

      valid-row : row_valid b c ≡ true
      valid-row = and_left (row_valid b c) _ (and_right (every (λ g. page_valid b sh (count_of g) (page_of g)) gs) _ valid-rest)

      valid-gives : cond (eqb (pages_given b c sh gs) 0) true (give_valid n b (pages_given b c sh gs)) ≡ true
      valid-gives = and_right (row_valid b c) _ (and_right (every (λ g. page_valid b sh (count_of g) (page_of g)) gs) _ valid-rest)

      pushing : PushAllPre b sh ws
      pushing = record {
        sound = a.call.class.sound;
        below = page-low n b c sh a.call.single ws gs a.runs m a.call.class.few;
        there = page-there n b c sh a.call.single ws gs a.runs m a.call.class.long;
        slots = slots-left n b c sh a.call.single ws gs a.runs m pages a.call.class.sound.few;
      }

      stack : Changes stacked b (push_all b sh ws)
      stack = push_stacks b sh ws pushing

      hc : ltb c class_rows ≡ true
      hc = lt-ltb c class_rows a.call.class.known

      row_kept : row_valid (push_all b sh ws) c ≡ row_valid b c
      unfolding row_valid
      row_kept =
          let k = stack.kept in
          rw (
            k (arena frontier) refl refl,
            k (class partial c) hc refl,
            k (class empty c) hc refl,
            k (class empty_count c) hc refl,
            k (class cold c) hc refl,
            k (class cold_count c) hc refl,
            k (class empty_limit c) hc refl,
            k (class cold_limit c) hc refl,
          )

      links-kept : (q : ℕ) → links_valid (push_all b sh ws) q ≡ links_valid b q
      links-kept q =
          let k = stack.kept in
          rw (k (page listed q) refl refl, k (page next q) refl refl, k (page prev q) refl refl, k (arena frontier) refl refl)

      placing : PlacePre (push_all b sh ws) c sh gs fs
      placing =
          let e = stack.kept (arena frontier) refl refl in
          record {
            known = a.call.class.known;
            sound = a.call.class.sound;
            few = rw e (omega (arith, valid-low, a.call.class.few));
            long = rw (e, stack.long) (omega (arith, valid-low, a.call.class.long));
            row = row_kept ∙ valid-row;
            pages = every-both (chunk_fits b ws) (λ g. page_valid b sh (count_of g) (page_of g)) (λ g. place_valid (push_all b sh ws) (page_of g))
                (λ g i j. rw (links-kept (page_of g), e, lt-ltb (page_of g) (get b (arena frontier)) (fits_lands n b c sh a.call.single ws gs a.runs m g i).low) (links-valid b sh (count_of g) (page_of g) j))
                gs (match_fits n b c sh a.call.single ws gs a.runs m) pages;
            room = enough;
          }

      -- a page has no block out after the passes exactly if its chunk returned all that it had
      all-idle : (hs : List ℕ) → every (chunk_fits b ws) hs ≡ true → All (λ g. idle (push_all b sh ws) (page_of g) ≡ returns_all b g) hs
      all-idle [] i = tt
      all-idle (g ∷ hs) i =
          let q = page_of g in
          let t = chunk_fits b ws in
          let k = fits_count n b c sh a.call.single ws gs a.runs m g (and_left (t g) (every t hs) i) in
          let e : idle (push_all b sh ws) (page_of g) ≡ returns_all b g
          = rw (stack.kept (page carved q) refl refl, push-free b sh ws pushing q, k) (eqb-turned (get b (page carved q)) (get b (page free q) + words_on ws q)) in
          (e, all-idle hs (and_right (t g) (every t hs) i))

      book : List ℕ
      book = (all_placed b c sh h ws gs).book

      fates : List ℕ
      fates = (all_placed b c sh h ws gs).fates ++ drop (length gs) fs

      moved : Changes of_class (push_all b sh ws) (all_placed b c sh h ws gs).book
      moved = all-changes c hc sh a.call.class.sound h (push_all b sh ws) gs

      same : (f : Field) → ok f ≡ true → of_class f ≡ false → stacked f ≡ false → get (all_placed b c sh h ws gs).book f ≡ get b f
      same f o u v = moved.kept f o u ∙ stack.kept f o v

      given-kept : (x : ℕ) → give_valid n (all_placed b c sh h ws gs).book x ≡ give_valid n b x
      given-kept x = give_kept n b (all_placed b c sh h ws gs).book (λ f. same (arena f) refl refl refl) (λ f j o. same (hole f j) o refl refl) x

      all-low : every (λ g. ltb (page_of g) (get (all_placed b c sh h ws gs).book (arena frontier))) gs ≡ true
      all-low =
          every-both (chunk_fits b ws) (chunk_fits b ws) (λ g. ltb (page_of g) (get (all_placed b c sh h ws gs).book (arena frontier)))
          (λ g i j. rw (same (arena frontier) refl refl refl) (lt-ltb (page_of g) (get b (arena frontier)) (fits_lands n b c sh a.call.single ws gs a.runs m g i).low))
          gs (match_fits n b c sh a.call.single ws gs a.runs m) (match_fits n b c sh a.call.single ws gs a.runs m)

      runs-are : length (gives_in gs ((all_placed b c sh h ws gs).fates ++ drop (length gs) fs)) ≡ runs_given b sh (limits_at b c) gs (get b (class empty_count c)) (get b (class cold_count c))
      runs-are =
          let s = a.call.class.sound in
          ap length (sym (gives_in_lem c hc sh s h (push_all b sh ws) gs (drop (length gs) fs)))
          ∙ gives-count c hc sh s h n b (limits_at b c) gs (match_apart n b c sh a.call.single ws gs a.runs m) (push_all b sh ws) (le-leb (words n) (length (push_all b sh ws)) (rw stack.long a.call.class.long))
          (rw (stack.kept (class empty_limit c) hc refl, stack.kept (class cold_limit c) hc refl))
          (all-idle gs (match_fits n b c sh a.call.single ws gs a.runs m))
          ∙ rw (stack.kept (class empty_count c) hc refl, stack.kept (class cold_count c) hc refl)

      giving : GiveChunksPre n (all_placed b c sh h ws gs).book sh gs ((all_placed b c sh h ws gs).fates ++ drop (length gs) fs)
      unfolding gives_valid
      giving = record {
        few = a.call.class.few;
        long = omega (arith, moved.long, stack.long, a.call.class.long);
        single = a.call.single;
        below = chunks-below n b c sh a.call.single ws gs a.runs m;
        low = all-low;
        fates = omega (arith, length-append (all_placed b c sh h ws gs).fates (drop (length gs) fs), fates-length c hc sh a.call.class.sound h (push_all b sh ws) gs);
        valid = rw (runs-are, given-kept (pages_given b c sh gs)) valid-gives;
      }

      pub settle-pre : every (own_block sh) ws ≡ true → SettlePre n b c sh h ws gs fs
      settle-pre o = record { pushing = pushing; blocks = o; placing = placing; giving = giving }

-- ---- the blocks taken
module _ (b : List ℕ) (sh : Shape) where
  pub cleared-changes : (n : ℕ) (ws : List ℕ) (d : List ℕ) → every (has_bit n sh) ws ≡ true → Changes is_bit b d → Changes is_bit b (cleared d sh ws)
  unfolding cleared has_bit
  cleared-changes n [] d e h = h
  cleared-changes n (w ∷ ws) d e h =
      let u = and_left (ltb (page_at w) n && ltb (index_of sh (page_at w) w) 4096) _ e in
      cleared-changes n ws (put d (out (page_at w) (index_of sh (page_at w) w)) 0) (and_right (ltb (page_at w) n && ltb (index_of sh (page_at w) w) 4096) _ e)
      (changes-put is_bit b d (out (page_at w) (index_of sh (page_at w) w)) 0 (and_right (ltb (page_at w) n) _ u) refl h)

-- ---- the ways out of the passes
module _ (n : ℕ) (b : List ℕ) (c : ℕ) (sh : Shape) (ws gs : List ℕ) (a : PassPre n b c sh ws gs) where
  in_runs : (vs : List ℕ) → every (out_at n b c sh) vs ≡ true → every (in_run_of n b sh c) vs ≡ true
  in_runs [] o = refl
  in_runs (v ∷ vs) o =
      let t = out_at n b c sh in
      rw (run_of-out n c sh a.call.class.sound b v (and_left (t v) (every t vs) o)) (in_runs vs (and_right (t v) (every t vs) o))

  has-bits : (vs : List ℕ) → every (out_at n b c sh) vs ≡ true → every (has_bit n sh) vs ≡ true
  unfolding has_bit
  has-bits [] o = refl
  has-bits (v ∷ vs) o =
      let t = out_at n b c sh in
      let s = a.call.class.sound in
      let u = and_left (t v) (every t vs) o in
      let i : index_of sh (page_at v) v < 4096 = rw (page-start n c sh s a.call.single b v u) at (index_of-out n c sh s b v u) in
      rw (lt-ltb (page_at v) n (page_of-out n c sh s b v u), lt-ltb (index_of sh (page_at v) v) 4096 i) (has-bits vs (and_right (t v) (every t vs) o))

  own-blocks : (vs : List ℕ) → every (out_at n b c sh) vs ≡ true → every (own_block sh) vs ≡ true
  unfolding own_block
  own-blocks [] o = refl
  own-blocks (v ∷ vs) o =
      let t = out_at n b c sh in
      let s = a.call.class.sound in
      let u = and_left (t v) (every t vs) o in
      let i : is_block sh (page_at v) v ≡ true = rw (page-start n c sh s a.call.single b v u) at (block_of-out n c sh s b v u) in
      rw i (own-blocks vs (and_right (t v) (every t vs) o))

  bits : every (has_bit n sh) ws ≡ true
  bits = has-bits ws a.out

  changes : Changes is_bit b (cleared b sh ws)
  changes = cleared-changes b sh n ws b bits (changes-none is_bit b)

  as_before : TakenPre n b c sh ws gs
  as_before = record { call = a.call; runs = in_runs ws a.out; chunks = a.chunks }

  taken-pre : TakenPre n (cleared b sh ws) c sh ws gs
  taken-pre = record {
    call = record {
      class = record { known = a.call.class.known; sound = a.call.class.sound; few = a.call.class.few; long = omega (arith, changes.long, a.call.class.long) };
      single = a.call.single;
    };
    runs = every-same (in_run_of n (cleared b sh ws) sh c) (in_run_of n b sh c) ws (in_run-kept b (cleared b sh ws) changes n sh c) ∙ in_runs ws a.out;
    chunks = a.chunks;
  }

  pub settle-next : chunks_match b ws gs ≡ true → chunks_valid n b c sh gs ≡ true → (fs : List ℕ) → length gs ≤ length fs → (h : ℕ) → SettlePre n (cleared b sh ws) c sh h ws gs fs
  settle-next m f fs l h =
      settle-pre n (cleared b sh ws) c sh ws gs taken-pre (match_kept b (cleared b sh ws) changes ws gs ∙ m)
      (chunks_valid-kept b (cleared b sh ws) changes c (lt-ltb c class_rows a.call.class.known) n sh gs ∙ f) fs l h (own-blocks ws a.out)

  module _ (t : Bool) (b' : List ℕ) (k : Matched t b' n b ws gs) where
    told : chunks_match b ws gs ≡ t
    told =
        let r = in_runs ws a.out in
        match_is n b c sh a.call.single ws gs r ∙ sym (arena-is n ws gs (words-on n b c sh a.call.single ws r)) ∙ sym k.answer

    pub mismatch : t ≡ false → TakenBy 11 b' (pass_fault n b c sh ws gs) b sh ws
    unfolding pass_fault
    mismatch e = rw (told ∙ e) (record { answer = refl; left = k.left })

    module _ (e : t ≡ true) where
      matches : chunks_match b ws gs ≡ true
      matches = told ∙ e

      pub valid-next : ChunksValidPre n b' c sh gs
      valid-next = rw k.left (valid-pre n b c sh ws gs as_before matches)

      module _ (u : Bool) (j : u ≡ chunks_valid n b' c sh gs) where
        valids : chunks_valid n b c sh gs ≡ u
        valids = rw (← k.left) (sym j)

        pub invalid : u ≡ false → TakenBy 13 b' (pass_fault n b c sh ws gs) b sh ws
        unfolding pass_fault
        invalid x = rw (matches, valids ∙ x) (record { answer = refl; left = k.left })

        module _ (x : u ≡ true) where
          pub clear_next : BitsPre n b' sh ws
          clear_next = rw k.left (record { sound = a.call.class.sound; few = a.call.class.few; long = a.call.class.long; bits = bits; blocks = own-blocks ws a.out })

          pub taken : (d : List ℕ) → d ≡ cleared b' sh ws → TakenBy 0 d (pass_fault n b c sh ws gs) b sh ws
          unfolding pass_fault
          taken d l = rw (matches, valids ∙ x) (record { answer = refl; left = l ∙ rw k.left })

-- ---- one pass after the other
module _ (n : ℕ) (b : List ℕ) (c : ℕ) (sh : Shape) (h : ℕ) (ws gs fs : List ℕ) (a : SettlePre n b c sh h ws gs fs) (b₁ : List ℕ) (e : b₁ ≡ push_all b sh ws) where
  pub place-next : PlacePre b₁ c sh gs fs
  place-next = rw e a.placing

  module _ (b₂ fs₂ : List ℕ) (p : Placed b₂ fs₂ b₁ c sh h gs fs) where
    pub give-next : GiveChunksPre n b₂ sh gs fs₂
    give-next = rw (p.left, p.fates, e) a.giving

    pub settles : (b₃ : List ℕ) → b₃ ≡ give_runs b₂ sh.pages (gives_in gs fs₂) → ChunksAnswered 0 b₃ fs₂ (settled_to (all_placed b c sh h ws gs) sh gs fs)
    settles b₃ x =
        let z = gives_in_lem c (lt-ltb c class_rows a.placing.known) sh a.placing.sound h (push_all b sh ws) gs (drop (length gs) fs) in
        record { answer = refl; left = x ∙ rw (p.left, p.fates, e, ← z); fates = p.fates ∙ rw e }
