-- Marking and taking by pages: the loops over the listed words and over the chunks' pages, and the ways out.
use Rattle.facts.proofs.Prelude.{ℕ, suc, ◌+◌, ◌-◌, ◌*◌, ◌^◌, ◌≤◌, ◌<◌, arith, add-one, Bool, true, false, true≢false, List, [], ◌∷◌, map, ◌≡◌, refl, sym, ap, ◌∙◌, ltb}
use Rattle.facts.proofs.Prelude.{length, get_or, drop, length-drop, drop-cons, drop-drop, lt-ltb, le-leb, ltb-true, every, distinct, and_left, and_right, drop_past, every_get}
use Rattle.words.specs.Limits.{class_rows}
use Rattle.words.specs.Word.{page_of}
use Rattle.classes.specs.declared.Shape.{Shape}
use Rattle.classes.specs.way.Sound.{Sound}
use Rattle.fields.specs.Field.{words}
use Rattle.fields.proofs.Changes.{Changes}
use Rattle.pages.specs.way.Pre.{ClearPre}
use Rattle.pages.specs.Carve.{out_words}
use Rattle.pages.specs.Runs.{whole}
use Rattle.pages.specs.Stack.{page_at}
use Rattle.pages.proofs.Descending.{every_mono}
use Rattle.calls.specs.Out.{in_run_of, out_at, out_fault}
use Rattle.calls.specs.Chunks.{chunks_match, chunks_valid}
use Rattle.release.specs.way.Marks.{fresh_count, fresh_book, no_marks, count_by, book_by}
use Rattle.release.specs.way.MarkPre.{FieldPre, MarkedIn}
use Rattle.release.proofs.Bits.{is_bit}
use Rattle.pages.proofs.Runs.{whole_says}
use Rattle.release.proofs.OutLaws.{run_of-out}
use Rattle.release.proofs.MarkLaws.{mark-bits}
use Rattle.release.proofs.RunMarks.{fresh-changes, AllFresh, all-fresh, not-marked, not-repeated}
use Rattle.release.proofs.Testing.{fault-none}
use Rattle.chunks.specs.way.Match.{is_page, in_arena, has_page, page_fits, pages_match, arena_match, Matched}
use Rattle.chunks.proofs.MatchLaws.{low-page}
use Rattle.chunks.specs.way.Pass.{cleared}
use Rattle.chunks.specs.way.CallPre.{pass_fault, test_fault}
use Rattle.chunks.specs.way.Marks.{page_clean, own_count, own_book, sweep, take_pages, clear_pages}
use Rattle.chunks.specs.way.ValidPre.{ChunksValidPre}
use Rattle.chunks.specs.way.MarkPre.{OwnPre, OwnMarked, SweepPre, CleanPre, TryPre, SetPre, Tried}
use Rattle.chunks.proofs.PageMarks.{own-count, own-book, fresh-within, none-counted, none_left, none-marked, ready_words, clears_own, takes-own}
use Rattle.chunks.proofs.CallTests.{chunks_valid-kept, match_is}

-- ---- a chunk's page
pub chunk-fits : (n : ℕ) (b : List ℕ) (c : ℕ) (sh : Shape) (m g : ℕ) → CleanPre n b c sh m → is_page n g ≡ true → page_of g < 2 ^ 32
unfolding is_page
chunk-fits n b c sh m g a e = omega (arith, ltb-true (page_of g) n e, a.class.few)

module _ (n : ℕ) (b : List ℕ) (c : ℕ) (sh : Shape) (m g q : ℕ) (e : q ≡ page_of g) (t : Bool) (k : t ≡ whole n b sh c q) where
  pub not-run : t ≡ false → t ≡ page_clean n b c sh m g
  unfolding page_clean
  not-run h = rw (← e, ← k, h)

  module _ (h : t ≡ true) where
    pub marks-there : CleanPre n b c sh m → ClearPre b q m
    marks-there a =
        let z = (whole_says n b sh c q (sym k ∙ h)).inside in
        record { few = omega (arith, a.few); there = omega (arith, a.class.sound.paged, a.class.long) }

    pub clean-told : (r : Bool) → r ≡ no_marks b q m → r ≡ page_clean n b c sh m g
    unfolding page_clean
    clean-told r x = rw (← e, ← k, h) x

-- ---- the chunks' pages in turn
pub record Sweeping (f : List ℕ → ℕ → List ℕ) (b₀ gs b : List ℕ) (i : ℕ) : Type 0 where
  pub within : i ≤ length gs
  pub long : length b ≡ length b₀
  pub same : sweep f b (drop i gs) ≡ sweep f b₀ gs

module _ (f : List ℕ → ℕ → List ℕ) (b₀ gs : List ℕ) where
  pub sweep-starts : Sweeping f b₀ gs b₀ 0
  sweep-starts = record { within = omega arith; long = refl; same = refl }

  pub sweep-goes_on : (b b' : List ℕ) (i q : ℕ) → Sweeping f b₀ gs b i → i < length gs → q ≡ page_of (get_or gs i 0) → b' ≡ f b q → length b' ≡ length b → Sweeping f b₀ gs b' (i + 1)
  sweep-goes_on b b' i q v l e x k = record { within = omega arith; long = k ∙ v.long; same = rw (add-one i, x, e) (rw (drop-cons gs i 0 l) at v.same) }

  pub sweep-ends : (b : List ℕ) (i : ℕ) → Sweeping f b₀ gs b i → length gs ≤ i → b ≡ sweep f b₀ gs
  sweep-ends b i v l = rw (drop_past gs i l) at v.same

pub sweep-fits : (n : ℕ) (b : List ℕ) (m : ℕ) (gs : List ℕ) (i : ℕ) → SweepPre n b m gs → i < length gs → page_of (get_or gs i 0) < 2 ^ 32
sweep-fits n b m gs i a l = omega (arith, a.pages.few, ltb-true (page_of (get_or gs i 0)) n (every_get (λ g. ltb (page_of g) n) gs i a.pages.below l))

pub sweep-pre : (n : ℕ) (b b' : List ℕ) (m : ℕ) (gs : List ℕ) (i q : ℕ) → SweepPre n b m gs → length b' ≡ length b → i < length gs → q ≡ page_of (get_or gs i 0) → ClearPre b' q m
sweep-pre n b b' m gs i q a k l e =
    record { few = omega (arith, a.few); there = omega (arith, e, a.pages.long, ltb-true (page_of (get_or gs i 0)) n (every_get (λ g. ltb (page_of g) n) gs i a.pages.below l)) }

-- ---- the listed words in turn
pub record OwnInv (b : List ℕ) (sh : Shape) (ws b' : List ℕ) (i : ℕ) : Type 0 where
  pub within : i ≤ length ws
  pub long : length b' ≡ length b
  pub answer : i + own_count b' sh (drop i ws) ≡ own_count b sh ws
  pub left : own_book b' sh (drop i ws) ≡ own_book b sh ws

module _ (n : ℕ) (b : List ℕ) (sh : Shape) (ws : List ℕ) (a : OwnPre n b sh ws) where
  pub own-starts : OwnInv b sh ws b 0
  own-starts = record { within = omega arith; long = refl; answer = omega arith; left = refl }

  module _ (i : ℕ) (l : i < length ws) where
    page_in_lem : page_at (get_or ws i 0) < n
    unfolding in_arena
    page_in_lem = ltb-true (page_at (get_or ws i 0)) n (every_get (λ w. ltb (page_at w) n) ws i a.pages l)

    pub own-fits : page_at (get_or ws i 0) < 2 ^ 32
    own-fits = omega (arith, page_in_lem, a.few)

  module _ (b' : List ℕ) (i q : ℕ) (v : OwnInv b sh ws b' i) (l : i < length ws) (e : q ≡ page_at (get_or ws i 0)) where
    page-low : q < n
    page-low = rw e (page_in_lem i l)

    pub own-pre : FieldPre b' sh q
    own-pre = record { sound = a.sound; below = omega (arith, page-low, a.single, a.few); there = omega (arith, page-low, v.long, a.long) }

    module _ (r : ℕ) (b'' : List ℕ) (z : MarkedIn r b'' b' sh q ws i) where
      pub own-less : (r ≡ i → ⊥) → length ws - r < length ws - i
      own-less d = omega (arith, z.answer)

      pub own-goes_on : length b'' ≡ length b' → (r ≡ i → ⊥) → OwnInv b sh ws b'' r
      own-goes_on k d =
          let x = fresh_count b' sh q (drop i ws) in
          let y : drop r ws ≡ drop x (drop i ws) = ap (λ j. drop j ws) z.answer ∙ sym (drop-drop x i ws) in
          let u : own_count b'' sh (drop r ws) ≡ own_count (fresh_book b' sh q (drop i ws)) sh (drop x (drop i ws)) = rw (z.left, y) in
          record {
            within = omega (arith, z.answer, fresh-within sh a.sound a.single q b' (drop i ws), length-drop i ws);
            long = k ∙ v.long;
            answer = omega (arith, z.answer, v.answer, own-count sh a.sound a.single q b' (drop i ws), u);
            left = rw (z.left, y) (sym (own-book sh a.sound a.single q b' (drop i ws)) ∙ v.left);
          }

      pub own-stops : r ≡ i → OwnMarked i b'' b sh ws
      own-stops d =
          let w = get_or ws i 0 in
          let vs = drop (suc i) ws in
          let c : drop i ws ≡ get_or ws i 0 ∷ drop (suc i) ws = drop-cons ws i 0 l in
          let x : fresh_count b' sh q (drop i ws) ≡ 0 = omega (arith, z.answer) in
          let y : fresh_count b' sh q (get_or ws i 0 ∷ drop (suc i) ws) ≡ 0 = rw c at x in
          let o : own_count b' sh (drop i ws) ≡ 0 = rw c (none-counted sh a.sound a.single q b' w vs (sym e) y) in
          record {
            answer = omega (arith, v.answer, o);
            left = z.left ∙ rw c (none-marked sh a.sound a.single q b' w vs (sym e) y ∙ sym (none_left sh a.sound a.single q b' w vs (sym e) y)) ∙ v.left;
          }

  pub own-ends : (b' : List ℕ) (i : ℕ) → OwnInv b sh ws b' i → length ws ≤ i → OwnMarked i b' b sh ws
  unfolding count_by book_by
  own-ends b' i v l =
      let d : drop i ws ≡ [] = drop_past ws i l in
      record { answer = omega (arith, rw d at v.answer); left = rw d at v.left }

-- ---- the chunks' pages have no mark set
module _ (n : ℕ) (b : List ℕ) (c : ℕ) (sh : Shape) (m : ℕ) (ws gs : List ℕ) (a : SetPre n b c sh m ws gs) where
  sound : Sound sh
  sound = a.matching.all.call.class.sound

  one : sh.pages ≡ 1
  one = a.matching.all.call.single

  few : m ≤ 128
  few = omega (arith, a.all, sound.few)

  all : sh.capacity ≤ 32 * m
  all = omega (arith, a.all)

  long : words n ≤ length b
  long = a.matching.all.call.class.long

  pages_in : every (is_page n) gs ≡ true
  unfolding arena_match
  pages_in = and_left (every (is_page n) gs) _ a.matching.matched

  page_match : pages_match ws gs ≡ true
  unfolding arena_match
  page_match = and_right (every (is_page n) gs) _ a.matching.matched

  apart : distinct (map page_of gs) ≡ true
  unfolding pages_match
  apart = and_left (distinct (map page_of gs)) _ page_match

  has : every (has_page gs) ws ≡ true
  unfolding pages_match
  has = and_right (every (page_fits ws) gs) _ (and_right (distinct (map page_of gs)) _ page_match)

  low : every (λ g. ltb (page_of g) n) gs ≡ true
  unfolding is_page
  low = pages_in

  words-low : every (in_arena n) ws ≡ true
  unfolding in_arena
  words-low = every_mono (has_page gs) (λ w. ltb (page_at w) n) (λ w e. lt-ltb (page_at w) n (low-page n (page_at w) gs pages_in e)) ws has

  pub own_first : OwnPre n b sh ws
  own_first = record { sound = sound; single = one; few = a.matching.all.call.class.few; long = long; pages = words-low }

  module _ (k : ℕ) (b' : List ℕ) (z : OwnMarked k b' b sh ws) where
    changes : Changes is_bit b (own_book b sh ws)
    changes = mark-bits b _ (fresh-changes sh sound page_at b ws)

    long-now : words n ≤ length b'
    long-now = rw z.left (omega (arith, changes.long, long))

    pub sweeps : SweepPre n b' m gs
    sweeps = record { few = few; pages = record { few = a.matching.all.call.class.few; long = long-now; below = low } }

    pub not-all : (b'' : List ℕ) → b'' ≡ clear_pages b' m gs → Tried false b'' n b c sh ws gs
    not-all b'' e = record { passed = λ x. absurd (true≢false (sym x)); left = e ∙ rw z.left (clears_own sh sound one m few all n c b gs ws a.ready has) }

    module _ (y : k ≡ length ws) where
      counted : own_count b sh ws ≡ length ws
      counted = sym z.answer ∙ y

      known : AllFresh sh sound page_at n c b ws
      known = all-fresh sh sound page_at n c b ws (ready_words sh sound one m few all n c b gs ws a.ready has).0 counted

      pub valid-pre : ChunksValidPre n b' c sh gs
      valid-pre = record {
        class = record { known = a.matching.all.call.class.known; sound = sound; few = a.matching.all.call.class.few; long = long-now };
        below = low;
        chunks = a.matching.all.chunks;
      }

      no-fault : out_fault n b c sh ws ≡ 0
      no-fault =
          fault-none n b c sh ws
          (not-marked sh sound page_at n c m all b ws (ready_words sh sound one m few all n c b gs ws a.ready has).1 known)
          (not-repeated sh sound page_at n c b ws known (le-leb (words n) (length b) long))
          known.out

      matches : chunks_match b ws gs ≡ true
      matches = match_is n b c sh one ws gs (every_mono (out_at n b c sh) (in_run_of n b sh c) (λ w o. run_of-out n c sh sound b w o) ws known.out) ∙ page_match

      valid_same : chunks_valid n b' c sh gs ≡ chunks_valid n b c sh gs
      valid_same = rw z.left (chunks_valid-kept b (own_book b sh ws) changes c (lt-ltb c class_rows a.matching.all.call.class.known) n sh gs)

      passes : chunks_valid n b c sh gs ≡ true → test_fault n b c sh ws gs ≡ 0
      unfolding test_fault pass_fault
      passes f = rw (no-fault, matches, f)

      taken_is : take_pages b' m gs ≡ cleared b sh ws
      taken_is = rw z.left (takes-own sh sound one m few all n c b gs ws a.ready has apart long words-low counted)

      pub all-taken : (t : Bool) (b'' : List ℕ) → t ≡ chunks_valid n b' c sh gs → t ≡ true → b'' ≡ take_pages b' m gs → Tried true b'' n b c sh ws gs
      all-taken t b'' e x f = record { passed = λ y. passes (sym valid_same ∙ sym e ∙ x); left = f ∙ taken_is }

-- ---- the chunks are the list's
module _ (n : ℕ) (b : List ℕ) (c : ℕ) (sh : Shape) (ws gs : List ℕ) where
  not-tried : Tried false b n b c sh ws gs
  not-tried = record { passed = λ x. absurd (true≢false (sym x)); left = refl }

  pub try_sound : TryPre n b c sh gs → Sound sh
  try_sound a = a.call.class.sound

  module _ (a : TryPre n b c sh gs) (t : Bool) (b' : List ℕ) (k : Matched t b' n b ws gs) where
    pub not-matched : Tried false b' n b c sh ws gs
    not-matched = rw k.left not-tried

    module _ (y : t ≡ true) where
      matched : arena_match n ws gs ≡ true
      matched = sym k.answer ∙ y

      pub pages-there : every (is_page n) gs ≡ true
      unfolding arena_match
      pages-there = and_left (every (is_page n) gs) _ matched

      module _ (m : ℕ) (i : m ≡ out_words sh) where
        pub clean-pre : CleanPre n b' c sh m
        clean-pre = rw k.left (record { few = omega (arith, a.call.class.sound.few); class = a.call.class })

        pub set-pre : (u : Bool) → u ≡ every (page_clean n b' c sh m) gs → u ≡ true → SetPre n b' c sh m ws gs
        set-pre u e x = record { matching = rw k.left (record { all = a; matched = matched }); all = i; ready = sym e ∙ x }

      pub matched-on : (r : Bool) (b'' : List ℕ) → Tried r b'' n b' c sh ws gs → Tried r b'' n b c sh ws gs
      matched-on r b'' z = rw k.left at z
