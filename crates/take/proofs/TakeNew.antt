-- A new run on the words: a page of the class that gives blocks.
use Rattle.facts.proofs.Prelude.{ℕ, suc, ◌+◌, ◌-◌, ◌≤◌, ◌<◌, min, arith, Bool, true, false, cond, not, ◌&&◌, ◌||◌, List}
use Rattle.facts.proofs.Prelude.{[], ◌++◌, ◌≡◌, refl, ap, ◌∙◌, eqb, ltb, leb, length, lt-ltb, le-leb, ne_eqb, every}
use Rattle.classes.specs.declared.Shape.{Shape}
use Rattle.classes.specs.way.Sound.{Sound}
use Rattle.fields.specs.Field.{Field, arena, page, slot, frontier, owner, free, carved, listed, virgin, region, off, get, put, words}
use Rattle.fields.proofs.Laws.{get_put_same, get-put_other, length-put}
use Rattle.fields.proofs.Changes.{Changes}
use Rattle.model.specs.Page.{is_medium}
use Rattle.words.specs.Host.{digit}
use Rattle.pages.specs.Runs.{whole}
use Rattle.pages.specs.Stack.{top_entries, descending, push, has_more}
use Rattle.pages.specs.Carve.{carved_at_once, carve_anew, bare_run, new_run}
use Rattle.pages.proofs.Descending.{length-descending, descending-below, every_append, every-below}
use Rattle.pages.proofs.TopEntries.{top_entries-cut, top_entries-fewer, top_entries-kept}
use Rattle.pages.proofs.Pushes.{length_push, top_entries-push}
use Rattle.pages.proofs.Frames.{at_once-le, changes-new, changes-carve}
use Rattle.pages.proofs.Runs.{whole_of}
use Rattle.pages.proofs.NewRun.{new-names, bare-long, bare-listed}
use Rattle.take.proofs.TakePages.{Valid}

-- ---- what carving leaves
module _ (n : ℕ) (b : List ℕ) (hb : leb (words n) (length b) ≡ true) (sh : Shape) (few : sh.capacity ≤ 4096) (q : ℕ) (hq : ltb q n ≡ true) (v : Bool) where
  abbrev k : ℕ
  k = carved_at_once sh

  pushed : List ℕ
  pushed = push b q 0 (descending 0 k)

  pushed_long : leb (words n) (length pushed) ≡ true
  unfolding pushed
  pushed_long = rw (length_push b q 0 (descending 0 k)) hb

  carve-is : carve_anew b sh q v ≡ put (put (put pushed (page virgin q) (digit v)) (page carved q) k) (page free q) k
  unfolding carve_anew pushed
  carve-is = refl

  pub carve-free : get (carve_anew b sh q v) (page free q) ≡ k
  carve-free = let h = pushed_long in rw carve-is (simp (get_put_same n, length-put, h))

  pub carve-carved : get (carve_anew b sh q v) (page carved q) ≡ k
  carve-carved = let h = pushed_long in rw carve-is (simp (get-put_other, get_put_same n, length-put, h))

  pub carve-virgin : get (carve_anew b sh q v) (page virgin q) ≡ digit v
  carve-virgin = let h = pushed_long in rw carve-is (simp (get-put_other, get_put_same n))

  carve-slot : (i : ℕ) → ltb i 4096 ≡ true → get (carve_anew b sh q v) (slot q i) ≡ get pushed (slot q i)
  carve-slot i h = rw carve-is (simp get-put_other)

  -- the stack holds the blocks below what is carved
  all-below : every (λ i. ltb i k) (top_entries (carve_anew b sh q v) q k k) ≡ true
  unfolding pushed
  all-below =
      let l = length-descending 0 k in
      let le = at_once-le sh in
      let kept : top_entries (carve_anew b sh q v) q k k ≡ top_entries pushed q k k = top_entries-kept pushed (carve_anew b sh q v) q k k (λ i h. carve-slot i (lt-ltb i 4096 (omega arith))) in
      let laid : top_entries (push b q 0 (descending 0 k)) q (length (descending 0 k) + 0) (length (descending 0 k) + 0) ≡ descending 0 k ++ top_entries b q 0 0 =
      top_entries-push n b hb q hq 0 (descending 0 k) (omega arith) (every-below k 4096 (omega arith) (descending 0 k) (descending-below 0 k k (omega arith))) in
      let same : length (descending 0 k) + 0 ≡ k = omega arith in
      let laid' : top_entries (push b q 0 (descending 0 k)) q k k ≡ descending 0 k ++ [] = rw same at laid in
      rw (kept, laid') (every_append (λ i. ltb i k) (descending 0 k) [] (descending-below 0 k k (omega arith)) refl)

  pub carve-entries : (m : ℕ) → every (λ i. ltb i k) (top_entries (carve_anew b sh q v) q m k) ≡ true
  carve-entries m =
      rw (← (top_entries-cut (carve_anew b sh q v) q (min m k) m k refl))
      (top_entries-fewer (carve_anew b sh q v) q (λ i. ltb i k) (min m k) k k (omega arith) all-below)

-- ---- a new run
abbrev is_carved : Field → Bool
is_carved g = (eqb (region g) 4 && (eqb (off g) 4 || (eqb (off g) 5 || eqb (off g) 7))) || eqb (region g) 6

abbrev pub is_new : Field → Bool
is_new g = (eqb (region g) 4 && (eqb (off g) 1 || ltb 3 (off g))) || (ltb 4 (region g) || eqb (region g) 1)

module _ (n : ℕ) (b : List ℕ) (hb : leb (words n) (length b) ≡ true) (c : ℕ) (sh : Shape) (sd : Sound sh) (q : ℕ) (ends : q + sh.pages ≤ n) (under : q + sh.pages ≤ get b (arena frontier))
    (owners : (i : ℕ) → i < sh.pages → get b (page owner (q + i)) ≡ suc c) where
  hq : ltb q n ≡ true
  hq = lt-ltb q n (omega (arith, sd.paged))

  pub new-changes : Changes is_new b (new_run b sh q)
  new-changes = changes-new is_new b sh q sd.few refl refl (λ i. refl) refl refl (λ i. refl) (λ j. refl) (λ y l u. refl)

  abbrev bare : List ℕ
  bare = bare_run b sh q

  new_is : new_run b sh q ≡ carve_anew bare sh q true
  unfolding new_run
  new_is = refl

  bare-there : leb (words n) (length bare) ≡ true
  bare-there = rw (bare-long b sh sd.few q) hb

  carved-only : Changes is_carved bare (carve_anew bare sh q true)
  carved-only = changes-carve is_carved bare q refl refl (λ i. refl) sh true refl sd.few

  new-owner : (x : ℕ) → q ≤ x → x < q + sh.pages → get (new_run b sh q) (page owner x) ≡ suc c
  new-owner x l u = let z : q + (x - q) ≡ x = omega arith in new-changes.kept (page owner x) refl refl ∙ rw z at (owners (x - q) (omega arith))

  new-whole : whole n (new_run b sh q) sh c q ≡ true
  new-whole =
      whole_of n (new_run b sh q) sh c q
      (record { inside = ends; below = rw (new-changes.kept (arena frontier) refl refl) under; owner = new-owner; first = new-names b sh sd.few q n hb ends })

  new-listed : get (new_run b sh q) (page listed q) ≡ 0
  new-listed = rw new_is (carved-only.kept (page listed q) refl refl ∙ bare-listed b sh sd.few q n hb hq)

  gives : (t : Bool) → (not (eqb (cond t sh.capacity 0) 0) || ltb (cond t sh.capacity 0) sh.capacity) ≡ true
  gives true = rw (ne_eqb sh.capacity 0 (λ z. omega (arith, sd.blocks)))
  gives false = lt-ltb 0 sh.capacity (omega (arith, sd.blocks))

  new-more : has_more (new_run b sh q) sh q ≡ true
  unfolding has_more
  new-more = rw (new_is, carve-free n bare bare-there sh sd.few q hq true, carve-carved n bare bare-there sh sd.few q hq true) (gives (is_medium sh))

  pub new-free : get (new_run b sh q) (page free q) ≡ carved_at_once sh
  new-free = rw new_is (carve-free n bare bare-there sh sd.few q hq true)

  pub new-carved : get (new_run b sh q) (page carved q) ≡ carved_at_once sh
  new-carved = rw new_is (carve-carved n bare bare-there sh sd.few q hq true)

  pub new-valid : (m : ℕ) → Valid n (new_run b sh q) c sh 0 m q
  new-valid m =
      let fr = new-free in
      let ca = new-carved in
      let vi = ap (λ z. get z (page virgin q)) new_is ∙ carve-virgin n bare bare-there sh sd.few q hq true in
      record {
        run = new-whole;
        listing = rw new-listed;
        stack = rw (fr, ca) (le-leb (carved_at_once sh) (carved_at_once sh) (omega arith));
        within = rw ca (le-leb (carved_at_once sh) sh.capacity (at_once-le sh));
        clean = rw vi;
        more = new-more;
        entries = rw (fr, ca, new_is) (carve-entries n bare bare-there sh sd.few q hq true m);
      }

  pub new-virgin : get (new_run b sh q) (page virgin q) ≡ 1
  new-virgin = rw new_is (carve-virgin n bare bare-there sh sd.few q hq true)
