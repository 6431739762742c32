-- Two books that agree: on whose every page is, or on the blocks of one page.
--     Owns          owners, first pages and the frontier are as they were; whole-kept: so are the runs that are whole
--     Body          the counts, flag, stack, out bits and marks of page q are as they were; more-kept, latest-kept: so is what it gives
--     changes-owns, changes-body    a change of other words
use Rattle.facts.proofs.Prelude.{ℕ, ◌+◌, ◌≤◌, arith, Bool, true, false, List, ◌≡◌, refl, ltb, lt-ltb, below, every-same}
use Rattle.classes.specs.declared.Shape.{Shape}
use Rattle.fields.specs.Field.{Field, arena, page, mark, slot, out, frontier, owner, first, free, carved, virgin, get}
use Rattle.fields.proofs.Changes.{Changes}
use Rattle.pages.specs.Runs.{of_run, whole}
use Rattle.pages.specs.Stack.{top_entries, latest, has_more}
use Rattle.pages.proofs.TopEntries.{top_entries-kept}

pub record Owns (b b' : List ℕ) : Type 0 where
  pub owners : (x : ℕ) → get b' (page owner x) ≡ get b (page owner x)
  pub starts : (x : ℕ) → get b' (page first x) ≡ get b (page first x)
  pub bound : get b' (arena frontier) ≡ get b (arena frontier)

pub record Body (q : ℕ) (b b' : List ℕ) : Type 0 where
  pub free : get b' (page free q) ≡ get b (page free q)
  pub carved : get b' (page carved q) ≡ get b (page carved q)
  pub virgin : get b' (page virgin q) ≡ get b (page virgin q)
  pub slots : (i : ℕ) → ltb i 4096 ≡ true → get b' (slot q i) ≡ get b (slot q i)
  pub outs : (i : ℕ) → ltb i 4096 ≡ true → get b' (out q i) ≡ get b (out q i)
  pub marks : (j : ℕ) → ltb j 128 ≡ true → get b' (mark q j) ≡ get b (mark q j)

module _ {t : Field → Bool} {b b' : List ℕ} (h : Changes t b b') where
  pub changes-owns : ((x : ℕ) → t (page owner x) ≡ false) → ((x : ℕ) → t (page first x) ≡ false) → t (arena frontier) ≡ false → Owns b b'
  changes-owns o s f = record { owners = λ x. h.kept (page owner x) refl (o x); starts = λ x. h.kept (page first x) refl (s x); bound = h.kept (arena frontier) refl f }

  pub changes-body : (q : ℕ) → t (page free q) ≡ false → t (page carved q) ≡ false → t (page virgin q) ≡ false
      → ((i : ℕ) → t (slot q i) ≡ false) → ((i : ℕ) → t (out q i) ≡ false) → ((j : ℕ) → t (mark q j) ≡ false) → Body q b b'
  changes-body q f k v s o m = record {
    free = h.kept (page free q) refl f;
    carved = h.kept (page carved q) refl k;
    virgin = h.kept (page virgin q) refl v;
    slots = λ i e. h.kept (slot q i) e (s i);
    outs = λ i e. h.kept (out q i) e (o i);
    marks = λ j e. h.kept (mark q j) e (m j);
  }

pub whole-kept : {b b' : List ℕ} → Owns b b' → (n : ℕ) (sh : Shape) (c q : ℕ) → whole n b' sh c q ≡ whole n b sh c q
unfolding whole
whole-kept {b} {b'} k n sh c q = rw (k.bound, every-same (of_run b' c q) (of_run b c q) (below sh.pages) (λ j. rw (k.owners (q + j), k.starts (q + j))))

module _ {b b' : List ℕ} {q : ℕ} (h : Body q b b') where
  pub entries-kept : (m t : ℕ) → t ≤ 4096 → top_entries b' q m t ≡ top_entries b q m t
  entries-kept m t l = top_entries-kept b b' q m t (λ i u. h.slots i (lt-ltb i 4096 (omega arith)))

  pub more-kept : (sh : Shape) → has_more b' sh q ≡ has_more b sh q
  unfolding has_more
  more-kept sh = rw (h.free, h.carved)

  pub latest-kept : (sh : Shape) (m : ℕ) → get b (page free q) ≤ 4096 → latest b' sh q m ≡ latest b sh q m
  unfolding latest
  latest-kept sh m l = rw (h.free, h.carved, entries-kept m (get b (page free q)) l)
