-- The heap's calls leave the pool's words, and the pool's writes leave every field: both ways by the words in which a field may lie.
--     class-frame, direct-frame    a call of a class, a direct call; heap-frame, any call after a history
--     field_in, set-changes        every field lies in such a word; a write to another changes no field
--     represents-still             and the book stands for the same heap
use Rattle.facts.proofs.Prelude.{ℕ, zero, suc, ◌+◌, ◌-◌, ◌*◌, ◌/◌, ◌%◌, ◌≤◌, ◌<◌, arith, Bool, true, false, true≢false, false≢true, List, [], ◌∷◌, inr, Option, none, some, ◌≡◌}
use Rattle.facts.proofs.Prelude.{refl, sym, ap, ◌∙◌, subst, ltb, leb, length, get_or, set, length-set, get_or-set_other, lt-ltb, le-ltb, ltb-true, ne_eqb, lt-leb, by_cases, and_no}
use Rattle.words.specs.Host.{bad_host}
use Rattle.words.specs.Limits.{class_rows}
use Rattle.classes.specs.Shape.{shape_of}
use Rattle.classes.proofs.Shapes.{shape-sound}
use Rattle.rules.specs.Rules.{Rules}
use Rattle.fields.specs.Ranges.{max_pages}
use Rattle.fields.specs.Field.{Field, arena, mark, class, hole, page, out, slot, word, part, read, get, ok}
use Rattle.fields.proofs.Changes.{Changes, changes_mono}
use Rattle.model.specs.Calls as Calls
use Rattle.model.specs.Calls.{Call, Request, Named, names, host_in, way_of, way_to}
use Rattle.model.specs.Heap.{Heap, bad_run, bad_growth, direct}
use Rattle.model.specs.History.{heap_after}
use Rattle.model.specs.Yields.{Listed}
use Rattle.model.proofs.Theorems.{yielding}
use Rattle.model.proofs.ArenaTidy.{few-give}
use Rattle.arena.specs.Owners.{owner_code}
use Rattle.arena.specs.Load.{load_arena}
use Rattle.arena.specs.Valid.{commit_valid, grow_valid, give_valid}
use Rattle.arena.specs.Calls.{commit_for, commit_call, grow_call, release_call, held_direct}
use Rattle.refinement.specs.way.Represents.{Represents}
use Rattle.refinement.specs.Direct.{direct_reply}
use Rattle.refinement.specs.Run.{class_reply, reply_as, call_reply}
use Rattle.refinement.proofs.ArenaFrames.{committed-changes, grown-changes, given-changes}
use Rattle.refinement.proofs.ArenaReached.{Reached, reached-after}
use Rattle.refinement.proofs.ChangePlaces.{ours}
use Rattle.refinement.proofs.ArenaValid.{loads-number}
use Rattle.refinement.proofs.Frames.{Only, of_class, only_rule}
use Rattle.refinement.proofs.Kept.{other_class_kept}
use Rattle.refinement.proofs.GiveClass.{arena-only}
use Rattle.refinement.proofs.Override.{override, override-same, PageIn, RowIn, at-word, in_page, in_slot, in_out, in_mark, in_row}
use Rattle.refinement.proofs.LocalFill.{Home}
use Rattle.refinement.proofs.LocalArena.{ArenaIn, in_arena_lem, in_hole, committed_in, grown_in, given_in}
use Rattle.refinement.proofs.Lengths.{Ours, reply-long}
use Rattle.refinement.proofs.LocalReply.{Abroad, reply_local, ours-row}
use Rattle.poolcalls.specs.way.HeapWords.{heap_word}

pub not-override : (S : ℕ → Bool) (b d : List ℕ) (i : ℕ) → S i ≡ false → length b ≡ length d → get_or (override S b d) i 0 ≡ get_or d i 0
unfolding override
not-override S [] [] i e l = refl
not-override S [] (y ∷ ys) i e l = absurd (omega arith)
not-override S (x ∷ xs) [] i e l = absurd (omega arith)
not-override S (x ∷ xs) (y ∷ ys) zero e l = rw e
not-override S (x ∷ xs) (y ∷ ys) (suc i) e l = not-override (λ i. S (suc i)) xs ys i e (omega arith)

-- ---- where the fields lie
pub arena_in : ArenaIn heap_word
unfolding heap_word
arena_in = record {
  low = λ j l. rw (lt-ltb j 40000 (omega arith), lt-ltb j 10240 (omega arith), lt-leb 160 j (omega arith));
  high = λ j l. rw (lt-ltb (2048 + j) 40000 (omega arith), lt-ltb (2048 + j) 10240 (omega arith), le-ltb (2048 + j) 1376 (omega arith), and_no (leb 160 (2048 + j)));
}

word-heap : (q j : ℕ) → j < 2320 → heap_word (40000 + 4112 * q + j) ≡ true
unfolding heap_word
word-heap q j l = rw (le-ltb (40000 + 4112 * q + j) 40000 (omega arith), lt-leb 2320 ((40000 + 4112 * q + j - 40000) % 4112) (omega arith))

pair-heap : (a u : ℕ) → u < 512 → heap_word (43344 + 4112 * (256 * a) + u) ≡ true
unfolding heap_word
pair-heap a u l =
    let r = (43344 + 4112 * (256 * a) + u - 40000) % 4112 in
    rw (le-ltb (43344 + 4112 * (256 * a) + u) 40000 (omega arith), le-ltb r 3344 (omega arith), and_no (leb 2320 r))

pub page_in_lem : (q : ℕ) → PageIn heap_word q
page_in_lem q = record { words = word-heap q; pairs = λ j l. at-word heap_word (omega arith) (pair-heap (q / 256) (2 * (q % 256) + j) (omega arith)) }

pub row_in : (c : ℕ) → ltb c class_rows ≡ true → RowIn heap_word c
unfolding heap_word
row_in c h = record {
  words = λ j l. rw (
    lt-ltb (160 + 8 * c + j) 40000 (omega (arith, ltb-true c class_rows h)),
    lt-ltb (160 + 8 * c + j) 10240 (omega (arith, ltb-true c class_rows h)),
    ne_eqb ((160 + 8 * c + j) % 8) 7 (omega arith),
    and_no (ltb (160 + 8 * c + j) 1376),
    and_no (leb 160 (160 + 8 * c + j)),
  );
}

-- ---- a class's call
module _ (n : ℕ) (hn : n ≤ max_pages) (b : List ℕ) (H : Heap) (R : Represents n b H) (ok : Reached n H) (c : ℕ) (listed : Listed (shape_of c) (H.classes c)) where
  pub class-frame : (x : Request) → Ours c x → (i : ℕ) → heap_word i ≡ false → get_or (class_reply n b c x).book i 0 ≡ get_or b i 0
  class-frame x o i e =
      let S = heap_word in
      let home : Home S n b c (shape_of c) = record { row = row_in c (ours-row c x o); pages = λ q w. page_in_lem q } in
      let abroad : Abroad S H H c = record { roams = record { arena = arena_in; kin = λ z w. page_in_lem z }; idle = λ z w. page_in_lem z; arena = refl } in
      let local = reply_local n hn b H R ok b H (subst (λ (m : List ℕ). Represents n m H) (sym (override-same S b)) R) ok c listed refl home x o (inr abroad) in
      let same : (class_reply n b c x).book ≡ override S (class_reply n b c x).book b = rw (override-same S b) at local in
      ap (λ m. get_or m i 0) same ∙ not-override S (class_reply n b c x).book b i e (reply-long n hn b H R ok c listed x o)

-- ---- the other way round
pub field_in : (g : Field) → ok g ≡ true → heap_word (word g) ≡ true
field_in (arena k) e = in_arena_lem arena_in [] k
field_in (mark p j) e = in_mark (page_in_lem p) [] [] j (ltb-true j 128 e)
field_in (class k c) e = in_row (row_in c e) [] [] k
field_in (hole k i) e = in_hole arena_in [] k i (ltb-true i 4096 e)
field_in (page k p) e = in_page (page_in_lem p) [] [] k
field_in (out p i) e = in_out (page_in_lem p) [] [] i (ltb-true i 4096 e)
field_in (slot p i) e = in_slot (page_in_lem p) [] [] i (ltb-true i 4096 e)

pub set-changes : (b : List ℕ) (i v : ℕ) → heap_word i ≡ false → Changes (λ f. false) b (set b i v)
unfolding get
set-changes b i v e = record {
  long = length-set b i v;
  kept = λ g o t. ap (read (part g)) (get_or-set_other b i (word g) v 0 (λ z. true≢false (sym (field_in g o) ∙ ap heap_word z ∙ e)));
}

-- a book with the same words of the heap
pub words-changes : (b b' : List ℕ) → length b' ≡ length b → ((i : ℕ) → heap_word i ≡ true → get_or b' i 0 ≡ get_or b i 0) → Changes (λ f. false) b b'
unfolding get
words-changes b b' l h = record { long = l; kept = λ g o t. ap (read (part g)) (h (word g) (field_in g o)) }

pub represents-still : (n : ℕ) (b : List ℕ) (H : Heap) → Represents n b H → Reached n H → (b' : List ℕ) → Changes (λ f. false) b b' → Represents n b' H
represents-still n b H R ok b' h =
    let o : Only class_rows b b' = changes_mono (λ f. false) (of_class b class_rows) b b' (λ g e. absurd (false≢true e)) h in
    record {
      arena = arena-only n b b' H class_rows ok o R.arena;
      classes = λ c hc. other_class_kept c class_rows (shape-sound c) hc (λ e. omega (arith, ltb-true c class_rows hc)) o (R.classes c hc);
      rules = λ c hc. only_rule class_rows o c hc (R.rules c hc);
    }

-- ---- the direct calls
record Framed (b b' : List ℕ) : Type 0 where
  frame : (i : ℕ) → heap_word i ≡ false → get_or b' i 0 ≡ get_or b i 0

framed_override : (b b' : List ℕ) → b' ≡ override heap_word b' b → length b' ≡ length b → Framed b b'
framed_override b b' e l = record { frame = λ i o. ap (λ m. get_or m i 0) e ∙ not-override heap_word b' b i o l }

framed_same : (b : List ℕ) → Framed b b
framed_same b = record { frame = λ i o. refl }

module _ (n : ℕ) (b : List ℕ) (H : Heap) (R : Represents n b H) (ok : Reached n H) where
  few : length (load_arena b).store.holes ≤ 4096
  few = subst (λ a. length a.store.holes ≤ 4096) (sym R.arena.loads) ok.tidy.slots

  commit_framed : (h m w : ℕ) → Framed b (commit_for n b h m w).book
  unfolding commit_for
  commit_framed h m w =
      by_cases (commit_valid n b)
      (λ e. rw e (framed_override b _
      (rw (override-same heap_word b) at (committed_in arena_in b n b h m (load_arena b) w few (λ x l u. page_in_lem x) (λ q z x l u. page_in_lem x)))
      (committed-changes n b h m (load_arena b) few w).long))
      (λ e. rw e (framed_same b))

  grow_framed : (h q old new : ℕ) → Framed b (grow_call n b h q old new).book
  unfolding grow_call
  grow_framed h q old new =
      by_cases (bad_growth old new)
      (λ e. rw e (framed_same b))
      (λ e. rw e (by_cases (held_direct n b q old)
      (λ d. rw d (by_cases (grow_valid n b h (q + old) (new - old))
      (λ f. rw f (framed_override b _
      (rw (override-same heap_word b) at (grown_in arena_in b n b h (q + old) (new - old) (load_arena b) few (λ x l u. page_in_lem x) (λ q z x l u. page_in_lem x)))
      (grown-changes n b h (new - old) (load_arena b) few (q + old)).long))
      (λ f. rw f (framed_same b))))
      (λ d. rw d (framed_same b))))

  release_framed : (q m : ℕ) → Framed b (release_call n b q m).book
  unfolding release_call
  release_framed q m =
      let k = few-give m q (load_arena b) few in
      by_cases (bad_run m)
      (λ e. rw e (framed_same b))
      (λ e. rw e (by_cases (held_direct n b q m)
      (λ d. rw d (by_cases (give_valid n b m)
      (λ f. rw f (framed_override b _
      (rw (override-same heap_word b) at (given_in arena_in b b q m (omega (arith, loads-number b H.arena R.arena.loads, ok.tidy.slots)) k (λ x l u. page_in_lem x)))
      (given-changes b q m k).long))
      (λ f. rw f (framed_same b))))
      (λ d. rw d (framed_same b))))

  pub direct-frame : (x : Call) (i : ℕ) → heap_word i ≡ false → get_or (direct_reply n b x).book i 0 ≡ get_or b i 0
  unfolding direct_reply commit_call
  direct-frame (Calls.take_blocks c h l) i e = refl
  direct-frame (Calls.medium_take_blocks c h l) i e = refl
  direct-frame (Calls.release_blocks c h ws) i e = refl
  direct-frame (Calls.medium_release_blocks c h ws) i e = refl
  direct-frame (Calls.pooled_take c h l) i e = refl
  direct-frame (Calls.pooled_release c h ws) i e = refl
  direct-frame (Calls.release_bin_chunks c h ws gs fs) i e = refl
  direct-frame (Calls.commit h m) i e = by_cases (bad_run m) (λ t. rw t) (λ t. rw t ((commit_framed h m (owner_code direct)).frame i e))
  direct-frame (Calls.grow_frontier h q old new) i e = (grow_framed h q old new).frame i e
  direct-frame (Calls.release h q m) i e = (release_framed q m).frame i e
  direct-frame (Calls.contains o k) i e = refl
  direct-frame Calls.report i e = refl

-- ---- any call
module _ (n : ℕ) (hn : n ≤ max_pages) (rules : Rules) (made : List Call) (b : List ℕ) (R : Represents n b (heap_after n rules made)) where
  pub heap-frame : (x : Call) (i : ℕ) → heap_word i ≡ false → get_or (call_reply n b x).book i 0 ≡ get_or b i 0
  unfolding call_reply way_of
  heap-frame x i o = by_cases (bad_host (host_in x)) (λ t. rw t) (λ t. rw t (go (names x) refl))
    where
      go : (p : Option Named) → names x ≡ p → get_or (reply_as n b x (way_to p)).book i 0 ≡ get_or b i 0
      go none e = direct-frame n b (heap_after n rules made) R (reached-after n rules made) x i o
      go (some p) e = class-frame n hn b (heap_after n rules made) R (reached-after n rules made) p.class ((yielding n rules made).listed p.class) p.request (ours x p e) i o
