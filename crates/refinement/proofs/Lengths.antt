-- Every call of a class leaves a book of the same length, where the book stands for a reached heap. n is at most the longest arena.
use Rattle.facts.proofs.Prelude.{ℕ, suc, ◌≤◌, true, List, [], ◌∷◌, Option, none, some, ◌≡◌, refl, sym, ◌∙◌, ltb, length, by_cases}
use Rattle.words.specs.Limits.{class_rows}
use Rattle.classes.specs.Shape.{shape_of}
use Rattle.classes.proofs.Shapes.{shape-sound}
use Rattle.fields.specs.Ranges.{max_pages}
use Rattle.model.specs.Calls.{Request, take, give_back, give_chunks}
use Rattle.model.specs.Page.{Page}
use Rattle.model.specs.Class.{Class, Ask}
use Rattle.model.specs.Arena.{commit}
use Rattle.model.specs.Heap.{Heap}
use Rattle.model.specs.Yields.{Listed}
use Rattle.model.proofs.ArenaTidy.{tidy-give}
use Rattle.arena.specs.Calls.{commit_book}
use Rattle.pages.specs.declared.Park.TheVariants.{Empty}
use Rattle.calls.specs.Take.{Took, on_run, take_new, take_call}
use Rattle.calls.specs.Chunks.{give_runs}
use Rattle.refinement.specs.way.Represents.{firsts, ClassRep, Represents}
use Rattle.refinement.specs.Direct.{Reply}
use Rattle.refinement.specs.Run.{class_reply}
use Rattle.refinement.proofs.ArenaFrames.{given-changes}
use Rattle.refinement.proofs.ArenaReached.{Reached}
use Rattle.refinement.proofs.CommitRep.{commit_for_lem}
use Rattle.refinement.proofs.Book.{setting_of, Stands, stands}
use Rattle.refinement.proofs.Join.{changes, written}
use Rattle.refinement.proofs.Take.{TakeRep, did, asked, take_own}
use Rattle.refinement.proofs.TakeWhole.{run_only, run-fills}
use Rattle.refinement.proofs.ReleaseGives.{waiting, next, left}
use Rattle.refinement.proofs.Releases as Releases
use Rattle.refinement.proofs.Releases.{Ends, denied}
use Rattle.refinement.proofs.ReleaseWhole.{release-rep}
use Rattle.refinement.proofs.ChunkWhole.{chunks-ends}
use Rattle.refinement.proofs.ArenaHolders.{small-class}
use Rattle.refinement.proofs.ArenaValid.{head-passes}

-- the classes that a request may be made of: group releases are the small classes'
abbrev pub Ours : ℕ → Request → Type 0
Ours c (take h l) = ltb c class_rows ≡ true
Ours c (give_back h ws) = ltb c class_rows ≡ true
Ours c (give_chunks h ws gs fs) = ltb c 64 ≡ true

-- ---- gives
gives-long : {n c : ℕ} (ps : List Page) (s : Class) {b : List ℕ} → Stands n b c (waiting s ps) → length (give_runs b (shape_of c).pages (firsts ps)) ≡ length b
gives-long [] s B = refl
gives-long {c = c} (p ∷ ps) s {b} B =
    let m = (shape_of c).pages in
    gives-long ps s (next p (waiting s ps) B)
    ∙ (given-changes b p.first m (rw B.represents.arena.loads (tidy-give (shape_of c).pages (shape-sound c).paged p.first B.heap.arena B.reached.tidy).slots)).long

-- ---- releases
ends-long : {n c : ℕ} {t : Class} {b : List ℕ} → Stands n b c t → {w : Reply} {q : Ask} → Ends n b c t w q → length w.book ≡ length b
ends-long B (denied k x u) = refl
ends-long B (Releases.did {r = r} a) = rw (a.gives ∙ sym a.named) (gives-long a.pages r.class (left B a) ∙ a.only.long)

module _ (n : ℕ) (hn : n ≤ max_pages) (b : List ℕ) (H : Heap) (R : Represents n b H) (ok : Reached n H) (c : ℕ) where
  -- ---- takes
  module _ (hc : ltb c class_rows ≡ true) (h : ℕ) (l : List ℕ) where
    new-long : (fs : List Page) → ClassRep n b c (shape_of c) Empty [] [] [] fs → length (take_new n b c (shape_of c) h l).book ≡ length b
    unfolding take_new on_run
    new-long fs z = rw (commit_for_lem n b H R.arena ok h (shape_of c).pages (suc c)) (go (commit n h (shape_of c).pages H.arena).run refl)
      where
        go : (o : Option ℕ) → (commit n h (shape_of c).pages H.arena).run ≡ o
            → length (on_run (commit_book n b h (shape_of c).pages H.arena (suc c)) c (shape_of c) l o).book ≡ length b
        go none e = (changes n b H R ok c hc h).long
        go (some q) e =
            (run-fills n b H R ok c hc h l fs z q e).only.long ∙ (run_only n b H R ok c hc h l fs z q e).long ∙ (written n b H R ok c hc h q e).long ∙ (changes n b H R ok c hc h).long

    own-long : {w : Took} {q : Ask} → TakeRep n b c (shape_of c) h l w q → length w.book ≡ length b
    own-long (did k) = k.only.long
    own-long (asked fs z) = new-long fs z

    take_long : Listed (shape_of c) (H.classes c) → length (take_call n b c (shape_of c) h l).book ≡ length b
    unfolding take_call
    take_long y =
        by_cases (ltb (length l) (shape_of c).batch) (λ u. rw u)
        (λ u. rw u (own-long (take_own (setting_of n b H R c hc) l h (H.classes c).partial (H.classes c).empty (H.classes c).cold (H.classes c).full
        (head-passes n b H R.arena ok) y.partial (R.classes c hc))))

  -- ---- any request
  pub reply-long : Listed (shape_of c) (H.classes c) → (x : Request) → Ours c x → length (class_reply n b c x).book ≡ length b
  reply-long y (take h l) hc = take_long hc h l y
  reply-long y (give_back h ws) hc = ends-long (stands R ok hc refl) (release-rep n hn b H R ok c hc h ws)
  reply-long y (give_chunks h ws gs fs) hs = ends-long (stands R ok (small-class c hs) refl) (chunks-ends n hn b H R ok c hs h ws gs fs)
