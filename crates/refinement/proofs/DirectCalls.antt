-- Every direct call on the words answers what the model answers, number by number, is never refused by number 13, and leaves a book that
-- stands for the model's arena and holders.
--     held-direct       number 12's test on the words is the model's
--     direct-represents    every call that names no class, on the whole book
use Rattle.facts.proofs.Prelude.{ℕ, suc, ◌+◌, ◌-◌, ◌≤◌, ◌<◌, arith, Bool, true, false, cond, not, ◌&&◌, ◌||◌, false≢true, List, ◌≡◌, refl, sym, ap, eqb, ltb, leb}
use Rattle.facts.proofs.Prelude.{leb-true, leb-false, ltb-true, ne_eqb, not-false, every, below, by_cases, and_left, and_right, nor_left, every-at, every_cong}
use Rattle.words.specs.Limits.{class_rows}
use Rattle.model.specs.Cover.{in_run, covers}
use Rattle.classes.specs.declared.Shape.{Shape}
use Rattle.classes.specs.Shape.{shape_of}
use Rattle.classes.proofs.Shapes.{shape-sound}
use Rattle.fields.specs.Field.{page, owner, get}
use Rattle.fields.proofs.Changes.{Changes, changes-none}
use Rattle.model.specs.Calls as Calls
use Rattle.model.specs.Calls.{Call, Answer, refused}
use Rattle.model.specs.Arena as Model
use Rattle.model.specs.Heap as Heaps
use Rattle.model.specs.Heap.{Heap, Holder, Outcome, nobody, direct, class, is_direct, is_held, bad_run, bad_growth, unchanged, direct_call}
use Rattle.model.proofs.HistoryArena.{good-run, longer}
use Rattle.pages.specs.Runs.{whole}
use Rattle.arena.specs.Owners.{owner_code}
use Rattle.arena.specs.Calls.{commit_call, every_direct, held_direct, grow_call, grown_by, release_call, contains_call, figures, report_code}
use Rattle.arena.specs.way.Represents.{ArenaRep}
use Rattle.refinement.specs.way.Represents.{Represents}
use Rattle.refinement.specs.Direct.{Reply, reply, commit_reply, grow_reply, release_reply, direct_reply, Agrees}
use Rattle.refinement.proofs.ArenaHolders.{is_known}
use Rattle.refinement.proofs.ArenaReached.{Reached, held_below}
use Rattle.refinement.proofs.ArenaValid.{loads-frontier, record_passes, grow-passes}
use Rattle.refinement.proofs.ArenaFrames.{is_step, in_run_of, either, passed, committed-changes, grown-changes, step_rule}
use Rattle.refinement.proofs.CommitRep.{commit_for_lem, commit-rep, grow-rep}
use Rattle.refinement.proofs.GiveRep.{give-valid, give-rep}
use Rattle.refinement.proofs.ArenaRuns.{is_of, direct-other, commit-whole, grow-whole, given-step, give-whole}
use Rattle.refinement.proofs.ArenaKeeps.{step-class}
use Rattle.refinement.proofs.Reported.{Classes, report-passes, parked-same}

-- what a call leaves alone of the classes: their rows, their pages' words but OWNER, and their runs
record LeavesClasses (n : ℕ) (b b' : List ℕ) : Type 0 where
  pages : ℕ → Bool
  changes : Changes (is_step pages) b b'
  runs : (sh : Shape) (d x : ℕ) → 1 ≤ sh.pages → ltb d class_rows ≡ true → whole n b' sh d x ≡ whole n b sh d x

-- ---- number 12
is-direct : (w : Holder) → is_known w ≡ true → eqb (owner_code w) (owner_code direct) ≡ is_direct w
is-direct nobody e = refl
is-direct direct e = refl
is-direct (class c) e = ne_eqb (suc c) (owner_code direct) (λ z. let l = ltb-true c class_rows e in omega arith)

pub direct-held : (w : Holder) → is_direct w ≡ true → 1 ≤ is_held w
direct-held nobody e = absurd (false≢true e)
direct-held direct e = omega arith
direct-held (class c) e = absurd (false≢true e)

module _ (n : ℕ) (b : List ℕ) (H : Heap) (rep : ArenaRep n b H) (r : Reached n H) where
  -- a run wholly held by the direct calls
  module _ (q m : ℕ) (one : 1 ≤ m) where
    all_direct : Heaps.held_direct n H q m ≡ true → (k : ℕ) → k < m → is_direct (H.holder (q + k)) ≡ true
    unfolding Heaps.held_direct
    all_direct e k l = every-at (λ j. is_direct (H.holder (q + j))) m k (and_right (leb (q + m) n) (every (λ j. is_direct (H.holder (q + j))) (below m)) e) l

    pub run-direct : Heaps.held_direct n H q m ≡ true → (x : ℕ) → in_run m q x ≡ true → is_direct (H.holder x) ≡ true
    run-direct e x t =
        let l = leb-true q x (and_left (leb q x) (ltb x (q + m)) t) in
        let u = ltb-true x (q + m) (and_right (leb q x) (ltb x (q + m)) t) in
        let z : q + (x - q) ≡ x = omega arith in
        rw z at (all_direct e (x - q) (omega arith))

    pub direct-holds : Heaps.held_direct n H q m ≡ true → (x : ℕ) → covers m q x ≤ is_held (H.holder x)
    direct-holds e x =
        by_cases (in_run m q x)
        (λ t. rw t (direct-held (H.holder x) (run-direct e x t)))
        (λ t. rw t (omega arith))

    low : (k : ℕ) → k < m → q + m ≤ H.arena.frontier → eqb (get b (page owner (q + k))) (owner_code direct) ≡ is_direct (H.holder (q + k))
    low k l u = rw (rep.owners (q + k) (omega arith)) (is-direct (H.holder (q + k)) (r.known.at (q + k)))

    pub held-direct : held_direct n b q m ≡ Heaps.held_direct n H q m
    unfolding held_direct every_direct Heaps.held_direct
    held-direct =
        rw (loads-frontier b H.arena rep.loads)
        (ap (λ t. leb (q + m) n && t)
        (by_cases (leb (q + m) H.arena.frontier)
        (λ e. rw e (every_cong (λ k. eqb (get b (page owner (q + k))) (owner_code direct)) (λ k. is_direct (H.holder (q + k))) m (λ k l. low k l (leb-true (q + m) H.arena.frontier e))))
        (λ e. rw e (sym (not-all (leb-false (q + m) H.arena.frontier e))))))
      where
        not-all : H.arena.frontier < q + m → every (λ k. is_direct (H.holder (q + k))) (below m) ≡ false
        not-all l =
            by_cases (every (λ k. is_direct (H.holder (q + k))) (below m))
            (λ e. absurd (let d = every-at (λ k. is_direct (H.holder (q + k))) m (m - 1) e (omega arith) in
            omega (arith, held_below n H r (q + (m - 1)) (direct-held (H.holder (q + (m - 1))) d))))
            (λ e. e)

  -- ---- a call's reply is the model's, and it leaves every class alone
  record Settled (w : Reply) (o : Outcome) : Type 0 where
    agrees : Agrees (ArenaRep n) w o
    leaves : LeavesClasses n b w.book
    classes : o.heap.classes ≡ H.classes
    rules : o.heap.rules ≡ H.rules

  -- tests before a call, on both sides
  settle-cond : {W : Type 0} (f : W → Reply) (t : Bool) (w w' : W) (o o' : Outcome) → (t ≡ true → Settled (f w) o) → (t ≡ false → Settled (f w') o')
      → Settled (f (cond t w w')) (cond t o o')
  settle-cond f true w w' o o' h k = h refl
  settle-cond f false w w' o o' h k = k refl

  -- a call that changes nothing
  settle-same : (k : ℕ) → (k ≡ 13 → ⊥) → (x : Answer) → Settled (record { code = k; answer = x; book = b }) (unchanged H x)
  settle-same k ne x = record {
    agrees = record { answer = refl; valid = ne; heap = rep };
    leaves = record { pages = λ x. false; changes = changes-none (is_step (λ x. false)) b; runs = λ sh d x l hd. refl };
    classes = refl;
    rules = refl;
  }

  settle-refused : (k : ℕ) → (k ≡ 13 → ⊥) → Settled (record { code = k; answer = refused k; book = b }) (unchanged H (refused k))
  settle-refused k ne = settle-same k ne (refused k)

  -- ---- the calls
  settle-commit : (h m : ℕ) → Settled (commit_reply (commit_call n b h m)) (direct_call n H (Calls.commit h m))
  unfolding commit_call direct_call Heaps.commit_call
  settle-commit h m =
      settle-cond commit_reply (bad_run m) _ _ _ _ (λ d. settle-refused 6 (λ z. omega arith))
      (λ d. let one = good-run m d in
      let g = Model.commit n h m H.arena in
      rw (commit_for_lem n b H rep r h m (owner_code direct))
      (record {
        agrees = record { answer = refl; valid = λ z. omega arith; heap = commit-rep n b H rep r h m one direct refl H.classes };
        leaves = record {
          pages = either (passed b g.arena) (in_run_of m g.run);
          changes = committed-changes n b h m H.arena r.tidy.slots (owner_code direct);
          runs = λ sh d x l hd. commit-whole n b H rep r h m one direct refl sh d x l (direct-other d hd);
        };
        classes = refl;
        rules = refl;
      }))

  settle-grow : (h q old new : ℕ) → Settled (grow_reply (grow_call n b h q old new)) (direct_call n H (Calls.grow_frontier h q old new))
  unfolding grow_call direct_call Heaps.grow_call
  settle-grow h q old new =
      settle-cond grow_reply (bad_growth old new) _ _ _ _ (λ d. settle-refused 6 (λ z. omega arith))
      (λ d. rw (held-direct q old (good-run old (nor_left (bad_run old) (bad_run new || leb new old) d)))
      (settle-cond grow_reply (not (Heaps.held_direct n H q old)) _ _ _ _ (λ c. settle-refused 12 (λ z. omega arith))
      (λ c. let one = longer old new d in
      let g = Model.grow n h (q + old) (new - old) H.arena in
      rw (grow-passes n b H rep r h (q + old) (new - old), rep.loads)
      (record {
        agrees = record { answer = refl; valid = λ z. omega arith; heap = grow-rep n b H rep r h (new - old) one (q + old) H.classes };
        leaves = record {
          pages = either (passed b g.arena) (in_run_of (new - old) (grown_by g.grew (q + old)));
          changes = grown-changes n b h (new - old) H.arena r.tidy.slots (q + old);
          runs = λ sh d x l hd. grow-whole n b H rep r h (new - old) one (q + old) sh d x l hd;
        };
        classes = refl;
        rules = refl;
      }))))

  direct-not : (d : ℕ) (w : Holder) → ltb d class_rows ≡ true → is_direct w ≡ true → is_of d w ≡ false
  direct-not d nobody hd e = absurd (false≢true e)
  direct-not d direct hd e = direct-other d hd
  direct-not d (class c) hd e = absurd (false≢true e)

  settle-release : (h q m : ℕ) → Settled (release_reply (release_call n b q m)) (direct_call n H (Calls.release h q m))
  unfolding release_call direct_call Heaps.release_call
  settle-release h q m =
      settle-cond release_reply (bad_run m) _ _ _ _ (λ d. settle-refused 6 (λ z. omega arith))
      (λ d. let one = good-run m d in
      rw (held-direct q m one)
      (settle-cond release_reply (not (Heaps.held_direct n H q m)) _ _ _ _ (λ c. settle-refused 12 (λ z. omega arith))
      (λ c. let t = not-false (Heaps.held_direct n H q m) c in
      let k = direct-holds q m one t in
      rw (give-valid n b H rep r q m one k)
      (record {
        agrees = record { answer = refl; valid = λ z. omega arith; heap = give-rep n b H rep r q m one k H.classes };
        leaves = record {
          pages = in_run m q;
          changes = given-step n b H rep r q m one k;
          runs = λ sh d x l hd. give-whole n b H rep r q m one k sh d x l (λ y e. direct-not d (H.holder y) hd (run-direct q m one t y e));
        };
        classes = refl;
        rules = refl;
      }))))

  settle-contains : (o k : ℕ) → Settled (reply 0 (Calls.contained (contains_call n b o k)) b) (direct_call n H (Calls.contains o k))
  unfolding contains_call direct_call
  settle-contains o k = rw (rep.format, rep.loads) (settle-same 0 (λ z. omega arith) (Calls.contained (Model.contains n o k H.arena)))

  settle-report : Classes n b H → Settled (reply (report_code n b) (Calls.reported (figures n b)) b) (direct_call n H Calls.report)
  unfolding report_code direct_call
  settle-report cs = rw (report-passes n b H cs (record_passes n b H rep r), rep.loads, rep.held, parked-same n b H cs) (settle-same 0 (λ z. omega arith) (Calls.reported (Heaps.figures n H)))

  settle-direct : Classes n b H → (x : Call) → Settled (direct_reply n b x) (direct_call n H x)
  unfolding direct_reply direct_call
  settle-direct cs (Calls.take_blocks c h l) = settle-refused 4 (λ z. omega arith)
  settle-direct cs (Calls.medium_take_blocks c h l) = settle-refused 4 (λ z. omega arith)
  settle-direct cs (Calls.release_blocks c h ws) = settle-refused 4 (λ z. omega arith)
  settle-direct cs (Calls.medium_release_blocks c h ws) = settle-refused 4 (λ z. omega arith)
  settle-direct cs (Calls.pooled_take c h l) = settle-refused 4 (λ z. omega arith)
  settle-direct cs (Calls.pooled_release c h ws) = settle-refused 4 (λ z. omega arith)
  settle-direct cs (Calls.release_bin_chunks c h ws gs fs) = settle-refused 4 (λ z. omega arith)
  settle-direct cs (Calls.commit h m) = settle-commit h m
  settle-direct cs (Calls.grow_frontier h q old new) = settle-grow h q old new
  settle-direct cs (Calls.release h q m) = settle-release h q m
  settle-direct cs (Calls.contains o k) = settle-contains o k
  settle-direct cs Calls.report = settle-report cs

-- the whole book
pub direct-represents : (n : ℕ) (b : List ℕ) (H : Heap) → Represents n b H → Reached n H → (x : Call) → Agrees (Represents n) (direct_reply n b x) (direct_call n H x)
direct-represents n b H rep r x =
    let s = settle-direct n b H rep.arena r rep.classes x in
    let e = s.leaves in
    let c = (direct_reply n b x).book in
    record {
      answer = s.agrees.answer;
      valid = s.agrees.valid;
      heap = record {
        arena = s.agrees.heap;
        classes = λ d hd. rw s.classes
            (step-class e.pages b c e.changes (shape-sound d) hd (λ y. e.runs (shape_of d) d y (shape-sound d).paged hd) (rep.classes d hd));
        rules = λ d hd. rw s.rules (step_rule e.pages b c e.changes d hd (rep.rules d hd));
      };
    }
