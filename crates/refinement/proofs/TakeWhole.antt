-- A take, whole: on a book that stands for a reached heap it has the model's answer, is never refused by number 13, and leaves a book
-- that stands for the model's next heap.
--     take-new       a take that asks the arena, with a run or none
--     take_whole     every take, refused or not, from any source
--     take_after     the same after any history
use Rattle.facts.proofs.Prelude.{ℕ, zero, suc, ◌≤◌, arith, Bool, true, false, not, ◌||◌, List, [], ◌∷◌, ◌++◌, Option}
use Rattle.facts.proofs.Prelude.{none, some, ◌≡◌, refl, sym, subst, ltb, length, lt-ltb, is_nil, update, by_cases}
use Rattle.words.specs.Limits.{class_rows}
use Rattle.rules.specs.Rules.{Rules}
use Rattle.model.specs.Cover.{covers}
use Rattle.classes.specs.declared.Shape.{Shape}
use Rattle.classes.specs.Shape.{shape_of}
use Rattle.classes.proofs.Shapes.{shape-sound}
use Rattle.model.specs.Calls as Calls
use Rattle.model.specs.Calls.{Call}
use Rattle.model.specs.Page as Page
use Rattle.model.specs.Page.{Page, is_medium, words_from, carve, carve_as}
use Rattle.model.specs.Arena.{commit, Given}
use Rattle.model.specs.Class as Model
use Rattle.model.specs.Class.{lists, Ask, asks, fill_from_list, served}
use Rattle.model.specs.Chunks.{answer}
use Rattle.model.specs.Heap.{Heap, class, pass_to, offer, finish, interact, class_call, Outcome}
use Rattle.model.specs.History.{heap_after}
use Rattle.model.specs.Yields.{Listed}
use Rattle.model.proofs.Yields.{yielding}
use Rattle.pages.specs.declared.Park.TheVariants.{Empty}
use Rattle.pages.specs.Links.{link}
use Rattle.pages.specs.Carve.{new_run}
use Rattle.calls.specs.Take.{Took, fill_from, on_run, take_new, take_call}
use Rattle.arena.specs.Calls.{commit_book}
use Rattle.refinement.proofs.GiveClass.{arena-only}
use Rattle.refinement.specs.way.Represents.{ClassRep, Represents}
use Rattle.refinement.specs.Classes.{take_reply}
use Rattle.refinement.specs.Direct.{Agrees}
use Rattle.refinement.proofs.ArenaReached.{Reached, heap_of, reached-after}
use Rattle.refinement.proofs.CommitRep.{commit_for_lem}
use Rattle.refinement.proofs.Basics.{Setting, setting_kept}
use Rattle.refinement.proofs.Frames.{Only, only_trans, only_rule}
use Rattle.refinement.proofs.Kept.{other_class_kept}
use Rattle.refinement.proofs.Moves.{to-partial, link-only}
use Rattle.refinement.proofs.Fill.{FillRep, fills}
use Rattle.refinement.proofs.Take.{TakeRep, did, asked, take_own}
use Rattle.refinement.proofs.Pushes.{carve-first}
use Rattle.refinement.proofs.Book.{setting_of, classes-with, stands}
use Rattle.refinement.proofs.Releases as Releases
use Rattle.refinement.proofs.Releases.{denied, ends_agree}
use Rattle.refinement.proofs.Join.{none-arena, none_rule, none_stays, new_rule, new-setting, new-arena, new-reached, others-stay, class_joins}
use Rattle.refinement.proofs.ArenaValid.{head-passes}

-- a run just carved has a block
carve-more : (sh : Shape) (q : ℕ) → 1 ≤ sh.capacity → (t : Bool) → Page.has_more sh (carve_as sh t q true) ≡ true
unfolding Page.has_more carve_as
carve-more sh q h true = full sh.capacity h
  where
    full : (k : ℕ) → 1 ≤ k → (not (is_nil (words_from sh q 0 k)) || ltb sh.capacity sh.capacity) ≡ true
    full zero l = absurd (omega arith)
    full (suc k) l = refl
carve-more sh q h false = lt-ltb 0 sh.capacity h

module _ (n : ℕ) (b : List ℕ) (H : Heap) (R : Represents n b H) (ok : Reached n H) (c : ℕ) (hc : ltb c class_rows ≡ true) where
  -- ---- a take that asks the arena
  module _ (h : ℕ) (l : List ℕ) (fs : List Page) (z : ClassRep n b c (shape_of c) Empty [] [] [] fs) where
    abbrev grant : Given
    grant = commit n h (shape_of c).pages H.arena

    abbrev after : List ℕ
    after = commit_book n b h (shape_of c).pages H.arena (suc c)

    -- what the model makes of the arena's answer
    abbrev outcome : Option ℕ → Outcome
    outcome o = finish H c (shape_of c) (shape_of c).pages (record { arena = grant.arena; run = o; fresh = grant.fresh }) (Model.on_run (shape_of c) l fs o)

    none-agrees : (commit n h (shape_of c).pages H.arena).run ≡ none → Agrees (Represents n) (take_reply (on_run after c (shape_of c) l none)) (outcome none)
    unfolding on_run Model.on_run finish
    none-agrees e = record {
      answer = refl;
      valid = λ t. omega arith;
      heap = record {
        arena = none-arena n b H R ok c hc h e (update H.classes c (lists [] [] [] fs));
        classes = classes-with n after H c (lists [] [] [] fs) (none_stays n b H R ok c hc h e c hc z) (λ d hd ne. none_stays n b H R ok c hc h e d hd (R.classes d hd));
        rules = λ d hd. none_rule n b H R ok c hc h e d hd (R.rules d hd);
      };
    }

    -- the new run heads the partial list, and gives its blocks
    module _ (q : ℕ) (e : (commit n h (shape_of c).pages H.arena).run ≡ some q) where
      abbrev new : List ℕ
      new = new_run after (shape_of c) q

      abbrev fresh : List Page
      fresh = carve (shape_of c) q true ∷ []

      pub run_rep : ClassRep n (link new c q) c (shape_of c) Empty fresh [] [] fs
      run_rep =
          subst (λ (x : ℕ). ClassRep n (link new c x) c (shape_of c) Empty fresh [] [] fs) (carve-first (shape_of c) q true)
          (to-partial (new-setting n b H R ok c hc h q e) (class_joins n b H R ok c hc h q e z))

      pub run_only : Only c new (link new c q)
      run_only =
          subst (λ (x : ℕ). Only c new (link new c x)) (carve-first (shape_of c) q true)
          (link-only (new-setting n b H R ok c hc h q e) (class_joins n b H R ok c hc h q e z))

      pub run-setting : Setting n (link new c q) c (shape_of c)
      run-setting = setting_kept (link new c q) run_only.long (new-setting n b H R ok c hc h q e)

      pub run-fills : FillRep n (link new c q) c (shape_of c) Empty [] [] fs (fill_from (link new c q) c (shape_of c) (shape_of c).batch (shape_of c).batch) (fill_from_list (shape_of c) (shape_of c).batch fresh)
      run-fills =
          let sh = shape_of c in
          fills run-setting fresh fs sh.batch sh.batch (omega arith) (carve-more sh q (shape-sound c).blocks (is_medium sh), tt) run_rep

    run-agrees : (q : ℕ) → (commit n h (shape_of c).pages H.arena).run ≡ some q → Agrees (Represents n) (take_reply (on_run after c (shape_of c) l (some q))) (outcome (some q))
    unfolding on_run Model.on_run finish served
    run-agrees q e =
        let sh = shape_of c in
        let b₂ = new_run after sh q in
        let f = run-fills q e in
        let only = only_trans c (run_only q e) f.only in
        let filled = fill_from_list sh sh.batch (fresh q e) in
        let s' = lists filled.partial [] [] (filled.full ++ fs) in
        let cs = update H.classes c s' in
        record {
          answer = rw (f.blocks, f.virgin);
          valid = λ t. omega arith;
          heap = record {
            arena = arena-only n b₂ _ (heap_of H.rules grant.arena (pass_to (class c) (covers sh.pages q) H.holder) cs) c (new-reached n b H R ok c hc h q e cs) only
                (new-arena n b H R ok c hc h q e cs);
            classes = classes-with n _ H c s' f.rep
                (λ d hd ne. other_class_kept d c (shape-sound d) hd ne only (others-stay n b H R ok c hc h q e d hd ne (R.classes d hd)));
            rules = λ d hd. only_rule c only d hd (new_rule n b H R ok c hc h q e d hd (R.rules d hd));
          };
        }

    given-agrees : (o : Option ℕ) → (commit n h (shape_of c).pages H.arena).run ≡ o → Agrees (Represents n) (take_reply (on_run after c (shape_of c) l o)) (outcome o)
    given-agrees none e = none-agrees e
    given-agrees (some q) e = run-agrees q e

    pub take-new : Agrees (Represents n) (take_reply (take_new n b c (shape_of c) h l)) (interact n H c h (asks (shape_of c).pages (Model.on_run (shape_of c) l fs)))
    unfolding take_new interact offer
    take-new = rw (commit_for_lem n b H R.arena ok h (shape_of c).pages (suc c)) (given-agrees grant.run refl)

  -- ---- any take
  own-agrees : (h : ℕ) (l : List ℕ) (w : Took) (q : Ask) → TakeRep n b c (shape_of c) h l w q → Agrees (Represents n) (take_reply w) (interact n H c h q)
  own-agrees h l w q (did k) =
      ends_agree (stands R ok hc refl) h
      (rw (k.code, sym k.answer) (Releases.did (record { pages = []; rep = k.rep; only = k.only; gives = sym k.gives; named = sym k.gives })))
  own-agrees h l w q (asked fs z) = take-new h l fs z

  pub take_whole : Listed (shape_of c) (H.classes c) → (h : ℕ) (l : List ℕ)
      → Agrees (Represents n) (take_reply (take_call n b c (shape_of c) h l)) (class_call n H c (Calls.take h l))
  unfolding take_call class_call answer
  take_whole y h l =
      by_cases (ltb (length l) (shape_of c).batch)
      (λ u. rw u (ends_agree (stands R ok hc refl) h (denied 5 (Calls.refused 5) refl)))
      (λ u. rw u (own-agrees h l _ _
      (take_own (setting_of n b H R c hc) l h (H.classes c).partial (H.classes c).empty (H.classes c).cold (H.classes c).full
      (head-passes n b H R.arena ok) y.partial (R.classes c hc))))

-- after every history on an arena of n pages
pub take_after : (n : ℕ) (rules : Rules) (xs : List Call) (b : List ℕ) → Represents n b (heap_after n rules xs) → (c : ℕ) → ltb c class_rows ≡ true → (h : ℕ) (l : List ℕ)
    → Agrees (Represents n) (take_reply (take_call n b c (shape_of c) h l)) (class_call n (heap_after n rules xs) c (Calls.take h l))
take_after n rules xs b R c hc h l = take_whole n b (heap_after n rules xs) R (reached-after n rules xs) c hc ((yielding n rules xs).listed c) h l
