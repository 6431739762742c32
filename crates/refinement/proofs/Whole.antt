-- Every call and every history on the words is the model's. n is at most the longest arena.
--     call-whole         any call on a book that stands for a heap after a history
--     run-answers        a history's answers are the model's, from an opening on any book that is long enough, with rules in their range
--     run-represents     the book after it stands for the model's heap
--     run-valid          number 13 is never answered
use Rattle.facts.proofs.Prelude.{ℕ, ◌+◌, ◌≤◌, arith, true, List, [], ◌∷◌, ◌++◌, map, ◌≡◌, refl, sym, subst, ltb, leb, length, All, by_cases}
use Rattle.classes.specs.Shape.{class_count, pool_id}
use Rattle.words.specs.Host.{bad_host}
use Rattle.rules.specs.Rules.{Rules, Fit}
use Rattle.fields.specs.Field.{words}
use Rattle.fields.specs.Ranges.{max_pages}
use Rattle.model.specs.Calls as Calls
use Rattle.model.specs.Calls.{Call, names, host_in, way_to, way_of}
use Rattle.model.specs.Heap.{Heap, direct_call, route, step, new_heap}
use Rattle.model.specs.History.{Event, events_from, heap_from, heap_after, answers}
use Rattle.arena.specs.Open.{opened}
use Rattle.refinement.specs.way.Represents.{Represents}
use Rattle.refinement.specs.Direct.{Reply, Agrees, direct_reply}
use Rattle.refinement.specs.Run.{reply_as, call_reply, replies_from, book_from, answers_in}
use Rattle.refinement.proofs.ArenaReached.{reached-after, heap-next}
use Rattle.refinement.proofs.DirectCalls.{direct-represents}
use Rattle.refinement.proofs.OpenRep.{opened-represents}
use Rattle.refinement.proofs.TakeWhole.{take_after}
use Rattle.refinement.proofs.ReleaseWhole.{release-after}
use Rattle.refinement.proofs.ChunkWhole.{chunks-after}
use Rattle.refinement.proofs.ArenaHolders.{small-class, medium-class, pooled_class}

-- the calls ys on a book that stands for the heap H
record RunRep (n : ℕ) (H : Heap) (b : List ℕ) (ys : List Call) : Type 0 where
  answers : answers_in (replies_from (call_reply n) b ys) ≡ map (λ (e : Event). e.answer) (events_from n H ys)
  valid : All (λ (r : Reply). r.code ≡ 13 → ⊥) (replies_from (call_reply n) b ys)
  heap : Represents n (book_from (call_reply n) b ys) (heap_from n H ys)

module _ (n : ℕ) (hn : n ≤ max_pages) (rules : Rules) where
  -- ---- one call, after the history xs
  module _ (xs : List Call) (b : List ℕ) (R : Represents n b (heap_after n rules xs)) where
    directly : (x : Call) → Agrees (Represents n) (direct_reply n b x) (direct_call n (heap_after n rules xs) x)
    directly x = direct-represents n b (heap_after n rules xs) R (reached-after n rules xs) x

    past_three : (x : Call) → Agrees (Represents n) (reply_as n b x (way_to (names x))) (route n (heap_after n rules xs) x (way_to (names x)))
    past_three (Calls.take_blocks c h l) =
        by_cases (ltb c 64) (λ e. rw e (take_after n rules xs b R c (small-class c e) h l)) (λ e. rw e (directly (Calls.take_blocks c h l)))
    past_three (Calls.medium_take_blocks c h l) =
        by_cases (ltb c 12) (λ e. rw e (take_after n rules xs b R (64 + c) (medium-class c e) h l)) (λ e. rw e (directly (Calls.medium_take_blocks c h l)))
    past_three (Calls.release_blocks c h ws) =
        by_cases (ltb c 64) (λ e. rw e (release-after n hn rules xs b R c (small-class c e) h ws)) (λ e. rw e (directly (Calls.release_blocks c h ws)))
    past_three (Calls.medium_release_blocks c h ws) =
        by_cases (ltb c 12) (λ e. rw e (release-after n hn rules xs b R (64 + c) (medium-class c e) h ws)) (λ e. rw e (directly (Calls.medium_release_blocks c h ws)))
    past_three (Calls.pooled_take c h l) =
        by_cases (ltb c class_count) (λ e. rw e (take_after n rules xs b R (pool_id c) (pooled_class c e) h l)) (λ e. rw e (directly (Calls.pooled_take c h l)))
    past_three (Calls.pooled_release c h ws) =
        by_cases (ltb c class_count) (λ e. rw e (release-after n hn rules xs b R (pool_id c) (pooled_class c e) h ws)) (λ e. rw e (directly (Calls.pooled_release c h ws)))
    past_three (Calls.release_bin_chunks c h ws gs fs) =
        by_cases (ltb c 64) (λ e. rw e (chunks-after n hn rules xs b R c e h ws gs fs)) (λ e. rw e (directly (Calls.release_bin_chunks c h ws gs fs)))
    past_three (Calls.commit h m) = directly (Calls.commit h m)
    past_three (Calls.grow_frontier h q old new) = directly (Calls.grow_frontier h q old new)
    past_three (Calls.release h q m) = directly (Calls.release h q m)
    past_three (Calls.contains o k) = directly (Calls.contains o k)
    past_three Calls.report = directly Calls.report

    pub call-whole : (x : Call) → Agrees (Represents n) (call_reply n b x) (step n (heap_after n rules xs) x)
    unfolding call_reply step way_of
    call-whole x = by_cases (bad_host (host_in x)) (λ e. rw e (record { answer = refl; valid = λ z. omega arith; heap = R })) (λ e. rw e (past_three x))

  -- ---- the calls ys after the history xs
  runs : (ys xs : List Call) (b : List ℕ) → Represents n b (heap_after n rules xs) → RunRep n (heap_after n rules xs) b ys
  runs [] xs b R = record { answers = refl; valid = tt; heap = R }
  runs (y ∷ ys) xs b R =
      let f = call-whole xs b R y in
      let e : heap_after n rules (xs ++ y ∷ []) ≡ (step n (heap_after n rules xs) y).heap = heap-next n (new_heap rules) xs y in
      let b₁ = (call_reply n b y).book in
      let ih = subst (λ (H : Heap). RunRep n H (call_reply n b y).book ys) e (runs ys (xs ++ y ∷ []) b₁ (subst (λ (H : Heap). Represents n b₁ H) (sym e) f.heap)) in
      record { answers = cons f.answer ih.answers; valid = (f.valid, ih.valid); heap = ih.heap }
    where
      cons : {x y : Calls.Answer} {xs ys : List Calls.Answer} → x ≡ y → xs ≡ ys → x ∷ xs ≡ y ∷ ys
      cons e f = cc

  -- ---- from an opening on a book that is long enough
  module _ (fit : (c : ℕ) → Fit (rules c)) (b : List ℕ) (long : leb (words n) (length b) ≡ true) (xs : List Call) where
    whole : RunRep n (new_heap rules) (opened n rules b) xs
    whole = runs xs [] (opened n rules b) (opened-represents n rules b long fit)

    pub run-answers : answers_in (replies_from (call_reply n) (opened n rules b) xs) ≡ answers n rules xs
    run-answers = whole.answers

    pub run-represents : Represents n (book_from (call_reply n) (opened n rules b) xs) (heap_after n rules xs)
    run-represents = whole.heap

    pub run-valid : All (λ (r : Reply). r.code ≡ 13 → ⊥) (replies_from (call_reply n) (opened n rules b) xs)
    run-valid = whole.valid
