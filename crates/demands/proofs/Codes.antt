-- A reply's number is 0 exactly if its answer is no refusal; so a call that names a class is refused exactly by number 3 or if the model's
-- class refuses it.
--     code-exactly                       this for every call, on any book
--     class_ask, class_run, class_answer    what the class asks of the arena, the run that it is given, and its answer
--     next-host                          one that is not refused passed number 3
--     step-class, next-answer            one that passed it goes to its class, whose answer is the reply's; `next-class`, on the words
--     next-exactly                       and then it is refused exactly if the class refuses it
use Rattle.facts.proofs.Prelude.{ℕ, arith, false, cond, false≢true, List, ◌↔◌, Option, some, ◌≡◌, refl, sym, ap, ◌∙◌, eqb, eqb-true, by_cases}
use Rattle.words.specs.Host.{bad_host}
use Rattle.classes.specs.Shape.{shape_of}
use Rattle.rules.specs.Rules.{rules_of}
use Rattle.model.specs.Calls as Calls
use Rattle.model.specs.Calls.{Call, Answer, Named, names, way_of, host_of, Request, refused, is_refused}
use Rattle.model.specs.Class.{Ask, serve}
use Rattle.model.specs.Chunks.{answer}
use Rattle.model.specs.Heap.{Heap, Outcome, offer, finish, interact, class_call, step}
use Rattle.model.specs.History.{heap_after}
use Rattle.model.proofs.Ways.{host_of_lem}
use Rattle.model.proofs.HeapLaws.{run-answered}
use Rattle.vigbuso.specs.Direct.{commit_on}
use Rattle.refinement.specs.Run.{class_reply, call_reply}
use Rattle.demands.specs.Call.{call}
use Rattle.demands.specs.Run.{Opens, book_after, next}
use Rattle.demands.proofs.Histories.{next-is, next-agrees}

-- ---- a class's part in a call that names it
abbrev pub class_ask : Heap → Named → Ask
class_ask H d = answer (shape_of d.class) (H.rules d.class) (H.classes d.class) d.request

abbrev pub class_run : ℕ → Heap → Named → Option ℕ
class_run n H d = (offer n (host_of d.request) H.arena (class_ask H d)).run

abbrev pub class_answer : ℕ → Heap → Named → Answer
class_answer n H d = (serve (class_ask H d) (class_run n H d)).answer

-- ---- number and answer
pub zero-exactly : (k : ℕ) (x : Answer) → is_refused x ≡ false → (k ≡ 0) ↔ (is_refused (cond (eqb k 0) x (refused k)) ≡ false)
zero-exactly k x u = (λ e. rw e u, λ y. by_cases (eqb k 0) (λ z. eqb-true k 0 z) (λ z. absurd (false≢true (sym (rw z at y)))))

class-exactly : (n : ℕ) (b : List ℕ) (c : ℕ) (r : Request) → ((class_reply n b c r).code ≡ 0) ↔ (is_refused (class_reply n b c r).answer ≡ false)
class-exactly n b c (Calls.take h l) = zero-exactly _ _ refl
class-exactly n b c (Calls.give_back h ws) = zero-exactly _ _ refl
class-exactly n b c (Calls.give_chunks h ws gs fs) = zero-exactly _ _ refl

-- every call, on any book
pub code-exactly : (b : List ℕ) (x : Call) → ((call b x).code ≡ 0) ↔ (is_refused (call b x).answer ≡ false)
unfolding call
code-exactly b (Calls.take_blocks c h l) = zero-exactly _ _ refl
code-exactly b (Calls.medium_take_blocks c h l) = zero-exactly _ _ refl
code-exactly b (Calls.release_blocks c h ws) = zero-exactly _ _ refl
code-exactly b (Calls.medium_release_blocks c h ws) = zero-exactly _ _ refl
code-exactly b (Calls.pooled_take c h l) = zero-exactly _ _ refl
code-exactly b (Calls.pooled_release c h ws) = zero-exactly _ _ refl
code-exactly b (Calls.release_bin_chunks c h ws gs fs) = zero-exactly _ _ refl
code-exactly b (Calls.commit h m) = let w = commit_on b h m in zero-exactly w.code _ (run-answered w.run w.fresh)
code-exactly b (Calls.grow_frontier h q old new) = zero-exactly _ _ refl
code-exactly b (Calls.release h q m) = zero-exactly _ _ refl
code-exactly b (Calls.contains o k) = (λ e. refl, λ e. refl)
code-exactly b Calls.report = zero-exactly _ _ refl

-- ---- on a heap
module _ (n : ℕ) (H : Heap) (x : Call) (d : Named) (e : names x ≡ some d) where
  pub step-class : bad_host (host_of d.request) ≡ false → step n H x ≡ class_call n H d.class d.request
  unfolding step way_of
  step-class good = rw (host_of_lem x d e, good, e)

  pub step-served : is_refused (step n H x).answer ≡ false → (bad_host (host_of d.request) ≡ false) × ((step n H x).answer ≡ class_answer n H d)
  unfolding step way_of class_call interact finish
  step-served u = by_cases (bad_host (host_of d.request)) (λ t. absurd (false≢true (sym (rw (host_of_lem x d e, t) at u)))) (λ t. (t, rw (host_of_lem x d e, t, e)))

-- ---- on the words
module _ (n : ℕ) (rows b : List ℕ) (o : Opens n rows b) (xs : List Call) (x : Call) (d : Named) (e : names x ≡ some d) where
  abbrev heap : Heap
  heap = heap_after n (rules_of rows) xs

  -- number 3
  pub next-host : (next n rows b xs x).code ≡ 0 → bad_host (host_of d.request) ≡ false
  unfolding call_reply way_of
  next-host z =
      by_cases (bad_host (host_of d.request))
      (λ t. absurd (let y = rw (next-is n rows b o xs x, host_of_lem x d e, t) at z in omega arith))
      (λ t. t)

  module _ (good : bad_host (host_of d.request) ≡ false) where
    pub next-answer : (next n rows b xs x).answer ≡ class_answer n heap d
    unfolding class_call interact finish
    next-answer = (next-agrees n rows b o xs x).answer ∙ ap (λ (y : Outcome). y.answer) (step-class n heap x d e good)

    pub next-class : next n rows b xs x ≡ class_reply n (book_after n rows b xs) d.class d.request
    unfolding call_reply way_of
    next-class = rw (next-is n rows b o xs x, host_of_lem x d e, good, e)

    pub next-exactly : ((next n rows b xs x).code ≡ 0) ↔ (is_refused (class_answer n heap d) ≡ false)
    next-exactly = rw (← next-answer, next-class) (class-exactly n (book_after n rows b xs) d.class d.request)
