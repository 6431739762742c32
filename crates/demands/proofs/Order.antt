-- Document 02, A.8, holds of the exported calls: the answers of a history that goes on are the model's.
use Rattle.facts.proofs.Prelude.{ℕ, List, [], ◌∷◌, ◌++◌, append_assoc, map, Option, ◌≡◌, refl, sym, ap, ap₂, ◌∙◌, subst}
use Rattle.rules.specs.Rules.{Rules}
use Rattle.model.specs.declared.Hole.{Hole}
use Rattle.model.specs.Calls.{Call, Answer}
use Rattle.model.specs.Heap.{Heap, new_heap}
use Rattle.model.specs.Order.{SameHeap, counts_aside}
use Rattle.model.specs.History.{Event, events_from, heap_from, heap_after}
use Rattle.model.proofs.Theorems as Model
use Rattle.pool.proofs.OnHeap.{heap-append}
use Rattle.refinement.specs.Run.{replies_from, book_from, answers_in}
use Rattle.refinement.proofs.ArenaReached.{heap-next}
use Rattle.demands.specs.Call.{call}
use Rattle.demands.specs.Start.{Start, pages, rules, begun, did, Starts, calls, book_after}
use Rattle.demands.specs.Order.{Orderless}
use Rattle.demands.proofs.Starts.{next-agrees}
use Rattle.demands.proofs.Parking.{rules-after}

book-next : (b : List ℕ) (xs : List Call) (x : Call) → book_from call b (xs ++ x ∷ []) ≡ (call (book_from call b xs) x).book
book-next b [] x = refl
book-next b (y ∷ xs) x = book-next (call b y).book xs x

-- of a history that goes on: the answers, a report's three counts aside, and the runs
abbrev answers_after : ℕ → Heap → List Call → List Answer
answers_after n H zs = map (λ (e : Event). counts_aside e.answer) (events_from n H zs)

abbrev runs_after : ℕ → Heap → List Call → List (Option Hole)
runs_after n H zs = map (λ (e : Event). e.run) (events_from n H zs)

module _ (s : Start) (o : Starts s) where
  abbrev heap : List Call → Heap
  heap ys = heap_after (pages s) (rules s) ys

  answers-on : (zs xs : List Call) → map counts_aside (answers_in (replies_from call (book_after s xs) zs)) ≡ answers_after (pages s) (heap (calls s xs)) zs
  answers-on [] xs = refl
  answers-on (z ∷ zs) xs =
      ap₂ (λ (a : Answer) (vs : List Answer). counts_aside a ∷ vs) (next-agrees s o xs z).answer
      (ap (λ (d : List ℕ). map counts_aside (answers_in (replies_from call d zs))) (sym (book-next (begun s) xs z))
      ∙ answers-on zs (xs ++ z ∷ [])
      ∙ ap (λ (ys : List Call). answers_after (pages s) (heap ys) zs) (sym (append_assoc (did s) xs (z ∷ [])))
      ∙ ap (λ (H : Heap). answers_after (pages s) H zs) (heap-next (pages s) (new_heap (rules s)) (calls s xs) z))

  heap-on : (xs zs : List Call) → heap (calls s (xs ++ zs)) ≡ heap_from (pages s) (heap (calls s xs)) zs
  heap-on xs zs = ap heap (sym (append_assoc (did s) xs zs)) ∙ heap-append (pages s) (new_heap (rules s)) (calls s xs) zs

-- the model's, of heaps that have one length and one set of limits by different names
record Alike (n m : ℕ) (H K : Heap) (zs : List Call) : Type 0 where
  answers : answers_after n H zs ≡ answers_after m K zs
  runs : runs_after n H zs ≡ runs_after m K zs
  stays : SameHeap (heap_from n H zs) (heap_from m K zs)

AllAlike : ℕ → Rules → ℕ → Rules → Type 0
AllAlike n r m l = (xs ys : List Call) → SameHeap (heap_after n r xs) (heap_after m l ys) → (zs : List Call) → Alike n m (heap_after n r xs) (heap_after m l ys) zs

alike-by : (n m : ℕ) (r l : Rules) → n ≡ m → r ≡ l → AllAlike n r m l
unfolding AllAlike
alike-by n m r l e f =
    subst (λ (k : ℕ). AllAlike n r k l) e
    (subst (λ (k : Rules). AllAlike n r n k) f
    (λ xs ys w zs. let k = Model.orderless n r xs ys in record { answers = k.alike w zs; runs = k.runs w zs; stays = k.stays w zs }))

pub orderless : Orderless
unfolding AllAlike
orderless = record {
  after = λ s₁ s₂ o₁ o₂ e xs ys w zs.
      let same : rules s₁ ≡ rules s₂ = sym (rules-after (pages s₁) (rules s₁) (calls s₁ xs)) ∙ w.rules ∙ rules-after (pages s₂) (rules s₂) (calls s₂ ys) in
      let k = alike-by (pages s₁) (pages s₂) (rules s₁) (rules s₂) e same (calls s₁ xs) (calls s₂ ys) w zs in
      record {
        alike = answers-on s₁ o₁ zs xs ∙ k.answers ∙ sym (answers-on s₂ o₂ zs ys);
        runs = k.runs;
        stays = rw (heap-on s₁ o₁ xs zs, heap-on s₂ o₂ ys zs) k.stays;
      };
}
