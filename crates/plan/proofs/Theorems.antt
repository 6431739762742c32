-- A plan's total is within the arena exactly if all its takes succeed; one more take; the order of entries (document 02, A.1).
use Rattle.facts.proofs.Prelude.{ℕ, ◌+◌, ◌≤◌, arith, true≢false, List, [], ◌∷◌, ◌++◌, map, ◌↔◌, some, ◌≡◌}
use Rattle.facts.proofs.Prelude.{sym, ap, ◌∙◌, subst, fun_ext, eqb, length, eqb-true, eq-eqb, All, by_cases}
use Rattle.rules.specs.Rules.{Rules}
use Rattle.model.specs.Calls as Calls
use Rattle.model.specs.Calls.{Call, names}
use Rattle.model.specs.Heap.{Heap, new_heap, step}
use Rattle.model.specs.History.{events_from, answers, calls_of}
use Rattle.model.proofs.Update.{other_way}
use Rattle.plan.specs.Plan.{pages_of, class_of, takes_of, plan_total}
use Rattle.plan.specs.Fits.{Granted, Gives, Carries, OneMore, Planned}
use Rattle.plan.proofs.Rounding.{Moves}
use Rattle.plan.proofs.PageSums.{bump, bump-more, pages-up}
use Rattle.plan.proofs.HeapSteps.{HeapAt, StepIs, fits, fails, Named, granted-names, step_is, new-at}
use Rattle.plan.proofs.Carried.{carried}

-- takes done and takes to come
abbrev all : (ℕ → ℕ) → List Call → ℕ → ℕ
all f xs c = f c + length (calls_of c xs)

all_nil : (f : ℕ → ℕ) → all f [] ≡ f
all_nil f = fun_ext (λ c. omega arith)

all_cons : (f : ℕ → ℕ) (x : Call) (xs : List Call) (d : Calls.Named) → names x ≡ some d → all f (x ∷ xs) ≡ all (bump f d.class) xs
all_cons f x xs d e =
    fun_ext (λ c. rw e
    (by_cases (eqb d.class c)
    (λ b. let k = eqb-true d.class c b in rw (b, eq-eqb c d.class (sym k), k) (omega arith))
    (λ b. rw (b, other_way d.class c b))))

-- every take answers a block
abbrev AllGive : ℕ → Heap → List Call → Type 0
AllGive n H xs = All Gives (map (λ e. e.answer) (events_from n H xs))

fits_next : (n : ℕ) (f : ℕ → ℕ) (H : Heap) (x : Call) (xs : List Call) (g : Named x)
    → (HeapAt n (bump f g.class) (step n H x).heap → AllGive n (step n H x).heap xs ↔ (pages_of (all (bump f g.class) xs) ≤ n))
    → StepIs n f g.class (step n H x) → AllGive n H (x ∷ xs) ↔ (pages_of (all f (x ∷ xs)) ≤ n)
fits_next n f H x xs g ih (fits l y z) = rw (all_cons f x xs _ g.named) ((λ a. (ih z).0 a.1), λ h. (y, (ih z).1 h))
fits_next n f H x xs g ih (fails l y) =
    rw (all_cons f x xs _ g.named)
    ((λ a. absurd (true≢false (sym y ∙ a.0))), λ h. absurd (omega (arith, pages-up (bump f g.class) (λ c. length (calls_of c xs)))))

fits-from : (n : ℕ) (f : ℕ → ℕ) (H : Heap) → HeapAt n f H → (xs : List Call) → All Granted xs → AllGive n H xs ↔ (pages_of (all f xs) ≤ n)
fits-from n f H w [] g = rw (all_nil f) ((λ u. omega (arith, w.frontier, w.within)), λ h. tt)
fits-from n f H w (x ∷ xs) g =
    let d = granted-names x g.0 in
    fits_next n f H x xs d (λ z. fits-from n (bump f d.class) (step n H x).heap z xs g.1) (step_is n f H w x d)

plan-fits : (n : ℕ) (rules : Rules) (ks ts : List ℕ) (xs : List Call) → All Granted xs → Carries ks ts xs → All Gives (answers n rules xs) ↔ (plan_total ks ts ≤ n)
unfolding plan_total
plan-fits n rules ks ts xs g e =
    let same : all (λ c. 0) xs ≡ takes_of ks ts = fun_ext (λ c. omega (arith, e c)) in
    subst (λ f. All Gives (answers n rules xs) ↔ (pages_of f ≤ n)) same (fits-from n (λ c. 0) (new_heap rules) (new-at n rules) xs g)

plan-one_more : (c : ℕ) (ks ts ks' ts' : List ℕ) → OneMore c ks ts ks' ts' → Moves c (plan_total ks ts) (plan_total ks' ts')
unfolding plan_total
plan-one_more c ks ts ks' ts' m =
    let same : bump (takes_of ks ts) c ≡ takes_of ks' ts' =
    fun_ext (λ d.
    by_cases (eqb c d)
    (λ b. let k = eqb-true c d b in rw (m d, b, eq-eqb d c (sym k), k) (omega arith))
    (λ b. rw (m d, b, other_way c d b) (omega arith))) in
    subst (λ f. Moves c (pages_of (takes_of ks ts)) (pages_of f)) same (bump-more (takes_of ks ts) c)

-- entries behind equally long beginnings count alike
module _ (ks ts ks' ts' : List ℕ) (same : (c : ℕ) → takes_of ks ts c ≡ takes_of ks' ts' c) where
  behind : (xs ys : List ℕ) → length xs ≡ length ys → (c : ℕ) → takes_of (xs ++ ks) (ys ++ ts) c ≡ takes_of (xs ++ ks') (ys ++ ts') c
  behind [] [] e c = same c
  behind [] (y ∷ ys) e c = absurd (omega arith)
  behind (x ∷ xs) [] e c = absurd (omega arith)
  behind (x ∷ xs) (y ∷ ys) e c = omega (arith, behind xs ys (omega arith) c)

  total-behind : (xs ys : List ℕ) → length xs ≡ length ys → plan_total (xs ++ ks) (ys ++ ts) ≡ plan_total (xs ++ ks') (ys ++ ts')
  unfolding plan_total
  total-behind xs ys e = ap pages_of (fun_ext (behind xs ys e))

swapped : (j k s t : ℕ) (ks ts : List ℕ) (c : ℕ) → takes_of (j ∷ k ∷ ks) (s ∷ t ∷ ts) c ≡ takes_of (k ∷ j ∷ ks) (t ∷ s ∷ ts) c
swapped j k s t ks ts c = omega arith

joined : (j k s t : ℕ) → class_of j ≡ class_of k → (ks ts : List ℕ) (c : ℕ) → takes_of (j ∷ k ∷ ks) (s ∷ t ∷ ts) c ≡ takes_of (k ∷ ks) ((s + t) ∷ ts) c
joined j k s t e ks ts c = rw e (by_cases (eqb (class_of k) c) (λ b. rw b (omega arith)) (λ b. rw b (omega arith)))

pub planned : Planned
planned = record {
  fits = plan-fits;
  one_more = plan-one_more;
  swap = λ xs ys ks ts j k s t e. total-behind _ _ _ _ (swapped j k s t ks ts) xs ys e;
  split = λ xs ys ks ts j k s t d e. total-behind _ _ _ _ (joined j k s t d ks ts) xs ys e;
  carried = carried;
}
