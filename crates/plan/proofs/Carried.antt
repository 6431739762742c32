-- Every plan that is not refused can be carried out: one take after the other.
use Rattle.facts.proofs.Prelude.{ℕ, zero, suc, ◌+◌, ◌-◌, ◌<◌, arith, true, false, cond, List, [], ◌∷◌, some, ◌≡◌, refl, eqb, leb, ltb}
use Rattle.facts.proofs.Prelude.{length, replicate, leb-true, lt-ltb, ltb-true, ltb-false, All, every, by_cases, and_left, and_right}
use Rattle.classes.proofs.Shapes.{shape-sound}
use Rattle.model.specs.Calls as Calls
use Rattle.model.specs.Calls.{Call, names}
use Rattle.model.specs.History.{calls_of}
use Rattle.classes.specs.Sizes.{max_medium_size}
use Rattle.plan.specs.Plan.{class_count, class_of, bad_plan}
use Rattle.plan.specs.Fits.{TakePre, Granted, small, medium, Carries, Carried}
use Rattle.plan.proofs.ClassOf.{class-known}
use Rattle.plan.proofs.FaultSteps.{fine}

abbrev room : List ℕ
room = replicate 64 0

abbrev taking : ℕ → Call
taking k = cond (ltb k 64) (Calls.take_blocks k 15 room) (Calls.medium_take_blocks (k - 64) 15 room)

taking-granted : (k : ℕ) → k < class_count → Granted (taking k)
taking-granted k h =
    by_cases (ltb k 64)
    (λ e. rw e (small k 15 room (ltb-true k 64 e) (pre k)))
    (λ e. let l = ltb-false k 64 e in rw e (medium (k - 64) 15 room (omega arith) (pre (64 + (k - 64)))))
  where
    pre : (c : ℕ) → TakePre c 15 room
    pre c = record { low = omega arith; reserves = refl; commits = refl; long = (shape-sound c).limited }

-- it names its class
taking-names : (k : ℕ) → k < class_count → names (taking k) ≡ some (record { class = k; request = Calls.take 15 room })
taking-names k h =
    by_cases (ltb k 64)
    (λ e. rw e (rw e))
    (λ e. let l = ltb-false k 64 e in let z : 64 + (k - 64) ≡ k = omega arith in rw e (rw (lt-ltb (k - 64) 12 (omega arith), z)))

-- t takes of class k before a history
abbrev many : ℕ → ℕ → List Call → List Call
many k zero xs = xs
many k (suc t) xs = taking k ∷ many k t xs

many-granted : (k t : ℕ) → k < class_count → (xs : List Call) → All Granted xs → All Granted (many k t xs)
many-granted k zero h xs g = g
many-granted k (suc t) h xs g = (taking-granted k h, many-granted k t h xs g)

many-count : (k t : ℕ) → k < class_count → (xs : List Call) (c : ℕ) → length (calls_of c (many k t xs)) ≡ cond (eqb k c) t 0 + length (calls_of c xs)
many-count k zero h xs c = by_cases (eqb k c) (λ e. rw e (omega arith)) (λ e. rw e (omega arith))
many-count k (suc t) h xs c =
    let ih = many-count k t h xs c in
    rw (taking-names k h)
    (by_cases (eqb k c)
    (λ e. let i : length (calls_of c (many k t xs)) ≡ t + length (calls_of c xs) = rw e at ih in rw e (omega arith))
    (λ e. let i : length (calls_of c (many k t xs)) ≡ 0 + length (calls_of c xs) = rw e at ih in rw e (omega arith)))

abbrev all_of : List ℕ → List ℕ → List Call
all_of [] ts = []
all_of (k ∷ ks) [] = []
all_of (k ∷ ks) (t ∷ ts) = many (class_of k) t (all_of ks ts)

first-known : (k : ℕ) (ks : List ℕ) → every (λ k. leb k max_medium_size) (k ∷ ks) ≡ true → class_of k < class_count
first-known k ks e = class-known k (leb-true k max_medium_size (and_left (leb k max_medium_size) (every (λ k. leb k max_medium_size) ks) e))

all-granted : (ks ts : List ℕ) → every (λ k. leb k max_medium_size) ks ≡ true → All Granted (all_of ks ts)
all-granted [] ts e = tt
all-granted (k ∷ ks) [] e = tt
all-granted (k ∷ ks) (t ∷ ts) e =
    many-granted (class_of k) t (first-known k ks e) (all_of ks ts)
    (all-granted ks ts (and_right (leb k max_medium_size) (every (λ k. leb k max_medium_size) ks) e))

all-carry : (ks ts : List ℕ) → every (λ k. leb k max_medium_size) ks ≡ true → Carries ks ts (all_of ks ts)
all-carry [] ts e c = refl
all-carry (k ∷ ks) [] e c = refl
all-carry (k ∷ ks) (t ∷ ts) e c =
    omega (
      arith,
      many-count (class_of k) t (first-known k ks e) (all_of ks ts) c,
      all-carry ks ts (and_right (leb k max_medium_size) (every (λ k. leb k max_medium_size) ks) e) c,
    )

pub carried : (ks ts : List ℕ) → bad_plan ks ts ≡ false → Carried ks ts
carried ks ts e =
    let f = fine ks ts e in
    record { calls = all_of ks ts; granted = all-granted ks ts f.known; carries = all-carry ks ts f.known }
