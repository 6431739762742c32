-- A plan's total against the takes of a history (document 02, A.1), as statements on the model.
use Rattle.std.specs.Prelude.{ℕ, ◌+◌, ◌≤◌, ◌<◌, List, ◌∷◌, ◌++◌, ◌⊎◌, ◌↔◌, ◌≡◌, true, false, cond, eqb, length}
use Rattle.facts.specs.Lists.{All, is_nil}
use Rattle.words.specs.Host.{host_max, reservation_granted, commit_granted}
use Rattle.classes.specs.Shape.{shape_of}
use Rattle.rules.specs.Rules.{Rules}
use Rattle.model.specs.Calls.{Call, Answer, take_blocks, medium_take_blocks, blocks_of}
use Rattle.model.specs.History.{answers, calls_of}
use Rattle.plan.specs.Plan.{class_of, takes_of, plan_total, bad_plan}

-- "every host answer granted", and the lent list is long enough. A take discards nothing: bits 2 and 3 may be anything
pub record TakePre (c h : ℕ) (l : List ℕ) : Type 0 where
  pub low : h ≤ host_max
  pub reserves : reservation_granted h ≡ true
  pub commits : commit_granted h ≡ true
  pub long : (shape_of c).batch ≤ length l

-- a take of a class
pub data Granted : Call → Type 0 where
  small : (c h : ℕ) (l : List ℕ) → c < 64 → TakePre c h l → Granted (take_blocks c h l)
  medium : (c h : ℕ) (l : List ℕ) → c < 12 → TakePre (64 + c) h l → Granted (medium_take_blocks c h l)

-- the take succeeds: its answer has at least one block
abbrev pub Gives : Answer → Type 0
Gives a = is_nil (blocks_of a) ≡ false

-- the takes of the history are the plan's, in whatever order
abbrev pub Carries : List ℕ → List ℕ → List Call → Type 0
Carries ks ts xs = (c : ℕ) → length (calls_of c xs) ≡ takes_of ks ts c

-- the second plan has the takes of the first, and one more of class c
abbrev pub OneMore : ℕ → List ℕ → List ℕ → List ℕ → List ℕ → Type 0
OneMore c ks ts ks' ts' = (d : ℕ) → takes_of ks' ts' d ≡ takes_of ks ts d + cond (eqb c d) 1 0

-- a history that carries a plan
pub record Carried (ks ts : List ℕ) : Type 0 where
  pub calls : List Call
  pub granted : All Granted calls
  pub carries : Carries ks ts calls

pub record Planned : Type 0 where
  -- "all takes succeed, in whatever order, exactly when the total is within the arena"; whatever the parking rules, since nothing is released
  pub fits : (n : ℕ) (rules : Rules) (ks ts : List ℕ) (xs : List Call) → All Granted xs → Carries ks ts xs → All Gives (answers n rules xs) ↔ (plan_total ks ts ≤ n)
  -- "One more take moves the total by no more than one run of that class": by none, or by just one run
  pub one_more : (c : ℕ) (ks ts ks' ts' : List ℕ) → OneMore c ks ts ks' ts'
      → (plan_total ks' ts' ≡ plan_total ks ts) ⊎ (plan_total ks' ts' ≡ plan_total ks ts + (shape_of c).pages)
  -- two neighbouring entries change places, or an entry is split in two, of any sizes of its class: the same total
  pub swap : (xs ys ks ts : List ℕ) (j k s t : ℕ) → length xs ≡ length ys
      → plan_total (xs ++ (j ∷ k ∷ ks)) (ys ++ (s ∷ t ∷ ts)) ≡ plan_total (xs ++ (k ∷ j ∷ ks)) (ys ++ (t ∷ s ∷ ts))
  pub split : (xs ys ks ts : List ℕ) (j k s t : ℕ) → class_of j ≡ class_of k → length xs ≡ length ys
      → plan_total (xs ++ (j ∷ k ∷ ks)) (ys ++ (s ∷ t ∷ ts)) ≡ plan_total (xs ++ (k ∷ ks)) (ys ++ ((s + t) ∷ ts))
  -- nothing here is said of no history: every plan that is not refused has one that carries it
  pub carried : (ks ts : List ℕ) → bad_plan ks ts ≡ false → Carried ks ts
