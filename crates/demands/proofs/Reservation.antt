-- The reservation of every history of the exported calls is the one that its calls and answers tell.
use Rattle.facts.proofs.Prelude.{ℕ, true, List, [], ◌∷◌, ◌↔◌, none, ◌≡◌, refl, sym, ap, ◌∙◌}
use Rattle.rules.specs.Rules.{rules_of}
use Rattle.model.specs.Calls as Calls
use Rattle.model.specs.Calls.{Call, contained}
use Rattle.model.specs.Arena.{Status, unasked, ready, disabled}
use Rattle.model.specs.History.{Event, events}
use Rattle.model.specs.Reservation.{reservation, reserved_from, reserved_next, Contained}
use Rattle.model.proofs.Theorems as Theorems
use Rattle.arena.specs.Load.{load_arena}
use Rattle.demands.specs.Run.{Opens, book_after, next, observed}
use Rattle.demands.specs.Start as Starts
use Rattle.demands.specs.Start.{Start, pages, rule_rows, lent}
use Rattle.demands.specs.Reservation.{Reserved}
use Rattle.demands.proofs.Histories.{run-represents, next-agrees}
use Rattle.demands.proofs.Observed.{bare, observed-is}
use Rattle.demands.proofs.Starts as Starting
use Rattle.demands.proofs.Starts.{as_opening}

-- it is told from calls and answers alone
bare-reserved : (s : Status) (vs : List Event) → reserved_from s (bare vs) ≡ reserved_from s vs
bare-reserved s [] = refl
bare-reserved s (v ∷ vs) = bare-reserved (reserved_next (record { call = v.call; answer = v.answer; run = none }) s) vs ∙ ap (λ t. reserved_from t vs) (same s)
  where
    same : (t : Status) → reserved_next (record { call = v.call; answer = v.answer; run = none }) t ≡ reserved_next v t
    same unasked = refl
    same ready = refl
    same disabled = refl

module _ (n : ℕ) (rows b : List ℕ) (o : Opens n rows b) (xs : List Call) where
  observed-reserved : reservation (events n (rules_of rows) xs) ≡ reservation (observed n rows b xs)
  observed-reserved = sym (ap reservation (observed-is n rows b o xs) ∙ bare-reserved unasked (events n (rules_of rows) xs))

  status-observed : (load_arena (book_after n rows b xs)).status ≡ reservation (observed n rows b xs)
  status-observed = ap (λ a. a.status) (run-represents n rows b o xs).arena.loads ∙ (Theorems.reserved n (rules_of rows) xs).status ∙ observed-reserved

  contains-observed : (k m : ℕ) → ((next n rows b xs (Calls.contains k m)).answer ≡ contained true) ↔ Contained n (reservation (observed n rows b xs)) k m
  contains-observed k m = rw ((next-agrees n rows b o xs (Calls.contains k m)).answer, sym observed-reserved) ((Theorems.reserved n (rules_of rows) xs).contains k m)

pub reserved : (s : Start) → Starts.Starts s → (xs : List Call) → Reserved s xs
reserved s o xs =
    let e = as_opening s o xs in
    let ys = Starts.calls s xs in
    record {
      status = rw (e.book, Starting.observed-is s o xs) (status-observed (pages s) (rule_rows s) (lent s) o ys);
      contains = λ k m. rw (e.book, Starting.observed-is s o xs) (contains-observed (pages s) (rule_rows s) (lent s) o ys k m);
    }
