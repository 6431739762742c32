-- Document 02, A.5, holds of the exported calls: a report after a history answers the model's figures.
use Rattle.facts.proofs.Prelude.{ℕ, cond, false≢true, List, ◌≡◌, refl, sym, ap, ◌∙◌, subst, eqb, eqb-true, by_cases}
use Rattle.model.specs.declared.Figures.{Figures}
use Rattle.model.specs.Calls as Calls
use Rattle.model.specs.Calls.{Call, refused, reported, is_refused, way_of}
use Rattle.model.specs.Heap.{Heap, figures, direct_call, step}
use Rattle.model.specs.History.{heap_after}
use Rattle.model.specs.Demands.{Figured}
use Rattle.model.proofs.Theorems.{figured}
use Rattle.vigbuso.specs.Direct.{report_on, figures_in, ReportEnds}
use Rattle.demands.specs.Start.{Start, pages, rules, Starts, calls, book_after}
use Rattle.demands.specs.Contracts as Observes
use Rattle.demands.specs.Idle.{Idle}
use Rattle.demands.proofs.Contracts.{observes_call}
use Rattle.demands.proofs.Starts.{next-agrees}

pub report-answer : (n : ℕ) (H : Heap) → (step n H Calls.report).answer ≡ reported (figures n H)
unfolding step way_of direct_call
report-answer n H = refl

same-figures : (f g : Figures) → reported f ≡ reported g → f ≡ g
same-figures f g e = cc

module _ (s : Start) (o : Starts s) (xs : List Call) (r : ℕ) (fs fs' : List ℕ) (e : ReportEnds (report_on (book_after s xs)) r fs fs') where
  abbrev counted : Figures
  counted = figures (pages s) (heap_after (pages s) (rules s) (calls s xs))

  observed : cond (eqb r 0) (reported (figures_in fs')) (refused r) ≡ reported counted
  observed = ap (λ w. w.answer) (observes_call (Observes.report r fs fs' e)) ∙ (next-agrees s o xs Calls.report).answer ∙ report-answer (pages s) (heap_after (pages s) (rules s) (calls s xs))

  pub idle : Idle s xs r fs'
  idle =
      by_cases (eqb r 0)
      (λ t. record {
        unrefused = eqb-true r 0 t;
        figured = subst (λ f. Figured (pages s) (rules s) (calls s xs) f) (sym (same-figures (figures_in fs') counted (rw t at observed))) (figured (pages s) (rules s) (calls s xs));
      })
      (λ t. absurd (false≢true (sym (ap is_refused (rw t at observed)))))
