-- The ways out of the exported trace.
use Rattle.facts.proofs.Prelude.{ℕ, arith, List, [], ◌∷◌, ◌≡◌, refl, leb, length, leb-true, eq-eqb, ne_eqb, and_right}
use Rattle.std.proofs.Common.{w32, Fits}
use Rattle.words.specs.declared.refusal.Refusal.{Refusal}
use Rattle.words.specs.Refusal.{number_of}
use Rattle.words.proofs.Refusals.{positive}
use Rattle.rules.specs.Rules.{rules_of}
use Rattle.fields.specs.Field.{words}
use Rattle.fields.specs.Ranges.{max_pages, length_fault}
use Rattle.arena.specs.Open.{opened}
use Rattle.trace.specs.declared.course.Course.{Course}
use Rattle.trace.specs.Words.{begins, carried, room_of, trace_on}
use Rattle.trace.specs.way.Pre.{BookPre}
use Rattle.trace.specs.way.Steps.{lent}
use Rattle.trace.specs.way.Course.{Ran, end_of}
use Rattle.vigbuso.specs.Trace.{TraceEnds}
use Rattle.vigbuso.proofs.DirectSteps.{sides, open_fits}

module _ (b : List ℕ) (n : ℕ) where
  pub trace-refused : (ws bl fl dn : List ℕ) (f : Refusal) → number_of f ≡ length_fault n (length b) → TraceEnds (trace_on b n ws bl fl dn) (number_of f) b bl fl dn
  unfolding trace_on
  trace-refused ws bl fl dn f e =
      let d : length_fault n (length b) ≡ 0 → ⊥ = λ z. omega (arith, positive f, e) in
      rw (e, ne_eqb (length_fault n (length b)) 0 d) (record { code = refl; book = refl; blocks = refl; figures = refl; done = refl })

  module _ (e : 0 ≡ length_fault n (length b)) where
    pub trace-fits : Fits w32 n
    trace-fits = open_fits b n 0 e refl

    pub trace-pre : BookPre n b
    trace-pre =
        let s = sides b n 0 e refl in
        record { few = leb-true n max_pages (and_right (leb 1 n) _ s.0); long = leb-true (words n) (length b) s.1 }

    module _ (ws bl fl dn : List ℕ) (r : Course) (b' bl' fl' : List ℕ) (x : Ran r n (lent b bl fl) (lent b' bl' fl') ws) where
      came : r.carried ≡ carried n (room_of bl fl) (begins (opened n (rules_of []) b)) ws
      came = let h = x.done in cc

      ended : (c : ℕ) → c ≡ (end_of n (lent b bl fl) ws).code → TraceEnds (trace_on b n ws bl fl dn) c b' bl' fl' (r.carried ∷ r.tally.at ∷ r.tally.written ∷ [])
      unfolding trace_on
      ended c f = rw (← e) (record { code = f; book = x.book; blocks = x.blocks; figures = x.figures; done = x.done })

      pub trace-all : r.carried ≡ length ws → TraceEnds (trace_on b n ws bl fl dn) 0 b' bl' fl' (r.carried ∷ r.tally.at ∷ r.tally.written ∷ [])
      trace-all h = ended 0 (rw (← came, eq-eqb r.carried (length ws) h))

      pub trace-stopped : (r.carried ≡ length ws → ⊥) → TraceEnds (trace_on b n ws bl fl dn) 16 b' bl' fl' (r.carried ∷ r.tally.at ∷ r.tally.written ∷ [])
      trace-stopped h = ended 16 (rw (← came, ne_eqb r.carried (length ws) h))
