-- The ways out of a trace's report.
use Rattle.facts.proofs.Prelude.{ℕ, ◌+◌, ◌-◌, ◌≤◌, ◌<◌, arith, List, [], ◌∷◌, ◌≡◌, refl, sym, ◌∙◌, ltb, length}
use Rattle.facts.proofs.Prelude.{paste, take-paste, drop-paste, length-paste, length-take-le, lt-ltb, le-ltb}
use lib.ListN as ListN
use borrow.Rule.Slice.PartMut.{put_mid}
use Rattle.std.proofs.lemmas.Slice.{put_mid-paste}
use Rattle.model.specs.declared.Figures.{Figures}
use Rattle.direct.specs.Answer.{Report, Reported, report_of}
use Rattle.trace.specs.declared.tally.Tally.{Tally}
use Rattle.std.proofs.Common.{Some, None}
use Rattle.trace.specs.way.Steps.{CarriedReport}
use Rattle.trace.proofs.StepWays.{or_true}

module _ (n : ℕ) (b fl : List ℕ) (t : Tally) (a : t.written ≤ length fl) where
  written : length (ListN.take t.written fl) ≡ t.written
  written = length-take-le t.written fl a

  pub report-full : length fl - t.written < 5 → CarriedReport None n b fl t fl
  report-full h bl = record { reason = rw (written, lt-ltb (length fl) (t.written + 5) (omega arith)); same = refl }

  pub report-unreported : (o : Report) (k : ℕ) → o ≡ report_of n b → o ≡ Report.Refused k → CarriedReport None n b fl t fl
  report-unreported o k e f bl =
      let g : report_of n b ≡ Report.Refused k = sym e ∙ f in
      record { reason = rw g (or_true (ltb (length fl) (length (ListN.take t.written fl) + 5))); same = refl }

  pub report-told : (o : Report) (f : Figures) (t' : Tally) (v : List ℕ) → o ≡ report_of n b → o ≡ Reported f → 5 ≤ length fl - t.written
      → t' ≡ record { at = t.at; written = t.written + 5; out = t.out; bytes = t.bytes; highest = t.highest }
      → v ≡ t.out ∷ t.bytes ∷ f.held ∷ f.idle ∷ t.highest ∷ [] → CarriedReport (Some t') n b fl t (put_mid t.written (t.written + 5 - t.written) fl v)
  report-told o f t' v e u h s x bl =
      let g : report_of n b ≡ Reported f = sym e ∙ u in
      let five = t.out ∷ t.bytes ∷ f.held ∷ f.idle ∷ t.highest ∷ [] in
      let all : 5 ≤ length five = omega arith in
      let room : t.written + 5 ≤ length fl = omega arith in
      let w : put_mid t.written (t.written + 5 - t.written) fl v ≡ paste fl t.written five 5 = put_mid-paste t.written (t.written + 5 - t.written) fl v five 5 x (omega arith) refl in
      rw (s, w) (record {
        free = rw (written, g, le-ltb (length fl) (t.written + 5) (omega arith));
        goes = rw (g, take-paste fl t.written five 5 a all);
        blocks = refl;
        figures = drop-paste fl t.written five 5 a all;
        further = (omega arith, omega arith);
        handed = λ l. l;
        fewer = λ l. l;
        written = λ l. rw (length-paste fl t.written five 5 room all) room;
      })
