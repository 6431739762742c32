use Rattle.std.proofs.Common.{⊎_elim, ne_eqb, eq-eqb, le-leb, refl}
use borrow.Author.Tests.{lt-leb}
use Rattle.replay.proofs.Reading.{blank, line-end, digit, first, other, above, below}
use Rattle.replay.proofs.line.read.Goals as goal

pub returns-then-b-eq32 : goal.returns-then-b-eq32
returns-then-b-eq32 c = ⊎_elim (λ s. blank _ _ s) (λ w. line-end _ _ w.0 (eq-eqb _ 10 w.1)) c.then-b-eq32.either

pub returns-then-b-le57 : goal.returns-then-b-le57
returns-then-b-le57 c = rw c.from.ensures (digit _ _ c.if-b-eq32.false (ne_eqb _ 10 c.if-b-eq10.false) c.if-b-ge48.true (le-leb _ 57 c.if-b-le57.true) _ refl)

pub returns-then-value-eq0 : goal.returns-then-value-eq0
returns-then-value-eq0 c =
    rw c.from-then-value-eq0.ensures (first _ _ c.if-b-eq32.false (ne_eqb _ 10 c.if-b-eq10.false) (⊎_elim (λ w. above _ w.0 (lt-leb _ 57 w.1)) (λ w. below _ w) c.else-b-ge48.either) c.if-value-eq0.true)

pub returns : goal.returns
returns c =
    other _ _ c.if-b-eq32.false (ne_eqb _ 10 c.if-b-eq10.false) (⊎_elim (λ w. above _ w.0 (lt-leb _ 57 w.1)) (λ w. below _ w) c.else-b-ge48.either) c.if-value-eq0.false _ refl
