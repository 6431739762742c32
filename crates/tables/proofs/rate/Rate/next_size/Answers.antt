use Rattle.facts.proofs.Prelude.{◌*◌, refl, ◌∙◌}
use Rattle.tables.specs.Table.{next_size}
use Rattle.tables.proofs.Sizes.{quotient_is, whole_is, cut_is}
use Rattle.tables.proofs.rate.Rate.next_size.Goals as goal

pub returns-clause-same : goal.returns-clause-same
unfolding next_size
returns-clause-same c =
    let grown = c.div_ceil-grown.ensures ∙ quotient_is (c.args.size * c.args.self.a) c.args.self.b c.args.self.bounded.positive in
    let whole = c.next_multiple_of-whole.ensures.value ∙ whole_is c.div_ceil-grown.result in
    c.min.ensures ∙ (cut_is c.next_multiple_of-whole.result c.args.self.top ∙ rw (whole, grown) refl)
