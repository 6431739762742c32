use Rattle.std.proofs.Common.{◌≡◌, ◌∙◌, rules, tests, eqb, arith}
use Rattle.std.proofs.lemmas.Iterator.{YieldsList-from_slice}
use Rattle.std.proofs.lemmas.Iterator.Consumers.{count_from_yields_List}
use Rattle.std.proofs.lemmas.Iterator.Search.{YieldsList-from_take_while}
use Rattle.std.proofs.lemmas.List.Folds.{length-prefix_len}
use Rattle.pages.specs.Stack.{page_at}
use Rattle.chunks.specs.way.Tally.{run_on}
use Rattle.chunks.proofs.CountSteps.{run-prefix, run-le}
use Rattle.chunks.proofs.counts.run_on.Goals as goal

pub returns : goal.returns
returns c =
    let run : c.count.result ≡ run_on c.args.p c.args.list.now =
    count_from_yields_List c.take_while.result _ c.count.ensures.ran (YieldsList-from_take_while _ (λ w. eqb (page_at w) c.args.p) (YieldsList-from_slice c.args.list.now cc) c.take_while.ensures.closure c.take_while.ensures.done (λ x b q k. search (rules, tests)))
    ∙ length-prefix_len (λ w. eqb (page_at w) c.args.p) c.args.list.now
    ∙ run-prefix c.args.p c.args.list.now
    in
    record { run = run; within = omega (arith, run, run-le c.args.p c.args.list.now) }
