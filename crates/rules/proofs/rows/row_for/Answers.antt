use Rattle.facts.proofs.Prelude.{rules, ◌∙◌, sym}
use borrow.Author.Tests.{tests}
use Rattle.std.proofs.lemmas.Iterator.{YieldsList-from_slice, YieldsList-from_map}
use Rattle.std.proofs.lemmas.Iterator.Adapters.{option_map_id}
use Rattle.std.proofs.lemmas.Iterator.Search.{find_from_yields_List}
use Rattle.rules.specs.Rules.{spans}
use Rattle.rules.specs.way.Rows.{row_of}
use Rattle.rules.proofs.rows.row_for.Goals as goal

pub returns : goal.returns
returns c =
    rw (← c.whole_rows.ensures)
    (sym (option_map_id _)
    ∙ find_from_yields_List (λ r. spans r c.args.c) _ _ _ c.find.ensures.ran
    (YieldsList-from_map _ row_of (YieldsList-from_slice c.whole_rows.result.now cc) c.map.ensures.closure (λ x r q k. search rules))
    (λ x b q k. search (rules, tests)))
