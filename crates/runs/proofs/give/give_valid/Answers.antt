use Rattle.std.proofs.Common.{rules}
use Rattle.runs.proofs.GiveSteps.{told-few, valid-give, short-give, invalid-give}
use Rattle.runs.proofs.give.give_valid.Goals as goal

pub holes_valid-requires : goal.holes_valid-requires
holes_valid-requires c = (search rules, search told-few)

pub returns-then-pages-get : goal.returns-then-pages-get
returns-then-pages-get c = search valid-give

pub returns-else-pages-get : goal.returns-else-pages-get
returns-else-pages-get c = search short-give

pub returns-else-record_valid : goal.returns-else-record_valid
returns-else-record_valid c = search invalid-give
