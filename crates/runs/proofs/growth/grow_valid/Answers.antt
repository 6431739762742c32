use Rattle.std.proofs.Common.{rules}
use Rattle.runs.proofs.GiveSteps.{told-few, grow-holes, grow_record, grow-invalid}
use Rattle.runs.proofs.growth.grow_valid.Goals as goal

pub holes_valid-requires : goal.holes_valid-requires
holes_valid-requires c = (search rules, search told-few)

pub returns-then-grow_gives : goal.returns-then-grow_gives
returns-then-grow_gives c = search grow-holes

pub returns-then-record_valid : goal.returns-then-record_valid
returns-then-record_valid c = search grow_record

pub returns : goal.returns
returns c = search grow-invalid
