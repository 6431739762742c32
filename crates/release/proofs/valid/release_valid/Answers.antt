use Rattle.release.proofs.ValidSteps.{wrong-head, destination-pre, destination-last, no_row, no-page}
use Rattle.release.proofs.valid.release_valid.Goals as goal

pub returns-then-not-head_valid : goal.returns-then-not-head_valid
returns-then-not-head_valid c = search wrong-head

pub destination_valid-requires : goal.destination_valid-requires
destination_valid-requires c =
    destination-pre _ _ _ _ _ c.requires _ _ c.page_valid.ensures c.if-page_valid.true c.row_valid.ensures c.if-row_valid.true

pub returns-then-row_valid : goal.returns-then-row_valid
returns-then-row_valid c = search destination-last

pub returns-else-row_valid : goal.returns-else-row_valid
returns-else-row_valid c = search no_row

pub returns-else-page_valid : goal.returns-else-page_valid
returns-else-page_valid c = search no-page
