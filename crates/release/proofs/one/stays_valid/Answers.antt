use Rattle.release.proofs.OneSteps.{stays-wrong, stays-no_page, stays-no_row, others-out, stays-told}
use Rattle.release.proofs.one.stays_valid.Goals as goal

pub returns-then-not-head_valid : goal.returns-then-not-head_valid
returns-then-not-head_valid c = search stays-wrong

pub overflow_sub-result : goal.overflow_sub-result
overflow_sub-result c = search others-out

pub returns-then-row_valid : goal.returns-then-row_valid
returns-then-row_valid c = search stays-told

pub returns-else-row_valid : goal.returns-else-row_valid
returns-else-row_valid c = search stays-no_row

pub returns-else-page_valid : goal.returns-else-page_valid
returns-else-page_valid c = search stays-no_page
