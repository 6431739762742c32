use Rattle.stock.proofs.QuerySteps.{stock-invalid, stock-counted, stock_unmade}
use Rattle.stock.proofs.query.stocked.Goals as goal

pub returns-then-k-gt-COUNT_MAX : goal.returns-then-k-gt-COUNT_MAX
returns-then-k-gt-COUNT_MAX c = search stock-invalid

pub returns-then-format_valid : goal.returns-then-format_valid
returns-then-format_valid c = search stock-counted

pub returns-else-format_valid : goal.returns-else-format_valid
returns-else-format_valid c = search stock_unmade
