use Rattle.direct.proofs.CallSteps.{contains_strange, contains-off, contains-past, contains-is}
use Rattle.direct.proofs.calls.contains.Goals as goal
use Rattle.direct.proofs.calls.contains.Goals.{then-not-format_valid-via-then-not-format_valid, then-not-format_valid-via-else-not-format_valid+then-get-ne1}

pub returns-then-not-format_valid : goal.returns-then-not-format_valid
returns-then-not-format_valid c =
    elim c.then-not-format_valid.branch [
      | then-not-format_valid-via-then-not-format_valid w ↦ search contains_strange
      | then-not-format_valid-via-else-not-format_valid+then-get-ne1 w ↦ search contains-off
    ]

pub returns-then-offset-bytes : goal.returns-then-offset-bytes
returns-then-offset-bytes c = search contains-is

pub returns-else-offset-bytes : goal.returns-else-offset-bytes
returns-else-offset-bytes c = search contains-past
