use Rattle.fields.proofs.Outcome.{put_at-some}
use Rattle.lists.proofs.links.set_prev_at.Goals as goal

pub returns-then-code-ne0 : goal.returns-then-code-ne0
returns-then-code-ne0 c = search put_at-some
