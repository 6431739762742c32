use Rattle.chunks.proofs.PushRuns.{entry-page, entry-told}
use Rattle.chunks.proofs.push.on_page.Goals as goal

pub page_within-requires : goal.page_within-requires
page_within-requires c = search entry-page

pub returns : goal.returns
returns c = search entry-told
