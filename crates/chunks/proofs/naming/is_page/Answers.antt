use Rattle.chunks.proofs.NameSteps.{page_test}
use Rattle.chunks.proofs.naming.is_page.Goals as goal

pub returns : goal.returns
returns c = search page_test
