use Rattle.facts.proofs.Prelude.{◌∙◌}
use Rattle.classes.specs.Sizes.{small_sizes, medium_sizes}
use Rattle.classes.proofs.NearFit.{entry-bytes}
use Rattle.classes.proofs.sizes.block_bytes.Goals as goal

-- The constant arrays are the tables of `specs/`.
pub returns : goal.returns
unfolding small_sizes medium_sizes
returns c = c.from.ensures ∙ c.entry.ensures ∙ entry-bytes _
