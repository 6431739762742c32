-- Every medium block size is positive and at most a page.
use Rattle.std.proofs.Common.{◌≡◌, ◌+◌, ◌-◌, ap, ◌∙◌, get_or}
use native.Mathlib.Omega.{arith}
use Rattle.classes.specs.Sizes.{medium_sizes}
use Rattle.classes.proofs.NearFit.{medium-bytes}
use Rattle.classes.proofs.Shapes.{some_bytes, most_bytes}
use Rattle.mediumlist.specs.Line.{line_of}
use Rattle.mediumlist.proofs.describe.Goals as goal

pub span_pages_for-requires : goal.span_pages_for-requires
span_pages_for-requires c = most_bytes _ _ c.block_bytes-bytes.ensures

pub medium_capacity_for-requires-clause-size_nonzero :
    goal.medium_capacity_for-requires-clause-size_nonzero
medium_capacity_for-requires-clause-size_nonzero c = omega (arith, some_bytes _ _ c.block_bytes-bytes.ensures)

pub medium_capacity_for-requires-clause-size_le_page_bytes :
    goal.medium_capacity_for-requires-clause-size_le_page_bytes
medium_capacity_for-requires-clause-size_le_page_bytes c = most_bytes _ _ c.block_bytes-bytes.ensures

pub returns : goal.returns
unfolding line_of
returns c =
    let k = c.args.class in
    let i : 64 + k - 64 ≡ k = omega arith in
    let e = c.block_bytes-bytes.ensures ∙ medium-bytes (64 + k) (omega arith) ∙ ap (λ z. get_or medium_sizes z 65472) i in
    rw (c.medium_capacity_for.ensures, c.span_pages_for.ensures, e)
