-- What the heap's proofs ask of a shape: its runs have room for their blocks, and its numbers are in range.
use Rattle.std.specs.Prelude.{◌+◌, ◌*◌, ◌≤◌, ◌≡◌}
use Rattle.classes.specs.declared.Shape.{Shape}
use Rattle.classes.specs.Shape.{inverse}

pub record Sound (s : Shape) : Type 0 where
  pub named : 1 ≤ s.kind
  pub known : s.kind ≤ 2
  pub wide : 1 ≤ s.block
  pub led : 1 ≤ s.header
  pub paged : 1 ≤ s.pages
  pub short : s.pages ≤ 8
  pub blocks : 1 ≤ s.capacity
  pub few : s.capacity ≤ 4096
  pub gives : 1 ≤ s.batch
  pub limited : s.batch ≤ 64
  -- the header and all blocks lie within the run's pages, 4,096 granules each
  pub fits : s.header + s.capacity * s.block ≤ 4096 * s.pages
  -- a product with the inverse divides by a block's granules
  pub inverts : s.inverse ≡ inverse s.block
