-- What a word that is out in the class tells.
use Rattle.facts.proofs.Prelude.{ℕ, ◌+◌, ◌≤◌, ◌<◌, arith, true, ◌&&◌, List, ◌≡◌, sym, ◌∙◌, eqb, ltb, leb, ltb-true, eqb-true, and_left, and_right}
use Rattle.words.specs.Word.{kind_of}
use Rattle.classes.specs.declared.Shape.{Shape}
use Rattle.classes.specs.way.Sound.{Sound}
use Rattle.fields.specs.Field.{arena, frontier, get}
use Rattle.model.specs.Release.{of_kind}
use Rattle.pages.specs.Runs.{whole}
use Rattle.pages.proofs.Runs.{whole_says}
use Rattle.pages.specs.Stack.{index_of, page_at, is_block}
use Rattle.calls.specs.Out.{start_of, in_run_of, out_in, out_at}
use Rattle.release.specs.way.Blocks.{bit_in}
use Rattle.release.proofs.Bits.{out_in_lem, below_capacity}

pub kind_of_lem : (k v : ℕ) → of_kind k v ≡ true → kind_of v ≡ k
unfolding of_kind
kind_of_lem k v h = eqb-true (kind_of v) k h

module _ (n c : ℕ) (sh : Shape) (s : Sound sh) (b : List ℕ) (w : ℕ) (o : out_at n b c sh w ≡ true) where
  pub run_of-out : in_run_of n b sh c w ≡ true
  unfolding out_at
  run_of-out = and_left (in_run_of n b sh c w) _ o

  pub in_of_out : out_in b sh (start_of b w) w ≡ true
  unfolding out_at
  in_of_out = and_right (in_run_of n b sh c w) _ o

  bit_of-out : (is_block sh (start_of b w) w && eqb (get b (bit_in sh (start_of b w) w)) 1) ≡ true
  bit_of-out = sym (out_in_lem b sh (start_of b w) w) ∙ in_of_out

  pub block_of-out : is_block sh (start_of b w) w ≡ true
  block_of-out = and_left (is_block sh (start_of b w) w) _ bit_of-out

  pub index_of-out : index_of sh (start_of b w) w < 4096
  index_of-out = omega (arith, below_capacity sh (start_of b w) w block_of-out, s.few)

  pub page_of-out : page_at w < n
  unfolding in_run_of
  page_of-out = ltb-true (page_at w) n (and_left _ _ run_of-out)

  pub whole_of-out : whole n b sh c (start_of b w) ≡ true
  unfolding in_run_of
  whole_of-out = and_right (ltb (page_at w) (start_of b w + sh.pages)) _ (and_right (leb (start_of b w) (page_at w)) _ (and_right (ltb (page_at w) (get b (arena frontier))) _ (and_right (ltb (page_at w) n) _ run_of-out)))

  pub run_within_out : start_of b w + sh.pages ≤ n
  run_within_out = (whole_says n b sh c (start_of b w) whole_of-out).inside

  pub start_of-out : start_of b w < n
  start_of-out = omega (arith, s.paged, run_within_out)
