use Rattle.facts.proofs.Prelude.{◌≡◌, ◌&&◌, every}
use Rattle.fields.specs.Ranges.{head_valid}
use Rattle.chunks.specs.way.ValidPre.{chunk_valid}
use Rattle.chunks.proofs.ValidSteps.{passes, gives-pre, gives-last, not-passed}
use Rattle.chunks.proofs.Chains.{and-then, and-else}
use Rattle.chunks.proofs.valid.chunks_valid.Goals as goal
use Rattle.chunks.proofs.valid.chunks_valid.Goals.{then-head_valid, else-head_valid, then-pages_valid, else-pages_valid}

pub gives_valid-requires : goal.gives_valid-requires
gives_valid-requires c =
    let one : c.if-head_valid.value ≡ (head_valid c.args.n c.args.meta.now && every (chunk_valid c.args.meta.now c.args.shape) c.args.chunks.now)
    = elim c.if-head_valid.branch [
      | then-head_valid w ↦ and-then _ _ _ _ _ c.head_valid.ensures w.if-head_valid.true w.value-is w.pages_valid.ensures
      | else-head_valid w ↦ and-else _ _ _ _ c.head_valid.ensures w.if-head_valid.false w.value-is
    ] in
    let two : c.if-pages_valid.value ≡ passes c.args.n c.args.meta.now c.args.c c.args.shape c.args.chunks.now
    = elim c.if-pages_valid.branch [
      | then-pages_valid w ↦ and-then _ _ _ _ _ one w.if-pages_valid.true w.value-is w.row_valid.ensures
      | else-pages_valid w ↦ and-else _ _ _ _ one w.if-pages_valid.false w.value-is
    ] in
    gives-pre _ _ _ _ _ _ two c.requires c.if-row_valid.true

pub returns-then-row_valid : goal.returns-then-row_valid
returns-then-row_valid c =
    let one : c.if-head_valid.value ≡ (head_valid c.args.n c.args.meta.now && every (chunk_valid c.args.meta.now c.args.shape) c.args.chunks.now)
    = elim c.if-head_valid.branch [
      | then-head_valid w ↦ and-then _ _ _ _ _ c.head_valid.ensures w.if-head_valid.true w.value-is w.pages_valid.ensures
      | else-head_valid w ↦ and-else _ _ _ _ c.head_valid.ensures w.if-head_valid.false w.value-is
    ] in
    let two : c.if-pages_valid.value ≡ passes c.args.n c.args.meta.now c.args.c c.args.shape c.args.chunks.now
    = elim c.if-pages_valid.branch [
      | then-pages_valid w ↦ and-then _ _ _ _ _ one w.if-pages_valid.true w.value-is w.row_valid.ensures
      | else-pages_valid w ↦ and-else _ _ _ _ one w.if-pages_valid.false w.value-is
    ] in
    gives-last _ _ _ _ _ _ two c.if-row_valid.true _ c.gives_valid.ensures

pub returns-else-row_valid : goal.returns-else-row_valid
returns-else-row_valid c =
    let one : c.if-head_valid.value ≡ (head_valid c.args.n c.args.meta.now && every (chunk_valid c.args.meta.now c.args.shape) c.args.chunks.now)
    = elim c.if-head_valid.branch [
      | then-head_valid w ↦ and-then _ _ _ _ _ c.head_valid.ensures w.if-head_valid.true w.value-is w.pages_valid.ensures
      | else-head_valid w ↦ and-else _ _ _ _ c.head_valid.ensures w.if-head_valid.false w.value-is
    ] in
    let two : c.if-pages_valid.value ≡ passes c.args.n c.args.meta.now c.args.c c.args.shape c.args.chunks.now
    = elim c.if-pages_valid.branch [
      | then-pages_valid w ↦ and-then _ _ _ _ _ one w.if-pages_valid.true w.value-is w.row_valid.ensures
      | else-pages_valid w ↦ and-else _ _ _ _ one w.if-pages_valid.false w.value-is
    ] in
    not-passed _ _ _ _ _ _ two c.if-row_valid.false
