use Rattle.facts.proofs.Prelude.{◌≡◌, sym, ◌∙◌, length, eqb-true, eqb-false}
use Rattle.chunks.proofs.CallSteps.{no-list, no_chunks, many-chunks, few-fates, wrong-blocks, wrong-chunks, listed-pre}
use Rattle.chunks.proofs.call.release_chunks.Goals as goal
use Rattle.chunks.proofs.call.release_chunks.Goals.{then-is_empty-via-then-is_empty, then-is_empty-via-else-is_empty+then-is_empty-2}
use Rattle.chunks.proofs.call.release_chunks.Goals.{then-chunks-gt-MAX_CHUNKS-via-then-chunks-gt-MAX_CHUNKS, then-chunks-gt-MAX_CHUNKS-via-else-chunks-gt-MAX_CHUNKS+then-fates-chunks}
use Rattle.chunks.proofs.call.release_chunks.Goals.{then-not-all_of_kind-via-then-not-all_of_kind, then-not-all_of_kind-via-else-not-all_of_kind+then-not-all_of_kind-2}

pub returns-then-is_empty : goal.returns-then-is_empty
returns-then-is_empty c =
    elim c.then-is_empty.branch [
      | then-is_empty-via-then-is_empty w ↦ no-list _ _ _ _ _ _ _ _ (eqb-true (length c.args.list.now) 0 (sym c.is_empty.ensures ∙ w.if-is_empty.true))
      | then-is_empty-via-else-is_empty+then-is_empty-2 w ↦
          no_chunks _ _ _ _ _ _ _ _
          (eqb-false (length c.args.list.now) 0 (sym c.is_empty.ensures ∙ w.if-is_empty.false))
          (eqb-true (length c.args.chunks.now) 0 (sym w.is_empty-else-is_empty.ensures ∙ w.if-is_empty-2.true))
    ]

pub returns-then-chunks-gt-MAX_CHUNKS : goal.returns-then-chunks-gt-MAX_CHUNKS
returns-then-chunks-gt-MAX_CHUNKS c =
    let x : length c.args.list.now ≡ 0 → ⊥ = eqb-false (length c.args.list.now) 0 (sym c.is_empty.ensures ∙ c.if-is_empty.false) in
    let y : length c.args.chunks.now ≡ 0 → ⊥ = eqb-false (length c.args.chunks.now) 0 (sym c.is_empty-else-is_empty.ensures ∙ c.if-is_empty-2.false) in
    elim c.then-chunks-gt-MAX_CHUNKS.branch [
      | then-chunks-gt-MAX_CHUNKS-via-then-chunks-gt-MAX_CHUNKS w ↦ many-chunks _ _ _ _ _ _ _ _ x y w.if-chunks-gt-MAX_CHUNKS.true
      | then-chunks-gt-MAX_CHUNKS-via-else-chunks-gt-MAX_CHUNKS+then-fates-chunks w ↦ few-fates _ _ _ _ _ _ _ _ x y w.if-chunks-gt-MAX_CHUNKS.false w.if-fates-chunks.true
    ]

pub returns-then-not-all_of_kind : goal.returns-then-not-all_of_kind
returns-then-not-all_of_kind c =
    let x : length c.args.list.now ≡ 0 → ⊥ = eqb-false (length c.args.list.now) 0 (sym c.is_empty.ensures ∙ c.if-is_empty.false) in
    let y : length c.args.chunks.now ≡ 0 → ⊥ = eqb-false (length c.args.chunks.now) 0 (sym c.is_empty-else-is_empty.ensures ∙ c.if-is_empty-2.false) in
    elim c.then-not-all_of_kind.branch [
      | then-not-all_of_kind-via-then-not-all_of_kind w ↦
          wrong-blocks _ _ _ _ _ _ _ _ x y c.if-chunks-gt-MAX_CHUNKS.false c.if-fates-chunks.false _ c.all_of_kind.ensures w.if-not-all_of_kind.true
      | then-not-all_of_kind-via-else-not-all_of_kind+then-not-all_of_kind-2 w ↦
          wrong-chunks _ _ _ _ _ _ _ _ x y c.if-chunks-gt-MAX_CHUNKS.false c.if-fates-chunks.false _ c.all_of_kind.ensures _ w.if-not-all_of_kind.false w.all_of_kind-else-not-all_of_kind.ensures w.if-not-all_of_kind-2.true
    ]

pub test_chunks-requires : goal.test_chunks-requires
test_chunks-requires c =
    let x : length c.args.list.now ≡ 0 → ⊥ = eqb-false (length c.args.list.now) 0 (sym c.is_empty.ensures ∙ c.if-is_empty.false) in
    let y : length c.args.chunks.now ≡ 0 → ⊥ = eqb-false (length c.args.chunks.now) 0 (sym c.is_empty-else-is_empty.ensures ∙ c.if-is_empty-2.false) in
    listed-pre _ _ _ _ 0 _ _ _ x y c.if-chunks-gt-MAX_CHUNKS.false c.if-fates-chunks.false _ c.all_of_kind.ensures _ c.if-not-all_of_kind.false c.all_of_kind-else-not-all_of_kind.ensures c.if-not-all_of_kind-2.false c.requires
