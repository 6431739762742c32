use Rattle.facts.proofs.Prelude.{ℕ, ◌+◌, ◌<◌, arith, List, ◌++◌, map, ◌≡◌, length, get_or, set, take, drop}
use Rattle.std.proofs.lemmas.List.{get_or_default}
use Rattle.std.proofs.lemmas.List.Edits.{map_over_more}
use Rattle.trace.specs.Words.{restore_kind}
use Rattle.trace.proofs.word_lists.restore_kinds.Goals as goal

one_more : (l to : List ℕ) (i v : ℕ) → i < length l → length to ≡ length l → to ≡ map restore_kind (take i l) ++ drop i l → v ≡ restore_kind (get_or to i 0)
    → set to i v ≡ map restore_kind (take (i + 1) l) ++ drop (i + 1) l
one_more l to i v h k e s =
    let x = get_or to i 0 in
    rw s (map_over_more restore_kind l to i x h e (get_or_default to i 0 x (omega arith)))

pub loop-w-preserved : goal.loop-w-preserved
loop-w-preserved c = let l = c.loop-w in one_more c.args.blocks.now l.blocks l.w-index c.restore_kind.result (omega arith) (omega arith) l.invariant c.restore_kind.ensures
