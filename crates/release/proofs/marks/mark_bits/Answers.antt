use Rattle.release.proofs.MarkBits.{bits-idle, bits-marked, bits-set}
use Rattle.release.proofs.marks.mark_bits.Goals as goal

pub returns-then-outs-mask : goal.returns-then-outs-mask
returns-then-outs-mask c = search bits-idle

pub returns-then-marks-mask-ne0 : goal.returns-then-marks-mask-ne0
returns-then-marks-mask-ne0 c =
    bits-marked _ _ _ _ _ _ c.set_ones-mask.ensures _ c.bits-outs.ensures c.if-outs-mask.false _ c.word-marks.ensures c.if-marks-mask-ne0.true

pub returns : goal.returns
returns c =
    bits-set _ _ _ _ _ _ c.set_ones-mask.ensures _ c.bits-outs.ensures c.if-outs-mask.false _ c.word-marks.ensures c.if-marks-mask-ne0.false _ c.set_ones.ensures _ c.set_word.ensures
